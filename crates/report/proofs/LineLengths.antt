-- How long the lines are: 26 bytes at most for a refusal, 24 for a clash, 72 for the six.
use mathlib.Core.Path.{◌≡◌}
use mathlib.Core.Bool.{Bool, true, false, cond}
use mathlib.Core.List.{List, [], ◌∷◌}
use Prim.Native.Nat.{ℕ, ◌+◌, ◌≤◌}
use native.Mathlib.Omega.{arith}
use lib.ListN.{length, length-append}
use Rattle.text.specs.declared.Clash.{Clash}
use Rattle.text.specs.Writing.{decimal, tabbed, printed}
use Rattle.emit.specs.Buffer.{after, stored}
use Rattle.emit.proofs.Buffer.{Puts}
use Rattle.emit.proofs.Decimal.{decimal_most}
use Rattle.report.specs.Lines.{verdict_word, yes_word, none_word, pairs_word, kept_word, rounds_word, steps_word, ends_word, refused_word, refusal_text, clash_text, figures}

-- A field, a tab and more fields; a line, its LF and more lines.
tabbed-short : (f g : List ℕ) (fs : List (List ℕ)) (k n : ℕ) → length f ≤ k → length (tabbed (g ∷ fs)) ≤ n → length (tabbed (f ∷ g ∷ fs)) ≤ k + 1 + n
unfolding tabbed
tabbed-short f g fs k n h i = omega (arith, length-append f (9 ∷ tabbed (g ∷ fs)))

printed-short : (l : List (List ℕ)) (ls : List (List (List ℕ))) (k n : ℕ) → length (tabbed l) ≤ k → length (printed ls) ≤ n
    → length (printed (l ∷ ls)) ≤ k + 1 + n
unfolding printed
printed-short l ls k n h i = omega (arith, length-append (tabbed l) (10 ∷ printed ls))

-- A line of a word and a field of at most k bytes.
row-short : (w f : List ℕ) (ls : List (List (List ℕ))) (k n : ℕ) → length f ≤ k → length (printed ls) ≤ n
    → length (printed ((w ∷ f ∷ []) ∷ ls)) ≤ length w + k + 2 + n
unfolding tabbed
row-short w f ls k n h i = omega (arith, printed-short (w ∷ f ∷ []) ls (length w + 1 + k) n (tabbed-short w f [] (length w) k (omega arith) h) i)

none-short : length (printed []) ≤ 0
unfolding printed
none-short = omega arith

-- A line of a field of at most k bytes and three numbers.
four_short : (f : List ℕ) (a b c k : ℕ) → length f ≤ k → length (printed ((f ∷ decimal a ∷ decimal b ∷ decimal c ∷ []) ∷ [])) ≤ k + 19
unfolding tabbed
four_short f a b c k h =
    let row = f ∷ decimal a ∷ decimal b ∷ decimal c ∷ [] in
    let four = printed-short row [] (k + 1 + 17) 0 (tabbed-short f (decimal a) (decimal b ∷ decimal c ∷ []) k 17 h
    (tabbed-short (decimal a) (decimal b) (decimal c ∷ []) 5 11 (decimal_most a)
    (tabbed-short (decimal b) (decimal c) [] 5 5 (decimal_most b) (decimal_most c)))) none-short in
    omega (arith, four)

pub refusal-short : (file number line : ℕ) → length (refusal_text file number line) ≤ 26
unfolding refusal_text
refusal-short file number line = four_short refused_word file number line 7 (omega arith)

pub clash-short : (c : Clash) → length (clash_text c) ≤ 24
unfolding clash_text
clash-short c = four_short (decimal c.later.text) c.later.line c.first.text c.first.line 5 (decimal_most c.later.text)

module _ (compatible : Bool) (pairs kept rounds steps ends : ℕ) where
  verdict-short : length (cond compatible yes_word none_word) ≤ 4
  verdict-short = elim compatible as (λ b. length (cond b yes_word none_word) ≤ 4) [ true ↦ omega arith | false ↦ omega arith ]

  pub figures-short : length (figures compatible pairs kept rounds steps ends) ≤ 72
  unfolding figures
  figures-short =
      row-short verdict_word (cond compatible yes_word none_word) _ 4 59 verdict-short (row-short pairs_word (decimal pairs) _ 5 47 (decimal_most pairs)
      (row-short kept_word (decimal kept) _ 5 36 (decimal_most kept) (row-short rounds_word (decimal rounds) _ 5 23 (decimal_most rounds)
      (row-short steps_word (decimal steps) _ 5 11 (decimal_most steps) (row-short ends_word (decimal ends) [] 5 0 (decimal_most ends) none-short)))))

-- ---- where a call ends

pub within : (n at : ℕ) (s : List ℕ) → after n at s ≤ at + length s
unfolding after
within n at s = omega arith

module _ (d : List ℕ) (at r : ℕ) (b : List ℕ) where
  -- The line s was put into d, and ends within k bytes.
  abbrev Ended : List ℕ → ℕ → Type 0
  Ended s k = record { value : r ≡ after (length d) at s; out_after : b ≡ stored d at s; upper_bound : r ≤ at + k }

  ends : (s : List ℕ) (k : ℕ) → length s ≤ k → Puts d at s r b → Ended s k
  ends s k h p = record { value = p.value; out_after = p.d_after; upper_bound = omega (arith, p.value, within (length d) at s) }

  pub clash-ends : (c : Clash) → Puts d at (clash_text c) r b → Ended (clash_text c) 24
  clash-ends c = ends (clash_text c) 24 (clash-short c)

-- The line of a refusal is put at the front of the buffer.
pub refusal-ends : (d : List ℕ) (r : ℕ) (b : List ℕ) (file number line : ℕ) → Puts d 0 (refusal_text file number line) r b
    → record { value : r ≡ after (length d) 0 (refusal_text file number line); out_after : b ≡ stored d 0 (refusal_text file number line); upper_bound : r ≤ 26 }
refusal-ends d r b file number line p = ends d 0 r b (refusal_text file number line) 26 (refusal-short file number line) p
