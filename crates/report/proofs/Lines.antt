-- The lines of the report, put one after the other.
use mathlib.Core.Path.{◌≡◌, sym}
use mathlib.Core.Bool.{Bool, true, false}
use mathlib.Core.List.{List, [], ◌∷◌, ◌++◌, append_assoc}
use Prim.Native.Nat.{ℕ}
use lib.ListN.{length}
use Rattle.text.specs.declared.Clash.{Clash}
use Rattle.text.specs.Writing.{decimal, tabbed, printed}
use Rattle.emit.specs.Buffer.{stored, after}
use Rattle.emit.proofs.Buffer.{Puts, puts_then}
use Rattle.emit.proofs.Rows.{line-two, line_four}
use Rattle.report.specs.Lines.{verdict_word, yes_word, none_word, pairs_word, kept_word, rounds_word, steps_word, ends_word, refused_word, refusal_text, clash_text, figures, verdict_text, figure_text}

-- A text was put into the buffer `out` at a place, said by the names of the report's contracts: the place after it is r, and the buffer is then b.
abbrev pub Prints : List ℕ → ℕ → List ℕ → ℕ → List ℕ → Type 0
Prints out at s r b = record { value : r ≡ after (length out) at s; out_after : b ≡ stored out at s }

module _ (out : List ℕ) (at : ℕ) (s : List ℕ) (r : ℕ) (b : List ℕ) where
  pub prints : Puts out at s r b → Prints out at s r b
  prints p = record { value = p.value; out_after = p.d_after }

  pub puts : Prints out at s r b → Puts out at s r b
  puts p = record { value = p.value; d_after = p.out_after }

pub refusal_put : (d : List ℕ) (at file number line : ℕ) (r₁ r₂ r₃ r₄ : ℕ) (b₁ b₂ b₃ b₄ : List ℕ)
    → Puts d at (refused_word ++ 9 ∷ []) r₁ b₁ → Puts b₁ r₁ (decimal file ++ 9 ∷ []) r₂ b₂ → Puts b₂ r₂ (decimal number ++ 9 ∷ []) r₃ b₃
    → Puts b₃ r₃ (decimal line ++ 10 ∷ []) r₄ b₄ → Puts d at (refusal_text file number line) r₄ b₄
unfolding refusal_text
refusal_put d at file number line r₁ r₂ r₃ r₄ b₁ b₂ b₃ b₄ p q v w =
    line_four d at refused_word (decimal file) (decimal number) (decimal line) r₁ r₂ r₃ r₄ b₁ b₂ b₃ b₄ p q v w

pub clash_put : (d : List ℕ) (at : ℕ) (c : Clash) (r₁ r₂ r₃ r₄ : ℕ) (b₁ b₂ b₃ b₄ : List ℕ)
    → Puts d at (decimal c.later.text ++ 9 ∷ []) r₁ b₁ → Puts b₁ r₁ (decimal c.later.line ++ 9 ∷ []) r₂ b₂
    → Puts b₂ r₂ (decimal c.first.text ++ 9 ∷ []) r₃ b₃ → Puts b₃ r₃ (decimal c.first.line ++ 10 ∷ []) r₄ b₄ → Puts d at (clash_text c) r₄ b₄
unfolding clash_text
clash_put d at c r₁ r₂ r₃ r₄ b₁ b₂ b₃ b₄ p q v w = line_four d at _ _ _ _ r₁ r₂ r₃ r₄ b₁ b₂ b₃ b₄ p q v w

module _ (d : List ℕ) (compatible : Bool) (r r' : ℕ) (b b' : List ℕ) where
  pub verdict-yes : compatible ≡ true → Puts d 0 (verdict_word ++ 9 ∷ []) r b → Puts b r (yes_word ++ 10 ∷ []) r' b' → Prints d 0 (verdict_text compatible) r' b'
  verdict-yes e p q = rw e (prints d 0 _ r' b' (line-two d 0 verdict_word yes_word r r' b b' p q))

  pub verdict-none : compatible ≡ false → Puts d 0 (verdict_word ++ 9 ∷ []) r b → Puts b r (none_word ++ 10 ∷ []) r' b' → Prints d 0 (verdict_text compatible) r' b'
  verdict-none e p q = rw e (prints d 0 _ r' b' (line-two d 0 verdict_word none_word r r' b b' p q))

pub figure_put : (d : List ℕ) (at : ℕ) (word : List ℕ) (n r r' : ℕ) (b b' : List ℕ)
    → Puts d at (word ++ 9 ∷ []) r b → Puts b r (decimal n ++ 10 ∷ []) r' b' → Prints d at (figure_text word n) r' b'
figure_put d at word n r r' b b' p q = prints d at _ r' b' (line-two d at word (decimal n) r r' b b' p q)

-- A line, then others.
printed_cons : (l m : List (List ℕ)) (ls : List (List (List ℕ))) → printed (l ∷ m ∷ ls) ≡ printed (l ∷ []) ++ printed (m ∷ ls)
unfolding printed
printed_cons l m ls = sym (append_assoc (tabbed l) (10 ∷ []) (printed (m ∷ ls)))

line_then : (d : List ℕ) (at : ℕ) (l m : List (List ℕ)) (ls : List (List (List ℕ))) (r r' : ℕ) (b b' : List ℕ)
    → Prints d at (printed (l ∷ [])) r b → Prints b r (printed (m ∷ ls)) r' b' → Prints d at (printed (l ∷ m ∷ ls)) r' b'
line_then d at l m ls r r' b b' p q =
    rw (printed_cons l m ls) (prints d at _ r' b' (puts_then d at (printed (l ∷ [])) (printed (m ∷ ls)) r r' b b' (puts d at _ r b p) (puts b r _ r' b' q)))

pub figures_put : (d : List ℕ) (compatible : Bool) (pairs kept rounds steps ends r₁ r₂ r₃ r₄ r₅ r₆ : ℕ) (b₁ b₂ b₃ b₄ b₅ b₆ : List ℕ)
    → Prints d 0 (verdict_text compatible) r₁ b₁ → Prints b₁ r₁ (figure_text pairs_word pairs) r₂ b₂ → Prints b₂ r₂ (figure_text kept_word kept) r₃ b₃
    → Prints b₃ r₃ (figure_text rounds_word rounds) r₄ b₄ → Prints b₄ r₄ (figure_text steps_word steps) r₅ b₅ → Prints b₅ r₅ (figure_text ends_word ends) r₆ b₆
    → Prints d 0 (figures compatible pairs kept rounds steps ends) r₆ b₆
unfolding figures
figures_put d compatible pairs kept rounds steps ends r₁ r₂ r₃ r₄ r₅ r₆ b₁ b₂ b₃ b₄ b₅ b₆ p₁ p₂ p₃ p₄ p₅ p₆ =
    line_then d 0 _ _ _ r₁ r₆ b₁ b₆ p₁ (line_then b₁ r₁ _ _ _ r₂ r₆ b₂ b₆ p₂ (line_then b₂ r₂ _ _ _ r₃ r₆ b₃ b₆ p₃
    (line_then b₃ r₃ _ _ _ r₄ r₆ b₄ b₆ p₄ (line_then b₄ r₄ _ _ _ r₅ r₆ b₅ b₆ p₅ p₆))))
