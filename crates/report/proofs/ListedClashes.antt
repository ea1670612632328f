-- The lines of clashes, one after the other; and what is listed, by what was read.
use mathlib.Core.Path.{◌≡◌, refl, ap}
use mathlib.Core.List.{List, [], ◌∷◌, ◌++◌, map, map-append}
use Prim.Native.Nat.{ℕ, ◌+◌, ◌-◌, ◌≤◌, ◌<◌}
use native.Mathlib.Numerals.{add-one}
use native.Mathlib.Omega.{arith}
use lib.Dec.{ltb}
use lib.ListN.{length, take, get_or, replicate, length-map, length-append, length-replicate}
use lib.Seq.{take-suc, take-append_seam}
use Rattle.std.specs.Prelude.{Ok, Err}
use Rattle.text.specs.declared.Clash.{Clash}
use Rattle.text.specs.declared.TextRefusal.{TextRefusal}
use Rattle.text.specs.declared.Spelling.TheVariants.{Exact}
use Rattle.text.specs.Reading.{Reading, Joint, both, neither, read_both}
use Rattle.text.specs.Writing.{printed, those}
use Rattle.text.specs.Clashes.{first_alike, clashing, clash_at, clashes_of}
use Rattle.text.proofs.Accepted.{accepted-both}
use Rattle.text.proofs.Ascending.{those-few}
use Rattle.text.proofs.Written.{printed-append}
use Rattle.emit.specs.Buffer.{after, stored}
use Rattle.emit.proofs.Buffer.{Puts, puts_none, puts_then}
use Rattle.report.specs.Lines.{refusal_text, clash_row, clash_text}
use Rattle.reader.specs.declared.ClashList.{ClashList}
use Rattle.reader.specs.Clashes.{unused, in_rows, listing}
use Rattle.report.specs.Listing.{clash_lines, listed, listing_text, lines_of, Listed}
use Rattle.theory.specs.Rules.{rule_number}

-- ---- lines

pub lines_none : (rows : List Clash) (d : List ℕ) → Puts d 0 (clash_lines (take 0 rows)) 0 d
unfolding clash_lines printed
lines_none rows d = puts_none d 0

pub lines_next : (rows : List Clash) (i : ℕ) → i < length rows → (d : List ℕ) (at : ℕ) (b : List ℕ) → Puts d 0 (clash_lines (take i rows)) at b
    → (x e : Clash) → x ≡ get_or rows i e → (r : ℕ) (b' : List ℕ) → Puts b at (clash_text x) r b' → Puts d 0 (clash_lines (take (i + 1) rows)) r b'
unfolding clash_lines clash_text
lines_next rows i h d at b p x e f r b' q =
    let more : printed (map clash_row (take (i + 1) rows)) ≡ printed (map clash_row (take i rows)) ++ printed (clash_row x ∷ []) =
    rw (add-one i, take-suc rows i e h, ← f, map-append clash_row (take i rows) (x ∷ [])) (printed-append (map clash_row (take i rows)) (clash_row x ∷ [])) in
    rw more (puts_then d 0 _ _ at r b b' p q)

-- ---- what is listed, by the reply of the reader

clashes-few : (m p : List ℕ) (cm cp : ℕ) (x y : Reading) → read_both Exact cm m cp p ≡ both x y → length (clashes_of m p y.signals) ≤ 32
unfolding clashes_of clashing
clashes-few m p cm cp x y e =
    let l = y.signals in
    omega (
      arith,
      length-map (those (λ a. ltb (first_alike l a) a) 0 (length l)) (clash_at m p l),
      those-few (λ a. ltb (first_alike l a) a) 0 (length l),
      (accepted-both Exact cm m cp p x y e).second.few_signals,
    )

module _ (m p : List ℕ) (cm cp : ℕ) where
  pub refusal-listed : (r : TextRefusal) → Err r ≡ listing m p (read_both Exact cm m cp p) → refusal_text r.text (rule_number r.rule) r.line ≡ listing_text m p cm cp
  unfolding listing_text
  refusal-listed r = go (read_both Exact cm m cp p)
    where
      go : (j : Joint) → Err r ≡ listing m p j → refusal_text r.text (rule_number r.rule) r.line ≡ listed m p j
      go (both x y) e = absurd (cc)
      go (neither t) e = let z : r ≡ t = cc in rw z

  -- A reply with clashes has them in its rows.
  rows-listed : (c : ClashList) → Ok c ≡ listing m p (read_both Exact cm m cp p) → Listed c × (lines_of c ≡ listing_text m p cm cp)
  unfolding listing_text
  rows-listed c = go (read_both Exact cm m cp p) refl
    where
      go : (j : Joint) → read_both Exact cm m cp p ≡ j → Ok c ≡ listing m p j → Listed c × (lines_of c ≡ listed m p j)
      go (both x y) f e =
          let l = clashes_of m p y.signals in
          let few = clashes-few m p cm cp x y f in
          let z : c ≡ in_rows l = cc in
          rw z (
            record { few = few; size = omega (arith, length-append l (replicate (32 - length l) unused), length-replicate {A = Clash} (32 - length l) unused) },
            ap clash_lines (take-append_seam l (replicate (32 - length l) unused)),
          )
      go (neither t) f e = absurd (cc)

  pub listed-lines : (c : ClashList) → Ok c ≡ listing m p (read_both Exact cm m cp p) → lines_of c ≡ listing_text m p cm cp
  listed-lines c e = (rows-listed c e).1

-- A text that was put, under another name.
pub put_as : (d s t : List ℕ) → s ≡ t → (k : ℕ) (r : ℕ) (b : List ℕ) → record { value : r ≡ after (length d) 0 s; out_after : b ≡ stored d 0 s; upper_bound : r ≤ k } → k ≤ 768
    → record { value : r ≡ after (length d) 0 t; out_after : b ≡ stored d 0 t; upper_bound : r ≤ 768 }
put_as d s t e k r b p h = record { value = rw (← e) p.value; out_after = rw (← e) p.out_after; upper_bound = omega (arith, p.upper_bound) }
