-- The line of a text that stands from one byte to another, and the lines of a text one after the other.
use mathlib.Core.Path.{◌≡◌, sym, ◌∙◌}
use mathlib.Core.List.{List, [], ◌∷◌}
use Prim.Native.Nat.{ℕ, zero, suc, ◌+◌, ◌-◌, ◌<◌, ◌≤◌}
use native.Mathlib.Numerals.{add-one}
use native.Mathlib.Omega.{arith}
use lib.ListN.{length, take, drop}
use lib.Seq.{drop-cons, drop-drop, take-nil}
use Rattle.text.specs.declared.Spelling.{Spelling}
use Rattle.text.specs.Fields.{upto, split}
use Rattle.text.specs.Lines.{parse}
use Rattle.text.specs.Reading.{Reading, Outcome, finished, refuse_at, onward, entered, read_lines}
use Rattle.text.proofs.Split.{part-last, part_cut, part_length, part_end, split-some}
use Rattle.theory.specs.declared.Rule.TheVariants as rule

-- ---- parts of a part

drop-take : (k e : ℕ) (l : List ℕ) → drop k (take e l) ≡ take (e - k) (drop k l)
drop-take zero e l = rw (let z : e - 0 ≡ e = omega arith in z)
drop-take (suc k) zero l = rw (let z : 0 - suc k ≡ 0 = omega arith in z)
drop-take (suc k) (suc e) [] = sym (take-nil (suc e - suc k))
drop-take (suc k) (suc e) (x ∷ l) = drop-take k e l ∙ rw (let z : suc e - suc k ≡ e - k = omega arith in z)

-- What follows k bytes of a part of e bytes.
pub part-rest : (bytes : List ℕ) (at e k : ℕ) → drop k (take e (drop at bytes)) ≡ take (e - k) (drop (at + k) bytes)
part-rest bytes at e k = drop-take k e (drop at bytes) ∙ rw (drop-drop k at bytes)

-- ---- the lines from the k-th on, which begins at the byte `at` and is e bytes long

module _ (c : Spelling) (text k : ℕ) (R : Reading) (bytes : List ℕ) (at : ℕ) where
  abbrev rest : Outcome
  rest = read_lines c text k at R (split 10 (drop at bytes))

  pub lines-done : length bytes ≤ at → rest ≡ finished R
  unfolding read_lines
  lines-done h = rw (part_end 10 bytes at h)

  module _ (e : ℕ) (f : e ≡ upto 10 (drop at bytes)) where
    pub lines-unended : at < length bytes → length bytes ≤ at + e → rest ≡ refuse_at rule.LineForm text k
    unfolding read_lines
    lines-unended h g = rw (part-last 10 bytes at e f g, drop-cons bytes at 0 h)

    pub lines-onward : at + e < length bytes
        → rest ≡ onward text k (entered c text at R (parse R.place (take e (drop at bytes)))) (λ st. read_lines c text (k + 1) (at + e + 1) st (split 10 (drop (at + e + 1) bytes)))
    unfolding read_lines
    lines-onward g =
        let s = split-some 10 (drop (at + e + 1) bytes) in
        rw (part_cut 10 bytes at e f g, s.2, part_length 10 bytes at e f, add-one k)
