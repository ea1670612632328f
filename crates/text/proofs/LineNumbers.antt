-- The numbers of lines, of refusals and of names, have five digits at most, so that their decimals are whole: a text has 65,536 bytes at most.
use mathlib.Core.Path.{◌≡◌, refl, subst}
use mathlib.Core.Bool.{Bool, true, false, cond}
use mathlib.Core.List.{List, [], ◌∷◌}
use Prim.Native.Nat.{ℕ, suc, ◌+◌, ◌<◌, ◌≤◌}
use native.Mathlib.Omega.{arith}
use lib.Dec.{eqb, ltb, nltb→le}
use lib.ListN.{length, take, length-take}
use Rattle.text.specs.declared.Spelling.{Spelling}
use Rattle.text.specs.declared.TextRefusal.{TextRefusal}
use Rattle.text.specs.Fields.{onto, split}
use Rattle.text.specs.Lines.{parse}
use Rattle.text.specs.Reading.{Signal, Reading, Change, next, stop, entered, Outcome, finished, ended, refuse_at, onward, is_nil, read_lines, fresh, read_from, read_alone, Joint, both, neither, after_first, after_second, read_both}
use Rattle.text.specs.Clashes.{line_of, declared_at}
use Rattle.text.proofs.Accepted.{read-both}
use Rattle.theory.specs.declared.Rule.TheVariants as rule

-- ---- the line of a refusal

refused_line : Outcome → ℕ
refused_line (finished st) = 0
refused_line (ended r) = r.line

joint_line : Joint → ℕ
joint_line (both x y) = 0
joint_line (neither r) = r.line

onto-length : (x : ℕ) (ls : List (List ℕ)) → length (onto x ls) ≤ length ls + 1
onto-length x [] = omega arith
onto-length x (l ∷ ls) = omega arith

split-length : (b : ℕ) (s : List ℕ) → length (split b s) ≤ length s + 1
unfolding split
split-length b [] = omega arith
split-length b (x ∷ s) = elim (eqb x b) as (λ v. length (cond v ([] ∷ split b s) (onto x (split b s))) ≤ length (x ∷ s) + 1) [
  | true ↦ omega (arith, split-length b s)
  | false ↦ omega (arith, split-length b s, onto-length x (split b s))
]

lines-line : (c : Spelling) (text k at : ℕ) (st : Reading) (ls : List (List ℕ)) → refused_line (read_lines c text k at st ls) ≤ k + length ls
unfolding read_lines refused_line
lines-line c text k at st [] = omega arith
lines-line c text k at st (l ∷ []) = elim (is_nil l) as (λ v. refused_line (cond v (finished st) (refuse_at rule.LineForm text k)) ≤ k + 1) [ true ↦ omega arith | false ↦ omega arith ]
lines-line c text k at st (l ∷ m ∷ ls) =
    go (entered c text at st (parse st.place l)) (λ st'. lines-line c text (suc k) (at + length l + 1) st' (m ∷ ls))
  where
    go : (r : Change) → ((st' : Reading) → refused_line (read_lines c text (suc k) (at + length l + 1) st' (m ∷ ls)) ≤ suc k + length (m ∷ ls))
        → refused_line (onward text k r (λ st. read_lines c text (suc k) (at + length l + 1) st (m ∷ ls))) ≤ k + length (l ∷ m ∷ ls)
    go (next st') rest = omega (arith, rest st')
    go (stop n) rest = omega arith

text-line : (c : Spelling) (l : List Signal) (text room : ℕ) (s : List ℕ) → refused_line (read_from c l text room s) < 100000
unfolding read_from refused_line
text-line c l text room s = go (ltb 65536 (length s)) refl (is_nil s)
  where
    go : (v : Bool) → ltb 65536 (length s) ≡ v → (w : Bool)
        → refused_line (cond v (refuse_at rule.TextLength text 0) (cond w (refuse_at rule.EmptyText text 0) (read_lines c text 1 0 (fresh l room) (split 10 s)))) < 100000
    go true e w = omega arith
    go false e true = omega arith
    go false e false = omega (arith, lines-line c text 1 0 (fresh l room) (split 10 s), split-length 10 s, nltb→le 65536 (length s) (rw e tt))

-- A text has 65,536 bytes at most, and so fewer lines than five digits count.
pub line_small : (c : Spelling) (room : ℕ) (m : List ℕ) (room' : ℕ) (p : List ℕ) (r : TextRefusal) → read_both c room m room' p ≡ neither r → r.line < 100000
unfolding read_both read_alone joint_line refused_line
line_small c room m room' p r e =
    let h : joint_line (read_both c room m room' p) < 100000 = first_then (read_from c [] 1 room m) (text-line c [] 1 room m) in
    subst (λ j. joint_line j < 100000) e h
  where
    second_then : (x : Reading) (o : Outcome) → refused_line o < 100000 → joint_line (after_second x o) < 100000
    second_then x (finished y) h = omega arith
    second_then x (ended r) h = h

    first_then : (o : Outcome) → refused_line o < 100000 → joint_line (after_first c room' p o) < 100000
    first_then (finished x) h = second_then x (read_from c x.signals 2 room' p) (text-line c x.signals 2 room' p)
    first_then (ended r) h = h

-- ---- the line of a name

-- A text that is taken is not too long.
read_short : (c : Spelling) (l : List Signal) (text room : ℕ) (s : List ℕ) (st : Reading) → read_from c l text room s ≡ finished st → length s ≤ 65536
unfolding read_from
read_short c l text room s st = go (ltb 65536 (length s)) refl _
  where
    go : (v : Bool) → ltb 65536 (length s) ≡ v → (o : Outcome) → cond v (refuse_at rule.TextLength text 0) o ≡ finished st → length s ≤ 65536
    go true e o f = absurd (let z : ◌≡◌ {A = ℕ} 0 1 = cc in omega arith)
    go false e o f = nltb→le 65536 (length s) (rw e tt)

line_of_small : (s : List ℕ) (from : ℕ) → length s ≤ 65536 → line_of s from < 100000
unfolding line_of
line_of_small s from h = omega (arith, split-length 10 (take from s), length-take from s)

-- Where a signal of two texts that are taken is said to be declared.
pub declared-small : (c : Spelling) (room : ℕ) (m : List ℕ) (room' : ℕ) (p : List ℕ) (x y : Reading) → read_both c room m room' p ≡ both x y
    → (s : Signal) → (declared_at m p s).line < 100000
declared-small c room m room' p x y e s =
    let (f, g) = read-both c room m room' p x y e in
    elim (eqb s.text 2) as (λ v. line_of (cond v p m) s.from < 100000) [
      | true ↦ line_of_small p s.from (read_short c x.signals 2 room' p y g)
      | false ↦ line_of_small m s.from (read_short c [] 1 room m x f)
    ]
