-- Names that match in a spelling, and the numbers of names among signals.
use mathlib.Core.Path.{◌≡◌, refl, sym, ap}
use mathlib.Core.Bool.{Bool, true, false, not, ◌&&◌, cond}
use mathlib.Core.List.{List, [], ◌∷◌, ◌++◌}
use Prim.Native.Nat.{ℕ, zero, suc, ◌+◌, ◌≤◌, ◌<◌}
use native.Mathlib.Omega.{arith}
use native.Mathlib.Decide.{dec_lt, ℕ_discrete}
use lib.Bits.{bit_or}
use lib.Dec.{eqb, leb, leb→le}
use lib.ListN.{length, get_or, drop}
use borrow.Author.Tests.{eq-eqb, ne_eqb, eqb-true}
use Rattle.theory.specs.Bounded.{any}
use Rattle.theory.proofs.Bounded.{at-any}
use Rattle.theory.proofs.Tests.{and_right}
use Rattle.text.specs.declared.Spelling.{Spelling}
use Rattle.text.specs.declared.Spelling.TheVariants.{Exact}
use Rattle.text.specs.Fields.{lower, spelled, matches, same}
use Rattle.text.specs.Reading.{Signal, first_match, index_of}
use Rattle.text.specs.Lookup.{nobody}

-- ---- bytes

-- A byte and its small letter are the same once the bit of 32 is set, as is tried of all capital letters.
pub lower_bit : (x : ℕ) → bit_or (lower x) 32 ≡ bit_or x 32
unfolding any
lower_bit x = go (leb 65 x && leb x 90) refl
  where
    differs : ℕ → Bool
    differs x = (leb 65 x && leb x 90) && not (eqb (bit_or (x + 32) 32) (bit_or x 32))

    go : (b : Bool) → (leb 65 x && leb x 90) ≡ b → bit_or (cond b (x + 32) x) 32 ≡ bit_or x 32
    go true e = elim (ℕ_discrete (bit_or (x + 32) 32) (bit_or x 32)) [
      | yes q ↦ q
      | no d ↦ absurd (at-any 91 differs x (omega (arith, leb→le x 90 (and_right (leb 65 x) (leb x 90) (rw e tt)))) (rw (e, ne_eqb (bit_or (x + 32) 32) (bit_or x 32) d) tt))
    ]
    go false e = refl

-- ---- names that match

pub match_self : (c : Spelling) (s : List ℕ) → matches c s s ≡ true
unfolding matches
match_self c [] = refl
match_self c (x ∷ s) = rw (eq-eqb (spelled c x) (spelled c x) refl, match_self c s)

eqb_comm : (x y : ℕ) → eqb x y ≡ eqb y x
eqb_comm x y = elim (ℕ_discrete x y) [ yes e ↦ rw e | no d ↦ rw (ne_eqb x y d, ne_eqb y x (λ e. d (sym e))) ]

pub match_sym : (c : Spelling) (s t : List ℕ) → matches c s t ≡ matches c t s
unfolding matches
match_sym c [] [] = refl
match_sym c [] (y ∷ t) = refl
match_sym c (x ∷ s) [] = refl
match_sym c (x ∷ s) (y ∷ t) = rw (eqb_comm (spelled c x) (spelled c y), match_sym c s t)

pub same-eq : (s t : List ℕ) → same s t ≡ true → s ≡ t
unfolding matches
same-eq [] [] e = refl
same-eq [] (y ∷ t) e = cc
same-eq (x ∷ s) [] e = cc
same-eq (x ∷ s) (y ∷ t) e = go (eqb x y) refl (same-eq s t) e
  where
    go : (b : Bool) → eqb x y ≡ b → (same s t ≡ true → s ≡ t) → (b && same s t) ≡ true → x ∷ s ≡ y ∷ t
    go true f ih e = let p : x ≡ y = eqb-true x y f in let q : s ≡ t = ih e in cc
    go false f ih e = cc

pub same_not : (s t : List ℕ) → ¬ (s ≡ t) → same s t ≡ false
same_not s t n = go (same s t) refl
  where
    go : (b : Bool) → same s t ≡ b → b ≡ false
    go true e = absurd (n (same-eq s t e))
    go false e = refl

-- Equal names match in every spelling.
pub same-match : (c : Spelling) (s t : List ℕ) → same s t ≡ true → matches c s t ≡ true
same-match c s t e = rw (same-eq s t e) (match_self c t)

-- ---- the number of a name

pub index_le : (c : Spelling) (n : List ℕ) (l : List Signal) → first_match c n l ≤ length l
unfolding first_match
index_le c n [] = omega arith
index_le c n (s ∷ l) =
    elim (matches c s.name n) as (λ b. cond b 0 (suc (first_match c n l)) ≤ suc (length l)) [ true ↦ omega arith | false ↦ omega (arith, index_le c n l) ]

-- From a number on below which no name matches, it is found among the others.
pub index_from : (c : Spelling) (n : List ℕ) (l : List Signal) (i : ℕ) → i ≤ first_match c n l → i + first_match c n (drop i l) ≡ first_match c n l
unfolding first_match
index_from c n l zero h = omega arith
index_from c n [] (suc i) h = absurd (omega arith)
index_from c n (s ∷ l) (suc i) h = go (matches c s.name n) (index_from c n l i) h
  where
    go : (b : Bool) → (i ≤ first_match c n l → i + first_match c n (drop i l) ≡ first_match c n l) → suc i ≤ cond b 0 (suc (first_match c n l))
        → suc i + first_match c n (drop i l) ≡ cond b 0 (suc (first_match c n l))
    go true ih h = absurd (omega arith)
    go false ih h = omega (arith, ih (omega arith))

-- What comes behind does not change it.
pub index_append : (c : Spelling) (n : List ℕ) (l m : List Signal) → first_match c n l < length l → first_match c n (l ++ m) ≡ first_match c n l
unfolding first_match
index_append c n [] m h = absurd (omega arith)
index_append c n (s ∷ l) m h = go (matches c s.name n) (index_append c n l m) h
  where
    go : (b : Bool) → (first_match c n l < length l → first_match c n (l ++ m) ≡ first_match c n l) → cond b 0 (suc (first_match c n l)) < suc (length l)
        → cond b 0 (suc (first_match c n (l ++ m))) ≡ cond b 0 (suc (first_match c n l))
    go true ih h = refl
    go false ih h = ap suc (ih (omega arith))

-- A name put behind has the number that it had, or the next.
pub index_put : (s : Signal) (l : List Signal) → index_of s.name (l ++ s ∷ []) ≡ index_of s.name l
unfolding first_match
index_put s [] = rw (match_self Exact s.name)
index_put s (x ∷ l) = rw (index_put s l)

-- What comes behind never lowers it.
pub index_grows : (c : Spelling) (n : List ℕ) (l m : List Signal) → first_match c n l ≤ first_match c n (l ++ m)
unfolding first_match
index_grows c n [] m = omega arith
index_grows c n (s ∷ l) m = elim (matches c s.name n) as (λ b. cond b 0 (suc (first_match c n l)) ≤ cond b 0 (suc (first_match c n (l ++ m)))) [
  | true ↦ omega arith
  | false ↦ omega (arith, index_grows c n l m)
]

-- ---- the first match: none below it matches, and it does

pub match-below : (c : Spelling) (n : List ℕ) (l : List Signal) (a : ℕ) → a < first_match c n l → matches c (get_or l a nobody).name n ≡ false
unfolding first_match
match-below c n [] a h = absurd (omega arith)
match-below c n (s ∷ l) a h = go (matches c s.name n) refl a h (match-below c n l)
  where
    go : (b : Bool) → matches c s.name n ≡ b → (a : ℕ) → a < cond b 0 (suc (first_match c n l))
        → ((i : ℕ) → i < first_match c n l → matches c (get_or l i nobody).name n ≡ false) → matches c (get_or (s ∷ l) a nobody).name n ≡ false
    go true e a h rest = absurd (omega arith)
    go false e zero h rest = e
    go false e (suc a) h rest = rest a (omega arith)

pub match-at : (c : Spelling) (n : List ℕ) (l : List Signal) → first_match c n l < length l → matches c (get_or l (first_match c n l) nobody).name n ≡ true
unfolding first_match
match-at c n [] h = absurd (omega arith)
match-at c n (s ∷ l) h = go (matches c s.name n) refl h (match-at c n l)
  where
    go : (b : Bool) → matches c s.name n ≡ b → cond b 0 (suc (first_match c n l)) < suc (length l)
        → (first_match c n l < length l → matches c (get_or l (first_match c n l) nobody).name n ≡ true)
        → matches c (get_or (s ∷ l) (cond b 0 (suc (first_match c n l))) nobody).name n ≡ true
    go true e h rest = e
    go false e h rest = rest (omega arith)

-- No signal that matches is below it.
pub match-above : (c : Spelling) (n : List ℕ) (l : List Signal) (a : ℕ) → matches c (get_or l a nobody).name n ≡ true → first_match c n l ≤ a
match-above c n l a e = elim (dec_lt a (first_match c n l)) [
  | yes h ↦ absurd (let f = match-below c n l a h in let z : ◌≡◌ {A = ℕ} 0 1 = cc in omega arith)
  | no g ↦ omega arith
]
