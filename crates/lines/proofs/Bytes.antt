-- Laws of finding and comparing bytes.
use mathlib.Core.Path.{◌≡◌, refl, sym, ap, ◌∙◌}
use mathlib.Core.Bool.{Bool, true, false, ◌&&◌, ◌||◌, cond}
use mathlib.Core.List.{List, [], ◌∷◌}
use Prim.Native.Nat.{ℕ, zero, suc, ◌+◌, ◌-◌, ◌≤◌, ◌<◌}
use native.Mathlib.Numerals.{add-one}
use native.Mathlib.Decide.{dec_lt}
use native.Mathlib.Omega.{arith}
use lib.Bits.{bit_or}
use lib.Dec.{eqb, ltb}
use lib.ListN.{length, take, drop, get_or, length-drop, drop_of_length-le}
use lib.Seq.{drop-cons, take_all}
use borrow.Author.Tests.{eq-eqb, ne_eqb, lt-ltb, ltb-true}
use Rattle.std.specs.Prelude.{Option, Some, None}
use Rattle.std.specs.List.{position, position_or_len, list_any}
use Rattle.std.specs.Cmp.Lexicographic.{pointwise}
use Rattle.std.proofs.lemmas.List.Recursion.{is_position_or_len}
use Rattle.std.proofs.lemmas.Option.{cond_some, none-some}
use Rattle.std.proofs.lemmas.Bool.{false≢true}
use Rattle.text.specs.declared.Spelling.{Spelling}
use Rattle.text.specs.declared.Spelling.TheVariants.{Exact, Folded}
use Rattle.text.specs.Fields.{upto, spelled, matches, same}
use Rattle.text.proofs.Names.{lower_bit}
use Rattle.lines.specs.CaseBit.{case_bit}

-- What is left at i is the byte there and what is left after it.
pub drop-step : (s : List ℕ) (i : ℕ) → i < length s → drop i s ≡ get_or s i 0 ∷ drop (i + 1) s
drop-step s i h = rw (add-one i, drop-cons s i 0 h)

-- The part of s from the byte `at` on, as `&s[at..]` is cut.
abbrev pub beyond : List ℕ → ℕ → List ℕ
beyond s at = take (length s - at) (drop at s)

pub beyond-is : (s : List ℕ) (at : ℕ) → beyond s at ≡ drop at s
beyond-is s at = take_all (length s - at) (drop at s) (omega (arith, length-drop at s))

-- ---- the first byte b

upto_is : (b : ℕ) (s : List ℕ) → upto b s ≡ position_or_len (λ x. eqb x b) s
unfolding upto
upto_is b s =
    is_position_or_len (upto b) (λ x. eqb x b) refl (λ x t. let e : suc (upto b t) ≡ 1 + upto b t = omega arith in ap (cond (eqb x b) 0) e) s

module _ (b : ℕ) (s : List ℕ) (r : Option ℕ) (f : r ≡ position (λ x. eqb x b) s) where
  pub found : (i : ℕ) → r ≡ Some i → (i ≡ upto b s) × (i < length s)
  found i e =
      let c = cond_some (ltb (position_or_len (λ x. eqb x b) s) (length s)) (position_or_len (λ x. eqb x b) s) i (sym f ∙ e) in
      let h = ltb-true (position_or_len (λ x. eqb x b) s) (length s) c.0 in
      (omega (arith, upto_is b s, c.1), omega (arith, h, c.1))

  pub not_found : r ≡ None → length s ≤ upto b s
  not_found e = elim (dec_lt (upto b s) (length s)) [
    | yes h ↦ absurd (none-some (upto b s) (sym e ∙ f ∙ rw (← upto_is b s, lt-ltb (upto b s) (length s) h)))
    | no h ↦ omega arith
  ]

pub contains_some : (b : ℕ) (s : List ℕ) → true ≡ list_any (λ x. eqb x b) s → upto b s < length s
unfolding upto
contains_some b [] e = absurd (false≢true (sym e))
contains_some b (x ∷ s) e = go (eqb x b) (contains_some b s) e
  where
    go : (c : Bool) → (true ≡ list_any (λ x. eqb x b) s → upto b s < length s) → true ≡ (c || list_any (λ x. eqb x b) s)
        → cond c 0 (suc (upto b s)) < suc (length s)
    go true h e = omega arith
    go false h e = omega (arith, h e)

pub contains_none : (b : ℕ) (s : List ℕ) → false ≡ list_any (λ x. eqb x b) s → length s ≤ upto b s
unfolding upto
contains_none b [] e = omega arith
contains_none b (x ∷ s) e = go (eqb x b) (contains_none b s) e
  where
    go : (c : Bool) → (false ≡ list_any (λ x. eqb x b) s → length s ≤ upto b s) → false ≡ (c || list_any (λ x. eqb x b) s)
        → suc (length s) ≤ cond c 0 (suc (upto b s))
    go true h e = absurd (false≢true e)
    go false h e = omega (arith, h e)

-- ---- agree

module _ (c : Spelling) (x y : ℕ) where
  -- Bytes that are the same in a spelling differ in the bit at most.
  same_but_bit : spelled c x ≡ spelled c y → bit_or x (case_bit c) ≡ bit_or y (case_bit c)
  same_but_bit = go c
    where
      go : (c : Spelling) → spelled c x ≡ spelled c y → bit_or x (case_bit c) ≡ bit_or y (case_bit c)
      go Exact e = ap (λ z. bit_or z 0) e
      go Folded e = sym (lower_bit x) ∙ ap (λ z. bit_or z 32) e ∙ lower_bit y

  pub agree_not : (b : ℕ) → b ≡ case_bit c → (bit_or x b ≡ bit_or y b → ⊥) → eqb (bit_or x b) (bit_or y b) ≡ eqb (spelled c x) (spelled c y)
  agree_not b e d = ne_eqb (bit_or x b) (bit_or y b) d ∙ sym (ne_eqb (spelled c x) (spelled c y) (λ q. d (rw e (same_but_bit q))))

-- ---- equality

pub same_pointwise : (s t : List ℕ) → same s t ≡ pointwise eqb s t
unfolding matches
same_pointwise [] [] = refl
same_pointwise [] (y ∷ t) = refl
same_pointwise (x ∷ s) [] = refl
same_pointwise (x ∷ s) (y ∷ t) = ap (λ b. eqb x y && b) (same_pointwise s t)

-- ---- matches

module _ (c : Spelling) where
  -- Lists of different lengths do not match.
  pub match-unlike : (s t : List ℕ) → (length s ≡ length t → ⊥) → false ≡ matches c s t
  unfolding matches
  match-unlike [] [] n = absurd (n refl)
  match-unlike [] (y ∷ t) n = refl
  match-unlike (x ∷ s) [] n = refl
  match-unlike (x ∷ s) (y ∷ t) n = go (eqb (spelled c x) (spelled c y)) (match-unlike s t (λ e. n (ap suc e)))
    where
      go : (b : Bool) → false ≡ matches c s t → false ≡ (b && matches c s t)
      go true e = e
      go false e = refl

  -- Lists that differ at a byte do not match.
  match_differ_at : (s t : List ℕ) (i : ℕ) → i < length s → i < length t → (spelled c (get_or s i 0) ≡ spelled c (get_or t i 0) → ⊥) → false ≡ matches c s t
  unfolding matches
  match_differ_at (x ∷ s) (y ∷ t) zero h k d = rw (ne_eqb (spelled c x) (spelled c y) d)
  match_differ_at (x ∷ s) (y ∷ t) (suc i) h k d = go (eqb (spelled c x) (spelled c y)) (match_differ_at s t i (omega arith) (omega arith) d)
    where
      go : (b : Bool) → false ≡ matches c s t → false ≡ (b && matches c s t)
      go true e = e
      go false e = refl
  match_differ_at [] t i h k d = absurd (omega arith)
  match_differ_at (x ∷ s) [] i h k d = absurd (omega arith)

  pub match_differ : (s t : List ℕ) (i : ℕ) → i < length s → i < length t → (r : Bool) → r ≡ eqb (spelled c (get_or s i 0)) (spelled c (get_or t i 0))
      → r ≡ false → false ≡ matches c s t
  match_differ s t i h k r f d = match_differ_at s t i h k (λ e. false≢true (sym d ∙ f ∙ eq-eqb _ _ e))

  -- Two lists match from the byte i on: at their end, one byte earlier.
  module _ (s t : List ℕ) (i : ℕ) where
    pub match-end : length s ≤ i → length t ≤ i → matches c (drop i s) (drop i t) ≡ true
    unfolding matches
    match-end h k = rw (drop_of_length-le s {i = i} h, drop_of_length-le t {i = i} k)

    pub match-more : 0 < i → i ≤ length s → i ≤ length t → matches c (drop i s) (drop i t) ≡ true
        → (r : Bool) → r ≡ eqb (spelled c (get_or s (i - 1) 0)) (spelled c (get_or t (i - 1) 0)) → r ≡ true
        → matches c (drop (i - 1) s) (drop (i - 1) t) ≡ true
    unfolding matches
    match-more p h k e r f d =
        let z : i - 1 + 1 ≡ i = omega arith in
        rw (drop-step s (i - 1) (omega arith), drop-step t (i - 1) (omega arith), ← f, d, z) e
