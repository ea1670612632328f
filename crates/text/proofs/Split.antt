-- Laws of `upto` and `split`: by tabs the fields of a line, by LFs the lines of a text.
use mathlib.Core.Path.{◌≡◌, refl, sym, ap, ◌∙◌}
use mathlib.Core.Bool.{Bool, true, false, ◌&&◌, cond}
use mathlib.Core.List.{List, [], ◌∷◌, ◌++◌}
use Prim.Native.Nat.{ℕ, suc, ◌+◌, ◌≤◌, ◌<◌}
use native.Mathlib.Numerals.{add-one}
use native.Mathlib.Omega.{arith}
use native.Mathlib.Decide.{dec_lt}
use lib.Dec.{eqb}
use lib.ListN.{length, take, drop, length-drop, drop_of_length-le}
use lib.Seq.{drop-drop, length-take-le}
use borrow.Author.Tests.{eq-eqb, eqb-true}
use Rattle.text.specs.Fields.{onto, split, upto, all}

-- ---- where a byte first stands

pub upto_le : (b : ℕ) (s : List ℕ) → upto b s ≤ length s
unfolding upto
upto_le b [] = omega arith
upto_le b (x ∷ s) = go (eqb x b) (upto_le b s)
  where
    go : (t : Bool) → upto b s ≤ length s → cond t 0 (suc (upto b s)) ≤ suc (length s)
    go true h = omega arith
    go false h = omega arith

-- ---- lists without b

abbrev pub Free : ℕ → List ℕ → Type 0
Free b s = upto b s ≡ length s

pub free_cons : (b x : ℕ) (s : List ℕ) → eqb x b ≡ false → Free b s → Free b (x ∷ s)
unfolding upto
free_cons b x s e h = simp (e, h)

pub free-append : (b : ℕ) (s t : List ℕ) → Free b s → Free b t → Free b (s ++ t)
unfolding upto
free-append b [] t h k = k
free-append b (x ∷ s) t h k = go (eqb x b) (free-append b s t) h
  where
    go : (c : Bool) → (Free b s → Free b t → Free b (s ++ t)) → cond c 0 (suc (upto b s)) ≡ suc (length s)
        → cond c 0 (suc (upto b (s ++ t))) ≡ suc (length (s ++ t))
    go true ih h = absurd (omega arith)
    go false ih h = ap suc (ih (omega arith) k)

-- A list whose bytes all pass a test that b fails.
pub free_all : (test : ℕ → Bool) (b : ℕ) (s : List ℕ) → test b ≡ false → all test s ≡ true → Free b s
unfolding all upto
free_all test b [] f h = refl
free_all test b (x ∷ s) f h = go (test x) refl (free_all test b s f) h
  where
    other : test x ≡ true → (c : Bool) → eqb x b ≡ c → c ≡ false
    other e true g =
        let q : x ≡ b = eqb-true x b g in
        absurd (let o : ◌≡◌ {A = ℕ} 0 1 = cc in omega arith)
    other e false g = refl

    go : (c : Bool) → test x ≡ c → (all test s ≡ true → Free b s) → (c && all test s) ≡ true → Free b (x ∷ s)
    go true e ih h = free_cons b x s (other e (eqb x b) refl) (ih h)
    go false e ih h = absurd (let o : ◌≡◌ {A = ℕ} 0 1 = cc in omega arith)

-- ---- parts

-- A list without b is its one part.
pub split-last : (b : ℕ) (s : List ℕ) → Free b s → split b s ≡ s ∷ []
unfolding split upto
split-last b [] e = refl
split-last b (x ∷ s) e = go (eqb x b) (split-last b s) e
  where
    go : (t : Bool) → (Free b s → split b s ≡ s ∷ []) → cond t 0 (suc (upto b s)) ≡ suc (length s)
        → cond t ([] ∷ split b s) (onto x (split b s)) ≡ (x ∷ s) ∷ []
    go true ih e = absurd (omega arith)
    go false ih e = ap (onto x) (ih (omega arith))

-- A list with b: what stands before it, and the parts of what stands after it.
cut : (b : ℕ) (s : List ℕ) → upto b s < length s → split b s ≡ take (upto b s) s ∷ split b (drop (suc (upto b s)) s)
unfolding split upto
cut b [] h = absurd (omega arith)
cut b (x ∷ s) h = go (eqb x b) (cut b s) h
  where
    go : (t : Bool) → (upto b s < length s → split b s ≡ take (upto b s) s ∷ split b (drop (suc (upto b s)) s))
        → cond t 0 (suc (upto b s)) < suc (length s)
        → cond t ([] ∷ split b s) (onto x (split b s))
        ≡ take (cond t 0 (suc (upto b s))) (x ∷ s) ∷ split b (drop (suc (cond t 0 (suc (upto b s)))) (x ∷ s))
    go true ih h = refl
    go false ih h = ap (onto x) (ih (omega arith))

pub split-cut : (b : ℕ) (s : List ℕ) → upto b s < length s → split b s ≡ take (upto b s) s ∷ split b (drop (upto b s + 1) s)
split-cut b s h = rw (add-one (upto b s)) (cut b s h)

-- What is written with b between is parted at b.
pub split_join : (b : ℕ) (s t : List ℕ) → Free b s → split b (s ++ b ∷ t) ≡ s ∷ split b t
unfolding split upto
split_join b [] t e = simp (eq-eqb b b refl)
split_join b (x ∷ s) t e = go (eqb x b) (split_join b s t) e
  where
    go : (k : Bool) → (Free b s → split b (s ++ b ∷ t) ≡ s ∷ split b t) → cond k 0 (suc (upto b s)) ≡ suc (length s)
        → cond k ([] ∷ split b (s ++ b ∷ t)) (onto x (split b (s ++ b ∷ t))) ≡ (x ∷ s) ∷ split b t
    go true ih e = absurd (omega arith)
    go false ih e = ap (onto x) (ih (omega arith))

-- There is always a first part.
pub split-some : (b : ℕ) (s : List ℕ) → (f : List ℕ) × (fs : List (List ℕ)) × (split b s ≡ f ∷ fs)
unfolding split
split-some b [] = ([], [], refl)
split-some b (x ∷ s) = go (eqb x b) (split b s)
  where
    go : (t : Bool) (l : List (List ℕ)) → (f : List ℕ) × (fs : List (List ℕ)) × (cond t ([] ∷ l) (onto x l) ≡ f ∷ fs)
    go true l = ([], l, refl)
    go false [] = (x ∷ [], [], refl)
    go false (g ∷ gs) = (x ∷ g, gs, refl)

-- ---- what parts say of the list

-- The list's first part is x, and fs are those of what follows its first b.
pub record CutAt (b : ℕ) (s : List ℕ) (x : List ℕ) (fs : List (List ℕ)) : Type 0 where
  pub found : upto b s < length s
  pub first : x ≡ take (upto b s) s
  pub others : split b (drop (upto b s + 1) s) ≡ fs

pub split-more : (b : ℕ) (s x y : List ℕ) (fs : List (List ℕ)) → split b s ≡ x ∷ y ∷ fs → CutAt b s x (y ∷ fs)
split-more b s x y fs e = go (dec_lt (upto b s) (length s))
  where
    go : Dec (upto b s < length s) → CutAt b s x (y ∷ fs)
    go (yes h) =
        let q : take (upto b s) s ∷ split b (drop (upto b s + 1) s) ≡ x ∷ y ∷ fs = sym (split-cut b s h) ∙ e in
        record { found = h; first = cc; others = cc }
    go (no h) =
        let q : s ∷ [] ≡ x ∷ y ∷ fs = sym (split-last b s (omega (arith, upto_le b s))) ∙ e in
        absurd (let o : ◌≡◌ {A = ℕ} 0 1 = cc in omega arith)

-- A list of one part has no b, and is that part.
pub split_one : (b : ℕ) (s x : List ℕ) → split b s ≡ x ∷ [] → Free b s × (x ≡ s)
split_one b s x e = go (dec_lt (upto b s) (length s))
  where
    go : Dec (upto b s < length s) → Free b s × (x ≡ s)
    go (yes h) =
        let r = split-some b (drop (upto b s + 1) s) in
        let q : take (upto b s) s ∷ r.0 ∷ r.1 ≡ x ∷ [] =
        ap (λ (l : List (List ℕ)). take (upto b s) s ∷ l) (sym r.2) ∙ sym (split-cut b s h) ∙ e in
        absurd (let o : ◌≡◌ {A = ℕ} 0 1 = cc in omega arith)
    go (no h) =
        let f : Free b s = omega (arith, upto_le b s) in
        let q : s ∷ [] ≡ x ∷ [] = sym (split-last b s f) ∙ e in
        (f, cc)

-- ---- the same from the place `at` of a list on, as a loop over its parts meets them: e is where the next b stands

module _ (b : ℕ) (s : List ℕ) (at e : ℕ) (f : e ≡ upto b (drop at s)) where
  pub part-last : length s ≤ at + e → split b (drop at s) ≡ drop at s ∷ []
  part-last h = split-last b (drop at s) (omega (arith, upto_le b (drop at s), length-drop at s))

  pub part_cut : at + e < length s → split b (drop at s) ≡ take e (drop at s) ∷ split b (drop (at + e + 1) s)
  part_cut h =
      let i : at + (e + 1) ≡ at + e + 1 = omega arith in
      rw (split-cut b (drop at s) (omega (arith, length-drop at s)), ← f, drop-drop (e + 1) at s, i)

  -- The part is as long as it seems.
  pub part_length : length (take e (drop at s)) ≡ e
  part_length = length-take-le e (drop at s) (omega (arith, upto_le b (drop at s)))

-- After the end there is one part, an empty one.
pub part_end : (b : ℕ) (s : List ℕ) (at : ℕ) → length s ≤ at → split b (drop at s) ≡ [] ∷ []
unfolding split
part_end b s at h = rw (drop_of_length-le s {i = at} h)
