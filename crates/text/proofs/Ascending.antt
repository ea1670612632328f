-- Ascending lists of numbers: those that pass a test.
use mathlib.Core.Path.{◌≡◌, refl, sym, subst}
use mathlib.Core.Bool.{Bool, true, false, cond}
use mathlib.Core.List.{List, [], ◌∷◌}
use mathlib.Core.Logic.{◌⊎◌, inl, inr}
use Prim.Native.Nat.{ℕ, zero, suc, ◌+◌, ◌≤◌, ◌<◌}
use native.Mathlib.Omega.{arith}
use native.Mathlib.Decide.{ℕ_discrete}
use lib.Dec.{T}
use lib.ListN.{length}
use Rattle.theory.proofs.Tests.{is_false, is_true}
use Rattle.text.specs.Writing.{those}

-- The number a stands in the list.
abbrev pub In : ℕ → List ℕ → Type 0
In a [] = ⊥
In a (x ∷ l) = (x ≡ a) ⊎ In a l

-- The numbers ascend: none stands twice, and none is below s.
abbrev pub Ascending : ℕ → List ℕ → Type 0
Ascending s [] = Unit {0}
Ascending s (x ∷ l) = (s ≤ x) × Ascending (suc x) l

pub in_above : (a s : ℕ) (l : List ℕ) → Ascending s l → In a l → s ≤ a
in_above a s [] w i = absurd i
in_above a s (x ∷ l) (h, w) (inl e) = omega arith
in_above a s (x ∷ l) (h, w) (inr i) = omega (arith, in_above a (suc x) l w i)

ascending_from : (s : ℕ) (l : List ℕ) → Ascending (suc s) l → Ascending s l
ascending_from s [] w = w
ascending_from s (x ∷ l) (h, w) = (omega arith, w)

module _ (f : ℕ → Bool) where
  pub those_ascending : (s n : ℕ) → Ascending s (those f s n)
  unfolding those
  those_ascending s zero = tt
  those_ascending s (suc n) =
      let l = those f (suc s) n in
      let rest : Ascending (suc s) l = those_ascending (suc s) n in
      elim (f s) as (λ b. Ascending s (cond b (s ∷ l) l)) [ true ↦ (omega arith, rest) | false ↦ ascending_from s l rest ]

  -- A number stands there exactly if it passes.
  pub in_those : (a s n : ℕ) → In a (those f s n) → T (f a)
  unfolding those
  in_those a s zero i = absurd i
  in_those a s (suc n) i = go (f s) refl (those f (suc s) n) i (in_those a (suc s) n)
    where
      go : (b : Bool) → f s ≡ b → (l : List ℕ) → In a (cond b (s ∷ l) l) → (In a l → T (f a)) → T (f a)
      go true q l (inl e) rest = subst (λ x. T (f x)) e (rw q tt)
      go true q l (inr i) rest = rest i
      go false q l i rest = rest i

  pub those_in : (a s n : ℕ) → T (f a) → s ≤ a → a < s + n → In a (those f s n)
  unfolding those
  those_in a s zero t h k = absurd (omega arith)
  those_in a s (suc n) t h k =
      let l = those f (suc s) n in
      elim (ℕ_discrete s a) [
        | yes e ↦ rw (is_true (f s) (subst (λ x. T (f x)) (sym e) t)) (inl e)
        | no d ↦
            let rest : In a l = those_in a (suc s) n t (omega arith) (omega arith) in
            elim (f s) as (λ b. In a (cond b (s ∷ l) l)) [ true ↦ inr rest | false ↦ rest ]
      ]

  pub those-few : (s n : ℕ) → length (those f s n) ≤ n
  unfolding those
  those-few s zero = omega arith
  those-few s (suc n) =
      let l = those f (suc s) n in
      let rest : length l ≤ n = those-few (suc s) n in
      elim (f s) as (λ b. length (cond b (s ∷ l) l) ≤ suc n) [ true ↦ omega arith | false ↦ omega arith ]

  pub those-none : (s n : ℕ) → ((a : ℕ) → s ≤ a → a < s + n → ¬ T (f a)) → those f s n ≡ []
  unfolding those
  those-none s zero h = refl
  those-none s (suc n) h = rw (is_false (f s) (h s (omega arith) (omega arith))) (those-none (suc s) n (λ a i j. h a (omega arith) (omega arith)))

  -- The lowest number that passes is the first.
  pub those-first : (a s n : ℕ) → T (f a) → s ≤ a → a < s + n → ((b : ℕ) → s ≤ b → b < a → ¬ T (f b)) → (rest : List ℕ) × (those f s n ≡ a ∷ rest)
  unfolding those
  those-first a s zero t h k low = absurd (omega arith)
  those-first a s (suc n) t h k low = elim (ℕ_discrete s a) [
    | yes e ↦ rw (is_true (f s) (subst (λ x. T (f x)) (sym e) t), e) (those f (suc a) n, refl)
    | no d ↦
        rw (is_false (f s) (low s (omega arith) (omega arith))) (those-first a (suc s) n t (omega arith) (omega arith) (λ b i j. low b (omega arith) j))
  ]
