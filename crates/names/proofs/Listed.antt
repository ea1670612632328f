-- The members of a set, listed from the lowest on.
use mathlib.Core.Path.{◌≡◌, refl, sym, subst, ◌∙◌}
use mathlib.Core.Bool.{Bool, false, not, ◌&&◌, and-true}
use mathlib.Core.List.{[], ◌∷◌}
use Prim.Native.Nat.{ℕ, zero, suc, ◌+◌, ◌-◌, ◌^◌, ◌≤◌, ◌<◌}
use native.Mathlib.Omega.{arith}
use native.Mathlib.Decide.{ℕ_discrete}
use lib.Count.{count_trailing_zeros}
use lib.Dec.{T, eqb}
use borrow.Author.Tests.{eq-eqb, ne_eqb}
use Rattle.theory.proofs.Tests.{is_true, is_false}
use Rattle.theory.specs.Sets.{has}
use Rattle.sets.proofs.Membership.{has-none}
use Rattle.sets.proofs.Visit.{low}
use Rattle.text.specs.Writing.{those}
use Rattle.text.proofs.Ascending.{those-none}

pub those-same : (f g : ℕ → Bool) (i n : ℕ) → ((a : ℕ) → i ≤ a → a < i + n → f a ≡ g a) → those f i n ≡ those g i n
unfolding those
those-same f g i zero e = refl
those-same f g i (suc n) e =
    rw (e i (omega arith) (omega arith), those-same f g (suc i) n (λ a l k. e a (omega arith) (omega arith)))

-- The empty set has none.
pub those_empty : (w : ℕ) → those (has 0) 0 w ≡ []
those_empty w = those-none (has 0) 0 w (λ a i j t. subst T (has-none a) t)

module _ (f g : ℕ → Bool) (t : ℕ) (member : T (f t)) (least : (a : ℕ) → T (f a) → t ≤ a) (others : (a : ℕ) → g a ≡ (f a && not (eqb a t))) where
  those-from : (i n : ℕ) → i ≤ t → t < i + n → those f i n ≡ t ∷ those g i n
  unfolding those
  those-from i zero l h = absurd (omega arith)
  those-from i (suc n) l h = elim (ℕ_discrete i t) [
    | yes e ↦
        let gone : g t ≡ false = others t ∙ rw (is_true (f t) member, eq-eqb t t refl) in
        let rest : those f (suc t) n ≡ those g (suc t) n = those-same f g (suc t) n (λ a k m. sym (others a ∙ rw (ne_eqb a t (λ e. omega arith)) (and-true (f a)))) in
        rw (e, is_true (f t) member, gone, rest)
    | no d ↦
        let fails : f i ≡ false = is_false (f i) (λ x. d (omega (arith, least i x))) in
        let gone : g i ≡ false = others i ∙ rw fails in
        rw (fails, gone) (those-from (suc i) n (omega arith) (omega arith))
  ]

-- The lowest member is the first, the others follow.
pub those-lowest : (w s : ℕ) → 0 < s → s < 2 ^ w → those (has s) 0 w ≡ count_trailing_zeros w s ∷ those (has (s - 2 ^ count_trailing_zeros w s)) 0 w
those-lowest w s some bound =
    let k = low w s some bound in
    those-from (has s) (has (s - 2 ^ count_trailing_zeros w s)) (count_trailing_zeros w s) k.lowest.passes k.lowest.least k.rest 0 w (omega arith) (omega (arith, k.lowest.below))
