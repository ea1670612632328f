-- The lowest number below a bound that passes a test, and how a search comes to it.
use mathlib.Core.Path.{◌≡◌, refl}
use mathlib.Core.Logic.{inl, inr}
use mathlib.Core.Bool.{Bool, true, false, ◌||◌, cond}
use Prim.Native.Nat.{ℕ, zero, suc, ◌+◌, ◌<◌, ◌≤◌}
use native.Mathlib.Decide.{dec_lt}
use native.Mathlib.Numerals.{add-one}
use native.Mathlib.Nat.{not-suc-le-zero, le_of_suc-le-suc, eq-or-lt_of_le}
use native.Mathlib.Omega.{arith}
use lib.Dec.{T, ltb}
use borrow.Author.Tests.{lt-ltb, le-ltb, ltb-true}
use Rattle.theory.specs.Bounded.{any, lowest}
use Rattle.theory.proofs.Tests.{same_test}
use Rattle.theory.proofs.Bounded.{at-any}

or-none : (b c : Bool) → (b || c) ≡ false → (b ≡ false) × (c ≡ false)
or-none true c e = (e, cc)
or-none false c e = (refl, e)

one_more : (n m : ℕ) (b c : Bool) → ltb m n ≡ b → ltb (cond b m (cond c n (suc n))) (suc n) ≡ (b || c)
one_more n m true c e = lt-ltb m (suc n) (omega (arith, ltb-true m n e))
one_more n m false true e = lt-ltb n (suc n) (omega arith)
one_more n m false false e = le-ltb (suc n) (suc n) (omega arith)

-- k is below n and passes, and no lower number does.
pub record Lowest (n : ℕ) (f : ℕ → Bool) (k : ℕ) : Type 0 where
  pub below : k < n
  pub passes : T (f k)
  pub least : (j : ℕ) → T (f j) → k ≤ j

module _ (f : ℕ → Bool) where
  -- Some number passes exactly if the lowest one found is below the bound.
  pub lowest-any : (n : ℕ) → ltb (lowest n f) n ≡ any n f
  unfolding lowest any
  lowest-any zero = refl
  lowest-any (suc n) = one_more n (lowest n f) (any n f) (f n) (lowest-any n)

  -- None below n passes, said of each.
  pub none-at : (n : ℕ) → any n f ≡ false → (k : ℕ) → k < n → f k ≡ false
  none-at n e k h = same_test (λ t. rw e at (at-any n f k h t)) (λ t. absurd t)

  pub none_below : (n : ℕ) → ((k : ℕ) → k < n → f k ≡ false) → any n f ≡ false
  unfolding any
  none_below zero all = refl
  none_below (suc n) all = rw (none_below n (λ k h. all k (omega arith)), all n (omega arith))

  -- None below k passes, nor does k: none below k + 1 does.
  pub none-next : (k : ℕ) → any k f ≡ false → f k ≡ false → any (k + 1) f ≡ false
  unfolding any
  none-next k e g = rw (add-one k, e, g)

  -- The same bound, written otherwise.
  pub none-same : (k j : ℕ) → any k f ≡ false → k ≡ j → any j f ≡ false
  none-same k j e h = rw (← h) e

  -- None below k passes, and k does.
  pub lowest-found : (n k : ℕ) → k < n → any k f ≡ false → f k ≡ true → k ≡ lowest n f
  unfolding lowest
  lowest-found zero k l e g = absurd (not-suc-le-zero l)
  lowest-found (suc n) k l e g = elim (eq-or-lt_of_le (le_of_suc-le-suc l)) [
    | inl q ↦ rw (← q, e, g)
    | inr m ↦
        let some : any n f ≡ true = same_test (λ t. tt) (λ t. at-any n f k m (rw g tt)) in
        rw some (lowest-found n k m e g)
  ]

  -- None passes.
  pub lowest-none : (n : ℕ) → any n f ≡ false → n ≡ lowest n f
  unfolding lowest any
  lowest-none zero e = refl
  lowest-none (suc n) e = let (p, q) = or-none (any n f) (f n) e in rw (p, q)

  -- None below n passes: what passes is no less than n.
  above : (n j : ℕ) → any n f ≡ false → T (f j) → n ≤ j
  above n j e t = elim (dec_lt j n) [ yes l ↦ absurd (rw (none-at n e j l) at t) | no g ↦ omega arith ]

  one-more-is : (n m : ℕ) (b : Bool) → any n f ≡ b → (T b → Lowest n f m) → T (b || f n) → Lowest (suc n) f (cond b m (cond (f n) n (suc n)))
  one-more-is n m true e w t = record { below = omega (arith, (w tt).below); passes = (w tt).passes; least = (w tt).least }
  one-more-is n m false e w t =
      rw (same_test {a = f n} {b = true} (λ u. tt) (λ u. t))
      (record { below = omega arith; passes = t; least = λ j u. above n j e u })

  -- Where some number passes, the one found is the lowest.
  pub lowest-is : (n : ℕ) → T (any n f) → Lowest n f (lowest n f)
  unfolding lowest any
  lowest-is zero t = absurd t
  lowest-is (suc n) t = one-more-is n (lowest n f) (any n f) refl (lowest-is n) t
