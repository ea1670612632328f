-- Check 3 by counting: two sets overlap exactly if what they have in common has members. For any width.
use Rattle.std.proofs.Common.{◌≡◌, ℕ, zero, suc, ◌+◌, Bool, true, false, not, ◌&&◌, ◌||◌, eqb, ltb, sym, refl, ap, ◌∙◌, arith, lt-ltb, ne_eqb}
use mathlib.Core.Bool.{or-true, or-false}
use lib.Bits.{bit_and}
use Rattle.theory.specs.Bounded.{any, count, digit}
use Rattle.theory.specs.Sets.{has}
use Rattle.theory.specs.Table.{member}
use Rattle.theory.proofs.Bounded.{any_cong}
use Rattle.theory.proofs.Sets.{has-and, any-member}

some_more : (k : ℕ) (b c : Bool) → b ≡ ltb 0 k → (b || c) ≡ ltb 0 (k + digit c)
some_more k b true e = or-true b ∙ sym (lt-ltb 0 (k + 1) (omega arith))
some_more k b false e = or-false b ∙ e ∙ ap (ltb 0) (let z : k ≡ k + 0 = omega arith in z)

pub any-count : (n : ℕ) (f : ℕ → Bool) → any n f ≡ ltb 0 (count n f)
unfolding any count
any-count zero f = refl
any-count (suc n) f = some_more (count n f) (any n f) (f n) (any-count n f)

some_size : (k : ℕ) → not (eqb k 0) ≡ ltb 0 k
some_size zero = refl
some_size (suc k) = rw (ne_eqb (suc k) 0 (λ q. omega arith)) (sym (lt-ltb 0 (suc k) (omega arith)))

pub overlap-count : (w s t : ℕ) → ltb 0 (count w (has (bit_and s t))) ≡ any w (λ a. has s a && has t a)
overlap-count w s t = sym (any-count w (has (bit_and s t))) ∙ any_cong w (has (bit_and s t)) (λ a. has s a && has t a) (λ a l. has-and s t a)

-- The reply of `overlap`, for the size x of the common part.
pub overlaps : (s t x : ℕ) → x ≡ count 32 (has (bit_and s t)) → not (eqb x 0) ≡ any 32 (λ a. member s a && member t a)
overlaps s t x e = rw e (some_size (count 32 (has (bit_and s t))) ∙ overlap-count 32 s t ∙ sym (any-member ◌&&◌ s t))
