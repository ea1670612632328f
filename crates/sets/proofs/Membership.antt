-- Members of the empty set, of a power of two and of a set that gets one more; their number, and a bound on them; for any width.
use mathlib.Core.Path.{◌≡◌, refl, sym, ap, ap₂, ◌∙◌}
use mathlib.Core.Bool.{Bool, false, not, ◌||◌, not-not, and_self as and_same}
use Prim.Native.Nat.{ℕ, zero, suc, ◌+◌, ◌-◌, ◌/◌, ◌%◌, ◌^◌, ◌<◌}
use native.Mathlib.Nat.{div-one, div-eq_of_lt, pow-suc, zero-div}
use native.Mathlib.Decide.{dec_lt}
use native.Mathlib.Omega.{arith}
use lib.Bits.{bit_or, and_self}
use lib.Count.{count_leading_zeros, leading_length, ones, ones_step}
use lib.Dec.{T, eqb, eqb-suc-suc, eqb-suc-zero}
use lib.Pow.{pow_mono}
use borrow.Author.Tests.{ne_eqb}
use Rattle.theory.specs.Bounded.{any, count, digit}
use Rattle.theory.specs.Sets.{has}
use Rattle.theory.proofs.Bounded.{any_cong, count_cong}
use Rattle.theory.proofs.Sets.{low, has-suc, has-or, overlap}

pub has-zero : (s : ℕ) → has s 0 ≡ eqb (s % 2) 1
has-zero s = ap (λ x. eqb (x % 2) 1) (div-one s)

-- The empty set has no member.
pub has-none : (a : ℕ) → has 0 a ≡ false
has-none a = rw (zero-div (2 ^ a))

-- A power of 2 has one.
pub has-power : (s a : ℕ) → has (2 ^ s) a ≡ eqb a s
has-power zero zero = refl
has-power zero (suc a) = has-suc 1 a ∙ has-none a ∙ sym (eqb-suc-zero a)
has-power (suc s) zero = rw (div-one (2 ^ suc s), ne_eqb 0 (suc s) (λ e. omega arith)) (ap (λ x. eqb x 1) (let z : 2 ^ suc s % 2 ≡ 0 = omega (arith, pow-suc 2 s) in z))
has-power (suc s) (suc a) =
    has-suc (2 ^ suc s) a ∙ ap (λ x. has x a) (let z : 2 ^ suc s / 2 ≡ 2 ^ s = omega (arith, pow-suc 2 s) in z) ∙ has-power s a ∙ sym (eqb-suc-suc a s)

-- One member more.
pub has_insert : (set s a : ℕ) → has (bit_or set (2 ^ s)) a ≡ (has set a || eqb a s)
has_insert set s a = has-or set (2 ^ s) a ∙ ap (λ b. has set a || b) (has-power s a)

-- A set is empty exactly if no number is a member.
pub empty_set : (w s : ℕ) → s < 2 ^ w → eqb s 0 ≡ not (any w (has s))
empty_set w s h =
    sym (ap not (any_cong w _ _ (λ a l. sym (and_same (has s a))) ∙ overlap w s s h ∙ ap (λ x. not (eqb x 0)) (and_self s)) ∙ not-not (eqb s 0))

count-suc : (w : ℕ) (f : ℕ → Bool) → count (suc w) f ≡ digit (f 0) + count w (λ a. f (suc a))
unfolding count
count-suc zero f = omega arith
count-suc (suc w) f = omega (arith, count-suc w f)

-- The ones of a set are as many as its members.
pub ones_count : (w s : ℕ) → s < 2 ^ w → ones s ≡ count w (has s)
unfolding count ones
ones_count zero s h = let z : s ≡ 0 = omega arith in rw z
ones_count (suc w) s h =
    ones_step s ∙ ap₂ ◌+◌ (low s ∙ ap digit (sym (has-zero s)))
    (ones_count w (s / 2) (omega (arith, pow-suc 2 w)) ∙ count_cong w (has (s / 2)) (λ a. has s (suc a)) (λ a l. sym (has-suc s a)))
    ∙ sym (count-suc w (has s))

-- Every member is below the digits that are no leading zeros.
pub within-width : (w s a : ℕ) → s < 2 ^ w → T (has s a) → a < w - count_leading_zeros w s
within-width w s a h t =
    let l = leading_length w s h in
    elim (dec_lt a l.0) [
      | yes b ↦ omega (arith, l.1)
      | no b ↦ absurd (rw (div-eq_of_lt (let z : s < 2 ^ a = omega (arith, l.2, pow_mono {i = l.0} {j = a} (omega arith)) in z)) at t)
    ]
