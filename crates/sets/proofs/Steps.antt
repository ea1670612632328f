-- What a call of `next` gives, by equations.
use mathlib.Core.Path.{◌≡◌, refl, sym, ap, ◌∙◌}
use mathlib.Core.Logic.{◌↔◌}
use mathlib.Core.Bool.{false, cond}
use Prim.Native.Nat.{ℕ, zero, suc, ◌-◌, ◌^◌, ◌<◌}
use native.Mathlib.Omega.{arith}
use lib.Count.{count_trailing_zeros}
use lib.Dec.{eqb, eqb-suc-zero}
use Rattle.std.specs.Prelude.{Option, Some, None, MatchOption}
use Rattle.std.proofs.lemmas.Option.{none-some, same_Some}
use Rattle.sets.specs.declared.LowestFirst.{LowestFirst}
use Rattle.sets.specs.Steps.{member_steps}

-- The lowest member c of a set, or none of the empty set.
abbrev lowest_in : ℕ → ℕ → Option ℕ
lowest_in set c = cond (eqb set 0) None (Some c)

by_cases : (set c left : ℕ) (r : Option ℕ) → MatchOption r ((set ≡ 0) × (left ≡ 0)) (λ a. (0 < set) × (a ≡ c) × (left ≡ set - 2 ^ c)) ↔ ((r ≡ lowest_in set c) × (left ≡ set - 2 ^ c))
by_cases zero c left None = (λ p. (refl, omega (arith, p.1)), λ e. (refl, omega (arith, e.1)))
by_cases zero c left (Some a) = (λ p. absurd (omega (arith, p.0)), λ e. absurd (none-some a (sym e.0)))
by_cases (suc n) c left None = (λ p. absurd (omega (arith, p.0)), λ e. absurd (none-some c (e.0 ∙ rw (eqb-suc-zero n) refl)))
by_cases (suc n) c left (Some a) = (
  λ p. (rw (eqb-suc-zero n) (ap Some p.1), p.2),
  λ e. (omega arith, same_Some a c (e.0 ∙ rw (eqb-suc-zero n) refl), e.1),
)

-- The result of a call, and what is left after it, are fixed by what is left before it, which is all that an iterator holds.
pub steps-are : (s t : LowestFirst) (r : Option ℕ)
    → member_steps s r t ↔ ((r ≡ cond (eqb s.left 0) None (Some (count_trailing_zeros 32 s.left))) × (t.left ≡ s.left - 2 ^ count_trailing_zeros 32 s.left))
steps-are s t r = by_cases s.left (count_trailing_zeros 32 s.left) t.left r
