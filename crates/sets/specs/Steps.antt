-- Iterators over a set's members.
use Rattle.std.specs.Prelude.{◌≡◌, ℕ, ◌-◌, ◌^◌, ◌<◌, Option, MatchOption}
use Rattle.std.specs.Int.Count.{count_trailing_zeros}
use Rattle.sets.specs.declared.LowestFirst.{LowestFirst}

-- The iterator to which all members of s are still to come.
abbrev pub iterator_over : ℕ → LowestFirst
iterator_over s = record { left = s }

-- The members that are still to come.
abbrev pub set_left : LowestFirst → ℕ
set_left s = s.left

-- The lowest member comes, and the others are left; none comes from the empty set.
abbrev pub member_steps : LowestFirst → Option ℕ → LowestFirst → Type 0
member_steps s r t =
    MatchOption r ((set_left s ≡ 0) × (set_left t ≡ 0))
    (λ a. (0 < set_left s) × (a ≡ count_trailing_zeros 32 (set_left s)) × (set_left t ≡ set_left s - 2 ^ count_trailing_zeros 32 (set_left s)))
