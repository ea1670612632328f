use mathlib.Core.Path.{◌≡◌}
use Prim.Native.Nat.{◌^◌, ◌*◌, ◌%◌}
use native.Mathlib.Nat.{mod-eq_of_lt, one-mul}
use native.Mathlib.Omega.{arith}
use lib.Count.{count_trailing_zeros}
use Rattle.sets.proofs.Visit.{low, Low}
use Rattle.sets.proofs.rest.Goals as goal

pub overflow_sub-result : goal.overflow_sub-result
overflow_sub-result c =
    let at : Low 32 c.args.s (count_trailing_zeros 32 c.args.s) = low 32 c.args.s (omega arith) c.ranges.s.fits in
    let one : (1 * 2 ^ count_trailing_zeros 32 c.args.s) % 2 ^ 32 ≡ 2 ^ count_trailing_zeros 32 c.args.s
    = rw one-mul (mod-eq_of_lt (omega (arith, at.within, c.ranges.s.fits))) in
    rw one at.within
