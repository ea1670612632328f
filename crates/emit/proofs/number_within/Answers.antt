use Prim.Native.Nat.{◌+◌, ◌-◌, ◌<◌}
use native.Mathlib.Omega.{arith}
use lib.ListN.{length}
use borrow.Rule.Slice.PartMut.{same_len_mid}
use Rattle.emit.proofs.Decimal.{decimal_most, number-lent}
use borrow.Author.Rules.{rules}
use Rattle.emit.proofs.number_within.Goals as goal

pub overflow_add-i : goal.overflow_add-i
overflow_add-i c =
    let fits : c.args.at + c.width.result < length c.args.d.now = omega (arith, decimal_most c.args.n, c.width.ensures, c.requires) in
    omega (arith, fits)

pub slice_bounds-digits-end : goal.slice_bounds-digits-end
slice_bounds-digits-end c =
    let fits : c.args.at + c.width.result < length c.args.d.now = omega (arith, decimal_most c.args.n, c.width.ensures, c.requires) in
    omega (arith, fits)

pub bounds-d-i : goal.bounds-d-i
bounds-d-i c =
    let fits : c.args.at + c.width.result < length c.args.d.now = omega (arith, decimal_most c.args.n, c.width.ensures, c.requires) in
    let g = c.digits in
    let a = c.args in
    omega (arith, fits, same_len_mid a.at (a.at + c.width.result - a.at) a.d.now g.new.d g.auto.d)

pub returns : goal.returns
returns c =
    let fits : c.args.at + c.width.result < length c.args.d.now = omega (arith, decimal_most c.args.n, c.width.ensures, c.requires) in
    record { value = search rules; d_after = number-lent _ _ c.width.ensures _ c.digits.ensures _ _ _ (omega (arith, fits)) }
