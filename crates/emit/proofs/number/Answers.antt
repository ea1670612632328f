use mathlib.Core.Path.{◌∙◌}
use Prim.Native.Nat.{◌≤◌}
use native.Mathlib.Omega.{arith}
use lib.Seq.{length-take-le}
use Rattle.emit.proofs.Decimal.{decimal_most}
use borrow.Author.Rules.{rules}
use Rattle.emit.proofs.number.Goals as goal

pub slice_bounds-digits-end : goal.slice_bounds-digits-end
slice_bounds-digits-end c = let h : c.width-w.result ≤ 5 = omega (arith, decimal_most c.args.n, c.width-w.ensures) in search rules

pub digits-requires : goal.digits-requires
digits-requires c = length-take-le _ _ (omega (arith, decimal_most c.args.n, c.width-w.ensures)) ∙ c.width-w.ensures

pub slice_bounds-five-end : goal.slice_bounds-five-end
slice_bounds-five-end c = let h : c.width-w.result ≤ 5 = omega (arith, decimal_most c.args.n, c.width-w.ensures) in search rules
