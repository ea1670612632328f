use Prim.Native.Nat.{◌-◌}
use native.Mathlib.Omega.{arith}
use lib.ListN.{length}
use Rattle.lines.proofs.Bytes.{match-unlike, match-end, match_differ, match-more}
use Rattle.lines.proofs.scan.matches.Goals as goal

pub returns-then-a-b : goal.returns-then-a-b
returns-then-a-b c = let a = c.args in match-unlike a.spelling a.a.now a.b.now (omega arith)

pub loop-i-init : goal.loop-i-init
loop-i-init c = let a = c.args in
    (omega arith, omega arith, match-end a.spelling a.a.now a.b.now (length a.a.now) (omega arith) (omega arith))

pub returns-then-not-agree : goal.returns-then-not-agree
returns-then-not-agree c = let l = c.loop-i in
    match_differ _ _ _ (l.i - 1) (omega arith) (omega arith) _ c.agree.ensures c.if-not-agree.true

pub loop-i-preserved : goal.loop-i-preserved
loop-i-preserved c = let l = c.loop-i in
    (omega arith, omega arith, match-more _ _ _ l.i (omega arith) (omega arith) (omega arith) l.invariant.2 _ c.agree.ensures c.if-not-agree.false)
