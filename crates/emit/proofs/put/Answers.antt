use native.Mathlib.Omega.{arith}
use Rattle.emit.proofs.Buffer.{put_beyond, put_cut, put_whole}
use Rattle.emit.proofs.put.Goals as goal

pub returns-then-d-at : goal.returns-then-d-at
returns-then-d-at c = put_beyond _ _ _ (omega arith)

pub returns-then-room-s : goal.returns-then-room-s
returns-then-room-s c = put_cut _ _ _ (omega arith) (omega arith) _ c.copy.ensures

pub returns : goal.returns
returns c = put_whole _ _ _ (omega arith) (omega arith) _ c.copy-2.ensures
