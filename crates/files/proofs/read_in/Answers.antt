use native.Mathlib.Omega.{arith}
use Rattle.files.proofs.Reading.{copied}
use Rattle.files.proofs.read_in.Goals as goal

pub returns : goal.returns
returns g c = copied _ _ _ _ _ _ c.unwrap_or-n.ensures c.fetch-read.ensures (omega arith) (omega arith) (omega arith) c.put.ensures.d_after
