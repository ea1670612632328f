use mathlib.Core.Path.{sym}
use Rattle.theory.proofs.Sets.{member-overlap}
use Rattle.sets.proofs.intersects.Goals as goal

pub returns : goal.returns
returns c = sym (member-overlap c.args.s c.args.t c.ranges.s.fits)
