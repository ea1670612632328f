use Rattle.sets.proofs.Membership.{ones_count}
use Rattle.sets.proofs.size.Goals as goal

pub returns : goal.returns
returns c = ones_count 32 c.args.s c.ranges.s.fits
