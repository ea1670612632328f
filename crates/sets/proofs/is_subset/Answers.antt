use mathlib.Core.Path.{sym, ap, ◌∙◌}
use mathlib.Core.Bool.{not, not-not}
use Rattle.theory.proofs.Sets.{member-outside}
use Rattle.sets.proofs.is_subset.Goals as goal

pub returns : goal.returns
returns c = sym (ap not (member-outside c.args.s c.args.t c.ranges.s.fits) ∙ not-not _)
