-- How long the lines are that the writer puts.
use Rattle.emit.proofs.Rows.{table-long, signal-long, step-long}

pub ruleset line_lengths = (table-long, signal-long, step-long)
