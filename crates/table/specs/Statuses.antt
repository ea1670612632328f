-- A refusal in numbers, its location too (02, S-2).
use Rattle.std.specs.Prelude.{ℕ, true, false, None, Some}
use Rattle.theory.specs.declared.Refusal.{Refusal as RefusalBy}
use Rattle.theory.specs.Refusals.{Refusal}
use Rattle.theory.specs.Checks.{Place, refusal}
use Rattle.theory.specs.Rules.{rule_number}
use Rattle.table.specs.declared.Status.{Status}

-- No cell is named: its numbers are 0.
abbrev pub status_nowhere : ℕ → ℕ → Status
status_nowhere n i = record { number = n; table = i; placed = false; state = 0; action = 0 }

abbrev pub status_at : ℕ → ℕ → Place → Status
status_at n i (Some c) = record { number = n; table = i; placed = true; state = c.state; action = c.action }
status_at n i None = status_nowhere n i

-- Of a refusal by any number, and of one that names its rule: by the number of that.
abbrev pub numbered_status : RefusalBy ℕ → Status
numbered_status r = status_at r.rule r.table r.location

abbrev pub status_of : Refusal → Status
status_of r = numbered_status (refusal (rule_number r.rule) r.table r.location)

-- Nothing is refused.
abbrev pub accepted_status : Status
accepted_status = status_nowhere 0 0
