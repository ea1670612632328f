-- What a C caller may conclude from the last fields of a reply, whatever it lent (02, S-2).
use Rattle.std.specs.Prelude.{◌≡◌, ◌↔◌, cond, ◌≤◌, T, None}
use Rattle.theory.specs.Refusals.{Refusal}
use Rattle.theory.specs.declared.Rule.{Rule}
use Rattle.theory.specs.Rules.{rule_number}
use Rattle.theory.specs.Checks.{refusal, at_cell}
use Rattle.table.specs.declared.Status.{Status}
use Rattle.moqresam.specs.declared.FitReply.{FitReply}
use Rattle.moqresam.specs.declared.RefineReply.{RefineReply}
use Rattle.moqresam.specs.declared.FollowReply.{FollowReply}

-- What a reply says of a refusal, and the refusal by a rule that it tells.
abbrev pub of_fit : FitReply → Status
of_fit r = record { number = r.number; table = r.table; placed = r.placed; state = r.cell_state; action = r.cell_signal }

abbrev pub of_refine : RefineReply → Status
of_refine r = record { number = r.number; table = r.table; placed = r.placed; state = r.cell_state; action = r.cell_signal }

abbrev pub of_follow : FollowReply → Status
of_follow r = record { number = r.number; table = r.table; placed = r.placed; state = r.cell_state; action = r.cell_signal }

abbrev pub refusal_in : Rule → Status → Refusal
refusal_in k s = refusal k s.table (cond s.placed (at_cell s.state s.action) None)

-- A cell is named exactly for numbers 1 to 6, both numbers are 0 where none is, and the refusal by the rule of this number says the right place.
pub record Placed (Right : Refusal → Type 0) (s : Status) : Type 0 where
  pub exactly : T s.placed ↔ ((1 ≤ s.number) × (s.number ≤ 6))
  pub otherwise : ¬ T s.placed → (s.state ≡ 0) × (s.action ≡ 0)
  pub located : 1 ≤ s.number → (k : Rule) × (rule_number k ≡ s.number) × Right (refusal_in k s)
