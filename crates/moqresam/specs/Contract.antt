-- The replies of the C calls, from the library's: every field in every case.
use Rattle.std.specs.Prelude.{ℕ, Bool, true, false, Option, Some, None, Result, Ok, Err}
use Rattle.theory.specs.Refusals.{Refusal}
use Rattle.table.specs.declared.Status.{Status}
use Rattle.table.specs.Statuses.{status_of, accepted_status}
use Rattle.compatibility.specs.declared.Compatibility.{Compatibility}
use Rattle.moqresam.specs.declared.FitReply.{FitReply}
use Rattle.moqresam.specs.declared.RefineReply.{RefineReply}
use Rattle.moqresam.specs.declared.FollowReply.{FollowReply}

-- The fields of a reply, from the status, the verdict and the rounds.
abbrev pub fit_with : Status → Bool → ℕ → FitReply
fit_with s c n = record {
  number = s.number;
  table = s.table;
  compatible = c;
  rounds = n;
  placed = s.placed;
  cell_state = s.state;
  cell_signal = s.action;
}

-- Fit: not refused, number and table are 0; refused, the verdict is no and the rounds are 0.
abbrev pub fit_reply : Result Compatibility Refusal → FitReply
fit_reply (Ok c) = fit_with accepted_status c.compatible c.rounds
fit_reply (Err r) = fit_with (status_of r) false 0

-- The fields of a reply, from the status and the verdict.
abbrev pub refine_with : Status → Bool → RefineReply
refine_with s v = record {
  number = s.number;
  table = s.table;
  refines = v;
  placed = s.placed;
  cell_state = s.state;
  cell_signal = s.action;
}

-- Refinement: not refused, number and table are 0; refused, the verdict is no.
abbrev pub refine_reply : Result Bool Refusal → RefineReply
refine_reply (Ok v) = refine_with accepted_status v
refine_reply (Err r) = refine_with (status_of r) false

-- The fields of a reply, from the status, whether the follower moved, and the state that it is in now.
abbrev pub follow_with : Status → Bool → ℕ → FollowReply
follow_with s m to = record {
  number = s.number;
  table = s.table;
  moved = m;
  state = to;
  placed = s.placed;
  cell_state = s.state;
  cell_signal = s.action;
}

-- The follower at a state: moved, the new state; "not now" or refused, the state as it was given.
abbrev pub monitor_reply : ℕ → Result (Option ℕ) Refusal → FollowReply
monitor_reply state (Ok (Some to)) = follow_with accepted_status true to
monitor_reply state (Ok None) = follow_with accepted_status false state
monitor_reply state (Err r) = follow_with (status_of r) false state

-- The state that the follower's record holds after a signal.
abbrev pub state_after : ℕ → Result (Option ℕ) Refusal → ℕ
state_after state (Ok (Some to)) = to
state_after state (Ok None) = state
state_after state (Err r) = state
