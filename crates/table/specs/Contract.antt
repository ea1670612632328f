-- The replies of mirror and follower, for all arguments.
use Rattle.std.specs.Prelude.{ℕ, cond, Option, Some, None, Result, Ok, Err}
use Rattle.std.proofs.Math.Option as math
use Rattle.theory.specs.declared.Automaton.{Automaton}
use Rattle.theory.specs.Refusals.{Refusal}
use Rattle.theory.specs.Table.{Table, automaton, decode, mirror_header}
use Rattle.theory.specs.Checks.{first, refusal, at_cell, stray, unless_refused, table_checks, monitor_checks}
use Rattle.theory.specs.declared.Rule.TheVariants as rule

-- Mirroring: the lists exchanged.
unfoldable pub mirror_reply : Table → Result Automaton Refusal
mirror_reply t = unless_refused (first (table_checks 1 t)) Err (Ok (mirror_header t.header))

-- A declared signal with a step moves the follower; one without gets "not now", which is `None`.
abbrev pub moved : math.Option ℕ → Result (Option ℕ) Refusal
moved math.none = Ok None
moved (math.some u) = Ok (Some u)

-- Check 5 of the monitor's own cell, at a state and for an action, then its move.
abbrev pub own_reply : ℕ → ℕ → ℕ → ℕ → Result (Option ℕ) Refusal
own_reply n s a cell = cond (stray n cell) (Err (refusal rule.StrayCell 1 (at_cell s a))) (moved (decode n cell))

-- The follower at a state, for a signal.
unfoldable pub follow_reply : Table → ℕ → ℕ → Result (Option ℕ) Refusal
follow_reply t state action = unless_refused (first (monitor_checks 1 t state action)) Err (moved ((automaton t).next state action))
