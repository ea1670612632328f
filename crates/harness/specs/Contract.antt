-- The one reply record, from the library's replies: every field in every case.
use Rattle.std.specs.Prelude.{ℕ, Bool, true, false, List, length, Option, Some, None, Result, Ok, Err}
use Rattle.theory.specs.declared.Automaton.{Automaton}
use Rattle.theory.specs.Refusals.{Refusal}
use Rattle.theory.specs.Table.{header}
use Rattle.table.specs.declared.Status.{Status}
use Rattle.table.specs.Statuses.{status_nowhere, status_of, accepted_status}
use Rattle.compatibility.specs.declared.Compatibility.{Compatibility}
use Rattle.composition.specs.declared.Composition.{Composition}
use Rattle.synthesis.specs.declared.Synthesis.{Synthesis}
use Rattle.synthesis.specs.declared.Synthesis.TheVariants.{Controller, NoController}
use Rattle.text.specs.declared.TextRefusal.{TextRefusal}
use Rattle.reader.specs.declared.Tables.{Tables}
use Rattle.harness.specs.declared.replies.Reply.{Reply}
use Rattle.theory.specs.Rules.{rule_number}

-- ---- the shapes

abbrev pub no_table : Automaton
no_table = header 0 0 0 0

abbrev pub whole_reply : Status → ℕ → Bool → ℕ → Automaton → Automaton → Reply
whole_reply s line verdict value a b = record {
  number = s.number;
  table = s.table;
  line = line;
  yes = verdict;
  value = value;
  states = a.states;
  initial = a.initial;
  inputs = a.inputs;
  outputs = a.outputs;
  states_2 = b.states;
  initial_2 = b.initial;
  inputs_2 = b.inputs;
  outputs_2 = b.outputs;
  placed = s.placed;
  cell_state = s.state;
  cell_signal = s.action;
}

-- No table is given back.
abbrev pub bare_reply : ℕ → ℕ → ℕ → Bool → ℕ → Reply
bare_reply number table line verdict value = whole_reply (status_nowhere number table) line verdict value no_table no_table

abbrev pub refused_reply : Refusal → ℕ → Reply
refused_reply r value = whole_reply (status_of r) 0 false value no_table no_table

abbrev pub unread_reply : TextRefusal → Reply
unread_reply r = bare_reply (rule_number r.rule) r.text r.line false 0

-- One table is given back.
abbrev pub headed_reply : Bool → ℕ → Automaton → Reply
headed_reply verdict value a = whole_reply accepted_status 0 verdict value a no_table

-- Two tables are given back.
abbrev pub both_reply : Automaton → Automaton → Reply
both_reply a b = whole_reply accepted_status 0 false 0 a b

-- ---- one table

abbrev pub judged : Result (Unit {0}) Refusal → Reply
judged (Ok u) = bare_reply 0 0 0 false 0
judged (Err r) = refused_reply r 0

-- A call that makes a table: mirror and product.
abbrev pub made : Result Automaton Refusal → Reply
made (Ok h) = headed_reply false 0 h
made (Err r) = refused_reply r 0

-- Where the monitor did not move, or the call is refused, the state is the one that was given.
abbrev pub followed : ℕ → Result (Option ℕ) Refusal → Reply
followed state (Ok (Some to)) = bare_reply 0 0 0 true to
followed state (Ok None) = bare_reply 0 0 0 false state
followed state (Err r) = refused_reply r state

-- ---- two tables

abbrev pub fitted : Result Compatibility Refusal → Reply
fitted (Ok c) = bare_reply 0 0 0 c.compatible c.rounds
fitted (Err r) = refused_reply r 0

abbrev pub composed : Result Composition Refusal → Reply
composed (Ok c) = headed_reply c.compatible c.rounds c.header
composed (Err r) = refused_reply r 0

abbrev pub refined : Result Bool Refusal → Reply
refined (Ok verdict) = bare_reply 0 0 0 verdict 0
refined (Err r) = refused_reply r 0

abbrev pub synthesized : Result Synthesis Refusal → Reply
synthesized (Ok (Controller h rounds)) = headed_reply true rounds h
synthesized (Ok (NoController h rounds)) = headed_reply false rounds h
synthesized (Err r) = refused_reply r 0

-- ---- table text

abbrev pub alone_read : Result Automaton TextRefusal → Reply
alone_read (Ok h) = headed_reply false 0 h
alone_read (Err r) = unread_reply r

-- The component's table is the first, the specification's the second.
abbrev pub together_read : Result Tables TextRefusal → Reply
together_read (Ok c) = both_reply c.component c.specification
together_read (Err r) = unread_reply r

-- A lookup: its refusal is a number only, and the name is then empty.
abbrev pub named : ℕ → List ℕ → Reply
named number name = bare_reply number 0 0 false (length name)

abbrev pub written : Result ℕ Refusal → Reply
written (Ok n) = bare_reply 0 0 0 false n
written (Err r) = refused_reply r 0
