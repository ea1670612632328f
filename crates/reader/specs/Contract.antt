-- The replies of the reader, for any bytes.
use Rattle.std.specs.Prelude.{List, [], Result, Ok, Err}
use Rattle.theory.specs.declared.Automaton.{Automaton}
use Rattle.text.specs.declared.TextRefusal.{TextRefusal}
use Rattle.text.specs.Reading.{Signal, Outcome, finished, ended, Joint, both, neither}
use Rattle.names.specs.Numbering.{table_of}
use Rattle.reader.specs.declared.Tables.{Tables}
use Rattle.reader.specs.declared.NamedTables.{NamedTables}

abbrev pub alone_reply : Outcome → Result Automaton TextRefusal
alone_reply (finished st) = Ok st.header
alone_reply (ended r) = Err r

abbrev pub together_reply : Joint → Result Tables TextRefusal
together_reply (both m p) = Ok (record { component = m.header; specification = p.header })
together_reply (neither r) = Err r

-- The signals of both texts, by number.
abbrev pub signals_read : Joint → List Signal
signals_read (both m p) = p.signals
signals_read (neither r) = []

abbrev pub named_reply : Joint → Result NamedTables TextRefusal
named_reply (both m p) = Ok (record { component = m.header; specification = p.header; names = table_of p.signals })
named_reply (neither r) = Err r
