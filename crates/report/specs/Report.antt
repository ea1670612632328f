-- What the program prints for two texts, and what is left in the buffers that it lends (01, "The program and one full run"). m is the
-- module's text, p the plan's.
use Rattle.std.specs.Prelude.{cond, List, [], ◌++◌, ℕ, ◌*◌, ◌/◌, min, length, replicate, Result}
use Rattle.theory.specs.Refusals.{Refusal}
use Rattle.theory.specs.Table.{Table, Composition, synthesis, controller, kept_count, step_count, end_count}
use Rattle.theory.specs.Checks.{Check, first, unless_refused, synthesis_checks}
use Rattle.text.specs.declared.Spelling.TheVariants.{Folded}
use Rattle.text.specs.Reading.{Reading, Joint, both, neither, read_both, table_read}
use Rattle.text.specs.Writing.{whole_text, writer_checks}
use Rattle.emit.specs.Buffer.{stored}
use Rattle.report.specs.SignalNames.{sequencer_word, signal_names}
use Rattle.report.specs.Lines.{rule_text, figures}
use Rattle.theory.specs.declared.Rule.{Rule}

-- ---- two tables

-- The maker is given buffers of so many pairs: as many as there are, or as there is room for. More get 10, after 8 and 9.
abbrev pub lent_pairs : Table → Table → ℕ → ℕ
lent_pairs a b room = min (a.header.states * b.header.states) room

-- The room for a result: cells for so many pairs, and a flag for each. More than 1,024 pairs get 10, however much is lent; so every figure has
-- five digits at most, and `decimal` is its decimal (proofs/Meaning.antt).
abbrev pub room_of : ℕ → ℕ → ℕ
room_of cells flags = min (min (cells / 32) flags) 1024

-- The writer's checks: the text of table `sequencer` is made in 65,536 bytes before anything is printed.
unfoldable pub text_checks : List (List ℕ) → Table → List Check
text_checks names t = writer_checks t sequencer_word names 65536

-- The six lines of a verdict yes, with the text behind them.
abbrev pub with_text : List (List ℕ) → Table → List ℕ → List ℕ
with_text names t six = six ++ whole_text t sequencer_word names

-- The signals of both have these names.
module _ (names : List (List ℕ)) (a b : Table) where
  -- The checks after the reading, where the maker is given buffers of n pairs: the maker's and, with yes, the writer's.
  unfoldable pub report_checks : ℕ → List Check
  report_checks n = synthesis_checks a b (n * 32) n ++ cond (synthesis a b).compatible (text_checks names (controller a b)) []

  -- What is printed where no check applies: the six lines, which with yes the text follows.
  unfoldable pub result_text : List ℕ
  result_text =
      let s = synthesis a b in
      let t = controller a b in
      let six = figures s.compatible t.header.states (kept_count s.flags) s.rounds (step_count t) (end_count t s.flags) in
      cond s.compatible (with_text names t six) six

-- ---- two texts

module _ (room : ℕ) where
  -- What comes of the checks after the reading, with room for so many pairs.
  abbrev pub checked_of : Reading → Reading → Result (Unit {0}) Refusal
  checked_of x y =
      let a = table_read x in
      let b = table_read y in
      first (report_checks (signal_names y.signals) a b (lent_pairs a b room))

  -- By what was read: of the first refusal, of the reading or after it, the file, the rule and the line; else module and plan as read.
  abbrev pub by_reading : {A : Type 0} → (ℕ → Rule → ℕ → A) → (Reading → Reading → A) → Joint → A
  by_reading refused made (both x y) = unless_refused (checked_of x y) (λ r. refused r.table r.rule 0) (made x y)
  by_reading refused made (neither r) = refused r.text r.rule r.line

-- All that is printed, where so many cells are lent for module and plan, and so many cells and flags for the result.
unfoldable pub report_text : List ℕ → List ℕ → (cm cp cells flags : ℕ) → List ℕ
report_text m p cm cp cells flags =
    by_reading (room_of cells flags) rule_text (λ x y. result_text (signal_names y.signals) (table_read x) (table_read y)) (read_both Folded cm m cp p)

-- The four lent buffers: for the cells of module and plan, for the result's cells and flags.
abbrev pub Buffers : Type 0
Buffers = List ℕ × List ℕ × List ℕ × List ℕ

-- What is left in the four buffers: after a refusal two tables without steps, and the result's buffers as they were; else the tables as read, and the result's
-- buffers, which begin with it.
unfoldable pub report_buffers : List ℕ → List ℕ → (cm cp cells flags : List ℕ) → Buffers
report_buffers m p cm cp cells flags =
    let undone : Buffers = (replicate (length cm) 65535, replicate (length cp) 65535, cells, flags) in
    let result : Reading → Reading → Composition = λ x y. synthesis (table_read x) (table_read y) in
    let done : Reading → Reading → Buffers = λ x y. (x.cells, y.cells, stored cells 0 (result x y).cells, stored flags 0 (result x y).flags) in
    by_reading (room_of (length cells) (length flags)) (λ file k line. undone) done (read_both Folded (length cm) m (length cp) p)
