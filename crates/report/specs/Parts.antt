-- What the parts of the report answer, each for all arguments.
use Rattle.std.specs.Prelude.{◌≡◌, Bool, true, false, Result, Ok, Err, List, ℕ, ◌*◌, ◌≤◌, length}
use Rattle.theory.specs.declared.Automaton.{Automaton}
use Rattle.theory.specs.Refusals.{Refusal}
use Rattle.theory.specs.Table.{Table, table, synthesis, kept_count}
use Rattle.theory.specs.Checks.{first, unless_refused}
use Rattle.text.specs.declared.TextRefusal.{TextRefusal}
use Rattle.text.specs.declared.Spelling.TheVariants.{Folded}
use Rattle.text.specs.Reading.{Reading, read_both, table_read}
use Rattle.emit.specs.Buffer.{stored, after}
use Rattle.reach.specs.Ends.{ends_in}
use Rattle.table.specs.StepCounts.{steps_in}
use Rattle.synthesis.specs.declared.Synthesis.{Synthesis}
use Rattle.synthesis.specs.declared.Synthesis.TheVariants as made
use Rattle.report.specs.declared.Built.{Built}
use Rattle.report.specs.declared.Lent.{Lent}
use Rattle.report.specs.SignalNames.{signal_names}
use Rattle.report.specs.Lines.{figures}
use Rattle.report.specs.Report.{lent_pairs, room_of, text_checks, with_text, report_checks, result_text, by_reading}
use Rattle.theory.specs.declared.Rule.{Rule}

-- The six lines over what stands in the maker's buffers.
unfoldable pub six_of : Bool → Automaton → ℕ → List ℕ → List ℕ → List ℕ
six_of compatible h rounds cells flags =
    figures compatible h.states (kept_count flags) rounds (steps_in h.states cells) (ends_in (table h cells) flags)

abbrev pub six_lines_of : Bool → Built → List ℕ
six_lines_of compatible b = six_of compatible b.header b.rounds b.cells.now b.flags.now

abbrev pub table_of : Built → Table
table_of b = table b.header b.cells.now

abbrev pub lent_table : Lent → Table
lent_table l = table l.header l.cells.now

-- The answer of a call that puts a text at the start of a buffer: where the text ends; or the refusal, where a check applies, and then nothing is put.
pub record Answers (c : Result (Unit {0}) Refusal) (text bytes : List ℕ) (answer : Result ℕ Refusal) (bytes' : List ℕ) : Type 0 where
  pub answers : answer ≡ unless_refused c Err (Ok (after (length bytes) 0 text))
  pub stands : bytes' ≡ unless_refused c (λ r. bytes) (stored bytes 0 text)

-- ---- by what the maker made, and what stands in its buffers

module _ (names : List (List ℕ)) where
  abbrev pub made_checked : Synthesis → List ℕ → Result (Unit {0}) Refusal
  made_checked (made.Controller h n) cells = first (text_checks names (table h cells))
  made_checked (made.NoController h n) cells = Ok tt

  abbrev pub made_text : Synthesis → List ℕ → List ℕ → List ℕ
  made_text (made.Controller h n) cells flags = with_text names (table h cells) (six_of true h n cells flags)
  made_text (made.NoController h n) cells flags = six_of false h n cells flags

-- ---- by the two tables

-- The maker works in buffers of n pairs, which hold its result where no check applies.
pub record Makes (names : List (List ℕ)) (a b : Table) (n : ℕ) (bytes : List ℕ) (answer : Result ℕ Refusal) (cells' flags' bytes' : List ℕ) : Type 0 where
  pub answers : Answers (first (report_checks names a b n)) (result_text names a b) bytes answer bytes'
  pub cells_made : first (report_checks names a b n) ≡ Ok tt → cells' ≡ (synthesis a b).cells
  pub flags_made : first (report_checks names a b n) ≡ Ok tt → flags' ≡ (synthesis a b).flags

-- The lent cells hold a table of so many states.
pub record Holds (h : Automaton) (cells : List ℕ) : Type 0 where
  pub few : h.states ≤ 4096
  pub room : h.states * 32 ≤ length cells

-- n pairs fit the lent buffers, and room for 1,024.
pub record Fitting (cells flags n : ℕ) : Type 0 where
  pub cells_fit : n * 32 ≤ cells
  pub flags_fit : n ≤ flags
  pub own : n ≤ 1024

-- How many pairs the maker is lent, where these buffers are lent for the result.
abbrev pub pairs_for : Table → Table → List ℕ → List ℕ → ℕ
pairs_for a b cells flags = lent_pairs a b (room_of (length cells) (length flags))

-- The buffers for the result are as they were, or begin with it.
pub record Leaves (names : List (List ℕ)) (a b : Table) (cells flags bytes : List ℕ) (answer : Result ℕ Refusal) (cells' flags' bytes' : List ℕ) : Type 0 where
  pub answers : Answers (first (report_checks names a b (pairs_for a b cells flags))) (result_text names a b) bytes answer bytes'
  pub cells_left : cells' ≡ unless_refused (first (report_checks names a b (pairs_for a b cells flags))) (λ r. cells) (stored cells 0 (synthesis a b).cells)
  pub flags_left : flags' ≡ unless_refused (first (report_checks names a b (pairs_for a b cells flags))) (λ r. flags) (stored flags 0 (synthesis a b).flags)

-- ---- by the two texts

-- What is printed where nothing is refused.
abbrev result_of : Reading → Reading → List ℕ
result_of x y = result_text (signal_names y.signals) (table_read x) (table_read y)

-- Where that ends in a buffer of so many bytes; or why there is none: of the reading's refusal or of one after it, the file, the rule and the line.
unfoldable pub report_reply : List ℕ → List ℕ → (cm cp cells flags out : ℕ) → Result ℕ TextRefusal
report_reply m p cm cp cells flags out =
    let refused : ℕ → Rule → ℕ → Result ℕ TextRefusal = λ file k line. Err (record { rule = k; text = file; line = line }) in
    by_reading (room_of cells flags) refused (λ x y. Ok (after out 0 (result_of x y))) (read_both Folded cm m cp p)

-- The buffer that it is put into: as it was where something is refused.
unfoldable pub report_bytes : List ℕ → List ℕ → (cm cp cells flags : ℕ) → List ℕ → List ℕ
report_bytes m p cm cp cells flags out =
    by_reading (room_of cells flags) (λ file k line. out) (λ x y. stored out 0 (result_of x y)) (read_both Folded cm m cp p)
