-- The report of two texts: what was read is lent on to the maker, and what is left stands in the program's buffers.
use mathlib.Core.Path.{◌≡◌, refl, sym, ap, ◌∙◌}
use mathlib.Core.List.{List}
use Prim.Native.Nat.{ℕ, ◌*◌, ◌≤◌}
use native.Mathlib.Omega.{arith}
use lib.ListN.{length, take, replicate}
use Rattle.std.specs.Prelude.{Result, Ok, Err, min}
use Rattle.theory.specs.declared.Automaton.{Automaton}
use Rattle.theory.specs.Refusals.{Refusal}
use Rattle.theory.specs.Table.{table}
use Rattle.theory.specs.Checks.{unless_refused}
use Rattle.text.specs.declared.TextRefusal.{TextRefusal}
use Rattle.text.specs.declared.Spelling.TheVariants.{Folded}
use Rattle.text.specs.Reading.{Reading, Joint, both, neither, read_both, cells_first, cells_second, table_read}
use Rattle.text.proofs.Accepted as accepted
use Rattle.emit.specs.Buffer.{stored, after}
use Rattle.report.proofs.Lines.{Prints}
use Rattle.names.specs.Numbering.{signals_of, table_of}
use Rattle.reader.specs.declared.NamedTables.{NamedTables}
use Rattle.reader.specs.Contract.{signals_read, named_reply}
use Rattle.report.specs.SignalNames.{signal_names, names_in}
use Rattle.report.proofs.SignalNames.{named-signals}
use Rattle.report.specs.Lines.{rule_text, refusal_text}
use Rattle.report.proofs.LineLengths.{within}
use Rattle.report.specs.Report.{room_of, result_text, checked_of, by_reading, report_text, Buffers, report_buffers}
use Rattle.report.specs.Parts.{Holds, Fitting, Leaves, report_reply, report_bytes}
use Rattle.report.proofs.Texts.{answered, declined}
use Rattle.report.proofs.Lengths.{report_short}
use Rattle.theory.specs.Rules.{rule_number}

-- ---- the room of the maker

pub lent_fits : (pairs cells flags n : ℕ) → n ≡ min pairs (room_of cells flags) → Fitting cells flags n
lent_fits pairs cells flags n e = record { cells_fit = omega (arith, e); flags_fit = omega (arith, e); own = omega (arith, e) }

-- ---- what was read

-- What was read of two texts that are not refused.
record Tables (j : Joint) (r : NamedTables) : Type 0 where
  first : Reading
  second : Reading
  are : j ≡ both first second
  header : r.component ≡ first.header
  header' : r.specification ≡ second.header
  names : r.names ≡ table_of second.signals

joint-refused : (j : Joint) (r : TextRefusal) → Err r ≡ named_reply j → j ≡ neither r
joint-refused (both x y) r e = absurd (cc)
joint-refused (neither s) r e = let z : s ≡ r = cc in ap neither z

joint-tables : (j : Joint) (r : NamedTables) → Ok r ≡ named_reply j → Tables j r
joint-tables (both x y) r e =
    let z : r ≡ record { component = x.header; specification = y.header; names = table_of y.signals } = cc in
    record {
      first = x;
      second = y;
      are = refl;
      header = ap (λ k. k.component) z;
      header' = ap (λ k. k.specification) z;
      names = ap (λ k. k.names) z;
    }
joint-tables (neither s) r e = absurd (cc)

-- What is tried: the answer, and what is left in the buffers.
abbrev Tried : (m p cm cp cells flags out : List ℕ) → Result ℕ TextRefusal → (out' : List ℕ) → Buffers → Type 0
Tried m p cm cp cells flags out answer out' left = record {
  value : answer ≡ report_reply m p (length cm) (length cp) (length cells) (length flags) (length out);
  out_after : out' ≡ report_bytes m p (length cm) (length cp) (length cells) (length flags) out;
  buffers_after : left ≡ report_buffers m p cm cp cells flags;
}

module _ (cm₀ cp₀ m p cm cp : List ℕ)
    (first-left : cm ≡ cells_first (length cm₀) (read_both Folded (length cm₀) m (length cp₀) p))
    (second-left : cp ≡ cells_second (length cp₀) (read_both Folded (length cm₀) m (length cp₀) p)) where
  abbrev j : Joint
  j = read_both Folded (length cm₀) m (length cp₀) p

  module _ (r : TextRefusal) (no : Err r ≡ named_reply (read_both Folded (length cm₀) m (length cp₀) p)) (cells flags : List ℕ) where
    none : j ≡ neither r
    none = joint-refused j r no

    left-refused : (cm, cp, cells, flags) ≡ report_buffers m p cm₀ cp₀ cells flags
    unfolding report_buffers
    left-refused = (λ i. (first-left i, second-left i, cells, flags)) ∙ rw none

    pub reading-refused : (out : List ℕ) → Tried m p cm₀ cp₀ cells flags out (Err r) out (cm, cp, cells, flags)
    unfolding report_reply report_bytes
    reading-refused out = record { value = rw none; out_after = rw none; buffers_after = left-refused }

  module _ (k : NamedTables) (yes : Ok k ≡ named_reply (read_both Folded (length cm₀) m (length cp₀) p))
      (signals-read : signals_of m p k.names ≡ signals_read (read_both Folded (length cm₀) m (length cp₀) p)) where
    given : Tables j k
    given = joint-tables j k yes

    abbrev a : Automaton
    a = k.component

    abbrev b : Automaton
    b = k.specification

    abbrev x : Reading
    x = given.first

    abbrev y : Reading
    y = given.second

    sound : accepted.Accepted (length cm₀) (length cp₀) x y
    sound = accepted.accepted-both Folded (length cm₀) m (length cp₀) p x y given.are

    first-cells : cm ≡ x.cells
    first-cells = first-left ∙ ap (cells_first (length cm₀)) given.are

    second-cells : cp ≡ y.cells
    second-cells = second-left ∙ ap (cells_second (length cp₀)) given.are

    holds-first : Holds a cm
    holds-first =
        let n : a.states ≡ x.header.states = ap (λ (h : Automaton). h.states) given.header in
        record { few = omega (arith, sound.first.few_states); room = omega (arith, ap length first-cells, sound.first.fits, sound.first.size) }

    holds-second : Holds b cp
    holds-second =
        let n : b.states ≡ y.header.states = ap (λ (h : Automaton). h.states) given.header' in
        record { few = omega (arith, sound.second.few_states); room = omega (arith, ap length second-cells, sound.second.fits, sound.second.size) }

    pub holds-both : record { holds : Holds a cm; holds_2 : Holds b cp }
    holds-both = record { holds = holds-first; holds_2 = holds-second }

    -- The names of the table of places are those of the signals.
    names-read : names_in m p k.names ≡ signal_names y.signals
    names-read =
        let signals : signals_of m p k.names ≡ y.signals = signals-read ∙ ap signals_read given.are in
        named-signals m p k.names (given.names ∙ ap table_of (sym signals)) y.signals signals

    first-table : table a (take (a.states * 32) cm) ≡ table_read x
    first-table = λ i. table (given.header i) (take ((given.header i).states * 32) (first-cells i))

    second-table : table b (take (b.states * 32) cp) ≡ table_read y
    second-table = λ i. table (given.header' i) (take ((given.header' i).states * 32) (second-cells i))

    module _ (cells flags out : List ℕ) (cells' flags' out' : List ℕ) where
      abbrev checked : Result (Unit {0}) Refusal
      checked = checked_of (room_of (length cells) (length flags)) x y

      abbrev Left : Result ℕ Refusal → Type 0
      Left answer = Leaves (names_in m p k.names) (table a (take (a.states * 32) cm)) (table b (take (b.states * 32) cp)) cells flags out answer cells' flags' out'

      left : (answer : Result ℕ Refusal) → Left answer → Leaves (signal_names y.signals) (table_read x) (table_read y) cells flags out answer cells' flags' out'
      left answer w = rw (first-table, second-table, names-read) at w

      pub report_made : (e : ℕ) → Left (Ok e) → Tried m p cm₀ cp₀ cells flags out (Ok e) out' (cm, cp, cells', flags')
      unfolding report_reply report_bytes report_buffers
      report_made e w =
          let l = left (Ok e) w in
          let (taken, ends, stands) = answered _ out out' checked e l.answers in
          let c = rw taken at l.cells_left in
          let f = rw taken at l.flags_left in
          record {
            value = rw (given.are, taken) (ap Ok ends);
            out_after = rw (given.are, taken) stands;
            buffers_after = rw (given.are, taken) (λ i. (first-cells i, second-cells i, c i, f i));
          }

      pub report_refused : (r : Refusal) → Left (Err r) → (cm' cp' : List ℕ) → cm' ≡ replicate (length cm) 65535 → cp' ≡ replicate (length cp) 65535
          → Tried m p cm₀ cp₀ cells flags out (Err (record { rule = r.rule; text = r.table; line = 0 })) out' (cm', cp', cells', flags')
      unfolding report_reply report_bytes report_buffers
      report_refused r w cm' cp' u v =
          let l = left (Err r) w in
          let (refuses, stands) = declined _ out out' checked r l.answers in
          let c = rw refuses at l.cells_left in
          let f = rw refuses at l.flags_left in
          let u' : cm' ≡ replicate (length cm₀) 65535 = u ∙ ap (λ n. replicate n 65535) (ap length first-cells ∙ sound.first.size) in
          let v' : cp' ≡ replicate (length cp₀) 65535 = v ∙ ap (λ n. replicate n 65535) (ap length second-cells ∙ sound.second.size) in
          record {
            value = rw (given.are, refuses);
            out_after = rw (given.are, refuses) stands;
            buffers_after = rw (given.are, refuses) (λ i. (u' i, v' i, c i, f i));
          }

-- ---- the line of a refusal

-- The report ends within the buffer's bound.
abbrev pub Reports : (m p : List ℕ) (cm cp cells flags : ℕ) (out : List ℕ) → ℕ → List ℕ → Type 0
Reports m p cm cp cells flags out e out' = record {
  value : e ≡ after (length out) 0 (report_text m p cm cp cells flags);
  out_after : out' ≡ stored out 0 (report_text m p cm cp cells flags);
  upper_bound : e ≤ 65608;
}

module _ (m p : List ℕ) (cm cp cells flags : ℕ) (out : List ℕ) where
  reports : (e : ℕ) (out' : List ℕ) → Prints out 0 (report_text m p cm cp cells flags) e out' → Reports m p cm cp cells flags out e out'
  reports e out' w = record {
    value = w.value;
    out_after = w.out_after;
    upper_bound = omega (arith, w.value, within (length out) 0 (report_text m p cm cp cells flags), report_short m p cm cp cells flags);
  }

  abbrev room : ℕ
  room = room_of cells flags

  -- Either the answer is where the result ends, which was put; or it is a refusal, nothing was put, and the line of it is.
  abbrev Told : Result ℕ TextRefusal → List ℕ → ℕ → List ℕ → Type 0
  Told (Ok end) left e out' = (e ≡ end) × (out' ≡ left)
  Told (Err r) left e out' = Prints left 0 (refusal_text r.text (rule_number r.rule) r.line) e out'

  by_checks : (k : Result (Unit {0}) Refusal) (text : List ℕ) (e : ℕ) (out' : List ℕ)
      → Told (unless_refused k (λ r. Err (record { rule = r.rule; text = r.table; line = 0 })) (Ok (after (length out) 0 text)))
      (unless_refused k (λ r. out) (stored out 0 text)) e out'
      → Prints out 0 (unless_refused k (λ r. refusal_text r.table (rule_number r.rule) 0) text) e out'
  by_checks (Ok tt) text e out' w = record { value = w.0; out_after = w.1 }
  by_checks (Err r) text e out' w = w

  pub reported : (answer : Result ℕ TextRefusal) (left : List ℕ) → answer ≡ report_reply m p cm cp cells flags (length out) → left ≡ report_bytes m p cm cp cells flags out
      → (e : ℕ) (out' : List ℕ) → Told answer left e out' → Reports m p cm cp cells flags out e out'
  unfolding report_reply report_bytes report_text
  reported answer left u v e out' w = reports e out' (go (read_both Folded cm m cp p) (rw (u, v) at w))
    where
      text : Reading → Reading → List ℕ
      text x y = result_text (signal_names y.signals) (table_read x) (table_read y)

      go : (j : Joint)
          → Told (by_reading room (λ file k line. Err (record { rule = k; text = file; line = line })) (λ x y. Ok (after (length out) 0 (text x y))) j)
          (by_reading room (λ file k line. out) (λ x y. stored out 0 (text x y)) j) e out'
          → Prints out 0 (by_reading room rule_text text j) e out'
      go (both x y) w = by_checks (checked_of room x y) (text x y) e out' w
      go (neither r) w = w
