-- What a reader of a report may conclude, whatever is lent (01, "The program and one full run"; 02, S-4): no digit of a figure is lost, the ends are those
-- of the composition, more than 1,024 pairs get 10, and a refusal leaves nothing half done in the lent buffers.
use mathlib.Core.Path.{◌≡◌, refl, ap, ◌∙◌}
use mathlib.Core.Logic.{◌↔◌}
use mathlib.Core.Bool.{Bool, true, false, cond}
use mathlib.Core.List.{List, [], ◌∷◌, ◌++◌, append-nil}
use Prim.Native.Nat.{ℕ, ◌*◌, ◌/◌, ◌%◌, ◌≤◌, ◌<◌}
use native.Mathlib.Omega.{arith}
use lib.Dec.{T}
use lib.ListN.{length, get_or, drop, replicate}
use borrow.Author.Tests.{ne_eqb}
use Rattle.std.specs.Prelude.{Result, Ok, Err}
use Rattle.theory.specs.Refusals.{Refusal}
use Rattle.theory.specs.Numbered.{interface, reached}
use Rattle.theory.specs.Reachability.{End}
use Rattle.theory.specs.Table.{Table, automaton, mirror_table, cells_of, composition, synthesis, controller, kept_count, step_count, is_end, end_count}
use Rattle.theory.specs.Checks.{first, refuse, wrong_cells, wrong_bytes, synthesis_checks}
use Rattle.theory.specs.Demand.{Premises}
use Rattle.theory.proofs.Bounded.{length-tabulate, count-le}
use Rattle.theory.proofs.Checks.{first_part, first-refused, synthesis-accepted, checks_premises, premises_ten}
use Rattle.theory.proofs.Controller.{mirror-valid}
use Rattle.theory.proofs.Tests.{or_right}
use Rattle.theory.proofs.Verdicts as verdicts
use Rattle.theory.proofs.Ends as ends
use Rattle.table.proofs.FlagCounts.{kept-le}
use Rattle.text.specs.declared.Spelling.TheVariants.{Folded}
use Rattle.text.specs.Reading.{Reading, Joint, both, neither, read_both, table_read}
use Rattle.text.specs.Writing.{decimal, tabbed, printed}
use Rattle.text.proofs.Decimal.{Digits, digits_of_lem}
use Rattle.emit.specs.Buffer.{stored}
use Rattle.emit.proofs.Buffer.{stored_front}
use Rattle.report.specs.SignalNames.{signal_names}
use Rattle.report.specs.Lines.{refusal_text, rule_text, figures}
use Rattle.report.specs.Report.{lent_pairs, room_of, report_checks, result_text, checked_of, by_reading, report_text, report_buffers}
use Rattle.report.proofs.Whole.{lent_fits}
use Rattle.theory.specs.declared.Rule.TheVariants as rule
use Rattle.theory.specs.Rules.{rule_number}

-- What is printed of a number below 100,000 is its decimal: digits, five at most, no needless zero before them, and their value is the number.
pub printed-whole : (n : ℕ) → n < 100000 → Digits 4 n (decimal n)
unfolding decimal
printed-whole n h = digits_of_lem 4 n h

-- ---- the six lines

-- The figures of a module a and a plan b.
pub record Small (a b : Table) : Type 0 where
  pub pairs : (controller a b).header.states ≤ 1024
  pub kept : kept_count (synthesis a b).flags ≤ 1024
  pub rounds : (synthesis a b).rounds ≤ 1024
  pub steps : step_count (controller a b) ≤ 32768
  pub ends : end_count (controller a b) (synthesis a b).flags ≤ 1024

-- 02, S-4: what is counted as ends, by the automata of the module and of the plan's mirror and their composition (001, Definition 10).
pub record Ends (a b : Table) : Type 0 where
  -- A pair is counted exactly if it is an end.
  pub counted : (k : ℕ) → k < (controller a b).header.states
      → T (is_end (controller a b) (synthesis a b).flags k)
      ↔ End (interface (automaton a)) (interface (automaton (mirror_table b))) (k / b.header.states, k % b.header.states)
  -- No end is left out: each has a number.
  pub numbered : (y : ℕ × ℕ) → End (interface (automaton a)) (interface (automaton (mirror_table b))) y
      → (k : ℕ) × (k < (controller a b).header.states) × ((k / b.header.states, k % b.header.states) ≡ y)
  -- Under yes every pair that is reached is kept, ..
  pub yes : T (synthesis a b).compatible → (k : ℕ) → k < (controller a b).header.states → T (reached 32 (automaton (controller a b)) k)
      → get_or (synthesis a b).flags k 0 ≡ 1
  -- .. and under none there is no end.
  pub none : ¬ T (synthesis a b).compatible → end_count (controller a b) (synthesis a b).flags ≡ 0

module _ (names : List (List ℕ)) (a b : Table) (cells flags : ℕ) where
  abbrev count : ℕ
  count = a.header.states * b.header.states

  abbrev lent : ℕ
  lent = lent_pairs a b (room_of cells flags)

  lent-small : lent ≤ 1024
  lent-small = (lent_fits count cells flags lent refl).own

  flags-many : length (synthesis a b).flags ≡ count
  unfolding composition
  flags-many = length-tabulate _ 0 count

  cells-many : length (synthesis a b).cells ≡ count * 32
  unfolding composition cells_of
  cells-many = length-tabulate _ 0 (count * 32)

  steps-few : step_count (controller a b) ≤ count * 32
  unfolding step_count
  steps-few = count-le (count * 32) _

  ends-few : end_count (controller a b) (synthesis a b).flags ≤ count
  unfolding end_count
  ends-few = count-le count _

  maker_accepted : first (report_checks names a b lent) ≡ Ok tt → first (synthesis_checks a b (lent * 32) lent) ≡ Ok tt
  unfolding report_checks
  maker_accepted e = (first_part (synthesis_checks a b (lent * 32) lent) _ e).0

  -- Where no check applies, as many pairs are lent as there are.
  all-lent : first (report_checks names a b lent) ≡ Ok tt → lent ≡ count
  all-lent e = let (_, (_, flags)) = (synthesis-accepted a b (lent * 32) lent).0 (maker_accepted e) in flags

  -- Figures are printed only where no check applies.
  pub figures-small : first (report_checks names a b lent) ≡ Ok tt → Small a b
  figures-small e =
      let v = checks_premises a b (lent * 32) lent (maker_accepted e) in
      let few : count ≤ 1024 = omega (arith, all-lent e, lent-small) in
      record {
        pairs = few;
        kept = omega (arith, few, kept-le (synthesis a b).flags, flags-many);
        rounds = omega (arith, few, verdicts.rounds-pairs a (mirror_table b) v.component (mirror-valid b v.specification));
        steps = omega (arith, few, steps-few);
        ends = omega (arith, few, ends-few);
      }

  -- The ends that are printed are those of the composition.
  pub ends_mean : first (report_checks names a b lent) ≡ Ok tt → Ends a b
  unfolding composition end_count
  ends_mean e =
      let v = checks_premises a b (lent * 32) lent (maker_accepted e) in
      let w = mirror-valid b v.specification in
      let few : count ≤ 65535 = omega (arith, v.few_pairs) in record {
        counted = ends.end-counted a (mirror_table b) v.component w few;
        numbered = ends.end-numbered a (mirror_table b) v.component w few;
        yes = ends.yes-kept a (mirror_table b) v.component w few;
        none = ends.none-ended a (mirror_table b) v.component w few;
      }

  makers_ten : Premises a b → 1024 < count → first (synthesis_checks a b (lent * 32) lent) ≡ refuse rule.RoomLength 0
  makers_ten v more =
      let d : (lent ≡ count) → ⊥ = λ q. omega (arith, lent-small) in
      premises_ten a b (lent * 32) lent v (or_right (wrong_cells count (lent * 32)) (wrong_bytes count lent) (rw (ne_eqb lent count d) tt))

  -- More than 1,024 pairs gets 10, of tables that no earlier check refuses.
  pub too_many : Premises a b → 1024 < count → first (report_checks names a b lent) ≡ refuse rule.RoomLength 0
  unfolding report_checks
  too_many v more = first-refused (synthesis_checks a b (lent * 32) lent) _ _ (makers_ten v more)

-- ---- what is left in the lent buffers

first_byte : List ℕ → ℕ
first_byte [] = 0
first_byte (x ∷ s) = x

six-first : (v : Bool) (pairs kept rounds steps ends : ℕ) (rest : List ℕ) → first_byte (figures v pairs kept rounds steps ends ++ rest) ≡ 118
unfolding figures printed tabbed first_byte
six-first v pairs kept rounds steps ends rest = refl

line_first : (file number line : ℕ) → first_byte (refusal_text file number line) ≡ 114
unfolding refusal_text printed tabbed first_byte
line_first file number line = refl

-- What is printed where no check applies is not the line of a refusal.
six-no-line : (v w : Bool) (pairs kept rounds steps ends : ℕ) (text : List ℕ) (file number line : ℕ)
    → cond w (figures v pairs kept rounds steps ends ++ text) (figures v pairs kept rounds steps ends) ≡ refusal_text file number line → ⊥
six-no-line v true pairs kept rounds steps ends text file number line e =
    omega (arith, ap first_byte e, six-first v pairs kept rounds steps ends text, line_first file number line)
six-no-line v false pairs kept rounds steps ends text file number line e =
    omega (arith, ap first_byte e, ap first_byte (append-nil (figures v pairs kept rounds steps ends)), six-first v pairs kept rounds steps ends [], line_first file number line)

-- The tables that were read, where no check applies.
record Passed (room : ℕ) (j : Joint) : Type 0 where
  component : Reading
  specification : Reading
  read : j ≡ both component specification
  accepted : checked_of room component specification ≡ Ok tt

module _ (room : ℕ) where
  abbrev printed_of : Joint → List ℕ
  printed_of = by_reading room rule_text (λ x y. result_text (signal_names y.signals) (table_read x) (table_read y))

  -- Where the line of a refusal is printed, all else is as after a refusal.
  line_refused : {A : Type 0} (refused : A) (made : Reading → Reading → A) (j : Joint) (file number line : ℕ) → printed_of j ≡ refusal_text file number line
      → by_reading room (λ file number line. refused) made j ≡ refused
  unfolding result_text
  line_refused refused made (neither r) file number line e = refl
  line_refused refused made (both x y) file number line e = go (checked_of room x y) refl
    where
      go : (k : Result (Unit {0}) Refusal) → checked_of room x y ≡ k → by_reading room (λ file number line. refused) made (both x y) ≡ refused
      go (Ok tt) q = absurd (six-no-line _ (synthesis (table_read x) (table_read y)).compatible _ _ _ _ _ _ file number line (rw q at e))
      go (Err r) q = rw q

  no-line-passed : (j : Joint) → ((file number line : ℕ) → printed_of j ≡ refusal_text file number line → ⊥) → Passed room j
  no-line-passed (neither r) h = absurd (h r.text (rule_number r.rule) r.line refl)
  no-line-passed (both x y) h = go (checked_of room x y) refl
    where
      go : (k : Result (Unit {0}) Refusal) → checked_of room x y ≡ k → Passed room (both x y)
      go (Ok tt) q = record { component = x; specification = y; read = refl; accepted = q }
      go (Err r) q = absurd (h r.table (rule_number r.rule) 0 (rw q))

  passed-printed : (j : Joint) (w : Passed room j) → printed_of j ≡ result_text (signal_names w.specification.signals) (table_read w.component) (table_read w.specification)
  passed-printed j w = ap printed_of w.read ∙ rw w.accepted

  passed-made : {A : Type 0} (refused : A) (made : Reading → Reading → A) (j : Joint) (w : Passed room j)
      → by_reading room (λ file number line. refused) made j ≡ made w.component w.specification
  passed-made refused made j w = ap (by_reading room (λ file number line. refused) made) w.read ∙ rw w.accepted

module _ (m p cm cp cells flags : List ℕ) where
  abbrev room : ℕ
  room = room_of (length cells) (length flags)

  abbrev j : Joint
  j = read_both Folded (length cm) m (length cp) p

  abbrev text : List ℕ
  text = report_text m p (length cm) (length cp) (length cells) (length flags)

  -- Demand 1 of the letter: "A refused call changes no lent buffer, except that a refused reading leaves every table it was to fill without
  -- steps." A report that is the line of a refusal, of the reading or after it, leaves module and plan without steps, cells and flags as they were.
  pub refused_leaves : (file number line : ℕ) → text ≡ refusal_text file number line
      → report_buffers m p cm cp cells flags ≡ (replicate (length cm) 65535, replicate (length cp) 65535, cells, flags)
  unfolding report_text report_buffers
  refused_leaves file number line e = line_refused room _ _ j file number line e

  -- What is printed is the result's text, with figures that lose no digit and count what they say. The buffers hold the cells of module and plan as read,
  -- and the maker's cells and flags; beyond these, cells and flags are as they were.
  pub record Done : Type 0 where
    pub component : Reading
    pub specification : Reading
    pub read : j ≡ both component specification
    pub printed : text ≡ result_text (signal_names specification.signals) (table_read component) (table_read specification)
    pub small : Small (table_read component) (table_read specification)
    pub ends : Ends (table_read component) (table_read specification)
    pub left : (let a = table_read component in
        let b = table_read specification in
        let n = (controller a b).header.states in
        report_buffers m p cm cp cells flags
        ≡ (component.cells, specification.cells, (synthesis a b).cells ++ drop (n * 32) cells, (synthesis a b).flags ++ drop n flags))

  -- A report that is not the line of a refusal prints the result, and leaves the tables read and the maker's result.
  pub result_leaves : ((file number line : ℕ) → text ≡ refusal_text file number line → ⊥) → Done
  unfolding report_text report_buffers
  result_leaves h =
      let w = no-line-passed room j h in
      let x = w.component in
      let y = w.specification in
      let a = table_read x in
      let b = table_read y in
      let names = signal_names y.signals in
      let all = all-lent names a b (length cells) (length flags) w.accepted in
      let fits = lent_fits (count names a b (length cells) (length flags)) (length cells) (length flags) _ refl in
      let n = cells-many names a b (length cells) (length flags) in
      let k = flags-many names a b (length cells) (length flags) in
      let c : stored cells 0 (synthesis a b).cells ≡ (synthesis a b).cells ++ drop ((controller a b).header.states * 32) cells =
      stored_front cells (synthesis a b).cells (omega arith) ∙ rw n in
      let f : stored flags 0 (synthesis a b).flags ≡ (synthesis a b).flags ++ drop (controller a b).header.states flags =
      stored_front flags (synthesis a b).flags (omega arith) ∙ rw k in
      record {
        component = x;
        specification = y;
        read = w.read;
        printed = passed-printed room j w;
        small = figures-small names a b (length cells) (length flags) w.accepted;
        ends = ends_mean names a b (length cells) (length flags) w.accepted;
        left = passed-made room _ _ j w ∙ (λ i. (x.cells, y.cells, c i, f i));
      }
