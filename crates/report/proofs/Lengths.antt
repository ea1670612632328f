-- How long a report may be: 26 bytes for a refusal; 72 for the six lines, with at most 65,536 of text behind them.
use mathlib.Core.Path.{◌≡◌, refl}
use mathlib.Core.Bool.{Bool, true, false, cond}
use mathlib.Core.List.{List, ◌++◌}
use Prim.Native.Nat.{ℕ, ◌*◌, ◌≤◌}
use native.Mathlib.Omega.{arith}
use lib.Dec.{ltb, nltb→le, not_T}
use lib.ListN.{length, length-append}
use Rattle.std.specs.Prelude.{Result, Ok, Err}
use Rattle.theory.specs.Refusals.{Refusal}
use Rattle.theory.specs.Table.{Table, synthesis, controller, kept_count, step_count, end_count}
use Rattle.theory.specs.Checks.{first, unless_refused, synthesis_checks, table_checks}
use Rattle.theory.proofs.Checks.{passed_first, first_part}
use Rattle.theory.proofs.Tests.{or_left}
use Rattle.text.specs.declared.Spelling.TheVariants.{Folded}
use Rattle.text.specs.Reading.{Joint, both, neither, read_both, table_read}
use Rattle.text.specs.Writing.{whole_text, text_length, writer_checks}
use Rattle.report.specs.SignalNames.{sequencer_word, signal_names}
use Rattle.report.specs.Lines.{refusal_text, rule_text, figures}
use Rattle.report.proofs.LineLengths.{refusal-short, figures-short}
use Rattle.report.specs.Report.{lent_pairs, room_of, text_checks, report_checks, result_text, by_reading, report_text}
use Rattle.theory.specs.Rules.{rule_number}

text-fits : (t : Table) (name : List ℕ) (names : List (List ℕ)) → first (writer_checks t name names 65536) ≡ Ok tt → length (whole_text t name names) ≤ 65536
unfolding writer_checks text_length
text-fits t name names e =
    let n = text_length t name names in
    let (_, (_, (_, (_, (c, _))))) = (passed_first _).0 (first_part (table_checks 1 t) _ e).1 in
    nltb→le 65536 n (not_T (ltb 65536 n) (λ u. c (or_left (ltb 65536 n) (ltb 65536 n) u)))

module _ (names : List (List ℕ)) where
  -- The line of a refusal after the reading, or what is made.
  abbrev told : Result (Unit {0}) Refusal → List ℕ → List ℕ
  told k text = unless_refused k (λ r. refusal_text r.table (rule_number r.rule) 0) text

  made-short : (a b : Table) (n : ℕ) → length (told (first (report_checks names a b n)) (result_text names a b)) ≤ 65608
  unfolding result_text report_checks text_checks
  made-short a b n = go (first (report_checks names a b n)) refl (synthesis a b).compatible refl
    where
      six : Bool → List ℕ
      six v = figures v (a.header.states * b.header.states) (kept_count (synthesis a b).flags) (synthesis a b).rounds (step_count (controller a b)) (end_count (controller a b) (synthesis a b).flags)

      short : (v : Bool) → length (six v) ≤ 72
      short v = figures-short v _ _ _ _ _

      text : List ℕ
      text = whole_text (controller a b) sequencer_word names

      fits : first (report_checks names a b n) ≡ Ok tt → (synthesis a b).compatible ≡ true → length text ≤ 65536
      fits e v = let w = (first_part (synthesis_checks a b (n * 32) n) _ e).1 in text-fits (controller a b) sequencer_word names (rw v at w)

      go : (k : Result (Unit {0}) Refusal) → first (report_checks names a b n) ≡ k → (v : Bool) → (synthesis a b).compatible ≡ v
          → length (told k (cond v (six v ++ text) (six v))) ≤ 65608
      go (Ok tt) e true h = omega (arith, length-append (six true) text, short true, fits e h)
      go (Ok tt) e false h = omega (arith, short false)
      go (Err r) e v h = omega (arith, refusal-short r.table (rule_number r.rule) 0)

pub report_short : (m p : List ℕ) (cm cp cells flags : ℕ) → length (report_text m p cm cp cells flags) ≤ 65608
unfolding report_text
report_short m p cm cp cells flags = go (read_both Folded cm m cp p)
  where
    go : (j : Joint) → length (by_reading (room_of cells flags) rule_text (λ x y. result_text (signal_names y.signals) (table_read x) (table_read y)) j) ≤ 65608
    go (both x y) = made-short (signal_names y.signals) (table_read x) (table_read y) (lent_pairs (table_read x) (table_read y) (room_of cells flags))
    go (neither r) = omega (arith, refusal-short r.text (rule_number r.rule) r.line)
