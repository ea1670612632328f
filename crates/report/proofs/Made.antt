-- What is printed of the maker's reply is what the definition says of the two tables.
use mathlib.Core.Path.{◌≡◌, refl, sym, ap, ◌∙◌}
use mathlib.Core.Bool.{Bool, true, false, cond}
use mathlib.Core.List.{List, []}
use native.Mathlib.Omega.{arith}
use Prim.Native.Nat.{ℕ, ◌*◌}
use lib.ListN.{length}
use Rattle.std.specs.Prelude.{Result, Ok, Err}
use Rattle.theory.specs.declared.Automaton.{Automaton}
use Rattle.theory.specs.Refusals.{Refusal}
use Rattle.theory.specs.Table.{Table, table, cells_of, composition, synthesis, controller, kept_count, step_count, end_count}
use Rattle.theory.specs.Checks.{first, unless_refused, synthesis_checks}
use Rattle.theory.proofs.Bounded.{length-tabulate}
use Rattle.theory.proofs.Checks.{first-refused, first-accepted, checks_premises}
use Rattle.theory.proofs.Numbering.{pair_lt}
use Rattle.reach.specs.Marks.{Searchable}
use Rattle.report.proofs.Lines.{Prints}
use Rattle.reach.specs.Ends.{ends_in}
use Rattle.reach.proofs.Ends.{ends_of_table}
use Rattle.table.specs.StepCounts.{steps_in}
use Rattle.table.proofs.StepCounts.{steps_of_table}
use Rattle.synthesis.specs.declared.Synthesis.{Synthesis}
use Rattle.synthesis.specs.Contract.{verdict, decided_of, synthesis_reply, synthesis_cells, synthesis_flags}
use Rattle.report.specs.Lines.{figures}
use Rattle.report.specs.Report.{text_checks, with_text, report_checks, result_text}
use Rattle.report.specs.Parts.{six_of, Answers, made_checked, made_text, Makes}
use Rattle.report.proofs.Texts.{refused_by, accepted_by}

-- ---- the six lines over the buffers

pub six_put : (d : List ℕ) (compatible : Bool) (h : Automaton) (kept rounds steps ends : ℕ) (cells flags : List ℕ) (r : ℕ) (b : List ℕ)
    → kept ≡ kept_count flags → steps ≡ steps_in h.states cells → ends ≡ ends_in (table h cells) flags
    → Prints d 0 (figures compatible h.states kept rounds steps ends) r b → Prints d 0 (six_of compatible h rounds cells flags) r b
unfolding six_of
six_put d compatible h kept rounds steps ends cells flags r b e f g p = rw (e, f, g) at p

-- ---- the two tables

module _ (names : List (List ℕ)) (a b : Table) (cells flags cells' flags' : List ℕ) (sized : length cells ≡ length flags * 32) (s : Result Synthesis Refusal)
    (replied : s ≡ synthesis_reply a b (length cells) (length flags)) (cells_left : cells' ≡ synthesis_cells a b cells (length flags))
    (flags_left : flags' ≡ synthesis_flags a b (length cells) flags) where
  abbrev n : ℕ
  n = length flags

  abbrev t : Table
  t = controller a b

  abbrev checked : Result (Unit {0}) Refusal
  checked = first (synthesis_checks a b (n * 32) n)

  -- Both the maker's checks and the writer's.
  abbrev whole : Result (Unit {0}) Refusal
  whole = first (report_checks names a b n)

  by_checks : s ≡ unless_refused checked Err (Ok (decided_of a b))
  unfolding synthesis_reply
  by_checks = rw sized at replied

  pub pairs_refused : (r : Refusal) → s ≡ Err r → (out : List ℕ) → Makes names a b n out (Err r) cells' flags' out
  unfolding report_checks
  pairs_refused r q out =
      let no : checked ≡ Err r = refused_by (decided_of a b) checked r (sym by_checks ∙ q) in
      let e : whole ≡ Err r = first-refused (synthesis_checks a b (n * 32) n) _ r no in
      let never : whole ≡ Ok tt → ⊥ = λ f. cc (e, f) in
      record { answers = record { answers = rw e; stands = rw e }; cells_made = λ f. absurd (never f); flags_made = λ f. absurd (never f) }

  module _ (y : Synthesis) (q : s ≡ Ok y) where
    accepted : (checked ≡ Ok tt) × (decided_of a b ≡ y)
    accepted = accepted_by (decided_of a b) checked y (sym by_checks ∙ q)

    cells_are : cells' ≡ t.cells
    unfolding synthesis_cells
    cells_are = cells_left ∙ rw (sized, accepted.0)

    flags-are : flags' ≡ (synthesis a b).flags
    unfolding synthesis_flags
    flags-are = flags_left ∙ rw (sized, accepted.0)

    full : length t.cells ≡ t.header.states * 32
    unfolding composition cells_of
    full = length-tabulate _ 0 (t.header.states * 32)

    flagged : length (synthesis a b).flags ≡ t.header.states
    unfolding composition
    flagged = length-tabulate _ 0 t.header.states

    -- The sizes fit.
    fits : Searchable t.header.initial t.header.states (length t.cells)
    fits =
        let v = checks_premises a b (n * 32) n accepted.0 in
        record {
          few = v.few_pairs;
          first = pair_lt a.header.states b.header.states (omega (arith, v.specification.initial)) v.component.initial v.specification.initial;
          cells_each = full;
        }

    -- The figures that are counted in the buffers are those of the table.
    abbrev figured : Bool → List ℕ
    figured v = figures v t.header.states (kept_count (synthesis a b).flags) (synthesis a b).rounds (step_count t) (end_count t (synthesis a b).flags)

    six : (v : Bool) → six_of v t.header (synthesis a b).rounds cells' flags' ≡ figured v
    unfolding six_of
    six v =
        let steps : steps_in t.header.states cells' ≡ step_count t =
        ap (steps_in t.header.states) cells_are ∙ steps_of_table t (omega (arith, fits.few)) full in
        let ends : ends_in (table t.header cells') flags' ≡ end_count t (synthesis a b).flags =
        (λ i. ends_in (table t.header (cells_are i)) (flags-are i)) ∙ ends_of_table t (synthesis a b).flags fits flagged in
        λ i. figures v t.header.states (kept_count (flags-are i)) (synthesis a b).rounds (steps i) (ends i)

    checked-same : made_checked names y cells' ≡ whole
    unfolding report_checks first
    checked-same =
        (λ i. made_checked names (sym accepted.1 i) (cells_are i)) ∙ go (synthesis a b).compatible ∙ sym (first-accepted (synthesis_checks a b (n * 32) n) _ accepted.0)
      where
        go : (v : Bool) → made_checked names (verdict v t.header (synthesis a b).rounds) t.cells ≡ first (cond v (text_checks names t) [])
        go true = refl
        go false = refl

    text_same : made_text names y cells' flags' ≡ result_text names a b
    unfolding result_text
    text_same = (λ i. made_text names (sym accepted.1 i) cells' flags') ∙ go (synthesis a b).compatible
      where
        go : (v : Bool) → made_text names (verdict v t.header (synthesis a b).rounds) cells' flags' ≡ cond v (with_text names t (figured v)) (figured v)
        go true = λ i. with_text names (table t.header (cells_are i)) (six true i)
        go false = six false

    pub pairs_made : (out : List ℕ) (answer : Result ℕ Refusal) (out' : List ℕ) → Answers (made_checked names y cells') (made_text names y cells' flags') out answer out'
        → Makes names a b n out answer cells' flags' out'
    pairs_made out answer out' w = record { answers = rw (checked-same, text_same) at w; cells_made = λ f. cells_are; flags_made = λ f. flags-are }
