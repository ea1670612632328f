-- Document 01, "Situations to try": the starred ten as rows of one table, with what each must give.
use Rattle.std.specs.Prelude.{Bool, true, false, ◌&&◌, cond, List, [], ◌∷◌, map, ℕ, zero, suc, ◌+◌, ◌*◌, ◌/◌, ◌%◌, ◌^◌, eqb}
use Rattle.std.proofs.Math.Option.{Option, none, some}
use Rattle.theory.specs.Refusals.{Refusal}
use Rattle.theory.specs.Bounded.{tabulate}
use Rattle.theory.specs.Rules.{rule_number}
use Rattle.theory.specs.Table.{header, Table, table, Composition, automaton, composition, synthesis, controller, refinement, kept_count, step_count, end_count}
use Rattle.theory.specs.Checks.{first, unless_refused, compatibility_checks, composition_checks, synthesis_checks, refinement_checks}

-- ---- tables written out

-- State of departure, signal, target.
abbrev pub Step : Type 0
Step = ℕ × ℕ × ℕ

-- The target of the step of s by a, or 65,535.
abbrev pub target : List Step → ℕ → ℕ → ℕ
target [] s a = 65535
target (x ∷ l) s a = cond (eqb x.0 s && eqb x.1 a) x.2 (target l s a)

-- The set of some signals.
abbrev pub action_set : List ℕ → ℕ
action_set [] = 0
action_set (a ∷ l) = 2 ^ a + action_set l

-- So many states, the first state 0, inputs, outputs, steps.
abbrev pub written : ℕ → List ℕ → List ℕ → List Step → Table
written n inputs outputs l =
    table (header n 0 (action_set inputs) (action_set outputs))
    (tabulate (λ k. target l (k / 32) (k % 32)) 0 (n * 32))

-- The steps of a table, in the order of its cells: so many cells from k on.
unfoldable pub steps_from : Table → ℕ → ℕ → List Step
steps_from t k zero = []
steps_from t k (suc l) = with ((automaton t).next (k / 32) (k % 32)) (steps_from t (suc k) l)
  where
    with : Option ℕ → List Step → List Step
    with none rest = rest
    with (some u) rest = (k / 32, k % 32, u) ∷ rest

-- ---- what a call gives

pub data Call : Type 0 where
  fit compose make refine : Call

-- Verdict (fit, or yes), pairs, kept, rounds, steps.
pub record Figures : Type 0 where
  pub verdict : Bool
  pub pairs : ℕ
  pub kept : ℕ
  pub rounds : ℕ
  pub steps : ℕ

pub data Outcome : Type 0 where
  refused : (number «of» : ℕ) → Outcome
  fits : (verdict : Bool) (rounds : ℕ) → Outcome
  composed : Figures → Outcome
  made : Figures → (ends inputs outputs : ℕ) → List Step → Outcome
  refines : Bool → Outcome

abbrev pub turned : Refusal → Outcome
turned r = refused (rule_number r.rule) r.table

-- The figures of a composition, whose table is t.
abbrev pub figures : Composition → Table → Figures
figures c t = record {
  verdict = c.compatible;
  pairs = c.header.states;
  kept = kept_count c.flags;
  rounds = c.rounds;
  steps = step_count t;
}

-- What a call gives, buffers of the right length lent.
abbrev pub outcome : Table → Table → Call → Outcome
outcome p q fit =
    let c = composition p q in
    unless_refused (first (compatibility_checks p q (p.header.states * q.header.states))) turned (fits c.compatible c.rounds)
outcome p q compose =
    let pairs = p.header.states * q.header.states in
    let c = composition p q in
    unless_refused (first (composition_checks p q (pairs * 32) pairs)) turned (composed (figures c (table c.header c.cells)))
outcome p q make =
    let pairs = p.header.states * q.header.states in
    let t = controller p q in
    unless_refused (first (synthesis_checks p q (pairs * 32) pairs)) turned
    (made (figures (synthesis p q) t) (end_count t (synthesis p q).flags) t.header.inputs t.header.outputs (steps_from t 0 (pairs * 32)))
outcome p q refine =
    unless_refused (first (refinement_checks p q (p.header.states * q.header.states))) turned (refines (refinement p q).refines)

-- ---- the rows

pub record Situation : Type 0 where
  pub one : Table
  pub two : Table
  pub calls : List Call
  pub gives : List Outcome

abbrev pub computed : Situation → List Outcome
computed r = map (outcome r.one r.two) r.calls

-- The signals, numbered as the run of document 01 declares them.
abbrev power : ℕ
power = 0

abbrev settled : ℕ
settled = 1

abbrev start : ℕ
start = 2

abbrev read : ℕ
read = 3

abbrev pub ref : Table
ref = written 3 (power ∷ []) (settled ∷ []) ((0, power, 1) ∷ (1, settled, 2) ∷ [])

-- ref with a further step.
abbrev again : Table
again = written 3 (power ∷ []) (settled ∷ []) ((0, power, 1) ∷ (1, settled, 2) ∷ (2, power, 1) ∷ [])

abbrev cal : Table
cal = written 4 (settled ∷ []) (power ∷ read ∷ []) ((0, power, 1) ∷ (1, settled, 2) ∷ (2, read, 3) ∷ [])

abbrev hasty : Table
hasty = written 3 (settled ∷ []) (power ∷ read ∷ []) ((0, power, 1) ∷ (1, read, 2) ∷ [])

-- The plan of the run; one that waits; one that asks for power twice.
abbrev pub plan : Table
plan = written 5 (start ∷ []) (power ∷ settled ∷ read ∷ []) ((0, start, 1) ∷ (1, power, 2) ∷ (2, settled, 3) ∷ (3, read, 4) ∷ [])

abbrev waiting : Table
waiting = written 4 (start ∷ []) (power ∷ settled ∷ read ∷ []) ((0, start, 1) ∷ (1, power, 2) ∷ (2, read, 3) ∷ [])

abbrev twice : Table
twice = written 3 (power ∷ []) (settled ∷ []) ((0, power, 1) ∷ (1, power, 2) ∷ [])

-- One state, no signals.
abbrev lone : Table
lone = written 1 [] [] []

abbrev row : Table → Table → List Call → List Outcome → Situation
row p q calls gives = record { one = p; two = q; calls = calls; gives = gives }

abbrev figured : Bool → ℕ → ℕ → ℕ → ℕ → Figures
figured verdict pairs kept rounds steps = record { verdict = verdict; pairs = pairs; kept = kept; rounds = rounds; steps = steps }

-- Figures are: verdict, pairs, kept, rounds, steps.
unfoldable pub situations : List Situation
situations =
    row ref cal (fit ∷ compose ∷ []) (fits true 1 ∷ composed (figured true 12 8 1 4) ∷ [])
    ∷ row ref hasty (fit ∷ compose ∷ []) (fits false 2 ∷ composed (figured false 9 4 2 2) ∷ [])
    -- The run: one end (02, S-4), the lists, and its six steps.
    ∷ row ref plan (make ∷ []) (
    made (figured true 15 11 1 6) 1 (action_set (settled ∷ start ∷ [])) (action_set (power ∷ read ∷ []))
    ((0, start, 1) ∷ (1, power, 7) ∷ (3, read, 4) ∷ (7, settled, 13) ∷ (10, start, 11) ∷ (13, read, 14) ∷ [])
    ∷ [])
    -- No step by power; the first pair takes start alone, and the pair after it nothing.
    ∷ row ref waiting (make ∷ []) (
    made (figured true 12 8 1 4) 1 (action_set (settled ∷ start ∷ [])) (action_set (power ∷ read ∷ []))
    ((0, start, 1) ∷ (2, read, 3) ∷ (8, start, 9) ∷ (10, read, 11) ∷ [])
    ∷ [])
    ∷ row ref twice (make ∷ []) (made (figured false 9 2 2 0) 0 (action_set (power ∷ settled ∷ [])) (action_set []) [] ∷ [])
    ∷ row ref ref (refine ∷ []) (refines true ∷ [])
    ∷ row again ref (refine ∷ []) (refines true ∷ [])
    ∷ row ref again (refine ∷ []) (refines false ∷ [])
    ∷ row lone lone (fit ∷ compose ∷ refine ∷ []) (fits true 0 ∷ composed (figured true 1 1 0 0) ∷ refines true ∷ [])
    ∷ row ref ref (fit ∷ compose ∷ []) (refused 7 0 ∷ refused 7 0 ∷ [])
    ∷ []
