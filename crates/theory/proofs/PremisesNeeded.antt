-- Tables of one or two states that break the substitution law once a premise is left out, and whose kept pairs move when they are swapped.
use mathlib.Core.Path.{◌≡◌, refl, ap}
use mathlib.Core.Bool.{cond}
use Prim.Native.Nat.{ℕ, ◌*◌}
use native.Mathlib.Omega.{arith}
use lib.Dec.{eqb}
use lib.ListN.{get_or}
use Rattle.theory.specs.Interface.{Compatible}
use Rattle.theory.specs.Bounded.{any, tabulate}
use Rattle.theory.specs.Closure.{near, after}
use Rattle.theory.specs.Numbered.{product_next, illegal, incompatibility, unmatched, unrelated, list_condition_fails}
use Rattle.theory.specs.Table.{header, Table, table, composition, refinement}
use Rattle.theory.specs.Checks.{first, in_some, overlapping, table_checks, each_table, size_checks, composable_checks, composition_checks}
use Rattle.theory.specs.Valid.{Valid}
use Rattle.theory.specs.Substitution.{interface_of, PremisesNeeded, PairsMove}
use Rattle.theory.proofs.Checks.{checks_valid}
use Rattle.theory.proofs.Verdicts.{compatible-tables, refines-tables}

-- ---- the tables: the first state is 0, and a cell is a function of its place

abbrev table_of : ℕ → ℕ → ℕ → (ℕ → ℕ) → Table
table_of states inputs outputs cell = table (header states 0 inputs outputs) (tabulate cell 0 (states * 32))

abbrev no_step : ℕ → ℕ
no_step k = 65535

-- State 0 has a step to itself by signal 0.
abbrev loop : ℕ → ℕ
loop k = cond (eqb k 0) 0 65535

-- One state each: takes signal 0, or only declares it; sends it; has no signal.
abbrev taker : Table
taker = table_of 1 1 0 loop

abbrev unready : Table
unready = table_of 1 1 0 no_step

abbrev sender : Table
sender = table_of 1 0 1 loop

abbrev bare : Table
bare = table_of 1 0 0 no_step

-- Without steps: the input 1 is declared; so is the output 0 in the second.
abbrev waiting : Table
waiting = table_of 1 2 0 no_step

abbrev mute : Table
mute = table_of 1 2 1 no_step

-- Sends signal 0, then signal 1 any number of times.
abbrev successive : Table
successive = table_of 2 0 3 (λ k. cond (eqb k 0) 1 (cond (eqb k 33) 1 65535))

-- Two states each: the first takes, or sends, signal 0; the second has no step.
abbrev taker-at-first : Table
taker-at-first = table_of 2 1 0 loop

abbrev sender-at-first : Table
sender-at-first = table_of 2 0 1 loop

-- ---- what they break

pub premises_needed : PremisesNeeded
unfolding tabulate any near after product_next illegal incompatibility unmatched unrelated list_condition_fails composition refinement first overlapping in_some table_checks
premises_needed =
    let taker-valid : Valid taker = (checks_valid 1 taker).0 refl in
    let unready-valid : Valid unready = (checks_valid 1 unready).0 refl in
    let sender-valid : Valid sender = (checks_valid 1 sender).0 refl in
    let bare-valid : Valid bare = (checks_valid 1 bare).0 refl in
    let waiting-valid : Valid waiting = (checks_valid 1 waiting).0 refl in
    let mute-valid : Valid mute = (checks_valid 1 mute).0 refl in
    let successive-valid : Valid successive = (checks_valid 1 successive).0 refl in
    let unfit : ¬ Compatible (interface_of unready) (interface_of sender) = (compatible-tables unready sender unready-valid sender-valid).1 in
    record {
      refines = λ law. unfit (law unready taker sender unready-valid taker-valid sender-valid
          (record { inputs = λ a. refl; outputs = λ a. refl }) ((compatible-tables taker sender taker-valid sender-valid).0 tt));
      same_inputs = λ law. unfit (law unready bare sender unready-valid bare-valid sender-valid
          ((refines-tables unready bare unready-valid bare-valid).0 tt) (λ a. refl) ((compatible-tables bare sender bare-valid sender-valid).0 tt));
      same_outputs = λ law.
          (compatible-tables waiting successive waiting-valid successive-valid).1
          (law waiting mute successive waiting-valid mute-valid successive-valid
          ((refines-tables waiting mute waiting-valid mute-valid).0 tt) (λ a. refl) ((compatible-tables mute successive mute-valid successive-valid).0 tt));
      compatible = λ law. unfit (law unready unready sender unready-valid unready-valid sender-valid
          ((refines-tables unready unready unready-valid unready-valid).0 tt) (record { inputs = λ a. refl; outputs = λ a. refl }));
    }

pub pairs-move : PairsMove
unfolding tabulate any near after product_next illegal incompatibility composition first overlapping in_some table_checks each_table size_checks composable_checks composition_checks
pairs-move law =
    let e : ◌≡◌ {A = ℕ} 1 0 = ap (λ l. get_or l 2 0) (law taker-at-first sender-at-first (record { cells = 128; flags = 4; accepted = refl })) in
    omega arith
