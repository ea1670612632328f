-- Every starred situation gives what document 01 says: computed from the definitions that the contracts cite.
use mathlib.Core.Path.{◌≡◌, refl}
use mathlib.Core.Bool.{true}
use mathlib.Core.List.{map}
use Rattle.theory.specs.Bounded.{tabulate, any, count}
use Rattle.theory.specs.Closure.{near, after, rounds, reached_from}
use Rattle.theory.specs.Numbered.{product_next, illegal, incompatibility, unmatched, unrelated, list_condition_fails}
use Rattle.theory.specs.Table.{cells_of, composition, synthesis, controller, refinement, kept_count, step_count, is_end, end_count}
use Rattle.theory.specs.Checks.{first, in_some, overlapping, table_checks, size_checks, each_table, composable_checks, compatibility_checks, composition_checks, synthesis_checks, refinement_checks}
use Rattle.stars.specs.Situations.{situations, computed, steps_from, ref, plan}

pub starred : map computed situations ≡ map (λ r. r.gives) situations
unfolding tabulate any count near after rounds product_next illegal incompatibility unmatched unrelated list_condition_fails reached_from cells_of composition refinement kept_count step_count end_count first in_some overlapping table_checks size_checks each_table composable_checks compatibility_checks composition_checks synthesis_checks refinement_checks situations steps_from
starred = refl

-- 02, S-4: the one end of the run is pair 14.
pub run_end : is_end (controller ref plan) (synthesis ref plan).flags 14 ≡ true
unfolding tabulate any near after product_next illegal incompatibility reached_from cells_of composition
run_end = refl
