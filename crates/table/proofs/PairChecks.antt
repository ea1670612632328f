-- The replies of the checks of two automata: 9 and 10.
use Rattle.std.proofs.Common.{◌≡◌, ℕ, ◌<◌, ◌≤◌, Bool, true, false, List, sym, ◌∙◌, le-ltb, lt-ltb}
use Rattle.theory.specs.declared.Automaton.{Automaton}
use Rattle.theory.specs.Refusals.{Refusal}
use Rattle.std.specs.Prelude.{None, Result, Ok, Err}
use Rattle.theory.specs.Table.{table}
use Rattle.theory.specs.Checks.{refusal, first, each_table, size_checks}
use Rattle.theory.proofs.Checks.{each-valid}
use Rattle.theory.specs.declared.Rule.TheVariants as rule

-- ---- 9 and 10

-- Of two accepted tables the state counts may be multiplied.
module _ (a : Automaton) (ca : List ℕ) (b : Automaton) (cb : List ℕ) (j : Result (Unit {0}) Refusal) (begun : j ≡ first (each_table (table a ca) (table b cb))) where
  pub few-first : (u : Unit {0}) → j ≡ Ok u → a.states ≤ 4096
  few-first u fine = ((each-valid (table a ca) (table b cb)).0 (sym begun ∙ fine)).0.few_states

  pub few-second : (u : Unit {0}) → j ≡ Ok u → b.states ≤ 4096
  few-second u fine = ((each-valid (table a ca) (table b cb)).0 (sym begun ∙ fine)).1.few_states

module _ (pairs : ℕ) (wrong : Bool) where
  pub sizes_9 : (r : Refusal) → 4096 < pairs → r ≡ refusal rule.PairCount 0 None → Err r ≡ first (size_checks pairs wrong)
  unfolding first size_checks
  sizes_9 r h e = rw (e, lt-ltb 4096 pairs h)

  module _ (small : pairs ≤ 4096) (b : Bool) (told : b ≡ wrong) where
    pub sizes_10 : (r : Refusal) → b ≡ true → r ≡ refusal rule.RoomLength 0 None → Err r ≡ first (size_checks pairs wrong)
    unfolding first size_checks
    sizes_10 r h e = rw (e, le-ltb 4096 pairs small, ← told, h)

    pub sizes_ok : b ≡ false → Ok tt ≡ first (size_checks pairs wrong)
    unfolding first size_checks
    sizes_ok h = rw (le-ltb 4096 pairs small, ← told, h)
