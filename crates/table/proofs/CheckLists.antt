-- Laws of any list of checks: it is stopped by a refusal, or goes on to others.
use Rattle.std.proofs.Common.{◌≡◌, ℕ, Bool, true, false, List, ◌∷◌, ◌++◌, sym, ◌∙◌}
use Rattle.theory.specs.Refusals.{Refusal}
use Rattle.theory.specs.declared.Rule.{Rule}
use Rattle.std.specs.Prelude.{None, Result, Ok, Err}
use Rattle.theory.specs.Checks.{Check, refusal, unplaced, first}
use Rattle.theory.proofs.Checks.{first-refused, first-accepted}

-- ---- a list of checks, then others

module _ (l m : List Check) (j : Result (Unit {0}) Refusal) (begun : j ≡ first l) where
  pub stopped : (r : Refusal) → j ≡ Err r → (k : Result (Unit {0}) Refusal) → k ≡ Err r → k ≡ first (l ++ m)
  stopped r e k f = f ∙ sym (first-refused l m r (sym begun ∙ e))

  pub went_on : (u : Unit {0}) → j ≡ Ok u → (k : Result (Unit {0}) Refusal) → k ≡ first m → k ≡ first (l ++ m)
  went_on u fine k e = e ∙ sym (first-accepted l m (sym begun ∙ fine))

-- ---- one check, then others

module _ (n : Rule) (i : ℕ) (f : Bool) (m : List Check) (b : Bool) (same : b ≡ f) where
  pub applied : b ≡ true → (r : Refusal) → r ≡ refusal n i None → Err r ≡ first (unplaced n i f ∷ m)
  unfolding first
  applied h r e = rw (e, ← same, h)

  pub passed : b ≡ false → (k : Result (Unit {0}) Refusal) → k ≡ first m → k ≡ first (unplaced n i f ∷ m)
  unfolding first
  passed h k e = rw (← same, h) e
