-- The replies of `find`, one law for each return, and what its loop keeps.
use Rattle.std.proofs.Common.{◌≡◌, ℕ, ◌+◌, ◌<◌, ◌≤◌, Bool, true, false, eqb, ltb, List, sym, refl, ap, ◌∙◌, arith, le-ltb, lt-ltb, eq-eqb, ne_eqb}
use native.Mathlib.Decide.{ℕ_discrete}
use Rattle.theory.specs.Bounded.{any}
use Rattle.theory.proofs.Lowest.{lowest-any}
use Rattle.table.specs.declared.faults.Walked.{Walked}
use Rattle.std.specs.Prelude.{None}
use Rattle.theory.specs.declared.Rule.TheVariants as rule
use Rattle.table.specs.Faults.{found, rule_of, fault_at, in_rows, SoundBefore, Ended, first_fault}

-- No cell is at fault by a check before this one.
pub record PassedBefore (n acts : ℕ) (cells : List ℕ) (check : ℕ) : Type 0 where
  pub five : 5 < check → any (in_rows cells) (fault_at false n acts cells) ≡ false
  pub six : 6 < check → any (in_rows cells) (fault_at true n acts cells) ≡ false

module _ (n acts : ℕ) (cells : List ℕ) where
  -- Before the first row there is no cell.
  pub sound-start : SoundBefore n acts cells 0
  unfolding any
  sound-start = record { within = omega arith; sound = λ six. refl }

  pub passed_start : PassedBefore n acts cells 5
  passed_start = record { five = λ l. absurd (omega arith); six = λ l. absurd (omega arith) }

  module _ (check : ℕ) (w : Walked) (low : 5 ≤ check) (high : check < 7) (passed : PassedBefore n acts cells check) (walked : Ended (eqb check 6) n acts cells w) where
    -- Check 6's walk is told by a test of the number.
    ended-five : (check ≡ 6 → ⊥) → Ended false n acts cells w
    ended-five d = rw (ne_eqb check 6 d) at walked

    ended-six : check ≡ 6 → Ended true n acts cells w
    ended-six q = rw (eq-eqb check 6 q) at walked

    -- Some cell is at fault exactly if the walk ends at one.
    at-fault : (six : Bool) → Ended six n acts cells w → any (in_rows cells) (fault_at six n acts cells) ≡ ltb w.at (in_rows cells)
    at-fault six e = rw e.first (sym (lowest-any (fault_at six n acts cells) (in_rows cells)))

    pub passed_on : in_rows cells ≤ w.at → PassedBefore n acts cells (check + 1)
    passed_on none = elim (ℕ_discrete check 6) [
      | yes q ↦ record {
        five = λ l. passed.five (omega arith);
        six = λ l. at-fault true (ended-six q) ∙ le-ltb w.at (in_rows cells) none;
      }
      | no d ↦ record {
        five = λ l. at-fault false (ended-five d) ∙ le-ltb w.at (in_rows cells) none;
        six = λ l. absurd (omega arith);
      }
    ]

    pub find-fault : w.at < in_rows cells → found (rule_of (eqb check 6)) w.at ≡ first_fault n acts cells
    unfolding first_fault
    find-fault h = elim (ℕ_discrete check 6) [
      | yes q ↦
          rw (passed.five (omega arith), at-fault true (ended-six q) ∙ lt-ltb w.at (in_rows cells) h, eq-eqb check 6 q)
          (ap (found rule.UndeclaredStep) (ended-six q).first)
      | no d ↦
          rw (at-fault false (ended-five d) ∙ lt-ltb w.at (in_rows cells) h, ne_eqb check 6 d) (ap (found rule.StrayCell) (ended-five d).first)
    ]

  pub find-nothing : (check : ℕ) → 7 ≤ check → PassedBefore n acts cells check → None ≡ first_fault n acts cells
  unfolding first_fault
  find-nothing check h passed = rw (passed.five (omega arith), passed.six (omega arith))
