-- The replies of `check_position`, one law for each return: 11 and 12 after the checks of the shape.
use Rattle.std.proofs.Common.{◌≡◌, ℕ, ◌<◌, ◌≤◌, Bool, true, false, [], ◌∷◌, sym, ap, ◌∙◌, le-leb}
use borrow.Author.Tests.{lt-leb}
use Rattle.theory.specs.declared.Automaton.{Automaton}
use Rattle.theory.specs.Refusals.{Refusal}
use Rattle.std.specs.Prelude.{None, Result, Ok, Err}
use Rattle.theory.specs.Table.{Table, member, declared_set}
use Rattle.theory.specs.Checks.{first, refusal, declared, check11, check12, shape_checks, place_checks}
use Rattle.theory.proofs.Checks.{first-accepted}
use Rattle.theory.proofs.Table.{declared-set}
use Rattle.table.specs.Cells.{stepless}
use Rattle.table.proofs.CheckLists.{stopped}
use Rattle.theory.specs.declared.Rule.TheVariants as rule

module _ (i : ℕ) (a : Automaton) (count s x : ℕ) where
  abbrev n : ℕ
  n = a.states

  abbrev bare : Table
  bare = stepless a count

  module _ (k : Result (Unit {0}) Refusal) (shape : k ≡ first (shape_checks i bare)) where
    pub position-shape : (r : Refusal) → k ≡ Err r → (y : Result (Unit {0}) Refusal) → y ≡ Err r → y ≡ first (place_checks i bare s x)
    position-shape r e = stopped (shape_checks i bare) _ k shape r e

    module _ (u : Unit {0}) (fine : k ≡ Ok u) where
      own : first (place_checks i bare s x) ≡ first (check11 i bare s x ∷ check12 i bare s x ∷ [])
      own = first-accepted (shape_checks i bare) _ (sym shape ∙ fine)

      pub position_11 : (r : Refusal) → n ≤ s → r ≡ refusal rule.NoState i None → Err r ≡ first (place_checks i bare s x)
      unfolding first
      position_11 r h e = ap Err e ∙ sym (own ∙ rw (le-leb n s h))

      module _ (below : s < n) (d : ℕ) (lists : d ≡ declared_set a) (b : Bool) (known : b ≡ member d x) where
        told : declared bare x ≡ b
        told = sym (known ∙ rw lists (declared-set bare x))

        pub position_12 : (r : Refusal) → b ≡ false → r ≡ refusal rule.NoAction i None → Err r ≡ first (place_checks i bare s x)
        unfolding first
        position_12 r h e = ap Err e ∙ sym (own ∙ rw (lt-leb n s below, told, h))

        pub position_ok : b ≡ true → Ok tt ≡ first (place_checks i bare s x)
        unfolding first
        position_ok h = sym (own ∙ rw (lt-leb n s below, told, h))
