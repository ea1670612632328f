-- What the definitions say of a C call's table (01, "The parts we ship").
use mathlib.Core.Path.{◌≡◌, sym, ◌∙◌}
use mathlib.Core.Bool.{◌&&◌, cond}
use mathlib.Core.List.{List}
use Prim.Native.Nat.{ℕ, ◌+◌, ◌*◌, ◌≤◌, ◌<◌}
use native.Mathlib.Omega.{arith}
use lib.Dec.{T, leb}
use lib.ListN.{get_or, length}
use borrow.Author.Tests.{eq-eqb, ne_eqb, le-ltb}
use Rattle.theory.specs.Bounded.{any}
use Rattle.theory.specs.Table.{header, member}
use Rattle.theory.specs.Checks.{first, at_cell, refuse_at, check4, table_checks}
use Rattle.theory.proofs.Checks.{lists-overlap}
use Rattle.packed.specs.Bytes.{cells_of_bytes, table_of_bytes}
use Rattle.packed.proofs.CellsInBytes.{count-other, count-all, cells_count, cells_at}
use Rattle.theory.specs.declared.Rule.TheVariants as rule

module _ (states : ℕ) (bytes : List ℕ) (few : states ≤ 4096) where
  -- Any byte count but states × 64 gets 4, and states × 64 does not.
  pub four_applies : (i initial inputs outputs : ℕ) → 0 < states → (length bytes ≡ states * 64 → ⊥)
      → T (check4 i (table_of_bytes states initial inputs outputs bytes)).applies
  four_applies i initial inputs outputs some other =
      rw (cells_count states bytes, ← count-other states (length bytes) few other, ne_eqb 0 (states * 32) (λ e. omega arith)) tt

  -- In 4's place of the order: 2 and 3 come before it, 5 and 6 after.
  pub four_in_place : (i initial inputs outputs : ℕ) → 0 < states → (length bytes ≡ states * 64 → ⊥)
      → first (table_checks i (table_of_bytes states initial inputs outputs bytes))
      ≡ cond (leb states initial) (refuse_at rule.InitialState i (at_cell 0 0))
      (cond (any 32 (λ a. member inputs a && member outputs a)) (refuse_at rule.CommonAction i (at_cell 0 0)) (refuse_at rule.CellCount i (at_cell 0 0)))
  unfolding first table_checks
  four_in_place i initial inputs outputs some other =
      rw (ne_eqb states 0 (λ e. omega arith), le-ltb 4096 states few, lists-overlap (header states initial inputs outputs), cells_count states bytes, ← count-other states (length bytes) few other, ne_eqb 0 (states * 32) (λ e. omega arith))

  module _ (all : length bytes ≡ states * 64) where
    sized : length (cells_of_bytes states bytes) ≡ states * 32
    sized = cells_count states bytes ∙ sym (count-all states (length bytes) few all)

    pub four_passes : (i initial inputs outputs : ℕ) → ¬ T (check4 i (table_of_bytes states initial inputs outputs bytes)).applies
    four_passes i initial inputs outputs = rw (eq-eqb (length (cells_of_bytes states bytes)) (states * 32) sized) (λ t. t)

    -- The cell at k is byte 2 k and 256 times the byte after it.
    pub low_byte_first : (k : ℕ) → k < states * 32 → get_or (cells_of_bytes states bytes) k 65535 ≡ get_or bytes (2 * k) 0 + 256 * get_or bytes (2 * k + 1) 0
    low_byte_first k h = cells_at states bytes k 65535 (rw (← count-all states (length bytes) few all) h)
