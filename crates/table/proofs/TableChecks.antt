-- The replies of the checks, one law for each return.
use Rattle.std.proofs.Common.{◌≡◌, ℕ, ◌*◌, ◌/◌, ◌%◌, ◌^◌, ◌<◌, ◌≤◌, Bool, true, false, cond, not, ◌&&◌, ltb, List, [], ◌∷◌, length, get_or, sym, refl, ap, ◌∙◌, arith, le-ltb, lt-ltb, eq-eqb, ne_eqb, le-leb}
use lib.ListN.{length-replicate}
use borrow.Author.Tests.{lt-leb}
use Rattle.theory.specs.declared.Automaton.{Automaton}
use Rattle.theory.specs.Refusals.{Refusal}
use Rattle.std.specs.Prelude.{Option, Some, None, Result, Ok, Err}
use Rattle.theory.specs.Bounded.{any}
use Rattle.theory.specs.Table.{Table, table, member, declared_set}
use Rattle.theory.specs.Checks.{at_cell, first, refusal, refuse_at, declared, is_stray, is_undeclared, cell_of, check5, check6, shape_checks, table_checks}
use Rattle.theory.proofs.Checks.{Shaped, first-accepted, lists-overlap, shape-accepted}
use Rattle.theory.proofs.Table.{declared-set}
use Rattle.table.specs.declared.faults.Finding.{Finding}
use Rattle.table.specs.Faults.{found, fault_at, first_fault}
use Rattle.table.specs.Cells.{stepless}
use Rattle.table.proofs.CheckLists.{stopped}
use Rattle.theory.specs.declared.Rule.TheVariants as rule

-- ---- what the walks find, as the answer of the checks, which names table i

abbrev answer_of : ℕ → Option Finding → Result (Unit {0}) Refusal
answer_of i (Some f) = refuse_at f.rule i (cell_of f.cell)
answer_of i None = Ok tt

five-or-six : (i : ℕ) (five six : Bool) (x y : ℕ)
    → cond five (refuse_at rule.StrayCell i (cell_of x)) (cond six (refuse_at rule.UndeclaredStep i (cell_of y)) (Ok tt)) ≡ answer_of i (cond five (found rule.StrayCell x) (cond six (found rule.UndeclaredStep y) None))
five-or-six i true six x y = refl
five-or-six i false true x y = refl
five-or-six i false false x y = refl

module _ (i : ℕ) (a : Automaton) where
  abbrev n : ℕ
  n = a.states

  module _ (count : ℕ) where
    abbrev bare : Table
    bare = stepless a count

    many : length bare.cells ≡ count
    many = length-replicate {A = ℕ} count 65535

    -- ---- check_shape: each law has the tests that failed before its own

    pub shape_1 : (k : Result (Unit {0}) Refusal) → n ≡ 0 → k ≡ refuse_at rule.StateCount i (at_cell 0 0) → k ≡ first (shape_checks i bare)
    unfolding first table_checks
    shape_1 k h e = rw (e, eq-eqb n 0 h)

    module _ (some : n ≡ 0 → ⊥) where
      pub shape_1_many : (k : Result (Unit {0}) Refusal) → 4096 < n → k ≡ refuse_at rule.StateCount i (at_cell 0 0) → k ≡ first (shape_checks i bare)
      unfolding first table_checks
      shape_1_many k h e = rw (e, ne_eqb n 0 some, lt-ltb 4096 n h)

      module _ (few : n ≤ 4096) where
        pub shape_2 : (k : Result (Unit {0}) Refusal) → n ≤ a.initial → k ≡ refuse_at rule.InitialState i (at_cell 0 0) → k ≡ first (shape_checks i bare)
        unfolding first table_checks
        shape_2 k h e = rw (e, ne_eqb n 0 some, le-ltb 4096 n few, le-leb n a.initial h)

        module _ (starts : a.initial < n) (b : Bool) (shared : b ≡ any 32 (λ x. member a.inputs x && member a.outputs x)) where
          pub shape_3 : (k : Result (Unit {0}) Refusal) → b ≡ true → k ≡ refuse_at rule.CommonAction i (at_cell 0 0) → k ≡ first (shape_checks i bare)
          unfolding first table_checks
          shape_3 k h e = rw (e, ne_eqb n 0 some, le-ltb 4096 n few, lt-leb n a.initial starts, lists-overlap a, ← shared, h)

          module _ (disjoint : b ≡ false) where
            pub shape_4 : (k : Result (Unit {0}) Refusal) → (count ≡ n * 32 → ⊥) → k ≡ refuse_at rule.CellCount i (at_cell 0 0) → k ≡ first (shape_checks i bare)
            unfolding first table_checks
            shape_4 k h e =
                rw (e, ne_eqb n 0 some, le-ltb 4096 n few, lt-leb n a.initial starts, lists-overlap a, ← shared, disjoint, many, ne_eqb count (n * 32) h)

            pub shape_ok : count ≡ n * 32 → Ok tt ≡ first (shape_checks i bare)
            unfolding first table_checks
            shape_ok h =
                rw (ne_eqb n 0 some, le-ltb 4096 n few, lt-leb n a.initial starts, lists-overlap a, ← shared, disjoint, many, eq-eqb count (n * 32) h)

  -- ---- check

  module _ (cells : List ℕ) where
    abbrev t : Table
    t = table a cells

    pub same_shape : shape_checks i (stepless a (length cells)) ≡ shape_checks i t
    same_shape = rw (length-replicate {A = ℕ} (length cells) 65535)

    module _ (k : Result (Unit {0}) Refusal) (shape_of : k ≡ first (shape_checks i (stepless a (length cells)))) where
      shape : k ≡ first (shape_checks i t)
      shape = shape_of ∙ ap first same_shape

      pub check-shape : (r : Refusal) → k ≡ Err r → (x : Result (Unit {0}) Refusal) → x ≡ Err r → x ≡ first (table_checks i t)
      unfolding table_checks
      check-shape r e = stopped (shape_checks i t) _ k shape r e

      module _ (u : Unit {0}) (fine : k ≡ Ok u) where
        shaped : Shaped t
        shaped = shape-accepted t i (sym shape ∙ fine)

        -- They are whole rows.
        whole : length cells / 32 * 32 ≡ n * 32
        whole = omega (arith, shaped.size)

        pub narrow : n < 2 ^ 16
        narrow = omega (arith, shaped.few_states)

        -- Check 6 and its walk find the same cells at fault.
        undeclared : (d : ℕ) → d ≡ declared_set a → fault_at true n d cells ≡ is_undeclared t
        undeclared d lists = λ j k. ltb (get_or cells k 65535) n && not (known (k % 32) j)
          where
            known : (x : ℕ) → member d x ≡ declared t x
            known x = rw lists (declared-set t x)

        module _ (d : ℕ) (f : Option Finding) (lists : d ≡ declared_set a) (walked : f ≡ first_fault n d cells) where
          walks : first (table_checks i t) ≡ answer_of i f
          unfolding first table_checks first_fault
          walks =
              first-accepted (shape_checks i t) (check5 i t ∷ check6 i t ∷ []) (sym shape ∙ fine) ∙ rw (walked, whole, undeclared d lists)
              (five-or-six i (any (n * 32) (is_stray t)) (any (n * 32) (is_undeclared t)) _ _)

          pub check-cells : (g : Finding) (r : Refusal) → f ≡ Some g → r ≡ refusal g.rule i (cell_of g.cell) → Err r ≡ first (table_checks i t)
          check-cells g r h e = ap Err e ∙ sym (walks ∙ ap (answer_of i) h)

          pub check_ok : f ≡ None → Ok tt ≡ first (table_checks i t)
          check_ok h = sym (walks ∙ ap (answer_of i) h)
