-- The replies of `follow`, one law for each return.
use Rattle.std.proofs.Common.{◌≡◌, ℕ, ◌+◌, ◌*◌, ◌^◌, ◌<◌, Bool, true, false, cond, List, length, get_or, sym, refl, ap, ◌∙◌, arith, lt-ltb}
use lib.ListN.{length-replicate}
use Rattle.theory.specs.declared.Automaton.{Automaton}
use Rattle.theory.specs.Refusals.{Refusal}
use Rattle.std.specs.Prelude.{Option, Result, Ok, Err}
use Rattle.theory.specs.Table.{Table, table, decode}
use Rattle.theory.specs.Checks.{Place, at_cell, first, refusal, refuse_at, stray, place_checks, monitor_checks, unless_refused}
use Rattle.theory.proofs.Checks.{Placed, first-accepted, place-accepted}
use Rattle.theory.proofs.Table.{table-narrow}
use Rattle.table.proofs.FaultyRows.{within}
use Rattle.table.specs.Cells.{stepless}
use Rattle.table.proofs.CheckLists.{stopped}
use Rattle.table.specs.Contract.{follow_reply, moved, own_reply}
use Rattle.theory.specs.declared.Rule.TheVariants as rule

-- ---- follow

five : (b : Bool) (l : Place) (f : Result (Option ℕ) Refusal)
    → unless_refused (cond b (refuse_at rule.StrayCell 1 l) (Ok tt)) Err f ≡ cond b (Err (refusal rule.StrayCell 1 l)) f
five true l f = refl
five false l f = refl

module _ (h : Automaton) (cells : List ℕ) (s a : ℕ) where
  abbrev t : Table
  t = table h cells

  same_place : place_checks 1 (stepless h (length cells)) s a ≡ place_checks 1 t s a
  same_place = rw (length-replicate {A = ℕ} (length cells) 65535)

  module _ (k : Result (Unit {0}) Refusal) (place_of : k ≡ first (place_checks 1 (stepless h (length cells)) s a)) where
    place : k ≡ first (place_checks 1 t s a)
    place = place_of ∙ ap first same_place

    pub follow_refused : (r : Refusal) → k ≡ Err r → Err r ≡ follow_reply t s a
    unfolding follow_reply monitor_checks
    follow_refused r e = rw (← stopped (place_checks 1 t s a) _ k place r e (Err r) refl)

    module _ (u : Unit {0}) (fine : k ≡ Ok u) where
      placed : Placed t s a
      placed = place-accepted t 1 s a (sym place ∙ fine)

      narrow : a < 32
      narrow = table-narrow t a placed.known

      pub follow_at : s * 32 + a < length cells
      follow_at = omega (arith, placed.shaped, placed.below, narrow)

      pub follow_row : s * 32 < 2 ^ 64
      follow_row = omega (arith, placed.shaped, placed.below, narrow)

      pub follow_cell : s * 32 + a < 2 ^ 64
      follow_cell = omega (arith, placed.shaped, placed.below, narrow)

      pub follow_byte : (s * 32 + a) * 2 < 2 ^ 64
      follow_byte = omega (arith, placed.shaped, placed.below, narrow)

      pub follow_own : (f : Result (Option ℕ) Refusal) → f ≡ own_reply h.states s a (get_or cells (s * 32 + a) 0) → f ≡ follow_reply t s a
      unfolding first monitor_checks follow_reply
      follow_own f e =
          rw (first-accepted (place_checks 1 t s a) _ (sym place ∙ fine), lt-ltb a 32 narrow, within cells (s * 32 + a) 65535 0 follow_at)
          (e ∙ sym (five (stray h.states (get_or cells (s * 32 + a) 0)) (at_cell s a) (moved (decode h.states (get_or cells (s * 32 + a) 0)))))
