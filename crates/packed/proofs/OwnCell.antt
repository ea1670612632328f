-- Why the monitor meets its contract: it reads its own cell among the bytes.
use mathlib.Core.Path.{◌≡◌, refl, sym, ap, ◌∙◌}
use mathlib.Core.List.{List}
use Prim.Native.Nat.{ℕ, ◌+◌, ◌*◌, ◌/◌, ◌^◌, ◌<◌}
use lib.ListN.{length}
use Rattle.std.specs.Prelude.{Option, Result, Ok, Err}
use Rattle.theory.specs.declared.Automaton.{Automaton}
use Rattle.theory.specs.Refusals.{Refusal}
use Rattle.theory.specs.Checks.{first, place_checks}
use Rattle.table.specs.Cells.{stepless}
use Rattle.table.specs.Contract.{follow_reply, own_reply}
use Rattle.table.proofs.MonitorReplies.{follow_refused, follow_row, follow_cell, follow_at, follow_own}
use Rattle.packed.specs.Bytes.{cell_in, cells_of_bytes, cell_count, byte_table}
use Rattle.packed.proofs.CellsInBytes.{cell-held, cells_count, cells_at}

module _ (h : Automaton) (bytes : List ℕ) (s a n : ℕ) (counted : n ≡ cell_count h.states (length bytes)) (k : Result (Unit {0}) Refusal)
    (place_of : k ≡ first (place_checks 1 (stepless h n) s a)) where
  abbrev cells : List ℕ
  cells = cells_of_bytes h.states bytes

  place : k ≡ first (place_checks 1 (stepless h (length cells)) s a)
  place = place_of ∙ ap (λ m. first (place_checks 1 (stepless h m) s a)) (counted ∙ sym (cells_count h.states bytes))

  pub bytes-refused : (r : Refusal) → k ≡ Err r → Err r ≡ follow_reply (byte_table h bytes) s a
  bytes-refused r e = follow_refused h cells s a k place r e

  module _ (done : Unit {0}) (fine : k ≡ Ok done) where
    pub bytes-row : s * 32 < 2 ^ 64
    bytes-row = follow_row h cells s a k place done fine

    pub bytes-cell : s * 32 + a < 2 ^ 64
    bytes-cell = follow_cell h cells s a k place done fine

    among : s * 32 + a < cell_count h.states (length bytes)
    among = rw (← cells_count h.states bytes) (follow_at h cells s a k place done fine)

    pub bytes-at : s * 32 + a < length bytes / 2
    bytes-at = cell-held h.states (length bytes) _ (s * 32 + a) refl among

    pub bytes-own : (v : ℕ) (f : Result (Option ℕ) Refusal) → v ≡ cell_in bytes (s * 32 + a) → f ≡ own_reply h.states s a v
        → f ≡ follow_reply (byte_table h bytes) s a
    bytes-own v f e u =
        follow_own h cells s a k place done fine f
        (u ∙ ap (own_reply h.states s a) (e ∙ sym (cells_at h.states bytes (s * 32 + a) 0 among)))
