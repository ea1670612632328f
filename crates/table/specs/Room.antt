-- Check 10 by the buffers of a call.
use Rattle.std.specs.Prelude.{ℕ, Bool, ◌||◌}
use Rattle.theory.specs.Checks.{wrong_cells, wrong_bytes}
use Rattle.table.specs.declared.Room.{Room}
use Rattle.table.specs.declared.Room.TheVariants as room

-- A lent buffer has not exactly the length needed for so many pairs.
abbrev pub wrong_room : ℕ → Room → Bool
wrong_room pairs (room.Cells cells) = wrong_cells pairs cells
wrong_room pairs (room.Bytes bytes) = wrong_bytes pairs bytes
wrong_room pairs (room.Both cells bytes) = wrong_cells pairs cells || wrong_bytes pairs bytes
