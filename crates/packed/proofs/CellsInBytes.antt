-- How many cells bytes hold, and which: why the functions of src/cells meet their contracts, and what their callers need.
use mathlib.Core.Path.{◌≡◌}
use mathlib.Core.Bool.{Bool, true, false, cond}
use mathlib.Core.List.{List}
use Prim.Native.Nat.{ℕ, ◌*◌, ◌/◌, ◌≤◌, ◌<◌}
use native.Mathlib.Omega.{arith}
use lib.Dec.{T, eqb, leb, eqb→eq, leb→le}
use lib.ListN.{get_or, length}
use borrow.Author.Tests.{eq-eqb, ne_eqb, le-leb, lt-leb}
use Rattle.theory.proofs.Bounded.{length-tabulate, get_d_tabulate_zero}
use Rattle.theory.proofs.Filled.{Filled, filled-all}
use Rattle.theory.proofs.Tests.{and_left, and_right}
use Rattle.packed.specs.Bytes.{cell_in, fits, cells_of_bytes, cell_count}

-- ---- how many

bounded_if : (b : Bool) (n m : ℕ) → (T b → n ≤ m) → cond b n 0 ≤ m
bounded_if true n m h = h tt
bounded_if false n m h = omega arith

module _ (states bytes : ℕ) where
  pub count-many : 4096 < states → 0 ≡ cell_count states bytes
  unfolding cell_count
  count-many h = rw (lt-leb states 4096 h)

  module _ (few : states ≤ 4096) where
    pub count-other : (bytes ≡ states * 64 → ⊥) → 0 ≡ cell_count states bytes
    unfolding cell_count
    count-other h = rw (le-leb states 4096 few, ne_eqb bytes (states * 64) h)

    pub count-all : bytes ≡ states * 64 → states * 32 ≡ cell_count states bytes
    unfolding cell_count
    count-all h = rw (le-leb states 4096 few, eq-eqb bytes (states * 64) h)

  -- Every cell has its two bytes.
  count_held : cell_count states bytes ≤ bytes / 2
  unfolding cell_count
  count_held =
      bounded_if (fits states bytes) (states * 32) (bytes / 2)
      (λ t. let e : bytes ≡ states * 64 = eqb→eq bytes (states * 64) (and_right (leb states 4096) (eqb bytes (states * 64)) t) in omega arith)

  pub cell-held : (n k : ℕ) → n ≡ cell_count states bytes → k < n → k < bytes / 2
  cell-held n k e h = omega (arith, count_held)

  -- Room for m states is enough where no more are accepted.
  pub count_room : (m : ℕ) → (states ≤ 4096 → states ≤ m) → cell_count states bytes ≤ m * 32
  unfolding cell_count
  count_room m h =
      bounded_if (fits states bytes) (states * 32) (m * 32)
      (λ t. let l : states ≤ m = h (leb→le states 4096 (and_left (leb states 4096) (eqb bytes (states * 64)) t)) in omega arith)

-- ---- which

module _ (states : ℕ) (bytes : List ℕ) where
  pub cells_count : length (cells_of_bytes states bytes) ≡ cell_count states (length bytes)
  unfolding cells_of_bytes
  cells_count = length-tabulate (cell_in bytes) 0 (cell_count states (length bytes))

  pub cells_at : (k d : ℕ) → k < cell_count states (length bytes) → get_or (cells_of_bytes states bytes) k d ≡ cell_in bytes k
  unfolding cells_of_bytes
  cells_at k d h = get_d_tabulate_zero (cell_in bytes) (cell_count states (length bytes)) k d h

  -- So many cells are written to room of just that length.
  pub cells-written : (room : List ℕ) → length room ≡ cell_count states (length bytes) → Filled 0 (cell_in bytes) room (cell_count states (length bytes))
      → room ≡ cells_of_bytes states bytes
  unfolding cells_of_bytes
  cells-written room e f = filled-all 0 (cell_in bytes) room (cell_count states (length bytes)) e f
