-- What was read, copied to the front of the buffer.
use mathlib.Core.Path.{◌≡◌, ap, ◌∙◌}
use mathlib.Core.List.{List, ◌++◌}
use Prim.Native.Nat.{ℕ, ◌-◌, ◌≤◌}
use native.Mathlib.Omega.{arith}
use lib.ListN.{length, take, drop}
use lib.Seq.{drop_at, length-take-le}
use Rattle.std.specs.Prelude.{Option, Some, None, IfSome, unwrap_or}
use Rattle.emit.specs.Buffer.{stored}
use Rattle.emit.proofs.Buffer.{stored_front}
use Rattle.files.specs.Reading.{Reads}

module _ (before after room : List ℕ) where
  -- Behind the k bytes that were copied out of the room, the buffer is as it was.
  behind : (k : ℕ) → k ≤ length room → k ≤ length before → after ≡ stored before 0 (take (k - 0) room) → drop k after ≡ drop k before
  behind k h g e =
      let z : k - 0 ≡ k = omega arith in
      let n : length (take k room) ≡ k = length-take-le k room h in
      let f : after ≡ take k room ++ drop (length (take k room)) before = rw z at e ∙ stored_front before (take k room) (omega arith) in
      ap (drop k) (rw n at f) ∙ drop_at (take k room) (drop k before) k n

  -- At most k bytes were read into the room.
  pub copied : (read : Option ℕ) (n k : ℕ) → n ≡ unwrap_or read 0 → IfSome read (λ m. m ≤ k) → k ≤ 65537 → k ≤ length room → k ≤ length before
      → after ≡ stored before 0 (take (n - 0) room) → Reads read before after
  unfolding Reads
  copied (Some m) n k t l f h g e = (omega arith, omega arith, behind m (omega arith) (omega arith) (rw t at e))
  copied None n k t l f h g e = behind 0 (omega arith) (omega arith) (rw t at e)
