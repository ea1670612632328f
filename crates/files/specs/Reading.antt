-- What reading a file leaves in the lent buffer.
use Rattle.std.specs.Prelude.{◌≡◌, Option, Some, None, List, ℕ, ◌≤◌, length, drop}

-- The lent buffer before the reading and after it, by how many bytes the caller gets of the file: `None` of one that cannot be read. Which bytes the first k
-- are is the operating system's; those behind them are as they were, and so is the whole buffer where the file cannot be read. 65,537 is one more than the
-- longest text has.
unfoldable pub Reads : Option ℕ → List ℕ → List ℕ → Type 0
Reads (Some k) before after = (k ≤ 65537) × (k ≤ length before) × (drop k after ≡ drop k before)
Reads None before after = after ≡ before
