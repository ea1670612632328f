-- The sizes that the program's buffers hold.
use Rattle.std.specs.Prelude.{ℕ, ◌≤◌}

pub record Room (n m result : ℕ) : Type 0 where
  pub one : n ≤ 4096
  pub two : m ≤ 4096
  pub size : result ≤ 133120
