-- What a call that is passed to a function gives.
use Rattle.std.specs.Prelude.{◌≡◌, List, ℕ}
use Rattle.std.specs.Borrow.{Bor, MutBor}
use Rattle.std.specs.Fn.{Once}

-- A call on the cells x and y of two tables, and on a lent buffer that holds z, gives the reply r, and leaves z' in the buffer.
pub record Gives {F R : Type 0} (g : Once F (Bor (List ℕ) × (Bor (List ℕ) × (MutBor (List ℕ) × Unit {0}))) (R × (MutBor (List ℕ) × Unit {0}))) (call : F) (x y z : List ℕ) (r : R) (z' : List ℕ) : Type 0 where
  pub first : Bor (List ℕ)
  pub second : Bor (List ℕ)
  pub lent : MutBor (List ℕ)
  pub shows : (first.now ≡ x) × (second.now ≡ y) × (lent.now ≡ z)
  pub left : MutBor (List ℕ)
  pub met : g.post call (first, (second, (lent, tt))) (r, (left, tt))
  pub leaves : left.now ≡ z'
