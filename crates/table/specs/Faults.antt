-- Cells at fault, and the first of them.
use Rattle.std.specs.Prelude.{◌≡◌, ℕ, ◌+◌, ◌*◌, ◌/◌, ◌%◌, ◌≤◌, Bool, true, false, cond, not, ◌&&◌, List, length, nat_lt, slice_index, slice_index_or, Option, Some, None}
use Rattle.theory.specs.Bounded.{any, lowest}
use Rattle.theory.specs.Table.{member}
use Rattle.theory.specs.Checks.{stray}
use Rattle.table.specs.declared.faults.Walked.{Walked}
use Rattle.table.specs.declared.faults.Finding.{Finding}
use Rattle.theory.specs.declared.Rule.{Rule}
use Rattle.theory.specs.declared.Rule.TheVariants as rule

-- A cell of n states is at fault by check 5 (false) or by check 6 (true); acts has the declared actions.
abbrev pub fault : Bool → ℕ → ℕ → ℕ → ℕ → Bool
fault false n acts cell a = stray n cell
fault true n acts cell a = nat_lt cell n && not (member acts a)

-- The cell at index k is at fault.
abbrev pub fault_at : Bool → ℕ → ℕ → List ℕ → ℕ → Bool
fault_at six n acts cells k = fault six n acts (slice_index_or cells k 65535) (k % 32)

-- How many cells the whole rows of 32 have.
abbrev pub in_rows : List ℕ → ℕ
in_rows cells = length cells / 32 * 32

-- The rule of check 5 or 6, and the cell at fault by it.
abbrev pub found : Rule → ℕ → Option Finding
found k cell = Some (record { rule = k; cell = cell })

-- The rule of check 5 (false) and that of check 6 (true).
abbrev pub rule_of : Bool → Rule
rule_of false = rule.StrayCell
rule_of true = rule.UndeclaredStep

-- What the two walks find: the first cell at fault by check 5; where there is none, the first by check 6.
unfoldable pub first_fault : ℕ → ℕ → List ℕ → Option Finding
first_fault n acts cells =
    cond (any (in_rows cells) (fault_at false n acts cells)) (found rule.StrayCell (lowest (in_rows cells) (fault_at false n acts cells)))
    (cond (any (in_rows cells) (fault_at true n acts cells)) (found rule.UndeclaredStep (lowest (in_rows cells) (fault_at true n acts cells))) None)

-- ---- within the walks

-- Exclusive upper bound of a step by the action that neither check finds fault with.
abbrev pub limit : ℕ → ℕ → ℕ → ℕ
limit n acts a = cond (member acts a) n 0

-- The row's cell for the action is neither 65,535 nor below the action's limit.
abbrev pub stray_in : List ℕ → List ℕ → ℕ → ℕ → Bool
stray_in below cells row a = stray (slice_index below a) (slice_index cells (row * 32 + a))

-- No cell of the rows before this one is at fault, by either check.
pub record SoundBefore (n acts : ℕ) (cells : List ℕ) (row : ℕ) : Type 0 where
  pub within : row ≤ length cells / 32
  pub sound : (six : Bool) → any (row * 32) (fault_at six n acts cells) ≡ false

-- A walk's end: at the first cell at fault; and a row that the next walk may begin at.
pub record Ended (six : Bool) (n acts : ℕ) (cells : List ℕ) (w : Walked) : Type 0 where
  pub first : w.at ≡ lowest (in_rows cells) (fault_at six n acts cells)
  pub before : SoundBefore n acts cells w.row
