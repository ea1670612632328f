-- Where a refusal says that a table is at fault (02, S-2), said of cells by state and signal, without the order in which they are stored.
use Rattle.std.specs.Prelude.{◌≡◌, ◌⊎◌, List, [], ◌∷◌, ℕ, zero, suc, ◌<◌, ◌≤◌, T, None}
use Rattle.std.proofs.Math.Option.{Option, none, some}
use Rattle.theory.specs.Refusals.{Refusal}
use Rattle.theory.specs.Table.{Table, cell_at}
use Rattle.theory.specs.Checks.{Place, at_cell, declared}
use Rattle.theory.specs.Rules.{rule_number}

-- A cell is bad by 5: it is neither 65,535 nor a state.
abbrev pub Stray : Table → ℕ → ℕ → Type 0
Stray t s a = (¬ (cell_at t s a ≡ 65535)) × (t.header.states ≤ cell_at t s a)

-- A cell is bad by 6: it holds a step for a signal in none of its lists.
abbrev pub Undeclared : Table → ℕ → ℕ → Type 0
Undeclared t s a = (cell_at t s a < t.header.states) × (¬ T (declared t a))

-- One cell stands before another: in state order, then signal order.
abbrev pub Precedes : ℕ → ℕ → ℕ → ℕ → Type 0
Precedes s a s' a' = (s < s') ⊎ ((s ≡ s') × (a < a'))

-- The location is the first bad cell of a table.
pub record FirstBad (t : Table) (Bad : ℕ → ℕ → Type 0) (l : Place) : Type 0 where
  pub state : ℕ
  pub action : ℕ
  pub at : l ≡ at_cell state action
  pub in_states : state < t.header.states
  pub in_actions : action < 32
  pub bad : Bad state action
  pub before : (s a : ℕ) → a < 32 → Precedes s a state action → ¬ Bad s a

-- No cell of a table is bad.
abbrev pub NoneBad : Table → (ℕ → ℕ → Type 0) → Type 0
NoneBad t Bad = (s a : ℕ) → s < t.header.states → a < 32 → ¬ Bad s a

-- The tables of a call are called 1, 2, ..
abbrev pub called : List Table → ℕ → Option Table
called [] i = none
called (t ∷ l) zero = none
called (t ∷ l) (suc zero) = some t
called (t ∷ l) (suc (suc i)) = called l (suc i)

-- What a refusal's location says, by its number: what 5 and 6 say is asked of the table that the refusal names, and of the location.
pub data Located (five six : ℕ → Place → Type 0) (r : Refusal) : Type 0 where
  of_table : 1 ≤ rule_number r.rule → rule_number r.rule ≤ 4 → r.location ≡ at_cell 0 0 → Located five six r
  of_five : rule_number r.rule ≡ 5 → five r.table r.location → Located five six r
  of_six : rule_number r.rule ≡ 6 → six r.table r.location → Located five six r
  nowhere : 7 ≤ rule_number r.rule → r.location ≡ None → Located five six r

-- Of a call that makes checks 1 to 6 of its tables: the first cell bad by that number; for 6, no cell is bad by 5.
abbrev pub LocatedIn : List Table → Refusal → Type 0
LocatedIn tables =
    Located (λ i l. (t : Table) × (called tables i ≡ some t) × FirstBad t (Stray t) l)
    (λ i l. (t : Table) × (called tables i ≡ some t) × FirstBad t (Undeclared t) l × NoneBad t (Stray t))

-- Of the follower at a state, for a signal: its 5 names its own cell, and it makes no check 6.
abbrev pub LocatedAt : Table → ℕ → ℕ → Refusal → Type 0
LocatedAt t s a = Located (λ i l. (l ≡ at_cell s a) × Stray t s a) (λ i l. ⊥)
