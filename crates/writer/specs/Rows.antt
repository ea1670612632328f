-- The lines of a set of signals, of a cell, of a state, of all states.
use Rattle.std.specs.Prelude.{◌≡◌, ◌&&◌, cond, List, [], map, ℕ, ◌+◌, ◌*◌, ◌≤◌, ◌<◌, T, ltb, length, get_or}
use Rattle.theory.specs.declared.Automaton.{Automaton}
use Rattle.theory.specs.Sets.{has}
use Rattle.theory.specs.Table.{header, Table, table}
use Rattle.text.specs.Writing.{printed, those, signal_row, step_row, step_rows, has_step}
use Rattle.emit.specs.Rows.{step_text}

-- The declarations of the signals of a set, by ascending number, in the roles that the header gives them.
unfoldable pub signal_lines : ℕ → Automaton → List (List ℕ) → List ℕ
signal_lines set h names = printed (map (signal_row (table h []) names) (those (has set) 0 32))

-- The line of a cell at the state s, of n states; nothing if the cell holds no step.
abbrev pub cell_text : ℕ → ℕ → List ℕ → ℕ → List ℕ
cell_text n s name cell = cond (ltb cell n) (step_text s name cell) []

-- The part of a table that the lines of steps depend on: the number of states, and the cells.
abbrev pub steps : ℕ → List ℕ → Table
steps n cells = table (header n 0 0 0) cells

-- The steps of the state s by the signals of a set, by ascending number.
abbrev pub state_lines : ℕ → List ℕ → List (List ℕ) → ℕ → ℕ → List ℕ
state_lines n cells names s set =
    let t = steps n cells in
    printed (map (step_row t names s) (those (λ a. has set a && has_step t s a) 0 32))

-- The steps of all states.
abbrev pub step_lines : ℕ → List ℕ → List (List ℕ) → List ℕ
step_lines n cells names = printed (step_rows (steps n cells) names 0 n)

-- The signal of every step is in the set.
abbrev pub Known : ℕ → List ℕ → ℕ → Type 0
Known n cells set = (s a : ℕ) → s < n → a < 32 → get_or cells (s * 32 + a) 65535 < n → T (has set a)

-- All cells are there, and the signal of every step has an entry.
pub record Writable (n : ℕ) (cells : List ℕ) (names : List (List ℕ)) : Type 0 where
  pub few : n ≤ 4096
  pub size : length cells ≡ n * 32
  pub entry : (s a : ℕ) → s < n → a < 32 → get_or cells (s * 32 + a) 65535 < n → a < length names
