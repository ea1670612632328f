-- The text of a table (01, "Table text"; 02, S-3), and why the writer turns a call away.
use Rattle.std.specs.Prelude.{◌≡◌, Bool, not, ◌&&◌, ◌||◌, cond, List, [], ◌∷◌, ◌++◌, map, ℕ, zero, suc, ◌+◌, ◌/◌, ◌%◌, T, ltb, length, get_or, drop}
use Rattle.theory.specs.Bounded.{any}
use Rattle.theory.specs.Closure.{is_some}
use Rattle.theory.specs.Table.{Table, automaton, cell_at}
use Rattle.theory.specs.Checks.{Check, unplaced, first, unless_refused, declared, table_checks}
use Rattle.text.specs.declared.Spelling.{Spelling}
use Rattle.text.specs.declared.Spelling.TheVariants.{Exact, Folded}
use Rattle.text.specs.Fields.{matches, name_ok}
use Rattle.text.specs.Lines.{table_word, role_word, step_word}
use Rattle.text.specs.Roles.{role_of}
use Rattle.theory.specs.declared.Rule.TheVariants as rule

-- ---- numbers

-- The decimal digits of a number below 10 ^ (k + 1), without needless zeros; of a greater one the last k + 1 digits.
unfoldable pub digits_of : ℕ → ℕ → List ℕ
digits_of zero n = (48 + n % 10) ∷ []
digits_of (suc k) n = cond (ltb n 10) ((48 + n % 10) ∷ []) (digits_of k (n / 10) ++ (48 + n % 10) ∷ [])

-- All digits of a number below 100,000: five at most.
unfoldable pub decimal : ℕ → List ℕ
decimal n = digits_of 4 n

-- ---- lines

-- A line without its LF: its fields, with tabs between.
unfoldable pub tabbed : List (List ℕ) → List ℕ
tabbed [] = []
tabbed (f ∷ []) = f
tabbed (f ∷ g ∷ fs) = f ++ 9 ∷ tabbed (g ∷ fs)

-- Lines, each ended by LF.
unfoldable pub printed : List (List (List ℕ)) → List ℕ
printed [] = []
printed (l ∷ ls) = tabbed l ++ 10 ∷ printed ls

-- ---- a table

-- The numbers from s on, n of them, that pass the test, ascending.
unfoldable pub those : (ℕ → Bool) → ℕ → ℕ → List ℕ
those f s zero = []
those f s (suc n) = cond (f s) (s ∷ those f (suc s) n) (those f (suc s) n)

-- The declared signals, by ascending number.
unfoldable pub signals : Table → List ℕ
signals t = those (declared t) 0 32

-- The name of a signal; a missing entry is an empty name.
abbrev pub name_of : List (List ℕ) → ℕ → List ℕ
name_of names a = get_or names a []

unfoldable pub table_row : Table → List ℕ → List (List ℕ)
table_row t name = table_word ∷ name ∷ decimal t.header.states ∷ decimal t.header.initial ∷ []

unfoldable pub signal_row : Table → List (List ℕ) → ℕ → List (List ℕ)
signal_row t names a = role_word (role_of t.header a) ∷ name_of names a ∷ []

unfoldable pub step_row : Table → List (List ℕ) → ℕ → ℕ → List (List ℕ)
step_row t names s a = step_word ∷ decimal s ∷ name_of names a ∷ decimal (cell_at t s a) ∷ []

-- The state s has a step by the signal a.
abbrev pub has_step : Table → ℕ → ℕ → Bool
has_step t s a = is_some ((automaton t).next s a)

-- The signals that are enabled at a state (001, Definition 1), by ascending number (02, S-3).
unfoldable pub enabled_signals : Table → ℕ → List ℕ
enabled_signals t s = those (has_step t s) 0 32

-- The steps of the states from s on, n of them.
unfoldable pub step_rows : Table → List (List ℕ) → ℕ → ℕ → List (List (List ℕ))
step_rows t names s zero = []
step_rows t names s (suc n) = map (step_row t names s) (enabled_signals t s) ++ step_rows t names (suc s) n

-- The whole text: signals by ascending number; steps by state of departure, and those of one state by ascending signal.
unfoldable pub whole_text : Table → List ℕ → List (List ℕ) → List ℕ
whole_text t name names =
    printed (table_row t name ∷ map (signal_row t names) (signals t) ++ step_rows t names 0 t.header.states)

-- ---- the writer's checks: 1 to 6, 16 (table name, then signals), 18 for equal signal names, 28 for names that clash (02, S-9), 23

module _ (t : Table) (name : List ℕ) (names : List (List ℕ)) where
  -- A declared signal's name breaks the name rule.
  abbrev pub misnamed : Bool
  misnamed = any 32 (λ a. declared t a && not (name_ok (name_of names a)))

  -- The names of two declared signals match in a spelling. Equal names are refused before those that clash.
  abbrev pub ambiguous : Spelling → Bool
  ambiguous c = any 32 (λ a. any a (λ b. (declared t a && declared t b) && matches c (name_of names a) (name_of names b)))

  unfoldable pub text_length : ℕ
  text_length = length (whole_text t name names)

  -- The text is longer than the lent buffer or than 65,536 bytes.
  abbrev pub too_long : ℕ → Bool
  too_long room = ltb room text_length || ltb 65536 text_length

  unfoldable pub writer_checks : ℕ → List Check
  writer_checks room =
      table_checks 1 t
      ++ (unplaced rule.NameForm 0 (not (name_ok name)) ∷ unplaced rule.NameForm 0 misnamed ∷ unplaced rule.DeclaredTwice 0 (ambiguous Exact) ∷ unplaced rule.NameClash 0 (ambiguous Folded)
      ∷ unplaced rule.TextRoom 0 (too_long room) ∷ [])

  -- The lent bytes after the call: the text, then the bytes as they were; all of them after a refusal.
  unfoldable pub writer_bytes : List ℕ → List ℕ
  writer_bytes bytes = unless_refused (first (writer_checks (length bytes))) (λ r. bytes) (whole_text t name names ++ drop text_length bytes)

-- ---- two calls

-- Equal tables, names and numbering (02, S-3): the same cells, lists and states, the same name of the table, and the same name for each declared
-- signal's number.
pub record SameWriting (t : Table) (name : List ℕ) (names : List (List ℕ)) (u : Table) (name' : List ℕ) (names' : List (List ℕ)) : Type 0 where
  pub tables : t ≡ u
  pub table_names : name ≡ name'
  pub signal_names : (a : ℕ) → T (declared t a) → name_of names a ≡ name_of names' a
