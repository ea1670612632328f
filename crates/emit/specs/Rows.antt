-- The lines of table text, each with its LF.
use Rattle.std.specs.Prelude.{List, [], ◌∷◌, ℕ}
use Rattle.text.specs.declared.Role.{Role}
use Rattle.text.specs.Lines.{table_word, role_word, step_word}
use Rattle.text.specs.Writing.{decimal, printed}

abbrev pub table_text : List ℕ → ℕ → ℕ → List ℕ
table_text name states initial = printed ((table_word ∷ name ∷ decimal states ∷ decimal initial ∷ []) ∷ [])

abbrev pub signal_text : Role → List ℕ → List ℕ
signal_text role name = printed ((role_word role ∷ name ∷ []) ∷ [])

abbrev pub step_text : ℕ → List ℕ → ℕ → List ℕ
step_text from name to = printed ((step_word ∷ decimal from ∷ name ∷ decimal to ∷ []) ∷ [])
