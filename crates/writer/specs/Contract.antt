-- What the writer replies, for all arguments, and what its parts do.
use Rattle.std.specs.Prelude.{List, [], ◌∷◌, ◌++◌, ℕ, length, drop, Result, Ok, Err}
use Rattle.theory.specs.Refusals.{Refusal}
use Rattle.theory.specs.Table.{Table}
use Rattle.theory.specs.Checks.{Check, unplaced, first, unless_refused, table_checks}
use Rattle.text.specs.Writing.{whole_text, text_length, too_long, writer_checks}
use Rattle.names.specs.LentNames.{name_checks}
use Rattle.theory.specs.declared.Rule.TheVariants as rule

unfoldable pub writer_reply : Table → List ℕ → List (List ℕ) → ℕ → Result ℕ Refusal
writer_reply t name names room = unless_refused (first (writer_checks t name names room)) Err (Ok (text_length t name names))

-- ---- the parts: all checks but 23, and 23 with the text

unfoldable pub checks_before : Table → List ℕ → List (List ℕ) → List Check
checks_before t name names = table_checks 1 t ++ name_checks t.header name names

unfoldable pub length_check : Table → List ℕ → List (List ℕ) → ℕ → List Check
length_check t name names room = unplaced rule.TextRoom 0 (too_long t name names room) ∷ []

unfoldable pub print_reply : Table → List ℕ → List (List ℕ) → ℕ → Result ℕ Refusal
print_reply t name names room = unless_refused (first (length_check t name names room)) Err (Ok (text_length t name names))

unfoldable pub print_bytes : Table → List ℕ → List (List ℕ) → List ℕ → List ℕ
print_bytes t name names bytes =
    unless_refused (first (length_check t name names (length bytes))) (λ r. bytes) (whole_text t name names ++ drop (text_length t name names) bytes)
