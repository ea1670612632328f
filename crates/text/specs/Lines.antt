-- A line of table text (01, "Table text"): what it says at its place, or its refusal, 14 before 15 before 16 before 17.
use Rattle.std.specs.Prelude.{Bool, true, false, ◌&&◌, cond, List, [], ◌∷◌, ℕ}
use Rattle.text.specs.declared.Place.{Place}
use Rattle.text.specs.declared.Place.TheVariants.{Head, Declarations, Steps}
use Rattle.text.specs.declared.Role.{Role}
use Rattle.text.specs.declared.Role.TheVariants.{Input, Output}
use Rattle.text.specs.Fields.{split, same, name_ok, number_ok, value}
use Rattle.theory.specs.declared.Rule.TheVariants as rule
use Rattle.theory.specs.declared.Rule.{Rule}

-- What a line says: states and first state; a declared signal; a step; or why there is no such reading.
pub data Entry : Type 0 where
  table : (states initial : ℕ) → Entry
  declaration : Role → (name : List ℕ) → Entry
  step : (from : ℕ) (name : List ℕ) (to : ℕ) → Entry
  refused : Rule → Entry

-- ---- the kinds of line, by their words

abbrev pub table_word : List ℕ
table_word = 116 ∷ 97 ∷ 98 ∷ 108 ∷ 101 ∷ []

-- `in` and `out`.
abbrev pub role_word : Role → List ℕ
role_word Input = 105 ∷ 110 ∷ []
role_word Output = 111 ∷ 117 ∷ 116 ∷ []

abbrev pub step_word : List ℕ
step_word = 115 ∷ 116 ∷ 101 ∷ 112 ∷ []

-- ---- which lines may stand where

abbrev pub takes_table : Place → Bool
takes_table Head = true
takes_table Declarations = false
takes_table Steps = false

abbrev pub takes_declaration : Place → Bool
takes_declaration Head = false
takes_declaration Declarations = true
takes_declaration Steps = false

abbrev pub takes_step : Place → Bool
takes_step Head = false
takes_step Declarations = true
takes_step Steps = true

-- ---- the fields after the kind

-- 15, 16, 17: the line stands in place, its names and its numbers keep the rules.
abbrev pub judged : Bool → Bool → Bool → Entry → Entry
judged place names numbers e = cond place (cond names (cond numbers e (refused rule.NumberForm)) (refused rule.NameForm)) (refused rule.LineOrder)

unfoldable pub table_line : Place → List (List ℕ) → Entry
table_line p [] = refused rule.LineForm
table_line p (n ∷ []) = refused rule.LineForm
table_line p (n ∷ s ∷ []) = refused rule.LineForm
table_line p (n ∷ s ∷ f ∷ []) = judged (takes_table p) (name_ok n) (number_ok s && number_ok f) (table (value s) (value f))
table_line p (n ∷ s ∷ f ∷ x ∷ xs) = refused rule.LineForm

unfoldable pub declaration_line : Role → Place → List (List ℕ) → Entry
declaration_line r p [] = refused rule.LineForm
declaration_line r p (n ∷ []) = judged (takes_declaration p) (name_ok n) true (declaration r n)
declaration_line r p (n ∷ x ∷ xs) = refused rule.LineForm

unfoldable pub step_line : Place → List (List ℕ) → Entry
step_line p [] = refused rule.LineForm
step_line p (f ∷ []) = refused rule.LineForm
step_line p (f ∷ n ∷ []) = refused rule.LineForm
step_line p (f ∷ n ∷ t ∷ []) = judged (takes_step p) (name_ok n) (number_ok f && number_ok t) (step (value f) n (value t))
step_line p (f ∷ n ∷ t ∷ x ∷ xs) = refused rule.LineForm

-- ---- a line

unfoldable pub by_kind : Place → List (List ℕ) → Entry
by_kind p [] = refused rule.LineForm
by_kind p (k ∷ fs) =
    cond (same k table_word) (table_line p fs)
    (cond (same k (role_word Input)) (declaration_line Input p fs)
    (cond (same k (role_word Output)) (declaration_line Output p fs)
    (cond (same k step_word) (step_line p fs) (refused rule.LineForm))))

-- The line without its LF, fields parted by single tabs.
unfoldable pub parse : Place → List ℕ → Entry
parse p line = by_kind p (split 9 line)
