-- The replies for a line: an entry's fields, a name in them by where it stands in its line; and what is found on the way to them.
use Rattle.std.specs.Prelude.{Bool, true, false, ◌&&◌, cond, List, [], ◌∷◌, ℕ, ◌+◌, ltb, length, take, drop, Option, Some, None, Result, Ok, Err}
use Rattle.text.specs.declared.Place.{Place}
use Rattle.text.specs.declared.Role.TheVariants.{Input, Output}
use Rattle.text.specs.Fields.{split, upto, same, name_ok, value, number_ok}
use Rattle.text.specs.Lines.{Entry, table, declaration, step, refused, table_word, role_word, step_word, parse}
use Rattle.lines.specs.declared.Record.{Record}
use Rattle.lines.specs.declared.Record.TheVariants.{Table, Declaration, Step}
use Rattle.lines.specs.declared.Line.{Line}
use Rattle.lines.specs.declared.Kind.{Kind}
use Rattle.lines.specs.declared.Kind.TheVariants.{TableLine, DeclarationLine, StepLine}
use Rattle.theory.specs.declared.Rule.{Rule}
use Rattle.theory.specs.declared.Rule.TheVariants as rule

-- ---- the reply

-- The reply for an entry; a step's name begins at the byte a.
abbrev pub placed : ℕ → Entry → Result Record Rule
placed a (table states initial) = Ok (Table states initial)
placed a (declaration r n) = Ok (Declaration r)
placed a (step from n to) = Ok (Step from a (a + length n) to)
placed a (refused k) = Err k

-- What follows the first tab of a line.
abbrev pub after_kind : List ℕ → List ℕ
after_kind l = drop (upto 9 l + 1) l

-- The byte after the second tab: there the name of a step begins.
abbrev pub step_name : List ℕ → ℕ
step_name l = upto 9 l + 1 + upto 9 (after_kind l) + 1

-- The reply for an entry of the line l.
abbrev pub located : List ℕ → Entry → Result Record Rule
located l e = placed (step_name l) e

-- The reply for a line of n bytes.
abbrev pub measured : ℕ → Result Record Rule → Result Line Rule
measured n (Ok r) = Ok (record { «record» = r; length = n })
measured n (Err k) = Err k

-- The reply for the first line of s: 14 where it lacks its LF.
unfoldable pub first_line : Place → List ℕ → Result Line Rule
first_line p s =
    cond (ltb (upto 10 s) (length s))
    (measured (upto 10 s) (located (take (upto 10 s) s) (parse p (take (upto 10 s) s)))) (Err rule.LineForm)

-- ---- on the way

-- The kind of line that the first field k names.
unfoldable pub kind_of : List ℕ → Option Kind
kind_of k =
    cond (same k table_word) (Some TableLine)
    (cond (same k (role_word Input)) (Some (DeclarationLine Input))
    (cond (same k (role_word Output)) (Some (DeclarationLine Output))
    (cond (same k step_word) (Some StepLine) None)))

abbrev pub is_three : List (List ℕ) → Bool
is_three [] = false
is_three (x ∷ []) = false
is_three (x ∷ y ∷ []) = false
is_three (x ∷ y ∷ z ∷ []) = true
is_three (x ∷ y ∷ z ∷ v ∷ fs) = false

-- Where the tabs of three fields stand.
unfoldable pub three_fields : List ℕ → Option (ℕ × ℕ)
three_fields s = cond (is_three (split 9 s)) (Some (upto 9 s, upto 9 s + 1 + upto 9 (after_kind s))) None

-- The values of the two numbers x and y, or 15, 16 or 17.
unfoldable pub judgement : Bool → List ℕ → List ℕ → List ℕ → Result (ℕ × ℕ) Rule
judgement place n x y =
    cond place (cond (name_ok n) (cond (number_ok x && number_ok y) (Ok (value x, value y)) (Err rule.NumberForm)) (Err rule.NameForm)) (Err rule.LineOrder)
