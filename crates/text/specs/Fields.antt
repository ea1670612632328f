-- Parts of a text, the name rule, the number rule (01, "Table text"). A text, a line and a field are lists of bytes.
use Rattle.std.specs.Prelude.{Bool, true, false, not, ◌&&◌, ◌||◌, cond, List, [], ◌∷◌, ℕ, suc, ◌+◌, ◌-◌, ◌*◌, eqb, leb, length, get_or, Option, Some, None}
use Rattle.text.specs.declared.Spelling.{Spelling}
use Rattle.text.specs.declared.Spelling.TheVariants.{Exact, Folded}

-- ---- parts

-- A byte before the first of some parts.
abbrev pub onto : ℕ → List (List ℕ) → List (List ℕ)
onto x [] = (x ∷ []) ∷ []
onto x (f ∷ fs) = (x ∷ f) ∷ fs

-- The parts between bytes b, empty ones too: by tabs the fields of a line, by LFs the lines of a text and what stands after the last LF.
unfoldable pub split : ℕ → List ℕ → List (List ℕ)
split b [] = [] ∷ []
split b (x ∷ s) = cond (eqb x b) ([] ∷ split b s) (onto x (split b s))

-- How many bytes stand before the first b; all where there is none.
unfoldable pub upto : ℕ → List ℕ → ℕ
upto b [] = 0
upto b (x ∷ s) = cond (eqb x b) 0 (suc (upto b s))

-- All bytes pass the test.
unfoldable pub all : (ℕ → Bool) → List ℕ → Bool
all f [] = true
all f (x ∷ s) = f x && all f s

-- ---- comparing

-- A capital letter of ASCII as its small one; any other byte as it is.
abbrev pub lower : ℕ → ℕ
lower x = cond (leb 65 x && leb x 90) (x + 32) x

-- A byte in a spelling (02, S-9).
abbrev pub spelled : Spelling → ℕ → ℕ
spelled Exact x = x
spelled Folded x = lower x

-- The same bytes in a spelling.
unfoldable pub matches : Spelling → List ℕ → List ℕ → Bool
matches c [] [] = true
matches c [] (y ∷ t) = false
matches c (x ∷ s) [] = false
matches c (x ∷ s) (y ∷ t) = eqb (spelled c x) (spelled c y) && matches c s t

-- The same bytes.
abbrev pub same : List ℕ → List ℕ → Bool
same s t = matches Exact s t

-- Different bytes, which differ in the case of letters alone: the names clash (02, S-9).
abbrev pub clash : List ℕ → List ℕ → Bool
clash s t = matches Folded s t && not (same s t)

-- ---- names: 1 to 16 letters, digits or underscores of ASCII

unfoldable pub name_byte : ℕ → Bool
name_byte x = (leb 48 x && leb x 57) || (leb 65 x && leb x 90) || (leb 97 x && leb x 122) || eqb x 95

unfoldable pub name_ok : List ℕ → Bool
name_ok s = leb 1 (length s) && leb (length s) 16 && all name_byte s

-- ---- decimal numbers: 1 to 5 digits, no needless leading zero, at most 65,535

unfoldable pub digit_byte : ℕ → Bool
digit_byte x = leb 48 x && leb x 57

-- The value of the digits of s, after digits of the value v.
unfoldable pub value_from : ℕ → List ℕ → ℕ
value_from v [] = v
value_from v (x ∷ s) = value_from (v * 10 + (x - 48)) s

abbrev pub value : List ℕ → ℕ
value s = value_from 0 s

unfoldable pub number_ok : List ℕ → Bool
number_ok s =
    leb 1 (length s) && leb (length s) 5 && all digit_byte s && (eqb (length s) 1 || not (eqb (get_or s 0 0) 48)) && leb (value s) 65535

-- The value of a number; none where the rule is broken.
unfoldable pub number : List ℕ → Option ℕ
number s = cond (number_ok s) (Some (value s)) None
