-- A name in two texts, m and p.
use Rattle.std.specs.Prelude.{List, ℕ, ◌/◌, ◌%◌, take, drop}
use Rattle.text.specs.Reading.{text_of}
use Rattle.names.specs.declared.Name.{Name}

-- The number of the text that a name stands in, and the name's length.
abbrev pub text_in : Name → ℕ
text_in n = n.place % 4

abbrev pub length_in : Name → ℕ
length_in n = n.place / 4

-- The bytes of a name.
abbrev pub name_at : List ℕ → List ℕ → Name → List ℕ
name_at m p n = take (length_in n) (drop n.from (text_of m p (text_in n)))
