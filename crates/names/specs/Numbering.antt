-- The names that have a number, as a table of their places in two lent texts, m and p.
use Rattle.std.specs.Prelude.{◌≡◌, Bool, ◌&&◌, ◌||◌, cond, List, [], ◌∷◌, ◌++◌, map, ℕ, suc, ◌+◌, ◌-◌, ◌*◌, ◌%◌, ◌≤◌, eqb, ltb, leb, length, get_or, take, set, replicate}
use Rattle.text.specs.declared.Spelling.{Spelling}
use Rattle.text.specs.Fields.{matches}
use Rattle.text.specs.Reading.{Signal}
use Rattle.names.specs.declared.Name.{Name}
use Rattle.names.specs.declared.Names.{Names}
use Rattle.names.specs.NamePlaces.{text_in, name_at}

-- ---- the key of a name

-- The k-th byte from the end; 0 where s is shorter.
unfoldable pub from_end : ℕ → List ℕ → ℕ
from_end k s = cond (ltb (length s) k) 0 (get_or s (length s - k) 0)

-- A number made of the last bits of the last two bytes, five and three, which the two cases of a letter share: names of different keys match in no
-- spelling.
unfoldable pub key : List ℕ → ℕ
key s = from_end 1 s % 32 + from_end 2 s % 8 * 32

-- ---- a table of names

abbrev pub unused : Name
unused = record { place = 0; key = 0; from = 0 }

-- The entries that are used.
abbrev pub entries_of : Names → List Name
entries_of s = take s.count s.entries

-- The entry of a number.
abbrev pub entry_at : Names → ℕ → Name
entry_at s number = get_or s.entries number unused

-- The signal that an entry stands for; the signals of a table, by number.
abbrev pub signal_at : List ℕ → List ℕ → Name → Signal
signal_at m p n = record { name = name_at m p n; text = text_in n; from = n.from }

unfoldable pub signals_of : List ℕ → List ℕ → Names → List Signal
signals_of m p s = map (signal_at m p) (entries_of s)

-- The entry of a signal, and the table of some signals: the entries that are not used are all the same.
abbrev pub entry_of : Signal → Name
entry_of s = record { place = s.text + length s.name * 4; key = key s.name; from = s.from }

abbrev pub table_of : List Signal → Names
table_of l = record { entries = map entry_of l ++ replicate (32 - length l) unused; count = length l }

-- A table of 32 names at most, which is that of the signals that it stands for.
pub record Fit (m p : List ℕ) (s : Names) : Type 0 where
  pub few : s.count ≤ 32
  pub is : s ≡ table_of (signals_of m p s)

-- ---- finding a name, adding one

-- The place of the first element that passes the test; behind the last where none does.
unfoldable pub first_place : {A : Type 0} → (A → Bool) → List A → ℕ
first_place f [] = 0
first_place f (x ∷ l) = cond (f x) 0 (suc (first_place f l))

-- An entry has the key of the wanted name, and its name matches that in a spelling.
abbrev pub is_of : List ℕ → List ℕ → Spelling → List ℕ → Name → Bool
is_of m p c wanted n = eqb n.key (key wanted) && matches c (name_at m p n) wanted

-- The table with the entry behind the others, unless the number is taken or the table is full.
unfoldable pub with_entry : Names → Name → ℕ → Names
with_entry s n number =
    cond (ltb number s.count || leb 32 s.count) s (record { entries = set s.entries s.count n; count = s.count + 1 })
