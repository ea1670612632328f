-- What the program `clashes` prints of two texts (02, S-9). m is the module's text, p the plan's.
use Rattle.std.specs.Prelude.{◌≡◌, List, ◌∷◌, map, ℕ, ◌≤◌, length, take}
use Rattle.text.specs.declared.Clash.{Clash}
use Rattle.text.specs.declared.Spelling.TheVariants.{Exact}
use Rattle.text.specs.Reading.{Joint, both, neither, read_both}
use Rattle.text.specs.Writing.{decimal, printed}
use Rattle.text.specs.Clashes.{clashes_of}
use Rattle.report.specs.Lines.{refusal_text, clash_row}
use Rattle.reader.specs.declared.ClashList.{ClashList}
use Rattle.theory.specs.Rules.{rule_number}

-- A line for each clash, in reading order; of none no byte.
unfoldable pub clash_lines : List Clash → List ℕ
clash_lines l = printed (map clash_row l)

-- By what was read: the clashes among all signals, or the refusal, alone.
abbrev pub listed : List ℕ → List ℕ → Joint → List ℕ
listed m p (both x y) = clash_lines (clashes_of m p y.signals)
listed m p (neither r) = refusal_text r.text (rule_number r.rule) r.line

-- All that is printed, where so many cells are lent for the two tables of the archive reading.
unfoldable pub listing_text : List ℕ → List ℕ → (cm cp : ℕ) → List ℕ
listing_text m p cm cp = listed m p (read_both Exact cm m cp p)

-- The first line of a text that is printed begins with these two numbers.
pub record FirstLine (text : List ℕ) (file line : ℕ) : Type 0 where
  pub others : List (List ℕ)
  pub rows : List (List (List ℕ))
  pub lines : text ≡ printed ((decimal file ∷ decimal line ∷ others) ∷ rows)

-- ---- while it is printed

-- The rows that are used.
abbrev pub lines_of : ClashList → List ℕ
lines_of c = clash_lines (take c.count c.rows)

-- 32 rows, of which no more are used.
pub record Listed (c : ClashList) : Type 0 where
  pub few : c.count ≤ 32
  pub size : length c.rows ≡ 32
