-- The clashes among the signals of a reading (02, S-9): names that differ from one declared before them in the case of letters alone.
use Rattle.std.specs.Prelude.{◌≡◌, false, List, map, ℕ, ◌<◌, ltb, length, get_or, take}
use Rattle.text.specs.declared.Spelling.TheVariants.{Folded}
use Rattle.text.specs.declared.Declaration.{Declaration}
use Rattle.text.specs.declared.Clash.{Clash}
use Rattle.text.specs.Fields.{split, matches}
use Rattle.text.specs.Reading.{Signal, text_of, first_match}
use Rattle.text.specs.Writing.{those}
use Rattle.text.specs.Lookup.{nobody}

module _ (l : List Signal) where
  -- The lowest number whose name is that of the signal a when the case of letters is ignored: a itself where no earlier name is.
  abbrev pub first_alike : ℕ → ℕ
  first_alike a = first_match Folded (get_or l a nobody).name l

  -- The signals that clash with one declared before them, in reading order.
  unfoldable pub clashing : List ℕ
  clashing = those (λ a. ltb (first_alike a) a) 0 (length l)

  -- No two names are the same when the case of letters is ignored.
  abbrev pub Unlike : Type 0
  Unlike = (a b : ℕ) → a < b → b < length l → matches Folded (get_or l a nobody).name (get_or l b nobody).name ≡ false

-- The line of a text in which its byte `from` stands: lines end by LF.
unfoldable pub line_of : List ℕ → ℕ → ℕ
line_of bytes from = length (split 10 (take from bytes))

-- Where a signal of the texts m and p is first declared.
abbrev pub declared_at : List ℕ → List ℕ → Signal → Declaration
declared_at m p s = record { text = s.text; line = line_of (text_of m p s.text) s.from }

-- The signal a and the first that it clashes with.
abbrev pub clash_at : List ℕ → List ℕ → List Signal → ℕ → Clash
clash_at m p l a = record { later = declared_at m p (get_or l a nobody); first = declared_at m p (get_or l (first_alike l a) nobody) }

unfoldable pub clashes_of : List ℕ → List ℕ → List Signal → List Clash
clashes_of m p l = map (clash_at m p l) (clashing l)
