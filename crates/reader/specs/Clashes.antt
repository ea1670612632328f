-- The clashes of two texts as the code holds them: in an array of 32.
use Rattle.std.specs.Prelude.{◌≡◌, List, ◌++◌, map, ℕ, ◌+◌, ◌-◌, ◌<◌, ltb, length, set, replicate, Result, Ok, Err}
use Rattle.text.specs.declared.Clash.{Clash}
use Rattle.text.specs.declared.Declaration.{Declaration}
use Rattle.text.specs.declared.TextRefusal.{TextRefusal}
use Rattle.text.specs.Reading.{Signal, Joint, both, neither}
use Rattle.text.specs.Writing.{those}
use Rattle.text.specs.Clashes.{first_alike, clash_at, clashes_of}
use Rattle.reader.specs.declared.ClashList.{ClashList}
use Rattle.names.specs.declared.Names.{Names}
use Rattle.names.specs.Numbering.{signals_of, Fit}

-- A row that is not used.
abbrev pub unused : Clash
unused = record { later = record { text = 0; line = 0 }; first = record { text = 0; line = 0 } }

abbrev pub in_rows : List Clash → ClashList
in_rows l = record { rows = l ++ replicate (32 - length l) unused; count = length l }

-- By what was read: the clashes among all signals, or the refusal.
abbrev pub listing : List ℕ → List ℕ → Joint → Result ClashList TextRefusal
listing m p (both x y) = Ok (in_rows (clashes_of m p y.signals))
listing m p (neither r) = Err r

-- ---- while they are found

-- The clashes with one more.
abbrev pub with_clash : ClashList → (later first : Declaration) → ClashList
with_clash c later first = record { rows = set c.rows c.count (record { later = later; first = first }); count = c.count + 1 }

-- The clashes of the signals below i.
unfoldable pub clashes_below : List ℕ → List ℕ → List Signal → ℕ → List Clash
clashes_below m p l i = map (clash_at m p l) (those (λ a. ltb (first_alike l a) a) 0 i)

-- A signal that has a number, after all below it.
pub record Visitable (m p : List ℕ) (s : Names) (i : ℕ) (c : ClashList) : Type 0 where
  pub fit : Fit m p s
  pub below : i < s.count
  pub done : c ≡ in_rows (clashes_below m p (signals_of m p s) i)
