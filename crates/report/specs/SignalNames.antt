-- The names in the text of the sequencer that is made of two texts.
use Rattle.std.specs.Prelude.{List, [], ◌∷◌, ℕ, get_or}
use Rattle.theory.specs.Bounded.{tabulate}
use Rattle.text.specs.Reading.{Signal}
use Rattle.text.specs.Lookup.{nobody}
use Rattle.names.specs.declared.Names.{Names}
use Rattle.names.specs.NamePlaces.{name_at}
use Rattle.names.specs.Numbering.{entry_at}

-- `sequencer`.
abbrev pub sequencer_word : List ℕ
sequencer_word = 115 ∷ 101 ∷ 113 ∷ 117 ∷ 101 ∷ 110 ∷ 99 ∷ 101 ∷ 114 ∷ []

-- Signals have the names that the two texts gave them: those of the signals that were read, by number.
unfoldable pub signal_names : List Signal → List (List ℕ)
signal_names l = tabulate (λ a. (get_or l a nobody).name) 0 32

-- The names of a table of places in the texts m and p, by number.
unfoldable pub names_in : List ℕ → List ℕ → Names → List (List ℕ)
names_in m p s = tabulate (λ a. name_at m p (entry_at s a)) 0 32
