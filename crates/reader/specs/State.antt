-- A reading as the code holds it: names by their places in two lent texts, a state by value, lent cells. m and p are the two texts.
use Rattle.std.specs.Prelude.{◌≡◌, Bool, not, ◌||◌, List, [], ℕ, ◌+◌, ◌*◌, ◌<◌, ◌≤◌, leb, length, take, drop, replicate, Result, Ok, Err, IfOk, OnErr}
use Rattle.theory.specs.declared.Automaton.{Automaton}
use Rattle.theory.specs.Table.{header, table}
use Rattle.theory.specs.Checks.{declared}
use Rattle.text.specs.declared.Place.{Place}
use Rattle.text.specs.declared.Place.TheVariants.{Head}
use Rattle.text.specs.declared.Role.{Role}
use Rattle.text.specs.declared.Spelling.{Spelling}
use Rattle.text.specs.Fields.{split}
use Rattle.text.specs.Lines.{parse}
use Rattle.text.specs.declared.TextRefusal.{TextRefusal}
use Rattle.text.specs.Reading.{text_of, Reading, Change as Step, next, stop, Outcome, finished, ended, Joint, both, neither, index_of, started, declaring, stepping, entered, fresh, read_lines, read_from, read_alone, read_both}
use Rattle.lines.specs.declared.Record.{Record}
use Rattle.lines.specs.Located.{located}
use Rattle.names.specs.declared.Name.{Name}
use Rattle.names.specs.declared.Names.{Names}
use Rattle.names.specs.NamePlaces.{name_at}
use Rattle.names.specs.Numbering.{signal_at, signals_of, entry_of, Fit}
use Rattle.reader.specs.declared.state.State.{State}
use Rattle.reader.specs.declared.state.States.{States}
use Rattle.theory.specs.declared.Rule.{Rule}

-- ---- signals

-- The automaton of this header has the signal.
abbrev pub is_declared : Automaton → ℕ → Bool
is_declared h a = declared (table h []) a

-- The entry of a name in one of the texts, where it stands.
pub record Entry (m p name : List ℕ) (entry : Name) : Type 0 where
  pub bytes : name_at m p entry ≡ name
  pub placed : entry ≡ entry_of (signal_at m p entry)

-- ---- a line

-- The signal of a step, its state of departure or its target is not there.
abbrev pub lacking : Automaton → ℕ → ℕ → ℕ → Bool
lacking h from a to = not (is_declared h a) || leb h.states from || leb h.states to

abbrev pub reading : List ℕ → List ℕ → State → List ℕ → Reading
reading m p st cells = record { place = st.place; header = st.header; signals = signals_of m p st.signals; cells = cells }

-- The state after a line and the cells, or the rule that it breaks, which ends the reading.
abbrev pub result : List ℕ → List ℕ → Result State Rule → List ℕ → Step
result m p (Ok st) cells = next (reading m p st cells)
result m p (Err n) cells = stop n

-- What a state keeps to: its signals stand in the texts, 32 at most, and its table has room in the lent cells.
pub record Sound (m p : List ℕ) (st : State) (room : ℕ) : Type 0 where
  pub fit : Fit m p st.signals
  pub small : st.header.states ≤ 4096
  pub wide : st.header.states * 32 ≤ room

pub record Starts (st : State) (states initial room : ℕ) (r : Result State Rule) : Type 0 where
  pub sound : (m p : List ℕ) → Sound m p st room → IfOk r (λ s. Sound m p s room)
  pub means : (m p cells : List ℕ) → length cells ≡ room → result m p r cells ≡ started (reading m p st cells) states initial

pub record Declares (m p : List ℕ) (c : Spelling) (st : State) (role : Role) (name : List ℕ) (entry : Name) (r : Result State Rule) : Type 0 where
  pub sound : (room : ℕ) → Sound m p st room → IfOk r (λ s. Sound m p s room)
  pub means : (cells : List ℕ) → result m p r cells ≡ declaring c (reading m p st cells) role (signal_at m p entry) (index_of name (signals_of m p st.signals))

-- A cell that is there, and a number that fits into it.
pub record Putable (cells : List ℕ) (at to : ℕ) : Type 0 where
  pub there : at < length cells
  pub small : to ≤ 65535

pub record Steps (m p : List ℕ) (st : State) (cells : List ℕ) (from : ℕ) (name : List ℕ) (to : ℕ) (r : Result State Rule) (cells' : List ℕ) : Type 0 where
  pub sound : IfOk r (λ s. Sound m p s (length cells'))
  pub means : result m p r cells' ≡ stepping (reading m p st cells) from (index_of name (signals_of m p st.signals)) to

-- A line of a text of 65,536 bytes at most, its LF not included, from the byte `at` on.
pub record InText (m p : List ℕ) (text at : ℕ) (line : List ℕ) : Type 0 where
  pub few : text < 4
  pub short : length (text_of m p text) ≤ 65536
  pub within : at + length line < length (text_of m p text)
  pub there : line ≡ take (length line) (drop at (text_of m p text))

-- The record r is what a line in a text says, at this place of the reading.
pub record Says (m p : List ℕ) (text at : ℕ) (line : List ℕ) (place : Place) (r : Record) : Type 0 where
  pub inside : InText m p text at line
  pub told : Ok r ≡ located line (parse place line)

pub record Enters (m p : List ℕ) (text : ℕ) (c : Spelling) (at : ℕ) (line : List ℕ) (st : State) (cells : List ℕ) (r : Result State Rule) (cells' : List ℕ) : Type 0 where
  pub sound : IfOk r (λ s. Sound m p s (length cells'))
  pub means : result m p r cells' ≡ entered c text at (reading m p st cells) (parse st.place line)

-- ---- a text, and two

abbrev pub fresh_state : Names → State
fresh_state s = record { place = Head; header = header 0 0 0 0; signals = s }

abbrev pub outcome : List ℕ → List ℕ → Result State TextRefusal → List ℕ → Outcome
outcome m p (Ok st) cells = finished (reading m p st cells)
outcome m p (Err r) cells = ended r

-- Cells without a step.
pub record Blank (cells : List ℕ) : Type 0 where
  pub blank : cells ≡ replicate (length cells) 65535

pub record ReadsLines (m p : List ℕ) (text : ℕ) (c : Spelling) (s : Names) (room : ℕ) (r : Result State TextRefusal) (cells : List ℕ) : Type 0 where
  pub fit : IfOk r (λ st. Fit m p st.signals)
  pub means : outcome m p r cells ≡ read_lines c text 1 0 (fresh (signals_of m p s) room) (split 10 (text_of m p text))

pub record Reads (m p : List ℕ) (text : ℕ) (c : Spelling) (s : Names) (room : ℕ) (r : Result State TextRefusal) (cells : List ℕ) : Type 0 where
  pub fit : IfOk r (λ st. Fit m p st.signals)
  pub means : outcome m p r cells ≡ read_from c (signals_of m p s) text room (text_of m p text)
  pub left : OnErr r (cells ≡ replicate room 65535)

-- A text that is read alone.
pub record ReadsOne (m : List ℕ) (c : Spelling) (room : ℕ) (r : Result State TextRefusal) (cells : List ℕ) : Type 0 where
  pub fit : IfOk r (λ st. Fit m m st.signals)
  pub means : outcome m m r cells ≡ read_alone c room m
  pub left : OnErr r (cells ≡ replicate room 65535)

abbrev pub joint : List ℕ → List ℕ → Result States TextRefusal → List ℕ → List ℕ → Joint
joint m p (Ok s) cells cells' = both (reading m p s.first cells) (reading m p s.second cells')
joint m p (Err r) cells cells' = neither r

pub record ReadsBoth (m p : List ℕ) (c : Spelling) (room room' : ℕ) (r : Result States TextRefusal) (cells cells' : List ℕ) : Type 0 where
  pub fit : IfOk r (λ s. Fit m p s.second.signals)
  pub means : joint m p r cells cells' ≡ read_both c room m room' p
  pub left : OnErr r ((cells ≡ replicate room 65535) × (cells' ≡ replicate room' 65535))
