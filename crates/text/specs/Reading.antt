-- The reading of table text (01, "Table text", and the refusals 13 to 22, 1, 2, 10; 02, S-9, and 28): a fold over the lines. The spelling says which names
-- are told apart: Folded in the reading, Exact in the archive reading, which keeps document 01's rule and never gives 28.
use Rattle.std.specs.Prelude.{Bool, true, false, not, ◌||◌, cond, List, [], ◌∷◌, ◌++◌, ℕ, suc, ◌+◌, ◌*◌, ◌^◌, eqb, ltb, leb, length, get_or, set, replicate, take}
use Rattle.std.specs.Int.Bits.{bit_or}
use Rattle.theory.specs.declared.Automaton.{Automaton}
use Rattle.theory.specs.Table.{header, Table, table as table_of}
use Rattle.theory.specs.Checks.{declared}
use Rattle.text.specs.declared.Place.{Place}
use Rattle.text.specs.declared.Place.TheVariants.{Head, Declarations, Steps}
use Rattle.text.specs.declared.Role.{Role}
use Rattle.text.specs.declared.Spelling.{Spelling}
use Rattle.text.specs.declared.Spelling.TheVariants.{Exact}
use Rattle.text.specs.declared.TextRefusal.{TextRefusal}
use Rattle.text.specs.Fields.{split, matches}
use Rattle.text.specs.Lines.{Entry, table, declaration, step, refused, role_word, parse}
use Rattle.text.specs.Roles.{list_of, with_list}
use Rattle.theory.specs.declared.Rule.TheVariants as rule
use Rattle.theory.specs.declared.Rule.{Rule}

-- A signal: its name, and where that was first declared: in which text (1, 2), from which byte on.
pub record Signal : Type 0 where
  pub name : List ℕ
  pub text : ℕ
  pub from : ℕ

-- Of two texts, or of two parts of memory, that of a text's number.
abbrev pub text_of : {A : Type 0} → A → A → ℕ → A
text_of m p text = cond (eqb text 2) p m

-- What has been read: the place that the next line has, the table's numbers so far, all signals so far by number, the lent cells.
pub record Reading : Type 0 where
  pub place : Place
  pub header : Automaton
  pub signals : List Signal
  pub cells : List ℕ

-- The table that was read: the lent cells beyond it are no part of it.
abbrev pub table_read : Reading → Table
table_read r = table_of r.header (take (r.header.states * 32) r.cells)

-- What a line does to a reading.
pub data Change : Type 0 where
  next : Reading → Change
  stop : Rule → Change

-- The number of the first signal whose name matches in a spelling; the next number where there is none.
unfoldable pub first_match : Spelling → List ℕ → List Signal → ℕ
first_match c n [] = 0
first_match c n (s ∷ l) = cond (matches c s.name n) 0 (suc (first_match c n l))

-- The number of a name: that of the signal that has it, or the next number.
abbrev pub index_of : List ℕ → List Signal → ℕ
index_of n l = first_match Exact n l

-- ---- the `table` line: 1, 2, 10

unfoldable pub started : Reading → ℕ → ℕ → Change
started st states initial =
    cond (eqb states 0 || ltb 4096 states) (stop rule.StateCount)
    (cond (leb states initial) (stop rule.InitialState)
    (cond (ltb (length st.cells) (states * 32)) (stop rule.RoomLength)
    (next (record {
      place = Declarations;
      header = header states initial 0 0;
      signals = st.signals;
      cells = st.cells;
    }))))

-- ---- a declaration: 18, 28, 21

-- The header with the signal a in the list of the role too.
abbrev pub with_role : Role → ℕ → Automaton → Automaton
with_role r a h = with_list r (bit_or (list_of r h) (2 ^ a)) h

-- The signals with this one, if its name is new.
abbrev pub known : List Signal → Signal → ℕ → List Signal
known l s a = cond (ltb a (length l)) l (l ++ s ∷ [])

-- Of the signal s, whose number is a. A name that matches one of a lower number, which is another name, clashes with it (28).
unfoldable pub declaring : Spelling → Reading → Role → Signal → ℕ → Change
declaring c st r s a =
    cond (declared (table_of st.header []) a) (stop rule.DeclaredTwice)
    (cond (ltb (first_match c s.name st.signals) a) (stop rule.NameClash)
    (cond (leb 32 a) (stop rule.NameCount)
    (next (record { place = Declarations; header = with_role r a st.header; signals = known st.signals s a; cells = st.cells }))))

-- ---- a step: 19, 20

-- Of the signal a.
unfoldable pub stepping : Reading → ℕ → ℕ → ℕ → Change
stepping st from a to =
    cond (not (declared (table_of st.header []) a) || leb st.header.states from || leb st.header.states to) (stop rule.UnknownInStep)
    (cond (not (eqb (get_or st.cells (from * 32 + a) 65535) 65535)) (stop rule.StepTwice)
    (next (record { place = Steps; header = st.header; signals = st.signals; cells = set st.cells (from * 32 + a) to })))

-- ---- a line, and all lines

-- A line of the given text that begins at the byte `at`. A declared name stands after the line's kind and a tab.
unfoldable pub entered : Spelling → ℕ → ℕ → Reading → Entry → Change
entered c text at st (table states initial) = started st states initial
entered c text at st (declaration r n) =
    declaring c st r (record { name = n; text = text; from = at + length (role_word r) + 1 }) (index_of n st.signals)
entered c text at st (step from n to) = stepping st from (index_of n st.signals) to
entered c text at st (refused k) = stop k

-- What comes of a text: what was read, or a refusal.
pub data Outcome : Type 0 where
  finished : Reading → Outcome
  ended : TextRefusal → Outcome

abbrev pub refuse_at : Rule → ℕ → ℕ → Outcome
refuse_at k text line = ended (record { rule = k; text = text; line = line })

abbrev pub onward : ℕ → ℕ → Change → (Reading → Outcome) → Outcome
onward text line (next st) f = f st
onward text line (stop n) f = refuse_at n text line

abbrev pub is_nil : List ℕ → Bool
is_nil [] = true
is_nil (x ∷ s) = false

-- The lines from the k-th on, which begins at the byte `at`. After the last LF nothing may stand (14).
unfoldable pub read_lines : Spelling → ℕ → ℕ → ℕ → Reading → List (List ℕ) → Outcome
read_lines c text k at st [] = finished st
read_lines c text k at st (l ∷ []) = cond (is_nil l) (finished st) (refuse_at rule.LineForm text k)
read_lines c text k at st (l ∷ m ∷ ls) =
    onward text k (entered c text at st (parse st.place l)) (λ st. read_lines c text (suc k) (at + length l + 1) st (m ∷ ls))

-- ---- a text

-- Before the first line: the signals that are numbered already, and lent cells, all 65,535.
abbrev pub fresh : List Signal → ℕ → Reading
fresh l room = record {
  place = Head;
  header = header 0 0 0 0;
  signals = l;
  cells = replicate room 65535;
}

-- 13, then the lines; 22.
unfoldable pub read_from : Spelling → List Signal → ℕ → ℕ → List ℕ → Outcome
read_from c l text room bytes =
    cond (ltb 65536 (length bytes)) (refuse_at rule.TextLength text 0)
    (cond (is_nil bytes) (refuse_at rule.EmptyText text 0) (read_lines c text 1 0 (fresh l room) (split 10 bytes)))

-- A text alone; room is the number of lent cells.
unfoldable pub read_alone : Spelling → ℕ → List ℕ → Outcome
read_alone c room bytes = read_from c [] 1 room bytes

-- A module's text to its end, then a plan's, whose signals continue the numbering.
pub data Joint : Type 0 where
  both : (component specification : Reading) → Joint
  neither : TextRefusal → Joint

abbrev pub after_second : Reading → Outcome → Joint
after_second m (finished p) = both m p
after_second m (ended r) = neither r

abbrev pub after_first : Spelling → ℕ → List ℕ → Outcome → Joint
after_first c room bytes (finished m) = after_second m (read_from c m.signals 2 room bytes)
after_first c room bytes (ended r) = neither r

unfoldable pub read_both : Spelling → ℕ → List ℕ → ℕ → List ℕ → Joint
read_both c room bytes room' bytes' = after_first c room' bytes' (read_alone c room bytes)

-- ---- the lent cells after a reading: a refused one leaves no step in any table concerned

abbrev pub cells_alone : ℕ → Outcome → List ℕ
cells_alone room (finished st) = st.cells
cells_alone room (ended r) = replicate room 65535

abbrev pub cells_first : ℕ → Joint → List ℕ
cells_first room (both m p) = m.cells
cells_first room (neither r) = replicate room 65535

abbrev pub cells_second : ℕ → Joint → List ℕ
cells_second room (both m p) = p.cells
cells_second room (neither r) = replicate room 65535
