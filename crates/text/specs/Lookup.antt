-- A signal's name as the part of a text where it was first declared (01, "Table text"), and why there is none.
use Rattle.std.specs.Prelude.{Bool, ◌||◌, cond, List, [], ℕ, get_or}
use Rattle.theory.specs.Table.{table}
use Rattle.theory.specs.Checks.{declared}
use Rattle.text.specs.declared.Spelling.{Spelling}
use Rattle.text.specs.Reading.{Signal, Reading, Outcome, finished, ended, read_alone, Joint, both, neither, read_both}
use Rattle.theory.specs.Rules.{rule_number}

-- Cells enough for any table: a lookup reads into so many of its own, and 10 never applies to it (proofs/NeverTen.antt).
abbrev pub ample : ℕ
ample = 131072

-- No signal: an empty part.
abbrev pub nobody : Signal
nobody = record { name = []; text = 0; from = 0 }

-- The table that was read has the signal a.
abbrev pub declares : Reading → ℕ → Bool
declares st a = declared (table st.header []) a

-- ---- in two texts read together: the reading's refusal, then 12 for a signal that neither table declares

abbrev pub signal_of : Joint → ℕ → Signal
signal_of (both m p) a = cond (declares m a || declares p a) (get_or p.signals a nobody) nobody
signal_of (neither r) a = nobody

-- The number of the refusal, 0 where nothing is refused.
abbrev pub number_of : Joint → ℕ → ℕ
number_of (both m p) a = cond (declares m a || declares p a) 0 12
number_of (neither r) a = rule_number r.rule

unfoldable pub lookup : Spelling → List ℕ → List ℕ → ℕ → Signal
lookup c m p a = signal_of (read_both c ample m ample p) a

unfoldable pub lookup_number : Spelling → List ℕ → List ℕ → ℕ → ℕ
lookup_number c m p a = number_of (read_both c ample m ample p) a

-- ---- in a text read alone

abbrev pub signal_alone : Outcome → ℕ → Signal
signal_alone (finished st) a = cond (declares st a) (get_or st.signals a nobody) nobody
signal_alone (ended r) a = nobody

abbrev pub number_alone : Outcome → ℕ → ℕ
number_alone (finished st) a = cond (declares st a) 0 12
number_alone (ended r) a = rule_number r.rule

unfoldable pub lookup_alone : Spelling → List ℕ → ℕ → Signal
lookup_alone c m a = signal_alone (read_alone c ample m) a

unfoldable pub lookup_number_alone : Spelling → List ℕ → ℕ → ℕ
lookup_number_alone c m a = number_alone (read_alone c ample m) a
