-- The replies of lookups: the part of a text where a signal's name stands, or why there is none, for any bytes.
use Rattle.std.specs.Prelude.{◌||◌, cond, List, ℕ, ◌<◌, get_or, Result, Ok, Err}
use Rattle.std.specs.Borrow.{Bor}
use Rattle.text.specs.Reading.{Signal, text_of, Outcome, finished, ended, Joint, both, neither}
use Rattle.text.specs.Lookup.{nobody, declares}
use Rattle.lines.specs.Places.{forward}
use Rattle.names.specs.declared.Names.{Names}
use Rattle.names.specs.Numbering.{Fit}
use Rattle.theory.specs.declared.Rule.{Rule}
use Rattle.theory.specs.declared.Rule.TheVariants as rule

-- Of two texts, which begin at x and y in memory, the part where the signal's name was first declared.
abbrev pub part_at : ℕ × ℕ → ℕ × ℕ → Signal → Bor (List ℕ)
part_at x y s = record { ref_ptr = forward (text_of x y s.text) s.from; now = s.name }

-- In two texts read together: the reading's refusal, then 12 for a signal that neither table declares.
abbrev pub name_reply : ℕ × ℕ → ℕ × ℕ → Joint → ℕ → Result (Bor (List ℕ)) Rule
name_reply x y (both m p) a = cond (declares m a || declares p a) (Ok (part_at x y (get_or p.signals a nobody))) (Err rule.NoAction)
name_reply x y (neither r) a = Err r.rule

-- In a text read alone.
abbrev pub name_alone_reply : ℕ × ℕ → Outcome → ℕ → Result (Bor (List ℕ)) Rule
name_alone_reply x (finished st) a = cond (declares st a) (Ok (part_at x x (get_or st.signals a nobody))) (Err rule.NoAction)
name_alone_reply x (ended r) a = Err r.rule

-- A signal that has a number.
pub record Held (m p : List ℕ) (s : Names) (a : ℕ) : Type 0 where
  pub fit : Fit m p s
  pub below : a < s.count
