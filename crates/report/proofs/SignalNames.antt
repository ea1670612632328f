-- The names that are lent to the writer are those of the signals that were read.
use mathlib.Core.Path.{◌≡◌, ap, ◌∙◌}
use mathlib.Core.List.{List}
use Prim.Native.Nat.{ℕ}
use lib.ListN.{get_or}
use Rattle.theory.proofs.Bounded.{tabulate-same}
use Rattle.text.specs.Reading.{Signal}
use Rattle.text.specs.Lookup.{nobody}
use Rattle.names.specs.declared.Names.{Names}
use Rattle.names.specs.Numbering.{signals_of, table_of}
use Rattle.names.proofs.NumberedNames.{part-name}
use Rattle.report.specs.SignalNames.{signal_names, names_in}

-- A table of names that stands for some signals has their names.
pub named-signals : (m p : List ℕ) (s : Names) → s ≡ table_of (signals_of m p s) → (l : List Signal) → signals_of m p s ≡ l → names_in m p s ≡ signal_names l
unfolding names_in signal_names
named-signals m p s is l e = tabulate-same _ _ 0 32 (λ a h. part-name m p s is a ∙ ap (λ x. (get_or x a nobody).name) e)
