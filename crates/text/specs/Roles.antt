-- The roles of a table's signals: a header has a list of signals for each role (01, "A table").
use Rattle.std.specs.Prelude.{Bool, cond, ℕ}
use Rattle.theory.specs.declared.Automaton.{Automaton}
use Rattle.theory.specs.Table.{with_lists, member}
use Rattle.text.specs.declared.Role.{Role}
use Rattle.text.specs.declared.Role.TheVariants.{Input, Output}

-- The list of a role, as a set.
abbrev pub list_of : Role → Automaton → ℕ
list_of Input h = h.inputs
list_of Output h = h.outputs

-- The header with another list for a role.
abbrev pub with_list : Role → ℕ → Automaton → Automaton
with_list Input l h = with_lists h l h.outputs
with_list Output l h = with_lists h h.inputs l

-- The list of the role has the signal a.
abbrev pub has_role : Role → Automaton → ℕ → Bool
has_role r h a = member (list_of r h) a

-- The role of a declared signal.
abbrev pub role_of : Automaton → ℕ → Role
role_of h a = cond (has_role Input h a) Input Output
