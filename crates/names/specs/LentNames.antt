-- Lent names, questions about those of a set of signals, and the checks on them.
use Rattle.std.specs.Prelude.{Bool, not, ◌&&◌, List, [], ◌∷◌, map, ℕ, ◌≤◌, ◌<◌, T, length}
use Rattle.std.specs.Borrow.{Bor}
use Rattle.theory.specs.declared.Automaton.{Automaton}
use Rattle.theory.specs.Bounded.{any}
use Rattle.theory.specs.Sets.{has}
use Rattle.theory.specs.Table.{table}
use Rattle.theory.specs.Checks.{Check, unplaced}
use Rattle.text.specs.declared.Spelling.{Spelling}
use Rattle.text.specs.declared.Spelling.TheVariants.{Exact, Folded}
use Rattle.text.specs.Fields.{matches, name_ok}
use Rattle.text.specs.Writing.{name_of, misnamed, ambiguous}
use Rattle.theory.specs.declared.Rule.TheVariants as rule

-- The parts that a list of references lends.
abbrev pub texts : List (Bor (List ℕ)) → List (List ℕ)
texts l = map (λ (x : Bor (List ℕ)). x.now) l

-- Some member of the set passes the test.
unfoldable pub any_of : ℕ → (ℕ → Bool) → Bool
any_of set f = any 32 (λ a. has set a && f a)

-- The names of two members of the set match in a spelling.
unfoldable pub repeated : Spelling → ℕ → List (List ℕ) → Bool
repeated c set names = any 32 (λ a. any a (λ b. (has set a && has set b) && matches c (name_of names a) (name_of names b)))

-- Every member of the set has an entry, no longer than a name may be.
pub record Named (set : ℕ) (names : List (List ℕ)) : Type 0 where
  pub entry : (a : ℕ) → a < 32 → T (has set a) → a < length names
  pub short : (a : ℕ) → a < 32 → T (has set a) → length (name_of names a) ≤ 16

-- ---- the checks: 16 of the table's name, 16 of a declared signal's name, 18 for equal signal names, 28 for names that clash (02, S-9)

unfoldable pub name_checks : Automaton → List ℕ → List (List ℕ) → List Check
name_checks a name names =
    unplaced rule.NameForm 0 (not (name_ok name)) ∷ unplaced rule.NameForm 0 (misnamed (table a []) name names) ∷ unplaced rule.DeclaredTwice 0 (ambiguous (table a []) name names Exact)
    ∷ unplaced rule.NameClash 0 (ambiguous (table a []) name names Folded) ∷ []
