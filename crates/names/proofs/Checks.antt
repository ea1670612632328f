-- The checks on names, as the code makes them.
use mathlib.Core.Path.{◌≡◌, sym, ap, ◌∙◌}
use mathlib.Core.Bool.{Bool, true, false, not}
use mathlib.Core.List.{List, []}
use Prim.Native.Nat.{ℕ, ◌≤◌, ◌<◌}
use native.Mathlib.Omega.{arith}
use lib.ListN.{length}
use borrow.Author.Tests.{not-false}
use Rattle.theory.proofs.Tests.{is_false}
use Rattle.theory.specs.declared.Automaton.{Automaton}
use Rattle.std.specs.Prelude.{Ok, Err, None}
use Rattle.theory.specs.Refusals.{Refusal}
use Rattle.theory.specs.Sets.{has}
use Rattle.theory.specs.Table.{declared_set, Table, table}
use Rattle.theory.specs.Checks.{first, refusal, declared}
use Rattle.theory.proofs.Bounded.{any_cong}
use Rattle.theory.proofs.Checks.{passed_first}
use Rattle.theory.proofs.Sets.{has-member}
use Rattle.theory.proofs.Table.{declared-set}
use Rattle.text.specs.declared.Spelling.{Spelling}
use Rattle.text.specs.declared.Spelling.TheVariants.{Exact, Folded}
use Rattle.text.specs.Fields.{name_ok}
use Rattle.text.specs.Writing.{name_of, misnamed, ambiguous}
use Rattle.names.specs.LentNames.{any_of, repeated, Named, name_checks}
use Rattle.lines.proofs.NameRule.{name-short}
use Rattle.names.proofs.LentNames.{named-all, exact_none}
use Rattle.theory.specs.declared.Rule.TheVariants as rule

-- The declared signals are the members of the set that code takes them from.
pub declared-has : (a : Automaton) (cells : List ℕ) (x : ℕ) → x < 32 → declared (table a cells) x ≡ has (declared_set a) x
declared-has a cells x h = sym (declared-set (table a cells) x) ∙ has-member (declared_set a) x h

module _ (a : Automaton) (name : List ℕ) (names : List (List ℕ)) where
  abbrev acts : ℕ
  acts = declared_set a

  abbrev t : Table
  t = table a []

  all-misnamed : any_of acts (λ (x : ℕ). not (name_ok (name_of names x))) ≡ misnamed t name names
  unfolding any_of
  all-misnamed = any_cong 32 _ _ (λ x h. rw (declared-has a [] x h))

  all-repeated : (c : Spelling) → repeated c acts names ≡ ambiguous t name names c
  unfolding repeated
  all-repeated c = any_cong 32 _ _ (λ x h. any_cong x _ _ (λ y k. rw (declared-has a [] x h, declared-has a [] y (omega arith))))

  module _ (p : Bool) (named : p ≡ name_ok name) where
    pub names_table : not p ≡ true → (r : Refusal) → r ≡ refusal rule.NameForm 0 None → Err r ≡ first (name_checks a name names)
    unfolding first name_checks
    names_table e r h = rw (← named, e) (ap Err h)

    module _ (e : not p ≡ false) (set : ℕ) (all : set ≡ acts) (q : Bool) (misnames : q ≡ any_of set (λ (x : ℕ). not (name_ok (name_of names x)))) where
      pub names-signals : q ≡ true → (r : Refusal) → r ≡ refusal rule.NameForm 0 None → Err r ≡ first (name_checks a name names)
      unfolding first name_checks
      names-signals f r h = rw (← named, e, ← all-misnamed, ← all, ← misnames, f) (ap Err h)

      module _ (f : q ≡ false) (u : Bool) (alike : u ≡ repeated Folded set names) where
        pub names_pass : u ≡ false → Ok tt ≡ first (name_checks a name names)
        unfolding first name_checks
        names_pass g =
            let none : repeated Exact set names ≡ false = exact_none names set (sym alike ∙ g) in
            rw (← named, e, ← all-misnamed, ← all-repeated Exact, ← all-repeated Folded, ← all, ← misnames, f, none, ← alike, g)

        module _ (g : u ≡ true) (s : Bool) (equals : s ≡ repeated Exact set names) where
          pub names-repeated : s ≡ true → (r : Refusal) → r ≡ refusal rule.DeclaredTwice 0 None → Err r ≡ first (name_checks a name names)
          unfolding first name_checks
          names-repeated i r h = rw (← named, e, ← all-misnamed, ← all-repeated Exact, ← all, ← misnames, f, ← equals, i) (ap Err h)

          pub names-clash : s ≡ false → (r : Refusal) → r ≡ refusal rule.NameClash 0 None → Err r ≡ first (name_checks a name names)
          unfolding first name_checks
          names-clash i r h = rw (← named, e, ← all-misnamed, ← all-repeated Exact, ← all-repeated Folded, ← all, ← misnames, f, ← equals, i, ← alike, g) (ap Err h)

-- Names that pass are there, and short; so is the table's.
module _ (a : Automaton) (name : List ℕ) (names : List (List ℕ)) (e : first (name_checks a name names) ≡ Ok tt) where
  pub passed-named : Named (declared_set a) names
  unfolding name_checks
  passed-named =
      let (_, (signals, _)) = (passed_first (name_checks a name names)).0 e in
      named-all _ names (all-misnamed a name names ∙ is_false (misnamed (table a []) name names) signals)

  pub passed-short : length name ≤ 16
  unfolding name_checks
  passed-short =
      let (title, _) = (passed_first (name_checks a name names)).0 e in
      name-short name (not-false (name_ok name) (is_false (not (name_ok name)) title))
