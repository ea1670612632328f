-- What a line does to a reading.
use mathlib.Core.Path.{◌≡◌, refl, sym, subst, ◌∙◌}
use mathlib.Core.Bool.{Bool, true, false, not, ◌||◌, cond}
use mathlib.Core.List.{List, []}
use Prim.Native.Nat.{ℕ, ◌+◌, ◌*◌, ◌<◌, ◌≤◌}
use native.Mathlib.Omega.{arith}
use lib.Dec.{T, eqb, leb}
use lib.ListN.{length, get_or, set, length-set}
use borrow.Author.Tests.{lt-ltb, le-ltb, le-leb, lt-leb, leb-false, not-false}
use Rattle.theory.specs.declared.Automaton.{Automaton}
use Rattle.theory.specs.Table.{table}
use Rattle.theory.proofs.Table.{table-narrow}
use Rattle.text.specs.declared.Place.TheVariants.{Declarations, Steps as StepsPlace}
use Rattle.text.specs.declared.Role.{Role}
use Rattle.text.specs.declared.Spelling.{Spelling}
use Rattle.text.specs.declared.Spelling.TheVariants.{Exact}
use Rattle.text.specs.Reading.{first_match, index_of, with_role, declaring, stepping}
use Rattle.text.proofs.Names.{index_le}
use Rattle.text.proofs.Accepted.{with-states}
use Rattle.names.specs.declared.Name.{Name}
use Rattle.names.specs.declared.Names.{Names}
use Rattle.reader.specs.declared.state.State.{State}
use Rattle.std.specs.Prelude.{Ok, Err}
use Rattle.names.specs.Numbering.{entries_of, signals_of, Fit, first_place, is_of, with_entry}
use Rattle.names.proofs.NumberedNames.{signals-length, find-signal, add-signal, add_fit}
use Rattle.reader.specs.State.{is_declared, lacking, Entry, Sound, Declares, Steps}
use Rattle.theory.specs.declared.Rule.TheVariants as rule

false-true : true ≡ false → ⊥
false-true e = subst T e tt

-- ---- a declaration

module _ (m p : List ℕ) (st : State) (name : List ℕ) (number : ℕ) (fit : Fit m p st.signals)
    (searched : number ≡ first_place (is_of m p Exact name) (entries_of st.signals)) where
  found : number ≡ index_of name (signals_of m p st.signals)
  found = searched ∙ find-signal m p st.signals fit Exact name

  number-le : number ≤ st.signals.count
  number-le = omega (arith, found, index_le Exact name (signals_of m p st.signals), signals-length m p st.signals fit)

  module _ (c : Spelling) (role : Role) (entry : Name) (ok : Entry m p name entry) (r : Bool) (told : r ≡ is_declared st.header number) where
    pub declare-twice : r ≡ true → Declares m p c st role name entry (Err rule.DeclaredTwice)
    unfolding declaring
    declare-twice e = record { sound = λ room k. tt; means = λ cells. rw (← found, ← told, e) }

    module _ (new : r ≡ false) (match : ℕ) (looked : match ≡ first_place (is_of m p c name) (entries_of st.signals)) where
      matched : match ≡ first_match c name (signals_of m p st.signals)
      matched = looked ∙ find-signal m p st.signals fit c name

      pub declare-clash : match < number → Declares m p c st role name entry (Err rule.NameClash)
      unfolding declaring
      declare-clash h = record { sound = λ room k. tt; means = λ cells. rw (← found, ← told, new, ok.bytes, ← matched, lt-ltb match number h) }

      pub declare-many : number ≤ match → 32 ≤ number → Declares m p c st role name entry (Err rule.NameCount)
      unfolding declaring
      declare-many g h =
          record { sound = λ room k. tt; means = λ cells. rw (← found, ← told, new, ok.bytes, ← matched, le-ltb match number g, le-leb 32 number h) }

      pub declare-good : number ≤ match → number < 32 → (h : Automaton) (s : Names) → h ≡ with_role role number st.header → s ≡ with_entry st.signals entry number
          → Declares m p c st role name entry (Ok (record { place = Declarations; header = h; signals = s }))
      unfolding declaring
      declare-good g k h s e a = record {
        sound = λ room old. record {
          fit = rw a (add_fit m p st.signals fit entry ok.placed number number-le k);
          small = rw (e, with-states role number st.header) old.small;
          wide = rw (e, with-states role number st.header) old.wide;
        };
        means = λ cells.
            rw (← found, ← told, new, ok.bytes, ← matched, le-ltb match number g, lt-leb 32 number k, e, a, add-signal m p st.signals fit entry ok.placed number number-le k, ok.bytes);
      }

  -- ---- a step

  module _ (cells : List ℕ) (from to : ℕ) (ok : Sound m p st (length cells)) (r : Bool) (told : r ≡ lacking st.header from number to) where
    pub step-lacking : r ≡ true → Steps m p st cells from name to (Err rule.UnknownInStep) cells
    unfolding stepping
    step-lacking e = record { sound = tt; means = rw (← found, ← told, e) }

    module _ (here : r ≡ false) where
      there : (number < 32) × (from < st.header.states) × (to < st.header.states)
      there = none-lacking (is_declared st.header number) (leb st.header.states from) (leb st.header.states to) refl refl refl (sym told ∙ here)
        where
          none-lacking : (b c d : Bool) → is_declared st.header number ≡ b → leb st.header.states from ≡ c → leb st.header.states to ≡ d
              → (not b || c || d) ≡ false → (number < 32) × (from < st.header.states) × (to < st.header.states)
          none-lacking true false false e f g h = (table-narrow (table st.header []) number (subst T (sym e) tt), leb-false _ _ f, leb-false _ _ g)
          none-lacking true false true e f g h = absurd (false-true h)
          none-lacking true true d e f g h = absurd (false-true h)
          none-lacking false c d e f g h = absurd (false-true h)

      module _ (b : Bool) (cells' : List ℕ) (blank : b ≡ eqb (get_or cells (from * 32 + number) 65535) 65535)
          (filled : cells' ≡ cond b (set cells (from * 32 + number) to) cells) where
        pub step_twice : not b ≡ true → Steps m p st cells from name to (Err rule.StepTwice) cells'
        unfolding stepping
        step_twice h = record { sound = tt; means = rw (← found, ← told, here, ← blank, h) }

        pub step-good : not b ≡ false
            → Steps m p st cells from name to (Ok (record { place = StepsPlace; header = st.header; signals = st.signals })) cells'
        unfolding stepping
        step-good h =
            let c : cells' ≡ set cells (from * 32 + number) to = filled ∙ rw (not-false b h) in
            record {
              sound = record { fit = fit; small = ok.small; wide = rw c (omega (arith, ok.wide, length-set cells (from * 32 + number) to)) };
              means = rw (← found, ← told, here, ← blank, h, c);
            }
