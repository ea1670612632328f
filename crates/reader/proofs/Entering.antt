-- A line of a text: what it says, and what it does to the reading.
use mathlib.Core.Path.{◌≡◌, refl, sym, ap, ◌∙◌}
use mathlib.Core.List.{List}
use Prim.Native.Nat.{ℕ, ◌+◌, ◌-◌, ◌*◌, ◌%◌, ◌<◌}
use native.Mathlib.Omega.{arith}
use lib.ListN.{length, take, drop, length-drop}
use Rattle.text.specs.declared.Role.{Role}
use Rattle.text.specs.declared.Spelling.{Spelling}
use Rattle.text.specs.Lines.{role_word}
use Rattle.text.specs.Reading.{text_of, entered}
use Rattle.lines.specs.declared.Record.{Record}
use Rattle.lines.specs.declared.Record.TheVariants.{Table, Declaration, Step}
use Rattle.lines.proofs.NameRule.{name-short}
use Rattle.lines.proofs.Meaning.{DeclarationReply, StepReply, table_reply, declaration_reply, step_reply}
use Rattle.names.specs.declared.Name.{Name}
use Rattle.names.specs.Numbering.{key}
use Rattle.names.proofs.NumberedNames.{entry-signal, entry-placed}
use Rattle.reader.specs.declared.state.State.{State}
use Rattle.std.specs.Prelude.{Result, Ok}
use Rattle.reader.specs.State.{Entry, Sound, Starts, Declares, Steps, InText, Says, Enters}
use Rattle.reader.proofs.Lines.{part-rest}
use Rattle.theory.specs.declared.Rule.{Rule}

module _ (m p : List ℕ) (text at : ℕ) (line : List ℕ) (st : State) (fields : Record) (says : Says m p text at line st.place fields) where
  inside : InText m p text at line
  inside = says.inside

  pub enter-table : (c : Spelling) (cells : List ℕ) (s i : ℕ) → fields ≡ Table s i → Sound m p st (length cells) → (r : Result State Rule) → Starts st s i (length cells) r
      → Enters m p text c at line st cells r cells
  unfolding entered
  enter-table c cells s i f ok r d = record {
    sound = d.sound m p ok;
    means = d.means m p cells refl ∙ rw (table_reply st.place line s i (sym says.told ∙ ap Ok f)).entry;
  }

  module _ (role : Role) (f : fields ≡ Declaration role) (start : ℕ) (begins : start ≡ length (role_word role) + 1) where
    declared : DeclarationReply st.place line role
    declared = declaration_reply st.place line role (sym says.told ∙ ap Ok f)

    module _ (name : List ℕ) (part : name ≡ drop start line) (n : Name)
        (made : n ≡ record { place = text % 4 + length name % 64 * 4; key = key name; from = (at + start) % 65536 }) where
      rest : name ≡ drop (length (role_word role) + 1) line
      rest = part ∙ rw begins

      low : at + start < 65536
      low = omega (arith, declared.within, inside.within, inside.short)

      short : length name < 64
      short = rw rest (omega (arith, name-short _ declared.named))

      there : name ≡ take (length name) (drop (at + start) (text_of m p text))
      there =
          let size : length line - start ≡ length name = sym (ap length part ∙ length-drop start line) in
          part ∙ ap (drop start) inside.there ∙ part-rest (text_of m p text) at (length line) start ∙ rw size

      pub declaration-entry : Entry m p name n
      declaration-entry = record {
        bytes = ap (λ s. s.name) (entry-signal m p text (at + start) name inside.few low short there n made);
        placed = entry-placed m p text (at + start) name inside.few low short there n made;
      }

      pub enter-declaration : (c : Spelling) (cells : List ℕ) → Sound m p st (length cells) → (r : Result State Rule) → Declares m p c st role name n r
          → Enters m p text c at line st cells r cells
      unfolding entered
      enter-declaration c cells ok r d =
          let from : at + start ≡ at + length (role_word role) + 1 = omega arith in
          record {
            sound = d.sound (length cells) ok;
            means = d.means cells ∙ rw (entry-signal m p text (at + start) name inside.few low short there n made, declared.entry, ← rest, from);
          }

  module _ (from start stop to : ℕ) (f : fields ≡ Step from start stop to) where
    stepped : StepReply st.place line from start stop to
    stepped = step_reply st.place line from start stop to (sym says.told ∙ ap Ok f)

    pub enter_step : (c : Spelling) (u name : List ℕ) → u ≡ drop start line → name ≡ take (stop - start) u → (cells cells' : List ℕ) (r : Result State Rule)
        → Steps m p st cells from name to r cells' → Enters m p text c at line st cells r cells'
    unfolding entered
    enter_step c u name e g cells cells' r d = record {
      sound = d.sound;
      means = d.means ∙ rw (stepped.entry, g, e);
    }
