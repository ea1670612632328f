-- A text alone; two texts, one after the other.
use mathlib.Core.Path.{◌≡◌, ap, ◌∙◌}
use mathlib.Core.List.{List, []}
use Prim.Native.Nat.{ℕ}
use lib.ListN.{replicate}
use Rattle.std.specs.Prelude.{Result, Ok, Err}
use Rattle.text.specs.declared.Spelling.{Spelling}
use Rattle.text.specs.declared.TextRefusal.{TextRefusal}
use Rattle.text.specs.Reading.{after_first, after_second, read_alone, read_both}
use Rattle.names.specs.declared.Names.{Names}
use Rattle.names.specs.Numbering.{table_of}
use Rattle.names.proofs.NumberedNames.{none-signals}
use Rattle.reader.specs.declared.state.State.{State}
use Rattle.reader.specs.State.{reading, outcome, Reads, ReadsOne, ReadsBoth}

module _ (m p : List ℕ) (c : Spelling) (none : Names) (n : none ≡ table_of []) (room began : ℕ) (size : began ≡ room) (cells : List ℕ) where
  -- The first text.
  alone_outcome : (a : Result State TextRefusal) → Reads m p 1 c none began a cells → outcome m p a cells ≡ read_alone c room m
  unfolding read_alone
  alone_outcome a read = read.means ∙ rw (n, none-signals m p, size)

  module _ (room' began' : ℕ) (size' : began' ≡ room') (cells' : List ℕ) where
    -- A refused text leaves both tables without steps.
    pub first_refused : (r : TextRefusal) → Reads m p 1 c none began (Err r) cells → cells' ≡ replicate room' 65535 → ReadsBoth m p c room room' (Err r) cells cells'
    unfolding read_both
    first_refused r read blank = record { fit = tt; means = ap (after_first c room' p) (alone_outcome (Err r) read); left = (rw size at read.left, blank) }

    module _ (a : State) (read : Reads m p 1 c none began (Ok a) cells) where
      pub second_refused : (r : TextRefusal) → Reads m p 2 c a.signals began' (Err r) cells' → (now : List ℕ) → now ≡ replicate room 65535 → ReadsBoth m p c room room' (Err r) now cells'
      unfolding read_both
      second_refused r d now blank = record {
        fit = tt;
        means = ap (after_second (reading m p a cells)) (d.means ∙ rw size') ∙ ap (after_first c room' p) (alone_outcome (Ok a) read);
        left = (blank, rw size' at d.left);
      }

      pub both_taken : (b : State) → Reads m p 2 c a.signals began' (Ok b) cells' → ReadsBoth m p c room room' (Ok (record { first = a; second = b })) cells cells'
      unfolding read_both
      both_taken b d = record {
        fit = d.fit;
        means = ap (after_second (reading m p a cells)) (d.means ∙ rw size') ∙ ap (after_first c room' p) (alone_outcome (Ok a) read);
        left = tt;
      }

pub reads_one : (m : List ℕ) (c : Spelling) (none : Names) → none ≡ table_of [] → (room began : ℕ) → began ≡ room → (a : Result State TextRefusal) (cells : List ℕ)
    → Reads m m 1 c none began a cells → ReadsOne m c room a cells
reads_one m c none n room began size a cells read = record { fit = read.fit; means = alone_outcome m m c none n room began size cells a read; left = rw size at read.left }
