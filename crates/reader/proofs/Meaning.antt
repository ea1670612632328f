-- What a caller may conclude of texts that were read, and of lookups.
use mathlib.Core.Path.{◌≡◌, refl, sym, ◌∙◌}
use mathlib.Core.Bool.{Bool, true, false, ◌||◌, cond}
use mathlib.Core.List.{List}
use Prim.Native.Nat.{ℕ}
use Rattle.std.specs.Prelude.{Result, Ok, Err}
use Rattle.std.specs.Borrow.{Bor}
use Rattle.theory.specs.declared.Automaton.{Automaton}
use Rattle.text.specs.declared.Spelling.{Spelling}
use Rattle.text.specs.declared.Spelling.TheVariants.{Exact, Folded}
use Rattle.text.specs.Reading.{Signal, Outcome, finished, ended, Joint, both, neither, read_alone, read_both}
use lib.ListN.{get_or}
use Rattle.text.specs.Lookup.{nobody, declares, ample, lookup, lookup_number, lookup_alone, lookup_number_alone, signal_of, number_of, signal_alone, number_alone}
use Rattle.text.proofs.Archive.{taken_alone, taken-both}
use Rattle.reader.specs.Contract.{alone_reply, together_reply}
use Rattle.reader.specs.declared.Tables.{Tables}
use Rattle.reader.specs.Places.{part_at, name_reply, name_alone_reply}
use Rattle.theory.specs.declared.Rule.{Rule}
use Rattle.theory.specs.Rules.{rule_number}
use Rattle.theory.specs.declared.Rule.TheVariants as rule

-- ---- the calls and those for stored texts (02, S-9): what the reading takes, the archive reading takes alike, so that replies and cells are the same

pub archive_alone : (m : List ℕ) (room : ℕ) (h : Automaton) → alone_reply (read_alone Folded room m) ≡ Ok h → read_alone Exact room m ≡ read_alone Folded room m
archive_alone m room h = go (read_alone Folded room m) refl
  where
    go : (o : Outcome) → read_alone Folded room m ≡ o → alone_reply o ≡ Ok h → read_alone Exact room m ≡ read_alone Folded room m
    go (finished st) e f = taken_alone Folded room m st e ∙ sym e
    go (ended r) e f = cc

pub archive_together : (m p : List ℕ) (room room' : ℕ) (t : Tables) → together_reply (read_both Folded room m room' p) ≡ Ok t
    → read_both Exact room m room' p ≡ read_both Folded room m room' p
archive_together m p room room' t = go (read_both Folded room m room' p) refl
  where
    go : (j : Joint) → read_both Folded room m room' p ≡ j → together_reply j ≡ Ok t → read_both Exact room m room' p ≡ read_both Folded room m room' p
    go (both x y) e f = taken-both Folded room m room' p x y e ∙ sym e
    go (neither r) e f = cc

-- ---- a lookup (01, "Table text"): it is refused by its number, and hands back the part where the signal's name stands; if it is refused, there is no signal

abbrev pub Told : ℕ → Signal → ℕ × ℕ → ℕ × ℕ → Result (Bor (List ℕ)) Rule → Type 0
Told number signal x y (Ok part) = (number ≡ 0) × (part ≡ part_at x y signal)
Told number signal x y (Err k) = (number ≡ rule_number k) × (signal ≡ nobody)

by_test : (x y : ℕ × ℕ) (s : Signal) (b : Bool) → Told (cond b 0 12) (cond b s nobody) x y (cond b (Ok (part_at x y s)) (Err rule.NoAction))
by_test x y s true = (refl, refl)
by_test x y s false = (refl, refl)

pub name-told : (x y : ℕ × ℕ) (c : Spelling) (m p : List ℕ) (a : ℕ) → Told (lookup_number c m p a) (lookup c m p a) x y (name_reply x y (read_both c ample m ample p) a)
unfolding lookup lookup_number
name-told x y c m p a = go (read_both c ample m ample p)
  where
    go : (j : Joint) → Told (number_of j a) (signal_of j a) x y (name_reply x y j a)
    go (both s t) = by_test x y (get_or t.signals a nobody) (declares s a || declares t a)
    go (neither r) = (refl, refl)

pub name-told_alone : (x : ℕ × ℕ) (c : Spelling) (m : List ℕ) (a : ℕ) → Told (lookup_number_alone c m a) (lookup_alone c m a) x x (name_alone_reply x (read_alone c ample m) a)
unfolding lookup_alone lookup_number_alone
name-told_alone x c m a = go (read_alone c ample m)
  where
    go : (o : Outcome) → Told (number_alone o a) (signal_alone o a) x x (name_alone_reply x o a)
    go (finished st) = by_test x x (get_or st.signals a nobody) (declares st a)
    go (ended r) = (refl, refl)
