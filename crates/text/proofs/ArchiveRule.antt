-- The archive reading keeps document 01's rule (02, S-9): names that clash are different names, and 28 is never given.
use mathlib.Core.Path.{◌≡◌, subst}
use mathlib.Core.Bool.{Bool, true, false, not, ◌||◌, cond}
use mathlib.Core.List.{List, [], ◌∷◌}
use Prim.Native.Nat.{ℕ, suc, ◌+◌, ◌*◌, ◌<◌}
use native.Mathlib.Omega.{arith}
use lib.Dec.{eqb, leb, ltb}
use lib.ListN.{length, get_or}
use borrow.Author.Tests.{le-ltb}
use Rattle.text.specs.declared.Place.TheVariants.{Declarations}
use Rattle.text.specs.declared.Role.{Role}
use Rattle.text.specs.declared.Spelling.TheVariants.{Exact}
use Rattle.text.specs.declared.TextRefusal.{TextRefusal}
use Rattle.text.specs.Fields.{split, value}
use Rattle.text.specs.Lines.{Entry, role_word, parse}
use Rattle.text.specs.Reading.{Signal, Reading, Change, next, stop, index_of, started, with_role, known, declaring, stepping, entered, Outcome, finished, ended, onward, is_nil, read_lines, fresh, read_from, read_alone, Joint, both, neither, after_first, after_second, read_both}
use Rattle.text.specs.Lookup.{declares}
use Rattle.text.proofs.Lines.{From, of_table, of_declaration, of_step, of_refusal, from-line}
use Rattle.theory.specs.declared.Rule.TheVariants as rule
use Rattle.theory.specs.Rules.{rule_number}

-- A declaration is refused by 18 or 21 alone.
pub declaring_archive : (st : Reading) (r : Role) (s : Signal)
    → declaring Exact st r s (index_of s.name st.signals)
    ≡ cond (declares st (index_of s.name st.signals)) (stop rule.DeclaredTwice)
    (cond (leb 32 (index_of s.name st.signals)) (stop rule.NameCount)
    (next (record {
      place = Declarations;
      header = with_role r (index_of s.name st.signals) st.header;
      signals = known st.signals s (index_of s.name st.signals);
      cells = st.cells;
    })))
unfolding declaring
declaring_archive st r s = rw (le-ltb (index_of s.name st.signals) (index_of s.name st.signals) (omega arith))

-- ---- every refusal has a lower number than 28: an entry's, a text's, that of two texts

abbrev LowEntry : Change → Type 0
LowEntry (next st) = Unit {0}
LowEntry (stop k) = rule_number k < 28

abbrev LowText : Outcome → Type 0
LowText (finished st) = Unit {0}
LowText (ended r) = rule_number r.rule < 28

abbrev LowBoth : Joint → Type 0
LowBoth (both m p) = Unit {0}
LowBoth (neither r) = rule_number r.rule < 28

either : {A : Type 0} (P : A → Type 0) (b : Bool) {x y : A} → P x → P y → P (cond b x y)
either P true p q = p
either P false p q = q

low-entry : {fs : List (List ℕ)} {e : Entry} (text at : ℕ) (st : Reading) → From st.place fs e → LowEntry (entered Exact text at st e)
unfolding entered started stepping
low-entry text at st (of_table n s f q t) =
    either LowEntry (eqb (value s) 0 || ltb 4096 (value s)) (omega arith)
    (either LowEntry (leb (value s) (value f)) (omega arith) (either LowEntry (ltb (length st.cells) (value s * 32)) (omega arith) tt))
low-entry text at st (of_declaration r n q t g) =
    rw (declaring_archive st r (record { name = n; text = text; from = at + length (role_word r) + 1 }))
    (either LowEntry (declares st (index_of n st.signals)) (omega arith) (either LowEntry (leb 32 (index_of n st.signals)) (omega arith) tt))
low-entry text at st (of_step f n u q t g) =
    let a = index_of n st.signals in
    either LowEntry (not (declares st a) || leb st.header.states (value f) || leb st.header.states (value u)) (omega arith)
    (either LowEntry (not (eqb (get_or st.cells (value f * 32 + a) 65535) 65535)) (omega arith) tt)
low-entry text at st (of_refusal k least most) = omega arith

low-lines : (text k at : ℕ) (st : Reading) (ls : List (List ℕ)) → LowText (read_lines Exact text k at st ls)
unfolding read_lines
low-lines text k at st [] = tt
low-lines text k at st (x ∷ []) = either LowText (is_nil x) tt (omega arith)
low-lines text k at st (x ∷ y ∷ ls) =
    go (entered Exact text at st (parse st.place x)) (low-entry text at st (from-line st.place x))
    (λ st. low-lines text (suc k) (at + length x + 1) st (y ∷ ls))
  where
    go : (r : Change) → LowEntry r → ((st : Reading) → LowText (read_lines Exact text (suc k) (at + length x + 1) st (y ∷ ls)))
        → LowText (onward text k r (λ st. read_lines Exact text (suc k) (at + length x + 1) st (y ∷ ls)))
    go (next st) h rest = rest st
    go (stop n) h rest = h

low-text : (l : List Signal) (text room : ℕ) (bytes : List ℕ) → LowText (read_from Exact l text room bytes)
unfolding read_from
low-text l text room bytes =
    either LowText (ltb 65536 (length bytes)) (omega arith) (either LowText (is_nil bytes) (omega arith) (low-lines text 1 0 (fresh l room) (split 10 bytes)))

low-both : (room : ℕ) (bytes : List ℕ) (room' : ℕ) (bytes' : List ℕ) → LowBoth (read_both Exact room bytes room' bytes')
unfolding read_both read_alone
low-both room bytes room' bytes' = first (read_from Exact [] 1 room bytes) (low-text [] 1 room bytes)
  where
    second : (x : Reading) (o : Outcome) → LowText o → LowBoth (after_second x o)
    second x (finished y) h = tt
    second x (ended r) h = h

    first : (o : Outcome) → LowText o → LowBoth (after_first Exact room' bytes' o)
    first (finished x) h = second x (read_from Exact x.signals 2 room' bytes') (low-text x.signals 2 room' bytes')
    first (ended r) h = h

-- ---- so none has the number 28

pub archive_never_28 : (l : List Signal) (text room : ℕ) (bytes : List ℕ) (r : TextRefusal) → read_from Exact l text room bytes ≡ ended r → ¬ (rule_number r.rule ≡ 28)
archive_never_28 l text room bytes r e q = omega (arith, subst LowText e (low-text l text room bytes))

pub archive_alone_never_28 : (room : ℕ) (bytes : List ℕ) (r : TextRefusal) → read_alone Exact room bytes ≡ ended r → ¬ (rule_number r.rule ≡ 28)
unfolding read_alone
archive_alone_never_28 room bytes r e = archive_never_28 [] 1 room bytes r e

pub archive_both_never_28 : (room : ℕ) (bytes : List ℕ) (room' : ℕ) (bytes' : List ℕ) (r : TextRefusal) → read_both Exact room bytes room' bytes' ≡ neither r
    → ¬ (rule_number r.rule ≡ 28)
archive_both_never_28 room bytes room' bytes' r e q = omega (arith, subst LowBoth e (low-both room bytes room' bytes'))
