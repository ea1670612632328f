-- A reading into 131,072 lent cells or more is never refused by 10: the largest table has 4,096 states, of 32 cells each. A lookup reads into so
-- many of its own, and so its number is never 10 (01, "Table text").
use mathlib.Core.Path.{◌≡◌, refl, ap, ◌∙◌}
use mathlib.Core.Bool.{Bool, true, false, not, ◌||◌, cond}
use mathlib.Core.List.{List, [], ◌∷◌}
use Prim.Native.Nat.{ℕ, suc, ◌+◌, ◌*◌, ◌≤◌}
use native.Mathlib.Omega.{arith}
use native.Mathlib.Decide.{dec_le}
use lib.Dec.{T, eqb, leb, ltb, lt→ltb}
use lib.ListN.{length, get_or, length-set, length-replicate}
use borrow.Author.Tests.{le-ltb}
use Rattle.theory.proofs.Tests.{or_right}
use Rattle.text.specs.declared.Role.{Role}
use Rattle.text.specs.declared.Spelling.{Spelling}
use Rattle.text.specs.declared.TextRefusal.{TextRefusal}
use Rattle.text.specs.Fields.{split, value}
use Rattle.text.specs.Lines.{Entry}
use Rattle.text.specs.Reading.{Signal, Reading, Change, next, stop, first_match, index_of, started, declaring, stepping, entered, Outcome, finished, ended, refuse_at, onward, is_nil, read_lines, fresh, read_from, read_alone, Joint, both, neither, after_first, after_second, read_both}
use Rattle.text.specs.Lookup.{ample, declares, number_of, number_alone, lookup_number, lookup_number_alone}
use Rattle.text.proofs.Lines.{From, of_table, of_declaration, of_step, of_refusal, from-line}
use Rattle.theory.specs.declared.Rule.TheVariants as rule
use Rattle.theory.specs.Rules.{rule_number}
use Rattle.theory.specs.declared.Rule.{Rule}

-- ---- a line

-- What a line does: it goes on with cells enough, or stops by another number than 10.
data NotTen : Change → Type 0 where
  goes : {st : Reading} → ample ≤ length st.cells → NotTen (next st)
  stops : {k : Rule} → ¬ (rule_number k ≡ 10) → NotTen (stop k)

unless : {x y : Change} (b : Bool) → NotTen x → (¬ T b → NotTen y) → NotTen (cond b x y)
unless true f g = f
unless false f g = g (λ t. t)

module _ (st : Reading) (room : ample ≤ length st.cells) where
  started_not_ten : (states initial : ℕ) → NotTen (started st states initial)
  unfolding started
  started_not_ten states initial =
      unless (eqb states 0 || ltb 4096 states) (stops (λ e. omega arith)) (λ right.
      unless (leb states initial) (stops (λ e. omega arith)) (λ _. rw (le-ltb (length st.cells) (states * 32) (omega (arith, few right))) (goes room)))
    where
      few : ¬ T (eqb states 0 || ltb 4096 states) → states ≤ 4096
      few right = elim (dec_le states 4096) [
        | yes h ↦ h
        | no g ↦ absurd (right (or_right (eqb states 0) (ltb 4096 states) (lt→ltb 4096 states (omega arith))))
      ]

  declaring_not_ten : (c : Spelling) (r : Role) (s : Signal) (a : ℕ) → NotTen (declaring c st r s a)
  unfolding declaring
  declaring_not_ten c r s a =
      unless (declares st a) (stops (λ e. omega arith)) (λ _.
      unless (ltb (first_match c s.name st.signals) a) (stops (λ e. omega arith)) (λ _. unless (leb 32 a) (stops (λ e. omega arith)) (λ _. goes room)))

  stepping_not_ten : (from a to : ℕ) → NotTen (stepping st from a to)
  unfolding stepping
  stepping_not_ten from a to =
      unless (not (declares st a) || leb st.header.states from || leb st.header.states to) (stops (λ e. omega arith)) (λ _.
      unless (not (eqb (get_or st.cells (from * 32 + a) 65535) 65535)) (stops (λ e. omega arith)) (λ _.
      goes (omega (arith, length-set st.cells (from * 32 + a) to))))

  entered_not_ten : {fs : List (List ℕ)} {e : Entry} (c : Spelling) (text at : ℕ) → From st.place fs e → NotTen (entered c text at st e)
  unfolding entered
  entered_not_ten c text at (of_table n s f q t) = started_not_ten (value s) (value f)
  entered_not_ten c text at (of_declaration r n q t g) = declaring_not_ten c r _ (index_of n st.signals)
  entered_not_ten c text at (of_step f n u q t g) = stepping_not_ten (value f) (index_of n st.signals) (value u)
  entered_not_ten c text at (of_refusal k least most) = stops {k = k} (λ e. omega arith)

-- ---- all lines

-- The number of the refusal, 0 where nothing is refused.
refusal_of : Outcome → ℕ
refusal_of (finished st) = 0
refusal_of (ended r) = rule_number r.rule

lines_not_ten : (c : Spelling) (text k at : ℕ) (st : Reading) (ls : List (List ℕ)) → ample ≤ length st.cells → ¬ (refusal_of (read_lines c text k at st ls) ≡ 10)
unfolding read_lines refusal_of
lines_not_ten c text k at st [] room = λ e. omega arith
lines_not_ten c text k at st (l ∷ []) room = elim (is_nil l) as (λ v. ¬ (refusal_of (cond v (finished st) (refuse_at rule.LineForm text k)) ≡ 10)) [
  | true ↦ λ e. omega arith
  | false ↦ λ e. omega arith
]
lines_not_ten c text k at st (l ∷ m ∷ ls) room =
    go (entered_not_ten st room c text at (from-line st.place l)) (λ st'. lines_not_ten c text (suc k) (at + length l + 1) st' (m ∷ ls))
  where
    go : {r : Change} → NotTen r
        → ((st' : Reading) → ample ≤ length st'.cells → ¬ (refusal_of (read_lines c text (suc k) (at + length l + 1) st' (m ∷ ls)) ≡ 10))
        → ¬ (refusal_of (onward text k r (λ st. read_lines c text (suc k) (at + length l + 1) st (m ∷ ls))) ≡ 10)
    go (goes {st = st'} room') rest = rest st' room'
    go (stops other) rest = other

-- Reads one text, before which the signals l are numbered.
pub read_never_ten : (c : Spelling) (l : List Signal) (text room : ℕ) (bytes : List ℕ) (r : TextRefusal) → ample ≤ room → read_from c l text room bytes ≡ ended r
    → ¬ (rule_number r.rule ≡ 10)
unfolding read_from refusal_of
read_never_ten c l text room bytes r h e q = go (ltb 65536 (length bytes)) (is_nil bytes) (ap refusal_of e ∙ q)
  where
    go : (v w : Bool) → ¬ (refusal_of (cond v (refuse_at rule.TextLength text 0) (cond w (refuse_at rule.EmptyText text 0) (read_lines c text 1 0 (fresh l room) (split 10 bytes)))) ≡ 10)
    go true w = λ e. omega arith
    go false true = λ e. omega arith
    go false false = lines_not_ten c text 1 0 (fresh l room) (split 10 bytes) (omega (arith, length-replicate {A = ℕ} room 65535))

-- Reads two texts together.
pub both_never_ten : (c : Spelling) (room : ℕ) (bytes : List ℕ) (room' : ℕ) (bytes' : List ℕ) (r : TextRefusal) → ample ≤ room → ample ≤ room'
    → read_both c room bytes room' bytes' ≡ neither r → ¬ (rule_number r.rule ≡ 10)
unfolding read_both read_alone
both_never_ten c room bytes room' bytes' r h h' e = first (read_from c [] 1 room bytes) refl e
  where
    same : (s : TextRefusal) → neither s ≡ neither r → ¬ (rule_number s.rule ≡ 10) → ¬ (rule_number r.rule ≡ 10)
    same s e other = let z : s ≡ r = cc in rw z at other

    second : (x : Reading) (o : Outcome) → read_from c x.signals 2 room' bytes' ≡ o → after_second x o ≡ neither r → ¬ (rule_number r.rule ≡ 10)
    second x (finished y) f e = absurd (let z : ◌≡◌ {A = ℕ} 0 1 = cc in omega arith)
    second x (ended s) f e = same s e (read_never_ten c x.signals 2 room' bytes' s h' f)

    first : (o : Outcome) → read_from c [] 1 room bytes ≡ o → after_first c room' bytes' o ≡ neither r → ¬ (rule_number r.rule ≡ 10)
    first (finished x) f e = second x (read_from c x.signals 2 room' bytes') refl e
    first (ended s) f e = same s e (read_never_ten c [] 1 room bytes s h f)

-- ---- a lookup

twelve_not_ten : (b : Bool) → ¬ (◌≡◌ {A = ℕ} (cond b 0 12) 10)
twelve_not_ten true = λ e. omega arith
twelve_not_ten false = λ e. omega arith

-- The number of a lookup in two texts is that of their reading, 12 or 0.
pub lookup_never_ten : (c : Spelling) (m p : List ℕ) (a : ℕ) → ¬ (lookup_number c m p a ≡ 10)
unfolding lookup_number
lookup_never_ten c m p a = go (read_both c ample m ample p) refl
  where
    go : (j : Joint) → read_both c ample m ample p ≡ j → ¬ (number_of j a ≡ 10)
    go (both x y) e = twelve_not_ten (declares x a || declares y a)
    go (neither r) e = both_never_ten c ample m ample p r (omega arith) (omega arith) e

-- The number of a lookup in a text alone is that of its reading, 12 or 0.
pub lookup_alone_never_ten : (c : Spelling) (m : List ℕ) (a : ℕ) → ¬ (lookup_number_alone c m a ≡ 10)
unfolding lookup_number_alone read_alone
lookup_alone_never_ten c m a = go (read_alone c ample m) refl
  where
    go : (o : Outcome) → read_alone c ample m ≡ o → ¬ (number_alone o a ≡ 10)
    go (finished st) e = twelve_not_ten (declares st a)
    go (ended r) e = read_never_ten c [] 1 ample m r (omega arith) e
