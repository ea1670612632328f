-- What the text of a table says of its order (02, S-3): signals and the steps of a state stand by ascending number; and equal tables,
-- names and numbering have equal texts.
use mathlib.Core.Path.{◌≡◌, refl, sym, ◌∙◌}
use mathlib.Core.Bool.{Bool, true, false, not, ◌&&◌, ◌||◌, cond}
use mathlib.Core.List.{List, [], ◌∷◌, ◌++◌, map, append_assoc}
use mathlib.Core.Logic.{◌↔◌, inl, inr}
use Prim.Native.Nat.{ℕ, zero, suc, ◌+◌, ◌≤◌, ◌<◌}
use native.Mathlib.Omega.{arith}
use lib.Dec.{T, ltb, ltb→lt}
use lib.ListN.{length, take, drop}
use lib.Seq.{take_at}
use Rattle.std.specs.Prelude.{Result, Ok, Err}
use Rattle.std.specs.Result.{result_and}
use Rattle.theory.specs.Refusals.{Refusal}
use Rattle.theory.specs.Table.{Table, automaton}
use Rattle.theory.specs.Checks.{Check, unplaced, first, declared, table_checks}
use Rattle.theory.specs.Valid.{Valid}
use Rattle.theory.proofs.Bounded.{any_cong}
use Rattle.theory.proofs.Checks.{passed_first, first-append, first-accepted, first_part, checks_valid}
use Rattle.theory.proofs.Options.{is-some}
use Rattle.theory.proofs.Tests.{or_cases, or_right}
use Rattle.text.specs.declared.Spelling.{Spelling}
use Rattle.text.specs.declared.Spelling.TheVariants.{Exact, Folded}
use Rattle.text.specs.Fields.{matches, name_ok}
use Rattle.text.specs.Writing.{tabbed, printed, those, signals, name_of, signal_row, step_row, step_rows, whole_text, has_step, enabled_signals, misnamed, ambiguous, text_length, too_long, writer_checks, writer_bytes, SameWriting}
use Rattle.text.proofs.Ascending.{In, Ascending, in_those, those_ascending, those_in}
use Rattle.theory.specs.declared.Rule.TheVariants as rule

-- ---- lines

pub printed-append : (ls ms : List (List (List ℕ))) → printed (ls ++ ms) ≡ printed ls ++ printed ms
unfolding printed
printed-append [] ms = refl
printed-append (l ∷ ls) ms = rw (printed-append ls ms) (sym (append_assoc (tabbed l) (10 ∷ printed ls) (printed ms)))

-- ---- the order

module _ (t : Table) where
  pub signals_ascending : Ascending 0 (signals t)
  unfolding signals
  signals_ascending = those_ascending (declared t) 0 32

  pub enabled_ascending : (s : ℕ) → Ascending 0 (enabled_signals t s)
  unfolding enabled_signals
  enabled_ascending s = those_ascending (has_step t s) 0 32

  -- A signal stands there exactly if the state has a step by it.
  pub enabled_are : (s a : ℕ) → a < 32 → In a (enabled_signals t s) ↔ T (has_step t s a)
  unfolding enabled_signals
  enabled_are s a h = (in_those (has_step t s) a 0 32, λ k. those_in (has_step t s) a 0 32 k (omega arith) h)

-- ---- equal texts

those-map : {A : Type 0} (f : ℕ → Bool) (g h : ℕ → A) → ((a : ℕ) → T (f a) → g a ≡ h a) → (s n : ℕ) → map g (those f s n) ≡ map h (those f s n)
unfolding those
those-map f g h e s zero = refl
those-map f g h e s (suc n) = go (f s) refl (those f (suc s) n) (those-map f g h e (suc s) n)
  where
    go : (b : Bool) → f s ≡ b → (l : List ℕ) → map g l ≡ map h l → map g (cond b (s ∷ l) l) ≡ map h (cond b (s ∷ l) l)
    go true q l rest = rw (e s (rw q tt), rest)
    go false q l rest = rest

module _ (t : Table) (name : List ℕ) (names names' : List (List ℕ)) (called : (a : ℕ) → T (declared t a) → name_of names a ≡ name_of names' a) where
  signals-same : map (signal_row t names) (signals t) ≡ map (signal_row t names') (signals t)
  unfolding signals signal_row
  signals-same = those-map (declared t) (signal_row t names) (signal_row t names') (λ a d. rw (called a d)) 0 32

  -- The signal of a step is declared.
  module _ (valid : Valid t) where
    steps-same : (s : ℕ) → s < t.header.states → map (step_row t names s) (enabled_signals t s) ≡ map (step_row t names' s) (enabled_signals t s)
    unfolding enabled_signals step_row
    steps-same s h = those-map (has_step t s) (step_row t names s) (step_row t names' s) (λ a k.
        let (u, e) = is-some ((automaton t).next s a) k in
        rw (called a (valid.known s a u h e))) 0 32

    rows_same : (s n : ℕ) → s + n ≤ t.header.states → step_rows t names s n ≡ step_rows t names' s n
    unfolding step_rows
    rows_same s zero h = refl
    rows_same s (suc n) h = rw (steps-same s (omega arith), rows_same (suc s) n (omega arith))

    text_same : whole_text t name names ≡ whole_text t name names'
    unfolding whole_text
    text_same = rw (signals-same, rows_same 0 t.header.states (omega arith))

  misnamed-same : misnamed t name names ≡ misnamed t name names'
  misnamed-same = any_cong 32 _ _ (λ a h. go a (declared t a) refl)
    where
      go : (a : ℕ) (b : Bool) → declared t a ≡ b → (b && not (name_ok (name_of names a))) ≡ (b && not (name_ok (name_of names' a)))
      go a true e = rw (called a (rw e tt))
      go a false e = refl

  ambiguous-same : (c : Spelling) → ambiguous t name names c ≡ ambiguous t name names' c
  ambiguous-same c = any_cong 32 _ _ (λ a h. any_cong a _ _ (λ b k. go a b (declared t a) refl (declared t b) refl))
    where
      go : (a b : ℕ) (x : Bool) → declared t a ≡ x → (y : Bool) → declared t b ≡ y
          → ((x && y) && matches c (name_of names a) (name_of names b)) ≡ ((x && y) && matches c (name_of names' a) (name_of names' b))
      go a b true e true f = rw (called a (rw e tt), called b (rw f tt))
      go a b true e false f = refl
      go a b false e y f = refl

  checks_same : (room : ℕ) → first (writer_checks t name names room) ≡ first (writer_checks t name names' room)
  unfolding writer_checks text_length
  checks_same room = first-append (table_checks 1 t) (later names) ∙ go (first (table_checks 1 t)) refl ∙ sym (first-append (table_checks 1 t) (later names'))
    where
      later : List (List ℕ) → List Check
      later l =
          unplaced rule.NameForm 0 (not (name_ok name)) ∷ unplaced rule.NameForm 0 (misnamed t name l) ∷ unplaced rule.DeclaredTwice 0 (ambiguous t name l Exact) ∷ unplaced rule.NameClash 0 (ambiguous t name l Folded)
          ∷ unplaced rule.TextRoom 0 (too_long t name l room) ∷ []

      go : (k : Result (Unit {0}) Refusal) → first (table_checks 1 t) ≡ k → result_and k (first (later names)) ≡ result_and k (first (later names'))
      go (Ok tt) e = rw (misnamed-same, ambiguous-same Exact, ambiguous-same Folded, text_same ((checks_valid 1 t).0 e))
      go (Err r) e = refl

-- Equal tables, names and numbering have equal texts. A step by an undeclared signal would bring in a name that is not asked for, so the table is
-- valid; for the checks no table is excluded.
module _ (t : Table) (name : List ℕ) (names : List (List ℕ)) (u : Table) (name' : List ℕ) (names' : List (List ℕ))
    (w : SameWriting t name names u name' names') where
  pub same-texts : Valid t → whole_text t name names ≡ whole_text u name' names'
  same-texts valid = text_same t name names names' w.signal_names valid ∙ (λ i. whole_text (w.tables i) (w.table_names i) names')

  pub same_checks : (room : ℕ) → first (writer_checks t name names room) ≡ first (writer_checks u name' names' room)
  same_checks room = checks_same t name names names' w.signal_names room ∙ (λ i. first (writer_checks (w.tables i) (w.table_names i) names' room))

-- A call that the writer takes is taken with any other room for the text.
pub enough_room : (t : Table) (name : List ℕ) (names : List (List ℕ)) (room other : ℕ) → first (writer_checks t name names room) ≡ Ok tt
    → text_length t name names ≤ other → first (writer_checks t name names other) ≡ Ok tt
unfolding writer_checks
enough_room t name names room other e h =
    let n = text_length t name names in
    let (valid, rest) = first_part (table_checks 1 t) _ e in
    let (a, (b, (c, (d, (g, _))))) = (passed_first _).0 rest in
    let fits : ¬ T (ltb other n || ltb 65536 n) = λ z. elim (or_cases (ltb other n) (ltb 65536 n) z) [
      | inl l ↦ omega (arith, ltb→lt other n l)
      | inr l ↦ g (or_right (ltb room n) (ltb 65536 n) l)
    ] in
    first-accepted (table_checks 1 t) _ valid ∙ (passed_first _).1 (a, (b, (c, (d, (fits, tt)))))

-- ---- the lent bytes

-- The lent bytes begin with the text, where the writer takes the call.
pub written-text : (t : Table) (name : List ℕ) (names : List (List ℕ)) (bytes : List ℕ) → first (writer_checks t name names (length bytes)) ≡ Ok tt
    → (n : ℕ) → text_length t name names ≡ n → take n (writer_bytes t name names bytes) ≡ whole_text t name names
unfolding writer_bytes text_length
written-text t name names bytes e n h = rw e (take_at (whole_text t name names) (drop (length (whole_text t name names)) bytes) n h)
