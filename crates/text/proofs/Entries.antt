-- What an entry does to a reading, refusal by refusal (01: 1, 2, 10; 18, 21; 19, 20; 02, S-9: 28), the first that applies.
use mathlib.Core.Path.{◌≡◌, sym, ◌∙◌}
use mathlib.Core.Logic.{inl, inr}
use mathlib.Core.Bool.{not, ◌||◌, or-true}
use Prim.Native.Nat.{ℕ, ◌+◌, ◌*◌, ◌≤◌, ◌<◌}
use native.Mathlib.Omega.{arith}
use native.Mathlib.Decide.{dec_lt, ℕ_discrete}
use lib.Dec.{T, leb, T_not}
use lib.ListN.{length, get_or, set}
use borrow.Author.Tests.{eq-eqb, ne_eqb, lt-ltb, le-ltb, le-leb, lt-leb}
use Rattle.theory.proofs.Tests.{is_false, is_true, test}
use Rattle.theory.specs.Table.{header}
use Rattle.text.specs.declared.Place.TheVariants.{Declarations, Steps}
use Rattle.text.specs.declared.Role.{Role}
use Rattle.text.specs.declared.Spelling.{Spelling}
use Rattle.text.specs.Reading.{Signal, Reading, next, stop, first_match, started, with_role, known, declaring, stepping}
use Rattle.text.specs.Lookup.{declares}
use Rattle.theory.specs.declared.Rule.{Rule}
use Rattle.theory.specs.declared.Rule.TheVariants as rule

never : {n : Rule} {st : Reading} → ¬ (stop n ≡ next st)
never e = let z : ◌≡◌ {A = ℕ} 0 1 = cc in omega arith

next-same : (a b : Reading) → next a ≡ next b → a ≡ b
next-same a b e = cc

-- ---- the `table` line, of n states with the first state i

module _ (st : Reading) (n i : ℕ) where
  pub started_none : n ≡ 0 → started st n i ≡ stop rule.StateCount
  unfolding started
  started_none e = simp e

  pub started-many : 4096 < n → started st n i ≡ stop rule.StateCount
  unfolding started
  started-many h = simp (lt-ltb 4096 n h, or-true)

  module _ (some : 0 < n) (few : n ≤ 4096) where
    pub started-initial : n ≤ i → started st n i ≡ stop rule.InitialState
    unfolding started
    started-initial h = simp (ne_eqb n 0 (λ e. omega arith), le-ltb 4096 n few, le-leb n i h)

    module _ (initial : i < n) where
      pub started-room : length st.cells < n * 32 → started st n i ≡ stop rule.RoomLength
      unfolding started
      started-room h = simp (ne_eqb n 0 (λ e. omega arith), le-ltb 4096 n few, lt-leb n i initial, lt-ltb (length st.cells) (n * 32) h)

      pub started-next : n * 32 ≤ length st.cells
          → started st n i
          ≡ next (record { place = Declarations; header = header n i 0 0; signals = st.signals; cells = st.cells })
      unfolding started
      started-next h = simp (ne_eqb n 0 (λ e. omega arith), le-ltb 4096 n few, lt-leb n i initial, le-ltb (length st.cells) (n * 32) h)

-- ---- a declaration of the signal s, whose number is a

module _ (c : Spelling) (st : Reading) (r : Role) (s : Signal) (a : ℕ) where
  pub declaring-again : T (declares st a) → declaring c st r s a ≡ stop rule.DeclaredTwice
  unfolding declaring
  declaring-again d = simp (is_true (declares st a) d)

  module _ (new : ¬ T (declares st a)) where
    pub declaring-clash : first_match c s.name st.signals < a → declaring c st r s a ≡ stop rule.NameClash
    unfolding declaring
    declaring-clash h = simp (is_false (declares st a) new, lt-ltb (first_match c s.name st.signals) a h)

    module _ (unlike : a ≤ first_match c s.name st.signals) where
      pub declaring-many : 32 ≤ a → declaring c st r s a ≡ stop rule.NameCount
      unfolding declaring
      declaring-many h = simp (is_false (declares st a) new, le-ltb (first_match c s.name st.signals) a unlike, le-leb 32 a h)

      pub declaring-next : a < 32
          → declaring c st r s a ≡ next (record { place = Declarations; header = with_role r a st.header; signals = known st.signals s a; cells = st.cells })
      unfolding declaring
      declaring-next h = simp (is_false (declares st a) new, le-ltb (first_match c s.name st.signals) a unlike, lt-leb 32 a h)

-- ---- a step of the signal a

module _ (st : Reading) (from a to : ℕ) where
  pub stepping-unknown : ¬ T (declares st a) → stepping st from a to ≡ stop rule.UnknownInStep
  unfolding stepping
  stepping-unknown n = simp (is_false (declares st a) n)

  pub stepping-from : st.header.states ≤ from → stepping st from a to ≡ stop rule.UnknownInStep
  unfolding stepping
  stepping-from h = simp (le-leb st.header.states from h, or-true (not (declares st a)))

  pub stepping-to : st.header.states ≤ to → stepping st from a to ≡ stop rule.UnknownInStep
  unfolding stepping
  stepping-to h = simp (le-leb st.header.states to h, or-true (not (declares st a) || leb st.header.states from))

  module _ (signal : T (declares st a)) (from_in : from < st.header.states) (to_in : to < st.header.states) where
    pub stepping-again : ¬ (get_or st.cells (from * 32 + a) 65535 ≡ 65535) → stepping st from a to ≡ stop rule.StepTwice
    unfolding stepping
    stepping-again n =
        simp (
          is_true (declares st a) signal,
          lt-leb st.header.states from from_in,
          lt-leb st.header.states to to_in,
          ne_eqb (get_or st.cells (from * 32 + a) 65535) 65535 n,
        )

    pub stepping-next : get_or st.cells (from * 32 + a) 65535 ≡ 65535
        → stepping st from a to ≡ next (record { place = Steps; header = st.header; signals = st.signals; cells = set st.cells (from * 32 + a) to })
    unfolding stepping
    stepping-next e =
        simp (
          is_true (declares st a) signal,
          lt-leb st.header.states from from_in,
          lt-leb st.header.states to to_in,
          eq-eqb (get_or st.cells (from * 32 + a) 65535) 65535 e,
        )

-- ---- what holds where nothing is refused

pub record Started (st : Reading) (n i : ℕ) (st' : Reading) : Type 0 where
  pub some : 0 < n
  pub few : n ≤ 4096
  pub initial : i < n
  pub room : n * 32 ≤ length st.cells
  pub gives : record { place = Declarations; header = header n i 0 0; signals = st.signals; cells = st.cells } ≡ st'

pub started_of : (st : Reading) (n i : ℕ) (st' : Reading) → started st n i ≡ next st' → Started st n i st'
started_of st n i st' e =
    let some : 0 < n = elim (ℕ_discrete n 0) [ yes z ↦ absurd (never (sym (started_none st n i z) ∙ e)) | no d ↦ omega arith ] in
    let few : n ≤ 4096 = elim (dec_lt 4096 n) [ yes l ↦ absurd (never (sym (started-many st n i l) ∙ e)) | no g ↦ omega arith ] in
    let initial : i < n = elim (dec_lt i n) [ yes l ↦ l | no g ↦ absurd (never (sym (started-initial st n i some few (omega arith)) ∙ e)) ] in
    let room : n * 32 ≤ length st.cells =
    elim (dec_lt (length st.cells) (n * 32)) [ yes l ↦ absurd (never (sym (started-room st n i some few initial l) ∙ e)) | no g ↦ omega arith ] in
    record { some = some; few = few; initial = initial; room = room; gives = next-same _ st' (sym (started-next st n i some few initial room) ∙ e) }

pub record Declared (c : Spelling) (st : Reading) (r : Role) (s : Signal) (a : ℕ) (st' : Reading) : Type 0 where
  pub new : ¬ T (declares st a)
  pub unlike : a ≤ first_match c s.name st.signals
  pub low : a < 32
  pub gives : record { place = Declarations; header = with_role r a st.header; signals = known st.signals s a; cells = st.cells } ≡ st'

pub declaring_of : (c : Spelling) (st : Reading) (r : Role) (s : Signal) (a : ℕ) (st' : Reading) → declaring c st r s a ≡ next st' → Declared c st r s a st'
declaring_of c st r s a st' e =
    let new : ¬ T (declares st a) = λ d. never (sym (declaring-again c st r s a d) ∙ e) in
    let unlike : a ≤ first_match c s.name st.signals =
    elim (dec_lt (first_match c s.name st.signals) a) [ yes l ↦ absurd (never (sym (declaring-clash c st r s a new l) ∙ e)) | no g ↦ omega arith ] in
    let low : a < 32 = elim (dec_lt a 32) [ yes l ↦ l | no g ↦ absurd (never (sym (declaring-many c st r s a new unlike (omega arith)) ∙ e)) ] in
    record { new = new; unlike = unlike; low = low; gives = next-same _ st' (sym (declaring-next c st r s a new unlike low) ∙ e) }

pub record Stepped (st : Reading) (from a to : ℕ) (st' : Reading) : Type 0 where
  pub signal : T (declares st a)
  pub from_in : from < st.header.states
  pub to_in : to < st.header.states
  pub free : get_or st.cells (from * 32 + a) 65535 ≡ 65535
  pub gives : record { place = Steps; header = st.header; signals = st.signals; cells = set st.cells (from * 32 + a) to } ≡ st'

pub stepping_of : (st : Reading) (from a to : ℕ) (st' : Reading) → stepping st from a to ≡ next st' → Stepped st from a to st'
stepping_of st from a to st' e =
    let signal : T (declares st a) =
    elim (test (declares st a)) [ inl d ↦ d | inr n ↦ absurd (never (sym (stepping-unknown st from a to (T_not (declares st a) n)) ∙ e)) ] in
    let from_in : from < st.header.states = elim (dec_lt from st.header.states) [ yes l ↦ l | no g ↦ absurd (never (sym (stepping-from st from a to (omega arith)) ∙ e)) ] in
    let to_in : to < st.header.states = elim (dec_lt to st.header.states) [ yes l ↦ l | no g ↦ absurd (never (sym (stepping-to st from a to (omega arith)) ∙ e)) ] in
    let free : get_or st.cells (from * 32 + a) 65535 ≡ 65535 =
    elim (ℕ_discrete (get_or st.cells (from * 32 + a) 65535) 65535) [ yes z ↦ z | no n ↦ absurd (never (sym (stepping-again st from a to signal from_in to_in n) ∙ e)) ] in
    record { signal = signal; from_in = from_in; to_in = to_in; free = free; gives = next-same _ st' (sym (stepping-next st from a to signal from_in to_in free) ∙ e) }
