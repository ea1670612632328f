-- What the steps of a written table do to a reading.
use mathlib.Core.Path.{◌≡◌, refl, ap, ◌∙◌}
use mathlib.Core.Bool.{true, false}
use mathlib.Core.List.{List, []}
use mathlib.Core.Logic.{inl, inr}
use mathlib.Core.Option.{some}
use Prim.Native.Nat.{ℕ, zero, suc, ◌+◌, ◌*◌, ◌≤◌, ◌<◌}
use native.Mathlib.Omega.{arith}
use native.Mathlib.Nat.{add-suc}
use lib.Arith.{digits_lt}
use lib.Dec.{T, ltb, ltb→lt}
use lib.ListN.{length, get_or, set, length-set}
use lib.Seq.{get_or-set_same, get_or-set_other}
use borrow.Author.Tests.{lt-ltb}
use Rattle.theory.specs.declared.Automaton.{Automaton}
use Rattle.theory.specs.Table.{Table, table as table_of, automaton, cell_at, decode}
use Rattle.theory.specs.Checks.{declared}
use Rattle.theory.proofs.Options.{is-some, when_of}
use Rattle.theory.proofs.Table.{table-narrow}
use Rattle.text.specs.declared.Place.TheVariants.{Steps}
use Rattle.text.specs.declared.Spelling.{Spelling}
use Rattle.text.specs.Lines.{takes_step, by_kind}
use Rattle.text.specs.Reading.{Signal, Reading, next, index_of, stepping, entered}
use Rattle.text.specs.Writing.{name_of, step_row, step_rows, has_step, enabled_signals}
use Rattle.text.proofs.Entries.{stepping-next}
use Rattle.roundtrip.specs.RoundTrip.{place}
use Rattle.roundtrip.proofs.Names.{names_in, index_place}
use Rattle.roundtrip.proofs.Lines.{Plain, Reaches, done, reaches_then, reaches_those}
use Rattle.roundtrip.proofs.Put.{Put, put_blank, put_next, put_skip}
use Rattle.roundtrip.proofs.Rows.{Writable, step-plain, step-entry}
use Rattle.roundtrip.proofs.Declarations.{number_in, Numbered, number_lt, number-apart}

-- ---- steps by state and signal

abbrev pub Move : Type 0
Move = ℕ × ℕ

-- Where the cell of a step stands among the cells read.
abbrev pub cell_in : List (List ℕ) → List (List ℕ) → Move → ℕ
cell_in names final k = k.0 * 32 + number_in names final k.1

-- The turn of a step among those written: the index of its cell in the table.
abbrev pub turn : Move → ℕ
turn k = k.0 * 32 + k.1

-- What the cell of a step holds in the table.
abbrev pub cell_of : Table → Move → ℕ
cell_of t k = cell_at t k.0 k.1

abbrev pub Good : Table → Move → Type 0
Good t k = (k.0 < t.header.states) × T (declared t k.1)

-- ---- reading the steps

module _ (t : Table) (name : List ℕ) (names final : List (List ℕ)) (w : Writable t name names) (n : Numbered t names final) where
  abbrev states : ℕ
  states = t.header.states

  pub cell_apart : (k j : Move) → Good t k → Good t j → cell_in names final k ≡ cell_in names final j → k ≡ j
  cell_apart k j g h e =
      let x : number_in names final k.1 < 32 = number_lt t name names final w n k.1 g.1 in
      let y : number_in names final j.1 < 32 = number_lt t name names final w n j.1 h.1 in
      let s : k.0 ≡ j.0 = omega arith in
      let a : k.1 ≡ j.1 = number-apart t name names final w n k.1 j.1 g.1 h.1 (omega arith) in
      λ i. (s i, a i)

  -- Two steps never have the same turn.
  turn-apart : (s a : ℕ) → a < 32 → (k : Move) → Good t k → turn k ≡ s * 32 + a → k ≡ (s, a)
  turn-apart s a h k g e =
      let l : k.1 < 32 = table-narrow t k.1 g.1 in
      let u : k.0 ≡ s = omega arith in
      let v : k.1 ≡ a = omega arith in
      λ i. (u i, v i)

  -- A step that is written.
  written : (s a : ℕ) → s < states → has_step t s a ≡ true → T (declared t a) × (cell_at t s a < states)
  written s a h is =
      let (u, f) = is-some ((automaton t).next s a) (rw is tt) in
      let (_, g) = when_of (ltb a 32) (decode states (cell_at t s a)) f in
      let (m, _) = when_of (ltb (cell_at t s a) states) (some (cell_at t s a)) g in
      (w.valid.known s a u h f, ltb→lt (cell_at t s a) states m)

  -- A cell whose step is not written is blank.
  unwritten : (s a : ℕ) → s < states → a < 32 → has_step t s a ≡ false → cell_at t s a ≡ 65535
  unwritten s a h k fails = elim (w.valid.sound (s * 32 + a) (digits_lt h k)) [
    | inl e ↦ e
    | inr l ↦ let z : T (has_step t s a) = rw (lt-ltb a 32 k, lt-ltb (cell_at t s a) states l) tt in absurd (rw fails at z)
  ]

  module _ (c : Spelling) (text : ℕ) (h : Automaton) (l : List Signal) (room : ℕ) (fits : states * 32 ≤ room) (same-states : h.states ≡ states)
      (roles : (a : ℕ) → T (declared t a) → T (declared (table_of h []) (number_in names final a))) (all : names_in l ≡ final) where
    -- The steps whose turn was before p are read.
    pub record Stepping (p : ℕ) (a : Reading) : Type 0 where
      pub stands : takes_step a.place ≡ true
      pub header : a.header ≡ h
      pub signals : a.signals ≡ l
      pub size : length a.cells ≡ room
      pub cells : Put turn (cell_in names final) (cell_of t) 65535 (Good t) p (λ i. get_or a.cells i 65535)

    module _ (s : ℕ) (state : s < states) where
      abbrev At : ℕ → Reading → Type 0
      At x = Stepping (s * 32 + x)

      one : (x : ℕ) → x < 32 → has_step t s x ≡ true → (a : Reading) → At x a
          → Plain (step_row t names s x) × ((at : ℕ) → (m : Reading) × (entered c text at a (by_kind a.place (step_row t names s x)) ≡ next m) × At (suc x) m)
      unfolding entered
      one x low is a u = (step-plain t name names w x known s state below, λ at. (after, enter at, rw (add-suc (s * 32) x) next_one))
        where
          known : T (declared t x)
          known = (written s x state is).0

          below : cell_at t s x < states
          below = (written s x state is).1

          i : ℕ
          i = index_of (name_of names x) a.signals

          i-number : i ≡ number_in names final x
          i-number = index_place (name_of names x) a.signals ∙ ap (λ l. place (name_of names x) (names_in l)) u.signals ∙ ap (place (name_of names x)) all

          k : Move
          k = (s, x)

          good : Good t k
          good = (state, known)

          free : get_or a.cells (cell_in names final k) 65535 ≡ 65535
          free = put_blank turn (cell_in names final) (cell_of t) 65535 (Good t) u.cells k good (omega arith)

          after : Reading
          after = record { place = Steps; header = a.header; signals = a.signals; cells = set a.cells (cell_in names final k) (cell_at t s x) }

          enter : (at : ℕ) → entered c text at a (by_kind a.place (step_row t names s x)) ≡ next after
          enter at =
              ap (entered c text at a) (step-entry t name names w x known s state below a.place u.stands)
              ∙ ap (λ j. stepping a s j (cell_at t s x)) i-number
              ∙ stepping-next a s (number_in names final x) (cell_at t s x) (rw u.header (roles x known))
              (rw (u.header, same-states) state) (rw (u.header, same-states) below) free

          next_one : Stepping (suc (s * 32 + x)) after
          next_one = record {
            stands = refl;
            header = u.header;
            signals = u.signals;
            size = length-set a.cells (cell_in names final k) (cell_at t s x) ∙ u.size;
            cells =
                put_next turn (cell_in names final) (cell_of t) 65535 (Good t) u.cells k good refl (λ j g e. cell_apart j k g good e) (turn-apart s x low)
                (get_or-set_same a.cells (cell_in names final k) (cell_at t s x) 65535 (omega (arith, u.size, digits_lt state (number_lt t name names final w n x known))))
                (λ j d. get_or-set_other a.cells (cell_in names final k) j (cell_at t s x) 65535 d);
          }

      skip : (x : ℕ) → x < 32 → has_step t s x ≡ false → (a : Reading) → At x a → At (suc x) a
      skip x low fails a u = rw (add-suc (s * 32) x) (record {
        stands = u.stands;
        header = u.header;
        signals = u.signals;
        size = u.size;
        cells =
            put_skip turn (cell_in names final) (cell_of t) 65535 (Good t) u.cells
            (λ k g e. ap (cell_of t) (turn-apart s x low k g e) ∙ unwritten s x state low fails);
      })

    pub steps : (n s at : ℕ) (a : Reading) → s + n ≡ states → Stepping (s * 32) a → Reaches c text (step_rows t names s n) at a (Stepping (states * 32))
    unfolding step_rows enabled_signals
    steps zero s at a e u = let f : s ≡ states = omega arith in record { end = a; runs = done; holds = rw f at u }
    steps (suc n) s at a e u =
        let h : s < states = omega arith in
        let z : s * 32 + 0 ≡ s * 32 = omega arith in
        let q : s * 32 + 32 ≡ suc s * 32 = omega arith in
        reaches_then c text (reaches_those c text (step_row t names s) (has_step t s) (At s h) 32 (one s h) (skip s h) 32 0 at a refl (rw z u))
        (λ b r at. steps n (suc s) at b (omega arith) (rw q at r))
