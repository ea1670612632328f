-- The lines of a table's text, one after the other.
use mathlib.Core.Path.{◌≡◌, refl, sym, ap, subst, ◌∙◌}
use mathlib.Core.Bool.{Bool, true, false, not, ◌&&◌, cond, and-false}
use mathlib.Core.List.{List, [], ◌∷◌, ◌++◌, map}
use mathlib.Core.Logic.{inl, inr}
use mathlib.Core.Option.{none, some}
use Prim.Native.Nat.{ℕ, zero, suc, ◌+◌, ◌-◌, ◌*◌, ◌^◌, ◌≤◌, ◌<◌}
use native.Mathlib.Decide.{dec_lt}
use native.Mathlib.Numerals.{add-one}
use native.Mathlib.Omega.{arith}
use denote.Ref.{Bor}
use lib.Count.{count_trailing_zeros}
use lib.Dec.{T, eqb, ltb}
use lib.ListN.{length, get_or, length-append}
use borrow.Author.Tests.{lt-ltb, le-ltb}
use Rattle.theory.proofs.Tests.{is_true, and_left}
use Rattle.theory.specs.declared.Automaton.{Automaton}
use Rattle.theory.specs.Closure.{is_some}
use Rattle.theory.specs.Sets.{has}
use Rattle.theory.specs.Table.{declared_set, Table, table, automaton, cell_at}
use Rattle.theory.specs.Checks.{declared}
use Rattle.theory.specs.Valid.{Valid}
use Rattle.theory.proofs.Filled.{any_default}
use Rattle.theory.proofs.Options.{is-some}
use Rattle.theory.proofs.Table.{table-narrow}
use Rattle.sets.proofs.Visit.{Low, low}
use Rattle.text.specs.declared.Role.{Role}
use Rattle.text.specs.Roles.{role_of}
use Rattle.text.specs.Writing.{printed, those, signals, name_of, table_row, signal_row, step_row, step_rows, whole_text, has_step, enabled_signals}
use Rattle.text.proofs.Ascending.{In, in_those, those-few}
use Rattle.text.proofs.Written.{printed-append}
use Rattle.emit.specs.Rows.{table_text, signal_text, step_text}
use Rattle.emit.specs.Buffer.{stored}
use Rattle.emit.proofs.Decimal.{decimal_most}
use Rattle.emit.proofs.Rows.{table-long, signal-long, word_most, step-long}
use Rattle.names.specs.LentNames.{texts, Named}
use Rattle.names.proofs.LentNames.{name-lent, lent_length, named-entry, named-part}
use Rattle.names.proofs.Checks.{declared-has}
use Rattle.names.proofs.Listed.{those-same, those-lowest, those_empty}
use Rattle.writer.specs.Rows.{signal_lines, cell_text, steps, state_lines, step_lines, Known, Writable}
use Rattle.writer.proofs.Counted.{Counts, counts_none, counts_then}

-- ---- signals

-- A step of the iterator over a set's members: s comes of the set `left`, of which `left'` is to come.
abbrev pub Comes : ℕ → ℕ → ℕ → Type 0
Comes left s left' = (0 < left) × (s ≡ count_trailing_zeros 32 left) × (left' ≡ left - 2 ^ count_trailing_zeros 32 left)

module _ (left s left' : ℕ) (bound : left < 2 ^ 32) (step : Comes left s left') where
  pub left-bound : left' < 2 ^ 32
  left-bound = omega (arith, step.2)

  lowest : Low 32 left (count_trailing_zeros 32 left)
  lowest = low 32 left step.0 bound

  pub comes-below : s < 32
  comes-below = omega (arith, step.1, lowest.lowest.below)

  pub named-next : (l : List (Bor (List ℕ))) → Named left (texts l) → s < length l
  named-next l n = rw step.1 (named-entry l left n (count_trailing_zeros 32 left) lowest.lowest.below lowest.lowest.passes)

  pub named-left : (names : List (List ℕ)) → Named left names → Named left' names
  named-left names n =
      let inside : (a : ℕ) → T (has (left - 2 ^ count_trailing_zeros 32 left) a) → T (has left a) =
      λ a h. and_left (has left a) (not (eqb a (count_trailing_zeros 32 left))) (subst T (lowest.rest a) h) in
      rw step.2 (named-part names left (left - 2 ^ count_trailing_zeros 32 left) inside n)

  pub signals-next : (h : Automaton) (names : List (List ℕ)) (role : Role) → role ≡ role_of h s → (name : List ℕ) → name ≡ name_of names s
      → signal_lines left h names ≡ signal_text role name ++ signal_lines left' h names
  unfolding signal_lines signal_row
  signals-next h names role f name g =
      rw (those-lowest 32 left step.0 bound, f, g, step.1, step.2) (printed-append (_ ∷ []) _)

pub signals-none : (left : ℕ) (h : Automaton) (names : List (List ℕ)) → left ≡ 0 → signal_lines left h names ≡ []
unfolding signal_lines printed
signals-none left h names e = rw (e, those_empty 32)

-- ---- a cell

module _ (n state : ℕ) (cell : ℕ) where
  pub cell_none : (d : List ℕ) (at : ℕ) (name : List ℕ) → n ≤ cell → Counts d at (cell_text n state name cell) at d
  cell_none d at name h = rw (le-ltb cell n h) (counts_none d at)

  module _ (l : List (Bor (List ℕ))) (i : ℕ) (x : Bor (List ℕ)) (step : cell < n) (there : i < length l) where
    cell-text : cell_text n state (name_of (texts l) i) cell ≡ step_text state (get_or l i x).now cell
    cell-text = rw (lt-ltb cell n step, name-lent l i x there)

    pub cell_room : (at : ℕ) → at + length (cell_text n state (name_of (texts l) i) cell) < 2 ^ 64 → at + length (step_text state (get_or l i x).now cell) < 2 ^ 64
    cell_room at h = omega (arith, ap length cell-text)

    pub cell-step : (d : List ℕ) (at r : ℕ) (b : List ℕ) → Counts d at (step_text state (get_or l i x).now cell) r b
        → Counts d at (cell_text n state (name_of (texts l) i) cell) r b
    cell-step d at r b p = rw cell-text p

-- ---- steps

-- A step's signal has an entry among the lent names.
pub entry-lent : (n : ℕ) (cells : List ℕ) (names : List (Bor (List ℕ))) → Writable n cells (texts names)
    → (state a : ℕ) → state < n → a < 32 → get_or cells (state * 32 + a) 0 < n → a < length names
entry-lent n cells names w state a h k c =
    let c' : get_or cells (state * 32 + a) 65535 < n = rw (any_default cells (state * 32 + a) 65535 0 (omega (arith, w.size))) c in
    omega (arith, lent_length names, w.entry state a h k c')

-- The numbers of a list that pass the test.
keep : (ℕ → Bool) → List ℕ → List ℕ
keep f [] = []
keep f (x ∷ l) = cond (f x) (x ∷ keep f l) (keep f l)

those-keep : (f g : ℕ → Bool) (i n : ℕ) → those (λ a. g a && f a) i n ≡ keep f (those g i n)
unfolding those keep
those-keep f g i zero = refl
those-keep f g i (suc n) = rw (those-keep f g (suc i) n) (go (g i) (those g (suc i) n))
  where
    go : (b : Bool) (l : List ℕ) → cond (b && f i) (i ∷ keep f l) (keep f l) ≡ keep f (cond b (i ∷ l) l)
    go true l = refl
    go false l = refl

module _ (n : ℕ) (cells : List ℕ) (names : List (List ℕ)) where
  abbrev t : Table
  t = steps n cells

  steps-lowest : (state left : ℕ) → left < 2 ^ 32 → 0 < left
      → state_lines n cells names state left
      ≡ cell_text n state (name_of names (count_trailing_zeros 32 left)) (cell_at t state (count_trailing_zeros 32 left))
      ++ state_lines n cells names state (left - 2 ^ count_trailing_zeros 32 left)
  unfolding keep step_row
  steps-lowest state left bound more =
      let s = count_trailing_zeros 32 left in
      rw (those-keep (has_step t state) (has left) 0 32, those-keep (has_step t state) (has (left - 2 ^ s)) 0 32)
      (rw (those-lowest 32 left more bound, lt-ltb s 32 (low 32 left more bound).lowest.below)
      (go s (ltb (cell_at t state s) n) (keep (has_step t state) (those (has (left - 2 ^ s)) 0 32))))
    where
      go : (s : ℕ) (b : Bool) (l : List ℕ) → printed (map (step_row t names state) (cond (is_some (cond b (some (cell_at t state s)) none)) (s ∷ l) l))
          ≡ cond b (step_text state (name_of names s) (cell_at t state s)) [] ++ printed (map (step_row t names state) l)
      go s true l = printed-append (step_row t names state s ∷ []) (map (step_row t names state) l)
      go s false l = refl

  -- The next signal's line comes first.
  pub steps_next : (state left s left' : ℕ) → state < n → length cells ≡ n * 32 → left < 2 ^ 32 → Comes left s left'
      → state_lines n cells names state left ≡ cell_text n state (name_of names s) (get_or cells (state * 32 + s) 0) ++ state_lines n cells names state left'
  steps_next state left s left' k e bound step =
      let below : s < 32 = comes-below left s left' bound step in
      rw (any_default cells (state * 32 + s) 0 65535 (omega arith))
      (rw (step.1, step.2) (steps-lowest state left bound step.0))

  pub steps-none : (state left : ℕ) → left ≡ 0 → state_lines n cells names state left ≡ []
  unfolding keep printed
  steps-none state left e = rw (those-keep (has_step t state) (has left) 0 32, e, those_empty 32)

  -- All steps of a state, where their signals are in the set.
  steps_all : (set : ℕ) → Known n cells set → (state : ℕ) → state < n
      → printed (map (step_row t names state) (enabled_signals t state)) ≡ state_lines n cells names state set
  unfolding enabled_signals
  steps_all set known state h =
      ap (λ (l : List ℕ). printed (map (step_row t names state) l))
      (those-same (has_step t state) (λ a. has set a && has_step t state a) 0 32 (λ a z k. member a (omega arith)))
    where
      member : (a : ℕ) → a < 32 → has_step t state a ≡ (has set a && has_step t state a)
      member a k = elim (dec_lt (cell_at t state a) n) [
        | yes c ↦ rw (is_true (has set a) (known state a h k c))
        | no g ↦ rw (lt-ltb a 32 k, le-ltb (cell_at t state a) n (omega arith)) (sym (and-false (has set a)))
      ]

  -- The steps of the states from s on.
  abbrev pub rows_from : ℕ → List ℕ
  rows_from s = printed (step_rows t names s (n - s))

  pub rows_next : (set : ℕ) → Known n cells set → (s : ℕ) → s < n → rows_from s ≡ state_lines n cells names s set ++ rows_from (s + 1)
  unfolding step_rows
  rows_next set known s h =
      let e : n - s ≡ suc (n - (s + 1)) = omega arith in
      rw (e, add-one s) (printed-append (map (step_row t names s) (enabled_signals t s)) (step_rows t names (suc s) (n - suc s))
      ∙ ap (λ (l : List ℕ). l ++ printed (step_rows t names (suc s) (n - suc s))) (steps_all set known s h))

  pub rows_all : step_lines n cells names ≡ rows_from 0
  rows_all = let e : n - 0 ≡ n = omega arith in rw e

  pub rows_none : (s : ℕ) → n ≤ s → rows_from s ≡ []
  unfolding step_rows printed
  rows_none s h = let e : n - s ≡ 0 = omega arith in rw e

-- ---- the text

-- Lines of at most 34 bytes each.
map_most : (f : ℕ → List (List ℕ)) (l : List ℕ) → ((x : ℕ) → In x l → length (printed (f x ∷ [])) ≤ 34) → length (printed (map f l)) ≤ 34 * length l
unfolding printed
map_most f [] h = omega arith
map_most f (x ∷ l) h =
    let rest : length (printed (map f l)) ≤ 34 * length l = map_most f l (λ y i. h y (inr i)) in
    omega (arith, h x (inl refl), ap length (printed-append (f x ∷ []) (map f l)), length-append (printed (f x ∷ [])) (printed (map f l)))

module _ (a : Automaton) (cells : List ℕ) (names : List (List ℕ)) where
  abbrev acts : ℕ
  acts = declared_set a

  pub text-known : Valid (table a cells) → Known a.states cells acts
  text-known v s x h k c =
      let u = cell_at (table a cells) s x in
      subst T (declared-has a cells x k) (v.known s x u h (rw (lt-ltb x 32 k, lt-ltb u a.states c)))

  pub text-writable : Valid (table a cells) → Named acts names → Writable a.states cells names
  text-writable v m = record { few = v.few_states; size = v.size; entry = λ s x h k c. m.entry x k (text-known v s x h k c) }

  all-signals : printed (map (signal_row (table a cells) names) (signals (table a cells))) ≡ signal_lines acts a names
  unfolding signals signal_lines signal_row
  all-signals =
      ap (λ (l : List ℕ). printed (map (signal_row (table a cells) names) l))
      (those-same (declared (table a cells)) (has acts) 0 32 (λ x l h. declared-has a cells x (omega arith)))

  all-steps : (s n : ℕ) → step_rows (table a cells) names s n ≡ step_rows (steps a.states cells) names s n
  unfolding step_rows enabled_signals step_row
  all-steps s zero = refl
  all-steps s (suc n) = rw (all-steps (suc s) n)

  -- ---- how long the lines can be

  module _ (v : Valid (table a cells)) (m : Named acts names) where
    short : (x : ℕ) → T (declared (table a cells) x) → length (name_of names x) ≤ 16
    short x d = let k = table-narrow (table a cells) x d in m.short x k (subst T (declared-has a cells x k) d)

    signals_most : length (printed (map (signal_row (table a cells) names) (signals (table a cells)))) ≤ 34 * 32
    unfolding signals signal_row
    signals_most =
        let t = table a cells in
        omega (
          arith,
          those-few (declared t) 0 32,
          map_most (signal_row t names) (signals t) (λ x i.
              omega (arith, short x (in_those (declared t) x 0 32 i), signal-long (role_of a x) (name_of names x), word_most (role_of a x))),
        )

    state_most : (s : ℕ) → s < a.states → length (printed (map (step_row (table a cells) names s) (enabled_signals (table a cells) s))) ≤ 34 * 32
    unfolding enabled_signals step_row
    state_most s h =
        let t = table a cells in
        omega (
          arith,
          those-few (has_step t s) 0 32,
          map_most (step_row t names s) (enabled_signals t s) (λ x i.
              let (u, e) = is-some ((automaton t).next s x) (in_those (has_step t s) x 0 32 i) in
              omega (arith, short x (v.known s x u h e), step-long s (name_of names x) (cell_at t s x), decimal_most s, decimal_most (cell_at t s x))),
        )

    rows_most : (s n : ℕ) → s + n ≤ a.states → length (printed (step_rows (table a cells) names s n)) ≤ 34 * 32 * n
    unfolding step_rows printed
    rows_most s zero h = omega arith
    rows_most s (suc n) h =
        let t = table a cells in
        let first = map (step_row t names s) (enabled_signals t s) in
        let rest = step_rows t names (suc s) n in
        omega (
          arith,
          state_most s (omega arith),
          rows_most (suc s) n (omega arith),
          ap length (printed-append first rest),
          length-append (printed first) (printed rest),
        )

  module _ (name : List ℕ) where
    abbrev text : List ℕ
    text = whole_text (table a cells) name names

    pub text-parts : text ≡ (table_text name a.states a.initial ++ signal_lines acts a names) ++ step_lines a.states cells names
    unfolding whole_text table_row
    text-parts =
        printed-append (table_row (table a cells) name ∷ map (signal_row (table a cells) names) (signals (table a cells)))
        (step_rows (table a cells) names 0 a.states)
        ∙ rw (printed-append (table_row (table a cells) name ∷ []) (map (signal_row (table a cells) names) (signals (table a cells))))
        (rw (all-signals, all-steps 0 a.states))

    pub text_put : (d : List ℕ) (i j r : ℕ) (b b' b'' : List ℕ) → Counts d 0 (table_text name a.states a.initial) i b
        → Counts b i (signal_lines acts a names) j b' → Counts b' j (step_lines a.states cells names) r b'' → record { value : r ≡ length text; out_after : b'' ≡ stored d 0 text }
    text_put d i j r b b' b'' p q v =
        let e = counts_then d 0 _ _ j r b' b'' (counts_then d 0 _ _ i j b b' p q) v in
        rw text-parts (record { value = omega (arith, e.value); out_after = e.out_after })

    -- The text is not long: its end fits a number of 64 bits.
    pub text-room : Valid (table a cells) → Named acts names → length name ≤ 16
        → length (table_text name a.states a.initial) + length (signal_lines acts a names) + length (step_lines a.states cells names) < 2 ^ 64
    text-room v m short =
        let title = table_text name a.states a.initial in
        let few = v.few_states in
        omega (
          arith,
          table-long name a.states a.initial,
          decimal_most a.states,
          decimal_most a.initial,
          ap length all-signals,
          signals_most v m,
          ap (λ rows. length (printed rows)) (all-steps 0 a.states),
          rows_most v m 0 a.states (omega arith),
        )
