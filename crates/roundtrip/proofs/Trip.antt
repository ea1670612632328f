-- What is written is read back, after any signals that are numbered already.
use mathlib.Core.Path.{◌≡◌, refl, sym, ap, subst, ◌∙◌}
use mathlib.Core.Bool.{false}
use mathlib.Core.List.{List, [], ◌∷◌, ◌++◌, map}
use Prim.Native.Nat.{ℕ, ◌+◌, ◌*◌, ◌≤◌}
use native.Mathlib.Omega.{arith}
use lib.Arith.{digits_lt}
use lib.Dec.{T}
use lib.ListN.{length, get_or, replicate, length-replicate}
use borrow.Author.Tests.{le-ltb}
use Rattle.theory.specs.Table.{with_lists, Table, table as table_of}
use Rattle.theory.specs.Checks.{declared}
use Rattle.theory.proofs.Filled.{replicate-at}
use Rattle.theory.proofs.Table.{table-narrow}
use Rattle.text.specs.declared.Place.TheVariants.{Head, Declarations}
use Rattle.text.specs.declared.Spelling.{Spelling}
use Rattle.text.specs.Fields.{split}
use Rattle.text.specs.Lines.{by_kind}
use Rattle.text.specs.Reading.{Signal, Reading, next, entered, finished, is_nil, read_lines, fresh, read_from}
use Rattle.text.specs.Writing.{signals, name_of, tabbed, printed, table_row, signal_row, step_rows, whole_text, text_length, those}
use Rattle.text.proofs.Ascending.{In, in_those, those_in}
use Rattle.text.proofs.Roles.{roles_at, no_role, some_role, empty_lists}
use Rattle.text.proofs.Entries.{started-next}
use Rattle.roundtrip.specs.RoundTrip.{different, names_of}
use Rattle.roundtrip.proofs.Names.{Told, number-within, Distinct, names_in}
use Rattle.roundtrip.proofs.Lines.{goes, Reaches, reaches_then, reaches_map, runs-read}
use Rattle.roundtrip.proofs.Put.{put_nothing, put_value}
use Rattle.roundtrip.proofs.Rows.{Writable, apart-names, table-plain, table-entry}
use Rattle.roundtrip.proofs.Declarations.{number_in, Numbered, Declaring, declarations}
use Rattle.roundtrip.proofs.Steps.{Move, cell_in, turn, cell_of, Good, steps}

-- ---- the declared signals

module _ (t : Table) where
  pub declared_in : (a : ℕ) → T (declared t a) → In a (signals t)
  unfolding signals
  declared_in a d = those_in (declared t) a 0 32 d (omega arith) (table-narrow t a d)

  pub in_declared : (a : ℕ) → In a (signals t) → T (declared t a)
  unfolding signals
  in_declared a i = in_those (declared t) a 0 32 i

  pub signals_distinct : {name : List ℕ} {names : List (List ℕ)} → Writable t name names → Distinct (name_of names) (signals t)
  signals_distinct w a b h k = apart-names w a b (in_declared a h) (in_declared b k)

-- ---- a reading that is the table t again, its signals numbered by the places of their names in `final`

pub record Copy (t : Table) (names final : List (List ℕ)) (st : Reading) : Type 0 where
  pub states : st.header.states ≡ t.header.states
  pub initial : st.header.initial ≡ t.header.initial
  pub listed : names_in st.signals ≡ final
  pub roles : (a : ℕ) → T (declared t a) → roles_at st.header (number_in names final a) ≡ roles_at t.header a
  pub others : (i : ℕ) → ((a : ℕ) → T (declared t a) → ¬ (number_in names final a ≡ i)) → roles_at st.header i ≡ no_role
  pub cells : (k : Move) → Good t k → get_or st.cells (cell_in names final k) 65535 ≡ cell_of t k
  pub blank : (i : ℕ) → ((k : Move) → Good t k → ¬ (cell_in names final k ≡ i)) → get_or st.cells i 65535 ≡ 65535

module _ (c : Spelling) (t : Table) (name : List ℕ) (names : List (List ℕ)) (w : Writable t name names)
    (l : List Signal) (told : (a : ℕ) → T (declared t a) → Told c (name_of names a) (names_in l)) (text room : ℕ)
    (fits : t.header.states * 32 ≤ room) (few : length (different (names_in l) (names_of t names)) ≤ 32) where
  final : List (List ℕ)
  final = different (names_in l) (names_of t names)

  numbered : Numbered t names final
  unfolding final
  numbered = record { within = λ a d. number-within (name_of names) a (signals t) (names_in l) (declared_in t a d); few = few }

  begun : Reading
  begun = record {
    place = Declarations;
    header = with_lists t.header 0 0;
    signals = l;
    cells = replicate room 65535;
  }

  enter : entered c text 0 (fresh l room) (by_kind Head (table_row t name)) ≡ next begun
  unfolding entered begun
  enter =
      ap (entered c text 0 (fresh l room)) (table-entry t name names w)
      ∙ started-next (fresh l room) t.header.states t.header.initial w.valid.some_state w.valid.few_states w.valid.initial
      (omega (arith, length-replicate {A = ℕ} room 65535))

  declare : Declaring t name names final w numbered c (replicate room 65535) 0 begun
  unfolding begun final signals
  declare = record {
    stands = refl;
    states = refl;
    initial = refl;
    cells = refl;
    told = told;
    all = refl;
    roles = put_nothing (λ x. x) (number_in names final) (roles_at t.header) no_role (λ x. T (declared t x)) (empty_lists t.header);
  }

  steps_copy : (a : Reading) → Declaring t name names final w numbered c (replicate room 65535) 32 a → (at : ℕ)
      → Reaches c text (step_rows t names 0 t.header.states) at a (Copy t names final)
  unfolding different those
  steps_copy a u at =
      let roles : (x : ℕ) → T (declared t x) → roles_at a.header (number_in names final x) ≡ roles_at t.header x =
      λ x d. put_value (λ x. x) (number_in names final) (roles_at t.header) no_role (λ x. T (declared t x)) u.roles x d (table-narrow t x d) in
      let known : (x : ℕ) → T (declared t x) → T (declared (table_of a.header []) (number_in names final x)) =
      λ x d. subst (λ p. T (some_role p)) (sym (roles x d)) d in
      reaches_map c text (λ b v. record {
        states = ap (λ h. h.states) v.header ∙ u.states;
        initial = ap (λ h. h.initial) v.header ∙ u.initial;
        listed = ap names_in v.signals ∙ u.all;
        roles = λ x d. ap (λ h. roles_at h (number_in names final x)) v.header ∙ roles x d;
        others = λ i m. ap (λ h. roles_at h i) v.header ∙ u.roles.others i m;
        cells = λ k g. put_value turn (cell_in names final) (cell_of t) 65535 (Good t) v.cells k g (digits_lt g.0 (table-narrow t k.1 g.1));
        blank = v.cells.others;
      })
      (steps t name names final w numbered c text a.header a.signals room fits u.states known u.all t.header.states 0 at a (omega arith) (record {
        stands = rw u.stands;
        header = refl;
        signals = refl;
        size = rw u.cells (length-replicate {A = ℕ} room 65535);
        cells = put_nothing turn (cell_in names final) (cell_of t) 65535 (Good t) (λ i. rw u.cells (replicate-at room i 65535));
      }))

  copied : Reaches c text (table_row t name ∷ map (signal_row t names) (signals t) ++ step_rows t names 0 t.header.states) 0 (fresh l room) (Copy t names final)
  copied =
      let u = reaches_then c text (declarations t name names final w numbered c text (replicate room 65535) (0 + length (tabbed (table_row t name)) + 1) begun declare) steps_copy in
      record { end = u.end; runs = goes (table-plain t name names w) enter u.runs; holds = u.holds }

  text-some : is_nil (whole_text t name names) ≡ false
  unfolding whole_text printed table_row tabbed
  text-some = refl

  text-lines : read_lines c text 1 0 (fresh l room) (split 10 (whole_text t name names)) ≡ finished copied.end
  unfolding whole_text
  text-lines = runs-read c text 1 copied.runs

  pub trip-from : (st : Reading) × (read_from c l text room (whole_text t name names) ≡ finished st) × Copy t names (different (names_in l) (names_of t names)) st
  unfolding read_from final text_length
  trip-from =
      let short : length (whole_text t name names) ≤ 65536 = w.short in
      (copied.end, rw (le-ltb 65536 (length (whole_text t name names)) short, text-some) text-lines, copied.holds)
