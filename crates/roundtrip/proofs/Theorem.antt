-- The round trip (the letter's demand 2), alone and together: all that the writer takes is read back the same, name for name.
use mathlib.Core.Path.{◌≡◌, refl, sym, ap, ◌∙◌}
use mathlib.Core.Logic.{◌↔◌}
use mathlib.Core.Bool.{true, ◌||◌}
use mathlib.Core.List.{List, []}
use Prim.Native.Nat.{ℕ, ◌*◌, ◌≤◌, ◌<◌}
use native.Mathlib.Omega.{arith}
use lib.Dec.{T}
use lib.ListN.{length, get_or, length-map, get_or-map, take}
use Rattle.std.specs.Prelude.{Ok}
use Rattle.theory.specs.Table.{Table}
use Rattle.theory.specs.Checks.{first, declared}
use Rattle.theory.specs.Valid.{Valid}
use Rattle.theory.proofs.Tests.{is_true, or_left, or_right}
use Rattle.text.specs.declared.Spelling.{Spelling}
use Rattle.text.specs.declared.Spelling.TheVariants.{Exact}
use Rattle.text.specs.Reading.{Reading, finished, read_alone, both, after_first, after_second, read_both, table_read}
use Rattle.text.specs.Writing.{signals, name_of, whole_text, writer_checks, text_length, writer_bytes}
use Rattle.text.specs.Lookup.{ample, nobody, declares, lookup, lookup_number, lookup_alone, lookup_number_alone}
use Rattle.text.proofs.Names.{same-eq}
use Rattle.text.proofs.Ascending.{those-few}
use Rattle.text.proofs.Written.{signals_ascending, written-text}
use Rattle.text.proofs.Accepted.{Sound, accepted, accepted-valid}
use Rattle.roundtrip.specs.RoundTrip.{rank, rank_of, RoundTrip, names_of, place, different, all_names, NoClashBetween, JointTrip}
use Rattle.roundtrip.proofs.Names.{Told, told-map, place-name, different_begins, begins_place, number-within, different_distinct, rank-place, names_in}
use Rattle.roundtrip.proofs.Rows.{Writable, writable}
use Rattle.roundtrip.proofs.Declarations.{number_in, Numbered}
use Rattle.roundtrip.proofs.Same.{copy_declares, copy_name, copy_again}
use Rattle.roundtrip.proofs.Trip.{signals_distinct, declared_in, in_declared, Copy, trip-from}

-- ---- a text alone

module _ (t : Table) (name : List ℕ) (names : List (List ℕ)) (w : Writable t name names) where
  signals-few : length (names_of t names) ≤ 32
  unfolding signals
  signals-few = omega (arith, length-map (signals t) (name_of names), those-few (declared t) 0 32)

  all_new : different [] (names_of t names) ≡ names_of t names
  all_new = different_distinct (name_of names) 0 (signals t) (signals_ascending t) (signals_distinct t w)

  alone_numbered : Numbered t names (names_of t names)
  alone_numbered = record {
    within = λ a d. rw all_new at (number-within (name_of names) a (signals t) [] (declared_in t a d));
    few = signals-few;
  }

  rank-number : (a : ℕ) → T (declared t a) → rank a (signals t) ≡ number_in names (names_of t names) a
  rank-number a d = sym (rank-place (name_of names) 0 a (signals t) (signals_ascending t) (signals_distinct t w) (declared_in t a d))

  module _ (c : Spelling) where
    read_alone_lem : (cells : ℕ) → t.header.states * 32 ≤ cells
        → (st : Reading) × (read_alone c cells (whole_text t name names) ≡ finished st) × Copy t names (names_of t names) st
    unfolding read_alone
    read_alone_lem cells fits =
        let few : length (different [] (names_of t names)) ≤ 32 = rw all_new signals-few in
        rw all_new at (trip-from c t name names w [] (λ a d. tt) 1 cells fits few)

    -- Looking up a declared number gives its signal's name.
    found_alone_lem : (a : ℕ) → T (declared t a)
        → ((lookup_alone c (whole_text t name names) (rank a (signals t))).name ≡ name_of names a)
        × (lookup_number_alone c (whole_text t name names) (rank a (signals t)) ≡ 0)
    unfolding lookup_alone lookup_number_alone
    found_alone_lem a d =
        let (st, e, k) = read_alone_lem ample (omega (arith, w.valid.few_states)) in
        let i = number_in names (names_of t names) a in
        let h : declares st i ≡ true = is_true (declares st i) (copy_declares t names (names_of t names) alone_numbered st k a d) in (
          rw (e, rank-number a d, h) (copy_name t names (names_of t names) alone_numbered st k a d),
          rw (e, rank-number a d, h),
        )

    trip : (cells : ℕ) → t.header.states * 32 ≤ cells → RoundTrip c t names cells (whole_text t name names)
    unfolding read_alone
    trip cells fits =
        let (st, e, k) = read_alone_lem cells fits in
        record {
          reading = st;
          read = e;
          again =
              copy_again t names (names_of t names) alone_numbered st k (accepted-valid [] cells st (accepted c [] 1 cells (whole_text t name names) st (omega arith) e))
              (lookup_alone c (whole_text t name names)) (lookup_number_alone c (whole_text t name names)) (rank_of t) rank-number found_alone_lem;
        }

-- All that the writer takes is read back, in any spelling: by the reading and by the archive reading.
pub round_trip : (c : Spelling) (t : Table) (name : List ℕ) (names : List (List ℕ)) (room : ℕ) → first (writer_checks t name names room) ≡ Ok tt
    → (cells : ℕ) → t.header.states * 32 ≤ cells → RoundTrip c t names cells (whole_text t name names)
round_trip c t name names room e cells fits = trip t name names (writable t name names room e) c cells fits

-- What the writer leaves in the lent bytes, by its contract, is read back.
pub written-trip : (c : Spelling) (t : Table) (name : List ℕ) (names : List (List ℕ)) (bytes : List ℕ)
    → first (writer_checks t name names (length bytes)) ≡ Ok tt → (cells : ℕ) → t.header.states * 32 ≤ cells
    → RoundTrip c t names cells (take (text_length t name names) (writer_bytes t name names bytes))
written-trip c t name names bytes e cells fits = rw (written-text t name names bytes e _ refl) (round_trip c t name names (length bytes) e cells fits)

-- ---- a component's and a specification's text together

module _ (c : Spelling) (m : Table) (name : List ℕ) (names : List (List ℕ)) (w : Writable m name names)
    (p : Table) (name' : List ℕ) (names' : List (List ℕ)) (w' : Writable p name' names') (few : length (all_names m names p names') ≤ 32)
    (unlike : NoClashBetween c m names p names') where
  abbrev all : List (List ℕ)
  all = all_names m names p names'

  abbrev text : List ℕ
  text = whole_text m name names

  abbrev text' : List ℕ
  text' = whole_text p name' names'

  second-numbered : Numbered p names' all
  second-numbered = record { within = λ b d. number-within (name_of names') b (signals p) (names_of m names) (declared_in p b d); few = few }

  -- The component's names keep their places among all.
  first-place : (a : ℕ) → T (declared m a) → (number_in names all a ≡ rank a (signals m)) × (number_in names all a < length all)
  first-place a d =
      let (e, l) = begins_place (different_begins (names_of m names) (names_of p names')) (name_of names a) ((alone_numbered m name names w).within a d) in
      (e ∙ sym (rank-number m name names w a d), l)

  -- A name of the specification is told from the component's.
  told-first : (b : ℕ) → T (declared p b) → Told c (name_of names' b) (names_of m names)
  told-first b d = told-map c (name_of names' b) (name_of names) (signals m) (λ a i. unlike a b (in_declared m a i) d)

  record Readings (cells cells' : ℕ) : Type 0 where
    first : Reading
    second : Reading
    read : read_both c cells text cells' text' ≡ both first second
    first_copy : Copy m names (names_of m names) first
    second_copy : Copy p names' all second
    first_valid : Valid (table_read first)
    second_valid : Valid (table_read second)

  read-both : (cells cells' : ℕ) → m.header.states * 32 ≤ cells → p.header.states * 32 ≤ cells' → Readings cells cells'
  unfolding read_both read_alone
  read-both cells cells' fits fits' =
      let (x, e, k) = read_alone_lem m name names w c cells fits in
      let few' : length (different (names_in x.signals) (names_of p names')) ≤ 32 = rw k.listed few in
      let (y, f, d) = trip-from c p name' names' w' x.signals (λ b d. rw k.listed (told-first b d)) 2 cells' fits' few' in
      let u : Sound [] cells x = accepted c [] 1 cells text x (omega arith) e in
      record {
        first = x;
        second = y;
        read = ap (after_first c cells' text') e ∙ ap (after_second x) f;
        first_copy = k;
        second_copy = rw k.listed at d;
        first_valid = accepted-valid [] cells x u;
        second_valid = accepted-valid x.signals cells' y (accepted c x.signals 2 cells' text' y u.few_signals f);
      }

  -- Looking up a number that is declared gives the name that stands there.
  abbrev Found : ℕ → List ℕ → Type 0
  Found b n = ((lookup c text text' b).name ≡ n) × (lookup_number c text text' b ≡ 0)

  ample_readings : Readings ample ample
  ample_readings = read-both ample ample (omega (arith, w.valid.few_states)) (omega (arith, w'.valid.few_states))

  found-both : (r : Readings ample ample) (b : ℕ) → T (declares r.first b || declares r.second b) → Found b (get_or all b [])
  unfolding lookup lookup_number
  found-both r b d =
      let h : (declares r.first b || declares r.second b) ≡ true = is_true (declares r.first b || declares r.second b) d in (
        rw (r.read, h) (sym (get_or-map (λ s. s.name) r.second.signals b nobody) ∙ ap (λ l. get_or l b []) r.second_copy.listed),
        rw (r.read, h),
      )

  found_first : (a : ℕ) → T (declared m a) → Found (rank a (signals m)) (name_of names a)
  found_first a d =
      let r = ample_readings in
      let i = rank a (signals m) in
      let known : T (declares r.first i) =
      rw (rank-number m name names w a d) (copy_declares m names (names_of m names) (alone_numbered m name names w) r.first r.first_copy a d) in
      let (e, l) = first-place a d in
      let (n, z) = found-both r i (or_left (declares r.first i) (declares r.second i) known) in
      (n ∙ ap (λ i. get_or all i []) (sym e) ∙ place-name (name_of names a) all l, z)

  found-second : (b : ℕ) → T (declared p b) → Found (number_in names' all b) (name_of names' b)
  found-second b d =
      let r = ample_readings in
      let i = number_in names' all b in
      let known : T (declares r.second i) = copy_declares p names' all second-numbered r.second r.second_copy b d in
      let (n, z) = found-both r i (or_right (declares r.first i) (declares r.second i) known) in
      (n ∙ place-name (name_of names' b) all (second-numbered.within b d), z)

  -- A number is shared exactly for a shared name.
  shared : (a b : ℕ) → T (declared m a) → T (declared p b) → (rank a (signals m) ≡ number_in names' all b) ↔ (name_of names a ≡ name_of names' b)
  shared a b d e =
      let (f, l) = first-place a d in (
        (λ q. sym (place-name (name_of names a) all l) ∙ ap (λ i. get_or all i []) (f ∙ q) ∙ place-name (name_of names' b) all (second-numbered.within b e)),
        (λ q. sym f ∙ ap (λ n. place n all) q),
      )

  trip-both : (cells cells' : ℕ) → m.header.states * 32 ≤ cells → p.header.states * 32 ≤ cells' → JointTrip c m names p names' cells cells' text text'
  trip-both cells cells' fits fits' =
      let r = read-both cells cells' fits fits' in
      record {
        first = r.first;
        second = r.second;
        read = r.read;
        component =
            copy_again m names (names_of m names) (alone_numbered m name names w) r.first r.first_copy r.first_valid
            (lookup c text text') (lookup_number c text text') (rank_of m) (rank-number m name names w) found_first;
        specification =
            copy_again p names' all second-numbered r.second r.second_copy r.second_valid
            (lookup c text text') (lookup_number c text text') (number_in names' all) (λ b d. refl) found-second;
        shared = shared;
      }

-- Names that match byte by byte are equal.
pub exact_no_clash : (m : Table) (names : List (List ℕ)) (p : Table) (names' : List (List ℕ)) → NoClashBetween Exact m names p names'
exact_no_clash m names p names' a b h k e = same-eq (name_of names a) (name_of names' b) e

module _ (m : Table) (name : List ℕ) (names : List (List ℕ)) (p : Table) (name' : List ℕ) (names' : List (List ℕ))
    (few : length (all_names m names p names') ≤ 32) (cells cells' : ℕ) (fits : m.header.states * 32 ≤ cells) (fits' : p.header.states * 32 ≤ cells') where
  module _ (room room' : ℕ) (e : first (writer_checks m name names room) ≡ Ok tt) (e' : first (writer_checks p name' names' room') ≡ Ok tt) where
    -- What the writer takes of a component and of a specification, with at most 32 different names in all, is read back together if no name of one clashes with a name of
    -- the other.
    pub joint-trip : (c : Spelling) → NoClashBetween c m names p names' → JointTrip c m names p names' cells cells' (whole_text m name names) (whole_text p name' names')
    joint-trip c unlike =
        trip-both c m name names (writable m name names room e) p name' names' (writable p name' names' room' e') few unlike cells cells' fits fits'

    -- The archive reading takes names that clash as well.
    pub archive_joint_trip : JointTrip Exact m names p names' cells cells' (whole_text m name names) (whole_text p name' names')
    archive_joint_trip = joint-trip Exact (exact_no_clash m names p names')

  -- What the writer leaves in the lent bytes, by its contract, is read back.
  module _ (bytes bytes' : List ℕ) (e : first (writer_checks m name names (length bytes)) ≡ Ok tt)
      (e' : first (writer_checks p name' names' (length bytes')) ≡ Ok tt) where
    abbrev written : List ℕ
    written = take (text_length m name names) (writer_bytes m name names bytes)

    abbrev written' : List ℕ
    written' = take (text_length p name' names') (writer_bytes p name' names' bytes')

    pub written-joint-trip : (c : Spelling) → NoClashBetween c m names p names' → JointTrip c m names p names' cells cells' written written'
    written-joint-trip c unlike =
        rw (written-text m name names bytes e _ refl, written-text p name' names' bytes' e' _ refl) (joint-trip (length bytes) (length bytes') e e' c unlike)

    pub archive_written_joint_trip : JointTrip Exact m names p names' cells cells' written written'
    archive_written_joint_trip = written-joint-trip Exact (exact_no_clash m names p names')
