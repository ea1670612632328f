-- Names by their places in two texts: the key of a name, finding one, adding one.
use mathlib.Core.Path.{◌≡◌, refl, sym, ap, subst, ◌∙◌}
use mathlib.Core.Bool.{Bool, true, false, ◌&&◌, cond}
use mathlib.Core.List.{List, [], ◌∷◌, ◌++◌, map, map-append}
use Prim.Native.Nat.{ℕ, zero, suc, ◌+◌, ◌-◌, ◌*◌, ◌/◌, ◌%◌, ◌<◌, ◌≤◌, min}
use native.Mathlib.Numerals.{add-one}
use native.Mathlib.Omega.{arith}
use native.Mathlib.Decide.{dec_lt}
use lib.Dec.{T, eqb, ltb, leb}
use lib.ListN.{length, take, drop, get_or, set, replicate, length-map, length-append, length-replicate, drop_of_length-le, get_or-map, get_or-eq_default}
use lib.Seq.{drop-cons, get_or-take, length-take-le, take-suc-set, take_all}
use borrow.Author.Tests.{eq-eqb, eqb-true, lt-ltb, le-ltb, lt-leb}
use Rattle.theory.proofs.Tests.{is_true, and_left, and_right}
use Rattle.text.specs.declared.Spelling.{Spelling}
use Rattle.text.specs.declared.Spelling.TheVariants.{Exact, Folded}
use Rattle.text.specs.Fields.{spelled, matches}
use Rattle.text.specs.Reading.{Signal, text_of, first_match, known}
use Rattle.text.specs.Lookup.{nobody}
use Rattle.names.specs.declared.Name.{Name}
use Rattle.names.specs.declared.Names.{Names}
use Rattle.names.specs.NamePlaces.{name_at}
use Rattle.names.specs.Numbering.{from_end, key, unused, entry_at, entries_of, signal_at, signals_of, entry_of, table_of, Fit, first_place, is_of, with_entry}

-- ---- the key of a name

-- The last five bits of a letter are those of its other case.
spelled-mod : (c : Spelling) (x : ℕ) → spelled c x % 32 ≡ x % 32
spelled-mod Exact x = refl
spelled-mod Folded x = go (leb 65 x && leb x 90)
  where
    go : (b : Bool) → cond b (x + 32) x % 32 ≡ x % 32
    go true = omega arith
    go false = refl

module _ (c : Spelling) where
  -- Of two names that match, the first bytes match, and the others.
  match_cons : (x y : ℕ) (s t : List ℕ) → matches c (x ∷ s) (y ∷ t) ≡ true → (spelled c x ≡ spelled c y) × (matches c s t ≡ true)
  unfolding matches
  match_cons x y s t e =
      let both = subst T (sym e) tt in (
        eqb-true (spelled c x) (spelled c y) (is_true (eqb (spelled c x) (spelled c y)) (and_left (eqb (spelled c x) (spelled c y)) (matches c s t) both)),
        is_true (matches c s t) (and_right (eqb (spelled c x) (spelled c y)) (matches c s t) both),
      )

  match-length : (s t : List ℕ) → matches c s t ≡ true → length s ≡ length t
  unfolding matches
  match-length [] [] e = refl
  match-length [] (y ∷ t) e = absurd (subst T (sym e) tt)
  match-length (x ∷ s) [] e = absurd (subst T (sym e) tt)
  match-length (x ∷ s) (y ∷ t) e = ap suc (match-length s t (match_cons x y s t e).1)

  -- Byte by byte the last five bits are the same.
  match_bits : (s t : List ℕ) → matches c s t ≡ true → (i : ℕ) → get_or s i 0 % 32 ≡ get_or t i 0 % 32
  unfolding matches
  match_bits [] [] e i = refl
  match_bits [] (y ∷ t) e i = absurd (subst T (sym e) tt)
  match_bits (x ∷ s) [] e i = absurd (subst T (sym e) tt)
  match_bits (x ∷ s) (y ∷ t) e zero = sym (spelled-mod c x) ∙ ap (λ z. z % 32) (match_cons x y s t e).0 ∙ spelled-mod c y
  match_bits (x ∷ s) (y ∷ t) e (suc i) = match_bits s t (match_cons x y s t e).1 i

  match-from-end : (s t : List ℕ) → matches c s t ≡ true → (k : ℕ) → from_end k s % 32 ≡ from_end k t % 32
  unfolding from_end
  match-from-end s t e k = rw (match-length s t e) (go (ltb (length t) k) (get_or s (length t - k) 0) (get_or t (length t - k) 0) (match_bits s t e (length t - k)))
    where
      go : (v : Bool) (a b : ℕ) → a % 32 ≡ b % 32 → cond v 0 a % 32 ≡ cond v 0 b % 32
      go true a b h = refl
      go false a b h = h

  match-key : (s t : List ℕ) → matches c s t ≡ true → key s ≡ key t
  unfolding key
  match-key s t e =
      let three : from_end 2 s % 8 ≡ from_end 2 t % 8 = omega (arith, match-from-end s t e 2) in
      rw (match-from-end s t e 1, three)

  -- A test of the key before changes nothing.
  pub keyed : (s t : List ℕ) → (eqb (key s) (key t) && matches c s t) ≡ matches c s t
  keyed s t = go (matches c s t) refl
    where
      go : (b : Bool) → matches c s t ≡ b → (eqb (key s) (key t) && b) ≡ b
      go true e = rw (eq-eqb (key s) (key t) (match-key s t e))
      go false e = off (eqb (key s) (key t))
        where
          off : (v : Bool) → (v && false) ≡ false
          off true = refl
          off false = refl

-- ---- the first that passes a test

module _ {A : Type 0} (f : A → Bool) (l : List A) (i : ℕ) (inv : i + first_place f (drop i l) ≡ first_place f l) where
  module _ (d : A) (h : i < length l) where
    pub position_here : f (get_or l i d) ≡ true → i ≡ first_place f l
    unfolding first_place
    position_here e =
        let z : first_place f (drop i l) ≡ 0 = ap (first_place f) (drop-cons l i d h) ∙ rw e in
        omega arith

    pub position-next : f (get_or l i d) ≡ false → i + 1 + first_place f (drop (i + 1) l) ≡ first_place f l
    unfolding first_place
    position-next e =
        let z : first_place f (drop i l) ≡ suc (first_place f (drop (i + 1) l)) = ap (first_place f) (drop-cons l i d h) ∙ rw (e, add-one i) in
        omega arith

  pub position-none : length l ≤ i → i ≡ first_place f l
  unfolding first_place
  position-none h =
      let z : first_place f (drop i l) ≡ 0 = ap (first_place f) (drop_of_length-le l {i = i} h) in
      omega arith

-- ---- while a name is looked for: those before the entry i are other names

module _ (m p : List ℕ) (c : Spelling) (wanted : List ℕ) (k : ℕ) (keys : k ≡ key wanted) (entries : List Name) (size : length entries ≡ 32)
    (count : ℕ) (few : count ≤ 32) (i : ℕ)
    (before : i + first_place (is_of m p c wanted) (drop i (take count entries)) ≡ first_place (is_of m p c wanted) (take count entries)) where
  within : length (take count entries) ≡ count
  within = length-take-le count entries (omega arith)

  -- What is found among those that are used is found among as many as are counted.
  counted : (n : ℕ) → count ≡ min n 32 → i ≡ first_place (is_of m p c wanted) (take count entries) → i ≡ first_place (is_of m p c wanted) (take n entries)
  counted n e f = elim (dec_lt n 32) [
    | yes h ↦ let z : count ≡ n = omega arith in rw (← z) f
    | no h ↦ rw (take_all n entries (omega arith)) (rw (take_all count entries (omega arith)) at f)
  ]

  module _ (h : i < count) (d : Name) (r : Bool) (told : r ≡ (eqb (get_or entries i d).key k && matches c (name_at m p (get_or entries i d)) wanted)) where
    of_entry : is_of m p c wanted (get_or (take count entries) i d) ≡ r
    of_entry = rw (get_or-take count entries i d h, ← keys) (sym told)

    pub find-here : r ≡ true → (n : ℕ) → count ≡ min n 32 → i ≡ first_place (is_of m p c wanted) (take n entries)
    find-here e n f = counted n f (position_here (is_of m p c wanted) (take count entries) i before d (omega (arith, within)) (of_entry ∙ e))

    pub find-next : r ≡ false → i + 1 + first_place (is_of m p c wanted) (drop (i + 1) (take count entries)) ≡ first_place (is_of m p c wanted) (take count entries)
    find-next e = position-next (is_of m p c wanted) (take count entries) i before d (omega (arith, within)) (of_entry ∙ e)

  pub find_none : count ≤ i → (n : ℕ) → count ≡ min n 32 → i ≡ first_place (is_of m p c wanted) (take n entries)
  find_none h n f = counted n f (position-none (is_of m p c wanted) (take count entries) i before (omega (arith, within)))

-- ---- adding

pub add-known : (s : Names) (n : Name) (number : ℕ) → number < s.count → s ≡ with_entry s n number
unfolding with_entry
add-known s n number h = rw (lt-ltb number s.count h)

pub add-new : (s : Names) (n : Name) (number : ℕ) → s.count ≤ number → s.count < 32
    → ◌≡◌ {A = Names} (record { entries = set s.entries s.count n; count = s.count + 1 }) (with_entry s n number)
unfolding with_entry
add-new s n number h k = rw (le-ltb number s.count h, lt-leb 32 s.count k)

-- ---- tables of the signals that they stand for

-- What is not used is free for the next element.
pub set-behind : {A : Type 0} (u : A) (l : List A) (k : ℕ) (x : A) → set (l ++ replicate (suc k) u) (length l) x ≡ (l ++ x ∷ []) ++ replicate k u
set-behind u [] k x = refl
set-behind u (y ∷ l) k x = ap (λ r. y ∷ r) (set-behind u l k x)

take_front : {A : Type 0} (l r : List A) → take (length l) (l ++ r) ≡ l
take_front [] r = refl
take_front (x ∷ l) r = ap (λ t. x ∷ t) (take_front l r)

pub none-fit : (m p : List ℕ) (s : Names) → s ≡ table_of [] → Fit m p s
unfolding signals_of
none-fit m p s e = rw e (record { few = omega arith; is = refl })

pub none-signals : (m p : List ℕ) → signals_of m p (table_of []) ≡ []
unfolding signals_of
none-signals m p = refl

-- Elements that are not used say nothing.
get_same : {A : Type 0} (k i : ℕ) (u : A) → get_or (replicate k u) i u ≡ u
get_same zero i u = refl
get_same (suc k) zero u = refl
get_same (suc k) (suc i) u = get_same k i u

get_front : {A : Type 0} (l : List A) (k i : ℕ) (u : A) → get_or (l ++ replicate k u) i u ≡ get_or l i u
get_front [] k i u = get_same k i u
get_front (x ∷ l) k zero u = refl
get_front (x ∷ l) k (suc i) u = get_front l k i u

-- The name of a number in the table of some signals that stand in the texts.
pub part-name : (m p : List ℕ) (s : Names) → s ≡ table_of (signals_of m p s) → (a : ℕ) → name_at m p (entry_at s a) ≡ (get_or (signals_of m p s) a nobody).name
unfolding signals_of
part-name m p s is a = elim (dec_lt a s.count) [
  | yes h ↦ ap (λ n. name_at m p n) (sym (get_or-take s.count s.entries a unused h)) ∙ sym (ap (λ x. x.name) (get_or-map (signal_at m p) (entries_of s) a unused))
  | no h ↦
      let n : length (signals_of m p s) ≡ s.count = sym (ap (λ x. x.count) is) in
      let free : entry_at s a ≡ unused =
      ap (λ x. entry_at x a) is
      ∙ get_front (map entry_of (signals_of m p s)) (32 - length (signals_of m p s)) a unused
      ∙ get_or-eq_default (map entry_of (signals_of m p s)) unused (omega (arith, length-map (signals_of m p s) entry_of)) in
      ap (name_at m p) free ∙ sym (ap (λ x. x.name) (get_or-eq_default (signals_of m p s) nobody (omega arith)))
]

module _ (m p : List ℕ) where
  -- The entries of signals, looked through, are the signals.
  find-among : (c : Spelling) (w : List ℕ) (l : List Signal) → map (signal_at m p) (map entry_of l) ≡ l → first_place (is_of m p c w) (map entry_of l) ≡ first_match c w l
  unfolding first_place first_match
  find-among c w [] e = refl
  find-among c w (x ∷ l) e =
      let name : name_at m p (entry_of x) ≡ x.name = ap (λ k. (get_or k 0 x).name) e in
      rw (name, keyed c x.name w, find-among c w l (ap (drop 1) e))

  module _ (s : Names) (fit : Fit m p s) where
    abbrev signals : List Signal
    signals = signals_of m p s

    pub signals-length : length signals ≡ s.count
    signals-length = sym (ap (λ x. x.count) fit.is)

    entries-are : entries_of s ≡ map entry_of signals
    entries-are =
        let n : length signals ≡ length (map entry_of signals) = sym (length-map signals entry_of) in
        ap entries_of fit.is ∙ ap (λ k. take k (map entry_of signals ++ replicate (32 - length signals) unused)) n
        ∙ take_front (map entry_of signals) (replicate (32 - length signals) unused)

    stands : map (signal_at m p) (map entry_of signals) ≡ signals
    unfolding signals_of
    stands = ap (map (signal_at m p)) (sym entries-are)

    pub entries-length : length s.entries ≡ 32
    entries-length =
        ap (λ x. length x.entries) fit.is ∙ length-append (map entry_of signals) (replicate (32 - length signals) unused)
        ∙ (let a = length-map signals entry_of in let b = length-replicate {A = Name} (32 - length signals) unused in omega (arith, fit.few, signals-length))

    -- The signal of a number, by its entry.
    pub signal-at : (d : Name) (i : ℕ) → i < s.count → get_or signals i (signal_at m p d) ≡ signal_at m p (get_or s.entries i d)
    unfolding signals_of
    signal-at d i h = get_or-map (signal_at m p) (entries_of s) i d ∙ ap (signal_at m p) (get_or-take s.count s.entries i d h)

    -- Finding a name in the table is finding it among the signals.
    pub find-signal : (c : Spelling) (w : List ℕ) → first_place (is_of m p c w) (entries_of s) ≡ first_match c w signals
    find-signal c w = ap (first_place (is_of m p c w)) entries-are ∙ find-among c w signals stands

    module _ (n : Name) (placed : n ≡ entry_of (signal_at m p n)) (number : ℕ) (low : number ≤ s.count) (below : number < 32) where
      same : number < s.count → with_entry s n number ≡ s
      same h = sym (add-known s n number h)

      more : s.count ≤ number → with_entry s n number ≡ record { entries = set s.entries s.count n; count = s.count + 1 }
      more h = sym (add-new s n number h (omega arith))

      more-signals : s.count ≤ number → signals_of m p (with_entry s n number) ≡ signals ++ signal_at m p n ∷ []
      unfolding signals_of
      more-signals h = rw (more h, add-one s.count, take-suc-set s.entries s.count n (omega (arith, entries-length))) (map-append (signal_at m p) (entries_of s) (n ∷ []))

      pub add-signal : signals_of m p (with_entry s n number) ≡ known signals (signal_at m p n) number
      add-signal = elim (dec_lt number s.count) [
        | yes h ↦ ap (signals_of m p) (same h) ∙ rw (signals-length, lt-ltb number s.count h)
        | no h ↦ more-signals (omega arith) ∙ rw (signals-length, le-ltb number s.count (omega arith))
      ]

      pub add_fit : Fit m p (with_entry s n number)
      add_fit = elim (dec_lt number s.count) [
        | yes h ↦ rw (same h) fit
        | no h ↦ grown (omega arith)
      ]
        where
          grown : s.count ≤ number → Fit m p (with_entry s n number)
          grown h =
              let size : length (signals ++ signal_at m p n ∷ []) ≡ s.count + 1 = length-append signals (signal_at m p n ∷ []) ∙ omega (arith, signals-length) in
              let rest : 32 - length signals ≡ suc (32 - (s.count + 1)) = omega (arith, signals-length) in
              let entries : set s.entries s.count n ≡ map entry_of (signals ++ signal_at m p n ∷ []) ++ replicate (32 - (s.count + 1)) unused =
              ap (λ x. set x.entries s.count n) fit.is
              ∙ ap (λ k. set (map entry_of signals ++ replicate (32 - length signals) unused) k n) (sym (length-map signals entry_of ∙ signals-length))
              ∙ ap (λ k. set (map entry_of signals ++ replicate k unused) (length (map entry_of signals)) n) rest
              ∙ set-behind unused (map entry_of signals) (32 - (s.count + 1)) n
              ∙ ap (λ e. e ++ replicate (32 - (s.count + 1)) unused) (ap (λ x. map entry_of signals ++ x ∷ []) placed ∙ sym (map-append entry_of signals (signal_at m p n ∷ []))) in
              record {
                few = rw (more h) (omega arith);
                is = more h ∙ rw (more-signals h, size, entries);
              }

-- The entry of a name that stands at its place.
module _ (m p : List ℕ) (text from : ℕ) (b : List ℕ) (few : text < 4) (low : from < 65536) (short : length b < 64)
    (there : b ≡ take (length b) (drop from (text_of m p text)))
    (n : Name) (made : n ≡ record { place = text % 4 + length b % 64 * 4; key = key b; from = from % 65536 }) where
  whole : n ≡ record { place = text + length b * 4; key = key b; from = from }
  whole = made ∙ rw (
    let x : text % 4 ≡ text = omega arith in x,
    let y : length b % 64 ≡ length b = omega arith in y,
    let z : from % 65536 ≡ from = omega arith in z,
  )

  pub entry-signal : signal_at m p n ≡ record { name = b; text = text; from = from }
  entry-signal = rw (
    whole,
    let x : (text + length b * 4) % 4 ≡ text = omega arith in x,
    let y : (text + length b * 4) / 4 ≡ length b = omega arith in y,
    ← there,
  )

  pub entry-placed : n ≡ entry_of (signal_at m p n)
  entry-placed = whole ∙ sym (ap entry_of entry-signal)
