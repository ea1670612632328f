-- The letter's demand 2: a table written out as text and read again has the same states, first state, lists and steps, name for name.
use Rattle.std.specs.Prelude.{◌≡◌, ◌↔◌, true, cond, List, [], ◌∷◌, ◌++◌, map, ℕ, suc, ◌<◌, T, eqb, ltb, length}
use Rattle.theory.specs.Table.{Table, cell_at}
use Rattle.theory.specs.Checks.{declared}
use Rattle.theory.specs.Valid.{Valid}
use Rattle.text.specs.declared.Role.{Role}
use Rattle.text.specs.declared.Spelling.{Spelling}
use Rattle.text.specs.Fields.{matches, same}
use Rattle.text.specs.Roles.{has_role}
use Rattle.text.specs.Reading.{Signal, Reading, finished, read_alone, both, read_both, table_read}
use Rattle.text.specs.Writing.{signals, name_of}
use Rattle.text.specs.Lookup.{lookup, lookup_number, lookup_alone, lookup_number_alone}

-- The tables t and u are the same, name for name; names and names' say how their signals are called, number a is u's number for t's signal a.
pub record SameByName (t : Table) (names : ℕ → List ℕ) (u : Table) (names' : ℕ → List ℕ) (number : ℕ → ℕ) : Type 0 where
  pub states : u.header.states ≡ t.header.states
  pub initial : u.header.initial ≡ t.header.initial
  pub name : (a : ℕ) → T (declared t a) → names' (number a) ≡ names a
  pub roles : (r : Role) (a : ℕ) → T (declared t a) → has_role r u.header (number a) ≡ has_role r t.header a
  pub only : (b : ℕ) → T (declared u b) → (a : ℕ) × T (declared t a) × (number a ≡ b)
  pub steps : (s a : ℕ) → s < t.header.states → T (declared t a) → cell_at u s (number a) ≡ cell_at t s a
  pub no_others : (s b : ℕ) → s < t.header.states → b < 32 → ¬ T (declared u b) → cell_at u s b ≡ 65535

-- A reading of the table t: the same, valid; looking up a signal's number gives its name, and no refusal.
pub record ReadAgain (t : Table) (names : List (List ℕ)) (st : Reading) (find : ℕ → Signal) (refusal : ℕ → ℕ) (number : ℕ → ℕ) : Type 0 where
  pub valid : Valid (table_read st)
  pub same : SameByName t (name_of names) (table_read st) (λ b. (find b).name) number
  pub found : (a : ℕ) → T (declared t a) → refusal (number a) ≡ 0

-- ---- a text alone

-- The place of the number a in a list.
unfoldable pub rank : ℕ → List ℕ → ℕ
rank a [] = 0
rank a (b ∷ l) = cond (eqb b a) 0 (suc (rank a l))

-- A signal's number is its rank among the declared ones.
abbrev pub rank_of : Table → ℕ → ℕ
rank_of t a = rank a (signals t)

-- The text of the table t is read again, in a spelling and with so many cells lent.
pub record RoundTrip (c : Spelling) (t : Table) (names : List (List ℕ)) (cells : ℕ) (text : List ℕ) : Type 0 where
  pub reading : Reading
  pub read : read_alone c cells text ≡ finished reading
  pub again : ReadAgain t names reading (lookup_alone c text) (lookup_number_alone c text) (rank_of t)

-- ---- a component's and a specification's text together: signals are numbered as first declared, the component's first

-- The names of the declared signals.
abbrev pub names_of : Table → List (List ℕ) → List (List ℕ)
names_of t names = map (name_of names) (signals t)

-- The place of a name in a list; behind it where it is not there.
unfoldable pub place : List ℕ → List (List ℕ) → ℕ
place n [] = 0
place n (m ∷ l) = cond (same m n) 0 (suc (place n l))

-- A list with a name behind it, if that is new.
abbrev pub with : List (List ℕ) → List ℕ → List (List ℕ)
with l n = cond (ltb (place n l) (length l)) l (l ++ n ∷ [])

-- A list with the new ones of some names behind it, as they come.
unfoldable pub different : List (List ℕ) → List (List ℕ) → List (List ℕ)
different l [] = l
different l (n ∷ ns) = different (with l n) ns

-- The different names of the component m and the specification p (01's module and plan).
abbrev pub all_names : Table → List (List ℕ) → Table → List (List ℕ) → List (List ℕ)
all_names m names p names' = different (names_of m names) (names_of p names')

-- The number of the specification's signal b is the place of its name among all different names.
abbrev pub number_among : Table → List (List ℕ) → Table → List (List ℕ) → ℕ → ℕ
number_among m names p names' b = place (name_of names' b) (all_names m names p names')

-- No name of the component m clashes with one of the specification p (02, S-9): those that match in the spelling are equal. It is asked where the spelling is Folded, since
-- two texts that were each written may clash with each other; where it is Exact it holds of all names (proofs/Theorem.antt: `exact_no_clash`).
abbrev pub NoClashBetween : Spelling → Table → List (List ℕ) → Table → List (List ℕ) → Type 0
NoClashBetween c m names p names' =
    (a b : ℕ) → T (declared m a) → T (declared p b) → matches c (name_of names a) (name_of names' b) ≡ true → name_of names a ≡ name_of names' b

-- The two texts are read together again, in a spelling: the component's signals are numbered as alone, and a number is shared exactly for a shared name.
pub record JointTrip (c : Spelling) (m : Table) (names : List (List ℕ)) (p : Table) (names' : List (List ℕ)) (cells cells' : ℕ) (text text' : List ℕ) : Type 0 where
  pub first : Reading
  pub second : Reading
  pub read : read_both c cells text cells' text' ≡ both first second
  pub component : ReadAgain m names first (lookup c text text') (lookup_number c text text') (rank_of m)
  pub specification : ReadAgain p names' second (lookup c text text') (lookup_number c text text') (number_among m names p names')
  pub shared : (a b : ℕ) → T (declared m a) → T (declared p b) → (rank_of m a ≡ number_among m names p names' b) ↔ (name_of names a ≡ name_of names' b)
