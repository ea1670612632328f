-- The numbers of names: their places among the different names so far; and names that match in a spelling.
use mathlib.Core.Path.{◌≡◌, refl, sym, ap, ◌∙◌}
use mathlib.Core.Bool.{Bool, true, false, cond}
use mathlib.Core.List.{List, [], ◌∷◌, ◌++◌, map, append-nil, append_assoc, map-append}
use mathlib.Core.Logic.{inl, inr}
use Prim.Native.Nat.{ℕ, suc, ◌≤◌, ◌<◌}
use native.Mathlib.Omega.{arith}
use native.Mathlib.Decide.{dec_lt}
use lib.Dec.{ltb}
use lib.ListN.{length, get_or, length-append, length-map}
use borrow.Author.Tests.{eq-eqb, ne_eqb, lt-ltb, le-ltb}
use Rattle.text.specs.declared.Spelling.{Spelling}
use Rattle.text.specs.declared.Spelling.TheVariants.{Exact}
use Rattle.text.specs.Fields.{matches, same}
use Rattle.text.specs.Reading.{Signal, first_match, index_of, known}
use Rattle.text.proofs.Names.{match_self, same-eq, same_not, index_le, index_append, index_put}
use Rattle.text.proofs.Ascending.{In, Ascending, in_above}
use Rattle.roundtrip.specs.RoundTrip.{rank, place, with, different}

-- ---- the place of a name

signal : List ℕ → Signal
signal n = record { name = n; text = 0; from = 0 }

-- The place of a name is the number that it has among signals.
place_index : (n : List ℕ) (l : List (List ℕ)) → place n l ≡ index_of n (map signal l)
unfolding signal first_match place
place_index n [] = refl
place_index n (m ∷ l) = rw (place_index n l)

place-le : (n : List ℕ) (l : List (List ℕ)) → place n l ≤ length l
place-le n l = omega (arith, place_index n l, index_le Exact n (map signal l), length-map l signal)

place-append : (n : List ℕ) (l m : List (List ℕ)) → place n l < length l → place n (l ++ m) ≡ place n l
place-append n l m h =
    rw (place_index n (l ++ m), place_index n l, map-append signal l m)
    (index_append Exact n (map signal l) (map signal m) (omega (arith, place_index n l, length-map l signal)))

place_put : (n : List ℕ) (l : List (List ℕ)) → place n (l ++ n ∷ []) ≡ place n l
unfolding signal
place_put n l = rw (place_index n (l ++ n ∷ []), place_index n l, map-append signal l (n ∷ [])) (index_put (signal n) (map signal l))

-- The name at a place.
pub place-name : (n : List ℕ) (l : List (List ℕ)) → place n l < length l → get_or l (place n l) [] ≡ n
unfolding place
place-name n [] h = absurd (omega arith)
place-name n (m ∷ l) h = go (same m n) refl (place-name n l) h
  where
    go : (b : Bool) → same m n ≡ b → (place n l < length l → get_or l (place n l) [] ≡ n) → cond b 0 (suc (place n l)) < suc (length l)
        → get_or (m ∷ l) (cond b 0 (suc (place n l))) [] ≡ n
    go true e ih h = same-eq m n e
    go false e ih h = ih (omega arith)

-- Another name put behind the list gives a name no place.
pub place_other : (n m : List ℕ) (l : List (List ℕ)) → ¬ (m ≡ n) → length l ≤ place n l → length (l ++ m ∷ []) ≤ place n (l ++ m ∷ [])
unfolding place
place_other n m [] d h = rw (same_not m n d) (omega arith)
place_other n m (x ∷ l) d h = go (same x n) (place_other n m l d) h
  where
    go : (b : Bool) → (length l ≤ place n l → length (l ++ m ∷ []) ≤ place n (l ++ m ∷ [])) → suc (length l) ≤ cond b 0 (suc (place n l))
        → suc (length (l ++ m ∷ [])) ≤ cond b 0 (suc (place n (l ++ m ∷ [])))
    go true ih h = absurd (omega arith)
    go false ih h = omega (arith, ih (omega arith))

-- ---- with one more name

pub with-place : (n : List ℕ) (l : List (List ℕ)) → place n (with l n) ≡ place n l
with-place n l = elim (dec_lt (place n l) (length l)) [
  | yes h ↦ rw (lt-ltb (place n l) (length l) h)
  | no g ↦ rw (le-ltb (place n l) (length l) (omega arith)) (place_put n l)
]

pub with-within : (n : List ℕ) (l : List (List ℕ)) → place n (with l n) < length (with l n)
with-within n l = elim (dec_lt (place n l) (length l)) [
  | yes h ↦ rw (lt-ltb (place n l) (length l) h) h
  | no g ↦ rw (le-ltb (place n l) (length l) (omega arith)) (omega (arith, place_put n l, place-le n l, length-append l (n ∷ [])))
]

with-new : (n : List ℕ) (l : List (List ℕ)) → length l ≤ place n l → with l n ≡ l ++ n ∷ []
with-new n l h = rw (le-ltb (place n l) (length l) h)

-- A list is a beginning of the other.
pub record Begins (l m : List (List ℕ)) : Type 0 where
  pub rest : List (List ℕ)
  pub whole : m ≡ l ++ rest

with_begins : (n : List ℕ) (l : List (List ℕ)) → Begins l (with l n)
with_begins n l = go (ltb (place n l) (length l))
  where
    go : (b : Bool) → Begins l (cond b l (l ++ n ∷ []))
    go true = record { rest = []; whole = sym (append-nil l) }
    go false = record { rest = n ∷ []; whole = refl }

pub different_begins : (l ns : List (List ℕ)) → Begins l (different l ns)
unfolding different
different_begins l [] = record { rest = []; whole = sym (append-nil l) }
different_begins l (n ∷ ns) =
    let u = with_begins n l in
    let v = different_begins (with l n) ns in
    record { rest = u.rest ++ v.rest; whole = v.whole ∙ ap (λ k. k ++ v.rest) u.whole ∙ append_assoc l u.rest v.rest }

pub begins_place : {l m : List (List ℕ)} → Begins l m → (n : List ℕ) → place n l < length l → (place n m ≡ place n l) × (place n m < length m)
begins_place {l} {m} w n h =
    let e : place n m ≡ place n l = rw w.whole (place-append n l w.rest h) in
    (e, omega (arith, ap length w.whole, length-append l w.rest))

-- A name's number is the place that it has, or that it gets, when it comes.
pub number-first : (n : List ℕ) (l ns : List (List ℕ)) → place n (different l (n ∷ ns)) ≡ place n l
unfolding different
number-first n l ns = (begins_place (different_begins (with l n) ns) n (with-within n l)).0 ∙ with-place n l

-- Each of the names has a number.
pub number-within : (nm : ℕ → List ℕ) (a : ℕ) (ds : List ℕ) (l : List (List ℕ)) → In a ds → place (nm a) (different l (map nm ds)) < length (different l (map nm ds))
unfolding different
number-within nm a [] l i = absurd i
number-within nm a (d ∷ ds) l (inl e) = rw (← e) (begins_place (different_begins (with l (nm d)) (map nm ds)) (nm d) (with-within (nm d) l)).1
number-within nm a (d ∷ ds) l (inr i) = number-within nm a ds (with l (nm d)) i

-- ---- distinct names: all are new, and the number of a name is its signal's rank

module _ (nm : ℕ → List ℕ) where
  -- No two signals of a list have the same name.
  abbrev pub Distinct : List ℕ → Type 0
  Distinct ds = (a b : ℕ) → In a ds → In b ds → nm a ≡ nm b → a ≡ b

  distinct_other : (s d a : ℕ) (ds : List ℕ) → Ascending s (d ∷ ds) → Distinct (d ∷ ds) → In a ds → ¬ (nm d ≡ nm a)
  distinct_other s d a ds (h, u) w i e = omega (arith, w d a (inl refl) (inr i) e, in_above a (suc d) ds u i)

  all_new : (s : ℕ) (ds : List ℕ) (l : List (List ℕ)) → Ascending s ds → Distinct ds → ((a : ℕ) → In a ds → length l ≤ place (nm a) l)
      → different l (map nm ds) ≡ l ++ map nm ds
  unfolding different
  all_new s [] l u w n = sym (append-nil l)
  all_new s (d ∷ ds) l u w n =
      ap (λ k. different k (map nm ds)) (with-new (nm d) l (n d (inl refl)))
      ∙ all_new (suc d) ds (l ++ nm d ∷ []) u.1 (λ a b h k. w a b (inr h) (inr k))
      (λ a i. place_other (nm a) (nm d) l (distinct_other s d a ds u w i) (n a (inr i)))
      ∙ append_assoc l (nm d ∷ []) (map nm ds)

  pub different_distinct : (s : ℕ) (ds : List ℕ) → Ascending s ds → Distinct ds → different [] (map nm ds) ≡ map nm ds
  different_distinct s ds u w = all_new s ds [] u w (λ a i. omega arith)

  pub rank-place : (s a : ℕ) (ds : List ℕ) → Ascending s ds → Distinct ds → In a ds → place (nm a) (map nm ds) ≡ rank a ds
  unfolding place rank
  rank-place s a [] u w i = absurd i
  rank-place s a (d ∷ ds) u w (inl e) = rw (e, match_self Exact (nm a), eq-eqb a a refl)
  rank-place s a (d ∷ ds) u w (inr i) =
      rw (same_not (nm d) (nm a) (distinct_other s d a ds u w i), ne_eqb d a (λ e. omega (arith, in_above a (suc d) ds u.1 i)))
      (ap suc (rank-place (suc d) a ds u.1 (λ a b h k. w a b (inr h) (inr k)) i))

-- ---- names that match

-- Of the names in a list only n itself matches n.
abbrev pub Told : Spelling → List ℕ → List (List ℕ) → Type 0
Told c n [] = Unit {0}
Told c n (m ∷ l) = (matches c m n ≡ true → m ≡ n) × Told c n l

told-append : (c : Spelling) (n : List ℕ) (l m : List (List ℕ)) → Told c n l → Told c n m → Told c n (l ++ m)
told-append c n [] m u v = v
told-append c n (x ∷ l) m (h, u) v = (h, told-append c n l m u v)

pub told_with : (c : Spelling) (n : List ℕ) (l : List (List ℕ)) (m : List ℕ) → Told c n l → (matches c m n ≡ true → m ≡ n) → Told c n (with l m)
told_with c n l m u h =
    elim (ltb (place m l) (length l)) as (λ b. Told c n (cond b l (l ++ m ∷ []))) [ true ↦ u | false ↦ told-append c n l (m ∷ []) u (h, tt) ]

pub told-map : (c : Spelling) (n : List ℕ) (nm : ℕ → List ℕ) (ds : List ℕ) → ((a : ℕ) → In a ds → matches c (nm a) n ≡ true → nm a ≡ n) → Told c n (map nm ds)
told-map c n nm [] h = tt
told-map c n nm (d ∷ ds) h = (h d (inl refl), told-map c n nm ds (λ a i. h a (inr i)))

-- ---- signals by their names

abbrev pub names_in : List Signal → List (List ℕ)
names_in l = map (λ s. s.name) l

pub index_place : (n : List ℕ) (l : List Signal) → index_of n l ≡ place n (names_in l)
unfolding first_match place
index_place n [] = refl
index_place n (s ∷ l) = rw (index_place n l)

-- A name that is told from the signals' names does not match one of a lower number.
pub index_told : (c : Spelling) (n : List ℕ) (l : List Signal) → Told c n (names_in l) → index_of n l ≤ first_match c n l
unfolding first_match
index_told c n [] u = omega arith
index_told c n (s ∷ l) (h, u) = go (matches c s.name n) refl (index_told c n l u)
  where
    go : (b : Bool) → matches c s.name n ≡ b → index_of n l ≤ first_match c n l → cond (same s.name n) 0 (suc (index_of n l)) ≤ cond b 0 (suc (first_match c n l))
    go true e ih = rw (h e, match_self Exact n) (omega arith)
    go false e ih = elim (same s.name n) as (λ b. cond b 0 (suc (index_of n l)) ≤ suc (first_match c n l)) [ true ↦ omega arith | false ↦ omega (arith, ih) ]

pub known-names : (l : List Signal) (s : Signal) → names_in (known l s (index_of s.name l)) ≡ with (names_in l) s.name
known-names l s = rw (← index_place s.name l, length-map l (λ s. s.name)) (go (ltb (index_of s.name l) (length l)))
  where
    go : (b : Bool) → names_in (cond b l (l ++ s ∷ [])) ≡ cond b (names_in l) (names_in l ++ s.name ∷ [])
    go true = refl
    go false = map-append (λ s. s.name) l (s ∷ [])
