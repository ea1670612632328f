-- The line of a byte, and the clashes of signals one after the other.
use mathlib.Core.Path.{◌≡◌, refl, sym, ap, ◌∙◌}
use mathlib.Core.Bool.{Bool, true, false, cond}
use mathlib.Core.List.{List, [], ◌∷◌, ◌++◌, map, append-nil, map-append}
use Prim.Native.Nat.{ℕ, zero, suc, ◌+◌, ◌-◌, ◌<◌, ◌≤◌}
use native.Mathlib.Numerals.{add-one}
use native.Mathlib.Omega.{arith}
use lib.Dec.{eqb, ltb}
use Rattle.std.specs.Prelude.{count_by, ◌==◌}
use Rattle.std.specs.Int.{from_bool}
use Rattle.std.proofs.lemmas.List.Sums.{sum_by-cons, count_by_more_yes, count_by_more_no, count_by-le-length}
use lib.ListN.{length, get_or, take, set, replicate, length-map, length-append, length-take}
use borrow.Author.Tests.{lt-ltb, le-ltb}
use Rattle.theory.proofs.Filled.{any_default}
use Rattle.text.specs.declared.Clash.{Clash}
use Rattle.text.specs.declared.Spelling.TheVariants.{Folded}
use Rattle.text.specs.Fields.{onto, split}
use Rattle.text.specs.Reading.{Signal, first_match}
use Rattle.text.specs.Writing.{those}
use Rattle.text.specs.Lookup.{nobody}
use Rattle.text.specs.Clashes.{first_alike, clashing, declared_at, clash_at, clashes_of}
use Rattle.text.proofs.Ascending.{those-few}
use Rattle.text.proofs.Split.{split-some}
use Rattle.names.specs.declared.Name.{Name}
use Rattle.names.specs.NamePlaces.{name_at}
use Rattle.reader.specs.declared.ClashList.{ClashList}
use Rattle.names.specs.declared.Names.{Names}
use Rattle.names.specs.Numbering.{entries_of, signal_at, signals_of, Fit, first_place, is_of}
use Rattle.names.proofs.NumberedNames.{set-behind, signals-length, signal-at, find-signal}
use Rattle.reader.specs.Clashes.{unused, in_rows, with_clash, clashes_below, Visitable}

-- ---- lines

-- A text has a line for each LF, and a last one.
pub lines-count : (s : List ℕ) → length (split 10 s) ≡ count_by (λ x. x == 10) s + 1
unfolding split
lines-count [] = refl
lines-count (x ∷ s) = let (f, fs, e) = split-some 10 s in
    rw (e, sum_by-cons (λ y. cond (y == 10) 1 0) x s) (go (eqb x 10) f fs (ap length (sym e) ∙ lines-count s))
  where
    go : (b : Bool) (f : List ℕ) (fs : List (List ℕ)) → length (f ∷ fs) ≡ count_by (λ x. x == 10) s + 1
        → length (cond b ([] ∷ f ∷ fs) (onto x (f ∷ fs))) ≡ cond b 1 0 + count_by (λ x. x == 10) s + 1
    go true f fs h = omega arith
    go false f fs h = omega arith

-- One more byte, as code counts it.
pub count-more : (s : List ℕ) (i n d : ℕ) → i < length s → d ≡ from_bool (eqb (get_or s i 0) 10) → n ≤ i → n ≡ count_by (λ x. x == 10) (take i s)
    → (n + d ≤ i + 1) × (n + d ≡ count_by (λ x. x == 10) (take (i + 1) s))
count-more s i n d h e few same = go (eqb (get_or s i 0) 10) refl e
  where
    go : (b : Bool) → eqb (get_or s i 0) 10 ≡ b → d ≡ from_bool b → (n + d ≤ i + 1) × (n + d ≡ count_by (λ x. x == 10) (take (i + 1) s))
    go true f g = (omega (arith, g), omega (arith, g, same, count_by_more_yes (λ x. x == 10) s i 0 h f))
    go false f g = (omega (arith, g), omega (arith, g, same, count_by_more_no (λ x. x == 10) s i 0 h f))

-- ---- clashes

-- The last of some numbers comes behind the others.
those-last : (f : ℕ → Bool) (s n : ℕ) → those f s (suc n) ≡ those f s n ++ cond (f (s + n)) ((s + n) ∷ []) []
unfolding those
those-last f s zero = let z : s + 0 ≡ s = omega arith in rw z
those-last f s (suc n) =
    let z : s + suc n ≡ suc s + n = omega arith in
    rw (z, those-last f (suc s) n) (go (f s) (those f (suc s) n) (cond (f (suc s + n)) ((suc s + n) ∷ []) []))
  where
    go : (b : Bool) (l m : List ℕ) → cond b (s ∷ l ++ m) (l ++ m) ≡ cond b (s ∷ l) l ++ m
    go true l m = refl
    go false l m = refl

-- A row that is not used is free for the next clash.
in_rows_more : (l : List Clash) (x : Clash) → length l < 32
    → ◌≡◌ {A = ClashList} (record { rows = set (l ++ replicate (32 - length l) unused) (length l) x; count = length l + 1 }) (in_rows (l ++ x ∷ []))
in_rows_more l x h =
    let n : length (l ++ x ∷ []) ≡ length l + 1 = length-append l (x ∷ []) in
    let k : 32 - length l ≡ suc (32 - (length l + 1)) = omega arith in
    rw (n, k, set-behind unused l (32 - (length l + 1)) x)

-- The signal i, which has a number, where the clashes of those below it are found.
module _ (m p : List ℕ) (s : Names) (i : ℕ) (c : ClashList) (v : Visitable m p s i c) where
  abbrev signals : List Signal
  signals = signals_of m p s

  abbrev found : List Clash
  found = clashes_below m p signals i

  few : length found ≤ i
  unfolding clashes_below
  few = omega (arith, length-map (those (λ a. ltb (first_alike signals a) a) 0 i) (clash_at m p signals), those-few (λ a. ltb (first_alike signals a) a) 0 i)

  pub row_room : c.count < 32
  row_room = omega (arith, ap (λ x. x.count) v.done, few, v.below, v.fit.few)

  signal_of_lem : (d : Name) (a : ℕ) → a < s.count → get_or signals a nobody ≡ signal_at m p (get_or s.entries a d)
  signal_of_lem d a h = any_default signals a nobody (signal_at m p d) (omega (arith, h, signals-length m p s v.fit)) ∙ signal-at m p s v.fit d a h

  next-found : clashes_below m p signals (i + 1) ≡ found ++ map (clash_at m p signals) (cond (ltb (first_alike signals i) i) (i ∷ []) [])
  unfolding clashes_below
  next-found =
      let z : 0 + i ≡ i = omega arith in
      rw (add-one i, those-last (λ a. ltb (first_alike signals a) a) 0 i, z)
      (map-append (clash_at m p signals) (those (λ a. ltb (first_alike signals a) a) 0 i) (cond (ltb (first_alike signals i) i) (i ∷ []) []))

  next_pass : i ≤ first_alike signals i → found ≡ clashes_below m p signals (i + 1)
  next_pass h =
      let e : map (clash_at m p signals) (cond (ltb (first_alike signals i) i) (i ∷ []) []) ≡ [] = rw (le-ltb (first_alike signals i) i h) in
      sym (next-found ∙ ap (λ l. found ++ l) e ∙ append-nil found)

  next-clash : first_alike signals i < i → found ++ clash_at m p signals i ∷ [] ≡ clashes_below m p signals (i + 1)
  next-clash h =
      let e : map (clash_at m p signals) (cond (ltb (first_alike signals i) i) (i ∷ []) []) ≡ clash_at m p signals i ∷ [] =
      ap (λ b. map (clash_at m p signals) (cond b (i ∷ []) [])) (lt-ltb (first_alike signals i) i h) in
      sym (next-found ∙ ap (λ l. found ++ l) e)

  module _ (d name : Name) (there : name ≡ get_or s.entries i d) (wanted : List ℕ) (bytes : wanted ≡ name_at m p name)
      (alike : ℕ) (searched : alike ≡ first_place (is_of m p Folded wanted) (entries_of s)) where
    here : get_or signals i nobody ≡ signal_at m p name
    here = signal_of_lem d i v.below ∙ ap (signal_at m p) (sym there)

    alike-here : first_alike signals i ≡ alike
    alike-here =
        let first : alike ≡ first_match Folded (name_at m p name) signals = searched ∙ find-signal m p s v.fit Folded wanted ∙ rw bytes in
        ap (λ x. first_match Folded x.name signals) here ∙ sym first

    pub visit_pass : i ≤ alike → c ≡ in_rows (clashes_below m p signals (i + 1))
    visit_pass h = v.done ∙ ap in_rows (next_pass (omega (arith, alike-here)))

    pub visit_clash : alike < i → (e other : Name) → other ≡ get_or s.entries alike e
        → (x : ClashList) → x ≡ with_clash c (declared_at m p (signal_at m p name)) (declared_at m p (signal_at m p other)) → x ≡ in_rows (clashes_below m p signals (i + 1))
    visit_clash h e other same x f =
        let signal-there : get_or signals (first_alike signals i) nobody ≡ signal_at m p other =
        ap (λ a. get_or signals a nobody) alike-here ∙ signal_of_lem e alike (omega (arith, h, v.below)) ∙ ap (signal_at m p) (sym same) in
        let clash : clash_at m p signals i ≡ record { later = declared_at m p (signal_at m p name); first = declared_at m p (signal_at m p other) } =
        (λ k. record { later = declared_at m p (here k); first = declared_at m p (signal-there k) }) in
        let more = ap (λ x. found ++ x ∷ []) (sym clash) ∙ next-clash (omega (arith, alike-here)) in
        f ∙ rw v.done (in_rows_more found _ (omega (arith, few, v.below, v.fit.few)) ∙ ap in_rows more)

-- All signals.
module _ (m p : List ℕ) (s : Names) (fit : Fit m p s) where
  pub visit_start : (c : ClashList) → c ≡ in_rows [] → c ≡ in_rows (clashes_below m p (signals_of m p s) 0)
  unfolding clashes_below those
  visit_start c e = e

  pub visit_done : (i : ℕ) → i ≤ s.count → s.count ≤ i → (c : ClashList) → c ≡ in_rows (clashes_below m p (signals_of m p s) i)
      → c ≡ in_rows (clashes_of m p (signals_of m p s))
  unfolding clashes_below clashes_of clashing
  visit_done i h k c e =
      let n : i ≡ length (signals_of m p s) = omega (arith, signals-length m p s fit) in
      rw n at e
