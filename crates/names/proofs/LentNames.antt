-- The questions about names, as loops over a set answer them.
use mathlib.Core.Path.{◌≡◌, refl, sym, ap, subst, ◌∙◌}
use mathlib.Core.Logic.{inl, inr}
use mathlib.Core.Bool.{Bool, true, false, not, ◌&&◌}
use mathlib.Core.List.{List, [], ◌∷◌}
use Prim.Native.Nat.{ℕ, zero, suc, ◌^◌, ◌≤◌, ◌<◌}
use native.Mathlib.Omega.{arith}
use native.Mathlib.Decide.{dec_lt}
use denote.Ref.{Bor}
use lib.Dec.{T}
use lib.ListN.{length, get_or, length-map, get_or-eq_default}
use borrow.Author.Tests.{not-false}
use Rattle.theory.specs.Bounded.{any}
use Rattle.theory.specs.Sets.{has}
use Rattle.theory.proofs.Bounded.{any_at, at-any}
use Rattle.theory.proofs.Tests.{is_false, is_true, and_left, and_right, and_both}
use Rattle.theory.proofs.Sets.{has-lt}
use Rattle.sets.proofs.Visit.{Turn, turn_cases, turn-above}
use Rattle.lines.proofs.NameRule.{name-short}
use Rattle.text.specs.declared.Spelling.{Spelling}
use Rattle.text.specs.declared.Spelling.TheVariants.{Exact, Folded}
use Rattle.text.specs.Fields.{matches, name_ok}
use Rattle.text.specs.Writing.{name_of}
use Rattle.text.proofs.Names.{same-match}
use Rattle.names.specs.LentNames.{texts, any_of, repeated, Named}

-- ---- the lent names

pub name-lent : (l : List (Bor (List ℕ))) (i : ℕ) (d : Bor (List ℕ)) → i < length l → (get_or l i d).now ≡ name_of (texts l) i
name-lent [] i d h = absurd (omega arith)
name-lent (x ∷ l) zero d h = refl
name-lent (x ∷ l) (suc i) d h = name-lent l i d (omega arith)

pub lent_length : (l : List (Bor (List ℕ))) → length (texts l) ≡ length l
lent_length l = length-map l (λ (x : Bor (List ℕ)). x.now)

pub named-entry : (l : List (Bor (List ℕ))) (set : ℕ) → Named set (texts l) → (a : ℕ) → a < 32 → T (has set a) → a < length l
named-entry l set n a h m = omega (arith, n.entry a h m, lent_length l)

no_name : (names : List (List ℕ)) (i : ℕ) → length names ≤ i → name_of names i ≡ []
no_name names i h = get_or-eq_default names [] {n = i} h

-- A set without a bad name has entries for all its members, none of them too long.
module _ (set : ℕ) (names : List (List ℕ)) (e : any_of set (λ (a : ℕ). not (name_ok (name_of names a))) ≡ false) where
  good : (a : ℕ) → a < 32 → T (has set a) → name_ok (name_of names a) ≡ true
  unfolding any_of
  good a k h =
      not-false (name_ok (name_of names a))
      (is_false (not (name_ok (name_of names a)))
      (λ bad. subst T e (at-any 32 (λ (a : ℕ). has set a && not (name_ok (name_of names a))) a k (and_both (has set a) (not (name_ok (name_of names a))) h bad))))

  pub named-all : Named set names
  unfolding name_ok
  named-all = record {
    entry = λ a k h. elim (dec_lt a (length names)) [
      | yes l ↦ l
      | no g ↦ let bad : false ≡ true = rw (no_name names a (omega arith)) at (good a k h) in absurd (subst T (sym bad) tt)
    ];
    short = λ a k h. name-short (name_of names a) (good a k h);
  }

pub named-part : (names : List (List ℕ)) (set part : ℕ) → ((a : ℕ) → T (has part a) → T (has set a)) → Named set names → Named part names
named-part names set part inside n = record { entry = λ a k h. n.entry a k (inside a h); short = λ a k h. n.short a k (inside a h) }

-- ---- a question about the members of a set: none of those visited passes, until one does or all are visited

module _ (f : ℕ → Bool) where
  abbrev pub None : ℕ → Type 0
  None visited = (a : ℕ) → T (has visited a) → f a ≡ false

  pub none-turn : {set visited s visited' left' : ℕ} → Turn set visited s visited' left' → f s ≡ false → None visited → None visited'
  none-turn t e n a h = elim (turn_cases t a h) [ inl v ↦ n a v | inr q ↦ rw q e ]

  module _ (set : ℕ) where
    pub none_end : None set → false ≡ any_of set f
    unfolding any_of
    none_end n = sym (is_false (any_of set f) (λ h.
        let (a, l, b) = any_at 32 (λ a. has set a && f a) h in
        subst T (n a (and_left (has set a) (f a) b)) (and_right (has set a) (f a) b)))

    pub one_found : (s : ℕ) → s < 32 → T (has set s) → f s ≡ true → true ≡ any_of set f
    unfolding any_of
    one_found s l h e = sym (is_true (any_of set f) (at-any 32 (λ a. has set a && f a) s l (and_both (has set s) (f s) h (rw e tt))))

-- What a test on a name says of it.
pub bad_missing : (names : List (List ℕ)) (i : ℕ) → length names ≤ i → not (name_ok (name_of names i)) ≡ true
unfolding name_ok
bad_missing names i h = rw (no_name names i h)

module _ (l : List (Bor (List ℕ))) (i : ℕ) (d : Bor (List ℕ)) (h : i < length l) (r b : Bool) where
  pub bad-told : r ≡ name_ok (get_or l i d).now → not r ≡ b → not (name_ok (name_of (texts l) i)) ≡ b
  bad-told e f = ap (λ (x : List ℕ). not (name_ok x)) (sym (name-lent l i d h)) ∙ ap not (sym e) ∙ f

  pub match-told : (c : Spelling) (name : List ℕ) → r ≡ matches c (get_or l i d).now name → r ≡ b → matches c (name_of (texts l) i) name ≡ b
  match-told c name e f = ap (λ (x : List ℕ). matches c x name) (sym (name-lent l i d h)) ∙ sym e ∙ f

-- ---- names that match

module _ (c : Spelling) (names : List (List ℕ)) where
  abbrev alike : ℕ → ℕ → Bool
  alike a b = matches c (name_of names a) (name_of names b)

  abbrev pair : ℕ → ℕ → ℕ → Bool
  pair set a b = (has set a && has set b) && alike a b

  found : (set a b : ℕ) → a < 32 → b < a → T (has set a) → T (has set b) → T (alike a b) → T (repeated c set names)
  unfolding repeated
  found set a b l m x y z =
      at-any 32 (λ a. any a (pair set a)) a l (at-any a (pair set a) b m (and_both (has set a && has set b) (alike a b) (and_both (has set a) (has set b) x y) z))

  record Found (set : ℕ) : Type 0 where
    a : ℕ
    b : ℕ
    small : a < 32
    below : b < a
    first : T (has set a)
    second : T (has set b)
    match : T (alike a b)

  find : (set : ℕ) → T (repeated c set names) → Found set
  unfolding repeated
  find set h =
      let (a, l, u) = any_at 32 (λ a. any a (pair set a)) h in
      let (b, m, v) = any_at a (pair set a) u in
      let both : T (has set a && has set b) = and_left (has set a && has set b) (alike a b) v in
      record {
        a = a;
        b = b;
        small = l;
        below = m;
        first = and_left (has set a) (has set b) both;
        second = and_right (has set a) (has set b) both;
        match = and_right (has set a && has set b) (alike a b) v;
      }

  -- No name of a member visited matches that of a higher member.
  pub record Apart (set visited : ℕ) : Type 0 where
    pub apart : (a b : ℕ) → T (has visited b) → T (has set a) → b < a → ¬ T (alike a b)

  pub apart-end : (set : ℕ) → Apart set set → false ≡ repeated c set names
  apart-end set n = sym (is_false (repeated c set names) (λ h. let p = find set h in n.apart p.a p.b p.second p.first p.below p.match))

  -- The name of one more member is held against those above it.
  module _ {set visited s visited' left' : ℕ} (bound : set < 2 ^ 32) (t : Turn set visited s visited' left') (name : List ℕ) (named : name ≡ name_of names s) (r : Bool)
      (taken : r ≡ any_of left' (λ (a : ℕ). matches c (name_of names a) name)) where
    pub apart-turn : r ≡ false → Apart set visited → Apart set visited'
    unfolding any_of
    apart-turn e n = record {
      apart = λ a b h m l. elim (turn_cases t b h) [
        | inl v ↦ n.apart a b v m l
        | inr q ↦ λ x.
            let u : T (has left' a) = turn-above t a m (omega arith) in
            let y : T (matches c (name_of names a) name) = rw (named, ← q) x in
            subst T (sym taken ∙ e)
            (at-any 32 (λ a. has left' a && matches c (name_of names a) name) a (has-lt 32 set a bound m) (and_both (has left' a) (matches c (name_of names a) name) u y))
      ];
    }

    pub apart-found : r ≡ true → true ≡ repeated c set names
    unfolding any_of
    apart-found e =
        let (a, l, b) = any_at 32 (λ a. has left' a && matches c (name_of names a) name) (subst T (sym e ∙ taken) tt) in
        let u : T (has left' a) = and_left (has left' a) (matches c (name_of names a) name) b in
        let x : T (alike a s) = rw (← named) (and_right (has left' a) (matches c (name_of names a) name) b) in
        sym (is_true (repeated c set names) (found set a s l (t.higher a u) (t.inside a u) t.member x))

-- Where no two names are the same when the case of letters is ignored, no two are equal.
pub exact_none : (names : List (List ℕ)) (set : ℕ) → repeated Folded set names ≡ false → repeated Exact set names ≡ false
exact_none names set e = is_false (repeated Exact set names) (λ h. subst T e (folded (find Exact names set h)))
  where
    folded : Found Exact names set → T (repeated Folded set names)
    folded p =
        let m = name_of names p.a in
        let n = name_of names p.b in
        found Folded names set p.a p.b p.small p.below p.first p.second (rw (same-match Folded m n (is_true (matches Exact m n) p.match)) tt)
