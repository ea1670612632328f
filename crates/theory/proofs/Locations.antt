-- Every refusal of a call on tables says where (02, S-2): a law over its list of checks, made of 1 to 6 of tables and of checks that name no cell.
use mathlib.Core.Path.{◌≡◌, refl, sym, subst, ap, ◌∙◌}
use mathlib.Core.Logic.{◌↔◌, inl, inr}
use mathlib.Core.Bool.{Bool, true, false, not, ◌&&◌, cond}
use mathlib.Core.List.{List, [], ◌∷◌, ◌++◌}
use mathlib.Core.Option.{some}
use Prim.Native.Nat.{ℕ, ◌+◌, ◌*◌, ◌/◌, ◌%◌, ◌<◌}
use native.Mathlib.Omega.{arith}
use native.Mathlib.Nat.{div-add-mod'}
use lib.Arith.{digits_lt, digits_mod}
use lib.Dec.{T, eqb, ltb, leb, ltb→lt, leb→le, T_not, not_T}
use borrow.Author.Tests.{lt-ltb, le-leb, eq-eqb, ne_eqb}
use Rattle.theory.specs.Refusals.{Refusal}
use Rattle.std.specs.Prelude.{None, Some, Result, Ok, Err}
use Rattle.std.specs.Result.{result_and}
use Rattle.theory.specs.Bounded.{any, lowest}
use Rattle.theory.specs.Table.{Table, cell_at}
use Rattle.theory.specs.Checks.{Place, Check, refusal_of, first, unless_refused, declared, stray, is_stray, is_undeclared, cell_of, check1, check2, check3, check4, check5, check6, shape_checks, table_checks, monitor_checks, each_table, size_checks, composable_checks, refinement_checks, synthesis_checks}
use Rattle.theory.specs.Locations.{Stray, Undeclared, Precedes, FirstBad, NoneBad, called, Located, of_table, of_five, of_six, nowhere, LocatedIn, LocatedAt}
use Rattle.theory.proofs.Tests.{and_left, and_right, and_both}
use Rattle.theory.proofs.Bounded.{at-any}
use Rattle.theory.proofs.Checks.{first-append}
use Rattle.theory.proofs.Lowest.{lowest-is}
use Rattle.theory.specs.Rules.{rule_number}

-- ---- any list of checks

-- Whatever refusal the list gives has the property.
abbrev pub Refuses : List Check → (Refusal → Type 0) → Type 0
Refuses l P = (r : Refusal) → first l ≡ Err r → P r

module _ (P : Refusal → Type 0) where
  same-refusal : (r s : Refusal) → ◌≡◌ {A = Result (Unit {0}) Refusal} (Err r) (Err s) → P r → P s
  same-refusal r s e p = let q : r ≡ s = cc in subst P q p

  pub none-refuses : Refuses [] P
  unfolding first
  none-refuses r e = absurd (let z : ◌≡◌ {A = ℕ} 0 1 = cc in omega arith)

  -- The first check, or those after it where it does not apply.
  pub one-refuses : (c : Check) (l : List Check) → (T c.applies → P (refusal_of c)) → (¬ T c.applies → Refuses l P) → Refuses (c ∷ l) P
  unfolding first
  one-refuses c l now later r = go c.applies now later
    where
      go : (b : Bool) → (T b → P (refusal_of c)) → (¬ T b → Refuses l P) → cond b (Err (refusal_of c)) (first l) ≡ Err r → P r
      go true now later e = same-refusal (refusal_of c) r e (now tt)
      go false now later e = later (λ t. t) r e

  -- Two lists in a row.
  pub both-refuse : (l m : List Check) → Refuses l P → Refuses m P → Refuses (l ++ m) P
  both-refuse l m left right r e = go (first l) (left r) (sym (first-append l m) ∙ e)
    where
      go : (k : Result (Unit {0}) Refusal) → (k ≡ Err r → P r) → result_and k (first m) ≡ Err r → P r
      go (Ok tt) left e = right r e
      go (Err s) left e = left e

-- ---- checks that look at no cell

-- Whether each check has a number from 7 on and names no cell.
abbrev is_nowhere : Place → Bool
is_nowhere (Some c) = false
is_nowhere None = true

abbrev pub all_unplaced : List Check → Bool
all_unplaced [] = true
all_unplaced (c ∷ l) = (leb 7 (rule_number c.rule) && is_nowhere c.location) && all_unplaced l

is-nowhere : (l : Place) → T (is_nowhere l) → l ≡ None
is-nowhere (Some c) t = absurd t
is-nowhere None t = refl

pub unplaced-located : (five six : ℕ → Place → Type 0) (l : List Check) → T (all_unplaced l) → Refuses l (Located five six)
unplaced-located five six [] u = none-refuses (Located five six)
unplaced-located five six (c ∷ l) u =
    let one = leb 7 (rule_number c.rule) && is_nowhere c.location in
    let here = and_left one (all_unplaced l) u in
    one-refuses (Located five six) c l
    (λ t. nowhere (leb→le 7 (rule_number c.rule) (and_left (leb 7 (rule_number c.rule)) (is_nowhere c.location) here))
    (is-nowhere c.location (and_right (leb 7 (rule_number c.rule)) (is_nowhere c.location) here)))
    (λ n. unplaced-located five six l (and_right one (all_unplaced l) u))

-- 1 to 4 of a table, then other checks.
pub shape-located : (five six : ℕ → Place → Type 0) (i : ℕ) (t : Table) (l : List Check) → Refuses l (Located five six)
    → Refuses (shape_checks i t ++ l) (Located five six)
shape-located five six i t l others =
    let by = one-refuses (Located five six) in
    by (check1 i t) _ (λ b. of_table (omega arith) (omega arith) refl) (λ _.
    by (check2 i t) _ (λ b. of_table (omega arith) (omega arith) refl) (λ _.
    by (check3 i t) _ (λ b. of_table (omega arith) (omega arith) refl) (λ _.
    by (check4 i t) l (λ b. of_table (omega arith) (omega arith) refl) (λ _. others))))

-- ---- 1 to 6 of a table

module _ (t : Table) where
  abbrev n : ℕ
  n = t.header.states

  -- A cell that precedes another has the lower index.
  index_before : (s a k : ℕ) → a < 32 → Precedes s a (k / 32) (k % 32) → s * 32 + a < k
  index_before s a k l (inl h) = omega arith
  index_before s a k l (inr (e, h)) = omega arith

  -- A test of the cell at each index, and what it says of the cell of a state and a signal.
  module _ (bad : ℕ → Bool) (Bad : ℕ → ℕ → Type 0) (says : (s a : ℕ) → a < 32 → T (bad (s * 32 + a)) ↔ Bad s a) where
    pub first-bad : T (any (n * 32) bad) → FirstBad t Bad (cell_of (lowest (n * 32) bad))
    first-bad found =
        let k = lowest (n * 32) bad in
        let w = lowest-is bad (n * 32) found in
        record {
          state = k / 32;
          action = k % 32;
          at = refl;
          in_states = omega (arith, w.below);
          in_actions = omega arith;
          bad = (says (k / 32) (k % 32) (omega arith)).0 (rw (div-add-mod' k 32) w.passes);
          before = λ s a l p b. omega (arith, index_before s a k l p, w.least (s * 32 + a) ((says s a l).1 b));
        }

    pub none-bad : ¬ T (any (n * 32) bad) → NoneBad t Bad
    none-bad passed s a h l b = passed (at-any (n * 32) bad (s * 32 + a) (digits_lt h l) ((says s a l).1 b))

  stray-says : (s a : ℕ) → T (stray n (cell_at t s a)) ↔ Stray t s a
  stray-says s a =
      let blank = eqb (cell_at t s a) 65535 in
      let high = leb n (cell_at t s a) in (
        λ b. (λ e. T_not blank (and_left (not blank) high b) (rw (eq-eqb (cell_at t s a) 65535 e) tt), leb→le n (cell_at t s a) (and_right (not blank) high b)),
        λ b. rw (ne_eqb (cell_at t s a) 65535 b.0, le-leb n (cell_at t s a) b.1) tt,
      )

  undeclared-says : (s a : ℕ) → a < 32 → T (is_undeclared t (s * 32 + a)) ↔ Undeclared t s a
  undeclared-says s a l =
      let step = ltb (cell_at t s a) n in
      let free = not (declared t a) in (
        λ b. let c = rw (digits_mod s l) at b in (ltb→lt (cell_at t s a) n (and_left step free c), T_not (declared t a) (and_right step free c)),
        λ b. rw (digits_mod s l) (and_both step free (rw (lt-ltb (cell_at t s a) n b.0) tt) (not_T (declared t a) b.1)),
      )

  module _ (tables : List Table) (i : ℕ) (named : called tables i ≡ some t) where
    five-located : T (check5 i t).applies → LocatedIn tables (refusal_of (check5 i t))
    five-located b = of_five refl (t, named, first-bad (is_stray t) (Stray t) (λ s a l. stray-says s a) b)

    six-located : ¬ T (check5 i t).applies → T (check6 i t).applies → LocatedIn tables (refusal_of (check6 i t))
    six-located passed b =
        of_six refl
        (t, named, first-bad (is_undeclared t) (Undeclared t) undeclared-says b, none-bad (is_stray t) (Stray t) (λ s a l. stray-says s a) passed)

    pub table-located : Refuses (table_checks i t) (LocatedIn tables)
    unfolding table_checks
    table-located =
        let by = one-refuses (LocatedIn tables) in
        shape-located _ _ i t _ (by (check5 i t) _ five-located (λ passed. by (check6 i t) [] (six-located passed) (λ _. none-refuses (LocatedIn tables))))

-- ---- the calls

-- 1 to 6 of one table, then checks that name no cell.
pub one-located : (t : Table) (l : List Check) → T (all_unplaced l) → Refuses (table_checks 1 t ++ l) (LocatedIn (t ∷ []))
one-located t l u = both-refuse (LocatedIn (t ∷ [])) (table_checks 1 t) l (table-located t (t ∷ []) 1 refl) (unplaced-located _ _ l u)

-- 1 to 6 of the first of two tables, then of the second, then checks that name no cell.
pub two-located : (p q : Table) (l : List Check) → T (all_unplaced l) → Refuses (each_table p q ++ l) (LocatedIn (p ∷ q ∷ []))
unfolding each_table
two-located p q l u =
    let Places = LocatedIn (p ∷ q ∷ []) in
    both-refuse Places (each_table p q) l
    (both-refuse Places (table_checks 1 p) (table_checks 2 q) (table-located p (p ∷ q ∷ []) 1 refl) (table-located q (p ∷ q ∷ []) 2 refl))
    (unplaced-located _ _ l u)

-- The calls on two tables.
module _ (p q : Table) where
  pub composable_located : (wrong : Bool) → Refuses (composable_checks p q wrong) (LocatedIn (p ∷ q ∷ []))
  unfolding composable_checks size_checks
  composable_located wrong = two-located p q _ tt

  pub refinement-located : (marks : ℕ) → Refuses (refinement_checks p q marks) (LocatedIn (p ∷ q ∷ []))
  unfolding refinement_checks size_checks
  refinement-located marks = two-located p q _ tt

  pub synthesis-located : (cells flags : ℕ) → Refuses (synthesis_checks p q cells flags) (LocatedIn (p ∷ q ∷ []))
  unfolding synthesis_checks size_checks
  synthesis-located cells flags = two-located p q _ tt

-- The follower's checks.
pub monitor_located : (i : ℕ) (t : Table) (s a : ℕ) → Refuses (monitor_checks i t s a) (LocatedAt t s a)
unfolding monitor_checks
monitor_located i t s a =
    let by = one-refuses (LocatedAt t s a) in
    shape-located _ _ i t _
    (by _ _ (λ b. nowhere (omega arith) refl) (λ _.
    by _ _ (λ b. nowhere (omega arith) refl) (λ _.
    by _ [] (λ b. of_five refl (refl, (stray-says t s a).0 b)) (λ _. none-refuses (LocatedAt t s a)))))

-- What holds of every refusal by the checks holds of every refusal that the call gives; `right` tells any other reply.
pub reply_refuses : {A : Type 0} (P : Refusal → Type 0) (l : List Check) → Refuses l P → (right : A → Bool) (f : Refusal → A) (a : A) (r : Refusal)
    → T (right a) → ¬ T (right (f r)) → ((s : Refusal) → f s ≡ f r → s ≡ r) → unless_refused (first l) f a ≡ f r → P r
reply_refuses P l holds right f a r other never same = go (first l) (holds r)
  where
    go : (k : Result (Unit {0}) Refusal) → (k ≡ Err r → P r) → unless_refused k f a ≡ f r → P r
    go (Ok tt) p e = absurd (never (subst (λ x. T (right x)) e other))
    go (Err s) p e = p (ap Err (same s e))
