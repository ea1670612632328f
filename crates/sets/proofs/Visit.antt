-- Loops that visit the members of a set, the lowest first: its lowest member by trailing zeros and the set without it, for any width; and what a
-- loop over a set of 32 digits knows at its head, whatever it does with the members.
use mathlib.Core.Path.{◌≡◌, refl, sym, subst, ap, ◌∙◌}
use mathlib.Core.Logic.{◌⊎◌, inl, inr}
use mathlib.Core.Bool.{Bool, true, false, not, ◌&&◌, ◌||◌, and-true, or-false}
use Prim.Native.Nat.{ℕ, zero, suc, ◌-◌, ◌/◌, ◌%◌, ◌^◌, ◌≤◌, ◌<◌}
use native.Mathlib.Nat.{pow-suc}
use native.Mathlib.Omega.{arith}
use lib.Bits.{and_self, and_zero_r, xor_self, xor_zero_r}
use lib.Count.{count_trailing_zeros, under}
use lib.Dec.{T, eqb, eqb→eq, eqb_refl, T_not, eqb-suc-suc, eqb-suc-zero}
use lib.Pow.{pow_pos}
use borrow.Author.Tests.{ne_eqb}
use Rattle.std.specs.Prelude.{Some}
use Rattle.theory.specs.Sets.{has, difference}
use Rattle.theory.proofs.Lowest.{Lowest}
use Rattle.theory.proofs.Sets.{has-suc, has-difference}
use Rattle.theory.proofs.Tests.{or_cases, or_left, or_right, and_left, and_right}
use Rattle.sets.specs.declared.LowestFirst.{LowestFirst}
use Rattle.sets.specs.Steps.{iterator_over, set_left, member_steps}
use Rattle.sets.proofs.Membership.{has-zero, has-none}

-- ---- the lowest member

-- What the trailing zeros t of a set with a member are.
pub record Low (w s t : ℕ) : Type 0 where
  pub lowest : Lowest w (has s) t
  pub within : 2 ^ t ≤ s
  pub rest : (a : ℕ) → has (s - 2 ^ t) a ≡ (has s a && not (eqb a t))

-- A set with the lowest digit 1: its lowest member is 0.
low-odd : (w s : ℕ) → s % 2 ≡ 1 → Low (suc w) s 0
low-odd w s e = record {
  lowest = record { below = omega arith; passes = rw (has-zero s, e) tt; least = λ a h. omega arith };
  within = omega arith;
  rest = without;
}
  where
    without : (a : ℕ) → has (s - 1) a ≡ (has s a && not (eqb a 0))
    without zero = let z : (s - 1) % 2 ≡ 0 = omega arith in rw (has-zero (s - 1), z, has-zero s, e) refl
    without (suc a) =
        let z : (s - 1) / 2 ≡ s / 2 = omega arith in
        rw (has-suc (s - 1) a, z, has-suc s a, eqb-suc-zero a) (sym (and-true (has (s / 2) a)))

-- A set with the lowest digit 0: one more than the lowest member of its half.
low-even : (w s t : ℕ) → s % 2 ≡ 0 → Low w (s / 2) t → Low (suc w) s (suc t)
low-even w s t e k = record {
  lowest = record { below = omega (arith, k.lowest.below); passes = rw (has-suc s t) k.lowest.passes; least = above };
  within = omega (arith, k.within, pow-suc 2 t);
  rest = without;
}
  where
    above : (a : ℕ) → T (has s a) → suc t ≤ a
    above zero h = absurd (rw (has-zero s, e) at h)
    above (suc a) h = omega (arith, k.lowest.least a (rw (has-suc s a) at h))

    half : (s - 2 ^ suc t) / 2 ≡ s / 2 - 2 ^ t
    half = omega (arith, k.within, pow-suc 2 t)

    even : (s - 2 ^ suc t) % 2 ≡ 0
    even = omega (arith, k.within, pow-suc 2 t)

    without : (a : ℕ) → has (s - 2 ^ suc t) a ≡ (has s a && not (eqb a (suc t)))
    without zero = rw (has-zero (s - 2 ^ suc t), even, has-zero s, e) refl
    without (suc a) = rw (has-suc (s - 2 ^ suc t) a, half, has-suc s a, eqb-suc-suc a t) (k.rest a)

pub low : (w s : ℕ) → 0 < s → s < 2 ^ w → Low w s (count_trailing_zeros w s)
unfolding count_trailing_zeros
low zero s q h = absurd (omega arith)
low (suc w) s q h = go (s % 2) refl (λ z. low w (s / 2) z (omega (arith, pow-suc 2 w)))
  where
    go : (d : ℕ) → s % 2 ≡ d → (0 < s / 2 → Low w (s / 2) (count_trailing_zeros w (s / 2))) → Low (suc w) s (under d (count_trailing_zeros w (s / 2)))
    go zero e k = low-even w s (count_trailing_zeros w (s / 2)) e (k (omega arith))
    go (suc zero) e k = low-odd w s e
    go (suc (suc d)) e k = absurd (omega arith)

-- ---- a loop that takes the lowest member of `left` in each turn, until none is left

-- Of the members of `set` some are left; what was done with the others, which are all lower, makes `known` true of them.
pub record Visit (set left : ℕ) (known : ℕ → Type 0) : Type 0 where
  pub bound : left < 2 ^ 32
  pub within : (a : ℕ) → T (has left a) → T (has set a)
  pub order : (a b : ℕ) → T (has (difference set left) a) → T (has left b) → a < b
  pub done : known (difference set left)

-- A turn: a is the lowest member of what was left, and becomes the highest of those visited.
pub record Turn (set visited a visited' left' : ℕ) : Type 0 where
  pub below : a < 32
  pub member : T (has set a)
  pub lower : (b : ℕ) → T (has visited b) → b < a
  pub inside : (b : ℕ) → T (has left' b) → T (has set b)
  pub higher : (b : ℕ) → T (has left' b) → a < b
  pub either : (b : ℕ) → T (has set b) → T (has visited' b) ⊎ T (has left' b)
  pub grown : (b : ℕ) → has visited' b ≡ (has visited b || eqb b a)

module _ {set visited a visited' left' : ℕ} (t : Turn set visited a visited' left') where
  pub turn-new : T (has visited' a)
  turn-new = subst T (sym (t.grown a)) (or_right (has visited a) (eqb a a) (eqb_refl a))

  pub turn-keeps : (b : ℕ) → T (has visited b) → T (has visited' b)
  turn-keeps b h = subst T (sym (t.grown b)) (or_left (has visited b) (eqb b a) h)

  pub turn-other : (b : ℕ) → ¬ (b ≡ a) → has visited' b ≡ has visited b
  turn-other b ne = t.grown b ∙ ap (λ x. has visited b || x) (ne_eqb b a ne) ∙ or-false (has visited b)

  pub turn_cases : (b : ℕ) → T (has visited' b) → T (has visited b) ⊎ (b ≡ a)
  turn_cases b h = elim (or_cases (has visited b) (eqb b a) (subst T (t.grown b) h)) [ inl v ↦ inl v | inr e ↦ inr (eqb→eq b a e) ]

  -- The members above a are left.
  pub turn-above : (b : ℕ) → T (has set b) → a < b → T (has left' b)
  turn-above b h l = elim (t.either b h) [
    | inl v ↦ elim (turn_cases b v) [ inl w ↦ absurd (omega (arith, t.lower b w)) | inr e ↦ absurd (omega arith) ]
    | inr u ↦ u
  ]

-- Nothing is visited yet.
pub visit_start : {known : ℕ → Type 0} (set : ℕ) → set < 2 ^ 32 → known 0 → Visit set set known
visit_start {known} set h k = record {
  bound = h;
  within = λ a t. t;
  order = λ a b t. absurd (subst T (has-none a) (subst (λ x. T (has x a)) none t));
  done = subst known (sym none) k;
}
  where
    none : difference set set ≡ 0
    none = rw (and_self set) (xor_self set)

-- All members are visited.
pub visit_end : {set left : ℕ} {known : ℕ → Type 0} → Visit set left known → left ≡ 0 → known set
visit_end {set} {left} {known} v e = subst known all v.done
  where
    all : difference set left ≡ set
    all = rw (e, and_zero_r set) (xor_zero_r set)

module _ {set left : ℕ} {known : ℕ → Type 0} (v : Visit set left known) (some : ¬ (left ≡ 0)) (a : ℕ) (lowest : a ≡ count_trailing_zeros 32 left) where
  own : Low 32 left a
  own = subst (Low 32 left) (sym lowest) (low 32 left (omega arith) v.bound)

  -- The member that is visited next is below 32.
  pub visit_below : a < 32
  visit_below = own.lowest.below

  -- It is a member of the set.
  pub visit_member : T (has set a)
  visit_member = v.within a own.lowest.passes

  module _ (left' : ℕ) (rest : left' ≡ left - 2 ^ count_trailing_zeros 32 left) where
    pub visit_less : left' < left
    visit_less = omega (arith, some, pow_pos (count_trailing_zeros 32 left))

    left-without : (b : ℕ) → has left' b ≡ (has left b && not (eqb b a))
    left-without b = ap (λ x. has x b) (rest ∙ ap (λ x. left - 2 ^ x) (sym lowest)) ∙ own.rest b

    still : (b : ℕ) → T (has left' b) → T (has left b)
    still b t = and_left (has left b) (not (eqb b a)) (subst T (left-without b) t)

    pub visit_turn : Turn set (difference set left) a (difference set left') left'
    visit_turn = record {
      below = visit_below;
      member = visit_member;
      lower = λ b t. v.order b a t own.lowest.passes;
      inside = λ b t. v.within b (still b t);
      higher = λ b t. omega (arith, own.lowest.least b (still b t), other b t);
      either = λ b t. part (has set b) (has left' b) t (has-difference set left' b);
      grown = λ b.
          has-difference set left' b ∙ ap (λ x. has set b && not x) (left-without b)
          ∙ grow (has set b) (has left b) (eqb b a) (λ e. subst (λ x. T (has set x)) (sym (eqb→eq b a e)) visit_member)
          ∙ ap (λ x. x || eqb b a) (sym (has-difference set left b));
    }
      where
        other : (b : ℕ) → T (has left' b) → ¬ (b ≡ a)
        other b t e = T_not (eqb b a) (and_right (has left b) (not (eqb b a)) (subst T (left-without b) t)) (subst (λ x. T (eqb x a)) (sym e) (eqb_refl a))

        part : (s l : Bool) {d : Bool} → T s → d ≡ (s && not l) → T d ⊎ T l
        part s true t e = inr tt
        part s false t e = inl (subst T (sym (e ∙ and-true s)) t)

        grow : (s l e : Bool) → (T e → T s) → (s && not (l && not e)) ≡ ((s && not l) || e)
        grow true true true h = refl
        grow true true false h = refl
        grow true false e h = refl
        grow false l true h = absurd (h tt)
        grow false l false h = refl

    -- The lowest member is visited.
    pub visit_step : {known' : ℕ → Type 0} → ((visited visited' : ℕ) → Turn set visited a visited' left' → known visited → known' visited') → Visit set left' known'
    visit_step f = record {
      bound = omega (arith, visit_less, v.bound);
      within = λ b t. v.within b (still b t);
      order = λ b c t u. elim (turn_cases visit_turn b t) [
        | inl w ↦ v.order b c w (still c u)
        | inr e ↦ omega (arith, visit_turn.higher c u)
      ];
      done = f (difference set left) (difference set left') visit_turn v.done;
    }

-- ---- the same of a loop over an iterator, whose step is that from s to t by the member a

pub visit_members : {known : ℕ → Type 0} (set : ℕ) {s t : LowestFirst} → t ≡ s → s ≡ iterator_over set → set < 2 ^ 32 → known 0 → Visit set (set_left t) known
visit_members {known} set u e h k = subst (λ x. Visit set x known) (sym (ap set_left (u ∙ e))) (visit_start set h k)

module _ {set : ℕ} {s t : LowestFirst} {a : ℕ} {known : ℕ → Type 0} (v : Visit set (set_left s) known) (step : member_steps s (Some a) t) where
  pub next_below : a < 32
  next_below = visit_below v (λ e. omega (arith, step.0)) a step.1

  pub next_member : T (has set a)
  next_member = visit_member v (λ e. omega (arith, step.0)) a step.1

  pub visit_next : {known' : ℕ → Type 0} → ((visited visited' : ℕ) → Turn set visited a visited' (set_left t) → known visited → known' visited') → Visit set (set_left t) known'
  visit_next = visit_step v (λ e. omega (arith, step.0)) a step.1 (set_left t) step.2
