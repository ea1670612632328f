-- A table's lists after a declaration.
use mathlib.Core.Path.{◌≡◌, refl, sym, ap, subst, ◌∙◌}
use mathlib.Core.Bool.{Bool, true, false, ◌&&◌, ◌||◌, and-true, and-false, or-false}
use Prim.Native.Nat.{ℕ, ◌^◌, ◌<◌}
use native.Mathlib.Decide.{ℕ_discrete}
use lib.Bits.{bit_or, or_lt}
use mathlib.Core.List.{[]}
use mathlib.Core.Logic.{inl, inr}
use lib.Dec.{T, eqb, ltb, eqb→eq}
use lib.Pow.{pow-lt}
use borrow.Author.Tests.{eq-eqb, ne_eqb, lt-ltb}
use Rattle.theory.specs.declared.Automaton.{Automaton}
use Rattle.theory.specs.Table.{with_lists, table, member}
use Rattle.theory.specs.Checks.{declared}
use Rattle.theory.proofs.Sets.{member-or}
use Rattle.theory.proofs.Tests.{is_false, or_cases, or_left, or_right}
use Rattle.sets.proofs.Membership.{has-none, has-power}
use Rattle.text.specs.declared.Role.{Role}
use Rattle.text.specs.declared.Role.TheVariants.{Input, Output}
use Rattle.text.specs.Roles.{has_role}
use Rattle.text.specs.Reading.{with_role}

pub member-none : (a : ℕ) → member 0 a ≡ false
member-none a = rw (has-none a) (and-false (ltb a 32))

pub member-with : (s a b : ℕ) → a < 32 → member (bit_or s (2 ^ a)) b ≡ (member s b || eqb b a)
member-with s a b h = member-or s (2 ^ a) b ∙ ap (λ x. member s b || x) (elim (ℕ_discrete b a) [
  | yes e ↦ rw (has-power a b, e, lt-ltb a 32 h)
  | no d ↦ rw (has-power a b, ne_eqb b a d) (and-false (ltb b 32))
])

-- ---- the roles of a signal: for each role, whether its list has it

abbrev pub roles_at : Automaton → ℕ → Role → Bool
roles_at h a = λ r. has_role r h a

abbrev pub no_role : Role → Bool
no_role = λ r. false

abbrev pub only : Role → Role → Bool
only Input Input = true
only Input Output = false
only Output Input = false
only Output Output = true

-- Some list has it: so `declared` says.
abbrev pub some_role : (Role → Bool) → Bool
some_role roles = roles Input || roles Output

pub only-some : (r : Role) {roles : Role → Bool} → roles ≡ only r → T (some_role roles)
only-some Input e = subst (λ p. T (some_role p)) (sym e) tt
only-some Output e = subst (λ p. T (some_role p)) (sym e) tt

pub undeclared : (h : Automaton) (a : ℕ) → ¬ T (declared (table h []) a) → roles_at h a ≡ no_role
undeclared h a n = λ i r. blank r i
  where
    blank : (r : Role) → has_role r h a ≡ false
    blank Input = is_false (member h.inputs a) (λ t. n (or_left (member h.inputs a) (member h.outputs a) t))
    blank Output = is_false (member h.outputs a) (λ t. n (or_right (member h.inputs a) (member h.outputs a) t))

pub empty_lists : (h : Automaton) (a : ℕ) → roles_at (with_lists h 0 0) a ≡ no_role
empty_lists h a = λ i r. blank r i
  where
    blank : (r : Role) → has_role r (with_lists h 0 0) a ≡ false
    blank Input = member-none a
    blank Output = member-none a

-- After a declaration the list of its role has the signal too, and the other lists are the same.
listed-with : (r s : Role) (a : ℕ) (h : Automaton) (b : ℕ) → a < 32 → has_role s (with_role r a h) b ≡ (has_role s h b || (only r s && eqb b a))
listed-with Input Input a h b l = member-with h.inputs a b l
listed-with Input Output a h b l = sym (or-false (member h.outputs b))
listed-with Output Input a h b l = sym (or-false (member h.inputs b))
listed-with Output Output a h b l = member-with h.outputs a b l

pub roles-here : (r : Role) (a : ℕ) (h : Automaton) → a < 32 → roles_at h a ≡ no_role → roles_at (with_role r a h) a ≡ only r
roles-here r a h l e = λ i s. here s i
  where
    here : (s : Role) → has_role s (with_role r a h) a ≡ only r s
    here s =
        let f : has_role s h a ≡ false = ap (λ p. p s) e in
        listed-with r s a h a l ∙ rw (f, eq-eqb a a refl) (and-true (only r s))

pub roles-there : (r : Role) (a : ℕ) (h : Automaton) (b : ℕ) → a < 32 → ¬ (b ≡ a) → roles_at (with_role r a h) b ≡ roles_at h b
roles-there r a h b l d = λ i s. there s i
  where
    there : (s : Role) → has_role s (with_role r a h) b ≡ has_role s h b
    there s = listed-with r s a h b l ∙ rw (ne_eqb b a d, and-false (only r s)) (or-false (has_role s h b))

-- ---- all signals

-- A signal has a role exactly if it had one, or is the one declared.
pub declared-with : (r : Role) (a : ℕ) (h : Automaton) (b : ℕ) → a < 32
    → declared (table (with_role r a h) []) b ≡ (declared (table h []) b || eqb b a)
declared-with Input a h b l = rw (member-with h.inputs a b l) (swap (member h.inputs b) (member h.outputs b) (eqb b a))
  where
    swap : (x y z : Bool) → (x || z || y) ≡ (x || y || z)
    swap true y z = refl
    swap false true true = refl
    swap false true false = refl
    swap false false z = or-false z
declared-with Output a h b l = rw (member-with h.outputs a b l) (assoc (member h.inputs b))
  where
    assoc : (x : Bool) → (x || (member h.outputs b || eqb b a)) ≡ (x || member h.outputs b || eqb b a)
    assoc true = refl
    assoc false = refl

-- The lists stay sets of 32 digits, and disjoint.
pub record Lists (h : Automaton) : Type 0 where
  pub inputs : h.inputs < 2 ^ 32
  pub outputs : h.outputs < 2 ^ 32
  pub disjoint : (a : ℕ) → T (member h.inputs a) → ¬ T (member h.outputs a)

pub lists-with : (r : Role) (a : ℕ) (h : Automaton) → a < 32 → ¬ T (declared (table h []) a) → Lists h → Lists (with_role r a h)
lists-with Input a h l n w = record {
  inputs = or_lt 32 h.inputs (2 ^ a) w.inputs (pow-lt l);
  outputs = w.outputs;
  disjoint = λ b t u. elim (or_cases (member h.inputs b) (eqb b a) (rw (member-with h.inputs a b l) at t)) [
    | inl x ↦ w.disjoint b x u
    | inr x ↦ n (or_right (member h.inputs a) (member h.outputs a) (rw (eqb→eq b a x) at u))
  ];
}
lists-with Output a h l n w = record {
  inputs = w.inputs;
  outputs = or_lt 32 h.outputs (2 ^ a) w.outputs (pow-lt l);
  disjoint = λ b t u. elim (or_cases (member h.outputs b) (eqb b a) (rw (member-with h.outputs a b l) at u)) [
    | inl x ↦ w.disjoint b t x
    | inr x ↦ n (or_left (member h.inputs a) (member h.outputs a) (rw (eqb→eq b a x) at t))
  ];
}
