-- A better part in the same place (02: S-13): of any interface automata, and of all accepted tables at any number of pairs.
use mathlib.Core.Path.{◌≡◌, refl, sym, subst}
use mathlib.Core.Logic.{◌⊎◌, inl, inr}
use mathlib.Core.Bool.{not, ◌&&◌, ◌||◌}
use Prim.Native.Nat.{ℕ}
use lib.Dec.{T}
use Rattle.theory.specs.Interface.{InterfaceAutomaton, sent, action, product, compose, Moves, steps, stays, Joint, Illegal, of_first, of_second, Incompatible, here, there, CompatiblePair, Compatible, RefinesBy, Deterministic}
use Rattle.theory.specs.Numbered.{WellFormed}
use Rattle.theory.specs.Table.{Table, automaton}
use Rattle.theory.specs.Valid.{Valid}
use Rattle.theory.specs.Substitution.{SameLists, Holds, interface_of, SubstitutionLaws}
use Rattle.theory.proofs.Steps.{out_action, out_sent, sent_out, kinds, same-action, sent_cases, first-sent, taken-unsent, in_concern, Stable, step_of, compatible-on, second_accepts, first_accepts, compose_deterministic}
use Rattle.theory.proofs.Simulation.{match-input, match-output, matching, reflexive, transitive}
use Rattle.theory.proofs.Numbering.{numbered_deterministic, numbered_stable}
use Rattle.theory.proofs.Decided.{by-test, decided, compositions_decided}
use Rattle.theory.proofs.Table.{table-narrow, table_well_formed}
use Rattle.theory.proofs.Commutative.{commutes}

-- ---- automata with the same lists

same-actions : {X Y : InterfaceAutomaton} → SameLists X Y → (a : ℕ) → action X a ≡ action Y a
same-actions {X} {Y} same a = same-action X Y same.inputs same.outputs a

same_lists_sym : {X Y : InterfaceAutomaton} → SameLists X Y → SameLists Y X
same_lists_sym same = record { inputs = λ a. sym (same.inputs a); outputs = λ a. sym (same.outputs a) }

module _ {X Y Z : InterfaceAutomaton} (same : SameLists X Y) (a : ℕ) {x x' : X.State} {y y' : Y.State} {z z' : Z.State} (j : Joint X Z (x, z) a (x', z')) where
  -- Beside the same move of Z, Y steps or stays as X does.
  joint-step : T (action X a) → Y.step y a y' → Joint Y Z (y, z) a (y', z')
  joint-step s n = record {
    known = subst (λ b. T (b || action Z a)) (same-actions same a) j.known;
    first = steps (subst T (same-actions same a) s) n;
    second = j.second;
  }

  joint_stay : T (not (action X a)) → y ≡ y' → Joint Y Z (y, z) a (y', z')
  joint_stay s e = record {
    known = subst (λ b. T (b || action Z a)) (same-actions same a) j.known;
    first = stays (subst (λ b. T (not b)) (same-actions same a) s) e;
    second = j.second;
  }

-- ---- interface automata: X refines Y by ρ, and has the same lists

module _ (X Y Z : InterfaceAutomaton) (cY : Stable Y) (cZ : Stable Z) (same : SameLists X Y) (ρ : X.State → Y.State → Type 0) (ref : RefinesBy X Y ρ) where
  same_outputs : (a : ℕ) → (X.output a || Z.output a) ≡ (Y.output a || Z.output a)
  same_outputs a i = same.outputs a i || Z.output a

  -- What X and Z send, Y and Z send.
  sent_too : (a : ℕ) → T (sent (product X Z) a) → T (sent (product Y Z) a)
  sent_too a t = out_sent (product Y Z) a (subst T (same_outputs a) (sent_out (product X Z) a t))

  -- An output step of X beside Z is matched by Y, where the pair of Y is compatible: what Z sends and X takes, Y takes too.
  match-sent : {x x' : X.State} {y : Y.State} {z z' : Z.State} (a : ℕ) → ρ x y → CompatiblePair Y Z (y, z) → T (sent (product X Z) a)
      → Joint X Z (x, z) a (x', z') → (y' : Y.State) × Joint Y Z (y, z) a (y', z') × ρ x' y'
  match-sent {x} {x'} {y} {z} {z'} a h k t j = go j.first
    where
      sender : T (action X a) → T (X.output a) ⊎ (T (Y.input a) × T (Z.output a))
      sender s = elim (sent_cases X Z a t) [
        | inl u ↦ inl (sent_out X a u)
        | inr v ↦ elim (kinds X a s) [ inl i ↦ inr (subst T (same.inputs a) i, sent_out Z a v) | inr u ↦ inl (sent_out X a u) ]
      ]

      go : Moves X a x x' → (y' : Y.State) × Joint Y Z (y, z) a (y', z') × ρ x' y'
      go (stays n e) = (y, joint_stay same a j n refl, subst (λ u. ρ u y) e h)
      go (steps s m) = elim (sender s) [
        | inl o ↦ let (y', n, h') = match-output ref.simulation a h o m in (y', joint-step same a j s n, h')
        | inr (i, o) ↦
            let (y', n) = first_accepts Y Z a cY k o i (z', step_of (out_action Z a o) j.second) in
            (y', joint-step same a j s n, ref.simulation.successors x x' y y' h a (in_concern X Y a i) m n)
      ]

  -- Where (y, z) is compatible and x is related to y, (x, z) is not illegal.
  legal : {x : X.State} {y : Y.State} {z : Z.State} → ρ x y → CompatiblePair Y Z (y, z) → ¬ Illegal X Z (x, z)
  legal {x} {y} {z} h k (of_first f) =
      f.cannot (second_accepts Y Z f.sent cZ k (subst T (same.outputs f.sent) f.sends) f.takes
      (ref.simulation.outputs x y h f.sent f.sends f.can))
  legal {x} {y} {z} h k (of_second f) =
      let i : T (Y.input f.sent) = subst T (same.inputs f.sent) f.takes in
      f.cannot (ref.simulation.inputs x y h f.sent i (first_accepts Y Z f.sent cY k f.sends i f.can))

  -- If (x, z) is incompatible, no related y is compatible with z.
  incompatible_too : (s : X.State × Z.State) → Incompatible X Z s → (y : Y.State) → ρ s.0 y → ¬ CompatiblePair Y Z (y, s.1)
  incompatible_too s (here i) y h k = legal h k i
  incompatible_too s (there {t = t} a e d) y h k =
      let (y', j, h') = match-sent a h k e.sends e.joint in
      incompatible_too t d y' h' (compatible-on Y Z a k (sent_too a e.sends) j)

  pub replaces_compatible : Compatible Y Z → Compatible X Z
  replaces_compatible fit d = incompatible_too (X.initial, Z.initial) d Y.initial ref.initials fit

  -- An input step of Y beside Z is matched by X.
  match-taken : {x : X.State} {y y' : Y.State} {z z' : Z.State} (a : ℕ) → ρ x y → ¬ T (sent (product Y Z) a)
      → Joint Y Z (y, z) a (y', z') → (x' : X.State) × Joint X Z (x, z) a (x', z') × ρ x' y'
  match-taken {x} {y} {y'} {z} {z'} a h n j = go j.first
    where
      taken : T (action Y a) → T (Y.input a)
      taken s = elim (kinds Y a s) [ inl i ↦ i | inr u ↦ absurd (n (first-sent Y Z a u)) ]

      go : Moves Y a y y' → (x' : X.State) × Joint X Z (x, z) a (x', z') × ρ x' y'
      go (stays u e) = (x, joint_stay (same_lists_sym same) a j u refl, subst (λ u. ρ x u) e h)
      go (steps s m) = let (x', l, h') = match-input ref.simulation a h (taken s) m in (x', joint-step (same_lists_sym same) a j s l, h')

  -- Related states of X and Y beside the same state of Z, where the pair of Y is compatible.
  abbrev pub Beside : X.State × Z.State → Y.State × Z.State → Type 0
  Beside s t = (s.1 ≡ t.1) × ρ s.0 t.0 × CompatiblePair Y Z (t.0, s.1)

  pub replaces_refines : Deterministic X → Deterministic Y → Deterministic Z → Compatible Y Z → RefinesBy (compose X Z) (compose Y Z) Beside
  replaces_refines dX dY dZ fit = record {
    lists = record {
      inputs = λ a t. subst T (sym (λ i. (same.inputs a i || Z.input a) && not (same.outputs a i || Z.output a))) t;
      outputs = λ a t. subst T (same_outputs a) t;
    };
    simulation = matching (compose_deterministic X Z dX dZ) (compose_deterministic Y Z dY dZ) (record {
      inputs = λ s t t' h a i m.
          let j : Joint Y Z (t.0, s.1) a t' = subst (λ u. Joint Y Z (t.0, u) a t') (sym h.0) m.joint in
          let (x', j', h') = match-taken a h.1 (taken-unsent Y Z a i) j in (
            (x', t'.1),
            record { joint = j'; source = λ d. incompatible_too s d t.0 h.1 h.2; target = λ d. incompatible_too (x', t'.1) d t'.0 h' m.target },
            (refl, h', m.target),
          );
      outputs = λ s s' t h a o m.
          let u : T (sent (product X Z) a) = out_sent (product X Z) a o in
          let (y', j', h') = match-sent a h.1 h.2 u m.joint in
          let k' : CompatiblePair Y Z (y', s'.1) = compatible-on Y Z a h.2 (sent_too a u) j' in (
            (y', s'.1),
            record { joint = subst (λ u. Joint Y Z (t.0, u) a (y', s'.1)) h.0 j'; source = subst (λ u. CompatiblePair Y Z (t.0, u)) h.0 h.2; target = k' },
            (refl, h', k'),
          );
    });
    initials = (refl, ref.initials, fit);
  }

-- ---- accepted tables

well_formed : (t : Table) → Valid t → WellFormed (automaton t)
well_formed t v = table_well_formed t v.initial

pub substitution_laws : Holds SubstitutionLaws
substitution_laws x y z vx vy vz = record {
  reflexive = decided (automaton x) (automaton x) 32 (well_formed x vx) (well_formed x vx) (table-narrow x) (table-narrow x)
      (reflexive (interface_of x) (numbered_deterministic (automaton x)));
  transitive = λ f g.
      decided (automaton x) (automaton z) 32 (well_formed x vx) (well_formed z vz) (table-narrow x) (table-narrow z) (transitive (by-test f) (by-test g));
  substitution = λ f same fit.
      let (ρ, ref) = by-test f in
      let cY = numbered_stable (automaton y) in
      let cZ = numbered_stable (automaton z) in
      record {
        compatible = replaces_compatible (interface_of x) (interface_of y) (interface_of z) cY cZ same ρ ref fit;
        refines = compositions_decided (automaton x) (automaton z) (automaton y) (automaton z) 32
            (well_formed x vx) (well_formed z vz) (well_formed y vy) (well_formed z vz) (table-narrow x) (table-narrow z) (table-narrow y) (table-narrow z) (
              _,
              replaces_refines (interface_of x) (interface_of y) (interface_of z) cY cZ same ρ ref
                  (numbered_deterministic (automaton x)) (numbered_deterministic (automaton y)) (numbered_deterministic (automaton z)) fit,
            );
      };
  commutative = commutes (interface_of y) (interface_of z);
}
