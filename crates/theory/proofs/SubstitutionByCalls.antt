-- A better part in the same place (02: S-13), over the values that contracts equate replies and buffers with.
use mathlib.Core.Path.{◌≡◌, refl, sym, ap, ap₂, ◌∙◌}
use mathlib.Core.Bool.{not}
use mathlib.Core.Option.{Option}
use Prim.Native.Nat.{ℕ, ◌*◌, ◌<◌, ◌≤◌}
use native.Mathlib.Omega.{arith}
use native.Mathlib.Nat.{mul_comm}
use lib.Arith.{digits_lt, digits_div, digits_mod}
use lib.Bits.{or_comm as bits-comm}
use lib.Dec.{T}
use lib.ListN.{get_or}
use Rattle.theory.specs.declared.Automaton.{Automaton}
use Rattle.theory.specs.Bounded.{digit, tabulate}
use Rattle.theory.specs.Closure.{is_some, rank, ranked}
use Rattle.theory.specs.Numbered.{NumberedAutomaton, pair, product_numbered, incompatibility, composition_numbered}
use Rattle.theory.specs.Sets.{difference}
use Rattle.theory.specs.Table.{Table, automaton, code, cell_at, pair_count, composition, composed_table, refinement}
use Rattle.theory.specs.Valid.{Valid, ComposableTables}
use Rattle.theory.specs.Substitution.{SameLists, interface_of, ComposeAccepts, RefineAccepts, AcceptedCalls, ReplacesByCalls, swapped_pair, swapped_cell, swapped_header, CommutesByCalls, SubstitutionByCalls}
use Rattle.theory.proofs.Bounded.{get_d_tabulate_zero}
use Rattle.theory.proofs.Simulation.{transitive}
use Rattle.theory.proofs.Decided.{by-test, decided}
use Rattle.theory.proofs.Table.{table-narrow, table_well_formed, cell_of_lem}
use Rattle.theory.proofs.Checks.{refinement-accepted, composition-accepted}
use Rattle.theory.proofs.Verdicts.{composed-valid, composed-refines, composed-refined, compatible-tables, refines-tables}
use Rattle.theory.proofs.Commutative.{CommutesByNumber, commutes-by-number}
use Rattle.theory.proofs.Substitution.{substitution_laws}

-- ---- accepted calls

pub accepted-calls : (x y : Table) → AcceptedCalls x y
accepted-calls x y = record {
  refine = (
    (λ a. ((refinement-accepted x y a.marks).0 a.accepted).0),
    (λ v. record { marks = pair_count x y; accepted = (refinement-accepted x y (pair_count x y)).1 (v, refl) }),
  );
  compose = (
    (λ a. ((composition-accepted x y a.cells a.flags).0 a.accepted).0),
    (λ c. record {
      cells = pair_count x y * 32;
      flags = pair_count x y;
      accepted = (composition-accepted x y (pair_count x y * 32) (pair_count x y)).1 (c, (refl, refl));
    }),
  );
}

composable_swap : (y z : Table) → ComposableTables y z → ComposableTables z y
composable_swap y z c = record {
  tables = record { one = c.tables.two; two = c.tables.one; few = rw (mul_comm z.header.states y.header.states) c.tables.few };
  apart = λ a o u. c.apart a u o;
}

-- ---- what compose gives for z and y

module _ (y z : Table) (vy : Valid y) (vz : Valid z) (few : y.header.states * z.header.states ≤ 4096) where
  abbrev m : ℕ
  m = y.header.states

  abbrev n : ℕ
  n = z.header.states

  abbrev M : NumberedAutomaton
  M = automaton y

  abbrev N : NumberedAutomaton
  N = automaton z

  by_number : CommutesByNumber M N 32
  by_number = commutes-by-number M N 32 (table_well_formed y vy.initial) (table_well_formed z vz.initial) (table-narrow y) (table-narrow z)

  header-swapped : (composition z y).header ≡ swapped_header m n (composition y z).header
  unfolding composition
  header-swapped i = record {
    states = mul_comm n m i;
    initial = ap₂ (pair m) (sym (digits_mod y.header.initial vz.initial)) (sym (digits_div y.header.initial vz.initial)) i;
    inputs = difference (bits-comm z.header.inputs y.header.inputs i) (bits-comm z.header.outputs y.header.outputs i);
    outputs = bits-comm z.header.outputs y.header.outputs i;
  }

  verdict-swapped : (composition z y).compatible ≡ (composition y z).compatible
  unfolding composition
  verdict-swapped =
      ap (λ k. not (ranked (incompatibility N M 32) k)) (ap (λ (h : Automaton). h.initial) header-swapped)
      ∙ ap (λ o. not (is_some o)) (by_number.ranks (product_numbered M N).initial (digits_lt vy.initial vz.initial))

  -- A list computed from the ranks has the same entries at swapped pairs.
  entries-swapped : (f : Option ℕ → ℕ) (d k : ℕ) → k < m * n
      → get_or (tabulate (λ j. f (rank (incompatibility N M 32) j)) 0 (n * m)) (swapped_pair m n k) d
      ≡ get_or (tabulate (λ j. f (rank (incompatibility M N 32) j)) 0 (m * n)) k d
  entries-swapped f d k h =
      get_d_tabulate_zero _ (n * m) (swapped_pair m n k) d (by_number.below k h) ∙ ap f (by_number.ranks k h) ∙ sym (get_d_tabulate_zero _ (m * n) k d h)

  cell-swapped : (k a : ℕ) → k < m * n → a < 32 → cell_at (composed_table z y) (swapped_pair m n k) a ≡ swapped_cell m n (cell_at (composed_table y z) k a)
  unfolding composition
  cell-swapped k a h l =
      cell_of_lem (composition_numbered N M 32) (swapped_pair m n k) a (by_number.below k h) l
      ∙ by_number.cells (omega arith) k a h ∙ ap (swapped_cell m n) (sym (cell_of_lem (composition_numbered M N 32) k a h l))

  commutes-by-calls : ComposeAccepts z y → CommutesByCalls y z
  unfolding composition
  commutes-by-calls a = record {
    accepted = a;
    compatible = verdict-swapped;
    header = header-swapped;
    rounds = by_number.rounds;
    ranks = entries-swapped code 65535;
    flags = entries-swapped (λ o. digit (not (is_some o))) 0;
    cells = cell-swapped;
  }

-- ---- the laws

replaces_by_calls : (x y z : Table) → RefineAccepts x y → ComposeAccepts y z → ComposeAccepts x z
    → T (refinement x y).refines → SameLists (interface_of x) (interface_of y) → T (composition y z).compatible → ReplacesByCalls x y z
replaces_by_calls x y z axy ayz axz f same fit =
    let xy = (accepted-calls x y).refine.0 axy in
    let yz = ((accepted-calls y z).compose.0 ayz).tables in
    let xz = ((accepted-calls x z).compose.0 axz).tables in
    let vx = xy.one in
    let vy = xy.two in
    let vz = yz.two in
    let r = (substitution_laws x y z vx vy vz).substitution ((refines-tables x y vx vy).0 f) same ((compatible-tables y z vy vz).0 fit) in
    let c = composed_table x z in
    let d = composed_table y z in
    let vc : Valid c = composed-valid x z vx vz xz.few in
    let vd : Valid d = composed-valid y z vy vz yz.few in
    record {
      compatible = (compatible-tables x z vx vz).1 r.compatible;
      refines = (refines-tables c d vc vd).1
          (decided (automaton c) (automaton d) 32 (table_well_formed c vc.initial) (table_well_formed d vd.initial) (table-narrow c) (table-narrow d)
          (transitive (composed-refines x z vx vz (omega (arith, xz.few))) (transitive (by-test r.refines) (composed-refined y z vy vz (omega (arith, yz.few))))));
    }

pub substitution-by-calls : (x y z : Table) → SubstitutionByCalls x y z
substitution-by-calls x y z = record {
  reflexive = λ a.
      let v = ((accepted-calls x x).refine.0 a).one in
      (refines-tables x x v v).1 (substitution_laws x x x v v v).reflexive;
  transitive = λ axy ayz f g.
      let vx = ((accepted-calls x y).refine.0 axy).one in
      let vy = ((accepted-calls x y).refine.0 axy).two in
      let vz = ((accepted-calls y z).refine.0 ayz).two in
      (refines-tables x z vx vz).1 ((substitution_laws x y z vx vy vz).transitive ((refines-tables x y vx vy).0 f) ((refines-tables y z vy vz).0 g));
  substitution = replaces_by_calls x y z;
  commutative = λ a.
      let c = (accepted-calls y z).compose.0 a in
      let v = c.tables in
      commutes-by-calls y z v.one v.two v.few ((accepted-calls z y).compose.1 (composable_swap y z c));
}
