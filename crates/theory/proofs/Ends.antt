-- The ends that are counted in a composition's table are those of the composition (02, S-4).
use mathlib.Core.Path.{◌≡◌, refl, sym, subst, ◌∙◌}
use mathlib.Core.Logic.{◌↔◌}
use mathlib.Core.Bool.{Bool, not, ◌&&◌}
use mathlib.Core.Option.{some}
use Prim.Native.Nat.{ℕ, ◌*◌, ◌/◌, ◌%◌, ◌<◌, ◌≤◌}
use native.Mathlib.Nat.{div-add-mod'}
use native.Mathlib.Omega.{arith}
use lib.Dec.{T, eqb, eqb→eq, T_not, not_T}
use lib.ListN.{get_or}
use Rattle.theory.specs.Interface.{InterfaceAutomaton, compose}
use Rattle.theory.specs.Bounded.{any}
use Rattle.theory.specs.Closure.{is_some}
use Rattle.theory.specs.Numbered.{interface, WellFormed, reached, pair}
use Rattle.theory.specs.Reachability.{Reachable, start, onward, End}
use Rattle.theory.specs.Table.{Table, automaton, composition, composed_table, is_end, end_count}
use Rattle.theory.specs.Valid.{Valid}
use Rattle.theory.proofs.Tests.{and_left, and_right, and_both}
use Rattle.theory.proofs.Bounded.{any_at, at-any, count_none}
use Rattle.theory.proofs.Options.{is-some, some_is}
use Rattle.theory.proofs.Reachability.{reached_path, reached-kept, no_end}
use Rattle.theory.proofs.Numbering.{pair_lt, split-pair}
use Rattle.theory.proofs.Table.{step-below, table_well_formed}
use Rattle.theory.proofs.Verdicts.{composition-cells, flag_compatible, compatible-tables}

-- A state without a step, computed.
final_of : (t : Table) (s : ℕ) → T (not (any 32 (λ a. is_some ((automaton t).next s a)))) ↔ ((a u : ℕ) → ¬ ((automaton t).next s a ≡ some u))
final_of t s = (
  (λ f a u e. T_not (any 32 step_by) f (at-any 32 step_by a (step-below t s a u e) (some_is ((automaton t).next s a) (u, e)))),
  (λ f. not_T (any 32 step_by) λ h.
      let (a, _, i) = any_at 32 step_by h in
      let (u, e) = is-some ((automaton t).next s a) i in
      f a u e),
)
  where
    step_by : ℕ → Bool
    step_by a = is_some ((automaton t).next s a)

module _ (p q : Table) (vp : Valid p) (vq : Valid q) (few : p.header.states * q.header.states ≤ 65535) where
  abbrev X : InterfaceAutomaton
  X = interface (automaton p)

  abbrev Y : InterfaceAutomaton
  Y = interface (automaton q)

  abbrev m : ℕ
  m = p.header.states

  abbrev n : ℕ
  n = q.header.states

  abbrev t : Table
  t = composed_table p q

  -- The pair of the number k.
  abbrev at : ℕ → ℕ × ℕ
  at k = (k / n, k % n)

  some_state : 0 < n
  some_state = omega (arith, vq.initial)

  w : WellFormed (automaton t)
  unfolding composition
  w = table_well_formed t (pair_lt m n some_state vp.initial vq.initial)

  initial-at : at (automaton t).initial ≡ (p.header.initial, q.header.initial)
  unfolding composition
  initial-at = split-pair m n some_state p.header.initial q.header.initial vq.initial

  abbrev Path : ℕ → Type 0
  Path = Reachable (interface (automaton t)) (automaton t).initial

  abbrev Composed : ℕ × ℕ → Type 0
  Composed = Reachable (compose X Y) (compose X Y).initial

  -- A path in the table is one in the composition, ..
  composed_path : (k : ℕ) → Path k → (k < m * n) × Composed (at k)
  unfolding composition
  composed_path k start = (w.initial, subst Composed (sym initial-at) start)
  composed_path k (onward {t = s} a r e) =
      let (l, c) = composed_path s r in
      (w.closed s a k l e, onward a c ((composition-cells p q vp vq few s a (at k) l).0 (k, e, refl)))

  -- .. and the other way round.
  path_composed : (y : ℕ × ℕ) → Composed y → (k : ℕ) × (k < m * n) × Path k × (at k ≡ y)
  unfolding composition
  path_composed y start = ((automaton t).initial, w.initial, start, initial-at)
  path_composed y (onward {t = x} a c b) =
      let (s, l, r, e) = path_composed x c in
      let (k, f, g) = (composition-cells p q vp vq few s a y l).1 (subst (λ z. (compose X Y).step z a y) (sym e) b) in
      (k, w.closed s a k l f, onward a r f, g)

  reachable-pair : (k : ℕ) → k < m * n → T (reached 32 (automaton t) k) ↔ Composed (at k)
  unfolding composition
  reachable-pair k h =
      let d = reached_path (automaton t) 32 w (λ s a u l e. step-below t s a u e) k h in (
        (λ r. (composed_path k (d.0 r)).1),
        (λ c. let (j, l, r, e) = path_composed (at k) c in d.1 (subst Path (same j k e) r)),
      )
    where
      same : (j k : ℕ) → at j ≡ at k → j ≡ k
      same j k e = sym (div-add-mod' j n) ∙ (λ i. pair n (e i).0 (e i).1) ∙ div-add-mod' k n

  -- A pair is counted exactly if it is an end.
  pub end-counted : (k : ℕ) → k < m * n → T (is_end t (composition p q).flags k) ↔ End X Y (at k)
  end-counted k h =
      let f = flag_compatible p q vp vq k h in
      let r = reachable-pair k h in
      let g = final_of t k in (
        (λ e.
            let e' : T (kept && way) = and_left (kept && way) final e in record {
              kept = f.0 (eqb→eq (get_or (composition p q).flags k 0) 1 (and_left kept way e'));
              reachable = r.0 (and_right kept way e');
              final = λ a (y, b).
                  let (u, d, _) = (composition-cells p q vp vq few k a y h).1 b in
                  g.0 (and_right (kept && way) final e) a u d;
            }),
        (λ e.
            and_both (kept && way) final
            (and_both kept way (subst (λ v. T (eqb v 1)) (sym (f.1 e.kept)) tt) (r.1 e.reachable))
            (g.1 λ a u d. e.final a (at u, (composition-cells p q vp vq few k a (at u) h).0 (u, d, refl)))),
      )
    where
      kept : Bool
      kept = eqb (get_or (composition p q).flags k 0) 1

      way : Bool
      way = reached 32 (automaton t) k

      final : Bool
      final = not (any 32 (λ a. is_some ((automaton t).next k a)))

  -- Every end is a pair of a number, so no end is left out of the count.
  pub end-numbered : (y : ℕ × ℕ) → End X Y y → (k : ℕ) × (k < m * n) × (at k ≡ y)
  end-numbered y e = let (k, l, _, q) = path_composed y e.reachable in (k, l, q)

  -- Under yes every pair that is reached is kept, ..
  pub yes-kept : T (composition p q).compatible → (k : ℕ) → k < m * n → T (reached 32 (automaton t) k) → get_or (composition p q).flags k 0 ≡ 1
  yes-kept c k h r =
      (flag_compatible p q vp vq k h).1 (reached-kept X Y ((compatible-tables p q vp vq).0 c) (at k) ((reachable-pair k h).0 r))

  -- .. and under none there is no end.
  pub none-ended : ¬ T (composition p q).compatible → end_count t (composition p q).flags ≡ 0
  unfolding end_count composition
  none-ended c =
      count_none (m * n) (is_end t (composition p q).flags) λ k h e.
      no_end X Y (λ d. c ((compatible-tables p q vp vq).1 d)) (at k) ((end-counted k h).0 e)
