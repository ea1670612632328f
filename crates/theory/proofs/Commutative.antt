-- Composition is commutative, pairs swapped: of any two interface automata, and by number of automata of any size.
use mathlib.Core.Path.{◌≡◌, refl, sym, subst, ap, ◌∙◌}
use mathlib.Core.Bool.{Bool, not, ◌&&◌, ◌||◌, cond, or_comm}
use mathlib.Core.Option.{Option, none, some, none-ne-some}
use Prim.Native.Nat.{ℕ, zero, suc, ◌*◌, ◌/◌, ◌%◌, ◌<◌, ◌≤◌}
use native.Mathlib.Omega.{arith}
use lib.Dec.{T}
use borrow.Author.Tests.{ne_eqb}
use Rattle.theory.specs.Interface.{InterfaceAutomaton, sent, action, product, Joint, Illegal, of_first, of_second, Incompatible, here, there, Between}
use Rattle.theory.specs.Closure as closure
use Rattle.theory.specs.Numbered.{NumberedAutomaton, interface, WellFormed, Narrow, pair, product_next, illegal, incompatibility, composition_numbered}
use Rattle.theory.specs.Table.{code}
use Rattle.theory.specs.Substitution.{swap, Commutes, swapped_pair, swapped_cell}
use Rattle.theory.proofs.Options.{when_of, of_when}
use Rattle.theory.proofs.Steps.{sent-swap}
use Rattle.theory.proofs.Closure.{same_option, closure_shortest, rank_below, rounds_largest}
use Rattle.theory.proofs.Numbering.{sent_next, split-pair, split-first, split-second, pair_lt, pair-split, pos, pair_of, product_of, of_product, illegal_of, composed_of_lem, of_composed}

-- ---- interface automata

or_swap : (a b : Bool) → T (a || b) → T (b || a)
or_swap a b t = subst T (or_comm a b) t

module _ {X Y : InterfaceAutomaton} where
  joint-swap : {s t : X.State × Y.State} (a : ℕ) → Joint X Y s a t → Joint Y X (swap s) a (swap t)
  joint-swap a j = record { known = or_swap (action X a) (action Y a) j.known; first = j.second; second = j.first }

  illegal-swap : {s : X.State × Y.State} → Illegal X Y s → Illegal Y X (swap s)
  illegal-swap (of_first r) = of_second r
  illegal-swap (of_second r) = of_first r

  incompatible_swap : (s : X.State × Y.State) → Incompatible X Y s → Incompatible Y X (swap s)
  incompatible_swap s (here i) = here (illegal-swap i)
  incompatible_swap s (there {t = t} a e d) =
      there {t = swap t} a (record { sends = sent-swap X Y a e.sends; joint = joint-swap a e.joint }) (incompatible_swap t d)

between-swap : {X Y : InterfaceAutomaton} {s t : X.State × Y.State} (a : ℕ) → Between X Y s a t → Between Y X (swap s) a (swap t)
between-swap {s = s} {t = t} a b = record {
  joint = joint-swap a b.joint;
  source = λ d. b.source (incompatible_swap (swap s) d);
  target = λ d. b.target (incompatible_swap (swap t) d);
}

pub commutes : (Y Z : InterfaceAutomaton) → Commutes Y Z
commutes Y Z = record {
  lists = record {
    inputs = λ a i. or_comm (Z.input a) (Y.input a) i && not (or_comm (Z.output a) (Y.output a) i);
    outputs = λ a. or_comm (Z.output a) (Y.output a);
  };
  initial = refl;
  compatible = λ s. ((λ k d. k (incompatible_swap s d)), (λ k d. k (incompatible_swap (swap s) d)));
  steps = λ s a t. (between-swap a, between-swap a);
}

-- ---- numbered automata, of any size

-- The walks of the search for incompatible pairs.
abbrev Walk : NumberedAutomaton → NumberedAutomaton → ℕ → ℕ → ℕ → Type 0
Walk M N width = closure.Walk (M.states * N.states) width (illegal M N width) (sent_next M N)

module _ (M N : NumberedAutomaton) (width : ℕ) (wM : WellFormed M) (wN : WellFormed N) (nM : Narrow width M) (nN : Narrow width N) where
  abbrev m : ℕ
  m = M.states

  abbrev n : ℕ
  n = N.states

  abbrev swapped : ℕ → ℕ
  swapped = swapped_pair m n

  pos_m : zero < m
  pos_m = pos N M width wN wM nN nM

  pos_n : zero < n
  pos_n = pos M N width wM wN nM nN

  swapped-lt : {k : ℕ} → k < m * n → swapped k < n * m
  swapped-lt {k} h = pair_lt n m pos_m (split-second m n pos_n k) (split-first m n pos_n h)

  swapped-split : {k : ℕ} → k < m * n → pair_of N M width wN wM nN nM (swapped k) ≡ (k % n, k / n)
  swapped-split {k} h = split-pair n m pos_m (k % n) (k / n) (split-first m n pos_n h)

  swapped-twice : {k : ℕ} → k < m * n → swapped_pair n m (swapped k) ≡ k
  swapped-twice {k} h = ap (λ (s : ℕ × ℕ). pair n s.1 s.0) (swapped-split h) ∙ pair-split m n pos_n k

  product-swap : (k a t : ℕ) → k < m * n → product_next M N k a ≡ some t → product_next N M (swapped k) a ≡ some (swapped t)
  product-swap k a t h e =
      (of_product N M width wN wM nN nM (swapped k) a (t % n, t / n) (swapped-lt h)
      (subst (λ s. Joint (interface N) (interface M) s a (t % n, t / n)) (sym (swapped-split h)) (joint-swap a (product_of M N width wM wN nM nN k a t h e)))).2

  seed-swap : (k : ℕ) → k < m * n → T (illegal M N width k) → T (illegal N M width (swapped k))
  seed-swap k h t =
      (illegal_of N M width wN wM nN nM (swapped k)).1
      (subst (Illegal (interface N) (interface M)) (sym (swapped-split h)) (illegal-swap ((illegal_of M N width wM wN nM nN k).0 t)))

  walk-swap : (r k : ℕ) → k < m * n → Walk M N width r k → Walk N M width r (swapped k)
  walk-swap r k h (closure.here b) = closure.here (seed-swap k h b)
  walk-swap r k h (closure.there {m = r'} {t = t} a l e h' w) =
      let (o, f) = when_of (sent (product (interface M) (interface N)) a) (product_next M N k a) e in
      closure.there {t = swapped t} a l
      (of_when (sent (product (interface N) (interface M)) a) (product_next N M (swapped k) a) (sent-swap (interface M) (interface N) a o) (product-swap k a t h f))
      (swapped-lt h') (walk-swap r' t h' w)

  composed-swap : (k a t : ℕ) → k < m * n → (composition_numbered M N width).next k a ≡ some t
      → (composition_numbered N M width).next (swapped k) a ≡ some (swapped t)
  composed-swap k a t h e =
      let b = between-swap a (composed_of_lem M N width wM wN nM nN k a t h e).1 in
      let (u, f, l, p) = of_composed N M width wN wM nN nM (swapped k) a (t % n, t / n) (swapped-lt h)
      (subst (λ s. Between (interface N) (interface M) s a (t % n, t / n)) (sym (swapped-split h)) b) in
      f ∙ ap some (sym (pair-split n m pos_m u) ∙ ap (λ (s : ℕ × ℕ). pair m s.0 s.1) p)

-- One direction of each law; the other is the same law of N and M.
module _ (M N : NumberedAutomaton) (width : ℕ) (wM : WellFormed M) (wN : WellFormed N) (nM : Narrow width M) (nN : Narrow width N) where
  rank-swap : (k r : ℕ) → k < M.states * N.states → closure.rank (incompatibility M N width) k ≡ some r
      → closure.rank (incompatibility N M width) (swapped_pair M.states N.states k) ≡ some r
  unfolding incompatibility
  rank-swap k r h e =
      let p = (closure_shortest (M.states * N.states) width (illegal M N width) (sent_next M N) k r h).0 e in
      let h' = swapped-lt M N width wM wN nM nN h in
      (closure_shortest (N.states * M.states) width (illegal N M width) (sent_next N M) (swapped_pair M.states N.states k) r h').1 (record {
        walk = walk-swap M N width wM wN nM nN r k h p.walk;
        least = λ j w. p.least j (subst (Walk M N width j) (swapped-twice M N width wM wN nM nN h) (walk-swap N M width wN wM nN nM j _ h' w));
      })

  rounds-swap : closure.rounds (M.states * N.states) (incompatibility M N width) ≤ closure.rounds (N.states * M.states) (incompatibility N M width)
  unfolding incompatibility
  rounds-swap = go _ refl
    where
      go : (r : ℕ) → closure.rounds (M.states * N.states) (incompatibility M N width) ≡ r
          → r ≤ closure.rounds (N.states * M.states) (incompatibility N M width)
      go zero e = omega arith
      go (suc r) e =
          let (s, h, f) = rounds_largest (M.states * N.states) width (illegal M N width) (sent_next M N) r e in
          rank_below (N.states * M.states) width (illegal N M width) (sent_next N M) _ r (swapped-lt M N width wM wN nM nN h) (rank-swap s r h f)

-- Ranks, rounds and cells of the two compositions are the same, pairs swapped.
pub record CommutesByNumber (M N : NumberedAutomaton) (width : ℕ) : Type 0 where
  pub below : (k : ℕ) → k < M.states * N.states → swapped_pair M.states N.states k < N.states * M.states
  pub ranks : (k : ℕ) → k < M.states * N.states
      → closure.rank (incompatibility N M width) (swapped_pair M.states N.states k) ≡ closure.rank (incompatibility M N width) k
  pub rounds : closure.rounds (N.states * M.states) (incompatibility N M width) ≡ closure.rounds (M.states * N.states) (incompatibility M N width)
  pub cells : M.states * N.states ≤ 65535 → (k a : ℕ) → k < M.states * N.states
      → code ((composition_numbered N M width).next (swapped_pair M.states N.states k) a)
      ≡ swapped_cell M.states N.states (code ((composition_numbered M N width).next k a))

-- The cell of a step that is there in either order, or in neither.
cell-swap : (m n : ℕ) (o p : Option ℕ) → ((t : ℕ) → o ≡ some t → (t < 65535) × (p ≡ some (swapped_pair m n t)))
    → ((u : ℕ) → p ≡ some u → o ≡ some (swapped_pair n m u)) → code p ≡ swapped_cell m n (code o)
cell-swap m n none none f g = refl
cell-swap m n none (some u) f g = absurd (none-ne-some _ (g u refl))
cell-swap m n (some t) p f g =
    let (l, e) = f t refl in
    ap code e ∙ sym (ap (λ b. cond b 65535 (swapped_pair m n t)) (ne_eqb t 65535 (λ q. omega arith)))

pub commutes-by-number : (M N : NumberedAutomaton) (width : ℕ) → WellFormed M → WellFormed N → Narrow width M → Narrow width N → CommutesByNumber M N width
commutes-by-number M N width wM wN nM nN = record {
  below = λ k h. below h;
  ranks = λ k h. same_option _ _
      (λ r e. subst (λ j. closure.rank (incompatibility M N width) j ≡ some r) (twice h) (rank-swap N M width wN wM nN nM _ r (below h) e))
      (λ r e. rank-swap M N width wM wN nM nN k r h e);
  rounds = omega (arith, rounds-swap M N width wM wN nM nN, rounds-swap N M width wN wM nN nM);
  cells = λ few k a h. cell-swap M.states N.states ((composition_numbered M N width).next k a) _
      (λ t e. let l = (composed_of_lem M N width wM wN nM nN k a t h e).0 in (omega arith, composed-swap M N width wM wN nM nN k a t h e))
      (λ u e. subst (λ j. (composition_numbered M N width).next j a ≡ some (swapped_pair N.states M.states u)) (twice h)
      (composed-swap N M width wN wM nN nM _ a u (below h) e));
}
  where
    below : {k : ℕ} → k < M.states * N.states → swapped_pair M.states N.states k < N.states * M.states
    below = swapped-lt M N width wM wN nM nN

    twice : {k : ℕ} → k < M.states * N.states → swapped_pair N.states M.states (swapped_pair M.states N.states k) ≡ k
    twice = swapped-twice M N width wM wN nM nN
