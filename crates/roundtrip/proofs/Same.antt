-- A reading that copies a table is the same table, name for name.
use mathlib.Core.Path.{◌≡◌, sym, ap, subst, ◌∙◌}
use mathlib.Core.Logic.{inl, inr}
use mathlib.Core.Bool.{Bool, ◌&&◌}
use mathlib.Core.List.{List, []}
use Prim.Native.Nat.{ℕ, ◌+◌, ◌*◌, ◌<◌}
use native.Mathlib.Omega.{arith}
use lib.Arith.{digits_lt}
use lib.Dec.{T, eqb, T_not, eqb→eq, eqb_refl}
use lib.ListN.{get_or, get_or-map}
use lib.Seq.{get_or-take}
use Rattle.theory.specs.Bounded.{any}
use Rattle.theory.specs.Table.{Table, cell_at}
use Rattle.theory.specs.Checks.{declared}
use Rattle.theory.specs.Valid.{Valid}
use Rattle.theory.proofs.Tests.{and_left, and_right, and_both, test}
use Rattle.theory.proofs.Bounded.{any_at, at-any}
use Rattle.theory.proofs.Table.{table-narrow}
use Rattle.text.specs.Roles.{has_role}
use Rattle.text.specs.Reading.{Signal, Reading, table_read}
use Rattle.text.specs.Writing.{name_of}
use Rattle.text.specs.Lookup.{nobody, declares}
use Rattle.text.proofs.Roles.{roles_at, no_role, some_role}
use Rattle.roundtrip.specs.RoundTrip.{ReadAgain}
use Rattle.roundtrip.proofs.Names.{place-name}
use Rattle.roundtrip.proofs.Declarations.{number_in, Numbered}
use Rattle.roundtrip.proofs.Trip.{Copy}

module _ (t : Table) (names final : List (List ℕ)) (n : Numbered t names final) (st : Reading) (c : Copy t names final st) where
  pub copy_declares : (a : ℕ) → T (declared t a) → T (declares st (number_in names final a))
  copy_declares a d = subst (λ p. T (some_role p)) (sym (c.roles a d)) d

  pub copy_name : (a : ℕ) → T (declared t a) → (get_or st.signals (number_in names final a) nobody).name ≡ name_of names a
  copy_name a d =
      sym (get_or-map (λ s. s.name) st.signals (number_in names final a) nobody) ∙ ap (λ l. get_or l (number_in names final a) []) c.listed
      ∙ place-name (name_of names a) final (n.within a d)

  -- A declared number is that of a signal.
  copy_only : (b : ℕ) → T (declares st b) → (a : ℕ) × T (declared t a) × (number_in names final a ≡ b)
  copy_only b d = elim (test (any 32 f)) [
    | inl u ↦
        let (a, _, e) = any_at 32 f u in
        (a, and_left (declared t a) _ e, eqb→eq (number_in names final a) b (and_right (declared t a) _ e))
    | inr u ↦
        let none : roles_at st.header b ≡ no_role = c.others b (λ a h e. T_not (any 32 f) u
        (at-any 32 f a (table-narrow t a h) (and_both (declared t a) (eqb (number_in names final a) b) h (rw e (eqb_refl b))))) in
        absurd (subst (λ p. T (some_role p)) none d)
  ]
    where
      f : ℕ → Bool
      f a = declared t a && eqb (number_in names final a) b

  copy_cell : (s b : ℕ) → s < t.header.states → b < 32 → cell_at (table_read st) s b ≡ get_or st.cells (s * 32 + b) 65535
  copy_cell s b h l = get_or-take (st.header.states * 32) st.cells (s * 32 + b) 65535 (rw c.states (digits_lt h l))

  pub copy_again : Valid (table_read st) → (find : ℕ → Signal) (refusal number : ℕ → ℕ) → ((a : ℕ) → T (declared t a) → number a ≡ number_in names final a)
      → ((a : ℕ) → T (declared t a) → ((find (number a)).name ≡ name_of names a) × (refusal (number a) ≡ 0)) → ReadAgain t names st find refusal number
  copy_again valid find refusal number e found = record {
    valid = valid;
    same = record {
      states = c.states;
      initial = c.initial;
      name = λ a d. (found a d).0;
      roles = λ r a d. ap (has_role r st.header) (e a d) ∙ ap (λ p. p r) (c.roles a d);
      only = λ b d. let (a, h, f) = copy_only b d in (a, h, e a h ∙ f);
      steps = λ s a h d.
          ap (cell_at (table_read st) s) (e a d) ∙ copy_cell s (number_in names final a) h (omega (arith, n.within a d, n.few)) ∙ c.cells (s, a) (h, d);
      no_others = λ s b h l m. copy_cell s b h l ∙ c.blank (s * 32 + b) (λ k g f.
          let q : number_in names final k.1 < 32 = omega (arith, n.within k.1 g.1, n.few) in
          let p : number_in names final k.1 ≡ b = omega arith in
          m (rw p at (copy_declares k.1 g.1)));
    };
    found = λ a d. (found a d).1;
  }
