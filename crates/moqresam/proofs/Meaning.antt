-- The place in the replies of the C calls, for all arguments.
use mathlib.Core.Path.{◌≡◌, refl, sym}
use mathlib.Core.List.{List, [], ◌∷◌}
use Prim.Native.Nat.{ℕ, ◌≤◌}
use native.Mathlib.Omega.{arith}
use mathlib.Core.Bool.{Bool}
use lib.ListN.{length}
use Rattle.std.specs.Prelude.{Option, Some, None, Result, Ok, Err}
use Rattle.theory.specs.Refusals.{Refusal}
use Rattle.theory.specs.declared.Rule.{Rule}
use Rattle.theory.specs.Rules.{rule_number}
use Rattle.theory.specs.Table.{Table}
use Rattle.theory.specs.Checks.{Place, at_cell, refusal}
use Rattle.theory.specs.Locations.{Located, of_table, of_five, of_six, nowhere, LocatedIn, LocatedAt}
use Rattle.table.specs.Statuses.{status_of, accepted_status}
use Rattle.table.specs.Contract.{follow_reply}
use Rattle.table.proofs.Meaning.{follow_located}
use Rattle.compatibility.specs.declared.Compatibility.{Compatibility}
use Rattle.compatibility.specs.Contract.{compatibility_reply}
use Rattle.compatibility.proofs.Meaning.{fit-located}
use Rattle.refinement.specs.Contract.{refinement_reply}
use Rattle.refinement.proofs.Meaning.{refine-located}
use Rattle.moqresam.specs.Contract.{fit_reply, refine_reply, monitor_reply, state_after}
use Rattle.moqresam.specs.Places.{of_fit, of_refine, of_follow, Placed}

-- Nothing is refused, so no cell is named.
nothing_placed : (P : Refusal → Type 0) → Placed P accepted_status
nothing_placed P = record {
  exactly = (λ t. absurd t, λ p. absurd (omega (arith, p.0)));
  otherwise = λ n. (refl, refl);
  located = λ l. absurd (omega arith);
}

-- A refusal at a cell, by a number from 1 to 6.
cell-placed : (P : Refusal → Type 0) (k : Rule) (i s a : ℕ) → 1 ≤ rule_number k → rule_number k ≤ 6 → P (refusal k i (at_cell s a))
    → Placed P (status_of (refusal k i (at_cell s a)))
cell-placed P k i s a low high p = record { exactly = (λ t. (low, high), λ p. tt); otherwise = λ n. absurd (n tt); located = λ l. (k, refl, p) }

-- A refusal at none, by a higher number.
none-placed : (P : Refusal → Type 0) (k : Rule) (i : ℕ) → 7 ≤ rule_number k → P (refusal k i None)
    → Placed P (status_of (refusal k i None))
none-placed P k i high p = record { exactly = (λ t. absurd t, λ p. absurd (omega (arith, p.1))); otherwise = λ n. (refl, refl); located = λ l. (k, refl, p) }

-- ---- any call whose refusals are located

no_cell : {s a : ℕ} → ¬ (None ≡ at_cell s a)
no_cell e = let z : ◌≡◌ {A = ℕ} 0 1 = cc in omega arith

module _ (five six : ℕ → Place → Type 0) (at_five : (i : ℕ) → ¬ five i None) (at-six : (i : ℕ) → ¬ six i None) where
  status_placed : (k : Rule) (i : ℕ) (l : Place) → Located five six (refusal k i l)
      → Placed (Located five six) (status_of (refusal k i l))
  status_placed k i (Some l) p = cell-placed (Located five six) k i s a (low p) (high p) p
    where
      s : ℕ
      s = l.state

      a : ℕ
      a = l.action

      low : Located five six (refusal k i (at_cell s a)) → 1 ≤ rule_number k
      low (of_table l h e) = l
      low (of_five e q) = omega arith
      low (of_six e q) = omega arith
      low (nowhere h e) = omega arith

      high : Located five six (refusal k i (at_cell s a)) → rule_number k ≤ 6
      high (of_table l h e) = omega arith
      high (of_five e q) = omega arith
      high (of_six e q) = omega arith
      high (nowhere h e) = absurd (no_cell (sym e))
  status_placed k i None p = none-placed (Located five six) k i (high p) p
    where
      high : Located five six (refusal k i None) → 7 ≤ rule_number k
      high (of_table l h e) = absurd (no_cell e)
      high (of_five e q) = absurd (at_five i q)
      high (of_six e q) = absurd (at-six i q)
      high (nowhere h e) = h

-- ---- the calls

module _ (p q : Table) where
  in_placed : (r : Refusal) → LocatedIn (p ∷ q ∷ []) r → Placed (LocatedIn (p ∷ q ∷ [])) (status_of r)
  in_placed r = status_placed _ _ (λ i x. no_cell x.2.at) (λ i x. no_cell x.2.at) r.rule r.table r.location

  pub fit-placed : (flags : List ℕ) → Placed (LocatedIn (p ∷ q ∷ [])) (of_fit (fit_reply (compatibility_reply p q (length flags))))
  fit-placed flags = go (compatibility_reply p q (length flags)) (fit-located p q flags)
    where
      go : (c : Result Compatibility Refusal) → ((r : Refusal) → c ≡ Err r → LocatedIn (p ∷ q ∷ []) r)
          → Placed (LocatedIn (p ∷ q ∷ [])) (of_fit (fit_reply c))
      go (Ok v) f = nothing_placed (LocatedIn (p ∷ q ∷ []))
      go (Err r) f = in_placed r (f r refl)

  pub refine-placed : (marks : List ℕ) → Placed (LocatedIn (p ∷ q ∷ [])) (of_refine (refine_reply (refinement_reply p q (length marks))))
  refine-placed marks = go (refinement_reply p q (length marks)) (refine-located p q marks)
    where
      go : (c : Result Bool Refusal) → ((r : Refusal) → c ≡ Err r → LocatedIn (p ∷ q ∷ []) r)
          → Placed (LocatedIn (p ∷ q ∷ [])) (of_refine (refine_reply c))
      go (Ok v) f = nothing_placed (LocatedIn (p ∷ q ∷ []))
      go (Err r) f = in_placed r (f r refl)

-- The follower, by value and as a record.
pub follow_placed : (t : Table) (s a : ℕ) → Placed (LocatedAt t s a) (of_follow (monitor_reply s (follow_reply t s a)))
follow_placed t s a = go (follow_reply t s a) (follow_located t s a)
  where
    go : (c : Result (Option ℕ) Refusal) → ((r : Refusal) → c ≡ Err r → LocatedAt t s a r) → Placed (LocatedAt t s a) (of_follow (monitor_reply s c))
    go (Ok (Some to)) f = nothing_placed (LocatedAt t s a)
    go (Ok None) f = nothing_placed (LocatedAt t s a)
    go (Err r) f = status_placed _ _ (λ i x. no_cell x.0) (λ i x. x) r.rule r.table r.location (f r refl)

-- The reply's state is the one that the record holds afterwards.
pub reply_state : (s : ℕ) (f : Result (Option ℕ) Refusal) → (monitor_reply s f).state ≡ state_after s f
reply_state s (Ok (Some to)) = refl
reply_state s (Ok None) = refl
reply_state s (Err r) = refl
