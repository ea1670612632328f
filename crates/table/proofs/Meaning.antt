-- What a caller may conclude from a refusal of judge, mirror or follower (02, S-2): it says where, for all arguments.
use Rattle.std.proofs.Common.{◌≡◌, ℕ, T, [], ◌∷◌, refl}
use Rattle.std.proofs.Math.Option as math
use Rattle.theory.specs.Refusals.{Refusal}
use Rattle.std.specs.Prelude.{Err, is_ok}
use Rattle.theory.specs.Table.{Table, automaton}
use Rattle.theory.specs.Checks.{first, table_checks, monitor_checks}
use Rattle.theory.specs.Locations.{LocatedIn, LocatedAt}
use Rattle.theory.proofs.Locations.{table-located, monitor_located, reply_refuses}
use Rattle.table.specs.Contract.{mirror_reply, follow_reply, moved}

module _ (t : Table) (r : Refusal) where
  pub judge_located : first (table_checks 1 t) ≡ Err r → LocatedIn (t ∷ []) r
  judge_located = table-located t (t ∷ []) 1 refl r

  pub mirror-located : mirror_reply t ≡ Err r → LocatedIn (t ∷ []) r
  unfolding mirror_reply
  mirror-located = reply_refuses _ (table_checks 1 t) (table-located t (t ∷ []) 1 refl) is_ok _ _ r tt (λ t. t) (λ s e. cc)

-- The 5 of the follower names its own cell.
moved_told : (o : math.Option ℕ) → T (is_ok (moved o))
moved_told math.none = tt
moved_told (math.some u) = tt

pub follow_located : (t : Table) (s a : ℕ) (r : Refusal) → follow_reply t s a ≡ Err r → LocatedAt t s a r
unfolding follow_reply
follow_located t s a r =
    reply_refuses _ (monitor_checks 1 t s a) (monitor_located 1 t s a) is_ok _ _ r (moved_told ((automaton t).next s a)) (λ t. t) (λ s e. cc)
