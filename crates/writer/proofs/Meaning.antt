-- What a caller may conclude from replies and lent bytes of the writer, for all arguments.
use mathlib.Core.Path.{◌≡◌, refl, sym, ap, ◌∙◌}
use mathlib.Core.List.{List, [], ◌∷◌}
use Prim.Native.Nat.{ℕ, ◌≤◌}
use native.Mathlib.Omega.{arith}
use Rattle.std.specs.Prelude.{Result, Ok, Err, is_ok}
use lib.ListN.{length, take}
use Rattle.theory.specs.Refusals.{Refusal}
use Rattle.theory.specs.Table.{Table}
use Rattle.theory.specs.Checks.{first, unless_refused, table_checks}
use Rattle.theory.specs.Locations.{LocatedIn}
use Rattle.theory.specs.Valid.{Valid}
use Rattle.theory.proofs.Checks.{first_part, checks_valid}
use Rattle.theory.proofs.Locations.{one-located, reply_refuses}
use Rattle.text.specs.Writing.{text_length, writer_checks, writer_bytes, SameWriting}
use Rattle.text.proofs.Written.{same-texts, same_checks, enough_room, written-text}
use Rattle.writer.specs.Contract.{writer_reply}
use Rattle.writer.proofs.Replies.{accepted_of}

pub write_located : (t : Table) (name : List ℕ) (names : List (List ℕ)) (room : ℕ) (r : Refusal) → writer_reply t name names room ≡ Err r
    → LocatedIn (t ∷ []) r
unfolding writer_reply writer_checks
write_located t name names room r =
    reply_refuses _ (writer_checks t name names room) (one-located t _ tt) is_ok _ _ r tt (λ t. t) (λ s e. cc)

-- ---- equal tables, names and numbering (02, S-3)

text-valid : (t : Table) (name : List ℕ) (names : List (List ℕ)) (room : ℕ) → first (writer_checks t name names room) ≡ Ok tt → Valid t
unfolding writer_checks
text-valid t name names room e = (checks_valid 1 t).0 (first_part (table_checks 1 t) _ e).0

module _ (t : Table) (name : List ℕ) (names : List (List ℕ)) (u : Table) (name' : List ℕ) (names' : List (List ℕ))
    (w : SameWriting t name names u name' names') where
  length-same : Valid t → text_length t name names ≡ text_length u name' names'
  unfolding text_length
  length-same valid = ap length (same-texts t name names u name' names' w valid)

  -- Two calls with as much room have equal replies, refusals too.
  pub write_same_reply : (room : ℕ) → writer_reply t name names room ≡ writer_reply u name' names' room
  unfolding writer_reply
  write_same_reply room = go (first (writer_checks t name names room)) refl ∙ rw (same_checks t name names u name' names' w room)
    where
      go : (k : Result (Unit {0}) Refusal) → first (writer_checks t name names room) ≡ k
          → unless_refused k Err (Ok (text_length t name names)) ≡ unless_refused k Err (Ok (text_length u name' names'))
      go (Ok u) e = ap Ok (length-same (text-valid t name names room e))
      go (Err r) e = refl

  -- If one call writes, the other does with any room for the text, and leaves the same one.
  pub write_same_text : (bytes other : List ℕ) (n : ℕ) → writer_reply t name names (length bytes) ≡ Ok n → n ≤ length other
      → (writer_reply u name' names' (length other) ≡ Ok n)
      × (take n (writer_bytes u name' names' other) ≡ take n (writer_bytes t name names bytes))
  unfolding writer_reply
  write_same_text bytes other n e h =
      let (ok, long) = accepted_of (first (writer_checks t name names (length bytes))) _ n e in
      let valid = text-valid t name names (length bytes) ok in
      let long' : text_length u name' names' ≡ n = sym (length-same valid) ∙ long in
      let ok' : first (writer_checks u name' names' (length other)) ≡ Ok tt =
      sym (same_checks t name names u name' names' w (length other)) ∙ enough_room t name names (length bytes) (length other) ok (omega arith) in (
        rw ok' (ap Ok long'),
        written-text u name' names' other ok' n long' ∙ sym (same-texts t name names u name' names' w valid) ∙ sym (written-text t name names bytes ok n long),
      )
