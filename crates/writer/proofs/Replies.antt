-- The writer's checks, the text, and the reply.
use mathlib.Core.Path.{◌≡◌, refl, sym, ap, ◌∙◌}
use mathlib.Core.Bool.{Bool, true, false, ◌||◌, cond, or-true}
use mathlib.Core.List.{List, ◌++◌, append_assoc}
use Prim.Native.Nat.{ℕ, min, ◌≤◌, ◌<◌}
use native.Mathlib.Decide.{dec_lt}
use native.Mathlib.Omega.{arith}
use lib.Dec.{ltb}
use Rattle.std.specs.Prelude.{None, Result, Ok, Err}
use lib.ListN.{length}
use borrow.Author.Tests.{lt-ltb, le-ltb}
use Rattle.theory.specs.Refusals.{Refusal}
use Rattle.theory.specs.Table.{declared_set, Table}
use Rattle.theory.specs.Checks.{first, unless_refused, table_checks, refusal}
use Rattle.theory.specs.Valid.{Valid}
use Rattle.theory.proofs.Checks.{first-refused, first-accepted, first_part, checks_valid}
use Rattle.text.specs.Writing.{whole_text, text_length, writer_checks, writer_bytes}
use Rattle.emit.specs.Buffer.{stored}
use Rattle.emit.proofs.Buffer.{stored_front}
use Rattle.names.specs.LentNames.{Named, name_checks}
use Rattle.names.proofs.Checks.{passed-named, passed-short}
use Rattle.writer.specs.Contract.{checks_before, length_check, print_reply, print_bytes, writer_reply}
use Rattle.theory.specs.declared.Rule.TheVariants as rule

-- ---- what a reply says of the checks

pub refused_of : (c : Result (Unit {0}) Refusal) (n : ℕ) (r : Refusal) → unless_refused c Err (Ok n) ≡ Err r → c ≡ Err r
refused_of (Ok u) n r e = absurd (let z : ◌≡◌ {A = ℕ} 0 1 = cc in omega arith)
refused_of (Err s) n r e = let z : s ≡ r = cc in ap Err z

pub accepted_of : (c : Result (Unit {0}) Refusal) (n k : ℕ) → unless_refused c Err (Ok n) ≡ Ok k → (c ≡ Ok tt) × (n ≡ k)
accepted_of (Ok u) n k e = (refl, cc)
accepted_of (Err s) n k e = absurd (let z : ◌≡◌ {A = ℕ} 0 1 = cc in omega arith)

module _ (t : Table) (name : List ℕ) (names : List (List ℕ)) where
  -- ---- all checks but 23

  pub before-refused : (k : Result (Unit {0}) Refusal) → k ≡ first (table_checks 1 t) → (r : Refusal) → k ≡ Err r → Err r ≡ first (checks_before t name names)
  unfolding checks_before
  before-refused k e r f = sym (first-refused (table_checks 1 t) (name_checks t.header name names) r (sym e ∙ f))

  pub before-accepted : (k : Result (Unit {0}) Refusal) → k ≡ first (table_checks 1 t) → (u : Unit {0}) → k ≡ Ok u → (r : Result (Unit {0}) Refusal) → r ≡ first (name_checks t.header name names)
      → r ≡ first (checks_before t name names)
  unfolding checks_before
  before-accepted k e u f r g = g ∙ sym (first-accepted (table_checks 1 t) (name_checks t.header name names) (sym e ∙ f))

  -- ---- 23, and the text

  abbrev text : List ℕ
  text = whole_text t name names

  module _ (out : List ℕ) (n : ℕ) (size : n ≡ text_length t name names) where
    -- The call is refused by 23, and the lent bytes are as they were.
    abbrev Refuses : Type 0
    Refuses =
        (r : Refusal) → r ≡ refusal rule.TextRoom 0 None
        → record { value : Err r ≡ print_reply t name names (length out); out_after : out ≡ print_bytes t name names out }

    long : ltb (length out) (text_length t name names) || ltb 65536 (text_length t name names) ≡ true → Refuses
    unfolding print_reply print_bytes length_check first
    long e r f = record { value = rw (e, f); out_after = rw e }

    -- The text has room for as many bytes as are lent, and for 65,536 at most.
    module _ (room : ℕ) (least : room ≡ min (length out) 65536) where
      pub print_long : room < n → Refuses
      print_long h = let m = text_length t name names in
          long (elim (dec_lt (length out) m) [
            | yes l ↦ rw (lt-ltb (length out) m l)
            | no g ↦ rw (lt-ltb 65536 m (omega arith), or-true (ltb (length out) m))
          ])

      pub print_fits : n ≤ room → (out' : List ℕ) → out' ≡ stored out 0 text
          → record { value : Ok n ≡ print_reply t name names (length out); out_after : out' ≡ print_bytes t name names out }
      unfolding print_reply print_bytes length_check first text_length
      print_fits h out' put =
          let short : ltb (length out) (length text) ≡ false = le-ltb (length out) (length text) (omega arith) in
          let small : ltb 65536 (length text) ≡ false = le-ltb 65536 (length text) (omega arith) in
          record { value = rw (short, small, size); out_after = rw (short, small) (put ∙ stored_front out text (omega arith)) }

  -- ---- the call

  split : (room : ℕ) → first (writer_checks t name names room) ≡ first (checks_before t name names ++ length_check t name names room)
  unfolding writer_checks checks_before name_checks length_check
  split room = ap first (sym (append_assoc (table_checks 1 t) (name_checks t.header name names) (length_check t name names room)))

  -- What is taken in some room is taken in the most that a text may have.
  pub room-grows : (room : ℕ) → first (writer_checks t name names room) ≡ Ok tt → first (writer_checks t name names 65536) ≡ Ok tt
  unfolding length_check first
  room-grows room e =
      let parts = first_part (checks_before t name names) (length_check t name names room) (sym (split room) ∙ e) in
      split 65536 ∙ first-accepted (checks_before t name names) (length_check t name names 65536) parts.0 ∙ grows parts.1
    where
      go : (x : Result (Unit {0}) Refusal) → (x ≡ Ok tt → ⊥) → (u v : Bool) → cond (u || v) x (Ok tt) ≡ Ok tt → cond (v || v) x (Ok tt) ≡ Ok tt
      go x never true v h = absurd (never h)
      go x never false true h = absurd (never h)
      go x never false false h = refl

      grows : first (length_check t name names room) ≡ Ok tt → first (length_check t name names 65536) ≡ Ok tt
      grows = go (Err (refusal rule.TextRoom 0 None)) (λ q. absurd (let z : ◌≡◌ {A = ℕ} 0 1 = cc in omega arith))
          (ltb room (text_length t name names)) (ltb 65536 (text_length t name names))

  module _ (k : Result (Unit {0}) Refusal) (checked : k ≡ first (checks_before t name names)) (bytes : List ℕ) where
    module _ (r : Refusal) (no : k ≡ Err r) where
      refused : first (writer_checks t name names (length bytes)) ≡ Err r
      refused = split (length bytes) ∙ first-refused (checks_before t name names) (length_check t name names (length bytes)) r (sym checked ∙ no)

      pub write_refused : Err r ≡ writer_reply t name names (length bytes)
      unfolding writer_reply
      write_refused = rw refused

      pub write_kept : bytes ≡ writer_bytes t name names bytes
      unfolding writer_bytes
      write_kept = rw refused

    module _ (u : Unit {0}) (yes : k ≡ Ok u) where
      pub write_valid : Valid t
      unfolding checks_before
      write_valid = (checks_valid 1 t).0 (first_part (table_checks 1 t) (name_checks t.header name names) (sym checked ∙ yes)).0

      pub write_named : Named (declared_set t.header) names
      unfolding checks_before
      write_named = passed-named t.header name names (first_part (table_checks 1 t) (name_checks t.header name names) (sym checked ∙ yes)).1

      pub write_short : length name ≤ 16
      unfolding checks_before
      write_short = passed-short t.header name names (first_part (table_checks 1 t) (name_checks t.header name names) (sym checked ∙ yes)).1

      only : first (writer_checks t name names (length bytes)) ≡ first (length_check t name names (length bytes))
      only = split (length bytes) ∙ first-accepted (checks_before t name names) (length_check t name names (length bytes)) (sym checked ∙ yes)

      pub write_printed : (x : Result ℕ Refusal) → x ≡ print_reply t name names (length bytes) → x ≡ writer_reply t name names (length bytes)
      unfolding writer_reply print_reply
      write_printed x e = rw only e

      pub write_text : (bytes' : List ℕ) → bytes' ≡ print_bytes t name names bytes → bytes' ≡ writer_bytes t name names bytes
      unfolding writer_bytes print_bytes
      write_text bytes' e = rw only e
