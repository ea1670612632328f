-- The text of the sequencer behind the six lines, or the refusal in place of all.
use mathlib.Core.Path.{◌≡◌, refl, sym, ap, ◌∙◌}
use mathlib.Core.List.{List, ◌++◌}
use Prim.Native.Nat.{ℕ, ◌-◌, ◌≤◌}
use native.Mathlib.Omega.{arith}
use lib.ListN.{length, take, drop, length-append, length-drop}
use lib.Seq.{take-append_seam}
use Rattle.std.specs.Prelude.{Result, Ok, Err}
use Rattle.theory.specs.Refusals.{Refusal}
use Rattle.theory.specs.Table.{Table}
use Rattle.theory.specs.Checks.{first, unless_refused}
use Rattle.text.specs.Writing.{whole_text, text_length, writer_checks, writer_bytes}
use Rattle.emit.specs.Buffer.{stored, after}
use Rattle.report.proofs.Lines.{Prints}
use Rattle.writer.specs.Contract.{writer_reply}
use Rattle.writer.proofs.Replies.{room-grows}
use Rattle.report.specs.SignalNames.{sequencer_word}
use Rattle.report.specs.Report.{text_checks, with_text}
use Rattle.report.specs.Parts.{Answers}

-- ---- what an answer says of the checks

module _ {A : Type 0} (a : A) where
  pub refused_by : (c : Result (Unit {0}) Refusal) (r : Refusal) → unless_refused c Err (Ok a) ≡ Err r → c ≡ Err r
  refused_by (Ok tt) r e = absurd (cc)
  refused_by (Err s) r e = let z : s ≡ r = cc in rw z

  pub accepted_by : (c : Result (Unit {0}) Refusal) (b : A) → unless_refused c Err (Ok a) ≡ Ok b → (c ≡ Ok tt) × (a ≡ b)
  accepted_by (Ok tt) b e = (refl, cc)
  accepted_by (Err s) b e = absurd (cc)

module _ (text out out' : List ℕ) (c : Result (Unit {0}) Refusal) where
  pub answered : (e : ℕ) → Answers c text out (Ok e) out' → (c ≡ Ok tt) × (e ≡ after (length out) 0 text) × (out' ≡ stored out 0 text)
  answered e w =
      let (taken, ends) = accepted_by (after (length out) 0 text) c e (sym w.answers) in
      (taken, sym ends, rw taken at w.stands)

  pub declined : (r : Refusal) → Answers c text out (Err r) out' → (c ≡ Err r) × (out' ≡ out)
  declined r w = let refuses = refused_by (after (length out) 0 text) c r (sym w.answers) in (refuses, rw refuses at w.stands)

-- ---- a text in some room

module _ (names : List (List ℕ)) (t : Table) (bytes : List ℕ) (k : Result ℕ Refusal) (lent : k ≡ writer_reply t sequencer_word names (length bytes)) (room : ℕ) (size : length bytes ≡ room) where
  abbrev checked : Result (Unit {0}) Refusal
  checked = first (writer_checks t sequencer_word names room)

  replied : k ≡ unless_refused checked Err (Ok (text_length t sequencer_word names))
  unfolding writer_reply
  replied = rw size at lent

  pub text-refused : (text : List ℕ) (r : Refusal) → k ≡ Err r → (out : List ℕ) → Answers checked text out (Err r) out
  text-refused text r q out =
      let c : checked ≡ Err r = refused_by (text_length t sequencer_word names) checked r (sym replied ∙ q) in
      record { answers = rw c; stands = rw c }

  module _ (bytes' : List ℕ) (written : bytes' ≡ writer_bytes t sequencer_word names bytes) (n : ℕ) (fits : k ≡ Ok n) where
    accepted : (checked ≡ Ok tt) × (text_length t sequencer_word names ≡ n)
    accepted = accepted_by (text_length t sequencer_word names) checked n (sym replied ∙ fits)

    abbrev text : List ℕ
    text = whole_text t sequencer_word names

    long : length text ≡ n
    unfolding text_length
    long = accepted.1

    whole : bytes' ≡ text ++ drop n bytes
    unfolding writer_bytes
    whole = rw (size, accepted.0, accepted.1) at written

    pub text-within : length bytes' ≡ length bytes → n ≤ length bytes'
    text-within e = omega (arith, ap length whole, length-append text (drop n bytes), length-drop n bytes, long)

    pub text_follows : (six out : List ℕ) (e : ℕ) (out' : List ℕ) → Prints out 0 (six ++ take (n - 0) bytes') e out'
        → Answers checked (with_text names t six) out (Ok e) out'
    text_follows six out e out' w =
        let z : n - 0 ≡ length text = omega (arith, long) in
        let part : take (n - 0) bytes' ≡ text = rw (z, whole) (take-append_seam text (drop n bytes)) in
        let v = rw part at w in
        record { answers = rw accepted.0 (ap Ok v.value); stands = rw accepted.0 v.out_after }

-- ---- a text in some room, or in the most that it may have

module _ (names : List (List ℕ)) (t : Table) (room : ℕ) (text out : List ℕ) where
  abbrev In : ℕ → List ℕ → Result ℕ Refusal → List ℕ → Type 0
  In room = Answers (first (writer_checks t sequencer_word names room)) text

  pub made_in_room : (e : ℕ) (out' : List ℕ) → In room out (Ok e) out' → Answers (first (text_checks names t)) text out (Ok e) out'
  unfolding text_checks
  made_in_room e out' w =
      let c = (answered text out out' _ e w).0 in
      let d = room-grows t sequencer_word names room c in
      record { answers = rw d (rw c at w.answers); stands = rw d (rw c at w.stands) }

  pub made_in_most : (r : Refusal) (mid : List ℕ) → In room out (Err r) mid → (answer : Result ℕ Refusal) (out' : List ℕ) → In 65536 mid answer out'
      → Answers (first (text_checks names t)) text out answer out'
  unfolding text_checks
  made_in_most r mid w answer out' v = rw (declined text out mid _ r w).1 at v
