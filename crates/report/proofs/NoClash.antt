-- The writer never gives 28 for the names of two texts that were read (02, S-9): a reading that takes the texts takes no names that clash, and a number
-- that no signal has gets an empty name, which is refused before.
use mathlib.Core.Path.{◌≡◌, refl, ap, subst, ◌∙◌}
use mathlib.Core.Logic.{inl, inr}
use mathlib.Core.Bool.{Bool, true, false, not, ◌&&◌, cond}
use mathlib.Core.List.{List, [], ◌∷◌}
use Prim.Native.Nat.{ℕ, ◌+◌, ◌<◌}
use native.Mathlib.Omega.{arith}
use native.Mathlib.Decide.{dec_lt}
use lib.Dec.{T, eqb}
use lib.ListN.{length, get_or, get_or-eq_default}
use borrow.Author.Tests.{eq-eqb}
use Rattle.std.specs.Prelude.{Err}
use Rattle.theory.specs.Refusals.{Refusal}
use Rattle.theory.specs.Table.{Table}
use Rattle.theory.specs.Checks.{Check, refuse_at, first, Passes, declared, table_checks}
use Rattle.theory.proofs.Bounded.{any_at, at-any, get_d_tabulate}
use Rattle.theory.proofs.Tests.{and_left, and_right, and_both, test}
use Rattle.text.specs.declared.Spelling.TheVariants.{Folded}
use Rattle.text.specs.Fields.{name_ok, matches}
use Rattle.text.specs.Reading.{Reading, both, read_both}
use Rattle.text.specs.Lookup.{nobody}
use Rattle.text.specs.Writing.{name_of, misnamed, ambiguous, text_length, writer_checks}
use Rattle.text.proofs.Names.{match_sym}
use Rattle.text.proofs.Archive.{unlike-both}
use Rattle.writer.specs.Contract.{writer_reply}
use Rattle.report.specs.SignalNames.{signal_names}
use Rattle.report.proofs.Texts.{refused_by}
use Rattle.theory.specs.Rules.{rule_number}

-- ---- the first check that applies

-- Where the number is asked for, the check does not apply.
abbrev Asked : Bool → Type 0 → Type 0 → Type 0
Asked true passes later = passes × later
Asked false passes later = later

-- No check with this number applies where none before it does.
abbrev NeverFirst : ℕ → List Check → Type 0
NeverFirst n [] = Unit {0}
NeverFirst n (c ∷ l) = Asked (eqb (rule_number c.rule) n) (Passes c) (Passes c → NeverFirst n l)

never-refused : (n : ℕ) (l : List Check) → NeverFirst n l → (r : Refusal) → first l ≡ Err r → ¬ (rule_number r.rule ≡ n)
unfolding first
never-refused n [] w r e = absurd (cc)
never-refused n (c ∷ l) w r e = go c.applies (eqb (rule_number c.rule) n) refl w (λ v. never-refused n l v r) e
  where
    go : (b v : Bool) → eqb (rule_number c.rule) n ≡ v → Asked v (¬ T b) (¬ T b → NeverFirst n l) → (NeverFirst n l → first l ≡ Err r → ¬ (rule_number r.rule ≡ n))
        → cond b (refuse_at c.rule c.table c.location) (first l) ≡ Err r → ¬ (rule_number r.rule ≡ n)
    go true true f w rest e q = w.0 tt
    go true false f w rest e q =
        let g : rule_number c.rule ≡ n = (let h : c.rule ≡ r.rule = cc in ap rule_number h) ∙ q in
        absurd (let k = eq-eqb (rule_number c.rule) n g in cc)
    go false true f w rest e q = rest (w.1 (λ t. t)) e q
    go false false f w rest e q = rest (w (λ t. t)) e q

-- ---- the names of signals that were read

module _ (cm cp : ℕ) (m p : List ℕ) (x y : Reading) (read : read_both Folded cm m cp p ≡ both x y) where
  abbrev names : List (List ℕ)
  names = signal_names y.signals

  name_of_lem : (a : ℕ) → a < 32 → name_of names a ≡ (get_or y.signals a nobody).name
  unfolding signal_names
  name_of_lem a h = get_d_tabulate (λ a. (get_or y.signals a nobody).name) 0 32 a [] h ∙ rw (let z : 0 + a ≡ a = omega arith in z)

  -- What keeps the name rule is the name of a signal.
  known-number : (a : ℕ) → T (name_ok (get_or y.signals a nobody).name) → a < length y.signals
  unfolding name_ok
  known-number a t = elim (dec_lt a (length y.signals)) [
    | yes h ↦ h
    | no h ↦ absurd (subst (λ s. T (name_ok s.name)) (get_or-eq_default y.signals nobody (omega arith)) t)
  ]

  module _ (t : Table) (name : List ℕ) where
    names-told : ¬ T (misnamed t name names) → ¬ T (ambiguous t name names Folded)
    names-told right wrong =
        let (a, h, u) = any_at 32 _ wrong in
        let (b, k, v) = any_at a _ u in
        let both-declared = and_left (declared t a && declared t b) _ v in
        let here = known-number a (ruled a h (and_left (declared t a) (declared t b) both-declared)) in
        let unlike = (unlike-both cm m cp p x y read).1 b a k here in
        let alike = subst T (ap (λ n. matches Folded n (name_of names b)) (name_of_lem a h) ∙ ap (matches Folded (get_or y.signals a nobody).name) (name_of_lem b (omega arith)))
        (and_right (declared t a && declared t b) (matches Folded (name_of names a) (name_of names b)) v) in
        subst T (match_sym Folded (get_or y.signals a nobody).name (get_or y.signals b nobody).name ∙ unlike) alike
      where
        ruled : (a : ℕ) → a < 32 → T (declared t a) → T (name_ok (get_or y.signals a nobody).name)
        ruled a h d = elim (test (name_ok (get_or y.signals a nobody).name)) [
          | inl k ↦ k
          | inr n ↦ absurd (right (at-any 32 _ a h (and_both (declared t a) (not (name_ok (name_of names a))) d (rw (name_of_lem a h) n))))
        ]

    -- Of a sequencer, or of any table with signals of the two texts, the writer gives no 28.
    pub never_28 : (room : ℕ) (r : Refusal) → first (writer_checks t name names room) ≡ Err r → ¬ (rule_number r.rule ≡ 28)
    unfolding writer_checks table_checks
    never_28 room r = never-refused 28 (writer_checks t name names room) (λ _ _ _ _ _ _ _ right _. (names-told right, λ _ _. tt)) r

    -- No reply of the writer has 28 either.
    pub reply_never_28 : (room : ℕ) (r : Refusal) → writer_reply t name names room ≡ Err r → ¬ (rule_number r.rule ≡ 28)
    unfolding writer_reply
    reply_never_28 room r e = never_28 room r (refused_by (text_length t name names) (first (writer_checks t name names room)) r e)
