-- The lines that the writer prints: each is cut into its fields again, and says what it should.
use mathlib.Core.Path.{◌≡◌, refl, ◌∙◌}
use mathlib.Core.Bool.{true, not, ◌&&◌}
use mathlib.Core.List.{List, [], ◌∷◌}
use Prim.Native.Nat.{ℕ, ◌≤◌, ◌<◌}
use native.Mathlib.Omega.{arith}
use native.Mathlib.Decide.{dec_lt}
use lib.Dec.{T, not_T, nltb→le}
use lib.ListN.{length}
use borrow.Author.Tests.{not-false}
use Rattle.std.specs.Prelude.{Ok}
use Rattle.theory.specs.Table.{Table, cell_at}
use Rattle.theory.specs.Checks.{first, declared, table_checks}
use Rattle.theory.specs.Valid.{Valid}
use Rattle.theory.proofs.Tests.{is_false, or_right, and_both}
use Rattle.theory.proofs.Bounded.{at-any}
use Rattle.theory.proofs.Table.{table-narrow}
use Rattle.theory.proofs.Checks.{passed_first, first_part, checks_valid}
use Rattle.text.specs.declared.Place.{Place}
use Rattle.text.specs.declared.Place.TheVariants.{Head, Declarations}
use Rattle.text.specs.declared.Role.{Role}
use Rattle.text.specs.declared.Role.TheVariants.{Input, Output}
use Rattle.text.specs.declared.Spelling.{Spelling}
use Rattle.text.specs.declared.Spelling.TheVariants.{Exact, Folded}
use Rattle.text.specs.Fields.{upto, matches, name_ok, number_ok, value}
use Rattle.text.specs.Lines.{table, declaration, step, table_word, role_word, step_word, takes_step, by_kind, table_line, declaration_line, step_line}
use Rattle.text.specs.Roles.{role_of}
use Rattle.text.specs.Writing.{decimal, name_of, table_row, signal_row, step_row, text_length, ambiguous, writer_checks}
use Rattle.text.proofs.Decimal.{decimal_ok, decimal-value}
use Rattle.text.proofs.Names.{match_self, match_sym}
use Rattle.roundtrip.proofs.Lines.{Field, name_field, number_field, Plain, plain-last, plain_cons}

-- ---- what the writer takes

pub record Writable (t : Table) (name : List ℕ) (names : List (List ℕ)) : Type 0 where
  pub valid : Valid t
  pub titled : name_ok name ≡ true
  pub named : (a : ℕ) → T (declared t a) → name_ok (name_of names a) ≡ true
  pub apart : (c : Spelling) (a b : ℕ) → T (declared t a) → T (declared t b) → matches c (name_of names a) (name_of names b) ≡ true → a ≡ b
  pub short : text_length t name names ≤ 65536

pub writable : (t : Table) (name : List ℕ) (names : List (List ℕ)) (room : ℕ) → first (writer_checks t name names room) ≡ Ok tt → Writable t name names
unfolding writer_checks
writable t name names room e =
    let (c, d) = first_part (table_checks 1 t) _ e in
    let (titled, (misnamed, (equal, (clashing, (too_long, _))))) = (passed_first _).0 d in
    let clear : (c : Spelling) → ¬ T (ambiguous t name names c) = λ c. elim c as (λ c. ¬ T (ambiguous t name names c)) [ Exact ↦ equal | Folded ↦ clashing ] in
    let unlike : (c : Spelling) (a b : ℕ) → b < a → T (declared t a) → T (declared t b) → ¬ (matches c (name_of names a) (name_of names b) ≡ true) =
    λ c a b l h k q.
    clear c (at-any 32 _ a (table-narrow t a h) (at-any a _ b l (and_both (declared t a && declared t b) _ (and_both (declared t a) _ h k)
    (rw q tt)))) in
    record {
      valid = (checks_valid 1 t).0 c;
      titled = not-false (name_ok name) (is_false (not (name_ok name)) titled);
      named = λ a h. not-false (name_ok (name_of names a)) (is_false (not (name_ok (name_of names a))) (λ n. misnamed (at-any 32 _ a (table-narrow t a h) (and_both (declared t a) _ h n))));
      apart = λ c a b h k q. elim (dec_lt b a) [
        | yes l ↦ absurd (unlike c a b l h k q)
        | no g ↦ elim (dec_lt a b) [ yes l ↦ absurd (unlike c b a l k h (match_sym c (name_of names b) (name_of names a) ∙ q)) | no f ↦ omega arith ]
      ];
      short = search (nltb→le, not_T, or_right);
    }

-- Two signals do not have the same name.
pub apart-names : {t : Table} {name : List ℕ} {names : List (List ℕ)} → Writable t name names → (a b : ℕ) → T (declared t a) → T (declared t b) → name_of names a ≡ name_of names b
    → a ≡ b
apart-names {names = names} w a b h k e = w.apart Exact a b h k (rw e (match_self Exact (name_of names b)))

-- ---- the entries of lines

number-two : (a b : ℕ) → a ≤ 65535 → b ≤ 65535 → (number_ok (decimal a) && number_ok (decimal b)) ≡ true
number-two a b h k = rw (decimal_ok a h, decimal_ok b k)

kind_table : (n a b : List ℕ) → name_ok n ≡ true → (number_ok a && number_ok b) ≡ true → by_kind Head (table_word ∷ n ∷ a ∷ b ∷ []) ≡ table (value a) (value b)
unfolding by_kind table_line matches
kind_table n a b h k = rw (h, k)

kind_declaration : (r : Role) (n : List ℕ) → name_ok n ≡ true → by_kind Declarations (role_word r ∷ n ∷ []) ≡ declaration r n
unfolding by_kind declaration_line matches
kind_declaration Input n h = rw h
kind_declaration Output n h = rw h

kind_step : (p : Place) (a n b : List ℕ) → takes_step p ≡ true → name_ok n ≡ true → (number_ok a && number_ok b) ≡ true
    → by_kind p (step_word ∷ a ∷ n ∷ b ∷ []) ≡ step (value a) n (value b)
unfolding by_kind step_line matches
kind_step p a n b e h k = rw (e, h, k)

-- ---- the rows of a table

word : (s : List ℕ) → upto 9 s ≡ length s → upto 10 s ≡ length s → Field s
word s e f = record { tab = e; feed = f }

role_field : (r : Role) → Field (role_word r)
unfolding upto
role_field Input = word (role_word Input) refl refl
role_field Output = word (role_word Output) refl refl

module _ (t : Table) (name : List ℕ) (names : List (List ℕ)) (w : Writable t name names) where
  pub table-plain : Plain (table_row t name)
  unfolding table_row upto
  table-plain =
      plain_cons _ _ _ (word table_word refl refl) (plain_cons _ _ _ (name_field name w.titled)
      (plain_cons _ _ _ (number_field t.header.states (omega (arith, w.valid.few_states)))
      (plain-last _ (number_field t.header.initial (omega (arith, w.valid.few_states, w.valid.initial))))))

  pub table-entry : by_kind Head (table_row t name) ≡ table t.header.states t.header.initial
  unfolding table_row
  table-entry =
      let s : t.header.states ≤ 65535 = omega (arith, w.valid.few_states) in
      let i : t.header.initial ≤ 65535 = omega (arith, w.valid.initial) in
      rw (
        kind_table name (decimal t.header.states) (decimal t.header.initial) w.titled (number-two t.header.states t.header.initial s i),
        decimal-value t.header.states s,
        decimal-value t.header.initial i,
      )

  module _ (a : ℕ) (d : T (declared t a)) where
    pub signal-plain : Plain (signal_row t names a)
    unfolding signal_row
    signal-plain = plain_cons _ _ _ (role_field (role_of t.header a)) (plain-last _ (name_field (name_of names a) (w.named a d)))

    pub signal-entry : by_kind Declarations (signal_row t names a) ≡ declaration (role_of t.header a) (name_of names a)
    unfolding signal_row
    signal-entry = kind_declaration (role_of t.header a) (name_of names a) (w.named a d)

    module _ (s : ℕ) (h : s < t.header.states) (k : cell_at t s a < t.header.states) where
      from-small : s ≤ 65535
      from-small = omega (arith, w.valid.few_states)

      to-small : cell_at t s a ≤ 65535
      to-small = omega (arith, w.valid.few_states)

      pub step-plain : Plain (step_row t names s a)
      unfolding step_row upto
      step-plain =
          plain_cons _ _ _ (word step_word refl refl) (plain_cons _ _ _ (number_field s from-small)
          (plain_cons _ _ _ (name_field (name_of names a) (w.named a d)) (plain-last _ (number_field (cell_at t s a) to-small))))

      pub step-entry : (p : Place) → takes_step p ≡ true → by_kind p (step_row t names s a) ≡ step s (name_of names a) (cell_at t s a)
      unfolding step_row
      step-entry p e =
          rw (
            kind_step p (decimal s) (name_of names a) (decimal (cell_at t s a)) e (w.named a d) (number-two s (cell_at t s a) from-small to-small),
            decimal-value s from-small,
            decimal-value (cell_at t s a) to-small,
          )
