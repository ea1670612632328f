-- Laws of the judgement on a name and two numbers, and of what follows the kind of a line.
use mathlib.Core.Path.{◌≡◌, refl, sym, ap, ◌∙◌}
use mathlib.Core.Bool.{Bool, true, false, ◌&&◌, cond, and-false}
use mathlib.Core.List.{List, [], ◌∷◌}
use Prim.Native.Nat.{ℕ, ◌+◌, ◌-◌}
use native.Mathlib.Omega.{arith}
use lib.Dec.{eqb}
use lib.ListN.{length, take, drop, length-drop}
use lib.Seq.{length-take-le}
use Rattle.text.specs.declared.Place.{Place}
use Rattle.text.specs.declared.Role.{Role}
use Rattle.std.specs.Prelude.{Option, Some, None, Result, Ok, Err, IsErrAnd}
use Rattle.std.proofs.lemmas.Result.{err_from_is_err_and}
use Rattle.std.specs.List.{list_any}
use Rattle.text.specs.Fields.{split, upto, name_ok, value, number_ok, number}
use Rattle.text.specs.Lines.{Entry, table, step, refused, judged, takes_table, takes_declaration, takes_step, table_line, declaration_line, step_line}
use Rattle.text.proofs.Split.{upto_le, split-last, split-cut, split-some}
use Rattle.lines.proofs.Bytes.{beyond, beyond-is, contains_some, contains_none}
use Rattle.lines.proofs.NumberRule.{reply_value, reply_bad}
use Rattle.lines.specs.Located.{placed, is_three, three_fields, judgement}
use Rattle.lines.specs.declared.Record.TheVariants.{Table, Declaration, Step}
use Rattle.lines.specs.declared.Record.{Record}
use Rattle.lines.proofs.ThreeFields.{not_three, three-at}
use Rattle.theory.specs.declared.Rule.TheVariants as rule
use Rattle.theory.specs.declared.Rule.{Rule}

-- ---- judge

module _ (place : Bool) (n x y : List ℕ) where
  pub judge_place : place ≡ false → Err rule.LineOrder ≡ judgement place n x y
  unfolding judgement
  judge_place h = simp h

  module _ (p : place ≡ true) (q : Bool) (m : q ≡ name_ok n) where
    pub judge_name : q ≡ false → Err rule.NameForm ≡ judgement place n x y
    unfolding judgement
    judge_name g = simp (p, ← m, g)

    module _ (g : q ≡ true) (r r' : Option ℕ) (e : r ≡ number x) (e' : r' ≡ number y) where
      pub judge_first : r ≡ None → Err rule.NumberForm ≡ judgement place n x y
      unfolding judgement
      judge_first h = simp (p, ← m, g, reply_bad x r e h)

      pub judge_second : r' ≡ None → Err rule.NumberForm ≡ judgement place n x y
      unfolding judgement
      judge_second h = simp (p, ← m, g, reply_bad y r' e' h, and-false)

      pub judge_good : (a b : ℕ) → r ≡ Some a → r' ≡ Some b → Ok (a, b) ≡ judgement place n x y
      unfolding judgement
      judge_good a b h h' =
          let u = reply_value x r e a h in
          let v = reply_value y r' e' b h' in
          simp (p, ← m, g, u.0, u.1, v.0, v.1)

-- The reply that a judgement leads to, where f is what the fields say.
replied : ℕ → (ℕ → ℕ → Entry) → Result (ℕ × ℕ) Rule → Result Record Rule
replied a f (Ok v) = placed a (f v.0 v.1)
replied a f (Err k) = Err k

judged_reply : (a : ℕ) (f : ℕ → ℕ → Entry) (place : Bool) (n x y : List ℕ)
    → replied a f (judgement place n x y) ≡ placed a (judged place (name_ok n) (number_ok x && number_ok y) (f (value x) (value y)))
unfolding judgement replied
judged_reply a f place n x y = go place (name_ok n) (number_ok x && number_ok y)
  where
    go : (b c d : Bool) → replied a f (cond b (cond c (cond {A = Result (ℕ × ℕ) Rule} d (Ok (value x, value y)) (Err rule.NumberForm)) (Err rule.NameForm)) (Err rule.LineOrder))
        ≡ placed a (judged b c d (f (value x) (value y)))
    go true true true = refl
    go true true false = refl
    go true false d = refl
    go false c d = refl

-- What an exit by `?` returns.
pub is_err_of : {T : Type 0} (o : Result T Rule) (k : Rule) → IsErrAnd o (λ y. y ≡ k) → o ≡ Err k
is_err_of o k i = let p = err_from_is_err_and o i in p.1 ∙ ap Err p.2

-- The second of three fields of s.
abbrev pub second_field : List ℕ → ℕ → ℕ → List ℕ
second_field s first second = take (second - (first + 1)) (drop (first + 1) s)

fields-at : (s : List ℕ) (r : Option (ℕ × ℕ)) (first second : ℕ) → r ≡ three_fields s → r ≡ Some (first, second)
    → split 9 s ≡ take first s ∷ second_field s first second ∷ beyond s (second + 1) ∷ []
fields-at s r first second e f = rw (beyond-is s (second + 1)) (three-at s r first second e f).fields

-- ---- the fields of a `table` line

table-count : (p : Place) (fs : List (List ℕ)) → is_three fs ≡ false → refused rule.LineForm ≡ table_line p fs
unfolding table_line
table-count p [] e = refl
table-count p (x ∷ []) e = refl
table-count p (x ∷ y ∷ []) e = refl
table-count p (x ∷ y ∷ z ∷ []) e = absurd (let o : ◌≡◌ {A = ℕ} 0 1 = cc in omega arith)
table-count p (x ∷ y ∷ z ∷ v ∷ fs) e = refl

module _ (s : List ℕ) (p : Place) (r : Option (ℕ × ℕ)) (e : r ≡ three_fields s) where
  pub table_other : r ≡ None → (a : ℕ) → Err rule.LineForm ≡ placed a (table_line p (split 9 s))
  table_other f a = ap (placed a) (table-count p (split 9 s) (not_three s r e f))

  module _ (first second : ℕ) (f : r ≡ Some (first, second)) (t : Bool) (b : t ≡ takes_table p) (j : Result (ℕ × ℕ) Rule)
      (k : j ≡ judgement t (take first s) (second_field s first second) (beyond s (second + 1))) where
    table_reply : (a : ℕ) → replied a table j ≡ placed a (table_line p (split 9 s))
    unfolding table_line
    table_reply a =
        rw (fields-at s r first second e f, ← b, k) (judged_reply a table t (take first s) (second_field s first second) (beyond s (second + 1)))

    pub table_good : (states initial : ℕ) → j ≡ Ok (states, initial) → (a : ℕ) → Ok (Table states initial) ≡ placed a (table_line p (split 9 s))
    unfolding replied
    table_good states initial h a = sym (ap (replied a table) h) ∙ table_reply a

    pub table_bad : (number : Rule) → j ≡ Err number → (o : Result Record Rule) → IsErrAnd o (λ k. k ≡ number) → (a : ℕ) → o ≡ placed a (table_line p (split 9 s))
    unfolding replied
    table_bad number h o i a = is_err_of o number i ∙ sym (ap (replied a table) h) ∙ table_reply a

-- ---- the name of a declaration

module _ (s : List ℕ) (role : Role) (p : Place) where
  pub declaration_more : true ≡ list_any (λ x. eqb x 9) s → (a : ℕ) → Err rule.LineForm ≡ placed a (declaration_line role p (split 9 s))
  unfolding declaration_line
  declaration_more h a =
      let r = split-some 9 (drop (upto 9 s + 1) s) in
      rw (split-cut 9 s (contains_some 9 s h), r.2)

  module _ (h : false ≡ list_any (λ x. eqb x 9) s) (t : Bool) (b : t ≡ takes_declaration p) where
    whole : split 9 s ≡ s ∷ []
    whole = split-last 9 s (omega (arith, upto_le 9 s, contains_none 9 s h))

    pub declaration_place : t ≡ false → (a : ℕ) → Err rule.LineOrder ≡ placed a (declaration_line role p (split 9 s))
    unfolding declaration_line
    declaration_place k a = simp (whole, ← b, k)

    module _ (k : t ≡ true) (q : Bool) (m : q ≡ name_ok s) where
      pub declaration_name : q ≡ false → (a : ℕ) → Err rule.NameForm ≡ placed a (declaration_line role p (split 9 s))
      unfolding declaration_line
      declaration_name g a = simp (whole, ← b, k, ← m, g)

      pub declaration_good : q ≡ true → (a : ℕ) → Ok (Declaration role) ≡ placed a (declaration_line role p (split 9 s))
      unfolding declaration_line
      declaration_good g a = simp (whole, ← b, k, ← m, g)

-- ---- the fields of a `step` line, from its byte `at` on

step_count_lem : (p : Place) (fs : List (List ℕ)) → is_three fs ≡ false → refused rule.LineForm ≡ step_line p fs
unfolding step_line
step_count_lem p [] e = refl
step_count_lem p (x ∷ []) e = refl
step_count_lem p (x ∷ y ∷ []) e = refl
step_count_lem p (x ∷ y ∷ z ∷ []) e = absurd (let o : ◌≡◌ {A = ℕ} 0 1 = cc in omega arith)
step_count_lem p (x ∷ y ∷ z ∷ v ∷ fs) e = refl

module _ (s : List ℕ) (at : ℕ) (p : Place) (r : Option (ℕ × ℕ)) (e : r ≡ three_fields s) where
  pub step_other : r ≡ None → Err rule.LineForm ≡ placed (at + upto 9 s + 1) (step_line p (split 9 s))
  step_other f = ap (placed (at + upto 9 s + 1)) (step_count_lem p (split 9 s) (not_three s r e f))

  module _ (first second : ℕ) (f : r ≡ Some (first, second)) (t : Bool) (b : t ≡ takes_step p) (j : Result (ℕ × ℕ) Rule)
      (k : j ≡ judgement t (second_field s first second) (take first s) (beyond s (second + 1))) where
    abbrev name : List ℕ
    name = second_field s first second

    step_reply : replied (at + upto 9 s + 1) (λ (x y : ℕ). step x name y) j ≡ placed (at + upto 9 s + 1) (step_line p (split 9 s))
    unfolding step_line
    step_reply =
        rw (fields-at s r first second e f, ← b, k)
        (judged_reply (at + upto 9 s + 1) (λ (x y : ℕ). step x name y) t name (take first s) (beyond s (second + 1)))

    name-length : length name ≡ second - (first + 1)
    name-length =
        let c = three-at s r first second e f in
        length-take-le (second - (first + 1)) (drop (first + 1) s) (omega (arith, c.in_order, c.within, length-drop (first + 1) s))

    pub step_good : (from to : ℕ) → j ≡ Ok (from, to)
        → Ok (Step from (at + first + 1) (at + second) to) ≡ placed (at + upto 9 s + 1) (step_line p (split 9 s))
    unfolding replied
    step_good from to h =
        let c = three-at s r first second e f in
        let i : at + first + 1 ≡ at + upto 9 s + 1 = omega (arith, c.start) in
        let g : at + second ≡ at + upto 9 s + 1 + length name = omega (arith, c.start, c.in_order, name-length) in
        rw (i, g) (sym (ap (replied (at + upto 9 s + 1) (λ (x y : ℕ). step x name y)) h) ∙ step_reply)

    pub step_bad : (number : Rule) → j ≡ Err number → (o : Result Record Rule) → IsErrAnd o (λ k. k ≡ number)
        → o ≡ placed (at + upto 9 s + 1) (step_line p (split 9 s))
    unfolding replied
    step_bad number h o i =
        is_err_of o number i ∙ sym (ap (replied (at + upto 9 s + 1) (λ (x y : ℕ). step x name y)) h) ∙ step_reply
