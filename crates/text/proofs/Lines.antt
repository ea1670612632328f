-- What a line says comes from its fields, and stands in place; its own refusals are 14 to 17.
use mathlib.Core.Path.{◌≡◌, refl}
use mathlib.Core.Bool.{Bool, true, false, ◌&&◌, cond}
use mathlib.Core.List.{List, [], ◌∷◌}
use Prim.Native.Nat.{ℕ, ◌≤◌}
use native.Mathlib.Omega.{arith}
use lib.Dec.{T}
use Rattle.text.specs.declared.Place.{Place}
use Rattle.text.specs.declared.Role.{Role}
use Rattle.text.specs.declared.Role.TheVariants.{Input, Output}
use Rattle.text.specs.Fields.{split, same, name_ok, number_ok, value}
use Rattle.text.specs.Lines.{Entry, table, declaration, step, refused, table_word, role_word, step_word, takes_table, takes_declaration, takes_step, judged, table_line, declaration_line, step_line, by_kind, parse}
use Rattle.text.proofs.Names.{same-eq}
use Rattle.theory.specs.declared.Rule.TheVariants as rule
use Rattle.theory.specs.declared.Rule.{Rule}
use Rattle.theory.specs.Rules.{rule_number}

module _ (p : Place) where
  pub data From (fs : List (List ℕ)) : Entry → Type 0 where
    of_table : (n s f : List ℕ) → fs ≡ table_word ∷ n ∷ s ∷ f ∷ [] → T (takes_table p) → From fs (table (value s) (value f))
    of_declaration : (r : Role) (n : List ℕ) → fs ≡ role_word r ∷ n ∷ [] → T (takes_declaration p) → T (name_ok n) → From fs (declaration r n)
    of_step : (f n u : List ℕ) → fs ≡ step_word ∷ f ∷ n ∷ u ∷ [] → T (takes_step p) → T (name_ok n) → From fs (step (value f) n (value u))
    of_refusal : (k : Rule) → 14 ≤ rule_number k → rule_number k ≤ 17 → From fs (refused k)

  from-judged : {fs : List (List ℕ)} (b c d : Bool) (e : Entry) → (T b → T c → From fs e) → From fs (judged b c d e)
  from-judged true true true e f = f tt tt
  from-judged true true false e f = of_refusal rule.NumberForm (omega arith) (omega arith)
  from-judged true false d e f = of_refusal rule.NameForm (omega arith) (omega arith)
  from-judged false c d e f = of_refusal rule.LineOrder (omega arith) (omega arith)

  from-table : (fs : List (List ℕ)) → From (table_word ∷ fs) (table_line p fs)
  unfolding table_line
  from-table [] = of_refusal rule.LineForm (omega arith) (omega arith)
  from-table (n ∷ []) = of_refusal rule.LineForm (omega arith) (omega arith)
  from-table (n ∷ s ∷ []) = of_refusal rule.LineForm (omega arith) (omega arith)
  from-table (n ∷ s ∷ f ∷ []) = from-judged (takes_table p) (name_ok n) (number_ok s && number_ok f) (table (value s) (value f)) (λ t g. of_table n s f refl t)
  from-table (n ∷ s ∷ f ∷ x ∷ xs) = of_refusal rule.LineForm (omega arith) (omega arith)

  from-declaration : (r : Role) (fs : List (List ℕ)) → From (role_word r ∷ fs) (declaration_line r p fs)
  unfolding declaration_line
  from-declaration r [] = of_refusal rule.LineForm (omega arith) (omega arith)
  from-declaration r (n ∷ []) = from-judged (takes_declaration p) (name_ok n) true (declaration r n) (λ t g. of_declaration r n refl t g)
  from-declaration r (n ∷ x ∷ xs) = of_refusal rule.LineForm (omega arith) (omega arith)

  from_step : (fs : List (List ℕ)) → From (step_word ∷ fs) (step_line p fs)
  unfolding step_line
  from_step [] = of_refusal rule.LineForm (omega arith) (omega arith)
  from_step (f ∷ []) = of_refusal rule.LineForm (omega arith) (omega arith)
  from_step (f ∷ n ∷ []) = of_refusal rule.LineForm (omega arith) (omega arith)
  from_step (f ∷ n ∷ u ∷ []) = from-judged (takes_step p) (name_ok n) (number_ok f && number_ok u) (step (value f) n (value u)) (λ t g. of_step f n u refl t g)
  from_step (f ∷ n ∷ u ∷ x ∷ xs) = of_refusal rule.LineForm (omega arith) (omega arith)

  from_kind : (fs : List (List ℕ)) → From fs (by_kind p fs)
  unfolding by_kind
  from_kind [] = of_refusal rule.LineForm (omega arith) (omega arith)
  from_kind (k ∷ fs) = when (same k table_word) refl (λ e. rw e (from-table fs)) (when (same k (role_word Input)) refl (λ e. rw e (from-declaration Input fs))
      (when (same k (role_word Output)) refl (λ e. rw e (from-declaration Output fs)) (when (same k step_word) refl (λ e. rw e (from_step fs)) (of_refusal rule.LineForm (omega arith) (omega arith)))))
    where
      when : {w : List ℕ} {x y : Entry} (b : Bool) → same k w ≡ b → (k ≡ w → From (k ∷ fs) x) → From (k ∷ fs) y → From (k ∷ fs) (cond b x y)
      when {w} true e f g = f (same-eq k w e)
      when false e f g = g

  pub from-line : (line : List ℕ) → From (split 9 line) (parse p line)
  unfolding parse
  from-line line = from_kind (split 9 line)
