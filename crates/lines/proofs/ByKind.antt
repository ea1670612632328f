-- Laws of the kinds of line, and of a line taken apart by its kind.
use mathlib.Core.Path.{◌≡◌, refl, sym, ap, ◌∙◌}
use mathlib.Core.Bool.{Bool, true, false, cond}
use mathlib.Core.List.{List, [], ◌∷◌}
use Prim.Native.Nat.{ℕ, ◌+◌, ◌<◌}
use native.Mathlib.Omega.{arith}
use lib.Dec.{eqb}
use lib.ListN.{length, take, drop}
use Rattle.text.specs.declared.Place.{Place}
use Rattle.text.specs.declared.Role.{Role}
use Rattle.text.specs.declared.Role.TheVariants.{Input, Output}
use Rattle.text.specs.Fields.{split, upto, same}
use Rattle.text.specs.Lines.{Entry, refused, table_word, role_word, step_word, table_line, declaration_line, step_line, by_kind, parse}
use Rattle.text.proofs.Split.{upto_le, split-last, split-cut}
use Rattle.lines.specs.Located.{placed, step_name, located, kind_of}
use Rattle.std.specs.Bool.{then_some}
use Rattle.std.specs.List.{position}
use Rattle.std.specs.Prelude.{Option, Some, None, Result, Err}
use Rattle.std.specs.Cmp.Lexicographic.{pointwise}
use Rattle.lines.specs.declared.Record.{Record}
use Rattle.lines.specs.declared.Kind.{Kind}
use Rattle.lines.specs.declared.Kind.TheVariants.{TableLine, DeclarationLine, StepLine}
use Rattle.lines.proofs.Bytes.{same_pointwise, beyond, beyond-is, found, not_found}
use Rattle.theory.specs.declared.Rule.TheVariants as rule
use Rattle.theory.specs.declared.Rule.{Rule}

-- ---- kind_of

module _ (k : List ℕ) (a : Bool) (e : a ≡ pointwise eqb k table_word) where
  pub kind_table : a ≡ true → Some TableLine ≡ kind_of k
  unfolding kind_of
  kind_table h = simp (same_pointwise, ← e, h)

  module _ (h : a ≡ false) (b : Bool) (f : b ≡ pointwise eqb k (role_word Input)) where
    pub kind_in : b ≡ true → Some (DeclarationLine Input) ≡ kind_of k
    unfolding kind_of
    kind_in i = simp (same_pointwise, ← e, h, ← f, i)

    module _ (i : b ≡ false) (c : Bool) (g : c ≡ pointwise eqb k (role_word Output)) where
      pub kind_out : c ≡ true → Some (DeclarationLine Output) ≡ kind_of k
      unfolding kind_of
      kind_out j = simp (same_pointwise, ← e, h, ← f, i, ← g, j)

      pub kind_last : c ≡ false → (d : Bool) → d ≡ pointwise eqb k step_word → then_some d StepLine ≡ kind_of k
      unfolding kind_of
      kind_last j d w = simp (same_pointwise, ← e, h, ← f, i, ← g, j, ← w) (go d)
        where
          go : (d : Bool) → then_some d StepLine ≡ cond d (Some StepLine) None
          go true = refl
          go false = refl

-- What follows the kind, by the kind.
unfoldable pub on_kind : Place → List (List ℕ) → Option Kind → Entry
on_kind p fs (Some TableLine) = table_line p fs
on_kind p fs (Some (DeclarationLine r)) = declaration_line r p fs
on_kind p fs (Some StepLine) = step_line p fs
on_kind p fs None = refused rule.LineForm

pub by_kind_lem : (p : Place) (k : List ℕ) (fs : List (List ℕ)) → by_kind p (k ∷ fs) ≡ on_kind p fs (kind_of k)
unfolding by_kind kind_of on_kind
by_kind_lem p k fs = go (same k table_word) (same k (role_word Input)) (same k (role_word Output)) (same k step_word)
  where
    go : (a b c d : Bool)
        → cond a (table_line p fs) (cond b (declaration_line Input p fs) (cond c (declaration_line Output p fs) (cond d (step_line p fs) (refused rule.LineForm))))
        ≡ on_kind p fs (cond a (Some TableLine) (cond b (Some (DeclarationLine Input)) (cond c (Some (DeclarationLine Output)) (cond d (Some StepLine) None))))
    go true b c d = refl
    go false true c d = refl
    go false false true d = refl
    go false false false true = refl
    go false false false false = refl

-- ---- a line

module _ (l : List ℕ) (p : Place) (t : Option ℕ) (e : t ≡ position (λ x. eqb x 9) l) where
  pub line_bare : t ≡ None → Err rule.LineForm ≡ located l (parse p l)
  unfolding parse on_kind table_line declaration_line step_line
  line_bare h = rw (split-last 9 l (omega (arith, upto_le 9 l, not_found 9 l t e h)), by_kind_lem p l []) (bare (kind_of l))
    where
      bare : (d : Option Kind) → Err rule.LineForm ≡ placed (step_name l) (on_kind p [] d)
      bare (Some TableLine) = refl
      bare (Some (DeclarationLine r)) = refl
      bare (Some StepLine) = refl
      bare None = refl

  module _ (tab : ℕ) (h : t ≡ Some tab) (d : Option Kind) (i : d ≡ kind_of (take tab l)) where
    at-tab : (tab ≡ upto 9 l) × (tab < length l)
    at-tab = found 9 l t e tab h

    abbrev rest : List ℕ
    rest = beyond l (tab + 1)

    says : parse p l ≡ on_kind p (split 9 rest) d
    unfolding parse
    says = rw (split-cut 9 l (omega (arith, at-tab)), ← at-tab.0, beyond-is l (tab + 1), i) (by_kind_lem p (take tab l) (split 9 (drop (tab + 1) l)))

    module _ (r : Result Record Rule) where
      pub line_table : d ≡ Some TableLine → ((a : ℕ) → r ≡ placed a (table_line p (split 9 rest))) → r ≡ located l (parse p l)
      unfolding on_kind
      line_table j q = q (step_name l) ∙ sym (ap (located l) (says ∙ ap (on_kind p (split 9 rest)) j))

      pub line_declaration : (role : Role) → d ≡ Some (DeclarationLine role) → ((a : ℕ) → r ≡ placed a (declaration_line role p (split 9 rest)))
          → r ≡ located l (parse p l)
      unfolding on_kind
      line_declaration role j q = q (step_name l) ∙ sym (ap (located l) (says ∙ ap (on_kind p (split 9 rest)) j))

      pub line_step : d ≡ Some StepLine → r ≡ placed (tab + 1 + upto 9 rest + 1) (step_line p (split 9 rest)) → r ≡ located l (parse p l)
      unfolding on_kind
      line_step j q = q ∙ rw (says, j, ← at-tab.0, beyond-is l (tab + 1))

    pub line_unknown : d ≡ None → Err rule.LineForm ≡ located l (parse p l)
    unfolding on_kind
    line_unknown j = sym (ap (located l) (says ∙ ap (on_kind p (split 9 rest)) j))
