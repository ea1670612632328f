-- What the reply for a line says of the line: where its name stands, that names and numbers keep their rules.
use mathlib.Core.Path.{◌≡◌, refl, sym, ap, subst, ◌∙◌}
use mathlib.Core.Bool.{Bool, true, false, ◌&&◌, cond}
use mathlib.Core.List.{List, [], ◌∷◌}
use Prim.Native.Nat.{ℕ, ◌+◌, ◌-◌, ◌≤◌}
use native.Mathlib.Omega.{arith}
use lib.ListN.{length, take, drop, length-drop}
use lib.Seq.{drop-drop, length-take-le}
use Rattle.text.specs.declared.Place.{Place}
use Rattle.text.specs.declared.Role.{Role}
use Rattle.text.specs.declared.Role.TheVariants.{Input, Output}
use Rattle.text.specs.Fields.{split, upto, same, name_ok, value, number_ok}
use Rattle.text.specs.Lines.{Entry, table, declaration, step, refused, table_word, role_word, step_word, judged, takes_table, takes_declaration, takes_step, table_line, declaration_line, step_line, parse}
use Rattle.text.proofs.Split.{upto_le, split-some, split-more, split_one}
use Rattle.text.proofs.Names.{same-eq}
use Rattle.lines.proofs.NameRule.{both}
use Rattle.lines.proofs.NumberRule.{number_fits}
use Rattle.lines.specs.Located.{after_kind, step_name, located, kind_of}
use Rattle.lines.specs.declared.Record.TheVariants.{Table, Declaration, Step}
use Rattle.lines.specs.declared.Record.{Record}
use Rattle.lines.specs.declared.Kind.{Kind}
use Rattle.lines.specs.declared.Kind.TheVariants.{TableLine, DeclarationLine, StepLine}
use Rattle.std.specs.Prelude.{Option, Some, None, Result, Ok, Err}
use Rattle.lines.proofs.ByKind.{on_kind, by_kind_lem}
use Rattle.theory.specs.declared.Rule.{Rule}

-- ---- the word of a declaration

kind_word : (k : List ℕ) (r : Role) → kind_of k ≡ Some (DeclarationLine r) → k ≡ role_word r
unfolding kind_of
kind_word k r h =
    go (same k table_word) (same k (role_word Input)) (same k (role_word Output)) (same k step_word)
    (same-eq k (role_word Input)) (same-eq k (role_word Output)) h
  where
    go : (a b c d : Bool) → (b ≡ true → k ≡ role_word Input) → (c ≡ true → k ≡ role_word Output)
        → cond a (Some TableLine) (cond b (Some (DeclarationLine Input)) (cond c (Some (DeclarationLine Output)) (cond d (Some StepLine) None))) ≡ Some (DeclarationLine r)
        → k ≡ role_word r
    go true b c d i o q = absurd (let z : ◌≡◌ {A = ℕ} 0 1 = cc in omega arith)
    go false true c d i o q = let z : Input ≡ r = cc in i refl ∙ ap role_word z
    go false false true d i o q = let z : Output ≡ r = cc in o refl ∙ ap role_word z
    go false false false true i o q = absurd (let z : ◌≡◌ {A = ℕ} 0 1 = cc in omega arith)
    go false false false false i o q = absurd (let z : ◌≡◌ {A = ℕ} 0 1 = cc in omega arith)

-- ---- what is known of an entry of the line l

record DeclarationAt (l : List ℕ) (r : Role) (n : List ℕ) : Type 0 where
  within : length (role_word r) + 1 ≤ length l
  name : n ≡ drop (length (role_word r) + 1) l
  named : name_ok n ≡ true

record StepAt (l : List ℕ) (from : ℕ) (n : List ℕ) (to : ℕ) : Type 0 where
  within : step_name l + length n ≤ length l
  name : n ≡ take (length n) (drop (step_name l) l)
  named : name_ok n ≡ true
  from_fits : from ≤ 65535
  to_fits : to ≤ 65535

abbrev Known : List ℕ → Entry → Type 0
Known l (table states initial) = (states ≤ 65535) × (initial ≤ 65535)
Known l (declaration r n) = DeclarationAt l r n
Known l (step from n to) = StepAt l from n to
Known l (refused k) = Unit {0}

known-judged : (l : List ℕ) (a b c : Bool) (e : Entry) → (b ≡ true → c ≡ true → Known l e) → Known l (judged a b c e)
known-judged l true true true e h = h refl refl
known-judged l true true false e h = tt
known-judged l true false c e h = tt
known-judged l false b c e h = tt

module _ (l : List ℕ) (p : Place) where
  table-known : (fs : List (List ℕ)) → Known l (table_line p fs)
  unfolding table_line
  table-known [] = tt
  table-known (n ∷ []) = tt
  table-known (n ∷ s ∷ []) = tt
  table-known (n ∷ s ∷ f ∷ []) =
      known-judged l (takes_table p) (name_ok n) (number_ok s && number_ok f) (table (value s) (value f))
      (λ g h. let b = both (number_ok s) (number_ok f) h in (number_fits s b.0, number_fits f b.1))
  table-known (n ∷ s ∷ f ∷ x ∷ xs) = tt

  -- A declaration of the name n: its word, then its name to the end of the line.
  declared-at : (k : List ℕ) (r : Role) (n : List ℕ) → split 9 l ≡ k ∷ n ∷ [] → k ≡ role_word r → name_ok n ≡ true → DeclarationAt l r n
  declared-at k r n e w g =
      let c = split-more 9 l k n [] e in
      let o = split_one 9 (drop (upto 9 l + 1) l) n c.others in
      let i : upto 9 l ≡ length (role_word r) =
      sym (length-take-le (upto 9 l) l (upto_le 9 l)) ∙ ap length (sym c.first ∙ w) in
      record { within = omega (arith, c.found); name = o.1 ∙ ap (λ (j : ℕ). drop (j + 1) l) i; named = g }

  declaration-known : (k : List ℕ) (r : Role) → k ≡ role_word r → (fs : List (List ℕ)) → split 9 l ≡ k ∷ fs → Known l (declaration_line r p fs)
  unfolding declaration_line
  declaration-known k r w [] e = tt
  declaration-known k r w (n ∷ []) e = known-judged l (takes_declaration p) (name_ok n) true (declaration r n) (λ g h. declared-at k r n e w g)
  declaration-known k r w (n ∷ x ∷ xs) e = tt

  -- The third of four fields begins after the second tab.
  third : (k x n y : List ℕ) → split 9 l ≡ k ∷ x ∷ n ∷ y ∷ [] → (step_name l + length n ≤ length l) × (n ≡ take (length n) (drop (step_name l) l))
  third k x n y e =
      let s : List ℕ = after_kind l in
      let u : List ℕ = drop (upto 9 s + 1) s in
      let a = split-more 9 l k x (n ∷ y ∷ []) e in
      let b = split-more 9 s x n (y ∷ []) a.others in
      let c = split-more 9 u n y [] b.others in
      let i : upto 9 l + 1 + (upto 9 s + 1) ≡ step_name l = omega arith in
      let d : u ≡ drop (step_name l) l = drop-drop (upto 9 s + 1) (upto 9 l + 1) l ∙ ap (λ (j : ℕ). drop j l) i in
      let m : length n ≡ upto 9 u = ap length c.first ∙ length-take-le (upto 9 u) u (upto_le 9 u) in
      let h : length u ≡ length l - step_name l = ap length d ∙ length-drop (step_name l) l in (
        omega (arith, c.found),
        c.first ∙ ap (λ (j : ℕ). take j u) (sym m) ∙ ap (take (length n)) d,
      )

  step-known : (k : List ℕ) (fs : List (List ℕ)) → split 9 l ≡ k ∷ fs → Known l (step_line p fs)
  unfolding step_line
  step-known k [] e = tt
  step-known k (f ∷ []) e = tt
  step-known k (f ∷ n ∷ []) e = tt
  step-known k (f ∷ n ∷ t ∷ []) e =
      known-judged l (takes_step p) (name_ok n) (number_ok f && number_ok t) (step (value f) n (value t))
      (λ g h.
      let b = both (number_ok f) (number_ok t) h in
      let h = third k f n t e in
      record { within = h.0; name = h.1; named = g; from_fits = number_fits f b.0; to_fits = number_fits t b.1 })
  step-known k (f ∷ n ∷ t ∷ x ∷ xs) e = tt

  known : Known l (parse p l)
  unfolding parse on_kind
  known = let f = split-some 9 l in rw (f.2, by_kind_lem p f.0 f.1) (go f.0 f.1 f.2 (kind_of f.0) refl)
    where
      go : (k : List ℕ) (fs : List (List ℕ)) → split 9 l ≡ k ∷ fs → (d : Option Kind) → kind_of k ≡ d → Known l (on_kind p fs d)
      go k fs e (Some TableLine) i = table-known fs
      go k fs e (Some (DeclarationLine r)) i = declaration-known k r (kind_word k r i) fs e
      go k fs e (Some StepLine) i = step-known k fs e
      go k fs e None i = tt

-- ---- what the reply says

pub record TableReply (p : Place) (l : List ℕ) (states initial : ℕ) : Type 0 where
  pub entry : parse p l ≡ table states initial
  pub states_fit : states ≤ 65535
  pub initial_fit : initial ≤ 65535

pub record DeclarationReply (p : Place) (l : List ℕ) (r : Role) : Type 0 where
  pub entry : parse p l ≡ declaration r (drop (length (role_word r) + 1) l)
  pub within : length (role_word r) + 1 ≤ length l
  pub named : name_ok (drop (length (role_word r) + 1) l) ≡ true

pub record StepReply (p : Place) (l : List ℕ) (from start end to : ℕ) : Type 0 where
  pub entry : parse p l ≡ step from (take (end - start) (drop start l)) to
  pub in_order : start ≤ end
  pub within : end ≤ length l
  pub named : name_ok (take (end - start) (drop start l)) ≡ true
  pub from_fits : from ≤ 65535
  pub to_fits : to ≤ 65535

-- The entry that a reply for the line l stands for.
entry_of : List ℕ → Result Record Rule → Entry
entry_of l (Ok (Table states initial)) = table states initial
entry_of l (Ok (Declaration r)) = declaration r (drop (length (role_word r) + 1) l)
entry_of l (Ok (Step from start end to)) = step from (take (end - start) (drop start l)) to
entry_of l (Err k) = refused k

entry-back : (l : List ℕ) (e : Entry) → Known l e → e ≡ entry_of l (located l e)
unfolding entry_of
entry-back l (table states initial) k = refl
entry-back l (declaration r n) k = ap (declaration r) k.name
entry-back l (step from n to) k =
    let e : step_name l + length n - step_name l ≡ length n = omega arith in
    rw e (ap (λ (m : List ℕ). step from m to) k.name)
entry-back l (refused k) h = refl

module _ (p : Place) (l : List ℕ) where
  entry-is : (r : Result Record Rule) → located l (parse p l) ≡ r → parse p l ≡ entry_of l r
  entry-is r e = entry-back l (parse p l) (known l p) ∙ ap (entry_of l) e

  pub table_reply : (states initial : ℕ) → located l (parse p l) ≡ Ok (Table states initial) → TableReply p l states initial
  unfolding entry_of
  table_reply states initial e =
      let f : parse p l ≡ table states initial = entry-is _ e in
      let k : Known l (table states initial) = subst (Known l) f (known l p) in
      record { entry = f; states_fit = k.0; initial_fit = k.1 }

  pub declaration_reply : (r : Role) → located l (parse p l) ≡ Ok (Declaration r) → DeclarationReply p l r
  unfolding entry_of
  declaration_reply r e =
      let n : List ℕ = drop (length (role_word r) + 1) l in
      let f : parse p l ≡ declaration r n = entry-is _ e in
      let k : DeclarationAt l r n = subst (Known l) f (known l p) in
      record { entry = f; within = k.within; named = k.named }

  pub step_reply : (from start end to : ℕ) → located l (parse p l) ≡ Ok (Step from start end to) → StepReply p l from start end to
  unfolding entry_of
  step_reply from start end to e =
      let n : List ℕ = take (end - start) (drop start l) in
      let f : parse p l ≡ step from n to = entry-is _ e in
      let k : StepAt l from n to = subst (Known l) f (known l p) in
      let q : Ok (Step from (step_name l) (step_name l + length n) to) ≡ Ok (Step from start end to) = sym (ap (located l) f) ∙ e in
      let a : step_name l ≡ start = cc in
      let b : step_name l + length n ≡ end = cc in
      record {
        entry = f;
        in_order = omega arith;
        within = omega (arith, k.within);
        named = k.named;
        from_fits = k.from_fits;
        to_fits = k.to_fits;
      }

  pub refused_reply_lem : (number : Rule) → located l (parse p l) ≡ Err number → parse p l ≡ refused number
  unfolding entry_of
  refused_reply_lem number e = entry-is _ e
