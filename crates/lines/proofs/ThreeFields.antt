-- Laws of three fields: how they are found, and what is known where they were found.
use mathlib.Core.Path.{◌≡◌, refl, sym, ap, ◌∙◌}
use mathlib.Core.Bool.{Bool, true, false, cond}
use mathlib.Core.List.{List, [], ◌∷◌}
use Prim.Native.Nat.{ℕ, ◌+◌, ◌-◌, ◌<◌}
use native.Mathlib.Omega.{arith}
use lib.Dec.{eqb}
use lib.ListN.{length, take, drop, length-drop}
use lib.Seq.{drop-drop}
use Rattle.text.specs.Fields.{split, upto}
use Rattle.text.proofs.Split.{upto_le, split-last, split-cut, split-some, split-more, split_one}
use Rattle.lines.specs.Located.{is_three, after_kind, three_fields}
use Rattle.std.specs.Prelude.{Option, Some, None}
use Rattle.std.specs.List.{position, list_any}
use Rattle.std.proofs.lemmas.Option.{none-some, some_pair_parts}
use Rattle.lines.proofs.Bytes.{beyond, beyond-is, found, not_found, contains_some, contains_none}

-- ---- the returns

module _ (s : List ℕ) (r : Option ℕ) (e : r ≡ position (λ x. eqb x 9) s) where
  pub cut_one : r ≡ None → None ≡ three_fields s
  unfolding three_fields
  cut_one h = rw (split-last 9 s (omega (arith, upto_le 9 s, not_found 9 s r e h)))

  module _ (first : ℕ) (h : r ≡ Some first) where
    at-first : (first ≡ upto 9 s) × (first < length s)
    at-first = found 9 s r e first h

    abbrev tail : List ℕ
    tail = beyond s (first + 1)

    module _ (r' : Option ℕ) (f : r' ≡ position (λ x. eqb x 9) tail) where
      fields : split 9 s ≡ take first s ∷ split 9 tail
      fields = split-cut 9 s (omega (arith, at-first)) ∙ rw (← at-first.0, beyond-is s (first + 1))

      pub cut_two : r' ≡ None → None ≡ three_fields s
      unfolding three_fields
      cut_two i = rw (fields, split-last 9 tail (omega (arith, upto_le 9 tail, not_found 9 tail r' f i)))

      module _ (width : ℕ) (i : r' ≡ Some width) where
        at-second : (width ≡ upto 9 tail) × (width < length tail)
        at-second = found 9 tail r' f width i

        abbrev last : List ℕ
        last = beyond s (first + 1 + width + 1)

        module _ (b : Bool) (k : b ≡ list_any (λ x. eqb x 9) last) where
          three : split 9 s ≡ take first s ∷ take width tail ∷ split 9 last
          three =
              let z : first + 1 + (width + 1) ≡ first + 1 + width + 1 = omega arith in
              let l : drop (width + 1) tail ≡ last =
              ap (drop (width + 1)) (beyond-is s (first + 1)) ∙ drop-drop (width + 1) (first + 1) s ∙ ap (λ (n : ℕ). drop n s) z
              ∙ sym (beyond-is s (first + 1 + width + 1)) in
              fields ∙ ap (λ (r : List (List ℕ)). take first s ∷ r) (split-cut 9 tail (omega (arith, at-second)) ∙ rw (← at-second.0, l))

          pub cut_more : b ≡ true → None ≡ three_fields s
          unfolding three_fields
          cut_more j =
              let r = split-some 9 (drop (upto 9 last + 1) last) in
              rw (three, split-cut 9 last (contains_some 9 last (sym j ∙ k)), r.2)

          pub cut_three : b ≡ false → Some (first, first + 1 + width) ≡ three_fields s
          unfolding three_fields
          cut_three j =
              let w : width ≡ upto 9 (after_kind s) = at-second.0 ∙ rw (beyond-is s (first + 1), at-first.0) in
              rw (three, split-last 9 last (omega (arith, upto_le 9 last, contains_none 9 last (sym j ∙ k))), ← w, ← at-first.0)

-- ---- the reply

module _ (s : List ℕ) (r : Option (ℕ × ℕ)) (e : r ≡ three_fields s) where
  pub not_three : r ≡ None → is_three (split 9 s) ≡ false
  unfolding three_fields
  not_three f = go (is_three (split 9 s)) (sym e ∙ f)
    where
      go : (b : Bool) → cond {A = Option (ℕ × ℕ)} b (Some (upto 9 s, upto 9 s + 1 + upto 9 (after_kind s))) None ≡ None → b ≡ false
      go true q = absurd (none-some _ (sym q))
      go false q = refl

-- Three fields of s, parted by the tabs at first and second.
pub record ThreeAt (s : List ℕ) (first second : ℕ) : Type 0 where
  pub start : first ≡ upto 9 s
  pub in_order : first < second
  pub within : second < length s
  pub fields : split 9 s ≡ take first s ∷ take (second - (first + 1)) (drop (first + 1) s) ∷ drop (second + 1) s ∷ []

three-fields : (s x y z : List ℕ) → split 9 s ≡ x ∷ y ∷ z ∷ [] → ThreeAt s (upto 9 s) (upto 9 s + 1 + upto 9 (after_kind s))
three-fields s x y z e =
    let c = split-more 9 s x y (z ∷ []) e in
    let d = split-more 9 (after_kind s) y z [] c.others in
    let o = split_one 9 (drop (upto 9 (after_kind s) + 1) (after_kind s)) z d.others in
    let n : upto 9 s + 1 + upto 9 (after_kind s) - (upto 9 s + 1) ≡ upto 9 (after_kind s) = omega arith in
    let m : upto 9 s + 1 + (upto 9 (after_kind s) + 1) ≡ upto 9 s + 1 + upto 9 (after_kind s) + 1 = omega arith in
    let l : z ≡ drop (upto 9 s + 1 + upto 9 (after_kind s) + 1) s =
    o.1 ∙ drop-drop (upto 9 (after_kind s) + 1) (upto 9 s + 1) s ∙ ap (λ (k : ℕ). drop k s) m in
    record {
      start = refl;
      in_order = omega arith;
      within = omega (arith, c.found, d.found, length-drop (upto 9 s + 1) s);
      fields = rw (n, ← l, ← c.first, ← d.first) e;
    }

pub three-at : (s : List ℕ) (r : Option (ℕ × ℕ)) (first second : ℕ) → r ≡ three_fields s → r ≡ Some (first, second) → ThreeAt s first second
unfolding three_fields
three-at s r first second e f = go (split 9 s) refl (sym e ∙ f)
  where
    at : upto 9 s ≡ first → upto 9 s + 1 + upto 9 (after_kind s) ≡ second
        → ThreeAt s (upto 9 s) (upto 9 s + 1 + upto 9 (after_kind s)) → ThreeAt s first second
    at p q t = rw (← p, ← q) t

    go : (fs : List (List ℕ)) → split 9 s ≡ fs
        → cond {A = Option (ℕ × ℕ)} (is_three fs) (Some (upto 9 s, upto 9 s + 1 + upto 9 (after_kind s))) None ≡ Some (first, second) → ThreeAt s first second
    go [] g q = absurd (none-some _ q)
    go (x ∷ []) g q = absurd (none-some _ q)
    go (x ∷ y ∷ []) g q = absurd (none-some _ q)
    go (x ∷ y ∷ z ∷ []) g q = let k = some_pair_parts _ first _ second q in at k.0 k.1 (three-fields s x y z g)
    go (x ∷ y ∷ z ∷ v ∷ fs) g q = absurd (none-some _ q)
