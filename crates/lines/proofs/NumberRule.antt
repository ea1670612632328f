-- Laws of the number rule: of the number that a text begins with, and of a whole field.
use mathlib.Core.Path.{◌≡◌, refl, sym, ap, ◌∙◌}
use mathlib.Core.Bool.{Bool, true, false, not, ◌&&◌, ◌||◌, cond, and-true, and-false, or-true}
use mathlib.Core.List.{List, [], ◌∷◌}
use Prim.Native.Nat.{ℕ, ◌+◌, ◌-◌, ◌*◌, ◌≤◌, ◌<◌}
use native.Mathlib.Omega.{arith}
use lib.Dec.{eqb, leb}
use lib.ListN.{length, take, drop, get_or}
use lib.Seq.{take_all}
use borrow.Author.Tests.{eq-eqb, ne_eqb, le-leb, lt-leb, leb-true}
use Rattle.std.specs.Prelude.{Option, Some, None}
use Rattle.std.specs.Bool.{then_some}
use Rattle.std.specs.Char.{is_ascii_digit}
use Rattle.std.proofs.lemmas.Option.{none-some, cond_some, same_Some}
use Rattle.std.proofs.lemmas.Bool.{false≢true}
use Rattle.text.specs.Fields.{all, digit_byte, value_from, value, number_ok, number}
use Rattle.lines.specs.declared.tokens.Leading.{Leading}
use Rattle.lines.specs.Leading.{leading, leading_number, Digits}
use Rattle.lines.proofs.NameRule.{both}
use Rattle.lines.proofs.Leading.{leading-all, leading-take, leading-first, leading-whole, leading-on, leading-stop, leading_end}

-- ---- a number

module _ (s : List ℕ) (h : number_ok s ≡ true) where
  abbrev bytes : Bool
  bytes = leb 1 (length s) && leb (length s) 5 && all digit_byte s

  abbrev lead : Bool
  lead = eqb (length s) 1 || not (eqb (get_or s 0 0) 48)

  rule : ((bytes && lead) ≡ true) × (leb (value s) 65535 ≡ true)
  unfolding number_ok
  rule = both (bytes && lead) (leb (value s) 65535) h

  -- A number fits in 16 bits.
  pub number_fits : value s ≤ 65535
  number_fits = leb-true (value s) 65535 rule.1

  pub number_digits : all digit_byte s ≡ true
  number_digits = (both (leb 1 (length s) && leb (length s) 5) (all digit_byte s) (both bytes lead rule.0).0).1

-- More digits make no smaller value.
value_grows : (v : ℕ) (s : List ℕ) → v ≤ value_from v s
unfolding value_from
value_grows v [] = omega arith
value_grows v (x ∷ s) =
    let h : v * 10 + (x - 48) ≤ value_from (v * 10 + (x - 48)) s = value_grows (v * 10 + (x - 48)) s in
    omega arith

-- ---- the digits that s begins with, up to the byte i

-- The digits from i on, after i digits of the value v, are all that s begins with.
pub record DigitsTo (s : List ℕ) (end i v : ℕ) : Type 0 where
  pub within : i ≤ end
  pub all_of : end ≡ length s
  pub small : v ≤ 65535
  pub width : i + length (leading digit_byte (drop i s)) ≡ length (leading digit_byte s)
  pub is : value_from v (leading digit_byte (drop i s)) ≡ value (leading digit_byte s)

module _ (s : List ℕ) (end i v : ℕ) (t : DigitsTo s end i v) where
  stop : leading digit_byte (drop i s) ≡ [] → Digits s v i
  unfolding value_from
  stop l = record {
    within = omega (arith, t.within, t.all_of);
    width = omega (arith, t.width, ap length l);
    is = rw l at t.is;
    small = t.small;
  }

  pub digits_stop : i < end → (d : Bool) → d ≡ is_ascii_digit (get_or s i 0) → d ≡ false → Digits s v i
  unfolding digit_byte
  digits_stop h d e k = stop (leading-stop digit_byte s i (omega (arith, t.all_of)) (sym e ∙ k))

  pub digits_end : end ≤ i → Digits s v (length s)
  digits_end h =
      let e : i ≡ length s = omega (arith, t.within, t.all_of) in
      rw (← e) (stop (leading_end digit_byte s i (omega arith)))

  module _ (h : i < end) (d : Bool) (e : d ≡ is_ascii_digit (get_or s i 0)) (k : d ≡ true) (x : ℕ) (f : x ≡ get_or s i 0 - 48) where
    on : leading digit_byte (drop i s) ≡ get_or s i 0 ∷ leading digit_byte (drop (i + 1) s)
    unfolding digit_byte
    on = leading-on digit_byte s i (omega (arith, t.all_of)) (sym e ∙ k)

    is-on : value_from (v * 10 + x) (leading digit_byte (drop (i + 1) s)) ≡ value (leading digit_byte s)
    unfolding value_from
    is-on = rw f (sym (ap (value_from v) on) ∙ t.is)

    pub digits_on : v * 10 + x ≤ 65535 → DigitsTo s end (i + 1) (v * 10 + x)
    digits_on g = record {
      within = omega arith;
      all_of = t.all_of;
      small = g;
      width = omega (arith, t.width, ap length on);
      is = is-on;
    }

    pub number_big : 65535 < v * 10 + x → None ≡ leading_number s
    unfolding leading_number number_ok
    number_big g =
        simp (
          lt-leb (value (leading digit_byte s)) 65535 (omega (arith, is-on, value_grows (v * 10 + x) (leading digit_byte (drop (i + 1) s)))),
          and-false,
        )

-- ---- the number that they make

module _ (s : List ℕ) (v w : ℕ) (d : Digits s v w) where
  meaning : leading_number s
      ≡ cond (leb 1 w && leb w 5 && (eqb w 1 || not (eqb (get_or (leading digit_byte s) 0 0) 48))) (Some (record { value = v; width = w })) None
  unfolding leading_number number_ok
  meaning = simp (← d.width, ← d.is, leading-all digit_byte s, le-leb v 65535 d.small, and-true)

  pub number-none : w ≡ 0 → None ≡ leading_number s
  number-none h = simp (meaning, h)

  pub number-long : 5 < w → None ≡ leading_number s
  number-long h = simp (meaning, lt-leb w 5 h, and-false)

  pub number-one : w ≡ 1 → Some (record { value = v; width = w }) ≡ leading_number s
  number-one h = simp (meaning, h)

  module _ (p : 2 ≤ w) where
    first : get_or (leading digit_byte s) 0 0 ≡ get_or s 0 0
    first = leading-first digit_byte s (omega (arith, d.width, p))

    -- A needless leading zero.
    pub number-lead : get_or s 0 0 ≡ 48 → None ≡ leading_number s
    number-lead h = simp (meaning, ne_eqb w 1 (omega arith), first, h, and-false)

    pub number-many : w ≤ 5 → (get_or s 0 0 ≡ 48 → ⊥) → Some (record { value = v; width = w }) ≡ leading_number s
    number-many q n =
        simp (meaning, le-leb 1 w (omega (arith, p)), le-leb w 5 q, first, ne_eqb (get_or s 0 0) 48 n, or-true)

-- ---- what the reply says

module _ (s : List ℕ) where
  -- A field that keeps the rule is read to its end.
  whole : number_ok s ≡ true → leading_number s ≡ Some (record { value = value s; width = length s })
  unfolding leading_number
  whole h = rw (leading-whole digit_byte s (number_digits s h), h)

  refused : (number_ok s ≡ true → ⊥) → None ≡ number s
  unfolding number
  refused n = go (number_ok s) refl
    where
      go : (b : Bool) → number_ok s ≡ b → None ≡ cond b (Some (value s)) None
      go true h = absurd (n h)
      go false h = refl

  pub number_missing : leading_number s ≡ None → None ≡ number s
  number_missing f = refused (λ h. none-some _ (sym f ∙ whole h))

  module _ (l : Leading) (e : leading_number s ≡ Some l) where
    pub number_at : (number_ok (take l.width s) ≡ true) × (value (take l.width s) ≡ l.value)
    unfolding leading_number
    number_at =
        let c = cond_some (number_ok (leading digit_byte s)) (record { value = value (leading digit_byte s); width = length (leading digit_byte s) }) l e in
        let k : length (leading digit_byte s) ≡ l.width = ap (λ (m : Leading). m.width) c.1 in
        let v : value (leading digit_byte s) ≡ l.value = ap (λ (m : Leading). m.value) c.1 in
        let t : take l.width s ≡ leading digit_byte s = rw (← k) (leading-take digit_byte s) in
        (rw t c.0, rw t v)

    pub number_whole : then_some (eqb l.width (length s)) l.value ≡ number s
    unfolding number
    number_whole = go (number_ok s) refl
      where
        go : (b : Bool) → number_ok s ≡ b → then_some (eqb l.width (length s)) l.value ≡ cond b (Some (value s)) None
        go true g =
            let k : l ≡ record { value = value s; width = length s } = same_Some _ _ (sym e ∙ whole g) in
            rw (k, eq-eqb (length s) (length s) refl)
        go false g =
            rw (ne_eqb l.width (length s) (λ q. false≢true (sym g ∙ rw (q, take_all (length s) s (omega arith)) at number_at.0)))

-- ---- what the reply for a field says

is_value : Option ℕ → Bool
is_value (Some v) = true
is_value None = false

module _ (s : List ℕ) (r : Option ℕ) (e : r ≡ number s) where
  keeps : number_ok s ≡ is_value r
  unfolding number is_value
  keeps = go (number_ok s) ∙ ap is_value (sym e)
    where
      go : (b : Bool) → b ≡ is_value (cond b (Some (value s)) None)
      go true = refl
      go false = refl

  pub reply_value : (v : ℕ) → r ≡ Some v → (number_ok s ≡ true) × (value s ≡ v)
  unfolding number is_value
  reply_value v f =
      let g : number_ok s ≡ true = keeps ∙ ap is_value f in
      let q : Some (value s) ≡ Some v = sym (e ∙ rw g) ∙ f in
      (g, cc)

  pub reply_bad : r ≡ None → number_ok s ≡ false
  unfolding is_value
  reply_bad f = keeps ∙ ap is_value f
