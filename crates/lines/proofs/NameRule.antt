-- Laws of the name rule: of a byte, of the name that a text begins with, of a whole field.
use mathlib.Core.Path.{◌≡◌, refl, sym, ap, ◌∙◌}
use mathlib.Core.Bool.{Bool, true, false, ◌&&◌, ◌||◌, cond, and-true, and-false, or-false}
use mathlib.Core.List.{List}
use Prim.Native.Nat.{ℕ, zero, suc, ◌+◌, ◌≤◌, ◌<◌, min}
use native.Mathlib.Decide.{dec_le}
use native.Mathlib.Omega.{arith}
use lib.Dec.{eqb, leb, ltb}
use lib.ListN.{length, take, drop, get_or}
use lib.Seq.{take_all}
use borrow.Author.Tests.{ne_eqb, eq-eqb, le-leb, lt-leb, leb-true}
use Rattle.std.specs.Prelude.{Option, Some, None}
use Rattle.std.specs.Bool.{then_some}
use Rattle.std.specs.Option.{option_eq}
use Rattle.std.proofs.lemmas.Option.{cond_some}
use Rattle.std.proofs.lemmas.Bool.{false≢true}
use Rattle.text.specs.Fields.{all, name_byte, name_ok}
use Rattle.lines.specs.Leading.{leading, name_width}
use Rattle.lines.proofs.Leading.{leading-all, leading-take, leading-whole, leading-on, leading-stop, leading_end}

-- ---- a byte

module _ (x : ℕ) where
  meaning : name_byte x ≡ ((leb 48 x && leb x 57) || (leb 65 x && leb x 90) || (leb 97 x && leb x 122) || eqb x 95)
  unfolding name_byte
  meaning = refl

  pub byte_small : 97 ≤ x → leb x 122 ≡ name_byte x
  byte_small h =
      simp (
        meaning,
        lt-leb x 57 (omega arith),
        lt-leb x 90 (omega arith),
        le-leb 97 x h,
        ne_eqb x 95 (omega arith),
        and-false,
        or-false,
      )

  pub byte_digit : x ≤ 57 → leb 48 x ≡ name_byte x
  byte_digit h =
      simp (
        meaning,
        le-leb x 57 h,
        lt-leb 65 x (omega arith),
        lt-leb 97 x (omega arith),
        ne_eqb x 95 (omega arith),
        and-true,
        or-false,
      )

  pub byte_capital : 57 < x → x ≤ 90 → leb 65 x ≡ name_byte x
  byte_capital g h =
      simp (
        meaning,
        lt-leb x 57 g,
        le-leb x 90 h,
        lt-leb 97 x (omega arith),
        ne_eqb x 95 (omega arith),
        and-true,
        and-false,
        or-false,
      )

  pub byte_underscore : 90 < x → x < 97 → eqb x 95 ≡ name_byte x
  byte_underscore g h = simp (meaning, lt-leb x 57 (omega arith), lt-leb x 90 g, lt-leb 97 x h, and-false)

-- ---- a name

pub both : (a b : Bool) → (a && b) ≡ true → (a ≡ true) × (b ≡ true)
both true b h = (refl, h)
both false b h = absurd (let o : ◌≡◌ {A = ℕ} 0 1 = cc in omega arith)

module _ (s : List ℕ) (h : name_ok s ≡ true) where
  rule : ((leb 1 (length s) && leb (length s) 16) ≡ true) × (all name_byte s ≡ true)
  unfolding name_ok
  rule = both (leb 1 (length s) && leb (length s) 16) (all name_byte s) h

  pub name-short : length s ≤ 16
  name-short = leb-true (length s) 16 (both (leb 1 (length s)) (leb (length s) 16) rule.0).1

  pub name-bytes : all name_byte s ≡ true
  name-bytes = rule.1

-- ---- the name that s begins with

-- The bytes from i on, with the i before them, are all name bytes that s begins with; no more than 17 bytes are looked at.
pub record Letters (s : List ℕ) (end i : ℕ) : Type 0 where
  pub within : i ≤ end
  pub end_is : end ≡ min (length s) 17
  pub width : i + length (leading name_byte (drop i s)) ≡ length (leading name_byte s)

module _ (s : List ℕ) where
  -- The width of w bytes, which are looked at no further than the 17th.
  judged : (w : ℕ) → w ≡ min (length (leading name_byte s)) 17 → then_some (leb 1 w && leb w 16) w ≡ name_width s
  unfolding name_width name_ok
  judged w z = elim (dec_le w 16) [
    | yes h ↦ let k : length (leading name_byte s) ≡ w = omega arith in rw (k, leading-all name_byte s, le-leb w 16 h) (short w)
    | no h ↦ rw (lt-leb w 16 (omega arith), lt-leb (length (leading name_byte s)) 16 (omega arith), and-false, and-false)
  ]
    where
      short : (w : ℕ) → then_some (leb 1 w && true) w ≡ cond (leb 1 w && true && true) (Some w) None
      short zero = refl
      short (suc w) = rw (le-leb 1 (suc w) (omega arith))

  module _ (end i : ℕ) (t : Letters s end i) where
    pub letters_on : (r : Bool) → i < end → r ≡ name_byte (get_or s i 0) → r ≡ true → Letters s end (i + 1)
    letters_on r h e g =
        let l = leading-on name_byte s i (omega (arith, t.end_is)) (sym e ∙ g) in
        record { within = omega arith; end_is = t.end_is; width = omega (arith, t.width, ap length l) }

    pub width_stop : (r : Bool) → i < end → r ≡ name_byte (get_or s i 0) → r ≡ false → then_some (ltb 0 i) i ≡ name_width s
    width_stop r h e g =
        let l = leading-stop name_byte s i (omega (arith, t.end_is)) (sym e ∙ g) in
        ap (λ b. then_some b i) (few i (omega (arith, t.end_is))) ∙ judged i (omega (arith, t.width, t.end_is, ap length l))
      where
        few : (i : ℕ) → i ≤ 16 → ltb 0 i ≡ (leb 1 i && leb i 16)
        few i h = rw (le-leb i 16 h) (go i)
          where
            go : (i : ℕ) → ltb 0 i ≡ (leb 1 i && true)
            go zero = refl
            go (suc i) = rw (le-leb 1 (suc i) (omega arith))

    pub width_end : end ≤ i → then_some (leb 1 end && leb end 16) end ≡ name_width s
    width_end h = elim (dec_le (length s) i) [
      | yes k ↦ judged end (omega (arith, t.width, t.within, t.end_is, ap length (leading_end name_byte s i k)))
      | no k ↦ judged end (omega (arith, t.width, t.within, t.end_is))
    ]

-- ---- what a width says

module _ (s : List ℕ) where
  pub name-at : (w : ℕ) → name_width s ≡ Some w → name_ok (take w s) ≡ true
  unfolding name_width
  name-at w e =
      let c = cond_some (name_ok (leading name_byte s)) (length (leading name_byte s)) w e in
      rw (← c.1, leading-take name_byte s) c.0

  whole : name_ok s ≡ true → name_width s ≡ Some (length s)
  unfolding name_width
  whole h = rw (leading-whole name_byte s (name-bytes s h), h)

  pub whole-name : option_eq eqb (name_width s) (Some (length s)) ≡ name_ok s
  whole-name = go (name_ok s) refl
    where
      go : (b : Bool) → name_ok s ≡ b → option_eq eqb (name_width s) (Some (length s)) ≡ b
      go true h = rw (whole h, eq-eqb (length s) (length s) refl)
      go false h = not_whole (name_width s) refl
        where
          not_whole : (o : Option ℕ) → name_width s ≡ o → option_eq eqb o (Some (length s)) ≡ false
          not_whole None k = refl
          not_whole (Some w) k =
              ne_eqb w (length s)
              (λ q. false≢true (sym h ∙ rw (take_all (length s) s (omega arith)) at (rw q at (name-at w k))))
