-- The digits of a number: how many there are, and how they come into as many bytes, last digit first.
use mathlib.Core.Path.{◌≡◌, refl, sym, ap, subst, ◌∙◌}
use mathlib.Core.List.{List, [], ◌∷◌, ◌++◌, append_assoc, append-nil}
use Prim.Native.Nat.{ℕ, zero, suc, ◌+◌, ◌-◌, ◌/◌, ◌%◌, ◌≤◌, ◌<◌}
use native.Mathlib.Decide.{dec_lt}
use native.Mathlib.Numerals.{add-one}
use native.Mathlib.Omega.{arith}
use lib.ListN.{length, drop, set, length-append, length-set}
use lib.Seq.{drop-cons, drop-length, drop-set-lt, get_or-set_same}
use borrow.Author.Tests.{lt-ltb, le-ltb}
use borrow.Rule.Slice.PartMut.{put_mid}
use Rattle.text.specs.Writing.{digits_of, decimal}
use Rattle.emit.specs.Buffer.{stored}
use Rattle.emit.proofs.Buffer.{stored-lent, stored-ended}

one-digit : (k n : ℕ) → n < 10 → digits_of k n ≡ (48 + n % 10) ∷ []
unfolding digits_of
one-digit zero n h = refl
one-digit (suc k) n h = rw (lt-ltb n 10 h)

more-digits : (k n : ℕ) → 10 ≤ n → digits_of (suc k) n ≡ digits_of k (n / 10) ++ (48 + n % 10) ∷ []
unfolding digits_of
more-digits k n h = rw (le-ltb n 10 h)

-- ---- how many digits there are

one-long : (k n : ℕ) → n < 10 → length (digits_of k n) ≡ 1
one-long k n h = ap length (one-digit k n h)

more-long : (k n : ℕ) → 10 ≤ n → length (digits_of (suc k) n) ≡ length (digits_of k (n / 10)) + 1
more-long k n h = ap length (more-digits k n h) ∙ length-append (digits_of k (n / 10)) ((48 + n % 10) ∷ [])

few-digits : (k n : ℕ) → length (digits_of k n) ≤ k + 1
unfolding digits_of
few-digits zero n = omega arith
few-digits (suc k) n = elim (dec_lt n 10) [
  | yes l ↦ omega (arith, one-long (suc k) n l)
  | no g ↦ let h : 10 ≤ n = omega arith in omega (arith, more-long k n h, few-digits k (n / 10))
]

pub decimal_most : (n : ℕ) → length (decimal n) ≤ 5
unfolding decimal
decimal_most n = few-digits 4 n

module _ (n : ℕ) where
  pub width_one : n < 10 → 1 ≡ length (decimal n)
  unfolding decimal
  width_one h = sym (one-long 4 n h)

  pub width_two : 10 ≤ n → n < 100 → 2 ≡ length (decimal n)
  unfolding decimal
  width_two g h = let k : n / 10 < 10 = omega arith in omega (arith, more-long 3 n g, one-long 3 (n / 10) k)

  pub width_three : 100 ≤ n → n < 1000 → 3 ≡ length (decimal n)
  unfolding decimal
  width_three g h =
      let m : 10 ≤ n = omega arith in
      let l : 10 ≤ n / 10 = omega arith in
      let k : n / 10 / 10 < 10 = omega arith in
      omega (arith, more-long 3 n m, more-long 2 (n / 10) l, one-long 2 (n / 10 / 10) k)

  more-three : 1000 ≤ n → length (decimal n) ≡ length (digits_of 1 (n / 10 / 10 / 10)) + 3
  unfolding decimal
  more-three g =
      let m : 10 ≤ n = omega arith in
      let l : 10 ≤ n / 10 = omega arith in
      let k : 10 ≤ n / 10 / 10 = omega arith in
      omega (arith, more-long 3 n m, more-long 2 (n / 10) l, more-long 1 (n / 10 / 10) k)

  pub width_four : 1000 ≤ n → n < 10000 → 4 ≡ length (decimal n)
  width_four g h = let k : n / 10 / 10 / 10 < 10 = omega arith in omega (arith, more-three g, one-long 1 (n / 10 / 10 / 10) k)

  pub width-five : 10000 ≤ n → 5 ≡ length (decimal n)
  unfolding digits_of
  width-five g =
      let m : 1000 ≤ n = omega arith in
      let k : 10 ≤ n / 10 / 10 / 10 = omega arith in
      omega (arith, more-three m, more-long 0 (n / 10 / 10 / 10) k)

-- ---- `digits`

-- The last i digits of a number.
pub ending : ℕ → ℕ → List ℕ
ending zero n = []
ending (suc i) n = ending i (n / 10) ++ (48 + n % 10) ∷ []

all_digits : (k n : ℕ) → ending (length (digits_of k n)) n ≡ digits_of k n
unfolding ending digits_of
all_digits zero n = refl
all_digits (suc k) n = elim (dec_lt n 10) [
  | yes l ↦ rw (one-digit (suc k) n l)
  | no g ↦
      let h : 10 ≤ n = omega arith in
      rw (more-long k n h, add-one (length (digits_of k (n / 10))), all_digits k (n / 10)) (sym (more-digits k n h))
]

-- The bytes from i on hold the last digits of n; those of the number left come before them.
pub record Digits (n : ℕ) (d : List ℕ) (left i : ℕ) : Type 0 where
  pub size : length d ≡ length (decimal n)
  pub within : i ≤ length d
  pub whole : ending i left ++ drop i d ≡ decimal n

pub digits-none : (n : ℕ) (d : List ℕ) → length d ≡ length (decimal n) → Digits n d n (length d)
unfolding decimal
digits-none n d e = record {
  size = e;
  within = omega arith;
  whole = rw (drop-length d) (append-nil (ending (length d) n) ∙ rw e (all_digits 4 n));
}

module _ (n : ℕ) (d : List ℕ) (left : ℕ) where
  pub digits-next : (i x : ℕ) → Digits n d left i → 0 < i → x ≡ 48 + left % 10 → Digits n (set d (i - 1) x) (left / 10) (i - 1)
  unfolding ending
  digits-next i x k h e = next (i - 1) (subst (Digits n d left) (let z : i ≡ suc (i - 1) = omega arith in z) k)
    where
      next : (j : ℕ) → Digits n d left (suc j) → Digits n (set d j x) (left / 10) j
      next j k = record {
        size = length-set d j x ∙ k.size;
        within = omega (arith, length-set d j x, k.within);
        whole =
            rw (drop-cons (set d j x) j 0 (omega (arith, length-set d j x, k.within)), get_or-set_same d j x 0 (omega (arith, k.within)), drop-set-lt (suc j) d j x (omega arith), e)
            (sym (append_assoc (ending j (left / 10)) ((48 + left % 10) ∷ []) (drop (suc j) d)) ∙ k.whole);
      }

-- ---- `number_within`

module _ (n w : ℕ) (wide : w ≡ length (decimal n)) (ys : List ℕ) (is : ys ≡ decimal n) (d : List ℕ) (at end : ℕ) where
  -- The digits stand in a part of the buffer that was lent.
  pub number-lent : at + w ≤ length d → set (put_mid at (at + w - at) d ys) (at + w) end ≡ stored d at (decimal n ++ end ∷ [])
  number-lent h =
      stored-ended d (put_mid at (at + w - at) d ys) at (decimal n) (at + w) end (rw is (stored-lent d at (at + w) (decimal n) (ap (λ (k : ℕ). at + k) wide) h)) (ap (λ (k : ℕ). at + k) wide)
