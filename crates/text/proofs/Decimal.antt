-- A number that is written is read back (01, "Table text": decimal numbers).
use mathlib.Core.Path.{◌≡◌, refl, sym, ◌∙◌}
use mathlib.Core.Bool.{Bool, true, false, not, ◌&&◌, ◌||◌}
use mathlib.Core.List.{List, [], ◌∷◌, ◌++◌}
use Prim.Native.Nat.{ℕ, zero, suc, ◌+◌, ◌-◌, ◌*◌, ◌/◌, ◌%◌, ◌^◌, ◌≤◌, ◌<◌}
use native.Mathlib.Nat.{pow-suc}
use native.Mathlib.Omega.{arith}
use native.Mathlib.Decide.{dec_lt, ℕ_discrete}
use lib.Dec.{eqb}
use lib.ListN.{length, get_or, length-append, get_or-append}
use borrow.Author.Tests.{eq-eqb, ne_eqb, le-leb, lt-ltb, le-ltb}
use Rattle.std.specs.Prelude.{Some}
use Rattle.text.specs.Fields.{all, digit_byte, value_from, value, number_ok, number}
use Rattle.text.specs.Writing.{digits_of, decimal}

pub value-append : (v : ℕ) (s : List ℕ) (x : ℕ) → value_from v (s ++ x ∷ []) ≡ value_from v s * 10 + (x - 48)
unfolding value_from
value-append v [] x = refl
value-append v (y ∷ s) x = value-append (v * 10 + (y - 48)) s x

pub all_append : (f : ℕ → Bool) (s t : List ℕ) → all f (s ++ t) ≡ (all f s && all f t)
unfolding all
all_append f [] t = refl
all_append f (x ∷ s) t = rw (all_append f s t) (go (f x))
  where
    go : (b : Bool) → (b && (all f s && all f t)) ≡ (b && all f s && all f t)
    go true = refl
    go false = refl

last-digit : (n : ℕ) → all digit_byte ((48 + n % 10) ∷ []) ≡ true
unfolding all digit_byte
last-digit n = rw (le-leb 48 (48 + n % 10) (omega arith), le-leb (48 + n % 10) 57 (omega arith))

-- What the text s of the number n, with at most k + 1 digits, is.
pub record Digits (k n : ℕ) (s : List ℕ) : Type 0 where
  pub some : 1 ≤ length s
  pub few : length s ≤ k + 1
  pub digits : all digit_byte s ≡ true
  pub is : value s ≡ n
  pub lead : 1 < length s → ¬ (get_or s 0 0 ≡ 48)
  pub nonzero : 0 < n → ¬ (get_or s 0 0 ≡ 48)

one : (k n : ℕ) → n < 10 → Digits k n ((48 + n % 10) ∷ [])
unfolding value_from
one k n h = record {
  some = omega arith;
  few = omega arith;
  digits = last-digit n;
  is = omega arith;
  lead = λ l e. omega arith;
  nonzero = λ l e. omega arith;
}

more : (k n : ℕ) (s : List ℕ) → 10 ≤ n → Digits k (n / 10) s → Digits (suc k) n (s ++ (48 + n % 10) ∷ [])
more k n s h w =
    let d = (48 + n % 10) ∷ [] in
    let l : length (s ++ d) ≡ length s + 1 = length-append s d in
    let g : get_or (s ++ d) 0 0 ≡ get_or s 0 0 = get_or-append s d 0 0 w.some in
    record {
      some = omega arith;
      few = omega (arith, w.few);
      digits = all_append digit_byte s d ∙ rw (w.digits, last-digit n);
      is = value-append 0 s (48 + n % 10) ∙ rw w.is (omega arith);
      lead = λ l e. w.nonzero (omega arith) (sym g ∙ e);
      nonzero = λ l e. w.nonzero (omega arith) (sym g ∙ e);
    }

pub digits_of_lem : (k n : ℕ) → n < 10 ^ suc k → Digits k n (digits_of k n)
unfolding digits_of
digits_of_lem zero n h = one zero n h
digits_of_lem (suc k) n h =
    let rest : Digits k (n / 10) (digits_of k (n / 10)) = digits_of_lem k (n / 10) (omega (arith, pow-suc 10 (suc k))) in
    elim (dec_lt n 10) [
      | yes l ↦ rw (lt-ltb n 10 l) (one (suc k) n l)
      | no g ↦ rw (le-ltb n 10 (omega arith)) (more k n (digits_of k (n / 10)) (omega arith) rest)
    ]

-- The digits of a number of 16 bits.
pub decimal-digits : (n : ℕ) → n ≤ 65535 → Digits 4 n (decimal n)
unfolding decimal
decimal-digits n h = digits_of_lem 4 n (omega arith)

pub decimal-value : (n : ℕ) → n ≤ 65535 → value (decimal n) ≡ n
decimal-value n h = (decimal-digits n h).is

pub decimal_ok : (n : ℕ) → n ≤ 65535 → number_ok (decimal n) ≡ true
unfolding number_ok
decimal_ok n h =
    let w : Digits 4 n (decimal n) = decimal-digits n h in
    simp (le-leb 1 (length (decimal n)) w.some, le-leb (length (decimal n)) 5 w.few, w.digits, w.is, le-leb n 65535 h) (lead (decimal n) w)
  where
    lead : (s : List ℕ) → Digits 4 n s → (eqb (length s) 1 || not (eqb (get_or s 0 0) 48)) && true ≡ true
    lead s w = elim (ℕ_discrete (length s) 1) [
      | yes e ↦ rw (eq-eqb (length s) 1 e)
      | no d ↦ rw (ne_eqb (length s) 1 d, ne_eqb (get_or s 0 0) 48 (w.lead (omega (arith, w.some))))
    ]

pub decimal-number : (n : ℕ) → n ≤ 65535 → number (decimal n) ≡ Some n
unfolding number
decimal-number n h = rw (decimal_ok n h, decimal-value n h)
