-- What a text begins with: a name, a number.
use Rattle.std.specs.Prelude.{◌≡◌, Bool, cond, List, [], ◌∷◌, ℕ, ◌≤◌, length, Option, Some, None}
use Rattle.text.specs.Fields.{name_byte, name_ok, digit_byte, value, number_ok}
use Rattle.lines.specs.declared.tokens.Leading.{Leading}

-- All bytes of s before the first that fails the test.
unfoldable pub leading : (ℕ → Bool) → List ℕ → List ℕ
leading f [] = []
leading f (x ∷ s) = cond (f x) (x ∷ leading f s) []

-- How many name bytes s begins with, where they keep the name rule.
unfoldable pub name_width : List ℕ → Option ℕ
name_width s = cond (name_ok (leading name_byte s)) (Some (length (leading name_byte s))) None

-- The value of the digits that s begins with and how many they are, where they keep the number rule.
unfoldable pub leading_number : List ℕ → Option Leading
leading_number s =
    cond (number_ok (leading digit_byte s)) (Some (record { value = value (leading digit_byte s); width = length (leading digit_byte s) })) None

-- s begins with w digits of the value v, and with no more.
pub record Digits (s : List ℕ) (v w : ℕ) : Type 0 where
  pub within : w ≤ length s
  pub width : w ≡ length (leading digit_byte s)
  pub is : v ≡ value (leading digit_byte s)
  pub small : v ≤ 65535
