-- Rows without fault, told at once: the limits of the actions, and the test of a row.
use Rattle.std.proofs.Common.{◌≡◌, ℕ, ◌+◌, ◌-◌, ◌*◌, ◌/◌, ◌^◌, ◌<◌, min, Bool, true, false, cond, not, ◌&&◌, ◌||◌, ltb, leb, List, length, get_or, sym, refl, ◌∙◌, ap₂, add-one, arith, le-ltb, lt-ltb, eq-eqb, ne_eqb, leb-false}
use native.Mathlib.Decide.{ℕ_discrete, dec_lt}
use lib.Arith.{digits_mod}
use borrow.Author.Tests.{not-true}
use Rattle.theory.specs.Bounded.{any, tabulate}
use Rattle.theory.specs.Table.{member}
use Rattle.theory.specs.Checks.{stray}
use Rattle.theory.proofs.Bounded.{length-tabulate}
use Rattle.theory.proofs.Filled.{filled_of}
use Rattle.theory.proofs.Lowest.{none-at, none_below}
use Rattle.table.specs.Faults.{fault, fault_at, limit, stray_in, SoundBefore}
use Rattle.table.proofs.FaultyRows.{within, sound-same}

-- ---- limits

pub limits_many : (n acts : ℕ) (below : List ℕ) → below ≡ tabulate (limit n acts) 0 32 → length below ≡ 32
limits_many n acts below e = rw e (length-tabulate (limit n acts) 0 32)

-- ---- is_row_faulty

module _ (f : ℕ → Bool) where
  pub row-start : false ≡ any 0 f
  unfolding any
  row-start = refl

  pub row_on : (a : ℕ) (faulty r : Bool) → faulty ≡ any a f → r ≡ f a → (faulty || r) ≡ any (a + 1) f
  unfolding any
  row_on a faulty r e g = rw (add-one a) (ap₂ ◌||◌ e g)

  pub row-end : (a : ℕ) (faulty : Bool) → faulty ≡ any a f → a ≡ 32 → faulty ≡ any 32 f
  row-end a faulty e h = rw (← h) e

-- A step below the action's limit is no fault: b says whether the action is in a list.
low_step : (n cell : ℕ) (b : Bool) → leb (cond b n 0) cell ≡ false → (leb n cell ≡ false) × ((ltb cell n && not b) ≡ false)
low_step n cell true e = (e, rw (lt-ltb cell n (leb-false n cell e)))
low_step n cell false e = absurd (omega (arith, leb-false 0 cell e))

-- A cell within its action's limit is at fault by neither check.
limited : (six : Bool) (n acts cell a : ℕ) → n < 2 ^ 16 → stray (limit n acts a) cell ≡ false → fault six n acts cell a ≡ false
limited six n acts cell a small e = elim (ℕ_discrete cell 65535) [
  | yes q ↦ blank six q
  | no d ↦ filled six d (rw (ne_eqb cell 65535 d) at e)
]
  where
    blank : (six : Bool) → cell ≡ 65535 → fault six n acts cell a ≡ false
    blank false q = rw (eq-eqb cell 65535 q)
    blank true q = rw (le-ltb cell n (omega arith))

    filled : (six : Bool) → (cell ≡ 65535 → ⊥) → leb (limit n acts a) cell ≡ false → fault six n acts cell a ≡ false
    filled false d l = rw (ne_eqb cell 65535 d) (low_step n cell (member acts a) l).0
    filled true d l = (low_step n cell (member acts a) l).1

-- ---- a row that the walk passes over

module _ (cells below : List ℕ) (n acts count row noted : ℕ) (r : Bool) (small : n < 2 ^ 16) (in_rows : row < count) (rows : count ≡ length cells / 32)
    (limits : below ≡ tabulate (limit n acts) 0 32) (told : r ≡ any 32 (stray_in below cells row)) (fine : not r ≡ true) where
  row-sound : (six : Bool) (a : ℕ) → a < 32 → fault_at six n acts cells (row * 32 + a) ≡ false
  row-sound six a low =
      let in_row : row * 32 + a < length cells = omega arith in
      let cell : stray_in below cells row a ≡ false = none-at _ 32 (sym told ∙ not-true r fine) a low in
      rw (digits_mod row low, within cells (row * 32 + a) 65535 0 in_row)
      (limited six n acts (get_or cells (row * 32 + a) 0) a small (rw (filled_of 0 (limit n acts) below 32 limits a low) at cell))

  pub pass_row : (six : Bool) → any (row * 32) (fault_at six n acts cells) ≡ false → any ((row + 1) * 32) (fault_at six n acts cells) ≡ false
  pass_row six before = none_below _ ((row + 1) * 32) (λ k h. elim (dec_lt k (row * 32)) [
    | yes l ↦ none-at _ (row * 32) before k l
    | no g ↦ let e : k ≡ row * 32 + (k - row * 32) = omega arith in rw e (row-sound six (k - row * 32) (omega arith))
  ])

  pub pass_sound : SoundBefore n acts cells (min row noted) → SoundBefore n acts cells (min (row + 1) noted)
  pass_sound s = elim (dec_lt row noted) [
    | yes l ↦ sound-same n acts cells (row + 1) (min (row + 1) noted) (omega arith) (record {
      within = omega arith;
      sound = λ six. pass_row six ((sound-same n acts cells (min row noted) row (omega arith) s).sound six);
    })
    | no g ↦ sound-same n acts cells (min row noted) (min (row + 1) noted) (omega arith) s
  ]
