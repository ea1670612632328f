-- The replies of `fault` and `walk`, one law for each return.
use Rattle.std.proofs.Common.{◌≡◌, ℕ, zero, suc, ◌+◌, ◌*◌, ◌/◌, ◌<◌, ◌≤◌, Bool, true, false, not, leb, List, [], ◌∷◌, length, get_or, sym, refl, ◌∙◌, le_of_suc-le-suc, not-suc-le-zero, arith, le-ltb, lt-ltb, eq-eqb, ne_eqb}
use lib.Arith.{digits_mod}
use Rattle.theory.specs.Bounded.{any, lowest}
use Rattle.theory.specs.Table.{member}
use Rattle.theory.proofs.Lowest.{none-next, none-same, lowest-found, lowest-none}
use Rattle.table.specs.Faults.{fault, fault_at, SoundBefore}

module _ (six : Bool) (n acts cell a : ℕ) where
  pub no_step : six ≡ true → n ≤ cell → false ≡ fault six n acts cell a
  no_step s h = rw (s, le-ltb cell n h)

  pub step : (r : Bool) → six ≡ true → cell < n → r ≡ member acts a → not r ≡ fault six n acts cell a
  step r s h e = rw (s, e, lt-ltb cell n h)

  pub blank : six ≡ false → cell ≡ 65535 → false ≡ fault six n acts cell a
  blank s h = rw (s, eq-eqb cell 65535 h)

  pub filled : six ≡ false → (cell ≡ 65535 → ⊥) → leb n cell ≡ fault six n acts cell a
  filled s h = rw (s, ne_eqb cell 65535 h)

-- Within a list it does not matter what stands beyond it.
pub within : (l : List ℕ) (k c d : ℕ) → k < length l → get_or l k c ≡ get_or l k d
within [] k c d h = absurd (not-suc-le-zero h)
within (x ∷ l) zero c d h = refl
within (x ∷ l) (suc k) c d h = within l k c d (le_of_suc-le-suc h)

-- The same row, written otherwise.
pub sound-same : (n acts : ℕ) (cells : List ℕ) (i j : ℕ) → i ≡ j → SoundBefore n acts cells i → SoundBefore n acts cells j
sound-same n acts cells i j e s = rw e at s

module _ (six : Bool) (cells : List ℕ) (n acts count row a : ℕ) (r : Bool) (low : a < 32) (below : row < count) (rows : count ≡ length cells / 32)
    (before : any (row * 32 + a) (fault_at six n acts cells) ≡ false)
    (reply : r ≡ fault six n acts (get_or cells (row * 32 + a) 0) a) where
  here : fault_at six n acts cells (row * 32 + a) ≡ r
  here =
      let in_row : row * 32 + a < length cells = omega arith in
      rw (digits_mod row low, within cells (row * 32 + a) 65535 0 in_row) (sym reply)

  pub walk-on : r ≡ false → any (row * 32 + (a + 1)) (fault_at six n acts cells) ≡ false
  walk-on e = none-same _ (row * 32 + a + 1) (row * 32 + (a + 1)) (none-next _ (row * 32 + a) before (here ∙ e)) (omega arith)

  pub walk-found : r ≡ true → row * 32 + a ≡ lowest (length cells / 32 * 32) (fault_at six n acts cells)
  walk-found e = lowest-found _ (length cells / 32 * 32) (row * 32 + a) (omega arith) before (here ∙ e)

pub walk_end : (six : Bool) (cells : List ℕ) (n acts count row at : ℕ) → count ≡ length cells / 32 → at ≡ count * 32 → row ≤ count → count ≤ row
    → any (row * 32) (fault_at six n acts cells) ≡ false → at ≡ lowest (length cells / 32 * 32) (fault_at six n acts cells)
walk_end six cells n acts count row at rows e h l before =
    e ∙ rw rows (lowest-none _ (length cells / 32 * 32) (none-same _ (row * 32) (length cells / 32 * 32) before (omega arith)))
