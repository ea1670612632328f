-- Texts put into a buffer one after the other, where places are counted on past the buffer's end.
use mathlib.Core.Path.{◌≡◌, refl, sym, ap, ◌∙◌}
use mathlib.Core.List.{List, [], ◌++◌}
use Prim.Native.Nat.{ℕ, ◌+◌, ◌^◌, ◌<◌}
use native.Mathlib.Omega.{arith}
use lib.ListN.{length, length-append}
use Rattle.emit.specs.Buffer.{stored}
use Rattle.emit.proofs.Buffer.{length-stored, stored-append}

-- s was put into d at a place: the place after it is r, and the buffer is then b.
abbrev pub Counts : List ℕ → ℕ → List ℕ → ℕ → List ℕ → Type 0
Counts d at s r b = record { value : r ≡ at + length s; out_after : b ≡ stored d at s }

pub counts_none : (d : List ℕ) (at : ℕ) → Counts d at [] at d
unfolding stored
counts_none d at = let z : at ≡ at + 0 = omega arith in record { value = z; out_after = refl }

pub counts_then : (d : List ℕ) (at : ℕ) (s t : List ℕ) (r r' : ℕ) (b b' : List ℕ) → Counts d at s r b → Counts b r t r' b' → Counts d at (s ++ t) r' b'
counts_then d at s t r r' b b' w v =
    record {
      value = omega (arith, w.value, v.value, length-append s t);
      out_after = v.out_after ∙ rw (w.out_after, w.value) (sym (stored-append d at s t));
    }

-- What is left of a text, put after what stands there, gives the whole.
pub record Left (d₀ : List ℕ) (at₀ : ℕ) (whole d : List ℕ) (at : ℕ) (rest : List ℕ) : Type 0 where
  pub size : length d ≡ length d₀
  pub ends : at + length rest ≡ at₀ + length whole
  pub text : stored d at rest ≡ stored d₀ at₀ whole

pub left-all : (d : List ℕ) (at : ℕ) (whole rest : List ℕ) → whole ≡ rest → Left d at whole d at rest
left-all d at whole rest e = record { size = refl; ends = ap (λ l. at + length l) (sym e); text = ap (stored d at) (sym e) }

module _ (d₀ : List ℕ) (at₀ : ℕ) (whole d : List ℕ) (at : ℕ) (rest : List ℕ) (l : Left d₀ at₀ whole d at rest) where
  pub left-next : (s t : List ℕ) (r : ℕ) (b : List ℕ) → rest ≡ s ++ t → Counts d at s r b → Left d₀ at₀ whole b r t
  left-next s t r b e w = record {
    size = ap length w.out_after ∙ length-stored d at s ∙ l.size;
    ends = omega (arith, l.ends, ap length e, length-append s t, w.value);
    text = rw (w.out_after, w.value) (sym (stored-append d at s t) ∙ (rw e at l.text));
  }

  pub left-none : rest ≡ [] → Counts d₀ at₀ whole at d
  unfolding stored
  left-none e = record { value = omega (arith, l.ends, ap length e); out_after = rw e at l.text }

  -- The end of the next part fits a number of 64 bits, since that of the whole does.
  pub left-room : (s t : List ℕ) → rest ≡ s ++ t → at₀ + length whole < 2 ^ 64 → at + length s < 2 ^ 64
  left-room s t e h = omega (arith, l.ends, ap length e, length-append s t)
