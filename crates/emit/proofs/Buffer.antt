-- Texts put into a buffer one after the other.
use mathlib.Core.Path.{◌≡◌, refl, sym, ap, ◌∙◌}
use mathlib.Core.List.{List, [], ◌∷◌, ◌++◌, append_assoc}
use Prim.Native.Nat.{ℕ, suc, ◌+◌, ◌-◌, ◌≤◌, ◌<◌, min}
use native.Mathlib.Decide.{dec_le}
use native.Mathlib.Nat.{add-suc}
use native.Mathlib.Numerals.{add-one}
use native.Mathlib.Omega.{arith}
use lib.ListN.{length, take, drop, get_or, set, length-append, length-set, take-append-drop, drop_of_length-le}
use lib.Seq.{drop-cons, set_out, sets, sets-eq, length-take-le}
use borrow.Rule.Slice.PartMut.{put_mid, Post-is}
use Rattle.emit.specs.Buffer.{stored, after}

pub length-stored : (d : List ℕ) (at : ℕ) (s : List ℕ) → length (stored d at s) ≡ length d
unfolding stored
length-stored d at [] = refl
length-stored d at (x ∷ s) = length-stored (set d at x) (suc at) s ∙ length-set d at x

pub stored-append : (d : List ℕ) (at : ℕ) (s t : List ℕ) → stored d at (s ++ t) ≡ stored (stored d at s) (at + length s) t
unfolding stored
stored-append d at [] t = ap (λ (k : ℕ). stored d k t) (omega arith)
stored-append d at (x ∷ s) t =
    stored-append (set d at x) (suc at) s t ∙ ap (λ (k : ℕ). stored (stored (set d at x) (suc at) s) k t) (omega arith)

-- Past the buffer's end nothing is stored.
stored_beyond : (d : List ℕ) (at : ℕ) (s : List ℕ) → length d ≤ at → stored d at s ≡ d
unfolding stored
stored_beyond d at [] h = refl
stored_beyond d at (x ∷ s) h = rw (set_out d at x h) (stored_beyond d (suc at) s (omega arith))

-- ---- two texts in a row

pub after-append : (n at : ℕ) (s t : List ℕ) → after n (after n at s) t ≡ after n at (s ++ t)
unfolding after
after-append n at s t = omega (arith, length-append s t)

pub stored-after : (d : List ℕ) (at : ℕ) (s t : List ℕ) → stored (stored d at s) (after (length d) at s) t ≡ stored d at (s ++ t)
unfolding after
stored-after d at s t = elim (dec_le (at + length s) (length d)) [
  | yes l ↦ let e : at + min (length s) (suc (length d) - at) ≡ at + length s = omega arith in rw e (sym (stored-append d at s t))
  | no g ↦
      let n : length (stored d at s) ≡ length d = length-stored d at s in
      stored_beyond (stored d at s) _ t (omega arith) ∙ sym (stored-append d at s t ∙ stored_beyond (stored d at s) _ t (omega arith))
]

-- s was put into d at a place: the place after it is r, and the buffer is then b.
abbrev pub Puts : List ℕ → ℕ → List ℕ → ℕ → List ℕ → Type 0
Puts d at s r b = record { value : r ≡ after (length d) at s; d_after : b ≡ stored d at s }

pub puts_none : (d : List ℕ) (at : ℕ) → Puts d at [] at d
unfolding after stored
puts_none d at = let z : at ≡ at + min 0 (suc (length d) - at) = omega arith in record { value = z; d_after = refl }

pub puts_then : (d : List ℕ) (at : ℕ) (s t : List ℕ) (r r' : ℕ) (b b' : List ℕ) → Puts d at s r b → Puts b r t r' b' → Puts d at (s ++ t) r' b'
puts_then d at s t r r' b b' w v =
    record {
      value = v.value ∙ rw (w.d_after, length-stored d at s, w.value) (after-append (length d) at s t);
      d_after = v.d_after ∙ rw (w.d_after, w.value) (stored-after d at s t);
    }

-- ---- a copy byte by byte

pub copied_next : (d₀ s d : List ℕ) (at i : ℕ) → i < length s → stored d (at + i) (drop i s) ≡ stored d₀ at s
    → stored (set d (at + i) (get_or s i 0)) (at + (i + 1)) (drop (i + 1) s) ≡ stored d₀ at s
unfolding stored
copied_next d₀ s d at i h e = rw (add-one i, add-suc at i) (rw (drop-cons s i 0 h) at e)

pub copied_all : (d₀ s d : List ℕ) (at i : ℕ) → length s ≤ i → stored d (at + i) (drop i s) ≡ stored d₀ at s → d ≡ stored d₀ at s
unfolding stored
copied_all d₀ s d at i h e = rw (drop_of_length-le s h) at e

-- ---- `put`

module _ (d : List ℕ) (at : ℕ) (s : List ℕ) where
  pub put_beyond : length d < at → Puts d at s at d
  unfolding after
  put_beyond h = record { value = omega arith; d_after = sym (stored_beyond d at s (omega arith)) }

  pub put_cut : at ≤ length d → length d - at < length s → (b : List ℕ) → b ≡ stored d at (take (length d - at) s) → Puts d at s (length b + 1) b
  unfolding after
  put_cut h k b e =
      let n : length (take (length d - at) s) ≡ length d - at = length-take-le _ s (omega arith) in
      let m : length (stored d at (take (length d - at) s)) ≡ length d = length-stored d at _ in
      record {
        value = omega (arith, ap length e);
        d_after =
            e ∙ sym (
            ap (stored d at) (sym (take-append-drop (length d - at) s)) ∙ stored-append d at (take (length d - at) s) (drop (length d - at) s)
            ∙ stored_beyond _ _ (drop (length d - at) s) (omega arith));
      }

  pub put_whole : at ≤ length d → length s ≤ length d - at → (b : List ℕ) → b ≡ stored d at s → Puts d at s (at + length s) b
  unfolding after
  put_whole h k b e = record { value = omega arith; d_after = e }

-- ---- a text for which there is room

stored_sets : (d : List ℕ) (at : ℕ) (s : List ℕ) → stored d at s ≡ sets d at s
unfolding stored
stored_sets d at [] = refl
stored_sets d at (x ∷ s) = stored_sets (set d at x) (suc at) s

stored-part : (d : List ℕ) (at : ℕ) (s : List ℕ) → at + length s ≤ length d → stored d at s ≡ take at d ++ s ++ drop (at + length s) d
stored-part d at s h = stored_sets d at s ∙ sets-eq s d at h

-- A part of the buffer that was lent comes back with s.
pub stored-lent : (d : List ℕ) (at e : ℕ) (s : List ℕ) → e ≡ at + length s → e ≤ length d → put_mid at (e - at) d s ≡ stored d at s
stored-lent d at e s f h = rw (Post-is at e d (omega arith), f) (sym (append_assoc (take at d) s _) ∙ sym (stored-part d at s (omega arith)))

-- A text stored from the first place on.
pub stored_front : (d s : List ℕ) → length s ≤ length d → stored d 0 s ≡ s ++ drop (length s) d
stored_front d s h = let z : 0 + length s ≡ length s = omega arith in stored-part d 0 s (omega arith) ∙ rw z

-- A text stored with the byte that ends it.
pub stored-ended : (d b : List ℕ) (at : ℕ) (s : List ℕ) (i end : ℕ) → b ≡ stored d at s → i ≡ at + length s → set b i end ≡ stored d at (s ++ end ∷ [])
unfolding stored
stored-ended d b at s i end e f = rw (e, f) (sym (stored-append d at s (end ∷ [])))
