-- Laws of the bytes that a text begins with and that pass a test.
use mathlib.Core.Path.{◌≡◌, refl, sym, ap, ◌∙◌}
use mathlib.Core.Bool.{Bool, true, false, ◌&&◌, cond}
use mathlib.Core.List.{List, [], ◌∷◌}
use Prim.Native.Nat.{ℕ, ◌+◌, ◌≤◌, ◌<◌}
use native.Mathlib.Omega.{arith}
use lib.ListN.{length, take, drop, get_or, drop_of_length-le}
use lib.Seq.{get_or-take}
use Rattle.text.specs.Fields.{all}
use Rattle.lines.specs.Leading.{leading}
use Rattle.lines.proofs.Bytes.{drop-step}

module _ (f : ℕ → Bool) where
  pub leading-all : (s : List ℕ) → all f (leading f s) ≡ true
  unfolding leading all
  leading-all [] = refl
  leading-all (x ∷ s) = go (f x) refl (leading-all s)
    where
      go : (b : Bool) → f x ≡ b → all f (leading f s) ≡ true → all f (cond b (x ∷ leading f s) []) ≡ true
      go true e h = rw e h
      go false e h = refl

  pub leading-take : (s : List ℕ) → take (length (leading f s)) s ≡ leading f s
  unfolding leading
  leading-take [] = refl
  leading-take (x ∷ s) = go (f x) (leading-take s)
    where
      go : (b : Bool) → take (length (leading f s)) s ≡ leading f s
          → take (length (cond b (x ∷ leading f s) [])) (x ∷ s) ≡ cond b (x ∷ leading f s) []
      go true h = ap (λ (l : List ℕ). x ∷ l) h
      go false h = refl

  pub leading-first : (s : List ℕ) → 1 ≤ length (leading f s) → get_or (leading f s) 0 0 ≡ get_or s 0 0
  leading-first s h = sym (ap (λ (l : List ℕ). get_or l 0 0) (leading-take s)) ∙ get_or-take (length (leading f s)) s 0 0 h

  -- All of s, where all bytes pass.
  pub leading-whole : (s : List ℕ) → all f s ≡ true → leading f s ≡ s
  unfolding leading all
  leading-whole [] e = refl
  leading-whole (x ∷ s) e = go (f x) (leading-whole s) e
    where
      go : (b : Bool) → (all f s ≡ true → leading f s ≡ s) → (b && all f s) ≡ true → cond b (x ∷ leading f s) [] ≡ x ∷ s
      go true h e = ap (λ (l : List ℕ). x ∷ l) (h e)
      go false h e = absurd (let o : ◌≡◌ {A = ℕ} 0 1 = cc in omega arith)

  -- From the byte i on: one more byte passes, it fails, there is none.
  module _ (s : List ℕ) (i : ℕ) where
    pub leading-on : i < length s → f (get_or s i 0) ≡ true → leading f (drop i s) ≡ get_or s i 0 ∷ leading f (drop (i + 1) s)
    unfolding leading
    leading-on h e = rw (drop-step s i h, e)

    pub leading-stop : i < length s → f (get_or s i 0) ≡ false → leading f (drop i s) ≡ []
    unfolding leading
    leading-stop h e = rw (drop-step s i h, e)

    pub leading_end : length s ≤ i → leading f (drop i s) ≡ []
    unfolding leading
    leading_end h = rw (drop_of_length-le s {i = i} h)
