-- Lines made of their fields.
use mathlib.Core.Path.{◌≡◌, sym, ap, ◌∙◌}
use mathlib.Core.List.{List, [], ◌∷◌, ◌++◌, append_assoc}
use Prim.Native.Nat.{ℕ, ◌+◌, ◌≤◌, ◌<◌}
use native.Mathlib.Omega.{arith}
use lib.ListN.{length, length-append}
use Rattle.text.specs.declared.Role.{Role}
use Rattle.text.specs.declared.Role.TheVariants.{Input, Output}
use Rattle.text.specs.Lines.{table_word, role_word, step_word}
use Rattle.text.specs.Writing.{decimal, tabbed, printed}
use Rattle.emit.specs.Buffer.{after, stored}
use Rattle.emit.specs.Rows.{table_text, signal_text, step_text}
use Rattle.emit.proofs.Buffer.{Puts, puts_then, length-stored}
use Rattle.emit.proofs.Decimal.{decimal_most}

-- A line is its first field with a tab, then a line of the others.
line_cons : (f g : List ℕ) (fs : List (List ℕ)) → printed ((f ∷ g ∷ fs) ∷ []) ≡ (f ++ 9 ∷ []) ++ printed ((g ∷ fs) ∷ [])
unfolding tabbed printed
line_cons f g fs = append_assoc f (9 ∷ tabbed (g ∷ fs)) (10 ∷ []) ∙ sym (append_assoc f (9 ∷ []) (tabbed (g ∷ fs) ++ 10 ∷ []))

module _ (d : List ℕ) (at : ℕ) where
  -- A line of one field is put, and one of more.
  line-one : (f : List ℕ) (r : ℕ) (b : List ℕ) → Puts d at (f ++ 10 ∷ []) r b → Puts d at (printed ((f ∷ []) ∷ [])) r b
  unfolding tabbed printed
  line-one f r b p = p

  line-more : (f g : List ℕ) (fs : List (List ℕ)) (r r' : ℕ) (b b' : List ℕ)
      → Puts d at (f ++ 9 ∷ []) r b → Puts b r (printed ((g ∷ fs) ∷ [])) r' b' → Puts d at (printed ((f ∷ g ∷ fs) ∷ [])) r' b'
  line-more f g fs r r' b b' p q = rw (line_cons f g fs) (puts_then d at (f ++ 9 ∷ []) (printed ((g ∷ fs) ∷ [])) r r' b b' p q)

pub line-two : (d : List ℕ) (at : ℕ) (f g : List ℕ) (r r' : ℕ) (b b' : List ℕ)
    → Puts d at (f ++ 9 ∷ []) r b → Puts b r (g ++ 10 ∷ []) r' b' → Puts d at (printed ((f ∷ g ∷ []) ∷ [])) r' b'
line-two d at f g r r' b b' p q = line-more d at f g [] r r' b b' p (line-one b r g r' b' q)

pub line_four : (d : List ℕ) (at : ℕ) (f g h i : List ℕ) (r₁ r₂ r₃ r₄ : ℕ) (b₁ b₂ b₃ b₄ : List ℕ)
    → Puts d at (f ++ 9 ∷ []) r₁ b₁ → Puts b₁ r₁ (g ++ 9 ∷ []) r₂ b₂ → Puts b₂ r₂ (h ++ 9 ∷ []) r₃ b₃ → Puts b₃ r₃ (i ++ 10 ∷ []) r₄ b₄
    → Puts d at (printed ((f ∷ g ∷ h ∷ i ∷ []) ∷ [])) r₄ b₄
line_four d at f g h i r₁ r₂ r₃ r₄ b₁ b₂ b₃ b₄ p q v w =
    line-more d at f g (h ∷ i ∷ []) r₁ r₄ b₁ b₄ p (line-more b₁ r₁ g h (i ∷ []) r₂ r₄ b₂ b₄ q (line-two b₂ r₂ h i r₃ r₄ b₃ b₄ v w))

pub signal_put : (role : Role) (d : List ℕ) (at : ℕ) (name : List ℕ) (r r' : ℕ) (b b' word : List ℕ) → word ≡ role_word role
    → Puts d at (word ++ 9 ∷ []) r b → Puts b r (name ++ 10 ∷ []) r' b' → Puts d at (signal_text role name) r' b'
signal_put role d at name r r' b b' word e p q = line-two d at (role_word role) name r r' b b' (rw e at p) q

-- ---- how long the lines are

line-size : (f g : List ℕ) (fs : List (List ℕ)) → length (printed ((f ∷ g ∷ fs) ∷ [])) ≡ length f + 1 + length (printed ((g ∷ fs) ∷ []))
line-size f g fs = ap length (line_cons f g fs) ∙ length-append (f ++ 9 ∷ []) (printed ((g ∷ fs) ∷ [])) ∙ rw (length-append f (9 ∷ []))

line-end : (f : List ℕ) → length (printed ((f ∷ []) ∷ [])) ≡ length f + 1
unfolding tabbed printed
line-end f = length-append f (10 ∷ [])

pub table-long : (name : List ℕ) (states initial : ℕ) → length name + length (decimal states) + length (decimal initial) + 9 ≡ length (table_text name states initial)
table-long name states initial =
    omega (
      arith,
      line-size table_word name (decimal states ∷ decimal initial ∷ []),
      line-size name (decimal states) (decimal initial ∷ []),
      line-size (decimal states) (decimal initial) [],
      line-end (decimal initial),
    )

pub signal-long : (role : Role) (name : List ℕ) → length (role_word role) + length name + 2 ≡ length (signal_text role name)
signal-long role name = omega (arith, line-size (role_word role) name [], line-end name)

pub word_most : (role : Role) → length (role_word role) ≤ 3
word_most Input = omega arith
word_most Output = omega arith

pub step-long : (from : ℕ) (name : List ℕ) (to : ℕ) → length name + length (decimal from) + length (decimal to) + 8 ≡ length (step_text from name to)
step-long from name to =
    omega (
      arith,
      line-size step_word (decimal from) (name ∷ decimal to ∷ []),
      line-size (decimal from) name (decimal to ∷ []),
      line-size name (decimal to) [],
      line-end (decimal to),
    )

-- ---- the fields of a step, where there is room

-- A field and the byte that ends it were put into d, whole.
abbrev Ended : List ℕ → ℕ → List ℕ → ℕ → ℕ → List ℕ → Type 0
Ended d at s end r b = record { value : r ≡ at + length s + 1; d_after : b ≡ stored d at (s ++ end ∷ []) }

ended_puts : (d : List ℕ) (at : ℕ) (s : List ℕ) (end r : ℕ) (b : List ℕ) → Ended d at s end r b → at + length s < length d → Puts d at (s ++ end ∷ []) r b
unfolding after
ended_puts d at s end r b w h = record { value = omega (arith, w.value, length-append s (end ∷ [])); d_after = w.d_after }

ended-length : (d : List ℕ) (at : ℕ) (s : List ℕ) (end r : ℕ) (b : List ℕ) → Ended d at s end r b → length b ≡ length d
ended-length d at s end r b w = ap length w.d_after ∙ length-stored d at (s ++ end ∷ [])

module _ (d : List ℕ) (at : ℕ) (name : List ℕ) (from : ℕ) (room : at + length name + 18 ≤ length d) (i j : ℕ) (b₁ b₂ : List ℕ)
    (word : Ended d at step_word 9 i b₁) (source : Ended b₁ i (decimal from) 9 j b₂) where
  pub name-room : j + length name < length b₂
  name-room = omega (arith, word.value, source.value, decimal_most from, ended-length d at step_word 9 i b₁ word, ended-length b₁ i (decimal from) 9 j b₂ source)

  module _ (k : ℕ) (b₃ : List ℕ) (signal : Ended b₂ j name 9 k b₃) where
    pub target_room : k + 6 ≤ length b₃
    target_room =
        omega (arith, word.value, source.value, signal.value, decimal_most from, ended-length d at step_word 9 i b₁ word, ended-length b₁ i (decimal from) 9 j b₂ source, ended-length b₂ j name 9 k b₃ signal)

    pub step_put : (to r : ℕ) (b₄ : List ℕ) → Ended b₃ k (decimal to) 10 r b₄ → Puts d at (step_text from name to) r b₄
    step_put to r b₄ target =
        line_four d at step_word (decimal from) name (decimal to) i j k r b₁ b₂ b₃ b₄
        (ended_puts d at step_word 9 i b₁ word (omega arith))
        (ended_puts b₁ i (decimal from) 9 j b₂ source (omega (arith, word.value, decimal_most from, ended-length d at step_word 9 i b₁ word)))
        (ended_puts b₂ j name 9 k b₃ signal name-room)
        (ended_puts b₃ k (decimal to) 10 r b₄ target (omega (arith, target_room, decimal_most to)))
