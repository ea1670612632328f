-- Values that are put at places one after the other.
use mathlib.Core.Path.{◌≡◌, sym, ap, ◌∙◌}
use mathlib.Core.Bool.{cond}
use Prim.Native.Nat.{ℕ, suc, ◌≤◌, ◌<◌}
use native.Mathlib.Omega.{arith}
use native.Mathlib.Decide.{dec_lt, ℕ_discrete}
use lib.Dec.{ltb}
use borrow.Author.Tests.{lt-ltb, le-ltb}

same_side : (i p : ℕ) → ¬ (i ≡ p) → ltb i p ≡ ltb i (suc p)
same_side i p d = elim (dec_lt i p) [
  | yes l ↦ rw (lt-ltb i p l, lt-ltb i (suc p) (omega arith))
  | no g ↦ rw (le-ltb i p (omega arith), le-ltb i (suc p) (omega arith))
]

-- Each good x has its turn, and its value at its own place.
module _ {K A : Type 0} (turn at : K → ℕ) (value : K → A) (blank : A) (Good : K → Type 0) where
  -- f holds the values of those whose turn was before p, and else blanks.
  pub record Put (p : ℕ) (f : ℕ → A) : Type 0 where
    pub seen : (x : K) → Good x → f (at x) ≡ cond (ltb (turn x) p) (value x) blank
    pub others : (i : ℕ) → ((x : K) → Good x → ¬ (at x ≡ i)) → f i ≡ blank

  pub put_nothing : {f : ℕ → A} → ((i : ℕ) → f i ≡ blank) → Put 0 f
  put_nothing e = record { seen = λ x g. e (at x) ∙ rw (le-ltb (turn x) 0 (omega arith)); others = λ i n. e i }

  module _ {p : ℕ} {f : ℕ → A} (w : Put p f) where
    pub put_blank : (x : K) → Good x → p ≤ turn x → f (at x) ≡ blank
    put_blank x g h = w.seen x g ∙ rw (le-ltb (turn x) p h)

    pub put_value : (x : K) → Good x → turn x < p → f (at x) ≡ value x
    put_value x g h = w.seen x g ∙ rw (lt-ltb (turn x) p h)

    -- After the turn of one without a value f is the same.
    pub put_skip : ((x : K) → Good x → turn x ≡ p → value x ≡ blank) → Put (suc p) f
    put_skip none = record {
      seen = λ x g. elim (ℕ_discrete (turn x) p) [
        | yes e ↦ put_blank x g (omega arith) ∙ sym (none x g e) ∙ rw (lt-ltb (turn x) (suc p) (omega arith))
        | no d ↦ w.seen x g ∙ ap (λ b. cond b (value x) blank) (same_side (turn x) p d)
      ];
      others = w.others;
    }

    -- After the turn of x its value stands at its place.
    pub put_next : {f' : ℕ → A} (x : K) → Good x → turn x ≡ p → ((y : K) → Good y → at y ≡ at x → y ≡ x) → ((y : K) → Good y → turn y ≡ p → y ≡ x)
        → f' (at x) ≡ value x → ((i : ℕ) → ¬ (i ≡ at x) → f' i ≡ f i) → Put (suc p) f'
    put_next {f'} x g e apart only here there = record {
      seen = λ y h. elim (ℕ_discrete (at y) (at x)) [
        | yes q ↦ rw (apart y h q) (here ∙ rw (lt-ltb (turn x) (suc p) (omega arith)))
        | no d ↦ there (at y) d ∙ w.seen y h ∙ ap (λ b. cond b (value y) blank) (same_side (turn y) p (λ q. d (ap at (only y h q))))
      ];
      others = λ i n. there i (λ q. n x g (sym q)) ∙ w.others i n;
    }
