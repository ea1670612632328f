-- An array of parts that a closure makes, one for each index, where no call changes the closure.
use mathlib.Core.Path.{◌≡◌, sym, subst, ◌∙◌}
use mathlib.Core.List.{List, [], ◌∷◌}
use Prim.Native.Nat.{ℕ, zero, suc, ◌+◌, ◌≤◌, ◌<◌}
use native.Mathlib.Omega.{arith}
use native.Mathlib.Decide.{dec_lt}
use lib.ListN.{length, get_or, length-map}
use lib.Seq.{ext_get_or}
use denote.Param.Members.{Mut}
use Rattle.std.specs.Borrow.{Bor}
use Rattle.std.specs.Fn.{Called}
use Rattle.std.specs.Array.{IsFromFnResult, IsFromFnResultFrom}
use Rattle.std.proofs.lemmas.List.{get_or-map}
use Rattle.theory.specs.Bounded.{tabulate}
use Rattle.theory.proofs.Bounded.{length-tabulate, get_d_tabulate_zero}
use Rattle.names.specs.LentNames.{texts}

module _ {F : Type 0} (g : Mut F (ℕ × Unit {0}) (Bor (List ℕ))) (f : F) (h : ℕ → List ℕ)
    (call : (i : ℕ) (y : Bor (List ℕ)) (q : F) → Called g f (i, tt) y q → (q ≡ f) × (y.now ≡ h i)) where
  each : (ys : List (Bor (List ℕ))) (i n : ℕ) → IsFromFnResultFrom g f ys i n → (k : ℕ) (d : Bor (List ℕ)) → i ≤ k → k < i + n → (get_or ys k d).now ≡ h k
  each ys i zero w k d l m = absurd (omega arith)
  each ys i (suc n) w k d l m =
      let one = call i w.1 w.0 w.3 in
      elim (dec_lt i k) [
        | yes p ↦ each ys (i + 1) n (subst (λ (x : F). IsFromFnResultFrom g x ys (i + 1) n) one.0 w.4) k d (omega arith) (omega arith)
        | no p ↦ let e : i ≡ k = omega arith in subst (λ j. (get_or ys j d).now ≡ h j) e (subst (λ (y : Bor (List ℕ)). y.now ≡ h i) (sym (w.2.1 d)) one.1)
      ]

  at : (ys : List (Bor (List ℕ))) (n : ℕ) → length ys ≡ n → IsFromFnResultFrom g f ys 0 n → (k : ℕ) → k < length (texts ys)
      → get_or (texts ys) k [] ≡ get_or (tabulate h 0 n) k []
  at [] n e v k l = absurd (omega arith)
  at (y ∷ ys) n e v k l =
      let m : k < length (y ∷ ys) = omega (arith, length-map ys (λ (x : Bor (List ℕ)). x.now)) in
      get_or-map (λ (x : Bor (List ℕ)). x.now) (y ∷ ys) k y [] m ∙ each (y ∷ ys) 0 n v k y (omega arith) (omega arith) ∙ sym (get_d_tabulate_zero h n k [] (omega arith))

  -- The parts that the calls gave are a list by index.
  pub texts_made : (ys : List (Bor (List ℕ))) (n : ℕ) → IsFromFnResult g f ys n → texts ys ≡ tabulate h 0 n
  texts_made ys n w =
      let e : length (texts ys) ≡ n = length-map ys (λ (x : Bor (List ℕ)). x.now) ∙ w.long in
      ext_get_or [] (texts ys) (tabulate h 0 n) (e ∙ sym (length-tabulate h 0 n)) (at ys n w.long w.each)
