-- A looked-up name and the number of its refusal, as two views of one reply.
use Rattle.std.proofs.Common.{◌≡◌, ℕ, Bool, true, false, cond, List, [], refl, ap, sym, ◌∙◌, ◌+◌, eqb, arith}
use Rattle.std.specs.Prelude.{◌||◌, get_or}
use Rattle.std.specs.Prelude.{Result, Ok, Err}
use Rattle.std.specs.Result.{result_unwrap_or}
use Rattle.std.specs.Borrow.{Bor}
use Rattle.text.specs.declared.Spelling.{Spelling}
use Rattle.text.specs.Reading.{Signal, text_of, Outcome, finished, ended, read_alone, Joint, both, neither, read_both}
use Rattle.text.specs.Lookup.{ample, nobody, declares, signal_of, number_of, lookup, lookup_number, signal_alone, number_alone, lookup_alone, lookup_number_alone}
use Rattle.lines.specs.Places.{forward}
use Rattle.reader.specs.Places.{part_at, name_reply, name_alone_reply}
use Rattle.theory.specs.declared.Rule.{Rule}
use Rattle.theory.specs.declared.Rule.TheVariants as rule
use Rattle.theory.specs.Rules.{rule_number}

-- The number of the rule that a lookup breaks, 0 where it breaks none.
abbrev pub number_in : Result (Bor (List ℕ)) Rule → ℕ
number_in (Ok b) = 0
number_in (Err k) = rule_number k

-- The reply where the signal may be declared or not.
abbrev shown : ℕ × ℕ → ℕ × ℕ → Bool → Signal → Result (Bor (List ℕ)) Rule
shown x y b s = cond b (Ok (part_at x y s)) (Err rule.NoAction)

forward_none : (x : ℕ × ℕ) → forward x 0 ≡ x
forward_none x = let e : x.1 + 0 ≡ x.1 = omega arith in ap (λ n. (x.0, n)) e

-- ---- in two texts, which begin at x and y; d is the empty part at the start of the first

module _ (c : Spelling) (m p : List ℕ) (a : ℕ) (x y : ℕ × ℕ) where
  module _ (d : Bor (List ℕ)) (nothing : d.now ≡ []) (start : d.ref_ptr ≡ x) where
    pub name_view : (result_unwrap_or (name_reply x y (read_both c ample m ample p) a) d).now ≡ (lookup c m p a).name
    unfolding lookup
    name_view = go (read_both c ample m ample p)
      where
        go : (j : Joint) → (result_unwrap_or (name_reply x y j a) d).now ≡ (signal_of j a).name
        go (neither r) = nothing
        go (both u v) =
            elim (declares u a || declares v a)
            as (λ b. (result_unwrap_or (shown x y b (get_or v.signals a nobody)) d).now ≡ (cond b (get_or v.signals a nobody) nobody).name)
            [ true ↦ refl | false ↦ nothing ]

    pub place_view : (result_unwrap_or (name_reply x y (read_both c ample m ample p) a) d).ref_ptr
        ≡ forward (text_of x y (lookup c m p a).text) (lookup c m p a).from
    unfolding lookup
    place_view = go (read_both c ample m ample p)
      where
        go : (j : Joint) → (result_unwrap_or (name_reply x y j a) d).ref_ptr ≡ forward (text_of x y (signal_of j a).text) (signal_of j a).from
        go (neither r) = start ∙ sym (forward_none x)
        go (both u v) =
            elim (declares u a || declares v a)
            as (λ b. (result_unwrap_or (shown x y b (get_or v.signals a nobody)) d).ref_ptr
            ≡ forward (text_of x y (cond b (get_or v.signals a nobody) nobody).text) (cond b (get_or v.signals a nobody) nobody).from)
            [ true ↦ refl | false ↦ start ∙ sym (forward_none x) ]

  pub number_view : number_in (name_reply x y (read_both c ample m ample p) a) ≡ lookup_number c m p a
  unfolding lookup_number
  number_view = go (read_both c ample m ample p)
    where
      go : (j : Joint) → number_in (name_reply x y j a) ≡ number_of j a
      go (neither r) = refl
      go (both u v) =
          elim (declares u a || declares v a)
          as (λ b. ◌≡◌ {A = ℕ} (number_in (shown x y b (get_or v.signals a nobody))) (cond b 0 12))
          [ true ↦ refl | false ↦ refl ]

-- ---- in a text alone, which begins at x

module _ (c : Spelling) (m : List ℕ) (a : ℕ) (x : ℕ × ℕ) where
  module _ (d : Bor (List ℕ)) (nothing : d.now ≡ []) (start : d.ref_ptr ≡ x) where
    pub name_alone_view : (result_unwrap_or (name_alone_reply x (read_alone c ample m) a) d).now ≡ (lookup_alone c m a).name
    unfolding lookup_alone
    name_alone_view = go (read_alone c ample m)
      where
        go : (o : Outcome) → (result_unwrap_or (name_alone_reply x o a) d).now ≡ (signal_alone o a).name
        go (ended r) = nothing
        go (finished u) =
            elim (declares u a)
            as (λ b. (result_unwrap_or (shown x x b (get_or u.signals a nobody)) d).now ≡ (cond b (get_or u.signals a nobody) nobody).name)
            [ true ↦ refl | false ↦ nothing ]

    pub place_alone_view : (result_unwrap_or (name_alone_reply x (read_alone c ample m) a) d).ref_ptr ≡ forward x (lookup_alone c m a).from
    unfolding lookup_alone
    place_alone_view = go (read_alone c ample m)
      where
        same : (n : ℕ) → text_of x x n ≡ x
        same n = elim (eqb n 2) as (λ b. cond b x x ≡ x) [ true ↦ refl | false ↦ refl ]

        go : (o : Outcome) → (result_unwrap_or (name_alone_reply x o a) d).ref_ptr ≡ forward x (signal_alone o a).from
        go (ended r) = start ∙ sym (forward_none x)
        go (finished u) =
            elim (declares u a)
            as (λ b. (result_unwrap_or (shown x x b (get_or u.signals a nobody)) d).ref_ptr
            ≡ forward x (cond b (get_or u.signals a nobody) nobody).from)
            [ true ↦ ap (λ z. forward z (get_or u.signals a nobody).from) (same (get_or u.signals a nobody).text) | false ↦ start ∙ sym (forward_none x) ]

  pub number_alone_view : number_in (name_alone_reply x (read_alone c ample m) a) ≡ lookup_number_alone c m a
  unfolding lookup_number_alone
  number_alone_view = go (read_alone c ample m)
    where
      go : (o : Outcome) → number_in (name_alone_reply x o a) ≡ number_alone o a
      go (ended r) = refl
      go (finished u) =
          elim (declares u a)
          as (λ b. ◌≡◌ {A = ℕ} (number_in (shown x x b (get_or u.signals a nobody))) (cond b 0 12))
          [ true ↦ refl | false ↦ refl ]
