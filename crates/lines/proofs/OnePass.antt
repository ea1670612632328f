-- Laws of a step line that is taken apart in one pass, and of the first line of a text.
use mathlib.Core.Path.{◌≡◌, refl, sym, ap, ◌∙◌}
use mathlib.Core.Bool.{true, false}
use mathlib.Core.List.{List, [], ◌∷◌, ◌++◌, append_assoc}
use Prim.Native.Nat.{ℕ, ◌+◌, ◌≤◌, ◌<◌}
use native.Mathlib.Numerals.{add-one}
use native.Mathlib.Omega.{arith}
use native.Mathlib.Decide.{dec_lt}
use lib.Dec.{eqb, ltb}
use lib.ListN.{length, take, drop, get_or, length-append, take-append-drop}
use lib.Seq.{split_at, length-take-le, take-append_seam}
use borrow.Author.Tests.{lt-ltb, le-ltb, ltb-true, eqb-true}
use Rattle.text.specs.declared.Place.{Place}
use Rattle.text.specs.Fields.{split, upto, matches, name_byte, name_ok, digit_byte, value, number_ok}
use Rattle.text.specs.Lines.{step, refused, step_word, takes_step, step_line, by_kind, parse}
use Rattle.text.proofs.Split.{Free, upto_le, free_cons, free-append, free_all, split-last, split_join, split-some, split-more}
use Rattle.lines.proofs.NameRule.{both, name-bytes, name-at}
use Rattle.lines.proofs.NumberRule.{number_digits, number_at}
use Rattle.lines.proofs.Judging.{is_err_of}
use Rattle.lines.proofs.Meaning.{refused_reply_lem}
use Rattle.lines.specs.Located.{step_name, located, measured, first_line}
use Rattle.lines.specs.OnePass.{is_at, step_read}
use Rattle.lines.specs.Leading.{name_width, leading_number}
use Rattle.lines.specs.declared.Record.{Record}
use Rattle.lines.specs.declared.Record.TheVariants.{Step}
use Rattle.lines.specs.declared.Line.{Line}
use Rattle.lines.specs.declared.tokens.Leading.{Leading}
use Rattle.std.specs.Prelude.{Option, Some, None, Result, Ok, Err, IsErrAnd}
use Rattle.std.specs.Cmp.Lexicographic.{pointwise, same_text}
use Rattle.std.specs.List.{position}
use Rattle.lines.proofs.Bytes.{beyond, beyond-is, found, not_found}
use Rattle.theory.specs.declared.Rule.{Rule}
use Rattle.theory.specs.declared.Rule.TheVariants as rule

-- ---- the line of a step

-- The number l before the byte b.
pub record NumberBefore (b : ℕ) (s : List ℕ) (l : Leading) : Type 0 where
  pub ends : (l.width < length s) × (get_or s l.width 0 ≡ b)
  pub rule : (number_ok (take l.width s) ≡ true) × (value (take l.width s) ≡ l.value)

-- A name of w bytes before the byte b.
pub record NameBefore (b : ℕ) (s : List ℕ) (w : ℕ) : Type 0 where
  pub ends : (w < length s) × (get_or s w 0 ≡ b)
  pub rule : name_ok (take w s) ≡ true

module _ (b : ℕ) (s : List ℕ) where
  ends-at : (i : ℕ) → true ≡ is_at s i b → (i < length s) × (get_or s i 0 ≡ b)
  ends-at i e =
      let k = both (ltb i (length s)) (eqb (get_or s i 0) b) (sym e) in
      (ltb-true i (length s) k.0, eqb-true (get_or s i 0) b k.1)

  pub number_before : (r : Option Leading) → r ≡ leading_number s → (l : Leading) → r ≡ Some l → true ≡ is_at s l.width b → NumberBefore b s l
  number_before r e l f h = record { ends = ends-at l.width h; rule = number_at s l (sym e ∙ f) }

  pub name_before : (r : Option ℕ) → r ≡ name_width s → (w : ℕ) → r ≡ Some w → true ≡ is_at s w b → NameBefore b s w
  name_before r e w f h = record { ends = ends-at w h; rule = name-at s w (sym e ∙ f) }

upto_join : (b : ℕ) (s t : List ℕ) → Free b s → upto b (s ++ b ∷ t) ≡ length s
upto_join b s t e =
    let r = split-some b t in
    let c = split-more b (s ++ b ∷ t) s r.0 r.1 (split_join b s t e ∙ ap (λ l. s ∷ l) r.2) in
    sym (ap length c.first ∙ length-take-le (upto b (s ++ b ∷ t)) (s ++ b ∷ t) (upto_le b (s ++ b ∷ t)))

-- A step line with the fields f, n and t, without its LF.
step_text : List ℕ → List ℕ → List ℕ → List ℕ
step_text f n t = step_word ++ 9 ∷ (f ++ 9 ∷ (n ++ 9 ∷ t))

module _ (f n t : List ℕ) (gf : number_ok f ≡ true) (gn : name_ok n ≡ true) (gt : number_ok t ≡ true) where
  free-from : (b : ℕ) → digit_byte b ≡ false → Free b f
  free-from b h = free_all digit_byte b f h (number_digits f gf)

  free-name : (b : ℕ) → name_byte b ≡ false → Free b n
  free-name b h = free_all name_byte b n h (name-bytes n gn)

  free-to : (b : ℕ) → digit_byte b ≡ false → Free b t
  free-to b h = free_all digit_byte b t h (number_digits t gt)

  fields : split 9 (step_text f n t) ≡ step_word ∷ f ∷ n ∷ t ∷ []
  unfolding step_text upto digit_byte name_byte
  fields =
      split_join 9 step_word (f ++ 9 ∷ (n ++ 9 ∷ t)) refl
      ∙ ap (λ l. step_word ∷ l)
      (split_join 9 f (n ++ 9 ∷ t) (free-from 9 refl)
      ∙ ap (λ l. f ∷ l) (split_join 9 n t (free-name 9 refl) ∙ ap (λ l. n ∷ l) (split-last 9 t (free-to 9 refl))))

  free : Free 10 (step_text f n t)
  unfolding step_text upto digit_byte name_byte
  free =
      free-append 10 step_word (9 ∷ (f ++ 9 ∷ (n ++ 9 ∷ t))) refl
      (free_cons 10 9 (f ++ 9 ∷ (n ++ 9 ∷ t)) refl
      (free-append 10 f (9 ∷ (n ++ 9 ∷ t)) (free-from 10 refl)
      (free_cons 10 9 (n ++ 9 ∷ t) refl (free-append 10 n (9 ∷ t) (free-name 10 refl) (free_cons 10 9 t refl (free-to 10 refl))))))

  starts : step_name (step_text f n t) ≡ length f + 6
  unfolding step_text upto digit_byte
  starts =
      let z : upto 9 (f ++ 9 ∷ (n ++ 9 ∷ t)) ≡ length f = upto_join 9 f (n ++ 9 ∷ t) (free-from 9 refl) in
      omega arith

  long : length (step_text f n t) ≡ length f + 6 + length n + 1 + length t
  unfolding step_text
  long = simp length-append (omega arith)

  says : (p : Place) → takes_step p ≡ true → parse p (step_text f n t) ≡ step (value f) n (value t)
  unfolding parse by_kind step_line matches
  says p h = rw (fields, h, gn, gf, gt)

before_byte : (b : ℕ) (s : List ℕ) (w : ℕ) → w < length s → get_or s w 0 ≡ b → s ≡ take w s ++ b ∷ drop (w + 1) s
before_byte b s w h e = split_at s w 0 h ∙ rw (e, add-one w)

-- What is known of a first line that was taken.
pub record LineTaken (p : Place) (s : List ℕ) (l : Line) : Type 0 where
  pub line : l.length ≡ upto 10 s
  pub within : l.length < length s
  pub told : Ok l.record ≡ located (take l.length s) (parse p (take l.length s))

first_taken : (p : Place) (s : List ℕ) (l : Line) → LineTaken p s l → Ok l ≡ first_line p s
unfolding first_line
first_taken p s l t = rw (← t.line, lt-ltb l.length (length s) t.within, ← t.told)

-- s begins with `step` and a tab.
module _ (s : List ℕ) (y : pointwise eqb (take 5 s) (step_word ++ 9 ∷ []) ≡ true) where
  word : take 5 s ≡ step_word ++ 9 ∷ []
  word = same_text (take 5 s) (step_word ++ 9 ∷ []) (sym y)

  -- The fields of s stand behind the word.
  module _ (fields : List ℕ) (u : fields ≡ drop 5 s) (from : Leading) (first : NumberBefore 9 fields from)
      (w : ℕ) (second : NameBefore 9 (beyond fields (from.width + 1)) w)
      (to : Leading) (third : NumberBefore 10 (beyond (beyond fields (from.width + 1)) (w + 1)) to) where
    abbrev named : List ℕ
    named = beyond fields (from.width + 1)

    abbrev last : List ℕ
    last = beyond named (w + 1)

    abbrev whole : List ℕ
    whole = step_text (take from.width fields) (take w named) (take to.width last)

    cut : s ≡ whole ++ 10 ∷ drop (to.width + 1) last
    unfolding step_text
    cut =
        let g : last ≡ take to.width last ++ 10 ∷ drop (to.width + 1) last = before_byte 10 last to.width third.ends.0 third.ends.1 in
        let h : named ≡ take w named ++ 9 ∷ last =
        before_byte 9 named w second.ends.0 second.ends.1 ∙ ap (λ l. take w named ++ 9 ∷ l) (sym (beyond-is named (w + 1))) in
        let i : fields ≡ take from.width fields ++ 9 ∷ named =
        before_byte 9 fields from.width first.ends.0 first.ends.1 ∙ ap (λ l. take from.width fields ++ 9 ∷ l) (sym (beyond-is fields (from.width + 1))) in
        sym (take-append-drop 5 s) ∙ ap (λ l. l ++ drop 5 s) word ∙ ap (λ l. step_word ++ 9 ∷ l)
        (sym u ∙ i ∙ ap (λ l. take from.width fields ++ 9 ∷ l) (h ∙ ap (λ l. take w named ++ 9 ∷ l) g)
        ∙ simp append_assoc)

    width-from : length (take from.width fields) ≡ from.width
    width-from = length-take-le from.width fields (omega (arith, first.ends.0))

    width-name : length (take w named) ≡ w
    width-name = length-take-le w named (omega (arith, second.ends.0))

    lengths : length whole ≡ from.width + 6 + w + 1 + to.width
    lengths =
        long (take from.width fields) (take w named) (take to.width last) first.rule.0 second.rule third.rule.0
        ∙ rw (width-from, width-name, length-take-le to.width last (omega (arith, third.ends.0)))

    the_line : take (from.width + 6 + w + 1 + to.width) s ≡ whole
    the_line = rw (← lengths, cut) (take-append_seam whole (10 ∷ drop (to.width + 1) last))

    abbrev read : Line
    read = record { «record» = Step from.value (from.width + 6) (from.width + 6 + w) to.value; length = from.width + 6 + w + 1 + to.width }

    pub step-first : step_read s (Some read)
    step-first = λ p h. first_taken p s read (record {
      line =
          sym (ap (upto 10) cut
          ∙ upto_join 10 whole (drop (to.width + 1) last)
          (free (take from.width fields) (take w named) (take to.width last) first.rule.0 second.rule third.rule.0)
          ∙ lengths);
      within = omega (arith, lengths, ap length cut ∙ length-append whole (10 ∷ drop (to.width + 1) last));
      told =
          rw (
            the_line,
            says (take from.width fields) (take w named) (take to.width last) first.rule.0 second.rule third.rule.0 p h,
            starts (take from.width fields) (take w named) (take to.width last) first.rule.0 second.rule third.rule.0,
            width-from,
            width-name,
            first.rule.1,
            third.rule.1,
          );
    })

-- ---- the first line of a text

module _ (p : Place) (s : List ℕ) (r : Option ℕ) (e : r ≡ position (λ x. eqb x 10) s) where
  pub first_unended : r ≡ None → Err rule.LineForm ≡ first_line p s
  unfolding first_line
  first_unended h = rw (le-ltb (upto 10 s) (length s) (not_found 10 s r e h))

  module _ (n : ℕ) (h : r ≡ Some n) (q : Result Record Rule) (g : q ≡ located (take n s) (parse p (take n s))) where
    at-end : (n ≡ upto 10 s) × (n < length s)
    at-end = found 10 s r e n h

    measured-is : measured n q ≡ first_line p s
    unfolding first_line
    measured-is = rw (← at-end.0, lt-ltb n (length s) at-end.1, g)

    pub first_ok : (r : Record) → q ≡ Ok r → Ok (record { «record» = r; length = n }) ≡ first_line p s
    first_ok r f = sym (ap (measured n) f) ∙ measured-is

    pub first_err : (k : Rule) → q ≡ Err k → (o : Result Line Rule) → IsErrAnd o (λ y. y ≡ k) → o ≡ first_line p s
    first_err k f o i = is_err_of o k i ∙ sym (ap (measured n) f) ∙ measured-is

-- ---- what the reply for a first line says

pub record LineRefused (p : Place) (s : List ℕ) (k : Rule) : Type 0 where
  pub unended : length s ≤ upto 10 s → k ≡ rule.LineForm
  pub told : upto 10 s < length s → parse p (take (upto 10 s) s) ≡ refused k

module _ (p : Place) (s : List ℕ) (q : Result Line Rule) (e : q ≡ first_line p s) where
  abbrev own : Result Record Rule
  own = located (take (upto 10 s) s) (parse p (take (upto 10 s) s))

  ended : upto 10 s < length s → q ≡ measured (upto 10 s) own
  unfolding first_line
  ended h = e ∙ rw (lt-ltb (upto 10 s) (length s) h)

  unended : length s ≤ upto 10 s → q ≡ Err rule.LineForm
  unfolding first_line
  unended h = e ∙ rw (le-ltb (upto 10 s) (length s) h)

  pub line_taken : (l : Line) → q ≡ Ok l → LineTaken p s l
  line_taken l f = elim (dec_lt (upto 10 s) (length s)) [
    | yes h ↦ go own refl h (sym (ended h) ∙ f)
    | no h ↦ absurd (let z = unended (omega arith) in let o : ◌≡◌ {A = ℕ} 0 1 = cc in omega arith)
  ]
    where
      go : (o : Result Record Rule) → own ≡ o → upto 10 s < length s → measured (upto 10 s) o ≡ Ok l → LineTaken p s l
      go (Ok r) g h k =
          let x : record { «record» = r; length = upto 10 s } ≡ l = cc in
          rw (← x) (record { line = refl; within = h; told = sym g })
      go (Err i) g h k = absurd (let o : ◌≡◌ {A = ℕ} 0 1 = cc in omega arith)

  pub line_refused : (k : Rule) → q ≡ Err k → LineRefused p s k
  line_refused k f = record {
    unended = λ h. let z = unended h in cc;
    told = λ h. go own refl h (sym (ended h) ∙ f);
  }
    where
      go : (o : Result Record Rule) → own ≡ o → upto 10 s < length s → measured (upto 10 s) o ≡ Err k → parse p (take (upto 10 s) s) ≡ refused k
      go (Ok r) g h i = absurd (let o : ◌≡◌ {A = ℕ} 0 1 = cc in omega arith)
      go (Err j) g h i = let x : j ≡ k = cc in refused_reply_lem p (take (upto 10 s) s) k (g ∙ ap Err x)
