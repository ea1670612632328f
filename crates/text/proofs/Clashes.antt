-- What a clash is (02, S-9): names that match but for the case of letters, among the signals of a reading, and where the first of them stands.
use mathlib.Core.Path.{◌≡◌, refl, sym, ap, subst, ◌∙◌}
use mathlib.Core.Logic.{◌↔◌}
use mathlib.Core.Bool.{Bool, true, false, not, ◌&&◌, cond}
use mathlib.Core.List.{List, [], ◌∷◌, ◌++◌, map}
use Prim.Native.Nat.{ℕ, zero, suc, ◌+◌, ◌≤◌, ◌<◌}
use native.Mathlib.Omega.{arith}
use native.Mathlib.Decide.{dec_lt}
use lib.Dec.{T, eqb, ltb, ltb→lt, lt→ltb}
use lib.ListN.{length, get_or, take, drop, take-append-drop, length-append, get_or-append}
use lib.Seq.{drop-drop, get_or-append_seam}
use borrow.Author.Tests.{lt-ltb, le-ltb}
use Rattle.theory.proofs.Tests.{is_true, and_left}
use Rattle.text.specs.declared.Spelling.{Spelling}
use Rattle.text.specs.declared.Spelling.TheVariants.{Exact, Folded}
use Rattle.text.specs.declared.Clash.{Clash}
use Rattle.text.specs.Fields.{onto, split, upto, matches, same, clash}
use Rattle.text.specs.Reading.{Signal, first_match, index_of, known, text_of}
use Rattle.text.specs.Lookup.{nobody}
use Rattle.text.specs.Clashes.{first_alike, clashing, Unlike, line_of, declared_at, clash_at, clashes_of}
use Rattle.text.proofs.Split.{split-some}
use Rattle.text.proofs.Names.{match_self, same-eq, index_le, index_append, index_grows, match-below, match-at, match-above}
use Rattle.text.proofs.Ascending.{In, in_those, those_in, those-none, those-first}

-- ---- a name among signals

both_tests : (x y : Bool) → x ≡ true → y ≡ false → T (x && not y)
both_tests x y e f = rw (e, f) tt

-- The first match of a name is below its number exactly if a signal below that number clashes with it.
pub clash-below : (n : List ℕ) (l : List Signal)
    → (first_match Folded n l < index_of n l) ↔ ((a : ℕ) × (a < index_of n l) × T (clash (get_or l a nobody).name n))
clash-below n l = (there, back)
  where
    there : first_match Folded n l < index_of n l → (a : ℕ) × (a < index_of n l) × T (clash (get_or l a nobody).name n)
    there h =
        let a = first_match Folded n l in (
          a,
          h,
          both_tests (matches Folded (get_or l a nobody).name n) (same (get_or l a nobody).name n) (match-at Folded n l (omega (arith, index_le Exact n l)))
              (match-below Exact n l a h),
        )

    back : (a : ℕ) × (a < index_of n l) × T (clash (get_or l a nobody).name n) → first_match Folded n l < index_of n l
    back (a, h, t) =
        let s = (get_or l a nobody).name in
        omega (arith, match-above Folded n l a (is_true (matches Folded s n) (and_left (matches Folded s n) (not (same s n)) t)))

-- ---- the signals of a reading

-- No signal's name matches one before it in the spelling.
abbrev pub Apart : Spelling → List Signal → Type 0
Apart c l = (a : ℕ) → a < length l → a ≤ first_match c (get_or l a nobody).name l

pub apart-unlike : (l : List Signal) → Apart Folded l → Unlike l
apart-unlike l w a b h k = match-below Folded (get_or l b nobody).name l a (omega (arith, w b k))

pub unlike-apart : (l : List Signal) → Unlike l → Apart Folded l
unlike-apart l u b k = elim (dec_lt (first_alike l b) b) [
  | yes h ↦ absurd (let t = match-at Folded (get_or l b nobody).name l (omega arith) in let f = u (first_alike l b) b h k in let z : ◌≡◌ {A = ℕ} 0 1 = cc in omega arith)
  | no g ↦ omega arith
]

-- No signal clashes exactly if no two names are the same when the case of letters is ignored.
pub none-clashing : (l : List Signal) → (clashing l ≡ []) ↔ Unlike l
unfolding clashing
none-clashing l = (
  λ e. apart-unlike l (λ a h. elim (dec_lt (first_alike l a) a) [
    | yes k ↦ absurd (rw e at (those_in (λ a. ltb (first_alike l a) a) a 0 (length l) (lt→ltb (first_alike l a) a k) (omega arith) (omega arith)))
    | no g ↦ omega arith
  ]),
  λ u. those-none (λ a. ltb (first_alike l a) a) 0 (length l) (λ a i j t. omega (arith, ltb→lt (first_alike l a) a t, unlike-apart l u a (omega arith))),
)

-- Where all names are different, a signal is listed exactly if a signal before it clashes with it.
pub clashing-are : (l : List Signal) (a : ℕ) → Apart Exact l → a < length l
    → In a (clashing l) ↔ ((b : ℕ) × (b < a) × T (clash (get_or l b nobody).name (get_or l a nobody).name))
unfolding clashing
clashing-are l a w h =
    let n = (get_or l a nobody).name in
    let own : index_of n l ≡ a = omega (arith, w a h, match-above Exact n l a (match_self Exact n)) in
    let (there, back) = subst (λ i. (first_match Folded n l < i) ↔ ((b : ℕ) × (b < i) × T (clash (get_or l b nobody).name n))) own (clash-below n l) in (
      λ i. there (ltb→lt (first_alike l a) a (in_those (λ a. ltb (first_alike l a) a) a 0 (length l) i)),
      λ e. those_in (λ a. ltb (first_alike l a) a) a 0 (length l) (lt→ltb (first_alike l a) a (back e)) (omega arith) (omega arith),
    )

-- The first that a listed signal is said to clash with: it clashes, and no signal before it does.
pub first-clash : (m p : List ℕ) (l : List Signal) (a : ℕ) → Apart Exact l → a < length l → In a (clashing l)
    → (b : ℕ) × (b < a) × T (clash (get_or l b nobody).name (get_or l a nobody).name)
    × ((c : ℕ) → c < b → ¬ T (clash (get_or l c nobody).name (get_or l a nobody).name)) × ((clash_at m p l a).first ≡ declared_at m p (get_or l b nobody))
first-clash m p l a w h i =
    let n = (get_or l a nobody).name in
    let b = first_alike l a in
    let (c, k, t) = (clashing-are l a w h).0 i in
    let s = (get_or l c nobody).name in
    let low : b ≤ c = match-above Folded n l c (is_true (matches Folded s n) (and_left (matches Folded s n) (not (same s n)) t)) in
    let own : a ≤ index_of n l = w a h in (
      b,
      omega arith,
      both_tests (matches Folded (get_or l b nobody).name n) (same (get_or l b nobody).name n) (match-at Folded n l (omega arith)) (match-below Exact n l b (omega arith)),
      λ d j u. let z = match-below Folded n l d j in subst T z (and_left (matches Folded (get_or l d nobody).name n) (not (same (get_or l d nobody).name n)) u),
      refl,
    )

-- A name that a signal has matches no signal before that one, where signals are apart.
pub apart-known : (c : Spelling) (l : List Signal) (n : List ℕ) → Apart c l → index_of n l < length l → index_of n l ≤ first_match c n l
apart-known c l n w h =
    let e : (get_or l (index_of n l) nobody).name ≡ n = same-eq (get_or l (index_of n l) nobody).name n (match-at Exact n l h) in
    subst (λ s. index_of n l ≤ first_match c s l) e (w (index_of n l) h)

-- Signals that come behind do not change the first match of a signal's own name.
alike-append : (c : Spelling) (l m : List Signal) (a : ℕ) → a < length l
    → first_match c (get_or (l ++ m) a nobody).name (l ++ m) ≡ first_match c (get_or l a nobody).name l
alike-append c l m a h =
    let n = (get_or l a nobody).name in
    rw (get_or-append l m nobody a h) (index_append c n l m (omega (arith, match-above c n l a (match_self c n))))

-- A declared signal whose name matches none of a lower number keeps signals apart.
pub apart-with : (c : Spelling) (l : List Signal) (s : Signal) → Apart c l → index_of s.name l ≤ first_match c s.name l → Apart c (known l s (index_of s.name l))
apart-with c l s w h = elim (dec_lt (index_of s.name l) (length l)) [
  | yes k ↦ rw (lt-ltb (index_of s.name l) (length l) k) w
  | no k ↦ rw (le-ltb (index_of s.name l) (length l) (omega arith)) (λ a i. elim (dec_lt a (length l)) [
    | yes j ↦ rw (alike-append c l (s ∷ []) a j) (w a j)
    | no j ↦
        let e : a ≡ length l = omega (arith, length-append l (s ∷ [])) in
        rw (e, get_or-append_seam l s [] nobody) (omega (arith, index_grows c s.name l (s ∷ [])))
  ])
]

-- The first signal that clashes with one before it is declared in the line k of these bytes, which are the text of that number.
pub record Late (text k : ℕ) (bytes : List ℕ) (l : List Signal) : Type 0 where
  pub signal : ℕ
  pub within : signal < length l
  pub clashes : first_alike l signal < signal
  pub before : (a : ℕ) → a < signal → a ≤ first_alike l a
  pub of_text : (get_or l signal nobody).text ≡ text
  pub of_line : line_of bytes (get_or l signal nobody).from ≡ k

-- A signal put behind others that are apart, whose name matches one of them, is the first that clashes.
pub late_put : (bytes : List ℕ) (l : List Signal) (s : Signal) → Apart Folded l → first_match Folded s.name l < length l
    → Late s.text (line_of bytes s.from) bytes (l ++ s ∷ [])
late_put bytes l s w h =
    let last = get_or-append_seam l s [] nobody in
    record {
      signal = length l;
      within = omega (arith, length-append l (s ∷ []));
      clashes = rw (last, index_append Folded s.name l (s ∷ []) h) h;
      before = λ a k. rw (alike-append Folded l (s ∷ []) a k) (w a k);
      of_text = rw last;
      of_line = rw last;
    }

-- Signals that come behind do not change which is the first that clashes.
pub late_append : {text k : ℕ} {bytes : List ℕ} (l m : List Signal) → Late text k bytes l → Late text k bytes (l ++ m)
late_append l m w =
    let same = get_or-append l m nobody w.signal w.within in
    record {
      signal = w.signal;
      within = omega (arith, w.within, length-append l m);
      clashes = rw (alike-append Folded l m w.signal w.within) w.clashes;
      before = λ a h. rw (alike-append Folded l m a (omega (arith, w.within))) (w.before a h);
      of_text = rw same w.of_text;
      of_line = rw same w.of_line;
    }

-- The first clash listed is that of the first signal that clashes, and says where it is declared.
pub late_listed : (m p : List ℕ) (l : List Signal) (text k : ℕ) → Late text k (text_of m p text) l
    → (c : Clash) × (rest : List Clash) × (clashes_of m p l ≡ c ∷ rest) × (c.later ≡ record { text = text; line = k })
unfolding clashes_of clashing
late_listed m p l text k w =
    let (rest, e) = those-first (λ a. ltb (first_alike l a) a) w.signal 0 (length l) (lt→ltb (first_alike l w.signal) w.signal w.clashes) (omega arith)
    (omega (arith, w.within)) (λ a i j t. omega (arith, ltb→lt (first_alike l a) a t, w.before a j)) in
    (clash_at m p l w.signal, map (clash_at m p l) rest, ap (map (clash_at m p l)) e, rw (w.of_text, w.of_line))

-- ---- the line of a byte

parts-onto : (b x : ℕ) (s : List ℕ) → length (onto x (split b s)) ≡ length (split b s)
parts-onto b x s = let (f, fs, e) = split-some b s in rw e

parts-append : (b : ℕ) (s t : List ℕ) → length (split b (s ++ t)) + 1 ≡ length (split b s) + length (split b t)
unfolding split
parts-append b [] t = omega arith
parts-append b (x ∷ s) t = elim (eqb x b) as (λ c. length (cond c ([] ∷ split b (s ++ t)) (onto x (split b (s ++ t)))) + 1
    ≡ length (cond c ([] ∷ split b s) (onto x (split b s))) + length (split b t)) [
      | true ↦ omega (arith, parts-append b s t)
      | false ↦ omega (arith, parts-append b s t, parts-onto b x s, parts-onto b x (s ++ t))
    ]

parts_within : (b i : ℕ) (s : List ℕ) → i ≤ upto b s → length (split b (drop i s)) ≡ length (split b s)
unfolding split upto
parts_within b zero s h = refl
parts_within b (suc i) [] h = refl
parts_within b (suc i) (x ∷ s) h = go (eqb x b) (parts_within b i s) h
  where
    go : (c : Bool) → (i ≤ upto b s → length (split b (drop i s)) ≡ length (split b s)) → suc i ≤ cond c 0 (suc (upto b s))
        → length (split b (drop i s)) ≡ length (cond c ([] ∷ split b s) (onto x (split b s)))
    go true rest h = absurd (omega arith)
    go false rest h = rest (omega arith) ∙ sym (parts-onto b x s)

-- All bytes of a line, and its LF, have the line's number: k, where the lines from the byte `at` on begin with the k-th.
pub line-within : (bytes : List ℕ) (k at i : ℕ) → k + length (split 10 (drop at bytes)) ≡ suc (length (split 10 bytes)) → i ≤ upto 10 (drop at bytes)
    → line_of bytes (at + i) ≡ k
unfolding line_of
line-within bytes k at i e h =
    let parted = rw (take-append-drop (at + i) bytes) at (parts-append 10 (take (at + i) bytes) (drop (at + i) bytes)) in
    let within = rw (drop-drop i at bytes) at (parts_within 10 i (drop at bytes) h) in
    omega arith
