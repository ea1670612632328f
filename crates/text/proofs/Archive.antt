-- The reading and the archive reading of the same texts (02, S-9): what the reading takes, the archive reading takes; the names that it takes are apart;
-- and what the archive reading alone takes, the reading refuses by 28, where the first of the listed clashes stands.
use mathlib.Core.Path.{◌≡◌, refl, sym, ap, subst, ◌∙◌}
use mathlib.Core.Logic.{◌⊎◌, inl, inr, ◌↔◌}
use mathlib.Core.Bool.{Bool, true, false, cond}
use mathlib.Core.List.{List, [], ◌∷◌, ◌++◌}
use Prim.Native.Nat.{ℕ, suc, ◌+◌, ◌<◌, ◌≤◌}
use native.Mathlib.Omega.{arith}
use native.Mathlib.Decide.{dec_lt}
use lib.Dec.{T, ltb}
use lib.ListN.{length, get_or, drop}
use lib.Seq.{drop-drop, length-take-le}
use borrow.Author.Tests.{le-ltb}
use Rattle.text.specs.declared.Place.{Place}
use Rattle.text.specs.declared.Role.{Role}
use Rattle.text.specs.declared.Spelling.{Spelling}
use Rattle.text.specs.declared.Spelling.TheVariants.{Exact, Folded}
use Rattle.text.specs.declared.Clash.{Clash}
use Rattle.text.specs.Fields.{split, upto, clash}
use Rattle.text.specs.Lines.{Entry, table, declaration, step, refused, role_word, parse}
use Rattle.text.specs.Reading.{Signal, text_of, Reading, Change, next, stop, first_match, index_of, known, declaring, entered, Outcome, finished, refuse_at, is_nil, read_lines, fresh, read_from, read_alone, Joint, both, neither, read_both}
use Rattle.text.specs.Lookup.{nobody}
use Rattle.text.specs.Clashes.{clashing, Unlike, line_of, declared_at, clash_at, clashes_of}
use Rattle.text.proofs.Split.{split-more}
use Rattle.text.proofs.Names.{index_le}
use Rattle.text.proofs.Ascending.{In}
use Rattle.text.proofs.Lines.{From, of_table, of_declaration, of_step, of_refusal, from-line}
use Rattle.text.proofs.Entries.{started_of, declaring-clash, declaring-next, declaring_of, stepping_of}
use Rattle.text.proofs.Accepted.{finished-same, onward-finished, unless-nil, read-both, accepted-both}
use Rattle.text.proofs.Clashes.{Apart, apart-unlike, unlike-apart, none-clashing, clashing-are, first-clash, apart-known, apart-with, Late, late_put, late_append, late_listed, line-within}
use Rattle.theory.specs.declared.Rule.TheVariants as rule

-- ---- what a reading takes, the archive reading takes

taken-entry : (c : Spelling) (text at : ℕ) (a b : Reading) (e : Entry) → entered c text at a e ≡ next b → entered Exact text at a e ≡ next b
unfolding entered
taken-entry c text at a b (table n i) h = h
taken-entry c text at a b (declaration r n) h =
    let u = declaring_of c a r _ (index_of n a.signals) b h in
    declaring-next Exact a r _ (index_of n a.signals) u.new (omega arith) u.low ∙ ap next u.gives
taken-entry c text at a b (step from n to) h = h
taken-entry c text at a b (refused k) h = h

taken-lines : (c : Spelling) (text k at : ℕ) (a b : Reading) (ls : List (List ℕ)) → read_lines c text k at a ls ≡ finished b → read_lines Exact text k at a ls ≡ finished b
unfolding read_lines
taken-lines c text k at a b [] h = h
taken-lines c text k at a b (x ∷ []) h = h
taken-lines c text k at a b (x ∷ y ∷ ls) h =
    let (m, p, q) = onward-finished text k _ _ b h in
    rw (taken-entry c text at a m (parse a.place x) p) (taken-lines c text (suc k) (at + length x + 1) m b (y ∷ ls) q)

-- The length of a text that is taken in some spelling is right: in every spelling its lines are read.
lines-read : (c : Spelling) (l : List Signal) (text room : ℕ) (bytes : List ℕ) (st : Reading) → read_from c l text room bytes ≡ finished st
    → (d : Spelling) → read_from d l text room bytes ≡ read_lines d text 1 0 (fresh l room) (split 10 bytes)
unfolding read_from
lines-read c l text room bytes st e d = go (ltb 65536 (length bytes)) (is_nil bytes) _ _ e
  where
    go : (v w : Bool) (x y : Outcome) → cond v (refuse_at rule.TextLength text 0) (cond w (refuse_at rule.EmptyText text 0) x) ≡ finished st
        → cond v (refuse_at rule.TextLength text 0) (cond w (refuse_at rule.EmptyText text 0) y) ≡ y
    go true w x y e = absurd (let z : ◌≡◌ {A = ℕ} 0 1 = cc in omega arith)
    go false true x y e = absurd (let z : ◌≡◌ {A = ℕ} 0 1 = cc in omega arith)
    go false false x y e = refl

pub taken-alike : (c : Spelling) (l : List Signal) (text room : ℕ) (bytes : List ℕ) (st : Reading) → read_from c l text room bytes ≡ finished st
    → read_from Exact l text room bytes ≡ finished st
taken-alike c l text room bytes st e =
    let read = lines-read c l text room bytes st e in
    read Exact ∙ taken-lines c text 1 0 (fresh l room) st (split 10 bytes) (sym (read c) ∙ e)

pub taken_alone : (c : Spelling) (room : ℕ) (bytes : List ℕ) (st : Reading) → read_alone c room bytes ≡ finished st → read_alone Exact room bytes ≡ finished st
unfolding read_alone
taken_alone c room bytes st e = taken-alike c [] 1 room bytes st e

pub taken-both : (c : Spelling) (room : ℕ) (bytes : List ℕ) (room' : ℕ) (bytes' : List ℕ) (m p : Reading) → read_both c room bytes room' bytes' ≡ both m p
    → read_both Exact room bytes room' bytes' ≡ both m p
unfolding read_both read_alone
taken-both c room bytes room' bytes' m p e =
    let (f, g) = read-both c room bytes room' bytes' m p e in
    rw (taken-alike c [] 1 room bytes m f, taken-alike c m.signals 2 room' bytes' p g)

-- ---- the signals of an accepted text

-- A property of signals that every declaration keeps holds of the signals of a text that was taken.
module _ (c : Spelling) (P : List Signal → Type 0)
    (keep : (l : List Signal) (s : Signal) → index_of s.name l ≤ first_match c s.name l → P l → P (known l s (index_of s.name l))) where
  entry-keeps : (text at : ℕ) (a b : Reading) (e : Entry) → P a.signals → entered c text at a e ≡ next b → P b.signals
  unfolding entered
  entry-keeps text at a b (table n i) w e = subst (λ st. P st.signals) (started_of a n i b e).gives w
  entry-keeps text at a b (declaration r n) w e =
      let u = declaring_of c a r _ (index_of n a.signals) b e in
      subst (λ st. P st.signals) u.gives (keep a.signals _ u.unlike w)
  entry-keeps text at a b (step from n to) w e = subst (λ st. P st.signals) (stepping_of a from (index_of n a.signals) to b e).gives w
  entry-keeps text at a b (refused k) w e = absurd (let z : ◌≡◌ {A = ℕ} 0 1 = cc in omega arith)

  lines_keep : (text k at : ℕ) (a b : Reading) (ls : List (List ℕ)) → P a.signals → read_lines c text k at a ls ≡ finished b → P b.signals
  unfolding read_lines
  lines_keep text k at a b [] w e = subst (λ st. P st.signals) (finished-same a b e) w
  lines_keep text k at a b (x ∷ []) w e = subst (λ st. P st.signals) (finished-same a b (unless-nil (is_nil x) (finished a) _ b e)) w
  lines_keep text k at a b (x ∷ y ∷ ls) w e =
      let (m, p, q) = onward-finished text k _ _ b e in
      lines_keep text (suc k) (at + length x + 1) m b (y ∷ ls) (entry-keeps text at a m (parse a.place x) w p) q

-- Names are apart in the spelling in which they are read.
pub apart-names : (c : Spelling) (l : List Signal) (text room : ℕ) (bytes : List ℕ) (st : Reading) → Apart c l → read_from c l text room bytes ≡ finished st
    → Apart c st.signals
apart-names c l text room bytes st w e =
    lines_keep c (Apart c) (λ l s h v. apart-with c l s v h) text 1 0 (fresh l room) st (split 10 bytes) w (sym (lines-read c l text room bytes st e c) ∙ e)

pub apart-both : (c : Spelling) (room : ℕ) (bytes : List ℕ) (room' : ℕ) (bytes' : List ℕ) (m p : Reading) → read_both c room bytes room' bytes' ≡ both m p
    → Apart c m.signals × Apart c p.signals
apart-both c room bytes room' bytes' m p e =
    let (f, g) = read-both c room bytes room' bytes' m p e in
    let w = apart-names c [] 1 room bytes m (λ a h. absurd (omega arith)) f in
    (w, apart-names c m.signals 2 room' bytes' p w g)

pub unlike-names : (l : List Signal) (text room : ℕ) (bytes : List ℕ) (st : Reading) → Unlike l → read_from Folded l text room bytes ≡ finished st → Unlike st.signals
unlike-names l text room bytes st u e = apart-unlike st.signals (apart-names Folded l text room bytes st (unlike-apart l u) e)

pub unlike_alone : (room : ℕ) (bytes : List ℕ) (st : Reading) → read_alone Folded room bytes ≡ finished st → Unlike st.signals
unfolding read_alone
unlike_alone room bytes st e = unlike-names [] 1 room bytes st (λ a b h k. absurd (omega arith)) e

pub unlike-both : (room : ℕ) (bytes : List ℕ) (room' : ℕ) (bytes' : List ℕ) (m p : Reading) → read_both Folded room bytes room' bytes' ≡ both m p
    → Unlike m.signals × Unlike p.signals
unlike-both room bytes room' bytes' m p e =
    let (w, v) = apart-both Folded room bytes room' bytes' m p e in
    (apart-unlike m.signals w, apart-unlike p.signals v)

-- ---- the two readings, line by line, from signals that are apart

-- What the reading makes of the k-th line of a text, where the archive reading comes to b: the same, or 28 for the first name that clashes.
abbrev LineMeets : ℕ → ℕ → List ℕ → Reading → Change → Type 0
LineMeets text k bytes b r = (r ≡ next b) ⊎ ((r ≡ stop rule.NameClash) × Late text k bytes b.signals)

-- A name that clashes is new in the archive reading, and so its signal is the last: a name that is not new clashes with none of signals that are apart.
declaration-meets : (bytes : List ℕ) (a b : Reading) (r : Role) (s : Signal) → Apart Folded a.signals → declaring Exact a r s (index_of s.name a.signals) ≡ next b
    → LineMeets s.text (line_of bytes s.from) bytes b (declaring Folded a r s (index_of s.name a.signals))
declaration-meets bytes a b r s w e =
    let l = a.signals in
    let i = index_of s.name l in
    let u = declaring_of Exact a r s i b e in
    elim (dec_lt (first_match Folded s.name l) i) [
      | yes h ↦
          let new : length l ≤ i = elim (dec_lt i (length l)) [ yes k ↦ absurd (omega (arith, apart-known Folded l s.name w k)) | no g ↦ omega arith ] in
          inr (
            declaring-clash Folded a r s i u.new h,
            subst (λ st. Late s.text (line_of bytes s.from) bytes st.signals) u.gives
                (rw (le-ltb i (length l) new) (late_put bytes l s w (omega (arith, index_le Exact s.name l)))),
          )
      | no g ↦ inl (declaring-next Folded a r s i u.new (omega arith) u.low ∙ ap next u.gives)
    ]

-- The name of a declaration begins within its line.
name-within : (r : Role) (n x : List ℕ) → split 9 x ≡ role_word r ∷ n ∷ [] → length (role_word r) + 1 ≤ length x
name-within r n x q =
    let c = split-more 9 x (role_word r) n [] q in
    omega (arith, c.found, ap length c.first, length-take-le (upto 9 x) x (omega (arith, c.found)))

entry-meets : {e : Entry} (text k at : ℕ) (bytes x : List ℕ) (p : Place) (a b : Reading) → From p (split 9 x) e → ((i : ℕ) → i ≤ length x → line_of bytes (at + i) ≡ k)
    → Apart Folded a.signals → entered Exact text at a e ≡ next b → LineMeets text k bytes b (entered Folded text at a e)
unfolding entered
entry-meets text k at bytes x p a b (of_table n s f q t) line w e = inl e
entry-meets text k at bytes x p a b (of_declaration r n q t g) line w e =
    let h : at + length (role_word r) + 1 ≡ at + (length (role_word r) + 1) = omega arith in
    let same : line_of bytes (at + length (role_word r) + 1) ≡ k = rw h (line (length (role_word r) + 1) (name-within r n x q)) in
    rw (← same) (declaration-meets bytes a b r _ w e)
entry-meets text k at bytes x p a b (of_step f n u q t g) line w e = inl e
entry-meets text k at bytes x p a b (of_refusal n least most) line w e = inl e

-- What the reading makes of a text, where the archive reading comes to b: the same, or 28 at the line of the first name that clashes.
abbrev pub Meets : ℕ → List ℕ → Reading → Outcome → Type 0
Meets text bytes b o = (o ≡ finished b) ⊎ ((k : ℕ) × (o ≡ refuse_at rule.NameClash text k) × Late text k bytes b.signals)

lines_meet : (text : ℕ) (bytes : List ℕ) (k at : ℕ) (a b : Reading) (ls : List (List ℕ)) → split 10 (drop at bytes) ≡ ls → k + length ls ≡ suc (length (split 10 bytes))
    → Apart Folded a.signals → read_lines Exact text k at a ls ≡ finished b → Meets text bytes b (read_lines Folded text k at a ls)
unfolding read_lines
lines_meet text bytes k at a b [] q n w e = inl e
lines_meet text bytes k at a b (x ∷ []) q n w e = inl e
lines_meet text bytes k at a b (x ∷ y ∷ ls) q n w e =
    let (m, f, g) = onward-finished text k _ _ b e in
    let s = drop at bytes in
    let c = split-more 10 s x y ls q in
    let long : length x ≡ upto 10 s = ap length c.first ∙ length-take-le (upto 10 s) s (omega (arith, c.found)) in
    let after : at + length x + 1 ≡ at + (upto 10 s + 1) = omega arith in
    let rest : split 10 (drop (at + length x + 1) bytes) ≡ y ∷ ls = rw (after, ← drop-drop (upto 10 s + 1) at bytes) c.others in
    let line : (i : ℕ) → i ≤ length x → line_of bytes (at + i) ≡ k = λ i h. line-within bytes k at i (rw q n) (omega arith) in
    elim (entry-meets text k at bytes x a.place a m (from-line a.place x) line w f) [
      | inl p ↦
          let v = entry-keeps Folded (Apart Folded) (λ l s h v. apart-with Folded l s v h) text at a m (parse a.place x) w p in
          rw p (lines_meet text bytes (suc k) (at + length x + 1) m b (y ∷ ls) rest (omega arith) v g)
      | inr (p, v) ↦ inr (k, rw p, lines_keep Exact (Late text k bytes) known_late text (suc k) (at + length x + 1) m b (y ∷ ls) v g)
    ]
  where
    known_late : (l : List Signal) (s : Signal) → index_of s.name l ≤ index_of s.name l → Late text k bytes l → Late text k bytes (known l s (index_of s.name l))
    known_late l s h v = elim (ltb (index_of s.name l) (length l)) as (λ t. Late text k bytes (cond t l (l ++ s ∷ []))) [ true ↦ v | false ↦ late_append l (s ∷ []) v ]

pub read_meets : (l : List Signal) (text room : ℕ) (bytes : List ℕ) (st : Reading) → Apart Folded l → read_from Exact l text room bytes ≡ finished st
    → Meets text bytes st (read_from Folded l text room bytes)
read_meets l text room bytes st w e =
    let read = lines-read Exact l text room bytes st e in
    rw (read Folded) (lines_meet text bytes 1 0 (fresh l room) st (split 10 bytes) refl (omega arith) w (sym (read Exact) ∙ e))

-- ---- the clashes that are listed, and the refusal 28

-- What was read, unless a clash is listed: then the refusal of the first.
abbrev pub unless_listed : List Clash → Joint → Joint
unless_listed [] j = j
unless_listed (k ∷ rest) j = neither (record { rule = rule.NameClash; text = k.later.text; line = k.later.line })

module _ (room : ℕ) (m : List ℕ) (room' : ℕ) (p : List ℕ) (x y : Reading) (taken : read_both Exact room m room' p ≡ both x y) where
  late_refused : (text k : ℕ) → Late text k (text_of m p text) y.signals
      → neither (record { rule = rule.NameClash; text = text; line = k }) ≡ unless_listed (clashes_of m p y.signals) (both x y)
  late_refused text k w = let (c, rest, e, f) = late_listed m p y.signals text k w in rw (e, f)

  -- Two texts that the archive reading takes: the reading takes them too, or refuses them for the first clash.
  pub listed : read_both Folded room m room' p ≡ unless_listed (clashes_of m p y.signals) (both x y)
  unfolding read_both read_alone clashes_of
  listed =
      let (f, g) = read-both Exact room m room' p x y taken in
      elim (read_meets [] 1 room m x (λ a h. absurd (omega arith)) f) [
        | inl h ↦
            let w = apart-names Folded [] 1 room m x (λ a h. absurd (omega arith)) h in
            elim (read_meets x.signals 2 room' p y w g) [
              | inl i ↦ rw (h, i, (none-clashing y.signals).1 (unlike-names x.signals 2 room' p y (apart-unlike x.signals w) i))
              | inr (k, i, v) ↦ rw (h, i) (late_refused 2 k v)
            ]
        | inr (k, h, w) ↦
            let s = (accepted-both Exact room m room' p x y taken).second in
            rw h (late_refused 1 k (rw s.extends (late_append x.signals s.more w)))
      ]

  names_apart : Apart Exact y.signals
  names_apart = (apart-both Exact room m room' p x y taken).1

  -- A signal of the two texts is listed exactly if one declared before it clashes with it.
  pub listed-are : (a : ℕ) → a < length y.signals
      → In a (clashing y.signals) ↔ ((b : ℕ) × (b < a) × T (clash (get_or y.signals b nobody).name (get_or y.signals a nobody).name))
  listed-are a = clashing-are y.signals a names_apart

  -- With it stands the first that it clashes with: that one does, and none before it.
  pub listed-first : (a : ℕ) → a < length y.signals → In a (clashing y.signals)
      → (b : ℕ) × (b < a) × T (clash (get_or y.signals b nobody).name (get_or y.signals a nobody).name)
      × ((c : ℕ) → c < b → ¬ T (clash (get_or y.signals c nobody).name (get_or y.signals a nobody).name))
      × ((clash_at m p y.signals a).first ≡ declared_at m p (get_or y.signals b nobody))
  listed-first a = first-clash m p y.signals a names_apart
