-- A signal's name is the part of its text where it was first declared (01, "Table text").
use mathlib.Core.Path.{◌≡◌, refl, sym, ap, subst, ◌∙◌}
use mathlib.Core.Bool.{Bool, true, false, ◌||◌, cond}
use mathlib.Core.List.{List, [], ◌∷◌, ◌++◌}
use Prim.Native.Nat.{ℕ, suc, ◌+◌, ◌≤◌, ◌<◌}
use native.Mathlib.Omega.{arith}
use native.Mathlib.Decide.{dec_lt}
use lib.Dec.{T, ltb}
use lib.ListN.{length, get_or, take, drop, take-append-drop, length-append, get_or-append}
use lib.Seq.{get_or-append_seam, drop-drop, drop-append-le, take-append_seam, length-take-le}
use Rattle.theory.proofs.Tests.{is_true, or_left, or_right}
use Rattle.text.specs.declared.Place.{Place}
use Rattle.text.specs.declared.Place.TheVariants.{Head}
use Rattle.text.specs.declared.Role.{Role}
use Rattle.text.specs.declared.Spelling.{Spelling}
use Rattle.text.specs.Fields.{split, upto, name_ok, value}
use Rattle.text.specs.Lines.{Entry, role_word}
use Rattle.text.specs.Reading.{Signal, Reading, next, index_of, known, entered, finished, is_nil, read_lines, fresh, read_from, read_alone, both, read_both}
use Rattle.text.specs.Lookup.{ample, nobody, declares, lookup, lookup_alone}
use Rattle.text.proofs.Split.{split-more, split_one}
use Rattle.text.proofs.Lines.{From, of_table, of_declaration, of_step, of_refusal, from-line}
use Rattle.text.proofs.Entries.{started_of, declaring_of, stepping_of}
use Rattle.text.proofs.Accepted.{finished-same, onward-finished, unless-nil, opened, accepted, read-both}

-- The name of a declaration stands behind the role's word and a tab.
declared-name : (r : Role) (n x : List ℕ) → split 9 x ≡ role_word r ∷ n ∷ [] → (length (role_word r) + 1 ≤ length x) × (n ≡ drop (length (role_word r) + 1) x)
declared-name r n x q =
    let c = split-more 9 x (role_word r) n [] q in
    let e : length (role_word r) ≡ upto 9 x = ap length c.first ∙ length-take-le (upto 9 x) x (omega (arith, c.found)) in
    (omega (arith, c.found), rw e (split_one 9 (drop (upto 9 x + 1) x) n c.others).1)

-- ---- the names of a text's own signals

-- The signal's name keeps the rule, and stands in the text of the number text, where it says.
pub record Stands (text : ℕ) (bytes : List ℕ) (s : Signal) : Type 0 where
  pub named : s.text ≡ text
  pub part : take (length s.name) (drop s.from bytes) ≡ s.name
  pub rule : T (name_ok s.name)

module _ (l : List Signal) (text : ℕ) (bytes : List ℕ) where
  -- So do all signals that come after l.
  abbrev pub AllStand : List Signal → Type 0
  AllStand signals = (a : ℕ) → length l ≤ a → a < length signals → Stands text bytes (get_or signals a nobody)

  known_stand : (signals : List Signal) (s : Signal) (a : ℕ) → Stands text bytes s → AllStand signals → AllStand (known signals s a)
  known_stand signals s a h w = go (ltb a (length signals))
    where
      go : (b : Bool) → AllStand (cond b signals (signals ++ s ∷ []))
      go true i p q = w i p q
      go false i p q = elim (dec_lt i (length signals)) [
        | yes k ↦ rw (get_or-append signals (s ∷ []) nobody i k) (w i p k)
        | no g ↦
            let e : i ≡ length signals = omega (arith, length-append signals (s ∷ [])) in
            rw (e, get_or-append_seam signals s [] nobody) h
      ]

  -- The line x begins at the byte `at`.
  Line : ℕ → List ℕ → Type 0
  Line at x = (rest : List ℕ) × (drop at bytes ≡ x ++ rest)

  declared-stands : (at : ℕ) (x : List ℕ) (r : Role) (n : List ℕ) → Line at x → split 9 x ≡ role_word r ∷ n ∷ [] → T (name_ok n)
      → Stands text bytes (record { name = n; text = text; from = at + length (role_word r) + 1 })
  unfolding Line
  declared-stands at x r n (rest, e) q g =
      let (k, f) = declared-name r n x q in
      let w = length (role_word r) + 1 in
      let i : at + length (role_word r) + 1 ≡ at + w = omega arith in
      record {
        named = refl;
        part = rw (i, ← drop-drop w at bytes, e, drop-append-le w x rest k, ← f) (take-append_seam n rest);
        rule = g;
      }

  entered_stand : {e : Entry} (c : Spelling) (at : ℕ) (x : List ℕ) (p : Place) (a b : Reading) → From p (split 9 x) e → Line at x → AllStand a.signals → entered c text at a e ≡ next b
      → AllStand b.signals
  unfolding entered
  entered_stand c at x p a b (of_table n s f q t) h w e = subst (λ st. AllStand st.signals) (started_of a (value s) (value f) b e).gives w
  entered_stand c at x p a b (of_declaration r n q t g) h w e =
      subst (λ st. AllStand st.signals) (declaring_of c a r _ (index_of n a.signals) b e).gives
      (known_stand a.signals _ (index_of n a.signals) (declared-stands at x r n h q g) w)
  entered_stand c at x p a b (of_step f n u q t g) h w e =
      subst (λ st. AllStand st.signals) (stepping_of a (value f) (index_of n a.signals) (value u) b e).gives w
  entered_stand c at x p a b (of_refusal k least most) h w e = absurd (let z : ◌≡◌ {A = ℕ} 0 1 = cc in omega arith)

  -- The lines from the byte `at` on: the first begins there, the others behind it.
  next-line : (at : ℕ) (x y : List ℕ) (ls : List (List ℕ)) → split 10 (drop at bytes) ≡ x ∷ y ∷ ls → Line at x × (split 10 (drop (at + length x + 1) bytes) ≡ y ∷ ls)
  unfolding Line
  next-line at x y ls q =
      let c = split-more 10 (drop at bytes) x y ls q in
      let n = upto 10 (drop at bytes) in
      let e : length x ≡ n = ap length c.first ∙ length-take-le n (drop at bytes) (omega (arith, c.found)) in
      let i : at + length x + 1 ≡ at + (n + 1) = omega arith in
      ((drop n (drop at bytes), rw c.first (sym (take-append-drop n (drop at bytes)))), rw (i, ← drop-drop (n + 1) at bytes) c.others)

  lines_stand : (c : Spelling) (k at : ℕ) (a b : Reading) (ls : List (List ℕ)) → split 10 (drop at bytes) ≡ ls → AllStand a.signals → read_lines c text k at a ls ≡ finished b
      → AllStand b.signals
  unfolding read_lines
  lines_stand c k at a b [] q w e = subst (λ st. AllStand st.signals) (finished-same a b e) w
  lines_stand c k at a b (x ∷ []) q w e = subst (λ st. AllStand st.signals) (finished-same a b (unless-nil (is_nil x) (finished a) _ b e)) w
  lines_stand c k at a b (x ∷ y ∷ ls) q w e =
      let (m, f, g) = onward-finished text k _ _ b e in
      let (line, rest) = next-line at x y ls q in
      lines_stand c (suc k) (at + length x + 1) m b (y ∷ ls) rest (entered_stand c at x a.place a m (from-line a.place x) line w f) g

  -- In an accepted text each signal that is new there has its name where it says.
  pub all_stand : (c : Spelling) (room : ℕ) (st : Reading) → read_from c l text room bytes ≡ finished st → AllStand st.signals
  all_stand c room st e =
      let o = opened c l text room bytes st e in
      let (line, rest) = next-line 0 o.line o.second o.lines o.parts in
      lines_stand c 2 (0 + length o.line + 1) o.begun st (o.second ∷ o.lines) rest
      (entered_stand c 0 o.line Head (fresh l room) o.begun (from-line Head o.line) line (λ a h k. absurd (omega arith)) o.enters) o.goes

-- ---- lookup

-- A signal of a text read alone.
pub lookup_part_alone : (c : Spelling) (bytes : List ℕ) (st : Reading) (a : ℕ) → read_alone c ample bytes ≡ finished st → T (declares st a) → Stands 1 bytes (lookup_alone c bytes a)
unfolding lookup_alone read_alone
lookup_part_alone c bytes st a e d =
    let w = accepted c [] 1 ample bytes st (omega arith) e in
    rw (e, is_true (declares st a) d) (all_stand [] 1 bytes c ample st e a (omega arith) (w.numbered a d))

-- Two texts: a signal of the module stands in the module's text, where both declare it too; any other in the plan's.
module _ (c : Spelling) (bytes bytes' : List ℕ) (m p : Reading) (e : read_both c ample bytes ample bytes' ≡ both m p) (a : ℕ) where
  pub lookup-part-first : T (declares m a) → Stands 1 bytes (lookup c bytes bytes' a)
  unfolding lookup
  lookup-part-first d =
      let u = read-both c ample bytes ample bytes' m p e in
      let w = accepted c [] 1 ample bytes m (omega arith) u.0 in
      let v = accepted c m.signals 2 ample bytes' p w.few_signals u.1 in
      let k : a < length m.signals = w.numbered a d in
      rw (e, is_true (declares m a || declares p a) (or_left (declares m a) (declares p a) d), v.extends, get_or-append m.signals v.more nobody a k)
      (all_stand [] 1 bytes c ample m u.0 a (omega arith) k)

  pub lookup-part-second : ¬ T (declares m a) → T (declares p a) → Stands 2 bytes' (lookup c bytes bytes' a)
  unfolding lookup
  lookup-part-second n d =
      let u = read-both c ample bytes ample bytes' m p e in
      let w = accepted c [] 1 ample bytes m (omega arith) u.0 in
      let v = accepted c m.signals 2 ample bytes' p w.few_signals u.1 in
      let new : length m.signals ≤ a = elim (dec_lt a (length m.signals)) [ yes k ↦ absurd (n (w.own a (omega arith) k)) | no g ↦ omega arith ] in
      rw (e, is_true (declares m a || declares p a) (or_right (declares m a) (declares p a) d))
      (all_stand m.signals 2 bytes' c ample p u.1 a new (v.numbered a d))
