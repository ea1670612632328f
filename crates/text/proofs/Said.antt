-- Every line of an accepted text holds of the table read: none is lost, and no later line changes what an earlier one said (18, 20).
use mathlib.Core.Path.{◌≡◌, refl, sym, ap, subst, ◌∙◌}
use mathlib.Core.Bool.{Bool, true, false, cond}
use mathlib.Core.List.{List, [], ◌∷◌, ◌++◌, append-nil, append_assoc}
use Prim.Native.Nat.{ℕ, suc, ◌+◌, ◌*◌, ◌≤◌, ◌<◌}
use native.Mathlib.Omega.{arith}
use lib.Arith.{digits_lt}
use lib.Dec.{T, ltb, T_not}
use lib.ListN.{length, get_or}
use lib.Seq.{get_or-set_same, get_or-set_other}
use Rattle.theory.proofs.Table.{table-narrow}
use Rattle.theory.specs.Table.{table as table_of}
use Rattle.text.specs.declared.Place.{Place}
use Rattle.text.specs.declared.Place.TheVariants.{Head}
use Rattle.text.specs.declared.Role.{Role}
use Rattle.text.specs.declared.Spelling.{Spelling}
use Rattle.text.specs.declared.Spelling.TheVariants.{Exact}
use Rattle.text.specs.Fields.{split, value}
use Rattle.text.specs.Lines.{Entry, table, declaration, step, refused, takes_table, parse}
use Rattle.text.specs.Reading.{Signal, Reading, next, index_of, known, declaring, stepping, entered, finished, is_nil, read_lines, fresh, read_from}
use Rattle.text.specs.Lookup.{declares}
use Rattle.text.proofs.Names.{index_append, index_put}
use Rattle.text.proofs.Lines.{From, of_table, of_declaration, of_step, of_refusal, from-line}
use Rattle.text.proofs.Entries.{started_of, declaring_of, stepping_of}
use Rattle.text.proofs.Roles.{roles_at, only, some_role, only-some, undeclared, roles-here, roles-there}
use Rattle.text.proofs.Accepted.{with-states, with-initial, Sound, entered-sound, finished-same, onward-finished, unless-nil, opened, opened-sound}

-- What an entry says holds of a reading.
abbrev pub Holds : Reading → Entry → Type 0
Holds st (table n i) = (st.header.states ≡ n) × (st.header.initial ≡ i)
Holds st (declaration r n) = roles_at st.header (index_of n st.signals) ≡ only r
Holds st (step from n to) = T (declares st (index_of n st.signals)) × (get_or st.cells (from * 32 + index_of n st.signals) 65535 ≡ to) × (to < st.header.states)
Holds st (refused k) = ⊥

-- Every line but what stands after the last LF.
abbrev pub AllHold : Reading → List (List ℕ) → Type 0
AllHold st [] = Unit {0}
AllHold st (x ∷ []) = Unit {0}
AllHold st (x ∷ y ∷ ls) = ((p : Place) × Holds st (parse p x)) × AllHold st (y ∷ ls)

-- ---- what stays

record Keeps (a b : Reading) : Type 0 where
  states : b.header.states ≡ a.header.states
  initial : b.header.initial ≡ a.header.initial
  more : List Signal
  signals : b.signals ≡ a.signals ++ more
  roles : (i : ℕ) → T (declares a i) → roles_at b.header i ≡ roles_at a.header i
  steps : (k : ℕ) → ¬ (get_or a.cells k 65535 ≡ 65535) → get_or b.cells k 65535 ≡ get_or a.cells k 65535

keeps_self : (a : Reading) → Keeps a a
keeps_self a = record { states = refl; initial = refl; more = []; signals = sym (append-nil a.signals); roles = λ i d. refl; steps = λ k n. refl }

kept-declared : {a b : Reading} → Keeps a b → (i : ℕ) → T (declares a i) → T (declares b i)
kept-declared u i d = subst (λ p. T (some_role p)) (sym (u.roles i d)) d

keeps_then : {a b c : Reading} → Keeps a b → Keeps b c → Keeps a c
keeps_then {a} {b} {c} u v = record {
  states = v.states ∙ u.states;
  initial = v.initial ∙ u.initial;
  more = u.more ++ v.more;
  signals = v.signals ∙ ap (λ l. l ++ v.more) u.signals ∙ append_assoc a.signals u.more v.more;
  roles = λ i d. v.roles i (kept-declared u i d) ∙ u.roles i d;
  steps = λ k n. v.steps k (λ e. n (sym (u.steps k n) ∙ e)) ∙ u.steps k n;
}

-- A name is known with the number that it has, or with the next.
known_put : (l : List Signal) (s : Signal)
    → (more : List Signal) × (known l s (index_of s.name l) ≡ l ++ more) × (index_of s.name (known l s (index_of s.name l)) ≡ index_of s.name l)
known_put l s = go (ltb (index_of s.name l) (length l))
  where
    go : (b : Bool) → (more : List Signal) × (cond b l (l ++ s ∷ []) ≡ l ++ more) × (index_of s.name (cond b l (l ++ s ∷ [])) ≡ index_of s.name l)
    go true = ([], sym (append-nil l), refl)
    go false = (s ∷ [], refl, index_put s l)

module _ (l : List Signal) (room : ℕ) where
  -- The number of a declared name stays.
  kept_index : {a b : Reading} → Sound l room a → Keeps a b → (n : List ℕ) → T (declares a (index_of n a.signals)) → index_of n b.signals ≡ index_of n a.signals
  kept_index {a} w u n d = ap (index_of n) u.signals ∙ index_append Exact n a.signals u.more (w.numbered (index_of n a.signals) d)

  holds_kept : (e : Entry) {a b : Reading} → Sound l room a → Keeps a b → Holds a e → Holds b e
  holds_kept (table n i) w u (h, k) = (u.states ∙ h, u.initial ∙ k)
  holds_kept (declaration r n) {a} {b} w u h =
      let d : T (declares a (index_of n a.signals)) = only-some r h in
      rw (kept_index w u n d) (u.roles (index_of n a.signals) d ∙ h)
  holds_kept (step from n to) {a} {b} w u (d, c, k) =
      let e = kept_index w u n d in (
        rw e (kept-declared u (index_of n a.signals) d),
        rw e (u.steps (from * 32 + index_of n a.signals) (λ z. omega (arith, w.few_states)) ∙ c),
        rw u.states k,
      )
  holds_kept (refused k) w u h = h

  -- ---- what a line does

  record Done (e : Entry) (a b : Reading) : Type 0 where
    holds : Holds b e
    keeps : Keeps a b

  declaring-done : (c : Spelling) (r : Role) (s : Signal) (a b : Reading) → Sound l room a → declaring c a r s (index_of s.name a.signals) ≡ next b → Done (declaration r s.name) a b
  declaring-done c r s a b w e =
      let i = index_of s.name a.signals in
      let u = declaring_of c a r s i b e in
      let (more, grown, same) = known_put a.signals s in
      subst (Done (declaration r s.name) a) u.gives (record {
        holds = rw same (roles-here r i a.header u.low (undeclared a.header i u.new));
        keeps = record {
          states = with-states r i a.header;
          initial = with-initial r i a.header;
          more = more;
          signals = grown;
          roles = λ j d. roles-there r i a.header j u.low (λ q. u.new (rw q at d));
          steps = λ k n. refl;
        };
      })

  stepping-done : (from to : ℕ) (n : List ℕ) (a b : Reading) → Sound l room a → stepping a from (index_of n a.signals) to ≡ next b → Done (step from n to) a b
  stepping-done from to n a b w e =
      let i = index_of n a.signals in
      let u = stepping_of a from i to b e in
      let low : i < 32 = table-narrow (table_of a.header []) i u.signal in
      subst (Done (step from n to) a) u.gives (record {
        holds = (u.signal, get_or-set_same a.cells (from * 32 + i) to 65535 (omega (arith, w.size, w.fits, digits_lt u.from_in low)), u.to_in);
        keeps = record {
          states = refl;
          initial = refl;
          more = [];
          signals = sym (append-nil a.signals);
          roles = λ j d. refl;
          steps = λ k m. get_or-set_other a.cells (from * 32 + i) k to 65535 (λ q. m (rw q u.free));
        };
      })

  entered-done : {fs : List (List ℕ)} {e : Entry} (c : Spelling) (text at : ℕ) (a b : Reading) → From a.place fs e → Sound l room a → entered c text at a e ≡ next b → Done e a b
  unfolding entered
  entered-done c text at a b (of_table n s f q t) w e = absurd (T_not (takes_table a.place) w.begun t)
  entered-done c text at a b (of_declaration r n q t g) w e = declaring-done c r _ a b w e
  entered-done c text at a b (of_step f n u q t g) w e = stepping-done (value f) (value u) n a b w e
  entered-done c text at a b (of_refusal k least most) w e = absurd (let z : ◌≡◌ {A = ℕ} 0 1 = cc in omega arith)

  -- ---- all lines

  lines_hold : (c : Spelling) (text k at : ℕ) (a b : Reading) (ls : List (List ℕ)) → Sound l room a → read_lines c text k at a ls ≡ finished b → Keeps a b × AllHold b ls
  unfolding read_lines
  lines_hold c text k at a b [] w e = (subst (Keeps a) (finished-same a b e) (keeps_self a), tt)
  lines_hold c text k at a b (x ∷ []) w e = (subst (Keeps a) (finished-same a b (unless-nil (is_nil x) (finished a) _ b e)) (keeps_self a), tt)
  lines_hold c text k at a b (x ∷ y ∷ ls) w e =
      let (m, p, q) = onward-finished text k _ _ b e in
      let d = entered-done c text at a m (from-line a.place x) w p in
      let v = entered-sound l room c text at a m (from-line a.place x) w p in
      let (u, h) = lines_hold c text (suc k) (at + length x + 1) m b (y ∷ ls) v q in
      (keeps_then d.keeps u, ((a.place, holds_kept (parse a.place x) v u d.holds), h))

  first_holds : {fs : List (List ℕ)} {e : Entry} (c : Spelling) (text at : ℕ) (b : Reading) → From Head fs e → entered c text at (fresh l room) e ≡ next b → Holds b e
  unfolding entered
  first_holds c text at b (of_table n s f q t) e =
      subst (λ st. Holds st (table (value s) (value f))) (started_of (fresh l room) (value s) (value f) b e).gives (refl, refl)
  first_holds c text at b (of_declaration r n q t g) e = absurd t
  first_holds c text at b (of_step f n u q t g) e = absurd t
  first_holds c text at b (of_refusal k least most) e = absurd (let z : ◌≡◌ {A = ℕ} 0 1 = cc in omega arith)

  pub all_hold : (c : Spelling) (text : ℕ) (bytes : List ℕ) (st : Reading) → length l ≤ 32 → read_from c l text room bytes ≡ finished st → AllHold st (split 10 bytes)
  all_hold c text bytes st few e =
      let o = opened c l text room bytes st e in
      let w = opened-sound c l text room o few in
      let (u, h) = lines_hold c text 2 (0 + length o.line + 1) o.begun st (o.second ∷ o.lines) w o.goes in
      let k : Holds o.begun (parse Head o.line) = first_holds c text 0 o.begun (from-line Head o.line) o.enters in
      rw o.parts ((Head, holds_kept (parse Head o.line) w u k), h)
