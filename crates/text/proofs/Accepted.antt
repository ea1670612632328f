-- What was read of an accepted text: a table that checks 1 to 6 accept, in lent cells that are 65,535 beyond it, and signals that are its own or
-- were numbered before.
use mathlib.Core.Path.{◌≡◌, refl, sym, subst, ap, ◌∙◌}
use mathlib.Core.Logic.{◌⊎◌, inl, inr}
use mathlib.Core.Bool.{Bool, true, false, not, ◌||◌, cond}
use mathlib.Core.List.{List, [], ◌∷◌, ◌++◌, append-nil, append_assoc}
use mathlib.Core.Option.{some}
use Prim.Native.Nat.{ℕ, suc, ◌+◌, ◌*◌, ◌%◌, ◌≤◌, ◌<◌}
use native.Mathlib.Omega.{arith}
use native.Mathlib.Decide.{dec_lt, ℕ_discrete}
use lib.Arith.{digits_lt, digits_mod}
use lib.Dec.{T, eqb, ltb, eqb→eq, ltb→lt, eqb_refl, T_not}
use lib.ListN.{length, get_or, take, length-append, length-set, length-replicate}
use lib.Seq.{get_or-set_same, get_or-set_other, get_or-take, length-take-le}
use borrow.Author.Tests.{lt-ltb, le-ltb}
use Rattle.theory.specs.declared.Automaton.{Automaton}
use Rattle.theory.specs.Table.{table as table_of, decode}
use Rattle.theory.specs.Checks.{declared}
use Rattle.theory.specs.Valid.{Valid}
use Rattle.theory.proofs.Tests.{or_cases, or_left, or_right}
use Rattle.theory.proofs.Options.{when_of}
use Rattle.theory.proofs.Filled.{replicate-at}
use Rattle.theory.proofs.Table.{table-narrow}
use Rattle.text.specs.declared.Place.TheVariants.{Head, Declarations}
use Rattle.text.specs.declared.Role.{Role}
use Rattle.text.specs.declared.Role.TheVariants.{Input, Output}
use Rattle.text.specs.declared.Spelling.{Spelling}
use Rattle.text.specs.declared.Spelling.TheVariants.{Exact}
use Rattle.text.specs.declared.TextRefusal.{TextRefusal}
use Rattle.text.specs.Fields.{split, onto, value}
use Rattle.text.specs.Lines.{Entry, takes_table, parse}
use Rattle.text.specs.Reading.{Signal, Reading, Change, next, stop, index_of, started, with_role, declaring, stepping, entered, Outcome, finished, ended, refuse_at, onward, is_nil, read_lines, fresh, read_from, read_alone, both, after_first, after_second, read_both}
use Rattle.text.specs.Lookup.{declares}
use Rattle.text.proofs.Split.{split-some}
use Rattle.text.proofs.Names.{index_le}
use Rattle.text.proofs.Lines.{From, of_table, of_declaration, of_step, of_refusal, from-line}
use Rattle.text.proofs.Entries.{started_of, declaring_of, stepping_of}
use Rattle.text.proofs.Roles.{member-none, declared-with, Lists, lists-with}
use Rattle.theory.specs.declared.Rule.TheVariants as rule

-- ---- what a line that is no refusal does

pub with-states : (r : Role) (a : ℕ) (h : Automaton) → (with_role r a h).states ≡ h.states
with-states Input a h = refl
with-states Output a h = refl

pub with-initial : (r : Role) (a : ℕ) (h : Automaton) → (with_role r a h).initial ≡ h.initial
with-initial Input a h = refl
with-initial Output a h = refl

-- The cell k holds a step of a declared signal.
pub record Step (st : Reading) (k : ℕ) : Type 0 where
  pub from : k < st.header.states * 32
  pub signal : T (declares st (k % 32))
  pub to : get_or st.cells k 65535 < st.header.states

-- Past the `table` line, where the signals l were numbered before, and so many cells are lent.
pub record Sound (l : List Signal) (room : ℕ) (st : Reading) : Type 0 where
  pub begun : T (not (takes_table st.place))
  pub some_state : 0 < st.header.states
  pub few_states : st.header.states ≤ 4096
  pub initial : st.header.initial < st.header.states
  pub lists : Lists st.header
  pub fits : st.header.states * 32 ≤ room
  pub size : length st.cells ≡ room
  pub steps : (k : ℕ) → (get_or st.cells k 65535 ≡ 65535) ⊎ Step st k
  pub more : List Signal
  pub extends : st.signals ≡ l ++ more
  pub few_signals : length st.signals ≤ 32
  pub numbered : (a : ℕ) → T (declares st a) → a < length st.signals
  pub own : (a : ℕ) → length l ≤ a → a < length st.signals → T (declares st a)

module _ (l : List Signal) (room : ℕ) where
  started-sound : (states initial : ℕ) (st : Reading) → length l ≤ 32 → started (fresh l room) states initial ≡ next st → Sound l room st
  started-sound states initial st few e =
      let u = started_of (fresh l room) states initial st e in
      let size : length (fresh l room).cells ≡ room = length-replicate {A = ℕ} room 65535 in
      subst (Sound l room) u.gives (record {
        begun = tt;
        some_state = u.some;
        few_states = u.few;
        initial = u.initial;
        lists = record { inputs = omega arith; outputs = omega arith; disjoint = λ a t. absurd (rw (member-none a) at t) };
        fits = omega (arith, u.room);
        size = size;
        steps = λ k. inl (replicate-at room k 65535);
        more = [];
        extends = sym (append-nil l);
        few_signals = few;
        numbered = λ a t. absurd (rw (member-none a) at t);
        own = λ a h k. absurd (omega arith);
      })

  -- A signal a that had no role has one now, and all signals up to it are numbered.
  sound-with : (r : Role) (a : ℕ) (st : Reading) (all more : List Signal) → a < 32 → ¬ T (declares st a) → Sound l room st
      → all ≡ l ++ more → length all ≤ 32 → a < length all → length st.signals ≤ length all → ((b : ℕ) → length st.signals ≤ b → b < length all → b ≡ a)
      → Sound l room (record { place = Declarations; header = with_role r a st.header; signals = all; cells = st.cells })
  sound-with r a st all more low new w extends few within grown last =
      let states : (with_role r a st.header).states ≡ st.header.states = with-states r a st.header in
      let initial : (with_role r a st.header).initial ≡ st.header.initial = with-initial r a st.header in
      let old : (b : ℕ) → T (declares st b) → T (declared (table_of (with_role r a st.header) []) b) =
      λ b t. rw (declared-with r a st.header b low) (or_left (declares st b) (eqb b a) t) in
      record {
        begun = tt;
        some_state = rw states w.some_state;
        few_states = rw states w.few_states;
        initial = rw (states, initial) w.initial;
        lists = lists-with r a st.header low new w.lists;
        fits = rw states w.fits;
        size = w.size;
        steps = λ k. elim (w.steps k) [
          | inl e ↦ inl e
          | inr u ↦ inr (record { from = rw states u.from; signal = old (k % 32) u.signal; to = rw states u.to })
        ];
        more = more;
        extends = extends;
        few_signals = few;
        numbered = λ b t. elim (or_cases (declares st b) (eqb b a) (rw (declared-with r a st.header b low) at t)) [
          | inl u ↦ omega (arith, w.numbered b u)
          | inr u ↦ omega (arith, eqb→eq b a u)
        ];
        own = λ b h k. elim (dec_lt b (length st.signals)) [
          | yes g ↦ old b (w.own b h g)
          | no g ↦ rw (declared-with r a st.header b low) (or_right (declares st b) (eqb b a) (rw (last b (omega arith) k) (eqb_refl a)))
        ];
      }

  declaring-sound : (c : Spelling) (r : Role) (s : Signal) (a : ℕ) (st st' : Reading) → a ≤ length st.signals → Sound l room st → declaring c st r s a ≡ next st' → Sound l room st'
  declaring-sound c r s a st st' le w e =
      let u = declaring_of c st r s a st' e in
      let longer : length (st.signals ++ s ∷ []) ≡ length st.signals + 1 = length-append st.signals (s ∷ []) in
      subst (Sound l room) u.gives (elim (dec_lt a (length st.signals)) [
        | yes h ↦ rw (lt-ltb a (length st.signals) h)
            (sound-with r a st st.signals w.more u.low u.new w w.extends w.few_signals h (omega arith) (λ b i j. omega arith))
        | no g ↦ rw (le-ltb a (length st.signals) (omega arith))
            (sound-with r a st (st.signals ++ s ∷ []) (w.more ++ s ∷ []) u.low u.new w (rw w.extends (append_assoc l w.more (s ∷ [])))
            (omega arith) (omega arith) (omega arith) (λ b i j. omega arith))
      ])

  stepping-sound : (from a to : ℕ) (st st' : Reading) → Sound l room st → stepping st from a to ≡ next st' → Sound l room st'
  stepping-sound from a to st st' w e =
      let u = stepping_of st from a to st' e in
      let low : a < 32 = table-narrow (table_of st.header []) a u.signal in
      let place = from * 32 + a in
      subst (Sound l room) u.gives (record {
        begun = tt;
        some_state = w.some_state;
        few_states = w.few_states;
        initial = w.initial;
        lists = w.lists;
        fits = w.fits;
        size = length-set st.cells place to ∙ w.size;
        steps = λ k. elim (ℕ_discrete k place) [
          | yes q ↦ inr (record {
            from = omega (arith, digits_lt u.from_in low);
            signal = rw (q, digits_mod from low) u.signal;
            to = rw (q, get_or-set_same st.cells place to 65535 (omega (arith, w.size, w.fits, digits_lt u.from_in low))) u.to_in;
          })
          | no d ↦ elim (w.steps k) [
            | inl q ↦ inl (get_or-set_other st.cells place k to 65535 d ∙ q)
            | inr v ↦ inr (record { from = v.from; signal = v.signal; to = rw (get_or-set_other st.cells place k to 65535 d) v.to })
          ]
        ];
        more = w.more;
        extends = w.extends;
        few_signals = w.few_signals;
        numbered = w.numbered;
        own = w.own;
      })

  pub entered-sound : {fs : List (List ℕ)} {e : Entry} (c : Spelling) (text at : ℕ) (st st' : Reading) → From st.place fs e → Sound l room st → entered c text at st e ≡ next st'
      → Sound l room st'
  unfolding entered
  entered-sound c text at st st' (of_table n s f q t) w e = absurd (T_not (takes_table st.place) w.begun t)
  entered-sound c text at st st' (of_declaration r n q t g) w e = declaring-sound c r _ (index_of n st.signals) st st' (index_le Exact n st.signals) w e
  entered-sound c text at st st' (of_step f n u q t g) w e = stepping-sound (value f) (index_of n st.signals) (value u) st st' w e
  entered-sound c text at st st' (of_refusal k least most) w e = absurd (let z : ◌≡◌ {A = ℕ} 0 1 = cc in omega arith)

  pub first-sound : {fs : List (List ℕ)} {e : Entry} (c : Spelling) (text at : ℕ) (st : Reading) → From Head fs e → length l ≤ 32 → entered c text at (fresh l room) e ≡ next st → Sound l room st
  unfolding entered
  first-sound c text at st (of_table n s f q t) few e = started-sound (value s) (value f) st few e
  first-sound c text at st (of_declaration r n q t g) few e = absurd t
  first-sound c text at st (of_step f n u q t g) few e = absurd t
  first-sound c text at st (of_refusal k least most) few e = absurd (let z : ◌≡◌ {A = ℕ} 0 1 = cc in omega arith)

-- ---- all lines

pub finished-same : (a b : Reading) → finished a ≡ finished b → a ≡ b
finished-same a b e = cc

pub onward-finished : (text k : ℕ) (r : Change) (f : Reading → Outcome) (b : Reading) → onward text k r f ≡ finished b → (a : Reading) × (r ≡ next a) × (f a ≡ finished b)
onward-finished text k (next a) f b e = (a, refl, e)
onward-finished text k (stop n) f b e = absurd (let z : ◌≡◌ {A = ℕ} 0 1 = cc in omega arith)

pub unless-nil : (b : Bool) (o : Outcome) (r : TextRefusal) (st : Reading) → cond b o (ended r) ≡ finished st → o ≡ finished st
unless-nil true o r st e = e
unless-nil false o r st e = absurd (let z : ◌≡◌ {A = ℕ} 0 1 = cc in omega arith)

module _ (c : Spelling) (l : List Signal) (text room : ℕ) where
  lines-sound : (k at : ℕ) (st st' : Reading) (ls : List (List ℕ)) → Sound l room st → read_lines c text k at st ls ≡ finished st' → Sound l room st'
  unfolding read_lines
  lines-sound k at st st' [] w e = subst (Sound l room) (finished-same st st' e) w
  lines-sound k at st st' (x ∷ []) w e = subst (Sound l room) (finished-same st st' (unless-nil (is_nil x) (finished st) _ st' e)) w
  lines-sound k at st st' (x ∷ y ∷ ls) w e =
      let (m, p, q) = onward-finished text k _ _ st' e in
      lines-sound (suc k) (at + length x + 1) m st' (y ∷ ls) (entered-sound l room c text at st m (from-line st.place x) w p) q

  -- The first line, and what comes behind it.
  pub record Opened (bytes : List ℕ) (st : Reading) : Type 0 where
    pub line : List ℕ
    pub second : List ℕ
    pub lines : List (List ℕ)
    pub parts : split 10 bytes ≡ line ∷ second ∷ lines
    pub begun : Reading
    pub enters : entered c text 0 (fresh l room) (parse Head line) ≡ next begun
    pub goes : read_lines c text 2 (0 + length line + 1) begun (second ∷ lines) ≡ finished st

  opened-lines : (bytes : List ℕ) (x : ℕ) (s : List ℕ) (st : Reading) → bytes ≡ x ∷ s → read_lines c text 1 0 (fresh l room) (split 10 (x ∷ s)) ≡ finished st
      → Opened bytes st
  unfolding split read_lines
  opened-lines bytes x s st q e =
      let (f, fs, p) = split-some 10 s in
      go (eqb x 10) f fs (ap (split 10) q ∙ rw p) (rw p at e)
    where
      open_line : (y : List ℕ) (z : List ℕ) (ls : List (List ℕ)) → split 10 bytes ≡ y ∷ z ∷ ls
          → onward text 1 (entered c text 0 (fresh l room) (parse Head y)) (λ st. read_lines c text 2 (0 + length y + 1) st (z ∷ ls)) ≡ finished st → Opened bytes st
      open_line y z ls p e =
          let (m, f, g) = onward-finished text 1 _ _ st e in
          record { line = y; second = z; lines = ls; parts = p; begun = m; enters = f; goes = g }

      go : (b : Bool) (f : List ℕ) (fs : List (List ℕ)) → split 10 bytes ≡ cond b ([] ∷ f ∷ fs) (onto x (f ∷ fs))
          → read_lines c text 1 0 (fresh l room) (cond b ([] ∷ f ∷ fs) (onto x (f ∷ fs))) ≡ finished st → Opened bytes st
      go true f fs p e = open_line [] f fs p e
      go false f [] p e = absurd (let z : ◌≡◌ {A = ℕ} 0 1 = cc in omega arith)
      go false f (g ∷ fs) p e = open_line (x ∷ f) g fs p e

  pub opened : (bytes : List ℕ) (st : Reading) → read_from c l text room bytes ≡ finished st → Opened bytes st
  unfolding read_from
  opened bytes st e = go (ltb 65536 (length bytes)) bytes refl e
    where
      go : (b : Bool) (s : List ℕ) → bytes ≡ s
          → cond b (refuse_at rule.TextLength text 0) (cond (is_nil s) (refuse_at rule.EmptyText text 0) (read_lines c text 1 0 (fresh l room) (split 10 s))) ≡ finished st → Opened bytes st
      go true s q e = absurd (let z : ◌≡◌ {A = ℕ} 0 1 = cc in omega arith)
      go false [] q e = absurd (let z : ◌≡◌ {A = ℕ} 0 1 = cc in omega arith)
      go false (x ∷ s) q e = opened-lines bytes x s st q e

  pub opened-sound : {bytes : List ℕ} {st : Reading} (o : Opened bytes st) → length l ≤ 32 → Sound l room o.begun
  opened-sound o few = first-sound l room c text 0 o.begun (from-line Head o.line) few o.enters

  pub accepted : (bytes : List ℕ) (st : Reading) → length l ≤ 32 → read_from c l text room bytes ≡ finished st → Sound l room st
  accepted bytes st few e =
      let o = opened bytes st e in
      lines-sound 2 (0 + length o.line + 1) o.begun st (o.second ∷ o.lines) (opened-sound o few) o.goes

-- ---- what follows

-- Checks 1 to 6 accept the table that was read: the header with the cells that it needs.
pub accepted-valid : (l : List Signal) (room : ℕ) (st : Reading) → Sound l room st → Valid (table_of st.header (take (st.header.states * 32) st.cells))
accepted-valid l room st w = record {
  some_state = w.some_state;
  few_states = w.few_states;
  initial = w.initial;
  disjoint = record { inputs = w.lists.disjoint };
  size = length-take-le (n * 32) st.cells (omega (arith, w.size, w.fits));
  sound = λ k h. rw (get_or-take (n * 32) st.cells k 65535 h) (elim (w.steps k) [ inl e ↦ inl e | inr u ↦ inr u.to ]);
  known = λ s a u h e.
      let (low, f) = when_of (ltb a 32) (decode n (get_or (take (n * 32) st.cells) (s * 32 + a) 65535)) e in
      let (cell, _) = when_of (ltb (get_or (take (n * 32) st.cells) (s * 32 + a) 65535) n) (some _) f in
      stepped s a h (ltb→lt a 32 low) (ltb→lt _ n cell);
}
  where
    n : ℕ
    n = st.header.states

    stepped : (s a : ℕ) → s < n → a < 32 → get_or (take (n * 32) st.cells) (s * 32 + a) 65535 < n → T (declares st a)
    stepped s a h low c =
        let d : get_or st.cells (s * 32 + a) 65535 < n = rw (get_or-take (n * 32) st.cells (s * 32 + a) 65535 (digits_lt h low)) at c in
        elim (w.steps (s * 32 + a)) [ inl e ↦ absurd (omega (arith, w.few_states)) | inr u ↦ rw (digits_mod s low) at u.signal ]

-- Lent cells beyond the table read are 65,535.
pub accepted_beyond : (l : List Signal) (room : ℕ) (st : Reading) → Sound l room st → (k : ℕ) → st.header.states * 32 ≤ k → get_or st.cells k 65535 ≡ 65535
accepted_beyond l room st w k h = elim (w.steps k) [ inl e ↦ e | inr u ↦ absurd (omega (arith, u.from)) ]

-- A text alone.
pub accepted_alone : (c : Spelling) (room : ℕ) (bytes : List ℕ) (st : Reading) → read_alone c room bytes ≡ finished st → Sound [] room st
unfolding read_alone
accepted_alone c room bytes st e = accepted c [] 1 room bytes st (omega arith) e

-- Two texts together.
pub read-both : (c : Spelling) (room : ℕ) (bytes : List ℕ) (room' : ℕ) (bytes' : List ℕ) (m p : Reading) → read_both c room bytes room' bytes' ≡ both m p
    → (read_from c [] 1 room bytes ≡ finished m) × (read_from c m.signals 2 room' bytes' ≡ finished p)
unfolding read_both read_alone
read-both c room bytes room' bytes' m p e = first (read_from c [] 1 room bytes) refl e
  where
    second : (x : Reading) → read_from c [] 1 room bytes ≡ finished x → (o : Outcome) → read_from c x.signals 2 room' bytes' ≡ o → after_second x o ≡ both m p
        → (read_from c [] 1 room bytes ≡ finished m) × (read_from c m.signals 2 room' bytes' ≡ finished p)
    second x f (finished y) g e =
        let a : x ≡ m = cc in
        let b : y ≡ p = cc in
        rw (← a, ← b) (f, g)
    second x f (ended r) g e = absurd (let z : ◌≡◌ {A = ℕ} 0 1 = cc in omega arith)

    first : (o : Outcome) → read_from c [] 1 room bytes ≡ o → after_first c room' bytes' o ≡ both m p
        → (read_from c [] 1 room bytes ≡ finished m) × (read_from c m.signals 2 room' bytes' ≡ finished p)
    first (finished x) f e = second x f (read_from c x.signals 2 room' bytes') refl e
    first (ended r) f e = absurd (let z : ◌≡◌ {A = ℕ} 0 1 = cc in omega arith)

pub record Accepted (room room' : ℕ) (m p : Reading) : Type 0 where
  pub first : Sound [] room m
  pub second : Sound m.signals room' p
  pub declared_in : (a : ℕ) → a < length p.signals → T (declares m a || declares p a)

pub accepted-both : (c : Spelling) (room : ℕ) (bytes : List ℕ) (room' : ℕ) (bytes' : List ℕ) (m p : Reading) → read_both c room bytes room' bytes' ≡ both m p → Accepted room room' m p
accepted-both c room bytes room' bytes' m p e =
    let (f, g) = read-both c room bytes room' bytes' m p e in
    let w = accepted c [] 1 room bytes m (omega arith) f in
    let v = accepted c m.signals 2 room' bytes' p w.few_signals g in
    record {
      first = w;
      second = v;
      declared_in = λ a h. elim (dec_lt a (length m.signals)) [
        | yes k ↦ or_left (declares m a) (declares p a) (w.own a (omega arith) k)
        | no g ↦ or_right (declares m a) (declares p a) (v.own a (omega arith) h)
      ];
    }
