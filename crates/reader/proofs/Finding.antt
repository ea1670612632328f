-- The part of a text where a signal's name was first declared, and the replies of lookups.
use mathlib.Core.Path.{◌≡◌, sym, subst, ap, ◌∙◌}
use mathlib.Core.Logic.{inl, inr}
use mathlib.Core.Bool.{Bool, true, false, ◌||◌, ◌&&◌}
use mathlib.Core.List.{List, []}
use Prim.Native.Nat.{ℕ, ◌+◌, ◌-◌, ◌≤◌, min}
use native.Mathlib.Omega.{arith}
use native.Mathlib.Decide.{dec_le, dec_lt}
use lib.Bits.{bit_or}
use lib.Dec.{T, leb, leb→le}
use lib.ListN.{length, get_or, drop, length-append, length-take, length-drop, get_or-append}
use Rattle.std.specs.Prelude.{Result, Ok, Err}
use Rattle.std.specs.Borrow.{Bor}
use Rattle.theory.specs.declared.Automaton.{Automaton}
use Rattle.theory.specs.Table.{declared_set, member, table}
use Rattle.theory.proofs.Sets.{member-or}
use Rattle.theory.proofs.Filled.{any_default}
use Rattle.theory.proofs.Tests.{and_left, or_cases}
use Rattle.theory.proofs.Table.{declared-set}
use Rattle.text.specs.declared.Spelling.{Spelling}
use Rattle.text.specs.Fields.{all, name_byte, name_ok}
use Rattle.text.specs.Reading.{Signal, text_of, read_alone, read_both}
use Rattle.text.specs.Lookup.{nobody}
use Rattle.text.proofs.Accepted.{accepted_alone, accepted-both, read-both}
use Rattle.text.proofs.Parts.{Stands, all_stand}
use Rattle.lines.specs.Places.{forward, place_in}
use Rattle.names.specs.declared.Name.{Name}
use Rattle.names.specs.declared.Names.{Names}
use Rattle.names.specs.NamePlaces.{text_in, name_at}
use Rattle.names.specs.Numbering.{signal_at, signals_of}
use Rattle.names.proofs.NumberedNames.{signals-length, signal-at}
use Rattle.reader.specs.declared.state.State.{State}
use Rattle.reader.specs.declared.state.States.{States}
use Rattle.reader.specs.State.{is_declared, ReadsOne, ReadsBoth}
use Rattle.reader.specs.Places.{part_at, name_reply, name_alone_reply, Held}
use Rattle.theory.specs.declared.Rule.{Rule}
use Rattle.theory.specs.declared.Rule.TheVariants as rule

-- ---- whether a signal is declared

pub declared-either : (h : Automaton) (a d : ℕ) (r : Bool) → d ≡ declared_set h → r ≡ member d a → r ≡ is_declared h a
declared-either h a d r e f = f ∙ rw e (declared-set (table h []) a)

pub declared_of : (a b : Automaton) (s d e : ℕ) (r : Bool) → d ≡ declared_set a → e ≡ declared_set b
    → r ≡ member (bit_or d e) s → r ≡ (is_declared a s || is_declared b s)
declared_of a b s d e r f g h =
    h ∙ member-or d e s ∙ rw (f, g, declared-set (table a []) s, declared-set (table b []) s)

-- ---- the part where a name stands

-- A name has a byte, so its place is inside its text.
stands-inside : (text : ℕ) (bytes : List ℕ) (s : Signal) → Stands text bytes s → s.from ≤ length bytes
unfolding name_ok
stands-inside text bytes s h = elim (dec_le s.from (length bytes)) [
  | yes k ↦ k
  | no g ↦
      let some : 1 ≤ length s.name =
      leb→le 1 (length s.name) (and_left (leb 1 (length s.name)) (leb (length s.name) 16) (and_left (leb 1 (length s.name) && leb (length s.name) 16) (all name_byte s.name) h.rule)) in
      let size : min (length s.name) (length bytes - s.from) ≡ length s.name =
      ap (min (length s.name)) (sym (length-drop s.from bytes)) ∙ sym (length-take (length s.name) (drop s.from bytes)) ∙ ap length h.part in
      absurd (omega (arith, g, some, size))
]

-- The signal a, which has a number and stands in its text.
module _ (m p : List ℕ) (s : Names) (a : ℕ) (held : Held m p s a) (d : Name) where
  abbrev entry : Name
  entry = get_or s.entries a d

  abbrev signal : Signal
  signal = get_or (signals_of m p s) a nobody

  same : signal ≡ signal_at m p entry
  same = any_default (signals_of m p s) a nobody (signal_at m p d) (omega (arith, held.below, signals-length m p s held.fit)) ∙ signal-at m p s held.fit d a held.below

  pub part-held : signal.from ≤ length (text_of m p signal.text) → (x y : ℕ × ℕ) (b : Bor (List ℕ)) → b.now ≡ name_at m p entry
      → b.ref_ptr ≡ place_in (text_of x y (text_in entry)) (text_of m p (text_in entry)) entry.from → b ≡ part_at x y signal
  part-held inside x y b now place =
      let inside' : entry.from ≤ length (text_of m p (text_in entry)) = subst (λ (z : Signal). z.from ≤ length (text_of m p z.text)) same inside in
      let e : min entry.from (length (text_of m p (text_in entry))) ≡ entry.from = omega arith in
      let there : b.ref_ptr ≡ forward (text_of x y (text_in entry)) entry.from = place ∙ ap (forward (text_of x y (text_in entry))) e in
      let part : b ≡ part_at x y (signal_at m p entry) = (λ i. record { ref_ptr = there i; now = now i }) in
      part ∙ ap (part_at x y) (sym same)

-- ---- two texts

module _ (m p : List ℕ) (c : Spelling) (room room' : ℕ) (t : States) (cells cells' : List ℕ) (read : ReadsBoth m p c room room' (Ok t) cells cells') (a : ℕ) where
  abbrev some : Bool
  some = is_declared t.first.header a || is_declared t.second.header a

  pub undeclared-both : some ≡ false → (x y : ℕ × ℕ) → ◌≡◌ {A = Result (Bor (List ℕ)) Rule} (Err rule.NoAction) (name_reply x y (read_both c room m room' p) a)
  undeclared-both e x y = subst (λ j. ◌≡◌ {A = Result (Bor (List ℕ)) Rule} (Err rule.NoAction) (name_reply x y j a)) read.means (rw e)

  module _ (e : some ≡ true) where
    pub held_both : Held m p t.second.signals a
    held_both =
        let ok = accepted-both c room m room' p _ _ (sym read.means) in
        let more : length (signals_of m p t.second.signals) ≡ length (signals_of m p t.first.signals) + length ok.second.more =
        ap length ok.second.extends ∙ length-append (signals_of m p t.first.signals) ok.second.more in
        record {
          fit = read.fit;
          below = elim (or_cases (is_declared t.first.header a) (is_declared t.second.header a) (subst T (sym e) tt)) [
            | inl x ↦ omega (arith, ok.first.numbered a x, signals-length m p t.second.signals read.fit)
            | inr x ↦ omega (arith, ok.second.numbered a x, signals-length m p t.second.signals read.fit)
          ];
        }

    -- A signal of the first text stands there, any other in the second.
    inside-both : let s = get_or (signals_of m p t.second.signals) a nobody in s.from ≤ length (text_of m p s.text)
    inside-both =
        let (one, two) = read-both c room m room' p _ _ (sym read.means) in
        let ok = accepted-both c room m room' p _ _ (sym read.means) in
        let in_text : (text : ℕ) (s : Signal) → Stands text (text_of m p text) s → s.from ≤ length (text_of m p s.text) =
        λ text s h. subst (λ n. s.from ≤ length (text_of m p n)) (sym h.named) (stands-inside text (text_of m p text) s h) in
        elim (dec_lt a (length (signals_of m p t.first.signals))) [
          | yes k ↦
              let kept : get_or (signals_of m p t.second.signals) a nobody ≡ get_or (signals_of m p t.first.signals) a nobody =
              ap (λ l. get_or l a nobody) ok.second.extends ∙ get_or-append (signals_of m p t.first.signals) ok.second.more nobody a k in
              in_text 1 (get_or (signals_of m p t.second.signals) a nobody) (rw kept (all_stand [] 1 m c room _ one a (omega arith) k))
          | no g ↦
              in_text 2 _ (all_stand (signals_of m p t.first.signals) 2 p c room' _ two a (omega arith) (omega (arith, held_both.below, signals-length m p t.second.signals read.fit)))
        ]

    pub found-both : (d : Name) (x y : ℕ × ℕ) (b : Bor (List ℕ)) → b.now ≡ name_at m p (get_or t.second.signals.entries a d)
        → b.ref_ptr ≡ place_in (text_of x y (text_in (get_or t.second.signals.entries a d))) (text_of m p (text_in (get_or t.second.signals.entries a d))) (get_or t.second.signals.entries a d).from
        → ◌≡◌ {A = Result (Bor (List ℕ)) Rule} (Ok b) (name_reply x y (read_both c room m room' p) a)
    found-both d x y b now place =
        subst (λ j. ◌≡◌ {A = Result (Bor (List ℕ)) Rule} (Ok b) (name_reply x y j a)) read.means
        (rw e (ap Ok (part-held m p t.second.signals a held_both d inside-both x y b now place)))

-- ---- a text alone

module _ (m : List ℕ) (c : Spelling) (room : ℕ) (t : State) (cells : List ℕ) (read : ReadsOne m c room (Ok t) cells) (a : ℕ) where
  pub undeclared_alone : is_declared t.header a ≡ false → (x : ℕ × ℕ) → ◌≡◌ {A = Result (Bor (List ℕ)) Rule} (Err rule.NoAction) (name_alone_reply x (read_alone c room m) a)
  undeclared_alone e x = subst (λ o. ◌≡◌ {A = Result (Bor (List ℕ)) Rule} (Err rule.NoAction) (name_alone_reply x o a)) read.means (rw e)

  module _ (e : is_declared t.header a ≡ true) where
    pub held_alone : Held m m t.signals a
    held_alone =
        let ok = accepted_alone c room m _ (sym read.means) in
        record { fit = read.fit; below = omega (arith, ok.numbered a (subst T (sym e) tt), signals-length m m t.signals read.fit) }

    inside_alone : let s = get_or (signals_of m m t.signals) a nobody in s.from ≤ length (text_of m m s.text)
    unfolding read_alone
    inside_alone =
        let h : Stands 1 m (get_or (signals_of m m t.signals) a nobody) =
        all_stand [] 1 m c room _ (sym read.means) a (omega arith) (omega (arith, held_alone.below, signals-length m m t.signals read.fit)) in
        let s = get_or (signals_of m m t.signals) a nobody in
        subst (λ n. s.from ≤ length (text_of m m n)) (sym h.named) (stands-inside 1 m s h)

    pub found_alone : (d : Name) (x : ℕ × ℕ) (b : Bor (List ℕ)) → b.now ≡ name_at m m (get_or t.signals.entries a d)
        → b.ref_ptr ≡ place_in (text_of x x (text_in (get_or t.signals.entries a d))) (text_of m m (text_in (get_or t.signals.entries a d))) (get_or t.signals.entries a d).from
        → ◌≡◌ {A = Result (Bor (List ℕ)) Rule} (Ok b) (name_alone_reply x (read_alone c room m) a)
    found_alone d x b now place =
        subst (λ o. ◌≡◌ {A = Result (Bor (List ℕ)) Rule} (Ok b) (name_alone_reply x o a)) read.means
        (rw e (ap Ok (part-held m m t.signals a held_alone d inside_alone x x b now place)))
