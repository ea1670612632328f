-- What comes of a text, and of two.
use mathlib.Core.Path.{◌≡◌, refl, sym, ap, ◌∙◌}
use mathlib.Core.Bool.{true, false, cond}
use mathlib.Core.List.{List, [], ◌∷◌}
use Prim.Native.Nat.{ℕ, ◌+◌, ◌<◌, ◌≤◌}
use native.Mathlib.Omega.{arith}
use native.Mathlib.Decide.{dec_lt}
use lib.ListN.{length, take, drop, replicate, length-drop, length-replicate}
use lib.Seq.{length-take-le}
use borrow.Author.Tests.{lt-ltb, le-ltb}
use Rattle.text.specs.declared.Place.{Place}
use Rattle.text.specs.declared.Spelling.{Spelling}
use Rattle.text.specs.Fields.{upto, split}
use Rattle.text.specs.Lines.{parse}
use Rattle.text.specs.Reading.{text_of, Change as Step, next, stop, Outcome, onward, entered, is_nil, fresh, read_lines, read_from}
use Rattle.lines.specs.declared.Line.{Line}
use Rattle.lines.specs.Located.{first_line}
use Rattle.lines.proofs.OnePass.{LineTaken, LineRefused, line_taken, line_refused}
use Rattle.names.specs.declared.Names.{Names}
use Rattle.names.specs.Numbering.{signals_of, Fit}
use Rattle.reader.specs.declared.state.State.{State}
use Rattle.text.specs.declared.TextRefusal.{TextRefusal}
use Rattle.std.specs.Prelude.{Result, Ok, Err, IfOk, IsErrAnd, MatchResult, is_err}
use Rattle.reader.specs.State.{reading, outcome, fresh_state, Enters, Blank, Says, ReadsLines, Reads}
use Rattle.reader.proofs.Lines.{lines-done, lines-unended, lines-onward}
use Rattle.theory.specs.declared.Rule.{Rule}
use Rattle.theory.specs.declared.Rule.TheVariants as rule

-- Of a result whose error is mapped to d: the error that it had.
pub mapped : {T E D : Type 0} (r : Result T E) (s : Result T D) (Q : E → D → Type 0) → MatchResult r (λ x. s ≡ Ok x) (λ e. IsErrAnd s (Q e)) → (d : D) → s ≡ Err d
    → (e : E) × (r ≡ Err e) × Q e d
mapped (Ok x) s Q h d f = absurd (cc)
mapped (Err e) s Q h d f = (e, refl, rw f at h)

abbrev pub at_line : Rule → ℕ → ℕ → TextRefusal
at_line n text line = record { rule = n; text = text; line = line }

-- ---- the line from the byte `at` on, which was taken

module _ (bytes : List ℕ) (at : ℕ) (u : List ℕ) (rest : u ≡ drop at bytes) (place : Place) (q : Result Line Rule) (read : q ≡ first_line place u)
    (l : Line) (taken : q ≡ Ok l) where
  taken-line : LineTaken place (drop at bytes) l
  taken-line = rw rest at (line_taken place u q read l taken)

  pub line-ends : at + l.length < length bytes
  line-ends = omega (arith, taken-line.within, length-drop at bytes)

  module _ (line : List ℕ) (cut : line ≡ take l.length u) where
    pub line-is : line ≡ take l.length (drop at bytes)
    line-is = cut ∙ rw rest

    line-length : length line ≡ l.length
    line-length = ap length line-is ∙ length-take-le l.length (drop at bytes) (omega (arith, line-ends, length-drop at bytes))

    pub line-says : (m p : List ℕ) (text : ℕ) → bytes ≡ text_of m p text → length (text_of m p text) ≤ 65536 → text < 4 → Says m p text at line place l.record
    line-says m p text same short few = record {
      inside = record { few = few; short = short; within = rw (← same, line-length) line-ends; there = rw (← same, line-length) line-is };
      told = rw line-is taken-line.told;
    }

-- ---- lines, one after the other: st₀ and cells₀ are the state and the cells before the first

module _ (m p : List ℕ) (text : ℕ) (c : Spelling) (s : Names) (st₀ : State) (begun : st₀ ≡ fresh_state s) (cells₀ : List ℕ) (clear : Blank cells₀) where
  abbrev whole : List ℕ → Outcome
  whole bytes = read_lines c text 1 0 (reading m p st₀ cells₀) (split 10 bytes)

  module _ (bytes : List ℕ) (same : bytes ≡ text_of m p text) (st : State) (cells : List ℕ) (k at : ℕ) (fit : Fit m p st.signals)
      (inv : read_lines c text k at (reading m p st cells) (split 10 (drop at bytes)) ≡ whole bytes) where
    abbrev room : ℕ
    room = length cells₀

    so : (o : Outcome) → o ≡ read_lines c text k at (reading m p st cells) (split 10 (drop at bytes)) → o ≡ read_lines c text 1 0 (fresh (signals_of m p s) room) (split 10 (text_of m p text))
    so o e =
        let start : reading m p st₀ cells₀ ≡ fresh (signals_of m p s) room = rw (begun, ← clear.blank) in
        e ∙ inv ∙ ap (λ R. read_lines c text 1 0 R (split 10 bytes)) start ∙ rw same

    pub told-done : length bytes ≤ at → ReadsLines m p text c s room (Ok st) cells
    told-done h = record { fit = fit; means = so _ (sym (lines-done c text k (reading m p st cells) bytes at h)) }

    module _ (h : at < length bytes) (u : List ℕ) (rest : u ≡ drop at bytes) (q : Result Line Rule) (read : q ≡ first_line st.place u) where
      pub told-unread : (i : Rule) → q ≡ Err i → (r : TextRefusal) → r ≡ at_line i text k → ReadsLines m p text c s room (Err r) cells
      unfolding entered
      told-unread i e r f =
          let d : LineRefused st.place (drop at bytes) i = rw rest at (line_refused st.place u q read i e) in
          rw f (record {
            fit = tt;
            means = so _ (elim (dec_lt (upto 10 (drop at bytes)) (length (drop at bytes))) [
              | yes w ↦ sym (lines-onward c text k (reading m p st cells) bytes at _ refl (omega (arith, length-drop at bytes)) ∙ rw (d.told w))
              | no w ↦ sym (lines-unended c text k (reading m p st cells) bytes at _ refl h (omega (arith, length-drop at bytes)) ∙ rw (d.unended (omega arith)))
            ]);
          })

      module _ (l : Line) (taken : q ≡ Ok l) (cut : List ℕ) (taken-part : cut ≡ take l.length u) (cells' : List ℕ) where
        abbrev e : ℕ
        e = l.length

        line : LineTaken st.place (drop at bytes) l
        line = taken-line bytes at u rest st.place q read l taken

        ends-within : at + e < length bytes
        ends-within = line-ends bytes at u rest st.place q read l taken

        -- The lines from this one on, by what it does.
        onward-from : (r : Step) → r ≡ entered c text at (reading m p st cells) (parse st.place cut)
            → onward text k r (λ st. read_lines c text (k + 1) (at + e + 1) st (split 10 (drop (at + e + 1) bytes))) ≡ read_lines c text k at (reading m p st cells) (split 10 (drop at bytes))
        onward-from r f =
            ap (λ y. onward text k y (λ st. read_lines c text (k + 1) (at + e + 1) st (split 10 (drop (at + e + 1) bytes))))
            (f ∙ rw (line-is bytes at u rest st.place q read l taken cut taken-part))
            ∙ sym (lines-onward c text k (reading m p st cells) bytes at e line.line ends-within)

        pub told-refused : (n : Rule) → Enters m p text c at cut st cells (Err n) cells' → (r : TextRefusal) → r ≡ at_line n text k → ReadsLines m p text c s room (Err r) cells'
        told-refused n d r f = rw f (record { fit = tt; means = so _ (onward-from (stop n) d.means) })

        pub told-next : (st' : State) → Enters m p text c at cut st cells (Ok st') cells'
            → read_lines c text (k + 1) (at + (e + 1)) (reading m p st' cells') (split 10 (drop (at + (e + 1)) bytes)) ≡ whole bytes
        told-next st' d =
            let z : at + (e + 1) ≡ at + e + 1 = omega arith in
            rw z (onward-from (next (reading m p st' cells')) d.means ∙ inv)

-- ---- a text: 13, its lines, 22

module _ (m p : List ℕ) (text : ℕ) (c : Spelling) (s : Names) (fit : Fit m p s) (bytes : List ℕ) (same : bytes ≡ text_of m p text) (room : ℕ)
    (cells : List ℕ) (blank : cells ≡ replicate room 65535) where
  pub reads_long : 65536 < length bytes → (r : TextRefusal) → r ≡ at_line rule.TextLength text 0 → Reads m p text c s room (Err r) cells
  unfolding read_from
  reads_long h r f = rw f (record { fit = tt; means = rw (← same, lt-ltb 65536 (length bytes) h); left = blank })

  module _ (short : length bytes ≤ 65536) where
    pub reads_none : length bytes ≡ 0 → (r : TextRefusal) → r ≡ at_line rule.EmptyText text 0 → Reads m p text c s room (Err r) cells
    unfolding read_from
    reads_none h r f = rw f (record { fit = tt; means = rw (← same, le-ltb 65536 (length bytes) short, nil bytes h); left = blank })
      where
        nil : (b : List ℕ) → length b ≡ 0 → is_nil b ≡ true
        nil [] h = refl
        nil (x ∷ b) h = absurd (omega arith)

    -- The lines were read into the cells, which a refusal clears again.
    pub reads_lines : (length bytes ≡ 0 → ⊥) → (r : Result State TextRefusal) (read now : List ℕ) → ReadsLines m p text c s (length cells) r read → length read ≡ length cells
        → now ≡ cond (is_err r) (replicate (length read) 65535) read → Reads m p text c s room r now
    unfolding read_from
    reads_lines h r read now d size g =
        let size₀ : length cells ≡ room = ap length blank ∙ length-replicate {A = ℕ} room 65535 in
        let means : outcome m p r read ≡ read_from c (signals_of m p s) text room (text_of m p text) =
        d.means ∙ rw (← same, le-ltb 65536 (length bytes) short, some bytes h, size₀) in
        go r d.fit means g size₀
      where
        some : (b : List ℕ) → (length b ≡ 0 → ⊥) → is_nil b ≡ false
        some [] h = absurd (h refl)
        some (x ∷ b) h = refl

        go : (r : Result State TextRefusal) → IfOk r (λ st. Fit m p st.signals) → outcome m p r read ≡ read_from c (signals_of m p s) text room (text_of m p text)
            → now ≡ cond (is_err r) (replicate (length read) 65535) read → length cells ≡ room → Reads m p text c s room r now
        go (Ok st) f means g z = record { fit = f; means = ap (outcome m p (Ok st)) g ∙ means; left = tt }
        go (Err q) f means g z = record { fit = tt; means = means; left = g ∙ rw (size, z) }
