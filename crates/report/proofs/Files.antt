-- A program by what came of its two files.
use mathlib.Core.Path.{◌≡◌, ap, ◌∙◌}
use mathlib.Core.List.{List}
use Prim.Native.Nat.{ℕ, ◌≤◌}
use native.Mathlib.Omega.{arith}
use lib.ListN.{length, take}
use Rattle.std.specs.Prelude.{Option, Some, None, Ok, Err}
use Rattle.text.specs.declared.Spelling.TheVariants.{Exact}
use Rattle.text.specs.Reading.{read_both, cells_first, cells_second}
use Rattle.emit.specs.Buffer.{stored, after}
use Rattle.report.specs.Lines.{refusal_text}
use Rattle.report.specs.Report.{Buffers, report_text, report_buffers}
use Rattle.report.specs.Listing.{listing_text}
use Rattle.report.specs.Programs.{by_files, files_read, program_text, program_buffers, clashes_text, clashes_cells}

-- The text is put into the buffer, which ends within a bound, and the other buffers are left as they should be.
abbrev Leaves : {A : Type 0} → ℕ → List ℕ → ℕ → List ℕ → List ℕ → A → A → Type 0
Leaves bound out e out' text left right =
    record { value : e ≡ after (length out) 0 text; out_after : out' ≡ stored out 0 text; buffers_after : left ≡ right; upper_bound : e ≤ bound }

-- The line of 24, which is short.
abbrev Line : ℕ → List ℕ → ℕ → List ℕ → Type 0
Line file out e out' = record {
  value : e ≡ after (length out) 0 (refusal_text file 24 0);
  out_after : out' ≡ stored out 0 (refusal_text file 24 0);
  upper_bound : e ≤ 26;
}

-- ---- the results of reading two files, put together

module _ (first second : Option ℕ) where
  pub first_unreadable : first ≡ None → Err 1 ≡ files_read first second
  first_unreadable a = rw a

  pub second_unreadable : (i : ℕ) → first ≡ Some i → second ≡ None → Err 2 ≡ files_read first second
  second_unreadable i a b = rw (a, b)

  pub none_unreadable : (i j : ℕ) → first ≡ Some i → second ≡ Some j → Ok (i, j) ≡ files_read first second
  none_unreadable i j a b = rw (a, b)

-- What is told of a file that cannot be read is told of the one that the reading names.
of_unreadable : {A : Type 0} (first second : Option ℕ) (told : ℕ → A) (whole : ℕ → ℕ → A) (file : ℕ) → Err file ≡ files_read first second
    → told file ≡ by_files first second told whole
of_unreadable None second told whole file e = let z : file ≡ 1 = cc in ap told z
of_unreadable (Some i) None told whole file e = let z : file ≡ 2 = cc in ap told z
of_unreadable (Some i) (Some j) told whole file e = absurd (cc)

-- If the reading names none, both files were read, as many bytes of each as it says.
of_both : {A : Type 0} (first second : Option ℕ) (told : ℕ → A) (whole : ℕ → ℕ → A) (i j : ℕ) → Ok (i, j) ≡ files_read first second
    → whole i j ≡ by_files first second told whole
of_both None second told whole i j e = absurd (cc)
of_both (Some k) None told whole i j e = absurd (cc)
of_both (Some k) (Some l) told whole i j e =
    let z : ◌≡◌ {A = ℕ × ℕ} (i, j) (k, l) = cc in
    ap (λ (x : ℕ × ℕ). whole x.0 x.1) z

-- Of any program: what it prints of two texts, m and p from the start of their buffers on, and what it leaves in its other buffers, which were `kept`.
module _ {A : Type 0} (bound : ℕ) (long : 26 ≤ bound) (first second : Option ℕ) (m p : List ℕ) (text : List ℕ → List ℕ → List ℕ) (left : List ℕ → List ℕ → A) (kept : A)
    (out : List ℕ) (e : ℕ) (out' : List ℕ) where
  abbrev refused : ℕ → List ℕ
  refused file = refusal_text file 24 0

  abbrev texts : ℕ → ℕ → List ℕ
  texts i j = text (take i m) (take j p)

  abbrev untouched : ℕ → A
  untouched file = kept

  abbrev results : ℕ → ℕ → A
  results i j = left (take i m) (take j p)

  abbrev Runs : A → Type 0
  Runs now = Leaves bound out e out' (by_files first second refused texts) now (by_files first second untouched results)

  refuses : (file : ℕ) → Err file ≡ files_read first second → Line file out e out' → Runs kept
  refuses file f p =
      let line = of_unreadable first second refused texts file f in
      record {
        value = p.value ∙ ap (after (length out) 0) line;
        out_after = p.out_after ∙ ap (stored out 0) line;
        buffers_after = of_unreadable first second untouched results file f;
        upper_bound = omega (arith, p.upper_bound);
      }

  runs : (i j : ℕ) → Ok (i, j) ≡ files_read first second → (m' p' : List ℕ) → m' ≡ take i m → p' ≡ take j p → (now : A)
      → Leaves bound out e out' (text m' p') now (left m' p') → Runs now
  runs i j f m' p' em ep now q =
      let printed : text m' p' ≡ by_files first second refused texts = rw (em, ep) (of_both first second refused texts i j f) in
      let result : left m' p' ≡ by_files first second untouched results = rw (em, ep) (of_both first second untouched results i j f) in
      record {
        value = q.value ∙ ap (after (length out) 0) printed;
        out_after = q.out_after ∙ ap (stored out 0) printed;
        buffers_after = q.buffers_after ∙ result;
        upper_bound = q.upper_bound;
      }

-- The program `sequencer`.
module _ (first second : Option ℕ) (m p cm cp cells flags out : List ℕ) (e : ℕ) (out' : List ℕ) where
  abbrev report_of : List ℕ → List ℕ → List ℕ
  report_of m p = report_text m p (length cm) (length cp) (length cells) (length flags)

  abbrev buffers : List ℕ → List ℕ → Buffers
  buffers m p = report_buffers m p cm cp cells flags

  abbrev Reports : Buffers → Type 0
  Reports left =
      Leaves 65608 out e out' (program_text first second m p (length cm) (length cp) (length cells) (length flags)) left (program_buffers first second m p cm cp cells flags)

  pub unread : (file : ℕ) → Err file ≡ files_read first second → Line file out e out' → Reports (cm, cp, cells, flags)
  unfolding program_text program_buffers
  unread = refuses 65608 (omega arith) first second m p report_of buffers _ out e out'

  pub both_read : (i j : ℕ) → Ok (i, j) ≡ files_read first second → (m' p' : List ℕ) → m' ≡ take i m → p' ≡ take j p → (left : Buffers)
      → Leaves 65608 out e out' (report_of m' p') left (buffers m' p') → Reports left
  unfolding program_text program_buffers
  both_read = runs 65608 (omega arith) first second m p report_of buffers (cm, cp, cells, flags) out e out'

-- The lister of clashes.
module _ (first second : Option ℕ) (m p cm cp out : List ℕ) (e : ℕ) (out' : List ℕ) where
  abbrev listing_of : List ℕ → List ℕ → List ℕ
  listing_of m p = listing_text m p (length cm) (length cp)

  abbrev cells_read : List ℕ → List ℕ → List ℕ × List ℕ
  cells_read m p = let read = read_both Exact (length cm) m (length cp) p in (cells_first (length cm) read, cells_second (length cp) read)

  abbrev Lists : List ℕ × List ℕ → Type 0
  Lists left = Leaves 768 out e out' (clashes_text first second m p (length cm) (length cp)) left (clashes_cells first second m p cm cp)

  pub list_unread : (file : ℕ) → Err file ≡ files_read first second → Line file out e out' → Lists (cm, cp)
  unfolding clashes_text clashes_cells
  list_unread = refuses 768 (omega arith) first second m p listing_of cells_read _ out e out'

  pub list_both_read : (i j : ℕ) → Ok (i, j) ≡ files_read first second → (m' p' : List ℕ) → m' ≡ take i m → p' ≡ take j p → (x y : List ℕ)
      → record {
        value : e ≡ after (length out) 0 (listing_of m' p');
        out_after : out' ≡ stored out 0 (listing_of m' p');
        cm_after : x ≡ (cells_read m' p').0;
        cp_after : y ≡ (cells_read m' p').1;
        upper_bound : e ≤ 768;
      } → Lists (x, y)
  unfolding clashes_text clashes_cells
  list_both_read i j f m' p' em ep x y q =
      runs 768 (omega arith) first second m p listing_of cells_read (cm, cp) out e out' i j f m' p' em ep (x, y)
      (record { value = q.value; out_after = q.out_after; buffers_after = rw (q.cm_after, q.cp_after); upper_bound = q.upper_bound })
