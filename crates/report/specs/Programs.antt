-- What the two programs print for two files, and what they leave in the lent buffers (01, "The program and one full run"; 02, S-9). m and p are the
-- buffers that module and plan were read into, cm and cp those for the cells of the two, cells and flags those for the result.
use Rattle.std.specs.Prelude.{Option, Some, None, Result, Ok, Err, List, ℕ, length, take}
use Rattle.text.specs.declared.Spelling.TheVariants.{Exact}
use Rattle.text.specs.Reading.{read_both, cells_first, cells_second}
use Rattle.report.specs.Lines.{refusal_text}
use Rattle.report.specs.Report.{Buffers, report_text, report_buffers}
use Rattle.report.specs.Listing.{listing_text}

-- By what came of the two files, each the number of bytes read of it or `None`: the first that cannot be read counts; else how many bytes were read of each.
abbrev pub by_files : {A : Type 0} → Option ℕ → Option ℕ → (ℕ → A) → (ℕ → ℕ → A) → A
by_files None second unreadable read = unreadable 1
by_files (Some i) None unreadable read = unreadable 2
by_files (Some i) (Some j) unreadable read = read i j

-- The reading of two files as the code holds it: how many bytes were read of each; or which cannot be read.
abbrev pub files_read : Option ℕ → Option ℕ → Result (ℕ × ℕ) ℕ
files_read first second = by_files first second Err (λ i j. Ok (i, j))

-- ---- the program `sequencer`

-- All that is printed, where so many cells and flags are lent: one line with 24, before any text check; or the report.
unfoldable pub program_text : Option ℕ → Option ℕ → List ℕ → List ℕ → (cm cp cells flags : ℕ) → List ℕ
program_text first second m p cm cp cells flags =
    by_files first second (λ file. refusal_text file 24 0) (λ i j. report_text (take i m) (take j p) cm cp cells flags)

-- What is left in the four buffers: with 24 nothing is touched.
unfoldable pub program_buffers : Option ℕ → Option ℕ → List ℕ → List ℕ → (cm cp cells flags : List ℕ) → Buffers
program_buffers first second m p cm cp cells flags =
    by_files first second (λ file. (cm, cp, cells, flags)) (λ i j. report_buffers (take i m) (take j p) cm cp cells flags)

-- ---- the lister of clashes

-- All that is printed, where so many cells are lent: one line with 24, before any text check; or what is listed.
unfoldable pub clashes_text : Option ℕ → Option ℕ → List ℕ → List ℕ → (cm cp : ℕ) → List ℕ
clashes_text first second m p cm cp = by_files first second (λ file. refusal_text file 24 0) (λ i j. listing_text (take i m) (take j p) cm cp)

-- What is left in the two buffers: with 24 nothing is touched; else the tables as the archive reading leaves them.
unfoldable pub clashes_cells : Option ℕ → Option ℕ → List ℕ → List ℕ → (cm cp : List ℕ) → List ℕ × List ℕ
clashes_cells first second m p cm cp =
    by_files first second (λ file. (cm, cp)) (λ i j.
    let read = read_both Exact (length cm) (take i m) (length cp) (take j p) in (cells_first (length cm) read, cells_second (length cp) read))
