-- The text of a table with several steps in a state, computed from the definition that the writer's contract cites: the sequencer of
-- tests/cases/020-multi-steps. The steps of a state stand by ascending signal (02, S-3); by name those of state 0 would be a, c, d, e, and with
-- inputs first e, c, a, d.
use mathlib.Core.Path.{◌≡◌, refl}
use mathlib.Core.List.{List, [], ◌∷◌, ◌++◌, map}
use Prim.Native.Char.{code}
use Prim.Native.Nat.{ℕ, ◌+◌, ◌*◌}
use Prim.Native.String.{String, [] as []ˢ, ◌∷◌ as ◌∷ˢ◌}
use lib.ListN.{get_or, replicate, set}
use Rattle.theory.specs.Table.{header, Table, table}
use Rattle.text.specs.Writing.{digits_of, decimal, tabbed, printed, those, signals, table_row, signal_row, step_row, step_rows, enabled_signals, whole_text}

-- The bytes of an ASCII text.
pub ascii : String → List ℕ
ascii []ˢ = []
ascii (c ∷ˢ s) = code c ∷ ascii s

-- The cells with one more step.
abbrev step : ℕ → ℕ → ℕ → List ℕ → List ℕ
step from signal to cells = set cells (from * 32 + signal) to

-- Signals 0, 1 and 4 are outputs, 2 and 3 inputs.
abbrev example : Table
example =
    table (header 4 0 12 19)
    (step 0 0 0 (step 0 1 3 (step 0 3 0 (step 0 4 0 (step 1 3 1 (step 1 4 1 (step 3 2 0 (step 3 3 3 (step 3 4 3 (replicate 128 65535))))))))))

abbrev example_names : List (List ℕ)
example_names = ascii "c" ∷ ascii "a" ∷ ascii "b" ∷ ascii "e" ∷ ascii "d" ∷ []

abbrev example_text : List ℕ
example_text =
    ascii "table\tsequencer\t4\t0\n"
    ++ ascii "out\tc\n"
    ++ ascii "out\ta\n"
    ++ ascii "in\tb\n"
    ++ ascii "in\te\n"
    ++ ascii "out\td\n"
    ++ ascii "step\t0\tc\t0\n"
    ++ ascii "step\t0\ta\t3\n"
    ++ ascii "step\t0\te\t0\n"
    ++ ascii "step\t0\td\t0\n"
    ++ ascii "step\t1\te\t1\n"
    ++ ascii "step\t1\td\t1\n"
    ++ ascii "step\t3\tb\t0\n"
    ++ ascii "step\t3\te\t3\n"
    ++ ascii "step\t3\td\t3\n"

pub example-text : whole_text example (ascii "sequencer") example_names ≡ example_text
unfolding ascii digits_of decimal tabbed printed those signals table_row signal_row step_row step_rows enabled_signals whole_text
example-text = refl

-- The text of the example with the steps of state 0 in a given order.
abbrev example_in : List ℕ → List ℕ
example_in order =
    printed (table_row example (ascii "sequencer") ∷ map (signal_row example example_names) (signals example)
    ++ map (step_row example example_names 0) order ++ step_rows example example_names 1 3)

-- By name, inputs first, from the highest signal, and the lowest signal last.
abbrev other_orders : List (List ℕ)
other_orders = (1 ∷ 0 ∷ 4 ∷ 3 ∷ []) ∷ (3 ∷ 0 ∷ 1 ∷ 4 ∷ []) ∷ (4 ∷ 3 ∷ 1 ∷ 0 ∷ []) ∷ (1 ∷ 3 ∷ 4 ∷ 0 ∷ []) ∷ []

-- Byte 55 is the name of the first step: c in the text, and a, e, d and a in the others.
pub example_orders : map (λ l. get_or l 55 0) (example_text ∷ map example_in other_orders) ≡ 99 ∷ 97 ∷ 101 ∷ 100 ∷ 97 ∷ []
unfolding ascii digits_of decimal tabbed printed those signals table_row signal_row step_row step_rows enabled_signals whole_text
example_orders = refl
