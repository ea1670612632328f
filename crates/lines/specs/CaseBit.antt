-- The bit in which the two cases of a letter differ, where letters are folded; else none. Added to a capital letter it gives the small one.
use Rattle.std.specs.Prelude.{ℕ}
use Rattle.text.specs.declared.Spelling.{Spelling}
use Rattle.text.specs.declared.Spelling.TheVariants.{Exact, Folded}

abbrev pub case_bit : Spelling → ℕ
case_bit Exact = 0
case_bit Folded = 32
