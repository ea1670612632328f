use native.Mathlib.Omega.{arith}
use Rattle.reader.proofs.Whole.{reads_long, reads_none, reads_lines}
use borrow.Author.Rules.{rules}
use Rattle.reader.proofs.texts.read.Goals as goal

pub returns-then-bytes-gt65536 : goal.returns-then-bytes-gt65536
returns-then-bytes-gt65536 c =
    reads_long _ _ _ _ _ c.requires.fit _ (rw c.from.ensures at c.text_of-bytes.ensures.result_value) _ _ c.requires.blank.blank (omega arith) _ c.refusal.ensures

pub returns-then-is_empty : goal.returns-then-is_empty
returns-then-is_empty c =
    reads_none _ _ _ _ _ c.requires.fit _ (rw c.from.ensures at c.text_of-bytes.ensures.result_value) _ _ c.requires.blank.blank (omega arith) (search rules) _ c.refusal-then-is_empty.ensures

pub returns : goal.returns
returns c =
    reads_lines _ _ _ _ _ c.requires.fit _ (rw c.from.ensures at c.text_of-bytes.ensures.result_value) _ _ c.requires.blank.blank (omega arith) (search rules)
    _ _ _ c.read_lines-reading.ensures (search rules) (search rules)
