use native.Mathlib.Omega.{arith}
use Rattle.lines.proofs.NameRule.{byte_small, byte_digit, byte_capital, byte_underscore}
use Rattle.lines.proofs.tokens.is_name_byte.Goals as goal

pub returns-then-x-ge97 : goal.returns-then-x-ge97
returns-then-x-ge97 c = byte_small _ (omega arith)

pub returns-then-x-le57 : goal.returns-then-x-le57
returns-then-x-le57 c = byte_digit _ (omega arith)

pub returns-then-x-le90 : goal.returns-then-x-le90
returns-then-x-le90 c = byte_capital _ (omega arith) (omega arith)

pub returns : goal.returns
returns c = byte_underscore _ (omega arith) (omega arith)
