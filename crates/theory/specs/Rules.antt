-- The number of a rule (01, "Why a call is turned away, by number"; 02, S-9 for 28).
use Rattle.std.specs.Prelude.{ℕ}
use Rattle.theory.specs.declared.Rule.{Rule}
use Rattle.theory.specs.declared.Rule.TheVariants as rule

abbrev pub rule_number : Rule → ℕ
rule_number rule.StateCount = 1
rule_number rule.InitialState = 2
rule_number rule.CommonAction = 3
rule_number rule.CellCount = 4
rule_number rule.StrayCell = 5
rule_number rule.UndeclaredStep = 6
rule_number rule.CommonOutput = 7
rule_number rule.Uncovered = 8
rule_number rule.PairCount = 9
rule_number rule.RoomLength = 10
rule_number rule.NoState = 11
rule_number rule.NoAction = 12
rule_number rule.TextLength = 13
rule_number rule.LineForm = 14
rule_number rule.LineOrder = 15
rule_number rule.NameForm = 16
rule_number rule.NumberForm = 17
rule_number rule.DeclaredTwice = 18
rule_number rule.UnknownInStep = 19
rule_number rule.StepTwice = 20
rule_number rule.NameCount = 21
rule_number rule.EmptyText = 22
rule_number rule.TextRoom = 23
rule_number rule.UnreadableFile = 24
rule_number rule.NameClash = 28
