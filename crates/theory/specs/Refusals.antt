-- Refusals that name their rule: what every call gives.
use Rattle.theory.specs.declared.Refusal.{Refusal as RefusalBy}
use Rattle.theory.specs.declared.Rule.{Rule}

abbrev pub Refusal : Type 0
Refusal = RefusalBy Rule
