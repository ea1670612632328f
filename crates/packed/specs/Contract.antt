-- What the calls on two tables in bytes give: the replies and buffers of compatibility and refinement, on the tables that the bytes hold.
use Rattle.std.specs.Prelude.{Bool, List, ℕ, Result}
use Rattle.theory.specs.declared.Automaton.{Automaton}
use Rattle.theory.specs.Refusals.{Refusal}
use Rattle.compatibility.specs.declared.Compatibility.{Compatibility}
use Rattle.compatibility.specs.Contract.{compatibility_reply, compatibility_flags}
use Rattle.refinement.specs.Contract.{refinement_reply, refinement_marks}
use Rattle.packed.specs.Bytes.{byte_table}

module _ (a : Automaton) (ba : List ℕ) (b : Automaton) (bb : List ℕ) where
  -- The reply of compatibility where so many flags are lent, and the flags afterwards.
  abbrev pub fit_of_bytes : ℕ → Result Compatibility Refusal
  fit_of_bytes = compatibility_reply (byte_table a ba) (byte_table b bb)

  abbrev pub flags_of_bytes : List ℕ → List ℕ
  flags_of_bytes = compatibility_flags (byte_table a ba) (byte_table b bb)

  -- The reply of refinement where so many marks are lent, and the marks afterwards.
  abbrev pub refine_of_bytes : ℕ → Result Bool Refusal
  refine_of_bytes = refinement_reply (byte_table a ba) (byte_table b bb)

  abbrev pub marks_of_bytes : List ℕ → List ℕ
  marks_of_bytes = refinement_marks (byte_table a ba) (byte_table b bb)
