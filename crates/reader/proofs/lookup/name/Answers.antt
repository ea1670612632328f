use Rattle.std.proofs.Common.{refl}
use Rattle.reader.proofs.Lookups.{name_view, place_view}
use Rattle.reader.proofs.lookup.name.Goals as goal

pub returns-clause-result_value : goal.returns-clause-result_value
returns-clause-result_value c = rw (c.unwrap_or.ensures, c.lookup.ensures) (name_view _ _ _ _ _ _ _ refl refl)

pub returns-clause-ref_ptr_value : goal.returns-clause-ref_ptr_value
returns-clause-ref_ptr_value c = rw (c.unwrap_or.ensures, c.lookup.ensures) (place_view _ _ _ _ _ _ _ refl refl)
