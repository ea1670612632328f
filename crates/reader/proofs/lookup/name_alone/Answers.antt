use Rattle.std.proofs.Common.{refl}
use Rattle.reader.proofs.Lookups.{name_alone_view, place_alone_view}
use Rattle.reader.proofs.lookup.name_alone.Goals as goal

pub returns-clause-result_value : goal.returns-clause-result_value
returns-clause-result_value c = rw (c.unwrap_or.ensures, c.lookup_alone.ensures) (name_alone_view _ _ _ _ _ refl refl)

pub returns-clause-ref_ptr_value : goal.returns-clause-ref_ptr_value
returns-clause-ref_ptr_value c = rw (c.unwrap_or.ensures, c.lookup_alone.ensures) (place_alone_view _ _ _ _ _ refl refl)
