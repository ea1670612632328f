use native.Mathlib.Omega.{arith}
use Rattle.names.specs.LentNames.{texts}
use Rattle.writer.proofs.Lines.{text-known, text-writable, text_put, text-room}
use Rattle.writer.proofs.rows.text.Goals as goal

pub table_line-i-requires : goal.table_line-i-requires
table_line-i-requires c = let a = c.args in
    omega (arith, text-room a.a a.cells.now (texts a.names.now) a.name.now c.requires.valid c.requires.named c.requires.name_len_bound)

pub signal_lines-j-requires : goal.signal_lines-j-requires
signal_lines-j-requires c = let a = c.args in
    record { named = c.requires.named; names_bound = omega (arith, c.table_line-i.ensures.value, text-room a.a a.cells.now (texts a.names.now) a.name.now c.requires.valid c.requires.named c.requires.name_len_bound) }

pub step_lines-requires : goal.step_lines-requires
step_lines-requires c = let a = c.args in record {
  writable = text-writable a.a a.cells.now (texts a.names.now) c.requires.valid c.requires.named;
  known = text-known a.a a.cells.now (texts a.names.now) c.requires.valid;
  names_bound = omega (
    arith,
    c.table_line-i.ensures.value,
    c.signal_lines-j.ensures.value,
    text-room a.a a.cells.now (texts a.names.now) a.name.now c.requires.valid c.requires.named c.requires.name_len_bound,
  );
}

pub returns : goal.returns
returns c = let a = c.args in
    text_put a.a a.cells.now (texts a.names.now) a.name.now _ _ _ _ _ _ _ c.table_line-i.ensures c.signal_lines-j.ensures c.step_lines.ensures
