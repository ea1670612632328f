use Rattle.emit.proofs.Rows.{name-room, target_room, step_put}
use Rattle.emit.proofs.step_within.Goals as goal

pub field_within-k-requires : goal.field_within-k-requires
field_within-k-requires c = name-room _ _ c.args.name.now _ c.requires _ _ _ _ c.field_within-i.ensures c.number_within-j.ensures

pub number_within-requires : goal.number_within-requires
number_within-requires c = target_room _ _ c.args.name.now _ c.requires _ _ _ _ c.field_within-i.ensures c.number_within-j.ensures _ _ c.field_within-k.ensures

pub returns : goal.returns
returns c = step_put _ _ c.args.name.now _ c.requires _ _ _ _ c.field_within-i.ensures c.number_within-j.ensures _ _ c.field_within-k.ensures
    _ _ _ c.number_within.ensures
