use Rattle.writer.proofs.Replies.{print_long, print_fits}
use Rattle.writer.proofs.print.Goals as goal

pub returns-then-room-n : goal.returns-then-room-n
returns-then-room-n c = print_long _ _ _ _ _ c.measure-n.ensures _ c.min-room.ensures c.if-room-n.true _ c.refusal.ensures

pub returns : goal.returns
returns c = print_fits _ _ _ _ _ c.measure-n.ensures _ c.min-room.ensures c.if-room-n.false _ c.text.ensures.out_after
