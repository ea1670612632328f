use Rattle.reader.proofs.Rows.{count-more}
use Rattle.reader.proofs.clashes.ends.Goals as goal

pub loop-byte-preserved : goal.loop-byte-preserved
loop-byte-preserved c = let l = c.loop-byte in
    count-more c.args.part.now l.byte-index l.count _ c.loop-byte-test.true c.from-count.ensures l.invariant.0 l.invariant.1
