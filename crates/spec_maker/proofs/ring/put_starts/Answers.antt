use Rattle.std.proofs.Common.{string_bytes}
use Rattle.spec_maker.specs.Ring.{start}
use Rattle.spec_maker.proofs.Loops.{grown}
use Rattle.spec_maker.proofs.ring.put_starts.Goals as goal

pub loop-i-preserved : goal.loop-i-preserved
loop-i-preserved c = grown start c.loop-i.i (string_bytes c.args.text.now) (string_bytes c.loop-i.text) (string_bytes c.put_start.new.text) c.loop-i.auto.i c.loop-i.invariant c.in_ok-put_start.ensures
