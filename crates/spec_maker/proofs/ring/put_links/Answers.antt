use Rattle.std.proofs.Common.{◌+◌, ◌++◌, codes, string_bytes}
use Rattle.spec_maker.specs.Ring.{link}
use Rattle.spec_maker.proofs.Loops.{grown}
use Rattle.spec_maker.proofs.ring.put_links.Goals as goal

pub loop-i-preserved : goal.loop-i-preserved
loop-i-preserved c =
    grown (λ i. link i (i + 1) ++ codes " ;\n") c.loop-i.i (string_bytes c.args.text.now) (string_bytes c.loop-i.text) (string_bytes c.put_next.new.text) c.loop-i.auto.i c.loop-i.invariant c.in_ok-put_next.ensures
