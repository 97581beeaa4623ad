use Rattle.estelle_model.specs.Trace.{pair_text}
use Rattle.trace_text.specs.Forms.{IsPair}
use Rattle.trace_text.proofs.ListLemmas.{read_none, read_last, read_fails}
use Rattle.trace_text.proofs.ValueLemmas.{marked_pairs_unique}
use Rattle.trace_text.proofs.takes.pairs.Goals as goal

pub pairs-init : goal.pairs-init
pairs-init c = read_none pair_text IsPair 32 10 c.args.bytes.now c.args.at _ c.new-pairs.ensures

pub returns-then-last : goal.returns-then-last
returns-then-last c = read_last pair_text IsPair 32 10 c.args.bytes.now c.args.at _ _ c.pairs.invariant c.in-Ok.marked.0 c.in-Ok.marked.1 c.in-Ok.next _ c.in-Ok.ensures c.if-last.true c.in_ok-push-in-Ok.ensures.ok

pub returns-in-Err : goal.returns-in-Err
returns-in-Err c = read_fails pair_text IsPair 32 10 c.args.bytes.now c.args.at _ _ c.pairs.invariant marked_pairs_unique c.in-Err.missing c.in-Err.ensures
