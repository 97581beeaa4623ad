use Rattle.scope_names_events.proofs.WritingLemmas.{first_written, none_left}
use Rattle.scope_names_events.proofs.specification.declare_each.Goals as goal

pub loop-identifiers-preserved : goal.loop-identifiers-preserved
loop-identifiers-preserved c = first_written _ c.loop-identifiers.identifiers.now _ c.loop-identifiers.out c.declare_required.new.out _ c.in-len1-up.len_at_least c.in_ok-declare_required.ensures c.loop-identifiers.invariant

pub returns : goal.returns
returns c = none_left _ c.loop-identifiers.identifiers.now c.loop-identifiers.out _ c.in_default.len_below c.loop-identifiers.invariant
