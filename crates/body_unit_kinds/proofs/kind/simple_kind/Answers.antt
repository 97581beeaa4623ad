use Rattle.body_unit_kinds.proofs.KindLemmas.{set_kind}
use Rattle.body_unit_kinds.proofs.kind.simple_kind.Goals as goal

pub returns-in-Set : goal.returns-in-Set
returns-in-Set c = set_kind c.args.value.now c.in-Set.members c.in-Set.is c.items-rising.ensures.rising
