use Rattle.std.proofs.Common.{◌∙◌, List, rules, ap}
use Rattle.std.specs.List.{flat_map}
use Rattle.std.proofs.lemmas.List.{take_all}
use Rattle.estelle_tree.specs.declared.tree.specification.Trans.{Trans}
use Rattle.flat_transitions.specs.Flat.{with_chosen}
use Rattle.flat_transitions.specs.Walks.{unsaid, below}
use Rattle.flat_transitions.proofs.Flattened.{all_flattened}
use Rattle.flat_transitions.proofs.walk.transitions.Goals as goal

pub returns : goal.returns
returns c = all_flattened c.args.table.now c.args.transitions.now c.loop-trans.found (c.loop-trans.invariant.found ∙ ap (λ (ts : List Trans). flat_map (λ t. below (with_chosen c.args.table.now) unsaid t.body) ts) (take_all c.loop-trans.trans-index c.args.transitions.now (search rules)))
