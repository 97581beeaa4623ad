use Rattle.std.proofs.Common.{◌∙◌, ◌^◌, ◌-◌, min, List, rules, ap}
use Rattle.std.proofs.lemmas.List.{take_all}
use Rattle.estelle_tree.specs.declared.tree.specification.Trans.{Trans}
use Rattle.meaning_table.specs.Known.{meanings_of}
use Rattle.flat_transitions.specs.Counts as spec
use Rattle.flat_transitions.proofs.Counts.{all_counted}
use Rattle.flat_transitions.proofs.counting.count.Goals as goal

pub returns : goal.returns
returns c = all_counted c.args.table.now c.args.transitions.now c.loop-trans.count (c.loop-trans.invariant ∙ ap (λ (ts : List Trans). min (2 ^ 32 - 1) (spec.count (meanings_of c.args.table.now) ts)) (take_all c.loop-trans.trans-index c.args.transitions.now (search rules)))
