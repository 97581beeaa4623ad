use Rattle.std.proofs.Common.{◌∙◌}
use Rattle.pascal_values.proofs.SetLemmas.{found}
use Rattle.pascal_values.proofs.sets.contains.Goals as goal

pub returns : goal.returns
returns c = c.is_ok.ensures.value ∙ found c.args.ordinals.now c.args.n _ c.requires c.binary_search.ensures.position
