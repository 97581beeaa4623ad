use Rattle.std.proofs.Common.{◌∙◌, ap, reverse}
use Rattle.estelle_tree.specs.Paths.{child}
use Rattle.module_tree.proofs.Chains.{forth}
use Rattle.module_tree.proofs.nodes.paths_below.Goals as goal

pub returns : goal.returns
returns g c = c.reverse.ensures.items ∙ ap reverse c.in_ok-paths.ensures ∙ forth (child c.args.path.now) _
