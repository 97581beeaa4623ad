use Rattle.std.proofs.Common.{◌∙◌, ◌-◌, ap, length, arith}
use Rattle.estelle_tree.specs.Paths.{Path, last_of}
use Rattle.body_actions.proofs.ChildLemmas.{last_at}
use Rattle.body_actions.proofs.children.last_of.Goals as goal

pub returns-in-len1-up : goal.returns-in-len1-up
returns-in-len1-up c = last_at c.items.result.now (length c.items.result.now - 1) (omega (arith, c.in-len1-up.len_at_least)) ∙ ap (λ (p : Path). last_of p) c.items.ensures
