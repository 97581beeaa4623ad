use Rattle.module_tree.proofs.Paths.{restored}
use Rattle.module_tree.proofs.nodes.join_next.Goals as goal

pub returns-then-sibling-ne0-clause-kept : goal.returns-then-sibling-ne0-clause-kept
returns-then-sibling-ne0-clause-kept g c = restored _ _ _ _ _ c.replace_last-own.ensures.replaced c.replace_last.ensures.replaced c.replace_last-own.ensures.last c.requires.below
