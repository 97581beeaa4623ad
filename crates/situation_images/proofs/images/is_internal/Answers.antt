use Rattle.std.proofs.Common.{◌∙◌, Some, None}
use Rattle.situation_images.proofs.Parts.{internal_in}
use Rattle.situation_images.proofs.images.is_internal.Goals as goal

pub returns-in-None : goal.returns-in-None
returns-in-None c = internal_in c.args.program.now c.args.tree.now c.args.at.now None c.in-None.ensures

pub returns-in-Some : goal.returns-in-Some
returns-in-Some c = c.is_internal.ensures ∙ internal_in c.args.program.now c.args.tree.now c.args.at.now (Some c.in-Some.part.now) c.in-Some.ensures
