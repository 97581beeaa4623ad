use Rattle.std.proofs.Common.{◌∙◌, sym, ap, subst, List}
use Rattle.estelle_model.specs.declared.image.Part.{Part}
use Rattle.body_state.specs.InOrder.{InOrder, parts_behind}
use Rattle.situation_images.proofs.Pending.{in_order}
use Rattle.situation_images.proofs.Reading.{image_is}
use Rattle.situation_images.proofs.images.image_of.Goals as goal

pub returns-clause-image : goal.returns-clause-image
returns-clause-image c = λ g stands tree.
    image_is c.args.program.now c.args.shared.now g c.args.path.now stands _ _
    (c.from_vec.ensures ∙ c.in_ok-copies.ensures ∙ ap parts_behind c.deref.ensures.value ∙ c.in_ok-parts.ensures c.args.program.now g stands.instances tree)
    (c.from_vec-2.ensures ∙ c.in_ok-links.ensures)

pub returns-clause-in_order : goal.returns-clause-in_order
returns-clause-in_order c = λ g stands tree.
    subst (λ (ps : List Part). InOrder ps) (sym (c.from_vec.ensures ∙ c.in_ok-copies.ensures ∙ ap parts_behind c.deref.ensures.value ∙ c.in_ok-parts.ensures c.args.program.now g stands.instances tree)) (in_order g c.args.path.now)
