use Rattle.std.proofs.Common.{◌≡◌, sym, subst, Option}
use Rattle.std.specs.Prelude.{IfOk}
use Rattle.estelle_model.specs.declared.image.Interaction.{Interaction}
use Rattle.situation_images.proofs.Pending.{receives_head, of_body}
use Rattle.situation_images.proofs.jobs.head.Goals as goal

pub returns-in-Some : goal.returns-in-Some
returns-in-Some c = λ g ticket budget stands legal pending.
    let s = c.args.program.now in
    let found = c.copied_head.ensures g stands legal (of_body c.args.shared.now.tree g stands.instances c.args.pair.now.path c.in-Some.part.now c.in-Some.ensures) in
    subst (λ (o : Option Interaction). IfOk c.copied_head.result (λ head. head ≡ o)) (sym (receives_head s g legal c.args.pair.now pending)) found
