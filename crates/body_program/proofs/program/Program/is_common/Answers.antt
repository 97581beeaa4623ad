use Rattle.std.proofs.Common.{◌∙◌, ap, List}
use Rattle.std.specs.Prelude.{slice_get, option_map}
use Rattle.estelle_model.specs.declared.meaning.InteractionPoint.{InteractionPoint}
use Rattle.estelle_model.specs.Subject.{Subject, body}
use Rattle.estelle_model.specs.Queues.{common_at}
use Rattle.body_state.specs.Bodies.{module_body}
use Rattle.body_program.proofs.Holding.{its_points}
use Rattle.body_program.proofs.program.Program.is_common.Goals as goal

pub returns-in-None-get : goal.returns-in-None-get
returns-in-None-get c =
    let s : Subject = c.args.self.now in
    let n = c.args.number in
    ap common_at (c.in-None-get.ensures.value ∙ ap (λ (ps : List InteractionPoint). slice_get ps c.args.ip) (its_points s (body s n) n c.in-Some.body.now (c.in-Some.ensures ∙ ap (λ (u : Subject). option_map (module_body u n) (body u n)) c.self.view_is)))

pub returns-in-Some-get : goal.returns-in-Some-get
returns-in-Some-get c =
    let s : Subject = c.args.self.now in
    let n = c.args.number in
    ap common_at (c.in-Some-get.ensures.value ∙ ap (λ (ps : List InteractionPoint). slice_get ps c.args.ip) (its_points s (body s n) n c.in-Some.body.now (c.in-Some.ensures ∙ ap (λ (u : Subject). option_map (module_body u n) (body u n)) c.self.view_is)))
