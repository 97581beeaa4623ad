use Rattle.std.proofs.Common.{◌∙◌, ap, List, arith}
use Rattle.std.specs.Prelude.{slice_get, option_map}
use Rattle.estelle_model.specs.Bodies.{bodies}
use Rattle.estelle_model.specs.Subject.{Subject, body}
use Rattle.body_state.specs.declared.bodies.ModuleBody.{ModuleBody}
use Rattle.body_state.specs.Bodies.{module_body}
use Rattle.body_state.specs.Known.{subject_of}
use Rattle.body_state.proofs.BodyLemmas.{body_at}
use Rattle.body_state.proofs.bodies.ModuleBodies.get.Goals as goal

pub returns : goal.returns
returns c =
    let s : Subject = subject_of c.self.inside in
    c.get.ensures.value
    ∙ ap (λ (ms : List ModuleBody). slice_get ms c.args.number) c.self.invariant
    ∙ body_at s 0 (bodies s.specification) c.args.number c.args.number (omega arith)
    ∙ ap (λ (u : Subject). option_map (module_body u c.args.number) (body u c.args.number)) c.self.view_is
