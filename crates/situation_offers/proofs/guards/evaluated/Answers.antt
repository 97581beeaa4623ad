use Rattle.std.proofs.Common.{◌∙◌, sym, subst, Option}
use Rattle.std.specs.Prelude.{IfSome}
use Rattle.std.specs.Option.{option_copied}
use Rattle.estelle_model.specs.declared.image.Image.{Image}
use Rattle.estelle_model.specs.Asked.{IsGuard}
use Rattle.estelle_model.specs.Subject.{Subject}
use Rattle.situation_offers.specs.Asked.{IsImageOf}
use Rattle.situation_offers.proofs.guards.evaluated.Goals as goal

pub returns : goal.returns
returns t c = λ g stands legal shown.
    let s = c.args.program.now in
    let m = c.args.path.now in
    let is = c.in_ok-private.ensures g stands legal (subst (λ (o : Option Image). IfSome o (IsImageOf s g m)) (sym c.take.ensures.value) shown) in (
      subst (λ (x : Image). IsGuard s m x c.args.trans (option_copied c.args.head) c.args.timed c.args.budget c.in_ok-answer.answer) (c.view.ensures.image ∙ is)
          (subst (λ (u : Subject). IsGuard u m c.view.result c.args.trans (option_copied c.args.head) c.args.timed c.args.budget c.in_ok-answer.answer) c.requires.guards c.in_ok-answer.ensures),
      is,
    )
