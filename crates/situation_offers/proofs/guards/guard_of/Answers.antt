use Rattle.std.proofs.Common.{◌∙◌, ap}
use Rattle.std.specs.Option.{option_copied}
use Rattle.std.specs.FinMap as map
use Rattle.std.proofs.lemmas.Result.{IfOk-weaker}
use Rattle.estelle_tree.specs.Timers.{pair}
use Rattle.estelle_model.specs.Jobs.{private}
use Rattle.estelle_model_legality.specs.Jobs.{image_of}
use Rattle.situation_offers.proofs.Asking.{guard_is, part_shown, body_of}
use Rattle.situation_offers.proofs.guards.guard_of.Goals as goal

pub returns-in-Some : goal.returns-in-Some
returns-in-Some t c = λ g of is shown.
    let s = c.args.program.now in
    let part = c.args.part.now in (
      guard_is s c.args.budget g part.path c.args.trans (option_copied c.in_ok-head.head) c.has-timed.result c.in-Some.answer of.legal (c.in_ok-head.ensures g of.stands of.legal (body_of g part is))
          (c.has-timed.ensures ∙ ap (λ ts. map.contains_key ts (pair part.path c.args.trans)) of.running)
          (c.in-Some.ensures.answers part.path (image_of (private s g.core part.path)) c.args.budget (part_shown s g part is)),
      shown,
    )

pub returns-in-None : goal.returns-in-None
returns-in-None t c = λ g of is shown.
    let part = c.args.part.now in
    IfOk-weaker c.evaluated.result _ _
    (λ answer its. (
      guard_is c.args.program.now c.args.budget g part.path c.args.trans (option_copied c.in_ok-head.head) c.has-timed.result answer of.legal (c.in_ok-head.ensures g of.stands of.legal (body_of g part is))
          (c.has-timed.ensures ∙ ap (λ ts. map.contains_key ts (pair part.path c.args.trans)) of.running) its.0,
      its.1,
    ))
    (c.evaluated.ensures g of.stands of.legal shown)
