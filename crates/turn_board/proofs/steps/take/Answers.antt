use Rattle.std.proofs.Common.{◌∙◌, ◌∷◌, sym, ap, rules, [], Some}
use Rattle.atomic_table.specs.Table.{rest}
use Rattle.turn_board.proofs.TurnSteps.{looks_as}
use Rattle.turn_board.proofs.steps.take.Goals as goal

pub load-served-requires : goal.load-served-requires
load-served-requires g c = let drawn = c.requires.drawn in
    (search rules, search rules, looks_as _ _ _ _ _ _ _ _ drawn.0 [] c.args.ticket (c.loop.invariant.1 ∙ drawn.1) drawn.2)

pub exchange-requires : goal.exchange-requires
exchange-requires g c = let drawn = c.requires.drawn in
    let took = (c.load-served.ensures.2 drawn.0 c.args.ticket (ap (λ m. m.0) (c.loop.invariant.1 ∙ drawn.1)) drawn.2).0 c.if-served-ticket.true in
    let has = ap (λ m. m.1) took.1 in
    (search rules, (Some took.0, has ∙ ap (λ l. (0, Some took.0) ∷ l) (sym (ap rest has))))
