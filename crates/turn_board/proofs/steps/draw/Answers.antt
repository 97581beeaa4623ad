use Rattle.std.proofs.Common.{◌∙◌, refl, rules, arith, []}
use Rattle.turn_board.proofs.TurnSteps.{draws_as}
use Rattle.turn_board.proofs.steps.draw.Goals as goal

pub compare_exchange-found-requires : goal.compare_exchange-found-requires
compare_exchange-found-requires g c = let idle = c.requires.idle in
    (search rules, search rules, draws_as _ _ _ _ _ _ _ _ idle.0 [] _ _ (c.loop.invariant.1 ∙ idle.1) idle.2 refl (omega arith))
