use Rattle.std.proofs.Common.{refl, rules}
use Rattle.turn_board.specs.Steps.{grown}
use Rattle.turn_board.proofs.TurnSteps.{counts_as, passes_on_as}
use Rattle.turn_board.proofs.steps.give.Goals as goal

pub fetch_add-requires : goal.fetch_add-requires
fetch_add-requires g c = let r = c.requires.ready in
    (search rules, search rules, counts_as _ _ _ _ _ _ _ _ r.0 r.1 r.2 c.args.value c.args.more (search rules) r.4 r.6 r.8 r.7 c.requires.room)

pub fetch_add-served-requires : goal.fetch_add-served-requires
fetch_add-served-requires g c = let r = c.requires.ready in let entries = g.V.Recorded.entries c.args.value in
    (search rules, search rules, passes_on_as _ _ _ _ _ _ _ _ (grown r.0 r.1 r.2 entries) r.1 entries c.args.value (search rules) refl refl r.5)
