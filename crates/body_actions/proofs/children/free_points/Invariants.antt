use Rattle.std.proofs.Common.{◌≡◌}
use Rattle.estelle_model.specs.Subject.{Subject}
use Rattle.estelle_model.specs.Actions.{free_point}
use Rattle.body_state.specs.Progress.{running}
use Rattle.body_state.specs.Follows.{carried}
use Rattle.body_actions.proofs.ActionLemmas.{for_rest}
use Rattle.body_actions.proofs.children.free_points.Given as goal

-- what is left to do does what all did
abbrev pub invariant-loop-ip : goal.invariant-loop-ip
invariant-loop-ip l = (s : Subject) → carried (for_rest (free_point s) l.path l.count l.ip) (running l.walk) ≡ carried (for_rest (free_point s) l.path l.count 0) (running l.initial.walk)
