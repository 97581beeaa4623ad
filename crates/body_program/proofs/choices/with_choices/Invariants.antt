use Rattle.std.proofs.Common.{◌≡◌, take}
use Rattle.body_program.specs.Chosen.{chosen_over}
use Rattle.body_program.proofs.choices.with_choices.Given as goal

abbrev pub invariant-loop-choice : goal.invariant-loop-choice
invariant-loop-choice l = l.over ≡ chosen_over l.table (take l.choice-index l.chosen)
