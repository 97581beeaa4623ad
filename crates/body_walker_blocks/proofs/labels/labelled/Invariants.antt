use Rattle.std.proofs.Common.{◌≡◌, drop}
use Rattle.body_walker_blocks.specs.Scopes.{meanings}
use Rattle.body_walker_blocks.specs.Labels.{labelled}
use Rattle.body_walker_blocks.proofs.labels.labelled.Given as goal

-- the cases that are left tell what all tell
abbrev pub invariant-loop-case : goal.invariant-loop-case
invariant-loop-case l = labelled (meanings l.scope) l.number (drop l.case-index l.cases) ≡ labelled (meanings l.scope) l.number l.cases
