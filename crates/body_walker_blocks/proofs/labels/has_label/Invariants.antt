use Rattle.std.proofs.Common.{◌≡◌, drop}
use Rattle.body_walker_blocks.specs.Scopes.{meanings}
use Rattle.estelle_model.specs.Statements.{is_labelled}
use Rattle.body_walker_blocks.proofs.labels.has_label.Given as goal

-- the labels that are left tell what all tell
abbrev pub invariant-loop-label : goal.invariant-loop-label
invariant-loop-label l = is_labelled (meanings l.scope) l.number (drop l.label-index l.labels) ≡ is_labelled (meanings l.scope) l.number l.labels
