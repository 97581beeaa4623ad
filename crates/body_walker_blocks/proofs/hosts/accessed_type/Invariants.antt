use Rattle.std.proofs.Common.{◌≡◌, drop}
use Rattle.body_walker_blocks.specs.Scopes.{meanings}
use Rattle.body_walker_blocks.specs.Hosts as spec
use Rattle.body_walker_blocks.proofs.hosts.accessed_type.Given as goal

-- what the selectors that are left lead to is what all of them lead to
abbrev pub invariant-loop-selector : goal.invariant-loop-selector
invariant-loop-selector l = spec.components (meanings l.scope) l.denoter (drop l.selector-index l.selector-items) ≡ spec.components (meanings l.scope) l.initial.denoter l.selector-items
