use Rattle.std.proofs.Common.{◌≡◌, ◌-◌}
use Rattle.body_walker_blocks.specs.Hosts as spec
use Rattle.body_walker_blocks.proofs.hosts.item_behind.Given as goal

-- what is behind the indices that are left is behind all of them
abbrev pub invariant-loop : goal.invariant-loop
invariant-loop l = spec.item_behind l.item (l.indices - l.counter) ≡ spec.item_behind l.denoter l.indices
