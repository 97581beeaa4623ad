use Rattle.std.proofs.Common.{◌≡◌, drop}
use Rattle.estelle_tree.specs.Links.{above}
use Rattle.body_state.proofs.ends.above.Given as goal

-- the links that are left tell what all tell
abbrev pub invariant-loop-link : goal.invariant-loop-link
invariant-loop-link l = above (drop l.link-index l.links) l.a ≡ above l.links l.a
