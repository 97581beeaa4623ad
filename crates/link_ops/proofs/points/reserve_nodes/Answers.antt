use Rattle.std.proofs.Common.{◌≡◌, ℕ, List, Option, None, get_or, arith, sym, ap, subst}
use Rattle.slab.specs.Slab.{slab_len}
use Rattle.link_ops.specs.declared.points.Node.{Node}
use Rattle.link_ops.specs.Points.{AreChained}
use Rattle.link_ops.proofs.points.reserve_nodes.Goals as goal

pub returns-clause-sound : goal.returns-clause-sound
returns-clause-sound c =
    let old = c.args.points.now in
    let P : List (Option Node) → Type 0 = λ s. AreChained (λ k. get_or s k None) old.heads.items old.steps in
    record {
      chained = subst P (sym (ap (λ s. s.slots) c.reserve.ensures.rest_kept)) c.requires.chained;
      memory = omega (arith, c.requires.memory, c.reserve.ensures.capacity, ap slab_len c.reserve.ensures.rest_kept);
      steps = c.requires.steps;
      heads = c.requires.heads;
    }
