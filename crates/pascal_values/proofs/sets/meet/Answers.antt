use Rattle.std.proofs.Common.{◌∙◌, sym, subst}
use Rattle.pascal_values.specs.Sets.{IsSet, is_member}
use Rattle.pascal_values.proofs.SetLemmas.{IsSet-chosen, intersection-is}
use Rattle.pascal_values.proofs.sets.meet.Goals as goal

pub of-requires : goal.of-requires
of-requires c = IsSet-chosen (λ n. is_member n c.args.b.now) c.items-n-items.result.now c.loop-n.ordinals.items c.loop-n.n-index (subst IsSet (sym c.items-n-items.ensures.same) c.items-n-items.ensures.rising) c.loop-n-test.false c.loop-n.invariant

pub returns : goal.returns
returns c = intersection-is c.items-n-items.result.now c.args.a.now c.args.b.now c.of.result c.loop-n.n-index c.items-n-items.ensures.same c.items-n-items.ensures.rising c.loop-n-test.false (c.of.ensures ∙ c.loop-n.invariant)
