use Rattle.std.proofs.Common.{◌∙◌, arith}
use Rattle.body_kinds.specs.Kinded.{local_kind}
use Rattle.body_unit_kinds.specs.Seen.{stack_of}
use Rattle.body_unit_kinds.proofs.ArgumentLemmas.{given_taken}
use Rattle.body_unit_kinds.proofs.arguments.below_given.Goals as goal

pub taking-preserved : goal.taking-preserved
taking-preserved c = (
  omega (arith, c.taking.invariant.0),
  given_taken local_kind c.args.count c.args.locals.now c.taking.left c.index-locals-left.result c.top-item.result (stack_of c.args.stack.now) c.taking.rest.now c.requires c.taking-test.true c.taking.invariant.0 c.index-locals-left.is
      c.in-len1-up.len_at_least c.top-item.is (c.same_kind.ensures c.if-not-same_kind.false ∙ c.local_kind.ensures) c.taking.invariant.1,
)
