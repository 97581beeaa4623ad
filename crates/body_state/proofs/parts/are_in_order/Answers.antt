use Rattle.std.proofs.Common.{sym, ap, ◌∙◌, arith}
use Rattle.std.specs.Ordering.{is_lt}
use Rattle.estelle_tree.specs.Paths.{path_cmp}
use Rattle.body_state.proofs.OrderLemmas.{true_of}
use Rattle.body_state.proofs.LentLemmas.{in_order_of, neighbours_differ}
use Rattle.body_state.proofs.parts.are_in_order.Goals as goal

pub returns-then-not-is_lt : goal.returns-then-not-is_lt
returns-then-not-is_lt c = neighbours_differ c.args.parts.now c.loop-i.i _ _ (omega arith) (omega arith) c.index-parts-i.is c.index-parts-i-in-loop-i.is ((λ k. is_lt (path_cmp (c.index-parts-i.is k).now.path (c.index-parts-i-in-loop-i.is k).now.path)) ∙ ap is_lt (sym c.compare.ensures) ∙ sym c.is_lt.ensures ∙ c.if-not-is_lt.true)

pub returns : goal.returns
returns c = sym (true_of _ (in_order_of c.args.parts.now (λ k d l. c.loop-i.invariant k d (omega arith))))
