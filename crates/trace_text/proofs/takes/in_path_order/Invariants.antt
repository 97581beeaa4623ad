use Rattle.std.proofs.Common.{drop}
use Rattle.trace_text.specs.Forms.{Follow, InPathOrder}
use Rattle.trace_text.proofs.takes.in_path_order.Given as goal

-- the pairs are in order exactly where the others are behind the last one
pub record SameAs (P Q : Type 0) : Type 0 where
  pub to : P → Q
  pub from : Q → P

abbrev pub invariant-loop-pair : goal.invariant-loop-pair
invariant-loop-pair l = SameAs (InPathOrder l.pairs) (Follow l.before (drop l.pair-index l.others))
