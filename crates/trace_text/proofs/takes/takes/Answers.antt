use Rattle.std.proofs.Common.{subst}
use Rattle.trace_text.specs.Forms.{InPathOrder}
use Rattle.trace_text.proofs.ValueLemmas.{no_takes, takes_missing, takes_fall, takes_stand}
use Rattle.trace_text.proofs.takes.takes.Goals as goal

pub returns-then-follows : goal.returns-then-follows
returns-then-follows c = no_takes c.args.bytes.now c.args.at c.if-follows.ensures c.new.result c.new.ensures

pub returns-in-Err : goal.returns-in-Err
returns-in-Err c = takes_missing c.args.bytes.now c.args.at c.if-follows.ensures c.in-Err.missing c.in-Err.ensures

pub returns-then-in_path_order : goal.returns-then-in_path_order
returns-then-in_path_order c = takes_stand c.args.bytes.now c.args.at c.if-follows.ensures c.in-Ok.pairs c.in-Ok.end c.in-Ok.ensures (subst InPathOrder c.as_slice.ensures c.if-in_path_order.ensures)

pub returns-else-in_path_order : goal.returns-else-in_path_order
returns-else-in_path_order c = takes_fall c.args.bytes.now c.args.at c.if-follows.ensures c.in-Ok.pairs c.in-Ok.end c.in-Ok.ensures (subst (λ ps. ¬ InPathOrder ps) c.as_slice.ensures c.if-in_path_order.ensures)
