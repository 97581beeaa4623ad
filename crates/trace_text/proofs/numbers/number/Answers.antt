use Rattle.std.proofs.Common.{arith}
use Rattle.trace_text.proofs.WordLemmas.{no_number, number_outside, number_stands}
use Rattle.trace_text.proofs.numbers.number.Goals as goal

pub returns-in-None : goal.returns-in-None
returns-in-None c = no_number c.args.least c.args.greatest (omega (arith, c.ranges.greatest)) c.args.bytes.now c.args.at c.run_end-end.result c.run_end-end.ensures c.in-None.ensures

pub returns-then-n-least : goal.returns-then-n-least
returns-then-n-least c = number_outside c.args.least c.args.greatest (omega (arith, c.ranges.greatest)) c.args.bytes.now c.args.at c.run_end-end.result c.run_end-end.ensures c.in-Some.n c.in-Some.ensures (λ b. omega (arith, b.0, c.if-n-least.true))

pub returns-then-greatest-n : goal.returns-then-greatest-n
returns-then-greatest-n c = number_outside c.args.least c.args.greatest (omega (arith, c.ranges.greatest)) c.args.bytes.now c.args.at c.run_end-end.result c.run_end-end.ensures c.in-Some.n c.in-Some.ensures (λ b. omega (arith, b.1, c.if-greatest-n.true))

pub returns-else-greatest-n : goal.returns-else-greatest-n
returns-else-greatest-n c = number_stands c.args.least c.args.greatest (omega (arith, c.ranges.greatest)) c.args.bytes.now c.args.at c.run_end-end.result c.run_end-end.ensures c.in-Some.n c.in-Some.ensures (omega arith, omega arith)
