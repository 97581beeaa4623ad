use Rattle.trace_text.proofs.LineReadings.{head_stands, start_stands, dead_stands, turns_stands, clock_stands, no_line}
use Rattle.trace_text.proofs.line.read_line.Goals as goal

pub returns-then-follows-7 : goal.returns-then-follows-7
returns-then-follows-7 c = head_stands c.args.bytes.now c.args.at c.if-follows-7.ensures

pub returns-then-follows-8 : goal.returns-then-follows-8
returns-then-follows-8 c = start_stands c.args.bytes.now c.args.at c.start.result c.start.ensures c.if-follows-8.ensures

pub returns-then-follows-9 : goal.returns-then-follows-9
returns-then-follows-9 c = dead_stands c.args.bytes.now c.args.at c.if-follows-9.ensures

pub returns-then-follows-10 : goal.returns-then-follows-10
returns-then-follows-10 c = turns_stands c.args.bytes.now c.args.at c.if-follows-10.ensures

pub returns-then-follows-11 : goal.returns-then-follows-11
returns-then-follows-11 c = clock_stands c.args.bytes.now c.args.at c.if-follows-11.ensures

pub returns : goal.returns
returns c = no_line c.args.bytes.now c.args.at (record { select = c.if-follows.ensures; fire = c.if-follows-2.ensures; out = c.if-follows-3.ensures; lost = c.if-follows-4.ensures; dropped = c.if-follows-5.ensures; fault = c.if-follows-6.ensures; head = c.if-follows-7.ensures; start = c.if-follows-8.ensures; dead = c.if-follows-9.ensures; turns = c.if-follows-10.ensures; clock = c.if-follows-11.ensures; faulted = c.if-follows-12.ensures })
