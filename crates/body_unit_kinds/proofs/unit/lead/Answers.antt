use Rattle.std.proofs.Common.{◌≡◌, List, subst, rules}
use Rattle.body_code.specs.declared.instr.Instr.TheVariants as op
use Rattle.body_unit_kinds.specs.declared.kind.Kind as code
use Rattle.body_unit_kinds.specs.Seen.{stack_of, stacks_of}
use Rattle.body_unit_kinds.specs.Units.{Decides, LeadsTo}
use Rattle.body_unit_kinds.proofs.Fine.{met_then, leads_of, jumps, decides_false, decides_true}
use Rattle.body_unit_kinds.proofs.unit.lead.Goals as goal

pub returns-in-Jump-clause-leads : goal.returns-in-Jump-clause-leads
returns-in-Jump-clause-leads c is =
    leads_of c.args.here.now c.args.next c.args.instr.now (op.Jump c.in-Jump.to) (stack_of c.args.stack.items) (stacks_of c.enter.new.stacks) c.in-Jump.is (jumps c.args.here.now c.args.next c.in-Jump.to (stack_of c.args.stack.items) (stacks_of c.enter.new.stacks) (c.enter.ensures.enters is))

pub returns-in-Jfalse-clause-leads : goal.returns-in-Jfalse-clause-leads
returns-in-Jfalse-clause-leads c =
    let same : c.as_slice.result.now ≡ c.args.stack.items = search rules in
    met_then c.decide.result (Decides c.args.here.now c.args.next c.in-Jfalse.to (stack_of c.as_slice.result.now) (stacks_of c.decide.new.stacks)) (LeadsTo c.args.here.now c.args.next c.args.instr.now (stack_of c.args.stack.items) (stacks_of c.decide.new.stacks))
    (λ met. leads_of c.args.here.now c.args.next c.args.instr.now (op.Jfalse c.in-Jfalse.to) (stack_of c.args.stack.items) (stacks_of c.decide.new.stacks) c.in-Jfalse.is
    (decides_false c.args.here.now c.args.next c.in-Jfalse.to (stack_of c.args.stack.items) (stacks_of c.decide.new.stacks) (subst (λ (x : List code.Kind). Decides c.args.here.now c.args.next c.in-Jfalse.to (stack_of x) (stacks_of c.decide.new.stacks)) same met)))
    c.decide.ensures.leads

pub returns-in-Jtrue-clause-leads : goal.returns-in-Jtrue-clause-leads
returns-in-Jtrue-clause-leads c =
    let same : c.as_slice-in-Jtrue.result.now ≡ c.args.stack.items = search rules in
    met_then c.decide-in-Jtrue.result (Decides c.args.here.now c.args.next c.in-Jtrue.to (stack_of c.as_slice-in-Jtrue.result.now) (stacks_of c.decide-in-Jtrue.new.stacks)) (LeadsTo c.args.here.now c.args.next c.args.instr.now (stack_of c.args.stack.items) (stacks_of c.decide-in-Jtrue.new.stacks))
    (λ met. leads_of c.args.here.now c.args.next c.args.instr.now (op.Jtrue c.in-Jtrue.to) (stack_of c.args.stack.items) (stacks_of c.decide-in-Jtrue.new.stacks) c.in-Jtrue.is
    (decides_true c.args.here.now c.args.next c.in-Jtrue.to (stack_of c.args.stack.items) (stacks_of c.decide-in-Jtrue.new.stacks) (subst (λ (x : List code.Kind). Decides c.args.here.now c.args.next c.in-Jtrue.to (stack_of x) (stacks_of c.decide-in-Jtrue.new.stacks)) same met)))
    c.decide-in-Jtrue.ensures.leads
