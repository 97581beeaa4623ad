use Rattle.body_code.specs.declared.instr.Instr.TheVariants as op
use Rattle.body_unit_kinds.specs.Seen.{stack_of}
use Rattle.body_unit_kinds.proofs.EffectLemmas.{effect_statement, statement_release, statement_connect, statement_disconnect, statement_attach, statement_detach}
use Rattle.body_unit_kinds.proofs.effects.other.Goals as goal

pub returns-in-Release : goal.returns-in-Release
returns-in-Release c = effect_statement c.args.here.now c.statement.result c.args.instr.now (op.Release c.in-Release.field-0) (stack_of c.args.stack.now) c.in-Release.is (statement_release c.args.here.now c.in-Release.field-0) c.statement.ensures

pub returns-in-Connect : goal.returns-in-Connect
returns-in-Connect c = effect_statement c.args.here.now c.statement-in-Connect.result c.args.instr.now (op.Connect c.in-Connect.field-0 c.in-Connect.field-1) (stack_of c.args.stack.now) c.in-Connect.is (statement_connect c.args.here.now c.in-Connect.field-0 c.in-Connect.field-1) c.statement-in-Connect.ensures

pub returns-in-Disconnect : goal.returns-in-Disconnect
returns-in-Disconnect c = effect_statement c.args.here.now c.statement-in-Disconnect.result c.args.instr.now (op.Disconnect c.in-Disconnect.field-0) (stack_of c.args.stack.now) c.in-Disconnect.is (statement_disconnect c.args.here.now c.in-Disconnect.field-0) c.statement-in-Disconnect.ensures

pub returns-in-Attach : goal.returns-in-Attach
returns-in-Attach c = effect_statement c.args.here.now c.statement-in-Attach.result c.args.instr.now (op.Attach c.in-Attach.upper c.in-Attach.lower) (stack_of c.args.stack.now) c.in-Attach.is (statement_attach c.args.here.now c.in-Attach.upper c.in-Attach.lower) c.statement-in-Attach.ensures

pub returns-in-Detach : goal.returns-in-Detach
returns-in-Detach c = effect_statement c.args.here.now c.statement-in-Detach.result c.args.instr.now (op.Detach c.in-Detach.field-0) (stack_of c.args.stack.now) c.in-Detach.is (statement_detach c.args.here.now c.in-Detach.field-0) c.statement-in-Detach.ensures
