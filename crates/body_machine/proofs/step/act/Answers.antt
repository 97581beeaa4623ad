use Rattle.std.proofs.Common.{rules, ℕ, List, Option, subst}
use Rattle.std.proofs.lemmas.Int.{to_z-of_z}
use Rattle.std.specs.Option.{option_copied}
use Rattle.pascal_values.specs.declared.value.Shape.{Shape}
use Rattle.body_code.specs.declared.unit.CodeUnit.{CodeUnit}
use Rattle.estelle_model.specs.declared.meaning.InteractionKind.{InteractionKind}
use Rattle.body_numbers.specs.Numbers.{word_of}
use Rattle.body_machine.specs.Ends.{output_with}
use Rattle.body_machine.specs.Rows.{storing, fitting, exporting, sending, row}
use Rattle.body_machine.specs.Steps.{values_from, taken_from, init_with}
use Rattle.body_machine.specs.Seen.{seen, IsNext, Did}
use Rattle.body_machine.proofs.Acting.{acted, indexed}
use Rattle.body_machine.proofs.step.act.Goals as goal

pub returns-in-Push : goal.returns-in-Push
unfolding row
returns-in-Push c = acted c.args.bodies.now c.args.numbers.now c.args.code.now (seen c.args.machine.now) c.constant.result (seen c.constant.new.machine) c.args.instr.now _ c.in-Push.is (c.constant.ensures c.args.bodies.now c.args.numbers.now c.args.code.now)

pub returns-in-Var : goal.returns-in-Var
unfolding row
returns-in-Var c = acted c.args.bodies.now c.args.numbers.now c.args.code.now (seen c.args.machine.now) c.variable.result (seen c.variable.new.machine) c.args.instr.now _ c.in-Var.is (c.variable.ensures c.args.bodies.now c.args.numbers.now c.args.code.now)

pub returns-in-Loc : goal.returns-in-Loc
unfolding row
returns-in-Loc c = acted c.args.bodies.now c.args.numbers.now c.args.code.now (seen c.args.machine.now) c.local.result (seen c.local.new.machine) c.args.instr.now _ c.in-Loc.is (c.local.ensures c.args.bodies.now c.args.numbers.now c.args.code.now)

pub returns-in-Ref : goal.returns-in-Ref
unfolding row
returns-in-Ref c = acted c.args.bodies.now c.args.numbers.now c.args.code.now (seen c.args.machine.now) c.reference.result (seen c.reference.new.machine) c.args.instr.now _ c.in-Ref.is (c.reference.ensures c.args.bodies.now c.args.numbers.now c.args.code.now)

pub returns-in-Exp : goal.returns-in-Exp
unfolding row
returns-in-Exp c = acted c.args.bodies.now c.args.numbers.now c.args.code.now (seen c.args.machine.now) c.export-in-Exp.result (seen c.export-in-Exp.new.machine) c.args.instr.now _ c.in-Exp.is (subst (λ (o : Option ℕ). Did (exporting c.args.machine.now.active.here.path c.in-Exp.modvar o) c.args.machine.now c.export-in-Exp.result c.export-in-Exp.new.machine) c.export.ensures c.export-in-Exp.ensures c.args.bodies.now c.args.numbers.now c.args.code.now)

pub returns-in-Field : goal.returns-in-Field
unfolding row
returns-in-Field c = acted c.args.bodies.now c.args.numbers.now c.args.code.now (seen c.args.machine.now) c.extend.result (seen c.extend.new.machine) c.args.instr.now _ c.in-Field.is (c.extend.ensures c.args.bodies.now c.args.numbers.now c.args.code.now)

pub returns-in-Index : goal.returns-in-Index
unfolding row
returns-in-Index c = acted c.args.bodies.now c.args.numbers.now c.args.code.now (seen c.args.machine.now) c.index.result (seen c.index.new.machine) c.args.instr.now _ c.in-Index.is (indexed c.in-Index.low c.in-Index.high _ _ (search (rules, to_z-of_z)) (search (rules, to_z-of_z)) c.args.machine.now c.index.result c.index.new.machine c.index.ensures c.args.bodies.now c.args.numbers.now c.args.code.now)

pub returns-in-Load : goal.returns-in-Load
unfolding row
returns-in-Load c = acted c.args.bodies.now c.args.numbers.now c.args.code.now (seen c.args.machine.now) c.load.result (seen c.load.new.machine) c.args.instr.now _ c.in-Load.is (c.load.ensures c.args.bodies.now c.args.numbers.now c.args.code.now)

pub returns-in-Store : goal.returns-in-Store
unfolding row
returns-in-Store c = acted c.args.bodies.now c.args.numbers.now c.args.code.now (seen c.args.machine.now) c.store.result (seen c.store.new.machine) c.args.instr.now _ c.in-Store.is (subst (λ (o : Option Shape). Did (storing o) c.args.machine.now c.store.result c.store.new.machine) c.shape.ensures c.store.ensures c.args.bodies.now c.args.numbers.now c.args.code.now)

pub returns-in-Fit : goal.returns-in-Fit
unfolding row
returns-in-Fit c = acted c.args.bodies.now c.args.numbers.now c.args.code.now (seen c.args.machine.now) c.fit.result (seen c.fit.new.machine) c.args.instr.now _ c.in-Fit.is (subst (λ (o : Option Shape). Did (fitting o) c.args.machine.now c.fit.result c.fit.new.machine) c.shape-in-Fit.ensures c.fit.ensures c.args.bodies.now c.args.numbers.now c.args.code.now)

pub returns-in-Blank : goal.returns-in-Blank
unfolding row
returns-in-Blank c = acted c.args.bodies.now c.args.numbers.now c.args.code.now (seen c.args.machine.now) c.blank.result (seen c.blank.new.machine) c.args.instr.now _ c.in-Blank.is (c.blank.ensures c.args.bodies.now c.args.numbers.now c.args.code.now)

pub returns-in-Neg : goal.returns-in-Neg
unfolding row
returns-in-Neg c = acted c.args.bodies.now c.args.numbers.now c.args.code.now (seen c.args.machine.now) c.compute.result (seen c.compute.new.machine) c.args.instr.now _ c.in-Neg.is (c.compute.ensures c.args.bodies.now c.args.numbers.now c.args.code.now)

pub returns-in-Add : goal.returns-in-Add
unfolding row
returns-in-Add c = acted c.args.bodies.now c.args.numbers.now c.args.code.now (seen c.args.machine.now) c.combine.result (seen c.combine.new.machine) c.args.instr.now _ c.in-Add.is (c.combine.ensures c.args.bodies.now c.args.numbers.now c.args.code.now)

pub returns-in-Sub : goal.returns-in-Sub
unfolding row
returns-in-Sub c = acted c.args.bodies.now c.args.numbers.now c.args.code.now (seen c.args.machine.now) c.combine-in-Sub.result (seen c.combine-in-Sub.new.machine) c.args.instr.now _ c.in-Sub.is (c.combine-in-Sub.ensures c.args.bodies.now c.args.numbers.now c.args.code.now)

pub returns-in-Mul : goal.returns-in-Mul
unfolding row
returns-in-Mul c = acted c.args.bodies.now c.args.numbers.now c.args.code.now (seen c.args.machine.now) c.combine-in-Mul.result (seen c.combine-in-Mul.new.machine) c.args.instr.now _ c.in-Mul.is (c.combine-in-Mul.ensures c.args.bodies.now c.args.numbers.now c.args.code.now)

pub returns-in-Div : goal.returns-in-Div
unfolding row
returns-in-Div c = acted c.args.bodies.now c.args.numbers.now c.args.code.now (seen c.args.machine.now) c.combine-in-Div.result (seen c.combine-in-Div.new.machine) c.args.instr.now _ c.in-Div.is (c.combine-in-Div.ensures c.args.bodies.now c.args.numbers.now c.args.code.now)

pub returns-in-Mod : goal.returns-in-Mod
unfolding row
returns-in-Mod c = acted c.args.bodies.now c.args.numbers.now c.args.code.now (seen c.args.machine.now) c.combine-in-Mod.result (seen c.combine-in-Mod.new.machine) c.args.instr.now _ c.in-Mod.is (c.combine-in-Mod.ensures c.args.bodies.now c.args.numbers.now c.args.code.now)

pub returns-in-Abs : goal.returns-in-Abs
unfolding row
returns-in-Abs c = acted c.args.bodies.now c.args.numbers.now c.args.code.now (seen c.args.machine.now) c.compute-in-Abs.result (seen c.compute-in-Abs.new.machine) c.args.instr.now _ c.in-Abs.is (c.compute-in-Abs.ensures c.args.bodies.now c.args.numbers.now c.args.code.now)

pub returns-in-Sqr : goal.returns-in-Sqr
unfolding row
returns-in-Sqr c = acted c.args.bodies.now c.args.numbers.now c.args.code.now (seen c.args.machine.now) c.compute-in-Sqr.result (seen c.compute-in-Sqr.new.machine) c.args.instr.now _ c.in-Sqr.is (c.compute-in-Sqr.ensures c.args.bodies.now c.args.numbers.now c.args.code.now)

pub returns-in-Odd : goal.returns-in-Odd
unfolding row
returns-in-Odd c = acted c.args.bodies.now c.args.numbers.now c.args.code.now (seen c.args.machine.now) c.compute-in-Odd.result (seen c.compute-in-Odd.new.machine) c.args.instr.now _ c.in-Odd.is (c.compute-in-Odd.ensures c.args.bodies.now c.args.numbers.now c.args.code.now)

pub returns-in-Succ : goal.returns-in-Succ
unfolding row
returns-in-Succ c = acted c.args.bodies.now c.args.numbers.now c.args.code.now (seen c.args.machine.now) c.compute-in-Succ.result (seen c.compute-in-Succ.new.machine) c.args.instr.now _ c.in-Succ.is (c.compute-in-Succ.ensures c.args.bodies.now c.args.numbers.now c.args.code.now)

pub returns-in-Pred : goal.returns-in-Pred
unfolding row
returns-in-Pred c = acted c.args.bodies.now c.args.numbers.now c.args.code.now (seen c.args.machine.now) c.compute-in-Pred.result (seen c.compute-in-Pred.new.machine) c.args.instr.now _ c.in-Pred.is (c.compute-in-Pred.ensures c.args.bodies.now c.args.numbers.now c.args.code.now)

pub returns-in-Ord : goal.returns-in-Ord
unfolding row
returns-in-Ord c = acted c.args.bodies.now c.args.numbers.now c.args.code.now (seen c.args.machine.now) c.compute-in-Ord.result (seen c.compute-in-Ord.new.machine) c.args.instr.now _ c.in-Ord.is (c.compute-in-Ord.ensures c.args.bodies.now c.args.numbers.now c.args.code.now)

pub returns-in-Chr : goal.returns-in-Chr
unfolding row
returns-in-Chr c = acted c.args.bodies.now c.args.numbers.now c.args.code.now (seen c.args.machine.now) c.compute-in-Chr.result (seen c.compute-in-Chr.new.machine) c.args.instr.now _ c.in-Chr.is (c.compute-in-Chr.ensures c.args.bodies.now c.args.numbers.now c.args.code.now)

pub returns-in-Not : goal.returns-in-Not
unfolding row
returns-in-Not c = acted c.args.bodies.now c.args.numbers.now c.args.code.now (seen c.args.machine.now) c.compute-in-Not.result (seen c.compute-in-Not.new.machine) c.args.instr.now _ c.in-Not.is (c.compute-in-Not.ensures c.args.bodies.now c.args.numbers.now c.args.code.now)

pub returns-in-Eq : goal.returns-in-Eq
unfolding row
returns-in-Eq c = acted c.args.bodies.now c.args.numbers.now c.args.code.now (seen c.args.machine.now) c.combine-in-Eq.result (seen c.combine-in-Eq.new.machine) c.args.instr.now _ c.in-Eq.is (c.combine-in-Eq.ensures c.args.bodies.now c.args.numbers.now c.args.code.now)

pub returns-in-Ne : goal.returns-in-Ne
unfolding row
returns-in-Ne c = acted c.args.bodies.now c.args.numbers.now c.args.code.now (seen c.args.machine.now) c.combine-in-Ne.result (seen c.combine-in-Ne.new.machine) c.args.instr.now _ c.in-Ne.is (c.combine-in-Ne.ensures c.args.bodies.now c.args.numbers.now c.args.code.now)

pub returns-in-Lt : goal.returns-in-Lt
unfolding row
returns-in-Lt c = acted c.args.bodies.now c.args.numbers.now c.args.code.now (seen c.args.machine.now) c.combine-in-Lt.result (seen c.combine-in-Lt.new.machine) c.args.instr.now _ c.in-Lt.is (c.combine-in-Lt.ensures c.args.bodies.now c.args.numbers.now c.args.code.now)

pub returns-in-Le : goal.returns-in-Le
unfolding row
returns-in-Le c = acted c.args.bodies.now c.args.numbers.now c.args.code.now (seen c.args.machine.now) c.combine-in-Le.result (seen c.combine-in-Le.new.machine) c.args.instr.now _ c.in-Le.is (c.combine-in-Le.ensures c.args.bodies.now c.args.numbers.now c.args.code.now)

pub returns-in-Gt : goal.returns-in-Gt
unfolding row
returns-in-Gt c = acted c.args.bodies.now c.args.numbers.now c.args.code.now (seen c.args.machine.now) c.combine-in-Gt.result (seen c.combine-in-Gt.new.machine) c.args.instr.now _ c.in-Gt.is (c.combine-in-Gt.ensures c.args.bodies.now c.args.numbers.now c.args.code.now)

pub returns-in-Ge : goal.returns-in-Ge
unfolding row
returns-in-Ge c = acted c.args.bodies.now c.args.numbers.now c.args.code.now (seen c.args.machine.now) c.combine-in-Ge.result (seen c.combine-in-Ge.new.machine) c.args.instr.now _ c.in-Ge.is (c.combine-in-Ge.ensures c.args.bodies.now c.args.numbers.now c.args.code.now)

pub returns-in-Empty : goal.returns-in-Empty
unfolding row
returns-in-Empty c = acted c.args.bodies.now c.args.numbers.now c.args.code.now (seen c.args.machine.now) c.empty.result (seen c.empty.new.machine) c.args.instr.now _ c.in-Empty.is (c.empty.ensures c.args.bodies.now c.args.numbers.now c.args.code.now)

pub returns-in-One : goal.returns-in-One
unfolding row
returns-in-One c = acted c.args.bodies.now c.args.numbers.now c.args.code.now (seen c.args.machine.now) c.compute-in-One.result (seen c.compute-in-One.new.machine) c.args.instr.now _ c.in-One.is (c.compute-in-One.ensures c.args.bodies.now c.args.numbers.now c.args.code.now)

pub returns-in-Span : goal.returns-in-Span
unfolding row
returns-in-Span c = acted c.args.bodies.now c.args.numbers.now c.args.code.now (seen c.args.machine.now) c.combine-in-Span.result (seen c.combine-in-Span.new.machine) c.args.instr.now _ c.in-Span.is (c.combine-in-Span.ensures c.args.bodies.now c.args.numbers.now c.args.code.now)

pub returns-in-Unite : goal.returns-in-Unite
unfolding row
returns-in-Unite c = acted c.args.bodies.now c.args.numbers.now c.args.code.now (seen c.args.machine.now) c.combine-in-Unite.result (seen c.combine-in-Unite.new.machine) c.args.instr.now _ c.in-Unite.is (c.combine-in-Unite.ensures c.args.bodies.now c.args.numbers.now c.args.code.now)

pub returns-in-Meet : goal.returns-in-Meet
unfolding row
returns-in-Meet c = acted c.args.bodies.now c.args.numbers.now c.args.code.now (seen c.args.machine.now) c.combine-in-Meet.result (seen c.combine-in-Meet.new.machine) c.args.instr.now _ c.in-Meet.is (c.combine-in-Meet.ensures c.args.bodies.now c.args.numbers.now c.args.code.now)

pub returns-in-Minus : goal.returns-in-Minus
unfolding row
returns-in-Minus c = acted c.args.bodies.now c.args.numbers.now c.args.code.now (seen c.args.machine.now) c.combine-in-Minus.result (seen c.combine-in-Minus.new.machine) c.args.instr.now _ c.in-Minus.is (c.combine-in-Minus.ensures c.args.bodies.now c.args.numbers.now c.args.code.now)

pub returns-in-Has : goal.returns-in-Has
unfolding row
returns-in-Has c = acted c.args.bodies.now c.args.numbers.now c.args.code.now (seen c.args.machine.now) c.combine-in-Has.result (seen c.combine-in-Has.new.machine) c.args.instr.now _ c.in-Has.is (c.combine-in-Has.ensures c.args.bodies.now c.args.numbers.now c.args.code.now)

pub returns-in-Jump : goal.returns-in-Jump
unfolding row
returns-in-Jump c = acted c.args.bodies.now c.args.numbers.now c.args.code.now (seen c.args.machine.now) c.jump.result (seen c.jump.new.machine) c.args.instr.now _ c.in-Jump.is (c.jump.ensures c.args.bodies.now c.args.numbers.now c.args.code.now)

pub returns-in-Jfalse : goal.returns-in-Jfalse
unfolding row
returns-in-Jfalse c = acted c.args.bodies.now c.args.numbers.now c.args.code.now (seen c.args.machine.now) c.jump_where.result (seen c.jump_where.new.machine) c.args.instr.now _ c.in-Jfalse.is (c.jump_where.ensures c.args.bodies.now c.args.numbers.now c.args.code.now)

pub returns-in-Jtrue : goal.returns-in-Jtrue
unfolding row
returns-in-Jtrue c = acted c.args.bodies.now c.args.numbers.now c.args.code.now (seen c.args.machine.now) c.jump_where-in-Jtrue.result (seen c.jump_where-in-Jtrue.new.machine) c.args.instr.now _ c.in-Jtrue.is (c.jump_where-in-Jtrue.ensures c.args.bodies.now c.args.numbers.now c.args.code.now)

pub returns-in-Turn : goal.returns-in-Turn
unfolding row
returns-in-Turn c = acted c.args.bodies.now c.args.numbers.now c.args.code.now (seen c.args.machine.now) c.turn.result (seen c.turn.new.machine) c.args.instr.now _ c.in-Turn.is (c.turn.ensures c.args.bodies.now c.args.numbers.now c.args.code.now)

pub returns-in-Fail : goal.returns-in-Fail
unfolding row
returns-in-Fail c = acted c.args.bodies.now c.args.numbers.now c.args.code.now (seen c.args.machine.now) c.fault.result (seen c.fault.new.machine) c.args.instr.now _ c.in-Fail.is (c.fault.ensures c.args.bodies.now c.args.numbers.now c.args.code.now)

pub returns-in-Init : goal.returns-in-Init
unfolding row
returns-in-Init c = acted c.args.bodies.now c.args.numbers.now c.args.code.now (seen c.args.machine.now) c.init.result (seen c.init.new.machine) c.args.instr.now _ c.in-Init.is (subst (λ (o : Option CodeUnit). IsNext (init_with c.args.bodies.now c.args.numbers.now c.args.code.now c.in-Init.modvar c.in-Init.body o (values_from (taken_from c.in-Init.arguments c.args.machine.now.active.stack)) (seen c.args.machine.now)) c.init.result (seen c.init.new.machine)) c.unit-unit-in-Init.ensures (c.init.ensures c.args.numbers.now c.args.code.now))

pub returns-in-Release : goal.returns-in-Release
unfolding row
returns-in-Release c = acted c.args.bodies.now c.args.numbers.now c.args.code.now (seen c.args.machine.now) c.release.result (seen c.release.new.machine) c.args.instr.now _ c.in-Release.is (c.release.ensures c.args.bodies.now c.args.numbers.now c.args.code.now)

pub returns-in-Connect : goal.returns-in-Connect
unfolding row
returns-in-Connect c = acted c.args.bodies.now c.args.numbers.now c.args.code.now (seen c.args.machine.now) c.connect.result (seen c.connect.new.machine) c.args.instr.now _ c.in-Connect.is (c.connect.ensures c.args.bodies.now c.args.numbers.now c.args.code.now)

pub returns-in-Disconnect : goal.returns-in-Disconnect
unfolding row
returns-in-Disconnect c = acted c.args.bodies.now c.args.numbers.now c.args.code.now (seen c.args.machine.now) c.disconnect.result (seen c.disconnect.new.machine) c.args.instr.now _ c.in-Disconnect.is (c.disconnect.ensures c.args.bodies.now c.args.numbers.now c.args.code.now)

pub returns-in-Attach : goal.returns-in-Attach
unfolding row
returns-in-Attach c = acted c.args.bodies.now c.args.numbers.now c.args.code.now (seen c.args.machine.now) c.attach.result (seen c.attach.new.machine) c.args.instr.now _ c.in-Attach.is (c.attach.ensures c.args.bodies.now c.args.numbers.now c.args.code.now)

pub returns-in-Detach : goal.returns-in-Detach
unfolding row
returns-in-Detach c = acted c.args.bodies.now c.args.numbers.now c.args.code.now (seen c.args.machine.now) c.detach.result (seen c.detach.new.machine) c.args.instr.now _ c.in-Detach.is (c.detach.ensures c.args.bodies.now c.args.numbers.now c.args.code.now)

pub returns-in-Output : goal.returns-in-Output
unfolding row
returns-in-Output c = acted c.args.bodies.now c.args.numbers.now c.args.code.now (seen c.args.machine.now) c.output.result (seen c.output.new.machine) c.args.instr.now _ c.in-Output.is (subst (λ (o : Option InteractionKind). Did (sending c.in-Output.arguments (output_with c.args.bodies.now c.args.machine.now.active.here.path c.in-Output.ip (word_of c.args.numbers.now c.args.machine.now.active.body c.in-Output.ip) o)) c.args.machine.now c.output.result c.output.new.machine) c.interaction-kind.ensures (subst (λ (o : Option (List ℕ)). Did (sending c.in-Output.arguments (output_with c.args.bodies.now c.args.machine.now.active.here.path c.in-Output.ip o (option_copied c.interaction-kind.result))) c.args.machine.now c.output.result c.output.new.machine) c.word-word.ensures c.output.ensures) c.args.bodies.now c.args.numbers.now c.args.code.now)
