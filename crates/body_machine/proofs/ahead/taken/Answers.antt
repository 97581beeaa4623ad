use Rattle.body_machine.specs.Machine.{Goes}
use Rattle.body_machine.specs.Seen.{seen}
use Rattle.body_machine.specs.Ahead.{holding}
use Rattle.body_machine.proofs.Holding.{by_jfalse, by_jtrue, by_store, by_succ, by_pred, by_fit}
use Rattle.body_machine.proofs.ahead.taken.Goals as goal

pub returns-in-Jfalse : goal.returns-in-Jfalse
returns-in-Jfalse c = λ s code there. by_jfalse s c.args.numbers.now code (seen c.args.machine.now) c.args.value _ c.args.instr.now c.jump_with.result (seen c.jump_with.new.machine) there c.in-Jfalse.is (c.jump_with.ensures s c.args.numbers.now code)

pub returns-in-Jtrue : goal.returns-in-Jtrue
returns-in-Jtrue c = λ s code there. by_jtrue s c.args.numbers.now code (seen c.args.machine.now) c.args.value _ c.args.instr.now c.jump_with-in-Jtrue.result (seen c.jump_with-in-Jtrue.new.machine) there c.in-Jtrue.is (c.jump_with-in-Jtrue.ensures s c.args.numbers.now code)

pub returns-in-Store : goal.returns-in-Store
returns-in-Store c = λ s code there. by_store s c.args.numbers.now code (seen c.args.machine.now) c.args.value _ c.args.instr.now _ c.store_with.result (seen c.store_with.new.machine) there c.in-Store.is c.shape.ensures (c.store_with.ensures s c.args.numbers.now code)

pub returns-in-Succ : goal.returns-in-Succ
returns-in-Succ c = λ s code there. c.made_stored.ensures s code (Goes (holding c.args.value (seen c.args.machine.now))) (by_succ s c.args.numbers.now code (seen c.args.machine.now) c.args.value c.args.instr.now c.compute_with-made.result (seen c.compute_with-made.new.machine) there c.in-Succ.is (c.compute_with-made.ensures s c.args.numbers.now code))

pub returns-in-Pred : goal.returns-in-Pred
returns-in-Pred c = λ s code there. c.made_stored-in-Pred.ensures s code (Goes (holding c.args.value (seen c.args.machine.now))) (by_pred s c.args.numbers.now code (seen c.args.machine.now) c.args.value c.args.instr.now c.compute_with-made-in-Pred.result (seen c.compute_with-made-in-Pred.new.machine) there c.in-Pred.is (c.compute_with-made-in-Pred.ensures s c.args.numbers.now code))

pub returns-in-Fit : goal.returns-in-Fit
returns-in-Fit c = λ s code there. c.made_stored-in-Fit.ensures s code (Goes (holding c.args.value (seen c.args.machine.now))) (by_fit s c.args.numbers.now code (seen c.args.machine.now) c.args.value _ c.args.instr.now _ c.fit_with-made.result (seen c.fit_with-made.new.machine) there c.in-Fit.is c.shape-in-Fit.ensures (c.fit_with-made.ensures s c.args.numbers.now code))

pub returns-in_default : goal.returns-in_default
returns-in_default c = λ s code there. (0, c.put_on_top.ensures)
