use Rattle.std.proofs.Common.{refl}
use Rattle.body_code.specs.declared.instr.Instr.TheVariants as op
use Rattle.body_machine.specs.Seen.{seen}
use Rattle.body_machine.proofs.Holding.{by_store}
use Rattle.body_machine.proofs.ahead.stored.Goals as goal

pub returns-in-Some : goal.returns-in-Some
returns-in-Some c = λ s code. by_store s c.args.numbers.now code (seen c.args.machine.now) c.args.value c.in-Some.shape (op.Store c.in-Some.shape) _ c.store_with.result (seen c.store_with.new.machine) c.in-Some.ensures refl c.shape.ensures (c.store_with.ensures s c.args.numbers.now code)

pub returns-in-None : goal.returns-in-None
returns-in-None c = λ s code. (0, c.put_on_top.ensures)
