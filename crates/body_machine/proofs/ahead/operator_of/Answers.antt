use Rattle.std.proofs.Common.{refl}
use Rattle.body_machine.proofs.Holding.{computes}
use Rattle.body_code.specs.declared.instr.Instr.TheVariants as op
use Rattle.estelle_tree.specs.declared.tree.expression.Relation.TheVariants as relation
use Rattle.body_machine.specs.declared.operators.Binary.TheVariants as binary
use Rattle.body_machine.specs.Rows.{row}
use Rattle.body_machine.proofs.ahead.operator_of.Goals as goal

pub returns-in-Add : goal.returns-in-Add
unfolding row
returns-in-Add c = computes c.args.instr.now op.Add binary.Plus c.in-Add.is (λ s n a. refl)

pub returns-in-Sub : goal.returns-in-Sub
unfolding row
returns-in-Sub c = computes c.args.instr.now op.Sub binary.Minus c.in-Sub.is (λ s n a. refl)

pub returns-in-Mul : goal.returns-in-Mul
unfolding row
returns-in-Mul c = computes c.args.instr.now op.Mul binary.Times c.in-Mul.is (λ s n a. refl)

pub returns-in-Div : goal.returns-in-Div
unfolding row
returns-in-Div c = computes c.args.instr.now op.Div binary.Div c.in-Div.is (λ s n a. refl)

pub returns-in-Mod : goal.returns-in-Mod
unfolding row
returns-in-Mod c = computes c.args.instr.now op.Mod binary.Mod c.in-Mod.is (λ s n a. refl)

pub returns-in-Eq : goal.returns-in-Eq
unfolding row
returns-in-Eq c = computes c.args.instr.now op.Eq (binary.Compare relation.Equal) c.in-Eq.is (λ s n a. refl)

pub returns-in-Ne : goal.returns-in-Ne
unfolding row
returns-in-Ne c = computes c.args.instr.now op.Ne (binary.Compare relation.NotEqual) c.in-Ne.is (λ s n a. refl)

pub returns-in-Lt : goal.returns-in-Lt
unfolding row
returns-in-Lt c = computes c.args.instr.now op.Lt (binary.Compare relation.Less) c.in-Lt.is (λ s n a. refl)

pub returns-in-Le : goal.returns-in-Le
unfolding row
returns-in-Le c = computes c.args.instr.now op.Le (binary.Compare relation.AtMost) c.in-Le.is (λ s n a. refl)

pub returns-in-Gt : goal.returns-in-Gt
unfolding row
returns-in-Gt c = computes c.args.instr.now op.Gt (binary.Compare relation.Greater) c.in-Gt.is (λ s n a. refl)

pub returns-in-Ge : goal.returns-in-Ge
unfolding row
returns-in-Ge c = computes c.args.instr.now op.Ge (binary.Compare relation.AtLeast) c.in-Ge.is (λ s n a. refl)
