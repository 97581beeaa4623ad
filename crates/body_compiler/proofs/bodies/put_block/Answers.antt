use Rattle.std.proofs.Common.{refl, ap, inl, inr, arith}
use Rattle.body_code.specs.declared.unit.Entry.TheVariants as entry
use Rattle.body_code.specs.Units.{entry_of}
use Rattle.body_compiler.proofs.Growth.{comes, has_unit}
use Rattle.body_compiler.proofs.Parts.{known_same, meant_unit}
use Rattle.body_compiler.proofs.bodies.put_block.Goals as goal

pub returns : goal.returns
returns c = record {
  comes = comes c.args.units.now c.push.new.self c.in_ok-unit.unit c.args.body 1 0 c.requires c.in_ok-push.ensures entry.Initialize (ap entry_of c.in_ok-unit.ensures.heading) (inr (refl, omega arith)) 2 3 (inl (omega arith));
  has = meant_unit c.args.numbering.now c.table-table.result.now (known_same c.args.numbering.now c.program.result.now c.table-table.result.now c.program.ensures c.table-table.ensures) c.push.new.self c.args.body entry.Initialize c.args.block.now
      (has_unit c.args.units.now c.push.new.self c.in_ok-unit.unit c.args.body 1 0 c.requires c.in_ok-push.ensures entry.Initialize (ap entry_of c.in_ok-unit.ensures.heading) (inr (refl, omega arith)) _ _ c.in_ok-unit.ensures.unit);
}
