use Rattle.std.proofs.Common.{◌+◌}
use Rattle.std.proofs.Common.{◌∙◌, refl, sym, ap, inr, arith}
use Rattle.body_code.specs.declared.unit.Entry.TheVariants as entry
use Rattle.body_code.specs.Units.{entry_of}
use Rattle.body_compiler.proofs.Growth.{comes, has_unit}
use Rattle.body_compiler.proofs.Parts.{known_same, declared_unit}
use Rattle.body_compiler.proofs.bodies.put_routine.Goals as goal

pub returns-in_ok-push-in-Called : goal.returns-in_ok-push-in-Called
returns-in_ok-push-in-Called c =
    let n = c.args.routine in
    record {
      comes = comes c.args.units.now c.push.new.self c.in_ok-unit-in-Called.unit c.args.body 0 n c.requires c.in_ok-push-in-Called.ensures (entry.Routine n) (ap entry_of c.in_ok-unit-in-Called.ensures.heading) (inr (refl, omega arith)) 0 (n + 1) (inr (refl, omega arith));
      has = declared_unit c.args.numbering.now c.table-table.result.now (known_same c.args.numbering.now c.program.result.now c.table-table.result.now c.program.ensures c.table-table.ensures) c.push.new.self c.args.body n c.args.tree.now c.in-Called.called (sym c.in-Called.is ∙ c.meaning_at.ensures)
          (has_unit c.args.units.now c.push.new.self c.in_ok-unit-in-Called.unit c.args.body 0 n c.requires c.in_ok-push-in-Called.ensures (entry.Routine n) (ap entry_of c.in_ok-unit-in-Called.ensures.heading) (inr (refl, omega arith)) _ _ c.in_ok-unit-in-Called.ensures.unit);
    }
