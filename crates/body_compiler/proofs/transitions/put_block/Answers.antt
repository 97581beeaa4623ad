use Rattle.std.proofs.Common.{◌*◌, ◌+◌}
use Rattle.std.proofs.Common.{refl, ap, inr, arith}
use Rattle.body_code.specs.declared.unit.Entry.TheVariants as entry
use Rattle.body_code.specs.Units.{entry_of}
use Rattle.body_compiler.proofs.Growth.{comes, has_unit}
use Rattle.body_compiler.proofs.transitions.put_block.Goals as goal

pub returns : goal.returns
returns c =
    let t = c.args.trans in
    record {
      comes = comes c.args.units.now c.push.new.self c.in_ok-unit.unit c.args.body 2 (3 * t + 2) c.requires c.in_ok-push.ensures (entry.Block t) (ap entry_of c.in_ok-unit.ensures.heading) (inr (refl, omega arith)) 2 (3 * t + 3) (inr (refl, omega arith));
      has = has_unit c.args.units.now c.push.new.self c.in_ok-unit.unit c.args.body 2 (3 * t + 2) c.requires c.in_ok-push.ensures (entry.Block t) (ap entry_of c.in_ok-unit.ensures.heading) (inr (refl, omega arith)) _ _ c.in_ok-unit.ensures.unit;
    }
