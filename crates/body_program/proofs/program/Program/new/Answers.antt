use Rattle.std.proofs.Common.{◌∙◌, ap, sym, map}
use Rattle.estelle_model.specs.Bodies.{bodies}
use Rattle.estelle_model.specs.Subject.{Subject}
use Rattle.body_program.specs.Told.{flat_at}
use Rattle.body_program.specs.Programs.{known_of}
use Rattle.body_program.proofs.Telling.{flats_are, bodies_are}
use Rattle.body_program.proofs.program.Program.new.Goals as goal

pub new-requires : goal.new-requires
new-requires c =
    let s : Subject = record { specification = c.args.spec.now; names = c.args.names.now.uses } in
    bodies_are s c.in_ok-table.table c.in_ok-all.all.bodies c.in_ok-table.ensures c.in_ok-all.ensures.0

pub invariant_of-result : goal.invariant_of-result
invariant_of-result c =
    let s : Subject = record { specification = c.args.spec.now; names = c.args.names.now.uses } in
    record {
      known = c.in_ok-table.ensures ∙ ap known_of (sym c.new.ensures);
      flat = flats_are s c.in_ok-table.table c.in_ok-all.all.transitions c.in_ok-table.ensures c.in_ok-all.ensures.1
          ∙ ap (λ (u : Subject). map (flat_at (known_of u)) (bodies u.specification)) (sym c.new.ensures);
    }
