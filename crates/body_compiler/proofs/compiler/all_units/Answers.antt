use Rattle.std.proofs.Common.{Some, None, arith}
use Rattle.estelle_model.specs.Subject.{body}
use Rattle.body_state.proofs.BodyLemmas.{unknown_body}
use Rattle.body_compiler.proofs.Parts.{known_there, free_first, bodies_more}
use Rattle.body_compiler.proofs.Whole.{is_compiled}
use Rattle.body_compiler.proofs.compiler.all_units.Goals as goal

pub loop-number-init : goal.loop-number-init
loop-number-init c = record { free = free_first c.none-units.result 0 c.none-units.ensures; has = λ k less. absurd (omega (arith, less)) }

pub put_body-requires : goal.put_body-requires
put_body-requires c = record {
  free = c.loop-number.invariant.free;
  known = known_there c.args.numbering.now c.bodies-bodies.result.now c.program.result.now c.bodies-bodies.ensures c.program.ensures c.loop-number.number (Some c.in-Some.known.now) c.in-Some.ensures;
}

pub loop-number-preserved : goal.loop-number-preserved
loop-number-preserved c =
    let more = c.in_ok-put_body-in-Some.ensures in
    record { free = more.free; has = bodies_more c.args.numbering.now c.loop-number.units c.put_body.new.units c.loop-number.number more.grown c.loop-number.invariant.has more.has }

pub returns-in-None : goal.returns-in-None
returns-in-None c =
    let s = c.args.numbering.now in
    is_compiled s c.loop-number.units c.loop-number.number c.loop-number.invariant.has
    (unknown_body s c.loop-number.number (body s c.loop-number.number) (known_there s c.bodies-bodies.result.now c.program.result.now c.bodies-bodies.ensures c.program.ensures c.loop-number.number None c.in-None.ensures))
