use Rattle.std.proofs.Common.{◌∙◌, subst}
use Rattle.body_compiler.specs.Whole.{HasRoutines}
use Rattle.body_compiler.proofs.Growth.{then_grown}
use Rattle.body_compiler.proofs.Parts.{initialization_there, body_whole}
use Rattle.body_compiler.proofs.bodies.put_body.Goals as goal

pub put_initialization-requires : goal.put_initialization-requires
put_initialization-requires c = record {
  free = c.in_ok-put_routines.ensures.comes.free;
  of_body = c.as_ref.ensures.value ∙ initialization_there c.args.numbering.now c.args.number c.args.known.now c.requires.known;
}

pub put_routines-requires : goal.put_routines-requires
put_routines-requires c = c.in_ok-begin_body.ensures.free

pub put_transitions-requires : goal.put_transitions-requires
put_transitions-requires c = c.in_ok-put_initialization.ensures.comes.free

pub returns : goal.returns
returns c =
    let s = c.args.numbering.now in
    let us = c.begin_body.new.units in
    let vs = c.put_routines.new.units in
    let ws = c.put_initialization.new.units in
    let xs = c.put_transitions.new.units in
    let begun = c.in_ok-begin_body.ensures in
    let routines = c.in_ok-put_routines.ensures in
    let first = c.in_ok-put_initialization.ensures in
    let rest = c.in_ok-put_transitions.ensures in
    record {
      grown = then_grown c.args.units.now us xs begun.grown (then_grown us vs xs routines.comes.grown (then_grown vs ws xs first.comes.grown rest.grown));
      free = rest.free;
      has = body_whole s vs ws xs c.args.number first.comes.grown rest.grown (subst (λ ts. HasRoutines s vs c.args.number ts) c.routines.ensures routines.has) first.has rest.has;
    }
