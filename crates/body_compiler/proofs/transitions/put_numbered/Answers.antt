use Rattle.std.proofs.Common.{subst}
use Rattle.estelle_model.specs.Transitions.{Transition}
use Rattle.body_compiler.specs.Whole.{HasOne}
use Rattle.body_compiler.proofs.Parts.{same_one, same_block}
use Rattle.body_compiler.proofs.transitions.put_numbered.Goals as goal

pub put_transition-requires : goal.put_transition-requires
put_transition-requires c = record { free = c.requires; block = same_block c.args.numbering.now c.program-program.result.now c.program-program.ensures c.args.body c.args.trans c.in-Some.transition.now c.in-Some-block.block.now c.in-Some.ensures c.in-Some-block.ensures }

pub returns-in_ok-put_transition-in-Some-block : goal.returns-in_ok-put_transition-in-Some-block
returns-in_ok-put_transition-in-Some-block c =
    let made = c.in_ok-put_transition-in-Some-block.ensures in
    record {
      comes = made.comes;
      has = λ t is. subst (λ (x : Transition). HasOne c.args.numbering.now c.put_transition.new.units c.args.body c.args.trans x)
          (same_one c.args.numbering.now c.program-program.result.now c.program-program.ensures c.args.body c.args.trans c.in-Some.transition.now t c.in-Some.ensures is) made.has;
    }
