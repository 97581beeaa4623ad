use Rattle.std.proofs.Common.{◌∙◌, Some, None, sym, ap}
use Rattle.std.specs.Option.{option_copied}
use Rattle.body_compiler.proofs.Parts.{unit_as, begins_with}
use Rattle.body_compiler.proofs.bodies.put_initialization.Goals as goal

pub returns-in_ok-put_block-in-Some : goal.returns-in_ok-put_block-in-Some
returns-in_ok-put_block-in-Some c =
    let made = c.in_ok-put_block-in-Some.ensures in
    record {
      comes = made.comes;
      has = unit_as _ _ _ _ _ _ (begins_with c.args.numbering.now c.args.body (Some c.in-Some.written.now) (ap option_copied (sym c.in-Some.is) ∙ c.requires.of_body)) made.has;
    }

pub returns-in_ok-put_block-in-None : goal.returns-in_ok-put_block-in-None
returns-in_ok-put_block-in-None c =
    let made = c.in_ok-put_block-in-None.ensures in
    record {
      comes = made.comes;
      has = unit_as _ _ _ _ _ _ (c.nothing_to_do-routine.ensures ∙ begins_with c.args.numbering.now c.args.body None (ap option_copied (sym c.in-None.is) ∙ c.requires.of_body)) made.has;
    }
