use Rattle.std.proofs.Common.{◌∙◌}
use Rattle.compiled_program.proofs.Answering.{faithful_still, kinds_still}
use Rattle.compiled_program.proofs.program.CompiledProgram.new.Goals as goal

pub invariant_of-result : goal.invariant_of-result
invariant_of-result c =
    let same = c.in_ok-numbering.ensures ∙ c.program.ensures.same in (
      same,
      faithful_still c.in_ok-numbering.numbering c.args.program.now c.in_ok-code.code same c.in_ok-code.ensures.faithful,
      kinds_still c.in_ok-numbering.numbering c.args.program.now c.in_ok-code.code same c.in_ok-code.ensures.kinds,
    )
