use Rattle.std.proofs.Common.{arith}
use Rattle.std.proofs.lemmas.Grind.{common_steps}
use Rattle.body_code.specs.Listing.{instr_line}
use Rattle.body_code.proofs.Numbered.{texts_append}
use Rattle.body_code.proofs.lines.put_instrs.Goals as goal

pub returns : goal.returns
returns c =
    let e = texts_append instr_line 0 c.parts.result.0.now c.parts.result.1.now in
    grind (arith, common_steps)
