use Rattle.std.proofs.Common.{ap, arith}
use Rattle.std.proofs.lemmas.Grind.{common_steps}
use Rattle.estelle_model.specs.Denoted.{section_types}
use Rattle.meaning_table.specs.Known.{meanings_of}
use Rattle.meaning_table.proofs.Chains.{chain_more}
use Rattle.body_table.specs.Contributions.{variables_of}
use Rattle.body_table.proofs.root.push_variable_types.Goals as goal

pub loop-decl-preserved : goal.loop-decl-preserved
loop-decl-preserved c =
    let more = ap (section_types (meanings_of c.args.table.now)) (chain_more variables_of c.args.decls.now c.loop-decl.decl-index c.decl-item.result c.loop-decl-test.true c.decl-item.is) in
    grind (arith, common_steps)
