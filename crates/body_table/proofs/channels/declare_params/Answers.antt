use Rattle.std.proofs.Common.{arith, map}
use Rattle.meaning_table.specs.Sections.{group_section}
use Rattle.meaning_table.proofs.Declarations.{sections_alone}
use Rattle.body_table.proofs.channels.declare_params.Goals as goal

pub returns : goal.returns
returns c =
    let alone = sections_alone c.args.kind 0 (map group_section c.groups_of.result.now) c.args.table.now in
    grind (arith)
