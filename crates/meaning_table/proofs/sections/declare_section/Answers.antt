use Rattle.std.proofs.Common.{arith}
use Rattle.meaning_table.proofs.Declarations.{section_behind}
use Rattle.meaning_table.proofs.sections.declare_section.Goals as goal

pub returns : goal.returns
returns g c =
    let e = section_behind c.args.kind (g.B.Base.base c.args.base.now) c.args.number (g.S.Section.section c.args.section.now) c.args.table.now in
    grind (arith)
