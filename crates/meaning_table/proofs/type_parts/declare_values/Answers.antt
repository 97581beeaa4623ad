use Rattle.std.proofs.Common.{◌∙◌, ap, sym}
use Rattle.estelle_model.specs.Denoted.{enumeration, rising}
use Rattle.meaning_table.specs.Known.{with_meanings}
use Rattle.meaning_table.specs.Kinds.{plain_meaning}
use Rattle.meaning_table.specs.declared.kinds.PlainKind.TheVariants as plain
use Rattle.meaning_table.proofs.Declarations.{numbered_rising}
use Rattle.meaning_table.proofs.type_parts.declare_values.Goals as goal

pub returns : goal.returns
returns c =
    let names = c.args.names.now in
    c.in_ok-declare_plain.ensures.0
    ∙ ap (λ h. with_meanings c.args.table.now (rising (plain_meaning (plain.Value h)) 0 names)) c.in_ok-host.ensures
    ∙ sym (numbered_rising (plain_meaning (plain.Value (enumeration names))) 0 names c.args.table.now)
