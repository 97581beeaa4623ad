use Rattle.std.proofs.Common.{◌≡◌, ◌∙◌, false, nat_eq, arith, rules}
use Rattle.std.specs.Map.{lookup}
use Rattle.std.specs.Option.{is_some}
use Rattle.declaration_table.proofs.Declaring.{entry_last}
use Rattle.declaration_table.proofs.table.put_first.Goals as goal

pub returns : goal.returns
returns g c =
    let none : is_some (lookup (nat_eq c.args.at) c.args.values.now.entries) ≡ false = first_of (search rules, grind (arith)) in
    c.in_ok-insert.ensures.entries ∙ entry_last c.args.at c.args.value c.args.values.now.entries none
