use Rattle.pascal_check.proofs.OfSpecification.{found_are, none_broken, least_broken}
use Rattle.pascal_check.proofs.specification.check.Goals as goal

pub returns-in-None-clause-kept : goal.returns-in-None-clause-kept
returns-in-None-clause-kept c =
    let e = found_are c.args.tree.now c.args.names.now c.in_ok-table.table c.in_ok-sites.sites c.items.result.now c.in_ok-table.ensures c.in_ok-sites.ensures c.items.ensures in
    none_broken c.args.tree.now c.args.names.now c.items.result.now c.in_ok-judge.field-0 e c.in-None.is c.in_ok-judge.ensures.kept

pub returns-clause-refused : goal.returns-clause-refused
returns-clause-refused c =
    let e = found_are c.args.tree.now c.args.names.now c.in_ok-table.table c.in_ok-sites.sites c.items.result.now c.in_ok-table.ensures c.in_ok-sites.ensures c.items.ensures in
    least_broken c.args.tree.now c.args.names.now c.items.result.now c.in_ok-judge.field-0 c.in-Some.breach e c.in-Some.is c.in_ok-judge.ensures.found
