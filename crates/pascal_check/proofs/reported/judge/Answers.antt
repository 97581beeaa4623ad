use Rattle.std.proofs.Common.{nat_eq, sym}
use Rattle.indexmap.specs.IndexSet.{contains}
use Rattle.pascal_check.proofs.Breaches.{all_kept, all_found}
use Rattle.pascal_check.proofs.reported.judge.Goals as goal

pub returns-clause-kept : goal.returns-clause-kept
returns-clause-kept c = all_kept c.args.sites.now (contains nat_eq c.in_ok-opened.opened) c.in_ok-opened.ensures c.first_breach.result (sym c.first_breach.ensures)

pub returns-clause-found : goal.returns-clause-found
returns-clause-found c = all_found c.args.sites.now (contains nat_eq c.in_ok-opened.opened) c.in_ok-opened.ensures c.first_breach.result (sym c.first_breach.ensures)
