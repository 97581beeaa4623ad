use Rattle.std.proofs.Common.{◌≡◌, arith, Some, None, sym, subst}
use Rattle.scope_rules.specs.NameRules as rules
use Rattle.scope_rules.specs.Scopes.{start}
use Rattle.scope_rules.specs.SpecificationEvents.{events}
use Rattle.scope_rules.proofs.First.{first_none, first_some}
use Rattle.scope_names.specs.Noted.{least}
use Rattle.scope_rules.specs.NamesInUse.{IsComplete}
use Rattle.scope_names.proofs.First.{scan_first}
use Rattle.scope_names.proofs.Complete.{names_complete}
use Rattle.scope_names.proofs.specification.resolve.Goals as goal

pub returns-in-None-clause-kept : goal.returns-in-None-clause-kept
returns-in-None-clause-kept c =
    let e : least None start (events c.args.spec.now) ≡ None = grind (arith) in
    first_none (rules.NameRuleBroken c.args.spec.now) (least None start (events c.args.spec.now)) e (scan_first (events c.args.spec.now))

pub returns-in-None-clause-complete : goal.returns-in-None-clause-complete
returns-in-None-clause-complete c =
    let e : least None start (events c.args.spec.now) ≡ None = grind (arith) in
    let found = names_complete c.args.spec.now (first_none (rules.NameRuleBroken c.args.spec.now) (least None start (events c.args.spec.now)) e (scan_first (events c.args.spec.now))) in
    let uses : c.in_ok-uses.uses ≡ rules.names_of c.args.spec.now = grind (arith) in
    subst (IsComplete c.args.spec.now) (sym uses) found

pub returns-clause-refused : goal.returns-clause-refused
returns-clause-refused c =
    let e : least None start (events c.args.spec.now) ≡ Some c.in-Some.breach = grind (arith) in
    first_some (rules.NameRuleBroken c.args.spec.now) (least None start (events c.args.spec.now)) c.in-Some.breach e (scan_first (events c.args.spec.now))
