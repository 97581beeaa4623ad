use Rattle.std.proofs.Common.{◌≡◌, ℕ, Option, None, subst, rules, tests}
use Rattle.std.specs.Prelude.{MatchOption}
use Rattle.situation.specs.Worlds.{IsKept}
use Rattle.situation.specs.Steps.{NoneHas, IsTicketAt}
use Rattle.situation.proofs.Commits.{is_found, is_under_ticket, may_settle, committed_so}
use Rattle.situation.proofs.execution.Execution.commit.Goals as goal

pub unreachable-requires : goal.unreachable-requires
unreachable-requires g c =
    let old = c.args.self.now in
    let unended : old.end ≡ None = search (rules, tests) in
    let nowhere : c.place_of.result ≡ None = search (rules, tests) in
    is_found old (subst (IsKept old) unended c.requires.keeps) c.args.done c.requires.may
    (subst (λ (r : Option ℕ). MatchOption r (NoneHas c.args.done.ticket old.flying.items) (IsTicketAt c.args.done.ticket old.flying.items)) nowhere c.place_of.ensures)

pub settle-requires-clause-may : goal.settle-requires-clause-may
settle-requires-clause-may g c =
    let old = c.args.self.now in
    let unended : old.end ≡ None = search (rules, tests) in
    may_settle old (subst (IsKept old) unended c.requires.keeps) c.args.done c.requires.may c.in-Some-place_of.at c.in-Some-place_of.ensures

pub settle-requires-clause-there : goal.settle-requires-clause-there
settle-requires-clause-there g c =
    let old = c.args.self.now in
    let unended : old.end ≡ None = search (rules, tests) in
    is_under_ticket old (subst (IsKept old) unended c.requires.keeps) c.args.done c.requires.may c.in-Some-place_of.at c.in-Some-place_of.ensures

pub returns : goal.returns
returns g c =
    let old = c.args.self.now in
    let unended : old.end ≡ None = search (rules, tests) in
    committed_so old (subst (IsKept old) unended c.requires.keeps) c.args.done c.requires.may c.in-Some-place_of.at c.in-Some-place_of.ensures c.settle.new.self c.settle.result unended c.settle.ensures
