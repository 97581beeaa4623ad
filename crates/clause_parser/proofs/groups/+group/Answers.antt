use Rattle.std.proofs.Common.{◌≡◌, ap, sym, ◌∙◌, rules, arith, Err}
use Rattle.std.proofs.lemmas.Grind.{common_steps}
use Rattle.clause_parser.specs.Block.{block}
use Rattle.clause_parser.specs.Clause.{clause}
use Rattle.clause_parser.specs.Way.{stands_on}
use Rattle.clause_parser.specs.Group.{group_over, group_within}
use Rattle.clause_parser.proofs.WayLaws.{behind_is, one_down}
use Rattle.clause_parser.proofs.groups.+group.Goals as goal

pub returns-then-place-eq0 : goal.returns-then-place-eq0
unfolding group_within
returns-then-place-eq0 t c _ =
    let none : c.args.place.clauses ≡ 0 = omega arith in
    ap (λ n. group_within (block c.args.place.room) (clause c.args.place.room) n (stands_on c.args.place.way) c.args.tokens.now) none ∙ ap Err (sym c.refuse.ensures)

pub returns-in_err-unless_on : goal.returns-in_err-unless_on
unfolding group_over
returns-in_err-unless_on t c =
    let down = one_down (block c.args.place.room) (clause c.args.place.room) c.args.place.clauses (stands_on c.args.place.way) c.args.tokens.now (omega arith) in
    first_of (search rules, grind (arith, common_steps))

pub returns-in_err-clause : goal.returns-in_err-clause
unfolding group_over
returns-in_err-clause t c =
    let down = one_down (block c.args.place.room) (clause c.args.place.room) c.args.place.clauses (stands_on c.args.place.way) c.args.tokens.now (omega arith) in
    first_of (search rules, grind (arith, common_steps))

pub returns : goal.returns
unfolding group_over
returns t c =
    let down = one_down (block c.args.place.room) (clause c.args.place.room) c.args.place.clauses (stands_on c.args.place.way) c.args.tokens.now (omega arith) in
    let way = behind_is c.in_ok-clause.clause c.args.place.way c.behind.result c.behind.ensures in
    rw (down, ← c.start-from.ensures, c.in_ok-unless_on.ensures, c.in_ok-clause.ensures, ← way) c.group_behind.ensures
