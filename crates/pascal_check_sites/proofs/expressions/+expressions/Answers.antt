use Rattle.std.proofs.Common.{◌≡◌, ◌∙◌, refl, ap, sym, rules, arith}
use Rattle.std.proofs.lemmas.Grind.{common_steps}
use Rattle.estelle_tree.specs.declared.tree.expression.Factor.{the_lemmas as lemmas}
use Rattle.estelle_tree.specs.declared.tree.expression.Simple.{out-Simple}
use Rattle.estelle_tree.specs.declared.tree.expression.Term.{out-Term}
use Rattle.estelle_tree.specs.declared.tree.expression.Variable.{out-Variable}
use Rattle.type_rules.specs.declared.sites.Members.{Members}
use Rattle.type_rules.specs.declared.sites.Members.TheVariants.{NoMember}
use Rattle.type_rules.specs.Sites.{Sites}
use Rattle.type_rules.specs.ExpressionSites.{Judged, adding_, multiplying_, signed, begun_at, placed_at, named, factor, expr, term}
use Rattle.type_rules.proofs.ExpressionEquations.{with_term, with_factor, with_selector}
use Rattle.pascal_check_sites.proofs.SiteLists.{judged, behind, both_is, operation_is, indexed_is, walked_more, walked_all, with_index, with_elem, one_member, two_members, members_all, arguments_more, arguments_end, taken_more, taken_type, taken_all, taken_type_all}
use Rattle.pascal_check_sites.proofs.LoopLaws.{simple_walked, term_walked, variable_walked, indices_walked, set_walked}
use Rattle.pascal_check_sites.proofs.expressions.+expressions.Goals as goal
use Rattle.pascal_check_sites.proofs.expressions.+expressions.Goals.{members-in-Some+in_ok-last+in_ok-so_far-2, members-in_default}

pub simple-loop-other-preserved : goal.simple-loop-other-preserved
simple-loop-other-preserved t c =
    let env = c.args.table.now in
    let x = c.other-item.result in
    walked_more (with_term env) (judged c.in_ok-typed.typed c.signed.new.out) c.items-other-items.result.now c.loop-other.other-index x (judged c.loop-other.typed c.loop-other.out) (judged c.in_ok-typed-2.typed c.operation.new.out) c.loop-other-test.true c.other-item.is c.loop-other.invariant
    (operation_is (adding_ x.0) c.adding.result (term env x.1) c.loop-other.typed c.in_ok-right.right c.in_ok-typed-2.typed c.loop-other.out c.term-in-loop-other.new.out c.operation.new.out c.adding.ensures c.in_ok-right.ensures.typed c.in_ok-right.ensures.sites c.in_ok-typed-2.ensures.typed c.in_ok-typed-2.ensures.sites)

pub simple-returns : goal.simple-returns
simple-returns t c =
    let env = c.args.table.now in
    let x = c.args.node.now in
    let first = judged c.in_ok-first.first c.term.new.out in
    let e = simple_walked env x c.items-other-items.result.now c.loop-other.other-index c.args.out.now first (judged c.in_ok-typed.typed c.signed.new.out) (judged c.loop-other.typed c.loop-other.out) c.items-other-items.ensures c.loop-other-test.false
    (both_is (behind c.args.out.now (term env (out-Simple x).first)) c.in_ok-first.first c.term.new.out c.in_ok-first.ensures.typed c.in_ok-first.ensures.sites)
    (both_is (signed (out-Simple x).span (out-Simple x).sign first) c.in_ok-typed.typed c.signed.new.out c.in_ok-typed.ensures.typed c.in_ok-typed.ensures.sites)
    c.loop-other.invariant in
    record { typed = ap (λ (j : Judged). j.typed) e; sites = ap (λ (j : Judged). j.sites) e }

pub term-loop-other-preserved : goal.term-loop-other-preserved
term-loop-other-preserved t c =
    let env = c.args.table.now in
    let x = c.other-item.result in
    walked_more (with_factor env) (judged c.in_ok-typed.typed c.factor.new.out) c.items-other-items.result.now c.loop-other.other-index x (judged c.loop-other.typed c.loop-other.out) (judged c.in_ok-typed-2.typed c.operation.new.out) c.loop-other-test.true c.other-item.is c.loop-other.invariant
    (operation_is (multiplying_ x.0) c.multiplying.result (factor env x.1) c.loop-other.typed c.in_ok-right.right c.in_ok-typed-2.typed c.loop-other.out c.factor-in-loop-other.new.out c.operation.new.out c.multiplying.ensures c.in_ok-right.ensures.typed c.in_ok-right.ensures.sites c.in_ok-typed-2.ensures.typed c.in_ok-typed-2.ensures.sites)

pub term-returns : goal.term-returns
term-returns t c =
    let env = c.args.table.now in
    let x = c.args.node.now in
    let e = term_walked env x c.items-other-items.result.now c.loop-other.other-index c.args.out.now (judged c.in_ok-typed.typed c.factor.new.out) (judged c.loop-other.typed c.loop-other.out) c.items-other-items.ensures c.loop-other-test.false
    (both_is (behind c.args.out.now (factor env (out-Term x).first)) c.in_ok-typed.typed c.factor.new.out c.in_ok-typed.ensures.typed c.in_ok-typed.ensures.sites)
    c.loop-other.invariant in
    record { typed = ap (λ (j : Judged). j.typed) e; sites = ap (λ (j : Judged). j.sites) e }

pub variable-loop-selector-preserved : goal.variable-loop-selector-preserved
variable-loop-selector-preserved t c =
    let env = c.args.table.now in
    let x = c.selector-item.result in
    walked_more (with_selector env) (judged c.placed_at-typed.result c.named.new.out) c.items-selector-items.result.now c.loop-selector.selector-index x (judged c.loop-selector.typed c.loop-selector.out) (judged c.in_ok-typed.typed c.selected.new.out) c.loop-selector-test.true c.selector-item.is c.loop-selector.invariant
    (both_is (with_selector env (judged c.loop-selector.typed c.loop-selector.out) x) c.in_ok-typed.typed c.selected.new.out c.in_ok-typed.ensures.typed c.in_ok-typed.ensures.sites)

pub variable-returns : goal.variable-returns
variable-returns t c =
    let env = c.args.table.now in
    let x = c.args.node.now in
    let e = variable_walked env x c.items-selector-items.result.now c.loop-selector.selector-index c.args.out.now (judged c.placed_at-typed.result c.named.new.out) (judged c.loop-selector.typed c.loop-selector.out) c.items-selector-items.ensures c.loop-selector-test.false
    (both_is (behind c.args.out.now (begun_at (out-Variable x).span (named env (out-Variable x).name))) c.placed_at-typed.result c.named.new.out (c.placed_at-typed.ensures ∙ ap (placed_at (out-Variable x).span) c.in_ok-whole.ensures.typed) c.in_ok-whole.ensures.sites)
    c.loop-selector.invariant in
    record { typed = ap (λ (j : Judged). j.typed) e; sites = ap (λ (j : Judged). j.sites) e }

pub selected-loop-index-preserved : goal.selected-loop-index-preserved
selected-loop-index-preserved t c =
    let env = c.args.table.now in
    let x = c.index-item.result in
    walked_more (with_index env) (judged c.args.of c.args.out.now) c.items-index-items.result.now c.loop-index.index-index x (judged c.loop-index.typed c.loop-index.out) (judged c.in_ok-typed-in-Index.typed c.indexed.new.out) c.loop-index-test.true c.index-item.is c.loop-index.invariant
    (indexed_is env (expr env x) c.loop-index.typed c.in_ok-index-in-Index.index c.in_ok-typed-in-Index.typed c.loop-index.out c.expr.new.out c.indexed.new.out c.in_ok-index-in-Index.ensures.typed c.in_ok-index-in-Index.ensures.sites c.in_ok-typed-in-Index.ensures.typed c.in_ok-typed-in-Index.ensures.sites)

pub selected-returns-after-loop-index : goal.selected-returns-after-loop-index
selected-returns-after-loop-index t c =
    let e = indices_walked c.args.table.now c.args.selector.now c.in-Index.exprs c.items-index-items.result.now c.loop-index.index-index (judged c.args.of c.args.out.now) (judged c.loop-index.typed c.loop-index.out) (first_of (search (rules, lemmas), grind (arith, lemmas))) c.items-index-items.ensures c.loop-index-test.false c.loop-index.invariant in
    record { typed = ap (λ (j : Judged). j.typed) e; sites = ap (λ (j : Judged). j.sites) e }

pub members-loop-elem-preserved : goal.members-loop-elem-preserved
members-loop-elem-preserved t c =
    let env = c.args.table.now in
    let x = c.elem-item.result in
    let step : (c.match-elem.so_far, c.match-elem.out) ≡ with_elem env (c.loop-elem.so_far, c.loop-elem.out) x = elim c.match-elem.branch [
      | members-in-Some+in_ok-last+in_ok-so_far-2 w ↦ rw (w.so_far-is, w.out-is) (two_members env x w.in-Some.last c.loop-elem.so_far c.in_ok-so_far.so_far w.in_ok-so_far-2.so_far c.in_ok-first.first w.in_ok-last.last c.loop-elem.out c.expr.new.out c.member.new.out w.expr-in-Some.new.out w.member-in-Some.new.out (first_of (search (rules, lemmas), grind (arith, lemmas))) c.in_ok-first.ensures.typed c.in_ok-first.ensures.sites c.in_ok-so_far.ensures.members c.in_ok-so_far.ensures.sites w.in_ok-last.ensures.typed w.in_ok-last.ensures.sites w.in_ok-so_far-2.ensures.members w.in_ok-so_far-2.ensures.sites)
      | members-in_default w ↦ rw (w.so_far-is, w.out-is) (one_member env x c.loop-elem.so_far c.in_ok-so_far.so_far c.in_ok-first.first c.loop-elem.out c.expr.new.out c.member.new.out (first_of (search (rules, lemmas), grind (arith, lemmas))) c.in_ok-first.ensures.typed c.in_ok-first.ensures.sites c.in_ok-so_far.ensures.members c.in_ok-so_far.ensures.sites)
    ] in
    walked_more (with_elem env) (NoMember, c.args.out.now) c.args.elems.now c.loop-elem.elem-index x (c.loop-elem.so_far, c.loop-elem.out) (c.match-elem.so_far, c.match-elem.out) c.loop-elem-test.true c.elem-item.is c.loop-elem.invariant step

pub members-returns : goal.members-returns
members-returns t c =
    let env = c.args.table.now in
    let e = walked_all (with_elem env) (NoMember, c.args.out.now) (c.loop-elem.so_far, c.loop-elem.out) c.args.elems.now c.args.elems.now c.loop-elem.elem-index refl c.loop-elem-test.false c.loop-elem.invariant ∙ members_all env c.args.elems.now NoMember c.args.out.now in
    record { members = ap (λ (p : Members × Sites). p.0) e; sites = ap (λ (p : Members × Sites). p.1) e }

pub factor-returns-in_ok-all-in-Set : goal.factor-returns-in_ok-all-in-Set
factor-returns-in_ok-all-in-Set t c =
    let e = set_walked c.args.table.now c.args.node.now c.in-Set.elems c.in-Set.span (first_of (search (rules, lemmas), grind (arith, lemmas))) in
    grind (arith)

pub arguments-loop-actual-preserved : goal.arguments-loop-actual-preserved
arguments-loop-actual-preserved t c =
    arguments_more c.args.table.now c.loop-actual.parameters.now c.rest_of-parameters.result.now c.args.exprs.now c.loop-actual.actual-index c.actual-item.result c.first_of.result c.in_ok-typed.typed c.loop-actual.out c.expr.new.out c.argument.new.out _ c.loop-actual-test.true c.actual-item.is
    c.first_of.ensures c.rest_of-parameters.ensures c.in_ok-typed.ensures.typed c.in_ok-typed.ensures.sites c.in_ok-argument.ensures c.loop-actual.invariant

pub arguments-returns : goal.arguments-returns
arguments-returns t c = sym (arguments_end c.args.table.now c.loop-actual.parameters.now c.args.exprs.now c.loop-actual.actual-index c.loop-actual.out c.loop-actual-test.false) ∙ c.loop-actual.invariant

pub function_call-loop-actual-preserved : goal.function_call-loop-actual-preserved
function_call-loop-actual-preserved t c =
    let env = c.args.table.now in
    let now = c.in_ok-first-in-RequiredFunction in
    let typed = c.in_ok-typed-in-RequiredFunction in
    record {
      sites = taken_more env c.in-RequiredFunction.required c.args.exprs.now c.loop-actual.actual-index c.actual-item.result c.loop-actual.first now.first typed.typed c.loop-actual.out c.expr.new.out c.taken_first.new.out _ c.loop-actual-test.true c.actual-item.is typed.ensures.typed typed.ensures.sites now.ensures.first now.ensures.sites c.loop-actual.invariant.sites;
      first = taken_type env c.args.exprs.now c.loop-actual.actual-index c.actual-item.result c.loop-actual.first now.first typed.typed _ c.loop-actual-test.true c.actual-item.is typed.ensures.typed now.ensures.first c.loop-actual.invariant.first;
    }

pub function_call-returns-in_ok-call_of-in-RequiredFunction : goal.function_call-returns-in_ok-call_of-in-RequiredFunction
function_call-returns-in_ok-call_of-in-RequiredFunction t c =
    let env = c.args.table.now in
    let first = taken_type_all env c.loop-actual.first c.args.exprs.now c.loop-actual.actual-index _ c.loop-actual-test.false c.loop-actual.invariant.first in
    let sites = taken_all env c.in-RequiredFunction.required c.loop-actual.first c.args.exprs.now c.loop-actual.actual-index c.loop-actual.out _ c.loop-actual-test.false c.loop-actual.invariant.sites in
    grind (arith, common_steps)
