use Rattle.std.proofs.Common.{◌∙◌, List, sym, ap, arith}
use Rattle.estelle_tree.specs.declared.tree.expression.Factor.{out-Factor}
use Rattle.estelle_tree.specs.declared.tree.expression.Factor.TheVariants as factor
use Rattle.estelle_tree.specs.declared.tree.expression.Selector.{Selector}
use Rattle.estelle_tree.specs.declared.tree.expression.Expr.{Expr}
use Rattle.estelle_model.specs.declared.denoter.Host.{Host}
use Rattle.estelle_model.specs.Operators.{required_host}
use Rattle.body_walker_blocks.specs.Walked as walked
use Rattle.body_walker_blocks.proofs.HostSteps.{host_of_expr, host_of_simple, host_of_sum, host_of_term, host_of_product, host_of_factor, host_of_call, host_of_required, host_of_wrong, host_of_other}
use Rattle.body_walker_blocks.proofs.hosts.+hosts.Goals as goal

pub call_host-returns-in-Called : goal.call_host-returns-in-Called
call_host-returns-in-Called t c = λ here. c.result_host.ensures ∙ sym (host_of_call c.args.scope.now here c.args.name.now c.args.exprs.now _ (sym c.meaning.ensures ∙ c.in-Called.is))

pub call_host-returns-in_default-exprs : goal.call_host-returns-in_default-exprs
call_host-returns-in_default-exprs t c = λ here. sym (host_of_wrong c.args.scope.now here c.args.name.now c.args.exprs.now _ (sym c.meaning.ensures ∙ c.in-RequiredFunction.is) (λ one. omega (arith, one, c.in_default-exprs.len_below)))

pub call_host-returns-in_default-exprs-2 : goal.call_host-returns-in_default-exprs-2
call_host-returns-in_default-exprs-2 t c = λ here. sym (host_of_wrong c.args.scope.now here c.args.name.now c.args.exprs.now _ (sym c.meaning.ensures ∙ c.in-RequiredFunction.is) (λ one. omega (arith, one, c.in_default-exprs.len_at_least)))

pub call_host-returns-in-len1 : goal.call_host-returns-in-len1
call_host-returns-in-len1 t c = λ here. c.required_host.ensures ∙ ap (λ (k : Host). required_host c.in-RequiredFunction.required k) (c.host.ensures here) ∙ sym (host_of_required c.args.scope.now here c.args.name.now c.args.exprs.now _ c.argument-item.result (sym c.meaning.ensures ∙ c.in-RequiredFunction.is) c.in-len1.len_at_least c.in-len1.len_below c.argument-item.is)

pub call_host-returns-in_default : goal.call_host-returns-in_default
call_host-returns-in_default t c = λ here. sym (host_of_other c.args.scope.now here c.args.name.now c.args.exprs.now c.meaning.result.now (sym c.meaning.ensures) c.in_default.not-Called c.in_default.not-RequiredFunction)

pub factor_host-returns-in-Number : goal.factor_host-returns-in-Number
factor_host-returns-in-Number t c = λ here. sym (host_of_factor c.args.scope.now here c.args.node.now _ (ap out-Factor c.in-Number.is ∙ factor.outs-Number _ _))

pub factor_host-returns-in-Char : goal.factor_host-returns-in-Char
factor_host-returns-in-Char t c = λ here. sym (host_of_factor c.args.scope.now here c.args.node.now _ (ap out-Factor c.in-Char.is ∙ factor.outs-Char _ _))

pub factor_host-returns-in-Not : goal.factor_host-returns-in-Not
factor_host-returns-in-Not t c = λ here. sym (host_of_factor c.args.scope.now here c.args.node.now _ (ap out-Factor c.in-Not.is ∙ factor.outs-Not _ _))

pub factor_host-returns-in-Set : goal.factor_host-returns-in-Set
factor_host-returns-in-Set t c = λ here. sym (host_of_factor c.args.scope.now here c.args.node.now _ (ap out-Factor c.in-Set.is ∙ factor.outs-Set _ _))

pub factor_host-returns-in-Variable : goal.factor_host-returns-in-Variable
factor_host-returns-in-Variable t c = λ here. c.named_host.ensures here ∙ ap (λ (ss : List Selector). (walked.valued c.args.scope.now here c.in-Variable.variable.name ss).host) c.items.ensures ∙ sym (host_of_factor c.args.scope.now here c.args.node.now _ (ap out-Factor c.in-Variable.is ∙ factor.outs-Variable _))

pub factor_host-returns-in-Call : goal.factor_host-returns-in-Call
factor_host-returns-in-Call t c = λ here. c.call_host.ensures here ∙ ap (λ (es : List Expr). (walked.designated c.args.scope.now here c.in-Call.name es).host) c.items-in-Call.ensures ∙ sym (host_of_factor c.args.scope.now here c.args.node.now _ (ap out-Factor c.in-Call.is ∙ factor.outs-Call _ _ _))

pub factor_host-returns-in-Paren : goal.factor_host-returns-in-Paren
factor_host-returns-in-Paren t c = λ here. c.host.ensures here ∙ ap (λ (e : Expr). (walked.expr c.args.scope.now here e).host) c.get.ensures ∙ sym (host_of_factor c.args.scope.now here c.args.node.now _ (ap out-Factor c.in-Paren.is ∙ factor.outs-Paren _ _))

pub host-returns-in-None : goal.host-returns-in-None
host-returns-in-None t c = λ here. c.simple_host.ensures here ∙ sym (host_of_expr c.args.scope.now here c.args.node.now _ c.in-None.is)

pub host-returns-in-Some : goal.host-returns-in-Some
host-returns-in-Some t c = λ here. sym (host_of_expr c.args.scope.now here c.args.node.now _ c.in-Some.is)

pub simple_host-returns-in-empty-None : goal.simple_host-returns-in-empty-None
simple_host-returns-in-empty-None t c = λ here. c.term_host.ensures here ∙ sym (host_of_simple c.args.scope.now here c.args.node.now c.items.result.now _ c.items.ensures c.in-empty-None.len_below c.in-empty-None.is-1)

pub simple_host-returns-in-empty-Some : goal.simple_host-returns-in-empty-Some
simple_host-returns-in-empty-Some t c = λ here. sym (host_of_simple c.args.scope.now here c.args.node.now c.items.result.now _ c.items.ensures c.in-empty-Some.len_below c.in-empty-Some.is-1)

pub simple_host-returns-in-len1-up-default : goal.simple_host-returns-in-len1-up-default
simple_host-returns-in-len1-up-default t c = λ here. c.added_host.ensures ∙ sym (host_of_sum c.args.scope.now here c.args.node.now c.items.result.now c.last-item.result c.items.ensures c.in-len1-up-default.len_at_least c.last-item.is)

pub term_host-returns-in-empty : goal.term_host-returns-in-empty
term_host-returns-in-empty t c = λ here. c.factor_host.ensures here ∙ sym (host_of_term c.args.scope.now here c.args.node.now c.items.result.now c.items.ensures c.in-empty.len_below)

pub term_host-returns-in-len1-up : goal.term_host-returns-in-len1-up
term_host-returns-in-len1-up t c = λ here. c.multiplied_host.ensures ∙ sym (host_of_product c.args.scope.now here c.args.node.now c.items.result.now c.last-item.result c.items.ensures c.in-len1-up.len_at_least c.last-item.is)
