use Rattle.std.proofs.Common.{◌≡◌, ◌∙◌, ℕ, ◌+◌, Bool, List, [], map, Option, Some, None, ℤ, Ok, Err, refl, sym, ap, subst, arith, rules, w64, to_z, of_z}
use Rattle.std.proofs.lemmas.Int.{to_z-of_z}
use Rattle.std.specs.Prelude.{option_map}
use Rattle.std.specs.Option.{option_copied}
use Rattle.std.specs.FinMap as maps
use Rattle.pascal_values.specs.declared.fault.Fault.TheVariants.{NoCase, CallDepth}
use Rattle.pascal_values.specs.declared.value.Value.{Value}
use Rattle.pascal_values.specs.declared.value.Value.TheVariants as pascal
use Rattle.estelle_tree.specs.declared.tree.expression.Factor.{Factor, out-Factor}
use Rattle.estelle_tree.specs.declared.tree.expression.Factor.TheVariants as factor
use Rattle.estelle_tree.specs.declared.tree.expression.Selector.{Selector, out-Selector}
use Rattle.estelle_tree.specs.declared.tree.expression.Selector.TheVariants as selector
use Rattle.estelle_tree.specs.declared.tree.expression.Expr.{Expr}
use Rattle.estelle_tree.specs.declared.tree.expression.Elem.{Elem}
use Rattle.estelle_tree.specs.declared.tree.statement.Stmt.{Stmt, out-Stmt}
use Rattle.estelle_tree.specs.declared.tree.statement.Stmt.TheVariants as stmt
use Rattle.estelle_tree.specs.declared.tree.statement.Stmts.{Stmts}
use Rattle.estelle_tree.specs.declared.tree.statement.Case.{Case}
use Rattle.estelle_model.specs.declared.denoter.Host.{Host}
use Rattle.estelle_model.specs.declared.meaning.Meaning.{Meaning}
use Rattle.estelle_model.specs.declared.meaning.Meaning.TheVariants.{Interaction}
use Rattle.estelle_model.specs.declared.meaning.Passing.TheVariants.{ByValue}
use Rattle.estelle_model.specs.declared.place.Place.{Place}
use Rattle.estelle_model.specs.Core.{Instances}
use Rattle.estelle_model.specs.Bodies.{BodyAlone}
use Rattle.estelle_model.specs.Subject.{Subject, body, child_of}
use Rattle.estelle_model.specs.Definitions.{types_received}
use Rattle.estelle_model.specs.Operators.{one_member, members_from, required_value}
use Rattle.estelle_model.specs.States.{Logged, on_log}
use Rattle.estelle_model.specs.Places.{load, store, store_ordinal}
use Rattle.body_state.specs.declared.bodies.Initialization.{Initialization}
use Rattle.body_values.specs.declared.stop.Stop.TheVariants as stop
use Rattle.body_state.specs.Bodies.{module_body, block_by}
use Rattle.body_actions.specs.Children.{beginning}
use Rattle.body_values.specs.Gives.{Gives}
use Rattle.body_state.specs.Progress.{running}
use Rattle.body_state.specs.Follows.{Follows}
use Rattle.body_state.proofs.BodyLemmas.{known_body}
use Rattle.body_walker_blocks.specs.Scopes.{meanings}
use Rattle.body_walker_blocks.specs.Located.{Located}
use Rattle.body_walker_blocks.specs.Operands.{with_reference}
use Rattle.body_walker_blocks.specs.Labels.{labelled}
use Rattle.body_walker_blocks.specs.Accesses.{is_variable, variable_host, field, item}
use Rattle.body_walker_blocks.specs.Turns.{following}
use Rattle.body_walker_blocks.specs.Walked as walked
use Rattle.body_walker_blocks.proofs.Weights.{total, part, of_factor, of_selector, of_elem, of_expr, of_right, of_other_term, of_other_factor, of_stmt, of_case, of_stmts, args_weigh, elem_weighs, expr_weighs, simple_weighs, term_weighs, variable_weighs, stmts_weigh, item_at, factor_is, selector_is, stmt_is, variable_part, case_part, arguments_weigh, behind_weighs}
use Rattle.body_walker_blocks.proofs.Depths.{call_falls, init_falls}
use Rattle.body_walker_blocks.proofs.Plans.{Runs, then, stops, with, without, last, gives, given, finished, finishes, refused, broken, itself, leaves, ends, faults, breaks, exits}
use Rattle.body_walker_blocks.proofs.Chains.{left_begins, left_turn, left_stops, left_ends}
use Rattle.body_walker_blocks.proofs.ExpressionSteps.{added_is, multiplied_is, expr_steps, simple_steps, term_steps, factor_walks, set_steps_from, members_is, elem_steps}
use Rattle.body_walker_blocks.proofs.AccessSteps.{indexed_is, item_is, selected_steps, accessed_steps, target_steps, target_other}
use Rattle.body_walker_blocks.proofs.CallSteps.{valued_steps, valued_other, designated_steps, designated_required, designated_wrongly, designated_other, give_steps, reference_steps, reference_reads, given_begins, given_turn, given_stops, given_spare, given_short, given_all, give_is, types_length, type_item, spend_stops, deep_call, next_call, within_steps}
use Rattle.body_walker_blocks.proofs.LoopSteps.{loop_begins, while_turn, while_takes, while_ends, while_test_stops, while_spend_stops, while_body_stops, repeat_turn, repeat_takes, repeat_ends, repeat_spend_stops, repeat_body_stops, repeat_test_stops, count_begins, count_turn, count_takes, count_ends, count_spend_stops, count_set_stops, count_body_stops, count_same, none_comes, TurnsFrom}
use Rattle.body_walker_blocks.proofs.StatementSteps.{stmts_steps, assign_steps, procedure_steps, procedure_other, select_plan, select_steps, count_steps, stmt_steps, if_steps}
use Rattle.body_walker_blocks.proofs.ActionSteps.{output_steps, sent_other, init_no_module, init_no_body, init_walks}
use Rattle.body_walker_blocks.proofs.InitSteps.{Tested, tested, create_refused, body_is_there, create_goes, create_stops, create_unspent, deep_create, next_create, spend_keeps, initialize_some, initialize_none}
use Rattle.body_walker_blocks.proofs.+walk.Goals as goal

pub calls::arguments-loop-i-init : goal.calls::arguments-loop-i-init
calls::arguments-loop-i-init t c = given_begins c.args.scope.now c.args.here.now c.args.parameters.now c.args.exprs.now _ (running c.args.walk.now) cc

pub calls::arguments-returns-then-i-parameters : goal.calls::arguments-returns-then-i-parameters
calls::arguments-returns-then-i-parameters t c = given_spare c.loop-i.invariant c.if-i-parameters.true c.loop-i-test.true

pub calls::arguments-give-requires : goal.calls::arguments-give-requires
calls::arguments-give-requires t c = (omega (arith, c.decreases, item_at of_expr c.args.exprs.now c.loop-i.i c.index-exprs-i.result c.loop-i-test.true c.index-exprs-i.is), tt)

pub calls::arguments-returns-in_err-given : goal.calls::arguments-returns-in_err-given
calls::arguments-returns-in_err-given t c = exits c.from_residual.result c.from_residual.ensures.1 itself (given_stops c.loop-i.invariant c.if-i-parameters.false c.loop-i-test.true c.index-parameters-i.is c.index-exprs-i.is c.in_err-given.ensures)

pub calls::arguments-loop-i-preserved : goal.calls::arguments-loop-i-preserved
calls::arguments-loop-i-preserved t c = given_turn c.loop-i.invariant c.if-i-parameters.false c.loop-i-test.true c.index-parameters-i.is c.index-exprs-i.is c.in_ok-given.ensures

pub calls::arguments-returns-then-exprs-parameters : goal.calls::arguments-returns-then-exprs-parameters
calls::arguments-returns-then-exprs-parameters t c = given_short c.loop-i.invariant c.loop-i-test.false (omega (arith, c.if-exprs-parameters.true, c.loop-i.auto.i-end))

pub calls::arguments-returns : goal.calls::arguments-returns
calls::arguments-returns t c = given_all c.loop-i.invariant c.loop-i-test.false (omega (arith, c.if-exprs-parameters.false, c.loop-i-test.false))

pub calls::call-returns-in_err-spend : goal.calls::call-returns-in_err-spend
calls::call-returns-in_err-spend t c = exits c.from_residual.result c.from_residual.ensures.1 itself (spend_stops c.args.scope.now c.args.here.now c.args.routine.now c.args.given c.in_err-spend.ensures)

pub calls::call-returns-then-here-ge-MAX_DEPTH : goal.calls::call-returns-then-here-ge-MAX_DEPTH
calls::call-returns-then-here-ge-MAX_DEPTH t c = faults (deep_call c.args.scope.now c.args.here.now c.args.routine.now c.args.given c.if-here-ge-MAX_DEPTH.true) (then c.in_ok-spend.ensures refused)

pub calls::call-within-requires : goal.calls::call-within-requires
calls::call-within-requires t c = (omega (arith, c.decreases, call_falls c.args.scope.now c.args.here.now (record { path = c.in_ok-copy.field-0; frame = c.args.here.now.frame + 1; references = c.args.given.references }) c.args.routine.now c.requires c.if-here-ge-MAX_DEPTH.false refl), tt)

pub calls::call-returns : goal.calls::call-returns
calls::call-returns t c = leaves (next_call c.args.scope.now c.args.here.now (record { path = c.in_ok-copy.field-0; frame = c.args.here.now.frame + 1; references = c.args.given.references }) c.args.routine.now c.args.given c.if-here-ge-MAX_DEPTH.false (ap (λ (p : List ℕ). record { path = p; frame = c.args.here.now.frame + 1; references = c.args.given.references }) c.in_ok-copy.ensures)) (then c.in_ok-spend.ensures (last c.within.ensures))

pub calls::designated-invoke-requires : goal.calls::designated-invoke-requires
calls::designated-invoke-requires t c = (omega (arith, c.decreases), (c.args.name.now, (sym c.meaning.ensures ∙ c.in-Called.is)))

pub calls::designated-returns-in_err-value-in-Called : goal.calls::designated-returns-in_err-value-in-Called
calls::designated-returns-in_err-value-in-Called t c = exits c.from_residual.result c.from_residual.ensures.1 (designated_steps c.args.scope.now c.args.here.now c.args.name.now c.args.exprs.now _ (sym c.meaning.ensures ∙ c.in-Called.is)) (stops c.in_err-value-in-Called.ensures)

pub calls::designated-returns-in_ok-value-in-Called : goal.calls::designated-returns-in_ok-value-in-Called
calls::designated-returns-in_ok-value-in-Called t c = leaves (designated_steps c.args.scope.now c.args.here.now c.args.name.now c.args.exprs.now _ (sym c.meaning.ensures ∙ c.in-Called.is)) (then c.in_ok-value-in-Called.ensures (gives c.set_value.ensures))

pub calls::designated-returns-in_default : goal.calls::designated-returns-in_default
calls::designated-returns-in_default t c = breaks (designated_other c.args.scope.now c.args.here.now c.args.name.now c.args.exprs.now _ (sym c.meaning.ensures) c.in_default.not-Called c.in_default.not-RequiredFunction) broken

pub calls::designated-returns-then-exprs-ne1 : goal.calls::designated-returns-then-exprs-ne1
calls::designated-returns-then-exprs-ne1 t c = breaks (designated_wrongly c.args.scope.now c.args.here.now c.args.name.now c.args.exprs.now c.in-RequiredFunction.required (sym c.meaning.ensures ∙ c.in-RequiredFunction.is) c.if-exprs-ne1.true) broken

pub calls::designated-returns-in_err-value-in-RequiredFunction : goal.calls::designated-returns-in_err-value-in-RequiredFunction
calls::designated-returns-in_err-value-in-RequiredFunction t c = exits c.from_residual-in_err-value-in-RequiredFunction.result c.from_residual-in_err-value-in-RequiredFunction.ensures.1 (designated_required c.args.scope.now c.args.here.now c.args.name.now c.args.exprs.now c.in-RequiredFunction.required c.index-exprs-0.result (sym c.meaning.ensures ∙ c.in-RequiredFunction.is) (omega (arith, c.if-exprs-ne1.false)) (omega (arith, c.if-exprs-ne1.false)) c.index-exprs-0.is) (stops c.in_err-value-in-RequiredFunction.ensures)

pub calls::designated-returns-in_ok-value-in-RequiredFunction : goal.calls::designated-returns-in_ok-value-in-RequiredFunction
calls::designated-returns-in_ok-value-in-RequiredFunction t c = leaves (designated_required c.args.scope.now c.args.here.now c.args.name.now c.args.exprs.now c.in-RequiredFunction.required c.index-exprs-0.result (sym c.meaning.ensures ∙ c.in-RequiredFunction.is) (omega (arith, c.if-exprs-ne1.false)) (omega (arith, c.if-exprs-ne1.false)) c.index-exprs-0.is) (then c.in_ok-value-in-RequiredFunction.ensures (gives (subst (λ (k : Host). Gives (required_value c.in-RequiredFunction.required k c.in_ok-value-in-RequiredFunction.value) c.required_value.result) (c.host.ensures c.args.here.now) c.required_value.ensures)))

pub calls::give-accessed-requires : goal.calls::give-accessed-requires
calls::give-accessed-requires t c = (omega (arith, c.decreases, variable_part c.args.actual.now c.in-Some.variable.now (sym c.in-Some.ensures), variable_weighs c.in-Some.variable.now, ap (total of_selector) c.items.ensures), tt)

pub calls::give-returns-in_err-reached-in-Some : goal.calls::give-returns-in_err-reached-in-Some
calls::give-returns-in_err-reached-in-Some t c = exits c.from_residual.result c.from_residual.ensures.1 (reference_reads c.args.scope.now c.args.here.now c.args.passing.now c.args.actual.now c.in-Some.variable.now c.args.given _ _ c.in-ByPlace.is (sym c.in-Some.ensures) c.meaning-meaning.ensures c.items.ensures) (stops c.in_err-reached-in-Some.ensures)

pub calls::give-returns-in-None : goal.calls::give-returns-in-None
calls::give-returns-in-None t c = breaks (reference_steps c.args.scope.now c.args.here.now c.args.passing.now c.args.actual.now None c.args.given c.in-ByPlace.is (sym c.in-None.ensures)) broken

pub calls::give-returns-in_ok-reached-in-Some : goal.calls::give-returns-in_ok-reached-in-Some
calls::give-returns-in_ok-reached-in-Some t c = leaves (reference_reads c.args.scope.now c.args.here.now c.args.passing.now c.args.actual.now c.in-Some.variable.now c.args.given _ _ c.in-ByPlace.is (sym c.in-Some.ensures) c.meaning-meaning.ensures c.items.ensures) (then c.in_ok-reached-in-Some.ensures (gives (subst (λ (l : Located). Gives (with_reference c.args.given l.place) c.with_reference.result) c.reached.view_is c.with_reference.ensures)))

pub calls::give-give_value-requires : goal.calls::give-give_value-requires
calls::give-give_value-requires t c = (omega (arith, c.decreases), tt)

pub calls::give-returns-in-ByValue : goal.calls::give-returns-in-ByValue
calls::give-returns-in-ByValue t c = leaves (give_is c.args.scope.now c.args.here.now c.args.passing.now _ c.args.actual.now c.args.given c.in-ByValue.is) (last c.give_value.ensures)

pub calls::invoke-arguments-requires : goal.calls::invoke-arguments-requires
calls::invoke-arguments-requires t c = (omega (arith, c.decreases), tt)

pub calls::invoke-call-requires : goal.calls::invoke-call-requires
calls::invoke-call-requires t c = (omega (arith, c.decreases), c.requires)

pub calls::valued-invoke-requires : goal.calls::valued-invoke-requires
calls::valued-invoke-requires t c = (omega (arith, c.decreases), (c.args.name.now, (sym c.meaning-meaning.ensures ∙ c.in-Called.is)))

pub calls::valued-returns-in_err-value-in-Called : goal.calls::valued-returns-in_err-value-in-Called
calls::valued-returns-in_err-value-in-Called t c = exits c.from_residual-in_err-value-in-Called.result c.from_residual-in_err-value-in-Called.ensures.1 (valued_steps c.args.scope.now c.args.here.now c.args.name.now c.args.selectors.now _ (sym c.meaning-meaning.ensures ∙ c.in-Called.is)) (stops c.in_err-value-in-Called.ensures)

pub calls::valued-accessed-requires : goal.calls::valued-accessed-requires
calls::valued-accessed-requires t c = (omega (arith, c.decreases), tt)

pub calls::valued-returns-in_err-reached-in_default : goal.calls::valued-returns-in_err-reached-in_default
calls::valued-returns-in_err-reached-in_default t c = exits c.from_residual-in_err-reached-in_default.result c.from_residual-in_err-reached-in_default.ensures.1 (valued_other c.args.scope.now c.args.here.now c.args.name.now c.args.selectors.now _ (sym c.meaning-meaning.ensures) c.in_default.not-Constant c.in_default.not-Called) (stops c.in_err-reached-in_default.ensures)

pub calls::valued-returns-in_ok-value-in-Constant : goal.calls::valued-returns-in_ok-value-in-Constant
calls::valued-returns-in_ok-value-in-Constant t c = ends (valued_steps c.args.scope.now c.args.here.now c.args.name.now c.args.selectors.now _ (sym c.meaning-meaning.ensures ∙ c.in-Constant.is)) (finishes (sym c.in_ok-value-in-Constant.ensures))

pub calls::valued-returns-in_ok-value-in-Called : goal.calls::valued-returns-in_ok-value-in-Called
calls::valued-returns-in_ok-value-in-Called t c = leaves (valued_steps c.args.scope.now c.args.here.now c.args.name.now c.args.selectors.now _ (sym c.meaning-meaning.ensures ∙ c.in-Called.is)) (then c.in_ok-value-in-Called.ensures (gives c.set_value.ensures))

pub calls::valued-returns-in_ok-reached-in_default : goal.calls::valued-returns-in_ok-reached-in_default
calls::valued-returns-in_ok-reached-in_default t c = leaves (valued_other c.args.scope.now c.args.here.now c.args.name.now c.args.selectors.now _ (sym c.meaning-meaning.ensures) c.in_default.not-Constant c.in_default.not-Called) (then c.in_ok-reached-in_default.ensures (last (subst (λ (l : Located). Follows (load Logged on_log l.place) c.accessed.new.walk c.load.result c.accessed.new.walk) c.reached.view_is c.load.ensures)))

pub calls::within-stmts-requires : goal.calls::within-stmts-requires
calls::within-stmts-requires t c = (omega (arith, c.decreases, ap of_stmts c.get.ensures), tt)

pub calls::within-returns-in_err-stmts : goal.calls::within-returns-in_err-stmts
calls::within-returns-in_err-stmts t c = exits c.from_residual-in_err-stmts.result c.from_residual-in_err-stmts.ensures.1 (within_steps c.args.scope.now c.args.here.now c.args.routine.now c.args.values) (then c.in_ok-enter.ensures (stops (subst (λ (x : Stmts). Follows (walked.stmts c.args.scope.now c.args.here.now x) c.enter.new.self (Err c.in_err-stmts.field-0.0) c.stmts.new.walk) c.get.ensures c.in_err-stmts.ensures)))

pub calls::within-returns : goal.calls::within-returns
calls::within-returns t c = leaves (within_steps c.args.scope.now c.args.here.now c.args.routine.now c.args.values) (then c.in_ok-enter.ensures (then (subst (λ (x : Stmts). walked.stmts c.args.scope.now c.args.here.now x (running c.enter.new.self) ≡ Ok (tt, running c.stmts.new.walk)) c.get.ensures c.in_ok-stmts.ensures) (last c.leave.ensures)))

pub calls::give_value-expr-requires : goal.calls::give_value-expr-requires
calls::give_value-expr-requires t c = (omega (arith, c.decreases), tt)

pub calls::give_value-returns : goal.calls::give_value-returns
calls::give_value-returns t c = leaves (give_steps c.args.scope.now c.args.here.now (ByValue c.args.denoter.now) _ c.args.actual.now c.args.given refl) (then c.in_ok-value.ensures (with c.in_ok-value-2.ensures (gives c.with_value.ensures)))

pub calls::value_arguments-loop-i-init : goal.calls::value_arguments-loop-i-init
calls::value_arguments-loop-i-init t c = given_begins c.args.scope.now c.args.here.now (map (λ d. ByValue d) c.args.types.now) c.args.exprs.now _ (running c.args.walk.now) cc

pub calls::value_arguments-returns-then-i-types : goal.calls::value_arguments-returns-then-i-types
calls::value_arguments-returns-then-i-types t c = given_spare c.loop-i.invariant (omega (arith, c.if-i-types.true, types_length c.args.types.now)) c.loop-i-test.true

pub calls::value_arguments-give_value-requires : goal.calls::value_arguments-give_value-requires
calls::value_arguments-give_value-requires t c = (omega (arith, c.decreases, item_at of_expr c.args.exprs.now c.loop-i.i c.index-exprs-i.result c.loop-i-test.true c.index-exprs-i.is), tt)

pub calls::value_arguments-returns-in_err-given : goal.calls::value_arguments-returns-in_err-given
calls::value_arguments-returns-in_err-given t c = exits c.from_residual.result c.from_residual.ensures.1 itself (given_stops c.loop-i.invariant (omega (arith, c.if-i-types.false, types_length c.args.types.now)) c.loop-i-test.true (type_item c.args.types.now c.loop-i.i c.index-types-i.result c.if-i-types.false c.index-types-i.is) c.index-exprs-i.is c.in_err-given.ensures)

pub calls::value_arguments-loop-i-preserved : goal.calls::value_arguments-loop-i-preserved
calls::value_arguments-loop-i-preserved t c = given_turn c.loop-i.invariant (omega (arith, c.if-i-types.false, types_length c.args.types.now)) c.loop-i-test.true (type_item c.args.types.now c.loop-i.i c.index-types-i.result c.if-i-types.false c.index-types-i.is) c.index-exprs-i.is c.in_ok-given.ensures

pub calls::value_arguments-returns-then-exprs-types : goal.calls::value_arguments-returns-then-exprs-types
calls::value_arguments-returns-then-exprs-types t c = given_short c.loop-i.invariant c.loop-i-test.false (omega (arith, c.if-exprs-types.true, c.loop-i.auto.i-end, types_length c.args.types.now))

pub calls::value_arguments-returns : goal.calls::value_arguments-returns
calls::value_arguments-returns t c = given_all c.loop-i.invariant c.loop-i-test.false (omega (arith, c.if-exprs-types.false, c.loop-i-test.false, types_length c.args.types.now))

pub expressions::added-returns-in_err-decides_sum : goal.expressions::added-returns-in_err-decides_sum
expressions::added-returns-in_err-decides_sum t c = exits c.from_residual.result c.from_residual.ensures.1 (added_is c.args.operator c.args.left (walked.term c.args.scope.now c.args.here.now c.args.node.now).value) (without c.in_err-decides_sum.ensures)

pub expressions::added-returns-then-branch : goal.expressions::added-returns-then-branch
expressions::added-returns-then-branch t c = ends (added_is c.args.operator c.args.left (walked.term c.args.scope.now c.args.here.now c.args.node.now).value) (with (c.in_ok-decides_sum.ensures ∙ ap (λ (b : Bool). Ok b) c.if-branch.true) finished)

pub expressions::added-term-requires : goal.expressions::added-term-requires
expressions::added-term-requires t c = (omega (arith, c.decreases), tt)

pub expressions::added-returns-in_err-right : goal.expressions::added-returns-in_err-right
expressions::added-returns-in_err-right t c = exits c.from_residual-in_err-right.result c.from_residual-in_err-right.ensures.1 (added_is c.args.operator c.args.left (walked.term c.args.scope.now c.args.here.now c.args.node.now).value) (with (c.in_ok-decides_sum.ensures ∙ ap (λ (b : Bool). Ok b) c.if-branch.false) (stops c.in_err-right.ensures))

pub expressions::added-returns : goal.expressions::added-returns
expressions::added-returns t c = leaves (added_is c.args.operator c.args.left (walked.term c.args.scope.now c.args.here.now c.args.node.now).value) (with (c.in_ok-decides_sum.ensures ∙ ap (λ (b : Bool). Ok b) c.if-branch.false) (then c.in_ok-right.ensures (gives c.sum.ensures)))

pub expressions::condition-expr-requires : goal.expressions::condition-expr-requires
expressions::condition-expr-requires t c = (omega (arith, c.decreases), tt)

pub expressions::expr-simple-requires : goal.expressions::expr-simple-requires
expressions::expr-simple-requires t c = (omega (arith, c.decreases, expr_weighs c.args.node.now), tt)

pub expressions::expr-returns-in_err-left : goal.expressions::expr-returns-in_err-left
expressions::expr-returns-in_err-left t c = exits c.from_residual.result c.from_residual.ensures.1 (expr_steps c.args.scope.now c.args.here.now c.args.node.now _ refl) (stops c.in_err-left.ensures)

pub expressions::expr-simple-requires-in-Some : goal.expressions::expr-simple-requires-in-Some
expressions::expr-simple-requires-in-Some t c = (omega (arith, c.decreases, expr_weighs c.args.node.now, ap (part of_right) c.in-Some.is), tt)

pub expressions::expr-returns-in_err-right-in-Some : goal.expressions::expr-returns-in_err-right-in-Some
expressions::expr-returns-in_err-right-in-Some t c = exits c.from_residual-in_err-right-in-Some.result c.from_residual-in_err-right-in-Some.ensures.1 (expr_steps c.args.scope.now c.args.here.now c.args.node.now _ c.in-Some.is) (then c.in_ok-left.ensures (stops c.in_err-right-in-Some.ensures))

pub expressions::expr-returns-in-None : goal.expressions::expr-returns-in-None
expressions::expr-returns-in-None t c = ends (expr_steps c.args.scope.now c.args.here.now c.args.node.now _ c.in-None.is) (then c.in_ok-left.ensures finished)

pub expressions::expr-returns-in_ok-right-in-Some : goal.expressions::expr-returns-in_ok-right-in-Some
expressions::expr-returns-in_ok-right-in-Some t c = leaves (expr_steps c.args.scope.now c.args.here.now c.args.node.now _ c.in-Some.is) (then c.in_ok-left.ensures (then c.in_ok-right-in-Some.ensures (gives c.related.ensures)))

pub expressions::factor-valued-requires : goal.expressions::factor-valued-requires
expressions::factor-valued-requires t c = (omega (arith, c.decreases, factor_is c.args.node.now _ (ap out-Factor c.in-Variable.is ∙ factor.outs-Variable _), variable_weighs c.in-Variable.variable, ap (total of_selector) c.items.ensures), tt)

pub expressions::factor-designated-requires : goal.expressions::factor-designated-requires
expressions::factor-designated-requires t c = (omega (arith, c.decreases, factor_is c.args.node.now _ (ap out-Factor c.in-Call.is ∙ factor.outs-Call _ _ _), args_weigh c.in-Call.args, ap (total of_expr) c.items-in-Call.ensures), tt)

pub expressions::factor-expr-requires : goal.expressions::factor-expr-requires
expressions::factor-expr-requires t c = (omega (arith, c.decreases, factor_is c.args.node.now _ (ap out-Factor c.in-Paren.is ∙ factor.outs-Paren _ _), ap of_expr c.get.ensures), tt)

pub expressions::factor-factor-requires : goal.expressions::factor-factor-requires
expressions::factor-factor-requires t c = (omega (arith, c.decreases, factor_is c.args.node.now _ (ap out-Factor c.in-Not.is ∙ factor.outs-Not _ _), ap of_factor c.get-in-Not.ensures), tt)

pub expressions::factor-returns-in_err-operand-in-Not : goal.expressions::factor-returns-in_err-operand-in-Not
expressions::factor-returns-in_err-operand-in-Not t c = exits c.from_residual.result c.from_residual.ensures.1 (factor_walks c.args.scope.now c.args.here.now c.args.node.now _ (ap out-Factor c.in-Not.is ∙ factor.outs-Not _ _)) (stops (subst (λ (f : Factor). Follows (walked.factor c.args.scope.now c.args.here.now f).value c.args.walk.now (Err c.in_err-operand-in-Not.field-0.0) c.factor.new.walk) c.get-in-Not.ensures c.in_err-operand-in-Not.ensures))

pub expressions::factor-set_of-requires : goal.expressions::factor-set_of-requires
expressions::factor-set_of-requires t c = (omega (arith, c.decreases, factor_is c.args.node.now _ (ap out-Factor c.in-Set.is ∙ factor.outs-Set _ _), ap (total of_elem) c.items-in-Set.ensures), tt)

pub expressions::factor-returns-in-Number : goal.expressions::factor-returns-in-Number
expressions::factor-returns-in-Number t c = ends (factor_walks c.args.scope.now c.args.here.now c.args.node.now _ (ap out-Factor c.in-Number.is ∙ factor.outs-Number _ _)) (finishes (ap (λ (n : ℤ). pascal.Int n) (sym (to_z-of_z w64 c.in-Number.value (search rules)))))

pub expressions::factor-returns-in-Char : goal.expressions::factor-returns-in-Char
expressions::factor-returns-in-Char t c = ends (factor_walks c.args.scope.now c.args.here.now c.args.node.now _ (ap out-Factor c.in-Char.is ∙ factor.outs-Char _ _)) finished

pub expressions::factor-returns-in-Variable : goal.expressions::factor-returns-in-Variable
expressions::factor-returns-in-Variable t c = leaves (factor_walks c.args.scope.now c.args.here.now c.args.node.now _ (ap out-Factor c.in-Variable.is ∙ factor.outs-Variable _)) (last (subst (λ (ss : List Selector). Follows (walked.valued c.args.scope.now c.args.here.now c.in-Variable.variable.name ss).value c.args.walk.now c.valued.result c.valued.new.walk) c.items.ensures c.valued.ensures))

pub expressions::factor-returns-in-Call : goal.expressions::factor-returns-in-Call
expressions::factor-returns-in-Call t c = leaves (factor_walks c.args.scope.now c.args.here.now c.args.node.now _ (ap out-Factor c.in-Call.is ∙ factor.outs-Call _ _ _)) (last (subst (λ (es : List Expr). Follows (walked.designated c.args.scope.now c.args.here.now c.in-Call.name es).value c.args.walk.now c.designated.result c.designated.new.walk) c.items-in-Call.ensures c.designated.ensures))

pub expressions::factor-returns-in-Paren : goal.expressions::factor-returns-in-Paren
expressions::factor-returns-in-Paren t c = leaves (factor_walks c.args.scope.now c.args.here.now c.args.node.now _ (ap out-Factor c.in-Paren.is ∙ factor.outs-Paren _ _)) (last (subst (λ (e : Expr). Follows (walked.expr c.args.scope.now c.args.here.now e).value c.args.walk.now c.expr.result c.expr.new.walk) c.get.ensures c.expr.ensures))

pub expressions::factor-returns-in_ok-operand-in-Not : goal.expressions::factor-returns-in_ok-operand-in-Not
expressions::factor-returns-in_ok-operand-in-Not t c = leaves (factor_walks c.args.scope.now c.args.here.now c.args.node.now _ (ap out-Factor c.in-Not.is ∙ factor.outs-Not _ _)) (then (subst (λ (f : Factor). (walked.factor c.args.scope.now c.args.here.now f).value (running c.args.walk.now) ≡ Ok (c.in_ok-operand-in-Not.operand, running c.factor.new.walk)) c.get-in-Not.ensures c.in_ok-operand-in-Not.ensures) (gives c.negation.ensures))

pub expressions::factor-returns-in-Set : goal.expressions::factor-returns-in-Set
expressions::factor-returns-in-Set t c = leaves (factor_walks c.args.scope.now c.args.here.now c.args.node.now _ (ap out-Factor c.in-Set.is ∙ factor.outs-Set _ _)) (last (subst (λ (es : List Elem). Follows (walked.set_of c.args.scope.now c.args.here.now es) c.args.walk.now c.set_of.result c.set_of.new.walk) c.items-in-Set.ensures c.set_of.ensures))

pub expressions::members-ordinal-requires : goal.expressions::members-ordinal-requires
expressions::members-ordinal-requires t c = (omega (arith, c.decreases, elem_weighs c.args.node.now), tt)

pub expressions::members-returns-in_err-first : goal.expressions::members-returns-in_err-first
expressions::members-returns-in_err-first t c = exits c.from_residual.result c.from_residual.ensures.1 (elem_steps c.args.scope.now c.args.here.now c.args.node.now _ refl) (stops c.in_err-first.ensures)

pub expressions::members-ordinal-requires-in-Some : goal.expressions::members-ordinal-requires-in-Some
expressions::members-ordinal-requires-in-Some t c = (omega (arith, c.decreases, elem_weighs c.args.node.now, ap (part of_expr) c.in-Some.is), tt)

pub expressions::members-returns-in_err-last-in-Some : goal.expressions::members-returns-in_err-last-in-Some
expressions::members-returns-in_err-last-in-Some t c = exits c.from_residual-in_err-last-in-Some.result c.from_residual-in_err-last-in-Some.ensures.1 (elem_steps c.args.scope.now c.args.here.now c.args.node.now _ c.in-Some.is) (then c.in_ok-first.ensures (stops c.in_err-last-in-Some.ensures))

pub expressions::members-returns-in-None : goal.expressions::members-returns-in-None
expressions::members-returns-in-None t c = leaves (elem_steps c.args.scope.now c.args.here.now c.args.node.now _ c.in-None.is) (then c.in_ok-first.ensures (gives (subst (λ (n : ℤ). Gives (one_member n) c.one_member.result) (to_z-of_z w64 c.in_ok-first.first (search rules)) c.one_member.ensures)))

pub expressions::members-returns-in_ok-last-in-Some : goal.expressions::members-returns-in_ok-last-in-Some
expressions::members-returns-in_ok-last-in-Some t c = leaves (elem_steps c.args.scope.now c.args.here.now c.args.node.now _ c.in-Some.is) (then c.in_ok-first.ensures (then c.in_ok-last-in-Some.ensures (gives (subst (λ (n : ℤ). Gives (members_from c.in_ok-first.first n) c.members_from.result) (to_z-of_z w64 c.in_ok-last-in-Some.last (search rules)) (subst (λ (n : ℤ). Gives (members_from n (to_z w64 (of_z w64 c.in_ok-last-in-Some.last))) c.members_from.result) (to_z-of_z w64 c.in_ok-first.first (search rules)) c.members_from.ensures)))))

pub expressions::multiplied-returns-in_err-decides_product : goal.expressions::multiplied-returns-in_err-decides_product
expressions::multiplied-returns-in_err-decides_product t c = exits c.from_residual.result c.from_residual.ensures.1 (multiplied_is c.args.operator c.args.left (walked.factor c.args.scope.now c.args.here.now c.args.node.now).value) (without c.in_err-decides_product.ensures)

pub expressions::multiplied-returns-then-branch : goal.expressions::multiplied-returns-then-branch
expressions::multiplied-returns-then-branch t c = ends (multiplied_is c.args.operator c.args.left (walked.factor c.args.scope.now c.args.here.now c.args.node.now).value) (with (c.in_ok-decides_product.ensures ∙ ap (λ (b : Bool). Ok b) c.if-branch.true) finished)

pub expressions::multiplied-factor-requires : goal.expressions::multiplied-factor-requires
expressions::multiplied-factor-requires t c = (omega (arith, c.decreases), tt)

pub expressions::multiplied-returns-in_err-right : goal.expressions::multiplied-returns-in_err-right
expressions::multiplied-returns-in_err-right t c = exits c.from_residual-in_err-right.result c.from_residual-in_err-right.ensures.1 (multiplied_is c.args.operator c.args.left (walked.factor c.args.scope.now c.args.here.now c.args.node.now).value) (with (c.in_ok-decides_product.ensures ∙ ap (λ (b : Bool). Ok b) c.if-branch.false) (stops c.in_err-right.ensures))

pub expressions::multiplied-returns : goal.expressions::multiplied-returns
expressions::multiplied-returns t c = leaves (multiplied_is c.args.operator c.args.left (walked.factor c.args.scope.now c.args.here.now c.args.node.now).value) (with (c.in_ok-decides_product.ensures ∙ ap (λ (b : Bool). Ok b) c.if-branch.false) (then c.in_ok-right.ensures (gives c.product.ensures)))

pub expressions::ordinal-expr-requires : goal.expressions::ordinal-expr-requires
expressions::ordinal-expr-requires t c = (omega (arith, c.decreases), tt)

pub expressions::bound-expr-requires : goal.expressions::bound-expr-requires
expressions::bound-expr-requires t c = (omega (arith, c.decreases), tt)

pub expressions::selector_ordinal-expr-requires : goal.expressions::selector_ordinal-expr-requires
expressions::selector_ordinal-expr-requires t c = (omega (arith, c.decreases), tt)

pub expressions::set_of-loop-elem-init : goal.expressions::set_of-loop-elem-init
expressions::set_of-loop-elem-init t c = left_begins

pub expressions::set_of-members-requires : goal.expressions::set_of-members-requires
expressions::set_of-members-requires t c = (omega (arith, c.decreases, item_at of_elem c.args.elems.now c.loop-elem.elem-index c.elem-item.result c.loop-elem-test.true c.elem-item.is), tt)

pub expressions::set_of-returns-in_err-more : goal.expressions::set_of-returns-in_err-more
expressions::set_of-returns-in_err-more t c = exits c.from_residual.result c.from_residual.ensures.1 (set_steps_from c.args.scope.now c.args.here.now c.args.elems.now _ c.none-made.ensures) (stops (left_stops c.loop-elem.invariant c.loop-elem-test.true c.elem-item.is refl (leaves (members_is c.args.scope.now c.args.here.now c.loop-elem.made c.elem-item.result) (stops c.in_err-more.ensures))).follows)

pub expressions::set_of-loop-elem-preserved : goal.expressions::set_of-loop-elem-preserved
expressions::set_of-loop-elem-preserved t c = left_turn c.loop-elem.invariant c.loop-elem-test.true c.elem-item.is (ends (members_is c.args.scope.now c.args.here.now c.loop-elem.made c.elem-item.result) (then c.in_ok-more.ensures (given c.in_ok-made.ensures)))

pub expressions::set_of-returns : goal.expressions::set_of-returns
expressions::set_of-returns t c = ends (set_steps_from c.args.scope.now c.args.here.now c.args.elems.now _ c.none-made.ensures) (then (left_ends c.loop-elem.invariant c.loop-elem-test.false refl).follows finished)

pub expressions::simple-term-requires : goal.expressions::simple-term-requires
expressions::simple-term-requires t c = (omega (arith, c.decreases, simple_weighs c.args.node.now), tt)

pub expressions::simple-returns-in_err-first : goal.expressions::simple-returns-in_err-first
expressions::simple-returns-in_err-first t c = exits c.from_residual.result c.from_residual.ensures.1 (simple_steps c.args.scope.now c.args.here.now c.args.node.now) (stops c.in_err-first.ensures)

pub expressions::simple-returns-in_err-value : goal.expressions::simple-returns-in_err-value
expressions::simple-returns-in_err-value t c = exits c.from_residual-in_err-value.result c.from_residual-in_err-value.ensures.1 (simple_steps c.args.scope.now c.args.here.now c.args.node.now) (then c.in_ok-first.ensures (without c.in_err-value.ensures))

pub expressions::simple-loop-other-init : goal.expressions::simple-loop-other-init
expressions::simple-loop-other-init t c = left_begins

pub expressions::simple-added-requires : goal.expressions::simple-added-requires
expressions::simple-added-requires t c = (omega (arith, c.decreases, simple_weighs c.args.node.now, item_at of_other_term c.items-other-items.result.now c.loop-other.other-index c.other-item.result c.loop-other-test.true c.other-item.is, ap (total of_other_term) c.items-other-items.ensures), tt)

pub expressions::simple-returns-in_err-value-2 : goal.expressions::simple-returns-in_err-value-2
expressions::simple-returns-in_err-value-2 t c = exits c.from_residual-in_err-value-2.result c.from_residual-in_err-value-2.ensures.1 (simple_steps c.args.scope.now c.args.here.now c.args.node.now) (then c.in_ok-first.ensures (with c.in_ok-value.ensures (left_stops c.loop-other.invariant c.loop-other-test.true c.other-item.is c.items-other-items.ensures c.in_err-value-2.ensures)))

pub expressions::simple-loop-other-preserved : goal.expressions::simple-loop-other-preserved
expressions::simple-loop-other-preserved t c = left_turn c.loop-other.invariant c.loop-other-test.true c.other-item.is c.in_ok-value-2.ensures

pub expressions::simple-returns : goal.expressions::simple-returns
expressions::simple-returns t c = ends (simple_steps c.args.scope.now c.args.here.now c.args.node.now) (then c.in_ok-first.ensures (with c.in_ok-value.ensures (left_ends c.loop-other.invariant c.loop-other-test.false c.items-other-items.ensures)))

pub expressions::term-factor-requires : goal.expressions::term-factor-requires
expressions::term-factor-requires t c = (omega (arith, c.decreases, term_weighs c.args.node.now), tt)

pub expressions::term-returns-in_err-value : goal.expressions::term-returns-in_err-value
expressions::term-returns-in_err-value t c = exits c.from_residual.result c.from_residual.ensures.1 (term_steps c.args.scope.now c.args.here.now c.args.node.now) (stops c.in_err-value.ensures)

pub expressions::term-loop-other-init : goal.expressions::term-loop-other-init
expressions::term-loop-other-init t c = left_begins

pub expressions::term-multiplied-requires : goal.expressions::term-multiplied-requires
expressions::term-multiplied-requires t c = (omega (arith, c.decreases, term_weighs c.args.node.now, item_at of_other_factor c.items-other-items.result.now c.loop-other.other-index c.other-item.result c.loop-other-test.true c.other-item.is, ap (total of_other_factor) c.items-other-items.ensures), tt)

pub expressions::term-returns-in_err-value-2 : goal.expressions::term-returns-in_err-value-2
expressions::term-returns-in_err-value-2 t c = exits c.from_residual-in_err-value-2.result c.from_residual-in_err-value-2.ensures.1 (term_steps c.args.scope.now c.args.here.now c.args.node.now) (then c.in_ok-value.ensures (left_stops c.loop-other.invariant c.loop-other-test.true c.other-item.is c.items-other-items.ensures c.in_err-value-2.ensures))

pub expressions::term-loop-other-preserved : goal.expressions::term-loop-other-preserved
expressions::term-loop-other-preserved t c = left_turn c.loop-other.invariant c.loop-other-test.true c.other-item.is c.in_ok-value-2.ensures

pub expressions::term-returns : goal.expressions::term-returns
expressions::term-returns t c = ends (term_steps c.args.scope.now c.args.here.now c.args.node.now) (then c.in_ok-value.ensures (left_ends c.loop-other.invariant c.loop-other-test.false c.items-other-items.ensures))

pub loops::count-returns-then-not-is_variable : goal.loops::count-returns-then-not-is_variable
loops::count-returns-then-not-is_variable t c = breaks (count_steps c.args.scope.now c.args.here.now c.args.variable.now c.args.first.now c.args.direction c.args.last.now c.args.body.now (variable_host (meanings c.args.scope.now c.args.variable.now)) _ refl (ap is_variable (sym c.meaning-meaning.ensures) ∙ sym c.if-not-is_variable.ensures)) broken

pub loops::count-bound-requires : goal.loops::count-bound-requires
loops::count-bound-requires t c = (omega (arith, c.decreases), tt)

pub loops::count-returns-in_err-first : goal.loops::count-returns-in_err-first
loops::count-returns-in_err-first t c = exits c.from_residual.result c.from_residual.ensures.1 (count_steps c.args.scope.now c.args.here.now c.args.variable.now c.args.first.now c.args.direction c.args.last.now c.args.body.now c.variable_host-host.result _ (c.variable_host-host.ensures ∙ ap variable_host c.meaning-meaning.ensures) (ap is_variable (sym c.meaning-meaning.ensures) ∙ sym c.if-not-is_variable.ensures)) (stops c.in_err-first.ensures)

pub loops::count-bound-requires-2 : goal.loops::count-bound-requires-2
loops::count-bound-requires-2 t c = (omega (arith, c.decreases), tt)

pub loops::count-returns-in_err-last : goal.loops::count-returns-in_err-last
loops::count-returns-in_err-last t c = exits c.from_residual-in_err-last.result c.from_residual-in_err-last.ensures.1 (count_steps c.args.scope.now c.args.here.now c.args.variable.now c.args.first.now c.args.direction c.args.last.now c.args.body.now c.variable_host-host.result _ (c.variable_host-host.ensures ∙ ap variable_host c.meaning-meaning.ensures) (ap is_variable (sym c.meaning-meaning.ensures) ∙ sym c.if-not-is_variable.ensures)) (then c.in_ok-first.ensures (stops c.in_err-last.ensures))

pub loops::count-accessed-requires : goal.loops::count-accessed-requires
loops::count-accessed-requires t c = (omega (arith, c.decreases), tt)

pub loops::count-returns-in_err-to : goal.loops::count-returns-in_err-to
loops::count-returns-in_err-to t c = exits c.from_residual-in_err-to.result c.from_residual-in_err-to.ensures.1 (count_steps c.args.scope.now c.args.here.now c.args.variable.now c.args.first.now c.args.direction c.args.last.now c.args.body.now c.variable_host-host.result _ (c.variable_host-host.ensures ∙ ap variable_host c.meaning-meaning.ensures) (ap is_variable (sym c.meaning-meaning.ensures) ∙ sym c.if-not-is_variable.ensures)) (then c.in_ok-first.ensures (then c.in_ok-last.ensures (stops (subst (λ (m : Meaning). Follows (walked.accessed c.args.scope.now c.args.here.now m []) c.bound-2.new.walk (Err c.in_err-to.field-0.0) c.accessed.new.walk) c.meaning-meaning.ensures c.in_err-to.ensures))))

pub loops::count-count_loop-requires : goal.loops::count-count_loop-requires
loops::count-count_loop-requires t c = (omega (arith, c.decreases), tt)

pub loops::count-returns : goal.loops::count-returns
loops::count-returns t c = leaves (count_steps c.args.scope.now c.args.here.now c.args.variable.now c.args.first.now c.args.direction c.args.last.now c.args.body.now c.variable_host-host.result _ (c.variable_host-host.ensures ∙ ap variable_host c.meaning-meaning.ensures) (ap is_variable (sym c.meaning-meaning.ensures) ∙ sym c.if-not-is_variable.ensures)) (then c.in_ok-first.ensures (then c.in_ok-last.ensures (then (subst (λ (m : Meaning). walked.accessed c.args.scope.now c.args.here.now m [] (running c.bound-2.new.walk) ≡ Ok (c.in_ok-to.to, running c.accessed.new.walk)) c.meaning-meaning.ensures c.in_ok-to.ensures) (last (subst (λ (l : Located). Follows (walked.count_loop c.args.scope.now c.args.here.now l.denoter l.place c.in_ok-first.first c.args.direction c.in_ok-last.last c.args.body.now) c.accessed.new.walk c.count_loop.result c.count_loop.new.walk) c.to.view_is (subst (λ (n : ℤ). Follows (walked.count_loop c.args.scope.now c.args.here.now c.to.inside.denoter.now c.to.inside.place c.in_ok-first.first c.args.direction n c.args.body.now) c.accessed.new.walk c.count_loop.result c.count_loop.new.walk) (to_z-of_z w64 c.in_ok-last.last (search rules)) (subst (λ (n : ℤ). Follows (walked.count_loop c.args.scope.now c.args.here.now c.to.inside.denoter.now c.to.inside.place n c.args.direction (to_z w64 (of_z w64 c.in_ok-last.last)) c.args.body.now) c.accessed.new.walk c.count_loop.result c.count_loop.new.walk) (to_z-of_z w64 c.in_ok-first.first (search rules)) c.count_loop.ensures)))))))

pub loops::count_loop-loop-coming-init : goal.loops::count_loop-loop-coming-init
loops::count_loop-loop-coming-init t c = subst (λ (o : Option ℤ). TurnsFrom c.args.scope.now c.args.here.now c.args.denoter.now c.args.place.now (to_z w64 (of_z w64 c.args.first)) c.args.direction (to_z w64 (of_z w64 c.args.last)) c.args.body.now o (running c.args.walk.now) (running c.args.walk.now)) (sym c.beginning-coming.ensures) (count_begins c.args.scope.now c.args.here.now c.args.denoter.now c.args.place.now (to_z w64 (of_z w64 c.args.first)) c.args.direction (to_z w64 (of_z w64 c.args.last)) c.args.body.now)

pub loops::count_loop-returns-in_err-spend : goal.loops::count_loop-returns-in_err-spend
loops::count_loop-returns-in_err-spend t c = exits c.from_residual.result c.from_residual.ensures.1 (count_same c.args.scope.now c.args.here.now c.args.denoter.now c.args.place.now c.args.first (to_z w64 (of_z w64 c.args.first)) c.args.direction c.args.last (to_z w64 (of_z w64 c.args.last)) c.args.body.now (to_z-of_z w64 c.args.first (search rules)) (to_z-of_z w64 c.args.last (search rules))) (count_spend_stops c.args.scope.now c.args.here.now c.args.denoter.now c.args.place.now (to_z w64 (of_z w64 c.args.first)) c.args.direction (to_z w64 (of_z w64 c.args.last)) c.args.body.now (subst (λ (o : Option ℤ). TurnsFrom c.args.scope.now c.args.here.now c.args.denoter.now c.args.place.now (to_z w64 (of_z w64 c.args.first)) c.args.direction (to_z w64 (of_z w64 c.args.last)) c.args.body.now o (running c.loop-coming.walk) (running c.args.walk.now)) c.in-Some.is c.loop-coming.invariant) c.in_err-spend.ensures)

pub loops::count_loop-returns-in_err-store_ordinal : goal.loops::count_loop-returns-in_err-store_ordinal
loops::count_loop-returns-in_err-store_ordinal t c = exits c.from_residual-in_err-store_ordinal.result c.from_residual-in_err-store_ordinal.ensures.1 (count_same c.args.scope.now c.args.here.now c.args.denoter.now c.args.place.now c.args.first (to_z w64 (of_z w64 c.args.first)) c.args.direction c.args.last (to_z w64 (of_z w64 c.args.last)) c.args.body.now (to_z-of_z w64 c.args.first (search rules)) (to_z-of_z w64 c.args.last (search rules))) (count_set_stops c.args.scope.now c.args.here.now c.args.denoter.now c.args.place.now (to_z w64 (of_z w64 c.args.first)) c.args.direction (to_z w64 (of_z w64 c.args.last)) c.args.body.now (subst (λ (o : Option ℤ). TurnsFrom c.args.scope.now c.args.here.now c.args.denoter.now c.args.place.now (to_z w64 (of_z w64 c.args.first)) c.args.direction (to_z w64 (of_z w64 c.args.last)) c.args.body.now o (running c.loop-coming.walk) (running c.args.walk.now)) c.in-Some.is c.loop-coming.invariant) c.in_ok-spend.ensures (subst (λ (n : ℤ). Follows (store_ordinal Logged on_log c.args.denoter.now c.args.place.now n) c.spend.new.self (Err c.in_err-store_ordinal.field-0.0) c.store_ordinal.new.self) (to_z-of_z w64 c.in-Some.number (search rules)) c.in_err-store_ordinal.ensures))

pub loops::count_loop-stmt-requires : goal.loops::count_loop-stmt-requires
loops::count_loop-stmt-requires t c = (omega (arith, c.decreases), tt)

pub loops::count_loop-returns-in_err-stmt : goal.loops::count_loop-returns-in_err-stmt
loops::count_loop-returns-in_err-stmt t c = exits c.from_residual-in_err-stmt.result c.from_residual-in_err-stmt.ensures.1 (count_same c.args.scope.now c.args.here.now c.args.denoter.now c.args.place.now c.args.first (to_z w64 (of_z w64 c.args.first)) c.args.direction c.args.last (to_z w64 (of_z w64 c.args.last)) c.args.body.now (to_z-of_z w64 c.args.first (search rules)) (to_z-of_z w64 c.args.last (search rules))) (count_body_stops c.args.scope.now c.args.here.now c.args.denoter.now c.args.place.now (to_z w64 (of_z w64 c.args.first)) c.args.direction (to_z w64 (of_z w64 c.args.last)) c.args.body.now (subst (λ (o : Option ℤ). TurnsFrom c.args.scope.now c.args.here.now c.args.denoter.now c.args.place.now (to_z w64 (of_z w64 c.args.first)) c.args.direction (to_z w64 (of_z w64 c.args.last)) c.args.body.now o (running c.loop-coming.walk) (running c.args.walk.now)) c.in-Some.is c.loop-coming.invariant) c.in_ok-spend.ensures (subst (λ (n : ℤ). store_ordinal Logged on_log c.args.denoter.now c.args.place.now n (running c.spend.new.self) ≡ Ok (tt, running c.store_ordinal.new.self)) (to_z-of_z w64 c.in-Some.number (search rules)) c.in_ok-store_ordinal.ensures) c.in_err-stmt.ensures)

pub loops::count_loop-loop-coming-smaller : goal.loops::count_loop-loop-coming-smaller
loops::count_loop-loop-coming-smaller t c = count_takes c.args.scope.now c.args.here.now c.args.denoter.now c.args.place.now (to_z w64 (of_z w64 c.args.first)) c.args.direction (to_z w64 (of_z w64 c.args.last)) c.args.body.now (subst (λ (o : Option ℤ). TurnsFrom c.args.scope.now c.args.here.now c.args.denoter.now c.args.place.now (to_z w64 (of_z w64 c.args.first)) c.args.direction (to_z w64 (of_z w64 c.args.last)) c.args.body.now o (running c.loop-coming.walk) (running c.args.walk.now)) c.in-Some.is c.loop-coming.invariant) c.in_ok-spend.ensures (subst (λ (n : ℤ). store_ordinal Logged on_log c.args.denoter.now c.args.place.now n (running c.spend.new.self) ≡ Ok (tt, running c.store_ordinal.new.self)) (to_z-of_z w64 c.in-Some.number (search rules)) c.in_ok-store_ordinal.ensures) c.in_ok-stmt.ensures

pub loops::count_loop-loop-coming-preserved : goal.loops::count_loop-loop-coming-preserved
loops::count_loop-loop-coming-preserved t c = subst (λ (o : Option ℤ). TurnsFrom c.args.scope.now c.args.here.now c.args.denoter.now c.args.place.now (to_z w64 (of_z w64 c.args.first)) c.args.direction (to_z w64 (of_z w64 c.args.last)) c.args.body.now o (running c.stmt.new.walk) (running c.args.walk.now)) (sym (c.following-coming.ensures ∙ ap (λ (n : ℤ). following c.args.direction n (to_z w64 (of_z w64 c.args.last))) (to_z-of_z w64 c.in-Some.number (search rules)))) (count_turn c.args.scope.now c.args.here.now c.args.denoter.now c.args.place.now (to_z w64 (of_z w64 c.args.first)) c.args.direction (to_z w64 (of_z w64 c.args.last)) c.args.body.now (subst (λ (o : Option ℤ). TurnsFrom c.args.scope.now c.args.here.now c.args.denoter.now c.args.place.now (to_z w64 (of_z w64 c.args.first)) c.args.direction (to_z w64 (of_z w64 c.args.last)) c.args.body.now o (running c.loop-coming.walk) (running c.args.walk.now)) c.in-Some.is c.loop-coming.invariant) c.in_ok-spend.ensures (subst (λ (n : ℤ). store_ordinal Logged on_log c.args.denoter.now c.args.place.now n (running c.spend.new.self) ≡ Ok (tt, running c.store_ordinal.new.self)) (to_z-of_z w64 c.in-Some.number (search rules)) c.in_ok-store_ordinal.ensures) c.in_ok-stmt.ensures)

pub loops::count_loop-returns : goal.loops::count_loop-returns
loops::count_loop-returns t c = leaves (count_same c.args.scope.now c.args.here.now c.args.denoter.now c.args.place.now c.args.first (to_z w64 (of_z w64 c.args.first)) c.args.direction c.args.last (to_z w64 (of_z w64 c.args.last)) c.args.body.now (to_z-of_z w64 c.args.first (search rules)) (to_z-of_z w64 c.args.last (search rules))) (count_ends c.args.scope.now c.args.here.now c.args.denoter.now c.args.place.now (to_z w64 (of_z w64 c.args.first)) c.args.direction (to_z w64 (of_z w64 c.args.last)) c.args.body.now (subst (λ (o : Option ℤ). TurnsFrom c.args.scope.now c.args.here.now c.args.denoter.now c.args.place.now (to_z w64 (of_z w64 c.args.first)) c.args.direction (to_z w64 (of_z w64 c.args.last)) c.args.body.now o (running c.loop-coming.walk) (running c.args.walk.now)) (none_comes c.loop-coming.coming c.in_default.not-Some) c.loop-coming.invariant) c.blank.ensures)

pub loops::repeat_loop-loop-walk-init : goal.loops::repeat_loop-loop-walk-init
loops::repeat_loop-loop-walk-init t c = loop_begins

pub loops::repeat_loop-returns-in_err-spend : goal.loops::repeat_loop-returns-in_err-spend
loops::repeat_loop-returns-in_err-spend t c = exits c.from_residual.result c.from_residual.ensures.1 itself (repeat_spend_stops c.args.scope.now c.args.here.now c.args.body.now c.args.test.now c.loop-walk.invariant c.in_err-spend.ensures)

pub loops::repeat_loop-stmts-requires : goal.loops::repeat_loop-stmts-requires
loops::repeat_loop-stmts-requires t c = (omega (arith, c.decreases), tt)

pub loops::repeat_loop-returns-in_err-stmts : goal.loops::repeat_loop-returns-in_err-stmts
loops::repeat_loop-returns-in_err-stmts t c = exits c.from_residual-in_err-stmts.result c.from_residual-in_err-stmts.ensures.1 itself (repeat_body_stops c.args.scope.now c.args.here.now c.args.body.now c.args.test.now c.loop-walk.invariant c.in_ok-spend.ensures c.in_err-stmts.ensures)

pub loops::repeat_loop-condition-requires : goal.loops::repeat_loop-condition-requires
loops::repeat_loop-condition-requires t c = (omega (arith, c.decreases), tt)

pub loops::repeat_loop-returns-in_err-condition : goal.loops::repeat_loop-returns-in_err-condition
loops::repeat_loop-returns-in_err-condition t c = exits c.from_residual-in_err-condition.result c.from_residual-in_err-condition.ensures.1 itself (repeat_test_stops c.args.scope.now c.args.here.now c.args.body.now c.args.test.now c.loop-walk.invariant c.in_ok-spend.ensures c.in_ok-stmts.ensures c.in_err-condition.ensures)

pub loops::repeat_loop-returns-then-branch : goal.loops::repeat_loop-returns-then-branch
loops::repeat_loop-returns-then-branch t c = repeat_ends c.args.scope.now c.args.here.now c.args.body.now c.args.test.now c.loop-walk.invariant c.in_ok-spend.ensures c.in_ok-stmts.ensures (c.in_ok-condition.ensures ∙ ap (λ (b : Bool). Ok (b, running c.condition.new.walk)) c.if-branch.true)

pub loops::repeat_loop-loop-walk-smaller : goal.loops::repeat_loop-loop-walk-smaller
loops::repeat_loop-loop-walk-smaller t c = repeat_takes c.args.scope.now c.args.here.now c.args.body.now c.args.test.now c.loop-walk.invariant c.in_ok-spend.ensures c.in_ok-stmts.ensures (c.in_ok-condition.ensures ∙ ap (λ (b : Bool). Ok (b, running c.condition.new.walk)) c.if-branch.false)

pub loops::repeat_loop-loop-walk-preserved : goal.loops::repeat_loop-loop-walk-preserved
loops::repeat_loop-loop-walk-preserved t c = repeat_turn c.args.scope.now c.args.here.now c.args.body.now c.args.test.now c.loop-walk.invariant c.in_ok-spend.ensures c.in_ok-stmts.ensures (c.in_ok-condition.ensures ∙ ap (λ (b : Bool). Ok (b, running c.condition.new.walk)) c.if-branch.false)

pub loops::while_loop-loop-walk-init : goal.loops::while_loop-loop-walk-init
loops::while_loop-loop-walk-init t c = loop_begins

pub loops::while_loop-condition-requires : goal.loops::while_loop-condition-requires
loops::while_loop-condition-requires t c = (omega (arith, c.decreases), tt)

pub loops::while_loop-returns-in_err-condition : goal.loops::while_loop-returns-in_err-condition
loops::while_loop-returns-in_err-condition t c = exits c.from_residual.result c.from_residual.ensures.1 itself (while_test_stops c.args.scope.now c.args.here.now c.args.test.now c.args.body.now c.loop-walk.invariant c.in_err-condition.ensures)

pub loops::while_loop-returns-in_err-spend : goal.loops::while_loop-returns-in_err-spend
loops::while_loop-returns-in_err-spend t c = exits c.from_residual-in_err-spend.result c.from_residual-in_err-spend.ensures.1 itself (while_spend_stops c.args.scope.now c.args.here.now c.args.test.now c.args.body.now c.loop-walk.invariant (c.in_ok-condition.ensures ∙ ap (λ (b : Bool). Ok (b, running c.condition.new.walk)) c.if-branch.true) c.in_err-spend.ensures)

pub loops::while_loop-stmt-requires : goal.loops::while_loop-stmt-requires
loops::while_loop-stmt-requires t c = (omega (arith, c.decreases), tt)

pub loops::while_loop-loop-walk-smaller : goal.loops::while_loop-loop-walk-smaller
loops::while_loop-loop-walk-smaller t c = while_takes c.args.scope.now c.args.here.now c.args.test.now c.args.body.now c.loop-walk.invariant (c.in_ok-condition.ensures ∙ ap (λ (b : Bool). Ok (b, running c.condition.new.walk)) c.if-branch.true) c.in_ok-spend.ensures c.in_ok-stmt.ensures

pub loops::while_loop-loop-walk-preserved : goal.loops::while_loop-loop-walk-preserved
loops::while_loop-loop-walk-preserved t c = while_turn c.args.scope.now c.args.here.now c.args.test.now c.args.body.now c.loop-walk.invariant (c.in_ok-condition.ensures ∙ ap (λ (b : Bool). Ok (b, running c.condition.new.walk)) c.if-branch.true) c.in_ok-spend.ensures c.in_ok-stmt.ensures

pub loops::while_loop-returns-in_err-stmt : goal.loops::while_loop-returns-in_err-stmt
loops::while_loop-returns-in_err-stmt t c = exits c.from_residual-in_err-stmt.result c.from_residual-in_err-stmt.ensures.1 itself (while_body_stops c.args.scope.now c.args.here.now c.args.test.now c.args.body.now c.loop-walk.invariant (c.in_ok-condition.ensures ∙ ap (λ (b : Bool). Ok (b, running c.condition.new.walk)) c.if-branch.true) c.in_ok-spend.ensures c.in_err-stmt.ensures)

pub loops::while_loop-returns : goal.loops::while_loop-returns
loops::while_loop-returns t c = while_ends c.args.scope.now c.args.here.now c.args.test.now c.args.body.now c.loop-walk.invariant (c.in_ok-condition.ensures ∙ ap (λ (b : Bool). Ok (b, running c.condition.new.walk)) c.if-branch.false)

pub statements::assign-target-requires : goal.statements::assign-target-requires
statements::assign-target-requires t c = (omega (arith, c.decreases), tt)

pub statements::assign-returns-in_err-to : goal.statements::assign-returns-in_err-to
statements::assign-returns-in_err-to t c = exits c.from_residual.result c.from_residual.ensures.1 (assign_steps c.args.scope.now c.args.here.now c.args.variable.now c.args.value.now) (stops c.in_err-to.ensures)

pub statements::assign-expr-requires : goal.statements::assign-expr-requires
statements::assign-expr-requires t c = (omega (arith, c.decreases), tt)

pub statements::assign-returns-in_err-value : goal.statements::assign-returns-in_err-value
statements::assign-returns-in_err-value t c = exits c.from_residual-in_err-value.result c.from_residual-in_err-value.ensures.1 (assign_steps c.args.scope.now c.args.here.now c.args.variable.now c.args.value.now) (then c.in_ok-to.ensures (stops c.in_err-value.ensures))

pub statements::assign-returns : goal.statements::assign-returns
statements::assign-returns t c = leaves (assign_steps c.args.scope.now c.args.here.now c.args.variable.now c.args.value.now) (then c.in_ok-to.ensures (then c.in_ok-value.ensures (last (subst (λ (l : Located). Follows (store Logged on_log l.denoter l.place c.in_ok-value.value) c.expr.new.walk c.store.result c.store.new.self) c.to.view_is c.store.ensures))))

pub statements::procedure-invoke-requires : goal.statements::procedure-invoke-requires
statements::procedure-invoke-requires t c = (omega (arith, c.decreases, arguments_weigh c.args.args.now, ap (total of_expr) c.exprs_of.ensures), (c.args.name.now, (sym c.meaning.ensures ∙ c.in-Called.is)))

pub statements::procedure-returns-in_err-invoke-in-Called : goal.statements::procedure-returns-in_err-invoke-in-Called
statements::procedure-returns-in_err-invoke-in-Called t c = exits c.from_residual.result c.from_residual.ensures.1 (procedure_steps c.args.scope.now c.args.here.now c.args.name.now c.args.args.now _ (sym c.meaning.ensures ∙ c.in-Called.is)) (stops (subst (λ (es : List Expr). Follows (walked.invoked c.args.scope.now c.args.here.now c.in-Called.routine es) c.args.walk.now (Err c.in_err-invoke-in-Called.field-0.0) c.invoke.new.walk) c.exprs_of.ensures c.in_err-invoke-in-Called.ensures))

pub statements::procedure-returns-in_ok-invoke-in-Called : goal.statements::procedure-returns-in_ok-invoke-in-Called
statements::procedure-returns-in_ok-invoke-in-Called t c = ends (procedure_steps c.args.scope.now c.args.here.now c.args.name.now c.args.args.now _ (sym c.meaning.ensures ∙ c.in-Called.is)) (then (subst (λ (es : List Expr). walked.invoked c.args.scope.now c.args.here.now c.in-Called.routine es (running c.args.walk.now) ≡ Ok (c.in_ok-invoke-in-Called.field-0, running c.invoke.new.walk)) c.exprs_of.ensures c.in_ok-invoke-in-Called.ensures) finished)

pub statements::procedure-returns-in_default : goal.statements::procedure-returns-in_default
statements::procedure-returns-in_default t c = breaks (procedure_other c.args.scope.now c.args.here.now c.args.name.now c.args.args.now _ (sym c.meaning.ensures) c.in_default.not-Called) broken

pub statements::select-selector_ordinal-requires : goal.statements::select-selector_ordinal-requires
statements::select-selector_ordinal-requires t c = (omega (arith, c.decreases), tt)

pub statements::select-returns-in_err-number : goal.statements::select-returns-in_err-number
statements::select-returns-in_err-number t c = exits c.from_residual.result c.from_residual.ensures.1 (select_steps c.args.scope.now c.args.here.now c.args.selector.now c.args.cases.now) (stops c.in_err-number.ensures)

pub statements::select-stmt-requires : goal.statements::select-stmt-requires
statements::select-stmt-requires t c = (omega (arith, c.decreases, case_part (meanings c.args.scope.now) (to_z w64 (of_z w64 c.in_ok-number.number)) c.args.cases.now c.in-Some.body.now (sym c.in_ok-labelled.ensures ∙ ap option_copied c.in-Some.is)), tt)

pub statements::select-returns-in-None : goal.statements::select-returns-in-None
statements::select-returns-in-None t c = faults (select_steps c.args.scope.now c.args.here.now c.args.selector.now c.args.cases.now) (then c.in_ok-number.ensures (subst (λ (o : Option Stmt). Runs (select_plan c.args.scope.now c.args.here.now o) (running c.selector_ordinal.new.walk) (Err (stop.Fault NoCase)) (running c.selector_ordinal.new.walk)) (sym (ap option_copied c.in-None.is) ∙ c.in_ok-labelled.ensures ∙ ap (λ (n : ℤ). labelled (meanings c.args.scope.now) n c.args.cases.now) (to_z-of_z w64 c.in_ok-number.number (search rules))) refused))

pub statements::select-returns-in-Some : goal.statements::select-returns-in-Some
statements::select-returns-in-Some t c = leaves (select_steps c.args.scope.now c.args.here.now c.args.selector.now c.args.cases.now) (then c.in_ok-number.ensures (subst (λ (o : Option Stmt). Runs (select_plan c.args.scope.now c.args.here.now o) (running c.selector_ordinal.new.walk) c.stmt.result (running c.stmt.new.walk)) (sym (ap option_copied c.in-Some.is) ∙ c.in_ok-labelled.ensures ∙ ap (λ (n : ℤ). labelled (meanings c.args.scope.now) n c.args.cases.now) (to_z-of_z w64 c.in_ok-number.number (search rules))) (last c.stmt.ensures)))

pub statements::stmt-assign-requires : goal.statements::stmt-assign-requires
statements::stmt-assign-requires t c = (omega (arith, c.decreases, stmt_is c.args.node.now _ (ap out-Stmt c.in-Assign.is ∙ stmt.outs-Assign _ _ _)), tt)

pub statements::stmt-procedure-requires : goal.statements::stmt-procedure-requires
statements::stmt-procedure-requires t c = (omega (arith, c.decreases, stmt_is c.args.node.now _ (ap out-Stmt c.in-Call.is ∙ stmt.outs-Call _ _ _)), tt)

pub statements::stmt-stmts-requires : goal.statements::stmt-stmts-requires
statements::stmt-stmts-requires t c = (omega (arith, c.decreases, stmt_is c.args.node.now _ (ap out-Stmt c.in-Begin.is ∙ stmt.outs-Begin _ _)), tt)

pub statements::stmt-condition-requires : goal.statements::stmt-condition-requires
statements::stmt-condition-requires t c = (omega (arith, c.decreases, stmt_is c.args.node.now _ (ap out-Stmt c.in-If.is ∙ stmt.outs-If _ _ _ _)), tt)

pub statements::stmt-returns-in_err-condition-in-If : goal.statements::stmt-returns-in_err-condition-in-If
statements::stmt-returns-in_err-condition-in-If t c = exits c.from_residual.result c.from_residual.ensures.1 (stmt_steps c.args.scope.now c.args.here.now c.args.node.now _ (ap out-Stmt c.in-If.is ∙ stmt.outs-If _ _ _ _)) (stops c.in_err-condition-in-If.ensures)

pub statements::stmt-stmt-requires : goal.statements::stmt-stmt-requires
statements::stmt-stmt-requires t c = (omega (arith, c.decreases, stmt_is c.args.node.now _ (ap out-Stmt c.in-If.is ∙ stmt.outs-If _ _ _ _), ap of_stmt c.get.ensures), tt)

pub statements::stmt-returns-then-branch : goal.statements::stmt-returns-then-branch
statements::stmt-returns-then-branch t c = leaves (stmt_steps c.args.scope.now c.args.here.now c.args.node.now _ (ap out-Stmt c.in-If.is ∙ stmt.outs-If _ _ _ _)) (then (c.in_ok-condition-in-If.ensures ∙ ap (λ (b : Bool). Ok (b, running c.condition.new.walk)) c.if-branch.true) (last (subst (λ (x : Stmt). Follows (walked.stmt c.args.scope.now c.args.here.now x) c.condition.new.walk c.stmt.result c.stmt.new.walk) c.get.ensures c.stmt.ensures)))

pub statements::stmt-stmt-requires-in-Some : goal.statements::stmt-stmt-requires-in-Some
statements::stmt-stmt-requires-in-Some t c = (omega (arith, c.decreases, stmt_is c.args.node.now _ (ap out-Stmt c.in-If.is ∙ stmt.outs-If _ _ _ _), ap (part of_stmt) c.in-Some.is, ap of_stmt c.get-in-Some.ensures), tt)

pub statements::stmt-while_loop-requires : goal.statements::stmt-while_loop-requires
statements::stmt-while_loop-requires t c = (omega (arith, c.decreases, stmt_is c.args.node.now _ (ap out-Stmt c.in-While.is ∙ stmt.outs-While _ _ _), ap of_stmt c.get-in-While.ensures), tt)

pub statements::stmt-repeat_loop-requires : goal.statements::stmt-repeat_loop-requires
statements::stmt-repeat_loop-requires t c = (omega (arith, c.decreases, stmt_is c.args.node.now _ (ap out-Stmt c.in-Repeat.is ∙ stmt.outs-Repeat _ _ _)), tt)

pub statements::stmt-count-requires : goal.statements::stmt-count-requires
statements::stmt-count-requires t c = (omega (arith, c.decreases, stmt_is c.args.node.now _ (ap out-Stmt c.in-Count.is ∙ stmt.outs-Count _ _ _ _ _ _), ap of_stmt c.get-in-Count.ensures), tt)

pub statements::stmt-select-requires : goal.statements::stmt-select-requires
statements::stmt-select-requires t c = (omega (arith, c.decreases, stmt_is c.args.node.now _ (ap out-Stmt c.in-Case.is ∙ stmt.outs-Case _ _ _ _), ap (total of_case) c.items.ensures), tt)

pub statements::stmt-returns-in-Empty : goal.statements::stmt-returns-in-Empty
statements::stmt-returns-in-Empty t c = ends (stmt_steps c.args.scope.now c.args.here.now c.args.node.now _ (ap out-Stmt c.in-Empty.is ∙ stmt.outs-Empty)) finished

pub statements::stmt-returns-in-Assign : goal.statements::stmt-returns-in-Assign
statements::stmt-returns-in-Assign t c = leaves (stmt_steps c.args.scope.now c.args.here.now c.args.node.now _ (ap out-Stmt c.in-Assign.is ∙ stmt.outs-Assign _ _ _)) (last c.assign.ensures)

pub statements::stmt-returns-in-Call : goal.statements::stmt-returns-in-Call
statements::stmt-returns-in-Call t c = leaves (stmt_steps c.args.scope.now c.args.here.now c.args.node.now _ (ap out-Stmt c.in-Call.is ∙ stmt.outs-Call _ _ _)) (last c.procedure.ensures)

pub statements::stmt-returns-in-Begin : goal.statements::stmt-returns-in-Begin
statements::stmt-returns-in-Begin t c = leaves (stmt_steps c.args.scope.now c.args.here.now c.args.node.now _ (ap out-Stmt c.in-Begin.is ∙ stmt.outs-Begin _ _)) (last c.stmts.ensures)

pub statements::stmt-returns-in-None : goal.statements::stmt-returns-in-None
statements::stmt-returns-in-None t c = ends (if_steps c.args.scope.now c.args.here.now c.args.node.now _ _ _ _ _ (ap out-Stmt c.in-If.is ∙ stmt.outs-If _ _ _ _) c.in-None.is) (then (c.in_ok-condition-in-If.ensures ∙ ap (λ (b : Bool). Ok (b, running c.condition.new.walk)) c.if-branch.false) finished)

pub statements::stmt-returns-in-Some : goal.statements::stmt-returns-in-Some
statements::stmt-returns-in-Some t c = leaves (if_steps c.args.scope.now c.args.here.now c.args.node.now _ _ _ _ _ (ap out-Stmt c.in-If.is ∙ stmt.outs-If _ _ _ _) c.in-Some.is) (then (c.in_ok-condition-in-If.ensures ∙ ap (λ (b : Bool). Ok (b, running c.condition.new.walk)) c.if-branch.false) (last (subst (λ (x : Stmt). Follows (walked.stmt c.args.scope.now c.args.here.now x) c.condition.new.walk c.stmt-in-Some.result c.stmt-in-Some.new.walk) c.get-in-Some.ensures c.stmt-in-Some.ensures)))

pub statements::stmt-returns-in-While : goal.statements::stmt-returns-in-While
statements::stmt-returns-in-While t c = leaves (stmt_steps c.args.scope.now c.args.here.now c.args.node.now _ (ap out-Stmt c.in-While.is ∙ stmt.outs-While _ _ _)) (last (subst (λ (x : Stmt). Follows (walked.while_loop c.args.scope.now c.args.here.now c.in-While.test x) c.args.walk.now c.while_loop.result c.while_loop.new.walk) c.get-in-While.ensures c.while_loop.ensures))

pub statements::stmt-returns-in-Repeat : goal.statements::stmt-returns-in-Repeat
statements::stmt-returns-in-Repeat t c = leaves (stmt_steps c.args.scope.now c.args.here.now c.args.node.now _ (ap out-Stmt c.in-Repeat.is ∙ stmt.outs-Repeat _ _ _)) (last c.repeat_loop.ensures)

pub statements::stmt-returns-in-Count : goal.statements::stmt-returns-in-Count
statements::stmt-returns-in-Count t c = leaves (stmt_steps c.args.scope.now c.args.here.now c.args.node.now _ (ap out-Stmt c.in-Count.is ∙ stmt.outs-Count _ _ _ _ _ _)) (last (subst (λ (x : Stmt). Follows (walked.count c.args.scope.now c.args.here.now c.in-Count.variable c.in-Count.first c.in-Count.direction c.in-Count.last x) c.args.walk.now c.count.result c.count.new.walk) c.get-in-Count.ensures c.count.ensures))

pub statements::stmt-returns-in-Case : goal.statements::stmt-returns-in-Case
statements::stmt-returns-in-Case t c = leaves (stmt_steps c.args.scope.now c.args.here.now c.args.node.now _ (ap out-Stmt c.in-Case.is ∙ stmt.outs-Case _ _ _ _)) (last (subst (λ (cs : List Case). Follows (walked.select c.args.scope.now c.args.here.now c.in-Case.selector cs) c.args.walk.now c.select.result c.select.new.walk) c.items.ensures c.select.ensures))

pub statements::stmt-returns-in-Init : goal.statements::stmt-returns-in-Init
statements::stmt-returns-in-Init t c = leaves (stmt_steps c.args.scope.now c.args.here.now c.args.node.now _ (ap out-Stmt c.in-Init.is ∙ stmt.outs-Init _ _ _ _)) (last c.init.ensures)

pub statements::stmt-init-requires : goal.statements::stmt-init-requires
statements::stmt-init-requires t c = (omega (arith, c.decreases, stmt_is c.args.node.now _ (ap out-Stmt c.in-Init.is ∙ stmt.outs-Init _ _ _ _)), tt)

pub statements::stmt-returns-in-Release : goal.statements::stmt-returns-in-Release
statements::stmt-returns-in-Release t c = leaves (stmt_steps c.args.scope.now c.args.here.now c.args.node.now _ (ap out-Stmt c.in-Release.is ∙ stmt.outs-Release _ _)) (last c.release.ensures)

pub statements::stmt-returns-in-Connect : goal.statements::stmt-returns-in-Connect
statements::stmt-returns-in-Connect t c = leaves (stmt_steps c.args.scope.now c.args.here.now c.args.node.now _ (ap out-Stmt c.in-Connect.is ∙ stmt.outs-Connect _ _ _)) (last c.connect.ensures)

pub statements::stmt-returns-in-Disconnect : goal.statements::stmt-returns-in-Disconnect
statements::stmt-returns-in-Disconnect t c = leaves (stmt_steps c.args.scope.now c.args.here.now c.args.node.now _ (ap out-Stmt c.in-Disconnect.is ∙ stmt.outs-Disconnect _ _)) (last c.disconnect.ensures)

pub statements::stmt-returns-in-Attach : goal.statements::stmt-returns-in-Attach
statements::stmt-returns-in-Attach t c = leaves (stmt_steps c.args.scope.now c.args.here.now c.args.node.now _ (ap out-Stmt c.in-Attach.is ∙ stmt.outs-Attach _ _ _ _)) (last c.attach.ensures)

pub statements::stmt-returns-in-Detach : goal.statements::stmt-returns-in-Detach
statements::stmt-returns-in-Detach t c = leaves (stmt_steps c.args.scope.now c.args.here.now c.args.node.now _ (ap out-Stmt c.in-Detach.is ∙ stmt.outs-Detach _ _)) (last c.detach.ensures)

pub statements::stmt-returns-in-Output : goal.statements::stmt-returns-in-Output
statements::stmt-returns-in-Output t c = leaves (stmt_steps c.args.scope.now c.args.here.now c.args.node.now _ (ap out-Stmt c.in-Output.is ∙ stmt.outs-Output _ _ _ _)) (last c.output.ensures)

pub statements::stmt-output-requires : goal.statements::stmt-output-requires
statements::stmt-output-requires t c = (omega (arith, c.decreases, stmt_is c.args.node.now _ (ap out-Stmt c.in-Output.is ∙ stmt.outs-Output _ _ _ _)), tt)

pub statements::stmts-loop-inner-init : goal.statements::stmts-loop-inner-init
statements::stmts-loop-inner-init t c = left_begins

pub statements::stmts-stmt-requires : goal.statements::stmts-stmt-requires
statements::stmts-stmt-requires t c = (omega (arith, c.decreases, stmts_weigh c.args.node.now, item_at of_stmt c.items-inner-items.result.now c.loop-inner.inner-index c.inner-item.result c.loop-inner-test.true c.inner-item.is, ap (total of_stmt) c.items-inner-items.ensures), tt)

pub statements::stmts-returns-in_err-stmt : goal.statements::stmts-returns-in_err-stmt
statements::stmts-returns-in_err-stmt t c = exits c.from_residual.result c.from_residual.ensures.1 (stmts_steps c.args.scope.now c.args.here.now c.args.node.now) (left_stops c.loop-inner.invariant c.loop-inner-test.true c.inner-item.is c.items-inner-items.ensures c.in_err-stmt.ensures)

pub statements::stmts-loop-inner-preserved : goal.statements::stmts-loop-inner-preserved
statements::stmts-loop-inner-preserved t c = left_turn c.loop-inner.invariant c.loop-inner-test.true c.inner-item.is c.in_ok-stmt.ensures

pub statements::stmts-returns : goal.statements::stmts-returns
statements::stmts-returns t c = ends (stmts_steps c.args.scope.now c.args.here.now c.args.node.now) (left_ends c.loop-inner.invariant c.loop-inner-test.false c.items-inner-items.ensures)

pub variables::accessed-returns-in_err-reached : goal.variables::accessed-returns-in_err-reached
variables::accessed-returns-in_err-reached t c = exits c.from_residual.result c.from_residual.ensures.1 (accessed_steps c.args.scope.now c.args.here.now c.args.meaning.now c.args.selectors.now) (stops c.in_err-reached.ensures)

pub variables::accessed-loop-selector-init : goal.variables::accessed-loop-selector-init
variables::accessed-loop-selector-init t c = left_begins

pub variables::accessed-selected-requires : goal.variables::accessed-selected-requires
variables::accessed-selected-requires t c = (omega (arith, c.decreases, item_at of_selector c.behind_beginning-selector-items.result.now c.loop-selector.selector-index c.selector-item.result c.loop-selector-test.true c.selector-item.is, ap (total of_selector) c.behind_beginning-selector-items.ensures, behind_weighs c.args.meaning.now c.args.selectors.now), tt)

pub variables::accessed-returns-in_err-reached-2 : goal.variables::accessed-returns-in_err-reached-2
variables::accessed-returns-in_err-reached-2 t c = exits c.from_residual-in_err-reached-2.result c.from_residual-in_err-reached-2.ensures.1 (accessed_steps c.args.scope.now c.args.here.now c.args.meaning.now c.args.selectors.now) (then c.in_ok-reached.ensures (left_stops c.loop-selector.invariant c.loop-selector-test.true c.selector-item.is c.behind_beginning-selector-items.ensures c.in_err-reached-2.ensures))

pub variables::accessed-loop-selector-preserved : goal.variables::accessed-loop-selector-preserved
variables::accessed-loop-selector-preserved t c = left_turn c.loop-selector.invariant c.loop-selector-test.true c.selector-item.is c.in_ok-reached-2.ensures

pub variables::accessed-returns : goal.variables::accessed-returns
variables::accessed-returns t c = ends (accessed_steps c.args.scope.now c.args.here.now c.args.meaning.now c.args.selectors.now) (then c.in_ok-reached.ensures (left_ends c.loop-selector.invariant c.loop-selector-test.false c.behind_beginning-selector-items.ensures))

pub variables::indexed-loop-index-init : goal.variables::indexed-loop-index-init
variables::indexed-loop-index-init t c = left_begins

pub variables::indexed-ordinal-requires : goal.variables::indexed-ordinal-requires
variables::indexed-ordinal-requires t c = (omega (arith, c.decreases, item_at of_expr c.args.exprs.now c.loop-index.index-index c.index-item.result c.loop-index-test.true c.index-item.is), tt)

pub variables::indexed-returns-in_err-number : goal.variables::indexed-returns-in_err-number
variables::indexed-returns-in_err-number t c = exits c.from_residual.result c.from_residual.ensures.1 (indexed_is c.args.scope.now c.args.here.now c.args.exprs.now c.args.array) (left_stops c.loop-index.invariant c.loop-index-test.true c.index-item.is refl (leaves (item_is c.args.scope.now c.args.here.now c.loop-index.reached c.index-item.result) (stops c.in_err-number.ensures)))

pub variables::indexed-returns-in_err-reached : goal.variables::indexed-returns-in_err-reached
variables::indexed-returns-in_err-reached t c = exits c.from_residual-in_err-reached.result c.from_residual-in_err-reached.ensures.1 (indexed_is c.args.scope.now c.args.here.now c.args.exprs.now c.args.array) (left_stops c.loop-index.invariant c.loop-index-test.true c.index-item.is refl (leaves {r = Err c.in_err-reached.field-0.0} (item_is c.args.scope.now c.args.here.now c.loop-index.reached c.index-item.result) (then c.in_ok-number.ensures (gives (subst (λ (n : ℤ). Gives (item c.loop-index.reached n) (Err c.in_err-reached.field-0.0)) (to_z-of_z w64 c.in_ok-number.number (search rules)) c.in_err-reached.ensures)))))

pub variables::indexed-loop-index-preserved : goal.variables::indexed-loop-index-preserved
variables::indexed-loop-index-preserved t c = left_turn c.loop-index.invariant c.loop-index-test.true c.index-item.is (ends (item_is c.args.scope.now c.args.here.now c.loop-index.reached c.index-item.result) (then c.in_ok-number.ensures (given (subst (λ (n : ℤ). item c.loop-index.reached n ≡ Ok c.in_ok-reached.reached) (to_z-of_z w64 c.in_ok-number.number (search rules)) c.in_ok-reached.ensures))))

pub variables::indexed-returns : goal.variables::indexed-returns
variables::indexed-returns t c = ends (indexed_is c.args.scope.now c.args.here.now c.args.exprs.now c.args.array) (left_ends c.loop-index.invariant c.loop-index-test.false refl)

pub variables::selected-indexed-requires : goal.variables::selected-indexed-requires
variables::selected-indexed-requires t c = (omega (arith, c.decreases, selector_is c.args.selector.now _ (ap out-Selector c.in-Index.is ∙ selector.outs-Index _), ap (total of_expr) c.items.ensures), tt)

pub variables::selected-returns-in-Field : goal.variables::selected-returns-in-Field
variables::selected-returns-in-Field t c = leaves (selected_steps c.args.scope.now c.args.here.now c.args.reached c.args.selector.now _ (ap out-Selector c.in-Field.is ∙ selector.outs-Field _)) (gives (subst (λ (m : Meaning). Gives (field m c.args.reached) c.field.result) c.meaning.ensures c.field.ensures))

pub variables::selected-returns-in-Index : goal.variables::selected-returns-in-Index
variables::selected-returns-in-Index t c = leaves (selected_steps c.args.scope.now c.args.here.now c.args.reached c.args.selector.now _ (ap out-Selector c.in-Index.is ∙ selector.outs-Index _)) (last (subst (λ (es : List Expr). Follows (walked.indexed c.args.scope.now c.args.here.now c.args.reached es) c.args.walk.now c.indexed.result c.indexed.new.walk) c.items.ensures c.indexed.ensures))

pub variables::target-accessed-requires : goal.variables::target-accessed-requires
variables::target-accessed-requires t c = (omega (arith, c.decreases, variable_weighs c.args.variable.now, ap (total of_selector) c.items.ensures), tt)

pub variables::target-returns-in-Called : goal.variables::target-returns-in-Called
variables::target-returns-in-Called t c = leaves (target_steps c.args.scope.now c.args.here.now c.args.variable.now _ (sym c.meaning-meaning.ensures ∙ c.in-Called.is)) (gives c.result_of.ensures)

pub variables::target-returns-in_default : goal.variables::target-returns-in_default
variables::target-returns-in_default t c = leaves (target_other c.args.scope.now c.args.here.now c.args.variable.now _ (sym c.meaning-meaning.ensures) c.in_default.not-Called) (last (subst (λ (ss : List Selector). Follows (walked.accessed c.args.scope.now c.args.here.now c.meaning-meaning.result.now ss) c.args.walk.now c.accessed.result c.accessed.new.walk) c.items.ensures c.accessed.ensures))

pub children::init-value_arguments-requires : goal.children::init-value_arguments-requires
children::init-value_arguments-requires t c = (omega (arith, c.decreases, arguments_weigh c.args.args.now, ap (total of_expr) c.exprs_of.ensures), tt)

pub children::init-create-requires : goal.children::init-create-requires
children::init-create-requires t c = (omega (arith, c.decreases), tt)

pub children::init-returns-in_default : goal.children::init-returns-in_default
children::init-returns-in_default t c = breaks (init_no_module c.args.scope.now c.args.here.now c.args.modvar.now c.args.body.now c.args.args.now _ (sym c.meaning.ensures) c.in_default.not-Module) broken

pub children::init-returns-in_default-meaning : goal.children::init-returns-in_default-meaning
children::init-returns-in_default-meaning t c = breaks (init_no_body c.args.scope.now c.args.here.now c.args.modvar.now c.args.body.now c.args.args.now _ _ (sym c.meaning.ensures ∙ c.in-Module.is) (sym c.meaning-2.ensures) c.in_default-meaning.not-Body) broken

pub children::init-returns-in_err-given : goal.children::init-returns-in_err-given
children::init-returns-in_err-given t c = exits c.from_residual.result c.from_residual.ensures.1 (init_walks c.args.scope.now c.args.here.now c.args.modvar.now c.args.body.now c.args.args.now _ _ c.parameters-types.result.now c.exprs_of.result.now (sym c.meaning.ensures ∙ c.in-Module.is) (sym c.meaning-2.ensures ∙ c.in-Body.is) (c.parameters-types.ensures ∙ ap (λ (s : Subject). (child_of s c.in-Body.number).parameters) c.bodies.ensures) c.exprs_of.ensures) (stops c.in_err-given.ensures)

pub children::init-returns : goal.children::init-returns
children::init-returns t c = leaves (init_walks c.args.scope.now c.args.here.now c.args.modvar.now c.args.body.now c.args.args.now _ _ c.parameters-types.result.now c.exprs_of.result.now (sym c.meaning.ensures ∙ c.in-Module.is) (sym c.meaning-2.ensures ∙ c.in-Body.is) (c.parameters-types.ensures ∙ ap (λ (s : Subject). (child_of s c.in-Body.number).parameters) c.bodies.ensures) c.exprs_of.ensures) (then c.in_ok-given.ensures (last c.create.ensures))

pub children::create-returns-in_err-may_begin : goal.children::create-returns-in_err-may_begin
children::create-returns-in_err-may_begin t c = exits c.from_residual.result c.from_residual.ensures.1 itself (create_stops c.args.scope.now c.args.here.now c.args.variable c.args.number c.args.values c.args.walk.now c.args.walk.now c.in_err-may_begin.field-0.0 (create_refused c.args.scope.now c.args.here.now c.args.variable c.args.number c.args.values c.args.walk.now c.in_err-may_begin.field-0.0 (subst (λ (s : Subject). Gives (beginning s c.args.variable c.args.number c.args.values (maps.get c.args.walk.now.instances c.args.here.now.path)) (Err c.in_err-may_begin.field-0.0)) c.bodies.ensures c.in_err-may_begin.ensures)))

pub children::create-returns-in_default : goal.children::create-returns-in_default
children::create-returns-in_default t c = absurd (body_is_there c.args.scope.now c.args.here.now c.args.variable c.args.number c.args.values (maps.get c.args.walk.now.instances c.args.here.now.path) (subst (λ (s : Subject). beginning s c.args.variable c.args.number c.args.values (maps.get c.args.walk.now.instances c.args.here.now.path) ≡ Ok tt) c.bodies.ensures c.in_ok-may_begin.ensures) (subst (λ (s : Subject). None ≡ option_map (module_body s c.args.number) (body s c.args.number)) c.bodies-2.ensures c.in_default.ensures))

pub children::create-returns-in_err-spend : goal.children::create-returns-in_err-spend
children::create-returns-in_err-spend t c = exits c.from_residual-in_err-spend.result c.from_residual-in_err-spend.ensures.1 itself (create_stops c.args.scope.now c.args.here.now c.args.variable c.args.number c.args.values c.args.walk.now c.spend.new.self c.in_err-spend.field-0.0 (create_unspent c.args.scope.now c.args.here.now c.args.variable c.args.number c.args.values c.args.walk.now c.spend.new.self (tested c.args.scope.now c.args.here.now c.args.variable c.args.number c.args.values c.args.walk.now (subst (λ (s : Subject). beginning s c.args.variable c.args.number c.args.values (maps.get c.args.walk.now.instances c.args.here.now.path) ≡ Ok tt) c.bodies.ensures c.in_ok-may_begin.ensures)) c.in_err-spend.field-0.0 c.in_err-spend.ensures))

pub children::create-returns-then-here-ge-MAX_DEPTH : goal.children::create-returns-then-here-ge-MAX_DEPTH
children::create-returns-then-here-ge-MAX_DEPTH t c =
    let x : Tested c.args.scope.now c.args.here.now c.args.variable c.args.number c.args.values c.args.walk.now = (tested c.args.scope.now c.args.here.now c.args.variable c.args.number c.args.values c.args.walk.now (subst (λ (s : Subject). beginning s c.args.variable c.args.number c.args.values (maps.get c.args.walk.now.instances c.args.here.now.path) ≡ Ok tt) c.bodies.ensures c.in_ok-may_begin.ensures)) in
    create_goes c.args.scope.now c.args.here.now c.args.variable c.args.number c.args.values c.args.walk.now c.spend.new.self x (Err (stop.Fault CallDepth)) (leaves (deep_create c.args.scope.now c.args.here.now c.args.variable c.args.number c.args.values x.parent c.if-here-ge-MAX_DEPTH.true) (then c.in_ok-spend.ensures refused))

pub children::create-returns-in_err-path : goal.children::create-returns-in_err-path
children::create-returns-in_err-path t c =
    let x : Tested c.args.scope.now c.args.here.now c.args.variable c.args.number c.args.values c.args.walk.now = (tested c.args.scope.now c.args.here.now c.args.variable c.args.number c.args.values c.args.walk.now (subst (λ (s : Subject). beginning s c.args.variable c.args.number c.args.values (maps.get c.args.walk.now.instances c.args.here.now.path) ≡ Ok tt) c.bodies.ensures c.in_ok-may_begin.ensures)) in
    let b : (a : BodyAlone) × (body c.args.scope.now.subject c.args.number ≡ Some a) × (c.in-Some.body.now ≡ module_body c.args.scope.now.subject c.args.number a) = (known_body c.args.scope.now.subject c.args.number c.in-Some.body.now (body c.args.scope.now.subject c.args.number) (subst (λ (s : Subject). Some c.in-Some.body.now ≡ option_map (module_body s c.args.number) (body s c.args.number)) c.bodies-2.ensures c.in-Some.ensures)) in
    let there : maps.get c.spend.new.self.instances c.args.here.now.path ≡ Some x.parent = ap (λ (m : Instances). maps.get m c.args.here.now.path) (spend_keeps c.args.walk.now c.spend.new.self c.in_ok-spend.ensures) ∙ x.there in
    exits c.from_residual-in_err-path.result c.from_residual-in_err-path.ensures.1 itself (create_stops c.args.scope.now c.args.here.now c.args.variable c.args.number c.args.values c.args.walk.now c.begin_child.new.walk c.in_err-path.field-0.0 (create_goes c.args.scope.now c.args.here.now c.args.variable c.args.number c.args.values c.args.walk.now c.begin_child.new.walk x (Err c.in_err-path.field-0.0) (leaves (next_create c.args.scope.now c.args.here.now c.args.variable c.args.number c.args.values x.parent b.0 c.in-Some.body.now b.1 b.2 c.if-here-ge-MAX_DEPTH.false) (then c.in_ok-spend.ensures (stops (c.in_err-path.ensures c.args.scope.now.subject b.0 x.parent b.2 there))))))

pub children::create-initialize-requires : goal.children::create-initialize-requires
children::create-initialize-requires t c = (omega (arith, c.decreases, init_falls c.args.scope.now c.args.here.now (record { path = c.in_ok-path.path; frame = c.args.here.now.frame + 1; references = c.new.result }) c.in-Some.body.now (c.args.number, sym (subst (λ (s : Subject). Some c.in-Some.body.now ≡ option_map (module_body s c.args.number) (body s c.args.number)) c.bodies-2.ensures c.in-Some.ensures)) c.if-here-ge-MAX_DEPTH.false refl), (c.args.number, sym (subst (λ (s : Subject). Some c.in-Some.body.now ≡ option_map (module_body s c.args.number) (body s c.args.number)) c.bodies-2.ensures c.in-Some.ensures)))

pub children::create-returns-in_err-initialize : goal.children::create-returns-in_err-initialize
children::create-returns-in_err-initialize t c =
    let x : Tested c.args.scope.now c.args.here.now c.args.variable c.args.number c.args.values c.args.walk.now = (tested c.args.scope.now c.args.here.now c.args.variable c.args.number c.args.values c.args.walk.now (subst (λ (s : Subject). beginning s c.args.variable c.args.number c.args.values (maps.get c.args.walk.now.instances c.args.here.now.path) ≡ Ok tt) c.bodies.ensures c.in_ok-may_begin.ensures)) in
    let b : (a : BodyAlone) × (body c.args.scope.now.subject c.args.number ≡ Some a) × (c.in-Some.body.now ≡ module_body c.args.scope.now.subject c.args.number a) = (known_body c.args.scope.now.subject c.args.number c.in-Some.body.now (body c.args.scope.now.subject c.args.number) (subst (λ (s : Subject). Some c.in-Some.body.now ≡ option_map (module_body s c.args.number) (body s c.args.number)) c.bodies-2.ensures c.in-Some.ensures)) in
    let there : maps.get c.spend.new.self.instances c.args.here.now.path ≡ Some x.parent = ap (λ (m : Instances). maps.get m c.args.here.now.path) (spend_keeps c.args.walk.now c.spend.new.self c.in_ok-spend.ensures) ∙ x.there in
    exits c.from_residual-in_err-initialize.result c.from_residual-in_err-initialize.ensures.1 itself (create_stops c.args.scope.now c.args.here.now c.args.variable c.args.number c.args.values c.args.walk.now c.initialize.new.walk c.in_err-initialize.field-0.0 (create_goes c.args.scope.now c.args.here.now c.args.variable c.args.number c.args.values c.args.walk.now c.initialize.new.walk x (Err c.in_err-initialize.field-0.0) (leaves (next_create c.args.scope.now c.args.here.now c.args.variable c.args.number c.args.values x.parent b.0 c.in-Some.body.now b.1 b.2 c.if-here-ge-MAX_DEPTH.false) (then c.in_ok-spend.ensures (then (c.in_ok-path.ensures c.args.scope.now.subject b.0 x.parent b.2 there) (stops (subst (λ (ps : List Place). Follows (walked.initialize c.args.scope.now (record { path = c.in_ok-path.path; frame = c.args.here.now.frame + 1; references = ps }) c.in-Some.body.now) c.begin_child.new.walk (Err c.in_err-initialize.field-0.0) c.initialize.new.walk) c.new.ensures c.in_err-initialize.ensures)))))))

pub children::create-returns : goal.children::create-returns
children::create-returns t c =
    let x : Tested c.args.scope.now c.args.here.now c.args.variable c.args.number c.args.values c.args.walk.now = (tested c.args.scope.now c.args.here.now c.args.variable c.args.number c.args.values c.args.walk.now (subst (λ (s : Subject). beginning s c.args.variable c.args.number c.args.values (maps.get c.args.walk.now.instances c.args.here.now.path) ≡ Ok tt) c.bodies.ensures c.in_ok-may_begin.ensures)) in
    let b : (a : BodyAlone) × (body c.args.scope.now.subject c.args.number ≡ Some a) × (c.in-Some.body.now ≡ module_body c.args.scope.now.subject c.args.number a) = (known_body c.args.scope.now.subject c.args.number c.in-Some.body.now (body c.args.scope.now.subject c.args.number) (subst (λ (s : Subject). Some c.in-Some.body.now ≡ option_map (module_body s c.args.number) (body s c.args.number)) c.bodies-2.ensures c.in-Some.ensures)) in
    let there : maps.get c.spend.new.self.instances c.args.here.now.path ≡ Some x.parent = ap (λ (m : Instances). maps.get m c.args.here.now.path) (spend_keeps c.args.walk.now c.spend.new.self c.in_ok-spend.ensures) ∙ x.there in
    create_goes c.args.scope.now c.args.here.now c.args.variable c.args.number c.args.values c.args.walk.now c.hold_child.new.walk x c.hold_child.result (leaves (next_create c.args.scope.now c.args.here.now c.args.variable c.args.number c.args.values x.parent b.0 c.in-Some.body.now b.1 b.2 c.if-here-ge-MAX_DEPTH.false) (then c.in_ok-spend.ensures (then (c.in_ok-path.ensures c.args.scope.now.subject b.0 x.parent b.2 there) (then (subst (λ (ps : List Place). walked.initialize c.args.scope.now (record { path = c.in_ok-path.path; frame = c.args.here.now.frame + 1; references = ps }) c.in-Some.body.now (running c.begin_child.new.walk) ≡ Ok (tt, running c.initialize.new.walk)) c.new.ensures c.in_ok-initialize.ensures) (last (c.hold_child.ensures c.args.scope.now.subject))))))

pub children::initialize-within-requires : goal.children::initialize-within-requires
children::initialize-within-requires t c = (omega (arith, c.decreases, ap (λ (o : Option Initialization). of_stmts (block_by o).body) c.in-Some.is), tt)

pub children::initialize-returns-in_err-within-in-Some : goal.children::initialize-returns-in_err-within-in-Some
children::initialize-returns-in_err-within-in-Some t c = exits c.from_residual.result c.from_residual.ensures.1 (initialize_some c.args.scope.now c.args.here.now c.args.body.now _ c.in-Some.is) (stops (subst (λ (vs : List Value). Follows (walked.within c.args.scope.now c.args.here.now c.in-Some.initialization.block vs) c.args.walk.now (Err c.in_err-within-in-Some.field-0.0) c.within.new.walk) c.none-none.ensures c.in_err-within-in-Some.ensures))

pub children::initialize-returns-in_ok-within-in-Some : goal.children::initialize-returns-in_ok-within-in-Some
children::initialize-returns-in_ok-within-in-Some t c = ends (initialize_some c.args.scope.now c.args.here.now c.args.body.now _ c.in-Some.is) (then (subst (λ (vs : List Value). walked.within c.args.scope.now c.args.here.now c.in-Some.initialization.block vs (running c.args.walk.now) ≡ Ok (c.in_ok-within-in-Some.field-0, running c.within.new.walk)) c.none-none.ensures c.in_ok-within-in-Some.ensures) finished)

pub children::initialize-returns-in-None : goal.children::initialize-returns-in-None
children::initialize-returns-in-None t c = initialize_none c.args.scope.now c.args.here.now c.args.body.now c.in-None.is (running c.args.walk.now)

pub output::output-value_arguments-requires : goal.output::output-value_arguments-requires
output::output-value_arguments-requires t c = (omega (arith, c.decreases, arguments_weigh c.args.args.now, ap (total of_expr) c.exprs_of.ensures), tt)

pub output::output-returns-in_err-given : goal.output::output-returns-in_err-given
output::output-returns-in_err-given t c = exits c.from_residual.result c.from_residual.ensures.1 (output_steps c.args.scope.now c.args.here.now c.args.ip.now c.args.interaction.now c.args.args.now c.args.scope.now.subject c.meaning-meaning.result.now c.types_received-types.result.now c.exprs_of.result.now refl c.meaning-meaning.ensures c.types_received-types.ensures c.exprs_of.ensures) (stops c.in_err-given.ensures)

pub output::output-returns-in_err-spend : goal.output::output-returns-in_err-spend
output::output-returns-in_err-spend t c = exits c.from_residual-in_err-spend.result c.from_residual-in_err-spend.ensures.1 (output_steps c.args.scope.now c.args.here.now c.args.ip.now c.args.interaction.now c.args.args.now c.args.scope.now.subject c.meaning-meaning.result.now c.types_received-types.result.now c.exprs_of.result.now refl c.meaning-meaning.ensures c.types_received-types.ensures c.exprs_of.ensures) (then c.in_ok-given.ensures (stops c.in_err-spend.ensures))

pub output::output-returns-in_err-a : goal.output::output-returns-in_err-a
output::output-returns-in_err-a t c = exits c.from_residual-in_err-a.result c.from_residual-in_err-a.ensures.1 (output_steps c.args.scope.now c.args.here.now c.args.ip.now c.args.interaction.now c.args.args.now c.args.scope.now.subject c.meaning-meaning.result.now c.types_received-types.result.now c.exprs_of.result.now refl c.meaning-meaning.ensures c.types_received-types.ensures c.exprs_of.ensures) (then c.in_ok-given.ensures (then c.in_ok-spend.ensures (without c.in_err-a.ensures)))

pub output::output-returns-in-Interaction : goal.output::output-returns-in-Interaction
output::output-returns-in-Interaction t c = leaves (output_steps c.args.scope.now c.args.here.now c.args.ip.now c.args.interaction.now c.args.args.now c.bodies.result.now (Interaction c.in-Interaction.kind) c.types_received-types.result.now c.exprs_of.result.now c.bodies.ensures (sym c.in-Interaction.is ∙ c.meaning-meaning.ensures) (c.types_received-types.ensures ∙ ap types_received c.in-Interaction.is) c.exprs_of.ensures) (then c.in_ok-given.ensures (then c.in_ok-spend.ensures (with c.in_ok-a.ensures (last c.output_at.ensures))))

pub output::output-returns-in_default : goal.output::output-returns-in_default
output::output-returns-in_default t c = breaks (output_steps c.args.scope.now c.args.here.now c.args.ip.now c.args.interaction.now c.args.args.now c.args.scope.now.subject c.meaning-meaning.result.now c.types_received-types.result.now c.exprs_of.result.now refl c.meaning-meaning.ensures c.types_received-types.ensures c.exprs_of.ensures) (then c.in_ok-given.ensures (then c.in_ok-spend.ensures (with c.in_ok-a.ensures (sent_other c.args.scope.now c.args.here.now c.args.scope.now.subject c.args.ip.now.word c.args.interaction.now.word c.meaning-meaning.result.now c.in_ok-given.given.values c.in_ok-a.a c.in_default.not-Interaction))))
