use Rattle.std.proofs.Common.{◌+◌, map}
use Rattle.estelle_model.specs.declared.meaning.Passing.TheVariants.{ByValue}
use Rattle.body_state.specs.Bodies.{block_of}
use Rattle.body_state.specs.Progress.{running}
use Rattle.body_walker_blocks.specs.Walked as walked
use Rattle.body_walker_blocks.proofs.Weights.{total, of_factor, of_selector, of_elem, of_expr, of_simple, of_term, of_variable, of_arguments, of_stmt, of_case, of_stmts}
use Rattle.body_walker_blocks.proofs.Depths.{of_calls}
use Rattle.body_walker_blocks.proofs.Chains.{Left}
use Rattle.body_walker_blocks.proofs.ExpressionSteps.{add_term, multiply_factor, add_members}
use Rattle.body_walker_blocks.proofs.AccessSteps.{at_item}
use Rattle.body_walker_blocks.proofs.CallSteps.{LeftToGive}
use Rattle.body_walker_blocks.proofs.LoopSteps.{StillDoes, TurnsFrom}
use Rattle.body_walker_blocks.proofs.StatementSteps.{do_stmt}
use Rattle.body_walker_blocks.proofs.+walk.Given as goal

-- ---- each call has less to walk, in its tree or in the calls that may still nest

abbrev pub decreases-calls::arguments : goal.decreases-calls::arguments
decreases-calls::arguments l = of_calls l.scope.now l.here.now + (total of_expr l.exprs.now + 3)

abbrev pub decreases-calls::call : goal.decreases-calls::call
decreases-calls::call l = of_calls l.scope.now l.here.now + (1)

abbrev pub decreases-calls::designated : goal.decreases-calls::designated
decreases-calls::designated l = of_calls l.scope.now l.here.now + (total of_expr l.exprs.now + 6)

abbrev pub decreases-calls::give : goal.decreases-calls::give
decreases-calls::give l = of_calls l.scope.now l.here.now + (of_expr l.actual.now + 2)

abbrev pub decreases-calls::give_value : goal.decreases-calls::give_value
decreases-calls::give_value l = of_calls l.scope.now l.here.now + (of_expr l.actual.now + 1)

abbrev pub decreases-calls::value_arguments : goal.decreases-calls::value_arguments
decreases-calls::value_arguments l = of_calls l.scope.now l.here.now + (total of_expr l.exprs.now + 2)

abbrev pub decreases-children::create : goal.decreases-children::create
decreases-children::create l = of_calls l.scope.now l.here.now + (2)

abbrev pub decreases-children::init : goal.decreases-children::init
decreases-children::init l = of_calls l.scope.now l.here.now + (of_arguments l.args.now + 3)

abbrev pub decreases-children::initialize : goal.decreases-children::initialize
decreases-children::initialize l = of_calls l.scope.now l.here.now + (of_stmts (block_of l.body.now).body + 2)

abbrev pub decreases-output::output : goal.decreases-output::output
decreases-output::output l = of_calls l.scope.now l.here.now + (of_arguments l.args.now + 3)

abbrev pub decreases-calls::invoke : goal.decreases-calls::invoke
decreases-calls::invoke l = of_calls l.scope.now l.here.now + (total of_expr l.exprs.now + 4)

abbrev pub decreases-calls::valued : goal.decreases-calls::valued
decreases-calls::valued l = of_calls l.scope.now l.here.now + (total of_selector l.selectors.now + 5)

abbrev pub decreases-calls::within : goal.decreases-calls::within
decreases-calls::within l = of_calls l.scope.now l.here.now + (of_stmts l.routine.now.body + 1)

abbrev pub decreases-expressions::added : goal.decreases-expressions::added
decreases-expressions::added l = of_calls l.scope.now l.here.now + (of_term l.node.now + 1)

abbrev pub decreases-expressions::condition : goal.decreases-expressions::condition
decreases-expressions::condition l = of_calls l.scope.now l.here.now + (of_expr l.node.now + 1)

abbrev pub decreases-expressions::expr : goal.decreases-expressions::expr
decreases-expressions::expr l = of_calls l.scope.now l.here.now + (of_expr l.node.now)

abbrev pub decreases-expressions::factor : goal.decreases-expressions::factor
decreases-expressions::factor l = of_calls l.scope.now l.here.now + (of_factor l.node.now)

abbrev pub decreases-expressions::members : goal.decreases-expressions::members
decreases-expressions::members l = of_calls l.scope.now l.here.now + (of_elem l.node.now)

abbrev pub decreases-expressions::multiplied : goal.decreases-expressions::multiplied
decreases-expressions::multiplied l = of_calls l.scope.now l.here.now + (of_factor l.node.now + 1)

abbrev pub decreases-expressions::ordinal : goal.decreases-expressions::ordinal
decreases-expressions::ordinal l = of_calls l.scope.now l.here.now + (of_expr l.node.now + 1)

abbrev pub decreases-expressions::bound : goal.decreases-expressions::bound
decreases-expressions::bound l = of_calls l.scope.now l.here.now + (of_expr l.node.now + 1)

abbrev pub decreases-expressions::selector_ordinal : goal.decreases-expressions::selector_ordinal
decreases-expressions::selector_ordinal l = of_calls l.scope.now l.here.now + (of_expr l.node.now + 1)

abbrev pub decreases-expressions::set_of : goal.decreases-expressions::set_of
decreases-expressions::set_of l = of_calls l.scope.now l.here.now + (total of_elem l.elems.now + 1)

abbrev pub decreases-expressions::simple : goal.decreases-expressions::simple
decreases-expressions::simple l = of_calls l.scope.now l.here.now + (of_simple l.node.now)

abbrev pub decreases-expressions::term : goal.decreases-expressions::term
decreases-expressions::term l = of_calls l.scope.now l.here.now + (of_term l.node.now)

abbrev pub decreases-loops::count : goal.decreases-loops::count
decreases-loops::count l = of_calls l.scope.now l.here.now + (of_expr l.first.now + of_expr l.last.now + of_stmt l.body.now + 5)

abbrev pub decreases-loops::count_loop : goal.decreases-loops::count_loop
decreases-loops::count_loop l = of_calls l.scope.now l.here.now + (of_stmt l.body.now + 1)

abbrev pub decreases-loops::repeat_loop : goal.decreases-loops::repeat_loop
decreases-loops::repeat_loop l = of_calls l.scope.now l.here.now + (of_expr l.test.now + of_stmts l.body.now + 2)

abbrev pub decreases-loops::while_loop : goal.decreases-loops::while_loop
decreases-loops::while_loop l = of_calls l.scope.now l.here.now + (of_expr l.test.now + of_stmt l.body.now + 2)

abbrev pub decreases-statements::assign : goal.decreases-statements::assign
decreases-statements::assign l = of_calls l.scope.now l.here.now + (of_variable l.variable.now + of_expr l.value.now + 1)

abbrev pub decreases-statements::procedure : goal.decreases-statements::procedure
decreases-statements::procedure l = of_calls l.scope.now l.here.now + (of_arguments l.args.now + 5)

abbrev pub decreases-statements::select : goal.decreases-statements::select
decreases-statements::select l = of_calls l.scope.now l.here.now + (of_expr l.selector.now + total of_case l.cases.now + 3)

abbrev pub decreases-statements::stmt : goal.decreases-statements::stmt
decreases-statements::stmt l = of_calls l.scope.now l.here.now + (of_stmt l.node.now)

abbrev pub decreases-statements::stmts : goal.decreases-statements::stmts
decreases-statements::stmts l = of_calls l.scope.now l.here.now + (of_stmts l.node.now)

abbrev pub decreases-variables::accessed : goal.decreases-variables::accessed
decreases-variables::accessed l = of_calls l.scope.now l.here.now + (total of_selector l.selectors.now + 1)

abbrev pub decreases-variables::indexed : goal.decreases-variables::indexed
decreases-variables::indexed l = of_calls l.scope.now l.here.now + (total of_expr l.exprs.now + 2)

abbrev pub decreases-variables::selected : goal.decreases-variables::selected
decreases-variables::selected l = of_calls l.scope.now l.here.now + (of_selector l.selector.now)

abbrev pub decreases-variables::target : goal.decreases-variables::target
decreases-variables::target l = of_calls l.scope.now l.here.now + (of_variable l.variable.now)

-- ---- what is left of a list does what all of it did

abbrev pub invariant-calls::arguments-loop-i : goal.invariant-calls::arguments-loop-i
invariant-calls::arguments-loop-i l = LeftToGive l.scope l.here l.parameters l.exprs l.i l.given (running l.walk) (running l.initial.walk)

abbrev pub invariant-calls::value_arguments-loop-i : goal.invariant-calls::value_arguments-loop-i
invariant-calls::value_arguments-loop-i l = LeftToGive l.scope l.here (map ByValue l.types) l.exprs l.i l.given (running l.walk) (running l.initial.walk)

abbrev pub invariant-expressions::set_of-loop-elem : goal.invariant-expressions::set_of-loop-elem
invariant-expressions::set_of-loop-elem l = Left (add_members l.scope l.here) l.elems l.elem-index l.made (running l.walk) l.initial.made (running l.initial.walk)

abbrev pub invariant-expressions::simple-loop-other : goal.invariant-expressions::simple-loop-other
invariant-expressions::simple-loop-other l = Left (add_term l.scope l.here) l.other-items l.other-index l.value (running l.walk) l.initial.value (running l.initial.walk)

abbrev pub invariant-expressions::term-loop-other : goal.invariant-expressions::term-loop-other
invariant-expressions::term-loop-other l = Left (multiply_factor l.scope l.here) l.other-items l.other-index l.value (running l.walk) l.initial.value (running l.initial.walk)

abbrev pub invariant-statements::stmts-loop-inner : goal.invariant-statements::stmts-loop-inner
invariant-statements::stmts-loop-inner l = Left (do_stmt l.scope l.here) l.inner-items l.inner-index tt (running l.walk) tt (running l.initial.walk)

abbrev pub invariant-variables::accessed-loop-selector : goal.invariant-variables::accessed-loop-selector
invariant-variables::accessed-loop-selector l = Left (walked.selected l.scope l.here) l.selector-items l.selector-index l.reached (running l.walk) l.initial.reached (running l.initial.walk)

abbrev pub invariant-variables::indexed-loop-index : goal.invariant-variables::indexed-loop-index
invariant-variables::indexed-loop-index l = Left (at_item l.scope l.here) l.exprs l.index-index l.reached (running l.walk) l.initial.reached (running l.initial.walk)

-- ---- the turns of a loop that are left do what the whole loop did

abbrev pub invariant-loops::while_loop-loop-walk : goal.invariant-loops::while_loop-loop-walk
invariant-loops::while_loop-loop-walk l = StillDoes (walked.while_loop l.scope l.here l.test l.body) (running l.walk) (running l.initial.walk)

abbrev pub decreases-loops::while_loop-loop-walk : goal.decreases-loops::while_loop-loop-walk
decreases-loops::while_loop-loop-walk l = l.walk.left

abbrev pub invariant-loops::repeat_loop-loop-walk : goal.invariant-loops::repeat_loop-loop-walk
invariant-loops::repeat_loop-loop-walk l = StillDoes (walked.repeat_loop l.scope l.here l.body l.test) (running l.walk) (running l.initial.walk)

abbrev pub decreases-loops::repeat_loop-loop-walk : goal.decreases-loops::repeat_loop-loop-walk
decreases-loops::repeat_loop-loop-walk l = l.walk.left

abbrev pub invariant-loops::count_loop-loop-coming : goal.invariant-loops::count_loop-loop-coming
invariant-loops::count_loop-loop-coming l = TurnsFrom l.scope l.here l.denoter l.place l.fn.first l.direction l.last l.body l.coming (running l.walk) (running l.initial.walk)

abbrev pub decreases-loops::count_loop-loop-coming : goal.decreases-loops::count_loop-loop-coming
decreases-loops::count_loop-loop-coming l = l.walk.left
