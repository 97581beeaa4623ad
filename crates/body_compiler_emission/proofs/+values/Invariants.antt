use Rattle.std.proofs.Common.{◌≡◌, fold, take, drop, length}
use Rattle.body_compiler_emission.specs.Drafts.{grown}
use Rattle.body_compiler_emission.specs.Emitted.{give_all, behind}
use Rattle.body_compiler_emission.proofs.ExpressionSteps.{add_term, sum_host, multiply_factor, product_host, unite_elem}
use Rattle.body_compiler_emission.proofs.AccessSteps.{at_index}
use Rattle.body_compiler_emission.proofs.+values.Given as goal

-- ---- what came so far of a list

abbrev pub invariant-expressions::simple-loop-other : goal.invariant-expressions::simple-loop-other
invariant-expressions::simple-loop-other l = (l.unit ≡ fold (add_term l.scope) l.initial.unit (take l.other-index l.other-items)) × (l.host ≡ fold (sum_host l.scope) l.initial.host (take l.other-index l.other-items))

abbrev pub invariant-expressions::term-loop-other : goal.invariant-expressions::term-loop-other
invariant-expressions::term-loop-other l = (l.unit ≡ fold (multiply_factor l.scope) l.initial.unit (take l.other-index l.other-items)) × (l.host ≡ fold (product_host l.scope) l.initial.host (take l.other-index l.other-items))

abbrev pub invariant-expressions::united-loop-each : goal.invariant-expressions::united-loop-each
invariant-expressions::united-loop-each l = l.unit ≡ fold (unite_elem l.scope) l.initial.unit (take l.each-index l.elems)

abbrev pub invariant-names::give_all-loop-i : goal.invariant-names::give_all-loop-i
invariant-names::give_all-loop-i l = grown (give_all l.scope (drop l.i l.parameters) (drop l.i l.exprs)) l.unit ≡ grown (give_all l.scope l.parameters l.exprs) l.initial.unit

abbrev pub invariant-names::behind-loop-i : goal.invariant-names::behind-loop-i
invariant-names::behind-loop-i l = behind l.scope (drop l.i l.selectors) l.unit l.denoter ≡ behind l.scope (drop l.fn.first l.selectors) l.initial.unit l.initial.denoter

abbrev pub invariant-names::indexed-loop-index : goal.invariant-names::indexed-loop-index
invariant-names::indexed-loop-index l = (l.unit, l.denoter) ≡ fold (at_index l.scope) (l.initial.unit, l.initial.denoter) (take l.index-index l.exprs)
