use Rattle.std.proofs.Common.{◌≡◌, ◌∙◌, ◌+◌, ◌++◌, sym, ap, subst, length, arith}
use Rattle.std.specs.FinMap as map
use Rattle.estelle_tree.specs.Timers.{pair}
use Rattle.estelle_model.specs.Subject.{transitions}
use Rattle.estelle_model.specs.Delays.{has_delay}
use Rattle.situation_offers.specs.Guards.{may_by, must_by, wanted_if, AreCountedTo}
use Rattle.situation_offers.proofs.Asking.{body_of}
use Rattle.situation_offers.proofs.Counting.{none_counted, counted_more, first_here, all_counted}
use Rattle.situation_offers.proofs.guards.count_all.Goals as goal

pub loop-index-init : goal.loop-index-init
loop-index-init t c = λ g system of at. (
  subst (λ cs. AreCountedTo c.args.program.now c.args.budget g system c.args.now c.args.part.now.path 0 cs c.args.wanted.now.items c.args.wanted.now.items) (sym c.new-counted.ensures.items)
      (none_counted c.args.program.now c.args.budget g system c.args.now c.args.part.now.path c.args.wanted.now.items),
  tt,
)

pub returns-in-Faulted : goal.returns-in-Faulted
returns-in-Faulted t c = λ g system of at.
    first_here c.args.program.now c.args.budget g system c.args.now c.args.part.now.path c.loop-index.index c.loop-index.counted.items _ _ c.in-Faulted.kind
    (c.loop-index.invariant g system of at).0 (sym (c.in_ok-answer.ensures g of.shown at.of_instance (c.loop-index.invariant g system of at).1).0 ∙ c.in-Faulted.is)

pub loop-index-preserved : goal.loop-index-preserved
loop-index-preserved t c = λ g system of at.
    let s = c.args.program.now in
    let m = c.args.part.now.path in
    let n = c.loop-index.index + 1 in
    let answer = c.in_ok-answer.answer in
    let is = body_of g c.args.part.now at.of_instance in
    let its = c.in_ok-answer.ensures g of.shown at.of_instance (c.loop-index.invariant g system of at).1 in (
      counted_more s c.args.budget g system c.args.now m at.inside c.loop-index.index _ _ _ _ _ answer c.may-may.result c.must-must.result
          (c.loop-index.invariant g system of at).0 its.0 c.in_default.not-Faulted
          (c.may-may.ensures g is ∙ ap (λ ts. may_by c.args.now (map.get ts (pair m n)) (has_delay s g m n) answer) of.shown.running)
          (c.must-must.ensures g is ∙ ap (λ ts. must_by c.args.now (map.get ts (pair m n)) (has_delay s g m n) answer) of.shown.running)
          (c.in_ok-count_if.ensures g m is)
          (c.in_ok-want_if.ensures ∙ ap (λ b. c.loop-index.wanted.items ++ wanted_if b (pair m n) answer) (c.is_delayed-delayed.ensures g m is)),
      its.1,
    )

pub returns : goal.returns
returns t c = λ g system of at.
    let s = c.args.program.now in
    let is = body_of g c.args.part.now at.of_instance in
    let end : c.loop-index.index ≡ c.transitions-index-end.result = omega (arith, c.loop-index.auto.index-end, c.loop-index-test.false) in
    let all : c.loop-index.index ≡ length (transitions s is.0.body) = end ∙ c.transitions-index-end.ensures ∙ ap (λ k. length (transitions s k)) (sym is.2) in
    all_counted s c.args.budget g system c.args.now c.args.part.now.path is.0 c.loop-index.counted.items c.args.wanted.now.items c.loop-index.wanted.items is.1
    (subst (λ n. AreCountedTo s c.args.budget g system c.args.now c.args.part.now.path n c.loop-index.counted.items c.args.wanted.now.items c.loop-index.wanted.items) all (c.loop-index.invariant g system of at).0)
