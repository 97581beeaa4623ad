use Rattle.std.proofs.Common.{ap, subst, ◌∙◌, arith, rules, filter}
use Rattle.std.specs.Prelude.{◌==◌}
use Rattle.std.proofs.lemmas.Result.{on_ok_weaker}
use Rattle.estelle_model.specs.Selection.{children}
use Rattle.estelle_model.specs.Schedule.{is_able}
use Rattle.transition_select.specs.Offers.{AreOffers}
use Rattle.transition_select.specs.Choosing.{one}
use Rattle.transition_select.proofs.Apart.{below, none_offered}
use Rattle.transition_select.proofs.Reaches.{spans_on, spans_of_block}
use Rattle.transition_select.proofs.Walks.{some_tested, none_tested, parts_of, chosen_none, chosen_more, chosen_all}
use Rattle.transition_select.proofs.Downwards.{empty_tested, picked, own_chosen, each_chosen, one_chosen}
use Rattle.transition_select.proofs.choice.+choice.Goals as goal

-- src/choice.rt:132:9
pub choose_in-returns-in_default : goal.choose_in-returns-in_default
choose_in-returns-in_default g n c s budget t m tree are = absurd (none_offered s budget t tree m c.args.offers.now c.in_default.ensures.cases are)

-- src/choice.rt:135:9
pub choose_in-returns-then-not-is_empty : goal.choose_in-returns-then-not-is_empty
choose_in-returns-then-not-is_empty g n c s budget t m tree are =
    let cut = subst (AreOffers s budget t m) c.in-Some.ensures.cases.0 are in
    on_ok_weaker c.take_own.result (own_chosen g.H.Chooser.draw s budget t tree m c.in-Some.first.now c.in-Some.below.now cut c.args.chooser.now c.args.takes.now.items c.take_own.new.takes.items c.take_own.new.chooser) c.take_own.ensures

-- src/choice.rt:138:9
pub choose_in-returns-then-first : goal.choose_in-returns-then-first
choose_in-returns-then-first g n c s budget t m tree are =
    let cut = subst (AreOffers s budget t m) c.in-Some.ensures.cases.0 are in
    on_ok_weaker c.choose_of_each.result
    (each_chosen g.H.Chooser.draw s budget t tree m c.in-Some.first.now c.in-Some.below.now cut (empty_tested c.in-Some.first.now.offered.items c.is_empty.result (c.is_empty.ensures ∙ ap (λ k. k == 0) c.in-Some.first.now.offered.ok.0) (cc)) (cc)
    c.args.chooser.now c.args.takes.now.items c.choose_of_each.new.takes.items c.choose_of_each.new.chooser)
    (c.choose_of_each.ensures s budget t (children t m) tree (below s budget t tree m c.in-Some.first.now c.in-Some.below.now cut).1)

-- src/choice.rt:122:1
pub choose_in-returns : goal.choose_in-returns
choose_in-returns g n c s budget t m tree are =
    let cut = subst (AreOffers s budget t m) c.in-Some.ensures.cases.0 are in
    on_ok_weaker c.choose_of_one.result
    (one_chosen g.H.Chooser.draw s budget t tree m c.in-Some.first.now c.in-Some.below.now cut (empty_tested c.in-Some.first.now.offered.items c.is_empty.result (c.is_empty.ensures ∙ ap (λ k. k == 0) c.in-Some.first.now.offered.ok.0) (cc)) (cc)
    c.args.chooser.now c.args.takes.now.items c.choose_of_one.new.takes.items c.choose_of_one.new.chooser)
    (c.choose_of_one.ensures s budget t (children t m) tree (below s budget t tree m c.in-Some.first.now c.in-Some.below.now cut).1)

-- src/choice.rt:95:5
pub choose_of_each-loop-rest-init : goal.choose_of_each-loop-rest-init
choose_of_each-loop-rest-init g n c = record {
  chosen = λ s budget t ms tree are. chosen_none s budget t tree g.H.Chooser.draw ms c.args.chooser.now c.args.takes.now.items c.args.offers.now are;
  small = omega arith;
  spans = c.requires;
}

-- src/choice.rt:95:5
pub choose_of_each-loop-rest-preserved : goal.choose_of_each-loop-rest-preserved
choose_of_each-loop-rest-preserved g n c = record {
  chosen = λ s budget t ms tree are.
      chosen_more s budget t tree g.H.Chooser.draw ms c.args.chooser.now c.args.takes.now.items c.loop-rest.takes.items c.loop-rest.chooser c.loop-rest.rest.now c.split_at.result.0.now c.split_at.result.1.now
      (parts_of s budget t tree c.loop-rest.rest.now c.split_at.result.0.now c.split_at.result.1.now c.first_len-len.result (some_tested c.loop-rest.rest.now c.is_empty.result c.is_empty.ensures (cc)) c.first_len-len.ensures.of_first c.split_at.ensures.front c.split_at.ensures.back)
      (c.loop-rest.invariant.chosen s budget t ms tree are) c.choose_in.new.takes.items c.choose_in.new.chooser (λ m of_first. c.in_ok-choose_in.ensures s budget t m tree of_first);
  small = omega (arith, c.loop-rest.invariant.small, c.split_at.ensures.back_len);
  spans = spans_on c.first_len-len.result c.loop-rest.rest.now c.loop-rest.ahead.now c.split_at.result.1.now c.behind-after.result.now c.loop-rest.invariant.spans c.split_at.ensures.back c.behind-after.ensures;
}

-- src/choice.rt:85:1
pub choose_of_each-returns : goal.choose_of_each-returns
choose_of_each-returns g n c s budget t ms tree are =
    chosen_all s budget t tree g.H.Chooser.draw ms c.args.chooser.now c.args.takes.now.items c.loop-rest.takes.items c.loop-rest.chooser c.loop-rest.rest.now
    (none_tested c.loop-rest.rest.now c.is_empty.result c.is_empty.ensures (cc)) (c.loop-rest.invariant.chosen s budget t ms tree are)

-- src/choice.rt:104:1
pub choose_of_one-returns : goal.choose_of_one-returns
choose_of_one-returns g n c s budget t ms tree are =
    let count = c.count_able-count.ensures s budget t ms tree are in
    let k = c.able_block.ensures.able s budget t ms tree are (omega (arith, c.pick-number.ensures.below, count)) in
    on_ok_weaker c.choose_in.result
    (one k.path c.pick-number.new.chooser (picked g.H.Chooser.draw c.args.chooser.now (filter (is_able s budget t) ms) c.count_able-count.result c.pick-number.result c.pick-number.new.chooser k.path count c.pick-number.ensures.drawn k.able))
    (c.choose_in.ensures s budget t k.path tree k.offers)

-- src/choice.rt:119:9
pub choose_of_each-choose_in-requires : goal.choose_of_each-choose_in-requires
choose_of_each-choose_in-requires g t c κs within =
    (search rules, (search rules, spans_of_block c.first_len-len.result c.loop-rest.rest.now c.loop-rest.ahead.now c.split_at.result.0.now c.loop-rest.invariant.spans c.split_at.ensures.front))
