use Rattle.std.proofs.Common.{◌∙◌, map as each, sym, ap, subst}
use Rattle.std.specs.List.{AllByRecursion}
use Rattle.std.proofs.lemmas.List.{take_all}
use Rattle.transition_select.specs.declared.countings.Counting.{Counting}
use Rattle.transition_select.specs.Offers.{IsOffer}
use Rattle.transition_select.specs.Countings.{IsCounting}
use Rattle.transition_select.proofs.Offering.{all_more, all_at, paths_more}
use Rattle.transition_select.proofs.countings.offers_of.Goals as goal

pub loop-counting-preserved : goal.loop-counting-preserved
loop-counting-preserved c =
    let xs = c.args.counts.now in
    let k = c.loop-counting.counting-index in
    let os = c.loop-counting.offers.items in
    let o = c.in_ok-offer_of.field-0 in
    record {
      paths = paths_more xs k c.counting-item.result os c.push.new.self.items o c.loop-counting-test.true c.counting-item.is c.loop-counting.invariant.paths c.in_ok-offer_of.ensures.path c.in_ok-push.ensures.items;
      offers = λ s budget g are.
          subst (AllByRecursion (IsOffer s budget g)) (sym c.in_ok-push.ensures.items)
          (all_more (IsOffer s budget g) os o (c.loop-counting.invariant.offers s budget g are) (c.in_ok-offer_of.ensures.offer s budget g (all_at (IsCounting s budget g) xs k c.counting-item.result c.loop-counting-test.true c.counting-item.is are)));
    }

pub returns : goal.returns
returns c = λ s budget g m are. record {
  there = are.there;
  paths = c.loop-counting.invariant.paths ∙ ap (each (λ (d : Counting). d.path)) (take_all c.loop-counting.counting-index c.args.counts.now c.loop-counting-test.false) ∙ are.paths;
  offers = c.loop-counting.invariant.offers s budget g are.countings;
}
