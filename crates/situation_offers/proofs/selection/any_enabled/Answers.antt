use Rattle.std.proofs.Common.{◌≡◌, ◌∙◌, ◌≤◌, Bor, [], map as each, take, length, sym, ap, subst}
use Rattle.std.specs.List.{AllByRecursion}
use Rattle.std.proofs.lemmas.List.{take_all}
use Rattle.std.proofs.lemmas.Simd.{map-map}
use Rattle.module_tree.specs.Trees as trees
use Rattle.estelle_model.specs.declared.image.Part.{Part}
use Rattle.transition_select.proofs.Offering.{all_more, each_more}
use Rattle.situation_offers.specs.Asked.{AreAll, IsAt}
use Rattle.situation_offers.proofs.Standing.{all_parts}
use Rattle.situation_offers.proofs.Walking.{mapped_at}
use Rattle.situation_offers.proofs.Enabled.{NoneOf, one_of_all, none_here_of, none_at_all}
use Rattle.situation_offers.proofs.selection.any_enabled.Goals as goal

pub returns-then-some : goal.returns-then-some
returns-then-some t c = λ g of.
    let s = c.args.view.now.program.now in
    let xs = c.deref-part-items.result.now in
    let part = c.part-item.result.now in
    let are : each (λ (r : Bor Part). r.now) xs ≡ trees.parts_below c.args.view.now.shared.now.tree.instances [] = ap (each (λ (r : Bor Part). r.now)) c.deref-part-items.ensures.value ∙ c.in-Ok.ensures.parts ∙ ap (trees.parts_below c.args.view.now.shared.now.tree.instances) c.root-root.ensures in
    let all = subst (AreAll g []) (sym are) (all_parts c.args.view.now.shared.now.tree g of.stands.instances []) in
    let at = mapped_at (IsAt g []) (λ (r : Bor Part). r.now) xs c.loop-part.part-index c.part-item.result c.loop-part-test.true c.part-item.is all.each_at in
    one_of_all s c.args.view.now.budget g part.path c.in_ok-some.some (c.in_ok-some.ensures g of at.of_instance) c.if-some.true

pub loop-part-preserved : goal.loop-part-preserved
loop-part-preserved t c = λ g of.
    let s = c.args.view.now.program.now in
    let b = c.args.view.now.budget in
    let xs = c.deref-part-items.result.now in
    let part = c.part-item.result.now in
    let are : each (λ (r : Bor Part). r.now) xs ≡ trees.parts_below c.args.view.now.shared.now.tree.instances [] = ap (each (λ (r : Bor Part). r.now)) c.deref-part-items.ensures.value ∙ c.in-Ok.ensures.parts ∙ ap (trees.parts_below c.args.view.now.shared.now.tree.instances) c.root-root.ensures in
    let all = subst (AreAll g []) (sym are) (all_parts c.args.view.now.shared.now.tree g of.stands.instances []) in
    let at = mapped_at (IsAt g []) (λ (r : Bor Part). r.now) xs c.loop-part.part-index c.part-item.result c.loop-part-test.true c.part-item.is all.each_at in
    subst (AllByRecursion (NoneOf s b g)) (sym (each_more (λ (r : Bor Part). r.now.path) xs c.loop-part.part-index c.part-item.result c.loop-part-test.true c.part-item.is))
    (all_more (NoneOf s b g) (each (λ (r : Bor Part). r.now.path) (take c.loop-part.part-index xs)) part.path (c.loop-part.invariant g of)
    (none_here_of s b g part.path c.in_ok-some.some (c.in_ok-some.ensures g of at.of_instance) c.if-some.false))

pub returns : goal.returns
returns t c = λ g of.
    let s = c.args.view.now.program.now in
    let b = c.args.view.now.budget in
    let xs = c.deref-part-items.result.now in
    let ends : length xs ≤ c.loop-part.part-index = c.loop-part-test.false in
    let are : each (λ (r : Bor Part). r.now) xs ≡ trees.parts_below c.args.view.now.shared.now.tree.instances [] = ap (each (λ (r : Bor Part). r.now)) c.deref-part-items.ensures.value ∙ c.in-Ok.ensures.parts ∙ ap (trees.parts_below c.args.view.now.shared.now.tree.instances) c.root-root.ensures in
    let all = subst (AreAll g []) (sym are) (all_parts c.args.view.now.shared.now.tree g of.stands.instances []) in
    none_at_all s b g (subst (AllByRecursion (NoneOf s b g)) (ap (each (λ (r : Bor Part). r.now.path)) (take_all c.loop-part.part-index xs ends) ∙ sym (map-map (λ (p : Part). p.path) (λ (r : Bor Part). r.now) xs) ∙ all.paths) (c.loop-part.invariant g of))
