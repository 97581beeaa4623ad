use Rattle.std.proofs.Common.{◌≡◌, ◌++◌, ◌<◌, ◌≤◌, length, map, Bor, ap, ◌∙◌, arith, rules}
use Rattle.module_tree.specs.Trees as trees
use Rattle.estelle_model.specs.declared.image.Part.{Part}
use Rattle.situation.specs.Systems.{kept_part}
use Rattle.situation.proofs.Found.{more_found, found_all}
use Rattle.situation.proofs.systems.all_systems.Goals as goal

pub loop-part-preserved : goal.loop-part-preserved
loop-part-preserved c =
    let less : c.loop-part.part-index < length c.deref-part-items.result.now = omega arith in
    let added : c.add_system.new.systems.items ≡ c.loop-part.systems.items ++ kept_part c.args.state.now.program.now c.part-item.result.now = search rules in
    more_found c.args.state.now.program.now c.deref-part-items.result.now c.loop-part.part-index c.part-item.result c.loop-part.systems.items c.add_system.new.systems.items less c.part-item.is c.loop-part.invariant added

pub returns : goal.returns
returns c g stands legal =
    let ends : length c.deref-part-items.result.now ≤ c.loop-part.part-index = omega arith in
    let are : map (λ (x : Bor Part). x.now) c.deref-part-items.result.now ≡ trees.parts_below c.args.state.now.shared.tree.instances c.root-root.result =
    ap (map (λ (x : Bor Part). x.now)) c.deref-part-items.ensures.value ∙ c.in-Ok.ensures.parts in
    found_all c.args.state.now.program.now c.args.state.now.shared.tree g c.deref-part-items.result.now c.loop-part.part-index c.root-root.result c.loop-part.systems.items stands.instances legal c.root-root.ensures are ends c.loop-part.invariant
