use Rattle.std.proofs.Common.{◌≡◌, ◌∙◌, ◌<◌, ◌-◌, ap, arith, [], ◌∷◌, ◌++◌}
use Rattle.estelle_tree.specs.Paths.{child}
use Rattle.module_tree.specs.Nodes.{latest, links, has_child, number_at}
use Rattle.module_tree.proofs.Linking.{births_at}
use Rattle.module_tree.proofs.Latest.{latest_le}
use Rattle.module_tree.proofs.Chains.{chain_start, chain_step, passes_where}
use Rattle.module_tree.proofs.nodes.backward_paths.Goals as goal

pub loop-number-init : goal.loop-number-init
loop-number-init g c =
    let has = has_child (links c.args.nodes.now.entries) c.args.path.now in
    let last : c.args.last ≡ latest has (births_at (links c.args.nodes.now.entries) c.args.path.now) = c.requires.last ∙ c.requires.linked.last c.args.path.now in
    record {
      listed = chain_start (child c.args.path.now) has _ c.args.last _ last c.new-paths.ensures.items;
      there = passes_where has _ c.args.last last;
    }

before : (g : _) (c : goal.In_ok-push g) → c.previous-number.result ≡ latest (has_child (links c.args.nodes.now.entries) c.args.path.now) (c.loop-number.number - 1)
before g c =
    c.previous-number.ensures ∙ ap (number_at (λ n. n.previous) (links c.args.nodes.now.entries)) (c.items.ensures ∙ c.in_ok-child.ensures)
    ∙ c.requires.linked.previous c.args.path.now c.loop-number.number (c.loop-number.invariant.there c.loop-number-test.true)

pub loop-number-smaller : goal.loop-number-smaller
loop-number-smaller g c =
    let is = before g c in
    let most = latest_le (has_child (links c.args.nodes.now.entries) c.args.path.now) (c.loop-number.number - 1) in
    let some = c.loop-number-test.true in
    let goes : c.previous-number.result < c.loop-number.number = omega (arith, is, most, some) in
    goes

pub loop-number-preserved : goal.loop-number-preserved
loop-number-preserved g c =
    let has = has_child (links c.args.nodes.now.entries) c.args.path.now in
    record {
      listed = chain_step (child c.args.path.now) has c.loop-number.number c.previous-number.result _ c.loop-number.paths.items c.push.new.self.items c.loop-number-test.true (c.loop-number.invariant.there c.loop-number-test.true) (before g c)
          (c.in_ok-push.ensures.items ∙ ap (λ p. c.loop-number.paths.items ++ p ∷ []) c.in_ok-child.ensures) c.loop-number.invariant.listed;
      there = passes_where has _ c.previous-number.result (before g c);
    }
