use Rattle.std.proofs.Common.{◌≡◌, length, Some, ◌++◌, ◌∷◌, [], refl, ap, arith, ◌∙◌}
use Rattle.std.proofs.lemmas.List.Elements.{filter_map-append}
use Rattle.std.specs.Option.{option_map}
use Rattle.link_ops.specs.Pairs.{link_of, seen}
use Rattle.link_ops.proofs.Changes.{tied-push, seen-same}
use Rattle.link_ops.proofs.pairs.push.Goals as goal

pub returns-clause-tied : goal.returns-clause-tied
returns-clause-tied c =
    let w = c.set_both.ensures in
    let old = c.args.pairs.now in
    let size : c.len.result ≡ length old.items = omega (arith, c.len.ensures, old.ok.0) in
    rw c.push_reserved.ensures.items
    (tied-push c.args.points.now c.set_both.new.points old.items c.requires.tied w.sound w.points c.args.pair c.requires.may (λ k r end. w.written k r end ∙ ap Some size) w.others)

pub returns-clause-seen : goal.returns-clause-seen
returns-clause-seen c =
    let w = c.set_both.ensures in
    let old = c.args.pairs.now in
    rw c.push_reserved.ensures.items
    (seen-same c.args.points.now c.set_both.new.points old.items c.requires.tied w.sound w.points (old.items ++ Some c.args.pair ∷ [])
    ∙ filter_map-append (option_map (link_of c.args.points.now)) old.items (Some c.args.pair ∷ []))
