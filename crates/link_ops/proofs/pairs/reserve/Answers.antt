use Rattle.std.proofs.Common.{◌≡◌, ◌∙◌}
use Rattle.link_ops.proofs.Changes.{tied-more, seen-more}
use Rattle.link_ops.proofs.pairs.reserve.Goals as goal

pub returns-clause-tied : goal.returns-clause-tied
returns-clause-tied c =
    let first = c.reserve_pairs in
    let said = c.reserve.ensures in
    tied-more first.new.points c.reserve.new.points first.new.pairs.items first.ensures.tied (λ k a is. said.points k ∙ is) said.sound said.links

pub returns-clause-seen : goal.returns-clause-seen
returns-clause-seen c =
    let first = c.reserve_pairs in
    let said = c.reserve.ensures in
    seen-more first.new.points c.reserve.new.points first.new.pairs.items first.ensures.tied (λ k a is. said.points k ∙ is) ∙ first.ensures.seen
