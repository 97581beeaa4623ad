use Rattle.std.proofs.Common.{refl, sym, ap, ◌∙◌}
use Rattle.std.specs.FinMap as map
use Rattle.estelle_tree.specs.declared.transition.Pair.{Pair}
use Rattle.estelle_tree.specs.Timers.{pair}
use Rattle.delay_timers.proofs.Seen.{seen_take}
use Rattle.delay_timers.proofs.Changes.{kept_same, kept_take, untouched, own_path}
use Rattle.delay_timers.proofs.timers.Timers.drop_one.Goals as goal

pub invariant_of-self : goal.invariant_of-self
invariant_of-self c =
    let k : Pair = pair c.items.result.now c.args.trans in
    kept_same c.self.inside.rows c.take.new.rows c.self.inside.dues c.self.inside.dues c.self.invariant c.take.ensures.ordered (untouched c.self.inside.rows c.take.new.rows k (sym c.in_default.ensures.value) c.take.ensures.after) refl

pub returns-in_default : goal.returns-in_default
returns-in_default c =
    let k : Pair = pair c.items.result.now c.args.trans in
    seen_take c.self.inside.rows c.take.new.rows k c.self.invariant.ordered c.take.ensures.ordered c.take.ensures.after ∙ ap (λ m. map.remove m k) c.self.view_is ∙ ap (λ p. map.remove c.args.self.now (pair p c.args.trans)) c.items.ensures

pub invariant_of-self-2 : goal.invariant_of-self-2
invariant_of-self-2 c =
    let k : Pair = pair c.items.result.now c.args.trans in
    kept_take c.self.inside.rows c.take.new.rows c.self.inside.dues c.remove.new.self k c.in-Some.running (record { moment = c.due-moment.result; path = c.in-Some.running.path; trans = c.args.trans }) c.self.invariant c.take.ensures.ordered c.take.ensures.after
    (sym c.in-Some.ensures.value) c.due-moment.ensures (own_path c.self.inside.rows c.self.inside.dues c.self.invariant k c.in-Some.running (sym c.in-Some.ensures.value)) refl c.remove.ensures.updates

pub returns : goal.returns
returns c =
    let k : Pair = pair c.items.result.now c.args.trans in
    seen_take c.self.inside.rows c.take.new.rows k c.self.invariant.ordered c.take.ensures.ordered c.take.ensures.after ∙ ap (λ m. map.remove m k) c.self.view_is ∙ ap (λ p. map.remove c.args.self.now (pair p c.args.trans)) c.items.ensures
