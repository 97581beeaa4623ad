use Rattle.std.proofs.Common.{sym, ap, ◌∙◌}
use Rattle.std.specs.Option.{option_map}
use Rattle.std.specs.FinMap as map
use Rattle.estelle_tree.specs.Timers.{pair}
use Rattle.delay_timers.specs.Kept.{as_timer}
use Rattle.delay_timers.proofs.Seen.{get_seen, copied}
use Rattle.delay_timers.proofs.timers.Timers.find.Goals as goal

pub returns : goal.returns
returns c =
    let q = pair c.args.path.now c.args.trans in
    copied c.find.result ∙ ap (option_map as_timer) c.find.ensures ∙ sym (get_seen c.self.inside.rows c.self.invariant.ordered q) ∙ ap (λ m. map.get m q) c.self.view_is
