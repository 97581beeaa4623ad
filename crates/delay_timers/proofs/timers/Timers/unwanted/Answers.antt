use Rattle.std.proofs.Common.{◌≡◌, ◌&&◌, not, false, sym, ap, ◌∙◌}
use Rattle.std.specs.FinMap as map
use Rattle.estelle_tree.specs.Paths.{is_inside}
use Rattle.delay_timers.specs.Renewal.{is_among, unwanted_run}
use Rattle.delay_timers.proofs.Walk.{walk, ended, over_at_end, over_past}
use Rattle.delay_timers.proofs.timers.Timers.unwanted.Goals as goal
use Rattle.delay_timers.proofs.timers.Timers.unwanted.Goals.{in-Some+then-not-starts_with, in_default}

pub returns : goal.returns
returns c = λ q.
    let wanted = c.args.wanted.now in
    let system = c.args.system.now in
    let rows = c.self.inside.rows in
    let all = ap (λ es. is_among (unwanted_run wanted system es) q) (c.range-rest.ensures.between tt)
    ∙ walk wanted q system c.in_ok-from.from (c.in_ok-from.ensures.items ∙ c.items.ensures) rows c.self.invariant.ordered
    ∙ ap (λ m. is_inside system q.path && map.contains_key m q && not (map.contains_key wanted q)) c.self.view_is in
    elim c.match-next.branch [
      | in-Some+then-not-starts_with w ↦
          let out : is_inside system w.in-Some.path.now.items ≡ false = ap (λ s. is_inside s w.in-Some.path.now.items) (sym w.items-in-Some.ensures) ∙ ap (λ p. is_inside w.items-in-Some.result.now p) (sym w.as_slice.ensures.value) ∙ sym w.starts_with.ensures.value ∙ w.if-not-starts_with.true in
          ended c.loop-path.pairs.items (unwanted_run wanted system c.loop-path.rest) _ c.loop-path.invariant (over_past wanted system c.loop-path.rest (w.in-Some.path.now, w.in-Some.row.now) c.next.new.self w.in-Some.ensures.steps out) q ∙ all
      | in_default w ↦ ended c.loop-path.pairs.items (unwanted_run wanted system c.loop-path.rest) _ c.loop-path.invariant (over_at_end wanted system c.loop-path.rest w.in_default.ensures.steps.0) q ∙ all
    ]
