use Rattle.std.specs.FinMap as map
use Rattle.estelle_tree.specs.Paths.{is_inside}
use Rattle.std.proofs.Common.{◌&&◌, not, map as each, sym, ap, subst, ◌∙◌}
use Rattle.delay_timers.specs.Renewal.{CanStart, all_started, all_dropped}
use Rattle.delay_timers.proofs.Renewing.{all_can, lacking_can, renewal}
use Rattle.delay_timers.proofs.timers.Timers.renew.Goals as goal

pub of-requires : goal.of-requires
of-requires c = all_can c.args.now c.args.enabled.now c.requires

pub start_all-requires : goal.start_all-requires
start_all-requires c =
    subst (λ xs. CanStart c.args.now (each (λ w. w.now) xs) c.args.self.now) (sym c.deref.ensures.value)
    (subst (λ ws. CanStart c.args.now ws c.args.self.now) (sym c.in_ok-fresh.ensures) (lacking_can c.args.now c.args.self.now c.args.enabled.now c.requires))

pub returns-clause-ok : goal.returns-clause-ok
returns-clause-ok c =
    c.drop_all.ensures ∙ ap (λ ps. all_dropped ps c.start_all.new.self) c.deref-2.ensures.value
    ∙ ap (all_dropped c.in_ok-stale.stale.items) (c.in_ok-start_all.ensures.ok ∙ ap (λ ws. all_started c.args.now ws c.args.self.now) (ap (each (λ w. w.now)) c.deref.ensures.value ∙ c.in_ok-fresh.ensures))
    ∙ renewal c.args.system.now c.args.now c.args.enabled.now c.in_ok-stale.stale.items c.args.self.now
    (λ q. c.in_ok-stale.ensures q ∙ ap (λ t. is_inside c.args.system.now q.path && map.contains_key c.args.self.now q && not (map.contains_key t q)) c.in_ok-wanted.ensures)
