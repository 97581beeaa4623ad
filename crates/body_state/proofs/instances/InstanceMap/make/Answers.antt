use Rattle.std.proofs.Common.{◌≡◌, subst, sym}
use Rattle.std.specs.Prelude.{OnOk, not}
use Rattle.std.specs.FinMap as map
use Rattle.estelle_tree.specs.Paths.{Path, is_inside}
use Rattle.estelle_model.specs.Effects.{instances_after}
use Rattle.body_state.specs.declared.log.LogEntry.{LogEntry}
use Rattle.body_state.specs.Entries.{effect_of}
use Rattle.body_state.proofs.instances.InstanceMap.make.Goals as goal

pub returns-in-Create : goal.returns-in-Create
returns-in-Create c = subst (λ (e : LogEntry). OnOk c.create.result (c.create.new.self ≡ instances_after (effect_of e) c.args.self.now)) (sym c.in-Create.is) c.create.ensures

pub returns-in_ok-path-in-Remove : goal.returns-in_ok-path-in-Remove
unfolding instances_after
returns-in_ok-path-in-Remove c = subst (λ (e : LogEntry). OnOk c.remove.result (c.remove.new.self ≡ instances_after (effect_of e) c.args.self.now)) (sym c.in-Remove.is)
    (subst (λ (p : Path). OnOk c.remove.result (c.remove.new.self ≡ map.retain_keys c.args.self.now (λ q. not (is_inside p q)))) c.in_ok-path-in-Remove.ensures c.remove.ensures)
