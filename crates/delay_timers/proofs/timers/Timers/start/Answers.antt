use Rattle.std.specs.Prelude.{None}
use Rattle.std.proofs.Common.{◌≡◌, refl, ap, ◌∙◌}
use Rattle.std.specs.FinMap as map
use Rattle.estelle_tree.specs.declared.transition.Pair.{Pair}
use Rattle.estelle_tree.specs.Timers.{pair}
use Rattle.delay_timers.specs.declared.kept.Running.{Running}
use Rattle.delay_timers.specs.declared.kept.Due.{Due}
use Rattle.delay_timers.specs.Renewal.{started}
use Rattle.delay_timers.specs.Kept.{running_at}
use Rattle.delay_timers.proofs.Rows.{on_err}
use Rattle.delay_timers.proofs.Seen.{seen_same, seen_put}
use Rattle.delay_timers.proofs.Changes.{kept_same, kept_put, lacks, undone}
use Rattle.delay_timers.proofs.timers.Timers.start.Goals as goal

pub invariant_of-self : goal.invariant_of-self
invariant_of-self c = kept_same c.self.inside.rows c.put.new.rows c.self.inside.dues c.self.inside.dues c.self.invariant c.put.ensures.ordered c.in_err-put.ensures.err refl

pub returns-in_err-put-clause-err : goal.returns-in_err-put-clause-err
returns-in_err-put-clause-err c = on_err _ (seen_same c.self.inside.rows c.put.new.rows c.self.invariant.ordered c.put.ensures.ordered c.in_err-put.ensures.err ∙ c.self.view_is)

pub invariant_of-self-in-Ok : goal.invariant_of-self-in-Ok
invariant_of-self-in-Ok c =
    let k : Pair = pair c.items-path.result.now c.args.wanted.now.trans in
    let r : Running = record { start = c.args.now; low = c.args.wanted.now.low; high = c.args.wanted.now.high; path = c.in_ok-from_slice.field-0 } in
    let d : Due = record { moment = c.due.result; path = c.in_ok-from_slice-2.field-0; trans = c.args.wanted.now.trans } in
    let none : running_at c.self.inside.rows k ≡ None = lacks c.self.inside.rows c.self.invariant.ordered k (ap (λ m. map.get m k) c.self.view_is ∙ ap (λ p. map.get c.args.self.now (pair p c.args.wanted.now.trans)) c.items-path.ensures ∙ c.requires) in
    kept_put c.self.inside.rows c.put.new.rows c.self.inside.dues c.insert.new.self k r d c.self.invariant c.put.ensures.ordered c.in_ok-put.ensures.ok none
    c.in_ok-from_slice.ensures.items c.due.ensures c.in_ok-from_slice-2.ensures.items refl c.in-Ok.ensures.updates

pub returns-in-Ok-clause-ok : goal.returns-in-Ok-clause-ok
returns-in-Ok-clause-ok c =
    let k : Pair = pair c.items-path.result.now c.args.wanted.now.trans in
    let r : Running = record { start = c.args.now; low = c.args.wanted.now.low; high = c.args.wanted.now.high; path = c.in_ok-from_slice.field-0 } in
    seen_put c.self.inside.rows c.put.new.rows k r c.self.invariant.ordered c.put.ensures.ordered c.in_ok-put.ensures.ok ∙ ap (λ m. map.insert m k (started c.args.now c.args.wanted.now)) c.self.view_is
    ∙ ap (λ p. map.insert c.args.self.now (pair p c.args.wanted.now.trans) (started c.args.now c.args.wanted.now)) c.items-path.ensures

pub invariant_of-self-2 : goal.invariant_of-self-2
invariant_of-self-2 c =
    let k : Pair = pair c.items-path.result.now c.args.wanted.now.trans in
    let r : Running = record { start = c.args.now; low = c.args.wanted.now.low; high = c.args.wanted.now.high; path = c.in_ok-from_slice.field-0 } in
    let none : running_at c.self.inside.rows k ≡ None = lacks c.self.inside.rows c.self.invariant.ordered k (ap (λ m. map.get m k) c.self.view_is ∙ ap (λ p. map.get c.args.self.now (pair p c.args.wanted.now.trans)) c.items-path.ensures ∙ c.requires) in
    kept_same c.self.inside.rows c.take.new.rows c.self.inside.dues c.insert.new.self c.self.invariant c.take.ensures.ordered (undone c.self.inside.rows c.put.new.rows c.take.new.rows k r none c.in_ok-put.ensures.ok c.take.ensures.after) c.in_default.ensures.err

pub returns-clause-err : goal.returns-clause-err
returns-clause-err c =
    let k : Pair = pair c.items-path.result.now c.args.wanted.now.trans in
    let r : Running = record { start = c.args.now; low = c.args.wanted.now.low; high = c.args.wanted.now.high; path = c.in_ok-from_slice.field-0 } in
    let none : running_at c.self.inside.rows k ≡ None = lacks c.self.inside.rows c.self.invariant.ordered k (ap (λ m. map.get m k) c.self.view_is ∙ ap (λ p. map.get c.args.self.now (pair p c.args.wanted.now.trans)) c.items-path.ensures ∙ c.requires) in
    seen_same c.self.inside.rows c.take.new.rows c.self.invariant.ordered c.take.ensures.ordered (undone c.self.inside.rows c.put.new.rows c.take.new.rows k r none c.in_ok-put.ensures.ok c.take.ensures.after) ∙ c.self.view_is
