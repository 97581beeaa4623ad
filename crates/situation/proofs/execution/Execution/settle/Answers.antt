use Rattle.std.proofs.Common.{◌≡◌, [], ◌∷◌, ◌++◌, Some, sym, ap, subst, ◌∙◌, arith}
use Rattle.std.specs.Prelude.{map as each}
use Rattle.estelle_tree.specs.Paths.{Path}
use Rattle.estelle_model.specs.declared.event.Event.TheVariants.{Fire, Fault}
use Rattle.estelle_model.specs.declared.event.End.TheVariants.{Faulted}
use Rattle.situation_steps.specs.Systems.{after_firing}
use Rattle.situation_state.proofs.Ran.{ran_if}
use Rattle.situation.specs.declared.execution.Execution.{Execution}
use Rattle.situation.specs.Runs.{noted, ending}
use Rattle.situation.specs.Worlds.{now}
use Rattle.situation.proofs.Settled.{settled_fired, settled_failed, put_and_noted, its_own}
use Rattle.situation.proofs.execution.Execution.settle.Goals as goal

pub put-requires : goal.put-requires
put-requires g c = c.requires.may.may (ran_if c.args.done.outcome (sym c.in-None.ensures))

pub note_firing-requires : goal.note_firing-requires
note_firing-requires g c =
    let first = ap (λ (x : Execution g.row.H.Denot). x.history.spare) c.put.ensures.rest in
    let then = ap (λ (x : Execution g.row.H.Denot). x.history.spare) c.put_others.ensures.rest in
    let spare = c.requires.may.spare in
    omega (arith, first, then, spare)

pub end_at_limit-requires : goal.end_at_limit-requires
end_at_limit-requires g c =
    let first = ap (λ (x : Execution g.row.H.Denot). x.history.spare) c.put.ensures.rest in
    let then = ap (λ (x : Execution g.row.H.Denot). x.history.spare) c.put_others.ensures.rest in
    let last = c.note_firing.ensures.spare in
    let spare = c.requires.may.spare in
    omega (arith, first, then, last, spare)

pub fail-requires : goal.fail-requires
fail-requires g c = c.requires.may.spare

pub returns-in-None : goal.returns-in-None
returns-in-None g c =
    let old = c.args.self.now in
    let done = c.args.done in
    let own = its_own old c.args.at done c.requires.there c.in-Some.field-0 c.in-Some.ensures.value in
    let path_is = own.0 in
    let trans_is = own.1 in
    let f : Execution g.row.H.Denot = record old { flying = c.remove.new.self } in
    let m = c.put.new.self in
    let o = c.put_others.new.self in
    let q = c.note_firing.new.self in
    let n = c.end_at_limit.new.self in
    let systems = subst (λ (at : Path). o.systems.items ≡ each (after_firing at m.state.notes.arrivals.items) m.systems.items) path_is c.put_others.ensures.systems in
    let noted_is : q.history.entries ≡ o.history.entries ++ noted o.writer (Fire done.path done.trans o.state.notes.outs.items o.state.notes.drops.items) ∷ [] =
    c.note_firing.ensures.noted ∙ (λ i. o.history.entries ++ noted o.writer (Fire (path_is i) (trans_is i) o.state.notes.outs.items o.state.notes.drops.items) ∷ []) in
    settled_fired (now old) old c.args.at done n (sym c.in-None.ensures)
    (put_and_noted old c.args.at done (c.requires.may.may (ran_if done.outcome (sym c.in-None.ensures))) f m o q n c.in-Some.ensures.items c.put.ensures.put c.put.ensures.rest systems c.put_others.ensures.rest noted_is c.note_firing.ensures.empty c.note_firing.ensures.told c.note_firing.ensures.rest c.end_at_limit.ensures.noted c.end_at_limit.ensures.rest)

pub returns-in-Some-fault_in : goal.returns-in-Some-fault_in
returns-in-Some-fault_in g c =
    let old = c.args.self.now in
    let done = c.args.done in
    let own = its_own old c.args.at done c.requires.there c.in-Some.field-0 c.in-Some.ensures.value in
    let path_is = own.0 in
    let trans_is = own.1 in
    let n = c.fail.new.self in
    let kind = c.in-Some-fault_in.kind in
    let flying_is = sym (ap (λ (x : Execution g.row.H.Denot). x.flying) c.fail.ensures.rest) in
    let noted_is = c.fail.ensures.noted ∙ (λ i. (old.history.entries ++ noted old.writer (Fault (path_is i) (trans_is i) kind) ∷ []) ++ ending old.writer (Faulted kind) ∷ []) in
    let rest = c.fail.ensures.rest ∙ (λ i. record old { flying = flying_is i; history = n.history; end = Some (Faulted kind) }) in
    settled_failed (now old) old c.args.at done n kind (sym c.in-Some-fault_in.ensures) (record { noted = noted_is; rest = rest })
