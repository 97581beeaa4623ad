use Rattle.std.proofs.Common.{◌≡◌, ◌∙◌, ◌+◌, ◌<◌, ◌^◌, ◌++◌, List, length, refl, sym, ap, subst, arith}
use Rattle.std.specs.Prelude.{reverse, true}
use Rattle.std.proofs.lemmas.List.{reverse-reverse}
use Rattle.queue_store.specs.Queues.{is_declared}
use Rattle.estelle_model.specs.declared.effect.Effect.{Effect}
use Rattle.estelle_model.specs.declared.job.Outcome.{Outcome}
use Rattle.effect_log.specs.Putting.{log_of}
use Rattle.effect_log.specs.Rooms.{outputs_in, HasRoomForAll}
use Rattle.effect_log.specs.Underway.{head_taken}
use Rattle.effect_log.proofs.Making.{if-some}
use Rattle.effect_log.proofs.Progress.{with_list}
use Rattle.effect_log.proofs.Applied.{received-is, head-declared, may_begin, put-list, stands-after, outs-after-put, drops-after-put, arrivals-put}
use Rattle.effect_log.proofs.firing.apply.Goals as goal

pub take_head-requires : goal.take_head-requires
take_head-requires g c =
    let stands = c.requires.1.1.0 in
    let answers = c.requires.1.1.1.0 in
    let ip = c.received_at-ip.ensures ∙ received-is (g.D.Disciplines.subject c.args.disciplines.now) g.before c.args.shared.now c.args.done.path c.args.done.trans stands in
    if-some c.received_at-ip.result (λ k. is_declared (record { path = c.args.done.path; ip = k }) c.args.shared.now.queues.queues ≡ true) (λ k is.
    head-declared (g.D.Disciplines.subject c.args.disciplines.now) g.before c.args.done c.in-Ran.image c.in-Ran.effects c.in-Ran.is answers c.args.shared.now c.args.notes.now stands k (sym ip ∙ is))

pub turn-requires : goal.turn-requires
turn-requires g c =
    let room = subst (λ (o : Outcome). HasRoomForAll (log_of o) c.args.shared.now c.args.notes.now) c.in-Ran.is c.requires.1.1.1.1.0 in
    let none = ap length room.no_log in
    omega (arith, room.log, none)

pub put-requires : goal.put-requires
put-requires g c =
    let stands = c.requires.1.1.0 in
    let answers = c.requires.1.1.1.0 in
    let room = subst (λ (o : Outcome). HasRoomForAll (log_of o) c.args.shared.now c.args.notes.now) c.in-Ran.is c.requires.1.1.1.1.0 in
    let numbers = subst (λ (o : Outcome). c.args.shared.now.outputs + outputs_in (log_of o) < 2 ^ 64) c.in-Ran.is c.requires.1.1.1.1.1 in
    let ip = c.received_at-ip.ensures ∙ received-is (g.D.Disciplines.subject c.args.disciplines.now) g.before c.args.shared.now c.args.done.path c.args.done.trans stands in
    let queues = c.take_head.ensures.queues ∙ ap (λ k. head_taken c.args.done.path k c.args.shared.now.queues.queues) ip in
    let left : c.in-Ran.effects ≡ reverse c.turn.new.into.items =
    sym (ap reverse (c.turn.ensures.items ∙ ap (λ (es : List Effect). es ++ reverse c.in-Ran.effects) room.no_log) ∙ reverse-reverse c.in-Ran.effects) in (
      with_list (g.D.Disciplines.subject c.args.disciplines.now) _ _ c.in-Ran.effects (reverse c.turn.new.into.items) left
          (may_begin (g.D.Disciplines.subject c.args.disciplines.now) g.before c.args.done c.in-Ran.image c.in-Ran.effects c.in-Ran.is answers c.args.shared.now c.args.notes.now stands _ _ room numbers refl refl refl queues c.take_head.ensures.spare c.take_head.ensures.room refl),
      refl,
    )

pub returns-in-Ran : goal.returns-in-Ran
returns-in-Ran g c =
    let stands = c.requires.1.1.0 in
    let answers = c.requires.1.1.1.0 in
    let room = subst (λ (o : Outcome). HasRoomForAll (log_of o) c.args.shared.now c.args.notes.now) c.in-Ran.is c.requires.1.1.1.1.0 in
    let numbers = subst (λ (o : Outcome). c.args.shared.now.outputs + outputs_in (log_of o) < 2 ^ 64) c.in-Ran.is c.requires.1.1.1.1.1 in
    let ip = c.received_at-ip.ensures ∙ received-is (g.D.Disciplines.subject c.args.disciplines.now) g.before c.args.shared.now c.args.done.path c.args.done.trans stands in
    let queues = c.take_head.ensures.queues ∙ ap (λ k. head_taken c.args.done.path k c.args.shared.now.queues.queues) ip in
    let left : c.in-Ran.effects ≡ reverse c.turn.new.into.items =
    sym (ap reverse (c.turn.ensures.items ∙ ap (λ (es : List Effect). es ++ reverse c.in-Ran.effects) room.no_log) ∙ reverse-reverse c.in-Ran.effects) in
    let been = c.put.ensures
    (with_list (g.D.Disciplines.subject c.args.disciplines.now) _ _ c.in-Ran.effects (reverse c.turn.new.into.items) left
    (may_begin (g.D.Disciplines.subject c.args.disciplines.now) g.before c.args.done c.in-Ran.image c.in-Ran.effects c.in-Ran.is answers c.args.shared.now c.args.notes.now stands _ _ room numbers refl refl refl queues c.take_head.ensures.spare c.take_head.ensures.room refl)) in
    let put = put-list _ _ c.in-Ran.effects _ _ _ _ _ _ (sym left) been in
    record {
      stands = stands-after (g.D.Disciplines.subject c.args.disciplines.now) g.before c.args.done c.in-Ran.image c.in-Ran.effects c.in-Ran.is answers c.args.shared.now c.args.notes.now stands _ c.put.new.notes c.put.new.shared put;
      outs = put.outs refl ∙ ap (λ os. c.args.notes.now.outs.items ++ os) (outs-after-put (g.D.Disciplines.subject c.args.disciplines.now) g.before c.args.done c.in-Ran.image c.in-Ran.effects c.in-Ran.is answers c.args.shared.now c.args.notes.now stands);
      drops = put.drops refl ∙ ap (λ ns. c.args.notes.now.drops.items ++ ns) (drops-after-put (g.D.Disciplines.subject c.args.disciplines.now) g.before c.args.done c.in-Ran.image c.in-Ran.effects c.in-Ran.is answers c.args.shared.now c.args.notes.now stands);
      arrivals = put.arrivals ∙ ap (λ ps. c.args.notes.now.arrivals.items ++ ps) (arrivals-put (g.D.Disciplines.subject c.args.disciplines.now) g.before c.args.done c.in-Ran.image c.in-Ran.effects c.in-Ran.is answers c.args.shared.now c.args.notes.now stands);
      rooms = put.rooms;
      dropped = put.dropped;
      log = put.log;
      points = put.points;
    }
