-- What a state stands for once a firing is put.
use Rattle.std.proofs.Common.{◌≡◌, ℕ, List, ◌++◌, sym, ap, subst, ◌∙◌}
use Rattle.std.specs.FinMap as map
use Rattle.estelle_tree.specs.declared.transition.Pair.{Pair}
use Rattle.estelle_tree.specs.Paths.{Path}
use Rattle.estelle_tree.specs.Timers.{Timers, pair}
use Rattle.estelle_model.specs.declared.effect.Out.{Out}
use Rattle.estelle_model.specs.declared.job.Done.{Done}
use Rattle.estelle_model.specs.Situation.{Situation}
use Rattle.effect_log.specs.Putting.{after_put}
use Rattle.situation_images.specs.Putting.{IsPutIn, arrivals_of}
use Rattle.situation_state.specs.declared.state.State.{State}
use Rattle.situation_state.specs.At.{IsAt, NothingNoted}
use Rattle.situation_state.specs.Firings.{MayFire, IsFired}
use Rattle.situation_state.proofs.At.{stands_later}
use Rattle.situation_state.proofs.Counted.{put_so, rest_same}

-- what was put where nothing was noted is what the notes tell
pub fired_so : (g : Situation) (old new : State) (done : Done) → NothingNoted old.notes → new.timers ≡ map.remove old.timers (pair done.path done.trans) → IsPutIn old.program.now g new.shared old.notes new.notes done
    → new ≡ record old { shared = new.shared; timers = new.timers; notes = new.notes } → IsFired g old new done
fired_so g old new done none timers put rest = record {
  stands = put.stands;
  timers = timers;
  outs = put.outs ∙ ap (λ (xs : List Out). xs ++ (after_put old.program.now g done).outs) none.outs;
  drops = put.drops ∙ ap (λ (xs : List ℕ). xs ++ (after_put old.program.now g done).drops) none.drops;
  arrivals = put.arrivals ∙ ap (λ (xs : List Path). xs ++ arrivals_of old.program.now g done) none.arrivals;
  rest = rest;
}

-- the state stands for the situation after it once nothing is noted any more, with what is pending then
pub at_fired : (g : Situation) (ps pending : List Pair) (old new later : State) (done : Done) → MayFire g old done → IsAt g ps old → IsFired g old new done → NothingNoted later.notes → later ≡ record new { notes = later.notes }
    → IsAt (record (after_put old.program.now g done).situation { timers = map.remove g.timers (pair done.path done.trans); pending = pending }) ps later
at_fired g ps pending old new later done may at fired empty rest =
    let a = after_put old.program.now g done in
    let h = record a.situation { timers = map.remove g.timers (pair done.path done.trans); pending = pending } in
    let all : later ≡ record old { shared = new.shared; timers = new.timers; notes = later.notes } = rest ∙ ap (λ (x : State). record x { notes = later.notes }) fired.rest in
    subst (IsAt h ps) (sym all) (record {
      stands = stands_later old.program.now new.shared a.situation a.situation.now (map.remove g.timers (pair done.path done.trans)) pending fired.stands;
      timers = fired.timers ∙ ap (λ (ts : Timers). map.remove ts (pair done.path done.trans)) at.timers;
      left = at.left;
      moment = at.moment ∙ sym (rest_same old.program.now g done _ (put_so old.program.now g done may.may.ran may.may.answers)).now;
      empty = empty;
    })

-- what may be put may be put where others are pending
pub may_fire_left : (g : Situation) (c t : State) (done : Done) → t ≡ record c { untaken = t.untaken } → MayFire g c done → MayFire g t done
may_fire_left g c t done is h = subst (λ (x : State). MayFire g x done) (sym is) (record { may = h.may; empty = h.empty })
