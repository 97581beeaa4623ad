-- What every effect keeps as long as an output is not moved, every event keeps.
use Rattle.std.proofs.Common.{◌≡◌, ◌⊎◌, ℕ, zero, suc, Bool, List, [], ◌∷◌, ◌++◌, take, Ok, Err, Option, Some, None, refl, ap, subst, inl, inr}
use Rattle.std.specs.FinMap as map
use Rattle.pascal_values.specs.declared.value.Value.{Value}
use Rattle.estelle_tree.specs.declared.link.IpAddr.{IpAddr}
use Rattle.estelle_tree.specs.Paths.{Path}
use Rattle.estelle_tree.specs.Timers.{pair}
use Rattle.estelle_tree.specs.Queues as queues
use Rattle.estelle_model.specs.declared.effect.Out.{Out}
use Rattle.estelle_model.specs.declared.event.Event.{Event}
use Rattle.estelle_model.specs.declared.event.Event.TheVariants.{Start, Select, Fire, Fault}
use Rattle.estelle_model.specs.Core.{Core}
use Rattle.estelle_model.specs.Steps.{StepResult}
use Rattle.estelle_model.specs.Blocks.{fresh}
use Rattle.estelle_model.specs.Clauses.{fire_step, start_step}
use Rattle.estelle_model.specs.Effects.{StatementEffect, Change, core_after, core_kept}
use Rattle.estelle_model.specs.Transitions.{Transition, When}
use Rattle.estelle_model.specs.Subject.{Subject}
use Rattle.estelle_model.specs.Situation.{Waiting, Situation, Acting, on_situation, acting_after, mail_after, made_after}
use Rattle.estelle_model.specs.Queues.{Found, NotNeeded, Head, Absent, one_queue, received}
use Rattle.estelle_model.specs.Firing.{Firing, Ran, Failed, Undefined, begun, done, untimed, taken, fire_with, fire_found, fire_of, fire, transition_at, start, bare}
use Rattle.estelle_model.specs.Jobs.{taken_by}
use Rattle.estelle_model.specs.Runs.{HasRun, fired, next, Applies, Goes, after_events}
use Rattle.estelle_model.proofs.Alike.{Same, OutcomeAlike}
use Rattle.estelle_model_legality.proofs.Members.{Has}
use Rattle.estelle_model_fates.specs.Order.{moves, Watched, on_watched, watched, moved_of, values_of, moved_with, moved_by, moved_from}
use Rattle.estelle_model_fates.proofs.EveryBlock.{MayBeMade, IsKept, fire_step_alike, start_step_alike}

pub has_left : {A : Type 0} (xs ys : List A) (x : A) → Has xs x → Has (xs ++ ys) x
has_left [] ys x h = absurd h
has_left (z ∷ xs) ys x (inl e) = inl e
has_left (z ∷ xs) ys x (inr h) = inr (has_left xs ys x h)

pub has_right : {A : Type 0} (xs ys : List A) (x : A) → Has ys x → Has (xs ++ ys) x
has_right [] ys x h = h
has_right (z ∷ xs) ys x h = inr (has_right xs ys x h)

-- what holds of instances and links, mail and number of outputs, and after each effect that does not move the output, and each change, holds again
pub record IsLasting (i : ℕ) (K : Core → List Waiting → ℕ → Type 0) : Type 0 where
  pub effect : (e : StatementEffect) (g : Situation) → MayBeMade e g.core → K g.core g.mail g.made → Has (moves e g) i ⊎ K (core_after e g.core) (mail_after e g.core.links g.made g.mail) (made_after e g.made)
  pub change : (p : Path) (change : Change) (c : Core) (mail : List Waiting) (made : ℕ) → K c mail made → K (core_kept p change c) mail made

-- what still waits once an event has consumed what it receives
abbrev pub left_by : Subject → Situation → Event → List Waiting
left_by s g (Fire m n outs drops) = (taken_by s g m (transition_at s n (map.get g.core.instances m))).mail
left_by s g _ = g.mail

-- what holds without the head of a queue too
module _ (K : Core → List Waiting → ℕ → Type 0) (s : Subject) (without : (belongs : IpAddr → Bool) (c : Core) (mail : List Waiting) (made : ℕ) → K c mail made → K c (queues.without_head belongs mail) made) where
  taken_left : (g : Situation) (m : Path) (o : Option When) → K g.core g.mail g.made → K g.core (taken s g m o).mail g.made
  taken_left g m None k = k
  taken_left g m (Some w) k = without (one_queue s g.core.instances (record { path = m; ip = w.ip })) g.core g.mail g.made k

  by_left : (g : Situation) (m : Path) (o : Option Transition) → K g.core g.mail g.made → K g.core (taken_by s g m o).mail g.made
  by_left g m None k = k
  by_left g m (Some t) k = taken_left g m t.when k

  pub left_lasts : (g : Situation) (e : Event) → K g.core g.mail g.made → K g.core (left_by s g e) g.made
  left_lasts g (Start outs drops) k = k
  left_lasts g (Select system now takes) k = k
  left_lasts g (Fire m n outs drops) k = by_left g m (transition_at s n (map.get g.core.instances m)) k
  left_lasts g (Fault m n kind) k = k

module _ (i : ℕ) (K : Core → List Waiting → ℕ → Type 0) (lasting : IsLasting i K) where
  abbrev pub Holds : Situation → Type 0
  Holds g = K g.core g.mail g.made

  -- the output is moved, or it holds
  abbrev MovedOr : Watched → Type 0
  MovedOr w = Has w.moved i ⊎ Holds w.acting.situation

  abbrev IsWatched : Watched → Acting → Type 0
  IsWatched w a = (w.acting ≡ a) × MovedOr w

  does : (e : StatementEffect) (w : Watched) → MayBeMade e w.acting.situation.core → MovedOr w → MovedOr (on_watched.does e w)
  does e w may (inl h) = inl (has_left w.moved (moves e w.acting.situation) i h)
  does e w may (inr k) = elim (lasting.effect e w.acting.situation may k) [ inl h ↦ inl (has_right w.moved (moves e w.acting.situation) i h) | inr h ↦ inr h ]

  keeps : (p : Path) (change : Change) (w : Watched) → MovedOr w → MovedOr (on_watched.keeps p change w)
  keeps p change w (inl h) = inl h
  keeps p change w (inr k) = inr (lasting.change p change w.acting.situation.core w.acting.situation.mail w.acting.situation.made k)

  kept : IsKept Watched Acting on_watched on_situation IsWatched
  kept = record {
    faithful = record { does_core = λ e w. refl; keeps_core = λ p change w. refl };
    cores = λ w a r. ap (λ (x : Acting). x.situation.core) r.0;
    does = λ e w a may r. (ap (acting_after e) r.0, does e w may r.1);
    keeps = λ p change w a r. (ap (λ (x : Acting). on_situation.keeps p change x) r.0, keeps p change w r.1);
  }

  -- after a firing the output is moved, or it holds
  abbrev pub After : List ℕ → Firing → Type 0
  After moved (Ran after outs drops left) = Has moved i ⊎ Holds after
  After moved (Failed kind left) = Unit {0}
  After moved Undefined = Unit {0}

  of_outcome : (o : StepResult Watched (Unit {0})) (o' : StepResult Acting (Unit {0})) → OutcomeAlike Watched Acting IsWatched (Same {A = Unit {0}}) o o' → After (moved_of o) (done o')
  of_outcome (Ok r) (Ok q) h = subst (λ (a : Acting). Has r.1.state.moved i ⊎ Holds a.situation) h.1.state.0 h.1.state.1
  of_outcome (Err e) (Err f) h = tt
  of_outcome (Ok r) (Err f) h = absurd h
  of_outcome (Err e) (Ok q) h = absurd h

  module _ (s : Subject) (budget : ℕ) where
    pub start_after : Holds (bare s) → After (moved_of (start_step Watched on_watched s (fresh (watched (bare s)) budget))) (start s budget)
    start_after k = of_outcome (start_step Watched on_watched s (fresh (watched (bare s)) budget)) (start_step Acting on_situation s (fresh (begun (bare s)) budget))
        (start_step_alike Watched Acting on_watched on_situation IsWatched kept s (fresh (watched (bare s)) budget) (fresh (begun (bare s)) budget) (record { state = (refl, inr k); frames = refl; left = refl }))

    module _ (g : Situation) (m : Path) where
      in_taken : (o : Option When) → K g.core (taken s g m o).mail g.made → Holds (taken s g m o)
      in_taken None k = k
      in_taken (Some w) k = k

      with_after : (t : Transition) (values : List Value) → K g.core (taken s g m t.when).mail g.made → After (moved_of (fire_step Watched on_watched s m t values (fresh (watched (taken s g m t.when)) budget))) (fire_with s budget g m t values)
      with_after t values k = of_outcome (fire_step Watched on_watched s m t values (fresh (watched (taken s g m t.when)) budget)) (fire_step Acting on_situation s m t values (fresh (begun (taken s g m t.when)) budget))
          (fire_step_alike Watched Acting on_watched on_situation IsWatched kept s m t values (fresh (watched (taken s g m t.when)) budget) (fresh (begun (taken s g m t.when)) budget) (record { state = (refl, inr (in_taken t.when k)); frames = refl; left = refl }))

      found_after : (t : Transition) (f : Found) → K g.core (taken s g m t.when).mail g.made → After (moved_of (fire_step Watched on_watched s m t (values_of f) (fresh (watched (taken s g m t.when)) budget))) (fire_found s budget g m t f)
      found_after t NotNeeded k = with_after t [] k
      found_after t (Head item) k = with_after t item.values k
      found_after t Absent k = tt

      of_after : (o : Option Transition) → K g.core (taken_by s g m o).mail g.made → After (moved_with s budget g m o) (fire_of s budget g m o)
      of_after None k = tt
      of_after (Some t) k = found_after t (received s g m t.when) k

      fire_after : (n : ℕ) → K g.core (taken_by s g m (transition_at s n (map.get g.core.instances m))).mail g.made → After (moved_with s budget g m (transition_at s n (map.get g.core.instances m))) (fire s budget g m n)
      fire_after n k = by (fire_of s budget g m (transition_at s n (map.get g.core.instances m))) (of_after (transition_at s n (map.get g.core.instances m)) k)
        where
          by : (f : Firing) → After (moved_with s budget g m (transition_at s n (map.get g.core.instances m))) f → After (moved_with s budget g m (transition_at s n (map.get g.core.instances m))) (untimed m n f)
          by (Ran after outs drops left) h = h
          by (Failed kind left) h = tt
          by Undefined h = tt

    fired_after : (g : Situation) (m : Path) (n : ℕ) (outs : List Out) (drops moved : List ℕ) (f : Firing) → HasRun outs drops f → (Has moved i → ⊥) → After moved f → Holds (fired (pair m n) g f)
    fired_after g m n outs drops moved (Ran after outs' drops' left) ran never (inl h) = absurd (never h)
    fired_after g m n outs drops moved (Ran after outs' drops' left) ran never (inr h) = h
    fired_after g m n outs drops moved (Failed kind left) ran never h = absurd ran
    fired_after g m n outs drops moved Undefined ran never h = absurd ran

    -- an event that does not move the output
    pub event_lasts : (g : Situation) (e : Event) → Applies s budget g e → (Has (moved_by s budget g e) i → ⊥) → K g.core (left_by s g e) g.made → Holds (next s budget g e)
    event_lasts g (Start outs drops) applies never k = absurd applies
    event_lasts g (Select system now takes) applies never k = k
    event_lasts g (Fire m n outs drops) applies never k = fired_after g m n outs drops (moved_with s budget g m (transition_at s n (map.get g.core.instances m))) (fire s budget g m n) applies.ran never (fire_after g m n k)
    event_lasts g (Fault m n kind) applies never k = k

    -- ---- what holds without the head of a queue too

    module _ (without : (belongs : IpAddr → Bool) (c : Core) (mail : List Waiting) (made : ℕ) → K c mail made → K c (queues.without_head belongs mail) made) where
      pub goes_lasts : (es : List Event) (g : Situation) → Goes s budget g es → (Has (moved_from s budget g es) i → ⊥) → Holds g → (y : ℕ) → Holds (after_events s budget g (take y es))
      goes_lasts es g goes never k zero = k
      goes_lasts [] g goes never k (suc y) = k
      goes_lasts (e ∷ es) g goes never k (suc y) = goes_lasts es (next s budget g e) goes.2 (λ h. never (has_right (moved_by s budget g e) (moved_from s budget (next s budget g e) es) i h))
          (event_lasts g e goes.0 (λ h. never (has_left (moved_by s budget g e) (moved_from s budget (next s budget g e) es) i h)) (left_lasts K s without g e k)) y
