-- Time: what a delay lets a transition do, and how timers start and are kept (ISO/IEC 9074: `delay` clauses).
use Rattle.std.specs.Prelude.{ℕ, Bool, true, false, not, ◌&&◌, ◌||◌, List, [], ◌∷◌, length, map as each, filter, flat_map, is_some, Option, Some, None}
use Rattle.std.specs.List.{list_any, range_with_len}
use Rattle.std.specs.FinMap as map
use Rattle.estelle_tree.specs.declared.transition.Pair.{Pair}
use Rattle.estelle_tree.specs.declared.transition.Wanted.{Wanted}
use Rattle.estelle_tree.specs.Timers.{pair, low_is_over, high_is_over, renewed}
use Rattle.estelle_model.specs.declared.job.Guard.{Guard}
use Rattle.estelle_model.specs.declared.job.Guard.TheVariants.{Off, On, Faulted}
use Rattle.estelle_tree.specs.Paths.{Path, is_inside}
use Rattle.estelle_model.specs.Core.{Instance}
use Rattle.estelle_model.specs.Bodies.{bodies}
use Rattle.estelle_model.specs.Transitions.{Transition}
use Rattle.estelle_model.specs.Subject.{Subject, transitions}
use Rattle.estelle_model.specs.Situation.{Situation}
use Rattle.estelle_model.specs.Firing.{transition_at, guard}

-- ---- transitions with a delay

abbrev pub is_on : Guard → Bool
is_on (On low high) = true
is_on Off = false
is_on (Faulted kind) = false

abbrev pub is_delayed : Option Transition → Bool
is_delayed None = false
is_delayed (Some t) = is_some t.delay

-- a transition of an instance has a delay
abbrev pub has_delay : Subject → Situation → Path → ℕ → Bool
has_delay s g m n = is_delayed (transition_at s n (map.get g.core.instances m))

-- some transition of the specification has one
abbrev pub has_delays : Subject → Bool
has_delays s = list_any (λ k. list_any (λ t. is_some t.delay) (transitions s k)) (range_with_len 0 (length (bodies s.specification)))

-- a transition may be selected: it is enabled, and it has no delay or has waited long enough
abbrev pub may : Subject → ℕ → Situation → Path → ℕ → Bool
may s budget g m n = is_on (guard s budget g m n) && (not (has_delay s g m n) || low_is_over g.now (map.get g.timers (pair m n)))

-- and it must be counted: it has no delay, or has waited as long as it may
abbrev pub must : Subject → ℕ → Situation → Path → ℕ → Bool
must s budget g m n = is_on (guard s budget g m n) && (not (has_delay s g m n) || high_is_over g.now (map.get g.timers (pair m n)))

-- ---- timers

-- the transitions of an instance that have a delay
abbrev pub delayed_of : Subject → Path × Instance → List Pair
delayed_of s e = filter (λ p. is_delayed (transition_at s p.trans (Some e.1))) (each (pair e.0) (range_with_len 1 (length (transitions s e.1.body))))

-- those of the instances at and below a system
abbrev pub delayed_in : Subject → Situation → Path → List Pair
delayed_in s g system = flat_map (delayed_of s) (map.entries (map.retain_keys g.core.instances (is_inside system)))

-- an enabled transition with a delay wants a timer
abbrev pub wanted_by : Pair → Guard → List Wanted
wanted_by p (On low high) = record { path = p.path; trans = p.trans; low = low; high = high } ∷ []
wanted_by p _ = []

-- the enabled transitions with a delay at and below a system, in the order of paths and then of transitions
abbrev pub wanted : Subject → ℕ → Situation → Path → List Wanted
wanted s budget g system = flat_map (λ p. wanted_by p (guard s budget g p.path p.trans)) (delayed_in s g system)

-- The moment is set. At and below the system the timers are those of the enabled transitions with a delay; elsewhere they stay.
abbrev pub renew : Subject → ℕ → Situation → Path → ℕ → Situation
renew s budget g system now = record g { now = now; timers = renewed system now (wanted s budget g system) g.timers }
