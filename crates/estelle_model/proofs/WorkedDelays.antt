-- An example of how timers are renewed: the system /1 selects at the moment 5.
-- The transition /1:2 is found enabled again, /1/1:1 is found enabled for the first time, /1:3 is no longer enabled,
-- and /2:1 is a transition of another system.
use Rattle.std.proofs.Common.{◌≡◌, ℕ, [], ◌∷◌, Some, None, refl, sym, ap}
use Rattle.std.specs.Prelude.{not, if◌then◌else◌}
use Rattle.std.specs.FinMap as map
use Rattle.estelle_tree.specs.declared.transition.Pair.{Pair}
use Rattle.estelle_tree.specs.declared.transition.Wanted.{Wanted}
use Rattle.estelle_tree.specs.Paths.{is_inside}
use Rattle.estelle_tree.specs.Timers.{pair, Timer, Timers, timer_of}
use Rattle.estelle_model.specs.Subject.{Subject}
use Rattle.estelle_model.specs.Situation.{Situation}
use Rattle.estelle_model.specs.Delays.{wanted, renew}
use Rattle.estelle_model.proofs.Pairs.{pairs_total, pairs_apart}

-- the timer of /1:2 runs since 3; E1 was 4 then, and E2 was 7
abbrev running : Timer
running = record { start = 3; low = 4; high = Some 7 }

abbrev other : Timer
other = record { start = 1; low = 9; high = None }

-- with a running timer nothing of the delay is evaluated, and the bounds are told as 0
abbrev kept : Wanted
kept = record { path = 1 ∷ []; trans = 2; low = 0; high = Some 0 }

-- `delay(2, *)`
abbrev new : Wanted
new = record { path = 1 ∷ 1 ∷ []; trans = 1; low = 2; high = None }

module _ (s : Subject) (budget : ℕ) (g : Situation)
    (first : map.get g.timers (pair (1 ∷ []) 2) ≡ Some running) (second : map.get g.timers (pair (1 ∷ 1 ∷ []) 1) ≡ None)
    (third : map.get g.timers (pair (1 ∷ []) 3) ≡ Some other) (elsewhere : map.get g.timers (pair (2 ∷ []) 1) ≡ Some other)
    (wants : wanted s budget g (1 ∷ []) ≡ kept ∷ new ∷ []) where
  abbrev after : Situation
  after = renew s budget g (1 ∷ []) 5

  abbrev outside : Timers
  outside = map.retain_keys g.timers (λ p. not (is_inside (1 ∷ []) p.path))

  outside_is : (q : Pair) → map.get outside q ≡ if not (is_inside (1 ∷ []) q.path) then map.get g.timers q else None
  outside_is q = map.get-retain_keys g.timers (λ p. not (is_inside (1 ∷ []) p.path)) q (λ x e. ap (λ (p : Pair). not (is_inside (1 ∷ []) p.path)) (sym (pairs_apart q x e)))

  timers_are : after.timers ≡ map.insert (map.insert outside (pair (1 ∷ []) 2) (timer_of 5 g.timers kept)) (pair (1 ∷ 1 ∷ []) 1) (timer_of 5 g.timers new)
  timers_are = simp wants

  pub moment : after.now ≡ 5
  moment = refl

  -- the timer that runs is kept
  pub timer_kept : map.get after.timers (pair (1 ∷ []) 2) ≡ Some running
  timer_kept = simp (timers_are, map.get-insert {X = Timer} pairs_total, first)

  -- another starts now
  pub timer_started : map.get after.timers (pair (1 ∷ 1 ∷ []) 1) ≡ Some (record { start = 5; low = 2; high = None })
  timer_started = simp (timers_are, map.get-insert {X = Timer} pairs_total, second)

  -- what is no longer enabled has none
  pub timer_dropped : map.get after.timers (pair (1 ∷ []) 3) ≡ None
  timer_dropped = simp (timers_are, map.get-insert {X = Timer} pairs_total, outside_is)

  -- the timers of another system stay
  pub timer_elsewhere : map.get after.timers (pair (2 ∷ []) 1) ≡ Some other
  timer_elsewhere = simp (timers_are, map.get-insert {X = Timer} pairs_total, outside_is, elsewhere)
