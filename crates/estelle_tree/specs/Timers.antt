-- Timers of transitions with a delay (ISO/IEC 9074: `delay` clauses).
use Rattle.std.specs.Prelude.{ℕ, ◌+◌, ◌-◌, ◌^◌, min, nat_le, Bool, false, not, List, [], ◌∷◌, map as each, fold, unwrap_or, Option, Some, None}
use Rattle.std.specs.FinMap as map
use Rattle.std.specs.Ordering.{nat_cmp, ordering_then}
use Rattle.std.specs.declared.cmp.Ordering.{Ordering}
use Rattle.estelle_tree.specs.declared.transition.Pair.{Pair}
use Rattle.estelle_tree.specs.declared.transition.Wanted.{Wanted}
use Rattle.estelle_tree.specs.Paths.{Path, path_cmp, is_inside}

abbrev pub pair : Path → ℕ → Pair
pair m n = record { path = m; trans = n }

-- by path, and then by the transition's number
abbrev pub pair_cmp : Pair → Pair → Ordering
pair_cmp a b = ordering_then (path_cmp a.path b.path) (nat_cmp a.trans b.trans)

-- when it started, and the bounds of the delay
pub record Timer : Type 0 where
  pub start : ℕ
  pub low : ℕ
  pub high : Option ℕ

abbrev pub Timers : Type 0
Timers = map.FinMap pair_cmp Timer

-- ---- moments

-- the last moment that there is
abbrev pub last_moment : ℕ
last_moment = 2 ^ 64 - 1

-- a later moment counts as the last
abbrev pub cap : ℕ → ℕ
cap n = min n last_moment

-- the first moment at which the transition may fire
abbrev pub due : Timer → ℕ
due t = cap (t.start + t.low)

-- the time after which a transition may fire is over
abbrev pub low_is_over : ℕ → Option Timer → Bool
low_is_over now None = false
low_is_over now (Some t) = nat_le (due t) now

-- a delay that ends is over
abbrev pub ends_by : ℕ → ℕ → Option ℕ → Bool
ends_by now start None = false
ends_by now start (Some high) = nat_le (cap (start + high)) now

-- the time after which a transition must be counted is over
abbrev pub high_is_over : ℕ → Option Timer → Bool
high_is_over now None = false
high_is_over now (Some t) = ends_by now t.start t.high

abbrev pub least : List ℕ → Option ℕ
least [] = None
least (n ∷ ns) = Some (fold min n ns)

-- the least of the moments from which on a transition that has a timer may fire
abbrev pub next_due : Timers → Option ℕ
next_due timers = least (each due (map.values timers))

-- ---- how timers start and are kept

-- an enabled transition has a timer: the one that runs, or one that starts now
abbrev pub timer_of : ℕ → Timers → Wanted → Timer
timer_of now running w = unwrap_or (map.get running (pair w.path w.trans)) (record { start = now; low = w.low; high = w.high })

-- At and below the system the timers are those of the enabled transitions; elsewhere they stay.
abbrev pub renewed : Path → ℕ → List Wanted → Timers → Timers
renewed system now enabled running =
    fold (λ timers w. map.insert timers (pair w.path w.trans) (timer_of now running w))
    (map.retain_keys running (λ p. not (is_inside system p.path)))
    enabled
