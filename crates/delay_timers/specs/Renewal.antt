-- The steps of a renewal.
use Rattle.std.specs.Prelude.{◌≡◌, ℕ, Bool, not, if◌then◌else◌, List, [], ◌∷◌, ◌++◌, map as each, filter, fold, None, ⊤}
use Rattle.std.specs.List.{list_any}
use Rattle.std.specs.FinMap as map
use Rattle.std.specs.Map.{keys_of}
use Rattle.std.specs.Ordering.{eq_by_cmp}
use Rattle.estelle_tree.specs.declared.transition.Pair.{Pair}
use Rattle.estelle_tree.specs.declared.transition.Wanted.{Wanted}
use Rattle.estelle_tree.specs.Paths.{Path, is_inside}
use Rattle.estelle_tree.specs.Timers.{Timer, Timers, pair, pair_cmp}
use Rattle.delay_timers.specs.Moments.{pair_of}
use Rattle.delay_timers.specs.Kept.{Key, Row}

-- the timer that starts now
abbrev pub started : ℕ → Wanted → Timer
started now w = record { start = now; low = w.low; high = w.high }

-- the pair is one of these
abbrev pub is_among : List Pair → Pair → Bool
is_among ps q = list_any (λ p. eq_by_cmp pair_cmp q p) ps

-- each of the transitions gets a timer
abbrev pub all_started : ℕ → List Wanted → Timers → Timers
all_started now ws timers = fold (λ ts w. map.insert ts (pair_of w) (started now w)) timers ws

-- none of them has one
abbrev pub CanStart : ℕ → List Wanted → Timers → Type 0
CanStart now [] timers = ⊤
CanStart now (w ∷ ws) timers = (map.get timers (pair_of w) ≡ None) × CanStart now ws (map.insert timers (pair_of w) (started now w))

abbrev pub all_dropped : List Pair → Timers → Timers
all_dropped ps timers = fold (λ ts p. map.remove ts p) timers ps

-- the transitions that have no timer
abbrev pub lacking : Timers → List Wanted → List Wanted
lacking timers ws = filter (λ w. not (map.contains_key timers (pair_of w))) ws

-- those of an instance that have a timer and are not wanted
abbrev pub unwanted_of : Timers → Path → List ℕ → List Pair
unwanted_of wanted p ns = each (pair p) (filter (λ n. not (map.contains_key wanted (pair p n))) ns)

-- those of the instances as far as they are inside of the system
abbrev pub unwanted_run : Timers → Path → List (Key × Row) → List Pair
unwanted_run wanted system [] = []
unwanted_run wanted system (e ∷ es) = if is_inside system e.0.items then unwanted_of wanted e.0.items (keys_of e.1.entries) ++ unwanted_run wanted system es else []
