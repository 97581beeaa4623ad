-- How timers are kept: by the path of the instance, and there by the transition; and their moments, in order.
use Rattle.std.specs.Prelude.{◌≡◌, ℕ, refl, Bool, false, nat_eq, List, map as each, flat_map, Option, Some, None, IfSome}
use Rattle.std.specs.Coded.{Coded, code_by, coded_ℕ, coded_list, coded_option, coded×}
use Rattle.std.specs.Ordering.{nat_cmp, ordering_then}
use Rattle.std.specs.FinMap as map
use Rattle.std.specs.BTreeMap as tree
use Rattle.std.specs.BTreeMap.{BTreeMap}
use Rattle.std.specs.BTreeSet as sorted
use Rattle.std.specs.BTreeSet.{BTreeSet}
use Rattle.std.specs.declared.cmp.Ordering.{Ordering}
use Rattle.std.specs.declared.vec.Vec.{Vec}
use Rattle.std.specs.declared.alloc.Global.{Global}
use Rattle.estelle_tree.specs.declared.transition.Pair.{Pair}
use Rattle.estelle_tree.specs.Paths.{Path, path_cmp}
use Rattle.estelle_tree.specs.Timers.{Timer, Timers, pair, due}
use Rattle.delay_timers.specs.declared.kept.Running.{Running}
use Rattle.delay_timers.specs.declared.kept.Due.{Due}

abbrev pub Key : Type 0
Key = Vec ℕ Global

-- the timers of an instance, by the transition's number
abbrev pub Row : Type 0
Row = BTreeMap ℕ Running

abbrev pub Rows : Type 0
Rows = BTreeMap Key Row

abbrev pub key_cmp : Key → Key → Ordering
key_cmp a b = path_cmp a.items b.items

-- ---- what is kept

abbrev pub row_of : Rows → Path → Option Row
row_of rows p = tree.get_by (λ k. path_cmp p k.items) rows

abbrev pub in_row : ℕ → Option Row → Option Running
in_row n None = None
in_row n (Some row) = tree.get nat_cmp row n

abbrev pub running_at : Rows → Pair → Option Running
running_at rows q = in_row q.trans (row_of rows q.path)

abbrev pub as_timer : Running → Timer
as_timer r = record { start = r.start; low = r.low; high = r.high }

-- ---- as a map

abbrev pub of_row : Path → List (ℕ × Running) → List (Pair × Timer)
of_row p es = each (λ e. (pair p e.0, as_timer e.1)) es

abbrev pub of_rows : List (Key × Row) → List (Pair × Timer)
of_rows es = flat_map (λ e. of_row e.0.items e.1.entries) es

abbrev pub seen : Rows → Timers
seen rows = map.from_entries (of_rows rows.entries)

abbrev pub pair_code : Coded Pair
pair_code = code_by (List ℕ × ℕ) (coded× (coded_list coded_ℕ) coded_ℕ) (λ p. (p.path, p.trans)) (λ p. record { path = p.0; trans = p.1 }) (λ _. refl)

abbrev pub timer_code : Coded Timer
timer_code = code_by (ℕ × (ℕ × Option ℕ)) (coded× coded_ℕ (coded× coded_ℕ (coded_option coded_ℕ))) (λ t. (t.start, (t.low, t.high))) (λ p. record { start = p.0; low = p.1.0; high = p.1.1 }) (λ _. refl)

abbrev pub timers_code : Coded Timers
timers_code = map.code pair_code timer_code

-- ---- the moments

abbrev pub due_cmp : Due → Due → Ordering
due_cmp a b = ordering_then (nat_cmp a.moment b.moment) (ordering_then (path_cmp a.path.items b.path.items) (nat_cmp a.trans b.trans))

abbrev pub is_due : ℕ → Option Running → Bool
is_due moment None = false
is_due moment (Some r) = nat_eq moment (due (as_timer r))

-- each timer has its moment among the moments, and there are no others
pub record IsKept (rows : Rows) (dues : BTreeSet Due) : Type 0 where
  pub ordered : tree.IsOrdered key_cmp rows
  pub own : (q : Pair) → IfSome (running_at rows q) (λ r. r.path.items ≡ q.path)
  pub told : (d : Due) → sorted.contains due_cmp dues d ≡ is_due d.moment (running_at rows (pair d.path.items d.trans))
