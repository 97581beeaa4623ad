-- What is left to do, in numbers.
use Rattle.std.proofs.Common.{◌≡◌, ℕ, suc, ◌+◌, ◌-◌, ◌*◌, ◌<◌, ◌≤◌, Bool, true, false, cond, List, map, Some, None, sym, ap, ◌∙◌, arith, length}
use Rattle.std.specs.Prelude.{count_by, slice_get}
use Rattle.std.proofs.lemmas.List.{length-set, length-map}
use Rattle.std.proofs.lemmas.List.Sums.{sum_by-set, count_by-le-length}
use Rattle.std.proofs.lemmas.Option.{slice_get_within, get_or_from_slice_get}
use Rattle.run_history.specs.Histories.{fires}
use Rattle.situation_steps.specs.declared.systems.System.{System}
use Rattle.situation_steps.specs.Systems.{after_selection, after_wait}
use Rattle.situation.specs.declared.execution.Execution.{Execution}
use Rattle.situation.specs.Worlds.{work, left_to_do}

-- how many systems await a selection
abbrev awaiting : List System → ℕ
awaiting = count_by (λ x. x.awaits)

-- ---- numbers

-- a step that leaves the counts of firings and systems leaves less to do, where it leaves fewer waits and systems that await
less_same : (f g t l l' a b x y : ℕ) → f ≡ g → l ≡ l' → a < b → x ≡ 1 + ((t - f) * (2 * l + 3) + a) → y ≡ 1 + ((t - g) * (2 * l' + 3) + b) → x < y
less_same f g t l l' a b x y count same lt x_is y_is =
    let fewer : (t - f) * (2 * l + 3) ≡ (t - g) * (2 * l' + 3) = (λ i. (t - count i) * (2 * same i + 3)) in
    omega (arith, fewer, lt, x_is, y_is)

-- and one that fires leaves less in any case
less_more : (f g t l l' a b x y : ℕ) → f ≡ g + 1 → g < t → l ≡ l' → a ≤ l + 1 + l → x ≡ 1 + ((t - f) * (2 * l + 3) + a) → y ≡ 1 + ((t - g) * (2 * l' + 3) + b) → x < y
less_more f g t l l' a b x y count lt same most x_is y_is =
    let one : t - g ≡ suc (t - f) = omega (arith, count, lt) in
    let more : (t - g) * (2 * l' + 3) ≡ suc (t - f) * (2 * l + 3) = (λ i. one i * (2 * sym same i + 3)) in
    let once : suc (t - f) * (2 * l + 3) ≡ (2 * l + 3) + (t - f) * (2 * l + 3) = by (t - f) (2 * l + 3) in
    omega (arith, more, once, most, x_is, y_is)
  where
    by : (n m : ℕ) → suc n * m ≡ m + n * m
    by n m = omega arith

-- ---- systems

abbrev one_if : Bool → ℕ
one_if b = cond b 1 0

-- one that selects awaits no more
pub fewer_await : (systems : List System) (at : ℕ) (x : System) (count : ℕ) → slice_get systems at ≡ Some x → x.awaits ≡ true → awaiting (after_selection at x count systems) + 1 ≡ awaiting systems
fewer_await systems at x count there waits =
    let set = sum_by-set (λ (y : System). one_if y.awaits) systems at (record x { awaits = false; pending = count }) x (slice_get_within systems at x there) in
    let it : one_if x.awaits ≡ one_if true = ap one_if waits in
    let was = ap (λ (y : System). one_if y.awaits) (get_or_from_slice_get systems at x x there) in
    omega (arith, set, it, was)

-- ---- executions

module _ {H : Type 0} where
  pub left_open : (c : Execution H) → c.end ≡ None → left_to_do c ≡ work c.turns (fires c.history.entries) c.systems.items c.time.may_wait None
  left_open c e = ap (work c.turns (fires c.history.entries) c.systems.items c.time.may_wait) e

-- a selection leaves less to do
pub less_selected : (f g t : ℕ) (may : Bool) (systems after : List System) (at : ℕ) (s : System) (count x y : ℕ) → f ≡ g → slice_get systems at ≡ Some s → s.awaits ≡ true → after ≡ after_selection at s count systems
    → x ≡ work t f after may None → y ≡ work t g systems may None → x < y
less_selected f g t may systems after at s count x y same there waits is x_is y_is =
    let l : length after ≡ length systems = ap length is ∙ length-set systems at (record s { awaits = false; pending = count }) in
    let fewer = fewer_await systems at s count there waits in
    let a : awaiting after ≡ awaiting (after_selection at s count systems) = ap awaiting is in
    let waits_same : cond may (length after + 1) 0 ≡ cond may (length systems + 1) 0 = ap (λ (n : ℕ). cond may (n + 1) 0) l in
    less_same f g t (length after) (length systems) (cond may (length after + 1) 0 + awaiting after) (cond may (length systems + 1) 0 + awaiting systems) x y same l (omega (arith, fewer, a, waits_same)) x_is y_is

-- so does a firing
pub less_fired : (f g t : ℕ) (may : Bool) (systems after : List System) (x y : ℕ) → f ≡ g + 1 → g < t → length after ≡ length systems
    → x ≡ work t f after true None → y ≡ work t g systems may None → x < y
less_fired f g t may systems after x y one below l x_is y_is =
    let most = count_by-le-length (λ (s : System). s.awaits) after in
    less_more f g t (length after) (length systems) ((length after + 1) + awaiting after) (cond may (length systems + 1) 0 + awaiting systems) x y one below l (omega (arith, most)) x_is y_is

-- and a wait for the clock
pub less_waited : (g t : ℕ) (systems after : List System) (x y : ℕ) → after ≡ map after_wait systems → x ≡ work t g after false None → y ≡ work t g systems true None → x < y
less_waited g t systems after x y is x_is y_is =
    let l : length after ≡ length systems = ap length is ∙ length-map systems after_wait in
    let most = count_by-le-length (λ (s : System). s.awaits) after in
    less_same g g t (length after) (length systems) (0 + awaiting after) ((length systems + 1) + awaiting systems) x y (λ i. g) l (omega (arith, l, most)) x_is y_is
