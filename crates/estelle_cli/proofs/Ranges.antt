-- The numbers of what is asked for lie in their ranges.
use Rattle.std.proofs.Common.{◌≡◌, ℕ, ◌≤◌, ◌<◌, ◌+◌, ◌*◌, ◌^◌, Bool, true, false, List, [], ◌∷◌, Option, Some, None, refl, sym, subst, arith}
use Rattle.std.specs.Prelude.{◌&&◌, nat_le, if◌then◌else◌, IfSome, codes, map, option_map, option_and_then}
use Rattle.std.proofs.lemmas.Bool.Decides.{nat_tests}
use Rattle.std.proofs.Math.Nat.{mul-le-mul_left}
use Rattle.std.specs.Str.Parse.{digits_value}
use Rattle.estelle_words.specs.Words.{Text, Pair, meaning, command_of, pairs_of, word_of, fits, options_of, value_in, settings_by, settings_if_fit, number_or, number_if_any, greatest_seed, is_decimal}
use Rattle.estelle_words.specs.declared.command.Settings.{Settings}
use Rattle.estelle_words.specs.declared.command.Command.{Command}
use Rattle.estelle_words.specs.declared.command.Command.TheVariants as command
use Rattle.estelle_cli.specs.declared.task.Task.{Task}
use Rattle.estelle_cli.specs.Tasks.{IsInRange, task_by, task_of, asked}

-- a step after which there is nothing where this one gives nothing
infixl 10 ◌>>=◌
abbrev ◌>>=◌ : {A B : Type 0} → Option A → (A → Option B) → Option B
o >>= f = option_and_then f o

-- ---- numbers

-- a number from this one to that
abbrev IsFrom : ℕ → ℕ → ℕ → Type 0
IsFrom low high n = (low ≤ n) × (n ≤ high)

tested : (is_number : Bool) (low high n : ℕ) → IfSome (if is_number && (nat_le low n && nat_le n high) then Some n else None) (IsFrom low high)
tested false low high n = tt
tested true low high n = by (nat_le low n) (nat_le n high) refl refl
  where
    by : (b c : Bool) → nat_le low n ≡ b → nat_le n high ≡ c → IfSome (if b && c then Some n else None) (IsFrom low high)
    by true true e f = (grind (arith, nat_tests), grind (arith, nat_tests))
    by true false e f = tt
    by false c e f = tt

ranged : (low high default : ℕ) → low ≤ default → default ≤ high → (text : Option Text) → IfSome (number_or low high default text) (IsFrom low high)
ranged low high default above below None = (above, below)
ranged low high default above below (Some text) = tested (is_decimal text) low high (digits_value 10 text)

-- ---- settings

record HasRange (set : Settings) : Type 0 where
  pub turns : set.turns ≤ 1000000
  pub workers : set.workers ≤ 64
  pub budget : set.budget ≤ 100000000
  pub stations : IsFrom 2 200 set.stations

settings_ranged : (c : Command) (value : Text → Option Text) → IfSome (settings_by c value) HasRange
settings_ranged c value =
    go (number_or 0 1000000 10000 (value (codes "turns"))) (number_if_any 0 greatest_seed (value (codes "seed"))) (number_or 0 64 0 (value (codes "workers")))
    (number_or 1 100000000 1000000 (value (codes "budget"))) (number_or 2 200 2 (value (codes "stations")))
    (ranged 0 1000000 10000 (omega arith) (omega arith) (value (codes "turns"))) (ranged 0 64 0 (omega arith) (omega arith) (value (codes "workers"))) (ranged 1 100000000 1000000 (omega arith) (omega arith) (value (codes "budget")))
    (ranged 2 200 2 (omega arith) (omega arith) (value (codes "stations")))
  where
    go : (turns : Option ℕ) (seed : Option (Option ℕ)) (workers budget stations : Option ℕ) → IfSome turns (IsFrom 0 1000000) → IfSome workers (IsFrom 0 64) → IfSome budget (IsFrom 1 100000000) → IfSome stations (IsFrom 2 200)
        → IfSome (turns >>= λ t. seed >>= λ s. workers >>= λ w. budget >>= λ b. stations >>= λ n. Some (record { command = c; turns = t; seed = s; workers = w; budget = b; stations = n })) HasRange
    go None seed workers budget stations h k i j = tt
    go (Some t) None workers budget stations h k i j = tt
    go (Some t) (Some s) None budget stations h k i j = tt
    go (Some t) (Some s) (Some w) None stations h k i j = tt
    go (Some t) (Some s) (Some w) (Some b) None h k i j = tt
    go (Some t) (Some s) (Some w) (Some b) (Some n) h k i j = record { turns = h.1; workers = k.1; budget = i.1; stations = j }

fitting : (c : Command) (ps : List Pair) → IfSome (settings_if_fit c ps) HasRange
fitting c ps = by (fits (options_of c) ps)
  where
    by : (b : Bool) → IfSome (if b then settings_by c (value_in ps) else None) HasRange
    by true = settings_ranged c (value_in ps)
    by false = tt

meant : (words : List Text) → IfSome (meaning words) HasRange
meant [] = tt
meant (word ∷ rest) = go (command_of word) (pairs_of (map word_of rest))
  where
    go : (c : Option Command) (ps : Option (List Pair)) → IfSome (c >>= λ c. ps >>= λ ps. settings_if_fit c ps) HasRange
    go None ps = tt
    go (Some c) None = tt
    go (Some c) (Some ps) = fitting c ps

-- ---- tasks

task_ranged : (c : Command) (set : Settings) → HasRange set → IsInRange (task_by c set)
task_ranged command.Run set h = ((h.turns, h.budget), h.workers)
task_ranged command.Check set h = tt
task_ranged command.Show set h = tt
task_ranged command.Code set h = tt
task_ranged command.Replay set h = h.budget
task_ranged command.Make set h = h.stations
task_ranged command.Trial set h = (h.stations, (h.turns, h.budget))

asked_ranged : (words : List Text) → IfSome (asked words) IsInRange
asked_ranged words = go (meaning words) (meant words)
  where
    go : (o : Option Settings) → IfSome o HasRange → IfSome (option_map task_of o) IsInRange
    go None h = tt
    go (Some set) h = task_ranged set.command set h

pub in_range : (words : List Text) (task : Task) → Some task ≡ asked words → IsInRange task
in_range words task e = subst (λ (o : Option Task). IfSome o IsInRange) (sym e) (asked_ranged words)

-- ---- limits

-- what a run within these limits can count
pub has_room : (budget turns : ℕ) → turns ≤ 1000000 → budget ≤ 100000000 → budget * (turns + 1) < 2 ^ 63
has_room budget turns h k =
    let most : budget * (turns + 1) ≤ budget * 1000001 = mul-le-mul_left budget (omega (arith, h)) in
    omega (arith, most, k)

-- and how many outputs its counts can tell
pub has_room_for_outputs : (budget turns outputs : ℕ) → turns ≤ 1000000 → budget ≤ 100000000 → outputs ≤ budget * (turns + 2) → outputs < 2 ^ 64
has_room_for_outputs budget turns outputs h k few =
    let most : budget * (turns + 2) ≤ budget * 1000002 = mul-le-mul_left budget (omega (arith, h)) in
    omega (arith, most, k, few)
