-- What a clock over the machine's has read and skipped.
use Rattle.std.specs.Prelude.{ℕ, ◌+◌, ◌-◌, ◌/◌, ◌^◌, min}
use Rattle.std.specs.declared.time.Instant.{Instant}
use Rattle.std.specs.Time.{instant_nanos}
use Rattle.outside.specs.declared.machine_clock.MachineClock.{MachineClock}

-- how many of a clock's readings failed
abbrev pub clock_faults : {R : Type 0} → MachineClock R → ℕ
clock_faults clock = clock.faults

-- the whole seconds from a clock's first reading to its last one
abbrev pub elapsed_seconds : {R : Type 0} → MachineClock R → ℕ
elapsed_seconds clock = clock.elapsed

-- the seconds that a clock skipped in place of waiting
abbrev pub skipped_seconds : {R : Type 0} → MachineClock R → ℕ
skipped_seconds clock = clock.skipped

-- the moment after so many seconds that passed and were skipped: the last one of 64 bits at most
abbrev pub moment_of : ℕ → ℕ → ℕ
moment_of elapsed skipped = min (elapsed + skipped) (2 ^ 64 - 1)

-- the moment at a clock's last reading
abbrev pub last_moment : {R : Type 0} → MachineClock R → ℕ
last_moment clock = moment_of (elapsed_seconds clock) (skipped_seconds clock)

-- the whole seconds from one reading of the machine's clock to another: none where that is the earlier one
abbrev pub seconds_between : Instant → Instant → ℕ
seconds_between first now = (instant_nanos now - instant_nanos first) / 1_000_000_000
