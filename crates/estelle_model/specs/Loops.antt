-- Loops: each turn, that is each entry of the body, takes a unit (ISO 7185, 6.8.3.7 to 6.8.3.9).
use Rattle.std.specs.Prelude.{ℕ, zero, suc, ◌+◌, Bool, if◌then◌else◌, nat_abs, ℤ, pos, ◌+ℤ◌, ◌-ℤ◌}
use Rattle.std.specs.Int.RustNames.{int_le}
use Rattle.pascal_values.specs.declared.fault.Fault.TheVariants.{StepLimit}
use Rattle.estelle_tree.specs.declared.tree.statement.Direction.{Direction}
use Rattle.estelle_tree.specs.declared.tree.statement.Direction.TheVariants as direction
use Rattle.estelle_model.specs.Steps.{Step, Do, ◌>>=◌, ◌>>◌, pure, fail, spend}

-- `while`, with so many units left
abbrev pub while_turns : {S : Type 0} → ℕ → Step S Bool → Do S → Do S
while_turns zero test body = do
  again ← test
  if again then fail StepLimit else pure tt
while_turns (suc n) test body = do
  again ← test
  if again then (spend >> body >> while_turns n test body) else pure tt

-- `repeat`, with so many units left
abbrev pub repeat_turns : {S : Type 0} → ℕ → Do S → Step S Bool → Do S
repeat_turns zero body test = fail StepLimit
repeat_turns (suc n) body test = do
  done ← spend >> body >> test
  if done then pure tt else repeat_turns n body test

unfoldable pub while_loop : {S : Type 0} → Step S Bool → Do S → Do S
while_loop test body = λ s. while_turns s.left test body s

unfoldable pub repeat_loop : {S : Type 0} → Do S → Step S Bool → Do S
repeat_loop body test = λ s. repeat_turns s.left body test s

-- ---- `for`

abbrev pub next_of : Direction → ℤ → ℤ
next_of direction.To n = n +ℤ pos 1
next_of direction.Downto n = n -ℤ pos 1

abbrev pub comes_to : Direction → ℤ → ℤ → Bool
comes_to direction.To first last = int_le first last
comes_to direction.Downto first last = int_le last first

-- how many turns there are
abbrev pub turns_of : Direction → ℤ → ℤ → ℕ
turns_of dir first last = if comes_to dir first last then nat_abs (last -ℤ first) + 1 else 0

-- so many turns from a value on: each takes a unit, then sets the variable, then does the body; at the end the variable is unset
abbrev pub count_turns : {S : Type 0} → ℕ → Direction → ℤ → (ℤ → Do S) → Do S → Do S → Do S
count_turns zero dir n set unset body = unset
count_turns (suc k) dir n set unset body = spend >> set n >> body >> count_turns k dir (next_of dir n) set unset body

unfoldable pub count_loop : {S : Type 0} → Direction → ℤ → ℤ → (ℤ → Do S) → Do S → Do S → Do S
count_loop dir first last set unset body = count_turns (turns_of dir first last) dir first set unset body
