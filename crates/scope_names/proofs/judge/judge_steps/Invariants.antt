use Rattle.std.proofs.Common.{◌≡◌, ◌++◌, drop}
use Rattle.std.specs.List.{flat_map}
use Rattle.scope_rules.specs.Scopes as spec
use Rattle.scope_rules.specs.NameRules.{used}
use Rattle.scope_names.specs.Noted as noting
use Rattle.scope_names.proofs.judge.judge_steps.Given as goal

abbrev pub invariant-loop-step : goal.invariant-loop-step
invariant-loop-step l = record {
  first : noting.misuses l.first (spec.sought_steps l.table l.among (drop l.step-index l.steps)) ≡ noting.misuses l.initial.first (spec.sought_steps l.table l.initial.among l.steps);
  uses : l.uses ++ flat_map used (spec.sought_steps l.table l.among (drop l.step-index l.steps)) ≡ l.initial.uses ++ flat_map used (spec.sought_steps l.table l.initial.among l.steps);
}
