use Rattle.std.proofs.Common.{◌≡◌, take}
use Rattle.std.specs.List.{flat_map}
use Rattle.visit_rules.specs.Breaches.{noted_all}
use Rattle.attribute_rules.specs.AttributeRules.{variable_breaches}
use Rattle.attribute_rules.proofs.rules.noted_variables.Given as goal

abbrev pub invariant-loop-variables : goal.invariant-loop-variables
invariant-loop-variables l = l.all ≡ noted_all l.initial.all (flat_map (variable_breaches l.table l.body l.rule) (take l.variables-index l.modvars))
