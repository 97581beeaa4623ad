-- The names in use, and that each of them has the name in its declaration.
use Rattle.std.specs.Prelude.{◌≡◌, List, [], ◌∷◌}
use Rattle.std.specs.List.{flat_map}
use Rattle.estelle_tree.specs.declared.names.Use.{Use as Used}
use Rattle.estelle_tree.specs.declared.tree.name.Name.{Name}
use Rattle.estelle_tree.specs.declared.tree.specification.Spec.{Spec}
use Rattle.scope_rules.specs.declared.event.Step.{Step}
use Rattle.scope_rules.specs.declared.event.Step.TheVariants as step
use Rattle.scope_rules.specs.declared.event.Event.{Event}
use Rattle.scope_rules.specs.declared.event.Event.TheVariants.{Use}
use Rattle.scope_rules.specs.SpecificationEvents.{events}
use Rattle.scope_rules.specs.NameRules.{IsOne}

-- the name in a step
abbrev pub step_names : Step → List Name
step_names step.Index = []
step_names (step.Member x n) = x ∷ []
step_names (step.Role x) = []

-- the names that an event uses, behind dots too
abbrev pub event_names : Event → List Name
event_names (Use x n steps) = x ∷ flat_map step_names steps
event_names e = []

-- all names in use but those of roles: that a role is one of its channel's two is a rule on channels
abbrev pub names_in_use : Spec → List Name
names_in_use spec = flat_map event_names (events spec)

-- among these uses there is one where this name stands
abbrev pub HasUse : List Used → Name → Type 0
HasUse uses x = (u : Used) × (IsOne u uses × (u.at ≡ x.span))

-- each name in use has the name in its declaration
abbrev pub IsComplete : Spec → List Used → Type 0
IsComplete spec uses = (x : Name) → IsOne x (names_in_use spec) → HasUse uses x
