-- What the instances that are kept are seen as.
use Rattle.std.specs.Prelude.{if◌then◌else◌, List}
use Rattle.estelle_model.specs.declared.image.Part.{Part}
use Rattle.estelle_model.specs.Core.{Instances}
use Rattle.body_state.specs.declared.instances.InstanceMap.TheInside.{Inside}
use Rattle.body_state.specs.InOrder.{InOrder, instances_of, parts_behind}

-- its own parts, once one has changed
abbrev pub parts_kept : Inside → List Part
parts_kept m = if m.is_own then m.own.items else parts_behind m.lent.now

abbrev pub instances_kept : Inside → Instances
instances_kept m = instances_of (parts_kept m)

abbrev pub HasOrder : Inside → Type 0
HasOrder m = InOrder (parts_kept m)
