-- What is done to the record of an instance.
use Rattle.estelle_model.specs.declared.image.Part.{Part}
use Rattle.estelle_model.specs.Core.{Instance}
use Rattle.estelle_model.specs.Effects.{changed, born}
use Rattle.estelle_model.specs.Effects as change
use Rattle.estelle_model.specs.Jobs.{part_of_entry, instance_of}
use Rattle.body_state.specs.declared.alteration.Alteration.{Alteration}
use Rattle.body_state.specs.declared.alteration.Alteration.TheVariants.{Store, Hold, Enter, Bear}

abbrev pub altered : Alteration → Instance → Instance
altered (Store variable way value) i = changed (change.Store variable way.now value) i
altered (Hold variable held) i = changed (change.Hold variable held) i
altered (Enter state) i = changed (change.Enter state) i
altered Bear i = born i

-- the part of an instance whose record is altered
abbrev pub altered_part : Alteration → Part → Part
altered_part by part = part_of_entry (part.path, altered by (instance_of part))
