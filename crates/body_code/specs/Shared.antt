-- What a list with several owners is seen as.
use Rattle.std.specs.Prelude.{List, [], Option, Some, None}
use Rattle.std.specs.Arc.{arc_value}
use Rattle.std.specs.declared.sync.Arc.{Arc}
use Rattle.std.specs.declared.alloc.Global.{Global}

-- the items, none where nothing is held
abbrev pub shared_items : {T : Type 0} → Option (Arc (List T) Global) → List T
shared_items None = []
shared_items (Some items) = arc_value items
