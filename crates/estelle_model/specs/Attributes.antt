-- What instances are to those round them: systems, processes and activities (ISO/IEC 9074: module attributes).
use Rattle.std.specs.Prelude.{ℕ, zero, suc, Bool, true, false, ◌||◌, IsTrue, List, [], ◌∷◌, is_some, option_map, option_and_then, Option, Some, None}
use Rattle.std.specs.FinMap as map
use Rattle.estelle_model.specs.declared.meaning.Attribute.{Attribute}
use Rattle.estelle_model.specs.declared.meaning.Attribute.TheVariants.{Systemprocess, Systemactivity, Process, Activity}
use Rattle.estelle_tree.specs.Paths.{Path}
use Rattle.estelle_model.specs.Bodies.{BodyAlone, heading, system_attribute}
use Rattle.estelle_model.specs.Subject.{Subject, meant, body, transitions}
use Rattle.estelle_model.specs.Situation.{Situation}

-- ---- attributes

-- the attribute in a body's header
abbrev pub header_attribute : Subject → BodyAlone → Option Attribute
header_attribute s b = (heading (meant s) b.header).attribute

-- the attribute of the body with a number; body 0 is the specification, which has its own
abbrev pub attribute : Subject → ℕ → Option Attribute
attribute s zero = option_map system_attribute s.specification.attr
attribute s (suc k) = option_and_then (header_attribute s) (body s (suc k))

-- an instance of a body with the one attribute may have a child with the other: inside an attributed module there are only attributed modules and no systems, inside an unattributed one no processes and no activities, and inside activities no processes
abbrev pub allows : Option Attribute → Option Attribute → Bool
allows None None = true
allows None (Some Systemprocess) = true
allows None (Some Systemactivity) = true
allows None (Some _) = false
allows (Some a) None = false
allows (Some a) (Some Systemprocess) = false
allows (Some a) (Some Systemactivity) = false
allows (Some a) (Some Activity) = true
allows (Some Systemprocess) (Some Process) = true
allows (Some Process) (Some Process) = true
allows (Some a) (Some Process) = false

abbrev pub is_empty : {A : Type 0} → List A → Bool
is_empty [] = true
is_empty (a ∷ more) = false

-- a body with transitions has an attribute
abbrev pub may_have_transitions : Subject → ℕ → Bool
may_have_transitions s k = is_some (attribute s k) || is_empty (transitions s k)

-- the attribute of an instance: its body's
abbrev pub attribute_at : Subject → Situation → Path → Option Attribute
attribute_at s g m = option_and_then (λ i. attribute s i.body) (map.get g.core.instances m)

-- ---- what they say

-- it is selected for as a whole, and by itself
abbrev pub is_system : Option Attribute → Bool
is_system (Some Systemprocess) = true
is_system (Some Systemactivity) = true
is_system _ = false

-- its children go on side by side
abbrev pub is_process : Option Attribute → Bool
is_process (Some Systemprocess) = true
is_process (Some Process) = true
is_process _ = false

-- one of its children at a time goes on
abbrev pub is_activity : Option Attribute → Bool
is_activity (Some Systemactivity) = true
is_activity (Some Activity) = true
is_activity _ = false

-- the instance selects for itself and all below it
abbrev pub IsSystem : Subject → Situation → Path → Type 0
IsSystem s g m = IsTrue (is_system (attribute_at s g m))

-- what its children select is taken together
abbrev pub IsProcess : Subject → Situation → Path → Type 0
IsProcess s g m = IsTrue (is_process (attribute_at s g m))

-- what one of its children selects is taken
abbrev pub IsActivity : Subject → Situation → Path → Type 0
IsActivity s g m = IsTrue (is_activity (attribute_at s g m))
