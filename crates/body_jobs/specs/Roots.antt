-- The specification's own instance as it is made, alone.
use Rattle.std.specs.Prelude.{List, [], ◌∷◌, map as each, replicate, Option, Some, None}
use Rattle.pascal_values.specs.Shapes.{blank_of}
use Rattle.estelle_model.specs.declared.image.Part.{Part}
use Rattle.estelle_model.specs.declared.image.Image.{Image}
use Rattle.estelle_model.specs.Types.{shape_of}
use Rattle.body_state.specs.declared.bodies.ModuleBody.{ModuleBody}

-- in its variables nothing is set, and its module variables are empty
abbrev pub root_part : ModuleBody → Part
root_part b = record { path = []; body = 0; state = None; vars = each blank_of (each shape_of b.variables); modvars = replicate b.module_variables None; births = 0 }

abbrev pub root_parts : Option ModuleBody → List Part
root_parts None = []
root_parts (Some b) = root_part b ∷ []

abbrev pub root_image : Option ModuleBody → Image
root_image o = record { parts = root_parts o; links = [] }
