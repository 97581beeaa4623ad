-- The flat transitions behind each `trans` (ISO/IEC 9074).
use Rattle.std.specs.Prelude.{List}
use Rattle.std.specs.List.{flat_map}
use Rattle.estelle_tree.specs.declared.tree.specification.Trans.{Trans}
use Rattle.estelle_model.specs.Meant.{Meanings}
use Rattle.estelle_model.specs.Names.{meant_by}
use Rattle.estelle_model.specs.Bodies.{ways_in}
use Rattle.estelle_model.specs.Transitions.{Choice, with_choices, Transition, flat_way}
use Rattle.meaning_table.specs.Known.{Known}

-- what names mean where the names of `any` have these values
abbrev pub with_chosen : Known → List Choice → Meanings
with_chosen known chosen = meant_by known.names (with_choices known.declared chosen)

-- the transitions behind each `trans`, as in `flat`
abbrev pub transitions_in : (List Choice → Meanings) → List Trans → List Transition
transitions_in means ts = flat_map (flat_way means) (ways_in ts)
