-- What a word means, by the required identifier that it is.
use Rattle.std.proofs.Common.{◌≡◌, ℕ, List, ap}
use Rattle.std.specs.Prelude.{option_map}
use Rattle.std.specs.Map.{lookup}
use Rattle.std.specs.Str.{bytes_eq}
use Rattle.std.proofs.lemmas.Map.Made.{lookup-map_values}
use Rattle.estelle_tree.specs.Required.{identifiers}
use Rattle.type_rules.specs.Meanings.{meaning_of_required, or_nothing, required_meaning}

pub required_is : (w : List ℕ) → required_meaning w ≡ or_nothing (option_map meaning_of_required (lookup (bytes_eq w) identifiers))
unfolding required_meaning
required_is w = ap or_nothing (lookup-map_values meaning_of_required (bytes_eq w) identifiers)

pub ruleset required_meanings = (required_is)
