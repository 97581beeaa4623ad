-- Kinds in code, and what is claimed of units, as what is meant.
use Rattle.std.specs.Prelude.{false, List, [], ◌∷◌, map as each, option_map, Option, Some, None}
use Rattle.std.specs.Map.{lookup}
use Rattle.smallvec.specs.SmallVec.{SmallVec}
use Rattle.body_code.specs.Units.{same_place}
use Rattle.body_kinds.specs.Kinds.{Kind, Integer, Boolean, Character, Enumerated, Members, Whole, PlaceOf}
use Rattle.body_kinds.specs.Kinded as kinded
use Rattle.body_unit_kinds.specs.declared.kind.Kind as code
use Rattle.body_unit_kinds.specs.declared.kind.Kind.TheVariants as variant
use Rattle.body_unit_kinds.specs.declared.claims.Claim.{Claim}
use Rattle.body_unit_kinds.specs.declared.claims.Claims.{Claims}

abbrev pub meant : code.Kind → Kind
meant variant.Integer = Integer
meant variant.Boolean = Boolean
meant variant.Character = Character
meant variant.Enumerated = Enumerated
meant variant.Members = Members
meant (variant.Whole shape) = Whole shape.now
meant (variant.PlaceOf shape) = PlaceOf shape.now

abbrev pub stack_of : List code.Kind → List Kind
stack_of = each meant

-- the kind that is left, if any
abbrev pub left_of : Option code.Kind → List Kind
left_of None = []
left_of (Some k) = meant k ∷ []

-- the stack at each address that is come to
abbrev pub stacks_of : List (Option (SmallVec code.Kind)) → List (Option (List Kind))
stacks_of = each (option_map (λ s. stack_of s.items))

-- what is claimed of a unit; nothing is of one that is not there
abbrev pub claimed_by : Option Claim → kinded.Claim
claimed_by None = record { closed = false; result = [] }
claimed_by (Some c) = record { closed = c.closed; result = stack_of c.result }

abbrev pub claimed : Claims → kinded.Claims
claimed cs body e = claimed_by (lookup (same_place (body, e)) cs.units.entries)
