-- The arguments of a required function, one by one.
use Rattle.std.specs.Prelude.{[], ◌∷◌, Option, Some, None}
use Rattle.type_rules.specs.declared.types.PascalType.{PascalType}
use Rattle.estelle_tree.specs.declared.required.Required.{Required}
use Rattle.type_rules.specs.declared.sites.Typed.{Typed}
use Rattle.type_rules.specs.declared.sites.Site.TheVariants.{Wants}
use Rattle.type_rules.specs.Sites.{Sites}
use Rattle.type_rules.specs.ExpressionSites.{required_argument}

-- the first argument, behind which one more stands
abbrev pub first_or : Option Typed → Typed → Typed
first_or None e = e
first_or (Some first) e = first

-- the first argument is the one that the function takes
abbrev pub taken_site : Required → Option Typed → Typed → Sites
taken_site f None e = Wants (required_argument f) e ∷ []
taken_site f (Some first) e = []

abbrev pub type_in : Option Typed → Option PascalType
type_in None = None
type_in (Some e) = e.type_
