-- Trees that are the same, and lists of tokens that are, their places aside.
use Rattle.std.specs.Prelude.{◌≡◌, List, map}
use Rattle.estelle_tree.specs.declared.token.Placed.{Placed}
use Rattle.estelle_tree.specs.declared.tree.specification.Spec.{Spec}
use Rattle.estelle_tree.specs.Spans.{nowhere}
use Rattle.estelle_tree.specs.Spells.{Spells}
use Rattle.estelle_printer.specs.Canonical.{without_places}
use Rattle.round_trip.specs.Specification.{bare_spec}

-- these tokens, each in the place 0..0
abbrev pub unplaced : List Placed → List Placed
unplaced = map (λ (p : Placed). record p { span = nowhere })

-- the same trees, spans aside
abbrev pub Same : Spec → Spec → Type 0
Same s t = bare_spec s ≡ bare_spec t

-- these tokens are spelled by a tree that is the same as the given one, spans aside
pub record IsRespelled (spec : Spec) (tokens : List Placed) : Type 0 where
  pub moved : Spec
  pub spells : Spells moved tokens
  pub same : Same moved spec

-- what spells a list of tokens is, with its spans moved, spelled by each other list of the same tokens
abbrev pub RespelledElsewhere : Type 0
RespelledElsewhere = (spec : Spec) (tokens others : List Placed) → Spells spec tokens → without_places others ≡ without_places tokens → IsRespelled spec others

-- a tree without its spans spells the tokens without their places
abbrev pub BareIsSpelled : Type 0
BareIsSpelled = (spec : Spec) (tokens : List Placed) → Spells spec tokens → Spells (bare_spec spec) (unplaced tokens)
