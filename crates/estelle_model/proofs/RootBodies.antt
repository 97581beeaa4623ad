-- The body of the specification itself.
use Rattle.std.proofs.Common.{◌≡◌, Bool, true, List, ap}
use Rattle.std.specs.Prelude.{is_some, slice_get}
use Rattle.estelle_tree.specs.declared.tree.specification.Parts.{Parts}
use Rattle.estelle_tree.specs.declared.tree.specification.Decl.TheFolds.{fold_out-Parts}
use Rattle.estelle_model.specs.Bodies.{Contribution, BodyAlone, decl_layer, body_layer, parts_layer, standings}

-- a specification has its own body
pub first_there : (d : Bool) (x : Parts) → is_some (slice_get (standings d x) 0) ≡ true
unfolding standings
first_there d x = ap (λ bs. is_some (slice_get bs 0)) (fold_out-Parts (Contribution × List BodyAlone) (List BodyAlone) (List BodyAlone) (decl_layer d) (body_layer d) (parts_layer d) x)
