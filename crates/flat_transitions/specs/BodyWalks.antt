-- What the walk over the bodies gathers.
use Rattle.std.specs.Prelude.{List, [], ◌∷◌}
use Rattle.std.specs.List.{flat_map}
use Rattle.flat_transitions.specs.declared.flat.FlatTrans.{FlatTrans}
use Rattle.estelle_tree.specs.declared.tree.specification.Trans.{Trans}
use Rattle.estelle_tree.specs.declared.tree.specification.Decl.{Decl}
use Rattle.estelle_tree.specs.declared.tree.specification.Decl.TheOpen.{Decl-F, Body-F, Parts-F}
use Rattle.estelle_tree.specs.declared.tree.specification.Decl.TheFolds.{fold-Decl, fold-Parts}
use Rattle.estelle_tree.specs.declared.tree.specification.Parts.{Parts}
use Rattle.estelle_model.specs.Meant.{Meanings}
use Rattle.estelle_model.specs.Transitions.{Choice}
use Rattle.flat_transitions.specs.Flat.{transitions_in}
use Rattle.flat_transitions.specs.FlatList.{numbered_from}

-- the transitions of one body
abbrev pub trans_list : (List Choice → Meanings) → List Trans → List FlatTrans
trans_list means ts = numbered_from 1 (transitions_in means ts)

abbrev pub decl_layer : Decl-F (List (List Trans)) (List (List Trans)) (List (List Trans)) → List (List Trans)
decl_layer (Decl-F.Body ts) = ts
decl_layer _ = []

abbrev pub body_layer : Body-F (List (List Trans)) (List (List Trans)) (List (List Trans)) → List (List Trans)
body_layer b = b.parts

abbrev pub parts_layer : Parts-F (List (List Trans)) (List (List Trans)) (List (List Trans)) → List (List Trans)
parts_layer ps = ps.trans ∷ flat_map (λ ts. ts) ps.decls

-- what stands behind `trans`, body by body in text order
unfoldable pub decl_trans : Decl → List (List Trans)
decl_trans = fold-Decl (List (List Trans)) (List (List Trans)) (List (List Trans)) decl_layer body_layer parts_layer

unfoldable pub parts_trans : Parts → List (List Trans)
parts_trans = fold-Parts (List (List Trans)) (List (List Trans)) (List (List Trans)) decl_layer body_layer parts_layer
