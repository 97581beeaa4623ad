-- What is declared in a specification and in its bodies, in text order.
use Rattle.std.specs.Prelude.{List, [], ◌∷◌, flat_map}
use Rattle.estelle_tree.specs.declared.tree.declaration.Routine.{Routine}
use Rattle.estelle_tree.specs.declared.tree.specification.Channel.{Channel}
use Rattle.estelle_tree.specs.declared.tree.specification.Header.{Header}
use Rattle.estelle_tree.specs.declared.tree.specification.Spec.{Spec}
use Rattle.estelle_tree.specs.declared.tree.specification.Parts.{Parts}
use Rattle.estelle_tree.specs.declared.tree.specification.Body.{Body}
use Rattle.estelle_tree.specs.declared.tree.specification.Decl.{Decl}
use Rattle.estelle_tree.specs.declared.tree.specification.Decl.TheOpen.{Decl-F, Body-F, Parts-F}
use Rattle.estelle_tree.specs.declared.tree.specification.Decl.TheFolds.{fold-Decl, fold-Body, fold-Parts}

-- what a part of the text declares
pub record Outline : Type 0 where
  pub channels : List Channel
  pub headers : List Header
  -- the routines that stand in no body in it
  pub routines : List Routine
  -- the routines of each body in it
  pub bodies : List (List Routine)

abbrev pub nothing : Outline
nothing = record { channels = []; headers = []; routines = []; bodies = [] }

abbrev pub decl_layer : Decl-F Outline Outline Outline → Outline
decl_layer (Decl-F.Channel c) = record nothing { channels = c ∷ [] }
decl_layer (Decl-F.Header h) = record nothing { headers = h ∷ [] }
decl_layer (Decl-F.Body b) = b
decl_layer (Decl-F.Routine r) = record nothing { routines = r ∷ [] }
decl_layer _ = nothing

abbrev pub body_layer : Body-F Outline Outline Outline → Outline
body_layer b = b.parts

-- a specification or a body before the bodies in it
abbrev pub parts_layer : Parts-F Outline Outline Outline → Outline
parts_layer ps = record {
  channels = flat_map (λ d. d.channels) ps.decls;
  headers = flat_map (λ d. d.headers) ps.decls;
  routines = [];
  bodies = flat_map (λ d. d.routines) ps.decls ∷ flat_map (λ d. d.bodies) ps.decls;
}

unfoldable pub decl : Decl → Outline
decl = fold-Decl Outline Outline Outline decl_layer body_layer parts_layer

unfoldable pub body : Body → Outline
body = fold-Body Outline Outline Outline decl_layer body_layer parts_layer

unfoldable pub parts : Parts → Outline
parts = fold-Parts Outline Outline Outline decl_layer body_layer parts_layer

abbrev pub channels_in : Spec → List Channel
channels_in tree = (parts tree.parts).channels

abbrev pub headers_in : Spec → List Header
headers_in tree = (parts tree.parts).headers

-- the routines of each body; the specification is the first one
abbrev pub routine_lists : Spec → List (List Routine)
routine_lists tree = (parts tree.parts).bodies
