-- The header of each module variable, by the declarations in the tree.
use Rattle.std.specs.Prelude.{ℕ, List, [], length, replicate, flat_map}
use Rattle.estelle_tree.specs.declared.tree.specification.ModvarDecl.{ModvarDecl}
use Rattle.estelle_tree.specs.declared.tree.specification.Body.{Body}
use Rattle.estelle_tree.specs.declared.tree.specification.Parts.{Parts}
use Rattle.estelle_tree.specs.declared.tree.specification.Decl.{Decl, out-Decl}
use Rattle.estelle_tree.specs.declared.tree.specification.Decl.TheOpen.{Decl-F}
use Rattle.estelle_model.specs.Meant.{Meanings}
use Rattle.estelle_model.specs.Bodies.{heading_of}

abbrev pub headers_at : Meanings → ModvarDecl → List ℕ
headers_at known m = replicate (length m.names.names) (heading_of (known m.header)).at

abbrev pub headers_by : Meanings → Decl-F Decl Body Parts → List ℕ
headers_by known (Decl-F.Modvar ms span) = flat_map (headers_at known) ms
headers_by known _ = []

-- those that a declaration brings
abbrev pub headers_in : Meanings → Decl → List ℕ
headers_in known d = headers_by known (out-Decl d)
