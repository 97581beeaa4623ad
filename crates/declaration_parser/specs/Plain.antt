-- The declarations that are no bodies and no routines.
use Rattle.std.specs.Prelude.{ℕ}
use Rattle.estelle_tree.specs.declared.tree.specification.Decl.{Decl, out-Decl}
use Rattle.estelle_tree.specs.declared.tree.specification.Decl.TheOpen.{Decl-F}
use Rattle.estelle_tree.specs.Spans.{DeclLayer}
use Rattle.estelle_tree.specs.Spelling.{Spelling, Never}
use Rattle.estelle_tree.specs.Specification.{DeclLayerOf}

abbrev pub IsPlainLayer : ℕ → Spelling DeclLayer
IsPlainLayer room (Decl-F.Body body) i j = ⊥
IsPlainLayer room (Decl-F.Routine routine) i j = ⊥
IsPlainLayer room layer i j = DeclLayerOf room Never layer i j

abbrev pub IsPlainDecl : ℕ → Spelling Decl
IsPlainDecl room d = IsPlainLayer room (out-Decl d)
