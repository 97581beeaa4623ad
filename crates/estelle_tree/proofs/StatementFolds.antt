-- Statements as a group of types, of which folds are made.
use Rattle.std.proofs.Common.{◌≡◌, List, Some, None, refl, ap, subst}
use Rattle.estelle_tree.specs.declared.tree.statement.Stmt.{Stmt, roll-Stmt, map-Stmt, fold-Stmt, fold-roll-Stmt}
use Rattle.estelle_tree.specs.declared.tree.statement.Case.{Case, roll-Case}
use Rattle.estelle_tree.specs.declared.tree.statement.Stmts.{Stmts, roll-Stmts}
use Rattle.estelle_tree.specs.declared.tree.statement.Stmt.TheOpen.{Stmt-F, Case-F, Stmts-F}
use Rattle.estelle_tree.specs.declared.tree.statement.Stmt.TheFolds.{map-Case, map-Stmts, fold-Case, fold-Stmts, fold-roll-Case, fold-roll-Stmts, ind-Stmt, ind-Case, ind-Stmts}
use Rattle.std.proofs.lemmas.Simd.{map-map}
use Rattle.estelle_tree.proofs.Folds.{Group}

-- the types of the group
pub data Kind : Type 0 where
  stmt : Kind
  branch : Kind
  stmts : Kind

abbrev pub Tree : Kind → Type 0
Tree stmt = Stmt
Tree branch = Case
Tree stmts = Stmts

abbrev pub Layer : Kind → (Kind → Type 0) → Type 0
Layer stmt A = Stmt-F (A stmt) (A branch) (A stmts)
Layer branch A = Case-F (A stmt) (A branch) (A stmts)
Layer stmts A = Stmts-F (A stmt) (A branch) (A stmts)

abbrev pub roll : (k : Kind) → Layer k Tree → Tree k
roll stmt = roll-Stmt
roll branch = roll-Case
roll stmts = roll-Stmts

module _ (A B : Kind → Type 0) (f : (k : Kind) → A k → B k) where
  abbrev pub mapped : (k : Kind) → Layer k A → Layer k B
  mapped stmt = map-Stmt (A stmt) (A branch) (A stmts) (B stmt) (B branch) (B stmts) (f stmt) (f branch) (f stmts)
  mapped branch = map-Case (A stmt) (A branch) (A stmts) (B stmt) (B branch) (B stmts) (f stmt) (f branch) (f stmts)
  mapped stmts = map-Stmts (A stmt) (A branch) (A stmts) (B stmt) (B branch) (B stmts) (f stmt) (f branch) (f stmts)

module _ (A : Kind → Type 0) (a : (k : Kind) → Layer k A → A k) where
  abbrev pub folded : (k : Kind) → Tree k → A k
  folded stmt = fold-Stmt (A stmt) (A branch) (A stmts) (a stmt) (a branch) (a stmts)
  folded branch = fold-Case (A stmt) (A branch) (A stmts) (a stmt) (a branch) (a stmts)
  folded stmts = fold-Stmts (A stmt) (A branch) (A stmts) (a stmt) (a branch) (a stmts)

  pub made : (k : Kind) (l : Layer k Tree) → folded k (roll k l) ≡ a k (mapped Tree A folded k l)
  made stmt l = fold-roll-Stmt (A stmt) (A branch) (A stmts) (a stmt) (a branch) (a stmts) l
  made branch l = fold-roll-Case (A stmt) (A branch) (A stmts) (a stmt) (a branch) (a stmts) l
  made stmts l = fold-roll-Stmts (A stmt) (A branch) (A stmts) (a stmt) (a branch) (a stmts) l

module _ (A B C : Kind → Type 0) (f : (k : Kind) → A k → B k) (g : (k : Kind) → B k → C k) where
  pub twice : (k : Kind) (l : Layer k A) → mapped B C g k (mapped A B f k l) ≡ mapped A C (λ k x. g k (f k x)) k l
  twice stmt (Stmt-F.If test then_part None span) = refl
  twice stmt (Stmt-F.If test then_part (Some x) span) = refl
  twice stmt (Stmt-F.Case e cases semicolon span) = ap (λ ys. Stmt-F.Case e ys semicolon span) (map-map (g branch) (f branch) cases)
  twice stmt _ = refl
  twice branch l = refl
  twice stmts l = let by : List (C stmt) → Layer stmts C = λ ys. record { stmts = ys; span = l.span } in ap by (map-map (g stmt) (f stmt) l.stmts)

module _ (Q : (k : Kind) → Tree k → Type 0) where
  abbrev Shown : Kind → Type 0
  Shown k = (x : Tree k) × Q k x

  module _ (step : (k : Kind) (l : Layer k Shown) → Q k (roll k (mapped Shown Tree (λ k e. e.0) k l))) where
    at_layer : (k : Kind) (x : Layer k Tree) (l : Layer k Shown) → mapped Shown Tree (λ k e. e.0) k l ≡ x → Q k (roll k x)
    at_layer k x l is = subst (λ (z : Layer k Tree). Q k (roll k z)) is (step k l)

    pub induction : (k : Kind) (x : Tree k) → Q k x
    induction stmt = ind-Stmt (Q stmt) (Q branch) (Q stmts) (at_layer stmt) (at_layer branch) (at_layer stmts)
    induction branch = ind-Case (Q stmt) (Q branch) (Q stmts) (at_layer stmt) (at_layer branch) (at_layer stmts)
    induction stmts = ind-Stmts (Q stmt) (Q branch) (Q stmts) (at_layer stmt) (at_layer branch) (at_layer stmts)

abbrev pub statements : Group
statements = record { Kind = Kind; Tree = Tree; Layer = Layer; mapped = mapped; roll = roll; folded = folded; made = made; twice = twice; induction = induction }
