-- One equation of the visits for each type of node in statements.
use Rattle.std.proofs.Common.{◌≡◌, ◌∷◌, ◌∙◌, ℕ, ◌≤◌, List, take, length, ap, sym}
use Rattle.std.proofs.lemmas.List.{take_all}
use Rattle.std.specs.List.{flat_map}
use Rattle.estelle_tree.specs.declared.tree.statement.Stmt.{Stmt, out-Stmt, map-Stmt, fold_out-Stmt}
use Rattle.estelle_tree.specs.declared.tree.statement.Stmt.TheFolds.{fold_out-Case, fold_out-Stmts}
use Rattle.estelle_tree.specs.declared.tree.statement.Case.{Case, out-Case}
use Rattle.estelle_tree.specs.declared.tree.statement.Stmts.{Stmts, out-Stmts}
use Rattle.tree_visits.specs.Visit.{Labels, Around, Visit}
use Rattle.tree_visits.specs.Visits.{Nodes, standing, stmt_layer, case_layer, stmts_layer, stmt, case_, stmts}
use Rattle.tree_visits.specs.Taking.{after_visits}
use Rattle.tree_visits.proofs.Taken.{chain_map}

pub stmt_is : (x : Stmt) → stmt x ≡ stmt_layer (map-Stmt Stmt Case Stmts Nodes Nodes Nodes stmt case_ stmts (out-Stmt x))
unfolding stmt case_ stmts
stmt_is x = fold_out-Stmt Nodes Nodes Nodes stmt_layer case_layer stmts_layer x

pub case_is : (x : Case) → case_ x ≡ Labels (out-Case x).labels ∷ stmt (out-Case x).body
unfolding stmt case_ stmts
case_is x = fold_out-Case Nodes Nodes Nodes stmt_layer case_layer stmts_layer x

pub stmts_is : (x : Stmts) → stmts x ≡ flat_map stmt (out-Stmts x).stmts
unfolding stmt case_ stmts
stmts_is x = fold_out-Stmts Nodes Nodes Nodes stmt_layer case_layer stmts_layer x ∙ chain_map (λ (ns : Nodes). ns) stmt (out-Stmts x).stmts

pub ruleset statements = (stmt_is, case_is, stmts_is, chain_map)

-- the end of a loop over statements
pub stmts_taken : {S : Type 0} (step : S → Visit → S) (a : Around) (x : Stmts) (ys : List Stmt) (i : ℕ) (s end : S) → ys ≡ (out-Stmts x).stmts → length ys ≤ i → end ≡ after_visits step s (standing a (flat_map stmt (take i ys))) → end ≡ after_visits step s (standing a (stmts x))
stmts_taken step a x ys i s end e all h =
    h ∙ ap (λ zs. after_visits step s (standing a (flat_map stmt zs))) (take_all i ys all ∙ e) ∙ ap (λ ns. after_visits step s (standing a ns)) (sym (stmts_is x))
