-- Statements in which each output names its interaction point and its interaction by identifiers.
use Rattle.std.proofs.Common.{◌≡◌, ℕ, Bool, true, ◌&&◌, List, map, Option, Some, None}
use Rattle.std.specs.List.{list_all}
use Rattle.std.specs.Str.{bytes_eq}
use Rattle.std.specs.Char.{is_ascii_alphabetic, to_ascii_lowercase}
use Rattle.std.specs.Cmp.Lexicographic.{bytes_decides}
use Rattle.estelle_tree.specs.declared.tree.name.Name.{Name}
use Rattle.estelle_tree.specs.declared.tree.statement.Stmt.{Stmt, out-Stmt, map-Stmt, fold_out-Stmt}
use Rattle.estelle_tree.specs.declared.tree.statement.Case.{Case, out-Case}
use Rattle.estelle_tree.specs.declared.tree.statement.Stmts.{Stmts, out-Stmts, roll-Stmts}
use Rattle.estelle_tree.specs.declared.tree.statement.Stmt.TheOpen.{Stmt-F, Case-F, Stmts-F}
use Rattle.estelle_tree.specs.declared.tree.statement.Stmt.TheFolds.{fold-Stmt, fold-Case, fold-Stmts, map-Case, map-Stmts, fold_out-Case, fold_out-Stmts, fold-roll-Stmts}
use Rattle.estelle_tree.proofs.StatementFolds as kind
use Rattle.estelle_tree.proofs.StatementFolds.{Kind, Layer}
use Rattle.estelle_tree.specs.Lexed.{first_is, is_word_byte}
use Rattle.estelle_tree.specs.Kind.{is_identifier}
use Rattle.estelle_model_legality.proofs.Lists.{and_both, both_and}
use Rattle.trace_text.specs.Forms.{IsName}

-- ---- a test of names

abbrev pub is_name : List ℕ → Bool
is_name w = first_is is_ascii_alphabetic w && (list_all is_word_byte w && (bytes_eq (map to_ascii_lowercase w) w && is_identifier w))

pub name_is : (w : List ℕ) → is_name w ≡ true → IsName w
name_is w h =
    let a = and_both (first_is is_ascii_alphabetic w) _ h in
    let b = and_both (list_all is_word_byte w) _ a.1 in
    let c = and_both (bytes_eq (map to_ascii_lowercase w) w) _ b.1 in
    record { letter = a.0; all = b.0; lower = (bytes_decides (map to_ascii_lowercase w) w).0 c.0; free = c.1 }

pub is_named : (w : List ℕ) → IsName w → is_name w ≡ true
is_named w h = both_and (first_is is_ascii_alphabetic w) _ h.letter (both_and (list_all is_word_byte w) _ h.all (both_and (bytes_eq (map to_ascii_lowercase w) w) _ ((bytes_decides (map to_ascii_lowercase w) w).1 h.lower) h.free))

abbrev pub are_names : Name → Name → Bool
are_names p x = is_name p.word && is_name x.word

-- ---- a test of statements

abbrev pub or_true : Option Bool → Bool
or_true None = true
or_true (Some b) = b

abbrev pub stmt_names : Stmt-F Bool Bool Bool → Bool
stmt_names (Stmt-F.Begin body span) = body
stmt_names (Stmt-F.If test then_part else_part span) = then_part && or_true else_part
stmt_names (Stmt-F.While test body span) = body
stmt_names (Stmt-F.Repeat body test span) = body
stmt_names (Stmt-F.Count x first dir last body span) = body
stmt_names (Stmt-F.Case e cases semicolon span) = list_all (λ b. b) cases
stmt_names (Stmt-F.Output p x es span) = are_names p x
stmt_names _ = true

abbrev pub case_names : Case-F Bool Bool Bool → Bool
case_names c = c.body

abbrev pub stmts_names : Stmts-F Bool Bool Bool → Bool
stmts_names x = list_all (λ b. b) x.stmts

abbrev pub layers : (k : Kind) → Layer k (λ k. Bool) → Bool
layers kind.stmt = stmt_names
layers kind.branch = case_names
layers kind.stmts = stmts_names

unfoldable pub named_stmt : Stmt → Bool
named_stmt = fold-Stmt Bool Bool Bool stmt_names case_names stmts_names

unfoldable pub named_case : Case → Bool
named_case = fold-Case Bool Bool Bool stmt_names case_names stmts_names

unfoldable pub named_stmts : Stmts → Bool
named_stmts = fold-Stmts Bool Bool Bool stmt_names case_names stmts_names

-- ---- one layer

abbrev pub stmt_test : Stmt-F Stmt Case Stmts → Bool
stmt_test l = stmt_names (map-Stmt Stmt Case Stmts Bool Bool Bool named_stmt named_case named_stmts l)

abbrev pub case_test : Case-F Stmt Case Stmts → Bool
case_test l = case_names (map-Case Stmt Case Stmts Bool Bool Bool named_stmt named_case named_stmts l)

abbrev pub stmts_test : Stmts-F Stmt Case Stmts → Bool
stmts_test l = stmts_names (map-Stmts Stmt Case Stmts Bool Bool Bool named_stmt named_case named_stmts l)

pub stmts_made : (l : Stmts-F Stmt Case Stmts) → named_stmts (roll-Stmts l) ≡ stmts_test l
unfolding named_stmt named_case named_stmts
stmts_made l = fold-roll-Stmts Bool Bool Bool stmt_names case_names stmts_names l

pub stmt_out : (x : Stmt) → named_stmt x ≡ stmt_test (out-Stmt x)
unfolding named_stmt named_case named_stmts
stmt_out x = fold_out-Stmt Bool Bool Bool stmt_names case_names stmts_names x

pub case_out : (x : Case) → named_case x ≡ case_test (out-Case x)
unfolding named_stmt named_case named_stmts
case_out x = fold_out-Case Bool Bool Bool stmt_names case_names stmts_names x

pub stmts_out : (x : Stmts) → named_stmts x ≡ stmts_test (out-Stmts x)
unfolding named_stmt named_case named_stmts
stmts_out x = fold_out-Stmts Bool Bool Bool stmt_names case_names stmts_names x
