-- The visits of a tree, in text order.
use Rattle.std.specs.Prelude.{Bool, true, false, List, [], ◌∷◌, ◌++◌, map, Option, Some, None}
use Rattle.std.specs.List.{flat_map}
use Rattle.estelle_tree.specs.declared.span.Span.{Span}
use Rattle.estelle_tree.specs.declared.tree.name.Name.{Name}
use Rattle.estelle_tree.specs.declared.tree.statement.Stmt.{Stmt}
use Rattle.estelle_tree.specs.declared.tree.statement.Stmt.TheOpen.{Stmt-F, Case-F, Stmts-F}
use Rattle.estelle_tree.specs.declared.tree.statement.Stmt.TheFolds.{fold-Stmt, fold-Case, fold-Stmts}
use Rattle.estelle_tree.specs.declared.tree.statement.Stmts.{Stmts}
use Rattle.estelle_tree.specs.declared.tree.statement.Case.{Case}
use Rattle.estelle_tree.specs.declared.tree.declaration.BlockDecl.{BlockDecl}
use Rattle.estelle_tree.specs.declared.tree.declaration.BlockDecl.TheVariants as block_decl
use Rattle.estelle_tree.specs.declared.tree.declaration.Routine.{Routine}
use Rattle.estelle_tree.specs.declared.tree.clause.Block.{Block}
use Rattle.estelle_tree.specs.declared.tree.clause.Clause.{Clause}
use Rattle.estelle_tree.specs.declared.tree.clause.Clause.TheVariants as clause
use Rattle.estelle_tree.specs.declared.tree.clause.TransBody.{TransBody}
use Rattle.estelle_tree.specs.declared.tree.clause.TransBody.TheOpen.{TransBody-F, Group-F}
use Rattle.estelle_tree.specs.declared.tree.clause.TransBody.TheFolds.{fold-TransBody, fold-Group}
use Rattle.estelle_tree.specs.declared.tree.clause.Group.{Group}
use Rattle.estelle_tree.specs.declared.tree.specification.SysAttr.{SysAttr}
use Rattle.estelle_tree.specs.declared.tree.specification.Spec.{Spec}
use Rattle.estelle_tree.specs.declared.tree.specification.Init.{Init}
use Rattle.estelle_tree.specs.declared.tree.specification.Trans.{Trans}
use Rattle.estelle_tree.specs.declared.tree.specification.Parts.{Parts}
use Rattle.estelle_tree.specs.declared.tree.specification.Decl.{Decl}
use Rattle.estelle_tree.specs.declared.tree.specification.Decl.TheOpen.{Decl-F, Body-F, Parts-F}
use Rattle.estelle_tree.specs.declared.tree.specification.Decl.TheFolds.{fold-Decl, fold-Body, fold-Parts}
use Rattle.estelle_tree.specs.declared.tree.specification.Body.{Body}
use Rattle.tree_visits.specs.Visit.{Visited, Begins, Constants, Types, Variables, ChannelDeclared, HeaderDeclared, BodyDeclared, Ips, ModuleVariables, States, StateSets, RoutineDeclared, Initializes, Transitions, ClauseBegins, BlockBegins, Assigns, Calls, Tests, Counts, Selects, Labels, Inits, Releases, Connects, Disconnects, Attaches, Detaches, Outputs, Around, Visit}

abbrev pub Nodes : Type 0
Nodes = List Visited

abbrev pub Visits : Type 0
Visits = List Visit

-- ---- statements

abbrev pub or_none : Option Nodes → Nodes
or_none None = []
or_none (Some ns) = ns

abbrev pub stmt_layer : Stmt-F Nodes Nodes Nodes → Nodes
stmt_layer Stmt-F.Empty = []
stmt_layer (Stmt-F.Assign v e span) = Assigns v e span ∷ []
stmt_layer (Stmt-F.Call x a span) = Calls x a span ∷ []
stmt_layer (Stmt-F.Begin stmts span) = stmts
stmt_layer (Stmt-F.If e then_part else_part span) = Tests e ∷ (then_part ++ or_none else_part)
stmt_layer (Stmt-F.While e body span) = Tests e ∷ body
stmt_layer (Stmt-F.Repeat stmts e span) = stmts ++ Tests e ∷ []
stmt_layer (Stmt-F.Count x low direction high body span) = Counts x low high span ∷ body
stmt_layer (Stmt-F.Case e cases semicolon span) = Selects e ∷ flat_map (λ c. c) cases
stmt_layer (Stmt-F.Init modvar body a span) = Inits modvar body a span ∷ []
stmt_layer (Stmt-F.Release modvar span) = Releases modvar span ∷ []
stmt_layer (Stmt-F.Connect first second span) = Connects first second span ∷ []
stmt_layer (Stmt-F.Disconnect ip span) = Disconnects ip span ∷ []
stmt_layer (Stmt-F.Attach own modvar ip span) = Attaches own modvar ip span ∷ []
stmt_layer (Stmt-F.Detach own span) = Detaches own span ∷ []
stmt_layer (Stmt-F.Output ip interaction a span) = Outputs ip interaction a span ∷ []

abbrev pub case_layer : Case-F Nodes Nodes Nodes → Nodes
case_layer c = Labels c.labels ∷ c.body

abbrev pub stmts_layer : Stmts-F Nodes Nodes Nodes → Nodes
stmts_layer ss = flat_map (λ s. s) ss.stmts

unfoldable pub stmt : Stmt → Nodes
stmt = fold-Stmt Nodes Nodes Nodes stmt_layer case_layer stmts_layer

unfoldable pub case_ : Case → Nodes
case_ = fold-Case Nodes Nodes Nodes stmt_layer case_layer stmts_layer

unfoldable pub stmts : Stmts → Nodes
stmts = fold-Stmts Nodes Nodes Nodes stmt_layer case_layer stmts_layer

-- ---- definitions and blocks

abbrev pub block_decl_node : BlockDecl → Visited
block_decl_node (block_decl.Const defs span) = Constants defs
block_decl_node (block_decl.Types defs span) = Types defs
block_decl_node (block_decl.Var vars span) = Variables vars

-- definitions, and the statements behind them
abbrev pub defined : List BlockDecl → Stmts → Nodes
defined ds ss = map block_decl_node ds ++ stmts ss

abbrev pub block : Block → Nodes
block b = BlockBegins b ∷ defined b.decls b.body

abbrev pub init_nodes : Option Init → Nodes
init_nodes None = []
init_nodes (Some x) = Initializes x ∷ block x.block

-- ---- what nodes stand in

abbrev pub visit_of : Around → Visited → Visit
visit_of a n = record { around = a; node = n }

-- nodes that stand in one body and routine
unfoldable pub standing : Around → Nodes → Visits
standing a = map (visit_of a)

abbrev pub in_specification : Option SysAttr → Span → Around
in_specification attr span = record { header = None; attr = attr; span = span; routine = None; received = false; delayed = false }

abbrev pub in_body : Name → Span → Around
in_body header span = record { header = Some header; attr = None; span = span; routine = None; received = false; delayed = false }

abbrev pub in_routine : Around → Routine → Around
in_routine a r = record { header = a.header; attr = a.attr; span = a.span; routine = Some r; received = a.received; delayed = a.delayed }

-- for which a clause holds
abbrev pub behind : Around → Clause → Around
behind a (clause.When ip interaction params span) = record { header = a.header; attr = a.attr; span = a.span; routine = a.routine; received = true; delayed = a.delayed }
behind a (clause.Delay low high span) = record { header = a.header; attr = a.attr; span = a.span; routine = a.routine; received = a.received; delayed = true }
behind a c = a

-- ---- clauses before blocks

abbrev pub trans_body_layer : TransBody-F (Around → Visits) (Around → Visits) → Around → Visits
trans_body_layer (TransBody-F.Block b) a = standing a (block b)
trans_body_layer (TransBody-F.Groups groups span) a = flat_map (λ g. g a) groups

abbrev pub group_layer : Group-F (Around → Visits) (Around → Visits) → Around → Visits
group_layer g a = standing a (ClauseBegins g.clause ∷ []) ++ g.body (behind a g.clause)

unfoldable pub trans_body : TransBody → Around → Visits
trans_body = fold-TransBody (Around → Visits) (Around → Visits) trans_body_layer group_layer

unfoldable pub group : Group → Around → Visits
group = fold-Group (Around → Visits) (Around → Visits) trans_body_layer group_layer

abbrev pub trans : Around → Trans → Visits
trans a t = standing a (Transitions t.span ∷ []) ++ trans_body t.body a

-- ---- bodies

-- a declaration: the routine that it declares, and its visits
pub record Declaring : Type 0 where
  pub routines : List Routine
  pub visits : Around → Visits

-- a declaration that is one node
abbrev pub alone : Visited → Declaring
alone n = record { routines = []; visits = λ a. standing a (n ∷ []) }

abbrev pub decl_layer : Decl-F Declaring (Around → Visits) (Around → Visits) → Declaring
decl_layer (Decl-F.Const defs span) = alone (Constants defs)
decl_layer (Decl-F.Types defs span) = alone (Types defs)
decl_layer (Decl-F.Channel c) = alone (ChannelDeclared c)
decl_layer (Decl-F.Header h) = alone (HeaderDeclared h)
decl_layer (Decl-F.Body b) = record { routines = []; visits = b }
decl_layer (Decl-F.Ip ips span) = alone (Ips ips)
decl_layer (Decl-F.Modvar modvars span) = alone (ModuleVariables modvars)
decl_layer (Decl-F.Var vars span) = alone (Variables vars)
decl_layer (Decl-F.State states span) = alone (States states)
decl_layer (Decl-F.Stateset sets span) = alone (StateSets sets)
decl_layer (Decl-F.Routine r) = record { routines = r ∷ []; visits = λ a. standing a (RoutineDeclared r ∷ []) ++ standing (in_routine a r) (defined r.decls r.body) }

-- a body is declared in another, and what stands in it stands in it alone
abbrev pub body_layer : Body-F Declaring (Around → Visits) (Around → Visits) → Around → Visits
body_layer b a = standing a (BodyDeclared b.name b.header b.span ∷ []) ++ b.parts (in_body b.header b.span)

abbrev pub parts_layer : Parts-F Declaring (Around → Visits) (Around → Visits) → Around → Visits
parts_layer ps a = standing a (Begins (flat_map (λ d. d.routines) ps.decls) ps.trans ∷ []) ++ (flat_map (λ d. d.visits a) ps.decls ++ (standing a (init_nodes ps.init) ++ flat_map (trans a) ps.trans))

unfoldable pub decl : Decl → Declaring
decl = fold-Decl Declaring (Around → Visits) (Around → Visits) decl_layer body_layer parts_layer

unfoldable pub body : Body → Around → Visits
body = fold-Body Declaring (Around → Visits) (Around → Visits) decl_layer body_layer parts_layer

unfoldable pub parts : Parts → Around → Visits
parts = fold-Parts Declaring (Around → Visits) (Around → Visits) decl_layer body_layer parts_layer

-- the routines that these declare
abbrev pub routines_in : List Decl → List Routine
routines_in = flat_map (λ d. (decl d).routines)

-- the nodes that rules and tables speak of, in text order, each with what it stands in
unfoldable pub visits : Spec → Visits
visits s = parts s.parts (in_specification s.attr s.span)
