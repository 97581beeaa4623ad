-- What a walk over a tree comes to, one node at a time, and what encloses each.
use Rattle.std.specs.Prelude.{Bool, List, Option, Some, None}
use Rattle.estelle_tree.specs.declared.span.Span.{Span}
use Rattle.estelle_tree.specs.declared.tree.name.Name.{Name}
use Rattle.estelle_tree.specs.declared.tree.name.NameList.{NameList}
use Rattle.estelle_tree.specs.declared.tree.type_expr.Const.{Const}
use Rattle.estelle_tree.specs.declared.tree.type_expr.TypedNames.{TypedNames}
use Rattle.estelle_tree.specs.declared.tree.expression.Expr.{Expr}
use Rattle.estelle_tree.specs.declared.tree.expression.Args.{Args}
use Rattle.estelle_tree.specs.declared.tree.expression.Variable.{Variable}
use Rattle.estelle_tree.specs.declared.tree.statement.Ip.{Ip}
use Rattle.estelle_tree.specs.declared.tree.declaration.ConstDef.{ConstDef}
use Rattle.estelle_tree.specs.declared.tree.declaration.TypeDef.{TypeDef}
use Rattle.estelle_tree.specs.declared.tree.declaration.Routine.{Routine}
use Rattle.estelle_tree.specs.declared.tree.clause.Block.{Block}
use Rattle.estelle_tree.specs.declared.tree.clause.Clause.{Clause}
use Rattle.estelle_tree.specs.declared.tree.specification.SysAttr.{SysAttr}
use Rattle.estelle_tree.specs.declared.tree.specification.Init.{Init}
use Rattle.estelle_tree.specs.declared.tree.specification.Channel.{Channel}
use Rattle.estelle_tree.specs.declared.tree.specification.Header.{Header}
use Rattle.estelle_tree.specs.declared.tree.specification.IpDecl.{IpDecl}
use Rattle.estelle_tree.specs.declared.tree.specification.ModvarDecl.{ModvarDecl}
use Rattle.estelle_tree.specs.declared.tree.specification.StatesetDef.{StatesetDef}
use Rattle.estelle_tree.specs.declared.tree.specification.Trans.{Trans}

-- a node of the tree, with what stands in it but for statements, clauses and bodies, which are visited by themselves
pub data Visited : Type 0 where
  -- ---- specifications and bodies

  -- a specification or a body begins; its routines are visible in all of it, and its transitions stand at its end
  Begins : (routines : List Routine) (trans : List Trans) → Visited
  Constants : (defs : List ConstDef) → Visited
  Types : (defs : List TypeDef) → Visited
  Variables : (vars : List TypedNames) → Visited
  ChannelDeclared : (channel : Channel) → Visited
  HeaderDeclared : (header : Header) → Visited
  BodyDeclared : (name header : Name) (span : Span) → Visited
  Ips : (ips : List IpDecl) → Visited
  ModuleVariables : (modvars : List ModvarDecl) → Visited
  States : (states : NameList) → Visited
  StateSets : (sets : List StatesetDef) → Visited
  RoutineDeclared : (routine : Routine) → Visited
  Initializes : (init : Init) → Visited
  -- from the word `trans` on
  Transitions : (span : Span) → Visited
  -- ---- clauses and blocks

  -- a clause, before what it holds for
  ClauseBegins : (clause : Clause) → Visited
  BlockBegins : (block : Block) → Visited
  -- ---- statements

  Assigns : (variable : Variable) (value : Expr) (span : Span) → Visited
  Calls : (name : Name) (args : Option Args) (span : Span) → Visited
  -- the condition of an `if`, a `while` or a `repeat`
  Tests : (condition : Expr) → Visited
  -- a `for`, before its statement
  Counts : (variable : Name) (first last : Expr) (span : Span) → Visited
  -- the selector of a `case`
  Selects : (selector : Expr) → Visited
  Labels : (labels : List Const) → Visited
  Inits : (modvar body : Name) (args : Option Args) (span : Span) → Visited
  Releases : (modvar : Name) (span : Span) → Visited
  Connects : (first second : Ip) (span : Span) → Visited
  Disconnects : (ip : Ip) (span : Span) → Visited
  Attaches : (own modvar ip : Name) (span : Span) → Visited
  Detaches : (own : Name) (span : Span) → Visited
  Outputs : (ip interaction : Name) (args : Option Args) (span : Span) → Visited

-- what a node stands in
pub record Around : Type 0 where
  -- the header of the body; none in a specification itself
  pub header : Option Name
  -- the attribute of the specification itself
  pub attr : Option SysAttr
  -- the specification or the body
  pub span : Span
  pub routine : Option Routine
  -- a clause `when`, and a clause `delay`, holds for it
  pub received : Bool
  pub delayed : Bool

pub record Visit : Type 0 where
  pub around : Around
  pub node : Visited
