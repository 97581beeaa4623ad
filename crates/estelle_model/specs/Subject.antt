-- What is run: a specification, with what its names mean.
-- The definitions of runs reach the tree through the accessors of this file alone.
use Rattle.std.specs.Prelude.{ℕ, zero, suc, List, [], ◌++◌, length, map, replicate, drop, slice_get, option_map, option_and_then, unwrap_or, Option, Some, None}
use Rattle.pascal_values.specs.declared.value.Value.{Value}
use Rattle.pascal_values.specs.Shapes.{blank_of}
use Rattle.estelle_tree.specs.declared.names.Names.{Names}
use Rattle.estelle_tree.specs.declared.names.Use.{Use}
use Rattle.estelle_tree.specs.declared.tree.name.Name.{Name}
use Rattle.estelle_tree.specs.declared.tree.clause.Block.{Block}
use Rattle.estelle_tree.specs.declared.tree.statement.Stmts.{Stmts}
use Rattle.estelle_tree.specs.declared.tree.statement.Stmt.TheViews.{roll-Stmts}
use Rattle.estelle_tree.specs.declared.tree.specification.Init.{Init}
use Rattle.estelle_tree.specs.declared.tree.specification.Spec.{Spec}
use Rattle.estelle_model.specs.declared.denoter.Denoter.{Denoter}
use Rattle.estelle_model.specs.Types.{shape_of}
use Rattle.estelle_model.specs.declared.meaning.Passing.TheVariants.{ByValue}
use Rattle.estelle_model.specs.declared.meaning.Routine.{Routine}
use Rattle.estelle_model.specs.declared.meaning.InteractionPoint.{InteractionPoint}
use Rattle.estelle_model.specs.Meant.{Meanings}
use Rattle.estelle_model.specs.Denoted.{section_types}
use Rattle.estelle_model.specs.Definitions.{local_variables}
use Rattle.estelle_model.specs.Bodies.{BodyAlone, bodies, bodies_declare, default_of, heading, variable_types, module_variables_in, module_headers, ips_of_body}
use Rattle.estelle_model.specs.Names.{Declared, meant_by, declared}
use Rattle.estelle_model.specs.Transitions.{Choice, with_choices, Transition, flat, state_at}
use Rattle.estelle_model.specs.Core.{Instance}

pub record Subject : Type 0 where
  pub specification : Spec
  -- for each name in use, the name in its declaration
  pub names : List Use

-- of a specification with the names that were found
abbrev pub subject : Spec → Names → Subject
subject spec names = record { specification = spec; names = names.uses }

abbrev pub declared_in : Subject → Declared
declared_in s = declared s.names (bodies_declare 0 (bodies s.specification))

-- what each name in use means
abbrev pub meant : Subject → Meanings
meant s = meant_by s.names (declared_in s)

-- what it means where the names of an `any` clause have values
abbrev pub meant_with : Subject → List Choice → Meanings
meant_with s chosen = meant_by s.names (with_choices (declared_in s) chosen)

abbrev pub body : Subject → ℕ → Option BodyAlone
body s k = slice_get (bodies s.specification) k

-- a block as a routine whose parameters are those of the interaction that it receives
abbrev pub of_block : Meanings → List Denoter → Block → Routine
of_block known received b = record {
  parameters = map ByValue received;
  locals = section_types known (local_variables b.decls);
  result = None;
  body = b.body;
}

-- ---- transitions

abbrev pub transitions_of : Subject → Option BodyAlone → List Transition
transitions_of s None = []
transitions_of s (Some b) = flat (meant_with s) b

-- the transitions of the body with a number
abbrev pub transitions : Subject → ℕ → List Transition
transitions s k = transitions_of s (body s k)

abbrev pub numbered_one : List Transition → ℕ → Option Transition
numbered_one ts zero = None
numbered_one ts (suc n) = slice_get ts n

-- the transition of a body with a number, counted from 1
abbrev pub transition : Subject → ℕ → ℕ → Option Transition
transition s k n = numbered_one (transitions s k) n

-- ---- the initialization

-- the state after it, and its block
pub record Initialization : Type 0 where
  pub to : Option ℕ
  pub block : Routine

abbrev pub initial_state : Meanings → Option Name → Option ℕ
initial_state known None = None
initial_state known (Some x) = state_at known (known x)

abbrev pub of_init : Meanings → Init → Initialization
of_init known i = record { to = initial_state known i.to; block = of_block known [] i.block }

-- the initialization of the body with a number, if one is written
abbrev pub initialization : Subject → ℕ → Option Initialization
initialization s k = option_and_then (λ b. option_map (of_init (meant s)) b.init) (body s k)

-- ---- new instances

abbrev pub blanks : List Denoter → List Value
blanks = map (λ t. blank_of (shape_of t))

-- an instance as it is made: it has no state, its parameters have these values, and everything else in it is unset or empty
abbrev pub new_instance : Subject → ℕ → BodyAlone → List Value → Instance
new_instance s k b parameters = record {
  body = k;
  state = None;
  variables = parameters ++ blanks (drop (length parameters) (variable_types (meant s) b));
  module_variables = replicate (length (module_variables_in b)) None;
  births = 0;
}

-- what is made of a body
pub record Child : Type 0 where
  -- the place where its header is declared
  pub header : ℕ
  -- how many of its interaction points are external
  pub external : ℕ
  pub parameters : List Denoter
  pub with_parameters : List Value → Instance
  pub to : Option ℕ
  pub block : Routine

-- statements that do nothing
abbrev pub no_statements : Stmts
no_statements = roll-Stmts (record { stmts = []; span = record { start = 0; end = 0 } })

abbrev pub nothing_to_do : Initialization
nothing_to_do = record { to = None; block = record { parameters = []; locals = []; result = None; body = no_statements } }

-- the initialization of the body with a number, which does nothing where none is written
abbrev pub begins : Subject → ℕ → Initialization
begins s k = unwrap_or (initialization s k) nothing_to_do

abbrev pub child_by : Subject → ℕ → BodyAlone → Child
child_by s k b = record {
  header = (heading (meant s) b.header).at;
  external = length (heading (meant s) b.header).ips;
  parameters = (heading (meant s) b.header).parameters;
  with_parameters = new_instance s k b;
  to = (begins s k).to;
  block = (begins s k).block;
}

abbrev pub no_body : BodyAlone
no_body = record { name = None; header = None; brought = []; init = None; trans = [] }

-- an instance of the body with a number
abbrev pub child_of : Subject → ℕ → Child
child_of s k = child_by s k (unwrap_or (body s k) no_body)

-- the types of the variables of an instance of the body
abbrev pub types_of_variables : Subject → ℕ → List Denoter
types_of_variables s k = variable_types (meant s) (unwrap_or (body s k) no_body)

-- the header of each module variable of an instance of the body, by the place where it is declared
abbrev pub headers_of : Subject → ℕ → List ℕ
headers_of s k = module_headers (meant s) (unwrap_or (body s k) no_body)

-- the interaction points of an instance of the body
abbrev pub ips_of : Subject → ℕ → List InteractionPoint
ips_of s k = ips_of_body (meant s) (default_of s.specification.heads) (unwrap_or (body s k) no_body)
