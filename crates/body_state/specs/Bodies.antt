-- What is known of each body of a specification before an instance of it is made.
use Rattle.std.specs.Prelude.{ℕ, suc, not, List, [], ◌∷◌, length, option_map, Option, Some, None}
use Rattle.estelle_model.specs.Bodies.{BodyAlone, bodies, default_of, heading, variable_types, module_variables_in, module_headers, ips_of_body}
use Rattle.estelle_model.specs.Transitions.{flat}
use Rattle.estelle_model.specs.Subject as model
use Rattle.estelle_model.specs.Subject.{Subject, meant, meant_with, of_init, nothing_to_do}
use Rattle.estelle_model.specs.declared.meaning.Routine.{Routine}
use Rattle.estelle_model.specs.Attributes.{attribute, is_empty}
use Rattle.body_state.specs.declared.bodies.Initialization.{Initialization}
use Rattle.body_state.specs.declared.bodies.ModuleBody.{ModuleBody}

abbrev pub initialization_of : model.Initialization → Initialization
initialization_of i = record { to = i.to; block = i.block }

-- the body with a number
abbrev pub module_body : Subject → ℕ → BodyAlone → ModuleBody
module_body s k b = record {
  header = (heading (meant s) b.header).at;
  attribute = attribute s k;
  has_transitions = not (is_empty (flat (meant_with s) b));
  parameters = (heading (meant s) b.header).parameters;
  variables = variable_types (meant s) b;
  module_variables = length (module_variables_in b);
  module_headers = module_headers (meant s) b;
  ips = ips_of_body (meant s) (default_of s.specification.heads) b;
  external = length (heading (meant s) b.header).ips;
  initialization = option_map initialization_of (option_map (of_init (meant s)) b.init);
}

-- the state after the initialization of a body
abbrev pub state_of : Option Initialization → Option ℕ
state_of None = None
state_of (Some i) = i.to

abbrev pub state_after : ModuleBody → Option ℕ
state_after b = state_of b.initialization

abbrev pub block_by : Option Initialization → Routine
block_by None = nothing_to_do.block
block_by (Some i) = i.block

-- the block of the initialization of a body, which does nothing where none is written
abbrev pub block_of : ModuleBody → Routine
block_of b = block_by b.initialization

-- bodies in order, the first of which has a number
abbrev pub bodies_from : Subject → ℕ → List BodyAlone → List ModuleBody
bodies_from s k [] = []
bodies_from s k (b ∷ bs) = module_body s k b ∷ bodies_from s (suc k) bs

-- the bodies of a specification
abbrev pub module_bodies : Subject → List ModuleBody
module_bodies s = bodies_from s 0 (bodies s.specification)
