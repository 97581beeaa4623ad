-- What the place of a name in use needs.
use Rattle.std.specs.Prelude.{Bool, true, false}
use Rattle.scope_rules.specs.declared.declaration.Denotes.{Denotes}
use Rattle.scope_rules.specs.declared.declaration.Denotes.TheVariants as d
use Rattle.scope_rules.specs.declared.declaration.Need.{Need}
use Rattle.scope_rules.specs.declared.declaration.Need.TheVariants as need

-- a name that denotes this may stand where that is needed
abbrev pub may_be : Need → Denotes → Bool
may_be need.Constant d.Constant = true
may_be need.Type d.Type = true
may_be need.Variable d.Variable = true
may_be need.Variable d.Exported = true
may_be need.Selected d.Variable = true
may_be need.Selected d.Exported = true
may_be need.Selected d.ModuleVariable = true
may_be need.Component d.Field = true
may_be need.Component d.Exported = true
may_be need.Value d.Constant = true
may_be need.Value d.Variable = true
may_be need.Value d.Exported = true
may_be need.Value d.Function = true
may_be need.Value d.RequiredFunction = true
may_be need.Assigned d.Variable = true
may_be need.Assigned d.Exported = true
may_be need.Assigned d.Function = true
may_be need.Procedure d.Procedure = true
may_be need.Function d.Function = true
may_be need.Function d.RequiredFunction = true
may_be need.Channel d.Channel = true
may_be need.Role d.Role = true
may_be need.Interaction d.Interaction = true
may_be need.Header d.Header = true
may_be need.Body d.Body = true
may_be need.ModuleVariable d.ModuleVariable = true
may_be need.Ip d.Ip = true
may_be need.Disconnected d.Ip = true
may_be need.Disconnected d.ModuleVariable = true
may_be need.State d.State = true
may_be need.Origin d.State = true
may_be need.Origin d.StateSet = true
may_be n k = false

-- what a name brings that stands here is noted, for the declarations that name it
abbrev pub is_noted : Need → Bool
is_noted need.Type = true
is_noted need.Channel = true
is_noted need.Header = true
is_noted n = false

-- what an inner body does not see of the bodies around it: their variables, module variables, ips, states and state sets
abbrev pub is_private : Denotes → Bool
is_private d.Variable = true
is_private d.Exported = true
is_private d.ModuleVariable = true
is_private d.Ip = true
is_private d.State = true
is_private d.StateSet = true
is_private k = false

-- what is found among the names of its channel alone: its roles and interactions
abbrev pub is_of_channel : Denotes → Bool
is_of_channel d.Role = true
is_of_channel d.Interaction = true
is_of_channel k = false

abbrev pub is_role : Denotes → Bool
is_role = may_be need.Role
