-- Channels, headers, bodies and a specification without their spans.
use Rattle.std.specs.Prelude.{map}
use Rattle.std.specs.Option.{option_map}
use Rattle.estelle_tree.specs.declared.tree.specification.Spec.{Spec}
use Rattle.estelle_tree.specs.declared.tree.specification.SysAttr.{SysAttr}
use Rattle.estelle_tree.specs.declared.tree.specification.SysAttr.TheVariants as sys_attr
use Rattle.estelle_tree.specs.declared.tree.specification.Attr.{Attr}
use Rattle.estelle_tree.specs.declared.tree.specification.Attr.TheVariants as attr
use Rattle.estelle_tree.specs.declared.tree.specification.Head.{Head}
use Rattle.estelle_tree.specs.declared.tree.specification.Head.TheVariants as head
use Rattle.estelle_tree.specs.declared.tree.specification.Disc.{Disc}
use Rattle.estelle_tree.specs.declared.tree.specification.Disc.TheVariants as disc
use Rattle.estelle_tree.specs.declared.tree.specification.Parts.{Parts, roll-Parts}
use Rattle.estelle_tree.specs.declared.tree.specification.Trans.{Trans}
use Rattle.estelle_tree.specs.declared.tree.specification.Init.{Init}
use Rattle.estelle_tree.specs.declared.tree.specification.Decl.{Decl, roll-Decl, fold-Decl}
use Rattle.estelle_tree.specs.declared.tree.specification.Decl.TheOpen.{Decl-F, Body-F, Parts-F}
use Rattle.estelle_tree.specs.declared.tree.specification.Decl.TheFolds.{fold-Body, fold-Parts}
use Rattle.estelle_tree.specs.declared.tree.specification.Channel.{Channel}
use Rattle.estelle_tree.specs.declared.tree.specification.InterGroup.{InterGroup}
use Rattle.estelle_tree.specs.declared.tree.specification.Inter.{Inter}
use Rattle.estelle_tree.specs.declared.tree.specification.Params.{Params}
use Rattle.estelle_tree.specs.declared.tree.specification.ParamGroup.{ParamGroup}
use Rattle.estelle_tree.specs.declared.tree.specification.Header.{Header}
use Rattle.estelle_tree.specs.declared.tree.specification.IpDecl.{IpDecl}
use Rattle.estelle_tree.specs.declared.tree.specification.ModvarDecl.{ModvarDecl}
use Rattle.estelle_tree.specs.declared.tree.specification.StatesetDef.{StatesetDef}
use Rattle.estelle_tree.specs.declared.tree.specification.Body.{Body, roll-Body}
use Rattle.estelle_tree.specs.Spans.{DeclLayer, nowhere}
use Rattle.round_trip.specs.Types.{bare_name, bare_names, bare_typed}
use Rattle.round_trip.specs.Declarations.{bare_const_def, bare_type_def, bare_routine}
use Rattle.round_trip.specs.Clauses.{bare_block, bare_trans_body}

abbrev pub bare_sys_attr : SysAttr → SysAttr
bare_sys_attr (sys_attr.Systemprocess span) = sys_attr.Systemprocess nowhere
bare_sys_attr (sys_attr.Systemactivity span) = sys_attr.Systemactivity nowhere

abbrev pub bare_attr : Attr → Attr
bare_attr (attr.SysAttr sys) = attr.SysAttr (bare_sys_attr sys)
bare_attr (attr.Process span) = attr.Process nowhere
bare_attr (attr.Activity span) = attr.Activity nowhere

abbrev pub bare_disc : Disc → Disc
bare_disc (disc.Individual span) = disc.Individual nowhere
bare_disc (disc.Common span) = disc.Common nowhere

abbrev pub bare_head : Head → Head
bare_head (head.Default disc span) = head.Default (bare_disc disc) nowhere
bare_head (head.Timescale unit span) = head.Timescale (bare_name unit) nowhere

abbrev pub bare_param_group : ParamGroup → ParamGroup
bare_param_group g = record { names = bare_names g.names; type_name = bare_name g.type_name }

abbrev pub bare_params : Params → Params
bare_params ps = record { groups = map bare_param_group ps.groups; span = nowhere }

abbrev pub bare_inter : Inter → Inter
bare_inter x = record { name = bare_name x.name; params = option_map bare_params x.params; span = nowhere }

abbrev pub bare_inter_group : InterGroup → InterGroup
bare_inter_group g = record { roles = bare_names g.roles; inters = map bare_inter g.inters }

abbrev pub bare_channel : Channel → Channel
bare_channel c = record {
  name = bare_name c.name;
  first_role = bare_name c.first_role;
  second_role = bare_name c.second_role;
  groups = map bare_inter_group c.groups;
  span = nowhere;
}

abbrev pub bare_ip_decl : IpDecl → IpDecl
bare_ip_decl p = record {
  names = bare_names p.names;
  channel = bare_name p.channel;
  role = bare_name p.role;
  disc = option_map bare_disc p.disc;
  span = nowhere;
}

abbrev pub bare_modvar_decl : ModvarDecl → ModvarDecl
bare_modvar_decl m = record { names = bare_names m.names; header = bare_name m.header }

abbrev pub bare_stateset_def : StatesetDef → StatesetDef
bare_stateset_def s = record { name = bare_name s.name; states = bare_names s.states }

abbrev pub bare_header : Header → Header
bare_header h = record {
  name = bare_name h.name;
  attr = option_map bare_attr h.attr;
  params = option_map bare_params h.params;
  ips = map bare_ip_decl h.ips;
  exports = map bare_typed h.exports;
  span = nowhere;
}

abbrev pub bare_init : Init → Init
bare_init x = record { to = option_map bare_name x.to; block = bare_block x.block; span = nowhere }

abbrev pub bare_trans : Trans → Trans
bare_trans t = record { body = bare_trans_body t.body; span = nowhere }

-- One level: the declarations and bodies in it have lost their spans.
abbrev pub decl_layer : DeclLayer → Decl
decl_layer (Decl-F.Const defs span) = roll-Decl (Decl-F.Const (map bare_const_def defs) nowhere)
decl_layer (Decl-F.Types defs span) = roll-Decl (Decl-F.Types (map bare_type_def defs) nowhere)
decl_layer (Decl-F.Channel channel) = roll-Decl (Decl-F.Channel (bare_channel channel))
decl_layer (Decl-F.Header header) = roll-Decl (Decl-F.Header (bare_header header))
decl_layer (Decl-F.Body body) = roll-Decl (Decl-F.Body body)
decl_layer (Decl-F.Ip ips span) = roll-Decl (Decl-F.Ip (map bare_ip_decl ips) nowhere)
decl_layer (Decl-F.Modvar modvars span) = roll-Decl (Decl-F.Modvar (map bare_modvar_decl modvars) nowhere)
decl_layer (Decl-F.Var vars span) = roll-Decl (Decl-F.Var (map bare_typed vars) nowhere)
decl_layer (Decl-F.State states span) = roll-Decl (Decl-F.State (bare_names states) nowhere)
decl_layer (Decl-F.Stateset sets span) = roll-Decl (Decl-F.Stateset (map bare_stateset_def sets) nowhere)
decl_layer (Decl-F.Routine routine) = roll-Decl (Decl-F.Routine (bare_routine routine))

abbrev pub body_layer : Body-F Decl Body Parts → Body
body_layer b = roll-Body (record b { name = bare_name b.name; header = bare_name b.header; span = nowhere })

abbrev pub parts_layer : Parts-F Decl Body Parts → Parts
parts_layer ps = roll-Parts (record ps { init = option_map bare_init ps.init; trans = map bare_trans ps.trans; span = nowhere })

unfoldable pub bare_decl : Decl → Decl
bare_decl = fold-Decl Decl Body Parts decl_layer body_layer parts_layer

unfoldable pub bare_body : Body → Body
bare_body = fold-Body Decl Body Parts decl_layer body_layer parts_layer

unfoldable pub bare_parts : Parts → Parts
bare_parts = fold-Parts Decl Body Parts decl_layer body_layer parts_layer

abbrev pub bare_spec : Spec → Spec
bare_spec s = record {
  name = bare_name s.name;
  attr = option_map bare_sys_attr s.attr;
  heads = map bare_head s.heads;
  parts = bare_parts s.parts;
  span = nowhere;
}
