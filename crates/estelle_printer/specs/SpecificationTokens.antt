-- The tokens of channels, headers, bodies and a specification.
use Rattle.std.specs.Prelude.{◌++◌, Option}
use Rattle.std.specs.List.{flat_map}
use Rattle.estelle_tree.specs.declared.kind.Kind.TheVariants as k
use Rattle.estelle_tree.specs.declared.tree.name.Name.{Name}
use Rattle.estelle_tree.specs.declared.tree.specification.Spec.{Spec}
use Rattle.estelle_tree.specs.declared.tree.specification.SysAttr.{SysAttr}
use Rattle.estelle_tree.specs.declared.tree.specification.SysAttr.TheVariants as sys_attr
use Rattle.estelle_tree.specs.declared.tree.specification.Attr.{Attr}
use Rattle.estelle_tree.specs.declared.tree.specification.Attr.TheVariants as attr
use Rattle.estelle_tree.specs.declared.tree.specification.Head.{Head}
use Rattle.estelle_tree.specs.declared.tree.specification.Head.TheVariants as head
use Rattle.estelle_tree.specs.declared.tree.specification.Disc.{Disc}
use Rattle.estelle_tree.specs.declared.tree.specification.Disc.TheVariants as disc
use Rattle.estelle_tree.specs.declared.tree.specification.Parts.{Parts}
use Rattle.estelle_tree.specs.declared.tree.specification.Trans.{Trans}
use Rattle.estelle_tree.specs.declared.tree.specification.Init.{Init}
use Rattle.estelle_tree.specs.declared.tree.specification.Decl.{Decl}
use Rattle.estelle_tree.specs.declared.tree.specification.Decl.TheOpen.{Decl-F, Body-F, Parts-F}
use Rattle.estelle_tree.specs.declared.tree.specification.Decl.TheFolds.{fold-Decl, fold-Body, fold-Parts}
use Rattle.estelle_tree.specs.declared.tree.specification.Channel.{Channel}
use Rattle.estelle_tree.specs.declared.tree.specification.InterGroup.{InterGroup}
use Rattle.estelle_tree.specs.declared.tree.specification.Inter.{Inter}
use Rattle.estelle_tree.specs.declared.tree.specification.Params.{Params}
use Rattle.estelle_tree.specs.declared.tree.specification.ParamGroup.{ParamGroup}
use Rattle.estelle_tree.specs.declared.tree.specification.Header.{Header}
use Rattle.estelle_tree.specs.declared.tree.specification.IpDecl.{IpDecl}
use Rattle.estelle_tree.specs.declared.tree.specification.ModvarDecl.{ModvarDecl}
use Rattle.estelle_tree.specs.declared.tree.specification.StatesetDef.{StatesetDef}
use Rattle.estelle_tree.specs.declared.tree.specification.Body.{Body}
use Rattle.estelle_printer.specs.Forms.{Tokens, mark, optional, separated, lines, may_be_lines, enclosed}
use Rattle.estelle_printer.specs.TypeTokens.{name, names, typed_names}
use Rattle.estelle_printer.specs.DeclarationTokens.{const_def, type_def, routine}
use Rattle.estelle_printer.specs.ClauseTokens.{block, trans_body}

-- SysAttr = systemprocess | systemactivity
abbrev pub sys_attr_tokens : SysAttr → Tokens
sys_attr_tokens (sys_attr.Systemprocess span) = mark k.Systemprocess
sys_attr_tokens (sys_attr.Systemactivity span) = mark k.Systemactivity

-- Attr = SysAttr | process | activity
abbrev pub attr_tokens : Attr → Tokens
attr_tokens (attr.SysAttr sys) = sys_attr_tokens sys
attr_tokens (attr.Process span) = mark k.Process
attr_tokens (attr.Activity span) = mark k.Activity

-- `Disc queue`, where Disc = individual | common
abbrev pub queue : Disc → Tokens
queue (disc.Individual span) = mark k.Individual ++ mark k.Queue
queue (disc.Common span) = mark k.Common ++ mark k.Queue

-- Head = default Disc queue ";" | timescale NAME ";"
abbrev pub head_tokens : Head → Tokens
head_tokens (head.Default d span) = enclosed k.Default k.Semicolon (queue d)
head_tokens (head.Timescale unit span) = enclosed k.Timescale k.Semicolon (name unit)

-- `Names ":" NAME`
abbrev pub param_group : ParamGroup → Tokens
param_group g = names g.names ++ mark k.Colon ++ name g.type_name

-- Params = Names ":" NAME {";" Names ":" NAME}
abbrev pub params : Params → Tokens
params ps = separated k.Semicolon param_group ps.groups

-- `["(" Params ")"]`
abbrev pub may_be_params : Option Params → Tokens
may_be_params = optional (λ ps. enclosed k.OpenParenthesis k.CloseParenthesis (params ps))

-- Inter = NAME ["(" Params ")"]
abbrev pub inter : Inter → Tokens
inter x = name x.name ++ may_be_params x.params

-- `by Names ":" {Inter ";"}+`
abbrev pub inter_group : InterGroup → Tokens
inter_group g = mark k.By ++ names g.roles ++ mark k.Colon ++ lines inter g.inters

-- Channel = channel NAME "(" NAME "," NAME ")" ";" {by Names ":" {Inter ";"}+}+
abbrev pub channel : Channel → Tokens
channel c = mark k.Channel ++ name c.name ++ enclosed k.OpenParenthesis k.CloseParenthesis (name c.first_role ++ mark k.Comma ++ name c.second_role) ++ mark k.Semicolon ++ flat_map inter_group c.groups

-- IpDecl = Names ":" NAME "(" NAME ")" [Disc queue]
abbrev pub ip_decl : IpDecl → Tokens
ip_decl p = names p.names ++ mark k.Colon ++ name p.channel ++ enclosed k.OpenParenthesis k.CloseParenthesis (name p.role) ++ optional queue p.disc

-- `Names ":" NAME`
abbrev pub modvar_decl : ModvarDecl → Tokens
modvar_decl m = names m.names ++ mark k.Colon ++ name m.header

-- `NAME "=" "[" Names "]"`
abbrev pub stateset_def : StatesetDef → Tokens
stateset_def s = name s.name ++ mark k.Equal ++ enclosed k.OpenBracket k.CloseBracket (names s.states)

-- Header = module NAME [Attr] ["(" Params ")"] ";" [ip {IpDecl ";"}+] [export {Names ":" Type ";"}+] end ";"
abbrev pub header : Header → Tokens
header h = mark k.Module ++ name h.name ++ optional attr_tokens h.attr ++ may_be_params h.params ++ mark k.Semicolon ++ may_be_lines k.Ip ip_decl h.ips ++ may_be_lines k.Export typed_names h.exports ++ mark k.End ++ mark k.Semicolon

-- `[to NAME]`
abbrev pub first_state : Option Name → Tokens
first_state = optional (λ n. mark k.To ++ name n)

-- Init = initialize [to NAME] Block
abbrev pub init : Init → Tokens
init x = mark k.Initialize ++ first_state x.to ++ block x.block

-- `trans TransBody`
abbrev pub trans : Trans → Tokens
trans t = mark k.Trans ++ trans_body t.body

-- `body NAME for NAME ";"`
abbrev pub body_head : Name → Name → Tokens
body_head n h = mark k.Body ++ name n ++ mark k.For ++ name h ++ mark k.Semicolon

-- Body = body NAME for NAME ";" Parts end ";"
abbrev pub body_layer : Body-F Tokens Tokens Tokens → Tokens
body_layer b = body_head b.name b.header ++ b.parts ++ mark k.End ++ mark k.Semicolon

-- Decl = const {NAME "=" Const ";"}+ | type {NAME "=" Type ";"}+ | Channel | Header | Body
--      | ip {IpDecl ";"}+ | modvar {Names ":" NAME ";"}+ | var {Names ":" Type ";"}+
--      | state Names ";" | stateset {NAME "=" "[" Names "]" ";"}+ | Routine
abbrev pub decl_layer : Decl-F Tokens Tokens Tokens → Tokens
decl_layer (Decl-F.Const defs span) = mark k.Const ++ lines const_def defs
decl_layer (Decl-F.Types defs span) = mark k.Type ++ lines type_def defs
decl_layer (Decl-F.Channel c) = channel c
decl_layer (Decl-F.Header h) = header h
decl_layer (Decl-F.Body b) = b
decl_layer (Decl-F.Ip ips span) = mark k.Ip ++ lines ip_decl ips
decl_layer (Decl-F.Modvar modvars span) = mark k.Modvar ++ lines modvar_decl modvars
decl_layer (Decl-F.Var vars span) = mark k.Var ++ lines typed_names vars
decl_layer (Decl-F.State states span) = enclosed k.State k.Semicolon (names states)
decl_layer (Decl-F.Stateset sets span) = mark k.Stateset ++ lines stateset_def sets
decl_layer (Decl-F.Routine r) = routine r

-- Parts = {Decl} [Init] {trans TransBody}
abbrev pub parts_layer : Parts-F Tokens Tokens Tokens → Tokens
parts_layer ps = flat_map (λ x. x) ps.decls ++ optional init ps.init ++ flat_map trans ps.trans

unfoldable pub decl : Decl → Tokens
decl = fold-Decl Tokens Tokens Tokens decl_layer body_layer parts_layer

unfoldable pub body : Body → Tokens
body = fold-Body Tokens Tokens Tokens decl_layer body_layer parts_layer

unfoldable pub parts : Parts → Tokens
parts = fold-Parts Tokens Tokens Tokens decl_layer body_layer parts_layer

-- all tokens of a specification but the last
abbrev pub before_dot : Spec → Tokens
before_dot s = mark k.Specification ++ name s.name ++ optional sys_attr_tokens s.attr ++ mark k.Semicolon ++ flat_map head_tokens s.heads ++ parts s.parts ++ mark k.End

-- Spec = specification NAME [SysAttr] ";" {Head} Parts end "."
abbrev pub specification : Spec → Tokens
specification s = before_dot s ++ mark k.Dot
