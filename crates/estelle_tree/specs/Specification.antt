-- Which tokens channels, headers, bodies and a specification spell.
use Rattle.std.specs.Prelude.{◌≡◌, ℕ, zero, suc, ◌<◌, false, List, [], ◌∷◌, map, Option, ⊤}
use Rattle.estelle_tree.specs.declared.kind.Kind.{Kind}
use Rattle.estelle_tree.specs.declared.kind.Kind.TheVariants as k
use Rattle.estelle_tree.specs.declared.tree.specification.Spec.{Spec}
use Rattle.estelle_tree.specs.declared.tree.specification.SysAttr.{SysAttr}
use Rattle.estelle_tree.specs.declared.tree.specification.SysAttr.TheVariants as sys_attr
use Rattle.estelle_tree.specs.declared.tree.specification.Attr.{Attr}
use Rattle.estelle_tree.specs.declared.tree.specification.Attr.TheVariants as attr
use Rattle.estelle_tree.specs.declared.tree.specification.Head.{Head}
use Rattle.estelle_tree.specs.declared.tree.specification.Head.TheVariants as head
use Rattle.estelle_tree.specs.declared.tree.specification.Disc.{Disc}
use Rattle.estelle_tree.specs.declared.tree.specification.Disc.TheVariants as disc
use Rattle.estelle_tree.specs.declared.tree.specification.Parts.{Parts, out-Parts}
use Rattle.estelle_tree.specs.declared.tree.specification.Trans.{Trans}
use Rattle.estelle_tree.specs.declared.tree.specification.Init.{Init}
use Rattle.estelle_tree.specs.declared.tree.specification.Decl.{Decl, out-Decl}
use Rattle.estelle_tree.specs.declared.tree.specification.Decl.TheOpen.{Decl-F}
use Rattle.estelle_tree.specs.declared.tree.specification.Channel.{Channel}
use Rattle.estelle_tree.specs.declared.tree.specification.InterGroup.{InterGroup}
use Rattle.estelle_tree.specs.declared.tree.specification.Inter.{Inter}
use Rattle.estelle_tree.specs.declared.tree.specification.Params.{Params}
use Rattle.estelle_tree.specs.declared.tree.specification.ParamGroup.{ParamGroup}
use Rattle.estelle_tree.specs.declared.tree.specification.Header.{Header}
use Rattle.estelle_tree.specs.declared.tree.specification.IpDecl.{IpDecl}
use Rattle.estelle_tree.specs.declared.tree.specification.ModvarDecl.{ModvarDecl}
use Rattle.estelle_tree.specs.declared.tree.specification.StatesetDef.{StatesetDef}
use Rattle.estelle_tree.specs.declared.tree.specification.Body.{Body, out-Body}
use Rattle.estelle_tree.specs.Input.{Input, between, over}
use Rattle.estelle_tree.specs.Spans.{DeclLayer}
use Rattle.estelle_tree.specs.Spelling.{Spelling, Takes, Optional, Chain, Several, Lines, MayBeLines, Behind, Ended, Joined, Separated, Enclosed, Never}
use Rattle.estelle_tree.specs.Types.{IsName, IsNames}
use Rattle.estelle_tree.specs.Declarations.{IsConstDef, IsTypeDef, AreVars, IsRoutine}
use Rattle.estelle_tree.specs.Clauses.{IsBlock, IsTransBody, stands}

-- SysAttr = systemprocess | systemactivity
abbrev pub IsSysAttr : Spelling SysAttr
IsSysAttr (sys_attr.Systemprocess span) i j = Takes k.Systemprocess i j × (span ≡ between i j)
IsSysAttr (sys_attr.Systemactivity span) i j = Takes k.Systemactivity i j × (span ≡ between i j)

-- Attr = SysAttr | process | activity
abbrev pub IsAttr : Spelling Attr
IsAttr (attr.SysAttr sys) i j = IsSysAttr sys i j
IsAttr (attr.Process span) i j = Takes k.Process i j × (span ≡ between i j)
IsAttr (attr.Activity span) i j = Takes k.Activity i j × (span ≡ between i j)

-- Disc = individual | common
abbrev pub IsDisc : Spelling Disc
IsDisc (disc.Individual span) i j = Takes k.Individual i j × (span ≡ between i j)
IsDisc (disc.Common span) i j = Takes k.Common i j × (span ≡ between i j)

-- `Disc queue`
abbrev pub IsQueue : Spelling Disc
IsQueue = Ended k.Queue IsDisc

-- Head = default Disc queue ";" | timescale NAME ";"
abbrev pub IsHead : Spelling Head
IsHead (head.Default disc span) i j = Enclosed k.Default k.Semicolon IsQueue disc i j × (span ≡ between i j)
IsHead (head.Timescale unit span) i j = Enclosed k.Timescale k.Semicolon IsName unit i j × (span ≡ between i j)

abbrev pub of_head : Head → Kind
of_head (head.Default disc span) = k.Default
of_head (head.Timescale unit span) = k.Timescale

-- none stands twice
abbrev pub Distinct : List Kind → Type 0
Distinct [] = ⊤
Distinct (x ∷ xs) = (stands x xs ≡ false) × Distinct xs

-- `{Head}`: each form at most once
pub record AreHeads (hs : List Head) (i j : Input) : Type 0 where
  pub heads : Chain IsHead hs i j
  pub once : Distinct (map of_head hs)

-- `Names ":" NAME`
abbrev pub AreParams : Spelling ParamGroup
AreParams g i j = Joined k.Colon IsNames IsName g.names g.type_name i j

-- Params = Names ":" NAME {";" Names ":" NAME}
pub record IsParams (ps : Params) (i j : Input) : Type 0 where
  pub groups : Separated k.Semicolon AreParams ps.groups i j
  pub span : ps.span ≡ between i j

-- `["(" Params ")"]`
abbrev pub MayBeParams : Spelling (Option Params)
MayBeParams = Optional (Enclosed k.OpenParenthesis k.CloseParenthesis IsParams)

-- Inter = NAME ["(" Params ")"]
pub record IsInter (x : Inter) (i j : Input) : Type 0 where
  pub mid : Input
  pub name : IsName x.name i mid
  pub params : MayBeParams x.params mid j
  pub span : x.span ≡ between i j

-- `Names ":" {Inter ";"}+`
abbrev pub AreInters : Spelling InterGroup
AreInters g i j = Joined k.Colon IsNames (Lines IsInter) g.roles g.inters i j

-- Channel = channel NAME "(" NAME "," NAME ")" ";" {by Names ":" {Inter ";"}+}+
pub record IsChannel (c : Channel) (i j : Input) : Type 0 where
  pub after_name : Input
  pub after_open : Input
  pub after_roles : Input
  pub after_close : Input
  pub after_head : Input
  pub name : Behind k.Channel IsName c.name i after_name
  pub opens : Takes k.OpenParenthesis after_name after_open
  pub roles : Joined k.Comma IsName IsName c.first_role c.second_role after_open after_roles
  pub closes : Takes k.CloseParenthesis after_roles after_close
  pub semicolon : Takes k.Semicolon after_close after_head
  pub groups : Several (Behind k.By AreInters) c.groups after_head j
  pub span : c.span ≡ between i j

-- IpDecl = Names ":" NAME "(" NAME ")" [Disc queue]
pub record IsIpDecl (p : IpDecl) (i j : Input) : Type 0 where
  pub after_channel : Input
  pub after_role : Input
  pub names : Joined k.Colon IsNames IsName p.names p.channel i after_channel
  pub role : Enclosed k.OpenParenthesis k.CloseParenthesis IsName p.role after_channel after_role
  pub disc : Optional IsQueue p.disc after_role j
  pub span : p.span ≡ between i j

-- `Names ":" NAME`
abbrev pub AreModvars : Spelling ModvarDecl
AreModvars m i j = Joined k.Colon IsNames IsName m.names m.header i j

-- `NAME "=" "[" Names "]"`
abbrev pub IsStateset : Spelling StatesetDef
IsStateset s i j = Joined k.Equal IsName (Enclosed k.OpenBracket k.CloseBracket IsNames) s.name s.states i j

-- Where this many more levels of nesting may open.
module _ (room : ℕ) where
  -- Header = module NAME [Attr] ["(" Params ")"] ";" [ip {IpDecl ";"}+] [export {Names ":" Type ";"}+] end ";"
  pub record IsHeader (h : Header) (i j : Input) : Type 0 where
    pub after_name : Input
    pub after_attr : Input
    pub after_params : Input
    pub after_head : Input
    pub after_ips : Input
    pub after_exports : Input
    pub after_end : Input
    pub name : Behind k.Module IsName h.name i after_name
    pub attr : Optional IsAttr h.attr after_name after_attr
    pub params : MayBeParams h.params after_attr after_params
    pub semicolon : Takes k.Semicolon after_params after_head
    pub ips : MayBeLines k.Ip IsIpDecl h.ips after_head after_ips
    pub exports : MayBeLines k.Export (AreVars room) h.exports after_ips after_exports
    pub ends : Takes k.End after_exports after_end
    pub last : Takes k.Semicolon after_end j
    pub span : h.span ≡ between i j

  -- Init = initialize [to NAME] Block
  pub record IsInit (x : Init) (i j : Input) : Type 0 where
    pub at : Input
    pub mid : Input
    pub word : Takes k.Initialize i at
    pub to : Optional (Behind k.To IsName) x.to at mid
    pub block : IsBlock room x.block mid j
    pub span : x.span ≡ between i j

  -- `trans TransBody`
  pub record IsTrans (t : Trans) (i j : Input) : Type 0 where
    pub body : Behind k.Trans (IsTransBody room) t.body i j
    pub span : t.span ≡ between i j

  -- Over what the parts of a body in it spell.
  module _ (P : Spelling Parts) where
    -- Body = body NAME for NAME ";" Parts end ";", which opens a level
    pub record BodyOf (b : Body) (i j : Input) : Type 0 where
      pub after_word : Input
      pub after_names : Input
      pub after_head : Input
      pub after_parts : Input
      pub after_end : Input
      pub fits : 0 < room
      pub word : Takes k.Body i after_word
      pub names : Joined k.For IsName IsName (out-Body b).name (out-Body b).header after_word after_names
      pub semicolon : Takes k.Semicolon after_names after_head
      pub parts : P (out-Body b).parts after_head after_parts
      pub ends : Takes k.End after_parts after_end
      pub last : Takes k.Semicolon after_end j
      pub span : (out-Body b).span ≡ between i j

    -- Decl = const {NAME "=" Const ";"}+ | type {NAME "=" Type ";"}+ | Channel | Header | Body
    --      | ip {IpDecl ";"}+ | modvar {Names ":" NAME ";"}+ | var {Names ":" Type ";"}+
    --      | state Names ";" | stateset {NAME "=" "[" Names "]" ";"}+ | Routine
    abbrev pub DeclLayerOf : Spelling DeclLayer
    DeclLayerOf (Decl-F.Const defs span) i j = Behind k.Const (Lines IsConstDef) defs i j × (span ≡ between i j)
    DeclLayerOf (Decl-F.Types defs span) i j = Behind k.Type (Lines (IsTypeDef room)) defs i j × (span ≡ between i j)
    DeclLayerOf (Decl-F.Channel channel) i j = IsChannel channel i j
    DeclLayerOf (Decl-F.Header header) i j = IsHeader header i j
    DeclLayerOf (Decl-F.Body body) i j = BodyOf body i j
    DeclLayerOf (Decl-F.Ip ips span) i j = Behind k.Ip (Lines IsIpDecl) ips i j × (span ≡ between i j)
    DeclLayerOf (Decl-F.Modvar modvars span) i j = Behind k.Modvar (Lines AreModvars) modvars i j × (span ≡ between i j)
    DeclLayerOf (Decl-F.Var vars span) i j = Behind k.Var (Lines (AreVars room)) vars i j × (span ≡ between i j)
    DeclLayerOf (Decl-F.State states span) i j = Enclosed k.State k.Semicolon IsNames states i j × (span ≡ between i j)
    DeclLayerOf (Decl-F.Stateset sets span) i j = Behind k.Stateset (Lines IsStateset) sets i j × (span ≡ between i j)
    DeclLayerOf (Decl-F.Routine routine) i j = IsRoutine room routine i j

    abbrev pub DeclOf : Spelling Decl
    DeclOf d = DeclLayerOf (out-Decl d)

    -- Parts = {Decl} [Init] {trans TransBody}
    pub record PartsOf (ps : Parts) (i j : Input) : Type 0 where
      pub after_decls : Input
      pub after_init : Input
      pub decls : Chain DeclOf (out-Parts ps).decls i after_decls
      pub init : Optional IsInit (out-Parts ps).init after_decls after_init
      pub trans : Chain IsTrans (out-Parts ps).trans after_init j
      pub span : (out-Parts ps).span ≡ over i j

-- one level down from where this many levels may open: nothing, where none may
abbrev pub PartsBelow : ℕ → Spelling Parts
PartsBelow zero ps = Never ps
PartsBelow (suc room) ps = PartsOf room (PartsBelow room) ps

-- where this many more levels of nesting may open
abbrev pub IsParts : ℕ → Spelling Parts
IsParts room = PartsBelow (suc room)

-- Spec = specification NAME [SysAttr] ";" {Head} Parts end "."
pub record IsSpec (room : ℕ) (s : Spec) (i j : Input) : Type 0 where
  pub after_name : Input
  pub after_attr : Input
  pub after_head : Input
  pub after_heads : Input
  pub after_parts : Input
  pub after_end : Input
  pub name : Behind k.Specification IsName s.name i after_name
  pub attr : Optional IsSysAttr s.attr after_name after_attr
  pub semicolon : Takes k.Semicolon after_attr after_head
  pub heads : AreHeads s.heads after_head after_heads
  pub parts : IsParts room s.parts after_heads after_parts
  pub ends : Takes k.End after_parts after_end
  pub dot : Takes k.Dot after_end j
  pub span : s.span ≡ between i j
