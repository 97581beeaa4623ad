-- Attributes, channels, headers and the declarations that hold no statements, as forms.
use Rattle.std.specs.Prelude.{ℕ, List, Option, ◌⊎◌}
use Rattle.estelle_tree.specs.declared.kind.Kind.{Kind}
use Rattle.estelle_tree.specs.declared.kind.Kind.TheVariants as k
use Rattle.estelle_tree.specs.declared.tree.specification.SysAttr.{SysAttr}
use Rattle.estelle_tree.specs.declared.tree.specification.Attr.{Attr}
use Rattle.estelle_tree.specs.declared.tree.specification.Disc.{Disc}
use Rattle.estelle_tree.specs.declared.tree.specification.Head.{Head}
use Rattle.estelle_tree.specs.declared.tree.specification.Head.TheVariants as a_head
use Rattle.estelle_tree.specs.declared.tree.specification.Channel.{Channel}
use Rattle.estelle_tree.specs.declared.tree.specification.Decl.{Decl}
use Rattle.estelle_tree.specs.declared.tree.specification.Header.{Header}
use Rattle.estelle_tree.specs.declared.tree.specification.Inter.{Inter}
use Rattle.estelle_tree.specs.declared.tree.specification.InterGroup.{InterGroup}
use Rattle.estelle_tree.specs.declared.tree.specification.IpDecl.{IpDecl}
use Rattle.estelle_tree.specs.declared.tree.specification.ModvarDecl.{ModvarDecl}
use Rattle.estelle_tree.specs.declared.tree.specification.ParamGroup.{ParamGroup}
use Rattle.estelle_tree.specs.declared.tree.specification.Params.{Params}
use Rattle.estelle_tree.specs.declared.tree.specification.StatesetDef.{StatesetDef}
use Rattle.estelle_tree.specs.Spelling.{Behind, Enclosed, Joined, Lines, MayBeLines}
use Rattle.estelle_tree.specs.Specification.{IsSysAttr, IsAttr, IsDisc, IsQueue, IsHead, AreHeads, AreParams, IsParams, IsInter, AreInters, IsChannel, IsIpDecl, AreModvars, IsStateset, IsHeader}
use Rattle.syntax_forms.specs.Form as form
use Rattle.syntax_forms.specs.Form.{Form, word, name, ◌▸◌, ◌⊕◌, separated, several, node, built, lines}
use Rattle.syntax_forms.specs.Repeats.{may}
use Rattle.syntax_forms.specs.Types.{names}
use Rattle.syntax_forms.specs.Definitions.{var, block_decl}
use Rattle.declaration_parser.specs.Plain.{IsPlainDecl}

-- ---- forms that stand in one another

-- `from x to`
abbrev pub enclosed : {A : Type 0} → Kind → Kind → Form A → Form A
enclosed from to F = node (Enclosed from to F.spells) (word from ▸ F ▸ word to)

-- `x k y`
abbrev pub joined : {A B : Type 0} → Kind → Form A → Form B → Form (A × B)
joined k F G = node (λ x. Joined k F.spells G.spells x.0 x.1) (F ▸ word k ▸ G)

-- `k {x ";"}+`
abbrev pub part : {A : Type 0} → Kind → Form A → Form (List A)
part k F = node (Behind k (Lines F.spells)) (word k ▸ lines F)

-- `[k {x ";"}+]`
abbrev pub may_be_part : {A : Type 0} → Kind → Form A → Form (List A)
may_be_part k F = node (MayBeLines k F.spells) (may (part k F))

-- ---- attributes, queues and heads

-- SysAttr = systemprocess | systemactivity
abbrev pub sys_attr : Form SysAttr
sys_attr = node IsSysAttr (word k.Systemprocess ⊕ word k.Systemactivity)

-- Attr = SysAttr | process | activity
abbrev pub attr : Form Attr
attr = node IsAttr (word k.Process ⊕ word k.Activity ⊕ sys_attr)

-- Disc = individual | common
abbrev pub disc : Form Disc
disc = node IsDisc (word k.Individual ⊕ word k.Common)

-- `Disc queue`
abbrev pub queue : Form Disc
queue = node IsQueue (disc ▸ word k.Queue)

-- `default Disc queue ";"`
abbrev pub default_head : Form Head
default_head = built a_head.Default (enclosed k.Default k.Semicolon queue)

-- `timescale NAME ";"`
abbrev pub timescale_head : Form Head
timescale_head = built a_head.Timescale (enclosed k.Timescale k.Semicolon name)

-- Head = default Disc queue ";" | timescale NAME ";"
abbrev pub head : Form Head
head = node IsHead (default_head ⊕ timescale_head)

-- `{Head}`: each form at most once
abbrev pub some_heads : Form ((Head × Option Head) ⊎ (Head × Option Head))
some_heads = form.part (default_head ▸ may timescale_head ⊕ timescale_head ▸ may default_head)

abbrev pub heads : Form (List Head)
heads = node AreHeads (may some_heads)

-- ---- channels

-- `Names ":" NAME`
abbrev pub param_group : Form ParamGroup
param_group = node AreParams (joined k.Colon names name)

-- Params = Names ":" NAME {";" Names ":" NAME}
abbrev pub params : Form Params
params = node IsParams (separated k.Semicolon param_group)

-- `["(" Params ")"]`
abbrev pub may_be_params : Form (Option Params)
may_be_params = may (enclosed k.OpenParenthesis k.CloseParenthesis params)

-- Inter = NAME ["(" Params ")"]
abbrev pub inter : Form Inter
inter = node IsInter (name ▸ may_be_params)

-- `by Names ":" {Inter ";"}+`
abbrev pub group : Form InterGroup
group = node (Behind k.By AreInters) (word k.By ▸ names ▸ part k.Colon inter)

-- Channel = channel NAME "(" NAME "," NAME ")" ";" {by Names ":" {Inter ";"}+}+
abbrev pub channel : Form Channel
channel = node IsChannel (word k.Channel ▸ name ▸ enclosed k.OpenParenthesis k.CloseParenthesis (joined k.Comma name name) ▸ word k.Semicolon ▸ several group)

-- ---- interaction points, module variables, state sets

-- IpDecl = Names ":" NAME "(" NAME ")" [Disc queue]
abbrev pub ip_decl : Form IpDecl
ip_decl = node IsIpDecl (joined k.Colon names name ▸ enclosed k.OpenParenthesis k.CloseParenthesis name ▸ may queue)

-- `Names ":" NAME`
abbrev pub modvar_decl : Form ModvarDecl
modvar_decl = node AreModvars (joined k.Colon names name)

-- `NAME "=" "[" Names "]"`
abbrev pub stateset_def : Form StatesetDef
stateset_def = node IsStateset (joined k.Equal name (enclosed k.OpenBracket k.CloseBracket names))

-- Where this many more levels of nesting may open.
module _ (room : ℕ) where
  -- Header = module NAME [Attr] ["(" Params ")"] ";" [ip {IpDecl ";"}+] [export {Names ":" Type ";"}+] end ";"
  abbrev pub header : Form Header
  header =
      node (IsHeader room)
      (word k.Module ▸ name ▸ may attr ▸ may_be_params ▸ word k.Semicolon ▸ may_be_part k.Ip ip_decl ▸ may_be_part k.Export (var room) ▸ word k.End ▸ word k.Semicolon)

  -- a declaration that is no body and no routine
  abbrev pub plain_decl : Form Decl
  plain_decl =
      node (IsPlainDecl room)
      (channel ⊕ header ⊕ part k.Ip ip_decl ⊕ part k.Modvar modvar_decl ⊕ enclosed k.State k.Semicolon names ⊕ part k.Stateset stateset_def ⊕ block_decl room)
