-- Channels, headers, bodies and a specification without their spans, where tokens have no places.
use Rattle.std.proofs.Common.{ℕ, zero, suc, map, sym, subst}
use Rattle.std.specs.Option.{option_map}
use Rattle.estelle_tree.specs.declared.kind.Kind.TheVariants as k
use Rattle.estelle_tree.specs.declared.tree.specification.SysAttr.TheVariants as sys_attr
use Rattle.estelle_tree.specs.declared.tree.specification.Attr.TheVariants as attr
use Rattle.estelle_tree.specs.declared.tree.specification.Head.TheVariants as head
use Rattle.estelle_tree.specs.declared.tree.specification.Disc.TheVariants as disc
use Rattle.estelle_tree.specs.declared.tree.specification.Parts.{Parts, out-Parts}
use Rattle.estelle_tree.specs.declared.tree.specification.Decl.{out-Decl, roll-Decl}
use Rattle.estelle_tree.specs.declared.tree.specification.Decl.TheOpen.{Decl-F}
use Rattle.estelle_tree.specs.declared.tree.specification.Decl.TheViews.{out-roll-Decl}
use Rattle.estelle_tree.specs.declared.tree.specification.Body.{out-Body}
use Rattle.estelle_tree.specs.Input.{Input}
use Rattle.estelle_tree.specs.Spans.{DeclLayer, nowhere}
use Rattle.estelle_tree.specs.Spelling.{Spelling, Lines, Behind, Enclosed}
use Rattle.estelle_tree.specs.Types.{IsName, IsNames}
use Rattle.estelle_tree.specs.Declarations.{IsConstDef, IsTypeDef, AreVars}
use Rattle.estelle_tree.specs.Clauses.{IsTransBody}
use Rattle.estelle_tree.specs.Specification.{IsSysAttr, IsAttr, IsDisc, IsQueue, IsHead, Distinct, AreHeads, AreParams, IsParams, MayBeParams, IsInter, AreInters, IsChannel, IsIpDecl, AreModvars, IsStateset, IsHeader, IsInit, IsTrans, BodyOf, DeclLayerOf, DeclOf, PartsOf, PartsBelow, IsSpec}
use Rattle.round_trip.specs.Types.{bare_name, bare_names, bare_typed}
use Rattle.round_trip.specs.Declarations.{bare_const_def, bare_type_def, bare_routine}
use Rattle.round_trip.specs.Clauses.{bare_trans_body}
use Rattle.round_trip.specs.Specification.{bare_sys_attr, bare_attr, bare_disc, bare_head, bare_param_group, bare_params, bare_inter, bare_inter_group, bare_channel, bare_ip_decl, bare_modvar_decl, bare_stateset_def, bare_header, bare_init, bare_trans, bare_decl, bare_body, bare_parts, bare_spec}
use Rattle.round_trip.proofs.SpecificationMoves.{forms_bare, layer_of_decl, decl_opened, body_opened, parts_opened}
use Rattle.round_trip.proofs.PlainForms.{plain, Plain, no_span, no_span_over, takes, optional, chain, several, behind, ended, enclosed, separated, lines, may_be_lines, joined, rolling}
use Rattle.round_trip.proofs.PlainTypes.{plain_name, plain_names, plain_vars}
use Rattle.round_trip.proofs.PlainDeclarations.{plain_const_def, plain_type_def, plain_routine}
use Rattle.round_trip.proofs.PlainClauses.{plain_block, plain_trans_body}

plain_sys_attr : Plain IsSysAttr bare_sys_attr
plain_sys_attr (sys_attr.Systemprocess span) i j h = (takes h.0, no_span i j)
plain_sys_attr (sys_attr.Systemactivity span) i j h = (takes h.0, no_span i j)

plain_attr : Plain IsAttr bare_attr
plain_attr (attr.SysAttr sys) i j h = plain_sys_attr sys i j h
plain_attr (attr.Process span) i j h = (takes h.0, no_span i j)
plain_attr (attr.Activity span) i j h = (takes h.0, no_span i j)

plain_disc : Plain IsDisc bare_disc
plain_disc (disc.Individual span) i j h = (takes h.0, no_span i j)
plain_disc (disc.Common span) i j h = (takes h.0, no_span i j)

plain_queue : Plain IsQueue bare_disc
plain_queue = ended IsDisc bare_disc plain_disc k.Queue

plain_head : Plain IsHead bare_head
plain_head (head.Default disc span) i j h = (enclosed IsQueue bare_disc plain_queue k.Default k.Semicolon disc i j h.0, no_span i j)
plain_head (head.Timescale unit span) i j h = (enclosed IsName bare_name plain_name k.Timescale k.Semicolon unit i j h.0, no_span i j)

plain_heads : Plain AreHeads (map bare_head)
plain_heads hs i j h = record { heads = chain IsHead bare_head plain_head hs i j h.heads; once = subst Distinct (sym (forms_bare hs)) h.once }

plain_param_group : Plain AreParams bare_param_group
plain_param_group g i j h = joined k.Colon IsNames IsName bare_names bare_name plain_names plain_name g.names g.type_name h

plain_params : Plain IsParams bare_params
plain_params ps i j h = record { groups = separated AreParams bare_param_group plain_param_group k.Semicolon ps.groups i j h.groups; span = no_span i j }

plain_may_be_params : Plain MayBeParams (option_map bare_params)
plain_may_be_params = optional (Enclosed k.OpenParenthesis k.CloseParenthesis IsParams) bare_params (enclosed IsParams bare_params plain_params k.OpenParenthesis k.CloseParenthesis)

plain_inter : Plain IsInter bare_inter
plain_inter x i j h = record { mid = plain h.mid; name = plain_name x.name i h.mid h.name; params = plain_may_be_params x.params h.mid j h.params; span = no_span i j }

plain_inters : Plain AreInters bare_inter_group
plain_inters g i j h = joined k.Colon IsNames (Lines IsInter) bare_names (map bare_inter) plain_names (lines IsInter bare_inter plain_inter) g.roles g.inters h

plain_channel : Plain IsChannel bare_channel
plain_channel c i j h = record {
  after_name = plain h.after_name;
  after_open = plain h.after_open;
  after_roles = plain h.after_roles;
  after_close = plain h.after_close;
  after_head = plain h.after_head;
  name = behind IsName bare_name plain_name k.Channel c.name i h.after_name h.name;
  opens = takes h.opens;
  roles = joined k.Comma IsName IsName bare_name bare_name plain_name plain_name c.first_role c.second_role h.roles;
  closes = takes h.closes;
  semicolon = takes h.semicolon;
  groups = several (Behind k.By AreInters) bare_inter_group (behind AreInters bare_inter_group plain_inters k.By) c.groups h.after_head j h.groups;
  span = no_span i j;
}

plain_ip_decl : Plain IsIpDecl bare_ip_decl
plain_ip_decl p i j h = record {
  after_channel = plain h.after_channel;
  after_role = plain h.after_role;
  names = joined k.Colon IsNames IsName bare_names bare_name plain_names plain_name p.names p.channel h.names;
  role = enclosed IsName bare_name plain_name k.OpenParenthesis k.CloseParenthesis p.role h.after_channel h.after_role h.role;
  disc = optional IsQueue bare_disc plain_queue p.disc h.after_role j h.disc;
  span = no_span i j;
}

plain_modvars : Plain AreModvars bare_modvar_decl
plain_modvars x i j h = joined k.Colon IsNames IsName bare_names bare_name plain_names plain_name x.names x.header h

plain_stateset : Plain IsStateset bare_stateset_def
plain_stateset x i j h = joined k.Equal IsName (Enclosed k.OpenBracket k.CloseBracket IsNames) bare_name bare_names plain_name (enclosed IsNames bare_names plain_names k.OpenBracket k.CloseBracket) x.name x.states h

module _ (room : ℕ) where
  plain_header : Plain (IsHeader room) bare_header
  plain_header x i j h = record {
    after_name = plain h.after_name;
    after_attr = plain h.after_attr;
    after_params = plain h.after_params;
    after_head = plain h.after_head;
    after_ips = plain h.after_ips;
    after_exports = plain h.after_exports;
    after_end = plain h.after_end;
    name = behind IsName bare_name plain_name k.Module x.name i h.after_name h.name;
    attr = optional IsAttr bare_attr plain_attr x.attr h.after_name h.after_attr h.attr;
    params = plain_may_be_params x.params h.after_attr h.after_params h.params;
    semicolon = takes h.semicolon;
    ips = may_be_lines IsIpDecl bare_ip_decl plain_ip_decl k.Ip x.ips h.after_head h.after_ips h.ips;
    exports = may_be_lines (AreVars room) bare_typed (plain_vars room) k.Export x.exports h.after_ips h.after_exports h.exports;
    ends = takes h.ends;
    last = takes h.last;
    span = no_span i j;
  }

  plain_init : Plain (IsInit room) bare_init
  plain_init x i j h = record {
    at = plain h.at;
    mid = plain h.mid;
    word = takes h.word;
    to = optional (Behind k.To IsName) bare_name (behind IsName bare_name plain_name k.To) x.to h.at h.mid h.to;
    block = plain_block room x.block h.mid j h.block;
    span = no_span i j;
  }

  plain_trans : Plain (IsTrans room) bare_trans
  plain_trans x i j h = record { body = behind (IsTransBody room) bare_trans_body (plain_trans_body room) k.Trans x.body i j h.body; span = no_span i j }

  module _ (P : Spelling Parts) (plainly : Plain P bare_parts) where
    plain_body : Plain (BodyOf room P) bare_body
    plain_body x i j h = subst (λ y. BodyOf room P y (plain i) (plain j)) (sym (body_opened x)) (record {
      after_word = plain h.after_word;
      after_names = plain h.after_names;
      after_head = plain h.after_head;
      after_parts = plain h.after_parts;
      after_end = plain h.after_end;
      fits = h.fits;
      word = takes h.word;
      names = joined k.For IsName IsName bare_name bare_name plain_name plain_name (out-Body x).name (out-Body x).header h.names;
      semicolon = takes h.semicolon;
      parts = plainly (out-Body x).parts h.after_head h.after_parts h.parts;
      ends = takes h.ends;
      last = takes h.last;
      span = no_span i j;
    })

    put : (l : DeclLayer) (i j : Input) → DeclLayerOf room P l i j → DeclLayerOf room P (out-Decl (roll-Decl l)) i j
    put l i j h = subst (λ l. DeclLayerOf room P l i j) (sym (out-roll-Decl l)) h

    plain_layer : (l : DeclLayer) (i j : Input) → DeclLayerOf room P l i j → DeclLayerOf room P (out-Decl (layer_of_decl l)) (plain i) (plain j)
    plain_layer (Decl-F.Const defs span) i j h = put (Decl-F.Const (map bare_const_def defs) nowhere) _ _ (behind (Lines IsConstDef) (map bare_const_def) (lines IsConstDef bare_const_def plain_const_def) k.Const defs i j h.0, no_span i j)
    plain_layer (Decl-F.Types defs span) i j h = put (Decl-F.Types (map bare_type_def defs) nowhere) _ _ (behind (Lines (IsTypeDef room)) (map bare_type_def) (lines (IsTypeDef room) bare_type_def (plain_type_def room)) k.Type defs i j h.0, no_span i j)
    plain_layer (Decl-F.Channel channel) i j h = put (Decl-F.Channel (bare_channel channel)) _ _ (plain_channel channel i j h)
    plain_layer (Decl-F.Header header) i j h = put (Decl-F.Header (bare_header header)) _ _ (plain_header header i j h)
    plain_layer (Decl-F.Body body) i j h = put (Decl-F.Body (bare_body body)) _ _ (plain_body body i j h)
    plain_layer (Decl-F.Ip ips span) i j h = put (Decl-F.Ip (map bare_ip_decl ips) nowhere) _ _ (behind (Lines IsIpDecl) (map bare_ip_decl) (lines IsIpDecl bare_ip_decl plain_ip_decl) k.Ip ips i j h.0, no_span i j)
    plain_layer (Decl-F.Modvar modvars span) i j h = put (Decl-F.Modvar (map bare_modvar_decl modvars) nowhere) _ _ (behind (Lines AreModvars) (map bare_modvar_decl) (lines AreModvars bare_modvar_decl plain_modvars) k.Modvar modvars i j h.0, no_span i j)
    plain_layer (Decl-F.Var vars span) i j h = put (Decl-F.Var (map bare_typed vars) nowhere) _ _ (behind (Lines (AreVars room)) (map bare_typed) (lines (AreVars room) bare_typed (plain_vars room)) k.Var vars i j h.0, no_span i j)
    plain_layer (Decl-F.State states span) i j h = put (Decl-F.State (bare_names states) nowhere) _ _ (enclosed IsNames bare_names plain_names k.State k.Semicolon states i j h.0, no_span i j)
    plain_layer (Decl-F.Stateset sets span) i j h = put (Decl-F.Stateset (map bare_stateset_def sets) nowhere) _ _ (behind (Lines IsStateset) (map bare_stateset_def) (lines IsStateset bare_stateset_def plain_stateset) k.Stateset sets i j h.0, no_span i j)
    plain_layer (Decl-F.Routine routine) i j h = put (Decl-F.Routine (bare_routine routine)) _ _ (plain_routine room routine i j h)

    plain_decl : Plain (DeclOf room P) bare_decl
    plain_decl = rolling (DeclLayerOf room P) layer_of_decl out-Decl bare_decl decl_opened plain_layer

    plain_parts_of : Plain (PartsOf room P) bare_parts
    plain_parts_of x i j h = subst (λ y. PartsOf room P y (plain i) (plain j)) (sym (parts_opened x)) (record {
      after_decls = plain h.after_decls;
      after_init = plain h.after_init;
      decls = chain (DeclOf room P) bare_decl plain_decl (out-Parts x).decls i h.after_decls h.decls;
      init = optional (IsInit room) bare_init plain_init (out-Parts x).init h.after_decls h.after_init h.init;
      trans = chain (IsTrans room) bare_trans plain_trans (out-Parts x).trans h.after_init j h.trans;
      span = no_span_over i j;
    })

plain_parts : (room : ℕ) → Plain (PartsBelow room) bare_parts
plain_parts zero x i j h = absurd h
plain_parts (suc room) x i j h = plain_parts_of room (PartsBelow room) (plain_parts room) x i j h

pub plain_spec : (room : ℕ) → Plain (IsSpec room) bare_spec
plain_spec room x i j h = record {
  after_name = plain h.after_name;
  after_attr = plain h.after_attr;
  after_head = plain h.after_head;
  after_heads = plain h.after_heads;
  after_parts = plain h.after_parts;
  after_end = plain h.after_end;
  name = behind IsName bare_name plain_name k.Specification x.name i h.after_name h.name;
  attr = optional IsSysAttr bare_sys_attr plain_sys_attr x.attr h.after_name h.after_attr h.attr;
  semicolon = takes h.semicolon;
  heads = plain_heads x.heads h.after_head h.after_heads h.heads;
  parts = plain_parts (suc room) x.parts h.after_heads h.after_parts h.parts;
  ends = takes h.ends;
  dot = takes h.dot;
  span = no_span i j;
}
