-- Which tokens channels, headers, bodies and a specification spell.
use Rattle.std.proofs.Common.{◌≡◌, ℕ, zero, suc, true, false, List, [], ◌++◌, refl, sym, ap, ◌∙◌, append_assoc, append-nil}
use Rattle.estelle_tree.specs.declared.token.Placed.{Placed}
use Rattle.estelle_tree.specs.declared.kind.Kind.TheVariants as k
use Rattle.estelle_tree.specs.declared.tree.specification.Spec.{Spec}
use Rattle.estelle_tree.specs.declared.tree.specification.SysAttr.TheVariants as sys_attr
use Rattle.estelle_tree.specs.declared.tree.specification.Attr.TheVariants as attr
use Rattle.estelle_tree.specs.declared.tree.specification.Head.TheVariants as head
use Rattle.estelle_tree.specs.declared.tree.specification.Disc.TheVariants as disc
use Rattle.estelle_tree.specs.declared.tree.specification.Parts.{Parts, out-Parts}
use Rattle.estelle_tree.specs.declared.tree.specification.Decl.{Decl, out-Decl, map-Decl}
use Rattle.estelle_tree.specs.declared.tree.specification.Decl.TheOpen.{Decl-F}
use Rattle.estelle_tree.specs.declared.tree.specification.Body.{Body, out-Body}
use Rattle.estelle_tree.specs.Input.{Input, input}
use Rattle.estelle_tree.specs.Spans.{DeclLayer}
use Rattle.estelle_tree.specs.Spelling.{Spelling, Behind, Enclosed, Lines}
use Rattle.estelle_tree.specs.Types.{IsName, IsNames}
use Rattle.estelle_tree.specs.Declarations.{IsConstDef, IsTypeDef, AreVars}
use Rattle.estelle_tree.specs.Specification.{IsSysAttr, IsAttr, IsQueue, IsHead, AreParams, IsParams, MayBeParams, IsInter, AreInters, IsChannel, IsIpDecl, AreModvars, IsStateset, IsHeader, IsInit, IsTrans, BodyOf, DeclLayerOf, DeclOf, PartsOf, PartsBelow, IsSpec}
use Rattle.estelle_tree.specs.Spells.{Spells, max_nesting}
use Rattle.estelle_printer.specs.Canonical.{without_places, canonical, IsCanonicalText}
use Rattle.estelle_printer.specs.Laws.{SpellsOneList}
use Rattle.estelle_printer.specs.Forms.{Tokens, mark, lines, enclosed}
use Rattle.estelle_printer.specs.TypeTokens.{name, names, typed_names}
use Rattle.estelle_printer.specs.DeclarationTokens.{const_def, type_def}
use Rattle.estelle_printer.specs.SpecificationTokens.{sys_attr_tokens, attr_tokens, queue, head_tokens, param_group, params, may_be_params, inter, inter_group, channel, ip_decl, modvar_decl, stateset_def, header, init, trans, decl_layer, decl, body, parts, before_dot, specification}
use Rattle.estelle_printer.proofs.FormLaws.{Stand, ◌⋯◌, is_calm, follow, terminal_taken, same_tokens, regrouped, takes, Tells, behind, chained, may_be, several, in_lines, may_be_in_lines, separate, enclosed_in, joined}
use Rattle.estelle_printer.proofs.TypeLaws.{name_tells, names_tells}
use Rattle.estelle_printer.proofs.DeclarationLaws.{const_def_tells, type_def_tells, vars_tells, routine_tells}
use Rattle.estelle_printer.proofs.ClauseLaws.{block_tells, trans_body_tells}
use Rattle.estelle_printer.proofs.SpecificationEquations.{decl_is, body_is, parts_is}

sys_attr_tells : Tells IsSysAttr sys_attr_tokens
sys_attr_tells (sys_attr.Systemprocess span) i j h = takes k.Systemprocess i j refl h.0
sys_attr_tells (sys_attr.Systemactivity span) i j h = takes k.Systemactivity i j refl h.0

attr_tells : Tells IsAttr attr_tokens
attr_tells (attr.SysAttr sys) i j h = sys_attr_tells sys i j h
attr_tells (attr.Process span) i j h = takes k.Process i j refl h.0
attr_tells (attr.Activity span) i j h = takes k.Activity i j refl h.0

queue_tells : Tells IsQueue queue
queue_tells (disc.Individual span) i j h = takes k.Individual i h.mid refl h.item.0 ⋯ takes k.Queue h.mid j refl h.mark
queue_tells (disc.Common span) i j h = takes k.Common i h.mid refl h.item.0 ⋯ takes k.Queue h.mid j refl h.mark

head_tells : Tells IsHead head_tokens
head_tells (head.Default d span) i j h = enclosed_in IsQueue queue queue_tells k.Default k.Semicolon refl refl d i j h.0
head_tells (head.Timescale unit span) i j h = enclosed_in IsName name name_tells k.Timescale k.Semicolon refl refl unit i j h.0

param_group_tells : Tells AreParams param_group
param_group_tells g i j h = joined IsNames IsName names name k.Colon refl names_tells name_tells g.names g.type_name i j h

params_tells : Tells IsParams params
params_tells ps i j h = separate AreParams param_group param_group_tells k.Semicolon refl ps.groups i j h.groups

may_be_params_tells : Tells MayBeParams may_be_params
may_be_params_tells = may_be (Enclosed k.OpenParenthesis k.CloseParenthesis IsParams) (λ ps. enclosed k.OpenParenthesis k.CloseParenthesis (params ps)) (enclosed_in IsParams params params_tells k.OpenParenthesis k.CloseParenthesis refl refl)

inter_tells : Tells IsInter inter
inter_tells x i j h = name_tells x.name i h.mid h.name ⋯ may_be_params_tells x.params h.mid j h.params

inters_tells : Tells AreInters (λ g. names g.roles ++ mark k.Colon ++ lines inter g.inters)
inters_tells g i j h = joined IsNames (Lines IsInter) names (lines inter) k.Colon refl names_tells (in_lines IsInter inter inter_tells) g.roles g.inters i j h

inter_group_tells : Tells (Behind k.By AreInters) inter_group
inter_group_tells g i j h = regrouped (takes k.By i h.at refl h.mark ⋯ inters_tells g h.at j h.item) refl

channel_tells : Tells IsChannel channel
channel_tells c i j h = regrouped (behind IsName name name_tells k.Channel refl c.name i h.after_name h.name
    ⋯ takes k.OpenParenthesis h.after_name h.after_open refl h.opens
    ⋯ joined IsName IsName name name k.Comma refl name_tells name_tells c.first_role c.second_role h.after_open h.after_roles h.roles
    ⋯ takes k.CloseParenthesis h.after_roles h.after_close refl h.closes
    ⋯ takes k.Semicolon h.after_close h.after_head refl h.semicolon
    ⋯ several (Behind k.By AreInters) inter_group inter_group_tells c.groups h.after_head j h.groups) (simp append_assoc)

ip_decl_tells : Tells IsIpDecl ip_decl
ip_decl_tells p i j h = regrouped (joined IsNames IsName names name k.Colon refl names_tells name_tells p.names p.channel i h.after_channel h.names
    ⋯ enclosed_in IsName name name_tells k.OpenParenthesis k.CloseParenthesis refl refl p.role h.after_channel h.after_role h.role
    ⋯ may_be IsQueue queue queue_tells p.disc h.after_role j h.disc) (simp append_assoc)

modvars_tells : Tells AreModvars modvar_decl
modvars_tells m i j h = joined IsNames IsName names name k.Colon refl names_tells name_tells m.names m.header i j h

stateset_tells : Tells IsStateset stateset_def
stateset_tells s i j h = joined IsName (Enclosed k.OpenBracket k.CloseBracket IsNames) name (λ ns. enclosed k.OpenBracket k.CloseBracket (names ns)) k.Equal refl name_tells (enclosed_in IsNames names names_tells k.OpenBracket k.CloseBracket refl refl) s.name s.states i j h

module _ (room : ℕ) where
  header_tells : Tells (IsHeader room) header
  header_tells d i j h = regrouped (behind IsName name name_tells k.Module refl d.name i h.after_name h.name
      ⋯ may_be IsAttr attr_tokens attr_tells d.attr h.after_name h.after_attr h.attr
      ⋯ may_be_params_tells d.params h.after_attr h.after_params h.params
      ⋯ takes k.Semicolon h.after_params h.after_head refl h.semicolon
      ⋯ may_be_in_lines IsIpDecl ip_decl ip_decl_tells k.Ip refl d.ips h.after_head h.after_ips h.ips
      ⋯ may_be_in_lines (AreVars room) typed_names (vars_tells room) k.Export refl d.exports h.after_ips h.after_exports h.exports
      ⋯ takes k.End h.after_exports h.after_end refl h.ends
      ⋯ takes k.Semicolon h.after_end j refl h.last) (simp append_assoc)

  init_tells : Tells (IsInit room) init
  init_tells x i j h =
      takes k.Initialize i h.at refl h.word
      ⋯ may_be (Behind k.To IsName) (λ n. mark k.To ++ name n) (behind IsName name name_tells k.To refl) x.to h.at h.mid h.to
      ⋯ block_tells room x.block h.mid j h.block

  trans_tells : Tells (IsTrans room) trans
  trans_tells t i j h = takes k.Trans i h.body.at refl h.body.mark ⋯ trans_body_tells room t.body h.body.at j h.body.item

  module _ (P : Spelling Parts) (tells : Tells P parts) where
    body_tells : Tells (BodyOf room P) body
    body_tells b i j h = same_tokens (body_is b) (regrouped
        (takes k.Body i h.after_word refl h.word
        ⋯ joined IsName IsName name name k.For refl name_tells name_tells (out-Body b).name (out-Body b).header h.after_word h.after_names h.names
        ⋯ takes k.Semicolon h.after_names h.after_head refl h.semicolon
        ⋯ tells (out-Body b).parts h.after_head h.after_parts h.parts
        ⋯ takes k.End h.after_parts h.after_end refl h.ends
        ⋯ takes k.Semicolon h.after_end j refl h.last) (simp append_assoc))

    decl_layer_tells : (d : DeclLayer) (i j : Input) → DeclLayerOf room P d i j → Stand (decl_layer (map-Decl Decl Body Parts Tokens Tokens Tokens decl body parts d)) i j
    decl_layer_tells (Decl-F.Const defs span) i j h = behind (Lines IsConstDef) (lines const_def) (in_lines IsConstDef const_def const_def_tells) k.Const refl defs i j h.0
    decl_layer_tells (Decl-F.Types defs span) i j h = behind (Lines (IsTypeDef room)) (lines type_def) (in_lines (IsTypeDef room) type_def (type_def_tells room)) k.Type refl defs i j h.0
    decl_layer_tells (Decl-F.Channel c) i j h = channel_tells c i j h
    decl_layer_tells (Decl-F.Header d) i j h = header_tells d i j h
    decl_layer_tells (Decl-F.Body b) i j h = body_tells b i j h
    decl_layer_tells (Decl-F.Ip ips span) i j h = behind (Lines IsIpDecl) (lines ip_decl) (in_lines IsIpDecl ip_decl ip_decl_tells) k.Ip refl ips i j h.0
    decl_layer_tells (Decl-F.Modvar modvars span) i j h = behind (Lines AreModvars) (lines modvar_decl) (in_lines AreModvars modvar_decl modvars_tells) k.Modvar refl modvars i j h.0
    decl_layer_tells (Decl-F.Var vars span) i j h = behind (Lines (AreVars room)) (lines typed_names) (in_lines (AreVars room) typed_names (vars_tells room)) k.Var refl vars i j h.0
    decl_layer_tells (Decl-F.State states span) i j h = enclosed_in IsNames names names_tells k.State k.Semicolon refl refl states i j h.0
    decl_layer_tells (Decl-F.Stateset sets span) i j h = behind (Lines IsStateset) (lines stateset_def) (in_lines IsStateset stateset_def stateset_tells) k.Stateset refl sets i j h.0
    decl_layer_tells (Decl-F.Routine r) i j h = routine_tells room r i j h

    decl_tells : Tells (DeclOf room P) decl
    decl_tells d i j h = same_tokens (decl_is d) (decl_layer_tells (out-Decl d) i j h)

    parts_of_tells : Tells (PartsOf room P) parts
    parts_of_tells ps i j h = same_tokens (parts_is ps)
        (chained (DeclOf room P) decl decl_tells (out-Parts ps).decls i h.after_decls h.decls
        ⋯ may_be (IsInit room) init init_tells (out-Parts ps).init h.after_decls h.after_init h.init
        ⋯ chained (IsTrans room) trans trans_tells (out-Parts ps).trans h.after_init j h.trans)

parts_below_tells : (room : ℕ) → Tells (PartsBelow room) parts
parts_below_tells zero ps i j h = absurd h
parts_below_tells (suc room) ps i j h = parts_of_tells room (PartsBelow room) (parts_below_tells room) ps i j h

before_dot_tells : (room : ℕ) (s : Spec) (i j : Input) (h : IsSpec room s i j) → Stand (before_dot s) i h.after_end
before_dot_tells room s i j h = regrouped
    (behind IsName name name_tells k.Specification refl s.name i h.after_name h.name
    ⋯ may_be IsSysAttr sys_attr_tokens sys_attr_tells s.attr h.after_name h.after_attr h.attr
    ⋯ takes k.Semicolon h.after_attr h.after_head refl h.semicolon
    ⋯ chained IsHead head_tokens head_tells s.heads h.after_head h.after_heads h.heads.heads
    ⋯ parts_below_tells (suc room) s.parts h.after_heads h.after_parts h.parts
    ⋯ takes k.End h.after_parts h.after_end refl h.ends) (simp append_assoc)

-- the tokens that a tree spells are those of the tree
pub spells_tokens : (s : Spec) (tokens : List Placed) → Spells s tokens → without_places tokens ≡ specification s
spells_tokens s tokens h =
    let i = input tokens 0 in
    let j = input [] h.end in
    follow (before_dot s) (mark k.Dot) i h.whole.after_end j (before_dot_tells max_nesting s i j h.whole).is (terminal_taken k.Dot h.whole.after_end j refl h.whole.dot) ∙ append-nil (specification s)

-- in them no `.` stands behind the word `end` but the last
pub spells_calm : (s : Spec) (tokens : List Placed) → Spells s tokens → is_calm false (before_dot s) ≡ true
spells_calm s tokens h = (before_dot_tells max_nesting s (input tokens 0) (input [] h.end) h.whole).calm false

pub canonical_of : (s : Spec) (text : List ℕ) → text ≡ canonical (specification s) → IsCanonicalText s text
canonical_of s text e tokens h = e ∙ ap canonical (sym (spells_tokens s tokens h))

pub one_list : SpellsOneList
one_list s ts us h g = spells_tokens s ts h ∙ sym (spells_tokens s us g)
