-- Channels, headers, bodies and a specification, moved.
use Rattle.std.proofs.Common.{◌≡◌, ℕ, zero, suc, List, [], ◌∷◌, map, sym, refl, ap, ◌∙◌, subst}
use Rattle.std.specs.Option.{option_map}
use Rattle.estelle_tree.specs.declared.kind.Kind.TheVariants as k
use Rattle.estelle_tree.specs.declared.tree.specification.SysAttr.TheVariants as sys_attr
use Rattle.estelle_tree.specs.declared.tree.specification.Attr.TheVariants as attr
use Rattle.estelle_tree.specs.declared.tree.specification.Head.{Head}
use Rattle.estelle_tree.specs.declared.tree.specification.Head.TheVariants as head
use Rattle.estelle_tree.specs.declared.tree.specification.Disc.TheVariants as disc
use Rattle.estelle_tree.specs.declared.tree.specification.Parts.{Parts, out-Parts, roll-Parts}
use Rattle.estelle_tree.specs.declared.tree.specification.Decl.{Decl, out-Decl, roll-Decl, map-Decl, fold_out-Decl, fold-roll-Decl}
use Rattle.estelle_tree.specs.declared.tree.specification.Decl.TheOpen.{Decl-F, Body-F, Parts-F}
use Rattle.estelle_tree.specs.declared.tree.specification.Decl.TheFolds.{fold_out-Body, fold_out-Parts, fold-roll-Body, fold-roll-Parts}
use Rattle.estelle_tree.specs.declared.tree.specification.Decl.TheViews.{out-roll-Decl}
use Rattle.estelle_tree.specs.declared.tree.specification.Body.{Body, out-Body, roll-Body}
use Rattle.estelle_tree.specs.Input.{between, over}
use Rattle.estelle_tree.specs.Spans.{DeclLayer, nowhere}
use Rattle.estelle_tree.specs.Spelling.{Spelling, Lines, Behind, Enclosed}
use Rattle.estelle_tree.specs.Types.{IsName, IsNames}
use Rattle.estelle_tree.specs.Declarations.{IsConstDef, IsTypeDef, AreVars}
use Rattle.estelle_tree.specs.Clauses.{IsTransBody}
use Rattle.estelle_tree.specs.Specification.{IsSysAttr, IsAttr, IsDisc, IsQueue, IsHead, of_head, Distinct, AreHeads, AreParams, IsParams, MayBeParams, IsInter, AreInters, IsChannel, IsIpDecl, AreModvars, IsStateset, IsHeader, IsInit, IsTrans, BodyOf, DeclLayerOf, DeclOf, PartsOf, PartsBelow, IsSpec}
use Rattle.round_trip.specs.Types.{bare_name, bare_names, bare_typed}
use Rattle.round_trip.specs.Declarations.{bare_const_def, bare_type_def}
use Rattle.round_trip.specs.Clauses.{bare_trans_body}
use Rattle.round_trip.specs.Specification.{bare_sys_attr, bare_attr, bare_disc, bare_head, bare_param_group, bare_params, bare_inter, bare_inter_group, bare_channel, bare_ip_decl, bare_modvar_decl, bare_stateset_def, bare_header, bare_init, bare_trans, decl_layer, body_layer, parts_layer, bare_decl, bare_body, bare_parts, bare_spec}
use Rattle.round_trip.proofs.Moves.{takes, Moves, ap2, ap3, ap4, ap5, optional, chain, several, behind, ended, enclosed, separated, lines, may_be_lines, joined, rolling}
use Rattle.round_trip.proofs.TypeMoves.{name_moves, names_moves, vars_moves}
use Rattle.round_trip.proofs.DeclarationMoves.{const_def_moves, type_def_moves, routine_moves}
use Rattle.round_trip.proofs.ClauseMoves.{block_moves, trans_body_moves}

sys_attr_moves : Moves IsSysAttr bare_sys_attr
sys_attr_moves (sys_attr.Systemprocess span) i j i' h s = let t = takes h.0 s in record { thing = sys_attr.Systemprocess (between i' t.end); end = t.end; is = (t.is, refl); same = refl; alike = t.alike }
sys_attr_moves (sys_attr.Systemactivity span) i j i' h s = let t = takes h.0 s in record { thing = sys_attr.Systemactivity (between i' t.end); end = t.end; is = (t.is, refl); same = refl; alike = t.alike }

attr_moves : Moves IsAttr bare_attr
attr_moves (attr.SysAttr sys) i j i' h s =
    let m = sys_attr_moves sys _ _ _ h s in
    record { thing = attr.SysAttr m.thing; end = m.end; is = m.is; same = ap (λ a. attr.SysAttr a) m.same; alike = m.alike }
attr_moves (attr.Process span) i j i' h s = let t = takes h.0 s in record { thing = attr.Process (between i' t.end); end = t.end; is = (t.is, refl); same = refl; alike = t.alike }
attr_moves (attr.Activity span) i j i' h s = let t = takes h.0 s in record { thing = attr.Activity (between i' t.end); end = t.end; is = (t.is, refl); same = refl; alike = t.alike }

disc_moves : Moves IsDisc bare_disc
disc_moves (disc.Individual span) i j i' h s = let t = takes h.0 s in record { thing = disc.Individual (between i' t.end); end = t.end; is = (t.is, refl); same = refl; alike = t.alike }
disc_moves (disc.Common span) i j i' h s = let t = takes h.0 s in record { thing = disc.Common (between i' t.end); end = t.end; is = (t.is, refl); same = refl; alike = t.alike }

queue_moves : Moves IsQueue bare_disc
queue_moves = ended IsDisc bare_disc disc_moves k.Queue

-- ---- heads: which forms they have is the same without spans

head_moves : Moves IsHead bare_head
head_moves (head.Default disc span) i j i' h s =
    let m = enclosed IsQueue bare_disc queue_moves k.Default k.Semicolon disc _ _ _ h.0 s in
    record { thing = head.Default m.thing (between i' m.end); end = m.end; is = (m.is, refl); same = ap (λ a. head.Default a nowhere) m.same; alike = m.alike }
head_moves (head.Timescale unit span) i j i' h s =
    let m = enclosed IsName bare_name name_moves k.Timescale k.Semicolon unit _ _ _ h.0 s in
    record { thing = head.Timescale m.thing (between i' m.end); end = m.end; is = (m.is, refl); same = ap (λ a. head.Timescale a nowhere) m.same; alike = m.alike }

form_bare : (h : Head) → of_head (bare_head h) ≡ of_head h
form_bare (head.Default disc span) = refl
form_bare (head.Timescale unit span) = refl

pub forms_bare : (hs : List Head) → map of_head (map bare_head hs) ≡ map of_head hs
forms_bare [] = refl
forms_bare (h ∷ hs) = ap2 (λ a b. a ∷ b) (form_bare h) (forms_bare hs)

heads_moves : Moves AreHeads (map bare_head)
heads_moves hs i j i' h s =
    let m = chain IsHead bare_head head_moves hs _ _ _ h.heads s in
    let forms = sym (forms_bare hs) ∙ ap (map of_head) (sym m.same) ∙ forms_bare m.thing in
    record { thing = m.thing; end = m.end; is = record { heads = m.is; once = subst Distinct forms h.once }; same = m.same; alike = m.alike }

-- ---- channels and headers

param_group_moves : Moves AreParams bare_param_group
param_group_moves g i j i' h s =
    let m = joined k.Colon IsNames IsName bare_names bare_name names_moves name_moves g.names g.type_name h s in
    record { thing = record { names = m.one; type_name = m.other }; end = m.end; is = m.is; same = ap2 (λ a b. record { names = a; type_name = b }) m.one_same m.other_same; alike = m.alike }

params_moves : Moves IsParams bare_params
params_moves ps i j i' h s =
    let m = separated AreParams bare_param_group param_group_moves k.Semicolon ps.groups _ _ _ h.groups s in
    record { thing = record { groups = m.thing; span = between i' m.end }; end = m.end; is = record { groups = m.is; span = refl }; same = ap (λ a. record { groups = a; span = nowhere }) m.same; alike = m.alike }

may_be_params_moves : Moves MayBeParams (option_map bare_params)
may_be_params_moves = optional (Enclosed k.OpenParenthesis k.CloseParenthesis IsParams) bare_params (enclosed IsParams bare_params params_moves k.OpenParenthesis k.CloseParenthesis)

inter_moves : Moves IsInter bare_inter
inter_moves x i j i' h s =
    let m = name_moves x.name _ _ _ h.name s in
    let n = may_be_params_moves x.params _ _ _ h.params m.alike in
    record {
      thing = record { name = m.thing; params = n.thing; span = between i' n.end };
      end = n.end;
      is = record { mid = m.end; name = m.is; params = n.is; span = refl };
      same = ap2 (λ a b. record { name = a; params = b; span = nowhere }) m.same n.same;
      alike = n.alike;
    }

inters_moves : Moves AreInters bare_inter_group
inters_moves g i j i' h s =
    let m = joined k.Colon IsNames (Lines IsInter) bare_names (map bare_inter) names_moves (lines IsInter bare_inter inter_moves) g.roles g.inters h s in
    record { thing = record { roles = m.one; inters = m.other }; end = m.end; is = m.is; same = ap2 (λ a b. record { roles = a; inters = b }) m.one_same m.other_same; alike = m.alike }

channel_moves : Moves IsChannel bare_channel
channel_moves c i j i' h s =
    let m = behind IsName bare_name name_moves k.Channel c.name _ _ _ h.name s in
    let t = takes h.opens m.alike in
    let n = joined k.Comma IsName IsName bare_name bare_name name_moves name_moves c.first_role c.second_role h.roles t.alike in
    let u = takes h.closes n.alike in
    let v = takes h.semicolon u.alike in
    let o = several (Behind k.By AreInters) bare_inter_group (behind AreInters bare_inter_group inters_moves k.By) c.groups _ _ _ h.groups v.alike in
    record {
      thing = record { name = m.thing; first_role = n.one; second_role = n.other; groups = o.thing; span = between i' o.end };
      end = o.end;
      is = record {
        after_name = m.end;
        after_open = t.end;
        after_roles = n.end;
        after_close = u.end;
        after_head = v.end;
        name = m.is;
        opens = t.is;
        roles = n.is;
        closes = u.is;
        semicolon = v.is;
        groups = o.is;
        span = refl;
      };
      same = ap4 (λ a b c d. record { name = a; first_role = b; second_role = c; groups = d; span = nowhere }) m.same n.one_same n.other_same o.same;
      alike = o.alike;
    }

ip_decl_moves : Moves IsIpDecl bare_ip_decl
ip_decl_moves p i j i' h s =
    let m = joined k.Colon IsNames IsName bare_names bare_name names_moves name_moves p.names p.channel h.names s in
    let n = enclosed IsName bare_name name_moves k.OpenParenthesis k.CloseParenthesis p.role _ _ _ h.role m.alike in
    let o = optional IsQueue bare_disc queue_moves p.disc _ _ _ h.disc n.alike in
    record {
      thing = record { names = m.one; channel = m.other; role = n.thing; disc = o.thing; span = between i' o.end };
      end = o.end;
      is = record { after_channel = m.end; after_role = n.end; names = m.is; role = n.is; disc = o.is; span = refl };
      same = ap4 (λ a b c d. record { names = a; channel = b; role = c; disc = d; span = nowhere }) m.one_same m.other_same n.same o.same;
      alike = o.alike;
    }

modvars_moves : Moves AreModvars bare_modvar_decl
modvars_moves x i j i' h s =
    let m = joined k.Colon IsNames IsName bare_names bare_name names_moves name_moves x.names x.header h s in
    record { thing = record { names = m.one; header = m.other }; end = m.end; is = m.is; same = ap2 (λ a b. record { names = a; header = b }) m.one_same m.other_same; alike = m.alike }

stateset_moves : Moves IsStateset bare_stateset_def
stateset_moves x i j i' h s =
    let m = joined k.Equal IsName (Enclosed k.OpenBracket k.CloseBracket IsNames) bare_name bare_names name_moves (enclosed IsNames bare_names names_moves k.OpenBracket k.CloseBracket) x.name x.states h s in
    record { thing = record { name = m.one; states = m.other }; end = m.end; is = m.is; same = ap2 (λ a b. record { name = a; states = b }) m.one_same m.other_same; alike = m.alike }

-- ---- one level without spans, for each type of node

abbrev pub layer_of_decl : DeclLayer → Decl
layer_of_decl l = decl_layer (map-Decl Decl Body Parts Decl Body Parts bare_decl bare_body bare_parts l)

decl_rolled : (l : DeclLayer) → bare_decl (roll-Decl l) ≡ layer_of_decl l
unfolding bare_decl bare_body bare_parts
decl_rolled l = fold-roll-Decl Decl Body Parts decl_layer body_layer parts_layer l

pub decl_opened : (x : Decl) → bare_decl x ≡ layer_of_decl (out-Decl x)
unfolding bare_decl bare_body bare_parts
decl_opened x = fold_out-Decl Decl Body Parts decl_layer body_layer parts_layer x

abbrev pub layer_of_body : Body-F Decl Body Parts → Body
layer_of_body l = roll-Body (record { name = bare_name l.name; header = bare_name l.header; parts = bare_parts l.parts; span = nowhere })

body_rolled : (l : Body-F Decl Body Parts) → bare_body (roll-Body l) ≡ layer_of_body l
unfolding bare_decl bare_body bare_parts
body_rolled l = fold-roll-Body Decl Body Parts decl_layer body_layer parts_layer l

pub body_opened : (x : Body) → bare_body x ≡ layer_of_body (out-Body x)
unfolding bare_decl bare_body bare_parts
body_opened x = fold_out-Body Decl Body Parts decl_layer body_layer parts_layer x

abbrev pub layer_of_parts : Parts-F Decl Body Parts → Parts
layer_of_parts l = roll-Parts (record { decls = map bare_decl l.decls; init = option_map bare_init l.init; trans = map bare_trans l.trans; span = nowhere })

parts_rolled : (l : Parts-F Decl Body Parts) → bare_parts (roll-Parts l) ≡ layer_of_parts l
unfolding bare_decl bare_body bare_parts
parts_rolled l = fold-roll-Parts Decl Body Parts decl_layer body_layer parts_layer l

pub parts_opened : (x : Parts) → bare_parts x ≡ layer_of_parts (out-Parts x)
unfolding bare_decl bare_body bare_parts
parts_opened x = fold_out-Parts Decl Body Parts decl_layer body_layer parts_layer x

-- ---- where so many more levels of nesting may open

module _ (room : ℕ) where
  header_moves : Moves (IsHeader room) bare_header
  header_moves x i j i' h s =
      let m = behind IsName bare_name name_moves k.Module x.name _ _ _ h.name s in
      let n = optional IsAttr bare_attr attr_moves x.attr _ _ _ h.attr m.alike in
      let o = may_be_params_moves x.params _ _ _ h.params n.alike in
      let t = takes h.semicolon o.alike in
      let p = may_be_lines IsIpDecl bare_ip_decl ip_decl_moves k.Ip x.ips _ _ _ h.ips t.alike in
      let q = may_be_lines (AreVars room) bare_typed (vars_moves room) k.Export x.exports _ _ _ h.exports p.alike in
      let u = takes h.ends q.alike in
      let v = takes h.last u.alike in
      record {
        thing = record { name = m.thing; attr = n.thing; params = o.thing; ips = p.thing; exports = q.thing; span = between i' v.end };
        end = v.end;
        is = record {
          after_name = m.end;
          after_attr = n.end;
          after_params = o.end;
          after_head = t.end;
          after_ips = p.end;
          after_exports = q.end;
          after_end = u.end;
          name = m.is;
          attr = n.is;
          params = o.is;
          semicolon = t.is;
          ips = p.is;
          exports = q.is;
          ends = u.is;
          last = v.is;
          span = refl;
        };
        same = ap5 (λ a b c d e. record { name = a; attr = b; params = c; ips = d; exports = e; span = nowhere }) m.same n.same o.same p.same q.same;
        alike = v.alike;
      }

  init_moves : Moves (IsInit room) bare_init
  init_moves x i j i' h s =
      let t = takes h.word s in
      let m = optional (Behind k.To IsName) bare_name (behind IsName bare_name name_moves k.To) x.to _ _ _ h.to t.alike in
      let n = block_moves room x.block _ _ _ h.block m.alike in
      record {
        thing = record { to = m.thing; block = n.thing; span = between i' n.end };
        end = n.end;
        is = record { at = t.end; mid = m.end; word = t.is; to = m.is; block = n.is; span = refl };
        same = ap2 (λ a b. record { to = a; block = b; span = nowhere }) m.same n.same;
        alike = n.alike;
      }

  trans_moves : Moves (IsTrans room) bare_trans
  trans_moves x i j i' h s =
      let m = behind (IsTransBody room) bare_trans_body (trans_body_moves room) k.Trans x.body _ _ _ h.body s in
      record { thing = record { body = m.thing; span = between i' m.end }; end = m.end; is = record { body = m.is; span = refl }; same = ap (λ a. record { body = a; span = nowhere }) m.same; alike = m.alike }

  module _ (P : Spelling Parts) (moves : Moves P bare_parts) where
    body_moves : Moves (BodyOf room P) bare_body
    body_moves x i j i' h s =
        let t = takes h.word s in
        let m = joined k.For IsName IsName bare_name bare_name name_moves name_moves (out-Body x).name (out-Body x).header h.names t.alike in
        let u = takes h.semicolon m.alike in
        let n = moves (out-Body x).parts _ _ _ h.parts u.alike in
        let v = takes h.ends n.alike in
        let w = takes h.last v.alike in
        let l : Body-F Decl Body Parts = record { name = m.one; header = m.other; parts = n.thing; span = between i' w.end } in
        record {
          thing = roll-Body l;
          end = w.end;
          is = record {
            after_word = t.end;
            after_names = m.end;
            after_head = u.end;
            after_parts = n.end;
            after_end = v.end;
            fits = h.fits;
            word = t.is;
            names = m.is;
            semicolon = u.is;
            parts = n.is;
            ends = v.is;
            last = w.is;
            span = refl;
          };
          same = body_rolled l ∙ ap3 (λ a b c. roll-Body (record { name = a; header = b; parts = c; span = nowhere })) m.one_same m.other_same n.same ∙ sym (body_opened x);
          alike = w.alike;
        }

    decl_layer_moves : Moves (DeclLayerOf room P) layer_of_decl
    decl_layer_moves (Decl-F.Const defs span) i j i' h s =
        let m = behind (Lines IsConstDef) (map bare_const_def) (lines IsConstDef bare_const_def const_def_moves) k.Const defs _ _ _ h.0 s in
        record { thing = Decl-F.Const m.thing (between i' m.end); end = m.end; is = (m.is, refl); same = ap (λ a. roll-Decl (Decl-F.Const a nowhere)) m.same; alike = m.alike }
    decl_layer_moves (Decl-F.Types defs span) i j i' h s =
        let m = behind (Lines (IsTypeDef room)) (map bare_type_def) (lines (IsTypeDef room) bare_type_def (type_def_moves room)) k.Type defs _ _ _ h.0 s in
        record { thing = Decl-F.Types m.thing (between i' m.end); end = m.end; is = (m.is, refl); same = ap (λ a. roll-Decl (Decl-F.Types a nowhere)) m.same; alike = m.alike }
    decl_layer_moves (Decl-F.Channel channel) i j i' h s =
        let m = channel_moves channel _ _ _ h s in
        record { thing = Decl-F.Channel m.thing; end = m.end; is = m.is; same = ap (λ a. roll-Decl (Decl-F.Channel a)) m.same; alike = m.alike }
    decl_layer_moves (Decl-F.Header header) i j i' h s =
        let m = header_moves header _ _ _ h s in
        record { thing = Decl-F.Header m.thing; end = m.end; is = m.is; same = ap (λ a. roll-Decl (Decl-F.Header a)) m.same; alike = m.alike }
    decl_layer_moves (Decl-F.Body body) i j i' h s =
        let m = body_moves body _ _ _ h s in
        record { thing = Decl-F.Body m.thing; end = m.end; is = m.is; same = ap (λ a. roll-Decl (Decl-F.Body a)) m.same; alike = m.alike }
    decl_layer_moves (Decl-F.Ip ips span) i j i' h s =
        let m = behind (Lines IsIpDecl) (map bare_ip_decl) (lines IsIpDecl bare_ip_decl ip_decl_moves) k.Ip ips _ _ _ h.0 s in
        record { thing = Decl-F.Ip m.thing (between i' m.end); end = m.end; is = (m.is, refl); same = ap (λ a. roll-Decl (Decl-F.Ip a nowhere)) m.same; alike = m.alike }
    decl_layer_moves (Decl-F.Modvar modvars span) i j i' h s =
        let m = behind (Lines AreModvars) (map bare_modvar_decl) (lines AreModvars bare_modvar_decl modvars_moves) k.Modvar modvars _ _ _ h.0 s in
        record { thing = Decl-F.Modvar m.thing (between i' m.end); end = m.end; is = (m.is, refl); same = ap (λ a. roll-Decl (Decl-F.Modvar a nowhere)) m.same; alike = m.alike }
    decl_layer_moves (Decl-F.Var vars span) i j i' h s =
        let m = behind (Lines (AreVars room)) (map bare_typed) (lines (AreVars room) bare_typed (vars_moves room)) k.Var vars _ _ _ h.0 s in
        record { thing = Decl-F.Var m.thing (between i' m.end); end = m.end; is = (m.is, refl); same = ap (λ a. roll-Decl (Decl-F.Var a nowhere)) m.same; alike = m.alike }
    decl_layer_moves (Decl-F.State states span) i j i' h s =
        let m = enclosed IsNames bare_names names_moves k.State k.Semicolon states _ _ _ h.0 s in
        record { thing = Decl-F.State m.thing (between i' m.end); end = m.end; is = (m.is, refl); same = ap (λ a. roll-Decl (Decl-F.State a nowhere)) m.same; alike = m.alike }
    decl_layer_moves (Decl-F.Stateset sets span) i j i' h s =
        let m = behind (Lines IsStateset) (map bare_stateset_def) (lines IsStateset bare_stateset_def stateset_moves) k.Stateset sets _ _ _ h.0 s in
        record { thing = Decl-F.Stateset m.thing (between i' m.end); end = m.end; is = (m.is, refl); same = ap (λ a. roll-Decl (Decl-F.Stateset a nowhere)) m.same; alike = m.alike }
    decl_layer_moves (Decl-F.Routine routine) i j i' h s =
        let m = routine_moves room routine _ _ _ h s in
        record { thing = Decl-F.Routine m.thing; end = m.end; is = m.is; same = ap (λ a. roll-Decl (Decl-F.Routine a)) m.same; alike = m.alike }

    decl_moves : Moves (DeclOf room P) bare_decl
    decl_moves = rolling (DeclLayerOf room P) layer_of_decl out-Decl roll-Decl bare_decl out-roll-Decl decl_rolled decl_opened decl_layer_moves

    parts_of_moves : Moves (PartsOf room P) bare_parts
    parts_of_moves x i j i' h s =
        let m = chain (DeclOf room P) bare_decl decl_moves (out-Parts x).decls _ _ _ h.decls s in
        let n = optional (IsInit room) bare_init init_moves (out-Parts x).init _ _ _ h.init m.alike in
        let o = chain (IsTrans room) bare_trans trans_moves (out-Parts x).trans _ _ _ h.trans n.alike in
        let l : Parts-F Decl Body Parts = record { decls = m.thing; init = n.thing; trans = o.thing; span = over i' o.end } in
        record {
          thing = roll-Parts l;
          end = o.end;
          is = record { after_decls = m.end; after_init = n.end; decls = m.is; init = n.is; trans = o.is; span = refl };
          same = parts_rolled l ∙ ap3 (λ a b c. roll-Parts (record { decls = a; init = b; trans = c; span = nowhere })) m.same n.same o.same ∙ sym (parts_opened x);
          alike = o.alike;
        }

parts_below_moves : (room : ℕ) → Moves (PartsBelow room) bare_parts
parts_below_moves zero x i j i' h s = absurd h
parts_below_moves (suc room) x i j i' h s = parts_of_moves room (PartsBelow room) (parts_below_moves room) x i j i' h s

pub spec_moves : (room : ℕ) → Moves (IsSpec room) bare_spec
spec_moves room x i j i' h s =
    let m = behind IsName bare_name name_moves k.Specification x.name _ _ _ h.name s in
    let n = optional IsSysAttr bare_sys_attr sys_attr_moves x.attr _ _ _ h.attr m.alike in
    let t = takes h.semicolon n.alike in
    let o = heads_moves x.heads _ _ _ h.heads t.alike in
    let p = parts_below_moves (suc room) x.parts _ _ _ h.parts o.alike in
    let u = takes h.ends p.alike in
    let v = takes h.dot u.alike in
    record {
      thing = record { name = m.thing; attr = n.thing; heads = o.thing; parts = p.thing; span = between i' v.end };
      end = v.end;
      is = record {
        after_name = m.end;
        after_attr = n.end;
        after_head = t.end;
        after_heads = o.end;
        after_parts = p.end;
        after_end = u.end;
        name = m.is;
        attr = n.is;
        semicolon = t.is;
        heads = o.is;
        parts = p.is;
        ends = u.is;
        dot = v.is;
        span = refl;
      };
      same = ap4 (λ a b c d. record { name = a; attr = b; heads = c; parts = d; span = nowhere }) m.same n.same o.same p.same;
      alike = v.alike;
    }
