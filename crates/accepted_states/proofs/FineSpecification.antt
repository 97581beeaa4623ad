-- Channels, headers, initializations and transitions.
use Rattle.std.proofs.Common.{◌≡◌, ℕ, zero, suc, List, [], ◌∷◌, ◌++◌, map, length, Option, Some, None, refl, ap, sym, subst, arith, append_assoc}
use Rattle.std.specs.List.{flat_map}
use Rattle.estelle_tree.specs.declared.kind.Kind.{Kind}
use Rattle.estelle_tree.specs.declared.kind.Kind.TheVariants as k
use Rattle.estelle_tree.specs.declared.tree.name.Name.{Name}
use Rattle.estelle_tree.specs.declared.tree.clause.TransBody.{TransBody, out-TransBody, map-TransBody}
use Rattle.estelle_tree.specs.declared.tree.clause.TransBody.TheOpen.{TransBody-F}
use Rattle.estelle_tree.specs.declared.tree.clause.Group.{Group, out-Group}
use Rattle.estelle_tree.specs.declared.tree.specification.Header.{Header}
use Rattle.estelle_tree.specs.declared.tree.specification.SysAttr.TheVariants as sys_attr
use Rattle.estelle_tree.specs.declared.tree.specification.Attr.{Attr}
use Rattle.estelle_tree.specs.declared.tree.specification.Attr.TheVariants as attr
use Rattle.estelle_tree.specs.declared.tree.specification.SysAttr.{SysAttr}
use Rattle.estelle_tree.specs.declared.tree.specification.Disc.{Disc}
use Rattle.estelle_tree.specs.declared.tree.specification.Disc.TheVariants as disc
use Rattle.estelle_tree.specs.Input.{Input}
use Rattle.estelle_tree.specs.Spans.{TransBodyLayer}
use Rattle.estelle_tree.specs.Spelling.{Spelling, Optional, Behind}
use Rattle.estelle_tree.specs.Types.{IsName}
use Rattle.estelle_tree.specs.Clauses.{way_of, MoreGroups, AreGroups, TransBodyLayerOf, TransBodyOf, GroupOf, GroupWithin, clause_kinds}
use Rattle.estelle_tree.specs.Specification.{IsSysAttr, IsAttr, IsQueue, AreParams, IsParams, MayBeParams, IsInter, AreInters, IsChannel, IsIpDecl, AreModvars, IsStateset, IsHeader, IsInit, IsTrans}
use Rattle.scope_rules.specs.declared.declaration.Denotes.TheVariants as d
use Rattle.scope_rules.specs.declared.declaration.Need.TheVariants as need
use Rattle.scope_rules.specs.declared.declaration.Inside.TheVariants.{Nothing, At, Brought}
use Rattle.scope_rules.specs.declared.event.ScopeForm.TheVariants as scope
use Rattle.scope_rules.specs.declared.event.Step.TheVariants as step
use Rattle.scope_rules.specs.declared.event.Event.TheVariants.{Open, Close, Keep, Use, By}
use Rattle.scope_rules.specs.TypeEvents.{Events, typed_names}
use Rattle.scope_rules.specs.ExpressionEvents.{optional}
use Rattle.scope_rules.specs.ClauseEvents.{clause_events, trans_body_layer, trans_body, group}
use Rattle.scope_rules.specs.SpecificationEvents.{param_group, params, inter, inter_group, channel, ip_decl, modvar_decl, stateset_def, header, first_state, init, trans}
use Rattle.scope_names_events.proofs.ClauseEquations.{trans_body_is, group_is}
use Rattle.scope_names_events.proofs.WritingLemmas.{chain_map}
use Rattle.accepted_states.proofs.Scopes.{plain_use, plain_by}
use Rattle.accepted_states.proofs.Fine.{Less, less_same, less_more, less_takes, less_names, less_name, name_less, Fine, AllFine, fine_nil, fine_append, fine_less, fine_end, fine_name, fine_names, fine_declared, fine_scope, fine_kept, behind, enclosed, several, separated, lines, may_be_lines, maybe}
use Rattle.accepted_states.proofs.FineDeclarations.{parameters_fine, vars_fine, block_fine, clause_fine}

param_group_fine : AllFine param_group AreParams
param_group_fine g i j h = parameters_fine h.first (less_takes h.mark) h.second

params_fine : AllFine params IsParams
params_fine ps i j h = separated k.Semicolon param_group_fine ps.groups i j h.groups

pub may_be_params_fine : AllFine (optional params) MayBeParams
may_be_params_fine = maybe (enclosed params_fine)

inter_fine : AllFine inter IsInter
inter_fine x i j h = fine_append (fine_declared (x.name ∷ []) d.Interaction (At x.name.span) (λ e. cc) (name_less h.name)) (fine_kept x.name.span (may_be_params_fine x.params h.mid j h.params))

by_fine : AllFine (λ x. By x ∷ []) IsName
by_fine x i j h = record { plain = plain_by x; few = λ t. let a = less_name h t in omega (arith, a) }

by_all : (xs : List Name) → flat_map (λ x. By x ∷ []) xs ≡ map By xs
by_all [] = refl
by_all (x ∷ xs) = ap (λ es. By x ∷ es) (by_all xs)

inters_fine : AllFine inter_group AreInters
inters_fine g i j h =
    fine_append (subst (Fine i h.mid) (by_all g.roles.names) (separated k.Comma by_fine g.roles.names i h.mid h.first.names))
    (fine_less (less_takes h.mark) (lines inter_fine g.inters h.at j h.second))

pub channel_fine : AllFine channel IsChannel
channel_fine c i j h =
    let roles = less_more (less_takes h.opens) (less_more (name_less h.roles.first) (less_more (less_takes h.roles.mark) (less_more (name_less h.roles.second) (less_more (less_takes h.closes) (less_takes h.semicolon))))) in
    fine_append (fine_declared (c.name ∷ []) d.Channel (At c.name.span) (λ e. cc) (less_more (less_takes h.name.mark) (name_less h.name.item)))
    (fine_kept c.name.span (fine_append (fine_declared (c.first_role ∷ c.second_role ∷ []) d.Role Nothing (λ e. cc) roles) (several (behind inters_fine) c.groups h.after_head j h.groups)))

pub queue_less : (o : Option Disc) (i j : Input) → Optional IsQueue o i j → Less i j
queue_less None i j h = less_same h
queue_less (Some (disc.Individual span)) i j h = less_more (less_takes h.item.0) (less_takes h.mark)
queue_less (Some (disc.Common span)) i j h = less_more (less_takes h.item.0) (less_takes h.mark)

pub ip_fine : AllFine ip_decl IsIpDecl
ip_fine p i j h =
    let n = less_more (less_names h.names.first) (less_takes h.names.mark) in
    fine_append
    {es = Use p.channel need.Channel (step.Role p.role ∷ []) ∷ []}
    (fine_less n (record {
      plain = plain_use p.channel need.Channel (step.Role p.role ∷ []);
      few = λ t.
          let a = less_name h.names.second t in
          let b = less_name h.role.inside t in
          let c = (less_takes h.role.opens).most t in
          let e = (less_more (less_takes h.role.closes) (queue_less p.disc h.after_role j h.disc)).most t in
          omega (arith, a, b, c, e);
    }))
    (fine_declared p.names.names d.Ip (Brought p.channel.span) (λ e. cc) (less_same {i = j} refl))

pub modvar_fine : AllFine modvar_decl AreModvars
modvar_fine m i j h = fine_less (less_more (less_names h.first) (less_takes h.mark)) (fine_append (fine_name need.Header h.second) (fine_declared m.names.names d.ModuleVariable (Brought m.header.span) (λ e. cc) (less_same {i = j} refl)))

pub stateset_fine : AllFine stateset_def IsStateset
stateset_fine s i j h =
    let b = h.second in
    fine_less (less_more (name_less h.first) (less_more (less_takes h.mark) (less_takes b.opens)))
    (fine_append (fine_end (fine_names need.State b.inside) (less_takes b.closes)) (fine_declared (s.name ∷ []) d.StateSet Nothing (λ e. cc) (less_same {i = j} refl)))

sys_attr_less : (a : SysAttr) (i j : Input) → IsSysAttr a i j → Less i j
sys_attr_less (sys_attr.Systemprocess span) i j h = less_takes h.0
sys_attr_less (sys_attr.Systemactivity span) i j h = less_takes h.0

pub may_be_sys_attr_less : (o : Option SysAttr) (i j : Input) → Optional IsSysAttr o i j → Less i j
may_be_sys_attr_less None i j h = less_same h
may_be_sys_attr_less (Some a) i j h = sys_attr_less a i j h

pub attr_less : (o : Option Attr) (i j : Input) → Optional IsAttr o i j → Less i j
attr_less None i j h = less_same h
attr_less (Some (attr.SysAttr a)) i j h = sys_attr_less a i j h
attr_less (Some (attr.Process span)) i j h = less_takes h.0
attr_less (Some (attr.Activity span)) i j h = less_takes h.0

module _ (room : ℕ) where
  -- what stands in a header
  pub header_inside_fine : (x : Header) (i j : Input) (h : IsHeader room x i j) → Fine h.after_name j (optional params x.params ++ (flat_map ip_decl x.ips ++ flat_map (typed_names d.Exported) x.exports))
  header_inside_fine x i j h =
      let last = less_more (less_takes h.ends) (less_takes h.last) in
      let a = fine_less (attr_less x.attr h.after_name h.after_attr h.attr) (fine_end (may_be_params_fine x.params h.after_attr h.after_params h.params) (less_takes h.semicolon)) in
      let b = may_be_lines k.Ip ip_fine x.ips h.after_head h.after_ips h.ips in
      let c = fine_end (may_be_lines k.Export (vars_fine room d.Exported (λ e. cc)) x.exports h.after_ips h.after_exports h.exports) last in
      fine_append a (fine_append b c)

  pub header_fine : AllFine header (IsHeader room)
  header_fine x i j h =
      let A = optional params x.params in
      let B = flat_map ip_decl x.ips in
      let C = flat_map (typed_names d.Exported) x.exports in
      let all : Fine h.after_name j (Open scope.Inner ∷ ((A ++ (B ++ C)) ++ Keep x.name.span ∷ [])) = fine_kept x.name.span (header_inside_fine x i j h) in
      fine_append (fine_declared (x.name ∷ []) d.Header (At x.name.span) (λ e. cc) (less_more (less_takes h.name.mark) (name_less h.name.item)))
      (subst (λ es. Fine h.after_name j (Open scope.Inner ∷ es)) (rw (append_assoc, append_assoc) refl) all)

  to_fine : AllFine first_state (Optional (Behind k.To IsName))
  to_fine = maybe (behind (λ x i j h. fine_name need.State h))

  pub init_fine : AllFine init (IsInit room)
  init_fine x i j h = fine_less (less_takes h.word) (fine_append (to_fine x.to h.at h.mid h.to) (block_fine room x.block h.mid j h.block))

  module _ (G : List Kind → Spelling Group) (fine : (way : List Kind) → AllFine group (G way)) where
    pub more_fine : (way : List Kind) (before : Group) → AllFine (flat_map group) (MoreGroups room G way before)
    more_fine way before [] i j h = fine_nil (less_same h)
    more_fine way before (g ∷ gs) i j h = fine_append (fine way g i h.1.0 h.1.1) (more_fine way g gs h.1.0 j h.1.2)

    groups_fine : (way : List Kind) → AllFine (flat_map group) (AreGroups room G way)
    groups_fine way [] i j h = absurd h
    groups_fine way (g ∷ gs) i j h = fine_append (fine way g i h.0 h.1) (more_fine way g gs h.0 j h.2)

    layer_fine : (way : List Kind) (l : TransBodyLayer) (i j : Input) → TransBodyLayerOf room G way l i j → Fine i j (trans_body_layer (map-TransBody TransBody Group Events Events trans_body group l))
    layer_fine way (TransBody-F.Block b) i j h = block_fine room b i j h
    layer_fine way (TransBody-F.Groups gs span) i j h = subst (Fine i j) (sym (chain_map (λ (es : Events). es) group gs)) (groups_fine way gs i j h.0)

    pub body_fine : (way : List Kind) → AllFine trans_body (TransBodyOf room G way)
    body_fine way x i j h = subst (Fine i j) (sym (trans_body_is x)) (layer_fine way (out-TransBody x) i j h)

    group_of_fine : (way : List Kind) → AllFine group (GroupOf room G way)
    group_of_fine way g i j h =
        subst (Fine i j) (sym (group_is g))
        (subst (λ es. Fine i j (Open scope.Further ∷ es)) (append_assoc (clause_events (out-Group g).clause) (trans_body (out-Group g).body) (Close ∷ []))
        (fine_scope scope.Further (fine_append (clause_fine room (out-Group g).clause i h.mid h.clause) (body_fine (way_of way g) (out-Group g).body h.mid j h.body))))

  pub group_fine : (n : ℕ) (way : List Kind) → AllFine group (GroupWithin room n way)
  group_fine zero way g i j h = absurd h
  group_fine (suc n) way g i j h = group_of_fine (GroupWithin room n) (group_fine n) way g i j h

  pub trans_fine : AllFine trans (IsTrans room)
  trans_fine t i j h = fine_scope scope.Inner (behind (body_fine (GroupWithin room (length clause_kinds)) (group_fine (length clause_kinds)) []) t.body i j h.body)
