-- The bodies of a specification that spells tokens: their blocks and routines are told, and a rule speaks of the transitions of each.
use Rattle.std.proofs.Common.{◌≡◌, ℕ, zero, suc, ◌≤◌, Bool, true, List, [], ◌∷◌, ◌++◌, length, map, Option, Some, None, refl, sym, subst, inl}
use Rattle.std.specs.Prelude.{◌^◌, flat_map, option_to_list}
use Rattle.std.specs.List.{AllByRecursion}
use Rattle.estelle_tree.specs.declared.kind.Kind.{Kind}
use Rattle.estelle_tree.specs.declared.kind.Kind.TheVariants as k
use Rattle.estelle_tree.specs.declared.token.Placed.{Placed}
use Rattle.estelle_tree.specs.declared.tree.name.Name.{Name}
use Rattle.estelle_tree.specs.declared.tree.declaration.Routine.{Routine as RoutineTree}
use Rattle.estelle_tree.specs.declared.tree.declaration.RoutineForm.{RoutineForm}
use Rattle.estelle_tree.specs.declared.tree.declaration.RoutineForm.TheVariants as form
use Rattle.estelle_tree.specs.declared.tree.clause.NextState.TheVariants as next_state
use Rattle.estelle_tree.specs.declared.tree.clause.DelayHigh.TheVariants as delay_high
use Rattle.estelle_tree.specs.declared.tree.clause.Clause.{Clause}
use Rattle.estelle_tree.specs.declared.tree.clause.Clause.TheVariants as clause
use Rattle.estelle_tree.specs.declared.tree.clause.TransBody.{TransBody, out-TransBody, map-TransBody, fold_out-TransBody}
use Rattle.estelle_tree.specs.declared.tree.clause.TransBody.TheOpen.{TransBody-F}
use Rattle.estelle_tree.specs.declared.tree.clause.TransBody.TheFolds.{fold_out-Group}
use Rattle.estelle_tree.specs.declared.tree.clause.Group.{Group, out-Group}
use Rattle.estelle_tree.specs.declared.tree.specification.Attr.TheVariants as attr
use Rattle.estelle_tree.specs.declared.tree.specification.SysAttr.TheVariants as sys_attr
use Rattle.estelle_tree.specs.declared.tree.specification.Disc.TheVariants as disc
use Rattle.estelle_tree.specs.declared.tree.specification.Head.TheVariants as head
use Rattle.estelle_tree.specs.declared.tree.specification.StatesetDef.{StatesetDef}
use Rattle.estelle_tree.specs.declared.tree.specification.Init.{Init}
use Rattle.estelle_tree.specs.declared.tree.specification.Trans.{Trans}
use Rattle.estelle_tree.specs.declared.tree.specification.Body.{Body, out-Body}
use Rattle.estelle_tree.specs.declared.tree.specification.Parts.{Parts, out-Parts}
use Rattle.estelle_tree.specs.declared.tree.specification.Decl.{Decl, out-Decl, map-Decl}
use Rattle.estelle_tree.specs.declared.tree.specification.Decl.TheOpen.{Decl-F}
use Rattle.estelle_tree.specs.declared.tree.specification.Spec.{Spec}
use Rattle.estelle_tree.specs.Input.{Input, input}
use Rattle.estelle_tree.specs.Spans.{DeclLayer, TransBodyLayer}
use Rattle.estelle_tree.specs.Spelling.{Spelling, Chain}
use Rattle.estelle_tree.specs.Declarations.{IsBlockDecl, IsFormal, AreFormals, IsStatementPart, IsResult, IsRoutine}
use Rattle.estelle_tree.specs.Clauses.{IsLabel, IsAnyDom, IsNextState, IsBlock, IsDelayHigh, IsClause, way_of, MoreGroups, AreGroups, TransBodyLayerOf, TransBodyOf, GroupOf, GroupWithin, clause_kinds}
use Rattle.estelle_tree.specs.Specification.{IsSysAttr, IsAttr, IsDisc, IsQueue, IsHead, AreParams, IsParams, MayBeParams, IsInter, AreInters, IsChannel, IsIpDecl, AreModvars, IsStateset, IsHeader, IsInit, IsTrans, BodyOf, DeclLayerOf, DeclOf, PartsOf, PartsBelow}
use Rattle.estelle_tree.specs.Spells.{Spells, max_nesting}
use Rattle.estelle_model.specs.Denoted.{section}
use Rattle.estelle_model.specs.Bodies.{Contribution, BodyAlone, bodies, default_of, Way, behind as behind_clause, ways, trans_body_layer, group_layer, clauses, clauses_layer, clause_group_layer, stateset_declares}
use Rattle.body_table.specs.Ways.{group_ways, group_clauses}
use Rattle.body_table.specs.Contributions.{names_at, names_of, bodies_at, bodies_of, brought_of}
use Rattle.body_table.specs.Standings as stand
use Rattle.body_table.specs.Standings.{standing, inner, inner_of}
use Rattle.body_table.proofs.BodyEquations.{parts_is, body_is}
use Rattle.scope_rules.specs.NameRules.{IsOne}
use Rattle.type_rules.specs.declared.sites.PlacedSite.{PlacedSite}
use Rattle.type_rules.specs.Meanings.{Env, Declarations}
use Rattle.type_rules.specs.TypeSites.{ordinal_sites}
use Rattle.type_rules.specs.StatementSites.{stmts as stmts_sites}
use Rattle.type_rules.specs.SpecificationSites as sites
use Rattle.type_rules.specs.SpecificationSites.{Part, PlacedPart}
use Rattle.type_rules.proofs.SpecificationEquations as ruled
use Rattle.tree_visits.specs.Visit.{Around, Begins}
use Rattle.tree_visits.specs.Visits as visiting
use Rattle.tree_visits.specs.Visits.{Visits, visit_of, in_body, in_specification, init_nodes, trans, routines_in, visits}
use Rattle.tree_visits.proofs.BodyEquations as visited
use Rattle.trace_forms.proofs.Named.{named_stmts}
use Rattle.trace_forms.proofs.Passes.{FormsAt, Less, less_same, less_more, less_takes, less_flag, name_less, AllLess, maybe, chain, behind, ended, enclosed, joined, several, separated, lines, may_be_lines, name, names, const_less, expr_less, all_at}
use Rattle.trace_forms.proofs.Holds.{Holds, AllHold, hold_less, hold_end, hold_both, hold_as, always, hold_chain, hold_behind, hold_optional, hold_enclosed, hold_separated, hold_lines, hold_may_be_lines}
use Rattle.trace_forms.proofs.SpelledStatements.{Good, stmts_good}
use Rattle.trace_forms.proofs.Kept.{Kept, PlacedKept, PartKept, PlacedPartKept, kept_front, kept_back, placed_front, placed_back, not_placed, each_kept, parts_kept, each_part_kept}
use Rattle.trace_forms.proofs.TypePlaces.{IsSettled}
use Rattle.trace_forms.proofs.Declared.{AllSay, BodyTold, BlockTold, DefinitionTold, DefinitionsTold, TypeDefTold, SectionTold, OrdinalFirm, ClauseFirm, VarsTold, consts_say, type_defs_say, vars_say, routine_says, channel_says, header_says, stateset_says}
use Rattle.trace_forms.proofs.SpelledTypes.{ordinal_holds, const_def_holds, type_def_holds, vars_hold, definition_holds}
use Rattle.trace_forms.proofs.Lists.{all_append, all_front, all_back, one_front, one_back}

hold_good : {i j : Input} {b : Bool} → Good i j b → Holds i j (b ≡ true)
hold_good g = record { less = g.less; told = g.named }

-- ---- declarations and clauses

formal_less : AllLess IsFormal
formal_less f i j h = less_more (less_flag k.Var f.is_var h.is_var) (joined names name f.names f.type_name h.at j h.names)

formals_less : AllLess AreFormals
formals_less fs i j h = enclosed (separated k.Semicolon formal_less) fs.formals i j h.formals

label_less : AllLess IsLabel
label_less l i j h = less_more (less_takes h.word) (less_more (name_less h.name) (less_takes h.colon))

module _ (env : Env) (room : ℕ) where
  part_holds : AllHold (λ ss. named_stmts ss ≡ true) (IsStatementPart room)
  part_holds ss i j h =
      let e = h.stmts in
      hold_less (less_takes e.item.opens) (hold_end (hold_good (stmts_good room ss e.item.at e.item.mid e.item.inside)) (less_more (less_takes e.item.closes) (less_takes e.mark)))

  result_less : (f : RoutineForm) (i j : Input) → IsResult room f i j → Less i j
  result_less form.Procedure i j h = less_same h
  result_less (form.Function x) i j h = behind name x i j h

  -- definitions one after another, where no rule on types is broken
  definitions_hold : AllHold (λ ds. PartKept env (sites.all_of (map sites.block_decl_part ds)) → DefinitionsTold env ds) (Chain (IsBlockDecl room))
  definitions_hold ds i j h = hold_as (each_part_kept env (DefinitionTold env) sites.block_decl_part ds) (hold_chain (definition_holds env room) ds i j h)

  routine_holds : AllHold (λ r. (at : ℕ) → PartKept env (sites.routine at r) → DefinitionsTold env r.decls × (named_stmts r.body ≡ true)) (IsRoutine room)
  routine_holds r i j h =
      let A = flat_map sites.var_formals (sites.formals_of r.formals) in
      let B = sites.result_sites env r.form in
      let C = (sites.all_of (map sites.block_decl_part r.decls)).sites env in
      let D = stmts_sites env r.body in
      let V = flat_map sites.formal_variables (sites.formals_of r.formals) in
      hold_as (λ p at kept. (p.0 (kept_front C D (kept_back B (C ++ D) (kept_back A (B ++ (C ++ D)) kept.0)), all_back (IsSettled env) V _ kept.1.1), p.1)) (hold_less
      (less_more (behind name r.name i h.after_name h.name) (less_more (maybe formals_less r.formals h.after_name h.after_formals h.formals)
      (less_more (result_less r.form h.after_formals h.after_result h.result) (less_takes h.semicolon))))
      (hold_both (definitions_hold r.decls h.after_head h.after_decls h.decls) (part_holds r.body h.after_decls j h.body)))

  block_holds : AllHold (λ b. PartKept env (sites.block b) → BlockTold env b) (IsBlock room)
  block_holds b i j h = hold_as (λ p kept. (p.1, p.0 (kept_front ((sites.all_of (map sites.block_decl_part b.decls)).sites env) (stmts_sites env b.body) kept.0, kept.1))) (hold_less (maybe label_less b.label i h.after_label h.label)
      (hold_both (hold_end (definitions_hold b.decls h.after_label h.after_decls h.decls) (maybe label_less b.late_label h.after_decls h.after_late h.late_label))
      (part_holds b.body h.after_late j h.body)))

  next_less : AllLess IsNextState
  next_less (next_state.Name x) i j h = name_less h
  next_less next_state.Same i j h = less_takes h

  high_less : AllLess (IsDelayHigh room)
  high_less (delay_high.Expr e) i j h = expr_less room e i j h
  high_less delay_high.Star i j h = less_takes h

  domain_holds : AllHold (λ d. Kept (ordinal_sites env d.domain) → OrdinalFirm env d.domain) IsAnyDom
  domain_holds d i j h = hold_less (less_more (names d.names i h.parts.mid h.parts.first) (less_takes h.parts.mark)) (ordinal_holds env d.domain h.parts.at j h.parts.second)

  clause_holds : AllHold (λ c. Kept ((sites.clause_part c).sites env) → ClauseFirm env c) (IsClause room)
  clause_holds (clause.From states span) i j h = always (λ kept. tt) (behind names states i j h.0)
  clause_holds (clause.To state span) i j h = always (λ kept. tt) (behind next_less state i j h.0)
  clause_holds (clause.When ip x params span) i j h = let w = h.0 in always (λ kept. tt) (less_more (less_takes w.word) (less_more (joined name name ip x w.at w.mid w.names) (maybe (enclosed names) params w.mid j w.params)))
  clause_holds (clause.Provided e span) i j h = always (λ kept. tt) (behind (expr_less room) e i j h.0)
  clause_holds (clause.Priority c span) i j h = always (λ kept. tt) (behind const_less c i j h.0)
  clause_holds (clause.Any domains span) i j h = hold_as (each_kept (λ d. OrdinalFirm env d.domain) (λ d. ordinal_sites env d.domain) domains) (hold_enclosed (hold_separated k.Semicolon domain_holds) domains i j h.0)
  clause_holds (clause.Delay low high span) i j h =
      let w = h.0 in
      always (λ kept. tt) (less_more (less_takes w.word) (less_more (less_takes w.opens) (less_more (expr_less room low w.after w.mid w.low) (less_more (maybe (behind high_less) high w.mid w.last w.high) (less_takes w.closes)))))

  -- ---- the ways to the blocks

  abbrev WaysTold : List Way → Type 0
  WaysTold = AllByRecursion (λ (w : Way). BlockTold env w.block)

  abbrev ClausesFirm : List Clause → Type 0
  ClausesFirm = AllByRecursion (ClauseFirm env)

  abbrev TransTold : TransBody → Type 0
  TransTold x = PartKept env (sites.trans_body x) → ClausesFirm (clauses x) × WaysTold (ways x)

  abbrev GroupTold : Group → Type 0
  GroupTold g = PartKept env (sites.group g) → ClausesFirm (group_clauses g) × WaysTold (group_ways g)

  ways_out : (x : TransBody) → ways x ≡ trans_body_layer (map-TransBody TransBody Group (List Way) (List Way) ways group_ways (out-TransBody x))
  unfolding ways group_ways
  ways_out x = fold_out-TransBody (List Way) (List Way) trans_body_layer group_layer x

  group_out : (g : Group) → group_ways g ≡ map (behind_clause (out-Group g).clause) (ways (out-Group g).body)
  unfolding ways group_ways
  group_out g = fold_out-Group (List Way) (List Way) trans_body_layer group_layer g

  clauses_out : (x : TransBody) → clauses x ≡ clauses_layer (map-TransBody TransBody Group (List Clause) (List Clause) clauses group_clauses (out-TransBody x))
  unfolding clauses group_clauses
  clauses_out x = fold_out-TransBody (List Clause) (List Clause) clauses_layer clause_group_layer x

  group_clauses_out : (g : Group) → group_clauses g ≡ (out-Group g).clause ∷ clauses (out-Group g).body
  unfolding clauses group_clauses
  group_clauses_out g = fold_out-Group (List Clause) (List Clause) clauses_layer clause_group_layer g

  behind_told : (c : Clause) (ws : List Way) → WaysTold ws → WaysTold (map (behind_clause c) ws)
  behind_told c [] h = tt
  behind_told c (w ∷ ws) h = (h.0, behind_told c ws h.1)

  groups_told : (gs : List Group) → AllByRecursion GroupTold gs → PartKept env (sites.all_of (map sites.group gs)) → ClausesFirm (flat_map (λ cs. cs) (map group_clauses gs)) × WaysTold (flat_map (λ ws. ws) (map group_ways gs))
  groups_told [] h kept = (tt, tt)
  groups_told (g ∷ gs) h kept =
      let A = (sites.group g).sites env in
      let B = (sites.all_of (map sites.group gs)).sites env in
      let D = (sites.group g).declares in
      let M = (sites.all_of (map sites.group gs)).declares in
      let first = h.0 (kept_front A B kept.0, all_front (IsSettled env) D M kept.1) in
      let more = groups_told gs h.1 (kept_back A B kept.0, all_back (IsSettled env) D M kept.1) in
      (all_append (ClauseFirm env) (group_clauses g) (flat_map (λ cs. cs) (map group_clauses gs)) first.0 more.0, all_append (λ (w : Way). BlockTold env w.block) (group_ways g) (flat_map (λ ws. ws) (map group_ways gs)) first.1 more.1)

  module _ (G : List Kind → Spelling Group) (holds : (way : List Kind) → AllHold GroupTold (G way)) where
    more_hold : (way : List Kind) (before : Group) → AllHold (AllByRecursion GroupTold) (MoreGroups room G way before)
    more_hold way before [] i j h = always tt (less_same h)
    more_hold way before (g ∷ gs) i j h = hold_both (holds way g i h.1.0 h.1.1) (more_hold way g gs h.1.0 j h.1.2)

    groups_hold : (way : List Kind) → AllHold (AllByRecursion GroupTold) (AreGroups room G way)
    groups_hold way [] i j h = absurd h
    groups_hold way (g ∷ gs) i j h = hold_both (holds way g i h.0 h.1) (more_hold way g gs h.0 j h.2)

    layer_holds : (way : List Kind) (l : TransBodyLayer) (i j : Input) → TransBodyLayerOf room G way l i j
        → Holds i j (PartKept env (sites.trans_body_layer (map-TransBody TransBody Group Part Part sites.trans_body sites.group l)) → ClausesFirm (clauses_layer (map-TransBody TransBody Group (List Clause) (List Clause) clauses group_clauses l)) × WaysTold (trans_body_layer (map-TransBody TransBody Group (List Way) (List Way) ways group_ways l)))
    layer_holds way (TransBody-F.Block b) i j h = hold_as (λ p kept. (tt, (p kept, tt))) (block_holds b i j h)
    layer_holds way (TransBody-F.Groups gs span) i j h = hold_as (groups_told gs) (groups_hold way gs i j h.0)

    trans_body_holds : (way : List Kind) → AllHold TransTold (TransBodyOf room G way)
    trans_body_holds way x i j h = hold_as (λ p kept. let q = p (subst (PartKept env) (ruled.trans_body_is x) kept) in (subst ClausesFirm (sym (clauses_out x)) q.0, subst WaysTold (sym (ways_out x)) q.1)) (layer_holds way (out-TransBody x) i j h)

    group_of_holds : (way : List Kind) → AllHold GroupTold (GroupOf room G way)
    group_of_holds way g i j h =
        let c = (out-Group g).clause in
        let b = (out-Group g).body in
        let A = (sites.clause_part c).sites env in
        let B = (sites.trans_body b).sites env in
        hold_as (λ p kept0.
        let kept = subst (PartKept env) (ruled.group_is g) kept0 in
        let first = p.0 (kept_front A B kept.0) in
        let more = p.1 (kept_back A B kept.0, all_back (IsSettled env) (sites.clause_part c).declares (sites.trans_body b).declares kept.1) in
        (subst ClausesFirm (sym (group_clauses_out g)) (first, more.0), subst WaysTold (sym (group_out g)) (behind_told c (ways b) more.1)))
        (hold_both (clause_holds c i h.mid h.clause) (trans_body_holds (way_of way g) b h.mid j h.body))

  group_within_holds : (n : ℕ) (way : List Kind) → AllHold GroupTold (GroupWithin room n way)
  group_within_holds zero way g i j h = absurd h
  group_within_holds (suc n) way g i j h = group_of_holds (GroupWithin room n) (group_within_holds n) way g i j h

  trans_holds : AllHold (λ t. TransTold t.body) (IsTrans room)
  trans_holds t i j h = hold_behind (trans_body_holds (GroupWithin room (length clause_kinds)) (group_within_holds (length clause_kinds)) []) t.body i j h.body

  init_holds : AllHold (λ x. PartKept env (sites.block x.block) → BlockTold env x.block) (IsInit room)
  init_holds x i j h = hold_less (less_more (less_takes h.word) (maybe (behind name) x.to h.at h.mid h.to)) (block_holds x.block h.mid j h.block)

-- ---- channels and headers

param_group_less : AllLess AreParams
param_group_less g i j h = joined names name g.names g.type_name i j h

params_less : AllLess IsParams
params_less ps i j h = separated k.Semicolon param_group_less ps.groups i j h.groups

may_be_params_less : AllLess MayBeParams
may_be_params_less = maybe (enclosed params_less)

inter_less : AllLess IsInter
inter_less x i j h = less_more (name_less h.name) (may_be_params_less x.params h.mid j h.params)

inters_less : AllLess AreInters
inters_less g i j h = joined names (lines inter_less) g.roles g.inters i j h

channel_less : AllLess IsChannel
channel_less c i j h =
    less_more (behind name c.name i h.after_name h.name) (less_more (less_takes h.opens) (less_more (joined name name c.first_role c.second_role h.after_open h.after_roles h.roles)
    (less_more (less_takes h.closes) (less_more (less_takes h.semicolon) (several (behind inters_less) c.groups h.after_head j h.groups)))))

disc_less : AllLess IsDisc
disc_less (disc.Individual span) i j h = less_takes h.0
disc_less (disc.Common span) i j h = less_takes h.0

queue_less : AllLess IsQueue
queue_less = ended disc_less

ip_decl_less : AllLess IsIpDecl
ip_decl_less p i j h = less_more (joined names name p.names p.channel i h.after_channel h.names) (less_more (enclosed name p.role h.after_channel h.after_role h.role) (maybe queue_less p.disc h.after_role j h.disc))

modvars_less : AllLess AreModvars
modvars_less m i j h = joined names name m.names m.header i j h

stateset_less : AllLess IsStateset
stateset_less s i j h = joined name (enclosed names) s.name s.states i j h

sys_attr_less : AllLess IsSysAttr
sys_attr_less (sys_attr.Systemprocess span) i j h = less_takes h.0
sys_attr_less (sys_attr.Systemactivity span) i j h = less_takes h.0

attr_less : AllLess IsAttr
attr_less (attr.SysAttr a) i j h = sys_attr_less a i j h
attr_less (attr.Process span) i j h = less_takes h.0
attr_less (attr.Activity span) i j h = less_takes h.0

head_less : AllLess IsHead
head_less (head.Default d span) i j h = enclosed queue_less d i j h.0
head_less (head.Timescale unit span) i j h = enclosed name unit i j h.0

header_holds : (env : Env) (room : ℕ) → AllHold (λ x. Kept ((sites.header x).sites env) → VarsTold env x.exports) (IsHeader room)
header_holds env room x i j h = hold_as (parts_kept env (λ x. SectionTold env (section x)) sites.var_decl x.exports) (hold_less
    (less_more (behind name x.name i h.after_name h.name) (less_more (maybe attr_less x.attr h.after_name h.after_attr h.attr) (less_more (may_be_params_less x.params h.after_attr h.after_params h.params)
    (less_more (less_takes h.semicolon) (may_be_lines k.Ip ip_decl_less x.ips h.after_head h.after_ips h.ips)))))
    (hold_end (hold_may_be_lines k.Export (vars_hold env room) x.exports h.after_ips h.after_exports h.exports) (less_more (less_takes h.ends) (less_takes h.last))))

-- ---- bodies

-- a rule speaks of the transitions of the body, among these visits
pub record IsVisited (vs : Visits) (b : BodyAlone) : Type 0 where
  pub around : Around
  pub routines : List RoutineTree
  pub is_one : IsOne (visit_of around (Begins routines b.trans)) vs

visited_front : (vs ws : Visits) (bs : List BodyAlone) → AllByRecursion (IsVisited vs) bs → AllByRecursion (IsVisited (vs ++ ws)) bs
visited_front vs ws [] h = tt
visited_front vs ws (b ∷ bs) h = (record { around = h.0.around; routines = h.0.routines; is_one = one_front _ vs ws h.0.is_one }, visited_front vs ws bs h.1)

visited_back : (vs ws : Visits) (bs : List BodyAlone) → AllByRecursion (IsVisited ws) bs → AllByRecursion (IsVisited (vs ++ ws)) bs
visited_back vs ws [] h = tt
visited_back vs ws (b ∷ bs) h = (record { around = h.0.around; routines = h.0.routines; is_one = one_back _ vs ws h.0.is_one }, visited_back vs ws bs h.1)

module _ (env : Env) (by_default : Bool) where
  -- what is told of the parts of a body
  pub record PartsTold (p : Parts) : Type 0 where
    told : (at : ℕ) → PlacedPartKept env at (sites.parts p) → (title header : Option Name) → AllByRecursion (BodyTold env) (standing by_default title header p ∷ inner_of by_default p)
    seen : (title header : Option Name) (a : Around) → AllByRecursion (IsVisited (visiting.parts p a)) (standing by_default title header p ∷ inner_of by_default p)

  pub record DeclTold (d : Decl) : Type 0 where
    names : (at : ℕ) → PlacedPartKept env at (sites.decl d) → AllSay env (names_of by_default d)
    inside : (at : ℕ) → PlacedPartKept env at (sites.decl d) → AllByRecursion (BodyTold env) (flat_map (stand.body by_default) (bodies_of d))
    seen : (a : Around) → AllByRecursion (IsVisited ((visiting.decl d).visits a)) (flat_map (stand.body by_default) (bodies_of d))

  module _ (room : ℕ) (P : Spelling Parts) (all : AllHold PartsTold P) where
    -- a declaration, for the rules
    abbrev layer_part : DeclLayer → PlacedPart
    layer_part l = sites.decl_layer (map-Decl Decl Body Parts PlacedPart PlacedPart PlacedPart sites.decl sites.body sites.parts l)

    statesets_say : (xs : List StatesetDef) → AllSay env (map stateset_declares xs)
    statesets_say [] = tt
    statesets_say (x ∷ xs) = (stateset_says env x, statesets_say xs)

    body_holds : AllHold (λ b. PartsTold (out-Body b).parts) (BodyOf room P)
    body_holds b i j h = let o = out-Body b in hold_less
        (less_more (less_takes h.word) (less_more (joined name name o.name o.header h.after_word h.after_names h.names) (less_takes h.semicolon)))
        (hold_end (all o.parts h.after_head h.after_parts h.parts) (less_more (less_takes h.ends) (less_takes h.last)))

    -- the bodies in a declaration, and what is told of them
    abbrev BodiesTold : DeclLayer → Type 0
    BodiesTold l = AllByRecursion (λ b. PartsTold (out-Body b).parts) (bodies_at l)

    -- what a declaration that the rules do not refuse says is told
    abbrev SaysKept : DeclLayer → Type 0
    SaysKept l = (at : ℕ) → PlacedPartKept env at (layer_part l) → AllSay env (names_at by_default l)

    layer_told : (l : DeclLayer) (i j : Input) → DeclLayerOf room P l i j → Holds i j (SaysKept l × BodiesTold l)
    layer_told (Decl-F.Const defs span) i j h = hold_as (λ p. (λ at kept. consts_say env defs p, tt)) (hold_behind (hold_lines const_def_holds) defs i j h.0)
    layer_told (Decl-F.Types defs span) i j h =
        hold_as (λ p. (λ at kept. type_defs_say env defs (each_part_kept env (TypeDefTold env) sites.type_def defs p (not_placed (sites.in_body at) _ kept.0, kept.1)), tt)) (hold_behind (hold_lines (type_def_holds env room)) defs i j h.0)
    layer_told (Decl-F.Channel c) i j h = always (λ at kept. channel_says env c, tt) (channel_less c i j h)
    layer_told (Decl-F.Header x) i j h = hold_as (λ p. (λ at kept. header_says env by_default x (p (not_placed (sites.in_body at) _ kept.0)), tt)) (header_holds env room x i j h)
    layer_told (Decl-F.Body b) i j h = hold_as (λ p. (λ at kept. tt, (p, tt))) (body_holds b i j h)
    layer_told (Decl-F.Ip ips span) i j h = always (λ at kept. tt, tt) (behind (lines ip_decl_less) ips i j h.0)
    layer_told (Decl-F.Modvar ms span) i j h = always (λ at kept. tt, tt) (behind (lines modvars_less) ms i j h.0)
    layer_told (Decl-F.Var vars span) i j h =
        hold_as (λ p. (λ at kept. vars_say env vars (parts_kept env (λ x. SectionTold env (section x)) sites.var_decl vars p (not_placed (sites.in_body at) _ kept.0)), tt)) (hold_behind (hold_lines (vars_hold env room)) vars i j h.0)
    layer_told (Decl-F.State states span) i j h = always (λ at kept. tt, tt) (enclosed names states i j h.0)
    layer_told (Decl-F.Stateset sets span) i j h = always (λ at kept. statesets_say sets, tt) (behind (lines stateset_less) sets i j h.0)
    layer_told (Decl-F.Routine r) i j h = hold_as (λ p. (λ at kept. let q = p at (not_placed (sites.in_routine at r) _ kept.0, kept.1) in routine_says env r q.1 q.0, tt)) (routine_holds env room r i j h)

    -- a body in which no rule on types is broken
    body_told : (b : Body) (at : ℕ) → PartsTold (out-Body b).parts → PlacedPartKept env at (sites.body b) → AllByRecursion (BodyTold env) (stand.body by_default b)
    body_told b at p kept =
        let o = out-Body b in
        subst (AllByRecursion (BodyTold env)) (sym (body_is by_default b)) (p.told o.span.start (subst PlacedKept (ruled.body_sites b env at) kept.0, (subst (AllByRecursion (IsSettled env)) (ruled.body_declares b at) kept.1).1) (Some o.name) (Some o.header))

    -- the bodies in a declaration
    inside_told : (l : DeclLayer) → BodiesTold l → (at : ℕ) → PlacedPartKept env at (layer_part l) → AllByRecursion (BodyTold env) (flat_map (stand.body by_default) (bodies_at l))
    inside_told (Decl-F.Body b) h at kept = all_append (BodyTold env) (stand.body by_default b) [] (body_told b at h.0 kept) tt
    inside_told (Decl-F.Const defs span) h at kept = tt
    inside_told (Decl-F.Types defs span) h at kept = tt
    inside_told (Decl-F.Channel c) h at kept = tt
    inside_told (Decl-F.Header x) h at kept = tt
    inside_told (Decl-F.Ip ips span) h at kept = tt
    inside_told (Decl-F.Modvar ms span) h at kept = tt
    inside_told (Decl-F.Var vars span) h at kept = tt
    inside_told (Decl-F.State states span) h at kept = tt
    inside_told (Decl-F.Stateset sets span) h at kept = tt
    inside_told (Decl-F.Routine r) h at kept = tt

    body_seen : (b : Body) (a : Around) → PartsTold (out-Body b).parts → AllByRecursion (IsVisited (visiting.body b a)) (stand.body by_default b)
    body_seen b a p =
        subst (λ vs. AllByRecursion (IsVisited vs) (stand.body by_default b)) (sym (visited.body_is b a))
        (subst (AllByRecursion (IsVisited _)) (sym (body_is by_default b))
        (visited_back _ (visiting.parts (out-Body b).parts (in_body (out-Body b).header (out-Body b).span)) (standing by_default (Some (out-Body b).name) (Some (out-Body b).header) (out-Body b).parts ∷ inner_of by_default (out-Body b).parts)
        (p.seen (Some (out-Body b).name) (Some (out-Body b).header) (in_body (out-Body b).header (out-Body b).span))))

    layer_seen : (l : DeclLayer) → BodiesTold l → (a : Around) → AllByRecursion (IsVisited ((visiting.decl_layer (map-Decl Decl Body Parts visiting.Declaring (Around → Visits) (Around → Visits) visiting.decl visiting.body visiting.parts l)).visits a)) (flat_map (stand.body by_default) (bodies_at l))
    layer_seen (Decl-F.Const defs span) h a = tt
    layer_seen (Decl-F.Types defs span) h a = tt
    layer_seen (Decl-F.Channel c) h a = tt
    layer_seen (Decl-F.Header x) h a = tt
    layer_seen (Decl-F.Body b) h a = all_append (IsVisited (visiting.body b a)) (stand.body by_default b) [] (body_seen b a h.0) tt
    layer_seen (Decl-F.Ip ips span) h a = tt
    layer_seen (Decl-F.Modvar ms span) h a = tt
    layer_seen (Decl-F.Var vars span) h a = tt
    layer_seen (Decl-F.State states span) h a = tt
    layer_seen (Decl-F.Stateset sets span) h a = tt
    layer_seen (Decl-F.Routine r) h a = tt

    pub decl_told : AllHold DeclTold (DeclOf room P)
    decl_told d i j h = hold_as (λ t. record {
      names = λ at kept. t.0 at (subst (PlacedPartKept env at) (ruled.decl_is d) kept);
      inside = λ at kept. inside_told (out-Decl d) t.1 at (subst (PlacedPartKept env at) (ruled.decl_is d) kept);
      seen = λ a. subst (λ (x : visiting.Declaring). AllByRecursion (IsVisited (x.visits a)) (flat_map (stand.body by_default) (bodies_of d))) (sym (visited.decl_is d)) (layer_seen (out-Decl d) t.1 a);
    }) (layer_told (out-Decl d) i j h)

    -- where rules speak of declarations one after another
    abbrev decls_sites : List Decl → ℕ → List PlacedSite
    decls_sites ds at = flat_map (λ d. (sites.decl d).sites env at) ds

    -- and what they declare for the rules
    abbrev decls_declare : List Decl → ℕ → Declarations
    decls_declare ds at = flat_map (λ d. (sites.decl d).declares at) ds

    abbrev DeclsKept : List Decl → ℕ → Type 0
    DeclsKept ds at = PlacedKept (decls_sites ds at) × AllByRecursion (IsSettled env) (decls_declare ds at)

    first_kept : (d : Decl) (ds : List Decl) (at : ℕ) → DeclsKept (d ∷ ds) at → PlacedPartKept env at (sites.decl d)
    first_kept d ds at kept = (placed_front ((sites.decl d).sites env at) (decls_sites ds at) kept.0, all_front (IsSettled env) ((sites.decl d).declares at) (decls_declare ds at) kept.1)

    more_kept : (d : Decl) (ds : List Decl) (at : ℕ) → DeclsKept (d ∷ ds) at → DeclsKept ds at
    more_kept d ds at kept = (placed_back ((sites.decl d).sites env at) (decls_sites ds at) kept.0, all_back (IsSettled env) ((sites.decl d).declares at) (decls_declare ds at) kept.1)

    brought_told : (ds : List Decl) → AllByRecursion DeclTold ds → (at : ℕ) → DeclsKept ds at → AllByRecursion (λ (c : Contribution). AllSay env c.names) (map (brought_of by_default) ds)
    brought_told [] h at kept = tt
    brought_told (d ∷ ds) h at kept = (h.0.names at (first_kept d ds at kept), brought_told ds h.1 at (more_kept d ds at kept))

    inner_told : (ds : List Decl) → AllByRecursion DeclTold ds → (at : ℕ) → DeclsKept ds at → AllByRecursion (BodyTold env) (inner by_default ds)
    inner_told [] h at kept = tt
    inner_told (d ∷ ds) h at kept = all_append (BodyTold env) (flat_map (stand.body by_default) (bodies_of d)) (inner by_default ds) (h.0.inside at (first_kept d ds at kept)) (inner_told ds h.1 at (more_kept d ds at kept))

    inner_seen : (ds : List Decl) (a : Around) → AllByRecursion DeclTold ds → AllByRecursion (IsVisited (flat_map (λ d. (visiting.decl d).visits a) ds)) (inner by_default ds)
    inner_seen [] a h = tt
    inner_seen (d ∷ ds) a h =
        let vs = (visiting.decl d).visits a in
        let ws = flat_map (λ d. (visiting.decl d).visits a) ds in
        all_append (IsVisited (vs ++ ws)) (flat_map (stand.body by_default) (bodies_of d)) (inner by_default ds)
        (visited_front vs ws (flat_map (stand.body by_default) (bodies_of d)) (h.0.seen a)) (visited_back vs ws (inner by_default ds) (inner_seen ds a h.1))

    -- where rules speak of transitions one after another
    abbrev all_trans_sites : List Trans → ℕ → List PlacedSite
    all_trans_sites ts at = flat_map (λ t. sites.placed (sites.in_body at) ((sites.trans_body t.body).sites env)) ts

    -- what is told of their clauses and blocks
    abbrev AllTransTold : List Trans → Type 0
    AllTransTold ts = ClausesFirm env room (flat_map (λ t. clauses t.body) ts) × WaysTold env room (flat_map (λ t. ways t.body) ts)

    -- what transitions declare for the rules
    abbrev trans_declare : List Trans → Declarations
    trans_declare ts = flat_map (λ t. (sites.trans_body t.body).declares) ts

    all_trans_told : (ts : List Trans) → AllByRecursion (λ t. TransTold env room t.body) ts → (at : ℕ) → PlacedKept (all_trans_sites ts at) → AllByRecursion (IsSettled env) (trans_declare ts) → AllTransTold ts
    all_trans_told [] h at kept fixed = (tt, tt)
    all_trans_told (t ∷ ts) h at kept fixed =
        let S = (sites.trans_body t.body).sites env in
        let A = sites.placed (sites.in_body at) S in
        let B = all_trans_sites ts at in
        let D = (sites.trans_body t.body).declares in
        let first = h.0 (not_placed (sites.in_body at) S (placed_front A B kept), all_front (IsSettled env) D (trans_declare ts) fixed) in
        let more = all_trans_told ts h.1 at (placed_back A B kept) (all_back (IsSettled env) D (trans_declare ts) fixed) in (
          all_append (ClauseFirm env) (clauses t.body) (flat_map (λ t. clauses t.body) ts) first.0 more.0,
          all_append (λ (w : Way). BlockTold env w.block) (ways t.body) (flat_map (λ t. ways t.body) ts) first.1 more.1,
        )

    init_told : (o : Option Init) → AllByRecursion (λ (x : Init). PartKept env (sites.block x.block) → BlockTold env x.block) (option_to_list o) → PartKept env (sites.init_part o) → AllByRecursion (λ (x : Init). BlockTold env x.block) (option_to_list o)
    init_told None h kept = tt
    init_told (Some x) h kept = (h.0 kept, tt)

    first_seen : (p : Parts) (title header : Option Name) (a : Around) → IsVisited (visiting.standing a (Begins (routines_in (out-Parts p).decls) (out-Parts p).trans ∷ [])) (standing by_default title header p)
    unfolding visiting.standing
    first_seen p title header a = record { around = a; routines = routines_in (out-Parts p).decls; is_one = inl refl }

    parts_seen : (p : Parts) → AllByRecursion DeclTold (out-Parts p).decls → (title header : Option Name) (a : Around) → AllByRecursion (IsVisited (visiting.parts p a)) (standing by_default title header p ∷ inner_of by_default p)
    parts_seen p h title header a =
        let o = out-Parts p in
        let B = visiting.standing a (Begins (routines_in o.decls) o.trans ∷ []) in
        let D = flat_map (λ d. (visiting.decl d).visits a) o.decls in
        let R = visiting.standing a (init_nodes o.init) ++ flat_map (trans a) o.trans in
        subst (λ vs. AllByRecursion (IsVisited vs) (standing by_default title header p ∷ inner_of by_default p)) (sym (visited.parts_is p a)) (
          (visited_front B (D ++ R) (standing by_default title header p ∷ []) (first_seen p title header a, tt)).0,
          visited_back B (D ++ R) (inner_of by_default p) (visited_front D R (inner_of by_default p) (inner_seen o.decls a h)),
        )

    parts_of_told : AllHold PartsTold (PartsOf room P)
    parts_of_told p i j h =
        let o = out-Parts p in
        hold_as (λ t. record {
          told = λ at kept0 title header.
              let A = decls_sites o.decls at in
              let S = (sites.init_part o.init).sites env in
              let B = sites.placed (sites.in_body at) S in
              let C = all_trans_sites o.trans at in
              let D = decls_declare o.decls at in
              let I = (sites.init_part o.init).declares in
              let T = trans_declare o.trans in
              let kept : PlacedKept (A ++ (B ++ C)) = subst PlacedKept (ruled.parts_sites p env at) kept0.0 in
              let fixed : AllByRecursion (IsSettled env) (D ++ (I ++ T)) = subst (AllByRecursion (IsSettled env)) (ruled.parts_declare p at) kept0.1 in
              let more : PlacedKept (B ++ C) = placed_back A (B ++ C) kept in
              let last : AllByRecursion (IsSettled env) (I ++ T) = all_back (IsSettled env) D (I ++ T) fixed in
              let first : DeclsKept o.decls at = (placed_front A (B ++ C) kept, all_front (IsSettled env) D (I ++ T) fixed) in
              let trans = all_trans_told o.trans t.1.1 at (placed_back B C more) (all_back (IsSettled env) I T last) in
              (record { brought = brought_told o.decls t.0 at first; init = init_told o.init t.1.0 (not_placed (sites.in_body at) S (placed_front B C more), all_front (IsSettled env) I T last); clauses = trans.0; blocks = trans.1 }, inner_told o.decls t.0 at first);
          seen = parts_seen p t.0;
        })
        (hold_both (hold_chain decl_told o.decls i h.after_decls h.decls) (hold_both (hold_optional (init_holds env room) o.init h.after_decls h.after_init h.init) (hold_chain (trans_holds env room) o.trans h.after_init j h.trans)))

  pub below_told : (room : ℕ) → AllHold PartsTold (PartsBelow room)
  below_told zero p i j h = absurd h
  below_told (suc room) p i j h = parts_of_told room (PartsBelow room) (below_told room) p i j h

-- ---- whole specifications

pub record SpecTold (env : Env) (spec : Spec) : Type 0 where
  pub told : AllByRecursion (BodyTold env) (bodies spec)
  pub seen : AllByRecursion (IsVisited (visits spec)) (bodies spec)

-- the tokens of its parts have the form of tokens
pub parts_formed : (spec : Spec) (tokens : List Placed) (spells : Spells spec tokens) → length tokens ≤ 2 ^ 32 → FormsAt spells.whole.after_heads
parts_formed spec tokens spells few =
    let h = spells.whole in
    let before = less_more (behind name spec.name (input tokens 0) h.after_name h.name) (less_more (maybe sys_attr_less spec.attr h.after_name h.after_attr h.attr) (less_more (less_takes h.semicolon) (chain head_less spec.heads h.after_head h.after_heads h.heads.heads))) in
    before.pass (all_at tokens spells.forms, few)

pub spelled_told : (env : Env) (spec : Spec) (tokens : List Placed) → Spells spec tokens → length tokens ≤ 2 ^ 32 → PlacedPartKept env spec.span.start (sites.parts spec.parts) → SpecTold env spec
unfolding visits
spelled_told env spec tokens spells few kept =
    let h = spells.whole in
    let d = default_of spec.heads in
    let p = (below_told env d (suc max_nesting) spec.parts h.after_heads h.after_parts h.parts).told (parts_formed spec tokens spells few) in
    record {
      told = subst (AllByRecursion (BodyTold env)) (sym (parts_is d spec.parts)) (p.told spec.span.start kept None None);
      seen = subst (AllByRecursion (IsVisited (visiting.parts spec.parts (in_specification spec.attr spec.span)))) (sym (parts_is d spec.parts)) (p.seen None None (in_specification spec.attr spec.span));
    }
