-- What routines, channels, headers and blocks declare.
use Rattle.std.proofs.Common.{◌≡◌, ◌∙◌, ℕ, zero, suc, ◌+◌, ◌≤◌, Bool, true, false, List, [], ◌∷◌, ◌++◌, map, filter, length, Option, Some, None, refl, ap, sym, subst, arith, append-nil}
use Rattle.std.specs.Prelude.{not, if◌then◌else◌}
use Rattle.std.specs.List.{flat_map}
use Rattle.estelle_tree.specs.declared.kind.Kind.{Kind}
use Rattle.estelle_tree.specs.declared.kind.Kind.TheVariants as k
use Rattle.estelle_tree.specs.declared.tree.name.Name.{Name}
use Rattle.estelle_tree.specs.declared.tree.declaration.Formal.{Formal}
use Rattle.estelle_tree.specs.declared.tree.declaration.Formals.{Formals}
use Rattle.estelle_tree.specs.declared.tree.declaration.Routine.{Routine}
use Rattle.estelle_tree.specs.declared.tree.clause.AnyDom.{AnyDom}
use Rattle.estelle_tree.specs.declared.tree.clause.Block.{Block}
use Rattle.estelle_tree.specs.declared.tree.clause.Clause.{Clause}
use Rattle.estelle_tree.specs.declared.tree.clause.Clause.TheVariants as clause
use Rattle.estelle_tree.specs.declared.tree.clause.TransBody.{TransBody, out-TransBody, map-TransBody, fold_out-TransBody}
use Rattle.estelle_tree.specs.declared.tree.clause.TransBody.TheOpen.{TransBody-F}
use Rattle.estelle_tree.specs.declared.tree.clause.TransBody.TheFolds.{fold_out-Group}
use Rattle.estelle_tree.specs.declared.tree.clause.Group.{Group, out-Group}
use Rattle.estelle_tree.specs.declared.tree.specification.Channel.{Channel}
use Rattle.estelle_tree.specs.declared.tree.specification.InterGroup.{InterGroup}
use Rattle.estelle_tree.specs.declared.tree.specification.Inter.{Inter}
use Rattle.estelle_tree.specs.declared.tree.specification.Params.{Params}
use Rattle.estelle_tree.specs.declared.tree.specification.ParamGroup.{ParamGroup}
use Rattle.estelle_tree.specs.declared.tree.specification.Header.{Header as HeaderTree}
use Rattle.estelle_tree.specs.declared.tree.specification.IpDecl.{IpDecl}
use Rattle.estelle_tree.specs.declared.tree.specification.StatesetDef.{StatesetDef}
use Rattle.estelle_tree.specs.declared.tree.specification.Trans.{Trans}
use Rattle.estelle_tree.specs.Input.{Input}
use Rattle.estelle_tree.specs.Spans.{TransBodyLayer}
use Rattle.estelle_tree.specs.Spelling.{Spelling, Chain, Optional, Behind}
use Rattle.estelle_tree.specs.Declarations.{IsFormal, AreFormals, IsRoutine}
use Rattle.estelle_tree.specs.Clauses.{IsAnyDom, IsBlock, IsClause, way_of, clause_kinds, MoreGroups, AreGroups, TransBodyLayerOf, TransBodyOf, GroupOf, GroupWithin}
use Rattle.estelle_tree.specs.Specification.{AreParams, MayBeParams, IsInter, AreInters, IsChannel, IsIpDecl, IsStateset, IsHeader, IsTrans}
use Rattle.estelle_model.specs.declared.meaning.Senders.{Senders}
use Rattle.estelle_model.specs.declared.denoter.Denoter.{Denoter}
use Rattle.estelle_model.specs.declared.meaning.Meaning.{Meaning}
use Rattle.estelle_model.specs.Meant.{Meanings}
use Rattle.estelle_model.specs.declared.meaning.Meaning.TheVariants.{Var, Own, Exported, Ip, Local}
use Rattle.estelle_model.specs.Denoted.{Declarations, declare, numbered, ordinal_declares, types_declare, sections_declare, of_named_type, count_names}
use Rattle.estelle_model.specs.Definitions.{definitions, local_variables, local, formals_of, formal_section, value_formals, var_formals, routine_declares, routine_meaning, parameter_sections, senders, inter_declares, group_declares, channel_declares, received, clause_declares, block_declares}
use Rattle.estelle_model.specs.Bodies.{Way, behind as way_behind, ways, clauses, trans_body_layer, group_layer, clauses_layer, ip_names, export_sections, header_declares, stateset_declares}
use Rattle.body_table.specs.Ways.{group_ways, group_clauses}
use Rattle.scope_names_events.proofs.WritingLemmas.{chain_map}
use Rattle.accepted_states.proofs.Lists.{Each, each_append, each_front, each_back, flat-append}
use Rattle.accepted_states.proofs.Fine.{among, Less, less_same, less_more, less_takes, less_names, less_name, name_less, less_flag, less_of}
use Rattle.accepted_states.proofs.FineDeclarations.{clause_fine, part_fine, result_fine, label_less}
use Rattle.accepted_states.proofs.FineSpecification.{queue_less, attr_less}
use Rattle.accepted_states.proofs.Walk.{clauses_out, group_clauses_out}
use Rattle.accepted_states.proofs.Declared.{IsFixed, weight, weight-append}
use Rattle.accepted_states.proofs.Fit as fit
use Rattle.accepted_states.proofs.Fit.{starts, names_weight, names_weight-append, sections_weight, sections_weight-append, numbered_weight, numbered_fixed, sections_weigh, sections_fixed, One, Covered, Fit, Frame, Plainly, plainly, names_covered}
use Rattle.accepted_states.proofs.FitTypes.{Placed, placed_nil, placed_append, placed_exchanged, placed_less, placed_end, placed_name, plainly_one, placed_of, ordinal_placed, VarsFit, vars_frame, vars_fit, defs_fit}

-- ---- names in lists of parts

abbrev pub Named : {A : Type 0} → (A → List Name) → Input → Input → List A → Type 0
Named g = Covered (λ t xs. names_weight t (flat_map g xs))

pub named_frame : {A : Type 0} (g : A → List Name) → Frame (Named g)
named_frame g = record {
  nil = λ i j l t. let b = l.most (starts t) in omega (arith, b);
  append = λ i m j xs ys h f t. let a = ap (names_weight t) (flat-append g xs ys) ∙ names_weight-append t (flat_map g xs) (flat_map g ys) in let b = h t in let c = f t in omega (arith, a, b, c);
  less = λ i m j xs l h t. let a = l.most (starts t) in let b = h t in omega (arith, a, b);
  end = λ i m j xs h l t. let a = l.most (starts t) in let b = h t in omega (arith, a, b);
}

pub named_one : {A : Type 0} (g : A → List Name) (x : A) (i j : Input) → Covered names_weight i j (g x) → Named g i j (x ∷ [])
named_one g x i j h t = let a = ap (names_weight t) (append-nil (g x)) in let b = h t in omega (arith, a, b)

pub covered_end : (i m j : Input) (xs : List Name) → Covered names_weight i m xs → Less m j → Covered names_weight i j xs
covered_end i m j xs h l t = let a = h t in let b = l.most (starts t) in omega (arith, a, b)

-- ---- routines

formal_names : Formal → List Name
formal_names f = f.names.names

formals_split : (t : ℕ → Bool) (fs : List Formal) → sections_weight t (map formal_section (filter (λ f. not f.is_var) fs)) + sections_weight t (map formal_section (filter (λ f. f.is_var) fs)) ≡ names_weight t (flat_map formal_names fs)
unfolding formal_names
formals_split t [] = omega arith
formals_split t (x ∷ xs) =
    let a = formals_split t xs in
    let b = names_weight-append t (formal_names x) (flat_map formal_names xs) in
    let c = by x.is_var (filter (λ f. not f.is_var) xs) (filter (λ f. f.is_var) xs) in
    omega (arith, a, b, c)
  where
    by : (v : Bool) (ps qs : List Formal) → sections_weight t (map formal_section (if not v then x ∷ ps else ps)) + sections_weight t (map formal_section (if v then x ∷ qs else qs))
        ≡ names_weight t x.names.names + (sections_weight t (map formal_section ps) + sections_weight t (map formal_section qs))
    by true ps qs = omega arith
    by false ps qs = omega arith

formal_covered : One (Named formal_names) IsFormal
unfolding formal_names
formal_covered f i j h = named_one formal_names f i j (λ t.
    let a = (less_flag k.Var f.is_var h.is_var).most (starts t) in
    let b = names_covered f.names h.at h.names.mid h.names.first t in
    let c = (less_more (less_takes h.names.mark) (name_less h.names.second)).most (starts t) in
    omega (arith, a, b, c))

formals_covered : (o : Option Formals) (i j : Input) → Optional AreFormals o i j → Named formal_names i j (formals_of o)
formals_covered None i j h t = let a = (less_same h).most (starts t) in omega (arith, a)
formals_covered (Some fs) i j h t =
    let f = h.formals in
    let a = fit.separated (Named formal_names) (named_frame formal_names) IsFormal formal_covered k.Semicolon fs.formals f.at f.mid f.inside t in
    let b = (less_takes f.opens).most (starts t) in
    let c = (less_takes f.closes).most (starts t) in
    let e = ap (λ xs. names_weight t (flat_map formal_names xs)) (append-nil fs.formals) in
    omega (arith, a, b, c, e)

pub routine_placed : (room : ℕ) (r : Routine) (i j : Input) → IsRoutine room r i j → Placed i j (routine_declares r)
routine_placed room r i j h =
    let D = flat_map definitions r.decls in
    let values = value_formals r ++ local_variables r.decls in
    let S = sections_declare local 0 values in
    let V = sections_declare (λ known n t. Var n t) 0 (var_formals r) in
    let N = declare r.name (routine_meaning r) ∷ [] in
    let d = defs_fit room r.decls h.after_head h.after_decls h.decls in
    record {
      fixed = each_append IsFixed (D ++ S ++ V) N (each_append IsFixed (D ++ S) V (each_append IsFixed D S d.fixed (sections_fixed local 0 values)) (sections_fixed (λ known n t. Var n t) 0 (var_formals r))) (λ known. refl, tt);
      few = λ t.
          let a1 = weight-append t (D ++ S ++ V) N in
          let a2 = weight-append t (D ++ S) V in
          let a3 = weight-append t D S in
          let b1 = sections_weigh t local 0 values in
          let b2 = sections_weigh t (λ known n t. Var n t) 0 (var_formals r) in
          let b3 = sections_weight-append t (value_formals r) (local_variables r.decls) in
          let c1 = formals_split t (formals_of r.formals) in
          let c2 = formals_covered r.formals h.after_name h.after_formals h.formals t in
          let e1 = d.few t in
          let e2 = less_name h.name.item (starts t) in
          let e3 = (less_takes h.name.mark).most (starts t) in
          let e4 = (less_of (result_fine room r.form h.after_formals h.after_result h.result)).most (starts t) in
          let e5 = (less_takes h.semicolon).most (starts t) in
          let e6 = (less_of (part_fine room r.body h.after_decls j h.body)).most (starts t) in
          omega (arith, a1, a2, a3, b1, b2, b3, c1, c2, e1, e2, e3, e4, e5, e6);
    }

-- ---- channels

group_names : ParamGroup → List Name
group_names g = g.names.names

groups_weight : (t : ℕ → Bool) (gs : List ParamGroup) → sections_weight t (map (λ g. of_named_type g.names.names g.type_name) gs) ≡ names_weight t (flat_map group_names gs)
unfolding group_names
groups_weight t [] = refl
groups_weight t (g ∷ gs) = let a = groups_weight t gs in let b = names_weight-append t (group_names g) (flat_map group_names gs) in omega (arith, a, b)

group_covered : One (Named group_names) AreParams
unfolding group_names
group_covered g i j h = named_one group_names g i j (covered_end i h.mid j g.names.names (names_covered g.names i h.mid h.first) (less_more (less_takes h.mark) (name_less h.second)))

params_covered : (o : Option Params) (i j : Input) → MayBeParams o i j → (t : ℕ → Bool) → sections_weight t (parameter_sections o) + among (starts t) j ≤ among (starts t) i
params_covered None i j h t = let a = (less_same h).most (starts t) in omega (arith, a)
params_covered (Some ps) i j h t =
    let S = map (λ g. of_named_type g.names.names g.type_name) ps.groups in
    let a = fit.separated (Named group_names) (named_frame group_names) AreParams group_covered k.Semicolon ps.groups h.at h.mid h.inside.groups t in
    let b = groups_weight t ps.groups in
    let c = ap (sections_weight t) (append-nil S) in
    let e = (less_takes h.opens).most (starts t) in
    let f = (less_takes h.closes).most (starts t) in
    omega (arith, a, b, c, e, f)

inter_placed : (channel : ℕ) (by : Senders) (x : Inter) (i j : Input) → IsInter x i j → Placed i j (inter_declares channel by x)
inter_placed channel by x i j h =
    let P = parameter_sections x.params in
    placed_exchanged (placed_name _ h.name) (record { fixed = sections_fixed local 0 P; few = λ t. let a = sections_weigh t local 0 P in let b = params_covered x.params h.mid j h.params t in omega (arith, a, b) })

inters_placed : (c : Channel) (g : InterGroup) (i j : Input) → AreInters g i j → Placed i j (group_declares c g)
inters_placed c g i j h =
    let f = inter_declares c.name.span.start (senders c g) in
    placed_less (less_more (less_names h.first) (less_takes h.mark)) (placed_of f (fit.lines (Plainly f) (plainly f) IsInter (λ x i j h. plainly_one f x i j (inter_placed c.name.span.start (senders c g) x i j h)) g.inters h.at j h.second))

pub channel_placed : (c : Channel) (i j : Input) → IsChannel c i j → Placed i j (channel_declares c)
channel_placed c i j h =
    let f = group_declares c in
    let groups = fit.several (Plainly f) (plainly f) (Behind k.By AreInters) (λ g i j h. plainly_one f g i j (placed_less (less_takes h.mark) (inters_placed c g h.at j h.item))) c.groups h.after_head j h.groups in
    let last : Placed h.after_head j (flat_map f c.groups) = placed_of f groups in
    let one = placed_less (less_takes h.name.mark) (placed_name {x = c.name} _ h.name.item) in
    let first = placed_less (less_takes h.opens) (placed_name {x = c.first_role} _ h.roles.first) in
    let second = placed_less (less_takes h.roles.mark) (placed_end (placed_name {x = c.second_role} _ h.roles.second) (less_more (less_takes h.closes) (less_takes h.semicolon))) in
    placed_append one (placed_append first (placed_append second last))

-- ---- headers

ip_names_of : IpDecl → List Name
ip_names_of p = p.names.names

ip_less : (p : IpDecl) (i j : Input) → (h : IsIpDecl p i j) → Less h.names.mid j
ip_less p i j h = less_more (less_takes h.names.mark) (less_more (name_less h.names.second) (less_more (less_takes h.role.opens) (less_more (name_less h.role.inside) (less_more (less_takes h.role.closes) (queue_less p.disc h.after_role j h.disc)))))

pub ip_covered : One (Covered (λ t xs. names_weight t (ip_names xs))) IsIpDecl
ip_covered p i j h = named_one (λ d. d.names.names) p i j (covered_end i h.names.mid j p.names.names (names_covered p.names i h.names.mid h.names.first) (ip_less p i j h))

pub ips_frame : Frame (Covered (λ t xs. names_weight t (ip_names xs)))
ips_frame = named_frame (λ d. d.names.names)

pub header_placed : (room : ℕ) (by_default : Bool) (x : HeaderTree) (i j : Input) → IsHeader room x i j → Placed i j (header_declares by_default x)
header_placed room by_default x i j h =
    let E = export_sections x in
    let P = parameter_sections x.params in
    let T = types_declare E in
    let A = sections_declare (λ known n t. Own n t) 0 P in
    let B = sections_declare (λ known n t. Exported n t) (count_names P) E in
    let C = numbered (λ n known. Ip n) 0 (ip_names x.ips) in
    let v = fit.may_be_lines VarsFit vars_frame _ (vars_fit room) k.Export x.exports h.after_ips h.after_exports h.exports in
    let body : Placed h.after_name j (T ++ A ++ B ++ C) = record {
      fixed = each_append IsFixed (T ++ A ++ B) C (each_append IsFixed (T ++ A) B (each_append IsFixed T A v.fixed (sections_fixed (λ known n t. Own n t) 0 P)) (sections_fixed (λ known n t. Exported n t) (count_names P) E)) (numbered_fixed (λ n known. Ip n) 0 (ip_names x.ips));
      few = λ t.
          let a1 = weight-append t (T ++ A ++ B) C in
          let a2 = weight-append t (T ++ A) B in
          let a3 = weight-append t T A in
          let b1 = sections_weigh t (λ known n t. Own n t) 0 P in
          let b2 = sections_weigh t (λ known n t. Exported n t) (count_names P) E in
          let b3 = numbered_weight t (λ n known. Ip n) 0 (ip_names x.ips) in
          let c1 = v.few t in
          let c2 = params_covered x.params h.after_attr h.after_params h.params t in
          let c3 = fit.may_be_lines (Covered (λ t xs. names_weight t (ip_names xs))) ips_frame IsIpDecl ip_covered k.Ip x.ips h.after_head h.after_ips h.ips t in
          let e1 = (attr_less x.attr h.after_name h.after_attr h.attr).most (starts t) in
          let e2 = (less_takes h.semicolon).most (starts t) in
          let e3 = (less_more (less_takes h.ends) (less_takes h.last)).most (starts t) in
          omega (arith, a1, a2, a3, b1, b2, b3, c1, c2, c3, e1, e2, e3);
    } in
    placed_exchanged (placed_less (less_takes h.name.mark) (placed_name _ h.name.item)) body

pub stateset_placed : (s : StatesetDef) (i j : Input) → IsStateset s i j → Placed i j (stateset_declares s ∷ [])
stateset_placed s i j h = placed_end (placed_name _ h.first) (less_more (less_takes h.mark) (less_more (less_takes h.second.opens) (less_more (less_names h.second.inside) (less_takes h.second.closes))))

-- ---- blocks and clauses

module _ (room : ℕ) where
  pub block_placed : (cs : List Clause) (b : Block) (i j : Input) → IsBlock room b i j → Placed i j (block_declares cs b)
  block_placed cs b i j h =
      let D = flat_map definitions b.decls in
      let mean : Meanings → ℕ → Denoter → Meaning = λ known n t. Local (length (received known cs) + n) t in
      let S = sections_declare mean 0 (local_variables b.decls) in
      let d = defs_fit room b.decls h.after_label h.after_decls h.decls in
      record {
        fixed = each_append IsFixed D S d.fixed (sections_fixed mean 0 (local_variables b.decls));
        few = λ t.
            let a = weight-append t D S in
            let b1 = sections_weigh t mean 0 (local_variables b.decls) in
            let c = d.few t in
            let e1 = (label_less room b.label i h.after_label h.label).most (starts t) in
            let e2 = (label_less room b.late_label h.after_decls h.after_late h.late_label).most (starts t) in
            let e3 = (less_of (part_fine room b.body h.after_late j h.body)).most (starts t) in
            omega (arith, a, b1, c, e1, e2, e3);
      }

  abbrev pub way_declares : Way → Declarations
  way_declares w = block_declares w.clauses w.block

  domain_placed : (x : AnyDom) (i j : Input) → IsAnyDom x i j → Placed i j (ordinal_declares x.domain)
  domain_placed x i j h = placed_less (less_more (less_names h.parts.first) (less_takes h.parts.mark)) (ordinal_placed x.domain h.parts.at j h.parts.second)

  clause_placed : (c : Clause) (i j : Input) → IsClause room c i j → Placed i j (clause_declares c)
  clause_placed (clause.Any domains span) i j h =
      let f : AnyDom → Declarations = λ x. ordinal_declares x.domain in
      placed_less (less_takes h.0.opens) (placed_end (placed_of (λ x. ordinal_declares x.domain) (fit.separated (Plainly (λ (x : AnyDom). ordinal_declares x.domain)) (plainly (λ (x : AnyDom). ordinal_declares x.domain)) IsAnyDom (λ x i j h. plainly_one (λ (x : AnyDom). ordinal_declares x.domain) x i j (domain_placed x i j h)) k.Semicolon domains h.0.at h.0.mid h.0.inside)) (less_takes h.0.closes))
  clause_placed (clause.From states span) i j h = placed_nil (less_of (clause_fine room (clause.From states span) i j h))
  clause_placed (clause.To state span) i j h = placed_nil (less_of (clause_fine room (clause.To state span) i j h))
  clause_placed (clause.When ip x params span) i j h = placed_nil (less_of (clause_fine room (clause.When ip x params span) i j h))
  clause_placed (clause.Provided e span) i j h = placed_nil (less_of (clause_fine room (clause.Provided e span) i j h))
  clause_placed (clause.Priority c span) i j h = placed_nil (less_of (clause_fine room (clause.Priority c span) i j h))
  clause_placed (clause.Delay low high span) i j h = placed_nil (less_of (clause_fine room (clause.Delay low high span) i j h))

  -- ---- groups: the clauses, and the blocks at the ends of the ways

  pub record WaysPlaced (i j : Input) (cs : List Clause) (ws : List Way) : Type 0 where
    pub clauses_fixed : Each IsFixed (flat_map clause_declares cs)
    pub ways_fixed : Each IsFixed (flat_map way_declares ws)
    pub few : (t : ℕ → Bool) → (weight t (flat_map clause_declares cs) + weight t (flat_map way_declares ws)) + among (starts t) j ≤ among (starts t) i

  pub ways_append : {i m j : Input} {cs ds : List Clause} {ws vs : List Way} → WaysPlaced i m cs ws → WaysPlaced m j ds vs → WaysPlaced i j (cs ++ ds) (ws ++ vs)
  ways_append {i} {m} {j} {cs} {ds} {ws} {vs} h g =
      let c = flat-append clause_declares cs ds in
      let w = flat-append way_declares ws vs in
      record {
        clauses_fixed = subst (Each IsFixed) (sym c) (each_append IsFixed (flat_map clause_declares cs) (flat_map clause_declares ds) h.clauses_fixed g.clauses_fixed);
        ways_fixed = subst (Each IsFixed) (sym w) (each_append IsFixed (flat_map way_declares ws) (flat_map way_declares vs) h.ways_fixed g.ways_fixed);
        few = λ t.
            let a = ap (weight t) c ∙ weight-append t (flat_map clause_declares cs) (flat_map clause_declares ds) in
            let b = ap (weight t) w ∙ weight-append t (flat_map way_declares ws) (flat_map way_declares vs) in
            let e = h.few t in
            let f = g.few t in
            omega (arith, a, b, e, f);
      }

  pub ways_less : {i m j : Input} {cs : List Clause} {ws : List Way} → Less i m → WaysPlaced m j cs ws → WaysPlaced i j cs ws
  ways_less l h = record { clauses_fixed = h.clauses_fixed; ways_fixed = h.ways_fixed; few = λ t. let a = l.most (starts t) in let b = h.few t in omega (arith, a, b) }

  pub ways_nil : {i j : Input} → Less i j → WaysPlaced i j [] []
  ways_nil l = record { clauses_fixed = tt; ways_fixed = tt; few = λ t. let a = l.most (starts t) in omega (arith, a) }

  -- a block declares at the same places under each clause
  mean_of : List Clause → Meanings → ℕ → Denoter → Meaning
  mean_of cs known n t = Local (length (received known cs) + n) t

  block_weight : (t : ℕ → Bool) (cs : List Clause) (b : Block) → weight t (block_declares cs b) ≡ weight t (flat_map definitions b.decls) + sections_weight t (local_variables b.decls)
  unfolding mean_of
  block_weight t cs b =
      let D = flat_map definitions b.decls in
      let a = weight-append t D (sections_declare (mean_of cs) 0 (local_variables b.decls)) in
      let e = sections_weigh t (mean_of cs) 0 (local_variables b.decls) in
      omega (arith, a, e)

  block_fixed : (cs ds : List Clause) (b : Block) → Each IsFixed (block_declares cs b) → Each IsFixed (block_declares ds b)
  unfolding mean_of
  block_fixed cs ds b h =
      let D = flat_map definitions b.decls in
      each_append IsFixed D (sections_declare (mean_of ds) 0 (local_variables b.decls)) (each_front IsFixed D (sections_declare (mean_of cs) 0 (local_variables b.decls)) h) (sections_fixed (mean_of ds) 0 (local_variables b.decls))

  behind_weight : (t : ℕ → Bool) (c : Clause) (ws : List Way) → weight t (flat_map way_declares (map (way_behind c) ws)) ≡ weight t (flat_map way_declares ws)
  behind_weight t c [] = refl
  behind_weight t c (w ∷ ws) =
      let a1 = weight-append t (way_declares (way_behind c w)) (flat_map way_declares (map (way_behind c) ws)) in
      let a2 = weight-append t (way_declares w) (flat_map way_declares ws) in
      let b1 = block_weight t (c ∷ w.clauses) w.block in
      let b2 = block_weight t w.clauses w.block in
      let e = behind_weight t c ws in
      omega (arith, a1, a2, b1, b2, e)

  behind_fixed : (c : Clause) (ws : List Way) → Each IsFixed (flat_map way_declares ws) → Each IsFixed (flat_map way_declares (map (way_behind c) ws))
  behind_fixed c [] h = tt
  behind_fixed c (w ∷ ws) h =
      each_append IsFixed (way_declares (way_behind c w)) (flat_map way_declares (map (way_behind c) ws))
      (block_fixed w.clauses (c ∷ w.clauses) w.block (each_front IsFixed (way_declares w) (flat_map way_declares ws) h))
      (behind_fixed c ws (each_back IsFixed (way_declares w) (flat_map way_declares ws) h))

  ways_out : (x : TransBody) → ways x ≡ trans_body_layer (map-TransBody TransBody Group (List Way) (List Way) ways group_ways (out-TransBody x))
  unfolding ways group_ways
  ways_out x = fold_out-TransBody (List Way) (List Way) trans_body_layer group_layer x

  group_ways_out : (g : Group) → group_ways g ≡ map (way_behind (out-Group g).clause) (ways (out-Group g).body)
  unfolding ways group_ways
  group_ways_out g = fold_out-Group (List Way) (List Way) trans_body_layer group_layer g

  module _ (G : List Kind → Spelling Group) (one : (way : List Kind) (g : Group) (i j : Input) → G way g i j → WaysPlaced i j (group_clauses g) (group_ways g)) where
    more_placed : (way : List Kind) (before : Group) (gs : List Group) (i j : Input) → MoreGroups room G way before gs i j → WaysPlaced i j (flat_map group_clauses gs) (flat_map group_ways gs)
    more_placed way before [] i j h = ways_nil (less_same h)
    more_placed way before (g ∷ gs) i j h = ways_append (one way g i h.1.0 h.1.1) (more_placed way g gs h.1.0 j h.1.2)

    groups_placed : (way : List Kind) (gs : List Group) (i j : Input) → AreGroups room G way gs i j → WaysPlaced i j (flat_map group_clauses gs) (flat_map group_ways gs)
    groups_placed way [] i j h = absurd h
    groups_placed way (g ∷ gs) i j h = ways_append (one way g i h.0 h.1) (more_placed way g gs h.0 j h.2)

    layer_placed : (way : List Kind) (l : TransBodyLayer) (i j : Input) → TransBodyLayerOf room G way l i j
        → WaysPlaced i j (clauses_layer (map-TransBody TransBody Group (List Clause) (List Clause) clauses group_clauses l)) (trans_body_layer (map-TransBody TransBody Group (List Way) (List Way) ways group_ways l))
    layer_placed way (TransBody-F.Block b) i j h =
        let p = block_placed [] b i j h in
        record {
          clauses_fixed = tt;
          ways_fixed = subst (Each IsFixed) (sym (append-nil (block_declares [] b))) p.fixed;
          few = λ t. let a = ap (weight t) (append-nil (block_declares [] b)) in let e = p.few t in omega (arith, a, e);
        }
    layer_placed way (TransBody-F.Groups gs span) i j h =
        subst (λ cs. WaysPlaced i j cs (flat_map (λ ws. ws) (map group_ways gs))) (sym (chain_map (λ (cs : List Clause). cs) group_clauses gs))
        (subst (WaysPlaced i j (flat_map group_clauses gs)) (sym (chain_map (λ (ws : List Way). ws) group_ways gs)) (groups_placed way gs i j h.0))

    body_placed : (way : List Kind) (x : TransBody) (i j : Input) → TransBodyOf room G way x i j → WaysPlaced i j (clauses x) (ways x)
    body_placed way x i j h =
        subst (λ cs. WaysPlaced i j cs (ways x)) (sym (clauses_out x)) (subst (WaysPlaced i j _) (sym (ways_out x)) (layer_placed way (out-TransBody x) i j h))

    group_of_placed : (way : List Kind) (g : Group) (i j : Input) → GroupOf room G way g i j → WaysPlaced i j (group_clauses g) (group_ways g)
    group_of_placed way g i j h =
        let c = (out-Group g).clause in
        let b = (out-Group g).body in
        let p = clause_placed c i h.mid h.clause in
        let q = body_placed (way_of way g) b h.mid j h.body in
        subst (λ cs. WaysPlaced i j cs (group_ways g)) (sym (group_clauses_out g)) (subst (WaysPlaced i j (c ∷ clauses b)) (sym (group_ways_out g)) (record {
          clauses_fixed = each_append IsFixed (clause_declares c) (flat_map clause_declares (clauses b)) p.fixed q.clauses_fixed;
          ways_fixed = behind_fixed c (ways b) q.ways_fixed;
          few = λ t.
              let a = weight-append t (clause_declares c) (flat_map clause_declares (clauses b)) in
              let e = behind_weight t c (ways b) in
              let f = p.few t in
              let g = q.few t in
              omega (arith, a, e, f, g);
        }))

  group_placed : (n : ℕ) (way : List Kind) (g : Group) (i j : Input) → GroupWithin room n way g i j → WaysPlaced i j (group_clauses g) (group_ways g)
  group_placed zero way g i j h = absurd h
  group_placed (suc n) way g i j h = group_of_placed (GroupWithin room n) (group_placed n) way g i j h

  pub all_trans_placed : (ts : List Trans) (i j : Input) → Chain (IsTrans room) ts i j → WaysPlaced i j (flat_map (λ t. clauses t.body) ts) (flat_map (λ t. ways t.body) ts)
  all_trans_placed [] i j h = ways_nil (less_same h)
  all_trans_placed (t ∷ ts) i j h =
      let n = length clause_kinds in
      ways_append (ways_less (less_takes h.1.body.mark) (body_placed (GroupWithin room n) (group_placed n) [] t.body h.1.body.at h.0 h.1.body.item)) (all_trans_placed ts h.0 j h.2)
