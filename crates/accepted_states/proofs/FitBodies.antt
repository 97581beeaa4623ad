-- All that a specification declares stands at places of its own.
use Rattle.std.proofs.Common.{◌≡◌, ◌∙◌, ℕ, zero, suc, ◌+◌, ◌≤◌, Bool, nat_eq, List, [], ◌∷◌, ◌++◌, map, length, Option, Some, None, refl, ap, sym, subst, arith, append-nil}
use Rattle.std.specs.Prelude.{option_to_list}
use Rattle.std.specs.List.{flat_map}
use Rattle.std.proofs.lemmas.Bool.Decides.{Decides-eqb}
use Rattle.estelle_tree.specs.declared.kind.Kind.TheVariants as k
use Rattle.estelle_tree.specs.declared.token.Placed.{Placed as PlacedToken}
use Rattle.estelle_tree.specs.declared.tree.name.Name.{Name}
use Rattle.estelle_tree.specs.declared.tree.specification.ModvarDecl.{ModvarDecl}
use Rattle.estelle_tree.specs.declared.tree.specification.StatesetDef.{StatesetDef}
use Rattle.estelle_tree.specs.declared.tree.specification.Init.{Init}
use Rattle.estelle_tree.specs.declared.tree.specification.Trans.{Trans}
use Rattle.estelle_tree.specs.declared.tree.specification.Body.{Body, out-Body}
use Rattle.estelle_tree.specs.declared.tree.specification.Parts.{Parts, out-Parts}
use Rattle.estelle_tree.specs.declared.tree.specification.Decl.{Decl, out-Decl}
use Rattle.estelle_tree.specs.declared.tree.specification.Decl.TheOpen.{Decl-F}
use Rattle.estelle_tree.specs.declared.tree.specification.Spec.{Spec}
use Rattle.estelle_tree.specs.Input.{Input, input}
use Rattle.estelle_tree.specs.Spans.{DeclLayer}
use Rattle.estelle_tree.specs.Spelling.{Spelling, Chain, Optional, Behind}
use Rattle.estelle_tree.specs.Types.{IsName}
use Rattle.estelle_tree.specs.Declarations.{IsConstDef, IsTypeDef}
use Rattle.estelle_tree.specs.Lexed.{FollowOneAnother}
use Rattle.estelle_tree.specs.Specification.{IsInit, IsIpDecl, AreModvars, IsStateset, BodyOf, DeclLayerOf, DeclOf, PartsOf, PartsBelow}
use Rattle.estelle_tree.specs.Spells.{Spells, max_nesting}
use Rattle.estelle_model.specs.Denoted.{Declarations, numbered, Section, sections_declare}
use Rattle.estelle_model.specs.Definitions.{const_def, type_def, clause_declares, block_declares}
use Rattle.estelle_model.specs.Bodies.{BodyAlone, bodies, bodies_declare, body_declares, name_declares, default_of, clauses, ways, ip_names, stateset_declares}
use Rattle.meaning_table.specs.Kinds.{numbered_behind, plainly as plainly_kind}
use Rattle.meaning_table.specs.declared.kinds.PlainKind.TheVariants.{State, Module}
use Rattle.meaning_table.specs.declared.kinds.VariableKind.TheVariants.{Own}
use Rattle.body_table.specs.Contributions.{states_at, states_of, names_at, names_of, variables_at, variables_of, modules_at, modules_of, ips_at, ip_names_in, ip_names_of, bodies_at, modvar_names}
use Rattle.body_table.specs.Standings as stand
use Rattle.body_table.specs.Standings.{standing, inner, inner_of, header_variables, own_ip, decls_declare, blocks_declare}
use Rattle.body_table.proofs.BodyEquations.{parts_is, body_is, standing_declares, bodies-append}
use Rattle.body_table.proofs.WayEquations.{nested}
use Rattle.accepted_states.proofs.Lists.{Each, each_append}
use Rattle.accepted_states.proofs.Fine.{among, Less, less_same, less_more, less_takes, less_name, name_less}
use Rattle.accepted_states.proofs.Declared.{IsFixed, AreApart, weight, weight-append}
use Rattle.accepted_states.proofs.Fit as fit
use Rattle.accepted_states.proofs.Fit.{starts, names_weight, names_weight-append, sections_weight, sections_weight-append, numbered_weight, numbered_fixed, sections_weigh, sections_fixed, One, Covered, Frame, Plainly, plainly, names_covered}
use Rattle.accepted_states.proofs.FitTypes.{Placed, placed_nil, placed_less, plainly_one, placed_of, const_def_placed, type_def_placed, VarsFit, vars_frame, vars_fit}
use Rattle.accepted_states.proofs.FitSpecification.{Named, named_frame, named_one, covered_end, routine_placed, channel_placed, header_placed, ip_covered, ips_frame, stateset_placed, block_placed, all_trans_placed}
use Rattle.accepted_states.proofs.Leads.{parts_less, once}

-- ---- declarations of a body

-- what they declare: states, names, variables, module variables and interaction points, and in bodies
record DeclFit (i j : Input) (ss : List Name) (ds : Declarations) (vs : List Section) (ms ps : List Name) (bs : List BodyAlone) : Type 0 where
  pub fixed : Each IsFixed ds
  pub inside : (n : ℕ) → Each IsFixed (bodies_declare n bs)
  pub few : (n : ℕ) (t : ℕ → Bool) → (((((names_weight t ss + weight t ds) + sections_weight t vs) + names_weight t ms) + names_weight t ps) + weight t (bodies_declare n bs)) + among (starts t) j ≤ among (starts t) i

fit_append : {i m j : Input} {ss ss2 : List Name} {ds ds2 : Declarations} {vs vs2 : List Section} {ms ms2 ps ps2 : List Name} {bs bs2 : List BodyAlone}
    → DeclFit i m ss ds vs ms ps bs → DeclFit m j ss2 ds2 vs2 ms2 ps2 bs2 → DeclFit i j (ss ++ ss2) (ds ++ ds2) (vs ++ vs2) (ms ++ ms2) (ps ++ ps2) (bs ++ bs2)
fit_append {i} {m} {j} {ss} {ss2} {ds} {ds2} {vs} {vs2} {ms} {ms2} {ps} {ps2} {bs} {bs2} h g = record {
  fixed = each_append IsFixed ds ds2 h.fixed g.fixed;
  inside = λ n. subst (Each IsFixed) (sym (bodies-append n bs bs2)) (each_append IsFixed (bodies_declare n bs) (bodies_declare (n + length bs) bs2) (h.inside n) (g.inside (n + length bs)));
  few = λ n t.
      let a1 = names_weight-append t ss ss2 in
      let a2 = weight-append t ds ds2 in
      let a3 = sections_weight-append t vs vs2 in
      let a4 = names_weight-append t ms ms2 in
      let a5 = names_weight-append t ps ps2 in
      let a6 = ap (weight t) (bodies-append n bs bs2) ∙ weight-append t (bodies_declare n bs) (bodies_declare (n + length bs) bs2) in
      let b = h.few n t in
      let c = g.few (n + length bs) t in
      omega (arith, a1, a2, a3, a4, a5, a6, b, c);
}

only_names : {i j : Input} {ds : Declarations} → Placed i j ds → DeclFit i j [] ds [] [] [] []
only_names h = record { fixed = h.fixed; inside = λ n. tt; few = λ n t. let a = h.few t in omega (arith, a) }

abbrev Modvars : Input → Input → List ModvarDecl → Type 0
Modvars = Named modvar_names

modvar_covered : One Modvars AreModvars
modvar_covered m i j h = named_one modvar_names m i j (covered_end i h.mid j m.names.names (names_covered m.names i h.mid h.first) (less_more (less_takes h.mark) (name_less h.second)))

-- the parts of a body with a name, or of the specification
record PartsFit (by_default : Bool) (p : Parts) (i j : Input) : Type 0 where
  pub fixed : (name header : Option Name) (n : ℕ) → Each IsFixed (bodies_declare n (standing by_default name header p ∷ inner_of by_default p))
  pub few : (name header : Option Name) (n : ℕ) (t : ℕ → Bool) → weight t (bodies_declare n (standing by_default name header p ∷ inner_of by_default p)) + among (starts t) j ≤ names_weight t (option_to_list name) + among (starts t) i

name_fixed : (n : ℕ) (o : Option Name) → Each IsFixed (name_declares n o)
name_fixed n None = tt
name_fixed n (Some x) = (λ known. refl, tt)

name_weight : (n : ℕ) (o : Option Name) (t : ℕ → Bool) → weight t (name_declares n o) ≡ names_weight t (option_to_list o)
name_weight n None t = refl
name_weight n (Some x) t = omega arith

init_placed : (room : ℕ) (o : Option Init) (i j : Input) → Optional (IsInit room) o i j → Placed i j (flat_map (λ x. block_declares [] x.block) (option_to_list o))
init_placed room None i j h = placed_nil (less_same h)
init_placed room (Some x) i j h = placed_of (λ (x : Init). block_declares [] x.block) (plainly_one (λ (x : Init). block_declares [] x.block) x i j (placed_less (less_more (less_takes h.word) (to_less x.to h.at h.mid h.to)) (block_placed room [] x.block h.mid j h.block)))
  where
    to_less : (o : Option Name) (i j : Input) → Optional (Behind k.To IsName) o i j → Less i j
    to_less None i j h = less_same h
    to_less (Some x) i j h = less_more (less_takes h.mark) (name_less h.item)

module _ (by_default : Bool) (room : ℕ) (P : Spelling Parts) (all : (p : Parts) (i j : Input) → P p i j → PartsFit by_default p i j) where
  body_fit : (b : Body) (i j : Input) → BodyOf room P b i j → DeclFit i j [] [] [] [] [] (flat_map (stand.body by_default) (b ∷ []))
  body_fit b i j h =
      let o = out-Body b in
      let p = all o.parts h.after_head h.after_parts h.parts in
      subst (DeclFit i j [] [] [] [] []) (sym (append-nil (stand.body by_default b) ∙ body_is by_default b)) (record {
        fixed = tt;
        inside = λ n. p.fixed (Some o.name) (Some o.header) n;
        few = λ n t.
            let a = p.few (Some o.name) (Some o.header) n t in
            let b1 = less_name h.names.first (starts t) in
            let b2 = (less_takes h.word).most (starts t) in
            let b3 = (less_more (less_takes h.names.mark) (less_more (name_less h.names.second) (less_takes h.semicolon))).most (starts t) in
            let b4 = (less_more (less_takes h.ends) (less_takes h.last)).most (starts t) in
            omega (arith, a, b1, b2, b3, b4);
      })

  layer_fit : (l : DeclLayer) (i j : Input) → DeclLayerOf room P l i j → DeclFit i j (states_at l) (names_at by_default l) (variables_at l) (modules_at l) (flat_map ip_names_in (ips_at l)) (flat_map (stand.body by_default) (bodies_at l))
  layer_fit (Decl-F.Const defs span) i j h = only_names (placed_less (less_takes h.0.mark) (placed_of const_def (fit.lines (Plainly const_def) (plainly const_def) IsConstDef (λ x i j h. plainly_one const_def x i j (const_def_placed x i j h)) defs h.0.at j h.0.item)))
  layer_fit (Decl-F.Types defs span) i j h = only_names (placed_less (less_takes h.0.mark) (placed_of type_def (fit.lines (Plainly type_def) (plainly type_def) (IsTypeDef room) (λ x i j h. plainly_one type_def x i j (type_def_placed room x i j h)) defs h.0.at j h.0.item)))
  layer_fit (Decl-F.Channel c) i j h = only_names (channel_placed c i j h)
  layer_fit (Decl-F.Header x) i j h = only_names (header_placed room by_default x i j h)
  layer_fit (Decl-F.Body b) i j h = body_fit b i j h
  layer_fit (Decl-F.Ip ips span) i j h = record {
    fixed = tt;
    inside = λ n. tt;
    few = λ n t.
        let a = fit.lines (Covered (λ t xs. names_weight t (ip_names xs))) ips_frame IsIpDecl ip_covered ips h.0.at j h.0.item t in
        let l = (less_takes h.0.mark).most (starts t) in
        omega (arith, a, l);
  }
  layer_fit (Decl-F.Modvar ms span) i j h = record {
    fixed = tt;
    inside = λ n. tt;
    few = λ n t.
        let a = fit.lines Modvars (named_frame modvar_names) AreModvars modvar_covered ms h.0.at j h.0.item t in
        let l = (less_takes h.0.mark).most (starts t) in
        omega (arith, a, l);
  }
  layer_fit (Decl-F.Var vars span) i j h =
      let v = fit.lines VarsFit vars_frame _ (vars_fit room) vars h.0.at j h.0.item in
      record {
        fixed = v.fixed;
        inside = λ n. tt;
        few = λ n t. let a = v.few t in let l = (less_takes h.0.mark).most (starts t) in omega (arith, a, l);
      }
  layer_fit (Decl-F.State states span) i j h = record {
    fixed = tt;
    inside = λ n. tt;
    few = λ n t.
        let a = names_covered states h.0.at h.0.mid h.0.inside t in
        let l = (less_takes h.0.opens).most (starts t) in
        let m = (less_takes h.0.closes).most (starts t) in
        omega (arith, a, l, m);
  }
  layer_fit (Decl-F.Stateset sets span) i j h =
      let f : StatesetDef → Declarations = λ s. stateset_declares s ∷ [] in
      only_names (subst (Placed i j) (alone sets) (placed_less (less_takes h.0.mark) (placed_of (λ (s : StatesetDef). stateset_declares s ∷ []) (fit.lines (Plainly (λ (s : StatesetDef). stateset_declares s ∷ [])) (plainly (λ (s : StatesetDef). stateset_declares s ∷ [])) IsStateset (λ x i j h. plainly_one (λ (s : StatesetDef). stateset_declares s ∷ []) x i j (stateset_placed x i j h)) sets h.0.at j h.0.item))))
    where
      alone : (xs : List StatesetDef) → flat_map (λ (s : StatesetDef). stateset_declares s ∷ []) xs ≡ map stateset_declares xs
      alone [] = refl
      alone (x ∷ xs) = ap (λ ds. stateset_declares x ∷ ds) (alone xs)
  layer_fit (Decl-F.Routine r) i j h = only_names (routine_placed room r i j h)

  decls_fit : (xs : List Decl) (i j : Input) → Chain (DeclOf room P) xs i j → DeclFit i j (flat_map states_of xs) (flat_map (names_of by_default) xs) (flat_map variables_of xs) (flat_map modules_of xs) (flat_map ip_names_of xs) (inner by_default xs)
  decls_fit [] i j h = only_names (placed_nil (less_same h))
  decls_fit (x ∷ xs) i j h = fit_append (layer_fit (out-Decl x) i h.0 h.1) (decls_fit xs h.0 j h.2)

  parts_of_fit : (p : Parts) (i j : Input) → PartsOf room P p i j → PartsFit by_default p i j
  parts_of_fit p i j h =
      let o = out-Parts p in
      let e = decls_fit o.decls i h.after_decls h.decls in
      let n = init_placed room o.init h.after_decls h.after_init h.init in
      let w = all_trans_placed room o.trans h.after_init j h.trans in
      let S = numbered (plainly_kind State) 0 (flat_map states_of o.decls) in
      let N = flat_map (names_of by_default) o.decls in
      let M = numbered (plainly_kind Module) 0 (flat_map modules_of o.decls) in
      let I = flat_map (λ i. block_declares [] i.block) (option_to_list o.init) in
      let C = flat_map (λ t. flat_map clause_declares (clauses t.body)) o.trans in
      let W = flat_map (λ t. flat_map (λ w. block_declares w.clauses w.block) (ways t.body)) o.trans in
      let same_c = nested clause_declares (λ (t : Trans). clauses t.body) o.trans in
      let same_w = nested (λ w. block_declares w.clauses w.block) (λ (t : Trans). ways t.body) o.trans in
      let blocks : Each IsFixed (I ++ C ++ W) = each_append IsFixed (I ++ C) W (each_append IsFixed I C n.fixed (subst (Each IsFixed) same_c w.clauses_fixed)) (subst (Each IsFixed) same_w w.ways_fixed) in
      record {
        fixed = λ name header m.
            let V = sections_declare (numbered_behind Own (header_variables header)) 0 (flat_map variables_of o.decls) in
            let Q = numbered (own_ip header) 0 (flat_map ip_names_of o.decls) in
            let decls : Each IsFixed (S ++ N ++ V ++ M ++ Q) =
            each_append IsFixed (S ++ N ++ V ++ M) Q
            (each_append IsFixed (S ++ N ++ V) M
            (each_append IsFixed (S ++ N) V
            (each_append IsFixed S N (numbered_fixed (plainly_kind State) 0 (flat_map states_of o.decls)) e.fixed)
            (sections_fixed (numbered_behind Own (header_variables header)) 0 (flat_map variables_of o.decls)))
            (numbered_fixed (plainly_kind Module) 0 (flat_map modules_of o.decls)))
            (numbered_fixed (own_ip header) 0 (flat_map ip_names_of o.decls)) in
            each_append IsFixed (body_declares m (standing by_default name header p)) (bodies_declare (suc m) (inner_of by_default p))
            (subst (Each IsFixed) (sym (standing_declares by_default m name header p))
            (each_append IsFixed ((S ++ N ++ V ++ M ++ Q) ++ (I ++ C ++ W)) (name_declares m name) (each_append IsFixed (S ++ N ++ V ++ M ++ Q) (I ++ C ++ W) decls blocks) (name_fixed m name)))
            (e.inside (suc m));
        few = λ name header m t.
            let mean = numbered_behind Own (header_variables header) in
            let V = sections_declare mean 0 (flat_map variables_of o.decls) in
            let Q = numbered (own_ip header) 0 (flat_map ip_names_of o.decls) in
            let a0 = weight-append t (body_declares m (standing by_default name header p)) (bodies_declare (suc m) (inner_of by_default p)) in
            let a1 = ap (weight t) (standing_declares by_default m name header p) in
            let a2 = weight-append t ((S ++ N ++ V ++ M ++ Q) ++ (I ++ C ++ W)) (name_declares m name) in
            let a3 = weight-append t (S ++ N ++ V ++ M ++ Q) (I ++ C ++ W) in
            let a4 = weight-append t (S ++ N ++ V ++ M) Q in
            let a5 = weight-append t (S ++ N ++ V) M in
            let a6 = weight-append t (S ++ N) V in
            let a7 = weight-append t S N in
            let a8 = weight-append t (I ++ C) W in
            let a9 = weight-append t I C in
            let b1 = numbered_weight t (plainly_kind State) 0 (flat_map states_of o.decls) in
            let b2 = sections_weigh t mean 0 (flat_map variables_of o.decls) in
            let b3 = numbered_weight t (plainly_kind Module) 0 (flat_map modules_of o.decls) in
            let b4 = numbered_weight t (own_ip header) 0 (flat_map ip_names_of o.decls) in
            let b5 = name_weight m name t in
            let b6 = ap (weight t) same_c in
            let b7 = ap (weight t) same_w in
            let c1 = e.few (suc m) t in
            let c2 = n.few t in
            let c3 = w.few t in
            omega (arith, a0, a1, a2, a3, a4, a5, a6, a7, a8, a9, b1, b2, b3, b4, b5, b6, b7, c1, c2, c3);
      }

below_fit : (by_default : Bool) (room : ℕ) (p : Parts) (i j : Input) → PartsBelow room p i j → PartsFit by_default p i j
below_fit by_default zero p i j h = absurd h
below_fit by_default (suc room) p i j h = parts_of_fit by_default room (PartsBelow room) (below_fit by_default room) p i j h

-- whatever names mean, at each place at most one thing is declared
pub declared_apart : (spec : Spec) (tokens : List PlacedToken) (rest : ℕ) → Spells spec tokens → FollowOneAnother 0 tokens rest → AreApart (bodies_declare 0 (bodies spec))
declared_apart spec tokens rest spells follow =
    let h = spells.whole in
    let by_default = default_of spec.heads in
    let p = below_fit by_default (suc max_nesting) spec.parts h.after_heads h.after_parts h.parts in
    subst (λ bs. AreApart (bodies_declare 0 bs)) (sym (parts_is by_default spec.parts)) (record {
      fixed = p.fixed None None 0;
      once = λ q.
          let a = p.few None None 0 (nat_eq q) in
          let b = (parts_less spec (input tokens 0) (input [] spells.end) h).most (starts (nat_eq q)) in
          let c = once (nat_eq q) (λ n m e g. sym ((Decides-eqb q n).0 e) ∙ (Decides-eqb q m).0 g) 0 tokens rest follow in
          omega (arith, a, b, c);
    })
