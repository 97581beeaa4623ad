-- One equation of the visits for each type of node in bodies.
use Rattle.std.proofs.Common.{◌≡◌, ◌++◌, ◌∷◌, [], List, ap, sym, ◌∙◌, map}
use Rattle.std.specs.Prelude.{Result, Ok, Err, OnOk}
use Rattle.std.specs.List.{flat_map}
use Rattle.estelle_tree.specs.declared.tree.specification.Decl.{Decl, out-Decl, map-Decl, fold_out-Decl}
use Rattle.estelle_tree.specs.declared.tree.specification.Decl.TheFolds.{fold_out-Body, fold_out-Parts}
use Rattle.estelle_tree.specs.declared.tree.specification.Body.{Body, out-Body}
use Rattle.estelle_tree.specs.declared.tree.specification.Parts.{Parts, out-Parts}
use Rattle.tree_visits.specs.Visit.{Begins, BodyDeclared, Around, Visit}
use Rattle.tree_visits.specs.Visits.{Visits, visit_of, Declaring, decl_layer, body_layer, parts_layer, decl, body, parts, standing, in_body, init_nodes, trans, routines_in}
use Rattle.tree_visits.specs.Taking.{after_visits}
use Rattle.estelle_tree.specs.declared.tree.specification.Trans.{Trans}
use Rattle.tree_visits.proofs.Taken.{chain_map, after-append, after-standing, after-standing-nil}

pub decl_is : (x : Decl) → decl x ≡ decl_layer (map-Decl Decl Body Parts Declaring (Around → Visits) (Around → Visits) decl body parts (out-Decl x))
unfolding decl body parts
decl_is x = fold_out-Decl Declaring (Around → Visits) (Around → Visits) decl_layer body_layer parts_layer x

pub body_is : (x : Body) (a : Around) → body x a ≡ standing a (BodyDeclared (out-Body x).name (out-Body x).header (out-Body x).span ∷ []) ++ parts (out-Body x).parts (in_body (out-Body x).header (out-Body x).span)
unfolding decl body parts
body_is x a = ap (λ f. f a) (fold_out-Body Declaring (Around → Visits) (Around → Visits) decl_layer body_layer parts_layer x)

parts_out : (x : Parts) (a : Around) → parts x a ≡ standing a (Begins (flat_map (λ (d : Declaring). d.routines) (map decl (out-Parts x).decls)) (out-Parts x).trans ∷ []) ++ (flat_map (λ (d : Declaring). d.visits a) (map decl (out-Parts x).decls) ++ (standing a (init_nodes (out-Parts x).init) ++ flat_map (trans a) (out-Parts x).trans))
unfolding decl body parts
parts_out x a = ap (λ f. f a) (fold_out-Parts Declaring (Around → Visits) (Around → Visits) decl_layer body_layer parts_layer x)

pub parts_is : (x : Parts) (a : Around) → parts x a ≡ standing a (Begins (routines_in (out-Parts x).decls) (out-Parts x).trans ∷ []) ++ (flat_map (λ d. (decl d).visits a) (out-Parts x).decls ++ (standing a (init_nodes (out-Parts x).init) ++ flat_map (trans a) (out-Parts x).trans))
parts_is x a =
    let more = standing a (init_nodes (out-Parts x).init) ++ flat_map (trans a) (out-Parts x).trans in
    parts_out x a
    ∙ ap (λ rs. standing a (Begins rs (out-Parts x).trans ∷ []) ++ (flat_map (λ (d : Declaring). d.visits a) (map decl (out-Parts x).decls) ++ more)) (chain_map (λ (d : Declaring). d.routines) decl (out-Parts x).decls)
    ∙ ap (λ vs. standing a (Begins (routines_in (out-Parts x).decls) (out-Parts x).trans ∷ []) ++ (vs ++ more)) (chain_map (λ (d : Declaring). d.visits a) decl (out-Parts x).decls)

pub ruleset bodies = (decl_is, body_is, parts_is)

after_parts : {S : Type 0} (step : S → Visit → S) (x : Parts) (a : Around) (s : S) → after_visits step s (parts x a) ≡ after_visits step (after_visits step (after_visits step (step s (visit_of a (Begins (routines_in (out-Parts x).decls) (out-Parts x).trans))) (flat_map (λ d. (decl d).visits a) (out-Parts x).decls)) (standing a (init_nodes (out-Parts x).init))) (flat_map (trans a) (out-Parts x).trans)
after_parts step x a s =
    let n = Begins (routines_in (out-Parts x).decls) (out-Parts x).trans in
    let b = standing a (n ∷ []) in
    let d = flat_map (λ d. (decl d).visits a) (out-Parts x).decls in
    let i = standing a (init_nodes (out-Parts x).init) in
    let t = flat_map (trans a) (out-Parts x).trans in
    let one = after-standing step a s n [] ∙ after-standing-nil step a (step s (visit_of a n)) in
    ap (after_visits step s) (parts_is x a)
    ∙ after-append step s b (d ++ (i ++ t))
    ∙ after-append step (after_visits step s b) d (i ++ t)
    ∙ after-append step (after_visits step (after_visits step s b) d) i t
    ∙ ap (λ z. after_visits step (after_visits step (after_visits step z d) i) t) one

-- what a visitor comes to by the parts of a specification or body, one after another
pub parts_taken : {S : Type 0} (step : S → Visit → S) (x : Parts) (a : Around) (s s1 s2 s3 s4 : S) (ds : List Decl) (ts : List Trans) → ds ≡ (out-Parts x).decls → ts ≡ (out-Parts x).trans → s1 ≡ step s (visit_of a (Begins (routines_in ds) ts)) → s2 ≡ after_visits step s1 (flat_map (λ d. (decl d).visits a) ds)
    → s3 ≡ after_visits step s2 (standing a (init_nodes (out-Parts x).init)) → s4 ≡ after_visits step s3 (flat_map (trans a) ts) → s4 ≡ after_visits step s (parts x a)
parts_taken step x a s s1 s2 s3 s4 ds ts de te h1 h2 h3 h4 =
    let d = flat_map (λ d. (decl d).visits a) (out-Parts x).decls in
    let i = standing a (init_nodes (out-Parts x).init) in
    let t = flat_map (trans a) (out-Parts x).trans in
    let f1 = h1 ∙ ap (λ zs. step s (visit_of a (Begins (routines_in zs) ts))) de ∙ ap (λ zs. step s (visit_of a (Begins (routines_in (out-Parts x).decls) zs))) te in
    let f2 = h2 ∙ ap (λ zs. after_visits step s1 (flat_map (λ d. (decl d).visits a) zs)) de ∙ ap (λ z. after_visits step z d) f1 in
    let f3 = h3 ∙ ap (λ z. after_visits step z i) f2 in
    h4 ∙ ap (λ zs. after_visits step s3 (flat_map (trans a) zs)) te ∙ ap (λ z. after_visits step z t) f3 ∙ sym (after_parts step x a s)

pub on_ok : {T E : Type 0} {P Q : Type 0} (r : Result T E) → (P → Q) → OnOk r P → OnOk r Q
on_ok (Ok v) f p = f p
on_ok (Err e) f p = tt
