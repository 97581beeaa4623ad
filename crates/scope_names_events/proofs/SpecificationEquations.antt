-- One equation of the events for each type of node in bodies.
use Rattle.std.proofs.Common.{◌≡◌, ◌++◌, ◌∷◌, [], ap, ◌∙◌, sym, refl, map}
use Rattle.std.specs.List.{flat_map}
use Rattle.estelle_tree.specs.declared.tree.specification.Decl.{Decl, out-Decl, map-Decl, fold_out-Decl}
use Rattle.estelle_tree.specs.declared.tree.specification.Decl.TheFolds.{fold_out-Body, fold_out-Parts}
use Rattle.estelle_tree.specs.declared.tree.specification.Body.{Body, out-Body}
use Rattle.estelle_tree.specs.declared.tree.specification.Parts.{Parts, out-Parts}
use Rattle.std.specs.Char.{to_ascii_lowercase}
use Rattle.estelle_tree.specs.declared.required.TheConstants.{IDENTIFIERS}
use Rattle.estelle_tree.specs.declared.tree.specification.Spec.{Spec}
use Rattle.scope_rules.specs.declared.event.ScopeForm.TheVariants as scope
use Rattle.scope_rules.specs.declared.event.Event.TheVariants.{Open, Close}
use Rattle.scope_names_events.specs.Writing.{write, put}
use Rattle.scope_rules.specs.TypeEvents.{Events}
use Rattle.scope_rules.specs.ExpressionEvents.{optional}
use Rattle.scope_rules.specs.ClauseEvents.{any_of, body_states}
use Rattle.scope_rules.specs.SpecificationEvents.{Declaring, Saying, has_to, init, trans, body_head, decl_layer, body_layer, parts_layer, decl, body, parts, required_event, required_events, states_of, events}
use Rattle.scope_names_events.proofs.WritingLemmas.{chain_map, write-nil, write-cons, write-append, write-all}
use Rattle.scope_names_events.proofs.ClauseEquations.{any_map}

pub decl_is : (x : Decl) → decl x ≡ decl_layer (map-Decl Decl Body Parts Declaring Events Saying decl body parts (out-Decl x))
unfolding decl body parts
decl_is x = fold_out-Decl Declaring Events Saying decl_layer body_layer parts_layer x

pub body_is : (x : Body) → body x ≡ body_head (out-Body x).name (out-Body x).header (out-Body x).span (parts (out-Body x).parts) ++ ((parts (out-Body x).parts).events ++ Close ∷ [])
unfolding decl body parts
body_is x = fold_out-Body Declaring Events Saying decl_layer body_layer parts_layer x

parts_out : (x : Parts) → parts x ≡ record {
  declared = any_of (λ (d : Declaring). d.states) (map decl (out-Parts x).decls);
  initial = has_to (out-Parts x).init;
  transitions = any_of (λ t. body_states t.body) (out-Parts x).trans;
  events = flat_map (λ (d : Declaring). d.routine) (map decl (out-Parts x).decls) ++ (flat_map (λ (d : Declaring). d.events) (map decl (out-Parts x).decls) ++ (optional init (out-Parts x).init ++ flat_map trans (out-Parts x).trans));
}
unfolding decl body parts
parts_out x = fold_out-Parts Declaring Events Saying decl_layer body_layer parts_layer x

pub declared_is : (x : Parts) → (parts x).declared ≡ any_of (λ (d : Decl). (decl d).states) (out-Parts x).decls
declared_is x = ap (λ (p : Saying). p.declared) (parts_out x) ∙ any_map (λ (d : Declaring). d.states) decl (out-Parts x).decls

pub initial_is : (x : Parts) → (parts x).initial ≡ has_to (out-Parts x).init
initial_is x = ap (λ (p : Saying). p.initial) (parts_out x)

pub transitions_is : (x : Parts) → (parts x).transitions ≡ any_of (λ t. body_states t.body) (out-Parts x).trans
transitions_is x = ap (λ (p : Saying). p.transitions) (parts_out x)

pub parts_is : (x : Parts) → (parts x).events ≡ flat_map (λ (d : Decl). (decl d).routine) (out-Parts x).decls ++ (flat_map (λ (d : Decl). (decl d).events) (out-Parts x).decls ++ (optional init (out-Parts x).init ++ flat_map trans (out-Parts x).trans))
parts_is x =
    let more = optional init (out-Parts x).init ++ flat_map trans (out-Parts x).trans in
    ap (λ (p : Saying). p.events) (parts_out x)
    ∙ ap (λ es. es ++ (flat_map (λ (d : Declaring). d.events) (map decl (out-Parts x).decls) ++ more)) (chain_map (λ (d : Declaring). d.routine) decl (out-Parts x).decls)
    ∙ ap (λ es. flat_map (λ (d : Decl). (decl d).routine) (out-Parts x).decls ++ (es ++ more)) (chain_map (λ (d : Declaring). d.events) decl (out-Parts x).decls)

-- what is written of a body
pub body_written : (b : Body) (out o1 o2 o3 : Events) → o1 ≡ write out (body_head (out-Body b).name (out-Body b).header (out-Body b).span (parts (out-Body b).parts)) → o2 ≡ write o1 (parts (out-Body b).parts).events → o3 ≡ put o2 Close → o3 ≡ write out (body b)
body_written b out o1 o2 o3 e1 e2 e3 =
    let h = body_head (out-Body b).name (out-Body b).header (out-Body b).span (parts (out-Body b).parts) in
    let p = (parts (out-Body b).parts).events in
    e3 ∙ ap (λ o. put o Close) (e2 ∙ ap (λ o. write o p) e1) ∙ sym (write-nil (put (write (write out h) p) Close) ∙ refl) ∙ sym (write-append out h (p ++ Close ∷ []) ∙ write-append (write out h) p (Close ∷ []) ∙ write-cons (write (write out h) p) Close []) ∙ ap (write out) (sym (body_is b))

-- the words of the table are in lower case
pub required_is : map (λ e. required_event (map to_ascii_lowercase e.0.now) e.1) IDENTIFIERS ≡ required_events
required_is = refl

-- the events of a specification, one after another
pub events_is : (s : Spec) → events s ≡ put (put (write (put (write (write (put [] (Open scope.Inner)) required_events) (states_of s.span (parts s.parts))) (Open scope.Body)) (parts s.parts).events) Close) Close
unfolding events
events_is s = sym (write-all [] (events s)) ∙ simp (write-nil, write-cons, write-append)

pub ruleset bodies = (decl_is, body_is, declared_is, initial_is, transitions_is, parts_is)
