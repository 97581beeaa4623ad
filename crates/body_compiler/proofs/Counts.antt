-- There are as many lists of routines as bodies.
use Rattle.std.proofs.Common.{◌≡◌, ◌∙◌, ℕ, suc, ◌+◌, Bool, List, [], ◌∷◌, ◌++◌, length, length-append, map, refl, ap, sym, subst}
use Rattle.std.specs.List.{flat_map}
use Rattle.estelle_tree.specs.declared.tree.name.Name.{Name}
use Rattle.estelle_tree.specs.declared.tree.declaration.Routine.{Routine}
use Rattle.estelle_tree.specs.declared.tree.specification.Decl.{Decl, roll-Decl, map-Decl, fold-roll-Decl}
use Rattle.estelle_tree.specs.declared.tree.specification.Body.{Body, roll-Body}
use Rattle.estelle_tree.specs.declared.tree.specification.Parts.{Parts, roll-Parts}
use Rattle.estelle_tree.specs.declared.tree.specification.Decl.TheOpen.{Decl-F, Body-F, Parts-F}
use Rattle.estelle_tree.specs.declared.tree.specification.Decl.TheFolds.{map-Body, map-Parts, fold-Decl, fold-Body, fold-roll-Body, fold-roll-Parts, ind-Parts}
use Rattle.estelle_tree.specs.declared.tree.specification.Spec.{Spec}
use Rattle.estelle_model.specs.Bodies as model
use Rattle.estelle_model.specs.Bodies.{Contribution, BodyAlone, headed, standings, default_of, bodies}
use Rattle.body_program_numbers.specs.Outline.{Outline, decl_layer, body_layer, parts_layer, decl, body, parts, routine_lists}

decl_outlined : (l : Decl-F Decl Body Parts) → decl (roll-Decl l) ≡ decl_layer (map-Decl Decl Body Parts Outline Outline Outline decl body parts l)
unfolding decl body parts
decl_outlined l = fold-roll-Decl Outline Outline Outline decl_layer body_layer parts_layer l

body_outlined : (l : Body-F Decl Body Parts) → body (roll-Body l) ≡ parts l.parts
unfolding decl body parts
body_outlined l = fold-roll-Body Outline Outline Outline decl_layer body_layer parts_layer l

parts_outlined : (l : Parts-F Decl Body Parts) → parts (roll-Parts l) ≡ parts_layer (map-Parts Decl Body Parts Outline Outline Outline decl body parts l)
unfolding decl body parts
parts_outlined l = fold-roll-Parts Outline Outline Outline decl_layer body_layer parts_layer l

module _ (d : Bool) where
  abbrev Found : Type 0
  Found = Contribution × List BodyAlone

  abbrev decl_of : Decl → Found
  decl_of = fold-Decl Found (List BodyAlone) (List BodyAlone) (model.decl_layer d) (model.body_layer d) (model.parts_layer d)

  abbrev body_of : Body → List BodyAlone
  body_of = fold-Body Found (List BodyAlone) (List BodyAlone) (model.decl_layer d) (model.body_layer d) (model.parts_layer d)

  abbrev decl_at : Decl-F Decl Body Parts → Found
  decl_at l = model.decl_layer d (map-Decl Decl Body Parts Found (List BodyAlone) (List BodyAlone) decl_of body_of (standings d) l)

  abbrev body_at : Body-F Decl Body Parts → List BodyAlone
  body_at l = model.body_layer d (map-Body Decl Body Parts Found (List BodyAlone) (List BodyAlone) decl_of body_of (standings d) l)

  abbrev parts_at : Parts-F Decl Body Parts → List BodyAlone
  parts_at l = model.parts_layer d (map-Parts Decl Body Parts Found (List BodyAlone) (List BodyAlone) decl_of body_of (standings d) l)

  decl_made : (l : Decl-F Decl Body Parts) → decl_of (roll-Decl l) ≡ decl_at l
  unfolding standings
  decl_made l = fold-roll-Decl Found (List BodyAlone) (List BodyAlone) (model.decl_layer d) (model.body_layer d) (model.parts_layer d) l

  body_made : (l : Body-F Decl Body Parts) → body_of (roll-Body l) ≡ body_at l
  unfolding standings
  body_made l = fold-roll-Body Found (List BodyAlone) (List BodyAlone) (model.decl_layer d) (model.body_layer d) (model.parts_layer d) l

  parts_made : (l : Parts-F Decl Body Parts) → standings d (roll-Parts l) ≡ parts_at l
  unfolding standings
  parts_made l = fold-roll-Parts Found (List BodyAlone) (List BodyAlone) (model.decl_layer d) (model.body_layer d) (model.parts_layer d) l

  -- as many on both sides
  abbrev DeclCounts : Decl → Type 0
  DeclCounts x = length (decl_of x).1 ≡ length (decl x).bodies

  abbrev BodyCounts : Body → Type 0
  BodyCounts x = length (body_of x) ≡ length (body x).bodies

  abbrev PartsCount : Parts → Type 0
  PartsCount x = length (standings d x) ≡ length (parts x).bodies

  abbrev ShownDecl : Type 0
  ShownDecl = (x : Decl) × DeclCounts x

  abbrev ShownBody : Type 0
  ShownBody = (x : Body) × BodyCounts x

  abbrev ShownParts : Type 0
  ShownParts = (x : Parts) × PartsCount x

  abbrev opened_decl : Decl-F ShownDecl ShownBody ShownParts → Decl-F Decl Body Parts
  opened_decl y = map-Decl ShownDecl ShownBody ShownParts Decl Body Parts (λ e. e.0) (λ e. e.0) (λ e. e.0) y

  abbrev opened_body : Body-F ShownDecl ShownBody ShownParts → Body-F Decl Body Parts
  opened_body y = map-Body ShownDecl ShownBody ShownParts Decl Body Parts (λ e. e.0) (λ e. e.0) (λ e. e.0) y

  abbrev opened_parts : Parts-F ShownDecl ShownBody ShownParts → Parts-F Decl Body Parts
  opened_parts y = map-Parts ShownDecl ShownBody ShownParts Decl Body Parts (λ e. e.0) (λ e. e.0) (λ e. e.0) y

  decl_go : (y : Decl-F ShownDecl ShownBody ShownParts) → length (decl_at (opened_decl y)).1 ≡ length (decl_layer (map-Decl Decl Body Parts Outline Outline Outline decl body parts (opened_decl y))).bodies
  decl_go (Decl-F.Body b) = b.1
  decl_go _ = refl

  decl_shown : (x : Decl-F Decl Body Parts) (y : Decl-F ShownDecl ShownBody ShownParts) → opened_decl y ≡ x → DeclCounts (roll-Decl x)
  decl_shown x y is = subst (λ (z : Decl-F Decl Body Parts). DeclCounts (roll-Decl z)) is
      (ap (λ (f : Found). length f.1) (decl_made (opened_decl y)) ∙ decl_go y ∙ sym (ap (λ (o : Outline). length o.bodies) (decl_outlined (opened_decl y))))

  headed_long : (x h : Name) (bs : List BodyAlone) → length (headed d x h bs) ≡ length bs
  headed_long x h [] = refl
  headed_long x h (b ∷ bs) = refl

  body_shown : (x : Body-F Decl Body Parts) (y : Body-F ShownDecl ShownBody ShownParts) → opened_body y ≡ x → BodyCounts (roll-Body x)
  body_shown x y is = subst (λ (z : Body-F Decl Body Parts). BodyCounts (roll-Body z)) is
      (ap (λ (bs : List BodyAlone). length bs) (body_made (opened_body y)) ∙ headed_long y.name y.header (standings d y.parts.0) ∙ y.parts.1 ∙ sym (ap (λ (o : Outline). length o.bodies) (body_outlined (opened_body y))))

  decls_count : (xs : List ShownDecl) → length (flat_map (λ (f : Found). f.1) (map decl_of (map (λ e. e.0) xs))) ≡ length (flat_map (λ (o : Outline). o.bodies) (map decl (map (λ e. e.0) xs)))
  decls_count [] = refl
  decls_count (x ∷ xs) =
      let rest = flat_map (λ (f : Found). f.1) (map decl_of (map (λ e. e.0) xs)) in
      let lists = flat_map (λ (o : Outline). o.bodies) (map decl (map (λ e. e.0) xs)) in
      length-append (decl_of x.0).1 rest ∙ (λ i. x.1 i + decls_count xs i) ∙ sym (length-append (decl x.0).bodies lists)

  parts_shown : (x : Parts-F Decl Body Parts) (y : Parts-F ShownDecl ShownBody ShownParts) → opened_parts y ≡ x → PartsCount (roll-Parts x)
  parts_shown x y is = subst (λ (z : Parts-F Decl Body Parts). PartsCount (roll-Parts z)) is
      (ap (λ (bs : List BodyAlone). length bs) (parts_made (opened_parts y)) ∙ ap suc (decls_count y.decls) ∙ sym (ap (λ (o : Outline). length o.bodies) (parts_outlined (opened_parts y))))

  parts_count : (x : Parts) → PartsCount x
  parts_count = ind-Parts DeclCounts BodyCounts PartsCount decl_shown body_shown parts_shown

pub lists_count : (x : Spec) → length (bodies x) ≡ length (routine_lists x)
lists_count x = parts_count (default_of x.heads) x.parts
