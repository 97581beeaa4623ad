-- What the walk gathers is what stands behind `trans` in the bodies as they stand.
use Rattle.std.proofs.Common.{◌≡◌, ◌∙◌, Bool, List, [], ◌∷◌, ◌++◌, map, refl, ap, sym, subst}
use Rattle.std.specs.List.{flat_map}
use Rattle.std.proofs.lemmas.List.{map-append}
use Rattle.flat_transitions.specs.declared.flat.FlatTrans.{FlatTrans}
use Rattle.estelle_tree.specs.declared.tree.name.Name.{Name}
use Rattle.estelle_tree.specs.declared.tree.specification.Trans.{Trans}
use Rattle.estelle_tree.specs.declared.tree.specification.Decl.{Decl, roll-Decl, map-Decl, fold-roll-Decl}
use Rattle.estelle_tree.specs.declared.tree.specification.Body.{Body, roll-Body}
use Rattle.estelle_tree.specs.declared.tree.specification.Parts.{Parts, roll-Parts}
use Rattle.estelle_tree.specs.declared.tree.specification.Decl.TheOpen.{Decl-F, Body-F, Parts-F}
use Rattle.estelle_tree.specs.declared.tree.specification.Decl.TheFolds.{map-Body, map-Parts, fold-Decl, fold-Body, fold-roll-Body, fold-roll-Parts, ind-Parts}
use Rattle.estelle_tree.specs.declared.tree.specification.Spec.{Spec}
use Rattle.estelle_model.specs.Meant.{Meanings}
use Rattle.estelle_model.specs.Transitions.{Choice}
use Rattle.estelle_model.specs.Bodies.{Contribution, BodyAlone, decl_layer, headed, body_layer, parts_layer, standings, default_of, bodies}
use Rattle.flat_transitions.specs.FlatList.{body_list, listed}
use Rattle.flat_transitions.specs.BodyWalks as walk
use Rattle.flat_transitions.specs.BodyWalks.{trans_list, decl_trans, parts_trans}
use Rattle.flat_transitions.proofs.BodyEquations.{body_trans}

abbrev Gathered : Type 0
Gathered = List (List Trans)

abbrev trans_of : List BodyAlone → Gathered
trans_of = map (λ b. b.trans)

decl_gathered : (l : Decl-F Decl Body Parts) → decl_trans (roll-Decl l) ≡ walk.decl_layer (map-Decl Decl Body Parts Gathered Gathered Gathered decl_trans body_trans parts_trans l)
unfolding decl_trans body_trans parts_trans
decl_gathered l = fold-roll-Decl Gathered Gathered Gathered walk.decl_layer walk.body_layer walk.parts_layer l

body_gathered : (l : Body-F Decl Body Parts) → body_trans (roll-Body l) ≡ parts_trans l.parts
unfolding decl_trans body_trans parts_trans
body_gathered l = fold-roll-Body Gathered Gathered Gathered walk.decl_layer walk.body_layer walk.parts_layer l

parts_gathered : (l : Parts-F Decl Body Parts) → parts_trans (roll-Parts l) ≡ l.trans ∷ flat_map (λ ts. ts) (map decl_trans l.decls)
unfolding decl_trans body_trans parts_trans
parts_gathered l = fold-roll-Parts Gathered Gathered Gathered walk.decl_layer walk.body_layer walk.parts_layer l

module _ (d : Bool) where
  abbrev Found : Type 0
  Found = Contribution × List BodyAlone

  abbrev decl_of : Decl → Found
  decl_of = fold-Decl Found (List BodyAlone) (List BodyAlone) (decl_layer d) (body_layer d) (parts_layer d)

  abbrev body_of : Body → List BodyAlone
  body_of = fold-Body Found (List BodyAlone) (List BodyAlone) (decl_layer d) (body_layer d) (parts_layer d)

  abbrev decl_at : Decl-F Decl Body Parts → Found
  decl_at l = decl_layer d (map-Decl Decl Body Parts Found (List BodyAlone) (List BodyAlone) decl_of body_of (standings d) l)

  abbrev body_at : Body-F Decl Body Parts → List BodyAlone
  body_at l = body_layer d (map-Body Decl Body Parts Found (List BodyAlone) (List BodyAlone) decl_of body_of (standings d) l)

  abbrev parts_at : Parts-F Decl Body Parts → List BodyAlone
  parts_at l = parts_layer d (map-Parts Decl Body Parts Found (List BodyAlone) (List BodyAlone) decl_of body_of (standings d) l)

  decl_made : (l : Decl-F Decl Body Parts) → decl_of (roll-Decl l) ≡ decl_at l
  unfolding standings
  decl_made l = fold-roll-Decl Found (List BodyAlone) (List BodyAlone) (decl_layer d) (body_layer d) (parts_layer d) l

  body_made : (l : Body-F Decl Body Parts) → body_of (roll-Body l) ≡ body_at l
  unfolding standings
  body_made l = fold-roll-Body Found (List BodyAlone) (List BodyAlone) (decl_layer d) (body_layer d) (parts_layer d) l

  parts_made : (l : Parts-F Decl Body Parts) → standings d (roll-Parts l) ≡ parts_at l
  unfolding standings
  parts_made l = fold-roll-Parts Found (List BodyAlone) (List BodyAlone) (decl_layer d) (body_layer d) (parts_layer d) l

  abbrev DeclSame : Decl → Type 0
  DeclSame x = trans_of (decl_of x).1 ≡ decl_trans x

  abbrev BodySame : Body → Type 0
  BodySame x = trans_of (body_of x) ≡ body_trans x

  abbrev PartsSame : Parts → Type 0
  PartsSame x = trans_of (standings d x) ≡ parts_trans x

  abbrev ShownDecl : Type 0
  ShownDecl = (x : Decl) × DeclSame x

  abbrev ShownBody : Type 0
  ShownBody = (x : Body) × BodySame x

  abbrev ShownParts : Type 0
  ShownParts = (x : Parts) × PartsSame x

  abbrev opened_decl : Decl-F ShownDecl ShownBody ShownParts → Decl-F Decl Body Parts
  opened_decl y = map-Decl ShownDecl ShownBody ShownParts Decl Body Parts (λ e. e.0) (λ e. e.0) (λ e. e.0) y

  abbrev opened_body : Body-F ShownDecl ShownBody ShownParts → Body-F Decl Body Parts
  opened_body y = map-Body ShownDecl ShownBody ShownParts Decl Body Parts (λ e. e.0) (λ e. e.0) (λ e. e.0) y

  abbrev opened_parts : Parts-F ShownDecl ShownBody ShownParts → Parts-F Decl Body Parts
  opened_parts y = map-Parts ShownDecl ShownBody ShownParts Decl Body Parts (λ e. e.0) (λ e. e.0) (λ e. e.0) y

  decl_go : (y : Decl-F ShownDecl ShownBody ShownParts) → trans_of (decl_at (opened_decl y)).1 ≡ walk.decl_layer (map-Decl Decl Body Parts Gathered Gathered Gathered decl_trans body_trans parts_trans (opened_decl y))
  decl_go (Decl-F.Const defs span) = refl
  decl_go (Decl-F.Types defs span) = refl
  decl_go (Decl-F.Channel c) = refl
  decl_go (Decl-F.Header x) = refl
  decl_go (Decl-F.Body b) = b.1
  decl_go (Decl-F.Ip ips span) = refl
  decl_go (Decl-F.Modvar ms span) = refl
  decl_go (Decl-F.Var vars span) = refl
  decl_go (Decl-F.State states span) = refl
  decl_go (Decl-F.Stateset sets span) = refl
  decl_go (Decl-F.Routine r) = refl

  decl_shown : (x : Decl-F Decl Body Parts) (y : Decl-F ShownDecl ShownBody ShownParts) → opened_decl y ≡ x → DeclSame (roll-Decl x)
  decl_shown x y is = subst (λ (z : Decl-F Decl Body Parts). DeclSame (roll-Decl z)) is
      (ap (λ (f : Found). trans_of f.1) (decl_made (opened_decl y)) ∙ decl_go y ∙ sym (decl_gathered (opened_decl y)))

  headed_same : (x h : Name) (bs : List BodyAlone) → trans_of (headed d x h bs) ≡ trans_of bs
  headed_same x h [] = refl
  headed_same x h (b ∷ bs) = refl

  body_shown : (x : Body-F Decl Body Parts) (y : Body-F ShownDecl ShownBody ShownParts) → opened_body y ≡ x → BodySame (roll-Body x)
  body_shown x y is = subst (λ (z : Body-F Decl Body Parts). BodySame (roll-Body z)) is
      (ap trans_of (body_made (opened_body y)) ∙ headed_same y.name y.header (standings d y.parts.0) ∙ y.parts.1 ∙ sym (body_gathered (opened_body y)))

  decls_same : (xs : List ShownDecl) → trans_of (flat_map (λ (f : Found). f.1) (map decl_of (map (λ e. e.0) xs))) ≡ flat_map (λ ts. ts) (map decl_trans (map (λ e. e.0) xs))
  decls_same [] = refl
  decls_same (x ∷ xs) =
      map-append (λ (b : BodyAlone). b.trans) (decl_of x.0).1 (flat_map (λ (f : Found). f.1) (map decl_of (map (λ e. e.0) xs)))
      ∙ ap (λ ts. ts ++ trans_of (flat_map (λ (f : Found). f.1) (map decl_of (map (λ e. e.0) xs)))) x.1
      ∙ ap (λ ts. decl_trans x.0 ++ ts) (decls_same xs)

  parts_shown : (x : Parts-F Decl Body Parts) (y : Parts-F ShownDecl ShownBody ShownParts) → opened_parts y ≡ x → PartsSame (roll-Parts x)
  parts_shown x y is = subst (λ (z : Parts-F Decl Body Parts). PartsSame (roll-Parts z)) is
      (ap trans_of (parts_made (opened_parts y)) ∙ ap (λ ts. y.trans ∷ ts) (decls_same y.decls) ∙ sym (parts_gathered (opened_parts y)))

  parts_same : (x : Parts) → PartsSame x
  parts_same = ind-Parts DeclSame BodySame PartsSame decl_shown body_shown parts_shown

bodies_same : (x : Spec) → trans_of (bodies x) ≡ parts_trans x.parts
bodies_same x = parts_same (default_of x.heads) x.parts

each_listed : (means : List Choice → Meanings) (bs : List BodyAlone) → map (trans_list means) (trans_of bs) ≡ map (body_list means) bs
each_listed means [] = refl
each_listed means (b ∷ bs) = ap (λ ts. body_list means b ∷ ts) (each_listed means bs)

-- what is gathered is the list
pub all_listed : (means : List Choice → Meanings) (x : Spec) (shown : List (List FlatTrans)) → shown ≡ [] ++ map (trans_list means) (parts_trans x.parts) → record { bodies = shown } ≡ listed means x
all_listed means x shown is = ap (λ (ts : List (List FlatTrans)). record { bodies = ts }) (is ∙ ap (map (trans_list means)) (sym (bodies_same x)) ∙ each_listed means (bodies x))
