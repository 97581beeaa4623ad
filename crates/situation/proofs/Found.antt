-- All systems are found among the parts of all instances.
use Rattle.std.proofs.Common.{◌≡◌, ℕ, zero, suc, ◌+◌, ◌<◌, ◌≤◌, Bool, true, false, cond, List, [], ◌∷◌, ◌++◌, map, length, take, get_or, filter, Bor, refl, sym, ap, ◌∙◌, inl, inr, arith, add-one}
use Rattle.std.specs.Prelude.{flat_map, option_and_then}
use Rattle.std.proofs.lemmas.List.{append-nil, append_assoc, take_all, length-map}
use Rattle.module_tree.specs.Trees as trees
use Rattle.estelle_tree.specs.Paths.{Path}
use Rattle.estelle_model.specs.declared.image.Part.{Part}
use Rattle.estelle_model.specs.Bodies.{BodyAlone}
use Rattle.estelle_model.specs.Core.{Instance}
use Rattle.estelle_model.specs.Subject.{Subject}
use Rattle.estelle_model.specs.Situation.{Situation}
use Rattle.estelle_model.specs.Attributes.{attribute, attribute_at, is_system}
use Rattle.estelle_model.specs.Selection.{paths}
use Rattle.estelle_model_legality.specs.Situations.{IsLegal}
use Rattle.estelle_model_legality.proofs.Members.{Has, contains_has}
use Rattle.situation_images.specs.Instances.{IsTreeOf, IsPartOf}
use Rattle.situation_images.proofs.Parts.{parts_lie_below, parts_are_of_instances}
use Rattle.situation_steps.specs.declared.systems.System.{System}
use Rattle.situation_steps.specs.Systems.{systems_of, first_kept}
use Rattle.situation_state.specs.Systems.{is_system_body}
use Rattle.situation.specs.Systems.{kept_part}

-- a part is a system just where its instance is
part_is : (s : Subject) (g : Situation) → IsLegal s g → (p : Part) → IsPartOf g p → is_system_body s p.body ≡ is_system (attribute_at s g p.path)
part_is s g legal p of =
    let i : Instance = of.0 in
    let b = legal.instances.bodies p.path i of.1 in
    let same : p.body ≡ i.body = ap (λ (q : Part). q.body) of.2 in
    let here : is_system_body s i.body ≡ is_system (attribute s i.body) = ap (λ o. is_system (option_and_then (λ (c : BodyAlone). attribute s i.body) o)) b.1 in
    let there : is_system (attribute_at s g p.path) ≡ is_system (attribute s i.body) = ap (λ o. is_system (option_and_then (λ (j : Instance). attribute s j.body) o)) of.1 in
    ap (is_system_body s) same ∙ here ∙ sym there

all_found : (s : Subject) (g : Situation) (ps : List Part) → ((p : Part) → Has ps p → is_system_body s p.body ≡ is_system (attribute_at s g p.path))
    → flat_map (kept_part s) ps ≡ map first_kept (filter (λ q. is_system (attribute_at s g q)) (map (λ p. p.path) ps))
all_found s g [] each = refl
all_found s g (p ∷ ps) each = by (is_system (attribute_at s g p.path)) refl (all_found s g ps (λ q h. each q (inr h)))
  where
    it : is_system_body s p.body ≡ is_system (attribute_at s g p.path)
    it = each p (inl refl)

    by : (b : Bool) → is_system (attribute_at s g p.path) ≡ b → flat_map (kept_part s) ps ≡ map first_kept (filter (λ q. is_system (attribute_at s g q)) (map (λ p. p.path) ps))
        → flat_map (kept_part s) (p ∷ ps) ≡ map first_kept (filter (λ q. is_system (attribute_at s g q)) (map (λ p. p.path) (p ∷ ps)))
    by true e rest = (λ j. cond ((it ∙ e) j) (first_kept p.path ∷ []) [] ++ rest j) ∙ sym (ap (λ c. map first_kept (cond c (p.path ∷ filter (λ q. is_system (attribute_at s g q)) (map (λ p. p.path) ps)) (filter (λ q. is_system (attribute_at s g q)) (map (λ p. p.path) ps)))) e)
    by false e rest = (λ j. cond ((it ∙ e) j) (first_kept p.path ∷ []) [] ++ rest j) ∙ sym (ap (λ c. map first_kept (cond c (p.path ∷ filter (λ q. is_system (attribute_at s g q)) (map (λ p. p.path) ps)) (filter (λ q. is_system (attribute_at s g q)) (map (λ p. p.path) ps)))) e)

-- every path is at or below the root
all_below : (qs : List Path) → filter (λ q. true) qs ≡ qs
all_below [] = refl
all_below (q ∷ qs) = ap (λ (rs : List Path). q ∷ rs) (all_below qs)

-- so all of them are found
pub systems_found : (s : Subject) (t : trees.Tree Part) (g : Situation) → IsTreeOf t g → IsLegal s g → flat_map (kept_part s) (trees.parts_below t.instances []) ≡ map first_kept (systems_of s g)
systems_found s t g of legal =
    let ps = trees.parts_below t.instances [] in
    let these : map (λ (p : Part). p.path) ps ≡ paths g = parts_lie_below t g of [] ∙ all_below (paths g) in
    all_found s g ps (λ p h. part_is s g legal p (parts_are_of_instances t g of [] p (contains_has ps p h)))
    ∙ ap (λ (qs : List Path). map first_kept (filter (λ q. is_system (attribute_at s g q)) qs)) these

-- ---- the parts one after another

next_found : {R A B : Type 0} (rs : List R) (i : ℕ) (r : R) (h : R → A) (f : A → List B) → i < length rs → r ≡ get_or rs i r → flat_map f (take (suc i) (map h rs)) ≡ flat_map f (take i (map h rs)) ++ f (h r)
next_found [] i r h f less is = absurd (omega (arith, less))
next_found (x ∷ rs) zero r h f less is = append-nil (f (h x)) ∙ ap (λ y. f (h y)) (sym is)
next_found (x ∷ rs) (suc i) r h f less is =
    ap (λ ys. f (h x) ++ ys) (next_found rs i r h f (omega (arith, less)) is) ∙ sym (append_assoc (f (h x)) (flat_map f (take i (map h rs))) (f (h r)))

-- one more
pub more_found : (s : Subject) (rs : List (Bor Part)) (i : ℕ) (r : Bor Part) (found after : List System) → i < length rs → r ≡ get_or rs i r → found ≡ flat_map (kept_part s) (take i (map (λ (x : Bor Part). x.now) rs))
    → after ≡ found ++ kept_part s r.now → after ≡ flat_map (kept_part s) (take (i + 1) (map (λ (x : Bor Part). x.now) rs))
more_found s rs i r found after less is so_far added =
    added ∙ ap (λ xs. xs ++ kept_part s r.now) so_far ∙ sym (next_found rs i r (λ (x : Bor Part). x.now) (kept_part s) less is)
    ∙ ap (λ n. flat_map (kept_part s) (take n (map (λ (x : Bor Part). x.now) rs))) (sym (add-one i))

-- until all are
pub found_all : (s : Subject) (t : trees.Tree Part) (g : Situation) (rs : List (Bor Part)) (i : ℕ) (root : Path) (found : List System) → IsTreeOf t g → IsLegal s g → root ≡ []
    → map (λ (x : Bor Part). x.now) rs ≡ trees.parts_below t.instances root → length rs ≤ i → found ≡ flat_map (kept_part s) (take i (map (λ (x : Bor Part). x.now) rs)) → found ≡ map first_kept (systems_of s g)
found_all s t g rs i root found of legal at_root are ends so_far =
    so_far ∙ ap (flat_map (kept_part s)) (take_all i (map (λ (x : Bor Part). x.now) rs) (omega (arith, ends, length-map rs (λ (x : Bor Part). x.now))) ∙ are ∙ ap (trees.parts_below t.instances) at_root)
    ∙ systems_found s t g of legal
