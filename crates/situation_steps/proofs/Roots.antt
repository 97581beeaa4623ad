-- The specification's own instance is there from the start on, and keeps its body: no effect removes it.
use Rattle.std.proofs.Common.{◌≡◌, ℕ, Bool, true, false, List, [], ◌∷◌, Option, Some, None, refl, sym, ap, cond, ◌∙◌}
use Rattle.std.specs.Prelude.{not, fold, is_some, option_map}
use Rattle.std.specs.FinMap as map
use Rattle.std.specs.FinMap.{find}
use Rattle.std.specs.Ordering.{eq_by_cmp}
use Rattle.estelle_tree.specs.Paths.{Path, path_cmp, child, is_inside}
use Rattle.estelle_model.specs.declared.effect.Effect.{Effect}
use Rattle.estelle_model.specs.declared.image.Image.{Image}
use Rattle.estelle_model.specs.Core.{Instance, Instances}
use Rattle.estelle_model.specs.Effects.{StatementEffect, Output, Connect, Disconnect, Attach, Detach, Create, Remove, born, changed_in, instances_after}
use Rattle.estelle_model.specs.Bodies.{BodyAlone, default_of}
use Rattle.estelle_model.proofs.RootBodies.{first_there}
use Rattle.estelle_model.specs.Subject.{Subject, body, new_instance}
use Rattle.estelle_model.specs.Situation.{Situation, Acting, acting_after}
use Rattle.estelle_model.specs.Firing.{Firing, begun, bare, alone}
use Rattle.estelle_model.specs.Jobs.{insert_part, outline_of_parts, put, after_all, IsPut}
use Rattle.estelle_model.proofs.Maps.{total, apart, get_inserted, told}
use Rattle.std.specs.Option.{option_or}
use Rattle.estelle_model.proofs.PrivateParts.{get_changed, get_inside, told_parts}
use Rattle.situation_steps.specs.UnderWay.{HasRoot}

-- the body of the instance at a path
abbrev pub body_at : Path → Instances → Option ℕ
body_at q x = option_map (λ i. i.body) (map.get x q)

some_there : {A : Type 0} (o : Option A) → is_some o ≡ true → (a : A) × (o ≡ Some a)
some_there None e = absurd (cc)
some_there (Some a) e = (a, refl)

body_there : (o : Option Instance) (k : ℕ) → option_map (λ i. i.body) o ≡ Some k → (i : Instance) × (o ≡ Some i) × (i.body ≡ k)
body_there None k e = absurd (cc)
body_there (Some i) k e = (i, refl, cc)

pub has_root : (g : Situation) → body_at [] g.core.instances ≡ Some 0 → HasRoot g
has_root g e = body_there (map.get g.core.instances []) 0 e

pub root_body : (g : Situation) → HasRoot g → body_at [] g.core.instances ≡ Some 0
root_body g r = ap (option_map (λ i. i.body)) r.1 ∙ ap (λ (k : ℕ). Some k) r.2

-- ---- at the start

pub bare_root : (s : Subject) → body_at [] (bare s).core.instances ≡ Some 0
bare_root s =
    let b = some_there (body s 0) (first_there (default_of s.specification.heads) s.specification.parts) in
    ap (λ (o : Option BodyAlone). body_at [] (alone (option_map (λ c. new_instance s 0 c []) o))) b.1
    ∙ ap (option_map (λ i. i.body)) (map.get-insert total map.empty [] (new_instance s 0 b.0 []) [])

-- ---- effects

not_root : (p : Path) (k : ℕ) → eq_by_cmp path_cmp [] (child p k) ≡ false
not_root [] k = refl
not_root (n ∷ p) k = refl

above_all : (p : Path) (k : ℕ) → is_inside (child p k) [] ≡ false
above_all [] k = refl
above_all (n ∷ p) k = refl

born_same : (o : Option Instance) → option_map (λ i. i.body) (option_map born o) ≡ option_map (λ i. i.body) o
born_same None = refl
born_same (Some i) = refl

born_root : (p : Path) (x : Instances) → body_at [] (changed_in p born x) ≡ body_at [] x
born_root p x = ap (option_map (λ i. i.body)) (get_changed p born x []) ∙ by p
  where
    by : (p : Path) → option_map (λ i. i.body) (cond (eq_by_cmp path_cmp [] p) (option_map born (map.get x p)) (map.get x [])) ≡ body_at [] x
    by [] = born_same (map.get x [])
    by (k ∷ p) = refl

effect_root : (e : StatementEffect) (x : Instances) → body_at [] (instances_after e x) ≡ body_at [] x
unfolding instances_after
effect_root (Output from ip name values) x = refl
effect_root (Connect a b) x = refl
effect_root (Disconnect a) x = refl
effect_root (Attach upper lower) x = refl
effect_root (Detach upper) x = refl
effect_root (Create p k i) x =
    ap (option_map (λ j. j.body)) (map.get-insert total (changed_in p born x) (child p k) i [] ∙ ap (λ b. cond b (Some i) (map.get (changed_in p born x) [])) (not_root p k))
    ∙ born_root p x
effect_root (Remove p k) x =
    ap (option_map (λ j. j.body)) (map.get-retain_keys x (λ q. not (is_inside (child p k) q)) [] (λ q tie. ap (λ r. not (is_inside (child p k) r)) (sym (apart [] q tie)))
    ∙ ap (λ b. cond (not b) (map.get x []) None) (above_all p k))

all_root : (es : List StatementEffect) (a : Acting) → body_at [] (after_all es a).situation.core.instances ≡ body_at [] a.situation.core.instances
all_root [] a = refl
all_root (e ∷ es) a = all_root es (acting_after e a) ∙ effect_root e a.situation.core.instances

-- ---- records

abbrev outlined : Instance → ℕ × ℕ
outlined i = (i.body, i.births)

told_found : (es : List (Path × Instance)) (q : Path) → find path_cmp q (told outlined es) ≡ option_map outlined (find path_cmp q es)
told_found [] q = refl
told_found (e ∷ es) q = by (eq_by_cmp path_cmp q e.0) (told_found es q)
  where
    by : (b : Bool) → find path_cmp q (told outlined es) ≡ option_map outlined (find path_cmp q es) → cond b (Some (outlined e.1)) (find path_cmp q (told outlined es)) ≡ option_map outlined (cond b (Some e.1) (find path_cmp q es))
    by true h = refl
    by false h = h

told_get : (x : Instances) (q : Path) → option_map outlined (map.get x q) ≡ find path_cmp q (told outlined (map.entries x))
told_get x q = ap (option_map outlined) (map.get-entries x q) ∙ sym (told_found (map.entries x) q)

first_of : (o : Option Instance) → option_map (λ i. i.body) o ≡ option_map (λ (p : ℕ × ℕ). p.0) (option_map outlined o)
first_of None = refl
first_of (Some i) = refl

module _ (s : Subject) (n : ℕ) (g : Situation) (image : Image) (effects : List Effect) (left : ℕ) (f : Firing) where
  -- the root's own record is that of the image
  of_root : (p : IsPut s [] n g image effects left f) → body_at [] (put [] p.log image.parts (begun g)).situation.core.instances ≡ body_at [] (after_all p.log (begun g)).situation.core.instances
  of_root p =
      let x : Instances = (after_all p.log (begun g)).situation.core.instances in
      let y : Instances = (put [] p.log image.parts (begun g)).situation.core.instances in
      let same : told outlined (map.entries (map.retain_keys x (is_inside []))) ≡ told outlined (map.entries (map.retain_keys y (is_inside []))) = p.outline ∙ ap outline_of_parts p.private.parts ∙ told_parts (map.entries (map.retain_keys y (is_inside []))) in
      let found : option_map outlined (map.get x []) ≡ option_map outlined (map.get y []) =
      ap (option_map outlined) (sym (get_inside x [] []))
      ∙ told_get (map.retain_keys x (is_inside [])) []
      ∙ ap (find path_cmp []) same
      ∙ sym (told_get (map.retain_keys y (is_inside [])) [])
      ∙ ap (option_map outlined) (get_inside y [] []) in
      first_of (map.get y []) ∙ ap (option_map (λ (q : ℕ × ℕ). q.0)) (sym found) ∙ sym (first_of (map.get x []))

  -- other records leave the root as it is
  of_other : (k : ℕ) (m : Path) (p : IsPut s (k ∷ m) n g image effects left f) → body_at [] (put (k ∷ m) p.log image.parts (begun g)).situation.core.instances ≡ body_at [] (after_all p.log (begun g)).situation.core.instances
  of_other k m p =
      let x : Instances = (after_all p.log (begun g)).situation.core.instances in
      let y : Instances = (put (k ∷ m) p.log image.parts (begun g)).situation.core.instances in
      let others : Instances = map.retain_keys x (λ q. not (is_inside (k ∷ m) q)) in
      let inner : Instances = map.retain_keys y (is_inside (k ∷ m)) in
      ap (λ ps. body_at [] (fold insert_part others ps)) p.private.parts
      ∙ ap (option_map (λ i. i.body)) (get_inserted others (map.entries inner) (map.entries_sorted inner) []
      ∙ ap (λ o. option_or o (map.get others [])) (sym (map.get-entries inner []) ∙ get_inside y (k ∷ m) [])
      ∙ map.get-retain_keys x (λ q. not (is_inside (k ∷ m) q)) [] (λ q tie. ap (λ r. not (is_inside (k ∷ m) r)) (sym (apart [] q tie))))

  pub root_stays : (m : Path) (p : IsPut s m n g image effects left f) → body_at [] (put m p.log image.parts (begun g)).situation.core.instances ≡ body_at [] g.core.instances
  root_stays [] p = of_root p ∙ all_root p.log (begun g)
  root_stays (k ∷ m) p = of_other k m p ∙ all_root p.log (begun g)
