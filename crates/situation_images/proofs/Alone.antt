-- The specification's own instance alone, as the stores have it.
use Rattle.std.proofs.Common.{Bor, ◌≡◌, ◌≢◌, ℕ, ◌+◌, Bool, true, false, List, [], ◌∷◌, ◌++◌, length, map as each, Option, Some, None, Result, Ok, Err, IfOk, refl, sym, ap, subst, cond, ◌∙◌, arith}
use Rattle.std.specs.Prelude.{option_map, slice_get, nat_lt, if◌then◌else◌, is_some}
use Rattle.std.specs.Option.{option_copied, unwrap_or}
use Rattle.std.specs.FinMap as map
use Rattle.std.specs.Ordering.{eq_by_cmp}
use Rattle.std.proofs.lemmas.Bool.Decides.{nat_tests}
use Rattle.std.proofs.lemmas.List.Sums.{fold-append}
use Rattle.std.specs.declared.alloc.AllocError.{AllocError}
use Rattle.estelle_tree.specs.declared.link.IpAddr.{IpAddr}
use Rattle.estelle_tree.specs.Paths.{Path, path_cmp}
use Rattle.module_tree.specs.Trees as trees
use Rattle.queue_store.specs.Queues.{Queue, is_declared, declared}
use Rattle.queue_store.specs.Holds.{holds}
use Rattle.estelle_model.specs.declared.image.Part.{Part}
use Rattle.estelle_model.specs.declared.image.Interaction.{Interaction}
use Rattle.estelle_model.specs.declared.meaning.InteractionPoint.{InteractionPoint}
use Rattle.estelle_model.specs.Actions.{at, count_from}
use Rattle.estelle_model.specs.Bodies.{BodyAlone, default_of}
use Rattle.estelle_model.proofs.RootBodies.{first_there}
use Rattle.estelle_model.specs.Core.{Instance}
use Rattle.estelle_model.specs.Subject.{Subject, body, ips_of, new_instance}
use Rattle.estelle_model.specs.Firing.{alone, root, bare}
use Rattle.estelle_model.specs.InteractionPoints.{point_of}
use Rattle.estelle_model.specs.Queues.{common_at}
use Rattle.estelle_model.specs.Jobs.{part_of_entry}
use Rattle.estelle_model.proofs.Maps.{total}
use Rattle.estelle_model.proofs.PrivateParts.{same_path, body_of}
use Rattle.body_state.specs.declared.bodies.ModuleBody.{ModuleBody}
use Rattle.body_state.specs.Bodies.{module_body}
use Rattle.body_state.proofs.StoreLemmas.{points_more}
use Rattle.body_jobs.specs.Roots.{root_part}
use Rattle.body_jobs.proofs.RootLemmas.{part_is}
use Rattle.effect_log.specs.declared.shared.Shared.{Shared}
use Rattle.effect_log.specs.Standing.{Stands, kept_of}
use Rattle.effect_log.specs.Underway.{is_common_in, declared_all}
use Rattle.effect_log.proofs.Filing.{Filed, filed-alike}
use Rattle.effect_log.proofs.Points.{discipline, key-itself}
use Rattle.effect_log.proofs.Declaring.{from_on, from-own, filed-all, holds-all, not-declared, discipline-with}
use Rattle.effect_log.proofs.After.{queues-of}
use Rattle.situation_images.specs.Instances.{IsTreeOf}
use Rattle.situation_images.specs.Starts.{root_points}

-- ---- its queues

module _ (s : Subject) where
  -- so many of its interaction points
  abbrev pub first_points : ℕ → List IpAddr
  first_points n = each (at []) (count_from 0 n)

  -- without an instance no point has a queue
  abbrev nowhere : IpAddr → Option Bool
  nowhere = discipline s map.empty

  none-at : (a : IpAddr) → nowhere a ≡ None
  none-at a = ap (λ o. option_map (λ (p : InteractionPoint). p.common) (point_of s o a.ip)) (map.get-empty path_cmp a.path)

  filed-nothing : Filed {T = Interaction} nowhere []
  filed-nothing = record { declared = λ a. sym (none-at a); together = λ a q is b. absurd (cc); apart = tt }

  filed-first : (n : ℕ) → Filed (from_on s 0 [] 0 n nowhere) (declared_all s 0 (first_points n) [])
  filed-first n = (filed-all s 0 [] n 0 nowhere [] filed-nothing (λ j le. none-at (at [] j))).1

  -- the next one has no queue yet
  pub next-fresh : (n : ℕ) → is_declared (at [] n) (declared_all s 0 (first_points n) []) ≡ false
  next-fresh n =
      let test : nat_lt n (0 + n) ≡ false = grind (arith, nat_tests) in
      not-declared (from_on s 0 [] 0 n nowhere) (declared_all s 0 (first_points n) []) (filed-first n) (at [] n)
      (from-own s 0 [] n 0 nowhere n (omega arith) ∙ ap (λ b. if b then Some (is_common_in s 0 (at [] n)) else nowhere (at [] n)) test ∙ none-at (at [] n))

  -- one more is declared
  pub one-more : (n : ℕ) → declared (at [] n) (is_common_in s 0 (at [] n)) (declared_all s 0 (first_points n) []) ≡ declared_all s 0 (first_points (n + 1)) []
  one-more n =
      sym (fold-append (λ qs a. declared a (is_common_in s 0 a) qs) [] (first_points n) (at [] n ∷ []))
      ∙ ap (λ ps. declared_all s 0 ps []) (points_more [] [] n n (first_points n) (first_points n ++ at [] n ∷ []) refl refl refl refl)

  module _ (b : BodyAlone) where
    abbrev one : Instance
    one = new_instance s 0 b []

    found : (p : Path) → map.get (alone (Some (new_instance s 0 b []))) p ≡ cond (eq_by_cmp path_cmp p []) (Some (new_instance s 0 b [])) None
    found p = map.get-insert total map.empty [] (new_instance s 0 b []) p ∙ ap (λ o. cond (eq_by_cmp path_cmp p []) (Some (new_instance s 0 b [])) o) (map.get-empty path_cmp p)

    elsewhere : (p : Path) → p ≢ [] → body_of (map.get (alone (Some (new_instance s 0 b []))) p) ≡ body_of (map.get {R = path_cmp} map.empty p)
    elsewhere p h = by (eq_by_cmp path_cmp p []) refl
      where
        by : (x : Bool) → eq_by_cmp path_cmp p [] ≡ x → body_of (map.get (alone (Some (new_instance s 0 b []))) p) ≡ body_of (map.get {R = path_cmp} map.empty p)
        by true e = absurd (h (same_path p [] e))
        by false e = ap body_of (found p ∙ ap (λ x. cond x (Some (new_instance s 0 b [])) None) e ∙ sym (map.get-empty path_cmp p))

    here : map.get (alone (Some (new_instance s 0 b []))) [] ≡ Some (new_instance s 0 b [])
    here = found [] ∙ ap (λ x. cond x (Some (new_instance s 0 b [])) None) (key-itself [])

    queues-alone : (qs : List (Queue Interaction)) → qs ≡ declared_all s 0 (root_points s) [] → Filed (discipline s (alone (Some (new_instance s 0 b [])))) qs
    queues-alone qs is =
        subst (λ (x : List (Queue Interaction)). Filed (discipline s (alone (Some (new_instance s 0 b [])))) x) (sym is)
        (filed-alike _ _ _ (discipline-with s map.empty (alone (Some (new_instance s 0 b []))) [] (new_instance s 0 b []) (map.get-empty path_cmp []) here elsewhere) (filed-first (length (ips_of s 0))))

    -- ---- its tree

    pub tree-alone : (t : trees.Tree Part) → t.instances ≡ trees.lone (root_part (module_body s 0 b)) → (p : Path) → map.get t.instances p ≡ option_map (kept_of p) (map.get (alone (Some (new_instance s 0 b []))) p)
    tree-alone t is p =
        ap (λ x. map.get x p) is
        ∙ map.get-insert total map.empty [] (trees.new_born (root_part (module_body s 0 b))) p
        ∙ ap (λ o. cond (eq_by_cmp path_cmp p []) (Some (trees.new_born (root_part (module_body s 0 b)))) o) (map.get-empty path_cmp p)
        ∙ by (eq_by_cmp path_cmp p []) refl
        ∙ sym (ap (option_map (kept_of p)) (found p))
      where
        by : (x : Bool) → eq_by_cmp path_cmp p [] ≡ x → cond x (Some (trees.new_born (root_part (module_body s 0 b)))) None ≡ option_map (kept_of p) (cond x (Some (new_instance s 0 b [])) None)
        by true e = ap (λ q. Some (trees.new_born q)) (part_is s b ∙ ap (λ (q : Path). part_of_entry (q, new_instance s 0 b [])) (sym (same_path p [] e)))
        by false e = refl

  -- the tree of the specification's own instance
  pub tree-of : (b : BodyAlone) → body s 0 ≡ Some b → (t : trees.Tree Part) → t.instances ≡ trees.lone (root_part (module_body s 0 b)) → IsTreeOf t (bare s)
  tree-of b there t is p = tree-alone b t is p ∙ ap (λ (o : Option BodyAlone). option_map (kept_of p) (map.get (alone (option_map (λ c. new_instance s 0 c []) o)) p)) (sym there)

  -- what stands for it
  pub stands-bare : (b : BodyAlone) → body s 0 ≡ Some b → (shared : Shared) → IsTreeOf shared.tree (bare s) → shared.links.links ≡ [] → shared.queues.queues ≡ declared_all s 0 (root_points s) [] → shared.outputs ≡ 0 → Stands s shared (bare s)
  stands-bare b there shared tree links queues outputs = record {
    instances = tree;
    links = links;
    queues = queues-of s (bare s) shared.queues.queues
        (subst (λ (o : Option BodyAlone). Filed (discipline s (alone (option_map (λ c. new_instance s 0 c []) o))) shared.queues.queues) (sym there) (queues-alone b shared.queues.queues queues))
        (subst (λ (x : List (Queue Interaction)). holds x []) (sym queues) (holds-all s 0 [] (length (ips_of s 0)) 0 [] [] (λ w m. absurd m) tt));
    outputs = outputs;
  }

-- ---- it is there

pub has_body : (s : Subject) → (b : BodyAlone) × (body s 0 ≡ Some b)
has_body s = some_of (body s 0) (first_there (default_of s.specification.heads) s.specification.parts)
  where
    some_of : (o : Option BodyAlone) → is_some o ≡ true → (b : BodyAlone) × (o ≡ Some b)
    some_of None e = absurd (cc)
    some_of (Some b) e = (b, refl)

same_some : {A : Type 0} (a b : A) → Some a ≡ Some b → a ≡ b
same_some a b e = ap (λ o. unwrap_or o a) e

-- the tree of its part stands for it
pub tree-in : (s t : Subject) (o : Option (Bor ModuleBody)) (body_at : Bor ModuleBody) (part : Part) (result : Result (trees.Tree Part) AllocError) → t ≡ s → option_copied o ≡ option_map (module_body t 0) (body t 0) → o ≡ Some body_at → part ≡ root_part body_at.now
    → IfOk result (λ tree. tree.instances ≡ trees.lone part) → IfOk result (λ tree. IsTreeOf tree (bare s))
tree-in s t o body_at part (Err e) same told some is h = tt
tree-in s t o body_at part (Ok tree) same told some is h =
    let b = has_body t in
    let bodies : Some body_at.now ≡ Some (module_body t 0 b.0) = sym (ap option_copied some) ∙ told ∙ ap (option_map (module_body t 0)) b.1 in
    let body_is : body_at.now ≡ module_body t 0 b.0 = same_some body_at.now (module_body t 0 b.0) bodies in
    subst (λ (u : Subject). IsTreeOf tree (bare u)) same (tree-of t b.0 b.1 tree (h ∙ ap trees.lone (is ∙ ap root_part body_is)))

-- its body is told
pub none-there : (s t : Subject) (o : Option (Bor ModuleBody)) → t ≡ s → option_copied o ≡ option_map (module_body t 0) (body t 0) → o ≡ None → ⊥
none-there s t o same told none =
    let b = has_body t in
    let wrong : None ≡ Some (module_body t 0 b.0) = sym (ap option_copied none) ∙ told ∙ ap (option_map (module_body t 0)) b.1 in
    cc

-- ---- its points, one after another

pub fresh-at : (s : Subject) (n k : ℕ) (p : Path) (qs : List (Queue Interaction)) → qs ≡ declared_all s 0 (first_points s n) [] → p ≡ [] → k ≡ n → is_declared (record { path = p; ip = k }) qs ≡ false
fresh-at s n k p qs is root same = (λ i. is_declared (record { path = root i; ip = same i }) (is i)) ∙ next-fresh s n

pub more-at : (s : Subject) (n k : ℕ) (p : Path) (c : Bool) (qs new : List (Queue Interaction)) → qs ≡ declared_all s 0 (first_points s n) [] → p ≡ [] → k ≡ n → c ≡ common_at (slice_get (ips_of s 0) k) → new ≡ declared (record { path = p; ip = k }) c qs
    → new ≡ declared_all s 0 (first_points s (n + 1)) []
more-at s n k p c qs new is root same common more =
    more
    ∙ ap (λ b. declared (record { path = p; ip = k }) b qs) common
    ∙ (λ i. declared (record { path = root i; ip = same i }) (common_at (slice_get (ips_of s 0) (same i))) (is i))
    ∙ one-more s n
