-- Instances elsewhere, while an instance acts: they stay as they are, and the systems stay systems.
use Rattle.std.proofs.Common.{◌≡◌, ◌⊎◌, ℕ, Bool, true, false, List, [], ◌∷◌, Option, Some, None, refl, sym, ap, subst, cond, ◌∙◌, inl, inr}
use Rattle.std.specs.Prelude.{◌&&◌, filter, map as each, option_map, option_and_then, T}
use Rattle.std.specs.FinMap as map
use Rattle.std.specs.FinMap.{find, is_sorted}
use Rattle.std.specs.FinMap.Entries as entries
use Rattle.std.specs.Ordering.{eq_by_cmp, is_lt}
use Rattle.estelle_tree.specs.Paths.{Path, path_cmp, is_inside}
use Rattle.estelle_model.specs.declared.effect.Effect.{Effect}
use Rattle.estelle_model.specs.declared.image.Image.{Image}
use Rattle.estelle_model.specs.Core.{Instance, Instances}
use Rattle.estelle_model.specs.Effects.{StatementEffect}
use Rattle.estelle_model.specs.Subject.{Subject}
use Rattle.estelle_model.specs.Attributes.{attribute, is_system, attribute_at, IsSystem}
use Rattle.estelle_model.specs.Situation.{Situation, Acting, acting_after}
use Rattle.estelle_model.specs.Firing.{Firing, begun}
use Rattle.estelle_model.specs.Jobs.{outline_of_parts, put, after_all, CanAllBeMade, IsPut}
use Rattle.estelle_model.proofs.Maps.{total, apart}
use Rattle.estelle_model.proofs.PrivateParts.{body_of, inside_self, both_inside, get_inside, told_parts}
use Rattle.estelle_model_answers.proofs.Within.{get_after, body_after, at_of}
use Rattle.estelle_model_legality.specs.Choices.{AreTree}
use Rattle.estelle_model_legality.proofs.Lists.{not_true, not_both}
use Rattle.estelle_model_legality.proofs.Systems.{one_system}
use Rattle.estelle_model_legality.proofs.Ways.{inside_trans, comparable}
use Rattle.situation_steps.specs.Systems.{systems_of}

-- ---- what all records of a list tell

module _ {A : Type 0} (f : Instance → A) where
  abbrev told : List (Path × Instance) → List (Path × A)
  told = each (λ e. (e.0, f e.1))

  told_below : (q : Path) (es : List (Path × Instance)) → entries.below_all path_cmp q (told es) ≡ entries.below_all path_cmp q es
  told_below q [] = refl
  told_below q (e ∷ es) = ap (λ b. is_lt (path_cmp q e.0) && b) (told_below q es)

  told_sorted : (es : List (Path × Instance)) → is_sorted path_cmp (told es) ≡ is_sorted path_cmp es
  told_sorted [] = refl
  told_sorted (e ∷ es) = λ i. told_below e.0 es i && told_sorted es i

  told_found : (es : List (Path × Instance)) (q : Path) → find path_cmp q (told es) ≡ option_map f (find path_cmp q es)
  told_found [] q = refl
  told_found (e ∷ es) q = by (eq_by_cmp path_cmp q e.0) (told_found es q)
    where
      by : (b : Bool) → find path_cmp q (told es) ≡ option_map f (find path_cmp q es) → cond b (Some (f e.1)) (find path_cmp q (told es)) ≡ option_map f (cond b (Some e.1) (find path_cmp q es))
      by true h = refl
      by false h = h

  told_get : (x : Instances) (q : Path) → option_map f (map.get x q) ≡ find path_cmp q (told (map.entries x))
  told_get x q = ap (option_map f) (map.get-entries x q) ∙ sym (told_found (map.entries x) q)

-- ---- effects and records

-- the instance keeps its body
effects_body : (s : Subject) (m : Path) (es : List StatementEffect) (a : Acting) → CanAllBeMade s m es a → body_of (map.get (after_all es a).situation.core.instances m) ≡ body_of (map.get a.situation.core.instances m)
effects_body s m [] a can = refl
effects_body s m (e ∷ es) a can =
    effects_body s m es (acting_after e a) can.1
    ∙ ap body_of (get_after e a.situation.core.instances m)
    ∙ body_after m e (map.get a.situation.core.instances) (at_of s m e a.situation.core can.0)

abbrev outlined : Instance → ℕ × ℕ
outlined i = (i.body, i.births)

first_of : (o : Option Instance) → body_of o ≡ option_map (λ (p : ℕ × ℕ). p.0) (option_map outlined o)
first_of None = refl
first_of (Some i) = refl

module _ (s : Subject) (m : Path) (n : ℕ) (g : Situation) (image : Image) (effects : List Effect) (left : ℕ) (f : Firing) (p : IsPut s m n g image effects left f) where
  abbrev made : Instances
  made = (after_all p.log (begun g)).situation.core.instances

  abbrev final : Instances
  final = (put m p.log image.parts (begun g)).situation.core.instances

  at_itself : (x : Instances) → map.get (map.retain_keys x (is_inside m)) m ≡ map.get x m
  at_itself x = get_inside x m m ∙ ap (λ b. cond b (map.get x m) None) (inside_self m)

  records_body : body_of (map.get final m) ≡ body_of (map.get made m)
  records_body =
      let same : told outlined (map.entries (map.retain_keys made (is_inside m))) ≡ told outlined (map.entries (map.retain_keys final (is_inside m))) = p.outline ∙ ap outline_of_parts p.private.parts ∙ told_parts (map.entries (map.retain_keys final (is_inside m))) in
      let found : option_map outlined (map.get made m) ≡ option_map outlined (map.get final m) =
      ap (option_map outlined) (sym (at_itself made))
      ∙ told_get outlined (map.retain_keys made (is_inside m)) m
      ∙ ap (find path_cmp m) same
      ∙ sym (told_get outlined (map.retain_keys final (is_inside m)) m)
      ∙ ap (option_map outlined) (at_itself final) in
      first_of (map.get final m) ∙ ap (option_map (λ (q : ℕ × ℕ). q.0)) (sym found) ∙ sym (first_of (map.get made m))

  pub put_body : body_of (map.get final m) ≡ body_of (map.get g.core.instances m)
  put_body = records_body ∙ effects_body s m p.log (begun g) p.can_be_made

-- ---- systems

abbrev attribute_of : Subject → Option ℕ → Bool
attribute_of s o = is_system (option_and_then (attribute s) o)

system_by : (s : Subject) (o : Option Instance) → is_system (option_and_then (λ (i : Instance). attribute s i.body) o) ≡ attribute_of s (body_of o)
system_by s None = refl
system_by s (Some i) = refl

abbrev is_system_at : Subject → Situation → Path → Bool
is_system_at s g q = is_system (attribute_at s g q)

module _ (s : Subject) (m : Path) (g h : Situation) (tree : AreTree s g.core.instances) (tree' : AreTree s h.core.instances)
    (leaves : (q : Path) → is_inside m q ≡ false → map.get h.core.instances q ≡ map.get g.core.instances q)
    (body : body_of (map.get h.core.instances m) ≡ body_of (map.get g.core.instances m))
    (own : Path) (own_is : IsSystem s g own) (own_above : is_inside own m ≡ true) where
  -- what belongs to another system is not at or below the instance
  pub other_apart : (system : Path) → IsSystem s g system → is_inside system m ≡ false → (q : Path) → is_inside system q ≡ true → is_inside m q ≡ false
  other_apart system is other q inside = not_true (is_inside m q) (λ at. by (comparable system m q inside at))
    where
      by : (is_inside system m ≡ true) ⊎ (is_inside m system ≡ true) → ⊥
      by (inl above) = not_both (is_inside system m) above other
      by (inr below) =
          let same : system ≡ own = one_system s g tree own system own_is is (inside_trans own m system own_above below) in
          not_both (is_inside system m) (ap (λ (q : Path). is_inside q m) same ∙ own_above) other

  left_there : (q : Path) → is_inside m q ≡ false → is_system_at s h q ≡ is_system_at s g q
  left_there q out = ap (λ o. is_system (option_and_then (λ (i : Instance). attribute s i.body) o)) (leaves q out)

  own_still : IsSystem s h own
  own_still = by (is_inside m own) refl
    where
      by : (b : Bool) → is_inside m own ≡ b → is_system_at s h own ≡ true
      by false out = left_there own out ∙ own_is
      by true below =
          let at : own ≡ m = both_inside m own below own_above in
          ap (is_system_at s h) at ∙ system_by s (map.get h.core.instances m) ∙ ap (attribute_of s) body ∙ sym (system_by s (map.get g.core.instances m)) ∙ sym (ap (is_system_at s g) at) ∙ own_is

  -- the same are systems
  pub same_systems : (q : Path) → is_system_at s h q ≡ is_system_at s g q
  same_systems q = by (is_inside m q) refl
    where
      at_own : (k : Situation) → AreTree s k.core.instances → IsSystem s k own → is_inside m q ≡ true → is_system_at s k q ≡ true → q ≡ own
      at_own k t there below is = one_system s k t own q there is (inside_trans own m q own_above below)

      within : is_inside m q ≡ true → (b c : Bool) → is_system_at s h q ≡ b → is_system_at s g q ≡ c → b ≡ c
      within below true true e f = refl
      within below false false e f = refl
      within below true false e f = absurd (not_both (is_system_at s g q) (ap (is_system_at s g) (at_own h tree' own_still below e) ∙ own_is) f)
      within below false true e f = absurd (not_both (is_system_at s h q) (ap (is_system_at s h) (at_own g tree own_is below f) ∙ own_still) e)

      by : (b : Bool) → is_inside m q ≡ b → is_system_at s h q ≡ is_system_at s g q
      by false out = left_there q out
      by true below = within below (is_system_at s h q) (is_system_at s g q) refl refl

-- ---- in path order

abbrev nothing : Instance → Unit {0}
nothing i = tt

-- the paths of these records that pass, with nothing beside them
abbrev passed : (Path → Bool) → Instances → List (Path × Unit {0})
passed test x = entries.where_key path_cmp test (told nothing (map.entries x))

passed_keys : (test : Path → Bool) (es : List (Path × Instance)) → filter test (each (λ e. e.0) es) ≡ each (λ e. e.0) (entries.where_key path_cmp test (told nothing es))
passed_keys test [] = refl
passed_keys test (e ∷ es) = by (test e.0) (passed_keys test es)
  where
    by : (b : Bool) → filter test (each (λ e. e.0) es) ≡ each (λ e. e.0) (entries.where_key path_cmp test (told nothing es))
        → cond b (e.0 ∷ filter test (each (λ e. e.0) es)) (filter test (each (λ e. e.0) es)) ≡ each (λ e. e.0) (cond b ((e.0, tt) ∷ entries.where_key path_cmp test (told nothing es)) (entries.where_key path_cmp test (told nothing es)))
    by true rest = ap (λ (qs : List Path). e.0 ∷ qs) rest
    by false rest = rest

passed_sorted : (test : Path → Bool) (x : Instances) → T (is_sorted path_cmp (passed test x))
passed_sorted test x = entries.is_sorted-where_key path_cmp test (told nothing (map.entries x)) (subst T (sym (told_sorted nothing (map.entries x))) (map.entries_sorted x))

passed_found : (test : Path → Bool) (x : Instances) (q : Path) → find path_cmp q (passed test x) ≡ cond (test q) (option_map nothing (map.get x q)) None
passed_found test x q =
    entries.find-where_key path_cmp test q (λ r tie. ap test (sym (apart q r tie))) (told nothing (map.entries x))
    ∙ ap (λ (o : Option (Unit {0})). cond (test q) o None) (sym (told_get nothing x q))

system_marked : (s : Subject) (o : Option Instance) → cond (is_system (option_and_then (λ (i : Instance). attribute s i.body) o)) (option_map nothing o) None ≡ cond (is_system (option_and_then (λ (i : Instance). attribute s i.body) o)) (Some tt) None
system_marked s None = refl
system_marked s (Some i) = refl

pub same_list : (s : Subject) (g h : Situation) → ((q : Path) → is_system (attribute_at s h q) ≡ is_system (attribute_at s g q)) → systems_of s h ≡ systems_of s g
same_list s g h same =
    passed_keys (is_system_at s h) (map.entries h.core.instances)
    ∙ ap (each (λ (e : Path × Unit {0}). e.0)) (entries.same_entries path_cmp total apart (passed (is_system_at s h) h.core.instances) (passed (is_system_at s g) g.core.instances)
    (passed_sorted (is_system_at s h) h.core.instances) (passed_sorted (is_system_at s g) g.core.instances) found)
    ∙ sym (passed_keys (is_system_at s g) (map.entries g.core.instances))
  where
    found : (q : Path) → find path_cmp q (passed (is_system_at s h) h.core.instances) ≡ find path_cmp q (passed (is_system_at s g) g.core.instances)
    found q =
        passed_found (is_system_at s h) h.core.instances q
        ∙ system_marked s (map.get h.core.instances q)
        ∙ ap (λ (b : Bool). cond b (Some tt) None) (same q)
        ∙ sym (system_marked s (map.get g.core.instances q))
        ∙ sym (passed_found (is_system_at s g) g.core.instances q)
