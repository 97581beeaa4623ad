-- A situation in which an instance acts at once, and a log that began with its private part: how they stay related.
use Rattle.std.proofs.Common.{◌≡◌, ℕ, Bool, true, false, List, [], ◌∷◌, ◌++◌, map as each, Option, Some, None, refl, sym, ap, subst, cond, ◌∙◌, inl, inr}
use Rattle.std.specs.Prelude.{suc, ◌⊎◌, ◌≢◌, ◌&&◌, ◌||◌, not, fold, filter, find, slice_get, option_map, is_some, IsPermutation, IsTrue}
use Rattle.std.specs.List.{list_any}
use Rattle.std.specs.FinMap as map
use Rattle.std.specs.Ordering.{eq_by_cmp}
use Rattle.estelle_tree.specs.Paths.{Path, path_cmp, child, is_inside}
use Rattle.estelle_model.specs.Core.{Instance, Instances, Core}
use Rattle.estelle_model.specs.Effects.{StatementEffect, Output, Connect, Disconnect, Attach, Detach, Create, Remove, changed_in, born, instances_after}
use Rattle.estelle_model.specs.Places.{module_variables_of}
use Rattle.estelle_model.specs.Subject.{Subject}
use Rattle.estelle_model.specs.Jobs.{CanBeMade}
use Rattle.estelle_model.proofs.Maps.{total, apart}
use Rattle.estelle_model.proofs.PrivateParts.{child_inside, same_path, get_changed, body_of, left_true, right_true, inside_self}
use Rattle.estelle_model_answers.proofs.Owned.{not_above}
use Rattle.estelle_model_answers.proofs.Alike.{IsBare}

-- ---- what an effect leaves of instances

abbrev pub outline_of : Option Instance → Option (ℕ × ℕ)
outline_of = option_map (λ i. (i.body, i.births))

-- what is found at a path after an effect, by what was found before
abbrev pub found_after : StatementEffect → (Path → Option Instance) → Path → Option Instance
found_after (Create p k i) look q = cond (eq_by_cmp path_cmp q (child p k)) (Some i) (cond (eq_by_cmp path_cmp q p) (option_map born (look p)) (look q))
found_after (Remove p k) look q = cond (is_inside (child p k) q) None (look q)
found_after _ look q = look q

not_cond : {A : Type 0} (b : Bool) (x y : A) → cond (not b) x y ≡ cond b y x
not_cond true x y = refl
not_cond false x y = refl

pub get_after : (e : StatementEffect) (x : Instances) (q : Path) → map.get (instances_after e x) q ≡ found_after e (map.get x) q
unfolding instances_after
get_after (Create p k i) x q = map.get-insert total (changed_in p born x) (child p k) i q ∙ ap (λ o. cond (eq_by_cmp path_cmp q (child p k)) (Some i) o) (get_changed p born x q)
get_after (Remove p k) x q = map.get-retain_keys x (λ r. not (is_inside (child p k) r)) q (λ r e. ap (λ t. not (is_inside (child p k) t)) (sym (apart q r e))) ∙ not_cond (is_inside (child p k) q) (map.get x q) None
get_after (Output from ip name vs) x q = refl
get_after (Connect a b) x q = refl
get_after (Disconnect a) x q = refl
get_after (Attach a b) x q = refl
get_after (Detach a) x q = refl

-- the path of the instance that an effect makes or whose child it removes
abbrev pub IsAt : Path → StatementEffect → Type 0
IsAt m (Create p k i) = is_inside m p ≡ true
IsAt m (Remove p k) = is_inside m p ≡ true
IsAt m _ = Unit {0}

pub at_of : (s : Subject) (m : Path) (e : StatementEffect) (c : Core) → CanBeMade s m e c → IsAt m e
at_of s m (Create p k i) c can = can.0
at_of s m (Remove p k) c can = can.0
at_of s m (Output from ip name vs) c can = tt
at_of s m (Connect a b) c can = tt
at_of s m (Disconnect a) c can = tt
at_of s m (Attach a b) c can = tt
at_of s m (Detach a) c can = tt

pub other_path : (m p q : Path) → is_inside m p ≡ true → is_inside m q ≡ false → eq_by_cmp path_cmp q p ≡ false
other_path m p q h n = by (eq_by_cmp path_cmp q p) refl
  where
    by : (b : Bool) → eq_by_cmp path_cmp q p ≡ b → b ≡ false
    by true e = let wrong : true ≡ false = sym h ∙ ap (is_inside m) (sym (same_path q p e)) ∙ n in absurd (cc)
    by false e = refl

-- below an instance that is at or below m
deeper : (m p q : Path) → is_inside m p ≡ true → is_inside p q ≡ true → is_inside m q ≡ true
deeper [] p q h k = Rattle.estelle_model.proofs.AlikeFirings.inside_root q
deeper (x ∷ m) [] q h k = absurd (cc)
deeper (x ∷ m) (y ∷ p) [] h k = absurd (cc)
deeper (x ∷ m) (y ∷ p) (z ∷ q) h k = ap (λ n. Rattle.std.specs.Prelude.nat_eq x n && is_inside m q) (sym (Rattle.std.proofs.Common.eqb-true y z (left_true (Rattle.std.specs.Prelude.nat_eq y z) (is_inside p q) k))) ∙ ap (λ b. b && is_inside m q) (left_true (Rattle.std.specs.Prelude.nat_eq x y) (is_inside m p) h) ∙ deeper m p q (right_true (Rattle.std.specs.Prelude.nat_eq x y) (is_inside m p) h) (right_true (Rattle.std.specs.Prelude.nat_eq y z) (is_inside p q) k)

-- what is not at or below m stays
pub outside_after : (m : Path) (e : StatementEffect) (look : Path → Option Instance) (q : Path) → IsAt m e → is_inside m q ≡ false → found_after e look q ≡ look q
outside_after m (Create p k i) look q h n =
    ap (λ b. cond b (Some i) (cond (eq_by_cmp path_cmp q p) (option_map born (look p)) (look q))) (other_path m (child p k) q (child_inside m p k h) n)
    ∙ ap (λ b. cond b (option_map born (look p)) (look q)) (other_path m p q h n)
outside_after m (Remove p k) look q h n = by (is_inside (child p k) q) refl
  where
    by : (b : Bool) → is_inside (child p k) q ≡ b → cond b None (look q) ≡ look q
    by true e = let wrong : true ≡ false = sym (deeper m (child p k) q (child_inside m p k h) e) ∙ n in absurd (cc)
    by false e = refl
outside_after m (Output from ip name vs) look q h n = refl
outside_after m (Connect a b) look q h n = refl
outside_after m (Disconnect a) look q h n = refl
outside_after m (Attach a b) look q h n = refl
outside_after m (Detach a) look q h n = refl

-- where two show the same at and below m, they do so after it
pub inside_after : (m : Path) (e : StatementEffect) (look look' : Path → Option Instance) → ((q : Path) → is_inside m q ≡ true → look q ≡ look' q) → IsAt m e → (q : Path) → is_inside m q ≡ true → found_after e look q ≡ found_after e look' q
inside_after m (Create p k i) look look' same h q n = λ j. cond (eq_by_cmp path_cmp q (child p k)) (Some i) (cond (eq_by_cmp path_cmp q p) (option_map born (same p h j)) (same q n j))
inside_after m (Remove p k) look look' same h q n = ap (λ o. cond (is_inside (child p k) q) None o) (same q n)
inside_after m (Output from ip name vs) look look' same h q n = same q n
inside_after m (Connect a b) look look' same h q n = same q n
inside_after m (Disconnect a) look look' same h q n = same q n
inside_after m (Attach a b) look look' same h q n = same q n
inside_after m (Detach a) look look' same h q n = same q n

born_outline : (o o' : Option Instance) → outline_of o ≡ outline_of o' → outline_of (option_map born o) ≡ outline_of (option_map born o')
born_outline None None e = refl
born_outline (Some i) (Some j) e = let same : (i.body, i.births) ≡ (j.body, j.births) = cc in ap (λ (x : ℕ × ℕ). Some (x.0, Rattle.std.specs.Prelude.◌+◌ x.1 1)) same
born_outline None (Some j) e = absurd (cc)
born_outline (Some i) None e = absurd (cc)

choice : {A B : Type 0} (f : A → B) (b : Bool) (x y u v : A) → f x ≡ f u → f y ≡ f v → f (cond b x y) ≡ f (cond b u v)
choice f true x y u v h k = h
choice f false x y u v h k = k

-- and where their outlines are the same, these stay so
pub outline_after : (e : StatementEffect) (look look' : Path → Option Instance) → ((q : Path) → outline_of (look q) ≡ outline_of (look' q)) → (q : Path) → outline_of (found_after e look q) ≡ outline_of (found_after e look' q)
outline_after (Create p k i) look look' same q = choice outline_of (eq_by_cmp path_cmp q (child p k)) (Some i) _ (Some i) _ refl (choice outline_of (eq_by_cmp path_cmp q p) (option_map born (look p)) (look q) (option_map born (look' p)) (look' q) (born_outline (look p) (look' p) (same p)) (same q))
outline_after (Remove p k) look look' same q = choice outline_of (is_inside (child p k) q) None (look q) None (look' q) refl (same q)
outline_after (Output from ip name vs) look look' same q = same q
outline_after (Connect a b) look look' same q = same q
outline_after (Disconnect a) look look' same q = same q
outline_after (Attach a b) look look' same q = same q
outline_after (Detach a) look look' same q = same q

-- the body of m stays
born_body : (o : Option Instance) → body_of (option_map born o) ≡ body_of o
born_body None = refl
born_body (Some i) = refl

above_not : (m p : Path) (k : ℕ) → is_inside m p ≡ true → eq_by_cmp path_cmp m (child p k) ≡ false
above_not m p k h = by (eq_by_cmp path_cmp m (child p k)) refl
  where
    by : (b : Bool) → eq_by_cmp path_cmp m (child p k) ≡ b → b ≡ false
    by true e = let wrong : true ≡ false = sym (inside_self m) ∙ ap (λ r. is_inside r m) (same_path m (child p k) e) ∙ not_above m p k h in absurd (cc)
    by false e = refl

pub body_after : (m : Path) (e : StatementEffect) (look : Path → Option Instance) → IsAt m e → body_of (found_after e look m) ≡ body_of (look m)
body_after m (Create p k i) look h = ap (λ b. body_of (cond b (Some i) (cond (eq_by_cmp path_cmp m p) (option_map born (look p)) (look m)))) (above_not m p k h) ∙ by (eq_by_cmp path_cmp m p) refl
  where
    by : (b : Bool) → eq_by_cmp path_cmp m p ≡ b → body_of (cond b (option_map born (look p)) (look m)) ≡ body_of (look m)
    by true e = born_body (look p) ∙ ap (λ r. body_of (look r)) (sym (same_path m p e))
    by false e = refl
body_after m (Remove p k) look h = ap (λ b. body_of (cond b None (look m))) (not_above m p k h)
body_after m (Output from ip name vs) look h = refl
body_after m (Connect a b) look h = refl
body_after m (Disconnect a) look h = refl
body_after m (Attach a b) look h = refl
body_after m (Detach a) look h = refl

-- each module variable at or below m holds a child, or nothing
abbrev pub HoldChildren : Path → (Path → Option Instance) → Type 0
HoldChildren m look = (p c : Path) (k : ℕ) → is_inside m p ≡ true → slice_get (module_variables_of (look p)) k ≡ Some (Some c) → (n : ℕ) × (c ≡ child p n)

born_holds : (o : Option Instance) → module_variables_of (option_map born o) ≡ module_variables_of o
born_holds None = refl
born_holds (Some i) = refl

pub hold_after : (m : Path) (e : StatementEffect) (look : Path → Option Instance) → HoldChildren m look → IsBare e → HoldChildren m (found_after e look)
hold_after m (Create p k i) look h bare q c v at is = by (eq_by_cmp path_cmp q (child p k)) (eq_by_cmp path_cmp q p) refl is
  where
    by : (b d : Bool) → eq_by_cmp path_cmp q p ≡ d → slice_get (module_variables_of (cond b (Some i) (cond d (option_map born (look p)) (look q)))) v ≡ Some (Some c) → (n : ℕ) × (c ≡ child q n)
    by true d e f = absurd (bare v c f)
    by false true e f = h q c v at (ap (λ r. slice_get (module_variables_of (look r)) v) (same_path q p e) ∙ ap (λ vs. slice_get vs v) (sym (born_holds (look p))) ∙ f)
    by false false e f = h q c v at f
hold_after m (Remove p k) look h bare q c v at is = by (is_inside (child p k) q) is
  where
    by : (b : Bool) → slice_get (module_variables_of (cond b None (look q))) v ≡ Some (Some c) → (n : ℕ) × (c ≡ child q n)
    by true f = absurd (cc)
    by false f = h q c v at f
hold_after m (Output from ip name vs) look h bare q c v at is = h q c v at is
hold_after m (Connect a b) look h bare q c v at is = h q c v at is
hold_after m (Disconnect a) look h bare q c v at is = h q c v at is
hold_after m (Attach a b) look h bare q c v at is = h q c v at is
hold_after m (Detach a) look h bare q c v at is = h q c v at is
