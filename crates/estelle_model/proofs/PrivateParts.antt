-- The private part of an instance: its instances and links by what is found in them.
use Rattle.std.proofs.Common.{◌≡◌, ℕ, ◌-◌, Bool, true, false, List, [], ◌∷◌, map as each, Option, Some, None, refl, sym, ap, cond, ◌∙◌, eq-eqb, eqb-true, arith}
use Rattle.std.specs.Prelude.{◌&&◌, ◌||◌, not, fold, filter, option_map, slice_get, nat_eq}
use Rattle.std.specs.FinMap as map
use Rattle.std.specs.Ordering.{eq_by_cmp}
use Rattle.estelle_tree.specs.declared.link.Link.{Link}
use Rattle.estelle_tree.specs.declared.link.IpAddr.{IpAddr}
use Rattle.estelle_tree.specs.declared.transition.Pair.{Pair}
use Rattle.estelle_tree.specs.Paths.{Path, path_cmp, child, is_inside}
use Rattle.estelle_tree.specs.Links.{is_connection}
use Rattle.estelle_tree.specs.Timers.{Timer, pair_cmp}
use Rattle.estelle_model.specs.declared.image.Part.{Part}
use Rattle.estelle_model.specs.declared.image.Image.{Image}
use Rattle.estelle_model.specs.Core.{Instance, Instances, Core}
use Rattle.estelle_model.specs.Effects.{put_back, changed_in}
use Rattle.estelle_model.specs.Subject.{Subject, ips_of}
use Rattle.estelle_model.specs.InteractionPoints.{point_of, internal_at}
use Rattle.estelle_model.specs.Jobs.{part_of_entry, insert_part, is_internal, is_below_or_own, is_private, private, Shows, outline_of_parts}
use Rattle.estelle_model.specs.Computed.{core_of}
use Rattle.estelle_model.proofs.Pairs.{pairs_total}
use Rattle.estelle_model.proofs.Maps.{total, apart, equal_of, get_inserted, told}
use Rattle.std.specs.Option.{option_or}

-- ---- paths

pub inside_self : (m : Path) → is_inside m m ≡ true
inside_self [] = refl
inside_self (x ∷ m) = ap (λ b. b && is_inside m m) (eq-eqb x x refl) ∙ inside_self m

pub child_inside : (m p : Path) (k : ℕ) → is_inside m p ≡ true → is_inside m (child p k) ≡ true
child_inside [] p k h = refl
child_inside (x ∷ m) [] k h = absurd (cc)
child_inside (x ∷ m) (y ∷ p) k h = go _ _ _ h (child_inside m p k)
  where
    go : (b c d : Bool) → (b && c) ≡ true → (c ≡ true → d ≡ true) → (b && d) ≡ true
    go true c d e f = f e
    go false c d e f = e

pub same_path : (q p : Path) → eq_by_cmp path_cmp q p ≡ true → q ≡ p
same_path q p h = apart q p (equal_of _ h)

pub get_changed : (p : Path) (f : Instance → Instance) (x : Instances) (q : Path) → map.get (changed_in p f x) q ≡ cond (eq_by_cmp path_cmp q p) (option_map f (map.get x p)) (map.get x q)
get_changed p f x q = by (map.get x p) refl
  where
    missing : (b : Bool) → eq_by_cmp path_cmp q p ≡ b → map.get x p ≡ None → map.get x q ≡ cond b None (map.get x q)
    missing true e h = ap (map.get x) (same_path q p e) ∙ h
    missing false e h = refl

    by : (o : Option Instance) → map.get x p ≡ o → map.get (put_back x p f o) q ≡ cond (eq_by_cmp path_cmp q p) (option_map f o) (map.get x q)
    by None h = missing (eq_by_cmp path_cmp q p) refl h
    by (Some i) h = map.get-insert total x p (f i) q

-- ---- what an image shows

pub none_else : {A : Type 0} (o : Option A) → option_or o None ≡ o
none_else None = refl
none_else (Some a) = refl

pub told_parts : (es : List (Path × Instance)) → outline_of_parts (each part_of_entry es) ≡ told (λ i. (i.body, i.births)) es
told_parts [] = refl
told_parts (e ∷ es) = ap (λ more. (e.0, (e.1.body, e.1.births)) ∷ more) (told_parts es)

-- the instances of a core that are at or below m
pub get_inside : (x : Instances) (m q : Path) → map.get (map.retain_keys x (is_inside m)) q ≡ cond (is_inside m q) (map.get x q) None
get_inside x m q = map.get-retain_keys x (is_inside m) q (λ p e. ap (is_inside m) (sym (apart q p e)))

pub core_private : (s : Subject) (c : Core) (m : Path) (image : Image) → Shows image (private s c m) → (core_of s image).instances ≡ map.retain_keys c.instances (is_inside m)
core_private s c m image shows =
    let x : Instances = map.retain_keys c.instances (is_inside m) in
    ap (λ (ps : List Part). fold insert_part map.empty ps) shows.parts
    ∙ map.same_map total apart _ _ (λ q. get_inserted map.empty (map.entries x) (map.entries_sorted x) q ∙ (λ i. option_or (sym (map.get-entries x q) i) (map.get-empty path_cmp q i)) ∙ none_else (map.get x q))

-- ---- links

abbrev pub body_of : Option Instance → Option ℕ
body_of = option_map (λ i. i.body)

pub point_same : (s : Subject) (o o' : Option Instance) → body_of o ≡ body_of o' → (k : ℕ) → point_of s o k ≡ point_of s o' k
point_same s None None e k = refl
point_same s (Some i) (Some j) e k = let same : i.body ≡ j.body = cc in ap (λ b. slice_get (ips_of s b) k) same
point_same s None (Some j) e k = absurd (cc)
point_same s (Some i) None e k = absurd (cc)

pub left_true : (a b : Bool) → (a && b) ≡ true → a ≡ true
left_true true b h = refl
left_true false b h = h

pub right_true : (a b : Bool) → (a && b) ≡ true → b ≡ true
right_true true b h = h
right_true false b h = absurd (cc)

-- paths at or below each other are the same
pub both_inside : (m q : Path) → is_inside m q ≡ true → is_inside q m ≡ true → q ≡ m
both_inside [] [] h k = refl
both_inside [] (y ∷ q) h k = absurd (cc)
both_inside (x ∷ m) [] h k = absurd (cc)
both_inside (x ∷ m) (y ∷ q) h k = λ i. eqb-true y x (left_true (nat_eq y x) (is_inside q m) k) i ∷ both_inside m q (right_true (nat_eq x y) (is_inside m q) h) (right_true (nat_eq y x) (is_inside q m) k) i

module _ (s : Subject) (x y : Instances) (m : Path) (same : body_of (map.get x m) ≡ body_of (map.get y m)) where
  by_sides : (a : IpAddr) (b c : Bool) → is_inside m a.path ≡ b → is_inside a.path m ≡ c → (b && (not c || is_internal s x a)) ≡ (b && (not c || is_internal s y a))
  by_sides a false c h k = refl
  by_sides a true false h k = refl
  by_sides a true true h k = let at : a.path ≡ m = both_inside m a.path h k in
      ap internal_at (point_same s (map.get x a.path) (map.get y a.path) (ap (λ p. body_of (map.get x p)) at ∙ same ∙ sym (ap (λ p. body_of (map.get y p)) at)) a.ip)

  pub own_same : (a : IpAddr) → is_below_or_own s x m a ≡ is_below_or_own s y m a
  own_same a = by_sides a (is_inside m a.path) (is_inside a.path m) refl refl

  pub private_same : (l : Link) → is_private s x m l ≡ is_private s y m l
  private_same l = λ i. cond (is_connection l.kind) (own_same l.first i || own_same l.second i) (is_inside m l.first.path)

  pub privates_same : (ls : List Link) → filter (is_private s x m) ls ≡ filter (is_private s y m) ls
  privates_same ls = λ i. filter (λ l. private_same l i) ls

-- ---- timers

none_less : (b : Bool) (n : ℕ) → n ≡ 0 → cond b (n - 1) n ≡ 0
none_less true n e = omega arith
none_less false n e = e

pub remove_empty : (k : Pair) → map.remove (map.empty {K = Pair} {X = Timer} {R = pair_cmp}) k ≡ map.empty
remove_empty k = map.empty_of_len _ (map.len-remove pairs_total map.empty k ∙ none_less _ _ (map.len-empty pair_cmp Timer))
