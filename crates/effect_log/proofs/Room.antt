-- The room that is left once an effect was made.
use Rattle.std.proofs.Common.{◌≡◌, ◌⊎◌, ℕ, zero, suc, ◌+◌, ◌<◌, ◌≤◌, Bool, true, false, List, [], ◌∷◌, ◌++◌, length, refl, ap, subst, inl, inr, arith, length-append}
use Rattle.std.specs.Prelude.{◌||◌, if◌then◌else◌, All, IsSome, vec_capacity}
use Rattle.std.specs.List.{list_any}
use Rattle.std.proofs.lemmas.List.{get_or_append_left, get_or_at}
use Rattle.std.proofs.lemmas.List.Sums.{sum_by-cons}
use Rattle.estelle_tree.specs.Paths.{Path}
use Rattle.module_tree.specs.Trees.{instance_at}
use Rattle.estelle_model.specs.declared.effect.Effect.{Effect}
use Rattle.estelle_model.specs.declared.effect.Effect.TheVariants as logged
use Rattle.effect_log.specs.declared.shared.Shared.{Shared}
use Rattle.effect_log.specs.declared.notes.Notes.{Notes}
use Rattle.effect_log.specs.Rooms.{outputs_of, links_of, instances_of, points_of, depth_of, removes, outputs_in, drops_in, IsRoomFor}
use Rattle.effect_log.specs.Underway.{HasGiven}

-- ---- rooms

pub all-front : (n : ℕ) (xs ys : List ℕ) → All (λ r. n ≤ r) (xs ++ ys) → All (λ r. n ≤ r) xs
all-front n xs ys h = λ k d less.
    let longer : k < length (xs ++ ys) = let l = length-append xs ys in omega (arith, less, l) in
    subst (λ (r : ℕ). n ≤ r) (get_or_append_left xs ys d k less) (h k d longer)

pub all-last : (n : ℕ) (xs : List ℕ) (x : ℕ) → All (λ r. n ≤ r) (xs ++ x ∷ []) → n ≤ x
all-last n xs x h =
    let within : length xs < length (xs ++ x ∷ []) = let l = length-append xs (x ∷ []) in omega (arith, l) in
    subst (λ (r : ℕ). n ≤ r) (get_or_at xs x [] x (length xs) refl) (h (length xs) x within)

pub all-given : (n : ℕ) (old new : List ℕ) → HasGiven old new → All (λ r. n ≤ r) old → All (λ r. n ≤ r) new
all-given n old new g h = all-front n new g.0 (subst (All (λ r. n ≤ r)) g.1 h)

pub length-given : (old new : List ℕ) → HasGiven old new → length old ≤ length new + 1
length-given old new g = let e = ap length g.1 in let l = length-append new g.0 in omega (arith, e, l, g.2)

pub all-narrower : (n m : ℕ) (xs : List ℕ) → n ≤ m → All (λ r. m ≤ r) xs → All (λ r. n ≤ r) xs
all-narrower n m xs le h = λ k d less. let more = h k d less in omega (arith, le, more)

-- ---- drops

pub drops-other : (e : Effect) (es : List Effect) (w v : ℕ) → removes e ≡ false → v ≤ w + outputs_of e → drops_in es v ≤ drops_in (e ∷ es) w
drops-other e es w v none le = by (list_any removes es) refl
  where
    sum : outputs_in (e ∷ es) ≡ outputs_of e + outputs_in es
    sum = sum_by-cons outputs_of e es

    by : (b : Bool) → list_any removes es ≡ b → (if list_any removes es then v + outputs_in es else 0) ≤ (if removes e || list_any removes es then w + outputs_in (e ∷ es) else 0)
    by true h =
        let left : (if list_any removes es then v + outputs_in es else 0) ≡ v + outputs_in es = ap (λ b. if b then v + outputs_in es else 0) h in
        let right : (if removes e || list_any removes es then w + outputs_in (e ∷ es) else 0) ≡ w + outputs_in (e ∷ es) = (λ i. if none i || h i then w + outputs_in (e ∷ es) else 0) in
        omega (arith, left, right, sum, le)
    by false h =
        let left : (if list_any removes es then v + outputs_in es else 0) ≡ 0 = ap (λ b. if b then v + outputs_in es else 0) h in
        omega (arith, left)

pub drops-removed : (p : Path) (es : List Effect) (w v k : ℕ) → v + k ≡ w → k + drops_in es v ≤ drops_in (logged.Remove p ∷ es) w
drops-removed p es w v k e = by (list_any removes es)
  where
    sum : outputs_in (logged.Remove p ∷ es) ≡ 0 + outputs_in es
    sum = sum_by-cons outputs_of (logged.Remove p) es

    by : (b : Bool) → k + (if b then v + outputs_in es else 0) ≤ w + outputs_in (logged.Remove p ∷ es)
    by true = omega (arith, e, sum)
    by false = omega (arith, e)

-- ---- all of it

-- what an effect takes of the stores and of the room for the notes
pub record Takes (e : Effect) (es : List Effect) (waiting now : ℕ) (shared new : Shared) (notes noted : Notes) : Type 0 where
  pub instances : shared.tree.spare ≤ new.tree.spare + instances_of e
  pub links : shared.links.spare ≤ new.links.spare + links_of e
  pub items : shared.queues.spare ≤ new.queues.spare + outputs_of e
  pub points : shared.queues.room ≤ new.queues.room + points_of e
  pub outs : length noted.outs.items ≤ length notes.outs.items + outputs_of e
  pub outs_space : vec_capacity noted.outs ≡ vec_capacity notes.outs
  pub drops : length noted.drops.items + drops_in es now ≤ length notes.drops.items + drops_in (e ∷ es) waiting
  pub drops_space : vec_capacity noted.drops ≡ vec_capacity notes.drops
  pub arrivals : length noted.arrivals.items ≤ length notes.arrivals.items + outputs_of e
  pub arrivals_space : vec_capacity noted.arrivals ≡ vec_capacity notes.arrivals
  pub rooms : length notes.rooms.items ≤ length noted.rooms.items + outputs_of e
  pub wide : (n : ℕ) → All (λ room. n ≤ room) notes.rooms.items → All (λ room. n ≤ room) noted.rooms.items
  pub within : (p : Path) → IsSome (instance_at new.tree p) → IsSome (instance_at shared.tree p) ⊎ (length p ≤ depth_of e)
  pub dropped : drops_in es now ≤ drops_in (e ∷ es) waiting
  pub dropped_space : vec_capacity noted.dropped ≡ vec_capacity notes.dropped
  pub none_dropped : noted.dropped.items ≡ []
  pub points_space : vec_capacity noted.points ≡ vec_capacity notes.points
  pub no_points : noted.points.items ≡ []

pub room-left : (e : Effect) (es : List Effect) (waiting now : ℕ) (shared new : Shared) (notes noted : Notes) → IsRoomFor (e ∷ es) waiting shared notes → Takes e es waiting now shared new notes noted → IsRoomFor es now new noted
room-left e es waiting now shared new notes noted r t = record {
  instances = let s = sum_by-cons instances_of e es in omega (arith, s, r.instances, t.instances);
  links = let s = sum_by-cons links_of e es in omega (arith, s, r.links, t.links);
  items = let s = sum_by-cons outputs_of e es in omega (arith, s, r.items, t.items);
  points = let s = sum_by-cons points_of e es in omega (arith, s, r.points, t.points);
  outs = let s = sum_by-cons outputs_of e es in omega (arith, s, r.outs, t.outs, t.outs_space);
  drops = omega (arith, r.drops, t.drops, t.drops_space);
  arrivals = let s = sum_by-cons outputs_of e es in omega (arith, s, r.arrivals, t.arrivals, t.arrivals_space);
  rooms = let s = sum_by-cons outputs_of e es in omega (arith, s, r.rooms, t.rooms);
  widest = r.widest;
  wide = t.wide r.widest r.wide;
  within = λ p there. by p (t.within p there);
  made_within = λ k d less. r.made_within (suc k) d (omega (arith, less));
  dropped = omega (arith, r.dropped, t.dropped, t.dropped_space);
  new_points = let s = sum_by-cons points_of e es in omega (arith, s, r.new_points, t.points_space);
  none_dropped = t.none_dropped;
  no_points = t.no_points;
}
  where
    by : (p : Path) → IsSome (instance_at shared.tree p) ⊎ (length p ≤ depth_of e) → length p ≤ r.widest
    by p (inl there) = r.within p there
    by p (inr le) = let first = r.made_within zero e (omega arith) in omega (arith, le, first)
