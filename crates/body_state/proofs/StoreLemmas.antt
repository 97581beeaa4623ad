-- The instances and the effects that are kept, and what each change of a store makes of them.
use Rattle.std.proofs.Common.{◌≡◌, ℕ, zero, suc, ◌+◌, List, [], ◌∷◌, ◌++◌, map as each, filter, Option, Some, None, Result, Ok, Err, refl, sym, ap, ◌∙◌, add-one, arith}
use Rattle.std.proofs.lemmas.List.{map-append}
use Rattle.std.specs.Prelude.{not, slice_get, slice_set, OnOk, OnErr}
use Rattle.std.specs.declared.alloc.AllocError.{AllocError}
use Rattle.std.specs.FinMap as map
use Rattle.std.specs.FinMap.Entries.{put}
use Rattle.estelle_tree.specs.Paths.{Path, path_cmp, child, is_inside}
use Rattle.estelle_tree.specs.declared.link.IpAddr.{IpAddr}
use Rattle.estelle_model.specs.declared.image.Part.{Part}
use Rattle.estelle_model.specs.Core.{Instance, Instances}
use Rattle.estelle_model.specs.Effects.{born, put_back, changed_in}
use Rattle.estelle_model.specs.Actions.{at, count_from}
use Rattle.estelle_model.specs.Jobs.{part_of_entry, instance_of}
use Rattle.body_state.specs.declared.alteration.Alteration.{Alteration}
use Rattle.body_state.specs.Alterations.{altered, altered_part}
use Rattle.body_state.specs.InOrder.{InOrder, entries_of, are_in_order, instance_in, instances_of, StandsAt}
use Rattle.body_state.proofs.OrderLemmas.{holds_of, true_of}
use Rattle.body_state.proofs.PartLemmas.{shown, listed_parts, order_set, put_shown, order_put, put_inserts, order_kept, kept_retains}

module _ (ps qs : List Part) (s : Instances) (order : InOrder ps) (kept : qs ≡ ps) (is : instances_of ps ≡ s) where
  -- what is looked up
  pub looked_up : (p : Path) (o : Option Instance) → o ≡ instance_in qs p → o ≡ map.get s p
  looked_up p o e = e ∙ ap (λ (rs : List Part). instance_in rs p) kept ∙ sym (shown ps (holds_of _ order) p) ∙ ap (λ (m : Instances). map.get m p) is

  -- all parts
  pub all_parts : qs ≡ each part_of_entry (map.entries s)
  all_parts = kept ∙ listed_parts ps (holds_of _ order) ∙ ap (λ (m : Instances). each part_of_entry (map.entries m)) is

  -- what is not there stays so
  pub unaltered : (p : Path) (f : Instance → Instance) → instance_in qs p ≡ None → s ≡ changed_in p f s
  unaltered p f none = ap (put_back s p f) (looked_up p None (sym none))

  -- ---- a part is altered

  module _ (rs : List Part) (p : Path) (k : ℕ) (by : Alteration) (stands : StandsAt ps p k) where
    is_set : ((part : Part) → slice_get qs k ≡ Some part → rs ≡ slice_set qs k (altered_part by part)) → rs ≡ slice_set ps k (altered_part by stands.0)
    is_set becomes = becomes stands.0 (ap (λ (xs : List Part). slice_get xs k) kept ∙ stands.1) ∙ ap (λ (xs : List Part). slice_set xs k (altered_part by stands.0)) kept

    pub altered_order : (r : Result (Unit {0}) AllocError) → ((part : Part) → slice_get qs k ≡ Some part → OnOk r (rs ≡ slice_set qs k (altered_part by part))) → OnErr r (rs ≡ qs) → InOrder rs
    altered_order (Ok u) becomes stays = ap are_in_order (is_set becomes) ∙ order_set (altered_part by stands.0) ps k stands.0 stands.1 refl ∙ order
    altered_order (Err e) becomes stays = ap are_in_order (stays ∙ kept) ∙ order

    pub altered_instances : (r : Result (Unit {0}) AllocError) → ((part : Part) → slice_get qs k ≡ Some part → OnOk r (rs ≡ slice_set qs k (altered_part by part))) → OnOk r (instances_of rs ≡ changed_in p (altered by) s)
    altered_instances (Ok u) becomes =
        ap instances_of (is_set becomes)
        ∙ sym (put_shown (altered_part by stands.0) ps k stands.0 p (altered by) (holds_of _ order) stands.1 stands.2 stands.2 refl)
        ∙ ap (changed_in p (altered by)) is
    altered_instances (Err e) becomes = tt

  -- ---- a part is put in its place

  module _ (rs : List Part) where
    is_put : (new : Part) → entries_of rs ≡ put path_cmp new.path (instance_of new) (entries_of qs) → entries_of rs ≡ put path_cmp new.path (instance_of new) (entries_of ps)
    is_put new becomes = becomes ∙ ap (λ (xs : List Part). put path_cmp new.path (instance_of new) (entries_of xs)) kept

    pub put_order : (new : Part) (r : Result (Unit {0}) AllocError) → OnOk r (entries_of rs ≡ put path_cmp new.path (instance_of new) (entries_of qs)) → OnErr r (rs ≡ qs) → InOrder rs
    put_order new (Ok u) becomes stays = true_of _ (order_put new ps rs (holds_of _ order) (is_put new becomes))
    put_order new (Err e) becomes stays = ap are_in_order (stays ∙ kept) ∙ order

    pub put_instances : (new : Part) (r : Result (Unit {0}) AllocError) → OnOk r (entries_of rs ≡ put path_cmp new.path (instance_of new) (entries_of qs)) → OnOk r (instances_of rs ≡ map.insert s new.path (instance_of new))
    put_instances new (Ok u) becomes =
        put_inserts new ps rs (holds_of _ order) (is_put new becomes)
        ∙ ap (λ (m : Instances). map.insert m new.path (instance_of new)) is
    put_instances new (Err e) becomes = tt

  -- ---- parts are removed

  module _ (rs : List Part) (p : Path) (becomes : rs ≡ filter (λ (x : Part). not (is_inside p x.path)) qs) where
    is_cut : rs ≡ filter (λ (x : Part). not (is_inside p x.path)) ps
    is_cut = becomes ∙ ap (filter (λ (x : Part). not (is_inside p x.path))) kept

    pub cut_order : InOrder rs
    cut_order = ap are_in_order is_cut ∙ true_of _ (order_kept (λ q. not (is_inside p q)) ps (holds_of _ order))

    pub cut_instances : instances_of rs ≡ map.retain_keys s (λ q. not (is_inside p q))
    cut_instances = ap instances_of is_cut ∙ kept_retains (λ q. not (is_inside p q)) ps (holds_of _ order) ∙ ap (λ (m : Instances). map.retain_keys m (λ q. not (is_inside p q))) is

-- ---- a child is made

pub created_instances : (r : Result (Unit {0}) AllocError) (s n after : Instances) (p q : Path) (k : ℕ) (part new : Part) → n ≡ changed_in p born s → q ≡ child p k → new ≡ record part { path = q }
    → OnOk r (after ≡ map.insert n new.path (instance_of new)) → OnOk r (after ≡ map.insert (changed_in p born s) (child p k) (instance_of part))
created_instances (Ok u) s n after p q k part new bears below copied makes =
    makes
    ∙ (λ i. map.insert (bears i) (copied i).path (instance_of (copied i)))
    ∙ ap (λ (r : Path). map.insert (changed_in p born s) r (instance_of part)) below
created_instances (Err e) s n after p q k part new bears below copied makes = tt

-- ---- interaction points

count_more : (k n : ℕ) → count_from k (suc n) ≡ count_from k n ++ (k + n) ∷ []
count_more k zero = ap (λ j. j ∷ []) {x = k} {y = k + 0} (omega arith)
count_more k (suc n) = ap (λ ks. k ∷ ks) (count_more (suc k) n ∙ ap (λ j. count_from (suc k) n ++ j ∷ []) {x = suc k + n} {y = k + suc n} (omega arith))

-- one more interaction point
pub points_more : (p q : Path) (n k : ℕ) (before after : List IpAddr) → before ≡ each (at p) (count_from 0 n) → q ≡ p → k ≡ n → after ≡ before ++ record { path = q; ip = k } ∷ [] → after ≡ each (at p) (count_from 0 (n + 1))
points_more p q n k before after are same number more = rw add-one (
    more
    ∙ (λ i. are i ++ record { path = same i; ip = number i } ∷ [])
    ∙ sym (map-append (at p) (count_from 0 n) (n ∷ []))
    ∙ ap (λ j. each (at p) (count_from 0 n ++ j ∷ [])) {x = n} {y = 0 + n} (omega arith)
    ∙ ap (each (at p)) (sym (count_more 0 n)))
