-- A situation in which an instance acts at once, and the log of what it did on its private part alone: they stay related.
use Rattle.std.proofs.Common.{◌≡◌, ℕ, zero, suc, Bool, true, false, List, [], ◌∷◌, ◌++◌, Option, Some, None, refl, sym, ap, cond, ◌∙◌, inl, inr}
use Rattle.std.specs.Prelude.{◌⊎◌, filter, slice_get, slice_set, option_map, IsPermutation, IsTrue}
use Rattle.std.specs.FinMap as map
use Rattle.std.specs.Ordering.{eq_by_cmp}
use Rattle.std.proofs.lemmas.List.Sums.{fold-append}
use Rattle.estelle_tree.specs.declared.link.IpAddr.{IpAddr}
use Rattle.estelle_tree.specs.Paths.{Path, path_cmp, child, is_inside}
use Rattle.estelle_model.specs.Core.{Instance, Instances, Core}
use Rattle.estelle_model.specs.Effects.{StatementEffect, Output, Connect, Disconnect, Attach, Detach, Create, Remove, Change, Store, Hold, Enter, changed, changed_in, instances_after}
use Rattle.estelle_model.specs.States.{Logged, on_log}
use Rattle.estelle_model.specs.Places.{module_variables_of}
use Rattle.estelle_model.specs.Subject.{Subject}
use Rattle.estelle_model.specs.InteractionPoints.{point, may_join, connectable_at, may_attach_points}
use Rattle.estelle_model.specs.Actions.{is_bound, is_connected, is_upper}
use Rattle.estelle_model.specs.Situation.{Acting, acting_after, on_situation}
use Rattle.estelle_model.specs.Jobs.{is_below_or_own, is_private, MayBeConnected, MayBeAttached, CanBeMade, CanAllBeMade, after_all}
use Rattle.estelle_model.proofs.PrivateParts.{same_path, get_changed, body_of, point_same, own_same}
use Rattle.estelle_model_answers.proofs.Alike.{IsBare, HoldsChild, KeepsAlike}
use Rattle.estelle_model_answers.proofs.Within.{outline_of, other_path, get_after, at_of, outside_after, inside_after, outline_after, body_after, HoldChildren, hold_after}
use Rattle.estelle_model_answers.proofs.Linked.{AreTied, tied_after, private_after, bound_same, connected_same, upper_same, above_same, above_inside}

-- ---- an effect that can be made on one core can be made on each with the same outlines and links

body_of_outline : (o : Option Instance) → body_of o ≡ option_map (λ (x : ℕ × ℕ). x.0) (outline_of o)
body_of_outline None = refl
body_of_outline (Some i) = refl

pub bodies_same : (o o' : Option Instance) → outline_of o ≡ outline_of o' → body_of o ≡ body_of o'
bodies_same o o' e = body_of_outline o ∙ ap (option_map (λ (x : ℕ × ℕ). x.0)) e ∙ sym (body_of_outline o')

abbrev outlined : Instance → ℕ × ℕ
outlined i = (i.body, i.births)

there_same : (o o' : Option Instance) → outline_of o ≡ outline_of o' → (i : Instance) → o ≡ Some i → (j : Instance) × (o' ≡ Some j) × (i.births ≡ j.births)
there_same None o' e i h = absurd (cc)
there_same (Some k) None e i h = absurd (cc)
there_same (Some k) (Some j) e i h = let same : outlined k ≡ outlined j = cc in let is : k ≡ i = cc in (j, refl, sym (ap (λ (x : Instance). x.births) is) ∙ ap (λ (x : ℕ × ℕ). x.1) same)

module _ (s : Subject) (m : Path) (c d : Core) (outlines : (q : Path) → outline_of (map.get c.instances q) ≡ outline_of (map.get d.instances q)) (links : c.links ≡ d.links) where
  points_same : (a : IpAddr) → point s c.instances a ≡ point s d.instances a
  points_same a = point_same s (map.get c.instances a.path) (map.get d.instances a.path) (bodies_same (map.get c.instances a.path) (map.get d.instances a.path) (outlines a.path)) a.ip

  connect_same : (a b : IpAddr) → MayBeConnected s m c.instances a b → MayBeConnected s m d.instances a b
  connect_same a b h = record {
    by = h.by;
    inside = h.inside;
    first = h.first;
    second = h.second;
    allowed = sym (λ i. Rattle.std.specs.Prelude.◌&&◌ (may_join (points_same a i) (points_same b i)) (Rattle.std.specs.Prelude.◌&&◌ (connectable_at h.by a (points_same a i)) (connectable_at h.by b (points_same b i)))) ∙ h.allowed;
    differ = h.differ;
  }

  attach_same : (a b : IpAddr) → MayBeAttached s m c.instances a b → MayBeAttached s m d.instances a b
  attach_same a b h = record { inside = h.inside; number = h.number; below = h.below; allowed = sym (λ i. may_attach_points (points_same a i) (points_same b i)) ∙ h.allowed }

  pub can_same : (e : StatementEffect) → CanBeMade s m e c → CanBeMade s m e d
  can_same (Output from ip name vs) h = (h.0, (h.1.0, sym (points_same from) ∙ h.1.1))
  can_same (Connect a b) h = (connect_same a b h.0, ap (is_bound a) (sym links) ∙ h.1, ap (is_bound b) (sym links) ∙ h.2)
  can_same (Disconnect a) h = (h.0, ap (is_connected a) (sym links) ∙ h.1)
  can_same (Attach a b) h = (attach_same a b h.0, ap (is_upper a) (sym links) ∙ h.1, ap (is_bound b) (sym links) ∙ h.2)
  can_same (Detach a) h = (h.0, ap (is_upper a) (sym links) ∙ h.1)
  can_same (Create p k i) h = let t = there_same (map.get c.instances p) (map.get d.instances p) (outlines p) h.1.0 h.1.1 in (h.0, (t.0, t.1, h.1.2 ∙ ap suc t.2), h.2)
  can_same (Remove p k) h = let t = there_same (map.get c.instances (child p k)) (map.get d.instances (child p k)) (outlines (child p k)) h.1.0 h.1.1 in (h.0, (t.0, t.1))

can_more : (s : Subject) (m : Path) (log : List StatementEffect) (a : Acting) (e : StatementEffect) → CanAllBeMade s m log a → CanBeMade s m e (after_all log a).situation.core → CanAllBeMade s m (log ++ e ∷ []) a
can_more s m [] a e h k = (k, tt)
can_more s m (f ∷ log) a e h k = (h.0, can_more s m log (acting_after f a) e h.1 k)

-- ---- changes

outline_changed : (change : Change) (o : Option Instance) → outline_of (option_map (changed change) o) ≡ outline_of o
outline_changed change None = refl
outline_changed (Store x way v) (Some i) = refl
outline_changed (Hold x held) (Some i) = refl
outline_changed (Enter k) (Some i) = refl

set_held : (xs : List (Option Path)) (v k : ℕ) (h : Option Path) (c : Path) → slice_get (slice_set xs v h) k ≡ Some (Some c) → (slice_get xs k ≡ Some (Some c)) ⊎ (h ≡ Some c)
set_held [] v k h c e = inl e
set_held (x ∷ xs) zero zero h c e = let same : h ≡ Some c = cc in inr same
set_held (x ∷ xs) zero (suc k) h c e = inl e
set_held (x ∷ xs) (suc v) zero h c e = inl e
set_held (x ∷ xs) (suc v) (suc k) h c e = set_held xs v k h c e

changed_held : (p : Path) (change : Change) (o : Option Instance) (c : Path) (k : ℕ) → HoldsChild p change → slice_get (module_variables_of (option_map (changed change) o)) k ≡ Some (Some c) → (slice_get (module_variables_of o) k ≡ Some (Some c)) ⊎ ((n : ℕ) × (c ≡ child p n))
changed_held p change None c k h e = inl e
changed_held p (Store x way v) (Some i) c k h e = inl e
changed_held p (Enter n) (Some i) c k h e = inl e
changed_held p (Hold v held) (Some i) c k h e = by held h (set_held i.module_variables v k held c e)
  where
    by : (held : Option Path) → HoldsChild p (Hold v held) → (slice_get i.module_variables k ≡ Some (Some c)) ⊎ (held ≡ Some c) → (slice_get i.module_variables k ≡ Some (Some c)) ⊎ ((n : ℕ) × (c ≡ child p n))
    by held h (inl f) = inl f
    by None h (inr f) = absurd (cc)
    by (Some d) h (inr f) = let same : d ≡ c = cc in inr (h.0, sym same ∙ h.1)

-- ---- the relation

abbrev pub with_instances : Instances → Acting → Acting
with_instances x a = record a { situation = record a.situation { core = record a.situation.core { instances = x } } }

module _ (s : Subject) (m : Path) (base : Acting) where
  abbrev pub done_by : List StatementEffect → Acting
  done_by log = after_all log base

  -- The log's effects can be made, and all but the records at and below m is what they make of the situation at the beginning; the log shows the private part.
  pub record Follows (a : Acting) (l : Logged) : Type 0 where
    pub types : a.situation.core.types ≡ l.image.types
    pub made : CanAllBeMade s m l.log base
    pub rest : a ≡ with_instances a.situation.core.instances (done_by l.log)
    pub outside : (q : Path) → is_inside m q ≡ false → map.get a.situation.core.instances q ≡ map.get (done_by l.log).situation.core.instances q
    pub inside : (q : Path) → is_inside m q ≡ true → map.get a.situation.core.instances q ≡ map.get l.image.instances q
    pub none : (q : Path) → is_inside m q ≡ false → map.get l.image.instances q ≡ None
    pub outlines : (q : Path) → outline_of (map.get a.situation.core.instances q) ≡ outline_of (map.get (done_by l.log).situation.core.instances q)
    pub body : body_of (map.get a.situation.core.instances m) ≡ body_of (map.get base.situation.core.instances m)
    pub holds : HoldChildren m (map.get a.situation.core.instances)
    pub tied : AreTied (is_below_or_own s base.situation.core.instances m) m a.situation.core.links
    pub private : IsPermutation l.image.links (filter (is_private s base.situation.core.instances m) a.situation.core.links)

  log_more : (log : List StatementEffect) (e : StatementEffect) → done_by (log ++ e ∷ []) ≡ acting_after e (done_by log)
  log_more log e = fold-append (λ b f. acting_after f b) base log (e ∷ [])

  made_follows : (e : StatementEffect) (a : Acting) (l : Logged) → Follows a l → CanBeMade s m e a.situation.core → IsBare e → Follows (acting_after e a) (on_log.does e l)
  made_follows e a l r can bare =
      let x : Instances = a.situation.core.instances in
      let z : Instances = (done_by l.log).situation.core.instances in
      let at = at_of s m e a.situation.core can in
      record {
        types = r.types;
        made = can_more s m l.log base e r.made (can_same s m a.situation.core (done_by l.log).situation.core r.outlines (ap (λ (b : Acting). b.situation.core.links) r.rest) e can);
        rest = ap (acting_after e) r.rest ∙ ap (with_instances (instances_after e x)) (sym (log_more l.log e));
        outside = λ q n. get_after e x q ∙ outside_after m e (map.get x) q at n ∙ r.outside q n ∙ sym (outside_after m e (map.get z) q at n) ∙ sym (get_after e z q) ∙ sym (ap (λ (b : Acting). map.get b.situation.core.instances q) (log_more l.log e));
        inside = λ q n. get_after e x q ∙ inside_after m e (map.get x) (map.get l.image.instances) r.inside at q n ∙ sym (get_after e l.image.instances q);
        none = λ q n. get_after e l.image.instances q ∙ outside_after m e (map.get l.image.instances) q at n ∙ r.none q n;
        outlines = λ q. ap outline_of (get_after e x q) ∙ outline_after e (map.get x) (map.get z) r.outlines q ∙ sym (ap outline_of (get_after e z q)) ∙ sym (ap (λ (b : Acting). outline_of (map.get b.situation.core.instances q)) (log_more l.log e));
        body = ap body_of (get_after e x m) ∙ body_after m e (map.get x) at ∙ r.body;
        holds = λ p c k inside is. hold_after m e (map.get x) r.holds bare p c k inside (ap (λ o. slice_get (module_variables_of o) k) (sym (get_after e x p)) ∙ is);
        tied = tied_after s base.situation.core.instances m e a.situation.core can r.tied;
        private = private_after s base.situation.core.instances m e a.situation.core (own_same s x base.situation.core.instances m r.body) can l.image.links r.private;
      }

  kept_follows : (p : Path) (change : Change) (a : Acting) (l : Logged) → Follows a l → is_inside m p ≡ true → HoldsChild p change → Follows (on_situation.keeps p change a) (on_log.keeps p change l)
  kept_follows p change a l r at child_held =
      let x : Instances = a.situation.core.instances in
      record {
        types = r.types;
        made = r.made;
        rest = ap (on_situation.keeps p change) r.rest;
        outside = λ q n. get_changed p (changed change) x q ∙ ap (λ b. cond b (option_map (changed change) (map.get x p)) (map.get x q)) (other_path m p q at n) ∙ r.outside q n;
        inside = λ q n. get_changed p (changed change) x q ∙ (λ i. cond (eq_by_cmp path_cmp q p) (option_map (changed change) (r.inside p at i)) (r.inside q n i)) ∙ sym (get_changed p (changed change) l.image.instances q);
        none = λ q n. get_changed p (changed change) l.image.instances q ∙ ap (λ b. cond b (option_map (changed change) (map.get l.image.instances p)) (map.get l.image.instances q)) (other_path m p q at n) ∙ r.none q n;
        outlines = λ q. outline_kept x q ∙ r.outlines q;
        body = bodies_same (map.get (changed_in p (changed change) x) m) (map.get x m) (outline_kept x m) ∙ r.body;
        holds = λ q c k inside is. held_by x r.holds q c k inside (eq_by_cmp path_cmp q p) refl (ap (λ o. slice_get (module_variables_of o) k) (sym (get_changed p (changed change) x q)) ∙ is);
        tied = r.tied;
        private = r.private;
      }
    where
      outline_kept : (x : Instances) (q : Path) → outline_of (map.get (changed_in p (changed change) x) q) ≡ outline_of (map.get x q)
      outline_kept x q = ap outline_of (get_changed p (changed change) x q) ∙ by (eq_by_cmp path_cmp q p) refl
        where
          by : (b : Bool) → eq_by_cmp path_cmp q p ≡ b → outline_of (cond b (option_map (changed change) (map.get x p)) (map.get x q)) ≡ outline_of (map.get x q)
          by true e = outline_changed change (map.get x p) ∙ ap (λ t. outline_of (map.get x t)) (sym (same_path q p e))
          by false e = refl

      held_by : (x : Instances) → HoldChildren m (map.get x) → (q c : Path) (k : ℕ) → is_inside m q ≡ true → (b : Bool) → eq_by_cmp path_cmp q p ≡ b → slice_get (module_variables_of (cond b (option_map (changed change) (map.get x p)) (map.get x q))) k ≡ Some (Some c) → (n : ℕ) × (c ≡ child q n)
      held_by x h q c k inside false e is = h q c k inside is
      held_by x h q c k inside true e is = by (changed_held p change (map.get x p) c k child_held is)
        where
          by : (slice_get (module_variables_of (map.get x p)) k ≡ Some (Some c)) ⊎ ((n : ℕ) × (c ≡ child p n)) → (n : ℕ) × (c ≡ child q n)
          by (inl f) = h q c k inside (ap (λ t. slice_get (module_variables_of (map.get x t)) k) (same_path q p e) ∙ f)
          by (inr f) = (f.0, f.1 ∙ ap (λ t. child t f.0) (sym (same_path q p e)))

  own_at : (a : Acting) (l : Logged) → Follows a l → (d : IpAddr) → is_below_or_own s a.situation.core.instances m d ≡ true → is_below_or_own s base.situation.core.instances m d ≡ true
  own_at a l r d h = sym (own_same s a.situation.core.instances base.situation.core.instances m r.body d) ∙ h

  -- whatever a block does keeps it
  pub keeps_following : KeepsAlike Acting Logged on_situation on_log s m Follows
  keeps_following = record {
    types = λ a l r. r.types;
    instances = λ a l r. r.inside;
    children = λ a l r. r.holds;
    bound = λ a l r d own. bound_same s base.situation.core.instances m a.situation.core.links l.image.links r.tied r.private d (own_at a l r d own);
    connected = λ a l r d own. connected_same s base.situation.core.instances m a.situation.core.links l.image.links r.tied r.private d (own_at a l r d own);
    upper = λ a l r d inside. upper_same s base.situation.core.instances m a.situation.core.links l.image.links r.tied r.private d inside;
    above_is = λ a l r d own. above_same s base.situation.core.instances m a.situation.core.links l.image.links r.tied r.private d (own_at a l r d own);
    above_in = λ a l r d b own is. above_inside s base.situation.core.instances m a.situation.core.links l.image.links r.tied r.private d b (own_at a l r d own) is;
    made = λ e a l r can bare. made_follows e a l r can bare;
    kept = λ p change a l r inside holds. kept_follows p change a l r inside holds;
  }
