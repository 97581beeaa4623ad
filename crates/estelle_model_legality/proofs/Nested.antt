-- What is released leaves what may be linked, and a module variable that is empty.
use Rattle.std.proofs.Common.{◌≡◌, ℕ, Bool, true, false, List, [], ◌∷◌, map, Result, Ok, Err, Option, Some, None, refl, sym, ap, subst, ◌∙◌}
use Rattle.std.specs.Prelude.{slice_get, Contains}
use Rattle.std.specs.FinMap as fin
use Rattle.estelle_tree.specs.declared.link.IpAddr.{IpAddr}
use Rattle.estelle_tree.specs.Paths.{Path, child, is_inside, last_of}
use Rattle.estelle_tree.specs.Links.{above}
use Rattle.estelle_model.specs.Core.{Instance, Instances}
use Rattle.estelle_model.specs.Effects.{instances_after}
use Rattle.estelle_model.specs.Effects as effect
use Rattle.estelle_model.specs.Stops.{Stop}
use Rattle.estelle_model.specs.Steps.{Running, StepResult, and_then, checked_at}
use Rattle.estelle_model.specs.declared.meaning.Meaning.{Meaning}
use Rattle.estelle_model.specs.declared.meaning.Meaning.TheVariants.{Module}
use Rattle.estelle_model.specs.Meant.{Meanings}
use Rattle.estelle_model.specs.Places.{child_at}
use Rattle.estelle_model.specs.Plans.{Plan, ◌>>=◌, makes, keeps, for_each, carry}
use Rattle.estelle_model.specs.Subject.{Subject, child_of}
use Rattle.estelle_model.specs.Situation.{Situation, Acting, on_situation}
use Rattle.estelle_model.specs.Actions.{or_no_module, at, count_from, disconnect_where, disconnect_if, detach_above, detach_if, free_point, points_of, release_child, release, is_connected}
use Rattle.estelle_model.proofs.Carried.{carry_then}
use Rattle.estelle_model_legality.proofs.Ways.{last_child, not_below_itself}
use Rattle.estelle_model_legality.proofs.Within.{Within, Outside, Comes, Keeps, outside_same, outside_then}
use Rattle.estelle_model_legality.proofs.Steps.{good_disconnect}
use Rattle.estelle_model_legality.proofs.Acts.{holds_child, good_loosed}
use Rattle.estelle_model_legality.proofs.Making.{good_released}

module _ (s : Subject) (making : List Path) (q : Path) (meant : Meanings) where
  -- a step that leaves instances as they are
  abbrev FreesTo : Situation → StepResult Acting (Unit {0}) → Type 0
  FreesTo g (Ok r) = Within s making r.1.state.situation × Outside q g r.1.state.situation × (r.1.state.situation.core.instances ≡ g.core.instances)
  FreesTo g (Err e) = Unit {0}

  abbrev Frees : Plan (Unit {0}) → Type 0
  Frees p = (t : Running Acting) → Within s making t.state.situation → FreesTo t.state.situation (carry Acting on_situation p t)

  frees_more : (g h : Situation) (o : StepResult Acting (Unit {0})) → Outside q g h → h.core.instances ≡ g.core.instances → FreesTo h o → FreesTo g o
  frees_more g h (Ok r) x e c = (c.0, outside_then q g h r.1.state.situation x c.1, c.2 ∙ e)
  frees_more g h (Err e') x e c = tt

  frees_then : (p f : Plan (Unit {0})) → Frees p → Frees f → Frees (p >>= λ u. f)
  frees_then p f h k t w = subst (FreesTo t.state.situation) (sym (carry_then Acting on_situation p (λ u. f) t)) (go (carry Acting on_situation p t) (h t w))
    where
      go : (o : StepResult Acting (Unit {0})) → FreesTo t.state.situation o → FreesTo t.state.situation (and_then o (λ u. carry Acting on_situation f))
      go (Ok r) c = frees_more t.state.situation r.1.state.situation (carry Acting on_situation f r.1) c.1 c.2 (k r.1 c.0)
      go (Err e) c = tt

  disconnect_frees : (a : IpAddr) → Frees (disconnect_if s a)
  unfolding instances_after
  disconnect_frees a t w = by (is_connected a t.state.situation.core.links)
    where
      by : (b : Bool) → FreesTo t.state.situation (carry Acting on_situation (disconnect_where s a b) t)
      by true = let x = good_disconnect s making q t.state.situation w a in (x.0, x.1, refl)
      by false = (w, outside_same q t.state.situation, refl)

  detach_frees : (k : ℕ) (a : IpAddr) → a.path ≡ child q k → Frees (detach_if s a)
  unfolding instances_after
  detach_frees k a is t w = by (above t.state.situation.core.links a) refl
    where
      by : (o : Option IpAddr) → above t.state.situation.core.links a ≡ o → FreesTo t.state.situation (carry Acting on_situation (detach_above s o) t)
      by None e = (w, outside_same q t.state.situation, refl)
      by (Some upper) e = let x = good_loosed s making q meant t.state.situation w k upper a is e in (x.0, x.1, refl)

  each_frees : (k : ℕ) (ns : List ℕ) → Frees (for_each (free_point s) (map (at (child q k)) ns))
  each_frees k [] t w = (w, outside_same q t.state.situation, refl)
  each_frees k (n ∷ ns) t w = frees_then (free_point s (at (child q k) n)) (for_each (free_point s) (map (at (child q k)) ns))
      (frees_then (disconnect_if s (at (child q k) n)) (detach_if s (at (child q k) n)) (disconnect_frees (at (child q k) n)) (detach_frees k (at (child q k) n) refl))
      (each_frees k ns) t w

  module _ (all_above : (p : Path) → Contains making p → is_inside p q ≡ true) where
    not_making : (k : ℕ) → Contains making (child q k) → ⊥
    not_making k c = not_below_itself q k (all_above (child q k) c)

    -- the child goes, and the variable is empty
    abbrev goes : ℕ → ℕ → Plan (Unit {0})
    goes m k = makes (effect.Remove q k) >>= λ removed. keeps q (effect.Hold m None)

    freed_then : (m k : ℕ) (i : Instance) → slice_get i.module_variables m ≡ Some (Some (child q k)) → (g : Situation) → fin.get g.core.instances q ≡ Some i → (o : StepResult Acting (Unit {0})) → FreesTo g o
        → Comes s making q (Unit {0}) g (and_then o (λ freed. carry Acting on_situation (goes m k)))
    freed_then m k i holding g here (Ok r) c =
        let d = good_released s making q m k r.1.state.situation c.0 i (ap (λ (is : Instances). fin.get is q) c.2 ∙ here) holding (not_making k) in
        (d.0, outside_then q g r.1.state.situation _ c.1 d.1)
    freed_then m k i holding g here (Err e) c = tt

    release_child_keeps : (m k : ℕ) (i : Instance) → slice_get i.module_variables m ≡ Some (Some (child q k)) → (t : Running Acting) → fin.get t.state.situation.core.instances q ≡ Some i → Keeps s making q (Unit {0}) t (carry Acting on_situation (release_child s q m (child q k)) t)
    release_child_keeps m k i holding t here w = by (fin.get t.state.situation.core.instances (child q k))
      where
        by : (o : Option Instance) → Comes s making q (Unit {0}) t.state.situation (and_then (checked_at (or_no_module o) t) (λ n. carry Acting on_situation (for_each (free_point s) (points_of s (child q k) n) >>= λ freed. goes m (last_of (child q k)))))
        by None = tt
        by (Some n) =
            let frees : Plan (Unit {0}) = for_each (free_point s) (points_of s (child q k) n) in
            subst (Comes s making q (Unit {0}) t.state.situation) (sym (carry_then Acting on_situation frees (λ freed. goes m (last_of (child q k))) t))
            (subst (λ (z : ℕ). Comes s making q (Unit {0}) t.state.situation (and_then (carry Acting on_situation frees t) (λ freed. carry Acting on_situation (goes m z)))) (sym (last_child q k))
            (freed_then m k i holding t.state.situation here (carry Acting on_situation frees t) (each_frees k (count_from 0 (child_of s n.body).external) t w)))

    pub release_keeps : (x : Meaning) (t : Running Acting) → Keeps s making q (Unit {0}) t (carry Acting on_situation (release s q x) t)
    release_keeps (Module m) t w = by (child_at q m t.state.situation.core) refl
      where
        by : (r : Result Path Stop) → child_at q m t.state.situation.core ≡ r → Comes s making q (Unit {0}) t.state.situation (and_then (checked_at r t) (λ c. carry Acting on_situation (release_child s q m c)))
        by (Err e) g = tt
        by (Ok c) g =
            let x = holds_child s making q meant t.state.situation w c (m, g) in
            subst (λ (p : Path). Comes s making q (Unit {0}) t.state.situation (carry Acting on_situation (release_child s q m p) t)) (sym x.is)
            (release_child_keeps m x.number x.parent (x.held ∙ ap (λ (p : Path). Some (Some p)) x.is) t x.there w)
    release_keeps _ t w = tt
