-- Where nothing is due or pending, every system is settled; and what has transitions is at or below a system.
use Rattle.std.proofs.Common.{◌≡◌, ◌⊎◌, ℕ, Bool, true, false, List, [], ◌∷◌, ◌++◌, Option, Some, None, refl, sym, ap, subst, ◌∙◌, inl, inr, append-nil}
use Rattle.std.specs.Prelude.{◌&&◌, IsTrue, is_some, nat_eq, option_and_then, option_map}
use Rattle.std.specs.FinMap as map
use Rattle.estelle_tree.specs.declared.tree.specification.SysAttr.{SysAttr}
use Rattle.estelle_tree.specs.declared.tree.specification.SysAttr.TheVariants as system
use Rattle.estelle_tree.specs.Paths.{Path, child, is_inside}
use Rattle.estelle_model.specs.declared.event.Event.{Event}
use Rattle.estelle_model.specs.declared.meaning.Attribute.{Attribute}
use Rattle.estelle_model.specs.declared.meaning.Attribute.TheVariants.{Systemprocess, Systemactivity, Process, Activity}
use Rattle.estelle_model.specs.Core.{Instance}
use Rattle.estelle_model.specs.Bodies.{system_attribute}
use Rattle.estelle_model.specs.Subject.{Subject}
use Rattle.estelle_model.specs.Situation.{Situation}
use Rattle.estelle_model.specs.Attributes.{attribute, attribute_at, allows, is_system, IsSystem}
use Rattle.estelle_model.specs.Jobs.{IsThere}
use Rattle.estelle_model.specs.Runs.{situation}
use Rattle.estelle_model.proofs.PrivateParts.{inside_self, child_inside}
use Rattle.estelle_model_legality.specs.Choices.{AreTree}
use Rattle.estelle_model_legality.proofs.Members.{Has}
use Rattle.estelle_model_legality.proofs.Children.{through, there_above}
use Rattle.situation_steps.specs.declared.systems.System.{System}
use Rattle.situation_steps.specs.declared.systems.Time.{Time}
use Rattle.situation_steps.specs.Systems.{count_inside, is_due, NoneIsDue}
use Rattle.situation_steps.specs.UnderWay.{HasRoot, IsSettled, IsSettledIfDone, IsUnderWay}
use Rattle.situation_steps.proofs.Listed.{all_at}
use Rattle.situation_steps.proofs.Due.{is_kept}

-- ---- settled systems

no_more : (b : Bool) → (b && true) ≡ false → b ≡ false
no_more true e = e
no_more false e = refl

module _ (s : Subject) (budget : ℕ) (es : List Event) (time : Time) (systems : List System) (w : IsUnderWay s budget es time systems)
    (none : NoneIsDue systems) (idle : (situation s budget es).pending ≡ []) where
  pub none_pending : (x : System) → Has systems x → x.pending ≡ 0
  none_pending x h = (is_kept s budget es time systems w x h).pending ∙ ap (count_inside x.path) idle

  pub none_awaits : (x : System) → Has systems x → x.awaits ≡ false
  none_awaits x h = no_more x.awaits (ap (λ (n : ℕ). x.awaits && nat_eq n 0) (sym (none_pending x h)) ∙ all_at (λ (y : System). is_due y ≡ false) systems x none h)

  pub all_settled : (x : System) → Has systems x → IsSettled s budget (situation s budget es) x.path
  all_settled x h = all_at (IsSettledIfDone s budget (situation s budget es)) systems x w.settled h (none_awaits x h) (none_pending x h)

-- ---- what has an attribute

module _ (s : Subject) (g : Situation) where
  -- it is at or below a system
  abbrev pub IsBelow : Path → Type 0
  IsBelow m = (system : Path) × (IsSystem s g system) × (is_inside system m ≡ true)

  first_below : (m : Path) (o : Option Attribute) → attribute_at s g m ≡ o → IsTrue (allows None o) → (o ≡ None) ⊎ IsBelow m
  first_below m None is h = inl refl
  first_below m (Some Systemprocess) is h = inr (m, ap is_system is, inside_self m)
  first_below m (Some Systemactivity) is h = inr (m, ap is_system is, inside_self m)
  first_below m (Some Process) is h = absurd (let wrong : false ≡ true = h in cc)
  first_below m (Some Activity) is h = absurd (let wrong : false ≡ true = h in cc)

  abbrev MayBeBelow : Path → Type 0
  MayBeBelow m = (attribute_at s g m ≡ None) ⊎ IsBelow m

  root_below : HasRoot g → MayBeBelow []
  root_below r = by s.specification.attr (ap (option_and_then (λ (i : Instance). attribute s i.body)) r.1 ∙ ap (attribute s) r.2)
    where
      by : (o : Option SysAttr) → attribute_at s g [] ≡ option_map system_attribute o → MayBeBelow []
      by None e = inl e
      by (Some (system.Systemprocess span)) e = inr ([], ap is_system e, refl)
      by (Some (system.Systemactivity span)) e = inr ([], ap is_system e, refl)

  module _ (tree : AreTree s g.core.instances) where
    child_below : (m : Path) (k : ℕ) → IsThere g.core.instances (child m k) → MayBeBelow m → MayBeBelow (child m k)
    child_below m k there (inr b) = inr (b.0, b.1, child_inside b.0 m k b.2)
    child_below m k there (inl none) =
        let place = tree m k there.0 there.1 in
        let above : attribute_at s g m ≡ attribute s place.parent.body = ap (option_and_then (λ (i : Instance). attribute s i.body)) place.there in
        let own : attribute_at s g (child m k) ≡ attribute s there.0.body = ap (option_and_then (λ (i : Instance). attribute s i.body)) there.1 in
        elim (first_below (child m k) (attribute s there.0.body) own (subst (λ (o : Option Attribute). IsTrue (allows o (attribute s there.0.body))) (sym above ∙ none) place.allowed)) [
          | inl e ↦ inl (own ∙ e)
          | inr b ↦ inr b
        ]

    all_below : (r m : Path) → IsThere g.core.instances (m ++ r) → MayBeBelow m → MayBeBelow (m ++ r)
    all_below [] m there b = subst MayBeBelow (sym (append-nil m)) b
    all_below (k ∷ r) m there b =
        let below : IsThere g.core.instances (child m k ++ r) = subst (IsThere g.core.instances) (through m k r) there in
        subst MayBeBelow (sym (through m k r)) (all_below r (child m k) below (child_below m k (there_above s g tree r (child m k) below) b))

    pub attributed_below : HasRoot g → (m : Path) (i : Instance) → map.get g.core.instances m ≡ Some i → is_some (attribute s i.body) ≡ true → IsBelow m
    attributed_below r m i there has = by (all_below m [] (i, there) (root_below r))
      where
        by : MayBeBelow m → IsBelow m
        by (inr b) = b
        by (inl none) =
            let wrong : false ≡ true = ap is_some (sym none ∙ ap (option_and_then (λ (j : Instance). attribute s j.body)) there) ∙ has in
            absurd (cc)
