-- Each instance of a system is a process or an activity.
use Rattle.std.proofs.Common.{◌≡◌, ◌⊎◌, Bool, true, false, [], ◌∷◌, ◌++◌, Option, Some, None, refl, sym, ap, subst, ◌∙◌, inl, inr, append-nil}
use Rattle.std.specs.Prelude.{IsTrue, option_and_then}
use Rattle.std.specs.FinMap as map
use Rattle.estelle_tree.specs.Paths.{Path, child, is_inside}
use Rattle.estelle_model.specs.declared.meaning.Attribute.{Attribute}
use Rattle.estelle_model.specs.declared.meaning.Attribute.TheVariants.{Systemprocess, Systemactivity, Process, Activity}
use Rattle.estelle_model.specs.Core.{Instance}
use Rattle.estelle_model.specs.Bodies.{BodyAlone}
use Rattle.estelle_model.specs.Subject.{Subject, body}
use Rattle.estelle_model.specs.Situation.{Situation}
use Rattle.estelle_model.specs.Attributes.{attribute, attribute_at, is_system, is_process, is_activity, IsProcess, IsActivity, IsSystem}
use Rattle.estelle_model.specs.Jobs.{IsThere}
use Rattle.estelle_model_legality.specs.Situations.{IsLegal}
use Rattle.estelle_model_legality.proofs.Children.{through, inside_way, there_above, child_has}
use Rattle.estelle_model_legality.proofs.Choosing.{active_child}
use Rattle.estelle_model_legality.proofs.Systems.{legal_tree}
use Rattle.transition_select.specs.Offers.{IsOfKind}

system_active : (a : Option Attribute) → is_system a ≡ true → (is_process a ≡ true) ⊎ (is_activity a ≡ true)
system_active None e = absurd (let wrong : false ≡ true = e in cc)
system_active (Some Systemprocess) e = inl refl
system_active (Some Systemactivity) e = inr refl
system_active (Some Process) e = absurd (let wrong : false ≡ true = e in cc)
system_active (Some Activity) e = absurd (let wrong : false ≡ true = e in cc)

of_kind : (s : Subject) (g : Situation) (m : Path) (b : Bool) → is_process (attribute_at s g m) ≡ b → IsProcess s g m ⊎ IsActivity s g m → IsOfKind s g m b
of_kind s g m true e active = e
of_kind s g m false e (inl is) = let wrong : true ≡ false = sym is ∙ e in absurd (cc)
of_kind s g m false e (inr is) = is

module _ (s : Subject) (g : Situation) (legal : IsLegal s g) where
  active_below : (r m : Path) → IsThere g.core.instances (m ++ r) → IsProcess s g m ⊎ IsActivity s g m → IsProcess s g (m ++ r) ⊎ IsActivity s g (m ++ r)
  active_below [] m there active = subst (λ p. IsProcess s g p ⊎ IsActivity s g p) (sym (append-nil m)) active
  active_below (k ∷ r) m there active =
      let tree = legal_tree s g.core.instances legal.instances in
      let way : m ++ (k ∷ r) ≡ child m k ++ r = through m k r in
      let below : IsThere g.core.instances (child m k ++ r) = subst (IsThere g.core.instances) way there in
      let here = there_above s g tree r (child m k) below in
      subst (λ p. IsProcess s g p ⊎ IsActivity s g p) (sym way) (active_below r (child m k) below (active_child s 0 g tree m (child m k) (child_has s g m k here) active))

  -- by the attribute of its body
  pub kind_is : (system m : Path) → IsSystem s g system → IsTrue (is_inside system m) → (i : Instance) → map.get g.core.instances m ≡ Some i
      → (b : Bool) → b ≡ is_process (option_and_then (λ (x : BodyAlone). attribute s i.body) (body s i.body)) → IsOfKind s g m b
  kind_is system m is inside i there b e =
      let its = legal.instances.bodies m i there in
      let way = inside_way system m inside in
      of_kind s g m b
      (ap (λ o. is_process (option_and_then (λ (j : Instance). attribute s j.body) o)) there ∙ ap (λ o. is_process (option_and_then (λ (x : BodyAlone). attribute s i.body) o)) (sym its.1) ∙ sym e)
      (subst (λ p. IsProcess s g p ⊎ IsActivity s g p) (sym way.1) (active_below way.0 system (i, ap (map.get g.core.instances) (sym way.1) ∙ there) (system_active (attribute_at s g system) is)))
