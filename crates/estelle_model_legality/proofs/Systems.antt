-- No system stands below a system.
use Rattle.std.proofs.Common.{◌≡◌, true, false, [], ◌∷◌, ◌++◌, Option, Some, None, refl, sym, ap, subst, ◌∙◌, append-nil}
use Rattle.std.specs.Prelude.{IsTrue, is_some, option_and_then}
use Rattle.std.specs.FinMap as map
use Rattle.estelle_tree.specs.Paths.{Path, child, is_inside}
use Rattle.estelle_model.specs.declared.meaning.Attribute.{Attribute}
use Rattle.estelle_model.specs.declared.meaning.Attribute.TheVariants.{Systemprocess, Systemactivity, Process, Activity}
use Rattle.estelle_model.specs.Core.{Instance, Instances}
use Rattle.estelle_model.specs.Subject.{Subject}
use Rattle.estelle_model.specs.Situation.{Situation}
use Rattle.estelle_model.specs.Attributes.{attribute, attribute_at, allows, is_system, IsSystem}
use Rattle.estelle_model.specs.Jobs.{IsThere}
use Rattle.estelle_model_legality.specs.Instances.{MayStand}
use Rattle.estelle_model_legality.specs.Choices.{AreTree}
use Rattle.estelle_model_legality.proofs.Children.{through, inside_way, there_above}

pub legal_tree : (s : Subject) (instances : Instances) → MayStand s instances → AreTree s instances
legal_tree s instances h p k i there = let parent = h.parents p k i there in record { parent = parent.parent; there = parent.there; allowed = parent.allowed }

-- inside what has an attribute there are only attributed modules, and no systems
inside_attributed : (a b : Option Attribute) → IsTrue (allows a b) → is_some a ≡ true → (is_some b ≡ true) × (is_system b ≡ false)
inside_attributed None b h e = absurd (let wrong : false ≡ true = e in cc)
inside_attributed (Some a) None h e = absurd (let wrong : false ≡ true = h in cc)
inside_attributed (Some a) (Some Systemprocess) h e = absurd (let wrong : false ≡ true = h in cc)
inside_attributed (Some a) (Some Systemactivity) h e = absurd (let wrong : false ≡ true = h in cc)
inside_attributed (Some a) (Some Process) h e = (refl, refl)
inside_attributed (Some a) (Some Activity) h e = (refl, refl)

system_has_attribute : (a : Option Attribute) → is_system a ≡ true → is_some a ≡ true
system_has_attribute None e = absurd (let wrong : false ≡ true = e in cc)
system_has_attribute (Some a) e = refl

module _ (s : Subject) (g : Situation) where
  pub system_there : (m : Path) → IsSystem s g m → IsThere g.core.instances m
  system_there m is = by (map.get g.core.instances m) is
    where
      by : (o : Option Instance) → is_system (option_and_then (λ (i : Instance). attribute s i.body) o) ≡ true → (i : Instance) × (o ≡ Some i)
      by None e = absurd (let wrong : false ≡ true = e in cc)
      by (Some i) e = (i, refl)

  module _ (tree : AreTree s g.core.instances) where
    none_below : (r m : Path) → IsThere g.core.instances (m ++ r) → is_some (attribute_at s g m) ≡ true → is_system (attribute_at s g (m ++ r)) ≡ true → r ≡ []
    none_below [] m there has is = refl
    none_below (k ∷ r) m there has is =
        let way : m ++ (k ∷ r) ≡ child m k ++ r = through m k r in
        let below : IsThere g.core.instances (child m k ++ r) = subst (IsThere g.core.instances) way there in
        let here = there_above s g tree r (child m k) below in
        let place = tree m k here.0 here.1 in
        let above : attribute_at s g m ≡ attribute s place.parent.body = ap (option_and_then (λ (i : Instance). attribute s i.body)) place.there in
        let own : attribute_at s g (child m k) ≡ attribute s here.0.body = ap (option_and_then (λ (i : Instance). attribute s i.body)) here.1 in
        let inner = inside_attributed (attribute s place.parent.body) (attribute s here.0.body) place.allowed (ap is_some (sym above) ∙ has) in
        let last : is_system (attribute_at s g (child m k ++ r)) ≡ true = ap (λ (p : Path). is_system (attribute_at s g p)) (sym way) ∙ is in
        let ends : r ≡ [] = none_below r (child m k) below (ap is_some own ∙ inner.0) last in
        let itself : child m k ++ r ≡ child m k = ap (λ (q : Path). child m k ++ q) ends ∙ append-nil (child m k) in
        let wrong : false ≡ true = sym inner.1 ∙ ap is_system (sym own) ∙ ap (λ (p : Path). is_system (attribute_at s g p)) (sym itself) ∙ last in
        absurd (cc)

    -- a system at or below another is the other
    pub one_system : (m n : Path) → IsSystem s g m → IsSystem s g n → is_inside m n ≡ true → n ≡ m
    one_system m n upper lower inside =
        let w = inside_way m n inside in
        let ends : w.0 ≡ [] = none_below w.0 m (subst (IsThere g.core.instances) w.1 (system_there n lower)) (system_has_attribute (attribute_at s g m) upper) (ap (λ (p : Path). is_system (attribute_at s g p)) (sym w.1) ∙ lower) in
        w.1 ∙ ap (λ (q : Path). m ++ q) ends ∙ append-nil m
