-- The private part of an instance elsewhere, while another one fires: it stays as it is.
use Rattle.std.proofs.Common.{◌≡◌, ℕ, Bool, true, false, List, Option, None, refl, sym, ap, subst, cond, ◌∙◌}
use Rattle.std.specs.Prelude.{filter}
use Rattle.std.specs.FinMap as map
use Rattle.estelle_tree.specs.Paths.{Path, is_inside}
use Rattle.estelle_model.specs.declared.effect.Effect.{Effect}
use Rattle.estelle_model.specs.declared.image.Image.{Image}
use Rattle.estelle_model.specs.Core.{Instance, Core}
use Rattle.estelle_model.specs.Subject.{Subject}
use Rattle.estelle_model.specs.Situation.{Situation}
use Rattle.estelle_model.specs.Firing.{Firing, begun}
use Rattle.estelle_model.specs.Jobs.{put, private, IsPut}
use Rattle.estelle_model.proofs.Maps.{total, apart}
use Rattle.estelle_model.proofs.Members.{Among}
use Rattle.estelle_model.proofs.PrivateParts.{body_of, inside_self, get_inside, privates_same}
use Rattle.estelle_model_legality.specs.Linked.{MayBeLinked}
use Rattle.estelle_model_apart.proofs.Instances.{put_leaves}
use Rattle.estelle_model_apart.proofs.Links.{mine, ends_inside, links_stay}

found_alike : (b : Bool) (x y : Option Instance) → (b ≡ true → x ≡ y) → cond b x None ≡ cond b y None
found_alike true x y h = h refl
found_alike false x y h = refl

module _ (s : Subject) (g h : Situation) (same : h.core ≡ g.core) (linked : MayBeLinked s g.core.instances g.core.links)
    (m : Path) (n : ℕ) (image : Image) (effects : List Effect) (left : ℕ) (f : Firing) (p : IsPut s m n h image effects left f) where
  -- the firing begins with these instances and links, and ends with those
  abbrev after : Core
  after = (put m p.log image.parts (begun h)).situation.core

  pub instances_left : (q : Path) → is_inside m q ≡ false → map.get after.instances q ≡ map.get g.core.instances q
  instances_left q out = put_leaves s m n h image effects left f p q out ∙ ap (λ (c : Core). map.get c.instances q) same

  -- an instance at and below which nothing is at or below the one that fires
  module _ (q : Path) (elsewhere : (r : Path) → is_inside q r ≡ true → is_inside m r ≡ false) where
    pub private_instances_stay : (private s after q).instances ≡ (private s g.core q).instances
    private_instances_stay = map.same_map total apart (map.retain_keys after.instances (is_inside q)) (map.retain_keys g.core.instances (is_inside q)) (λ r.
        get_inside after.instances q r
        ∙ found_alike (is_inside q r) (map.get after.instances r) (map.get g.core.instances r) (λ e. instances_left r (elsewhere r e))
        ∙ sym (get_inside g.core.instances q r))

    pub private_links_stay : (private s after q).links ≡ (private s g.core q).links
    private_links_stay =
        privates_same s after.instances g.core.instances q (ap body_of (instances_left q (elsewhere q (inside_self q)))) after.links
        ∙ links_stay s g.core.instances q m elsewhere p.log (begun h) p.can_be_made
        (λ l a. ends_inside s g.core.instances q g.core.links linked l (subst (λ (c : Core). Among l (filter (mine s g.core.instances q) c.links)) same a))
        ∙ ap (λ (c : Core). filter (mine s g.core.instances q) c.links) same
