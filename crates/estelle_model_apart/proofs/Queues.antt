-- Queues of an instance elsewhere: where more has come to it, its queues are longer at their ends.
use Rattle.std.proofs.Common.{◌≡◌, Bool, true, false, ◌&&◌, ◌||◌, List, ◌++◌, filter, Option, refl, sym, ap, ap₂, subst, ◌∙◌, inl, inr}
use Rattle.std.specs.Str.{bytes_eq}
use Rattle.std.specs.FinMap as map
use Rattle.std.proofs.lemmas.List.Elements.{filter-append}
use Rattle.estelle_tree.specs.declared.link.IpAddr.{IpAddr}
use Rattle.estelle_tree.specs.Paths.{Path}
use Rattle.estelle_tree.specs.Links.{same_ip}
use Rattle.estelle_model.specs.Core.{Instance}
use Rattle.estelle_model.specs.Subject.{Subject}
use Rattle.estelle_model.specs.InteractionPoints.{point, point_of}
use Rattle.estelle_model.specs.Situation.{Waiting, Situation}
use Rattle.estelle_model.specs.Queues.{common_at, is_common, one_queue, queue}
use Rattle.estelle_model_legality.proofs.Lists.{and_both, or_cases, same_path}
use Rattle.estelle_model_legality.proofs.Linking.{same_ip_is}
use Rattle.estelle_model_legality.proofs.Within.{filter_within}

-- two points of one queue are of one instance
pub one_instance : (s : Subject) (g : Situation) (a b : IpAddr) → one_queue s g.core.instances a b ≡ true → a.path ≡ b.path
one_instance s g a b h = elim (or_cases (same_ip a b) (bytes_eq a.path b.path && (is_common s g.core.instances a && is_common s g.core.instances b)) h) [
  | inl e ↦ ap (λ (x : IpAddr). x.path) (same_ip_is a b e)
  | inr e ↦ same_path a.path b.path (and_both (bytes_eq a.path b.path) (is_common s g.core.instances a && is_common s g.core.instances b) e).0
]

module _ (s : Subject) (g h : Situation) (q : Path) (there : map.get h.core.instances q ≡ map.get g.core.instances q) where
  same_point : (a : IpAddr) → a.path ≡ q → point s h.core.instances a ≡ point s g.core.instances a
  same_point a e = ap (λ (o : Option Instance). point_of s o a.ip) (ap (map.get h.core.instances) e ∙ there ∙ sym (ap (map.get g.core.instances) e))

  same_queue : (a b : IpAddr) → a.path ≡ q → b.path ≡ q → one_queue s h.core.instances a b ≡ one_queue s g.core.instances a b
  same_queue a b ea eb = ap₂ (λ (x y : Bool). same_ip a b || (bytes_eq a.path b.path && (x && y))) (ap common_at (same_point a ea)) (ap common_at (same_point b eb))

  alike : (a : IpAddr) → a.path ≡ q → (b : IpAddr) → one_queue s h.core.instances a b ≡ one_queue s g.core.instances a b
  alike a e b = by (one_queue s h.core.instances a b) refl (one_queue s g.core.instances a b) refl
    where
      wrong : (k : Situation) → one_queue s k.core.instances a b ≡ true → one_queue s h.core.instances a b ≡ one_queue s g.core.instances a b
      wrong k t = same_queue a b e (sym (one_instance s k a b t) ∙ e)

      by : (x : Bool) → one_queue s h.core.instances a b ≡ x → (y : Bool) → one_queue s g.core.instances a b ≡ y → one_queue s h.core.instances a b ≡ one_queue s g.core.instances a b
      by true f y k = wrong h f
      by false f true k = wrong g k
      by false f false k = f ∙ sym k

  -- of what waits at some paths, the instance's among them, more has come behind the others
  module _ (at : Path → Bool) (at_q : at q ≡ true) (more : List Waiting) (mail : filter (λ (w : Waiting). at w.at.path) h.mail ≡ filter (λ (w : Waiting). at w.at.path) g.mail ++ more) where
    in_it : (k : Situation) (a : IpAddr) → a.path ≡ q → (w : Waiting) → one_queue s k.core.instances a w.at ≡ true → at w.at.path ≡ true
    in_it k a e w t = subst (λ (p : Path). at p ≡ true) (sym e ∙ one_instance s k a w.at t) at_q

    pub queue_grows : (a : IpAddr) → a.path ≡ q → queue s h a ≡ queue s g a ++ filter (λ (w : Waiting). one_queue s g.core.instances a w.at) more
    queue_grows a e =
        let here : Waiting → Bool = λ w. at w.at.path in
        let test : Waiting → Bool = λ w. one_queue s g.core.instances a w.at in
        sym (filter_within (λ w. one_queue s h.core.instances a w.at) here h.mail (in_it h a e))
        ∙ ap (filter (λ (w : Waiting). one_queue s h.core.instances a w.at)) mail
        ∙ (λ i. filter (λ (w : Waiting). alike a e w.at i) (filter here g.mail ++ more))
        ∙ filter-append test (filter here g.mail) more
        ∙ ap (λ (ws : List Waiting). ws ++ filter test more) (filter_within test here g.mail (in_it g a e))
