-- What waits first at an interaction point, by what the queues hold.
use Rattle.std.proofs.Common.{◌≡◌, ◌≢◌, Bool, true, false, cond, List, [], ◌∷◌, Option, Some, None, is_some, refl, sym, ap, ◌∙◌, eqb-true}
use Rattle.std.specs.Prelude.{◌||◌, ◌&&◌, nat_eq, slice_get}
use Rattle.std.specs.Str.{bytes_eq}
use Rattle.std.specs.Cmp.Lexicographic.{bytes_decides}
use Rattle.estelle_tree.specs.declared.link.IpAddr.{IpAddr}
use Rattle.estelle_tree.specs.Links.{same_ip}
use Rattle.queue_store.specs.Queues.{Queue, is_declared, queue_of}
use Rattle.estelle_model.specs.declared.image.Interaction.{Interaction}
use Rattle.estelle_model.specs.declared.meaning.InteractionPoint.{InteractionPoint}
use Rattle.estelle_model.specs.Transitions.{When}
use Rattle.estelle_model.specs.Subject.{Subject}
use Rattle.estelle_model.specs.InteractionPoints.{point}
use Rattle.estelle_model.specs.Situation.{Waiting, Situation}
use Rattle.estelle_model.specs.Queues.{Found, NotNeeded, Head, Absent, common_at, one_queue, queue, head_at, is_named, named}
use Rattle.estelle_model.specs.Jobs.{IsIp}
use Rattle.estelle_model.specs.Asked.{head_of}
use Rattle.estelle_model.proofs.Members.{contained}
use Rattle.estelle_model.proofs.PrivateParts.{left_true, right_true}
use Rattle.estelle_model_legality.specs.Situations.{IsLegal}
use Rattle.estelle_model_legality.specs.Jobs.{item_of}
use Rattle.effect_log.specs.declared.shared.Shared.{Shared}
use Rattle.effect_log.specs.Standing.{Stands}
use Rattle.effect_log.proofs.Lists.{filter-alike, filter-nothing}
use Rattle.effect_log.proofs.Ways.{some-map}
use Rattle.effect_log.proofs.Filing.{declared-found}
use Rattle.effect_log.proofs.After.{queues-held}

-- ---- points that are not there

one_address : (a b : IpAddr) → same_ip a b ≡ true → a ≡ b
one_address a b e =
    let path : a.path ≡ b.path = (bytes_decides a.path b.path).0 (left_true (bytes_eq a.path b.path) (nat_eq a.ip b.ip) e) in
    let ip : a.ip ≡ b.ip = eqb-true a.ip b.ip (right_true (bytes_eq a.path b.path) (nat_eq a.ip b.ip) e) in
    λ i. record { path = path i; ip = ip i }

not_both : (b : Bool) → (b && false) ≡ false
not_both true = refl
not_both false = refl

module _ (s : Subject) (g : Situation) (legal : IsLegal s g) (a : IpAddr) where
  -- in its queue is nothing that waits
  not_in : point s g.core.instances a ≡ None → (w : Waiting) → IsIp s g.core.instances w.at → one_queue s g.core.instances a w.at ≡ false
  not_in none w there =
      ap (λ o. same_ip a w.at || (bytes_eq a.path w.at.path && (common_at o && common_at (point s g.core.instances w.at)))) none
      ∙ by (same_ip a w.at) refl
    where
      by : (b : Bool) → same_ip a w.at ≡ b → (b || (bytes_eq a.path w.at.path && false)) ≡ false
      by true e = let wrong : None ≡ Some there.0 = sym none ∙ ap (point s g.core.instances) (one_address a w.at e) ∙ there.1 in absurd (cc)
      by false e = not_both (bytes_eq a.path w.at.path)

  pub nothing_waits : point s g.core.instances a ≡ None → queue s g a ≡ []
  nothing_waits none =
      filter-alike (λ w. one_queue s g.core.instances a w.at) (λ w. false) g.mail (λ w m. let may = (legal.mail.each w (contained g.mail w m)).arrives in not_in none w (may.at, may.there))
      ∙ filter-nothing (λ w. false) g.mail (λ w. refl)

some_is : {A : Type 0} (o : Option A) → is_some o ≡ true → (x : A) × (o ≡ Some x)
some_is None e = absurd (cc)
some_is (Some x) e = (x, refl)

none_is : {A : Type 0} (o : Option A) → is_some o ≡ false → o ≡ None
none_is None e = refl
none_is (Some x) e = absurd (cc)

-- ---- heads

-- where it waits at the point
pub head_where : (a : IpAddr) (ws : List Waiting) (w : Waiting) → Some w ≡ slice_get ws 0 → (b : Bool) → same_ip a w.at ≡ b → head_of (head_at a ws) ≡ cond b (Some w.item) None
head_where a [] w e b is = absurd (cc)
head_where a (v ∷ vs) w e b is =
    let same : v ≡ w = cc in
    ap (λ (x : Waiting). head_of (cond (same_ip a x.at) (Head x.item) Absent)) same ∙ ap (λ c. head_of (cond c (Head w.item) Absent)) is ∙ by b
  where
    by : (b : Bool) → head_of (cond b (Head w.item) Absent) ≡ cond b (Some w.item) None
    by true = refl
    by false = refl

nothing_first : (ws : List Waiting) → None ≡ slice_get ws 0 → ws ≡ []
nothing_first [] e = refl
nothing_first (w ∷ ws) e = absurd (cc)

module _ (s : Subject) (shared : Shared) (g : Situation) (stands : Stands s shared g) (legal : IsLegal s g) (a : IpAddr) where
  declared_is : is_declared a shared.queues.queues ≡ is_some (point s g.core.instances a)
  declared_is =
      declared-found a shared.queues.queues
      ∙ sym (some-map (λ (q : Queue Interaction). q.common) _)
      ∙ ap is_some (stands.queues.declared a)
      ∙ some-map (λ (p : InteractionPoint). p.common) (point s g.core.instances a)

  -- nothing is found at a point that has no queue
  pub not_declared : is_declared a shared.queues.queues ≡ false → head_of (head_at a (queue s g a)) ≡ None
  not_declared e = ap (λ ws. head_of (head_at a ws)) (nothing_waits s g legal a (none_is (point s g.core.instances a) (sym declared_is ∙ e)))

  queue_is : is_declared a shared.queues.queues ≡ true → queue_of a shared.queues.queues ≡ queue s g a
  queue_is e = let there = some_is (point s g.core.instances a) (sym declared_is ∙ e) in (queues-held s shared g stands a there.0 there.1).1

  -- nor where its queue is empty
  pub empty_queue : is_declared a shared.queues.queues ≡ true → None ≡ slice_get (queue_of a shared.queues.queues) 0 → head_of (head_at a (queue s g a)) ≡ None
  empty_queue e none = ap (λ ws. head_of (head_at a ws)) (sym (queue_is e) ∙ nothing_first (queue_of a shared.queues.queues) none)

  -- the first in its queue is found where it waits at the point
  pub first_found : is_declared a shared.queues.queues ≡ true → (w : Waiting) → Some w ≡ slice_get (queue_of a shared.queues.queues) 0 → (b : Bool) → same_ip a w.at ≡ b → head_of (head_at a (queue s g a)) ≡ cond b (Some w.item) None
  first_found e w first b is = ap (λ ws. head_of (head_at a ws)) (sym (queue_is e)) ∙ head_where a (queue_of a shared.queues.queues) w first b is

-- ---- what a pending firing receives

-- what it receives is the head that it finds
pub item_found : (w : Option When) (f : Found) → named w f ≢ Absent → item_of (named w f) ≡ head_of f
item_found w NotNeeded here = refl
item_found w (Head i) here = by (is_named i w) refl here
  where
    by : (b : Bool) → is_named i w ≡ b → cond b (Head i) Absent ≢ Absent → item_of (cond b (Head i) Absent) ≡ Some i
    by true e here = refl
    by false e here = absurd (here refl)
item_found w Absent here = absurd (here refl)
