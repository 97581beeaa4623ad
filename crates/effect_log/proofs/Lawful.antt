-- The situations in which a firing begins, and the effects of its log.
use Rattle.std.proofs.Common.{◌≡◌, ℕ, ◌≤◌, Bool, true, false, cond, List, [], ◌∷◌, length, Option, Some, None, refl, sym, ap, subst, ◌∙◌, inl, inr, arith}
use Rattle.std.specs.Prelude.{if◌then◌else◌, drop, option_map, option_and_then, Contains}
use Rattle.std.specs.FinMap as map
use Rattle.estelle_tree.specs.declared.link.IpAddr.{IpAddr}
use Rattle.estelle_tree.specs.declared.link.LinkKind.{LinkKind}
use Rattle.estelle_tree.specs.declared.link.LinkKind.TheVariants.{Connection, Attachment}
use Rattle.estelle_tree.specs.Paths.{Path, path_cmp, child}
use Rattle.estelle_tree.specs.Links.{is_connection}
use Rattle.estelle_tree.specs.Queues.{waits_at}
use Rattle.estelle_tree.specs.Queues as queues
use Rattle.module_tree.proofs.Paths.{parent_of-child, last_of-child, not_root}
use Rattle.queue_store.specs.Queues.{Queue, taken}
use Rattle.queue_store.specs.Holds.{holds, sharing}
use Rattle.queue_store.proofs.TableLaws.{same_ip-equal}
use Rattle.queue_store.proofs.HoldsLaws.{holds-taken}
use Rattle.estelle_model.specs.declared.image.Interaction.{Interaction}
use Rattle.estelle_model.specs.Core.{Instance, Instances}
use Rattle.estelle_model.specs.Effects.{StatementEffect, Output, Connect, Disconnect, Attach, Detach, Create, Remove}
use Rattle.estelle_model.specs.Transitions.{When, Transition}
use Rattle.estelle_model.specs.Subject.{Subject}
use Rattle.estelle_model.specs.Situation.{Waiting, Situation}
use Rattle.estelle_model.specs.Queues.{Head, Absent, head_at, named, received, queue, one_queue}
use Rattle.estelle_model.specs.Firing as firing
use Rattle.estelle_model.specs.Firing.{root, alone, bare, transition_at}
use Rattle.estelle_model.specs.Jobs.{IsIp, logged_as, all_logged, taken_by, received_by, IsHead}
use Rattle.estelle_model.proofs.Maps.{total}
use Rattle.estelle_model.proofs.Members.{Among, among, contained, among_filter}
use Rattle.estelle_model_legality.specs.Linked.{MayLinkAs}
use Rattle.estelle_model_legality.specs.Situations.{IsLegal}
use Rattle.effect_log.specs.Standing.{AreQueuesOf}
use Rattle.effect_log.specs.Putting.{effect_of, effects_of}
use Rattle.effect_log.specs.Underway.{IsSound, AreLogged, receives_at, head_taken}
use Rattle.effect_log.proofs.Filing.{filed-on_queue, sharing-found}
use Rattle.effect_log.proofs.Points.{there-connected, there-attached, key-apart}
use Rattle.effect_log.proofs.After.{filed-of, queues-of, queue-found}

-- ---- where a firing begins

-- a link that may stand lies between points that are there
linked-ends : (s : Subject) (x : Instances) (k : LinkKind) (a b : IpAddr) → MayLinkAs s x k a b → IsIp s x a × IsIp s x b
linked-ends s x Connection a b h = there-connected s x h.0 a b h.3
linked-ends s x Attachment a b h = there-attached s x a b h.2

linked-down : (s : Subject) (x : Instances) (k : LinkKind) (a b : IpAddr) → MayLinkAs s x k a b → is_connection k ≡ false → (n : ℕ) × (b.path ≡ child a.path n)
linked-down s x Connection a b h e = absurd (cc)
linked-down s x Attachment a b h e = (h.0, h.1)

pub legal-sound : (s : Subject) (g : Situation) → IsLegal s g → IsSound s g
legal-sound s g legal = record {
  ends = λ l h. linked-ends s g.core.instances l.kind l.first l.second (legal.links.each l h);
  down = λ l h. linked-down s g.core.instances l.kind l.first l.second (legal.links.each l h);
  waits = λ w h. let may = (legal.mail.each w h).arrives in (may.at, may.there);
  parents = λ p k i there. let h = legal.instances.parents p k i there in (h.parent, h.there, h.born);
}

nothing-in : {A : Type 0} (x : A) → Contains [] x → ⊥
nothing-in x h = let none = h.1 in absurd (omega (arith, none))

root-alone : (o : Option Instance) (p : Path) (k : ℕ) → map.get (alone o) (child p k) ≡ None
root-alone None p k = map.get-empty path_cmp (child p k)
root-alone (Some i) p k =
    map.get-insert total map.empty [] i (child p k) ∙ ap (λ b. cond b (Some i) (map.get {R = path_cmp} map.empty (child p k))) (key-apart (child p k) [] (not_root p k)) ∙ map.get-empty path_cmp (child p k)

pub bare-sound : (s : Subject) → IsSound s (bare s)
bare-sound s = record {
  ends = λ l h. absurd (nothing-in l h);
  down = λ l h. absurd (nothing-in l h);
  waits = λ w h. absurd (nothing-in w h);
  parents = λ p k i there. let wrong : None ≡ Some i = sym (root-alone (root s) p k) ∙ there in absurd (cc);
}

-- ---- what a transition receives

-- what is left waits where it did
among-left : (f : IpAddr → Bool) (mail : List Waiting) (w : Waiting) → Among w (queues.without_head f mail) → Among w mail
among-left f [] w m = absurd m
among-left f (v ∷ vs) w m = by (f v.at) m (among-left f vs w)
  where
    by : (b : Bool) → Among w (if b then vs else v ∷ queues.without_head f vs) → (Among w (queues.without_head f vs) → Among w vs) → Among w (v ∷ vs)
    by true m rest = inr m
    by false (inl e) rest = inl e
    by false (inr m) rest = inr (rest m)

length-left : (f : IpAddr → Bool) (mail : List Waiting) → length (queues.without_head f mail) ≤ length mail
length-left f [] = omega arith
length-left f (v ∷ vs) = by (f v.at) (length-left f vs)
  where
    by : (b : Bool) → length (queues.without_head f vs) ≤ length vs → length (if b then vs else v ∷ queues.without_head f vs) ≤ length (v ∷ vs)
    by true rest = omega arith
    by false rest = omega (arith, rest)

-- the point of a `when`, if there is one
abbrev pub when_ip : Option Transition → Option ℕ
when_ip o = option_and_then (λ t. option_map (λ w. w.ip) t.when) o

module _ (s : Subject) (g : Situation) (p : Path) where
  sound-left : IsSound s g → (f : IpAddr → Bool) → IsSound s (record g { mail = queues.without_head f g.mail })
  sound-left sound f = record {
    ends = sound.ends;
    down = sound.down;
    waits = λ w h. sound.waits w (contained g.mail w (among-left f g.mail w (among (queues.without_head f g.mail) w h)));
    parents = sound.parents;
  }

  pub sound-taken : IsSound s g → (o : Option Transition) → IsSound s (taken_by s g p o)
  sound-taken sound None = sound
  sound-taken sound (Some t) = by t.when
    where
      by : (w : Option When) → IsSound s (firing.taken s g p w)
      by None = sound
      by (Some w) = sound-left sound (one_queue s g.core.instances (record { path = p; ip = w.ip }))

  pub length-taken : (o : Option Transition) → length (taken_by s g p o).mail ≤ length g.mail
  length-taken None = omega arith
  length-taken (Some t) = by t.when
    where
      by : (w : Option When) → length (firing.taken s g p w).mail ≤ length g.mail
      by None = omega arith
      by (Some w) = length-left (one_queue s g.core.instances (record { path = p; ip = w.ip })) g.mail

  -- the head waits at a point that is there
  head-there : IsSound s g → (ip : ℕ) → (i : Interaction) → head_at (record { path = p; ip = ip }) (queue s g (record { path = p; ip = ip })) ≡ Head i → IsIp s g.core.instances (record { path = p; ip = ip })
  head-there sound ip i is = by (queue s g (record { path = p; ip = ip })) is (λ w m. m)
    where
      by : (ws : List Waiting) → head_at (record { path = p; ip = ip }) ws ≡ Head i → ((w : Waiting) → Among w ws → Among w (queue s g (record { path = p; ip = ip }))) → IsIp s g.core.instances (record { path = p; ip = ip })
      by [] e inside = absurd (cc)
      by (w ∷ ws) e inside = at (waits_at (record { path = p; ip = ip }) w) refl e
        where
          at : (b : Bool) → waits_at (record { path = p; ip = ip }) w ≡ b → (if b then Head w.item else Absent) ≡ Head i → IsIp s g.core.instances (record { path = p; ip = ip })
          at true f e =
              subst (IsIp s g.core.instances) (sym (same_ip-equal (record { path = p; ip = ip }) w.at f))
              (sound.waits w (contained g.mail w ((among_filter (λ v. one_queue s g.core.instances (record { path = p; ip = ip }) v.at) g.mail w (inside w (inl refl))).0)))
          at false f e = absurd (cc)

  named-there : IsSound s g → (w : When) (head : Option Interaction) → (ws : List Waiting) → queue s g (record { path = p; ip = w.ip }) ≡ ws → IsHead (named (Some w) (head_at (record { path = p; ip = w.ip }) ws)) head → IsIp s g.core.instances (record { path = p; ip = w.ip })
  named-there sound w head [] is h = absurd h
  named-there sound w head (v ∷ vs) is h = by (waits_at (record { path = p; ip = w.ip }) v) refl h
    where
      by : (b : Bool) → waits_at (record { path = p; ip = w.ip }) v ≡ b → IsHead (named (Some w) (if b then Head v.item else Absent)) head → IsIp s g.core.instances (record { path = p; ip = w.ip })
      by true e h = head-there sound w.ip v.item (ap (head_at (record { path = p; ip = w.ip })) is ∙ ap (λ b. if b then Head v.item else Absent) e)
      by false e h = absurd h

  -- where a transition receives there is a point, if what it receives is there
  pub when-there : IsSound s g → (o : Option Transition) (head : Option Interaction) → IsHead (received_by s g p o) head → (ip : ℕ) → when_ip o ≡ Some ip → IsIp s g.core.instances (record { path = p; ip = ip })
  when-there sound None head h ip e = absurd (cc)
  when-there sound (Some t) head h ip e = by t.when h e
    where
      by : (w : Option When) → IsHead (received s g p w) head → option_map (λ w. w.ip) w ≡ Some ip → IsIp s g.core.instances (record { path = p; ip = ip })
      by None h e = absurd (cc)
      by (Some w) h e =
          let same : w.ip ≡ ip = cc in
          subst (λ k. IsIp s g.core.instances (record { path = p; ip = k })) same (named-there sound w head (queue s g (record { path = p; ip = w.ip })) refl h)

  module _ (qs : List (Queue Interaction)) (h : AreQueuesOf s g qs) where
    taken-queues : (ip : ℕ) → IsIp s g.core.instances (record { path = p; ip = ip }) → AreQueuesOf s (record g { mail = queues.without_head (one_queue s g.core.instances (record { path = p; ip = ip })) g.mail }) (taken (record { path = p; ip = ip }) qs)
    taken-queues ip there =
        let a : IpAddr = record { path = p; ip = ip } in
        let q = queue-found s g qs h a there in
        let alike : (b : IpAddr) → sharing a qs b ≡ one_queue s g.core.instances a b = λ b. sharing-found a qs q.0 q.1 b ∙ h.together a q.0 q.1 b in
        queues-of s (record g { mail = queues.without_head (one_queue s g.core.instances a) g.mail }) (taken a qs)
        (filed-on_queue a (λ r. drop 1 r.items) _ qs (filed-of s g qs h))
        (subst (λ f. holds (taken a qs) (queues.without_head f g.mail)) (λ i b. alike b i) (holds-taken a qs g.mail h.apart h.waiting))

    -- with the head taken, the queues are those of the situation without it
    pub head-taken : (o : Option Transition) → ((ip : ℕ) → when_ip o ≡ Some ip → IsIp s g.core.instances (record { path = p; ip = ip })) → AreQueuesOf s (taken_by s g p o) (head_taken p (when_ip o) qs)
    head-taken None there = h
    head-taken (Some t) there = by t.when there
      where
        by : (w : Option When) → ((ip : ℕ) → option_map (λ w. w.ip) w ≡ Some ip → IsIp s g.core.instances (record { path = p; ip = ip })) → AreQueuesOf s (firing.taken s g p w) (head_taken p (option_map (λ w. w.ip) w) qs)
        by None there = h
        by (Some w) there = taken-queues w.ip (there w.ip refl)

-- the transition of the record that the tree has is that of the instance
pub when-alike : (s : Subject) (n : ℕ) (o : Option Instance) → option_and_then (λ (i : Instance). receives_at s i.body n) o ≡ when_ip (transition_at s n o)
when-alike s n None = refl
when-alike s n (Some i) = refl

-- the initialization receives nothing
pub no-initial : (s : Subject) (o : Option Instance) → transition_at s 0 o ≡ None
no-initial s None = refl
no-initial s (Some i) = refl

-- ---- logs

-- an effect is what its log says
pub effect-logged : (s : Subject) (e : StatementEffect) → effect_of (logged_as s e) ≡ e
effect-logged s (Output from ip name values) = refl
effect-logged s (Connect a b) = refl
effect-logged s (Disconnect a) = refl
effect-logged s (Attach upper lower) = refl
effect-logged s (Detach upper) = refl
effect-logged s (Create p k i) = λ j. Create (parent_of-child p k j) (last_of-child p k j) i
effect-logged s (Remove p k) = λ j. Remove (parent_of-child p k j) (last_of-child p k j)

pub effects-logged : (s : Subject) (es : List StatementEffect) → effects_of (all_logged s es) ≡ es
effects-logged s [] = refl
effects-logged s (e ∷ es) = λ i. effect-logged s e i ∷ effects-logged s es i

pub all-are-logged : (s : Subject) (es : List StatementEffect) → AreLogged s (all_logged s es)
all-are-logged s [] = tt
all-are-logged s (e ∷ es) = (ap (logged_as s) (sym (effect-logged s e)), all-are-logged s es)
