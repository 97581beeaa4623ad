-- What a firing leaves of systems to which its instance does not belong.
use Rattle.std.proofs.Common.{◌≡◌, ℕ, ◌≤◌, Bool, true, false, ◌&&◌, List, filter, Option, Some, None, is_some, refl, sym, ap, subst, cond, ◌∙◌}
use Rattle.std.specs.Prelude.{nat_lt, Contains}
use Rattle.std.specs.List.{list_any}
use Rattle.std.specs.FinMap as map
use Rattle.std.specs.Ordering.{eq_by_cmp}
use Rattle.estelle_tree.specs.declared.link.IpAddr.{IpAddr}
use Rattle.estelle_tree.specs.Paths.{Path, is_inside}
use Rattle.estelle_tree.specs.Timers.{Timers, pair, pair_cmp}
use Rattle.estelle_model.specs.declared.effect.Effect.{Effect}
use Rattle.estelle_model.specs.declared.event.Event.{Event}
use Rattle.estelle_model.specs.declared.event.Event.TheVariants.{Fire}
use Rattle.estelle_model.specs.declared.image.Image.{Image}
use Rattle.estelle_model.specs.Core.{Core}
use Rattle.estelle_model.specs.Transitions.{Transition, When}
use Rattle.estelle_model.specs.Subject.{Subject}
use Rattle.estelle_model.specs.Situation.{Waiting, Situation, Acting}
use Rattle.estelle_model.specs.Queues.{one_queue}
use Rattle.estelle_model.specs.Firing.{Firing, begun, taken, transition_at, guard, fire}
use Rattle.estelle_model.specs.Attributes.{IsSystem}
use Rattle.estelle_model.specs.Runs.{MayFire, HasRun, without, fired, next}
use Rattle.estelle_model.specs.Jobs.{put, taken_by, private, IsPut}
use Rattle.estelle_model.specs.Schedule.{arrives}
use Rattle.estelle_model.proofs.Maps.{equal_of}
use Rattle.estelle_model.proofs.Members.{contained}
use Rattle.estelle_model.proofs.Pairs.{pairs_total, pairs_apart}
use Rattle.estelle_model.proofs.PrivateParts.{body_of}
use Rattle.estelle_model_legality.specs.Instances.{LeadsToStates}
use Rattle.estelle_model_legality.specs.Situations.{IsLegal}
use Rattle.estelle_model_legality.specs.Choices.{AreTree}
use Rattle.estelle_model_legality.specs.Pending.{MayBePending}
use Rattle.estelle_model_legality.proofs.Keeping.{events_keep}
use Rattle.estelle_model_legality.proofs.Lists.{not_true, not_both}
use Rattle.estelle_model_legality.proofs.Systems.{legal_tree}
use Rattle.estelle_model_legality.proofs.Taken.{may_act}
use Rattle.estelle_model_legality.proofs.Ways.{inside_itself, inside_trans}
use Rattle.estelle_model_apart.proofs.Privates.{instances_left, private_instances_stay, private_links_stay}
use Rattle.estelle_model_apart.proofs.Queues.{one_instance}
use Rattle.estelle_model_apart.proofs.Rest.{all_rest}
use Rattle.effect_log.specs.Putting.{arrivals}
use Rattle.effect_log.proofs.Lawful.{legal-sound}
use Rattle.effect_log.proofs.Ways.{AllDown}
use Rattle.situation_steps.specs.Others.{LeavesOthers, FiringsLeaveOthers}
use Rattle.situation_steps.proofs.OthersMail.{taken_away, new_there, same_there}
use Rattle.situation_steps.proofs.OthersInstances.{put_body, other_apart, same_systems, same_list}
use Rattle.situation_steps.proofs.OthersGuards.{guard_same}

-- ---- where the firing begins

-- but for what waits all is the same once the head is taken
record IsBegun (g h : Situation) : Type 0 where
  core : h.core ≡ g.core
  made : h.made ≡ g.made
  timers : h.timers ≡ g.timers

taken_begun : (s : Subject) (g : Situation) (m : Path) (o : Option When) → IsBegun g (taken s g m o)
taken_begun s g m None = record { core = refl; made = refl; timers = refl }
taken_begun s g m (Some w) = record { core = refl; made = refl; timers = refl }

taken_by_begun : (s : Subject) (g : Situation) (m : Path) (o : Option Transition) → IsBegun g (taken_by s g m o)
taken_by_begun s g m None = record { core = refl; made = refl; timers = refl }
taken_by_begun s g m (Some t) = taken_begun s g m t.when

module _ (s : Subject) (g : Situation) (m : Path) (there : Path → Bool) (away : (q : Path) → there q ≡ true → is_inside m q ≡ false) where
  abbrev those : List Waiting → List Waiting
  those = filter (λ w. there w.at.path)

  taken_elsewhere : (o : Option When) → those (taken s g m o).mail ≡ those g.mail
  taken_elsewhere None = refl
  taken_elsewhere (Some w) =
      let a : IpAddr = record { path = m; ip = w.ip } in
      taken_away m there away (one_queue s g.core.instances a) (λ b e. ap (is_inside m) (sym (one_instance s g a b e)) ∙ inside_itself m) g.mail

  taken_by_elsewhere : (o : Option Transition) → those (taken_by s g m o).mail ≡ those g.mail
  taken_by_elsewhere None = refl
  taken_by_elsewhere (Some t) = taken_elsewhere t.when

-- ---- the firing

module _ (s : Subject) (leads : LeadsToStates s) (budget : ℕ) (g : Situation) (legal : IsLegal s g) (m : Path) (n : ℕ) (pending : Contains g.pending (pair m n))
    (h : Situation) (begins : h ≡ taken_by s g m (transition_at s n (map.get g.core.instances m)))
    (image : Image) (effects : List Effect) (left : ℕ) (p : IsPut s m n h image effects left (fire s budget g m n)) where
  abbrev acting : Acting
  acting = put m p.log image.parts (begun h)

  abbrev event : Event
  event = Fire m n acting.outs acting.drops

  abbrev after : Situation
  after = record acting.situation { timers = map.remove acting.situation.timers (pair m n); pending = without (pair m n) acting.situation.pending }

  after_is : next s budget g event ≡ after
  after_is = ap (fired (pair m n) g) p.result

  legal_after : IsLegal s after
  legal_after =
      let may : MayFire s budget g m n acting.outs acting.drops = record { pending = pending; ran = subst (λ (f : Firing). HasRun acting.outs acting.drops f) (sym p.result) (refl, refl) } in
      subst (IsLegal s) after_is (events_keep s leads budget g legal event may)

  same : IsBegun g h
  same = subst (IsBegun g) (sym begins) (taken_by_begun s g m (transition_at s n (map.get g.core.instances m)))

  its : MayBePending s g (pair m n)
  its = legal.pending.each (pair m n) pending

  leaves : (q : Path) → is_inside m q ≡ false → map.get after.core.instances q ≡ map.get g.core.instances q
  leaves = instances_left s g h same.core legal.links m n image effects left (fire s budget g m n) p

  body : body_of (map.get after.core.instances m) ≡ body_of (map.get g.core.instances m)
  body = put_body s m n h image effects left (fire s budget g m n) p ∙ ap (λ (c : Core). body_of (map.get c.instances m)) same.core

  tree : AreTree s g.core.instances
  tree = legal_tree s g.core.instances legal.instances

  tree_after : AreTree s after.core.instances
  tree_after = legal_tree s after.core.instances legal_after.instances

  down : AllDown h.core.links
  down = subst (λ (c : Core). AllDown c.links) (sym same.core) (λ l a. (legal-sound s g legal).down l (contained g.core.links l a))

  -- ---- another system

  module _ (system : Path) (is : IsSystem s g system) (other : is_inside system m ≡ false) where
    away : (q : Path) → is_inside system q ≡ true → is_inside m q ≡ false
    away = other_apart s m g after tree tree_after leaves body its.system its.is_system its.inside system is other

    waits_same : filter (λ (w : Waiting). is_inside system w.at.path) h.mail ≡ filter (λ (w : Waiting). is_inside system w.at.path) g.mail
    waits_same =
        ap (λ (x : Situation). filter (λ (w : Waiting). is_inside system w.at.path) x.mail) begins
        ∙ taken_by_elsewhere s g m (is_inside system) away (transition_at s n (map.get g.core.instances m))

    arrives_there : arrives system g after ≡ list_any (is_inside system) (arrivals p.log (begun h))
    arrives_there =
        ap (λ (k : ℕ). list_any (λ (w : Waiting). nat_lt k w.item.number && is_inside system w.at.path) after.mail) (sym same.made)
        ∙ new_there m (is_inside system) away s p.log (begun h) p.can_be_made down g.mail waits_same
        (λ w a. subst (λ (k : ℕ). w.item.number ≤ k) (sym same.made) (legal.mail.made w (contained g.mail w a)))

    module _ (none : list_any (is_inside system) (arrivals p.log (begun h)) ≡ false) (q : Path) (inside : is_inside system q ≡ true) where
      out : is_inside m q ≡ false
      out = away q inside

      below : (r : Path) → is_inside q r ≡ true → is_inside m r ≡ false
      below r e = away r (inside_trans system q r inside e)

      mail : filter (λ (w : Waiting). is_inside system w.at.path) after.mail ≡ filter (λ (w : Waiting). is_inside system w.at.path) g.mail
      mail = same_there m (is_inside system) away s p.log (begun h) p.can_be_made down none ∙ waits_same

      core : private s after.core q ≡ private s g.core q
      core =
          let instances = private_instances_stay s g h same.core legal.links m n image effects left (fire s budget g m n) p q below in
          let links = private_links_stay s g h same.core legal.links m n image effects left (fire s budget g m n) p q below in
          λ i. record { instances = instances i; links = links i; types = (legal_after.types ∙ sym legal.types) i }

      timers : (k : ℕ) → map.contains_key after.timers (pair q k) ≡ map.contains_key g.timers (pair q k)
      timers k =
          let differ : eq_by_cmp pair_cmp (pair q k) (pair m n) ≡ false = not_true (eq_by_cmp pair_cmp (pair q k) (pair m n)) (λ e.
          let at : q ≡ m = ap (λ x. x.path) (pairs_apart (pair q k) (pair m n) (equal_of (pair_cmp (pair q k) (pair m n)) e)) in
          not_both (is_inside m q) (ap (is_inside m) at ∙ inside_itself m) out) in
          ap is_some (map.get-remove pairs_total acting.situation.timers (pair m n) (pair q k) ∙ ap (λ (b : Bool). cond b None (map.get acting.situation.timers (pair q k))) differ)
          ∙ ap (λ (ts : Timers). map.contains_key ts (pair q k)) ((all_rest p.log (begun h)).timers ∙ same.timers)

      guards : (k : ℕ) → guard s budget after q k ≡ guard s budget g q k
      guards k =
          guard_same s budget g after q (leaves q out) (is_inside system) inside mail
          (may_act s g.core q legal.types legal.instances legal.links) (may_act s after.core q legal_after.types legal_after.instances legal_after.links)
          core k (timers k)

  left_others : LeavesOthers s budget g after m (arrivals p.log (begun h))
  left_others = record {
    systems = same_list s g after (same_systems s m g after tree tree_after leaves body its.system its.is_system its.inside);
    arrives = λ system is other. arrives_there system is other;
    guards = λ system is other none q k inside. guards system is other none q inside k;
  }

pub firings_leave_others : FiringsLeaveOthers
firings_leave_others s leads budget g legal m n pending h begins image effects left p =
    subst (λ (x : Situation). LeavesOthers s budget g x m (arrivals p.log (begun h))) (sym (after_is s leads budget g legal m n pending h begins image effects left p))
    (left_others s leads budget g legal m n pending h begins image effects left p)
