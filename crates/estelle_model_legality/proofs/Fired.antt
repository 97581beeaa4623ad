-- A firing, and the start, leave instances, links and waiting interactions as they may be.
use Rattle.std.proofs.Common.{◌≡◌, ℕ, ◌≤◌, Bool, true, false, ◌&&◌, List, [], ◌∷◌, ◌++◌, filter, map, Ok, Err, Option, Some, None, cond, refl, sym, ap, ◌∙◌, inl, inr, append-nil}
use Rattle.std.specs.Prelude.{nat_eq}
use Rattle.std.specs.List.{IsDistinct, AllByRecursion}
use Rattle.std.specs.Option.{option_map}
use Rattle.std.specs.Str.{bytes_eq}
use Rattle.std.specs.FinMap as fin
use Rattle.std.specs.FinMap.{get-remove}
use Rattle.std.specs.Ordering.{eq_by_cmp}
use Rattle.estelle_tree.specs.declared.transition.Pair.{Pair}
use Rattle.estelle_tree.specs.Timers.{Timer, Timers, pair_cmp}
use Rattle.estelle_model_legality.specs.Pending.{IsInOrder, AreInOrder}
use Rattle.pascal_values.specs.declared.value.Value.{Value}
use Rattle.estelle_tree.specs.declared.link.IpAddr.{IpAddr}
use Rattle.estelle_tree.specs.Paths.{Path, is_inside}
use Rattle.estelle_tree.specs.Links.{same_ip}
use Rattle.estelle_tree.specs.Queues as queues
use Rattle.estelle_model.specs.Core.{Instance}
use Rattle.estelle_model.specs.Effects.{Enter, changed, changed_in}
use Rattle.estelle_model.specs.Belonging.{are_values_of}
use Rattle.estelle_model.specs.Steps.{Running, StepResult, and_then, pure, breaks}
use Rattle.estelle_model.specs.Transitions.{Transition, When}
use Rattle.estelle_model.specs.Subject.{Subject, body, transition, meant_with, of_block}
use Rattle.estelle_model.specs.Blocks.{fresh, block_step}
use Rattle.estelle_model.specs.Situation.{Waiting, Situation, Acting, on_situation}
use Rattle.estelle_model.specs.Plans.{carry}
use Rattle.estelle_model.specs.Actions.{enters_state}
use Rattle.estelle_model.specs.Acts.{act}
use Rattle.estelle_model.specs.Queues.{Found, NotNeeded, Head, Absent, one_queue, is_common, received}
use Rattle.estelle_model.specs.Firing.{Firing, Ran, Failed, Undefined, begun, done, untimed, taken, fire_with, fire_found, fire_of, fire, transition_at}
use Rattle.estelle_model_legality.specs.Instances.{LeadsToStates}
use Rattle.estelle_model_legality.specs.Situations.{IsLegal}
use Rattle.estelle_model.proofs.Units.{Each}
use Rattle.estelle_model.proofs.Pairs.{pairs_total}
use Rattle.estelle_model_legality.proofs.Lists.{and_both, or_cases, in_none, some_is, not_more, not_true, not_both, same_path}
use Rattle.estelle_model_legality.proofs.Ways.{inside_itself}
use Rattle.estelle_model_legality.proofs.Lookups.{changed_at, get_changed}
use Rattle.estelle_model_legality.proofs.Standing.{stands_of, of_stands, stands_changed}
use Rattle.estelle_model_legality.proofs.Linking.{same_ip_is}
use Rattle.estelle_model_legality.proofs.Effects.{WaitsAs, waits_of, of_waits, number_of}
use Rattle.estelle_model_legality.proofs.Within.{Within, Outside, Comes, outline, mark, is_at, outside_same, outside_then, mapped_there, changed_elsewhere}
use Rattle.estelle_model_legality.proofs.Steps.{rewritten}
use Rattle.estelle_model_legality.proofs.Running.{block_keeps}

-- ---- the head is taken

each_taken : (P : Waiting → Type 0) (test : IpAddr → Bool) (mail : List Waiting) → Each P mail → Each P (queues.without_head test mail)
each_taken P test [] h = tt
each_taken P test (w ∷ mail) h = by (test w.at) (each_taken P test mail h.1)
  where
    by : (b : Bool) → Each P (queues.without_head test mail) → Each P (cond b mail (w ∷ queues.without_head test mail))
    by true rest = h.1
    by false rest = (h.0, rest)

differ_taken : (n : ℕ) (test : IpAddr → Bool) (mail : List Waiting) → AllByRecursion (λ y. nat_eq n y ≡ false) (map number_of mail) → AllByRecursion (λ y. nat_eq n y ≡ false) (map number_of (queues.without_head test mail))
differ_taken n test [] h = h
differ_taken n test (w ∷ mail) h = by (test w.at) (differ_taken n test mail h.1)
  where
    by : (b : Bool) → AllByRecursion (λ y. nat_eq n y ≡ false) (map number_of (queues.without_head test mail)) → AllByRecursion (λ y. nat_eq n y ≡ false) (map number_of (cond b mail (w ∷ queues.without_head test mail)))
    by true rest = h.1
    by false rest = (h.0, rest)

distinct_taken : (test : IpAddr → Bool) (mail : List Waiting) → IsDistinct nat_eq (map number_of mail) → IsDistinct nat_eq (map number_of (queues.without_head test mail))
unfolding IsDistinct
distinct_taken test [] h = h
distinct_taken test (w ∷ mail) h = by (test w.at) (distinct_taken test mail h.1)
  where
    by : (b : Bool) → IsDistinct nat_eq (map number_of (queues.without_head test mail)) → IsDistinct nat_eq (map number_of (cond b mail (w ∷ queues.without_head test mail)))
    by true rest = h.1
    by false rest = (differ_taken w.item.number test mail h.0, rest)

taken_elsewhere : (r : Path) (test : IpAddr → Bool) (mail : List Waiting) → ((a : IpAddr) → test a ≡ true → bytes_eq r a.path ≡ false) → filter (is_at r) (queues.without_head test mail) ≡ filter (is_at r) mail
taken_elsewhere r test [] h = refl
taken_elsewhere r test (w ∷ mail) h = by (test w.at) refl (taken_elsewhere r test mail h)
  where
    by : (b : Bool) → test w.at ≡ b → filter (is_at r) (queues.without_head test mail) ≡ filter (is_at r) mail → filter (is_at r) (cond b mail (w ∷ queues.without_head test mail)) ≡ filter (is_at r) (w ∷ mail)
    by true e rest = sym (ap (λ (c : Bool). cond c (w ∷ filter (is_at r) mail) (filter (is_at r) mail)) (h w.at e))
    by false e rest = ap (λ (ws : List Waiting). cond (is_at r w) (w ∷ ws) ws) rest

-- ---- a timer goes

fewer_timers : (g : Situation) → AreInOrder g → (p : Pair) (x : Timer) (b : Bool) → cond b None (fin.get g.timers p) ≡ Some x → IsInOrder x x.high
fewer_timers g h p x true e = absurd (cc)
fewer_timers g h p x false e = h p x e

-- ---- a firing

-- what a firing of the instance at m leaves
pub record IsFired (s : Subject) (m : Path) (before after : Situation) : Type 0 where
  pub within : Within s [] after
  pub others : (r : Path) → is_inside m r ≡ false → option_map outline (fin.get after.core.instances r) ≡ option_map outline (fin.get before.core.instances r)
  pub mail : (r : Path) → is_inside m r ≡ false → (more : List Waiting) × (filter (is_at r) after.mail ≡ filter (is_at r) before.mail ++ more)
  pub pending : after.pending ≡ before.pending
  pub timers : AreInOrder before → AreInOrder after

abbrev pub HasFired : Subject → Path → Situation → Firing → Type 0
HasFired s m g (Ran after outs drops left) = IsFired s m g after
HasFired s m g (Failed kind left) = Unit {0}
HasFired s m g Undefined = Unit {0}

pub within_of : (s : Subject) (g : Situation) → IsLegal s g → Within s [] g
within_of s g h = record { types = h.types; instances = h.instances; links = h.links; mail = h.mail }

module _ (s : Subject) (leads : LeadsToStates s) (budget : ℕ) (g : Situation) (w : Within s [] g) (m : Path) (n : ℕ) where
  in_queue_here : (a b : IpAddr) → one_queue s g.core.instances a b ≡ true → a.path ≡ b.path
  in_queue_here a b h = elim (or_cases (same_ip a b) (bytes_eq a.path b.path && (is_common s g.core.instances a && is_common s g.core.instances b)) h) [
    | inl e ↦ ap (λ (x : IpAddr). x.path) (same_ip_is a b e)
    | inr e ↦ same_path a.path b.path (and_both (bytes_eq a.path b.path) (is_common s g.core.instances a && is_common s g.core.instances b) e).0
  ]

  taken_within : (o : Option When) → Within s [] (taken s g m o) × Outside m g (taken s g m o)
  taken_within None = (w, outside_same m g)
  taken_within (Some x) =
      let a : IpAddr = record { path = m; ip = x.ip } in
      let test = one_queue s g.core.instances a in
      let h = waits_of s g w.mail in (
        record {
          types = w.types;
          instances = w.instances;
          links = w.links;
          mail = of_waits s (taken s g m (Some x)) (record {
            each = each_taken (WaitsAs s g.core.instances g.core.links) test g.mail h.each;
            distinct = distinct_taken test g.mail h.distinct;
            made = each_taken (λ v. v.item.number ≤ g.made) test g.mail h.made;
          });
        },
        record {
          others = λ r o. refl;
          itself = refl;
          mail = λ r o. ([], taken_elsewhere r test g.mail (λ b e. not_true (bytes_eq r b.path) (λ t. not_both (is_inside m r) (ap (is_inside m) (same_path r b.path t ∙ sym (in_queue_here a b e)) ∙ inside_itself m) o)) ∙ sym (append-nil (filter (is_at r) g.mail)));
          pending = refl;
          timers = refl;
        },
      )

  module _ (i : Instance) (there : fin.get g.core.instances m ≡ Some i) (t : Transition) (its : transition s i.body n ≡ Some t) where
    same_timers : (h : Situation) → h.timers ≡ g.timers → AreInOrder g → AreInOrder h
    same_timers h e k p x at = k p x (sym (ap (λ (z : Timers). fin.get z p) e) ∙ at)

    -- the instance goes to its next state
    next_state : (to : Option ℕ) → to ≡ t.to → (u : Running Acting) → Within s [] u.state.situation → Outside m g u.state.situation → HasFired s m g (done (carry Acting on_situation (enters_state s m to) u))
    next_state None is u v o = record { within = v; others = o.others; mail = o.mail; pending = o.pending; timers = same_timers u.state.situation o.timers }
    next_state (Some state) is u v o =
        let h = u.state.situation in
        let f = changed (Enter state) in
        let l = stands_of s [] h.core.instances v.instances in
        let now = mapped_there mark (fin.get g.core.instances m) (fin.get h.core.instances m) i o.itself there in
        record {
          within = rewritten s [] m h v [] m f (λ j. refl)
              (of_stands s [] (changed_at m f (fin.get h.core.instances)) (changed_in m f h.core.instances) (get_changed m f h.core.instances)
              (stands_changed s [] m f (fin.get h.core.instances) l (λ j. refl) (λ j. refl) (λ j. not_more j.births)
              (λ j b at is_body k. record {
                variables = k.variables;
                module_variables = k.module_variables;
                state = inr (leads.next i.body n b t state
                    (sym (ap (λ (z : Instance). body s z.body) now.2) ∙ ap (λ (z : Instance). body s z.body) (some_is now.0 j (fin.get h.core.instances m) now.1 at) ∙ is_body)
                    its (sym is));
              })));
          others = λ r x. ap (option_map outline) (get_changed m f h.core.instances r ∙ changed_elsewhere m f (fin.get h.core.instances) r (λ e. not_both (is_inside m r) (ap (is_inside m) e ∙ inside_itself m) x)) ∙ o.others r x;
          mail = o.mail;
          pending = o.pending;
          timers = same_timers h o.timers;
        }

    fired_block : (o : StepResult Acting (Unit {0})) → Comes s [] m (Unit {0}) (taken s g m t.when) o → HasFired s m g (done (and_then o (λ _. carry Acting on_situation (enters_state s m t.to))))
    fired_block (Ok r) c = next_state t.to refl r.1 c.0 (outside_then m g (taken s g m t.when) r.1.state.situation (taken_within t.when).1 c.1)
    fired_block (Err e) c = tt

    fired_with : (values : List Value) → HasFired s m g (fire_with s budget g m t values)
    fired_with values = by (are_values_of t.received values)
      where
        block : StepResult Acting (Unit {0})
        block = block_step Acting on_situation (meant_with s t.chosen) (act Acting on_situation s (meant_with s t.chosen)) m (of_block (meant_with s t.chosen) t.received t.block) values (fresh (begun (taken s g m t.when)) budget)

        by : (b : Bool) → HasFired s m g (done (and_then (and_then (cond b (pure (tt {0})) breaks (fresh (begun (taken s g m t.when)) budget)) (λ _. block_step Acting on_situation (meant_with s t.chosen) (act Acting on_situation s (meant_with s t.chosen)) m (of_block (meant_with s t.chosen) t.received t.block) values)) (λ _. carry Acting on_situation (enters_state s m t.to))))
        by false = tt
        by true = fired_block block
            (block_keeps s leads (meant_with s t.chosen) (λ x. (t.chosen, refl)) [] m (λ p c. absurd (in_none Path p c)) (of_block (meant_with s t.chosen) t.received t.block) values (fresh (begun (taken s g m t.when)) budget) (taken_within t.when).0)

    fired_found : (f : Found) → HasFired s m g (fire_found s budget g m t f)
    fired_found NotNeeded = fired_with []
    fired_found (Head x) = fired_with x.values
    fired_found Absent = tt

  fired_of : (o : Option Instance) → fin.get g.core.instances m ≡ o → HasFired s m g (fire_of s budget g m (transition_at s n o))
  fired_of None e = tt
  fired_of (Some i) e = by (transition s i.body n) refl
    where
      by : (x : Option Transition) → transition s i.body n ≡ x → HasFired s m g (fire_of s budget g m x)
      by None its = tt
      by (Some t) its = fired_found i e t its (received s g m t.when)

  fired_untimed : (f : Firing) → HasFired s m g f → HasFired s m g (untimed m n f)
  fired_untimed (Ran after outs drops left) h = record {
    within = record { types = h.within.types; instances = h.within.instances; links = h.within.links; mail = of_waits s _ (waits_of s after h.within.mail) };
    others = h.others;
    mail = h.mail;
    pending = h.pending;
    timers = λ k p x at. fewer_timers after (h.timers k) p x (eq_by_cmp pair_cmp p (record { path = m; trans = n })) (sym (get-remove pairs_total after.timers (record { path = m; trans = n }) p) ∙ at);
  }
  fired_untimed (Failed kind left) h = tt
  fired_untimed Undefined h = tt

  pub fire_keeps : HasFired s m g (fire s budget g m n)
  fire_keeps = fired_untimed (fire_of s budget g m (transition_at s n (fin.get g.core.instances m))) (fired_of (fin.get g.core.instances m) refl)
