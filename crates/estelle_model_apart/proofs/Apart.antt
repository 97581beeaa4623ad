-- An event of other instances leaves what a pending firing finds.
use Rattle.std.proofs.Common.{◌≡◌, ℕ, Bool, true, false, List, [], ◌∷◌, ◌++◌, filter, Option, Some, None, refl, sym, ap, subst, cond, ◌∙◌, inl, inr}
use Rattle.std.specs.Prelude.{◌≢◌, nat_eq, Contains, IsPermutation}
use Rattle.std.specs.Str.{bytes_eq}
use Rattle.std.specs.FinMap as map
use Rattle.std.proofs.lemmas.List.Sorted.{IsPermutation-refl}
use Rattle.estelle_tree.specs.declared.link.IpAddr.{IpAddr}
use Rattle.estelle_tree.specs.declared.link.Link.{Link}
use Rattle.estelle_tree.specs.declared.transition.Pair.{Pair}
use Rattle.estelle_tree.specs.Paths.{Path, is_inside}
use Rattle.estelle_tree.specs.Timers.{pair}
use Rattle.estelle_model.specs.declared.effect.Out.{Out}
use Rattle.estelle_model.specs.declared.effect.Effect.{Effect}
use Rattle.estelle_model.specs.declared.event.Event.TheVariants.{Start, Select, Fire, Fault}
use Rattle.estelle_model.specs.declared.image.Image.{Image}
use Rattle.estelle_model.specs.declared.job.Outcome.{Outcome}
use Rattle.estelle_model.specs.declared.job.Outcome.TheVariants as outcome
use Rattle.estelle_model.specs.Core.{Instance}
use Rattle.estelle_model.specs.Transitions.{Transition, When}
use Rattle.estelle_model.specs.Subject.{Subject}
use Rattle.estelle_model.specs.Situation.{Waiting, Situation, Acting}
use Rattle.estelle_model.specs.Queues.{Absent, head_at, named, one_queue, queue}
use Rattle.estelle_model.specs.Firing.{begun, transition_at, fire}
use Rattle.estelle_model.specs.Runs.{same_pair, without, fired, next, MayFire, HasRun}
use Rattle.estelle_model.specs.Jobs.{put, private, taken_by, received_by, IsPut, IsAnswer}
use Rattle.estelle_model_legality.specs.Instances.{LeadsToStates}
use Rattle.estelle_model_legality.specs.Situations.{IsLegal}
use Rattle.estelle_model_legality.specs.Pending.{MayBePending}
use Rattle.estelle_model_legality.specs.Jobs.{job_of}
use Rattle.estelle_model_legality.proofs.Fired.{IsFired, HasFired, within_of, fire_keeps}
use Rattle.estelle_model_legality.proofs.Lists.{and_both, not_true, not_both, path_is, same_path, in_head, in_tail, in_cases, in_none}
use Rattle.estelle_model_legality.proofs.Taken.{taken}
use Rattle.estelle_model_legality.proofs.Ways.{inside_itself, comparable}
use Rattle.estelle_model_apart.specs.Apart.{AreApart, received_in, FindsTheSame, EventsLeaveTheApart}
use Rattle.estelle_model_apart.proofs.Answers.{some_answer}
use Rattle.estelle_model_apart.proofs.Privates.{instances_left, private_instances_stay, private_links_stay}
use Rattle.estelle_model_apart.proofs.Queues.{queue_grows}
use Rattle.estelle_model_apart.proofs.Rest.{all_rest, taken_by_core, taken_by_rest}

-- ---- what is pending

-- without one firing another is still in the list
still_in : (p q : Pair) → same_pair p q ≡ false → (ps : List Pair) → Contains ps q → Contains (without p ps) q
still_in p q other [] c = c
still_in p q other (x ∷ xs) c = by (same_pair p x) refl c (still_in p q other xs)
  where
    by : (b : Bool) → same_pair p x ≡ b → Contains (x ∷ xs) q → (Contains xs q → Contains (without p xs) q) → Contains (cond b xs (x ∷ without p xs)) q
    by true e d rest = elim (in_cases Pair q x xs d) [ inl same ↦ absurd (not_both (same_pair p x) e (ap (same_pair p) (sym same) ∙ other)) | inr more ↦ more ]
    by false e d rest = elim (in_cases Pair q x xs d) [ inl same ↦ subst (λ (y : Pair). Contains (y ∷ without p xs) q) same (in_head Pair q (without p xs)) | inr more ↦ in_tail Pair q x (without p xs) (rest more) ]

-- with more behind it, too
still_before : (ps more : List Pair) (q : Pair) → Contains ps q → Contains (ps ++ more) q
still_before [] more q c = absurd (in_none Pair q c)
still_before (x ∷ xs) more q c = elim (in_cases Pair q x xs c) [
  | inl same ↦ subst (λ (y : Pair). Contains (y ∷ xs ++ more) q) same (in_head Pair q (xs ++ more))
  | inr d ↦ in_tail Pair q x (xs ++ more) (still_before xs more q d)
]

-- an instance apart is another one
other_pair : (m q : Path) (n k : ℕ) → is_inside q m ≡ false → same_pair (pair q k) (pair m n) ≡ false
other_pair m q n k out = not_true (same_pair (pair q k) (pair m n)) (λ e.
    not_both (is_inside q m) (ap (is_inside q) (sym (same_path q m (and_both (bytes_eq q m) (nat_eq k n) e).0)) ∙ inside_itself q) out)

-- what lies inside one of two instances apart does not lie inside the other
elsewhere : (m q : Path) → AreApart m q → (r : Path) → is_inside m r ≡ true → is_inside q r ≡ false
elsewhere m q apart r inside = not_true (is_inside q r) (λ at. elim (comparable m q r inside at) [
  | inl above ↦ not_both (is_inside m q) above apart.0
  | inr below ↦ not_both (is_inside q m) below apart.1
])

-- ---- what is received

module _ (s : Subject) (g after : Situation) (m : Path) (n : ℕ) (pending : MayBePending s g (pair m n)) (there : map.get after.core.instances m ≡ map.get g.core.instances m)
    (more : List Waiting) (mail : filter (λ (w : Waiting). bytes_eq m w.at.path) after.mail ≡ filter (λ (w : Waiting). bytes_eq m w.at.path) g.mail ++ more) where
  -- what is the head stays it where more comes behind
  first_stays : (a : IpAddr) (w : When) (ws later : List Waiting) → named (Some w) (head_at a ws) ≢ Absent → named (Some w) (head_at a (ws ++ later)) ≡ named (Some w) (head_at a ws)
  first_stays a w [] later some = absurd (some refl)
  first_stays a w (x ∷ xs) later some = refl

  by_when : (o : Option Transition) → received_by s g m o ≢ Absent → received_by s after m o ≡ received_by s g m o
  by_when None some = refl
  by_when (Some t) some = by t.when some
    where
      by : (o : Option When) → received_by s g m (Some (record t { when = o })) ≢ Absent → received_by s after m (Some (record t { when = o })) ≡ received_by s g m (Some (record t { when = o }))
      by None some = refl
      by (Some w) some =
          let a : IpAddr = record { path = m; ip = w.ip } in
          ap (λ (ws : List Waiting). named (Some w) (head_at a ws)) (queue_grows s g after m there (bytes_eq m) (path_is m) more mail a refl)
          ∙ first_stays a w (queue s g a) (filter (λ (w : Waiting). one_queue s g.core.instances a w.at) more) some

  received_stays : received_in s after m n ≡ received_in s g m n
  received_stays =
      ap (λ (o : Option Instance). received_by s after m (transition_at s n o)) there
      ∙ by_when (transition_at s n (map.get g.core.instances m))
      (subst (λ (o : Option Transition). received_by s g m o ≢ Absent) (sym (ap (transition_at s n) pending.there ∙ pending.its)) pending.head)

-- ---- a firing

module _ (s : Subject) (leads : LeadsToStates s) (budget : ℕ) (g : Situation) (legal : IsLegal s g) (m : Path) (n : ℕ) (pending : Contains g.pending (pair m n))
    (q : Path) (k : ℕ) (outs : List Out) (drops : List ℕ) (may : MayFire s budget g q k outs drops) (apart : AreApart m q) where
  abbrev at_it : Option Transition
  at_it = transition_at s k (map.get g.core.instances q)

  -- the firing begins where what it receives is taken
  abbrev taken_there : Situation
  taken_there = taken_by s g q at_it

  module _ (image : Image) (effects : List Effect) (left : ℕ) (p : IsPut s q k taken_there image effects left (fire s budget g q k)) where
    abbrev acting : Acting
    acting = put q p.log image.parts (begun taken_there)

    abbrev untimed_after : Situation
    untimed_after = record acting.situation { timers = map.remove acting.situation.timers (pair q k) }

    abbrev after : Situation
    after = record untimed_after { pending = without (pair q k) acting.situation.pending }

    kept : IsFired s q g untimed_after
    kept = subst (HasFired s q g) p.result (fire_keeps s leads budget g (within_of s g legal) q k)

    core_same : taken_there.core ≡ g.core
    core_same = taken_by_core s g q at_it

    pending_same : acting.situation.pending ≡ g.pending
    pending_same = (all_rest p.log (begun taken_there)).pending ∙ (taken_by_rest s g q at_it).pending

    links_same : (private s after.core m).links ≡ (private s g.core m).links
    links_same = private_links_stay s g taken_there core_same legal.links q k image effects left (fire s budget g q k) p m (elsewhere m q apart)

    finds : FindsTheSame s m n g after
    finds =
        let more = kept.mail m apart.1 in
        record {
          pending = still_in (pair q k) (pair m n) (other_pair m q n k apart.1) acting.situation.pending (subst (λ (ps : List Pair). Contains ps (pair m n)) (sym pending_same) pending);
          instances = private_instances_stay s g taken_there core_same legal.links q k image effects left (fire s budget g q k) p m (elsewhere m q apart);
          links = subst (λ (ls : List Link). IsPermutation (private s g.core m).links ls) (sym links_same) (IsPermutation-refl (private s g.core m).links);
          received = received_stays s g after m n (legal.pending.each (pair m n) pending)
              (instances_left s g taken_there core_same legal.links q k image effects left (fire s budget g q k) p m apart.1) more.0 more.1;
        }

    finds_after : FindsTheSame s m n g (next s budget g (Fire q k outs drops))
    finds_after = subst (FindsTheSame s m n g) (sym (ap (fired (pair q k) g) p.result)) finds

  -- it ran, so it is put
  by_outcome : (out : Outcome) (left : ℕ) → IsAnswer s q k taken_there out left (fire s budget g q k) → FindsTheSame s m n g (next s budget g (Fire q k outs drops))
  by_outcome (outcome.Ran image effects) left p = finds_after image effects left p
  by_outcome (outcome.Faulted kind) left is = absurd (subst (HasRun outs drops) is may.ran)

  fire_leaves : FindsTheSame s m n g (next s budget g (Fire q k outs drops))
  fire_leaves =
      let job = job_of s g 0 budget (pair q k) in
      let a = some_answer s g job (taken s g legal 0 budget (pair q k) may.pending) in
      by_outcome a.0 a.1 a.2

-- ---- events

pub finds_itself : (s : Subject) (m : Path) (n : ℕ) (g : Situation) → Contains g.pending (pair m n) → FindsTheSame s m n g g
finds_itself s m n g pending = record { pending = pending; instances = refl; links = IsPermutation-refl (private s g.core m).links; received = refl }

pub events_leave : EventsLeaveTheApart
events_leave s leads budget g legal m n pending (Start outs drops) applies apart = absurd apart
events_leave s leads budget g legal m n pending (Select system now takes) applies apart = record {
  pending = still_before g.pending takes (pair m n) pending;
  instances = refl;
  links = IsPermutation-refl (private s g.core m).links;
  received = refl;
}
events_leave s leads budget g legal m n pending (Fire q k outs drops) applies apart = fire_leaves s leads budget g legal m n pending q k outs drops applies apart
events_leave s leads budget g legal m n pending (Fault q k kind) applies apart = absurd apart
