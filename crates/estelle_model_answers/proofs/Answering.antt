-- What is computed on a log of a private part answers its job.
use Rattle.std.proofs.Common.{◌≡◌, ℕ, zero, suc, Bool, true, false, List, [], ◌∷◌, map as each, ℤ, Ok, Err, Option, Some, None, refl, sym, ap, subst, cond, ◌∙◌, ◌<◌, arith}
use Rattle.std.specs.Prelude.{not, filter, option_map, slice_get, Contains, IsPermutation}
use Rattle.std.specs.Ordering.{eq_by_cmp}
use Rattle.std.specs.FinMap as map
use Rattle.std.proofs.lemmas.List.Sorted.{IsPermutation-refl, IsPermutation-trans}
use Rattle.pascal_values.specs.declared.value.Value.{Value}
use Rattle.estelle_tree.specs.declared.link.Link.{Link}
use Rattle.estelle_tree.specs.Paths.{Path, path_cmp, child, is_inside}
use Rattle.estelle_tree.specs.Timers.{Timer, pair_cmp}
use Rattle.estelle_model.specs.declared.image.Part.{Part}
use Rattle.estelle_model.specs.declared.image.Image.{Image}
use Rattle.estelle_model.specs.declared.image.Interaction.{Interaction}
use Rattle.estelle_model.specs.declared.effect.Effect.{Effect}
use Rattle.estelle_model.specs.declared.job.Job.{Job}
use Rattle.estelle_model.specs.declared.job.Guard.{Guard}
use Rattle.estelle_model.specs.declared.job.Guard.TheVariants.{Off, Faulted}
use Rattle.estelle_model.specs.declared.job.Outcome.{Outcome}
use Rattle.estelle_model.specs.declared.job.Outcome.TheVariants as outcome
use Rattle.estelle_model.specs.Core.{Instance, Instances, Core}
use Rattle.estelle_model.specs.Effects.{StatementEffect}
use Rattle.estelle_model.specs.States.{Logged, on_log}
use Rattle.estelle_model.specs.Stops.{told}
use Rattle.estelle_model.specs.Steps.{StepResult}
use Rattle.estelle_model.specs.Places.{module_variables_of}
use Rattle.estelle_model.specs.Bodies.{BodyAlone}
use Rattle.estelle_model.specs.Blocks.{fresh}
use Rattle.estelle_model.specs.Meant.{Meanings}
use Rattle.estelle_model.specs.Statements.{Statement}
use Rattle.estelle_model.specs.Transitions.{Transition, When, Delay}
use Rattle.estelle_model.specs.Subject.{Subject, meant, meant_with, of_block, begins, body, types_of_variables, new_instance}
use Rattle.estelle_model.specs.Clauses.{fire_step, start_step, guard_step, answered}
use Rattle.estelle_model.specs.Situation.{Situation, Acting, acting_after, on_situation}
use Rattle.estelle_model.specs.Queues.{Found, NotNeeded, Head, Absent, received}
use Rattle.estelle_model.specs.Firing.{Firing, Ran, Failed, begun, done, untimed, taken, fire_with, fire_found, fire_of, transition_at, fire, alone, bare, start, guard_with}
use Rattle.estelle_model.specs.Jobs.{part_of_entry, is_private, private, Shows, MayActAlone, all_logged, overlaid, outline_of_parts, after_all, put, ran, IsPut, IsAnswer, IsHead, taken_by, received_by, AnswersAt}
use Rattle.estelle_model.specs.Computed.{core_of, log_from, values_of, start_run, job_run, IsMadeBy, IsOfTransition, IsComputedOf}
use Rattle.estelle_model.proofs.Alike.{Same, RunningAlike, OutcomeAlike, DoAlike}
use Rattle.estelle_model.proofs.AlikePlaces.{ShowAlike}
use Rattle.estelle_model.proofs.Carried.{KeepsRelated}
use Rattle.estelle_model.proofs.Stated.{stated}
use Rattle.estelle_model.proofs.AlikeFirings.{inside_root, situation_is_faithful, fire_step_alike, start_step_alike, guard_step_alike, same_answer}
use Rattle.estelle_model.proofs.Maps.{total, apart, get_inserted, same_told}
use Rattle.std.specs.Option.{option_or}
use Rattle.estelle_model.proofs.Members.{contained}
use Rattle.estelle_model.proofs.PrivateParts.{inside_self, none_else, told_parts, get_inside, core_private, privates_same, remove_empty}
use Rattle.estelle_model_answers.specs.Laws.{JobsAreAnswered, GuardsAreAnswered}
use Rattle.estelle_model_answers.proofs.Owned.{none_held}
use Rattle.estelle_model_answers.proofs.Alike.{KeepsAlike, shown, related}
use Rattle.estelle_model_answers.proofs.Within.{outline_of, HoldChildren}
use Rattle.estelle_model_answers.proofs.Follows.{with_instances, done_by, Follows, keeps_following}

-- ---- what follows a log is what is put

module _ (s : Subject) (m : Path) (g : Situation) where
  abbrev pub R : Acting → Logged → Type 0
  R = Follows s m (begun g)

  others : (x : Instances) (q : Path) → map.get (map.retain_keys x (λ p. not (is_inside m p))) q ≡ cond (not (is_inside m q)) (map.get x q) None
  others x q = map.get-retain_keys x (λ p. not (is_inside m p)) q (λ p e. ap (λ y. not (is_inside m y)) (sym (apart q p e)))

  overlaid_is : (a : Acting) (l : Logged) → R a l → overlaid m (each part_of_entry (map.entries l.image.instances)) (done_by s m (begun g) l.log).situation.core.instances ≡ a.situation.core.instances
  overlaid_is a l r = map.same_map total apart _ _
      (λ q. get_inserted (map.retain_keys z (λ x. not (is_inside m x))) (map.entries l.image.instances) (map.entries_sorted l.image.instances) q
      ∙ (λ i. option_or (sym (map.get-entries l.image.instances q) i) (others z q i)) ∙ by q (is_inside m q) refl)
    where
      z : Instances
      z = (done_by s m (begun g) l.log).situation.core.instances

      by : (q : Path) (b : Bool) → is_inside m q ≡ b → option_or (map.get l.image.instances q) (cond (not b) (map.get z q) None) ≡ map.get a.situation.core.instances q
      by q true h = none_else (map.get l.image.instances q) ∙ sym (r.inside q h)
      by q false h = ap (λ o. option_or o (map.get z q)) (r.none q h) ∙ sym (r.outside q h)

  below_is : (a : Acting) (l : Logged) → R a l → map.retain_keys a.situation.core.instances (is_inside m) ≡ l.image.instances
  below_is a l r = map.same_map total apart _ _ (λ q. get_inside a.situation.core.instances m q ∙ by q (is_inside m q) refl)
    where
      by : (q : Path) (b : Bool) → is_inside m q ≡ b → cond b (map.get a.situation.core.instances q) None ≡ map.get l.image.instances q
      by q true h = r.inside q h
      by q false h = sym (r.none q h)

  outlines_are : (a : Acting) (l : Logged) → R a l → (q : Path) → outline_of (map.get (map.retain_keys (done_by s m (begun g) l.log).situation.core.instances (is_inside m)) q) ≡ outline_of (map.get l.image.instances q)
  outlines_are a l r q = ap outline_of (get_inside (done_by s m (begun g) l.log).situation.core.instances m q) ∙ by (is_inside m q) refl
    where
      by : (b : Bool) → is_inside m q ≡ b → outline_of (cond b (map.get (done_by s m (begun g) l.log).situation.core.instances q) None) ≡ outline_of (map.get l.image.instances q)
      by true h = sym (r.outlines q) ∙ ap outline_of (r.inside q h)
      by false h = sym (ap outline_of (r.none q h))

  put_of : (n : ℕ) (a : Acting) (l : Logged) → R a l → (image : Image) → Shows image l.image → (left : ℕ) → IsPut s m n g image (all_logged s l.log) left (untimed m n (ran a left))
  put_of n a l r image shows left =
      let whole : overlaid m image.parts (done_by s m (begun g) l.log).situation.core.instances ≡ a.situation.core.instances = ap (λ (ps : List Part). overlaid m ps (done_by s m (begun g) l.log).situation.core.instances) shows.parts ∙ overlaid_is a l r in
      let put_is : put m l.log image.parts (begun g) ≡ a = ap (λ (x : Instances). with_instances x (done_by s m (begun g) l.log)) whole ∙ sym r.rest in
      record {
        log = l.log;
        logged = refl;
        can_be_made = r.made;
        outline = same_told (λ i. (i.body, i.births)) (map.retain_keys (done_by s m (begun g) l.log).situation.core.instances (is_inside m)) l.image.instances (outlines_are a l r) ∙ sym (told_parts (map.entries l.image.instances)) ∙ ap outline_of_parts (sym shows.parts);
        result = ap (λ (b : Acting). untimed m n (ran b left)) (sym put_is);
        private = subst (λ (b : Acting). Shows image (private s b.situation.core m)) (sym put_is) (record {
          parts = shows.parts ∙ ap (λ (x : Instances). each part_of_entry (map.entries x)) (sym (below_is a l r));
          links = subst (λ (ls : List Link). IsPermutation image.links ls) (sym (privates_same s a.situation.core.instances g.core.instances m r.body a.situation.core.links))
              (IsPermutation-trans image.links l.image.links (filter (is_private s g.core.instances m) a.situation.core.links) shows.links r.private);
        });
      }

  answer_of : (n : ℕ) (x : StepResult Acting (Unit {0})) (y : StepResult Logged (Unit {0})) → OutcomeAlike Acting Logged R (Same {A = Unit {0}}) x y → (out : Outcome) (left : ℕ) → IsMadeBy s y out left → IsAnswer s m n g out left (untimed m n (done x))
  answer_of n (Ok r) (Ok q) h (outcome.Ran image effects) left made =
      subst (λ (es : List Effect). IsPut s m n g image es left (untimed m n (ran r.1.state r.1.left))) (sym made.1)
      (subst (λ (k : ℕ). IsPut s m n g image (all_logged s q.1.state.log) left (untimed m n (ran r.1.state k))) (made.2 ∙ sym h.1.left) (put_of n r.1.state q.1.state h.1.state image made.0 left))
  answer_of n (Err e) (Err x) h (outcome.Faulted kind) left made = ap (λ p. Failed (told p.0) p.1) h ∙ ap (λ k. Failed k x.1) (sym made.0) ∙ ap (λ u. Failed kind u) (sym made.1)
  answer_of n (Ok r) (Ok q) h (outcome.Faulted kind) left made = absurd made
  answer_of n (Err e) (Err x) h (outcome.Ran image effects) left made = absurd made
  answer_of n (Ok r) (Err x) h out left made = absurd h
  answer_of n (Err e) (Ok q) h out left made = absurd h

  -- ---- how a firing and a guard begin

  hold_children : MayActAlone s g.core m → HoldChildren m (map.get g.core.instances)
  hold_children h p c k inside is = by (map.get g.core.instances p) refl is
    where
      by : (o : Option Instance) → map.get g.core.instances p ≡ o → slice_get (module_variables_of o) k ≡ Some (Some c) → (n : ℕ) × (c ≡ child p n)
      by None e f = absurd (cc)
      by (Some i) e f = h.children p i k c inside e f

  pub begins_alike : MayActAlone s g.core m → (x : Core) → x.types ≡ types_of_variables s → x.instances ≡ map.retain_keys g.core.instances (is_inside m) → IsPermutation x.links (filter (is_private s g.core.instances m) g.core.links) → (budget : ℕ) → RunningAlike Acting Logged R (fresh (begun g) budget) (fresh (log_from x) budget)
  begins_alike may x declared own links budget = record {
    state = record {
      types = may.types ∙ sym declared;
      made = tt;
      rest = refl;
      outside = λ q h. refl;
      inside = λ q h. sym (ap (λ y. map.get y q) own ∙ get_inside g.core.instances m q ∙ ap (λ b. cond b (map.get g.core.instances q) None) h);
      none = λ q h. ap (λ y. map.get y q) own ∙ get_inside g.core.instances m q ∙ ap (λ b. cond b (map.get g.core.instances q) None) h;
      outlines = λ q. refl;
      body = refl;
      holds = hold_children may;
      tied = record { attached = λ l h. may.attached l (contained g.core.links l h); once = λ a l n h k. may.once a l n (contained g.core.links l h) (contained g.core.links n k) };
      private = links;
    };
    frames = refl;
    left = refl;
  }

  abbrev pub Keeps : KeepsAlike Acting Logged on_situation on_log s m R
  Keeps = keeps_following s m (begun g)

  stated_alike : (known : Meanings) (p : Path) → is_inside m p ≡ true → (st : Statement) (given : List Value) → KeepsRelated (stated s known p st given) Acting Logged on_situation on_log R
  stated_alike = related Acting Logged on_situation on_log situation_is_faithful s m R Keeps

  every : ShowAlike Acting Logged on_situation on_log m R
  every = shown Acting Logged on_situation on_log situation_is_faithful s m R Keeps

  pub fire_alike : (t : Transition) (vs : List Value) → DoAlike Acting Logged R (fire_step Acting on_situation s m t vs) (fire_step Logged on_log s m t vs)
  fire_alike t vs = fire_step_alike Acting Logged on_situation on_log m R every s stated_alike m (inside_self m) t vs

  pub start_alike : is_inside m [] ≡ true → DoAlike Acting Logged R (start_step Acting on_situation s) (start_step Logged on_log s)
  start_alike inside = start_step_alike Acting Logged on_situation on_log m R every s stated_alike inside

  pub guard_answers : (image : Image) → MayActAlone s g.core m → Shows image (private s g.core m) → (t : Transition) (vs : List Value) (timed : Bool) (budget : ℕ) → answered (guard_step Logged on_log s m t vs timed (fresh (log_from (core_of s image)) budget)) ≡ guard_with s budget g m t timed vs
  guard_answers image may shows t vs timed budget = sym (same_answer Acting Logged R _ _ (guard_step_alike Acting Logged on_situation on_log m R every s stated_alike m (inside_self m) t vs timed (fresh (begun g) budget) (fresh (log_from (core_of s image)) budget) (begins_alike may (core_of s image) refl (core_private s g.core m image shows) shows.links budget)))

-- ---- firings

module _ (s : Subject) (job : Job) (n : ℕ) (out : Outcome) (left : ℕ) where
  fired_in : (g : Situation) → MayActAlone s g.core job.path → Shows job.image (private s g.core job.path) → (t : Transition) → IsMadeBy s (job_run s job t) out left
      → IsAnswer s job.path n g out left (untimed job.path n (done (fire_step Acting on_situation s job.path t (values_of job.head) (fresh (begun g) job.budget))))
  fired_in g may shows t made = answer_of s job.path g n _ _
      (fire_alike s job.path g t (values_of job.head) (fresh (begun g) job.budget) (fresh (log_from (core_of s job.image)) job.budget) (begins_alike s job.path g may (core_of s job.image) refl (core_private s g.core job.path job.image shows) shows.links job.budget))
      out left made

  module _ (g : Situation) (may : MayActAlone s g.core job.path) (shows : Shows job.image (private s g.core job.path)) where
    by_found : (t : Transition) (f : Found) → IsHead f job.head → fire_found s job.budget g job.path t f ≡ fire_with s job.budget g job.path t (values_of job.head)
    by_found t NotNeeded h = ap (λ (i : Option Interaction). fire_with s job.budget g job.path t (values_of i)) (sym h)
    by_found t (Head i) h = ap (λ (i : Option Interaction). fire_with s job.budget g job.path t (values_of i)) (sym h)
    by_found t Absent h = absurd h

    in_taken : (w : Option When) (t : Transition) → IsMadeBy s (job_run s job t) out left
        → IsAnswer s job.path n (taken s g job.path w) out left (untimed job.path n (done (fire_step Acting on_situation s job.path t (values_of job.head) (fresh (begun (taken s g job.path w)) job.budget))))
    in_taken None t made = fired_in g may shows t made
    in_taken (Some w) t made = fired_in (taken s g job.path (Some w)) may shows t made

    by_transition : (o : Option Transition) → IsHead (received_by s g job.path o) job.head → IsOfTransition s job o out left → IsAnswer s job.path n (taken_by s g job.path o) out left (untimed job.path n (fire_of s job.budget g job.path o))
    by_transition None h made = absurd h
    by_transition (Some t) h made = subst (λ (f : Firing). IsAnswer s job.path n (taken s g job.path t.when) out left (untimed job.path n f)) (sym (by_found t (received s g job.path t.when) h)) (in_taken t.when t made)

    same_instance : map.get (core_of s job.image).instances job.path ≡ map.get g.core.instances job.path
    same_instance = ap (λ (x : Instances). map.get x job.path) (core_private s g.core job.path job.image shows) ∙ get_inside g.core.instances job.path job.path ∙ ap (λ b. cond b (map.get g.core.instances job.path) None) (inside_self job.path)

    fire_answers : IsHead (received_by s g job.path (transition_at s n (map.get g.core.instances job.path))) job.head → IsOfTransition s job (transition_at s n (map.get (core_of s job.image).instances job.path)) out left
        → IsAnswer s job.path n (taken_by s g job.path (transition_at s n (map.get g.core.instances job.path))) out left (fire s job.budget g job.path n)
    fire_answers h made = by_transition (transition_at s n (map.get g.core.instances job.path)) h (subst (λ (o : Option Instance). IsOfTransition s job (transition_at s n o) out left) same_instance made)

-- ---- the start

held_by_new : (s : Subject) (b : Option BodyAlone) (p : Path) (i : Instance) (v : ℕ) (held : Path) → map.get (alone (option_map (λ c. new_instance s 0 c []) b)) p ≡ Some i → slice_get i.module_variables v ≡ Some (Some held) → ⊥
held_by_new s None p i v held there is = let wrong : None ≡ Some i = sym (map.get-empty path_cmp p) ∙ there in absurd (cc)
held_by_new s (Some c) p i v held there is = go (eq_by_cmp path_cmp p []) (sym (map.get-insert total map.empty [] (new_instance s 0 c []) p) ∙ there)
  where
    go : (b : Bool) → cond b (Some (new_instance s 0 c [])) (map.get (alone None) p) ≡ Some i → ⊥
    go true e = let same : new_instance s 0 c [] ≡ i = cc in none_held _ v held (ap (λ (x : Instance). slice_get x.module_variables v) same ∙ is)
    go false e = let wrong : None ≡ Some i = sym (map.get-empty path_cmp p) ∙ e in absurd (cc)

no_links : (l : Link) → Contains [] l → ⊥
no_links l there = let none : there.0 < 0 = there.1 in omega (arith, none)

root_alone : (s : Subject) → MayActAlone s (bare s).core []
root_alone s = record {
  types = refl;
  children = λ p i v held inside there is. absurd (held_by_new s (body s 0) p i v held there is);
  attached = λ l there. absurd (no_links l there);
  once = λ a l n there. absurd (no_links l there);
}

all_inside : (x : Instances) → x ≡ map.retain_keys x (is_inside [])
all_inside x = map.same_map total apart _ _ (λ q. sym (get_inside x [] q ∙ ap (λ b. cond b (map.get x q) None) (inside_root q)))

timers_stay : (log : List StatementEffect) (a : Acting) → (after_all log a).situation.timers ≡ a.situation.timers
timers_stay [] a = refl
timers_stay (e ∷ es) a = timers_stay es (acting_after e a)

module _ (s : Subject) where
  -- where no timer runs, none is dropped
  untimed_start : (x : StepResult Acting (Unit {0})) (y : StepResult Logged (Unit {0})) → OutcomeAlike Acting Logged (R s [] (bare s)) (Same {A = Unit {0}}) x y → untimed [] 0 (done x) ≡ done x
  untimed_start (Ok r) (Ok q) h =
      let none : r.1.state.situation.timers ≡ map.empty = ap (λ (a : Acting). a.situation.timers) h.1.state.rest ∙ timers_stay q.1.state.log (begun (bare s)) in
      ap (λ (t : map.FinMap pair_cmp Timer). Ran (record r.1.state.situation { timers = t }) r.1.state.outs r.1.state.drops r.1.left)
      (ap (λ (t : map.FinMap pair_cmp Timer). map.remove t (record { path = []; trans = 0 })) none ∙ remove_empty (record { path = []; trans = 0 }) ∙ sym none)
  untimed_start (Err e) (Err x) h = refl
  untimed_start (Ok r) (Err x) h = absurd h
  untimed_start (Err e) (Ok q) h = absurd h

  start_answers : (budget : ℕ) (out : Outcome) (left : ℕ) → IsMadeBy s (start_run s budget) out left → IsAnswer s [] 0 (bare s) out left (start s budget)
  start_answers budget out left made =
      let alike = start_alike s [] (bare s) refl (fresh (begun (bare s)) budget) (fresh (log_from (bare s).core) budget) (begins_alike s [] (bare s) (root_alone s) (bare s).core refl (all_inside (bare s).core.instances) (IsPermutation-refl []) budget) in
      subst (λ (f : Firing). IsAnswer s [] 0 (bare s) out left f) (untimed_start _ _ alike) (answer_of s [] (bare s) 0 _ _ alike out left made)

-- ---- both

answers_at : (s : Subject) (job : Job) (k : ℕ) (out : Outcome) (left : ℕ) → IsComputedOf s job k out left → AnswersAt s job k out left
answers_at s job zero out left made = start_answers s job.budget out left made
answers_at s job (suc k) out left made = λ g i. fire_answers s job job.trans out left g i.legal i.private i.head made

pub jobs_answered : JobsAreAnswered
jobs_answered s job d ticket path trans made = record { ticket = ticket; path = path; trans = trans; answers = answers_at s job job.trans d.outcome d.left made }

pub guards_answered : GuardsAreAnswered
guards_answered s g p image may shows t vs timed budget = guard_answers s p g image may shows t vs timed budget
