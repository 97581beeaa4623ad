-- A done is put into the situation for which the shared state stands.
use Rattle.std.proofs.Common.{◌≡◌, ℕ, zero, suc, ◌+◌, ◌<◌, ◌≤◌, ◌^◌, Bool, true, false, List, [], ◌++◌, length, take, drop, Option, Some, None, refl, sym, ap, subst, ◌∙◌, arith, length-append}
use Rattle.std.specs.Prelude.{if◌then◌else◌, option_map, option_and_then, IsSome, IsPermutation, IsSorted}
use Rattle.std.specs.List.{list_any}
use Rattle.std.specs.FinMap as map
use Rattle.std.specs.Ordering.{nat_cmp}
use Rattle.std.proofs.lemmas.List.{append-nil, take_at, drop_at, take-append-drop}
use Rattle.estelle_tree.specs.Paths.{Path}
use Rattle.module_tree.specs.Trees as trees
use Rattle.queue_store.specs.Queues.{is_declared}
use Rattle.estelle_model.specs.declared.image.Image.{Image}
use Rattle.estelle_model.specs.declared.image.Part.{Part}
use Rattle.estelle_model.specs.declared.effect.Effect.{Effect}
use Rattle.estelle_model.specs.declared.job.Done.{Done}
use Rattle.estelle_model.specs.declared.job.Outcome.{Outcome}
use Rattle.estelle_model.specs.declared.job.Outcome.TheVariants as outcome
use Rattle.estelle_model.specs.Core.{Instance, Core}
use Rattle.estelle_model.specs.Effects.{StatementEffect}
use Rattle.estelle_model.specs.Transitions.{When, Transition}
use Rattle.estelle_model.specs.Subject.{Subject}
use Rattle.estelle_model.specs.Situation.{Situation, Acting}
use Rattle.estelle_model.specs.Firing as firing
use Rattle.estelle_model.specs.Firing.{begun, transition_at, bare}
use Rattle.estelle_model.specs.Jobs.{put, taken_by, received_by, IsHead, IsIp, IsPut, after_all, with_records, outline, outline_of_parts, private, Shows, CanAllBeMade}
use Rattle.effect_log.specs.declared.shared.Shared.{Shared}
use Rattle.effect_log.specs.declared.notes.Notes.{Notes}
use Rattle.effect_log.specs.Standing.{kept_of, AreQueuesOf, Stands}
use Rattle.effect_log.specs.Putting.{log_of, parts_of, effects_of, IsJobAt, AnswersIn, begun_by, after_put, arrivals, firing_of}
use Rattle.effect_log.specs.Rooms.{outputs_in, drops_in, removes, waiting_in, IsRoomFor, HasRoomForAll}
use Rattle.effect_log.specs.Underway.{IsSound, StandsBut, outline_of, kept_outline, AreLogged, MayGoOn, NotesDrops, HaveBeenPut, Rises, times, receives_at, head_taken}
use Rattle.effect_log.proofs.Rising.{sorted-is}
use Rattle.effect_log.proofs.Waiting.{waiting-within}
use Rattle.effect_log.proofs.After.{filed-of, declared-there, all-home}
use Rattle.effect_log.proofs.Writing.{stands-written}
use Rattle.effect_log.proofs.Lawful.{legal-sound, bare-sound, when_ip, sound-taken, length-taken, when-there, head-taken, when-alike, no-initial, all-are-logged}
use Rattle.effect_log.proofs.Answered.{put-in, log-is}

-- ---- drops

-- before the first drop
pub no-drops : (before drops : List ℕ) → drops ≡ [] → NotesDrops before before drops
no-drops before drops none = record { more = []; behind = sym (append-nil before); same = λ n. ap (times n) (sym none); rises = subst Rises (sym none) tt }

-- what is sorted behind the drops before is what was dropped
pub drops-sorted : (before noted sorted drops : List ℕ) (start : ℕ) → start ≡ length before → NotesDrops before noted drops → take start sorted ≡ take start noted → IsPermutation (drop start noted) (drop start sorted) → IsSorted nat_cmp (drop start sorted)
    → sorted ≡ before ++ drops
drops-sorted before noted sorted drops start is n front permuted rises =
    let at : take start noted ≡ before = ap (take start) n.behind ∙ take_at before n.more start (sym is) in
    let behind : drop start noted ≡ n.more = ap (drop start) n.behind ∙ drop_at before n.more start (sym is) in
    let all : drop start sorted ≡ drops = sorted-is (drop start sorted) n.more drops (subst (λ (ms : List ℕ). IsPermutation ms (drop start sorted)) behind permuted) rises n.rises n.same in
    sym (take-append-drop start sorted) ∙ (λ i. (front ∙ at) i ++ all i)

pub length-behind : (before noted drops : List ℕ) → NotesDrops before noted drops → length before ≤ length noted
length-behind before noted drops n = let l = ap length n.behind in let k = length-append before n.more in omega (arith, l, k)

drops-fewer : (es : List Effect) (w v : ℕ) → w ≤ v → drops_in es w ≤ drops_in es v
drops-fewer es w v le = by (list_any removes es)
  where
    by : (b : Bool) → (if b then w + outputs_in es else 0) ≤ (if b then v + outputs_in es else 0)
    by true = omega (arith, le)
    by false = omega arith

-- the same of a list by its other name
pub put-list : (s : Subject) (es fs : List Effect) (parts : List Part) (old noted : Notes) (final : Shared) (by : Path) (a : Acting) → es ≡ fs → HaveBeenPut s es parts old noted final by a → HaveBeenPut s fs parts old noted final by a
put-list s es fs parts old noted final by a same been = subst (λ (xs : List Effect). HaveBeenPut s xs parts old noted final by a) same been

-- ---- the situation in which the firing begins

module _ (s : Subject) (g : Situation) (p : Path) where
  core-taken : (o : Option Transition) → (taken_by s g p o).core ≡ g.core
  core-taken None = refl
  core-taken (Some t) = by t.when
    where
      by : (w : Option When) → (firing.taken s g p w).core ≡ g.core
      by None = refl
      by (Some w) = refl

  made-taken : (o : Option Transition) → (taken_by s g p o).made ≡ g.made
  made-taken None = refl
  made-taken (Some t) = by t.when
    where
      by : (w : Option When) → (firing.taken s g p w).made ≡ g.made
      by None = refl
      by (Some w) = refl

module _ (s : Subject) (g : Situation) (done : Done) (answers : AnswersIn s g done) where
  -- the transition of the instance
  abbrev its : Option Transition
  its = transition_at s done.trans (map.get g.core.instances done.path)

  pub begins-sound : IsSound s g
  begins-sound = by answers.job.trans answers.at
    where
      by : (n : ℕ) → IsJobAt s g answers.job n → IsSound s g
      by zero at = subst (IsSound s) (sym at.0) (bare-sound s)
      by (suc n) at = legal-sound s g at.0

  -- where it receives there is a point
  pub receives-there : (ip : ℕ) → when_ip its ≡ Some ip → IsIp s g.core.instances (record { path = done.path; ip = ip })
  receives-there ip is = by answers.job.trans answers.answers.trans answers.at
    where
      by : (n : ℕ) → done.trans ≡ n → IsJobAt s g answers.job n → IsIp s g.core.instances (record { path = done.path; ip = ip })
      by zero e at =
          let none : when_ip its ≡ None = ap (λ n. when_ip (transition_at s n (map.get g.core.instances done.path))) e ∙ ap when_ip (no-initial s (map.get g.core.instances done.path)) in
          absurd (let wrong : None ≡ Some ip = sym none ∙ is in cc)
      by (suc n) e at =
          let here : ◌≡◌ {A = Path × ℕ} (answers.job.path, answers.job.trans) (done.path, done.trans) = (λ i. (sym answers.answers.path i, sym answers.answers.trans i)) in
          let head = subst (λ (x : Path × ℕ). IsHead (received_by s g x.0 (transition_at s x.1 (map.get g.core.instances x.0))) answers.job.head) here at.1.head in
          when-there s g done.path begins-sound its answers.job.head head ip is

-- what the tree says of where it receives
pub received-is : (s : Subject) (g : Situation) (shared : Shared) (p : Path) (n : ℕ) → Stands s shared g
    → option_and_then (λ (part : Part). receives_at s part.body n) (trees.part_at shared.tree p) ≡ when_ip (transition_at s n (map.get g.core.instances p))
received-is s g shared p n stands =
    ap (λ o. option_and_then (λ (part : Part). receives_at s part.body n) (option_map (λ (i : trees.Instance Part). i.part) o)) (stands.instances p)
    ∙ by (map.get g.core.instances p) ∙ when-alike s n (map.get g.core.instances p)
  where
    by : (o : Option Instance) → option_and_then (λ (part : Part). receives_at s part.body n) (option_map (λ (i : trees.Instance Part). i.part) (option_map (kept_of p) o)) ≡ option_and_then (λ (i : Instance). receives_at s i.body n) o
    by None = refl
    by (Some i) = refl

module _ (s : Subject) (g : Situation) (done : Done) (image : Image) (effects : List Effect) (is : done.outcome ≡ outcome.Ran image effects) (answers : AnswersIn s g done) (shared : Shared) (notes : Notes) (stands : Stands s shared g) where
  -- what is received waits at a point that is declared
  pub head-declared : (ip : ℕ) → when_ip (transition_at s done.trans (map.get g.core.instances done.path)) ≡ Some ip → is_declared (record { path = done.path; ip = ip }) shared.queues.queues ≡ true
  head-declared ip e = declared-there s g shared.queues.queues stands.queues (record { path = done.path; ip = ip }) (receives-there s g done answers ip e)

  pub placed : IsPut s done.path done.trans (begun_by s g done).situation image effects done.left (firing_of s g answers.job answers.job.trans)
  placed = put-in s g done image effects is answers

  pub log-placed : effects_of effects ≡ placed.log
  log-placed = log-is s done.path done.trans (begun_by s g done).situation image effects done.left (firing_of s g answers.job answers.job.trans) placed

  begins-core : (begun_by s g done).situation.core ≡ g.core
  begins-core = core-taken s g done.path (transition_at s done.trans (map.get g.core.instances done.path))

  outline-kept : (p : Path) (o : Option Instance) → option_map kept_outline (option_map (kept_of p) o) ≡ option_map outline_of o
  outline-kept p None = refl
  outline-kept p (Some i) = refl

  -- the store with the head taken stands for the situation with the head taken
  pub begins-stands : (new : Shared) → new.tree ≡ shared.tree → new.links ≡ shared.links → new.outputs ≡ shared.outputs
      → new.queues.queues ≡ head_taken done.path (when_ip (transition_at s done.trans (map.get g.core.instances done.path))) shared.queues.queues → StandsBut s done.path new (begun_by s g done).situation
  begins-stands new tree links outputs queues = record {
    others = λ p out. (λ i. map.get (tree i).instances p) ∙ stands.instances p ∙ ap (λ (c : Core). option_map (kept_of p) (map.get c.instances p)) (sym begins-core);
    outlines = λ p. (λ i. option_map kept_outline (map.get (tree i).instances p)) ∙ ap (option_map kept_outline) (stands.instances p) ∙ outline-kept p (map.get g.core.instances p)
        ∙ ap (λ (c : Core). option_map outline_of (map.get c.instances p)) (sym begins-core);
    links = (λ i. (links i).links) ∙ stands.links ∙ ap (λ (c : Core). c.links) (sym begins-core);
    queues = subst (AreQueuesOf s (begun_by s g done).situation) (sym queues)
        (head-taken s g done.path shared.queues.queues stands.queues (transition_at s done.trans (map.get g.core.instances done.path)) (receives-there s g done answers));
    outputs = outputs ∙ stands.outputs ∙ sym (made-taken s g done.path (transition_at s done.trans (map.get g.core.instances done.path)));
  }

  -- no more waits then than in the queues
  begins-waiting : length (begun_by s g done).situation.mail ≤ waiting_in shared.queues.queues
  begins-waiting =
      let taken = length-taken s g done.path (transition_at s done.trans (map.get g.core.instances done.path)) in
      let all = waiting-within _ shared.queues.queues g.mail (filed-of s g shared.queues.queues stands.queues) stands.queues.waiting (all-home s g shared.queues.queues stands.queues (begins-sound s g done answers)) in
      omega (arith, taken, all)

  pub begins-room : (new : Shared) (noted : Notes) → HasRoomForAll effects shared notes → new.tree ≡ shared.tree → new.links ≡ shared.links → shared.queues.spare ≤ new.queues.spare → new.queues.room ≡ shared.queues.room
      → record notes { log = noted.log } ≡ noted → IsRoomFor effects (length (begun_by s g done).situation.mail) new noted
  begins-room new noted has tree links spare points others = subst (λ (n : Notes). IsRoomFor effects (length (begun_by s g done).situation.mail) new n) others (record {
    instances = let t : new.tree.spare ≡ shared.tree.spare = (λ i. (tree i).spare) in omega (arith, t, has.room.instances);
    links = let l : new.links.spare ≡ shared.links.spare = (λ i. (links i).spare) in omega (arith, l, has.room.links);
    items = omega (arith, spare, has.room.items);
    points = omega (arith, points, has.room.points);
    outs = has.room.outs;
    drops = let fewer = drops-fewer effects (length (begun_by s g done).situation.mail) (waiting_in shared.queues.queues) begins-waiting in omega (arith, fewer, has.room.drops);
    arrivals = has.room.arrivals;
    rooms = has.room.rooms;
    widest = has.room.widest;
    wide = has.room.wide;
    within = λ p there. has.room.within p (subst (λ (t : trees.Tree Part). IsSome (trees.instance_at t p)) tree there);
    made_within = has.room.made_within;
    dropped = let fewer = drops-fewer effects (length (begun_by s g done).situation.mail) (waiting_in shared.queues.queues) begins-waiting in omega (arith, fewer, has.room.dropped);
    new_points = has.room.new_points;
    none_dropped = has.room.none_dropped;
    no_points = has.room.no_points;
  })

  -- with the head taken, the effects may be made
  abbrev pub may_begin : (new : Shared) (noted : Notes) → HasRoomForAll effects shared notes → shared.outputs + outputs_in effects < 2 ^ 64 → new.tree ≡ shared.tree → new.links ≡ shared.links → new.outputs ≡ shared.outputs
      → new.queues.queues ≡ head_taken done.path (when_ip (transition_at s done.trans (map.get g.core.instances done.path))) shared.queues.queues → shared.queues.spare ≤ new.queues.spare → new.queues.room ≡ shared.queues.room
      → record notes { log = noted.log } ≡ noted → MayGoOn s effects new noted
  may_begin new noted room numbers tree links outputs queues spare points others = record {
    by = done.path;
    acting = begun_by s g done;
    stands = begins-stands new tree links outputs queues;
    sound = sound-taken s g done.path (begins-sound s g done answers) (transition_at s done.trans (map.get g.core.instances done.path));
    can_be_made = subst (λ (es : List StatementEffect). CanAllBeMade s done.path es (begun_by s g done)) (sym log-placed) placed.can_be_made;
    logged = subst (AreLogged s) (sym placed.logged) (all-are-logged s placed.log);
    room = begins-room new noted room tree links spare points others;
    numbers = subst (λ (n : ℕ). n + outputs_in effects < 2 ^ 64) (sym outputs) numbers;
  }

  abbrev put_of : Outcome → Acting
  put_of o = put done.path (effects_of (log_of o)) (parts_of o) (begun_by s g done)

  -- what was put makes the shared state stand for the situation after it
  pub stands-after : (old noted : Notes) (final : Shared) → HaveBeenPut s effects image.parts old noted final done.path (begun_by s g done) → Stands s final (after_put s g done).situation
  stands-after old noted final been =
      subst (λ (o : Outcome). Stands s final (put_of o).situation) (sym is)
      (stands-written s done.path (after_all (effects_of effects) (begun_by s g done)) image
      (subst (λ (es : List StatementEffect). outline done.path (after_all es (begun_by s g done)).situation.core.instances ≡ outline_of_parts image.parts) (sym log-placed) placed.outline)
      (subst (λ (es : List StatementEffect). Shows image (private s (with_records done.path image.parts (after_all es (begun_by s g done))).situation.core done.path)) (sym log-placed) placed.private)
      been.made final been.stands been.tree been.links been.queues been.outputs)

  pub outs-after-put : (after_all (effects_of effects) (begun_by s g done)).outs ≡ (after_put s g done).outs
  outs-after-put = ap (λ (o : Outcome). (after_all (effects_of (log_of o)) (begun_by s g done)).outs) (sym is)

  pub drops-after-put : (after_all (effects_of effects) (begun_by s g done)).drops ≡ (after_put s g done).drops
  drops-after-put = ap (λ (o : Outcome). (after_all (effects_of (log_of o)) (begun_by s g done)).drops) (sym is)

  pub arrivals-put : arrivals (effects_of effects) (begun_by s g done) ≡ arrivals (effects_of (log_of done.outcome)) (begun_by s g done)
  arrivals-put = ap (λ (o : Outcome). arrivals (effects_of (log_of o)) (begun_by s g done)) (sym is)
