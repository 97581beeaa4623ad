-- One effect is made: what is left may go on, and the notes have what it gave.
use Rattle.std.proofs.Common.{◌≡◌, ◌≢◌, ◌⊎◌, ℕ, suc, ◌+◌, ◌≤◌, true, false, List, [], ◌∷◌, ◌++◌, length, Option, Some, None, is_some, refl, sym, ap, subst, ◌∙◌, inl, inr, arith, length-append}
use Rattle.std.specs.Prelude.{◌||◌, not, map as each, reverse, filter, option_map, is_none, All, IsSome, IfSome, vec_capacity, IsPermutation}
use Rattle.std.specs.FinMap as map
use Rattle.std.proofs.lemmas.List.{append-nil, length-map, length-reverse}
use Rattle.std.proofs.lemmas.List.Sums.{sum_by-cons}
use Rattle.std.proofs.lemmas.List.Sorted.{IsPermutation-reverse, IsPermutation-map}
use Rattle.estelle_tree.specs.declared.link.IpAddr.{IpAddr}
use Rattle.estelle_tree.specs.Paths.{Path, child, parent_of, last_of}
use Rattle.estelle_tree.specs.Links.{same_ip, joins, is_upper_of, touches, connection, attachment, peer, below, bottom, route}
use Rattle.estelle_tree.specs.Queues.{waits_inside, moved}
use Rattle.module_tree.specs.Trees as trees
use Rattle.module_tree.proofs.Paths.{not_root, cases_path}
use Rattle.link_ops.specs.Linked as linked
use Rattle.queue_store.specs.Queues.{is_declared, moved_all, dropped_below, items_below}
use Rattle.estelle_model.specs.declared.image.Part.{Part}
use Rattle.estelle_model.specs.declared.image.Interaction.{Interaction}
use Rattle.estelle_model.specs.declared.effect.Out.{Out}
use Rattle.estelle_model.specs.declared.effect.Effect.{Effect}
use Rattle.estelle_model.specs.declared.effect.Effect.TheVariants as logged
use Rattle.estelle_model.specs.Actions.{at, count_from, is_bound}
use Rattle.estelle_model.specs.Core.{Instance}
use Rattle.estelle_model.specs.Effects.{Output}
use Rattle.estelle_model.specs.Subject.{Subject, ips_of}
use Rattle.estelle_model.specs.Situation.{Waiting, Situation, arrived, mail_after, outs_after, situation_after, acting_after}
use Rattle.estelle_model.specs.Jobs.{part_of_entry, instance_of, IsIp}
use Rattle.effect_log.specs.declared.shared.Shared.{Shared}
use Rattle.effect_log.specs.declared.notes.Notes.{Notes}
use Rattle.effect_log.specs.Putting.{effect_of, path_of, arrived_at}
use Rattle.effect_log.specs.Rooms.{outputs_of, links_of, instances_of, points_of, removes, outputs_in, drops_in, IsRoomFor}
use Rattle.effect_log.specs.Underway.{StandsBut, outline_of, kept_outline, MayGoOn, MaySend, HasSent, HasDropped, WasMade, times, dropped_by, sent, declared_all, AllFresh}
use Rattle.effect_log.proofs.Rising.{times-permuted}
use Rattle.effect_log.proofs.Waiting.{dropped-permuted, length-dropped, length-moved, length-outside}
use Rattle.effect_log.proofs.Ways.{bottom-elsewhere, bound-alike, below-some, peer-some}
use Rattle.effect_log.proofs.Points.{instance-there, there-attached}
use Rattle.effect_log.proofs.Soundness.{sound-after, down-here, route-there, bottom-there, upper-there}
use Rattle.effect_log.proofs.After.{filed-of, declared-there, all-home, after-output, after-connect, after-disconnect, after-attach, after-detach, after-create, after-remove, all-fresh, placed-before, kept-before}
use Rattle.effect_log.proofs.Room.{Takes, room-left, all-given, all-narrower, length-given, drops-other, drops-removed}

-- ---- what every effect leaves

module _ (s : Subject) (e : Effect) (rest : List Effect) (shared : Shared) (old : Notes) (may : MayGoOn s (e ∷ rest) shared old) where
  -- where the effect is made
  abbrev here : Situation
  here = may.acting.situation

  made-by : (new : Shared) (noted : Notes) → StandsBut s may.by new (situation_after (effect_of e) here) → Takes e rest (length here.mail) (length (situation_after (effect_of e) here).mail) shared new old noted
      → new.outputs ≡ shared.outputs + outputs_of e → noted.outs.items ≡ outs_after (effect_of e) here.core.links old.outs.items
      → noted.arrivals.items ≡ old.arrivals.items ++ arrived_at (effect_of e) here.core.links → HasDropped old.drops.items noted.drops.items (dropped_by (effect_of e) here.mail) → noted.log.items ≡ old.log.items
      → WasMade s e rest old noted new may.by may.acting
  made-by new noted stands takes outputs outs arrivals drops log = record {
    next = record {
      by = may.by;
      acting = acting_after (effect_of e) may.acting;
      stands = stands;
      sound = sound-after s here may.sound may.by (effect_of e) may.can_be_made.0;
      can_be_made = may.can_be_made.1;
      logged = may.logged.1;
      room = room-left e rest (length here.mail) (length (situation_after (effect_of e) here).mail) shared new old noted may.room takes;
      numbers = let sum = sum_by-cons outputs_of e rest in omega (arith, sum, outputs, may.numbers);
    };
    same = refl;
    after = refl;
    outs = outs;
    arrivals = arrivals;
    drops = drops;
    log = log;
  }

  -- an instance is there for the situation where it is there for the tree
  there-kept : (p : Path) (i : Instance) → map.get here.core.instances p ≡ Some i → (u : trees.Instance Part) × (map.get shared.tree.instances p ≡ Some u) × (u.births ≡ i.births)
  there-kept p i is = by (map.get shared.tree.instances p) refl (may.stands.outlines p ∙ ap (option_map outline_of) is)
    where
      by : (o : Option (trees.Instance Part)) → map.get shared.tree.instances p ≡ o → option_map kept_outline o ≡ Some (outline_of i) → (u : trees.Instance Part) × (map.get shared.tree.instances p ≡ Some u) × (u.births ≡ i.births)
      by None e h = absurd (cc)
      by (Some u) e h = let both : (u.part.body, u.births) ≡ (i.body, i.births) = cc in (u, e, ap (λ (x : ℕ × ℕ). x.1) both)

  -- the path of an instance that is there fits the rooms
  path-fits : (a : IpAddr) → IsIp s here.core.instances a → All (λ room. length a.path ≤ room) old.rooms.items
  path-fits a there =
      let i = instance-there s here.core.instances a there in
      let u = there-kept a.path i.0 i.1 in
      all-narrower (length a.path) may.room.widest old.rooms.items (may.room.within a.path (ap is_some u.1)) may.room.wide

  points-there : (a : IpAddr) → IsIp s here.core.instances a → is_declared a shared.queues.queues ≡ true
  points-there a there = declared-there s here shared.queues.queues may.stands.queues a there

  -- nothing is dropped
  none-dropped : HasDropped old.drops.items old.drops.items []
  none-dropped = record { added = []; drops = sym (append-nil old.drops.items); same = λ n. refl }

pub if-some : {A : Type 0} (o : Option A) (P : A → Type 0) → ((a : A) → o ≡ Some a → P a) → IfSome o P
if-some None P h = tt
if-some (Some a) P h = h a refl

-- ---- outputs

module _ (s : Subject) (from : IpAddr) (item : Interaction) (out : Out) (rest : List Effect) (shared : Shared) (old : Notes) (may : MayGoOn s (logged.Output from item out ∷ rest) shared old) where
  way-alike : route shared.links.links from ≡ route may.acting.situation.core.links from
  way-alike = ap (λ ls. route ls from) may.stands.links

  way-there : (a : IpAddr) → route shared.links.links from ≡ Some a → IsIp s may.acting.situation.core.instances a
  way-there a is = route-there s may.acting.situation may.sound from a (sym way-alike ∙ is)

  one-output : outputs_in (logged.Output from item out ∷ rest) ≡ 1 + outputs_in rest
  one-output = sum_by-cons outputs_of (logged.Output from item out) rest

  pub may-send : MaySend from shared old
  may-send = record {
    declared = if-some (route shared.links.links from) (λ a. is_declared a shared.queues.queues ≡ true) (λ a is. points-there s (logged.Output from item out) rest shared old may a (way-there a is));
    wide = if-some (route shared.links.links from) (λ a. All (λ room. length a.path ≤ room) old.rooms.items) (λ a is. path-fits s (logged.Output from item out) rest shared old may a (way-there a is));
    spare = omega (arith, one-output, may.room.items);
    room = omega (arith, one-output, may.room.rooms);
    arrivals = omega (arith, one-output, may.room.arrivals);
    outs = omega (arith, one-output, may.room.outs);
    number = omega (arith, one-output, may.numbers);
  }

  arrived-length : (i : Interaction) (o : Option IpAddr) (mail : List Waiting) → length (arrived i o mail) ≤ length mail + 1
  arrived-length i None mail = omega arith
  arrived-length i (Some a) mail = let l = length-append mail (record { item = i; at = a } ∷ []) in omega (arith, l)

  path-length : (o : Option IpAddr) → length (path_of o) ≤ 1
  path-length None = omega arith
  path-length (Some a) = omega arith

  -- no more can be dropped than before
  fewer-left : drops_in rest (length (mail_after (Output from out.ip item.name item.values) may.acting.situation.core.links may.acting.situation.made may.acting.situation.mail)) ≤ drops_in (logged.Output from item out ∷ rest) (length may.acting.situation.mail)
  unfolding mail_after
  fewer-left =
      drops-other (logged.Output from item out) rest (length may.acting.situation.mail) (length (mail_after (Output from out.ip item.name item.values) may.acting.situation.core.links may.acting.situation.made may.acting.situation.mail)) refl
      (arrived-length (record { number = suc may.acting.situation.made; name = item.name; values = item.values }) (route may.acting.situation.core.links from) may.acting.situation.mail)

  pub output-made : (new : Shared) (noted : Notes) → HasSent from item out shared new old noted → WasMade s (logged.Output from item out) rest old noted new may.by may.acting
  unfolding mail_after outs_after
  output-made new noted h =
      let as_logged : logged.Output from item out ≡ logged.Output from (record { number = 0; name = item.name; values = item.values }) (record { path = from.path; ip = out.ip; name = item.name; values = item.values; lost = false }) = may.logged.0 in
      let out_is : out ≡ record { path = from.path; ip = out.ip; name = item.name; values = item.values; lost = false } = cc in
      let number : shared.outputs + 1 ≡ suc may.acting.situation.made = omega (arith, may.stands.outputs) in
      let fewer = fewer-left in
      made-by s (logged.Output from item out) rest shared old may new noted
      (after-output s may.by shared may.acting.situation may.stands may.sound from out.ip item.name item.values new
      h.instances h.links
      (h.queues ∙ (λ i. sent (record { number = number i; name = item.name; values = item.values }) (way-alike i) shared.queues.queues))
      (h.outputs ∙ number))
      (record {
        instances = omega (arith, h.instances_spare);
        links = omega (arith, h.links_spare);
        items = omega (arith, h.spare);
        points = omega (arith, h.room);
        outs = let l = ap length h.outs in let k = length-append old.outs.items (record out { lost = is_none (route shared.links.links from) } ∷ []) in omega (arith, l, k);
        outs_space = h.outs_space;
        drops = let d = ap length h.others.drops in omega (arith, d, fewer);
        drops_space = h.others.drops_space;
        arrivals = let l = ap length h.arrivals in let k = length-append old.arrivals.items (path_of (route shared.links.links from)) in let p = path-length (route shared.links.links from) in omega (arith, l, k, p);
        arrivals_space = h.arrivals_space;
        rooms = length-given old.rooms.items noted.rooms.items h.rooms;
        wide = λ n w. all-given n old.rooms.items noted.rooms.items h.rooms w;
        within = λ p there. inl (subst (λ t. IsSome (map.get t p)) h.instances there);
        dropped = fewer;
        dropped_space = h.others.dropped_space;
        none_dropped = h.others.dropped ∙ may.room.none_dropped;
        points_space = h.others.points_space;
        no_points = h.others.points ∙ may.room.no_points;
      })
      h.outputs
      (h.outs ∙ (λ i. old.outs.items ++ record (out_is i) { lost = is_none (route (may.stands.links i) from) } ∷ []))
      (h.arrivals ∙ (λ i. old.arrivals.items ++ path_of (way-alike i)))
      (subst (λ ns. HasDropped old.drops.items ns []) (sym h.others.drops) (none-dropped s (logged.Output from item out) rest shared old may))
      h.others.log

-- ---- links

-- what a change of links alone takes
links-take : (e : Effect) (rest : List Effect) (w v : ℕ) (shared new : Shared) (old : Notes) → IsRoomFor (e ∷ rest) w shared old → removes e ≡ false → v ≤ w
    → new.tree.instances ≡ shared.tree.instances → new.tree.spare ≡ shared.tree.spare → shared.links.spare ≤ new.links.spare + links_of e → new.queues.spare ≡ shared.queues.spare → new.queues.room ≡ shared.queues.room → Takes e rest w v shared new old old
links-take e rest w v shared new old room none le instances spare links items points = record {
  instances = omega (arith, spare);
  links = links;
  items = omega (arith, items);
  points = omega (arith, points);
  outs = omega arith;
  outs_space = refl;
  drops = let fewer = drops-other e rest w v none (omega (arith, le)) in omega (arith, fewer);
  drops_space = refl;
  arrivals = omega arith;
  arrivals_space = refl;
  rooms = omega arith;
  wide = λ n h. h;
  within = λ p there. inl (subst (λ t. IsSome (map.get t p)) instances there);
  dropped = drops-other e rest w v none (omega (arith, le));
  dropped_space = refl;
  none_dropped = room.none_dropped;
  points_space = refl;
  no_points = room.no_points;
}

module _ (s : Subject) (a b : IpAddr) (rest : List Effect) (shared : Shared) (old : Notes) (may : MayGoOn s (logged.Connect a b ∷ rest) shared old) where
  pub may-connect : (1 ≤ shared.links.spare) × (a ≢ b) × ((linked.is_bound shared.links.links a || linked.is_bound shared.links.links b) ≡ false)
  may-connect = (
    let sum = sum_by-cons links_of (logged.Connect a b) rest in omega (arith, sum, may.room.links),
    may.can_be_made.0.0.differ,
    (λ i. free a may.can_be_made.0.1 i || free b may.can_be_made.0.2 i),
  )
    where
      free : (x : IpAddr) → is_bound x may.acting.situation.core.links ≡ false → linked.is_bound shared.links.links x ≡ false
      free x h = ap (λ ls. linked.is_bound ls x) may.stands.links ∙ bound-alike may.acting.situation.core.links x ∙ h

  pub connect-made : (new : Shared) → new.tree ≡ shared.tree → new.queues ≡ shared.queues → new.outputs ≡ shared.outputs → new.links.links ≡ shared.links.links ++ connection a b ∷ [] → shared.links.spare ≤ new.links.spare + 1
      → WasMade s (logged.Connect a b) rest old old new may.by may.acting
  unfolding mail_after outs_after
  connect-made new tree queues outputs links spare =
      made-by s (logged.Connect a b) rest shared old may new old
      (after-connect s may.by shared may.acting.situation may.stands may.sound a b new (λ i. (tree i).instances) links (λ i. (queues i).queues) outputs)
      (links-take (logged.Connect a b) rest (length may.acting.situation.mail) (length may.acting.situation.mail) shared new old may.room refl (omega arith) (λ i. (tree i).instances) (λ i. (tree i).spare) spare (λ i. (queues i).spare) (λ i. (queues i).room))
      (omega (arith, outputs)) refl (sym (append-nil old.arrivals.items)) (none-dropped s (logged.Connect a b) rest shared old may) refl

module _ (s : Subject) (a : IpAddr) (rest : List Effect) (shared : Shared) (old : Notes) (may : MayGoOn s (logged.Disconnect a ∷ rest) shared old) where
  pub may-disconnect : is_some (peer shared.links.links a) ≡ true
  may-disconnect = ap (λ ls. is_some (peer ls a)) may.stands.links ∙ peer-some may.acting.situation.core.links a ∙ may.can_be_made.0.1

  pub disconnect-made : (new : Shared) → new.tree ≡ shared.tree → new.queues ≡ shared.queues → new.outputs ≡ shared.outputs → new.links.links ≡ filter (λ l. not (joins a l)) shared.links.links → shared.links.spare ≤ new.links.spare
      → WasMade s (logged.Disconnect a) rest old old new may.by may.acting
  unfolding mail_after outs_after
  disconnect-made new tree queues outputs links spare =
      made-by s (logged.Disconnect a) rest shared old may new old
      (after-disconnect s may.by shared may.acting.situation may.stands may.sound a new (λ i. (tree i).instances) links (λ i. (queues i).queues) outputs)
      (links-take (logged.Disconnect a) rest (length may.acting.situation.mail) (length may.acting.situation.mail) shared new old may.room refl (omega arith) (λ i. (tree i).instances) (λ i. (tree i).spare) (omega (arith, spare)) (λ i. (queues i).spare) (λ i. (queues i).room))
      (omega (arith, outputs)) refl (sym (append-nil old.arrivals.items)) (none-dropped s (logged.Disconnect a) rest shared old may) refl

module _ (s : Subject) (upper lower : IpAddr) (rest : List Effect) (shared : Shared) (old : Notes) (may : MayGoOn s (logged.Attach upper lower ∷ rest) shared old) where
  attach-down : bottom shared.links.links lower ≡ bottom may.acting.situation.core.links lower
  attach-down = ap (λ ls. bottom ls lower) may.stands.links

  attach-ends : IsIp s may.acting.situation.core.instances upper × IsIp s may.acting.situation.core.instances lower
  attach-ends = there-attached s may.acting.situation.core.instances upper lower may.can_be_made.0.0.allowed

  -- what attaching asks
  pub record MayAttach : Type 0 where
    pub room : 1 ≤ shared.links.spare
    pub child : linked.IsChild upper.path lower.path
    pub free : (is_some (below shared.links.links upper) || linked.is_bound shared.links.links lower) ≡ false
    pub declared : is_declared upper shared.queues.queues ≡ true
    pub last : is_declared (bottom shared.links.links lower) shared.queues.queues ≡ true
    pub differ : same_ip upper (bottom shared.links.links lower) ≡ false

  pub may-attach : MayAttach
  may-attach = record {
    room = let sum = sum_by-cons links_of (logged.Attach upper lower) rest in omega (arith, sum, may.room.links);
    child = (may.can_be_made.0.0.number, may.can_be_made.0.0.below);
    free = (λ i. (ap (λ ls. is_some (below ls upper)) may.stands.links ∙ below-some may.acting.situation.core.links upper ∙ may.can_be_made.0.1) i
        || (ap (λ ls. linked.is_bound ls lower) may.stands.links ∙ bound-alike may.acting.situation.core.links lower ∙ may.can_be_made.0.2) i);
    declared = points-there s (logged.Attach upper lower) rest shared old may upper attach-ends.0;
    last = ap (λ x. is_declared x shared.queues.queues) attach-down
        ∙ points-there s (logged.Attach upper lower) rest shared old may (bottom may.acting.situation.core.links lower) (bottom-there s may.acting.situation may.sound lower attach-ends.1);
    differ = ap (same_ip upper) attach-down
        ∙ bottom-elsewhere may.acting.situation.core.links (down-here s may.acting.situation may.sound) upper lower may.can_be_made.0.0.number may.can_be_made.0.0.below;
  }

  pub attach-made : (new : Shared) → new.tree ≡ shared.tree → new.queues ≡ record shared.queues { queues = moved_all upper (bottom shared.links.links lower) shared.queues.queues } → new.outputs ≡ shared.outputs
      → new.links.links ≡ shared.links.links ++ attachment upper lower ∷ [] → shared.links.spare ≤ new.links.spare + 1 → below shared.links.links (bottom shared.links.links lower) ≡ None
      → WasMade s (logged.Attach upper lower) rest old old new may.by may.acting
  unfolding mail_after outs_after
  attach-made new tree queues outputs links spare end =
      let moved_length = length-moved upper (bottom (may.acting.situation.core.links ++ attachment upper lower ∷ []) lower) may.acting.situation.mail in
      made-by s (logged.Attach upper lower) rest shared old may new old
      (after-attach s may.by shared may.acting.situation may.stands may.sound upper lower may.can_be_made.0 ((λ i. below (sym may.stands.links i) (bottom (sym may.stands.links i) lower)) ∙ end) new (λ i. (tree i).instances) links
      may-attach.declared ((λ i. (queues i).queues) ∙ ap (λ x. moved_all upper x shared.queues.queues) attach-down) outputs)
      (links-take (logged.Attach upper lower) rest (length may.acting.situation.mail) (length (moved upper (bottom (may.acting.situation.core.links ++ attachment upper lower ∷ []) lower) may.acting.situation.mail)) shared new old may.room refl
      (omega (arith, moved_length)) (λ i. (tree i).instances) (λ i. (tree i).spare) spare (λ i. (queues i).spare) (λ i. (queues i).room))
      (omega (arith, outputs)) refl (sym (append-nil old.arrivals.items)) (none-dropped s (logged.Attach upper lower) rest shared old may) refl

module _ (s : Subject) (upper : IpAddr) (rest : List Effect) (shared : Shared) (old : Notes) (may : MayGoOn s (logged.Detach upper ∷ rest) shared old) where
  detach-down : bottom shared.links.links upper ≡ bottom may.acting.situation.core.links upper
  detach-down = ap (λ ls. bottom ls upper) may.stands.links

  detach-upper : IsIp s may.acting.situation.core.instances upper
  detach-upper = upper-there s may.acting.situation may.sound upper may.can_be_made.0.1

  pub may-detach : (is_some (below shared.links.links upper) ≡ true) × (is_declared upper shared.queues.queues ≡ true) × (is_declared (bottom shared.links.links upper) shared.queues.queues ≡ true)
  may-detach = (
    ap (λ ls. is_some (below ls upper)) may.stands.links ∙ below-some may.acting.situation.core.links upper ∙ may.can_be_made.0.1,
    points-there s (logged.Detach upper) rest shared old may upper detach-upper,
    ap (λ x. is_declared x shared.queues.queues) detach-down
        ∙ points-there s (logged.Detach upper) rest shared old may (bottom may.acting.situation.core.links upper) (bottom-there s may.acting.situation may.sound upper detach-upper),
  )

  pub detach-made : (new : Shared) → new.tree ≡ shared.tree → new.queues ≡ record shared.queues { queues = moved_all (bottom shared.links.links upper) upper shared.queues.queues } → new.outputs ≡ shared.outputs
      → new.links.links ≡ filter (λ l. not (is_upper_of upper l)) shared.links.links → shared.links.spare ≤ new.links.spare
      → WasMade s (logged.Detach upper) rest old old new may.by may.acting
  unfolding mail_after outs_after
  detach-made new tree queues outputs links spare =
      let moved_length = length-moved (bottom may.acting.situation.core.links upper) upper may.acting.situation.mail in
      made-by s (logged.Detach upper) rest shared old may new old
      (after-detach s may.by shared may.acting.situation may.stands may.sound upper new (λ i. (tree i).instances) links
      (ap (λ x. is_declared x shared.queues.queues) (sym detach-down) ∙ may-detach.2) ((λ i. (queues i).queues) ∙ ap (λ x. moved_all x upper shared.queues.queues) detach-down) outputs)
      (links-take (logged.Detach upper) rest (length may.acting.situation.mail) (length (moved (bottom may.acting.situation.core.links upper) upper may.acting.situation.mail)) shared new old may.room refl
      (omega (arith, moved_length)) (λ i. (tree i).instances) (λ i. (tree i).spare) (omega (arith, spare)) (λ i. (queues i).spare) (λ i. (queues i).room))
      (omega (arith, outputs)) refl (sym (append-nil old.arrivals.items)) (none-dropped s (logged.Detach upper) rest shared old may) refl

-- ---- instances

module _ (s : Subject) (path : Path) (part : Part) (ips : List IpAddr) (rest : List Effect) (shared : Shared) (old : Notes) (may : MayGoOn s (logged.Create path part ips ∷ rest) shared old) where
  abbrev new_points : List IpAddr
  new_points = each (at (child (parent_of path) (last_of path))) (count_from 0 (length (ips_of s part.body)))

  -- what is logged of a new instance
  create-logged : (path ≡ child (parent_of path) (last_of path)) × (part ≡ part_of_entry (child (parent_of path) (last_of path), instance_of part)) × (ips ≡ new_points)
  create-logged =
      let as_logged : logged.Create path part ips ≡ logged.Create (child (parent_of path) (last_of path)) (part_of_entry (child (parent_of path) (last_of path), instance_of part)) new_points = may.logged.0 in (
        let is : path ≡ child (parent_of path) (last_of path) = cc in is,
        let is : part ≡ part_of_entry (child (parent_of path) (last_of path), instance_of part) = cc in is,
        let is : ips ≡ new_points = cc in is,
      )

  -- the parent, as the tree has it
  create-parent : (u : trees.Instance Part) × (map.get shared.tree.instances (parent_of path) ≡ Some u) × (last_of path ≡ u.births + 1)
  create-parent =
      let next = may.can_be_made.0.1 in
      let u = there-kept s (logged.Create path part ips) rest shared old may (parent_of path) next.0 next.1 in
      (u.0, u.1, omega (arith, next.2, u.2))

  -- what making it asks
  pub record MayCreate : Type 0 where
    pub space : 1 ≤ shared.tree.spare
    pub below : path ≢ []
    pub parent : IsSome (trees.births_at shared.tree (parent_of path))
    pub next : IfSome (trees.births_at shared.tree (parent_of path)) (λ births. last_of path ≡ births + 1)
    pub fresh : AllFresh s part.body ips shared.queues.queues
    pub room : length ips ≤ shared.queues.room
    pub none : old.points.items ≡ []
    pub capacity : length ips ≤ vec_capacity old.points

  pub may-create : MayCreate
  may-create = record {
    space = let sum = sum_by-cons instances_of (logged.Create path part ips) rest in omega (arith, sum, may.room.instances);
    below = λ e. not_root (parent_of path) (last_of path) (sym create-logged.0 ∙ e);
    parent = ap (λ o. is_some (option_map (λ (u : trees.Instance Part). u.births) o)) create-parent.1;
    next = subst (λ o. IfSome (option_map (λ (u : trees.Instance Part). u.births) o) (λ births. last_of path ≡ births + 1)) (sym create-parent.1) create-parent.2;
    fresh = subst (λ xs. AllFresh s part.body xs shared.queues.queues) (sym create-logged.2)
        (all-fresh s may.by shared may.acting.situation may.stands may.sound (parent_of path) (last_of path) (instance_of part) may.can_be_made.0);
    room = let sum = sum_by-cons points_of (logged.Create path part ips) rest in omega (arith, sum, may.room.points);
    none = may.room.no_points;
    capacity = let sum = sum_by-cons points_of (logged.Create path part ips) rest in omega (arith, sum, may.room.new_points);
  }

  -- an instance that is there now was there, or is the new one
  create-within : (t : trees.Instances Part) → t ≡ trees.placed shared.tree.instances path part → (p : Path) → IsSome (map.get t p) → IsSome (map.get shared.tree.instances p) ⊎ (length p ≤ length path)
  create-within t is p there = by (cases_path path p)
    where
      placed_there : IsSome (map.get (trees.placed shared.tree.instances path part) p)
      placed_there = subst (λ t. IsSome (map.get t p)) is there

      by : (path ≡ p) ⊎ (path ≢ p) → IsSome (map.get shared.tree.instances p) ⊎ (length p ≤ length path)
      by (inl e) = inr (let l = ap length e in omega (arith, l))
      by (inr h) = inl (placed-before shared.tree.instances path part p h placed_there)

  pub create-made : (new : Shared) (noted : Notes) → new.tree.instances ≡ trees.placed shared.tree.instances path part → shared.tree.spare ≤ new.tree.spare + 1 → new.links ≡ shared.links → new.outputs ≡ shared.outputs
      → new.queues.queues ≡ declared_all s part.body ips shared.queues.queues → new.queues.spare ≡ shared.queues.spare → shared.queues.room ≤ new.queues.room + length ips
      → noted ≡ record old { points = noted.points } → noted.points.items ≡ [] → vec_capacity noted.points ≡ vec_capacity old.points
      → WasMade s (logged.Create path part ips) rest old noted new may.by may.acting
  unfolding mail_after outs_after
  create-made new noted tree space links outputs queues spare room others none capacity =
      let fewer = drops-other (logged.Create path part ips) rest (length may.acting.situation.mail) (length may.acting.situation.mail) refl (let same : length may.acting.situation.mail ≤ length may.acting.situation.mail + 0 = omega arith in same) in
      made-by s (logged.Create path part ips) rest shared old may new noted
      (after-create s may.by shared may.acting.situation may.stands may.sound (parent_of path) (last_of path) (instance_of part) may.can_be_made.0 new
      (tree ∙ (λ i. trees.placed shared.tree.instances (create-logged.0 i) (create-logged.1 i))) (λ i. (links i).links)
      (queues ∙ ap (λ xs. declared_all s part.body xs shared.queues.queues) create-logged.2) outputs)
      (record {
        instances = space;
        links = let l : new.links.spare ≡ shared.links.spare = (λ i. (links i).spare) in omega (arith, l);
        items = omega (arith, spare);
        points = room;
        outs = let o : length noted.outs.items ≡ length old.outs.items = (λ i. length (others i).outs.items) in omega (arith, o);
        outs_space = (λ i. vec_capacity (others i).outs);
        drops = let d : length noted.drops.items ≡ length old.drops.items = (λ i. length (others i).drops.items) in omega (arith, d, fewer);
        drops_space = (λ i. vec_capacity (others i).drops);
        arrivals = let a : length noted.arrivals.items ≡ length old.arrivals.items = (λ i. length (others i).arrivals.items) in omega (arith, a);
        arrivals_space = (λ i. vec_capacity (others i).arrivals);
        rooms = let r : length noted.rooms.items ≡ length old.rooms.items = (λ i. length (others i).rooms.items) in omega (arith, r);
        wide = λ n h. subst (λ (rs : List ℕ). All (λ room. n ≤ room) rs) (sym (λ i. (others i).rooms.items)) h;
        within = create-within new.tree.instances tree;
        dropped = fewer;
        dropped_space = (λ i. vec_capacity (others i).dropped);
        none_dropped = (λ i. (others i).dropped.items) ∙ may.room.none_dropped;
        points_space = capacity;
        no_points = none;
      })
      (omega (arith, outputs)) (λ i. (others i).outs.items) ((λ i. (others i).arrivals.items) ∙ sym (append-nil old.arrivals.items))
      (subst (λ ns. HasDropped old.drops.items ns []) (sym (λ i. (others i).drops.items)) (none-dropped s (logged.Create path part ips) rest shared old may)) (λ i. (others i).log.items)

module _ (s : Subject) (path : Path) (rest : List Effect) (shared : Shared) (old : Notes) (may : MayGoOn s (logged.Remove path ∷ rest) shared old) where
  remove-logged : path ≡ child (parent_of path) (last_of path)
  remove-logged = let as_logged : logged.Remove path ≡ logged.Remove (child (parent_of path) (last_of path)) = may.logged.0 in cc

  abbrev gone : List Waiting
  gone = filter (waits_inside (child (parent_of path) (last_of path))) may.acting.situation.mail

  -- what is dropped is what waits at the instance and below it
  below-gone : IsPermutation (items_below path shared.queues.queues) (each (λ w. w.item) gone)
  below-gone = subst (λ p. IsPermutation (items_below p shared.queues.queues) (each (λ w. w.item) gone)) (sym remove-logged)
      (dropped-permuted _ (child (parent_of path) (last_of path)) shared.queues.queues may.acting.situation.mail (filed-of s may.acting.situation shared.queues.queues may.stands.queues) may.stands.queues.waiting
      (all-home s may.acting.situation shared.queues.queues may.stands.queues may.sound))

  length-gone : length (items_below path shared.queues.queues) ≡ length gone
  length-gone = ap (λ p. length (items_below p shared.queues.queues)) remove-logged
      ∙ length-dropped _ (child (parent_of path) (last_of path)) shared.queues.queues may.acting.situation.mail (filed-of s may.acting.situation shared.queues.queues may.stands.queues) may.stands.queues.waiting
      (all-home s may.acting.situation shared.queues.queues may.stands.queues may.sound)

  left-and-gone : length (filter (λ w. not (waits_inside (child (parent_of path) (last_of path)) w)) may.acting.situation.mail) + length gone ≡ length may.acting.situation.mail
  left-and-gone = length-outside (child (parent_of path) (last_of path)) may.acting.situation.mail

  -- there is room for what is dropped
  drops-fit : length gone + drops_in rest (length (filter (λ w. not (waits_inside (child (parent_of path) (last_of path)) w)) may.acting.situation.mail)) ≤ drops_in (logged.Remove path ∷ rest) (length may.acting.situation.mail)
  drops-fit = drops-removed path rest (length may.acting.situation.mail) (length (filter (λ w. not (waits_inside (child (parent_of path) (last_of path)) w)) may.acting.situation.mail)) (length gone) left-and-gone

  -- what removing it asks
  pub record MayRemove : Type 0 where
    pub below : path ≢ []
    pub there : IsSome (trees.instance_at shared.tree path)
    pub none : old.dropped.items ≡ []
    pub space : length (items_below path shared.queues.queues) ≤ vec_capacity old.dropped
    pub drops : length old.drops.items + length (items_below path shared.queues.queues) ≤ vec_capacity old.drops

  pub may-remove : MayRemove
  may-remove =
      let i = may.can_be_made.0.1 in
      let u = there-kept s (logged.Remove path) rest shared old may (child (parent_of path) (last_of path)) i.0 i.1 in
      record {
        below = λ e. not_root (parent_of path) (last_of path) (sym remove-logged ∙ e);
        there = ap (λ p. is_some (map.get shared.tree.instances p)) remove-logged ∙ ap is_some u.1;
        none = may.room.none_dropped;
        space = omega (arith, may.room.dropped, drops-fit, length-gone);
        drops = omega (arith, may.room.drops, drops-fit, length-gone);
      }

  number-each : (ws : List Waiting) → each (λ (i : Interaction). i.number) (each (λ w. w.item) ws) ≡ each (λ w. w.item.number) ws
  number-each [] = refl
  number-each (w ∷ ws) = ap (λ ns. w.item.number ∷ ns) (number-each ws)

  times-gone : (n : ℕ) → times n (reverse (each (λ (i : Interaction). i.number) (items_below path shared.queues.queues))) ≡ times n (each (λ w. w.item.number) gone)
  times-gone n =
      times-permuted n (each (λ (i : Interaction). i.number) (items_below path shared.queues.queues)) _ (IsPermutation-reverse (each (λ (i : Interaction). i.number) (items_below path shared.queues.queues)))
      ∙ sym (times-permuted n (each (λ (i : Interaction). i.number) (items_below path shared.queues.queues)) (each (λ (i : Interaction). i.number) (each (λ w. w.item) gone)) (IsPermutation-map (λ (i : Interaction). i.number) _ _ below-gone))
      ∙ ap (times n) (number-each gone)

  pub remove-made : (new : Shared) (noted : Notes) → new.tree.instances ≡ trees.without shared.tree.instances path → shared.tree.spare ≤ new.tree.spare → new.outputs ≡ shared.outputs
      → new.queues.queues ≡ dropped_below path shared.queues.queues → shared.queues.spare ≤ new.queues.spare → shared.queues.room ≤ new.queues.room
      → new.links.links ≡ filter (λ l. not (touches path l)) shared.links.links → shared.links.spare ≤ new.links.spare
      → noted ≡ record old { dropped = noted.dropped; drops = noted.drops } → noted.drops.items ≡ old.drops.items ++ reverse (each (λ i. i.number) (items_below path shared.queues.queues)) → vec_capacity noted.drops ≡ vec_capacity old.drops
      → noted.dropped.items ≡ [] → vec_capacity noted.dropped ≡ vec_capacity old.dropped
      → WasMade s (logged.Remove path) rest old noted new may.by may.acting
  unfolding mail_after outs_after
  remove-made new noted tree space outputs queues items points links room others drops drops_space none capacity =
      made-by s (logged.Remove path) rest shared old may new noted
      (after-remove s may.by shared may.acting.situation may.stands may.sound (parent_of path) (last_of path) new
      (tree ∙ ap (trees.without shared.tree.instances) remove-logged) (links ∙ ap (λ p. filter (λ l. not (touches p l)) shared.links.links) remove-logged) (queues ∙ ap (λ p. dropped_below p shared.queues.queues) remove-logged) outputs)
      (record {
        instances = omega (arith, space);
        links = omega (arith, room);
        items = omega (arith, items);
        points = omega (arith, points);
        outs = let o : length noted.outs.items ≡ length old.outs.items = (λ i. length (others i).outs.items) in omega (arith, o);
        outs_space = (λ i. vec_capacity (others i).outs);
        drops =
            let l = ap length drops in
            let k = length-append old.drops.items (reverse (each (λ (i : Interaction). i.number) (items_below path shared.queues.queues))) in
            let r = length-reverse (each (λ (i : Interaction). i.number) (items_below path shared.queues.queues)) in
            let m = length-map (items_below path shared.queues.queues) (λ (i : Interaction). i.number) in
            omega (arith, l, k, r, m, length-gone, drops-fit);
        drops_space = drops_space;
        arrivals = let a : length noted.arrivals.items ≡ length old.arrivals.items = (λ i. length (others i).arrivals.items) in omega (arith, a);
        arrivals_space = (λ i. vec_capacity (others i).arrivals);
        rooms = let r : length noted.rooms.items ≡ length old.rooms.items = (λ i. length (others i).rooms.items) in omega (arith, r);
        wide = λ n h. subst (λ (rs : List ℕ). All (λ room. n ≤ room) rs) (sym (λ i. (others i).rooms.items)) h;
        within = λ p there. inl (kept-before shared.tree.instances path p (subst (λ t. IsSome (map.get t p)) tree there));
        dropped = omega (arith, drops-fit);
        dropped_space = capacity;
        none_dropped = none;
        points_space = (λ i. vec_capacity (others i).points);
        no_points = (λ i. (others i).points.items) ∙ may.room.no_points;
      })
      (omega (arith, outputs)) (λ i. (others i).outs.items) ((λ i. (others i).arrivals.items) ∙ sym (append-nil old.arrivals.items))
      (record { added = reverse (each (λ (i : Interaction). i.number) (items_below path shared.queues.queues)); drops = drops; same = times-gone }) (λ i. (others i).log.items)
