-- What each effect does to the stores is what it does to the situation for which they stand.
use Rattle.std.proofs.Common.{◌≡◌, ◌≢◌, ◌⊎◌, ℕ, suc, ◌+◌, Bool, true, false, cond, List, [], ◌∷◌, ◌++◌, length, Option, Some, None, is_some, refl, sym, ap, subst, ◌∙◌, inl, inr}
use Rattle.std.specs.Prelude.{if◌then◌else◌, not, map as each, filter, find, option_map, IsSome}
use Rattle.std.specs.FinMap as map
use Rattle.estelle_tree.specs.declared.link.IpAddr.{IpAddr}
use Rattle.estelle_tree.specs.Paths.{Path, child, parent_of, is_inside}
use Rattle.estelle_tree.specs.Links.{joins, is_upper_of, touches, connection, attachment, below, bottom, route}
use Rattle.estelle_tree.specs.Queues.{waiting, not_waiting, brought_to, in_queue, moved}
use Rattle.module_tree.specs.Trees as trees
use Rattle.module_tree.specs.Nodes.{same}
use Rattle.module_tree.proofs.Seen.{get_insert, get_changed}
use Rattle.module_tree.proofs.Paths.{same_itself, differs, cases_path, parent_of-child, not_own_child}
use Rattle.queue_store.specs.Queues.{Queue, has, is_declared, queue_of, moved_all, dropped_below}
use Rattle.queue_store.specs.Holds.{belongs, holds}
use Rattle.queue_store.proofs.HoldsLaws.{holds-pushed, holds-moved, holds-dropped}
use Rattle.estelle_model.specs.declared.image.Part.{Part}
use Rattle.estelle_model.specs.declared.image.Interaction.{Interaction}
use Rattle.estelle_model.specs.declared.meaning.InteractionPoint.{InteractionPoint}
use Rattle.pascal_values.specs.declared.value.Value.{Value}
use Rattle.estelle_model.specs.Actions.{at, count_from}
use Rattle.estelle_model.specs.Core.{Instance}
use Rattle.estelle_model.specs.Effects.{Output, Connect, Disconnect, Attach, Detach, Create, Remove, born, instances_after, links_after}
use Rattle.estelle_model.specs.Subject.{Subject, ips_of}
use Rattle.estelle_model.specs.InteractionPoints.{point, point_of}
use Rattle.estelle_model.specs.Situation.{Waiting, Situation, arrived, mail_after, made_after, situation_after}
use Rattle.estelle_model.specs.Jobs.{part_of_entry, IsIp, CanBeMade}
use Rattle.estelle_model.proofs.Members.{Among, contained, find_among}
use Rattle.estelle_model.proofs.PrivateParts.{child_inside}
use Rattle.effect_log.specs.declared.shared.Shared.{Shared}
use Rattle.effect_log.specs.Standing.{kept_of, AreQueuesOf, QueuesAreHeld}
use Rattle.effect_log.specs.Underway.{IsSound, StandsBut, outline_of, kept_outline, sent, declared_all, AllFresh}
use Rattle.effect_log.proofs.Waiting.{AllHome}
use Rattle.effect_log.proofs.Filing.{Filed, outside, filed-alike, filed-on_queue, filed-dropped, declared-found}
use Rattle.effect_log.proofs.Ways.{some-map, bottom-appended}
use Rattle.effect_log.proofs.Points.{discipline, one-queue, instance-there, created, get-new, get-parent, get-other, get-outside}
use Rattle.effect_log.proofs.Declaring.{from_on, filed-all, holds-all, discipline-created}
use Rattle.effect_log.proofs.Soundness.{fresh-child, down-here}

-- ---- queues by their disciplines

module _ (s : Subject) (g : Situation) (qs : List (Queue Interaction)) where
  pub filed-of : AreQueuesOf s g qs → Filed (discipline s g.core.instances) qs
  filed-of h = record { declared = h.declared; together = λ a q is b. h.together a q is b ∙ one-queue s g.core.instances a b; apart = h.apart }

  pub queues-of : Filed (discipline s g.core.instances) qs → holds qs g.mail → AreQueuesOf s g qs
  queues-of filed h = record { declared = filed.declared; together = λ a q is b. filed.together a q is b ∙ sym (one-queue s g.core.instances a b); apart = filed.apart; waiting = h }

  queue-some : AreQueuesOf s g qs → (a : IpAddr) → IsIp s g.core.instances a → is_some (find (has a) qs) ≡ true
  queue-some h a there =
      sym (some-map (λ (q : Queue Interaction). q.common) (find (has a) qs)) ∙ ap is_some (h.declared a)
      ∙ some-map (λ (p : InteractionPoint). p.common) (point s g.core.instances a) ∙ ap is_some there.1

  -- a point that is there is declared
  pub declared-there : AreQueuesOf s g qs → (a : IpAddr) → IsIp s g.core.instances a → is_declared a qs ≡ true
  declared-there h a there = declared-found a qs ∙ queue-some h a there

  pub queue-found : AreQueuesOf s g qs → (a : IpAddr) → IsIp s g.core.instances a → (q : Queue Interaction) × (find (has a) qs ≡ Some q)
  queue-found h a there = some (find (has a) qs) (queue-some h a there)
    where
      some : (o : Option (Queue Interaction)) → is_some o ≡ true → (q : Queue Interaction) × (o ≡ Some q)
      some None e = absurd (cc)
      some (Some q) e = (q, refl)

  -- and what waits has a queue
  pub all-home : AreQueuesOf s g qs → IsSound s g → AllHome qs g.mail
  all-home h sound w m = queue-found h w.at (sound.waits w (contained g.mail w m))

-- ---- what a queue has

queue-items : (a : IpAddr) (qs : List (Queue Interaction)) (q : Queue Interaction) → find (has a) qs ≡ Some q → queue_of a qs ≡ q.items
queue-items a [] q is = absurd (cc)
queue-items a (r ∷ rs) q is = by (has a r) is (queue-items a rs q)
  where
    by : (b : Bool) → cond b (Some r) (find (has a) rs) ≡ Some q → (find (has a) rs ≡ Some q → queue_of a rs ≡ q.items) → (if b then r.items else queue_of a rs) ≡ q.items
    by true e rest = ap (λ (x : Queue Interaction). x.items) (let same : r ≡ q = cc in same)
    by false e rest = rest e

held-among : (qs : List (Queue Interaction)) (mail : List Waiting) → holds qs mail → (q : Queue Interaction) → Among q qs → q.items ≡ in_queue (belongs q) mail
held-among [] mail h q m = absurd m
held-among (r ∷ rs) mail h q (inl is) = subst (λ (x : Queue Interaction). x.items ≡ in_queue (belongs x) mail) is h.0
held-among (r ∷ rs) mail h q (inr m) = held-among rs mail h.1 q m

pub queues-held : QueuesAreHeld
queues-held s shared g stands a p there =
    let found = queue-found s g shared.queues.queues stands.queues a (p, there) in
    let at = find_among (has a) shared.queues.queues found.0 found.1 in (
      declared-there s g shared.queues.queues stands.queues a (p, there),
      queue-items a shared.queues.queues found.0 found.1 ∙ held-among shared.queues.queues g.mail stands.queues.waiting found.0 at.0
          ∙ (λ i. in_queue (λ b. stands.queues.together a found.0 found.1 b i) g.mail),
    )

-- ---- trees

module _ (t : trees.Instances Part) (p : Path) (k : ℕ) (part : Part) where
  placed-new : map.get (trees.placed t (child p k) part) (child p k) ≡ Some (trees.new_born part)
  placed-new = get_insert (trees.changed t (parent_of (child p k)) trees.one_more_birth) (child p k) (trees.new_born part) (child p k)
      ∙ ap (λ b. cond b (Some (trees.new_born part)) (map.get (trees.changed t (parent_of (child p k)) trees.one_more_birth) (child p k))) (same_itself (child p k))

  placed-rest : (q : Path) → child p k ≢ q → map.get (trees.placed t (child p k) part) q ≡ map.get (trees.changed t p trees.one_more_birth) q
  placed-rest q h =
      get_insert (trees.changed t (parent_of (child p k)) trees.one_more_birth) (child p k) (trees.new_born part) q
      ∙ ap (λ b. cond b (Some (trees.new_born part)) (map.get (trees.changed t (parent_of (child p k)) trees.one_more_birth) q)) (differs (child p k) q h)
      ∙ ap (λ r. map.get (trees.changed t r trees.one_more_birth) q) (parent_of-child p k)

  placed-parent : map.get (trees.placed t (child p k) part) p ≡ option_map trees.one_more_birth (map.get t p)
  placed-parent =
      placed-rest p (not_own_child p k) ∙ get_changed t p trees.one_more_birth p
      ∙ ap (λ b. cond b (option_map trees.one_more_birth (map.get t p)) (map.get t p)) (same_itself p)

  placed-other : (q : Path) → child p k ≢ q → p ≢ q → map.get (trees.placed t (child p k) part) q ≡ map.get t q
  placed-other q h j =
      placed-rest q h ∙ get_changed t p trees.one_more_birth q
      ∙ ap (λ b. cond b (option_map trees.one_more_birth (map.get t q)) (map.get t q)) (differs p q j)

-- an instance that is not the new one was there before
pub placed-before : (t : trees.Instances Part) (path : Path) (part : Part) (q : Path) → path ≢ q → IsSome (map.get (trees.placed t path part) q) → IsSome (map.get t q)
placed-before t path part q h there =
    by (same (parent_of path) q) (map.get t q)
    (sym (ap is_some (get_insert (trees.changed t (parent_of path) trees.one_more_birth) path (trees.new_born part) q
    ∙ ap (λ b. cond b (Some (trees.new_born part)) (map.get (trees.changed t (parent_of path) trees.one_more_birth) q)) (differs path q h)
    ∙ get_changed t (parent_of path) trees.one_more_birth q)) ∙ there)
  where
    by : (b : Bool) (o : Option (trees.Instance Part)) → is_some (cond b (option_map trees.one_more_birth o) o) ≡ true → is_some o ≡ true
    by true None e = absurd (cc)
    by true (Some u) e = refl
    by false o e = e

-- an instance that is left was there before
pub kept-before : (t : trees.Instances Part) (p q : Path) → IsSome (map.get (trees.without t p) q) → IsSome (map.get t q)
kept-before t p q there = by (is_inside p q) (sym (ap is_some (get-outside t p q)) ∙ there)
  where
    by : (b : Bool) → is_some (cond b None (map.get t q)) ≡ true → is_some (map.get t q) ≡ true
    by true e = absurd (cc)
    by false e = e

-- one more birth on both sides
births-more : (o : Option (trees.Instance Part)) (n : Option Instance) → option_map kept_outline o ≡ option_map outline_of n → option_map kept_outline (option_map trees.one_more_birth o) ≡ option_map outline_of (option_map born n)
births-more None None e = refl
births-more None (Some i) e = absurd (cc)
births-more (Some o) None e = absurd (cc)
births-more (Some o) (Some i) e = let both : (o.part.body, o.births) ≡ (i.body, i.births) = cc in ap (λ (x : ℕ × ℕ). Some (x.0, x.1 + 1)) both

turned : {A : Type 0} {x y : A} → x ≢ y → y ≢ x
turned h e = h (sym e)

module _ (s : Subject) (m : Path) (shared : Shared) (g : Situation) (st : StandsBut s m shared g) (sound : IsSound s g) where
  filed : Filed (discipline s g.core.instances) shared.queues.queues
  filed = filed-of s g shared.queues.queues st.queues

  -- the instances are as before
  same-tree : (new : Shared) (h : Situation) → new.tree.instances ≡ shared.tree.instances → h.core.instances ≡ g.core.instances → new.links.links ≡ h.core.links → AreQueuesOf s h new.queues.queues → new.outputs ≡ h.made → StandsBut s m new h
  same-tree new h tree instances links queues outputs = record {
    others = λ p out. ap (λ t. map.get t p) tree ∙ st.others p out ∙ ap (λ x. option_map (kept_of p) (map.get x p)) (sym instances);
    outlines = λ p. ap (λ t. option_map kept_outline (map.get t p)) tree ∙ st.outlines p ∙ ap (λ x. option_map outline_of (map.get x p)) (sym instances);
    links = links;
    queues = queues;
    outputs = outputs;
  }

  sent-filed : (item : Interaction) (o : Option IpAddr) → Filed (discipline s g.core.instances) (sent item o shared.queues.queues)
  sent-filed item None = filed
  sent-filed item (Some a) = filed-on_queue a (λ q. q.items ++ record { item = item; at = a } ∷ []) (discipline s g.core.instances) shared.queues.queues filed

  sent-holds : (item : Interaction) (o : Option IpAddr) → holds (sent item o shared.queues.queues) (arrived item o g.mail)
  sent-holds item None = st.queues.waiting
  sent-holds item (Some a) = holds-pushed a item shared.queues.queues g.mail st.queues.waiting

  pub after-output : (from : IpAddr) (ip name : List ℕ) (values : List Value) (new : Shared) → new.tree.instances ≡ shared.tree.instances → new.links.links ≡ shared.links.links
      → new.queues.queues ≡ sent (record { number = suc g.made; name = name; values = values }) (route g.core.links from) shared.queues.queues → new.outputs ≡ suc g.made
      → StandsBut s m new (situation_after (Output from ip name values) g)
  unfolding instances_after links_after mail_after made_after
  after-output from ip name values new tree links queues outputs =
      let item : Interaction = record { number = suc g.made; name = name; values = values } in
      same-tree new (situation_after (Output from ip name values) g) tree refl (links ∙ st.links)
      (subst (λ qs. AreQueuesOf s (situation_after (Output from ip name values) g) qs) (sym queues)
      (queues-of s (situation_after (Output from ip name values) g) (sent item (route g.core.links from) shared.queues.queues) (sent-filed item (route g.core.links from)) (sent-holds item (route g.core.links from))))
      outputs

  -- the queues are as before
  same-queues : (h : Situation) → h.core.instances ≡ g.core.instances → h.mail ≡ g.mail → AreQueuesOf s h shared.queues.queues
  same-queues h instances mail = queues-of s h shared.queues.queues
      (subst (λ x. Filed (discipline s x) shared.queues.queues) (sym instances) filed)
      (subst (λ ws. holds shared.queues.queues ws) (sym mail) st.queues.waiting)

  pub after-connect : (a b : IpAddr) (new : Shared) → new.tree.instances ≡ shared.tree.instances → new.links.links ≡ shared.links.links ++ connection a b ∷ [] → new.queues.queues ≡ shared.queues.queues → new.outputs ≡ shared.outputs
      → StandsBut s m new (situation_after (Connect a b) g)
  unfolding instances_after links_after mail_after made_after
  after-connect a b new tree links queues outputs =
      same-tree new (situation_after (Connect a b) g) tree refl (links ∙ ap (λ ls. ls ++ connection a b ∷ []) st.links)
      (subst (λ qs. AreQueuesOf s (situation_after (Connect a b) g) qs) (sym queues) (same-queues (situation_after (Connect a b) g) refl refl)) (outputs ∙ st.outputs)

  pub after-disconnect : (a : IpAddr) (new : Shared) → new.tree.instances ≡ shared.tree.instances → new.links.links ≡ filter (λ l. not (joins a l)) shared.links.links → new.queues.queues ≡ shared.queues.queues → new.outputs ≡ shared.outputs
      → StandsBut s m new (situation_after (Disconnect a) g)
  unfolding instances_after links_after mail_after made_after
  after-disconnect a new tree links queues outputs =
      same-tree new (situation_after (Disconnect a) g) tree refl (links ∙ ap (filter (λ l. not (joins a l))) st.links)
      (subst (λ qs. AreQueuesOf s (situation_after (Disconnect a) g) qs) (sym queues) (same-queues (situation_after (Disconnect a) g) refl refl)) (outputs ∙ st.outputs)

  moved-filed : (a b : IpAddr) → Filed (discipline s g.core.instances) (moved_all a b shared.queues.queues)
  moved-filed a b =
      filed-on_queue b (λ q. q.items ++ each (brought_to b) (waiting a (queue_of a shared.queues.queues))) (discipline s g.core.instances) _
      (filed-on_queue a (λ q. not_waiting a q.items) (discipline s g.core.instances) shared.queues.queues filed)

  pub after-attach : (upper lower : IpAddr) → CanBeMade s m (Attach upper lower) g.core → below g.core.links (bottom g.core.links lower) ≡ None → (new : Shared) → new.tree.instances ≡ shared.tree.instances
      → new.links.links ≡ shared.links.links ++ attachment upper lower ∷ [] → is_declared upper shared.queues.queues ≡ true → new.queues.queues ≡ moved_all upper (bottom g.core.links lower) shared.queues.queues → new.outputs ≡ shared.outputs
      → StandsBut s m new (situation_after (Attach upper lower) g)
  unfolding instances_after links_after mail_after made_after
  after-attach upper lower can end new tree links declared queues outputs =
      let last = bottom-appended g.core.links (down-here s g sound) upper lower can.0.number can.0.below end in
      same-tree new (situation_after (Attach upper lower) g) tree refl (links ∙ ap (λ ls. ls ++ attachment upper lower ∷ []) st.links)
      (subst (λ qs. AreQueuesOf s (situation_after (Attach upper lower) g) qs) (sym queues)
      (queues-of s (situation_after (Attach upper lower) g) (moved_all upper (bottom g.core.links lower) shared.queues.queues) (moved-filed upper (bottom g.core.links lower))
      (subst (λ b. holds (moved_all upper (bottom g.core.links lower) shared.queues.queues) (moved upper b g.mail)) (sym last) (holds-moved upper (bottom g.core.links lower) shared.queues.queues g.mail declared st.queues.waiting))))
      (outputs ∙ st.outputs)

  pub after-detach : (upper : IpAddr) (new : Shared) → new.tree.instances ≡ shared.tree.instances → new.links.links ≡ filter (λ l. not (is_upper_of upper l)) shared.links.links
      → is_declared (bottom g.core.links upper) shared.queues.queues ≡ true → new.queues.queues ≡ moved_all (bottom g.core.links upper) upper shared.queues.queues → new.outputs ≡ shared.outputs
      → StandsBut s m new (situation_after (Detach upper) g)
  unfolding instances_after links_after mail_after made_after
  after-detach upper new tree links declared queues outputs =
      same-tree new (situation_after (Detach upper) g) tree refl (links ∙ ap (filter (λ l. not (is_upper_of upper l))) st.links)
      (subst (λ qs. AreQueuesOf s (situation_after (Detach upper) g) qs) (sym queues)
      (queues-of s (situation_after (Detach upper) g) (moved_all (bottom g.core.links upper) upper shared.queues.queues) (moved-filed (bottom g.core.links upper) upper) (holds-moved (bottom g.core.links upper) upper shared.queues.queues g.mail declared st.queues.waiting)))
      (outputs ∙ st.outputs)

  -- ---- one more instance

  module _ (p : Path) (k : ℕ) (i : Instance) (can : CanBeMade s m (Create p k i) g.core) where
    fresh : map.get g.core.instances (child p k) ≡ None
    fresh = fresh-child s g sound p k can.1

    new-inside : is_inside m (child p k) ≡ true
    new-inside = child_inside m p k can.0

    out-of : (q r : Path) → is_inside m q ≡ false → is_inside m r ≡ true → r ≢ q
    out-of q r out inside e = let wrong : true ≡ false = sym inside ∙ ap (is_inside m) e ∙ out in cc

    placed-others : (q : Path) → is_inside m q ≡ false → map.get (trees.placed shared.tree.instances (child p k) (part_of_entry (child p k, i))) q ≡ option_map (kept_of q) (map.get (created g.core.instances p k i) q)
    placed-others q out =
        let not_new = out-of q (child p k) out new-inside in
        let not_parent = out-of q p out can.0 in
        placed-other shared.tree.instances p k (part_of_entry (child p k, i)) q not_new not_parent ∙ st.others q out
        ∙ ap (option_map (kept_of q)) (sym (get-other g.core.instances p k i q (turned not_new) (turned not_parent)))

    placed-outlines : (q : Path) → option_map kept_outline (map.get (trees.placed shared.tree.instances (child p k) (part_of_entry (child p k, i))) q) ≡ option_map outline_of (map.get (created g.core.instances p k i) q)
    placed-outlines q = by (cases_path (child p k) q) (cases_path p q)
      where
        by : (child p k ≡ q) ⊎ (child p k ≢ q) → (p ≡ q) ⊎ (p ≢ q)
            → option_map kept_outline (map.get (trees.placed shared.tree.instances (child p k) (part_of_entry (child p k, i))) q) ≡ option_map outline_of (map.get (created g.core.instances p k i) q)
        by (inl e) h =
            subst (λ r. option_map kept_outline (map.get (trees.placed shared.tree.instances (child p k) (part_of_entry (child p k, i))) r) ≡ option_map outline_of (map.get (created g.core.instances p k i) r)) e
            (ap (option_map kept_outline) (placed-new shared.tree.instances p k (part_of_entry (child p k, i))) ∙ ap (λ n. Some (i.body, n)) (sym can.2) ∙ sym (ap (option_map outline_of) (get-new g.core.instances p k i)))
        by (inr h) (inl e) =
            subst (λ r. option_map kept_outline (map.get (trees.placed shared.tree.instances (child p k) (part_of_entry (child p k, i))) r) ≡ option_map outline_of (map.get (created g.core.instances p k i) r)) e
            (ap (option_map kept_outline) (placed-parent shared.tree.instances p k (part_of_entry (child p k, i))) ∙ births-more (map.get shared.tree.instances p) (map.get g.core.instances p) (st.outlines p)
            ∙ sym (ap (option_map outline_of) (get-parent g.core.instances p k i)))
        by (inr h) (inr j) =
            ap (option_map kept_outline) (placed-other shared.tree.instances p k (part_of_entry (child p k, i)) q h j) ∙ st.outlines q
            ∙ ap (option_map outline_of) (sym (get-other g.core.instances p k i q (turned h) (turned j)))

    -- nothing waits at the new instance
    nothing-waits : (w : Waiting) → Among w g.mail → w.at.path ≢ child p k
    nothing-waits w w_in e =
        let there = instance-there s g.core.instances w.at (sound.waits w (contained g.mail w w_in)) in
        let wrong : Some there.0 ≡ None = sym there.1 ∙ ap (map.get g.core.instances) e ∙ fresh in cc

    new-points : AllFresh s i.body (each (at (child p k)) (count_from 0 (length (ips_of s i.body)))) shared.queues.queues
        × Filed (from_on s i.body (child p k) 0 (length (ips_of s i.body)) (discipline s g.core.instances)) (declared_all s i.body (each (at (child p k)) (count_from 0 (length (ips_of s i.body)))) shared.queues.queues)
    new-points = filed-all s i.body (child p k) (length (ips_of s i.body)) 0 (discipline s g.core.instances) shared.queues.queues filed
        (λ j le. ap (λ o. option_map (λ (x : InteractionPoint). x.common) (point_of s o j)) fresh)

    pub all-fresh : AllFresh s i.body (each (at (child p k)) (count_from 0 (length (ips_of s i.body)))) shared.queues.queues
    all-fresh = new-points.0

    pub after-create : (new : Shared) → new.tree.instances ≡ trees.placed shared.tree.instances (child p k) (part_of_entry (child p k, i)) → new.links.links ≡ shared.links.links
        → new.queues.queues ≡ declared_all s i.body (each (at (child p k)) (count_from 0 (length (ips_of s i.body)))) shared.queues.queues → new.outputs ≡ shared.outputs
        → StandsBut s m new (situation_after (Create p k i) g)
    unfolding instances_after links_after mail_after made_after
    after-create new tree links queues outputs = record {
      others = λ q out. ap (λ t. map.get t q) tree ∙ placed-others q out;
      outlines = λ q. ap (λ t. option_map kept_outline (map.get t q)) tree ∙ placed-outlines q;
      links = links ∙ st.links;
      queues = subst (λ qs. AreQueuesOf s (situation_after (Create p k i) g) qs) (sym queues)
          (queues-of s (situation_after (Create p k i) g) (declared_all s i.body (each (at (child p k)) (count_from 0 (length (ips_of s i.body)))) shared.queues.queues)
          (filed-alike _ _ _ (discipline-created s g.core.instances p k i fresh) new-points.1)
          (holds-all s i.body (child p k) (length (ips_of s i.body)) 0 shared.queues.queues g.mail nothing-waits st.queues.waiting));
      outputs = outputs ∙ st.outputs;
    }

  -- ---- instances less

  module _ (p : Path) (k : ℕ) where
    left-discipline : (a : IpAddr) → outside (child p k) (discipline s g.core.instances) a ≡ discipline s (map.retain_keys g.core.instances (λ q. not (is_inside (child p k) q))) a
    left-discipline a =
        by (is_inside (child p k) a.path)
        ∙ ap (λ o. option_map (λ (x : InteractionPoint). x.common) (point_of s o a.ip)) (sym (get-outside g.core.instances (child p k) a.path))
      where
        by : (b : Bool) → cond b None (discipline s g.core.instances a) ≡ option_map (λ (x : InteractionPoint). x.common) (point_of s (cond b None (map.get g.core.instances a.path)) a.ip)
        by true = refl
        by false = refl

    pub after-remove : (new : Shared) → new.tree.instances ≡ trees.without shared.tree.instances (child p k) → new.links.links ≡ filter (λ l. not (touches (child p k) l)) shared.links.links
        → new.queues.queues ≡ dropped_below (child p k) shared.queues.queues → new.outputs ≡ shared.outputs
        → StandsBut s m new (situation_after (Remove p k) g)
    unfolding instances_after links_after mail_after made_after
    after-remove new tree links queues outputs = record {
      others = λ q out. ap (λ t. map.get t q) tree ∙ get-outside shared.tree.instances (child p k) q ∙ kept q (is_inside (child p k) q) (st.others q out)
          ∙ ap (option_map (kept_of q)) (sym (get-outside g.core.instances (child p k) q));
      outlines = λ q. ap (λ t. option_map kept_outline (map.get t q)) tree ∙ ap (option_map kept_outline) (get-outside shared.tree.instances (child p k) q) ∙ outlines q (is_inside (child p k) q) (st.outlines q)
          ∙ ap (option_map outline_of) (sym (get-outside g.core.instances (child p k) q));
      links = links ∙ ap (filter (λ l. not (touches (child p k) l))) st.links;
      queues = subst (λ qs. AreQueuesOf s (situation_after (Remove p k) g) qs) (sym queues)
          (queues-of s (situation_after (Remove p k) g) (dropped_below (child p k) shared.queues.queues)
          (filed-alike _ _ _ left-discipline (filed-dropped (child p k) (discipline s g.core.instances) shared.queues.queues filed))
          (holds-dropped (child p k) shared.queues.queues g.mail st.queues.waiting));
      outputs = outputs ∙ st.outputs;
    }
      where
        kept : (q : Path) (b : Bool) → map.get shared.tree.instances q ≡ option_map (kept_of q) (map.get g.core.instances q) → cond b None (map.get shared.tree.instances q) ≡ option_map (kept_of q) (cond b None (map.get g.core.instances q))
        kept q true e = refl
        kept q false e = e

        outlines : (q : Path) (b : Bool) → option_map kept_outline (map.get shared.tree.instances q) ≡ option_map outline_of (map.get g.core.instances q) → option_map kept_outline (cond b None (map.get shared.tree.instances q)) ≡ option_map outline_of (cond b None (map.get g.core.instances q))
        outlines q true e = refl
        outlines q false e = e
