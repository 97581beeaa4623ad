-- Each effect that can be made leaves a situation in which links, interactions and instances are where they can be.
use Rattle.std.proofs.Common.{◌≡◌, ◌≢◌, ℕ, suc, ◌≤◌, Bool, true, false, cond, List, [], ◌∷◌, ◌++◌, Option, Some, None, refl, sym, ap, subst, ◌∙◌, inl, inr, arith}
use Rattle.std.specs.Prelude.{◌⊎◌, ◌||◌, not, map as each, filter, option_map}
use Rattle.std.specs.FinMap as map
use Rattle.std.specs.Ordering.{eq_by_cmp}
use Rattle.estelle_tree.specs.declared.link.IpAddr.{IpAddr}
use Rattle.estelle_tree.specs.declared.link.Link.{Link}
use Rattle.estelle_tree.specs.Paths.{Path, path_cmp, child, is_inside}
use Rattle.estelle_tree.specs.Links.{is_connection, joins, is_upper_of, touches, connection, attachment, bottom, route}
use Rattle.estelle_tree.specs.Queues.{waits_at, waits_inside, waiting, not_waiting, brought_to, moved}
use Rattle.estelle_model.specs.declared.image.Interaction.{Interaction}
use Rattle.module_tree.proofs.Paths.{same_parent, same_number}
use Rattle.queue_store.proofs.HomeLaws.{false-unless}
use Rattle.estelle_model.specs.Actions.{is_upper}
use Rattle.estelle_model.specs.Core.{Instance, Instances}
use Rattle.estelle_model.specs.Effects.{StatementEffect, Output, Connect, Disconnect, Attach, Detach, Create, Remove, born, instances_after, links_after}
use Rattle.estelle_model.specs.Subject.{Subject}
use Rattle.estelle_model.specs.Situation.{Waiting, Situation, arrived, mail_after, situation_after}
use Rattle.estelle_model.specs.Jobs.{IsIp, IsNextOf, CanBeMade}
use Rattle.estelle_model.proofs.Members.{Among, among, contained, among_append, among_filter}
use Rattle.estelle_model.proofs.PrivateParts.{same_path, child_inside}
use Rattle.effect_log.specs.Underway.{IsSound}
use Rattle.effect_log.proofs.Lists.{among-each}
use Rattle.effect_log.proofs.Ways.{AllDown, bottom-kept, route-kept, upper-link}
use Rattle.effect_log.proofs.Points.{there-connected, there-attached, instance-there, ip-same, created, get-parent, body-created, grown, get-outside, ip-outside, key-itself}

-- the next child of an instance is not there yet
pub fresh-child : (s : Subject) (g : Situation) → IsSound s g → (p : Path) (k : ℕ) → IsNextOf g.core.instances p k → map.get g.core.instances (child p k) ≡ None
fresh-child s g sound p k next = by (map.get g.core.instances (child p k)) refl
  where
    by : (o : Option Instance) → map.get g.core.instances (child p k) ≡ o → map.get g.core.instances (child p k) ≡ None
    by None e = e
    by (Some i) e =
        let parent = sound.parents p k i e in
        let same : parent.0 ≡ next.0 = let both : Some parent.0 ≡ Some next.0 = sym parent.1 ∙ next.1 in cc in
        let births = ap (λ (j : Instance). j.births) same in
        absurd (omega (arith, parent.2, next.2, births))

either-false : (b c : Bool) → not (b || c) ≡ true → (b ≡ false) × (c ≡ false)
either-false true c h = absurd (cc)
either-false false true h = absurd (cc)
either-false false false h = (refl, refl)

not-true : (b : Bool) → not b ≡ true → b ≡ false
not-true true h = absurd (cc)
not-true false h = refl

module _ (s : Subject) (g : Situation) (sound : IsSound s g) where
  -- ---- where links lie

  abbrev Ends : Instances → List Link → Type 0
  Ends x links = (l : Link) → Among l links → IsIp s x l.first × IsIp s x l.second

  pub ends-here : Ends g.core.instances g.core.links
  ends-here l m = sound.ends l (contained g.core.links l m)

  pub down-here : AllDown g.core.links
  down-here l m = sound.down l (contained g.core.links l m)

  pub route-there : (a b : IpAddr) → route g.core.links a ≡ Some b → IsIp s g.core.instances b
  route-there = route-kept g.core.links (IsIp s g.core.instances) ends-here

  pub bottom-there : (a : IpAddr) → IsIp s g.core.instances a → IsIp s g.core.instances (bottom g.core.links a)
  bottom-there = bottom-kept g.core.links (IsIp s g.core.instances) ends-here

  pub upper-there : (a : IpAddr) → is_upper a g.core.links ≡ true → IsIp s g.core.instances a
  upper-there a h = let l = upper-link g.core.links a h in subst (IsIp s g.core.instances) (sym l.2) (ends-here l.0 l.1).0

  one-more : (x : Instances) (links : List Link) (l : Link) → Ends x links → IsIp s x l.first → IsIp s x l.second → Ends x (links ++ l ∷ [])
  one-more x links l ends first second n m = by (among_append links (l ∷ []) n m)
    where
      by : Among n links ⊎ Among n (l ∷ []) → IsIp s x n.first × IsIp s x n.second
      by (inl m) = ends n m
      by (inr (inl is)) = subst (λ (k : Link). IsIp s x k.first × IsIp s x k.second) is (first, second)
      by (inr (inr m)) = absurd m

  down-more : (links : List Link) (l : Link) → AllDown links → (is_connection l.kind ≡ false → (k : ℕ) × (l.second.path ≡ child l.first.path k)) → AllDown (links ++ l ∷ [])
  down-more links l down new n m = by (among_append links (l ∷ []) n m)
    where
      by : Among n links ⊎ Among n (l ∷ []) → is_connection n.kind ≡ false → (k : ℕ) × (n.second.path ≡ child n.first.path k)
      by (inl m) = down n m
      by (inr (inl is)) = subst (λ (j : Link). is_connection j.kind ≡ false → (k : ℕ) × (j.second.path ≡ child j.first.path k)) is new
      by (inr (inr m)) = absurd m

  -- ---- where interactions wait

  abbrev Homes : Instances → List Waiting → Type 0
  Homes x mail = (w : Waiting) → Among w mail → IsIp s x w.at

  homes-here : Homes g.core.instances g.mail
  homes-here w m = sound.waits w (contained g.mail w m)

  moved-homes : (x : Instances) (a b : IpAddr) (mail : List Waiting) → Homes x mail → IsIp s x b → Homes x (moved a b mail)
  moved-homes x a b mail homes at w m = by (among_append (not_waiting a mail) (each (brought_to b) (waiting a mail)) w m)
    where
      by : Among w (not_waiting a mail) ⊎ Among w (each (brought_to b) (waiting a mail)) → IsIp s x w.at
      by (inl m) = homes w ((among_filter (λ v. not (waits_at a v)) mail w m).0)
      by (inr m) = let v = among-each (brought_to b) (waiting a mail) w m in subst (λ (u : Waiting). IsIp s x u.at) v.2 at

  arrived-homes : (x : Instances) (i : Interaction) (o : Option IpAddr) (mail : List Waiting) → Homes x mail → ((b : IpAddr) → o ≡ Some b → IsIp s x b) → Homes x (arrived i o mail)
  arrived-homes x i None mail homes at = homes
  arrived-homes x i (Some b) mail homes at = λ w m. by w (among_append mail (record { item = i; at = b } ∷ []) w m)
    where
      by : (w : Waiting) → Among w mail ⊎ Among w (record { item = i; at = b } ∷ []) → IsIp s x w.at
      by w (inl m) = homes w m
      by w (inr (inl is)) = subst (λ (u : Waiting). IsIp s x u.at) is (at b refl)
      by w (inr (inr m)) = absurd m

  -- ---- one more instance

  module _ (p : Path) (k : ℕ) (i : Instance) (next : IsNextOf g.core.instances p k) where
    abbrev grown_to : Instances
    grown_to = created g.core.instances p k i

    fresh : map.get g.core.instances (child p k) ≡ None
    fresh = fresh-child s g sound p k next

    ip-created : (a : IpAddr) → IsIp s g.core.instances a → IsIp s grown_to a
    ip-created a h =
        let there = instance-there s g.core.instances a h in
        let other : a.path ≢ child p k = λ e. let wrong : Some there.0 ≡ None = sym there.1 ∙ ap (map.get g.core.instances) e ∙ fresh in cc in
        ip-same s g.core.instances grown_to a (sym (body-created g.core.instances p k i a.path other)) h

    parents-created : (q : Path) (j : ℕ) (n : Instance) → map.get grown_to (child q j) ≡ Some n → (parent : Instance) × (map.get grown_to q ≡ Some parent) × (j ≤ parent.births)
    parents-created q j n there = by (eq_by_cmp path_cmp (child q j) (child p k)) refl
      where
        -- the new one's
        own : child q j ≡ child p k → (parent : Instance) × (map.get grown_to q ≡ Some parent) × (j ≤ parent.births)
        own e =
            let number : j ≡ k = same_number q p j k e in
            (born next.0, ap (map.get grown_to) (same_parent q p j k e) ∙ get-parent g.core.instances p k i ∙ ap (option_map born) next.1, omega (arith, number, next.2))

        old : (m : Instance) → map.get g.core.instances (child q j) ≡ Some m → (parent : Instance) × (map.get grown_to q ≡ Some parent) × (j ≤ parent.births)
        old m e =
            let parent = sound.parents q j m e in
            let now = grown g.core.instances p k i q parent.0 fresh parent.1 in
            (now.0, now.1, omega (arith, parent.2, now.2))

        was : (o : Option Instance) → map.get g.core.instances (child q j) ≡ o → child q j ≢ child p k → (parent : Instance) × (map.get grown_to q ≡ Some parent) × (j ≤ parent.births)
        was (Some m) e other = old m e
        was None e other =
            let body = ap (option_map (λ (x : Instance). x.body)) (sym there) ∙ body-created g.core.instances p k i (child q j) other ∙ ap (option_map (λ (x : Instance). x.body)) e in
            absurd (cc)

        by : (b : Bool) → eq_by_cmp path_cmp (child q j) (child p k) ≡ b → (parent : Instance) × (map.get grown_to q ≡ Some parent) × (j ≤ parent.births)
        by true e = own (same_path (child q j) (child p k) e)
        by false e = was (map.get g.core.instances (child q j)) refl (λ is. let wrong : true ≡ false = sym (key-itself (child p k)) ∙ ap (λ r. eq_by_cmp path_cmp r (child p k)) (sym is) ∙ e in cc)

  -- ---- instances less

  module _ (p : Path) where
    abbrev left : Instances
    left = map.retain_keys g.core.instances (λ q. not (is_inside p q))

    ends-left : Ends left (filter (λ l. not (touches p l)) g.core.links)
    ends-left l m =
        let at = among_filter (λ l. not (touches p l)) g.core.links l m in
        let out = either-false (is_inside p l.first.path) (is_inside p l.second.path) at.1 in
        let ends = ends-here l at.0 in
        (ip-outside s g.core.instances p l.first out.0 ends.0, ip-outside s g.core.instances p l.second out.1 ends.1)

    homes-left : Homes left (filter (λ w. not (waits_inside p w)) g.mail)
    homes-left w m =
        let at = among_filter (λ w. not (waits_inside p w)) g.mail w m in
        ip-outside s g.core.instances p w.at (not-true (is_inside p w.at.path) at.1) (homes-here w at.0)

    parents-left : (q : Path) (j : ℕ) (n : Instance) → map.get left (child q j) ≡ Some n → (parent : Instance) × (map.get left q ≡ Some parent) × (j ≤ parent.births)
    parents-left q j n there = by (is_inside p (child q j)) refl
      where
        by : (b : Bool) → is_inside p (child q j) ≡ b → (parent : Instance) × (map.get left q ≡ Some parent) × (j ≤ parent.births)
        by true e = let wrong : None ≡ Some n = sym (get-outside g.core.instances p (child q j) ∙ ap (λ b. cond b None (map.get g.core.instances (child q j))) e) ∙ there in absurd (cc)
        by false e =
            let was : map.get g.core.instances (child q j) ≡ Some n = sym (get-outside g.core.instances p (child q j) ∙ ap (λ b. cond b None (map.get g.core.instances (child q j))) e) ∙ there in
            let parent = sound.parents q j n was in
            let out : is_inside p q ≡ false = false-unless (is_inside p q) (λ h. let wrong : true ≡ false = sym (child_inside p q j h) ∙ e in cc) in
            (parent.0, get-outside g.core.instances p q ∙ ap (λ b. cond b None (map.get g.core.instances q)) out ∙ parent.1, parent.2)

  -- ---- each effect

  sound-of : (e : StatementEffect) → Ends (instances_after e g.core.instances) (links_after e g.core.links) → AllDown (links_after e g.core.links) → Homes (instances_after e g.core.instances) (mail_after e g.core.links g.made g.mail)
      → ((p : Path) (k : ℕ) (i : Instance) → map.get (instances_after e g.core.instances) (child p k) ≡ Some i → (parent : Instance) × (map.get (instances_after e g.core.instances) p ≡ Some parent) × (k ≤ parent.births))
      → IsSound s (situation_after e g)
  sound-of e ends down homes parents = record {
    ends = λ l h. ends l (among (links_after e g.core.links) l h);
    down = λ l h. down l (among (links_after e g.core.links) l h);
    waits = λ w h. homes w (among (mail_after e g.core.links g.made g.mail) w h);
    parents = parents;
  }

  no-connection : {A : Type 0} → true ≡ false → A
  no-connection e = absurd (cc)

  pub sound-after : (m : Path) (e : StatementEffect) → CanBeMade s m e g.core → IsSound s (situation_after e g)
  unfolding instances_after links_after mail_after
  sound-after m (Output from ip name values) can =
      sound-of (Output from ip name values) ends-here down-here
      (arrived-homes g.core.instances (record { number = suc g.made; name = name; values = values }) (route g.core.links from) g.mail homes-here (λ b e. route-there from b e))
      sound.parents
  sound-after m (Connect a b) can =
      let there = there-connected s g.core.instances can.0.by a b can.0.allowed in
      sound-of (Connect a b) (one-more g.core.instances g.core.links (connection a b) ends-here there.0 there.1) (down-more g.core.links (connection a b) down-here no-connection) homes-here sound.parents
  sound-after m (Disconnect a) can =
      sound-of (Disconnect a)
      (λ l h. ends-here l ((among_filter (λ l. not (joins a l)) g.core.links l h).0)) (λ l h. down-here l ((among_filter (λ l. not (joins a l)) g.core.links l h).0)) homes-here sound.parents
  sound-after m (Attach upper lower) can =
      let there = there-attached s g.core.instances upper lower can.0.allowed in
      let ends = one-more g.core.instances g.core.links (attachment upper lower) ends-here there.0 there.1 in
      sound-of (Attach upper lower) ends (down-more g.core.links (attachment upper lower) down-here (λ e. (can.0.number, can.0.below)))
      (moved-homes g.core.instances upper (bottom (g.core.links ++ attachment upper lower ∷ []) lower) g.mail homes-here
      (bottom-kept (g.core.links ++ attachment upper lower ∷ []) (IsIp s g.core.instances) ends lower there.1))
      sound.parents
  sound-after m (Detach upper) can =
      sound-of (Detach upper)
      (λ l h. ends-here l ((among_filter (λ l. not (is_upper_of upper l)) g.core.links l h).0)) (λ l h. down-here l ((among_filter (λ l. not (is_upper_of upper l)) g.core.links l h).0))
      (moved-homes g.core.instances (bottom g.core.links upper) upper g.mail homes-here (upper-there upper can.1))
      sound.parents
  sound-after m (Create p k i) can =
      sound-of (Create p k i)
      (λ l h. let ends = ends-here l h in (ip-created p k i can.1 l.first ends.0, ip-created p k i can.1 l.second ends.1)) down-here (λ w h. ip-created p k i can.1 w.at (homes-here w h))
      (parents-created p k i can.1)
  sound-after m (Remove p k) can =
      sound-of (Remove p k) (ends-left (child p k)) (λ l h. down-here l ((among_filter (λ l. not (touches (child p k) l)) g.core.links l h).0)) (homes-left (child p k)) (parents-left (child p k))
