-- What waits elsewhere, while an instance acts: it stays there, and just the outputs that arrive there come to it.
use Rattle.std.proofs.Common.{◌≡◌, ℕ, ◌<◌, ◌≤◌, suc, Bool, true, false, not, ◌&&◌, ◌||◌, cond, List, [], ◌∷◌, ◌++◌, filter, map as each, Option, Some, None, refl, sym, ap, subst, ◌∙◌, inl, inr, arith, append-nil, append_assoc}
use Rattle.std.specs.Prelude.{◌⊎◌, nat_lt}
use Rattle.std.specs.List.{list_any}
use Rattle.std.proofs.lemmas.Bool.Decides.{nat_tests}
use Rattle.std.proofs.lemmas.List.{map-append}
use Rattle.std.proofs.lemmas.List.Elements.{filter-append}
use Rattle.std.proofs.lemmas.List.Folds.{list_any-append}
use Rattle.estelle_tree.specs.declared.link.IpAddr.{IpAddr}
use Rattle.estelle_tree.specs.declared.link.Link.{Link}
use Rattle.estelle_tree.specs.Paths.{Path, child, is_inside}
use Rattle.estelle_tree.specs.Links.{is_connection, joins, is_upper_of, touches, connection, attachment, bottom, route}
use Rattle.estelle_tree.specs.Queues.{waits_at, brought_to, waiting, not_waiting, moved, waits_inside, outside_of}
use Rattle.estelle_tree.specs.Queues as queues
use Rattle.estelle_model.specs.declared.image.Interaction.{Interaction}
use Rattle.estelle_model.specs.Core.{Core}
use Rattle.estelle_model.specs.Effects.{StatementEffect, Output, Connect, Disconnect, Attach, Detach, Create, Remove, links_after}
use Rattle.estelle_model.specs.Situation.{Waiting, Acting, acting_after, arrived, mail_after, made_after}
use Rattle.estelle_model.specs.Subject.{Subject}
use Rattle.estelle_model.specs.Jobs.{CanBeMade, CanAllBeMade, after_all}
use Rattle.estelle_model.proofs.Members.{Among, among_append, among_filter, any_kept}
use Rattle.estelle_model_legality.proofs.Lists.{not_true, not_both}
use Rattle.estelle_model_legality.proofs.Linking.{same_ip_is}
use Rattle.estelle_model_legality.proofs.Ways.{inside_trans, inside_child}
use Rattle.estelle_model_legality.proofs.Within.{filter_within}
use Rattle.effect_log.specs.Putting.{path_of, arrived_at, arrivals}
use Rattle.effect_log.proofs.Ways.{AllDown, bottom-inside}

-- ---- lists

any_alike : {A : Type 0} (f h : A → Bool) (xs : List A) → ((x : A) → Among x xs → f x ≡ h x) → list_any f xs ≡ list_any h xs
any_alike f h [] same = refl
any_alike f h (x ∷ xs) same = (λ i. same x (inl refl) i || any_alike f h xs (λ y m. same y (inr m)) i)

pub none_of : {A : Type 0} (f : A → Bool) (xs : List A) → ((x : A) → Among x xs → f x ≡ false) → list_any f xs ≡ false
none_of f [] none = refl
none_of f (x ∷ xs) none = ap (λ b. b || list_any f xs) (none x (inl refl)) ∙ none_of f xs (λ y m. none y (inr m))

any_each : {A B : Type 0} (f : B → Bool) (h : A → B) (xs : List A) → list_any f (each h xs) ≡ list_any (λ x. f (h x)) xs
any_each f h [] = refl
any_each f h (x ∷ xs) = ap (λ b. f (h x) || b) (any_each f h xs)

pub none_kept : {A : Type 0} (f : A → Bool) (xs : List A) → list_any f xs ≡ false → filter f xs ≡ []
none_kept f [] none = refl
none_kept f (x ∷ xs) none = by (f x) refl none (none_kept f xs)
  where
    by : (b : Bool) → f x ≡ b → (b || list_any f xs) ≡ false → (list_any f xs ≡ false → filter f xs ≡ []) → cond b (x ∷ filter f xs) (filter f xs) ≡ []
    by true e h rest = absurd (cc)
    by false e h rest = rest h

-- ---- attachments go down

one_more : (links : List Link) (n : Link) → AllDown links → (is_connection n.kind ≡ false → (k : ℕ) × (n.second.path ≡ child n.first.path k)) → AllDown (links ++ n ∷ [])
one_more links n down new l h = by (among_append links (n ∷ []) l h)
  where
    by : Among l links ⊎ Among l (n ∷ []) → is_connection l.kind ≡ false → (k : ℕ) × (l.second.path ≡ child l.first.path k)
    by (inl m) = down l m
    by (inr (inl e)) = subst (λ (x : Link). is_connection x.kind ≡ false → (k : ℕ) × (x.second.path ≡ child x.first.path k)) e new
    by (inr (inr m)) = absurd m

some_left : (keep : Link → Bool) (links : List Link) → AllDown links → AllDown (filter keep links)
some_left keep links down l h = down l (among_filter keep links l h).0

module _ (s : Subject) (m : Path) where
  down_after : (e : StatementEffect) (c : Core) → CanBeMade s m e c → AllDown c.links → AllDown (links_after e c.links)
  unfolding links_after
  down_after (Output from ip name values) c can down = down
  down_after (Connect a b) c can down = one_more c.links (connection a b) down (λ e. absurd (cc))
  down_after (Disconnect a) c can down = some_left (λ l. not (joins a l)) c.links down
  down_after (Attach upper lower) c can down = one_more c.links (attachment upper lower) down (λ e. (can.0.number, can.0.below))
  down_after (Detach upper) c can down = some_left (λ l. not (is_upper_of upper l)) c.links down
  down_after (Create p k i) c can down = down
  down_after (Remove p k) c can down = some_left (λ l. not (touches (child p k) l)) c.links down

-- ---- what comes

-- what an effect brings to where it waits
unfoldable pub come_by : StatementEffect → List Link → ℕ → List Waiting
come_by (Output from ip name values) links made = arrived (record { number = suc made; name = name; values = values }) (route links from) []
come_by _ links made = []

-- what effects bring, in order
abbrev pub come : List StatementEffect → Acting → List Waiting
come [] a = []
come (e ∷ es) a = come_by e a.situation.core.links a.situation.made ++ come es (acting_after e a)

arrived_last : (i : Interaction) (o : Option IpAddr) (mail : List Waiting) → arrived i o mail ≡ mail ++ arrived i o []
arrived_last i None mail = sym (append-nil mail)
arrived_last i (Some a) mail = refl

arrived_path : (i : Interaction) (o : Option IpAddr) → each (λ (w : Waiting). w.at.path) (arrived i o []) ≡ path_of o
arrived_path i None = refl
arrived_path i (Some a) = refl

come_path : (e : StatementEffect) (links : List Link) (made : ℕ) → each (λ (w : Waiting). w.at.path) (come_by e links made) ≡ arrived_at e links
unfolding come_by
come_path (Output from ip name values) links made = arrived_path (record { number = suc made; name = name; values = values }) (route links from)
come_path (Connect a b) links made = refl
come_path (Disconnect a) links made = refl
come_path (Attach upper lower) links made = refl
come_path (Detach upper) links made = refl
come_path (Create p k i) links made = refl
come_path (Remove p k) links made = refl

pub come_paths : (es : List StatementEffect) (a : Acting) → each (λ (w : Waiting). w.at.path) (come es a) ≡ arrivals es a
come_paths [] a = refl
come_paths (e ∷ es) a =
    map-append (λ (w : Waiting). w.at.path) (come_by e a.situation.core.links a.situation.made) (come es (acting_after e a))
    ∙ (λ i. come_path e a.situation.core.links a.situation.made i ++ come_paths es (acting_after e a) i)

-- their numbers are new
arrived_number : (i : Interaction) (o : Option IpAddr) (w : Waiting) → Among w (arrived i o []) → w.item ≡ i
arrived_number i None w h = absurd h
arrived_number i (Some a) w (inl e) = sym (ap (λ (x : Waiting). x.item) e)
arrived_number i (Some a) w (inr h) = absurd h

come_number : (e : StatementEffect) (links : List Link) (made : ℕ) (w : Waiting) → Among w (come_by e links made) → w.item.number ≡ suc made
unfolding come_by
come_number (Output from ip name values) links made w h = ap (λ (x : Interaction). x.number) (arrived_number (record { number = suc made; name = name; values = values }) (route links from) w h)
come_number (Connect a b) links made w h = absurd h
come_number (Disconnect a) links made w h = absurd h
come_number (Attach upper lower) links made w h = absurd h
come_number (Detach upper) links made w h = absurd h
come_number (Create p k i) links made w h = absurd h
come_number (Remove p k) links made w h = absurd h

no_fewer : (e : StatementEffect) (made : ℕ) → made ≤ made_after e made
unfolding made_after
no_fewer (Output from ip name values) made = omega arith
no_fewer (Connect a b) made = omega arith
no_fewer (Disconnect a) made = omega arith
no_fewer (Attach upper lower) made = omega arith
no_fewer (Detach upper) made = omega arith
no_fewer (Create p k i) made = omega arith
no_fewer (Remove p k) made = omega arith

come_new : (es : List StatementEffect) (a : Acting) (base : ℕ) → base ≤ a.situation.made → (w : Waiting) → Among w (come es a) → base < w.item.number
come_new [] a base less w h = absurd h
come_new (e ∷ es) a base less w h =
    by (among_append (come_by e a.situation.core.links a.situation.made) (come es (acting_after e a)) w h)
    (come_new es (acting_after e a) base (let n = no_fewer e a.situation.made in omega (arith, less, n)) w)
  where
    by : Among w (come_by e a.situation.core.links a.situation.made) ⊎ Among w (come es (acting_after e a)) → (Among w (come es (acting_after e a)) → base < w.item.number) → base < w.item.number
    by (inl i) rest = let n = come_number e a.situation.core.links a.situation.made w i in omega (arith, less, n)
    by (inr i) rest = rest i

-- ---- what waits at paths that are not at or below the instance

module _ (m : Path) (there : Path → Bool) (apart : (q : Path) → there q ≡ true → is_inside m q ≡ false) where
  abbrev pub waits_there : Waiting → Bool
  waits_there w = there w.at.path

  not_there : (q : Path) → is_inside m q ≡ true → there q ≡ false
  not_there q h = not_true (there q) (λ e. not_both (is_inside m q) h (apart q e))

  brought_away : (b : IpAddr) (ws : List Waiting) → there b.path ≡ false → filter waits_there (each (brought_to b) ws) ≡ []
  brought_away b [] h = refl
  brought_away b (w ∷ ws) h = ap (λ (x : Bool). cond x (brought_to b w ∷ filter waits_there (each (brought_to b) ws)) (filter waits_there (each (brought_to b) ws))) h ∙ brought_away b ws h

  moved_away : (a b : IpAddr) (mail : List Waiting) → is_inside m a.path ≡ true → is_inside m b.path ≡ true → filter waits_there (moved a b mail) ≡ filter waits_there mail
  moved_away a b mail ia ib =
      filter-append waits_there (not_waiting a mail) (each (brought_to b) (waiting a mail))
      ∙ ap (λ (ws : List Waiting). filter waits_there (not_waiting a mail) ++ ws) (brought_away b (waiting a mail) (not_there b.path ib))
      ∙ append-nil (filter waits_there (not_waiting a mail))
      ∙ filter_within waits_there (λ w. not (waits_at a w)) mail
      (λ w t. ap not (not_true (waits_at a w) (λ e. not_both (there w.at.path) t (sym (ap (λ (x : IpAddr). there x.path) (same_ip_is a w.at e)) ∙ not_there a.path ia))))

  gone_away : (c : Path) (mail : List Waiting) → is_inside m c ≡ true → filter waits_there (outside_of c mail) ≡ filter waits_there mail
  gone_away c mail ic = filter_within waits_there (λ w. not (waits_inside c w)) mail
      (λ w t. ap not (not_true (is_inside c w.at.path) (λ e. not_both (there w.at.path) t (not_there w.at.path (inside_trans m c w.at.path ic e)))))

  -- the head of a queue of the instance is taken
  pub taken_away : (test : IpAddr → Bool) → ((b : IpAddr) → test b ≡ true → is_inside m b.path ≡ true) → (mail : List Waiting) → filter waits_there (queues.without_head test mail) ≡ filter waits_there mail
  taken_away test own [] = refl
  taken_away test own (w ∷ ws) = by (test w.at) refl (taken_away test own ws)
    where
      by : (b : Bool) → test w.at ≡ b → filter waits_there (queues.without_head test ws) ≡ filter waits_there ws
          → filter waits_there (cond b ws (w ∷ queues.without_head test ws)) ≡ cond (there w.at.path) (w ∷ filter waits_there ws) (filter waits_there ws)
      by true e rest = sym (ap (λ (c : Bool). cond c (w ∷ filter waits_there ws) (filter waits_there ws)) (not_there w.at.path (own w.at e)))
      by false e rest = ap (λ (ys : List Waiting). cond (there w.at.path) (w ∷ ys) ys) rest

  module _ (s : Subject) where
    mail_by : (e : StatementEffect) (c : Core) (made : ℕ) (mail : List Waiting) → CanBeMade s m e c → AllDown c.links → filter waits_there (mail_after e c.links made mail) ≡ filter waits_there mail ++ filter waits_there (come_by e c.links made)
    unfolding mail_after come_by
    mail_by (Output from ip name values) c made mail can down =
        let i : Interaction = record { number = suc made; name = name; values = values } in
        ap (filter waits_there) (arrived_last i (route c.links from) mail) ∙ filter-append waits_there mail (arrived i (route c.links from) [])
    mail_by (Connect a b) c made mail can down = sym (append-nil (filter waits_there mail))
    mail_by (Disconnect a) c made mail can down = sym (append-nil (filter waits_there mail))
    mail_by (Attach upper lower) c made mail can down =
        let links : List Link = c.links ++ attachment upper lower ∷ [] in
        let inside : is_inside m lower.path ≡ true = ap (is_inside m) can.0.below ∙ inside_child m upper.path can.0.number can.0.inside in
        moved_away upper (bottom links lower) mail can.0.inside
        (bottom-inside links (one_more c.links (attachment upper lower) down (λ e. (can.0.number, can.0.below))) m lower inside)
        ∙ sym (append-nil (filter waits_there mail))
    mail_by (Detach upper) c made mail can down =
        moved_away (bottom c.links upper) upper mail (bottom-inside c.links down m upper can.0) can.0
        ∙ sym (append-nil (filter waits_there mail))
    mail_by (Create p k i) c made mail can down = sym (append-nil (filter waits_there mail))
    mail_by (Remove p k) c made mail can down = gone_away (child p k) mail (inside_child m p k can.0) ∙ sym (append-nil (filter waits_there mail))

    -- after the effects what waited there waits there, and then what came there
    pub mail_there : (es : List StatementEffect) (a : Acting) → CanAllBeMade s m es a → AllDown a.situation.core.links → filter waits_there (after_all es a).situation.mail ≡ filter waits_there a.situation.mail ++ filter waits_there (come es a)
    mail_there [] a can down = sym (append-nil (filter waits_there a.situation.mail))
    mail_there (e ∷ es) a can down =
        let c = a.situation.core in
        let first : List Waiting = come_by e c.links a.situation.made in
        let rest : List Waiting = come es (acting_after e a) in
        mail_there es (acting_after e a) can.1 (down_after s m e c can.0 down)
        ∙ ap (λ (ws : List Waiting). ws ++ filter waits_there rest) (mail_by e c a.situation.made a.situation.mail can.0 down)
        ∙ append_assoc (filter waits_there a.situation.mail) (filter waits_there first) (filter waits_there rest)
        ∙ ap (λ (ws : List Waiting). filter waits_there a.situation.mail ++ ws) (sym (filter-append waits_there first rest))

    -- ---- what is new there

    abbrev is_new : ℕ → Waiting → Bool
    is_new base w = nat_lt base w.item.number && there w.at.path

    is_there : (base : ℕ) (w : Waiting) → is_new base w ≡ true → waits_there w ≡ true
    is_there base w h = by (nat_lt base w.item.number) h
      where
        by : (b : Bool) → (b && there w.at.path) ≡ true → there w.at.path ≡ true
        by true h = h
        by false h = absurd (cc)

    old_one : (base : ℕ) (w : Waiting) → w.item.number ≤ base → is_new base w ≡ false
    old_one base w h = ap (λ (b : Bool). b && there w.at.path) (let e : nat_lt base w.item.number ≡ false = grind (arith, nat_tests) in e)

    new_one : (base : ℕ) (w : Waiting) → base < w.item.number → is_new base w ≡ there w.at.path
    new_one base w h = ap (λ (b : Bool). b && there w.at.path) (let e : nat_lt base w.item.number ≡ true = grind (arith, nat_tests) in e)

    -- something new waits there just where something arrived there
    pub new_there : (es : List StatementEffect) (a : Acting) → CanAllBeMade s m es a → AllDown a.situation.core.links → (before : List Waiting) → filter waits_there a.situation.mail ≡ filter waits_there before
        → ((w : Waiting) → Among w before → w.item.number ≤ a.situation.made)
        → list_any (λ (w : Waiting). nat_lt a.situation.made w.item.number && there w.at.path) (after_all es a).situation.mail ≡ list_any there (arrivals es a)
    new_there es a can down before same old =
        let base : ℕ = a.situation.made in
        let new : Waiting → Bool = is_new base in
        let now : List Waiting = (after_all es a).situation.mail in
        sym (any_kept new waits_there now (λ w h. is_there base w))
        ∙ ap (list_any new) (mail_there es a can down)
        ∙ list_any-append new (filter waits_there a.situation.mail) (filter waits_there (come es a))
        ∙ ap (λ (b : Bool). b || list_any new (filter waits_there (come es a)))
        (ap (list_any new) same ∙ any_kept new waits_there before (λ w h. is_there base w) ∙ none_of new before (λ w h. old_one base w (old w h)))
        ∙ any_kept new waits_there (come es a) (λ w h. is_there base w)
        ∙ any_alike new waits_there (come es a) (λ w h. new_one base w (come_new es a base (omega arith) w h))
        ∙ sym (any_each there (λ (w : Waiting). w.at.path) (come es a))
        ∙ ap (list_any there) (come_paths es a)

    -- and where nothing arrived there all that waits there is the same
    pub same_there : (es : List StatementEffect) (a : Acting) → CanAllBeMade s m es a → AllDown a.situation.core.links → list_any there (arrivals es a) ≡ false → filter waits_there (after_all es a).situation.mail ≡ filter waits_there a.situation.mail
    same_there es a can down none =
        mail_there es a can down
        ∙ ap (λ (ws : List Waiting). filter waits_there a.situation.mail ++ ws)
        (none_kept waits_there (come es a) (sym (any_each there (λ (w : Waiting). w.at.path) (come es a)) ∙ ap (list_any there) (come_paths es a) ∙ none))
        ∙ append-nil (filter waits_there a.situation.mail)
