-- What each statement of Estelle has tested where it makes an effect, and that it reads of its own instance and of children alone.
use Rattle.std.proofs.Common.{◌≡◌, ℕ, suc, Bool, true, false, ◌&&◌, ◌||◌, List, [], ◌∷◌, map, Ok, Option, Some, None, refl, sym, ap, subst, ◌∙◌, inl, inr, arith}
use Rattle.std.specs.Prelude.{◌⊎◌, slice_get}
use Rattle.std.specs.FinMap as fin
use Rattle.pascal_values.specs.declared.fault.Fault.TheVariants as fault
use Rattle.pascal_values.specs.declared.value.Value.{Value}
use Rattle.estelle_tree.specs.declared.link.IpAddr.{IpAddr}
use Rattle.estelle_tree.specs.declared.tree.name.Name.{Name}
use Rattle.estelle_tree.specs.Paths.{Path, child, last_of}
use Rattle.estelle_tree.specs.Links.{above}
use Rattle.estelle_model.specs.Stops.{Stop, Faults, Broken}
use Rattle.estelle_model.specs.Core.{Instance, Core}
use Rattle.estelle_model.specs.InteractionPoints.{point_of, point, may_join, connectable_at, external_at, may_connect, may_attach_points, may_attach}
use Rattle.estelle_model.specs.Effects as effect
use Rattle.estelle_model.specs.Effects.{StatementEffect, Change, Store, Hold, Enter, core_after}
use Rattle.estelle_model.specs.Plans.{Plan, Done, ◌>>=◌, reads, makes, keeps, stops_if, stops_unless, fails_if, fails_unless, for_each}
use Rattle.estelle_model.specs.declared.meaning.Meaning.{Meaning}
use Rattle.estelle_model.specs.declared.meaning.Meaning.TheVariants.{Module, Ip}
use Rattle.estelle_model.specs.Meant.{Meanings}
use Rattle.estelle_model.specs.Definitions.{types_received}
use Rattle.estelle_model.specs.Belonging.{are_values_of}
use Rattle.estelle_model.specs.Places.{held_in, module_variables_of, child_at}
use Rattle.estelle_model.specs.Subject.{Subject, child_of}
use Rattle.estelle_model.specs.Statements.{Statement, Init, Release, Connect, Disconnect, Attach, Detach, Output}
use Rattle.estelle_model.specs.Actions.{is_bound, is_connected, is_upper, at, count_from, instance_at, or_no_module, is_sent_at, may_hold, empty_in, child_in, ip_of, ip_in, points_of, connect_points, disconnect_point, disconnect_where, disconnect_if, disconnect_child, disconnect, attach_points, detach_point, detach_above, detach_if, output_at, may_begin, begins_child, enters_state, holds_child, free_point, release_child, release, meant_part, plan_of}
use Rattle.estelle_model.specs.Jobs.{IsOwnOrChild}
use Rattle.estelle_model.proofs.Carried.{Asks, Fits, fits_then, fits_more}

-- a statement that makes no output, for what no statement does
abbrev pub unsaid : Statement
unsaid = Release (record { word = []; span = record { start = 0; end = 0 } })

-- which statements make an effect
abbrev pub IsBy : Statement → StatementEffect → Type 0
IsBy (Output x m) (effect.Output a ip word values) = Unit {0}
IsBy (Connect x y) (effect.Connect a b) = Unit {0}
IsBy (Disconnect x) (effect.Disconnect a) = Unit {0}
IsBy (Attach own x part) (effect.Attach upper lower) = Unit {0}
IsBy (Detach own) (effect.Detach upper) = Unit {0}
IsBy (Init x b) (effect.Create p k i) = Unit {0}
IsBy (Release x) (effect.Disconnect a) = Unit {0}
IsBy (Release x) (effect.Detach upper) = Unit {0}
IsBy (Release x) (effect.Remove p k) = Unit {0}
IsBy _ _ = ⊥

-- which statements change records
abbrev pub Changes : Statement → Type 0
Changes (Init x b) = Unit {0}
Changes (Release x) = Unit {0}
Changes _ = ⊥

pub creates_changes : (st : Statement) (p : Path) (k : ℕ) (i : Instance) → IsBy st (effect.Create p k i) → Changes st
creates_changes (Init x b) p k i by = tt
creates_changes _ p k i by = absurd by

pub removes_changes : (st : Statement) (p : Path) (k : ℕ) → IsBy st (effect.Remove p k) → Changes st
removes_changes (Release x) p k by = tt
removes_changes _ p k by = absurd by

-- nothing more of a value
abbrev pub Any : {B : Type 0} → B → Core → Type 0
Any b c = Unit {0}

module _ (s : Subject) (meant : Meanings) (p : Path) where
  -- the child that a module variable of the instance holds
  abbrev pub IsHeld : Core → Path → Type 0
  IsHeld c q = (v : ℕ) × (child_at p v c ≡ Ok q)

  abbrev pub IsOwnOrHeld : Core → Path → Type 0
  IsOwnOrHeld c q = (q ≡ p) ⊎ IsHeld c q

  -- of a child, or one that the instance itself connects
  abbrev pub IsLinked : Core → IpAddr → Type 0
  IsLinked c a = IsHeld c a.path ⊎ ((a.path ≡ p) × (connectable_at p a (point s c.instances a) ≡ true))

  -- what the statements of the instance read is the same in another core
  pub record SeesSame (c d : Core) : Type 0 where
    pub own : fin.get c.instances p ≡ fin.get d.instances p
    pub held : (q : Path) → IsHeld c q → fin.get c.instances q ≡ fin.get d.instances q
    pub bound : (a : IpAddr) → IsLinked c a → is_bound a c.links ≡ is_bound a d.links
    pub connected : (a : IpAddr) → IsLinked c a → is_connected a c.links ≡ is_connected a d.links
    pub upper : (a : IpAddr) → a.path ≡ p → is_upper a c.links ≡ is_upper a d.links
    pub above_is : (a : IpAddr) → IsHeld c a.path → above c.links a ≡ above d.links a

  pub sees_itself : (c d : Core) → c ≡ d → SeesSame c d
  sees_itself c d e = record {
    own = ap (λ (x : Core). fin.get x.instances p) e;
    held = λ q h. ap (λ (x : Core). fin.get x.instances q) e;
    bound = λ a h. ap (λ (x : Core). is_bound a x.links) e;
    connected = λ a h. ap (λ (x : Core). is_connected a x.links) e;
    upper = λ a h. ap (λ (x : Core). is_upper a x.links) e;
    above_is = λ a h. ap (λ (x : Core). above x.links a) e;
  }

  -- where an output is made: its statement names it so, gives it these values, and may send it there
  pub record OutputStated (st : Statement) (given : List Value) (a : IpAddr) (ip word : List ℕ) (values : List Value) (c : Core) : Type 0 where
    pub point_name : Name
    pub name : Name
    pub by : st ≡ Output point_name name
    pub ip_is : ip ≡ point_name.word
    pub word_is : word ≡ name.word
    pub values_are : values ≡ given
    pub own : a.path ≡ p
    pub allowed : (is_sent_at (point s c.instances a) word (meant name) && are_values_of (types_received (meant name)) values) ≡ true

  -- where a child is made: the next one, of a body that the empty variable may hold
  pub record CreateStated (given : List Value) (q : Path) (k : ℕ) (i : Instance) (c : Core) : Type 0 where
    pub own : q ≡ p
    pub parent : Instance
    pub there : fin.get c.instances q ≡ Some parent
    pub next : k ≡ suc parent.births
    pub variable : ℕ
    pub body : ℕ
    pub made : i ≡ (child_of s body).with_parameters given
    pub allowed : (may_hold s parent.body variable body && are_values_of (child_of s body).parameters given) ≡ true
    pub empty : empty_in (slice_get parent.module_variables variable) ≡ Ok tt

  abbrev pub IsStated : Statement → List Value → StatementEffect → Core → Type 0
  IsStated st given (effect.Output a ip word values) c = OutputStated st given a ip word values c
  IsStated st given (effect.Connect a b) c = IsOwnOrHeld c a.path × IsOwnOrHeld c b.path × (may_connect s c.instances p a b ≡ true) × ((is_bound a c.links || is_bound b c.links) ≡ false)
  IsStated st given (effect.Disconnect a) c = IsOwnOrHeld c a.path × (is_connected a c.links ≡ true)
  IsStated st given (effect.Attach upper lower) c = (upper.path ≡ p) × IsHeld c lower.path × (may_attach s c.instances upper lower ≡ true) × ((is_upper upper c.links || is_bound lower c.links) ≡ false)
  IsStated st given (effect.Detach upper) c = ((upper.path ≡ p) × (external_at (point s c.instances upper) ≡ true) × (is_upper upper c.links ≡ true)) ⊎ ((lower : IpAddr) × IsHeld c lower.path × (above c.links lower ≡ Some upper))
  IsStated st given (effect.Create q k i) c = CreateStated given q k i c
  IsStated st given (effect.Remove q k) c = (q ≡ p) × ((h : Path) × IsHeld c h × (k ≡ last_of h) × ((i : Instance) × (fin.get c.instances h ≡ Some i)))

  abbrev pub IsStatedChange : Path → Change → Core → Type 0
  IsStatedChange q (Store variable way value) c = ⊥
  IsStatedChange q (Hold variable None) c = q ≡ p
  IsStatedChange q (Hold variable (Some h)) c = (q ≡ p) × ((n : ℕ) × (h ≡ child p n))
  IsStatedChange q (Enter state) c = IsOwnOrChild p q

  abbrev pub stated : Statement → List Value → Asks
  stated st given = record { sees = SeesSame; makes = λ e c. IsBy st e × IsStated st given e c; keeps = λ q change c. Changes st × IsStatedChange q change c }

  module _ (st : Statement) (given : List Value) where
    abbrev asks : Asks
    asks = stated st given

    FitsAt : {B : Type 0} → (B → Core → Type 0) → Plan B → ℕ → Core → Type 0
    FitsAt Post q n c = Fits asks Post q n c

    -- ---- tests

    passed : (b : Bool) (e : Stop) (u : Unit {0}) → stops_unless b e ≡ Ok u → b ≡ true
    passed true e u h = refl
    passed false e u h = absurd (cc)

    passed_by : (b : Bool) (e : Stop) (u : Unit {0}) → stops_if b e ≡ Ok u → b ≡ false
    passed_by false e u h = refl
    passed_by true e u h = absurd (cc)

    unless_fits : {B : Type 0} (Post : B → Core → Type 0) (test : Core → Bool) (e : Stop) (rest : Plan B) (n : ℕ) (c : Core) → ((d : Core) → SeesSame c d → test c ≡ test d) → (test c ≡ true → Fits asks Post rest n c) → Fits asks Post (fails_unless test e >>= λ u. rest) n c
    unless_fits Post test e rest n c same h = (λ d sees. ap (λ b. stops_unless b e) (same d sees), λ u is. h (passed (test c) e u is))

    if_fits : {B : Type 0} (Post : B → Core → Type 0) (test : Core → Bool) (e : Stop) (rest : Plan B) (n : ℕ) (c : Core) → ((d : Core) → SeesSame c d → test c ≡ test d) → (test c ≡ false → Fits asks Post rest n c) → Fits asks Post (fails_if test e >>= λ u. rest) n c
    if_fits Post test e rest n c same h = (λ d sees. ap (λ b. stops_if b e) (same d sees), λ u is. h (passed_by (test c) e u is))

    -- ---- names

    child_fits : {B : Type 0} (Post : B → Core → Type 0) (x : Meaning) (rest : Path → Plan B) (n : ℕ) (c : Core) → ((q : Path) → IsHeld c q → Fits asks Post (rest q) n c) → Fits asks Post (child_in s p x >>= rest) n c
    child_fits Post (Module m) rest n c h = (λ d sees. ap (λ (o : Option Instance). held_in (slice_get (module_variables_of o) m)) sees.own, λ q is. h q (m, is))
    child_fits Post _ rest n c h = tt

    own_fits : {B : Type 0} (Post : B → Core → Type 0) (x : Meaning) (rest : IpAddr → Plan B) (n : ℕ) (c : Core) → ((a : IpAddr) → a.path ≡ p → Fits asks Post (rest a) n c) → Fits asks Post (ip_of s p x >>= rest) n c
    own_fits Post (Ip k) rest n c h = h (at p k) refl
    own_fits Post _ rest n c h = tt

    of_child_fits : {B : Type 0} (Post : B → Core → Type 0) (x part : Meaning) (rest : IpAddr → Plan B) (n : ℕ) (c : Core) → ((a : IpAddr) → IsHeld c a.path → Fits asks Post (rest a) n c) → Fits asks Post (ip_in s p x (Some part) >>= rest) n c
    of_child_fits Post (Module m) (Ip k) rest n c h = (λ d sees. ap (λ (o : Option Instance). held_in (slice_get (module_variables_of o) m)) sees.own, λ q is. h (at q k) (m, is))
    of_child_fits Post (Module m) _ rest n c h = (λ d sees. ap (λ (o : Option Instance). held_in (slice_get (module_variables_of o) m)) sees.own, λ q is. tt)
    of_child_fits Post _ part rest n c h = tt

    named_fits : {B : Type 0} (Post : B → Core → Type 0) (x : Meaning) (o : Option Meaning) (rest : IpAddr → Plan B) (n : ℕ) (c : Core) → ((a : IpAddr) → IsOwnOrHeld c a.path → Fits asks Post (rest a) n c) → Fits asks Post (ip_in s p x o >>= rest) n c
    named_fits Post x None rest n c h = own_fits Post x rest n c (λ a own. h a (inl own))
    named_fits Post x (Some part) rest n c h = of_child_fits Post x part rest n c (λ a held. h a (inr held))

    instance_fits : {B : Type 0} (Post : B → Core → Type 0) (q : Path) (rest : Instance → Plan B) (n : ℕ) (c : Core) → IsOwnOrHeld c q → ((i : Instance) → fin.get c.instances q ≡ Some i → Fits asks Post (rest i) n c) → Fits asks Post (reads (instance_at q) >>= rest) n c
    instance_fits Post q rest n c own h = (λ d sees. ap or_no_module (same own sees), λ i is. h i (found (fin.get c.instances q) i is))
      where
        same : {d : Core} → IsOwnOrHeld c q → SeesSame c d → fin.get c.instances q ≡ fin.get d.instances q
        same {d} (inl e) sees = ap (λ (r : Path). fin.get c.instances r) e ∙ sees.own ∙ ap (λ (r : Path). fin.get d.instances r) (sym e)
        same {d} (inr held) sees = sees.held q held

        found : (o : Option Instance) (i : Instance) → or_no_module o ≡ Ok i → o ≡ Some i
        found (Some j) i e = let is : j ≡ i = cc in ap (λ (x : Instance). Some x) is
        found None i e = absurd (cc)

    -- the point as it is declared
    point_same : (c d : Core) → SeesSame c d → (a : IpAddr) → IsOwnOrHeld c a.path → point s c.instances a ≡ point s d.instances a
    point_same c d sees a (inl e) = ap (λ (r : Path). point_of s (fin.get c.instances r) a.ip) e ∙ ap (λ o. point_of s o a.ip) sees.own ∙ ap (λ (r : Path). point_of s (fin.get d.instances r) a.ip) (sym e)
    point_same c d sees a (inr held) = ap (λ o. point_of s o a.ip) (sees.held a.path held)

    linked : (c : Core) (a : IpAddr) → IsOwnOrHeld c a.path → connectable_at p a (point s c.instances a) ≡ true → IsLinked c a
    linked c a (inl e) h = inr (e, h)
    linked c a (inr held) h = inl held

    -- ---- connect, disconnect, attach, detach

    left_of : (a b : Bool) → (a && b) ≡ true → a ≡ true
    left_of true b h = refl
    left_of false b h = absurd (cc)

    right_of : (a b : Bool) → (a && b) ≡ true → b ≡ true
    right_of true b h = h
    right_of false b h = absurd (cc)

    connect_fits : ((x y : IpAddr) → IsBy st (effect.Connect x y)) → (a b : IpAddr) (n : ℕ) (c : Core) → IsOwnOrHeld c a.path → IsOwnOrHeld c b.path → Fits asks Any (connect_points s p a b) n c
    connect_fits by a b n c first second =
        let q : Core → Bool = λ d. connectable_at p a (point s d.instances a) && connectable_at p b (point s d.instances b) in
        unless_fits Any (λ d. may_connect s d.instances p a b) Broken (fails_if (λ d. is_bound a d.links || is_bound b d.links) (Faults fault.LinkTaken) >>= λ u. makes (effect.Connect a b)) n c
        (λ d sees i. may_join (point_same c d sees a first i) (point_same c d sees b second i) && (connectable_at p a (point_same c d sees a first i) && connectable_at p b (point_same c d sees b second i)))
        (λ allowed.
        let both : q c ≡ true = right_of (may_join (point s c.instances a) (point s c.instances b)) (q c) allowed in
        let one : IsLinked c a = linked c a first (left_of (connectable_at p a (point s c.instances a)) (connectable_at p b (point s c.instances b)) both) in
        let other : IsLinked c b = linked c b second (right_of (connectable_at p a (point s c.instances a)) (connectable_at p b (point s c.instances b)) both) in
        if_fits Any (λ d. is_bound a d.links || is_bound b d.links) (Faults fault.LinkTaken) (makes (effect.Connect a b)) n c
        (λ d sees i. sees.bound a one i || sees.bound b other i)
        (λ free. ((by a b, (first, second, allowed, free)), omega arith, tt)))

    disconnect_fits : ((x : IpAddr) → IsBy st (effect.Disconnect x)) → (a : IpAddr) (n : ℕ) (c : Core) → IsOwnOrHeld c a.path → Fits asks Any (disconnect_point s p a) n c
    disconnect_fits by a n c own = unless_fits Any (λ d. connectable_at p a (point s d.instances a)) Broken (fails_unless (λ d. is_connected a d.links) (Faults fault.LinkAbsent) >>= λ u. makes (effect.Disconnect a)) n c
        (λ d sees. ap (connectable_at p a) (point_same c d sees a own))
        (λ allowed. unless_fits Any (λ d. is_connected a d.links) (Faults fault.LinkAbsent) (makes (effect.Disconnect a)) n c (λ d sees. sees.connected a (linked c a own allowed)) (λ there. ((by a, (own, there)), omega arith, tt)))

    attach_fits : ((x y : IpAddr) → IsBy st (effect.Attach x y)) → (upper lower : IpAddr) (n : ℕ) (c : Core) → upper.path ≡ p → IsHeld c lower.path → Fits asks Any (attach_points s upper lower) n c
    attach_fits by upper lower n c own held = unless_fits Any (λ d. may_attach s d.instances upper lower) Broken (fails_if (λ d. is_upper upper d.links || is_bound lower d.links) (Faults fault.LinkTaken) >>= λ u. makes (effect.Attach upper lower)) n c
        (λ d sees i. may_attach_points (point_same c d sees upper (inl own) i) (point_same c d sees lower (inr held) i))
        (λ allowed. if_fits Any (λ d. is_upper upper d.links || is_bound lower d.links) (Faults fault.LinkTaken) (makes (effect.Attach upper lower)) n c
        (λ d sees i. sees.upper upper own i || sees.bound lower (inl held) i)
        (λ free. ((by upper lower, (own, held, allowed, free)), omega arith, tt)))

    detach_fits : ((x : IpAddr) → IsBy st (effect.Detach x)) → (upper : IpAddr) (n : ℕ) (c : Core) → upper.path ≡ p → Fits asks Any (detach_point s upper) n c
    detach_fits by upper n c own = unless_fits Any (λ d. external_at (point s d.instances upper)) Broken (fails_unless (λ d. is_upper upper d.links) (Faults fault.LinkAbsent) >>= λ u. makes (effect.Detach upper)) n c
        (λ d sees. ap external_at (point_same c d sees upper (inl own)))
        (λ allowed. unless_fits Any (λ d. is_upper upper d.links) (Faults fault.LinkAbsent) (makes (effect.Detach upper)) n c (λ d sees. sees.upper upper own) (λ there. ((by upper, inl (own, allowed, there)), omega arith, tt)))

    -- ---- each external point of a child

    -- the child is there, and the variable holds it
    abbrev Stays : Path → Unit {0} → Core → Type 0
    Stays q u c = IsHeld c q × ((i : Instance) × (fin.get c.instances q ≡ Some i))

    cut_fits : ((x : IpAddr) → IsBy st (effect.Disconnect x)) → (q : Path) (a : IpAddr) → a.path ≡ q → (n : ℕ) (c : Core) → Stays q tt c → Fits asks (Stays q) (disconnect_if s a) n c
    unfolding effect.instances_after
    cut_fits cuts q a is n c stays = (λ d sees. ap (λ b. Ok b) (sees.connected a (inl held)), λ b e. by b (let same : is_connected a c.links ≡ b = cc in same))
      where
        held : IsHeld c a.path
        held = subst (IsHeld c) (sym is) stays.0

        by : (b : Bool) → is_connected a c.links ≡ b → Fits asks (Stays q) (disconnect_where s a b) n c
        by true e = ((cuts a, (inr held, e)), omega arith, stays)
        by false e = stays

    loose_fits : ((x : IpAddr) → IsBy st (effect.Detach x)) → (q : Path) (a : IpAddr) → a.path ≡ q → (n : ℕ) (c : Core) → Stays q tt c → Fits asks (Stays q) (detach_if s a) n c
    unfolding effect.instances_after
    loose_fits looses q a is n c stays = (λ d sees. ap (λ o. Ok o) (sees.above_is a held), λ o e. by o (let same : above c.links a ≡ o = cc in same))
      where
        held : IsHeld c a.path
        held = subst (IsHeld c) (sym is) stays.0

        by : (o : Option IpAddr) → above c.links a ≡ o → Fits asks (Stays q) (detach_above s o) n c
        by None e = stays
        by (Some upper) e = ((looses upper, inr (a, held, e)), omega arith, stays)

    each_fits : (q : Path) (f : IpAddr → Plan (Unit {0})) → ((a : IpAddr) → a.path ≡ q → (n : ℕ) (c : Core) → Stays q tt c → Fits asks (Stays q) (f a) n c) → (ks : List ℕ) (n : ℕ) (c : Core) → Stays q tt c → Fits asks (Stays q) (for_each f (map (at q) ks)) n c
    each_fits q f h [] n c stays = stays
    each_fits q f h (k ∷ ks) n c stays = fits_then asks (Stays q) (f (at q k)) (λ u. for_each f (map (at q) ks)) n c
        (fits_more asks (Stays q) (λ u d. (m : ℕ) → Fits asks (Stays q) (for_each f (map (at q) ks)) m d) (λ u d still m. each_fits q f h ks m d still) (f (at q k)) n c (h (at q k) refl n c stays))

    forgets : {B : Type 0} (Post : B → Core → Type 0) (g : Plan B) (n : ℕ) (c : Core) → Fits asks Post g n c → Fits asks Any g n c
    forgets Post g n c fits = fits_more asks Post Any (λ b d h. tt) g n c fits

    cut_child_fits : ((x : IpAddr) → IsBy st (effect.Disconnect x)) → (q : Path) (n : ℕ) (c : Core) → IsHeld c q → Fits asks Any (disconnect_child s q) n c
    cut_child_fits cuts q n c held = instance_fits Any q (λ i. for_each (disconnect_if s) (points_of s q i)) n c (inr held)
        (λ i there. forgets (Stays q) (for_each (disconnect_if s) (points_of s q i)) n c (each_fits q (disconnect_if s) (λ a is m d stays. cut_fits cuts q a is m d stays) (count_from 0 (child_of s i.body).external) n c (held, (i, there))))

    disconnect_all_fits : ((x : IpAddr) → IsBy st (effect.Disconnect x)) → (o : Option Meaning) (x : Meaning) (n : ℕ) (c : Core) → Fits asks Any (disconnect s p o x) n c
    disconnect_all_fits cuts None (Module m) n c = child_fits Any (Module m) (disconnect_child s) n c (λ q held. cut_child_fits cuts q n c held)
    disconnect_all_fits cuts None x n c = named_fits Any x None (disconnect_point s p) n c (λ a own. disconnect_fits cuts a n c own)
    disconnect_all_fits cuts (Some part) x n c = named_fits Any x (Some part) (disconnect_point s p) n c (λ a own. disconnect_fits cuts a n c own)

    -- ---- release

    release_child_fits : ((x : IpAddr) → IsBy st (effect.Disconnect x)) → ((x : IpAddr) → IsBy st (effect.Detach x)) → ((q : Path) (k : ℕ) → IsBy st (effect.Remove q k)) → (m : ℕ) (q : Path) (n : ℕ) (c : Core) → IsHeld c q → Fits asks Any (release_child s p m q) n c
    release_child_fits cuts looses removes m q n c held = instance_fits Any q (λ i. for_each (free_point s) (points_of s q i) >>= λ freed. makes (effect.Remove p (last_of q)) >>= λ removed. keeps p (Hold m None)) n c (inr held)
        (λ i there. fits_then asks Any (for_each (free_point s) (points_of s q i)) (λ freed. makes (effect.Remove p (last_of q)) >>= λ removed. keeps p (Hold m None)) n c
        (fits_more asks (Stays q) (λ u d. (k : ℕ) → Fits asks Any (makes (effect.Remove p (last_of q)) >>= λ removed. keeps p (Hold m None)) k d) (λ u d stays k. ((removes p (last_of q), (refl, (q, stays.0, refl, stays.1))), omega arith, ((removes_changes st p (last_of q) (removes p (last_of q)), refl), tt))) (for_each (free_point s) (points_of s q i)) n c
        (each_fits q (free_point s) (λ a is k d stays. fits_then asks (Stays q) (disconnect_if s a) (λ cut. detach_if s a) k d
        (fits_more asks (Stays q) (λ u e. (j : ℕ) → Fits asks (Stays q) (detach_if s a) j e) (λ u e still j. loose_fits looses q a is j e still) (disconnect_if s a) k d (cut_fits cuts q a is k d stays))) (count_from 0 (child_of s i.body).external) n c (held, (i, there)))))

    release_fits : ((x : IpAddr) → IsBy st (effect.Disconnect x)) → ((x : IpAddr) → IsBy st (effect.Detach x)) → ((q : Path) (k : ℕ) → IsBy st (effect.Remove q k)) → (x : Meaning) (n : ℕ) (c : Core) → Fits asks Any (release s p x) n c
    release_fits cuts looses removes (Module m) n c = child_fits Any (Module m) (release_child s p m) n c (λ q held. release_child_fits cuts looses removes m q n c held)
    release_fits cuts looses removes _ n c = tt

    -- ---- children that are made

    pub may_begin_fits : (m k : ℕ) (n : ℕ) (c : Core) → Fits asks (λ i d. (fin.get d.instances p ≡ Some i) × ((may_hold s i.body m k && are_values_of (child_of s k).parameters given) ≡ true)) (may_begin s p m k given) n c
    may_begin_fits m k n c =
        let Post : Instance → Core → Type 0 = λ i d. (fin.get d.instances p ≡ Some i) × ((may_hold s i.body m k && are_values_of (child_of s k).parameters given) ≡ true) in
        instance_fits Post p (λ i. fails_unless (λ d. may_hold s i.body m k && are_values_of (child_of s k).parameters given) Broken >>= λ allowed. Done i) n c (inl refl)
        (λ i there. unless_fits Post (λ d. may_hold s i.body m k && are_values_of (child_of s k).parameters given) Broken (Done i) n c (λ d sees. refl) (λ allowed. (there, allowed)))

    pub begins_fits : ((q : Path) (j : ℕ) (x : Instance) → IsBy st (effect.Create q j x)) → (m k : ℕ) (i : Instance) (n : ℕ) (c : Core) → fin.get c.instances p ≡ Some i → (may_hold s i.body m k && are_values_of (child_of s k).parameters given) ≡ true → Fits asks Any (begins_child s p m i ((child_of s k).with_parameters given)) (suc n) c
    begins_fits begins m k i n c there allowed = (λ d sees. refl, λ u empty. ((begins p (suc i.births) ((child_of s k).with_parameters given), record { own = refl; parent = i; there = there; next = refl; variable = m; body = k; made = refl; allowed = allowed; empty = empty }), omega arith, tt))

    pub enters_fits : Changes st → (q : Path) (o : Option ℕ) (n : ℕ) (c : Core) → IsOwnOrChild p q → Fits asks Any (enters_state s q o) n c
    enters_fits changes q None n c own = tt
    enters_fits changes q (Some k) n c own = ((changes, own), tt)

    pub holds_fits : Changes st → (m k : ℕ) (o : Option ℕ) (n : ℕ) (c : Core) → Fits asks Any (holds_child s p m o (child p k)) n c
    holds_fits changes m k None n c = ((changes, (refl, (k, refl))), tt)
    holds_fits changes m k (Some j) n c = ((changes, inr (k, refl)), ((changes, (refl, (k, refl))), tt))

  -- ---- all of them

  -- a statement does only what it has tested, and reads only what its instance may
  pub plan_fits : (st : Statement) (given : List Value) (n : ℕ) (c : Core) → Fits (stated st given) Any (plan_of s meant p st given) n c
  plan_fits (Connect x y) given n c = named_fits (Connect x y) given Any (meant x.name) (meant_part s meant x.part) (λ a. ip_in s p (meant y.name) (meant_part s meant y.part) >>= λ b. connect_points s p a b) n c
      (λ a first. named_fits (Connect x y) given Any (meant y.name) (meant_part s meant y.part) (λ b. connect_points s p a b) n c (λ b second. connect_fits (Connect x y) given (λ u v. tt) a b n c first second))
  plan_fits (Disconnect x) given n c = disconnect_all_fits (Disconnect x) given (λ u. tt) (meant_part s meant x.part) (meant x.name) n c
  plan_fits (Attach own x part) given n c = own_fits (Attach own x part) given Any (meant own) (λ upper. ip_in s p (meant x) (Some (meant part)) >>= λ lower. attach_points s upper lower) n c
      (λ upper is. of_child_fits (Attach own x part) given Any (meant x) (meant part) (λ lower. attach_points s upper lower) n c (λ lower held. attach_fits (Attach own x part) given (λ u v. tt) upper lower n c is held))
  plan_fits (Detach own) given n c = own_fits (Detach own) given Any (meant own) (detach_point s) n c (λ a is. detach_fits (Detach own) given (λ u. tt) a n c is)
  plan_fits (Output ip m) given n c = own_fits (Output ip m) given Any (meant ip) (output_at s ip.word m.word (meant m) given) (suc n) c
      (λ a is. unless_fits (Output ip m) given Any (λ d. is_sent_at (point s d.instances a) m.word (meant m) && are_values_of (types_received (meant m)) given) Broken (makes (effect.Output a ip.word m.word given)) (suc n) c
      (λ d sees. ap (λ o. is_sent_at o m.word (meant m) && are_values_of (types_received (meant m)) given) (point_same (Output ip m) given c d sees a (inl is)))
      (λ allowed. ((tt, record { point_name = ip; name = m; by = refl; ip_is = refl; word_is = refl; values_are = refl; own = is; allowed = allowed }), omega arith, tt)))
  plan_fits (Release x) given n c = release_fits (Release x) given (λ u. tt) (λ u. tt) (λ q k. tt) (meant x) n c
  plan_fits (Init x b) given n c = tt
