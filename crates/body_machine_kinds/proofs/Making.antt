-- A child is made at a path that no instance has had, and all are sound.
use Rattle.std.proofs.Common.{◌≡◌, ◌∙◌, refl, sym, ap, subst, ◌⊎◌, inl, inr, ℕ, zero, suc, ◌+◌, ◌-◌, ◌≤◌, Bool, true, false, ◌&&◌, cond, List, ◌++◌, length, drop, replicate, Option, Some, None, Ok, Err, arith, append_assoc}
use Rattle.std.specs.Prelude.{IsTrue, slice_get, is_some, option_map, nat_lt}
use Rattle.std.specs.Option.{unwrap_or}
use Rattle.std.specs.FinMap as fin
use Rattle.pascal_values.specs.declared.fault.Fault.TheVariants as fault
use Rattle.pascal_values.specs.declared.value.Value.{Value}
use Rattle.estelle_tree.specs.Paths.{Path, child, is_inside}
use Rattle.estelle_model.specs.Belonging.{are_values_of}
use Rattle.estelle_model.specs.Calls.{max_depth}
use Rattle.estelle_model.specs.Core.{Instance, Core}
use Rattle.estelle_model.specs.Effects.{Create, core_after, instances_after, born}
use Rattle.estelle_model.specs.States.{Logged, on_log}
use Rattle.estelle_model.specs.Stops.{Faults, Broken}
use Rattle.estelle_model.specs.Steps.{Running, and_then, checked_at, spend, pure}
use Rattle.estelle_model.specs.Plans.{stops_unless, carry}
use Rattle.estelle_model.specs.Attributes.{attribute, allows, may_have_transitions}
use Rattle.estelle_model.specs.Actions.{or_no_module, has_header, may_hold, empty_in, may_begin}
use Rattle.estelle_model.specs.Bodies.{heading, variables_in}
use Rattle.estelle_model.specs.Denoted.{section_types}
use Rattle.estelle_model.specs.declared.denoter.Denoter.{Denoter}
use Rattle.estelle_model.specs.Subject.{Subject, blanks, body, meant, no_body, headers_of, child_of}
use Rattle.estelle_model_legality.proofs.Lists.{and_both, same_number, some_is, not_both}
use Rattle.estelle_model_legality.proofs.Ways.{child_injective, inside_itself, inside_last, not_below_itself}
use Rattle.estelle_model_legality.proofs.Children.{inside_child}
use Rattle.estelle_model_legality.proofs.Belonging.{values_new}
use Rattle.estelle_model_legality.proofs.Lookups.{same, same_is, same_itself, get_created}
use Rattle.body_actions.specs.Children.{begins_child}
use Rattle.body_machine.specs.Ends.{makes_child}
use Rattle.body_machine.specs.Frames.{deeper_than}
use Rattle.body_kinds.specs.Kinded.{HasHeader}
use Rattle.body_machine_kinds.specs.Typed.{Bodies, Grows, Frames, MayBeHeld, IsSound, IsState, IsRunning, AreFrames}
use Rattle.body_machine_kinds.proofs.Places.{Safely, safely_then}

-- ---- where a child may be made

header_is : (o : Option ℕ) (h : ℕ) → has_header o h ≡ true → o ≡ Some h
header_is None h e = absurd (cc)
header_is (Some x) h e = ap (λ (k : ℕ). Some k) (same_number x h e)

held_header : (s : Subject) (b m k : ℕ) → may_hold s b m k ≡ true → HasHeader s b m k
held_header s b m k h =
    let both = and_both (is_some (body s k)) (has_header (slice_get (headers_of s b) m) (child_of s k).header && (allows (attribute s b) (attribute s k) && may_have_transitions s k)) h in
    (both.0, header_is (slice_get (headers_of s b) m) (child_of s k).header (and_both (has_header (slice_get (headers_of s b) m) (child_of s k).header) (allows (attribute s b) (attribute s k) && may_have_transitions s k) both.1).0)

none_held : (n m : ℕ) (c : Path) → slice_get (replicate n None) m ≡ Some (Some c) → ⊥
none_held zero m c h = absurd (cc)
none_held (suc n) zero c h = absurd (cc)
none_held (suc n) (suc m) c h = none_held n m c h

-- the instance there, which may hold the child
abbrev Begins : (s : Subject) (p : Path) (m k : ℕ) (vs : List Value) → Running Logged → Instance → Running Logged → Type 0
Begins s p m k vs r i t = (t ≡ r) × (fin.get r.state.image.instances p ≡ Some i) × ((may_hold s i.body m k && are_values_of (child_of s k).parameters vs) ≡ true)

may_begin_there : (s : Subject) (p : Path) (m k : ℕ) (vs : List Value) (r : Running Logged) → Safely true (Begins s p m k vs r) (carry Logged on_log (may_begin s p m k vs) r)
may_begin_there s p m k vs r = by (fin.get r.state.image.instances p) refl
  where
    allowed : (i : Instance) → fin.get r.state.image.instances p ≡ Some i → (b : Bool) → (may_hold s i.body m k && are_values_of (child_of s k).parameters vs) ≡ b → Safely true (Begins s p m k vs r) (and_then (checked_at (stops_unless b Broken) r) (λ a. pure i))
    allowed i e true f = (refl, e, f)
    allowed i e false f = refl

    by : (o : Option Instance) → fin.get r.state.image.instances p ≡ o
        → Safely true (Begins s p m k vs r) (and_then (checked_at (or_no_module o) r) (λ i t. and_then (checked_at (stops_unless (may_hold s i.body m k && are_values_of (child_of s k).parameters vs) Broken) t) (λ a. pure i)))
    by None e = tt
    by (Some i) e = allowed i e (may_hold s i.body m k && are_values_of (child_of s k).parameters vs) refl

-- a unit is taken, and the depth is tested
deeper_same : (may : Bool) (frame : ℕ) (r : Running Logged) → Safely may (λ (a : Unit {0}) t. (t.state ≡ r.state) × (t.frames ≡ r.frames)) (deeper_than frame r)
unfolding spend
deeper_same may frame r = by (nat_lt 0 r.left) (nat_lt frame max_depth)
  where
    by : (b c : Bool) → Safely may (λ (a : Unit {0}) t. (t.state ≡ r.state) × (t.frames ≡ r.frames))
        (and_then (cond b (Ok (tt {0}, record r { left = r.left - 1 })) (Err (Faults fault.StepLimit, r.left))) (λ a t. cond c (Ok (tt {0}, t)) (Err (Faults fault.CallDepth, t.left))))
    by true true = (refl, refl)
    by true false = tt
    by false c = tt

-- ---- the state with the child

module _ (s : Subject) (bodies : Bodies) (c : Core) (h : IsState s bodies c) (home : ℕ) (p : Path) (known : bodies p ≡ Some home) (i : Instance) (here : fin.get c.instances p ≡ Some i) (of_body : ℕ) (vs : List Value) (values : are_values_of (child_of s of_body).parameters vs ≡ true) where
  abbrev new : Path
  new = child p (suc i.births)

  -- those that there have been, and the new one
  abbrev more : Bodies
  more q = cond (same q new) (Some of_body) (bodies q)

  fresh : (b : ℕ) → bodies new ≡ Some b → ⊥
  fresh b e = let less : suc i.births ≤ i.births = (h.instances p i here).births new (suc i.births) b e (inside_itself new) in absurd (omega (arith, less))

  grows : Grows bodies more
  grows q b e = by (same q new) refl
    where
      by : (x : Bool) → same q new ≡ x → cond x (Some of_body) (bodies q) ≡ Some b
      by true f = absurd (fresh b (sym (ap bodies (same_is q new f)) ∙ e))
      by false f = e

  is_new : more new ≡ Some of_body
  is_new = ap (λ (x : Bool). cond x (Some of_body) (bodies new)) (same_itself new)

  -- one that is known is new, or was known
  known_was : (q : Path) (b : ℕ) → more q ≡ Some b → (q ≡ new) ⊎ (bodies q ≡ Some b)
  known_was q b e = by (same q new) refl e
    where
      by : (x : Bool) → same q new ≡ x → cond x (Some of_body) (bodies q) ≡ Some b → (q ≡ new) ⊎ (bodies q ≡ Some b)
      by true f g = inl (same_is q new f)
      by false f g = inr g

  held_grows : (body m : ℕ) (d : Path) → MayBeHeld s bodies body m d → MayBeHeld s more body m d
  held_grows body m d k = record { of_body = k.of_body; is = grows d k.of_body k.is; header = k.header }

  new_sound : IsSound s more new ((child_of s of_body).with_parameters vs)
  new_sound = record {
    body = is_new;
    variables = subst (λ (ts : List Denoter). IsTrue (are_values_of ts (vs ++ blanks (drop (length vs) ts))))
        (sym (append_assoc (child_of s of_body).parameters (heading (meant s) (unwrap_or (body s of_body) no_body).header).exports (section_types (meant s) (variables_in (unwrap_or (body s of_body) no_body)))))
        (values_new (child_of s of_body).parameters ((heading (meant s) (unwrap_or (body s of_body) no_body).header).exports ++ section_types (meant s) (variables_in (unwrap_or (body s of_body) no_body))) vs values);
    children = λ m d e. absurd (none_held _ m d e);
    births = λ q k b e inside. go q k b inside (known_was q b e);
  }
    where
      go : (q : Path) (k b : ℕ) → is_inside (child new k) q ≡ true → (q ≡ new) ⊎ (bodies q ≡ Some b) → k ≤ 0
      go q k b inside (inl e) = absurd (not_below_itself new k (subst (λ (z : Path). is_inside (child new k) z ≡ true) e inside))
      go q k b inside (inr e) = let less : suc i.births ≤ i.births = (h.instances p i here).births q (suc i.births) b e (inside_child new k q inside) in absurd (omega (arith, less))

  -- the parent has had one more
  parent_sound : IsSound s more p (born i)
  parent_sound =
      let old = h.instances p i here in
      record {
        body = grows p i.body old.body;
        variables = old.variables;
        children = λ m d e. held_grows i.body m d (old.children m d e);
        births = λ q k b e inside. go q k b inside (known_was q b e);
      }
    where
      last : (k : ℕ) → (is_inside (child p k) p ≡ true) ⊎ (child p k ≡ new) → k ≤ i.births + 1
      last k (inl x) = absurd (not_below_itself p k x)
      last k (inr x) = let is : k ≡ suc i.births = (child_injective p p k (suc i.births) x).1 in omega (arith, is)

      go : (q : Path) (k b : ℕ) → is_inside (child p k) q ≡ true → (q ≡ new) ⊎ (bodies q ≡ Some b) → k ≤ i.births + 1
      go q k b inside (inl e) = last k (inside_last (child p k) p (suc i.births) (subst (λ (z : Path). is_inside (child p k) z ≡ true) e inside))
      go q k b inside (inr e) = let less : k ≤ i.births = (h.instances p i here).births q k b e inside in omega (arith, less)

  -- another one has had as many
  other_sound : (o : Path) (j : Instance) → (o ≡ p → ⊥) → IsSound s bodies o j → IsSound s more o j
  other_sound o j apart old = record {
    body = grows o j.body old.body;
    variables = old.variables;
    children = λ m d e. held_grows j.body m d (old.children m d e);
    births = λ q k b e inside. go q k b inside (known_was q b e);
  }
    where
      last : (k : ℕ) → (is_inside (child o k) p ≡ true) ⊎ (child o k ≡ new) → k ≤ j.births
      last k (inl x) = old.births p k home known x
      last k (inr x) = absurd (apart (child_injective o p k (suc i.births) x).0)

      go : (q : Path) (k b : ℕ) → is_inside (child o k) q ≡ true → (q ≡ new) ⊎ (bodies q ≡ Some b) → k ≤ j.births
      go q k b inside (inl e) = last k (inside_last (child o k) p (suc i.births) (subst (λ (z : Path). is_inside (child o k) z ≡ true) e inside))
      go q k b inside (inr e) = old.births q k b e inside

  made_state : IsState s more (core_after (Create p (suc i.births) ((child_of s of_body).with_parameters vs)) c)
  unfolding instances_after
  made_state = record { types = h.types; instances = λ q j at. by q j (same q new) (same q p) refl refl (sym (get_created p (suc i.births) ((child_of s of_body).with_parameters vs) c.instances q) ∙ at) }
    where
      by : (q : Path) (j : Instance) (x y : Bool) → same q new ≡ x → same q p ≡ y → cond x (Some ((child_of s of_body).with_parameters vs)) (cond y (option_map born (fin.get c.instances p)) (fin.get c.instances q)) ≡ Some j → IsSound s more q j
      by q j true y e f g =
          let is : (child_of s of_body).with_parameters vs ≡ j = cc in
          subst (IsSound s more q) is (subst (λ (z : Path). IsSound s more z ((child_of s of_body).with_parameters vs)) (sym (same_is q new e)) new_sound)
      by q j false true e f g =
          let is : Some (born i) ≡ Some j = sym (ap (option_map born) here) ∙ g in
          let was : born i ≡ j = cc in
          subst (IsSound s more q) was (subst (λ (z : Path). IsSound s more z (born i)) (sym (same_is q p f)) parent_sound)
      by q j false false e f g = other_sound q j (λ k. not_both (same q p) (ap (same q) (sym k) ∙ same_itself q) f) (h.instances q j g)

-- ---- the step

module _ (s : Subject) (bodies : Bodies) (frames : Frames) (home : ℕ) (p : Path) (known : bodies p ≡ Some home) where
  -- a child of the body is made, which the module variable may hold
  pub record Made (m of_body : ℕ) (new : Path) (t : Running Logged) : Type 0 where
    pub all : Bodies
    pub grown : Grows bodies all
    pub running : IsRunning s all frames t
    pub is : all new ≡ Some of_body
    pub fits : MayBeHeld s all home m new

  made_one : (m k : ℕ) (vs : List Value) (i : Instance) (t : Running Logged) → IsRunning s bodies frames t → fin.get t.state.image.instances p ≡ Some i → (may_hold s i.body m k && are_values_of (child_of s k).parameters vs) ≡ true
      → Safely true (Made m k) (begins_child s p m i ((child_of s k).with_parameters vs) t)
  made_one m k vs i t h here may = by (slice_get i.module_variables m)
    where
      done : Made m k (child p (suc i.births)) (record t { state = on_log.does (Create p (suc i.births) ((child_of s k).with_parameters vs)) t.state })
      done =
          let both = and_both (may_hold s i.body m k) (are_values_of (child_of s k).parameters vs) may in
          let body : i.body ≡ home = some_is i.body home (bodies p) (h.state.instances p i here).body known in
          record {
            all = more s bodies t.state.image h.state home p known i here k vs both.1;
            grown = grows s bodies t.state.image h.state home p known i here k vs both.1;
            running = record { state = made_state s bodies t.state.image h.state home p known i here k vs both.1; values = h.values };
            is = is_new s bodies t.state.image h.state home p known i here k vs both.1;
            fits = record { of_body = k; is = is_new s bodies t.state.image h.state home p known i here k vs both.1; header = subst (λ (b : ℕ). HasHeader s b m k) body (held_header s i.body m k both.0) };
          }

      by : (o : Option (Option Path)) → Safely true (Made m k) (and_then (and_then (checked_at (empty_in o) t) (λ e u. Ok (tt {0}, record u { state = on_log.does (Create p (suc i.births) ((child_of s k).with_parameters vs)) u.state }))) (λ a. pure (child p (suc i.births))))
      by None = tt
      by (Some None) = done
      by (Some (Some c)) = tt

  pub makes : (m k frame : ℕ) (vs : List Value) (r : Running Logged) → IsRunning s bodies frames r → Safely true (Made m k) (makes_child s p frame m k vs r)
  makes m k frame vs r h = safely_then true (Begins s p m k vs r) (Made m k) (carry Logged on_log (may_begin s p m k vs) r) _ (may_begin_there s p m k vs r)
      (λ i t b. safely_then true (λ (a : Unit {0}) u. (u.state ≡ t.state) × (u.frames ≡ t.frames)) (Made m k) (deeper_than frame t) _ (deeper_same true frame t)
      (λ a u e. made_one m k vs i u (running u (e.0 ∙ ap (λ (x : Running Logged). x.state) b.0) (e.1 ∙ ap (λ (x : Running Logged). x.frames) b.0)) (ap (λ (x : Logged). fin.get x.image.instances p) (e.0 ∙ ap (λ (x : Running Logged). x.state) b.0) ∙ b.1) b.2))
    where
      running : (u : Running Logged) → u.state ≡ r.state → u.frames ≡ r.frames → IsRunning s bodies frames u
      running u e f = record { state = subst (λ (x : Logged). IsState s bodies x.image) (sym e) h.state; values = subst (AreFrames frames) (sym f) h.values }
