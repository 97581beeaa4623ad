-- What is read, stored and made unset at places of known shapes.
use Rattle.std.proofs.Common.{◌≡◌, ◌∙◌, refl, sym, ap, subst, ◌⊎◌, inl, inr, ℕ, zero, suc, Bool, true, false, cond, List, [], ◌∷◌, map, Option, Some, None, Result, Ok, Err}
use Rattle.std.specs.Prelude.{slice_get, slice_set}
use Rattle.std.specs.FinMap as fin
use Rattle.pascal_values.specs.declared.fault.Fault.{Fault}
use Rattle.pascal_values.specs.declared.fault.Fault.TheVariants.{Unset}
use Rattle.pascal_values.specs.declared.value.Value.{Value, out-Value}
use Rattle.pascal_values.specs.declared.value.Value.TheVariants as value
use Rattle.pascal_values.specs.declared.value.Value.TheOpen.{Value-F}
use Rattle.pascal_values.specs.declared.value.Shape.{Shape}
use Rattle.pascal_values.specs.Shapes.{each_passes, is_unset}
use Rattle.pascal_values.specs.Values.{into, part_of, parts_at, with_parts_at, changed_by, changed_at, with_part}
use Rattle.estelle_tree.specs.Paths.{Path}
use Rattle.estelle_model.specs.declared.denoter.Denoter.{Denoter}
use Rattle.estelle_model.specs.declared.place.Place.{Place}
use Rattle.estelle_model.specs.declared.place.Place.TheVariants.{Of, In}
use Rattle.estelle_model.specs.Stops.{Stop, Faults, Broken, stopping}
use Rattle.estelle_model.specs.Types.{shape_of, assignable}
use Rattle.estelle_model.specs.Core.{Instance, Core}
use Rattle.estelle_model.specs.Effects.{Store, changed, changed_in}
use Rattle.estelle_model.specs.States.{Logged, on_log}
use Rattle.estelle_model.specs.Steps.{Running, StepResult, Step, and_then, checked, checked_at}
use Rattle.estelle_model.specs.Places.{of_variables, known, blanked, held_in, module_variables_of, held, held_step, load, put_in_instance, put, blank_there, blank_at, child_step}
use Rattle.estelle_model.specs.Belonging.{belongs, belongs_to, into_shape, shape_at, may_store}
use Rattle.estelle_model.specs.Subject.{Subject, types_of_variables}
use Rattle.estelle_model_legality.proofs.Lists.{and_both, both_and, some_is}
use Rattle.estelle_model_legality.proofs.Belonging.{values_stored}
use Rattle.estelle_model_legality.proofs.Lookups.{get_changed, changed_was}
use Rattle.body_machine.specs.Rows.{store_as}
use Rattle.body_kinds.specs.Kinds.{is_of, kind_of, shape_in, StoresInto}
use Rattle.body_kinds.specs.Kinded.{variable_shape}
use Rattle.body_machine_kinds.specs.Typed.{Bodies, Frames, is_held, IsFrame, AreFrames, MayBeHeld, IsSound, IsState, IsPlaceOf, IsRunning}
use Rattle.body_machine_kinds.proofs.Parts.{way_is, passes_at, tested_at, part_belongs, belongs_held, held_is, part_held, put_held, stores_belongs, blanked_belongs}

-- ---- what a step comes to

-- a fault, or a broken rule where there may be one
abbrev pub MayBe : Bool → Stop → Type 0
MayBe may (Faults f) = Unit {0}
MayBe may Broken = may ≡ true

-- a value of which more holds, with the new state
abbrev pub Safely : {A : Type 0} → Bool → (A → Running Logged → Type 0) → StepResult Logged A → Type 0
Safely may P (Ok r) = P r.0 r.1
Safely may P (Err e) = MayBe may e.0

pub safely_then : {A B : Type 0} (may : Bool) (P : A → Running Logged → Type 0) (Q : B → Running Logged → Type 0) (o : StepResult Logged A) (f : A → Step Logged B) → Safely may P o → ((a : A) (r : Running Logged) → P a r → Safely may Q (f a r)) → Safely may Q (and_then o f)
safely_then may P Q (Ok r) f h go = go r.0 r.1 h
safely_then may P Q (Err e) f h go = h

pub faults_may : {A : Type 0} (may : Bool) (r : Result A Fault) (s : Running Logged) → Safely may (λ a t. (r ≡ Ok a) × (t ≡ s)) (checked_at (stopping r) s)
faults_may may (Ok a) s = (refl, refl)
faults_may may (Err f) s = tt

-- ---- lists

frame_there : (frames : Frames) (vs : List Value) (f : ℕ) (shapes : List Shape) → AreFrames frames vs → slice_get frames f ≡ Some shapes → (v : Value) × (slice_get vs f ≡ Some v) × IsFrame shapes v
frame_there [] vs f shapes h e = absurd (cc)
frame_there (x ∷ frames) [] f shapes h e = absurd h
frame_there (x ∷ frames) (v ∷ vs) zero shapes h e = let is : x ≡ shapes = cc in (v, refl, subst (λ (y : List Shape). IsFrame y v) is h.0)
frame_there (x ∷ frames) (v ∷ vs) (suc f) shapes h e = frame_there frames vs f shapes h.1 e

frames_set : (frames : Frames) (vs : List Value) (f : ℕ) (shapes : List Shape) (new : Value) → AreFrames frames vs → slice_get frames f ≡ Some shapes → IsFrame shapes new → AreFrames frames (slice_set vs f new)
frames_set [] vs f shapes new h e i = absurd (cc)
frames_set (x ∷ frames) [] f shapes new h e i = h
frames_set (x ∷ frames) (v ∷ vs) zero shapes new h e i = let is : shapes ≡ x = cc in (subst (λ (y : List Shape). IsFrame y new) is i, h.1)
frames_set (x ∷ frames) (v ∷ vs) (suc f) shapes new h e i = (h.0, frames_set frames vs f shapes new h.1 e i)

frames_changed : (frames : Frames) (vs : List Value) (f : ℕ) (shapes : List Shape) (change : Value → Value) → AreFrames frames vs → slice_get frames f ≡ Some shapes → ((v : Value) → IsFrame shapes v → IsFrame shapes (change v)) → AreFrames frames (changed_at vs f change)
frames_changed frames vs f shapes change h e keeps =
    let x = frame_there frames vs f shapes h e in
    subst (λ (o : Option Value). AreFrames frames (changed_by vs f o change)) (sym x.1) (frames_set frames vs f shapes (change x.0) h e (keeps x.0 x.2))

passes_set : (tests : List (Value → Bool)) (vs : List Value) (k : ℕ) (test : Value → Bool) (new : Value) → each_passes tests vs ≡ true → slice_get tests k ≡ Some test → test new ≡ true → each_passes tests (slice_set vs k new) ≡ true
passes_set [] vs k test new h e t = absurd (cc)
passes_set (x ∷ tests) [] k test new h e t = h
passes_set (x ∷ tests) (v ∷ vs) zero test new h e t = let is : test ≡ x = cc in both_and (x new) (each_passes tests vs) (subst (λ (y : Value → Bool). y new ≡ true) is t) (and_both (x v) (each_passes tests vs) h).1
passes_set (x ∷ tests) (v ∷ vs) (suc k) test new h e t = let b = and_both (x v) (each_passes tests vs) h in both_and (x v) (each_passes tests (slice_set vs k new)) b.0 (passes_set tests vs k test new b.1 e t)

passes_changed : (tests : List (Value → Bool)) (vs : List Value) (k : ℕ) (test : Value → Bool) (change : Value → Value) → each_passes tests vs ≡ true → slice_get tests k ≡ Some test → ((v : Value) → test v ≡ true → test (change v) ≡ true) → each_passes tests (changed_at vs k change) ≡ true
passes_changed tests vs k test change h e keeps =
    let x = passes_at tests vs k test h e in
    subst (λ (o : Option Value). each_passes tests (changed_by vs k o change) ≡ true) (sym x.1) (passes_set tests vs k test (change x.0) h e (keeps x.0 x.2))

typed_at : (types : List Denoter) (k : ℕ) (shape : Shape) → slice_get (map shape_of types) k ≡ Some shape → slice_get (map (λ t. belongs (shape_of t)) types) k ≡ Some (belongs shape)
typed_at [] k shape e = absurd (cc)
typed_at (t ∷ types) zero shape e = let is : shape_of t ≡ shape = cc in ap (λ (y : Shape). Some (belongs y)) is
typed_at (t ∷ types) (suc k) shape e = typed_at types k shape e

-- ---- in a state

module _ (s : Subject) (bodies : Bodies) where
  -- the record of an instance changes, and that stays sound
  pub state_changed : (c : Core) (p : Path) (f : Instance → Instance) → IsState s bodies c → ((i : Instance) → fin.get c.instances p ≡ Some i → IsSound s bodies p i → IsSound s bodies p (f i)) → IsState s bodies (record c { instances = changed_in p f c.instances })
  state_changed c p f h keeps = record { types = h.types; instances = λ q i at. go q i (changed_was p f (fin.get c.instances) q i (sym (get_changed p f c.instances q) ∙ at)) }
    where
      go : (q : Path) (i : Instance) → (r : Instance) × (fin.get c.instances q ≡ Some r) × ((i ≡ r) ⊎ ((q ≡ p) × (i ≡ f r))) → IsSound s bodies q i
      go q i x = elim x.2 [
        | inl e ↦ subst (IsSound s bodies q) (sym e) (h.instances q x.0 x.1)
        | inr e ↦ subst (IsSound s bodies q) (sym e.1) (subst (λ (z : Path). IsSound s bodies z (f x.0)) (sym e.0) (keeps x.0 (sym (ap (fin.get c.instances) e.0) ∙ x.1) (subst (λ (z : Path). IsSound s bodies z x.0) e.0 (h.instances q x.0 x.1))))
      ]

  -- the child in a module variable may be there, or it is empty
  pub child_held : (body : ℕ) (p : Path) (m : ℕ) (r : Running Logged) → IsState s bodies r.state.image → bodies p ≡ Some body → Safely false (λ c t. MayBeHeld s bodies body m c × (t ≡ r)) (child_step Logged on_log p m r)
  unfolding child_step
  child_held body p m r h home = by (fin.get r.state.image.instances p) refl
    where
      within : (i : Instance) → IsSound s bodies p i → (o : Option (Option Path)) → slice_get i.module_variables m ≡ o → Safely false (λ c t. MayBeHeld s bodies body m c × (t ≡ r)) (checked_at (held_in o) r)
      within i sound None e = tt
      within i sound (Some None) e = tt
      within i sound (Some (Some c)) e = let is : i.body ≡ body = some_is i.body body (bodies p) sound.body home in (subst (λ (b : ℕ). MayBeHeld s bodies b m c) is (sound.children m c e), refl)

      by : (o : Option Instance) → fin.get r.state.image.instances p ≡ o → Safely false (λ c t. MayBeHeld s bodies body m c × (t ≡ r)) (checked_at (held_in (slice_get (module_variables_of o) m)) r)
      by None e = tt
      by (Some i) e = within i (h.instances p i e) (slice_get i.module_variables m) refl

  module _ (frames : Frames) where
    -- what stands at a place
    abbrev Holds : Shape → Result (Option Value) Stop → Type 0
    Holds shape (Ok (Some v)) = is_held shape v ≡ true
    Holds shape (Ok None) = ⊥
    Holds shape (Err (Faults f)) = Unit {0}
    Holds shape (Err Broken) = ⊥

    pub held_there : (shape : Shape) (place : Place) (r : Running Logged) → IsRunning s bodies frames r → IsPlaceOf s bodies frames shape place → Holds shape (held Logged on_log place r)
    held_there shape (Of p x way) r h is = by (fin.get r.state.image.instances p) refl
      where
        by : (o : Option Instance) → fin.get r.state.image.instances p ≡ o → Holds shape (of_variables o x way)
        by None e = tt
        by (Some i) e =
            let sound = h.state.instances p i e in
            let b : is.body ≡ i.body = some_is is.body i.body (bodies p) is.is sound.body in
            let declared : variable_shape s i.body x ≡ Some is.variable = subst (λ (k : ℕ). variable_shape s k x ≡ Some is.variable) b is.declared in
            let v = passes_at (map (λ t. belongs (shape_of t)) (types_of_variables s i.body)) i.variables x (belongs is.variable) sound.variables (typed_at (types_of_variables s i.body) x is.variable declared) in
            let w = part_belongs way is.variable shape v.0 is.part v.2 in
            subst (λ (o : Option Value). Holds shape (Ok o)) (sym (ap (λ (o : Option Value). into o (λ y. part_of y way)) v.1 ∙ w.1)) (belongs_held shape w.0 w.2)
    held_there shape (In f x way) r h is =
        let frame = frame_there frames r.frames f is.shapes h.values is.is in
        let v = passes_at (map is_held is.shapes) frame.2.values x (is_held is.variable) frame.2.held (tested_at is_held is.shapes x is.variable is.declared) in
        let w = part_held way is.variable shape v.0 is.part v.2 in
        subst (λ (o : Option Value). Holds shape (Ok o))
        (sym (ap (λ (o : Option Value). into o (λ y. part_of y (x ∷ way))) frame.1 ∙ ap (λ (o : Value-F Value). into (slice_get (parts_at o) x) (λ y. part_of y way)) frame.2.are ∙ ap (λ (o : Option Value). into o (λ y. part_of y way)) v.1 ∙ w.1)) w.2

    -- ---- what is put

    abbrev pub Stays : {A : Type 0} → A → Running Logged → Type 0
    Stays a r = IsRunning s bodies frames r

    frame_put : (shapes : List Shape) (x : ℕ) (variable shape : Shape) (way : List ℕ) (new frame : Value) → slice_get shapes x ≡ Some variable → shape_in variable way ≡ Some shape → belongs shape new ≡ true → IsFrame shapes frame → IsFrame shapes (with_part frame (x ∷ way) new)
    frame_put shapes x variable shape way new frame declared part b h =
        let vs = changed_at h.values x (λ old. with_part old way new) in
        record {
          values = vs;
          are = ap (λ (o : Value-F Value). out-Value (with_parts_at o frame (changed_at (parts_at o) x (λ old. with_part old way new)))) h.are ∙ value.outs-Fields vs;
          held = passes_changed (map is_held shapes) h.values x (is_held variable) (λ old. with_part old way new) h.held (tested_at is_held shapes x variable declared) (λ v t. put_held way variable shape v new part t b);
        }

    pub put_there : (shape : Shape) (place : Place) (v : Value) (r : Running Logged) → IsRunning s bodies frames r → IsPlaceOf s bodies frames shape place → belongs shape v ≡ true → Safely false Stays (put Logged on_log place v r)
    unfolding put
    put_there shape (In f x way) v r h is b = record { state = h.state; values = frames_changed frames r.frames f is.shapes (λ frame. with_part frame (x ∷ way) v) h.values is.is (λ frame k. frame_put is.shapes x is.variable shape way v frame is.declared is.part b k) }
    put_there shape (Of p x way) v r h is b = by (fin.get r.state.image.instances p) refl
      where
        may : (i : Instance) → IsSound s bodies p i → may_store (types_of_variables s i.body) x way v ≡ true
        may i sound =
            let k : is.body ≡ i.body = some_is is.body i.body (bodies p) is.is sound.body in
            let declared : variable_shape s i.body x ≡ Some is.variable = subst (λ (k : ℕ). variable_shape s k x ≡ Some is.variable) k is.declared in
            ap (λ (o : Option Shape). belongs_to (into_shape o (λ y. shape_at y way)) v) declared ∙ ap (λ (o : Option Shape). belongs_to o v) (way_is way is.variable shape is.part) ∙ b

        stored : (i : Instance) → IsSound s bodies p i → IsSound s bodies p (changed (Store x way v) i)
        stored i sound = record { body = sound.body; variables = values_stored (types_of_variables s i.body) i.variables x way v sound.variables (may i sound); children = sound.children; births = sound.births }

        chosen : (i : Instance) (c : Bool) → c ≡ true → Safely {A = Unit {0}} false Stays (cond c (Ok (tt, record r { state = on_log.keeps p (Store x way v) r.state })) (Err (Broken, r.left)))
        chosen i true e = record { state = state_changed r.state.image p (changed (Store x way v)) h.state (λ j at sound. stored j sound); values = h.values }
        chosen i false e = absurd (cc)

        by : (o : Option Instance) → fin.get r.state.image.instances p ≡ o → Safely false Stays (put_in_instance Logged on_log o p x way v r)
        by None e = tt
        by (Some i) e = chosen i (may_store (r.state.image.types i.body) x way v) (ap (λ (t : ℕ → List Denoter). may_store (t i.body) x way v) h.state.types ∙ may i (h.state.instances p i e))

    -- ---- loads, stores and blanks

    pub loads : (shape : Shape) (place : Place) (r : Running Logged) → IsRunning s bodies frames r → IsPlaceOf s bodies frames shape place → Safely false (λ v t. (is_of (kind_of shape) v ≡ true) × IsRunning s bodies frames t) (load Logged on_log place r)
    unfolding load
    loads shape place r h is = by (held Logged on_log place r) (held_there shape place r h is)
      where
        whether : (v : Value) → is_held shape v ≡ true → (b : Bool) → is_unset v ≡ b → Safely false (λ w t. (is_of (kind_of shape) w ≡ true) × IsRunning s bodies frames t) (checked_at (cond b (Err (Faults Unset)) (Ok v)) r)
        whether v t true e = tt
        whether v t false e = (held_is shape v t e, h)

        by : (o : Result (Option Value) Stop) → Holds shape o → Safely false (λ v t. (is_of (kind_of shape) v ≡ true) × IsRunning s bodies frames t) (checked_at (known o) r)
        by (Ok (Some v)) t = whether v t (is_unset v) refl
        by (Ok None) t = absurd t
        by (Err (Faults f)) t = tt
        by (Err Broken) t = absurd t

    there : (shape : Shape) (place : Place) (r : Running Logged) → IsRunning s bodies frames r → IsPlaceOf s bodies frames shape place → Safely false (λ o t. (Holds shape (Ok o)) × IsRunning s bodies frames t) (held_step Logged on_log place r)
    there shape place r h is = by (held Logged on_log place r) (held_there shape place r h is)
      where
        by : (o : Result (Option Value) Stop) → Holds shape o → Safely false (λ o t. (Holds shape (Ok o)) × IsRunning s bodies frames t) (checked_at o r)
        by (Ok o) t = (t, h)
        by (Err (Faults f)) t = tt
        by (Err Broken) t = absurd t

    pub stores : (outer shape : Shape) (place : Place) (v : Value) (r : Running Logged) → StoresInto outer shape → IsRunning s bodies frames r → IsPlaceOf s bodies frames shape place → is_of (kind_of shape) v ≡ true → Safely false Stays (store_as (Some outer) place v r)
    stores outer shape place v r inner h is k =
        safely_then false (λ (a : Unit {0}) t. (assignable outer v ≡ Ok a) × IsRunning s bodies frames t) Stays _ (λ a. put Logged on_log place v)
        (safely_then false (λ o t. (Holds shape (Ok o)) × IsRunning s bodies frames t) (λ (a : Unit {0}) t. (assignable outer v ≡ Ok a) × IsRunning s bodies frames t) (held_step Logged on_log place r) (λ o. checked (stopping (assignable outer v)))
        (there shape place r h is)
        (λ o t i. fitted (assignable outer v) t refl i.1))
        (λ a t i. put_there shape place v t i.1 is (stores_belongs outer shape v inner k i.0))
      where
        fitted : (x : Result (Unit {0}) Fault) (t : Running Logged) → assignable outer v ≡ x → IsRunning s bodies frames t → Safely false (λ (a : Unit {0}) u. (assignable outer v ≡ Ok a) × IsRunning s bodies frames u) (checked_at (stopping x) t)
        fitted (Ok a) t e i = (e, i)
        fitted (Err f) t e i = tt

    pub blanks : (shape : Shape) (place : Place) (r : Running Logged) → IsRunning s bodies frames r → IsPlaceOf s bodies frames shape place → Safely false Stays (blank_at Logged on_log place r)
    unfolding blank_at
    blanks shape place r h is =
        safely_then false (λ o t. (Holds shape (Ok o)) × IsRunning s bodies frames t) Stays (held_step Logged on_log place r) (blank_there Logged on_log place) (there shape place r h is) (λ o t i. by o t i.0 i.1)
      where
        by : (o : Option Value) (t : Running Logged) → Holds shape (Ok o) → IsRunning s bodies frames t → Safely false Stays (blank_there Logged on_log place o t)
        by None t k i = absurd k
        by (Some v) t k i = put_there shape place (blanked v) t i is (blanked_belongs shape v k)
