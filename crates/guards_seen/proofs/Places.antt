-- Places read and stored alike on two states that show the same of some instances.
use Rattle.std.proofs.Common.{◌≡◌, ℕ, Bool, true, false, List, ◌∷◌, Result, Ok, Err, Option, Some, None, refl, ap, subst, cond}
use Rattle.std.specs.Prelude.{slice_get, ℤ}
use Rattle.std.specs.FinMap as map
use Rattle.pascal_values.specs.declared.fault.Fault.TheVariants.{NoModule}
use Rattle.pascal_values.specs.declared.value.Value.{Value}
use Rattle.pascal_values.specs.Values.{into, part_of, changed_at, with_part}
use Rattle.estelle_model.specs.declared.denoter.Denoter.{Denoter}
use Rattle.estelle_model.specs.Types.{shape_of, host_of, value_in, assignable}
use Rattle.estelle_tree.specs.Paths.{Path}
use Rattle.estelle_model.specs.Core.{Instance}
use Rattle.estelle_model.specs.Effects.{Store}
use Rattle.estelle_model.specs.Belonging.{may_store}
use Rattle.estelle_model.specs.States.{Offers}
use Rattle.estelle_model.specs.Stops.{Stop, Faults, Broken, stopping}
use Rattle.estelle_model.specs.Steps.{Running, ◌>>◌, checked, checked_at}
use Rattle.estelle_model.specs.declared.place.Place.{Place}
use Rattle.estelle_model.specs.declared.place.Place.TheVariants.{Of, In}
use Rattle.estelle_model.specs.Places.{deeper, of_variables, known, held_in, module_variables_of, blanked, held_step, load, put, put_in_instance, store, store_ordinal, blank_there, blank_at, child_step}
use Rattle.estelle_model.proofs.Alike.{Same, RunningAlike, OutcomeAlike, StepAlike, DoAlike, ValueAlike, then_same, checked_alike, stop_alike}

-- the place is in a frame, or in an instance that is seen
abbrev pub IsWithin : (Path → Type 0) → Place → Type 0
IsWithin seen (Of p x way) = seen p
IsWithin seen (In f x way) = Unit {0}

-- the same place, which is within
abbrev pub PlaceAlike : (Path → Type 0) → Place → Place → Type 0
PlaceAlike seen a b = (a ≡ b) × IsWithin seen a

abbrev pub PathAlike : (Path → Type 0) → Path → Path → Type 0
PathAlike seen p q = (p ≡ q) × seen p

pub deeper_within : (seen : Path → Type 0) (a : Place) (k : ℕ) → IsWithin seen a → IsWithin seen (deeper a k)
deeper_within seen (Of p x way) k h = h
deeper_within seen (In f x way) k h = h

-- Two states show the same of the instances that are seen, and keep what is stored there; what module variables of the own ones hold is seen.
pub record ShowAlike (S T : Type 0) (on : Offers S) (on' : Offers T) (own seen : Path → Type 0) (R : S → T → Type 0) : Type 0 where
  pub instances : (s : S) (t : T) → R s t → (p : Path) → seen p → map.get (on.core s).instances p ≡ map.get (on'.core t).instances p
  pub owned : (p : Path) → own p → seen p
  pub held : (s : S) (t : T) → R s t → (p c : Path) (k : ℕ) → own p → slice_get (module_variables_of (map.get (on.core s).instances p)) k ≡ Some (Some c) → seen c
  pub types : (s : S) (t : T) → R s t → (on.core s).types ≡ (on'.core t).types
  pub stored : (s : S) (t : T) → R s t → (p : Path) (x : ℕ) (way : List ℕ) (v : Value) → seen p → R (on.keeps p (Store x way v) s) (on'.keeps p (Store x way v) t)

module _ (S T : Type 0) (on : Offers S) (on' : Offers T) (own seen : Path → Type 0) (R : S → T → Type 0) (show : ShowAlike S T on on' own seen R) where
  frames_alike : {A : Type 0} (x : List Value → Result A Stop) (s : Running S) (t : Running T) → RunningAlike S T R s t → OutcomeAlike S T R (Same {A = A}) (checked_at (x s.frames) s) (checked_at (x t.frames) t)
  frames_alike {A} x s t r = subst (λ (fs : List Value). OutcomeAlike S T R (Same {A = A}) (checked_at (x s.frames) s) (checked_at (x fs) t)) r.frames (checked_alike S T R (x s.frames) s t r)

  instances_alike : {A : Type 0} (x : Option Instance → Result A Stop) (p : Path) → seen p → (s : Running S) (t : Running T) → RunningAlike S T R s t → OutcomeAlike S T R (Same {A = A}) (checked_at (x (map.get (on.core s.state).instances p)) s) (checked_at (x (map.get (on'.core t.state).instances p)) t)
  instances_alike {A} x p h s t r = subst (λ (o : Option Instance). OutcomeAlike S T R (Same {A = A}) (checked_at (x (map.get (on.core s.state).instances p)) s) (checked_at (x o) t)) (show.instances s.state t.state r.state p h) (checked_alike S T R (x (map.get (on.core s.state).instances p)) s t r)

  load_same : (a : Place) → IsWithin seen a → ValueAlike S T R (load S on a) (load T on' a)
  unfolding load
  load_same (Of p x way) h s t r = instances_alike (λ o. known (of_variables o x way)) p h s t r
  load_same (In f x way) h s t r = frames_alike (λ fs. known (Ok (into (slice_get fs f) (λ frame. part_of frame (x ∷ way))))) s t r

  held_same : (a : Place) → IsWithin seen a → StepAlike S T R (Same {A = Option Value}) (held_step S on a) (held_step T on' a)
  held_same (Of p x way) h s t r = instances_alike (λ o. of_variables o x way) p h s t r
  held_same (In f x way) h s t r = frames_alike (λ fs. Ok (into (slice_get fs f) (λ frame. part_of frame (x ∷ way)))) s t r

  held_alike : (a b : Place) → PlaceAlike seen a b → StepAlike S T R (Same {A = Option Value}) (held_step S on a) (held_step T on' b)
  held_alike a b h = subst (λ (c : Place). StepAlike S T R (Same {A = Option Value}) (held_step S on a) (held_step T on' c)) h.0 (held_same a h.1)

  pub load_alike : (a b : Place) → PlaceAlike seen a b → ValueAlike S T R (load S on a) (load T on' b)
  load_alike a b h = subst (λ (c : Place). ValueAlike S T R (load S on a) (load T on' c)) h.0 (load_same a h.1)

  put_in_instance_alike : (o : Option Instance) (p : Path) (x : ℕ) (way : List ℕ) (v : Value) → seen p → DoAlike S T R (put_in_instance S on o p x way v) (put_in_instance T on' o p x way v)
  put_in_instance_alike None p x way v h s t r = ap (λ n. (Faults NoModule, n)) r.left
  put_in_instance_alike (Some i) p x way v h s t r = subst (λ (types : ℕ → List Denoter). OutcomeAlike S T R (Same {A = Unit {0}}) (put_in_instance S on (Some i) p x way v s) (cond (may_store (types i.body) x way v) (Ok (tt, record t { state = on'.keeps p (Store x way v) t.state })) (Err (Broken, t.left)))) (show.types s.state t.state r.state) (by (may_store ((on.core s.state).types i.body) x way v))
    where
      by : (b : Bool) → OutcomeAlike S T R (Same {A = Unit {0}}) (cond b (Ok (tt, record s { state = on.keeps p (Store x way v) s.state })) (Err (Broken, s.left))) (cond b (Ok (tt, record t { state = on'.keeps p (Store x way v) t.state })) (Err (Broken, t.left)))
      by true = (refl, record { state = show.stored s.state t.state r.state p x way v h; frames = r.frames; left = r.left })
      by false = ap (λ n. (Broken, n)) r.left

  put_same : (a : Place) (v : Value) → IsWithin seen a → DoAlike S T R (put S on a v) (put T on' a v)
  unfolding put
  put_same (Of p x way) v h s t r = subst (λ (o : Option Instance). OutcomeAlike S T R (Same {A = Unit {0}}) (put_in_instance S on (map.get (on.core s.state).instances p) p x way v s) (put_in_instance T on' o p x way v t)) (show.instances s.state t.state r.state p h) (put_in_instance_alike (map.get (on.core s.state).instances p) p x way v h s t r)
  put_same (In f x way) v h s t r = (refl, record { state = r.state; frames = ap (λ fs. changed_at fs f (λ frame. with_part frame (x ∷ way) v)) r.frames; left = r.left })

  pub put_alike : (a b : Place) (v : Value) → PlaceAlike seen a b → DoAlike S T R (put S on a v) (put T on' b v)
  put_alike a b v h = subst (λ (c : Place). DoAlike S T R (put S on a v) (put T on' c v)) h.0 (put_same a v h.1)

  pub store_alike : (d : Denoter) (a b : Place) (v : Value) → PlaceAlike seen a b → DoAlike S T R (store S on d a v) (store T on' d b v)
  unfolding store
  store_alike d a b v h = then_same S T R (Same {A = Unit {0}}) (held_step S on a >> checked (stopping (assignable (shape_of d) v))) (held_step T on' b >> checked (stopping (assignable (shape_of d) v))) (λ _. put S on a v) (λ _. put T on' b v)
      (then_same S T R (Same {A = Unit {0}}) (held_step S on a) (held_step T on' b) (λ _. checked (stopping (assignable (shape_of d) v))) (λ _. checked (stopping (assignable (shape_of d) v))) (held_alike a b h) (λ _. checked_alike S T R (stopping (assignable (shape_of d) v))))
      (λ _. put_alike a b v h)

  blank_there_alike : (a b : Place) → PlaceAlike seen a b → (o : Option Value) → DoAlike S T R (blank_there S on a o) (blank_there T on' b o)
  blank_there_alike a b h None = stop_alike S T R (Same {A = Unit {0}}) Broken
  blank_there_alike a b h (Some v) = put_alike a b (blanked v) h

  pub blank_alike : (a b : Place) → PlaceAlike seen a b → DoAlike S T R (blank_at S on a) (blank_at T on' b)
  unfolding blank_at
  blank_alike a b h = then_same S T R (Same {A = Unit {0}}) (held_step S on a) (held_step T on' b) (blank_there S on a) (blank_there T on' b) (held_alike a b h) (blank_there_alike a b h)

  pub store_ordinal_alike : (d : Denoter) (a b : Place) (n : ℤ) → PlaceAlike seen a b → DoAlike S T R (store_ordinal S on d a n) (store_ordinal T on' d b n)
  unfolding store_ordinal
  store_ordinal_alike d a b n h = then_same S T R (Same {A = Unit {0}}) (checked (value_in (host_of d) n)) (checked (value_in (host_of d) n)) (λ v. store S on d a v) (λ v. store T on' d b v) (checked_alike S T R (value_in (host_of d) n)) (λ v. store_alike d a b v h)

  -- the child is the same, and is seen
  pub child_alike : (p : Path) (k : ℕ) → own p → StepAlike S T R (PathAlike seen) (child_step S on p k) (child_step T on' p k)
  unfolding child_step
  child_alike p k h s t r = subst (λ (o : Option Instance). OutcomeAlike S T R (PathAlike seen) (checked_at (held_in (slice_get (module_variables_of (map.get (on.core s.state).instances p)) k)) s) (checked_at (held_in (slice_get (module_variables_of o) k)) t)) (show.instances s.state t.state r.state p (show.owned p h))
      (go (slice_get (module_variables_of (map.get (on.core s.state).instances p)) k) (λ c e. show.held s.state t.state r.state p c k h e))
    where
      go : (o : Option (Option Path)) → ((c : Path) → o ≡ Some (Some c) → seen c) → OutcomeAlike S T R (PathAlike seen) (checked_at (held_in o) s) (checked_at (held_in o) t)
      go None i = ap (λ n. (Faults NoModule, n)) r.left
      go (Some None) i = ap (λ n. (Faults NoModule, n)) r.left
      go (Some (Some c)) i = ((refl, i c refl), r)
