-- What a walk shows, and how each step changes it.
use Rattle.std.proofs.Common.{◌≡◌, ℕ, ℤ, Bool, true, false, List, [], ◌∷◌, ◌++◌, map as each, Option, Some, None, Result, Ok, Err, refl, sym, ap, subst, cond, ◌∙◌}
use Rattle.std.specs.Prelude.{slice_get}
use Rattle.std.specs.FinMap as map
use Rattle.std.proofs.lemmas.List.Sorted.{IsPermutation-refl}
use Rattle.std.specs.List.Sorted.{IsPermutation}
use Rattle.pascal_values.specs.declared.fault.Fault.{Fault}
use Rattle.pascal_values.specs.declared.fault.Fault.TheVariants.{NoModule}
use Rattle.pascal_values.specs.declared.value.Value.{Value}
use Rattle.pascal_values.specs.declared.value.Value.TheVariants as value
use Rattle.pascal_values.specs.Values.{into, part_of, changed_at, with_part}
use Rattle.pascal_values.specs.Shapes.{blank_of}
use Rattle.estelle_tree.specs.declared.link.Link.{Link}
use Rattle.estelle_tree.specs.Paths.{Path}
use Rattle.estelle_model.specs.declared.denoter.Host.{Host}
use Rattle.estelle_model.specs.declared.denoter.Denoter.{Denoter}
use Rattle.estelle_model.specs.declared.image.Part.{Part}
use Rattle.estelle_model.specs.declared.place.Place.{Place}
use Rattle.estelle_model.specs.declared.place.Place.TheVariants.{Of, In}
use Rattle.estelle_model.specs.Types.{shape_of, host_of, value_in, assignable}
use Rattle.estelle_model.specs.Belonging.{may_store}
use Rattle.estelle_model.specs.Core.{Instance, Instances}
use Rattle.estelle_model.specs.Effects.{Store, changed, changed_in}
use Rattle.estelle_model.specs.States.{Logged, on_log}
use Rattle.estelle_model.specs.Stops as model
use Rattle.estelle_model.specs.Stops.{Faults, Broken, stopping}
use Rattle.estelle_model.specs.Steps.{StepResult, and_then, ◌>>=◌, ◌>>◌, checked_at, checked}
use Rattle.estelle_model.specs.declared.meaning.Routine.{Routine}
use Rattle.estelle_model.specs.Meant.{result_types}
use Rattle.estelle_model.specs.Subject.{Subject, types_of_variables}
use Rattle.estelle_model.specs.Calls.{blank, frame_of, enter}
use Rattle.estelle_model.specs.Places.{of_variables, set_value, known, held, held_step, held_in, module_variables_of, load, put_in_instance, put, store, store_ordinal, blank_there, blank_at, child_step}
use Rattle.estelle_model.specs.Jobs.{Shows, part_of_entry}
use Rattle.body_values.specs.declared.stop.Stop.{Stop}
use Rattle.body_values.specs.Gives.{Gives}
use Rattle.body_state.specs.declared.walk.Walk.TheInside.{Inside}
use Rattle.body_state.specs.Progress.{Progress, running}
use Rattle.body_state.specs.Follows.{Follows}
use Rattle.body_state.specs.Shown.{shown_by}
use Rattle.body_state.specs.Held.{blanked_in, blanked_step, put_fitting, put_where}
use Rattle.body_state.proofs.FollowLemmas.{follows_as, follows_gives, follows_checked, follows_then, follows_stops}

module _ (w : Inside) (s : Progress) (is : shown_by w ≡ s) where
  found : (p : Path) → map.get s.instances p ≡ map.get w.instances p
  found p = ap (λ (r : Progress). map.get r.instances p) (sym is)

  -- what stands at a place of an instance, and of a frame
  pub held_of : (place : Place) (p : Path) (x : ℕ) (way : List ℕ) (o : Option Instance) → place ≡ Of p x way → o ≡ map.get w.instances p → held Logged on_log place (running s) ≡ of_variables o x way
  held_of place p x way o is_place e = ap (λ a. held Logged on_log a (running s)) is_place ∙ ap (λ i. of_variables i x way) (found p ∙ sym e)

  pub held_in_frame : (place : Place) (f x : ℕ) (way : List ℕ) → place ≡ In f x way → held Logged on_log place (running s) ≡ Ok (into (slice_get w.frames.items f) (λ frame. part_of frame (x ∷ way)))
  held_in_frame place f x way is_place = ap (λ a. held Logged on_log a (running s)) is_place ∙ ap (λ (r : Progress). Ok (into (slice_get r.frames f) (λ frame. part_of frame (x ∷ way)))) (sym is)

  pub child_some : (p : Path) (m : ℕ) (i : Instance) (r : Result Path Stop) → Some i ≡ map.get w.instances p → Gives (held_in (slice_get i.module_variables m)) r → Follows (child_step Logged on_log p m) s r s
  unfolding child_step
  child_some p m i r e h = follows_gives (child_step Logged on_log p m) (held_in (slice_get i.module_variables m)) r (running s) (ap (λ o. checked_at (held_in (slice_get (module_variables_of o) m)) (running s)) (found p ∙ sym e)) h

  pub child_none : (p : Path) (m : ℕ) → None ≡ map.get w.instances p → child_step Logged on_log p m (running s) ≡ Err (Faults NoModule, s.left)
  unfolding child_step
  child_none p m e = ap (λ o. checked_at (held_in (slice_get (module_variables_of o) m)) (running s)) (found p ∙ sym e)

  -- ---- putting

  pub put_none : (p : Path) (x : ℕ) (way : List ℕ) (v : Value) → None ≡ map.get w.instances p → put Logged on_log (Of p x way) v (running s) ≡ Err (Faults NoModule, s.left)
  unfolding put
  put_none p x way v e = ap (λ o. put_in_instance Logged on_log o p x way v (running s)) (found p ∙ sym e)

  abbrev types_at : Instance → List Denoter
  types_at i = types_of_variables w.bodies.now i.body

  abbrev stored : Bool → Path → ℕ → List ℕ → Value → StepResult Logged (Unit {0})
  stored b p x way v = cond b (Ok (tt, running (record s { instances = changed_in p (changed (Store x way v)) s.instances }))) (Err (Broken, s.left))

  tested : (p : Path) (x : ℕ) (way : List ℕ) (v : Value) (i : Instance) (b : Bool) → Some i ≡ map.get w.instances p → b ≡ may_store (types_at i) x way v → put Logged on_log (Of p x way) v (running s) ≡ stored b p x way v
  unfolding put
  tested p x way v i b e may =
      ap (λ o. put_in_instance Logged on_log o p x way v (running s)) (found p ∙ sym e)
      ∙ ap (λ (u : Subject). stored (may_store (types_of_variables u i.body) x way v) p x way v) (ap (λ (r : Progress). r.subject) (sym is))
      ∙ ap (λ c. stored c p x way v) (sym may)

  pub put_unfit : (p : Path) (x : ℕ) (way : List ℕ) (v : Value) (i : Instance) (b : Bool) → Some i ≡ map.get w.instances p → b ≡ may_store (types_at i) x way v → b ≡ false → put Logged on_log (Of p x way) v (running s) ≡ Err (Broken, s.left)
  put_unfit p x way v i b e may unfit = tested p x way v i b e may ∙ ap (λ c. stored c p x way v) unfit

  pub put_some : (p : Path) (x : ℕ) (way : List ℕ) (v : Value) (i : Instance) (b : Bool) (after : Instances) → Some i ≡ map.get w.instances p → b ≡ may_store (types_at i) x way v → b ≡ true → after ≡ changed_in p (changed (Store x way v)) w.instances
      → put Logged on_log (Of p x way) v (running s) ≡ Ok (tt, running (shown_by (record w { instances = after })))
  put_some p x way v i b after e may fit becomes =
      tested p x way v i b e may ∙ ap (λ c. stored c p x way v) fit
      ∙ ap (λ (r : Progress). Ok (tt, running (record r { instances = changed_in p (changed (Store x way v)) r.instances }))) (sym is)
      ∙ ap (λ (m : Instances). Ok (tt, running (shown_by (record w { instances = m })))) (sym becomes)

  -- what comes before a value is put: its instance is there, and then it fits
  pub put_gone : (p : Path) (x : ℕ) (way : List ℕ) (v : Value) (fit : Result (Unit {0}) Fault) → None ≡ map.get w.instances p → put_where p x way fit v (running s) ≡ Err (Faults NoModule, s.left)
  put_gone p x way v fit e = ap (λ o. and_then (and_then (checked_at (of_variables o x way) (running s)) (λ old. checked (stopping fit))) (λ ok. put Logged on_log (Of p x way) v)) (found p ∙ sym e)

  reached : (p : Path) (x : ℕ) (way : List ℕ) (v : Value) (fit : Result (Unit {0}) Fault) (i : Instance) → Some i ≡ map.get w.instances p → put_where p x way fit v (running s) ≡ (checked (stopping fit) >> put Logged on_log (Of p x way) v) (running s)
  reached p x way v fit i e = ap (λ o. and_then (and_then (checked_at (of_variables o x way) (running s)) (λ old. checked (stopping fit))) (λ ok. put Logged on_log (Of p x way) v)) (found p ∙ sym e)

  pub put_misfit : (p : Path) (x : ℕ) (way : List ℕ) (v : Value) (fit : Result (Unit {0}) Fault) (e : Fault) (i : Instance) → Some i ≡ map.get w.instances p → fit ≡ Err e → put_where p x way fit v (running s) ≡ Err (Faults e, s.left)
  put_misfit p x way v fit e i there is = reached p x way v fit i there ∙ ap (λ g. (checked (stopping g) >> put Logged on_log (Of p x way) v) (running s)) is

  pub put_reached : (p : Path) (x : ℕ) (way : List ℕ) (v : Value) (fit : Result (Unit {0}) Fault) (i : Instance) → Some i ≡ map.get w.instances p → fit ≡ Ok tt → put_where p x way fit v (running s) ≡ put Logged on_log (Of p x way) v (running s)
  put_reached p x way v fit i there is = reached p x way v fit i there ∙ ap (λ g. (checked (stopping g) >> put Logged on_log (Of p x way) v) (running s)) is

  -- ---- frames

  framed : (fs gs : List Value) → gs ≡ fs → ◌≡◌ {A = StepResult Logged (Unit {0})} (Ok (tt, record (running s) { frames = gs })) (Ok (tt, running (record (shown_by w) { frames = fs })))
  framed fs gs e = ap (λ (hs : List Value). Ok (tt, record (running s) { frames = hs })) e ∙ ap (λ (r : Progress). Ok (tt, running (record r { frames = fs }))) (sym is)

  pub enter_after : (fs : List Value) (r : Routine) (given vs : List Value) → vs ≡ given ++ each blank_of (each shape_of (r.locals ++ result_types r.result)) → fs ≡ w.frames.items ++ value.Fields vs ∷ [] → enter r given (running s) ≡ Ok (tt, running (record (shown_by w) { frames = fs }))
  enter_after fs r given vs are becomes = framed fs (s.frames ++ frame_of r given ∷ []) (
      ap (λ (x : Progress). x.frames ++ frame_of r given ∷ []) (sym is)
      ∙ ap (λ us. w.frames.items ++ value.Fields (given ++ us) ∷ []) (sym (blanks (r.locals ++ result_types r.result)))
      ∙ ap (λ us. w.frames.items ++ value.Fields us ∷ []) (sym are)
      ∙ sym becomes)
    where
      blanks : (ts : List Denoter) → each blank_of (each shape_of ts) ≡ each blank ts
      blanks [] = refl
      blanks (t ∷ ts) = ap (λ vs. blank t ∷ vs) (blanks ts)

  pub put_in_after : (fs : List Value) (place : Place) (f x : ℕ) (way : List ℕ) (v : Value) → place ≡ In f x way → fs ≡ changed_at w.frames.items f (λ frame. with_part frame (x ∷ way) v) → put Logged on_log place v (running s) ≡ Ok (tt, running (record (shown_by w) { frames = fs }))
  unfolding put
  put_in_after fs place f x way v is_place becomes = ap (λ a. put Logged on_log a v (running s)) is_place ∙ framed fs (changed_at s.frames f (λ frame. with_part frame (x ∷ way) v)) (ap (λ (y : Progress). changed_at y.frames f (λ frame. with_part frame (x ∷ way) v)) (sym is) ∙ sym becomes)

-- ---- what a place is read for

module _ (s : Progress) (place : Place) where
  pub load_held : (o : Option Value) (r : Result Value Stop) → held Logged on_log place (running s) ≡ Ok o → Gives (set_value o) r → Follows (load Logged on_log place) s r s
  unfolding load
  load_held o r e h = follows_gives (load Logged on_log place) (set_value o) r (running s) (ap (λ x. checked_at (known x) (running s)) e) h

  pub load_gone : held Logged on_log place (running s) ≡ Err (Faults NoModule) → load Logged on_log place (running s) ≡ Err (Faults NoModule, s.left)
  unfolding load
  load_gone e = ap (λ x. checked_at (known x) (running s)) e

  pub blanked_held : (o : Option Value) (r : Result Value Stop) → held Logged on_log place (running s) ≡ Ok o → Gives (blanked_in o) r → Follows (blanked_step place) s r s
  blanked_held o r e h = follows_gives (blanked_step place) (blanked_in o) r (running s) (ap (λ x. and_then (checked_at x (running s)) (λ part. checked (blanked_in part))) e) h

  pub blanked_gone : held Logged on_log place (running s) ≡ Err (Faults NoModule) → blanked_step place (running s) ≡ Err (Faults NoModule, s.left)
  blanked_gone e = ap (λ x. and_then (checked_at x (running s)) (λ part. checked (blanked_in part))) e

  blank_is : blank_at Logged on_log place (running s) ≡ (blanked_step place >>= λ v. put Logged on_log place v) (running s)
  unfolding blank_at
  blank_is = by (held Logged on_log place (running s))
    where
      by : (h : Result (Option Value) model.Stop) → and_then (checked_at h (running s)) (blank_there Logged on_log place) ≡ and_then (and_then (checked_at h (running s)) (λ part. checked (blanked_in part))) (λ v. put Logged on_log place v)
      by (Ok None) = refl
      by (Ok (Some v)) = refl
      by (Err e) = refl

  pub blank_put : (v : Value) (r : Result (Unit {0}) Stop) (u : Progress) → Follows (blanked_step place) s (Ok v) s → Follows (put Logged on_log place v) s r u → Follows (blank_at Logged on_log place) s r u
  blank_put v r u h k = follows_as (blank_at Logged on_log place) (blanked_step place >>= λ v. put Logged on_log place v) (running s) (running u) r blank_is (follows_then (blanked_step place) (λ v. put Logged on_log place v) (running s) (running s) (running u) v r h k)

  pub blank_stops : (e : Stop) → Follows (blanked_step place) s (Err e) s → Follows (blank_at Logged on_log place) s (Err e) s
  blank_stops e h = follows_as (blank_at Logged on_log place) (blanked_step place >>= λ v. put Logged on_log place v) (running s) (running s) (Err e) blank_is (follows_stops (blanked_step place) (λ v. put Logged on_log place v) (running s) (running s) e h)

  -- to put a value that fits
  pub put_fits : (p : Path) (x : ℕ) (way way' : List ℕ) (v : Value) (r : Result (Unit {0}) Stop) (u : Progress) → place ≡ Of p x way → way' ≡ way → Follows (put_where p x way' (Ok tt) v) s r u → Follows (put Logged on_log place v) s r u
  unfolding put
  put_fits p x way way' v r u is_place same h = follows_as (put Logged on_log place v) (put_where p x way' (Ok tt) v) (running s) (running u) r
      (ap (λ a. put Logged on_log a v (running s)) is_place ∙ ap (λ w. put Logged on_log (Of p x w) v (running s)) (sym same) ∙ sym (by (map.get s.instances p) refl)) h
    where
      by : (o : Option Instance) → map.get s.instances p ≡ o → put_where p x way' (Ok tt) v (running s) ≡ put Logged on_log (Of p x way') v (running s)
      by None e = ap (λ i. and_then (and_then (checked_at (of_variables i x way') (running s)) (λ old. checked (stopping (Ok tt)))) (λ ok. put Logged on_log (Of p x way') v)) e ∙ sym (ap (λ i. put_in_instance Logged on_log i p x way' v (running s)) e)
      by (Some i) e = ap (λ i. and_then (and_then (checked_at (of_variables i x way') (running s)) (λ old. checked (stopping (Ok tt)))) (λ ok. put Logged on_log (Of p x way') v)) e

-- ---- storing

module _ (s : Progress) (place : Place) (v : Value) (fit : Result (Unit {0}) Fault) where
  pub fitting_of : (p : Path) (x : ℕ) (way way' : List ℕ) (r : Result (Unit {0}) Stop) (u : Progress) → place ≡ Of p x way → way' ≡ way → Follows (put_where p x way' fit v) s r u → Follows (put_fitting place fit v) s r u
  fitting_of p x way way' r u is_place same h = follows_as (put_fitting place fit v) (put_where p x way' fit v) (running s) (running u) r
      (ap (λ a. put_fitting a fit v (running s)) is_place ∙ ap (λ w. put_where p x w fit v (running s)) (sym same)) h

  pub fitting_in : (f x : ℕ) (way : List ℕ) (r : Result (Unit {0}) Stop) (u : Progress) → place ≡ In f x way → fit ≡ Ok tt → Follows (put Logged on_log place v) s r u → Follows (put_fitting place fit v) s r u
  fitting_in f x way r u is_place fits h = follows_as (put_fitting place fit v) (put Logged on_log place v) (running s) (running u) r
      (ap (λ a. (held_step Logged on_log a >> checked (stopping fit) >> put Logged on_log place v) (running s)) is_place
      ∙ ap (λ g. (checked (stopping g) >> put Logged on_log place v) (running s)) fits) h

  pub fitting_stops : (f x : ℕ) (way : List ℕ) (e : Fault) → place ≡ In f x way → fit ≡ Err e → put_fitting place fit v (running s) ≡ Err (Faults e, s.left)
  fitting_stops f x way e is_place fits = ap (λ a. (held_step Logged on_log a >> checked (stopping fit) >> put Logged on_log place v) (running s)) is_place
      ∙ ap (λ g. (checked (stopping g) >> put Logged on_log place v) (running s)) fits

module _ (s : Progress) (t : Denoter) (place : Place) where
  pub store_fitting : (v : Value) (fit : Result (Unit {0}) Fault) (r : Result (Unit {0}) Stop) (u : Progress) → fit ≡ assignable (shape_of t) v → Follows (put_fitting place fit v) s r u → Follows (store Logged on_log t place v) s r u
  unfolding store
  store_fitting v fit r u is h = follows_as (store Logged on_log t place v) (put_fitting place fit v) (running s) (running u) r (ap (λ g. put_fitting place g v (running s)) (sym is)) h

  pub store_value : (h : Host) (n m : ℤ) (v : Value) (r : Result (Unit {0}) Stop) (u : Progress) → h ≡ host_of t → m ≡ n → value_in h m ≡ Ok v → Follows (store Logged on_log t place v) s r u → Follows (store_ordinal Logged on_log t place n) s r u
  unfolding store_ordinal
  store_value h n m v r u is same e k = follows_then (checked (value_in (host_of t) n)) (λ v. store Logged on_log t place v) (running s) (running s) (running u) v r (ap (λ w. checked_at w (running s)) ((λ i. value_in (sym is i) (sym same i)) ∙ e)) k

  pub store_no_value : (h : Host) (n m : ℤ) (e : Stop) → h ≡ host_of t → m ≡ n → Gives (value_in h m) (Err e) → Follows (store_ordinal Logged on_log t place n) s (Err e) s
  unfolding store_ordinal
  store_no_value h n m e is same k = follows_stops (checked (value_in (host_of t) n)) (λ v. store Logged on_log t place v) (running s) (running s) e (follows_checked (value_in (host_of t) n) (Err e) (running s) (subst (λ w. Gives w (Err e)) (λ i. value_in (is i) (same i)) k))

-- ---- the image that is left

pub image_shows : (w : Inside) (s : Progress) → shown_by w ≡ s → (parts : List Part) (links : List Link) → parts ≡ each part_of_entry (map.entries w.instances) → links ≡ w.links → Shows (record { parts = parts; links = links }) (running s).state.image
image_shows w s is parts links are same = subst (λ (r : Progress). Shows (record { parts = parts; links = links }) (running r).state.image) is (record {
  parts = are;
  links = subst (λ (ls : List Link). IsPermutation links ls) same (IsPermutation-refl links);
})
