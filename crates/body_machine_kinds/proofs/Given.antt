-- Frames and references of units that begin; what stays as instances and frames are added.
use Rattle.std.proofs.Common.{◌≡◌, ◌∙◌, refl, sym, ap, ap₂, subst, ℕ, zero, suc, ◌-◌, Bool, true, false, cond, List, [], ◌∷◌, ◌++◌, length, map, take, drop, Some, Ok, Err, arith, append_assoc, append-nil}
use Rattle.std.specs.Prelude.{IsTrue, slice_get, nat_lt}
use Rattle.std.specs.List.{list_all}
use Rattle.std.specs.Option.{option_and_then}
use Rattle.pascal_values.specs.declared.fault.Fault.TheVariants as fault
use Rattle.pascal_values.specs.declared.value.Value.{Value}
use Rattle.pascal_values.specs.declared.value.Value.TheVariants as value
use Rattle.pascal_values.specs.declared.value.Shape.{Shape}
use Rattle.pascal_values.specs.Shapes.{each_passes, blank_of}
use Rattle.body_code.specs.declared.unit.Local.{Local}
use Rattle.estelle_model.specs.declared.place.Place.{Place}
use Rattle.estelle_model.specs.declared.place.Place.TheVariants.{Of, In}
use Rattle.estelle_model.specs.declared.place.ActualParameters.{ActualParameters}
use Rattle.estelle_model.specs.Calls.{max_depth}
use Rattle.estelle_model.specs.States.{Logged}
use Rattle.estelle_model.specs.Stops.{Faults}
use Rattle.estelle_model.specs.Steps.{Running, spend}
use Rattle.estelle_model.specs.Subject.{Subject}
use Rattle.estelle_model_legality.proofs.Lists.{and_both, both_and, or_none}
use Rattle.estelle_model_legality.proofs.Belonging.{belongs_blank}
use Rattle.body_machine.specs.declared.item.Item.{Item}
use Rattle.body_machine.specs.declared.item.Item.TheVariants.{Datum, Spot}
use Rattle.body_machine.specs.Frames.{blanks_of, frame_with, push_frame, pop_frame, deeper_than}
use Rattle.body_machine.specs.Steps.{given_one, given_to}
use Rattle.body_kinds.specs.Kinds.{Kind, PlaceOf, is_of_values, kind_of}
use Rattle.body_kinds.specs.Kinded.{local_kind, has_references}
use Rattle.body_machine_kinds.specs.Typed.{Bodies, Grows, Frames, value_shapes, reference_shapes, is_held, IsFrame, AreFrames, IsPlaceOf, IsSpotOf, HasKind, HaveKinds, ArePlaces, IsRunning}
use Rattle.body_machine_kinds.specs.Laws.{AreLeft}
use Rattle.body_machine_kinds.proofs.Parts.{belongs_held, kind_held}
use Rattle.body_machine_kinds.proofs.Places.{Safely, safely_then, Stays}
use Rattle.body_machine_kinds.proofs.Plans.{spends}
use Rattle.body_machine_kinds.proofs.Items.{kind_of_values, an_item_value, an_item_place}

-- ---- what is given

module _ (s : Subject) (bodies : Bodies) (frames : Frames) where
  -- values for the variables among so many of the locals, and places for the others
  pub record Given (count : ℕ) (locals : List Local) (items : List Item) (g : ActualParameters) : Type 0 where
    pub values : List Value
    pub references : List Place
    pub is : given_to locals items g ≡ Some (record { values = g.values ++ values; references = g.references ++ references })
    pub held : each_passes (map is_held (value_shapes (take count locals))) values ≡ true
    pub places : ArePlaces s bodies frames (reference_shapes (take count locals)) references

  none_given : (locals : List Local) (items : List Item) (g : ActualParameters) → HaveKinds s bodies frames [] items → given_to locals items g ≡ Some (record { values = g.values ++ []; references = g.references ++ [] })
  none_given [] [] g h = ap₂ (λ (a : List Value) (b : List Place). Some (record { values = a; references = b })) (sym (append-nil g.values)) (sym (append-nil g.references))
  none_given (l ∷ locals) [] g h = ap₂ (λ (a : List Value) (b : List Place). Some (record { values = a; references = b })) (sym (append-nil g.values)) (sym (append-nil g.references))
  none_given [] (i ∷ items) g h = absurd h
  none_given (l ∷ locals) (i ∷ items) g h = absurd h

  pub given_is : (count : ℕ) (locals : List Local) (items : List Item) (g : ActualParameters) → HaveKinds s bodies frames (map local_kind (take count locals)) items → Given count locals items g
  given_is zero locals items g h = record { values = []; references = []; is = none_given locals items g h; held = refl; places = tt }
  given_is (suc count) [] items g h = record { values = []; references = []; is = none_given [] items g h; held = refl; places = tt }
  given_is (suc count) (l ∷ locals) [] g h = absurd h
  given_is (suc count) (l ∷ locals) (i ∷ items) g h = by l.by_ref refl h.0 (λ k. given_is count locals items k h.1)
    where
      by : (b : Bool) → l.by_ref ≡ b → HasKind s bodies frames (cond b (PlaceOf l.shape) (kind_of l.shape)) i → ((k : ActualParameters) → Given count locals items k) → Given (suc count) (l ∷ locals) (i ∷ items) g
      by true e k rest =
          let p = an_item_place s bodies frames l.shape i k in
          let more = rest (record g { references = g.references ++ p.0 ∷ [] }) in
          record {
            values = more.values;
            references = p.0 ∷ more.references;
            is = ap (λ (c : Bool). option_and_then (given_to locals items) (given_one c i g)) e ∙ ap (λ (j : Item). option_and_then (given_to locals items) (given_one true j g)) p.1 ∙ more.is
                ∙ ap (λ (x : List Place). Some (record { values = g.values ++ more.values; references = x })) (append_assoc g.references (p.0 ∷ []) more.references);
            held = subst (λ (c : Bool). each_passes (map is_held (cond c [] (l.shape ∷ []) ++ value_shapes (take count locals))) more.values ≡ true) (sym e) more.held;
            places = subst (λ (c : Bool). ArePlaces s bodies frames (cond c (l.shape ∷ []) [] ++ reference_shapes (take count locals)) (p.0 ∷ more.references)) (sym e) (p.2, more.places);
          }
      by false e k rest =
          let v = an_item_value s bodies frames (kind_of l.shape) i (kind_of_values l.shape) k in
          let more = rest (record g { values = g.values ++ v.0 ∷ [] }) in
          record {
            values = v.0 ∷ more.values;
            references = more.references;
            is = ap (λ (c : Bool). option_and_then (given_to locals items) (given_one c i g)) e ∙ ap (λ (j : Item). option_and_then (given_to locals items) (given_one false j g)) v.1 ∙ more.is
                ∙ ap (λ (x : List Value). Some (record { values = x; references = g.references ++ more.references })) (append_assoc g.values (v.0 ∷ []) more.values);
            held = subst (λ (c : Bool). each_passes (map is_held (cond c [] (l.shape ∷ []) ++ value_shapes (take count locals))) (v.0 ∷ more.values) ≡ true) (sym e)
                (both_and (is_held l.shape v.0) (each_passes (map is_held (value_shapes (take count locals))) more.values) (kind_held l.shape v.0 v.2) more.held);
            places = subst (λ (c : Bool). ArePlaces s bodies frames (cond c (l.shape ∷ []) [] ++ reference_shapes (take count locals)) more.references) (sym e) more.places;
          }

  pub no_references : (locals : List Local) → has_references locals ≡ false → ArePlaces s bodies frames (reference_shapes locals) []
  no_references [] h = tt
  no_references (l ∷ locals) h = let b = or_none l.by_ref (has_references locals) h in subst (λ (c : Bool). ArePlaces s bodies frames (cond c (l.shape ∷ []) [] ++ reference_shapes locals) []) (sym b.0) (no_references locals b.1)

  -- behind those that are given there are no more by reference
  pub references_all : (count : ℕ) (locals : List Local) (places : List Place) → has_references (drop count locals) ≡ false → ArePlaces s bodies frames (reference_shapes (take count locals)) places → ArePlaces s bodies frames (reference_shapes locals) places
  references_all zero locals [] h k = no_references locals h
  references_all zero locals (p ∷ places) h k = absurd k
  references_all (suc count) [] places h k = k
  references_all (suc count) (l ∷ locals) places h k = by l.by_ref places k (λ more. references_all count locals more h)
    where
      by : (b : Bool) (ps : List Place) → ArePlaces s bodies frames (cond b (l.shape ∷ []) [] ++ reference_shapes (take count locals)) ps
          → ((more : List Place) → ArePlaces s bodies frames (reference_shapes (take count locals)) more → ArePlaces s bodies frames (reference_shapes locals) more)
          → ArePlaces s bodies frames (cond b (l.shape ∷ []) [] ++ reference_shapes locals) ps
      by true [] i rest = absurd i
      by true (p ∷ ps) i rest = (i.0, rest ps i.1)
      by false ps i rest = rest ps i

-- ---- frames

blanks_held : (locals : List Local) → each_passes (map is_held (value_shapes locals)) (blanks_of locals) ≡ true
blanks_held [] = refl
blanks_held (l ∷ locals) = by l.by_ref (blanks_held locals)
  where
    by : (b : Bool) → each_passes (map is_held (value_shapes locals)) (blanks_of locals) ≡ true → each_passes (map is_held (cond b [] (l.shape ∷ []) ++ value_shapes locals)) (cond b [] (blank_of l.shape ∷ []) ++ blanks_of locals) ≡ true
    by true h = h
    by false h = both_and (is_held l.shape (blank_of l.shape)) (each_passes (map is_held (value_shapes locals)) (blanks_of locals)) (belongs_held l.shape (blank_of l.shape) (belongs_blank l.shape)) h

frame_held : (count : ℕ) (locals : List Local) (vs : List Value) → each_passes (map is_held (value_shapes (take count locals))) vs ≡ true → each_passes (map is_held (value_shapes locals)) (vs ++ blanks_of (drop count locals)) ≡ true
frame_held zero locals [] h = blanks_held locals
frame_held zero locals (v ∷ vs) h = absurd (cc)
frame_held (suc count) [] [] h = refl
frame_held (suc count) [] (v ∷ vs) h = absurd (cc)
frame_held (suc count) (l ∷ locals) vs h = by l.by_ref vs h (λ more. frame_held count locals more)
  where
    by : (b : Bool) (ws : List Value) → each_passes (map is_held (cond b [] (l.shape ∷ []) ++ value_shapes (take count locals))) ws ≡ true
        → ((more : List Value) → each_passes (map is_held (value_shapes (take count locals))) more ≡ true → each_passes (map is_held (value_shapes locals)) (more ++ blanks_of (drop count locals)) ≡ true)
        → each_passes (map is_held (cond b [] (l.shape ∷ []) ++ value_shapes locals)) (ws ++ blanks_of (drop count locals)) ≡ true
    by true ws i rest = rest ws i
    by false [] i rest = absurd (cc)
    by false (w ∷ ws) i rest =
        let b = and_both (is_held l.shape w) (each_passes (map is_held (value_shapes (take count locals))) ws) i in
        both_and (is_held l.shape w) (each_passes (map is_held (value_shapes locals)) (ws ++ blanks_of (drop count locals))) b.0 (rest ws b.1)

-- the frame of a unit with values for the first of its variables
pub frame_begun : (count : ℕ) (locals : List Local) (vs : List Value) → each_passes (map is_held (value_shapes (take count locals))) vs ≡ true → IsFrame (value_shapes locals) (frame_with locals count vs)
frame_begun count locals vs h = record { values = vs ++ blanks_of (drop count locals); are = value.outs-Fields (vs ++ blanks_of (drop count locals)); held = frame_held count locals vs h }

frames_pushed : (frames : Frames) (vs : List Value) (shapes : List Shape) (v : Value) → AreFrames frames vs → IsFrame shapes v → AreFrames (frames ++ shapes ∷ []) (vs ++ v ∷ [])
frames_pushed [] [] shapes v h k = (k, tt)
frames_pushed [] (w ∷ vs) shapes v h k = absurd h
frames_pushed (x ∷ frames) [] shapes v h k = absurd h
frames_pushed (x ∷ frames) (w ∷ vs) shapes v h k = (h.0, frames_pushed frames vs shapes v h.1 k)

-- all but the innermost
frames_popped : (lower : Frames) (shapes : List Shape) (vs : List Value) → AreFrames (lower ++ shapes ∷ []) vs → AreFrames lower (take (length vs - 1) vs)
frames_popped [] shapes [] h = absurd h
frames_popped [] shapes (v ∷ []) h = tt
frames_popped [] shapes (v ∷ w ∷ vs) h = absurd h.1
frames_popped (x ∷ lower) shapes [] h = absurd h
frames_popped (x ∷ lower) shapes (v ∷ []) h = absurd (no_frame lower h.1)
  where
    no_frame : (more : Frames) → AreFrames (more ++ shapes ∷ []) [] → ⊥
    no_frame [] k = k
    no_frame (y ∷ more) k = k
frames_popped (x ∷ lower) shapes (v ∷ w ∷ vs) h =
    let rest = frames_popped lower shapes (w ∷ vs) h.1 in
    subst (λ (k : ℕ). AreFrames (x ∷ lower) (take k (v ∷ w ∷ vs))) (let e : suc (length (w ∷ vs) - 1) ≡ length (v ∷ w ∷ vs) - 1 = omega arith in e) (h.0, rest)

module _ (s : Subject) (bodies : Bodies) (frames : Frames) where
  pub pushed : (shapes : List Shape) (v : Value) (r : Running Logged) → IsFrame shapes v → IsRunning s bodies frames r → Safely false (Stays s bodies (frames ++ shapes ∷ [])) (push_frame v r)
  pushed shapes v r k h = record { state = record { types = h.state.types; instances = h.state.instances }; values = frames_pushed frames r.frames shapes v h.values k }

  pub deeper : (may : Bool) (frame : ℕ) (r : Running Logged) → IsRunning s bodies frames r → Safely may (Stays s bodies frames) (deeper_than frame r)
  deeper may frame r h = safely_then may (Stays s bodies frames) (Stays s bodies frames) (spend r) _ (spends s bodies frames may r h) (λ a t i. by t i (nat_lt frame max_depth))
    where
      by : (t : Running Logged) → IsRunning s bodies frames t → (b : Bool) → Safely {A = Unit {0}} may (Stays s bodies frames) (cond b (Ok (tt, t)) (Err (Faults fault.CallDepth, t.left)))
      by t i true = i
      by t i false = tt

pub popped : (s : Subject) (bodies : Bodies) (lower : Frames) (shapes : List Shape) (r : Running Logged) → IsRunning s bodies (lower ++ shapes ∷ []) r → IsRunning s bodies lower (pop_frame r)
popped s bodies lower shapes r h = record { state = record { types = h.state.types; instances = h.state.instances }; values = frames_popped lower shapes r.frames h.values }

-- ---- more instances, and more frames

abbrev pub Extends : Frames → Frames → Type 0
Extends frames more = (f : ℕ) (shapes : List Shape) → slice_get frames f ≡ Some shapes → slice_get more f ≡ Some shapes

module _ (s : Subject) (bodies more : Bodies) (frames all : Frames) (grows : Grows bodies more) (extends : Extends frames all) where
  pub place_grows : (shape : Shape) (p : Place) → IsPlaceOf s bodies frames shape p → IsPlaceOf s more all shape p
  place_grows shape (Of p x way) h = record { body = h.body; is = grows p h.body h.is; variable = h.variable; declared = h.declared; part = h.part }
  place_grows shape (In f x way) h = record { shapes = h.shapes; is = extends f h.shapes h.is; variable = h.variable; declared = h.declared; part = h.part }

  pub places_grow : (shapes : List Shape) (places : List Place) → ArePlaces s bodies frames shapes places → ArePlaces s more all shapes places
  places_grow [] [] h = tt
  places_grow [] (p ∷ places) h = absurd h
  places_grow (x ∷ shapes) [] h = absurd h
  places_grow (x ∷ shapes) (p ∷ places) h = (place_grows x p h.0, places_grow shapes places h.1)

  spot_grows : (k : Kind) (p : Place) → IsSpotOf s bodies frames k p → IsSpotOf s more all k p
  spot_grows (PlaceOf shape) p h = place_grows shape p h
  spot_grows _ p h = absurd h

  pub kinds_grow : (ks : List Kind) (items : List Item) → HaveKinds s bodies frames ks items → HaveKinds s more all ks items
  kinds_grow [] [] h = tt
  kinds_grow [] (i ∷ items) h = absurd h
  kinds_grow (k ∷ ks) [] h = absurd h
  kinds_grow (k ∷ ks) (Datum v ∷ items) h = (h.0, kinds_grow ks items h.1)
  kinds_grow (k ∷ ks) (Spot p ∷ items) h = (spot_grows k p h.0, kinds_grow ks items h.1)

-- values are of their kinds whatever frames there are
module _ (s : Subject) (bodies : Bodies) (frames all : Frames) where
  pub values_anywhere : (ks : List Kind) (items : List Item) → IsTrue (list_all is_of_values ks) → HaveKinds s bodies frames ks items → HaveKinds s bodies all ks items
  values_anywhere [] [] e h = tt
  values_anywhere [] (i ∷ items) e h = absurd h
  values_anywhere (k ∷ ks) [] e h = absurd h
  values_anywhere (k ∷ ks) (i ∷ items) e h =
      let b = and_both (is_of_values k) (list_all is_of_values ks) e in
      let v = an_item_value s bodies frames k i b.0 h.0 in
      (subst (HasKind s bodies all k) (sym v.1) v.2, values_anywhere ks items b.1 h.1)

  pub values_left : (ks : List Kind) (items : List Item) → IsTrue (list_all is_of_values ks) → HaveKinds s bodies frames ks items → AreLeft ks items
  values_left [] [] e h = tt
  values_left [] (i ∷ items) e h = absurd h
  values_left (k ∷ ks) [] e h = absurd h
  values_left (k ∷ ks) (i ∷ items) e h =
      let b = and_both (is_of_values k) (list_all is_of_values ks) e in
      let v = an_item_value s bodies frames k i b.0 h.0 in
      subst (λ (j : Item). AreLeft (k ∷ ks) (j ∷ items)) (sym v.1) (v.2, values_left ks items b.1 h.1)
