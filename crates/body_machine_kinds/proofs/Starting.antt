-- Units that begin for themselves are typed, on legal images and at the start.
use Rattle.std.proofs.Common.{◌≡◌, ◌∙◌, refl, sym, ap, subst, inl, inr, ℕ, zero, suc, ◌≤◌, Bool, true, false, cond, List, [], ◌∷◌, ◌++◌, length, map as each, take, replicate, Option, Some, None, append-nil}
use Rattle.std.specs.Prelude.{IsTrue, Contains, slice_get, option_map, is_some}
use Rattle.std.specs.Option.{unwrap_or}
use Rattle.std.specs.FinMap as fin
use Rattle.pascal_values.specs.declared.value.Value.{Value}
use Rattle.pascal_values.specs.declared.value.Shape.{Shape}
use Rattle.pascal_values.specs.Shapes.{each_passes}
use Rattle.estelle_tree.specs.Paths.{Path, child, is_inside}
use Rattle.body_code.specs.declared.unit.Entry.{Entry}
use Rattle.body_code.specs.declared.unit.Local.{Local}
use Rattle.body_code.specs.declared.unit.CodeUnit.{CodeUnit}
use Rattle.body_code.specs.Units.{unit_of}
use Rattle.estelle_model.specs.declared.denoter.Denoter.{Denoter}
use Rattle.estelle_model.specs.declared.image.Image.{Image}
use Rattle.estelle_model.specs.Belonging.{belongs, are_values_of}
use Rattle.estelle_model.specs.Types.{shape_of}
use Rattle.estelle_model.specs.Bodies.{BodyAlone, variable_types, module_variables_in}
use Rattle.estelle_model.specs.Core.{Instance, Core}
use Rattle.estelle_model.specs.Computed.{core_of}
use Rattle.estelle_model.specs.Firing.{root, bare}
use Rattle.estelle_model.specs.Jobs.{part_of_entry}
use Rattle.estelle_model.specs.States.{Logged}
use Rattle.estelle_model.specs.Steps.{Running}
use Rattle.estelle_model.specs.Subject.{Subject, body, meant, no_body, headers_of, types_of_variables, new_instance}
use Rattle.estelle_model_legality.specs.Instances.{Holds, MayStandBelow}
use Rattle.estelle_model_legality.specs.Jobs.{IsLegalImage}
use Rattle.estelle_model_legality.proofs.Lists.{and_both, both_and, or_none, some_is, not_both, in_none}
use Rattle.estelle_model_legality.proofs.Ways.{inside_child, not_below_itself}
use Rattle.estelle_model_legality.proofs.Children.{inside_way, through}
use Rattle.estelle_model_legality.proofs.Members.{contains_has, has_each}
use Rattle.estelle_model_legality.proofs.Entries.{found_entry}
use Rattle.estelle_model_legality.proofs.Belonging.{values_new}
use Rattle.estelle_model_legality.proofs.Lookups.{same, same_is, same_itself}
use Rattle.estelle_model_legality.proofs.Started.{only_there, only_was, root_was}
use Rattle.body_numbers.specs.declared.numbers.Numbers.{Numbers}
use Rattle.body_machine_meaning.specs.Executed.{started}
use Rattle.body_kinds.specs.Kinded.{Claims, with_stacks, has_references, IsGiven, goes_back, IsKinded}
use Rattle.body_machine_kinds.specs.Typed.{Bodies, value_shapes, is_held, MayBeHeld, IsSound, IsTyped}
use Rattle.body_machine_kinds.specs.Laws.{MayBegin}
use Rattle.body_machine_kinds.proofs.Parts.{belongs_held}
use Rattle.body_machine_kinds.proofs.Given.{no_references, frame_begun}

-- ---- values of the types that are given

given_held : (types : List Denoter) (locals : List Local) (values : List Value) → has_references locals ≡ false → each (λ l. l.shape) (take (length types) locals) ≡ each shape_of types → are_values_of types values ≡ true
    → each_passes (each is_held (value_shapes (take (length values) locals))) values ≡ true
given_held [] locals [] none same are = refl
given_held [] locals (v ∷ values) none same are = absurd (cc)
given_held (t ∷ types) locals [] none same are = absurd (cc)
given_held (t ∷ types) [] (v ∷ values) none same are = absurd (cc)
given_held (t ∷ types) (l ∷ locals) (v ∷ values) none same are =
    let b = or_none l.by_ref (has_references locals) none in
    let both = and_both (belongs (shape_of t) v) (are_values_of types values) are in
    let shape : shape_of t ≡ l.shape = cc in
    let rest : each (λ l. l.shape) (take (length types) locals) ≡ each shape_of types = cc in
    subst (λ (x : Bool). each_passes (each is_held (cond x [] (l.shape ∷ []) ++ value_shapes (take (length values) locals))) (v ∷ values) ≡ true) (sym b.0)
    (both_and (is_held l.shape v) (each_passes (each is_held (value_shapes (take (length values) locals))) values) (subst (λ (x : Shape). is_held x v ≡ true) shape (belongs_held (shape_of t) v both.0)) (given_held types locals values b.1 rest both.1))

pub started_typed : (s : Subject) (n : Numbers) (code : List CodeUnit) (claims : Claims) → IsKinded s n code claims → (b : ℕ) (e : Entry) (unit : CodeUnit) → unit_of code b e ≡ Some unit → (types : List Denoter) → IsGiven types unit
    → (values : List Value) → IsTrue (are_values_of types values) → (path : Path) (r : Running Logged) (begin : MayBegin s path b r.state.image) → IsTyped s n code claims begin.0 (claims b e).result (started b unit path values r)
started_typed s n code claims kinded b e unit is types given values are path r begin =
    let stacks = (kinded b e unit is).0.0 in
    let k = (kinded b e unit is).0.1 in
    record {
      bodies = begin.0;
      grown = λ p x k. k;
      lower = [];
      table = with_stacks (claims b e) stacks;
      kinds = [];
      running = record { state = record { types = begin.1.types; instances = begin.1.instances }; values = (frame_begun (length values) unit.locals values (given_held types unit.locals values given.0 given.1 are), tt) };
      active = record {
        unit = record { kinded = k; frame = refl; references = no_references s begin.0 (value_shapes unit.locals ∷ []) unit.locals given.0; home = λ c. begin.2 };
        stands = k.begins.0;
        items = tt;
        turned = λ back. absurd (not_both (goes_back s n code claims 0 (slice_get unit.instrs 0)) back k.begins.1);
      };
      waiting = (refl, refl);
    }

-- ---- on legal images

module _ (s : Subject) (top : Path) (c : Core) (typed : c.types ≡ types_of_variables s) (stand : MayStandBelow s top c.instances) (inside : (p : Path) (i : Instance) → fin.get c.instances p ≡ Some i → is_inside top p ≡ true) where
  abbrev bodies : Bodies
  bodies p = option_map (λ i. i.body) (fin.get c.instances p)

  abbrev IsThere : Path → Type 0
  IsThere p = (i : Instance) × (fin.get c.instances p ≡ Some i)

  there_was : (p : Path) (b : ℕ) → bodies p ≡ Some b → IsThere p
  there_was p b e = by (fin.get c.instances p) refl e
    where
      by : (o : Option Instance) → fin.get c.instances p ≡ o → option_map (λ i. i.body) o ≡ Some b → IsThere p
      by None f g = absurd (cc)
      by (Some i) f g = (i, f)

  there_above : (r p : Path) → is_inside top p ≡ true → IsThere (p ++ r) → IsThere p
  there_above [] p h is = subst IsThere (append-nil p) is
  there_above (k ∷ r) p h is =
      let below = there_above r (child p k) (inside_child top p k h) (subst IsThere (through p k r) is) in
      let parent = stand.parents p k below.0 h below.1 in
      (parent.parent, parent.there)

  sound : (p : Path) (i : Instance) → fin.get c.instances p ≡ Some i → IsSound s bodies p i
  sound p i at = record {
    body = ap (option_map (λ j. j.body)) at;
    variables = let b = stand.bodies p i at in subst (λ (o : Option BodyAlone). IsTrue (are_values_of (variable_types (meant s) (unwrap_or o no_body)) i.variables)) (sym b.1) b.2.variables;
    children = λ m d held. child_held m d held (stand.holds p i m (Some d) at held);
    births = λ q k b known within. born k (inside_way (child p k) q within) (there_was q b known);
  }
    where
      child_held : (m : ℕ) (d : Path) → slice_get i.module_variables m ≡ Some (Some d) → Holds c.instances p (Some d) → MayBeHeld s bodies i.body m d
      child_held m d held (k, j, is, there) =
          let parent = stand.parents p k j (inside p i at) (sym (ap (fin.get c.instances) is) ∙ there) in
          let same : parent.parent ≡ i = some_is parent.parent i (fin.get c.instances p) parent.there at in
          record {
            of_body = j.body;
            is = ap (option_map (λ x. x.body)) there;
            header = (
              ap is_some (stand.bodies d j there).1,
              elim parent.held [
                | inl none ↦ absurd (in_none Path (child p k) none)
                | inr h ↦ let number : m ≡ h.by = h.once m (ap (λ (x : Instance). slice_get x.module_variables m) same ∙ held ∙ ap (λ (x : Path). Some (Some x)) is) in
                    ap (slice_get (headers_of s i.body)) number ∙ ap (λ (x : Instance). slice_get (headers_of s x.body) h.by) (sym same) ∙ h.header
              ],
            );
          }

      born : (k : ℕ) {q : Path} → (r : Path) × (q ≡ child p k ++ r) → IsThere q → k ≤ i.births
      born k w is =
          let below = there_above w.0 (child p k) (inside_child top p k (inside p i at)) (subst IsThere w.1 is) in
          let parent = stand.parents p k below.0 (inside p i at) below.1 in
          subst (λ (x : Instance). k ≤ x.births) (some_is parent.parent i (fin.get c.instances p) parent.there at) parent.born

  pub may_begin : (p : Path) (i : Instance) → fin.get c.instances p ≡ Some i → MayBegin s p i.body c
  may_begin p i at = (bodies, record { types = typed; instances = sound }, ap (option_map (λ j. j.body)) at)

pub legal_begins : (s : Subject) (top : Path) (image : Image) → IsLegalImage s top image → (p : Path) (i : Instance) → fin.get (core_of s image).instances p ≡ Some i → MayBegin s p i.body (core_of s image)
legal_begins s top image legal = may_begin s top (core_of s image) refl legal.instances inside
  where
    inside : (q : Path) (j : Instance) → fin.get (core_of s image).instances q ≡ Some j → is_inside top q ≡ true
    inside q j at =
        let entries = fin.entries (core_of s image).instances in
        let has = found_entry entries q j (sym (fin.get-entries (core_of s image).instances q) ∙ at) in
        legal.inside (part_of_entry (q, j)) (subst (λ (parts : List _). Contains parts (part_of_entry (q, j))) (sym legal.order) (contains_has (each part_of_entry entries) (part_of_entry (q, j)) (has_each part_of_entry entries (q, j) has)))

-- ---- at the start

none_held : (n m : ℕ) (c : Path) → slice_get (replicate n None) m ≡ Some (Some c) → ⊥
none_held zero m c h = absurd (cc)
none_held (suc n) zero c h = absurd (cc)
none_held (suc n) (suc m) c h = none_held n m c h

module _ (s : Subject) where
  abbrev own : Bodies
  own q = cond (same q []) (Some 0) None

  own_was : (q : Path) (b : ℕ) → own q ≡ Some b → q ≡ []
  own_was q b e = by (same q []) refl e
    where
      by : (x : Bool) → same q [] ≡ x → cond x (Some 0) None ≡ Some b → q ≡ []
      by true f g = same_is q [] f
      by false f g = absurd (cc)

  own_is : own [] ≡ Some 0
  own_is = ap (λ (x : Bool). cond x (Some 0) None) (same_itself [])

  root_sound : (b : BodyAlone) → body s 0 ≡ Some b → IsSound s own [] (new_instance s 0 b [])
  root_sound b e = record {
    body = own_is;
    variables = subst (λ (o : Option BodyAlone). IsTrue (are_values_of (variable_types (meant s) (unwrap_or o no_body)) (new_instance s 0 b []).variables)) (sym e) (values_new [] (variable_types (meant s) b) [] refl);
    children = λ m d held. absurd (none_held (length (module_variables_in b)) m d held);
    births = λ q k x known within. absurd (not_below_itself [] k (subst (λ (z : Path). is_inside (child [] k) z ≡ true) (own_was q x known) within));
  }

  pub start_begins : MayBegin s [] 0 (bare s).core
  start_begins = (own, record { types = refl; instances = λ p i at. by p i (only_was (root s) p i (sym (only_there (root s) p) ∙ at)) }, own_is)
    where
      by : (p : Path) (i : Instance) → (p ≡ []) × (root s ≡ Some i) → IsSound s own p i
      by p i x =
          let b = root_was s (body s 0) i x.1 in
          subst (λ (z : Path). IsSound s own z i) (sym x.0) (subst (IsSound s own []) b.2 (root_sound b.0 b.1))
