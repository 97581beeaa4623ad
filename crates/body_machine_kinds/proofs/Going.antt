-- What a typed machine comes to by one instruction.
use Rattle.std.proofs.Common.{◌≡◌, ◌∙◌, refl, sym, ap, ap₂, subst, ◌⊎◌, inl, inr, ℕ, zero, suc, ◌<◌, ◌≤◌, Bool, true, false, cond, List, [], ◌∷◌, ◌++◌, length, map, take, drop, Option, Some, None, Result, Ok, Err, arith}
use Rattle.std.specs.Prelude.{IsTrue, slice_get, nat_le}
use Rattle.std.specs.List.{list_all, list_any}
use Rattle.std.proofs.lemmas.List.{length-append}
use Rattle.std.proofs.lemmas.Bool.Decides.{nat_tests}
use Rattle.pascal_values.specs.declared.value.Value.{Value}
use Rattle.estelle_tree.specs.Paths.{Path}
use Rattle.body_code.specs.declared.instr.Instr.{Instr}
use Rattle.body_code.specs.declared.unit.Entry.TheVariants as entry
use Rattle.body_code.specs.declared.unit.Local.{Local}
use Rattle.body_code.specs.declared.unit.CodeUnit.{CodeUnit}
use Rattle.body_code.specs.Units.{unit_of}
use Rattle.estelle_model.specs.declared.place.ActualParameters.{ActualParameters}
use Rattle.estelle_model.specs.Types.{shape_of}
use Rattle.estelle_model.specs.Core.{Instance}
use Rattle.estelle_model.specs.Effects.{Hold, Enter}
use Rattle.estelle_model.specs.Stops.{Stop, Faults, Broken}
use Rattle.estelle_model.specs.States.{Logged, on_log}
use Rattle.estelle_model.specs.Steps.{Running, StepResult, spend, ◌>>◌}
use Rattle.estelle_model.specs.Plans.{carry}
use Rattle.estelle_model.specs.Actions.{holds_child}
use Rattle.estelle_model.specs.Operators.{bool_at}
use Rattle.estelle_model.specs.Subject.{Subject, child_of}
use Rattle.estelle_model_legality.proofs.Lists.{some_is, not_both}
use Rattle.body_numbers.specs.declared.numbers.Numbers.{Numbers}
use Rattle.body_machine.specs.declared.item.Item.{Item}
use Rattle.body_machine.specs.declared.activation.Return.{Return}
use Rattle.body_machine.specs.declared.activation.Return.TheVariants.{ToNone, ToCaller, ToParent}
use Rattle.body_machine.specs.Machine.{Activation, Machine, Next, Goes, Stops}
use Rattle.body_machine.specs.Ends.{makes_child}
use Rattle.body_machine.specs.Frames.{frame_with, push_frame, pop_frame, deeper_than}
use Rattle.body_machine.specs.Rows.{Row, Nullary, OfValue, OfPlace, OfValues, OfBoth, OfMany, Jumps, JumpsWhere, Turns, Calls, Begins, Returns, row}
use Rattle.body_machine.specs.Steps.{behind, goes_on, taken_from, values_from, with_values, jump_back, jump, decide, turn, nothing_given, begun, enter, call_given, call_with, call_unit, initialize, init_with, resume, held, return_to, by_row, act, next}
use Rattle.body_kinds.specs.Kinds.{Kind, Boolean, PlaceOf, is_of_values, kind_of}
use Rattle.body_kinds.specs.Kinded.{Claims, Table, with_stacks, local_kind, given_kinds, goes_back, Stands, Enters, Leads, straight, jump as jumps, jfalse, jtrue, turn as turns, ret, fail, IsKindedUnit, IsKinded}
use Rattle.body_machine_kinds.specs.Typed.{Bodies, Grows, Frames, value_shapes, reference_shapes, MayBeHeld, IsSound, HasKind, HaveKinds, ArePlaces, IsRunning, with_own, IsUnit, IsActive, Fits, AreWaiting, IsTyped}
use Rattle.body_machine_kinds.specs.Laws.{asks_more, AreLeft, RefusedBy, IsRefused, IsFate}
use Rattle.body_machine_kinds.proofs.Values.{bool_operand}
use Rattle.body_machine_kinds.proofs.Places.{Safely, safely_then, Stays}
use Rattle.body_machine_kinds.proofs.Plans.{spends, held_sound, change_sound, kept_running}
use Rattle.body_machine_kinds.proofs.Items.{get_more, an_item_value, an_item_place, kinds_append, taken, taken_values}
use Rattle.body_machine_kinds.proofs.Good.{Left, IsGood, good, length_kinds, each_of_values}
use Rattle.body_machine_kinds.proofs.Given.{given_is, references_all, no_references, frame_begun, pushed, deeper, popped, places_grow, kinds_grow, values_anywhere, values_left}
use Rattle.body_machine_kinds.proofs.Making.{Made, makes}

taken_length : (count : ℕ) (locals : List Local) → count ≤ length locals → count ≡ length (map local_kind (take count locals))
taken_length zero locals h = refl
taken_length (suc count) [] h = absurd (omega arith)
taken_length (suc count) (l ∷ locals) h = ap (λ (k : ℕ). suc k) (taken_length count locals (omega arith))

one_item : (s : Subject) (bodies : Bodies) (frames : Frames) (k : Kind) (below : List Kind) (items : List Item) → HaveKinds s bodies frames (k ∷ below) items → (i : Item) × (rest : List Item) × (items ≡ i ∷ rest) × HasKind s bodies frames k i × HaveKinds s bodies frames below rest
one_item s bodies frames k below [] h = absurd h
one_item s bodies frames k below (i ∷ rest) h = (i, rest, refl, h.0, h.1)

module _ (s : Subject) (n : Numbers) (code : List CodeUnit) (claims : Claims) where
  -- ---- more instances

  module _ (bodies all : Bodies) (grows : Grows bodies all) where
    pub unit_grows : (lower : Frames) (a : Activation) (t : Table) → IsUnit s n code claims bodies lower a t → IsUnit s n code claims all lower a t
    unit_grows lower a t u = record {
      kinded = u.kinded;
      frame = u.frame;
      references = places_grow s bodies all (with_own s n code claims lower a) (with_own s n code claims lower a) grows (λ f shapes e. e) (reference_shapes a.unit.locals) a.here.references u.references;
      home = λ c. grows a.here.path a.body (u.home c);
    }

    held_grows : (body m : ℕ) (c : Path) → MayBeHeld s bodies body m c → MayBeHeld s all body m c
    held_grows body m c h = record { of_body = h.of_body; is = grows c h.of_body h.is; header = h.header }

    fits_grow : (a : Activation) (return : Return) → Fits s n code claims bodies a return → Fits s n code claims all a return
    fits_grow a (ToParent variable body c) h = (h.0, grows a.here.path h.0 h.1, held_grows h.0 variable c h.2)
    fits_grow a ToNone h = tt
    fits_grow a ToCaller h = tt

    pub waiting_grows : (last : List Kind) (frames : Frames) (return : Return) (result : List Kind) (waiting : List Activation) → AreWaiting s n code claims bodies last frames return result waiting → AreWaiting s n code claims all last frames return result waiting
    waiting_grows last frames return result [] h = h
    waiting_grows last frames return result (a ∷ waiting) h =
        let w = h.4 in (
          h.0,
          h.1,
          h.2,
          h.3,
          record {
            unit = unit_grows h.0 a h.1 w.unit;
            enters = w.enters;
            items = kinds_grow s bodies all (with_own s n code claims h.0 a) (with_own s n code claims h.0 a) grows (λ f shapes e. e) h.2 a.stack w.items;
            fits = fits_grow a return w.fits;
          },
          waiting_grows last h.0 a.return h.1.result waiting h.5,
        )

  -- ---- a machine

  module _ (kinded : IsKinded s n code claims) (known : Bodies) (last : List Kind) (m : Machine) (t : IsTyped s n code claims known last m) where
    abbrev frames : Frames
    frames = with_own s n code claims t.lower m.active

    abbrev Running_well : Running Logged → Type 0
    Running_well r = IsRunning s t.bodies frames r

    abbrev Fate : Next → Type 0
    Fate x = IsFate s n code claims known last m x

    abbrev Entered : ℕ → List Kind → Type 0
    Entered address ks = Enters s n code claims m.active.body m.active.unit t.table address ks

    abbrev Items : List Kind → List Item → Type 0
    Items ks items = HaveKinds s t.bodies frames ks items

    -- somewhere else in the unit
    abbrev moved : ℕ → List Item → Bool → Activation
    moved address stack turned = record m.active { address = address; stack = stack; turned = turned }

    unit_moved : (address : ℕ) (stack : List Item) (turned : Bool) → IsUnit s n code claims t.bodies t.lower (moved address stack turned) t.table
    unit_moved address stack turned = let u = t.active.unit in record { kinded = u.kinded; frame = u.frame; references = u.references; home = u.home }

    arrived : (address : ℕ) (ks : List Kind) (stack : List Item) (turned : Bool) (r : Running Logged) → Running_well r → Stands s n code claims m.active.body m.active.unit t.table address ks
        → (goes_back s n code claims address (slice_get m.active.unit.instrs address) ≡ true → turned ≡ true) → Items ks stack → IsTyped s n code claims known last (record m { running = r; active = moved address stack turned })
    arrived address ks stack turned r h stands back items = record {
      bodies = t.bodies;
      grown = t.grown;
      lower = t.lower;
      table = t.table;
      kinds = ks;
      running = h;
      active = record { unit = unit_moved address stack turned; stands = stands; items = items; turned = back };
      waiting = t.waiting;
    }

    entered : (address : ℕ) (ks : List Kind) (stack : List Item) (turned : Bool) (r : Running Logged) → Running_well r → Entered address ks → Items ks stack → IsTyped s n code claims known last (record m { running = r; active = moved address stack turned })
    entered address ks stack turned r h e items = arrived address ks stack turned r h e.0 (λ back. absurd (not_both (goes_back s n code claims address (slice_get m.active.unit.instrs address)) back e.1)) items

    -- ---- instructions that go on behind themselves

    went : (may : Bool) (left below : List Kind) (o : StepResult Logged (List Item)) (rest : List Item) → Safely may (Left s n code claims t.bodies frames left) o → Items below rest → Entered (suc m.active.address) (left ++ below)
        → ((l : ℕ) → o ≡ Err (Broken, l) → may ≡ true → IsRefused s n code m l) → Fate (goes_on o rest m)
    went may left below (Ok r) rest h k e refused = entered (suc m.active.address) (left ++ below) (r.0 ++ rest) m.active.turned r.1 h.1 e (kinds_append s t.bodies frames left r.0 below rest h.0 k)
    went may left below (Err (Faults f, l)) rest h k e refused = tt
    went may left below (Err (Broken, l)) rest h k e refused = refused l refl h

    no_rule : (l : ℕ) → false ≡ true → IsRefused s n code m l
    no_rule l e = absurd (cc)

    -- ---- units that are entered

    -- a unit begins above, and this one waits for what it leaves
    began : (all : Bodies) (table : Table) (left below : List Kind) (o : StepResult Logged (Unit {0})) (a : Activation) (rest : List Item) → Grows t.bodies all → Safely false (Stays s all (with_own s n code claims frames a)) o
        → IsActive s n code claims all frames a table [] → Items below rest → Entered (suc m.active.address) (left ++ below) → left ≡ table.result → Fits s n code claims all (behind rest m.active) a.return → Fate (enter o a rest m)
    began all table left below (Ok r) a rest grows h active items e is fits = record {
      bodies = all;
      grown = λ p b k. grows p b (t.grown p b k);
      lower = frames;
      table = table;
      kinds = [];
      running = h;
      active = active;
      waiting = (
        t.lower,
        t.table,
        below,
        refl,
        record {
          unit = unit_grows t.bodies all grows t.lower (behind rest m.active) t.table (unit_moved (suc m.active.address) rest m.active.turned);
          enters = subst (λ (x : List Kind). Entered (suc m.active.address) (x ++ below)) is e;
          items = kinds_grow s t.bodies all frames frames grows (λ f shapes e. e) below rest items;
          fits = fits;
        },
        waiting_grows t.bodies all grows last t.lower m.active.return t.table.result m.waiting t.waiting,
      );
    }
    began all table left below (Err (Faults f, l)) a rest grows h active items e is fits = tt
    began all table left below (Err (Broken, l)) a rest grows h active items e is fits = absurd (cc)

    -- a unit as it begins
    first : (all : Bodies) (body : ℕ) (u : CodeUnit) (table : Table) (path : Path) (references : List _) (return : Return) → IsKindedUnit s n code claims body u table → ArePlaces s all (frames ++ value_shapes u.locals ∷ []) (reference_shapes u.locals) references
        → (table.closed ≡ false → all path ≡ Some body) → IsActive s n code claims all frames (begun body u path (suc m.active.here.frame) references return) table []
    first all body u table path references return k places home = record {
      unit = record {
        kinded = k;
        frame = let l = length-append t.lower (value_shapes m.active.unit.locals ∷ []) in let f = t.active.unit.frame in omega (arith, l, f);
        references = places;
        home = home;
      };
      stands = k.begins.0;
      items = tt;
      turned = λ back. absurd (not_both (goes_back s n code claims 0 (slice_get u.instrs 0)) back k.begins.1);
    }

    -- ---- calls

    calls : (of_body routine count : ℕ) (u : CodeUnit) (left below : List Kind) → unit_of code of_body (entry.Routine routine) ≡ Some u
        → ((claims of_body (entry.Routine routine)).closed ≡ true) ⊎ ((t.table.closed ≡ false) × (of_body ≡ m.active.body)) → count ≤ length u.locals → list_any (λ l. l.by_ref) (drop count u.locals) ≡ false
        → left ≡ (claims of_body (entry.Routine routine)).result → Items (given_kinds count u.locals ++ below) m.active.stack → Entered (suc m.active.address) (left ++ below) → Fate (by_row s n code (Calls of_body routine count) m.active.stack m)
    calls of_body routine count u left below is may few none same items e =
        let top = taken s t.bodies frames (map local_kind (take count u.locals)) below count m.active.stack (taken_length count u.locals few) items in
        let g = given_is s t.bodies frames count u.locals top.top nothing_given top.topmost in
        let k = (kinded of_body (entry.Routine routine) u is).0 in
        let table = with_stacks (claims of_body (entry.Routine routine)) k.0 in
        let unit = begun of_body u m.active.here.path (suc m.active.here.frame) g.references ToCaller in
        subst (λ (o : Option CodeUnit). Fate (call_unit s n code of_body o count m.active.stack m)) (sym is)
        (subst (λ (o : Option (List Item × List Item)). Fate (call_with s n code of_body u count o m)) (sym top.is)
        (subst (λ (o : Option ActualParameters). Fate (call_given s n code of_body u count o top.rest m)) (sym g.is)
        (began t.bodies table left below ((deeper_than m.active.here.frame >> push_frame (frame_with u.locals count g.values)) m.running) unit top.rest (λ p b k. k)
        (safely_then false (Stays s t.bodies frames) (Stays s t.bodies (frames ++ value_shapes u.locals ∷ [])) (deeper_than m.active.here.frame m.running) (λ a. push_frame (frame_with u.locals count g.values)) (deeper s t.bodies frames false m.active.here.frame m.running t.running)
        (λ a r h. pushed s t.bodies frames (value_shapes u.locals) (frame_with u.locals count g.values) r (frame_begun count u.locals g.values g.held) h))
        (first t.bodies of_body u table m.active.here.path g.references ToCaller k.1
        (places_grow s t.bodies t.bodies frames (frames ++ value_shapes u.locals ∷ []) (λ p b k. k) (λ f shapes k. get_more frames (value_shapes u.locals ∷ []) f shapes k) (reference_shapes u.locals) g.references (references_all s t.bodies frames count u.locals g.references none g.places))
        (home table may))
        top.below e same tt)))
      where
        home : (table : Table) → (table.closed ≡ true) ⊎ ((t.table.closed ≡ false) × (of_body ≡ m.active.body)) → table.closed ≡ false → t.bodies m.active.here.path ≡ Some of_body
        home table (inl free) shut = absurd (not_both table.closed free shut)
        home table (inr (own, same)) shut = t.active.unit.home own ∙ ap (λ (b : ℕ). Some b) (sym same)

    -- ---- init

    inits : (modvar of_body count : ℕ) (u : CodeUnit) (below : List Kind) (x : List Value × List Item) → values_from (taken_from count m.active.stack) ≡ Some x → (own : t.table.closed ≡ false) → unit_of code of_body entry.Initialize ≡ Some u
        → Items below x.1 → Entered (suc m.active.address) below
        → ((l : ℕ) → RefusedBy s n code (Begins modvar of_body count) m l → IsRefused s n code m l)
        → (o : StepResult Logged Path) → makes_child s m.active.here.path m.active.here.frame modvar of_body x.0 m.running ≡ o → Safely true (Made s t.bodies frames m.active.body m.active.here.path (t.active.unit.home own) modvar of_body) o
        → Fate (initialize s n code modvar of_body u o x.1 m)
    inits modvar of_body count u below x from own is items e refused (Ok r) at made =
        let k = kinded of_body entry.Initialize u is in
        let table = with_stacks (claims of_body entry.Initialize) k.0.0 in
        began made.all table [] below (push_frame (frame_with u.locals 0 []) r.1) (begun of_body u r.0 (suc m.active.here.frame) [] (ToParent modvar of_body r.0)) x.1 made.grown
        (pushed s made.all frames (value_shapes u.locals) (frame_with u.locals 0 []) r.1 (frame_begun 0 u.locals [] refl) made.running)
        (first made.all of_body u table r.0 [] (ToParent modvar of_body r.0) k.0.1 (no_references s made.all (frames ++ value_shapes u.locals ∷ []) u.locals k.1.0.0) (λ c. made.is))
        items e (sym k.1.1) (m.active.body, made.grown m.active.here.path m.active.body (t.active.unit.home own), made.fits)
    inits modvar of_body count u below x from own is items e refused (Err (Faults f, l)) at made = tt
    inits modvar of_body count u below x from own is items e refused (Err (Broken, l)) at made = refused l (x, from, at)

    -- ---- rows

    none_below : (ks below : List Kind) → ks ≡ [] → Items (ks ++ below) m.active.stack → Items below m.active.stack
    none_below ks below e h = subst (λ (x : List Kind). Items (x ++ below) m.active.stack) e h

    row_fate : (may : Bool) (x : Row) (wanted left below : List Kind) → IsGood s n code claims t.bodies frames m.active.body t.table.closed may x wanted left → Items (wanted ++ below) m.active.stack → Entered (suc m.active.address) (left ++ below)
        → ((l : ℕ) → may ≡ true → RefusedBy s n code x m l → IsRefused s n code m l) → Fate (by_row s n code x m.active.stack m)
    row_fate may (Nullary p) wanted left below g items e refused =
        went may left below (p m.running) m.active.stack (g.1 m.running t.running) (none_below wanted below g.0 items) e (λ l at yes. refused l yes at)
    row_fate may (OfValue f) wanted left below g items e refused =
        let one = one_item s t.bodies frames g.0 below m.active.stack (subst (λ (x : List Kind). Items (x ++ below) m.active.stack) g.1 items) in
        let v = an_item_value s t.bodies frames g.0 one.0 g.2 one.3 in
        subst (λ (st : List Item). Fate (by_row s n code (OfValue f) st m)) (sym (one.2 ∙ ap (λ (i : Item). i ∷ one.1) v.1))
        (went false left below (f v.0 m.running) one.1 (g.3 v.0 m.running v.2 t.running) one.4 e (λ l at yes. no_rule l yes))
    row_fate may (OfPlace f) wanted left below g items e refused =
        let one = one_item s t.bodies frames (PlaceOf g.0) below m.active.stack (subst (λ (x : List Kind). Items (x ++ below) m.active.stack) g.1 items) in
        let p = an_item_place s t.bodies frames g.0 one.0 one.3 in
        subst (λ (st : List Item). Fate (by_row s n code (OfPlace f) st m)) (sym (one.2 ∙ ap (λ (i : Item). i ∷ one.1) p.1))
        (went false left below (f p.0 m.running) one.1 (g.2 p.0 m.running p.2 t.running) one.4 e (λ l at yes. no_rule l yes))
    row_fate may (OfValues f) wanted left below g items e refused =
        let one = one_item s t.bodies frames g.1 (g.0 ∷ below) m.active.stack (subst (λ (x : List Kind). Items (x ++ below) m.active.stack) g.2 items) in
        let two = one_item s t.bodies frames g.0 below one.1 one.4 in
        let w = an_item_value s t.bodies frames g.1 one.0 g.4 one.3 in
        let v = an_item_value s t.bodies frames g.0 two.0 g.3 two.3 in
        subst (λ (st : List Item). Fate (by_row s n code (OfValues f) st m)) (sym (one.2 ∙ ap₂ (λ (i : Item) (l : List Item). i ∷ l) w.1 (two.2 ∙ ap (λ (i : Item). i ∷ two.1) v.1)))
        (went false left below (f v.0 w.0 m.running) two.1 (g.5 v.0 w.0 m.running v.2 w.2 t.running) two.4 e (λ l at yes. no_rule l yes))
    row_fate may (OfBoth f) wanted left below g items e refused =
        let one = one_item s t.bodies frames g.0 (PlaceOf g.1 ∷ below) m.active.stack (subst (λ (x : List Kind). Items (x ++ below) m.active.stack) g.2 items) in
        let two = one_item s t.bodies frames (PlaceOf g.1) below one.1 one.4 in
        let v = an_item_value s t.bodies frames g.0 one.0 g.3 one.3 in
        let p = an_item_place s t.bodies frames g.1 two.0 two.3 in
        subst (λ (st : List Item). Fate (by_row s n code (OfBoth f) st m)) (sym (one.2 ∙ ap₂ (λ (i : Item) (l : List Item). i ∷ l) v.1 (two.2 ∙ ap (λ (i : Item). i ∷ two.1) p.1)))
        (went false left below (f p.0 v.0 m.running) two.1 (g.4 p.0 v.0 m.running p.2 v.2 t.running) two.4 e (λ l at yes. no_rule l yes))
    row_fate may (OfMany count f) wanted left below g items e refused =
        let v = taken_values s t.bodies frames g.0 below count m.active.stack g.2 g.3 (subst (λ (x : List Kind). Items (x ++ below) m.active.stack) g.1 items) in
        subst (λ (o : Option (List Value × List Item)). Fate (with_values o f m)) (sym v.is)
        (went may left below (f v.values m.running) v.rest (g.4 v.values m.running v.are t.running) v.below e (λ l at yes. refused l yes ((v.values, v.rest), v.is, at)))
    row_fate may (Calls of_body routine count) wanted left below g items e refused =
        calls of_body routine count g.0 left below g.1 g.2 g.3.0 g.3.1 g.5 (subst (λ (x : List Kind). Items (x ++ below) m.active.stack) g.4 items) e
    row_fate may (Begins modvar of_body count) wanted left below g items e refused =
        let v = taken_values s t.bodies frames (map (λ d. kind_of (shape_of d)) (child_of s of_body).parameters) below count m.active.stack (g.4 ∙ sym (length_kinds (child_of s of_body).parameters)) (each_of_values (child_of s of_body).parameters)
        (subst (λ (x : List Kind). Items (x ++ below) m.active.stack) g.5 items) in
        subst (λ (o : Option CodeUnit). Fate (init_with s n code modvar of_body o (values_from (taken_from count m.active.stack)) m)) (sym g.3)
        (subst (λ (o : Option (List Value × List Item)). Fate (init_with s n code modvar of_body (Some g.0) o m)) (sym v.is)
        (inits modvar of_body count g.0 below (v.values, v.rest) v.is g.2 g.3 v.below (subst (λ (x : List Kind). Entered (suc m.active.address) (x ++ below)) g.6 e) (λ l r. refused l g.1 r)
        (makes_child s m.active.here.path m.active.here.frame modvar of_body v.values m.running) refl
        (makes s t.bodies frames m.active.body m.active.here.path (t.active.unit.home g.2) modvar of_body m.active.here.frame v.values m.running t.running)))
    row_fate may (Jumps to) wanted left below g items e refused = absurd g
    row_fate may (JumpsWhere b to) wanted left below g items e refused = absurd g
    row_fate may Turns wanted left below g items e refused = absurd g
    row_fate may Returns wanted left below g items e refused = absurd g

    -- ---- jumps

    jumped : (to : ℕ) (ks : List Kind) (stack : List Item) → Entered to ks → Items ks stack → (nat_le to m.active.address ≡ true → m.active.turned ≡ true) → Fate (jump to stack m)
    jumped to ks stack e items turned = by (nat_le to m.active.address) turned
      where
        back : (b : Bool) → b ≡ true → Fate (cond b (Goes (record m { active = moved to stack false })) (Stops Broken m.running.left))
        back true h = entered to ks stack false m.running t.running e items
        back false h = absurd (cc)

        by : (b : Bool) → (b ≡ true → m.active.turned ≡ true) → Fate (cond b (jump_back to stack m) (Goes (record m { active = moved to stack m.active.turned })))
        by true h = back m.active.turned (h refl)
        by false h = entered to ks stack m.active.turned m.running t.running e items

    further : (to : ℕ) → m.active.address < to → nat_le to m.active.address ≡ true → m.active.turned ≡ true
    further to less back = absurd (grind (arith, nat_tests))

    decided : (wanted : Bool) (to : ℕ) (ks : List Kind) → m.active.address < to → Entered to ks → Entered (suc m.active.address) ks → Items (Boolean ∷ ks) m.active.stack → Fate (by_row s n code (JumpsWhere wanted to) m.active.stack m)
    decided wanted to ks less there here items =
        let one = one_item s t.bodies frames Boolean ks m.active.stack items in
        let v = an_item_value s t.bodies frames Boolean one.0 refl one.3 in
        let b = bool_operand v.0 v.2 in
        subst (λ (st : List Item). Fate (by_row s n code (JumpsWhere wanted to) st m)) (sym (one.2 ∙ ap (λ (i : Item). i ∷ one.1) v.1))
        (subst (λ (o : Result Bool Stop). Fate (decide o wanted to one.1 m)) (sym (ap bool_at b.1)) (by b.0 wanted one.1 one.4))
      where
        by : (b c : Bool) (rest : List Item) → Items ks rest → Fate (decide (Ok b) c to rest m)
        by true true rest h = jumped to ks rest there h (further to less)
        by false false rest h = jumped to ks rest there h (further to less)
        by true false rest h = entered (suc m.active.address) ks rest m.active.turned m.running t.running here h
        by false true rest h = entered (suc m.active.address) ks rest m.active.turned m.running t.running here h

    turned : (ks : List Kind) (o : StepResult Logged (Unit {0})) → Safely false (Stays s t.bodies frames) o → Stands s n code claims m.active.body m.active.unit t.table (suc m.active.address) ks → Items ks m.active.stack → Fate (turn o m)
    turned ks (Ok r) h stands items = arrived (suc m.active.address) ks m.active.stack true r.1 h stands (λ back. refl) items
    turned ks (Err (Faults f, l)) h stands items = tt
    turned ks (Err (Broken, l)) h stands items = absurd (cc)

    -- ---- the end of a unit

    resumed : (return : Return) (result : List Kind) (a : Activation) (waiting : List Activation) (items : List Item) (r : Running Logged) (w : AreWaiting s n code claims t.bodies last t.lower return result (a ∷ waiting))
        → IsTrue (list_all is_of_values result) → Items result items → IsRunning s t.bodies t.lower r → Fate (resume s n code a waiting items r)
    resumed return result a waiting items r w values h running =
        let own = with_own s n code claims w.0 a in
        record {
          bodies = t.bodies;
          grown = t.grown;
          lower = w.0;
          table = w.1;
          kinds = result ++ w.2;
          running = subst (λ (x : Frames). IsRunning s t.bodies x r) w.3 running;
          active = record {
            unit = let u = w.4.unit in record { kinded = u.kinded; frame = u.frame; references = u.references; home = u.home };
            stands = w.4.enters.0;
            items = kinds_append s t.bodies own result items w.2 a.stack (values_anywhere s t.bodies frames own result items values h) w.4.items;
            turned = λ back. absurd (not_both (goes_back s n code claims a.address (slice_get a.unit.instrs a.address)) back w.4.enters.1);
          };
          waiting = w.5;
        }

    returned : (return : Return) (result : List Kind) (waiting : List Activation) (items : List Item) (r : Running Logged) → AreWaiting s n code claims t.bodies last t.lower return result waiting
        → IsTrue (list_all is_of_values result) → Items result items → IsRunning s t.bodies t.lower r → Fate (return_to s n code return waiting items r)
    returned ToNone result [] items r w values h running = (subst (λ (ks : List Kind). AreLeft ks items) w.1 (values_left s t.bodies frames frames result items values h), (t.bodies, t.grown, running.state))
    returned ToCaller result [] items r w values h running = (subst (λ (ks : List Kind). AreLeft ks items) w.1 (values_left s t.bodies frames frames result items values h), (t.bodies, t.grown, running.state))
    returned (ToParent variable body c) result [] items r w values h running = (subst (λ (ks : List Kind). AreLeft ks items) w.1 (values_left s t.bodies frames frames result items values h), (t.bodies, t.grown, running.state))
    returned ToNone result (a ∷ waiting) items r w values h running = resumed ToNone result a waiting items r w values h running
    returned ToCaller result (a ∷ waiting) items r w values h running = resumed ToCaller result a waiting items r w values h running
    returned (ToParent variable body c) result (a ∷ waiting) items r w values h running = by (child_of s body).to
      where
        fits : (i : Instance) → IsSound s t.bodies a.here.path i → (d : Path) → Some c ≡ Some d → MayBeHeld s t.bodies i.body variable d
        fits i sound d e =
            let f = w.4.fits in
            let is : f.0 ≡ i.body = some_is f.0 i.body (t.bodies a.here.path) f.1 sound.body in
            let same : c ≡ d = cc in
            subst (λ (x : Path). MayBeHeld s t.bodies i.body variable x) same (subst (λ (b : ℕ). MayBeHeld s t.bodies b variable c) is f.2)

        holds : (q : Running Logged) → IsRunning s t.bodies t.lower q → Fate (resume s n code a waiting items (record q { state = on_log.keeps a.here.path (Hold variable (Some c)) q.state }))
        holds q well = resumed (ToParent variable body c) result a waiting items (record q { state = on_log.keeps a.here.path (Hold variable (Some c)) q.state }) w values h
            (kept_running s t.bodies t.lower a.here.path (Hold variable (Some c)) q (λ i at sound. held_sound s t.bodies a.here.path i variable (Some c) (fits i sound) sound) well)

        by : (o : Option ℕ) → Fate (held s n code (carry Logged on_log (holds_child s a.here.path variable o c) r) a waiting items)
        by None = holds r running
        by (Some k) = holds (record r { state = on_log.keeps c (Enter k) r.state }) (kept_running s t.bodies t.lower c (Enter k) r (λ i at sound. change_sound s t.bodies c c (Enter k) i tt sound) running)

    -- ---- one instruction

    lead_fate : (i : Instr) (ks : List Kind) → Leads s n code claims m.active.body m.active.unit t.table m.active.address i ks → slice_get m.active.unit.instrs m.active.address ≡ Some i → Items ks m.active.stack
        → Fate (by_row s n code (row s n m.active i) m.active.stack m)
    unfolding row
    lead_fate _ _ (straight i wanted left below l e) there items =
        row_fate (asks_more i) (row s n m.active i) wanted left below (good s n code claims t.bodies t.lower m.active t.table t.active.unit i wanted left l) items e (λ k yes r. record { instr = i; there = there; asks = yes; refused = r })
    lead_fate _ _ (jumps to ks e) there items = jumped to ks m.active.stack e items (λ back. t.active.turned (ap (goes_back s n code claims m.active.address) there ∙ back))
    lead_fate _ _ (jfalse to ks less e f) there items = decided false to ks less e f items
    lead_fate _ _ (jtrue to ks less e f) there items = decided true to ks less e f items
    lead_fate _ _ (turns ks stands) there items = turned ks (spend m.running) (spends s t.bodies frames false m.running t.running) stands items
    lead_fate _ _ ret there items = returned m.active.return t.table.result m.waiting m.active.stack (pop_frame m.running) t.waiting t.active.unit.kinded.values items (popped s t.bodies t.lower (value_shapes m.active.unit.locals) m.running t.running)
    lead_fate _ _ (fail kind ks) there items = tt

    pub goes_on_well : Fate (next s n code m)
    unfolding next
    goes_on_well =
        let f = t.active.unit.kinded.each m.active.address t.kinds t.active.stands in
        subst (λ (o : Option Instr). Fate (act s n code o m)) (sym f.there) (lead_fate f.instr t.kinds f.leads f.there t.active.items)
