-- Temporaries of a unit: how they are read and set.
use Rattle.std.proofs.Common.{◌≡◌, ◌∙◌, refl, sym, ap, subst, ℕ, zero, suc, ◌+◌, ◌-◌, ◌≤◌, ◌<◌, Bool, List, [], ◌∷◌, ◌++◌, length, map, length-append, Result, Ok, Err, Some, arith}
use Rattle.std.specs.Prelude.{IsTrue, slice_get, slice_set}
use Rattle.pascal_values.specs.declared.value.Value.{Value}
use Rattle.pascal_values.specs.declared.value.Shape.{Shape}
use Rattle.estelle_tree.specs.Paths.{Path}
use Rattle.body_code.specs.declared.unit.CodeUnit.{CodeUnit}
use Rattle.body_code.specs.declared.instr.Instr.{Instr}
use Rattle.body_code.specs.declared.instr.Instr.TheVariants as op
use Rattle.estelle_model.specs.Stops.{Stop, stopping}
use Rattle.estelle_model.specs.Types.{assignable}
use Rattle.estelle_model.specs.States.{Logged, on_log}
use Rattle.estelle_model.specs.Steps.{Running, StepResult, Step, and_then, ◌>>=◌, ◌>>◌, pure, checked, checked_at}
use Rattle.estelle_model.specs.declared.meaning.Routine.{Routine}
use Rattle.estelle_model.specs.Meant.{value_types}
use Rattle.estelle_model.specs.declared.place.Place.{Place}
use Rattle.estelle_model.specs.declared.place.Place.TheVariants.{In}
use Rattle.estelle_model.specs.Places.{set_value, load, put}
use Rattle.body_machine.specs.declared.item.Item.{Item}
use Rattle.body_machine.specs.declared.item.Item.TheVariants.{Datum, Spot}
use Rattle.body_machine.specs.declared.activation.Return.{Return}
use Rattle.body_machine.specs.Machine.{Machine, Next, Goes, Stops}
use Rattle.body_numbers.specs.Numbers.{shape_numbered}
use Rattle.body_machine.specs.Slots.{slot}
use Rattle.body_machine.specs.Rows.{row, leaves, nothing, store_as}
use Rattle.body_machine.specs.Steps.{goes_on, Comes}
use Rattle.body_compiler_pieces.specs.Pieces.{Piece, keep, recall}
use Rattle.body_compiler_pieces.specs.UnitCode.{Known, variable, own_shapes, routine_code, IsUnit}
use Rattle.body_compiler_laws.proofs.Frames.{outline, count_last, last_part, last_changed}
use Rattle.body_compiler_laws.proofs.Does.{Site, machine, full, StandsAt, Leads, HasRoom, Does, DoesWhere, IsStable, comes_then, stands_first, stands_second, step_at, moved, both_true, anywhere}
use Rattle.body_compiler_laws.proofs.Single.{datum}
use Rattle.body_compiler_laws.proofs.Control.{lower}
use Rattle.body_compiler_laws.proofs.Arguments.{Given}
use Rattle.body_compiler_laws.proofs.Locals.{temporary_slot}
use Rattle.body_compiler_laws.proofs.Units.{IsPlaced, callee}

-- the variables of the innermost frame, with temporaries behind them
pub record HasTemporaries (c : Site) : Type 0 where
  pub variables : ℕ
  pub frame : slice_get c.counts c.here.frame ≡ Some (Some variables)
  pub slots : (i : ℕ) → i < c.number → slot c.unit.locals (c.base + i) ≡ variables + i

-- a unit that is entered has its own
pub callee_has : (c : Site) (placed : IsPlaced c) (known : Known) (body : ℕ) (r : Routine) (unit : CodeUnit) (made : IsUnit known body r unit) (path : Path) (a : Given r.parameters) (return : Return) (at : ℕ) (below : List Item) (turned : Bool) (old : List Value)
    → HasTemporaries (callee c placed known body r unit made path a return at below turned old)
callee_has c placed known body r unit made path a return at below turned old = record {
  variables = length (value_types r.parameters) + length (own_shapes r);
  frame = ap (slice_get (c.counts ++ Some (length (value_types r.parameters) + length (own_shapes r)) ∷ [])) (sym placed.deep) ∙ count_last c.counts (length (value_types r.parameters) + length (own_shapes r));
  slots = λ i less. ap (λ ls. slot ls (length (made.parameters ++ map variable (own_shapes r)) + i)) made.locals ∙ temporary_slot r.parameters made.parameters (own_shapes r) (routine_code known body r).temporaries i made.are less;
}

module _ (c : Site) (placed : IsPlaced c) (has : HasTemporaries c) where
  abbrev C : Next → Next → Type 0
  C = Comes c.subject c.numbers c.code

  abbrev pub temporary : ℕ → Place
  temporary i = In c.here.frame (has.variables + i) []

  frame_of : (r : Running Logged) → outline r.frames ≡ c.counts → slice_get (outline r.frames) c.here.frame ≡ Some (Some has.variables)
  frame_of r same = ap (λ ns. slice_get ns c.here.frame) same ∙ has.frame

  -- its place is pushed
  pub place_pushed : (i : ℕ) → i < c.number → (at : ℕ) (more : List Instr) (stack : List Item) (turned : Bool) (r : Running Logged) → StandsAt c at (op.Loc (c.base + i) ∷ more)
      → C (Goes (machine c at stack turned r)) (Goes (machine c (suc at) (Spot (temporary i) ∷ stack) turned r))
  unfolding row
  place_pushed i less at more stack turned r stands = step_at c at (op.Loc (c.base + i)) more stack turned r _ stands (ap (λ k. Goes (machine c (suc at) (Spot (In c.here.frame k []) ∷ stack) turned r)) (has.slots i less))

  -- what it holds is loaded
  pub value_loaded : (i : ℕ) (v : Value) → set_value (Some v) ≡ Ok v → (at : ℕ) (more : List Instr) (stack : List Item) (turned : Bool) (own : List Value) (r : Running Logged) → outline r.frames ≡ c.counts → slice_get own i ≡ Some v
      → StandsAt c at (op.Load ∷ more) → C (Goes (machine c at (Spot (temporary i) ∷ stack) turned (full c own r))) (Goes (machine c (suc at) (Datum v ∷ stack) turned (full c own r)))
  unfolding row load
  value_loaded i v known at more stack turned own r same found stands = step_at c at op.Load more (Spot (temporary i) ∷ stack) turned (full c own r) _ stands
      (ap (λ o. goes_on (and_then (checked_at o (full c own r)) (λ w. leaves (Datum w))) stack (machine c at (Spot (temporary i) ∷ stack) turned (full c own r)))
      (ap set_value (last_part r.frames c.callers own c.here.frame has.variables i placed.others (frame_of r same) ∙ found) ∙ known))

  -- a value that fits is stored in it
  abbrev pub Stored : (i at : ℕ) (stack : List Item) (turned : Bool) (own : List Value) (r : Running Logged) (v : Value) → Next → Result (Unit {0}) Stop → Type 0
  Stored i at stack turned own r v start (Ok done) = C start (Goes (machine c (suc at) stack turned (full c (slice_set own i v) r)))
  Stored i at stack turned own r v start (Err e) = C start (Stops e r.left)

  pub value_stored : (i k : ℕ) (shape : Shape) → shape_numbered c.numbers k ≡ Some shape → (v w : Value) (at : ℕ) (more : List Instr) (stack : List Item) (turned : Bool) (own : List Value) (r : Running Logged) → outline r.frames ≡ c.counts → slice_get own i ≡ Some w
      → StandsAt c at (op.Store k ∷ more) → Stored i at stack turned own r v (Goes (machine c at (Datum v ∷ (Spot (temporary i) ∷ stack)) turned (full c own r))) (stopping (assignable shape v))
  unfolding row put
  value_stored i k shape is v w at more stack turned own r same found stands =
      by (stopping (assignable shape v)) (step_at c at (op.Store k) more (Datum v ∷ (Spot (temporary i) ∷ stack)) turned (full c own r) _ stands
      (ap (λ o. goes_on (nothing (store_as o (temporary i) v) (full c own r)) stack (machine c at (Datum v ∷ (Spot (temporary i) ∷ stack)) turned (full c own r))) is))
    where
      start : Next
      start = Goes (machine c at (Datum v ∷ (Spot (temporary i) ∷ stack)) turned (full c own r))

      by : (o : Result (Unit {0}) Stop) → C start (goes_on (nothing (checked o >> put Logged on_log (temporary i) v) (full c own r)) stack (machine c at (Datum v ∷ (Spot (temporary i) ∷ stack)) turned (full c own r))) → Stored i at stack turned own r v start o
      by (Ok done) h = subst (λ frames. C start (Goes (machine c (suc at) stack turned (record r { frames = frames })))) (last_changed r.frames c.callers own c.here.frame has.variables i w v placed.others (frame_of r same) found) h
      by (Err e) h = h

  -- ---- one that is known

  -- what a temporary holds, which is not the code's own
  abbrev pub Holds : ℕ → Value → ℕ → List Value → Type 0
  Holds i v free own = (c.base + i < free) × (slice_get own i ≡ Some v)

  pub holds_stable : (i : ℕ) (v : Value) → IsStable c (Holds i v)
  holds_stable i v free more old own less kept known = (omega (arith, less, known.0), kept i known.0 ∙ known.1)

  -- it is recalled
  pub recall_does : (i : ℕ) (v : Value) → i < c.number → set_value (Some v) ≡ Ok v → DoesWhere c (Holds i v) (recall (c.base + i)) [] (pure v) datum
  recall_does i v less set fine at free turned old r below stands low room same known = record {
    own = old;
    turned = turned;
    comes = comes_then c.subject c.numbers c.code _ _ _ (place_pushed i less at _ below turned (full c old r) stands)
        (subst (λ k. C (Goes (machine c (suc at) (Spot (temporary i) ∷ below) turned (full c old r))) (Goes (machine c k (Datum v ∷ below) turned (full c old r)))) (let e : suc (suc at) ≡ at + 2 = omega arith in e)
        (value_loaded i v set (suc at) [] below turned old r same known.1 (subst (λ k. StandsAt c k (op.Load ∷ [])) (let e : at + 1 ≡ suc at = omega arith in e) (stands_second c at (op.Loc (c.base + i) ∷ []) (op.Load ∷ []) stands))));
    kept = λ j less. refl;
    long = refl;
    same = same;
    fewer = omega arith;
    named = tt;
  }

  -- ---- one that is set

  pub there_is : (xs : List Value) (i : ℕ) → i < length xs → (w : Value) × (slice_get xs i ≡ Some w)
  there_is [] i h = absurd (let no : i < 0 = h in omega (arith, no))
  there_is (x ∷ xs) zero h = (x, refl)
  there_is (x ∷ xs) (suc i) h = there_is xs i (let less : suc i < suc (length xs) = h in omega (arith, less))

  pub set_there : (xs : List Value) (i : ℕ) (v : Value) → i < length xs → slice_get (slice_set xs i v) i ≡ Some v
  set_there [] i v h = absurd (let no : i < 0 = h in omega (arith, no))
  set_there (x ∷ xs) zero v h = refl
  set_there (x ∷ xs) (suc i) v h = set_there xs i v (let less : suc i < suc (length xs) = h in omega (arith, less))

  pub set_below : (xs : List Value) (i j : ℕ) (v : Value) → j < i → slice_get (slice_set xs i v) j ≡ slice_get xs j
  set_below [] i j v h = refl
  set_below (x ∷ xs) zero j v h = absurd (let no : j < 0 = h in omega (arith, no))
  set_below (x ∷ xs) (suc i) zero v h = refl
  set_below (x ∷ xs) (suc i) (suc j) v h = set_below xs i j v (let less : suc j < suc i = h in omega (arith, less))

  pub set_above : (xs : List Value) (i j : ℕ) (v : Value) → i < j → slice_get (slice_set xs i v) j ≡ slice_get xs j
  set_above [] i j v h = refl
  set_above (x ∷ xs) i zero v h = absurd (let no : i < 0 = h in omega (arith, no))
  set_above (x ∷ xs) zero (suc j) v h = refl
  set_above (x ∷ xs) (suc i) (suc j) v h = set_above xs i j v (let less : suc i < suc j = h in omega (arith, less))

  pub set_long : (xs : List Value) (i : ℕ) (v : Value) → length (slice_set xs i v) ≡ length xs
  set_long [] i v = refl
  set_long (x ∷ xs) zero v = refl
  set_long (x ∷ xs) (suc i) v = ap suc (set_long xs i v)

  -- what is come to from a start by way of other temporaries
  pub by_way : (start mid : Machine) (at free more : ℕ) (old own : List Value) (units fewer : ℕ) (below : List Item) {A : Type 0} (left : A → List Item) (o : StepResult Logged A) → C (Goes start) (Goes mid) → free ≤ more → fewer ≤ units
      → ((j : ℕ) → c.base + j < free → slice_get own j ≡ slice_get old j) → length own ≡ length old → Leads c mid at more own fewer below left o → Leads c start at free old units below left o
  by_way start mid at free more old own units fewer below left (Err e) h l u kept long k = comes_then c.subject c.numbers c.code _ _ _ h k
  by_way start mid at free more old own units fewer below left (Ok y) h l u kept long k = record {
    own = k.own;
    turned = k.turned;
    comes = comes_then c.subject c.numbers c.code _ _ _ h k.comes;
    kept = λ j less. k.kept j (omega (arith, less, l)) ∙ kept j less;
    long = k.long ∙ long;
    same = k.same;
    fewer = omega (arith, k.fewer, u);
    named = k.named;
  }

  -- the code does what the step says, and keeps temporaries below a level
  abbrev pub DoesDown : (ℕ → ℕ) → (ℕ → List Value → Type 0) → Piece → {A : Type 0} → Step Logged A → (A → List Item) → Type 0
  DoesDown level I p step left = IsTrue p.fine → (at free : ℕ) (turned : Bool) (old : List Value) (r : Running Logged) (below : List Item) →
      StandsAt c at (p.code free at) → c.base ≤ free → HasRoom c free p old → outline r.frames ≡ c.counts → I free old →
      Leads c (machine c at below turned (full c old r)) (at + length (p.code free at)) (level free) old r.left below left (step r)

  -- a value is kept in a temporary, and then the rest knows it; the rest may change temporaries that are kept before, from a level on
  module _ (level : ℕ → ℕ) (I : ℕ → List Value → Type 0) (stable : IsStable c I) (lower : (free : ℕ) (own : List Value) → I free own → level free ≤ free)
      (shape : Shape) (k : ℕ) (is : shape_numbered c.numbers k ≡ Some shape) (value : Piece) (rest : ℕ → Piece) (uniform : (n : ℕ) → ((rest n).temporaries ≡ (rest 0).temporaries) × ((rest n).fine ≡ (rest 0).fine))
      (A B : Type 0) (x : Step Logged A) (v : A → Value) (more : A → Step Logged B) (left : B → List Item)
      (value_does : DoesWhere c I value [] x (λ a. Datum (v a) ∷ []))
      (rest_does : (i : ℕ) → i < c.number → (before : List Value) → I (c.base + i) before → (a : A) → stopping (assignable shape (v a)) ≡ Ok (tt {0}) → DoesDown (λ free. level (c.base + i)) (λ free own. I free own × Holds i (v a) free own) (rest (c.base + i)) (more a) left) where
    abbrev kept_step : Step Logged B
    kept_step = x >>= λ a. checked (stopping (assignable shape (v a))) >>= λ ok. more a

    abbrev At : ℕ → Type 0
    At free = (at : ℕ) (turned : Bool) (old : List Value) (r : Running Logged) (below : List Item) → StandsAt c at ((keep shape k value rest).code free at) → c.base ≤ free → HasRoom c free (keep shape k value rest) old → outline r.frames ≡ c.counts → I free old
        → Leads c (machine c at below turned (full c old r)) (at + length ((keep shape k value rest).code free at)) (level free) old r.left below left (kept_step r)

    at_temporary : IsTrue (keep shape k value rest).fine → (i : ℕ) → At (c.base + i)
    at_temporary fine i at turned old r below stands low room same known = by (x r) (value_does (both_true c value.fine (rest 0).fine fine).0 (at + 1) (free + 1) turned old r (Spot (temporary i) ∷ below) (stands_first c (at + 1) V _ behind_place) (omega (arith, low)) (omega (arith, room.0, room.1, temps)) same
        (stable free (free + 1) old old (omega arith) (λ j l. refl) known))
      where
        free : ℕ
        free = c.base + i

        V : List Instr
        V = value.code (free + 1) (at + 1)

        S : ℕ
        S = at + 1 + length V

        R : List Instr
        R = (rest free).code (free + 1 + length value.temporaries) (S + 1)

        end : ℕ
        end = at + length (op.Loc free ∷ (V ++ (op.Store k ∷ R)))

        whole : S + 1 + length R ≡ end
        whole = let l : length (V ++ (op.Store k ∷ R)) ≡ length V + length (op.Store k ∷ R) = length-append V _ in omega (arith, l)

        temps : length (value.temporaries ++ (rest 0).temporaries) ≡ length value.temporaries + length (rest 0).temporaries
        temps = length-append value.temporaries _

        under : level free ≤ free
        under = lower free old known

        less : i < c.number
        less = omega (arith, room.0)

        start : Machine
        start = machine c at below turned (full c old r)

        behind_place : StandsAt c (at + 1) (V ++ (op.Store k ∷ R))
        behind_place = stands_second c at (op.Loc free ∷ []) (V ++ (op.Store k ∷ R)) stands

        behind_value : StandsAt c S (op.Store k ∷ R)
        behind_value = stands_second c (at + 1) V (op.Store k ∷ R) behind_place

        begun : C (Goes start) (Goes (machine c (at + 1) (Spot (temporary i) ∷ below) turned (full c old r)))
        begun = subst (λ n. C (Goes start) (Goes (machine c n (Spot (temporary i) ∷ below) turned (full c old r)))) (let e : suc at ≡ at + 1 = omega arith in e) (place_pushed i less at _ below turned (full c old r) stands)

        stored : (a : A) (own : List Value) (u : Bool) (q : Running Logged) → C (Goes start) (Goes (machine c S (Datum (v a) ∷ (Spot (temporary i) ∷ below)) u (full c own q))) → outline q.frames ≡ c.counts → q.left ≤ r.left → length own ≡ length old
            → ((j : ℕ) → c.base + j < free + 1 → slice_get own j ≡ slice_get old j) → (o : Result (Unit {0}) Stop) → stopping (assignable shape (v a)) ≡ o → Stored i S below u own q (v a) (Goes (machine c S (Datum (v a) ∷ (Spot (temporary i) ∷ below)) u (full c own q))) o
            → Leads c start end (level free) old r.left below left (and_then (checked_at o q) (λ ok. more a))
        stored a own u q h same' few long kept (Err e) f g = comes_then c.subject c.numbers c.code _ _ _ h g
        stored a own u q h same' few long kept (Ok done) f g =
            by_way start (machine c (S + 1) below u (full c (slice_set own i (v a)) q)) end (level free) (level free) old (slice_set own i (v a)) r.left q.left below left (more a q)
            (comes_then c.subject c.numbers c.code _ _ _ h (subst (λ n. C (Goes (machine c S (Datum (v a) ∷ (Spot (temporary i) ∷ below)) u (full c own q))) (Goes (machine c n below u (full c (slice_set own i (v a)) q)))) (let e : suc S ≡ S + 1 = omega arith in e) g))
            (omega arith) few (λ j l. set_below own i j (v a) (omega (arith, l, under)) ∙ kept j (omega (arith, l, under))) (set_long own i (v a) ∙ long)
            (moved c _ (S + 1 + length R) end _ _ _ below left (more a q) whole
            (rest_does i less old known a f ((uniform free).1 ∙ (both_true c value.fine (rest 0).fine fine).1) (S + 1) (free + 1 + length value.temporaries) u (slice_set own i (v a)) q below
            (stands_second c S (op.Store k ∷ []) R behind_value) (omega (arith, low))
            (let n : length (rest free).temporaries ≡ length (rest 0).temporaries = ap length (uniform free).0 in let m : length (slice_set own i (v a)) ≡ length own = set_long own i (v a) in omega (arith, room.0, room.1, temps, n, m, long)) same'
            (stable free (free + 1 + length value.temporaries) old (slice_set own i (v a)) (omega arith) (λ j l. set_below own i j (v a) (omega (arith, l)) ∙ kept j (omega (arith, l))) known, (omega arith, set_there own i (v a) (omega (arith, less, room.1, long))))))

        by : (o : StepResult Logged A) → Leads c (machine c (at + 1) (Spot (temporary i) ∷ below) turned (full c old r)) S (free + 1) old r.left (Spot (temporary i) ∷ below) (λ a. Datum (v a) ∷ []) o
            → Leads c start end (level free) old r.left below left (and_then o (λ a. checked (stopping (assignable shape (v a))) >>= λ ok. more a))
        by (Err e) h = comes_then c.subject c.numbers c.code _ _ _ begun h
        by (Ok y) h = stored y.0 h.own h.turned y.1 (comes_then c.subject c.numbers c.code _ _ _ begun h.comes) h.same h.fewer h.long h.kept (stopping (assignable shape (v y.0))) refl
            (value_stored i k shape is (v y.0) (there_is h.own i (omega (arith, less, room.1, h.long))).0 S R below h.turned h.own y.1 h.same (there_is h.own i (omega (arith, less, room.1, h.long))).1 behind_value)

    pub keep_down : DoesDown level I (keep shape k value rest) kept_step left
    keep_down fine at free turned old r below stands low room same known = subst At (let e : c.base + (free - c.base) ≡ free = omega (arith, low) in e) (at_temporary fine (free - c.base)) at turned old r below stands low room same known

  -- where the rest keeps all temporaries
  pub keep_does : (shape : Shape) (k : ℕ) (is : shape_numbered c.numbers k ≡ Some shape) (value : Piece) (rest : ℕ → Piece) (uniform : (n : ℕ) → ((rest n).temporaries ≡ (rest 0).temporaries) × ((rest n).fine ≡ (rest 0).fine))
      (A B : Type 0) (x : Step Logged A) (v : A → Value) (more : A → Step Logged B) (left : B → List Item)
      → Does c value [] x (λ a. Datum (v a) ∷ []) → ((i : ℕ) → i < c.number → (a : A) → DoesWhere c (Holds i (v a)) (rest (c.base + i)) [] (more a) left)
      → Does c (keep shape k value rest) [] (x >>= λ a. checked (stopping (assignable shape (v a))) >>= λ ok. more a) left
  keep_does shape k is value rest uniform A B x v more left value_does rest_does fine at free turned old r below stands low room same =
      keep_down (λ free. free) (λ free own. Unit {0}) (λ free more old own less kept known. tt) (λ free own known. omega arith) shape k is value rest uniform A B x v more left (anywhere c (λ free own. Unit {0}) value [] x (λ a. Datum (v a) ∷ []) value_does)
      (λ i less before known a fits fine' at' free' turned' old' r' below' stands' low' room' same' known'. lower c _ (at' + length ((rest (c.base + i)).code free' at')) free' (c.base + i) old' r'.left below' left (more a r') (omega (arith, known'.1.0))
      (rest_does i less a fine' at' free' turned' old' r' below' stands' low' room' same' known'.1))
      fine at free turned old r below stands low room same tt
