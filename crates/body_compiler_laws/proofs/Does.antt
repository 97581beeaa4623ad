-- Code does what a step says: laws on one instruction, and on one piece behind another.
use Rattle.std.proofs.Common.{◌≡◌, ◌∙◌, refl, sym, ap, subst, ℕ, zero, suc, ◌+◌, ◌≤◌, ◌<◌, Bool, true, false, List, [], ◌∷◌, ◌++◌, length, append_assoc, length-append, Ok, Err, Option, Some, arith}
use Rattle.std.specs.Prelude.{slice_get, IsTrue, ◌&&◌}
use Rattle.pascal_values.specs.declared.value.Value.{Value}
use Rattle.body_code.specs.declared.instr.Instr.{Instr}
use Rattle.body_code.specs.declared.unit.CodeUnit.{CodeUnit}
use Rattle.estelle_model.specs.Stops.{Stop}
use Rattle.estelle_model.specs.States.{Logged}
use Rattle.estelle_model.specs.Steps.{Running, StepResult, Step, and_then, ◌>>=◌, pure}
use Rattle.estelle_model.specs.declared.place.Environment.{Environment}
use Rattle.estelle_model.specs.Subject.{Subject}
use Rattle.body_machine.specs.declared.item.Item.{Item}
use Rattle.body_machine.specs.declared.item.Item.TheVariants.{Datum, Spot}
use Rattle.body_machine.specs.declared.activation.Return.{Return}
use Rattle.body_machine.specs.Machine.{Activation, Machine, Next, Goes, Ends, Stops}
use Rattle.body_numbers.specs.declared.numbers.Numbers.{Numbers}
use Rattle.body_machine.specs.Rows.{row}
use Rattle.body_machine.specs.Steps.{next, act, by_row, run, Comes}
use Rattle.body_compiler_pieces.specs.Pieces.{Piece, none, one, ◌⨾◌}
use Rattle.body_compiler_laws.proofs.Frames.{joined, outline, IsNamed}

-- ---- what the machine comes to

module _ (s : Subject) (n : Numbers) (code : List CodeUnit) where
  pub stops_stay : (k : ℕ) (f : Stop) (left : ℕ) → run s n code k (Stops f left) ≡ Stops f left
  stops_stay zero f left = refl
  stops_stay (suc k) f left = refl

  pub ends_stay : (k : ℕ) (items : List Item) (r : Running Logged) → run s n code k (Ends items r) ≡ Ends items r
  ends_stay zero items r = refl
  ends_stay (suc k) items r = refl

  pub run_more : (k j : ℕ) (x : Next) → run s n code (k + j) x ≡ run s n code j (run s n code k x)
  run_more zero j x = ap (λ i. run s n code i x) (let e : zero + j ≡ j = omega arith in e)
  run_more (suc k) j (Goes m) = ap (λ i. run s n code i (Goes m)) (let e : suc k + j ≡ suc (k + j) = omega arith in e) ∙ run_more k j (next s n code m)
  run_more (suc k) j (Ends items r) = ends_stay (suc k + j) items r ∙ sym (ends_stay j items r)
  run_more (suc k) j (Stops f left) = stops_stay (suc k + j) f left ∙ sym (stops_stay j f left)

  pub comes_then : (x y z : Next) → Comes s n code x y → Comes s n code y z → Comes s n code x z
  comes_then x y z h k = (h.0 + k.0, run_more h.0 k.0 x ∙ ap (run s n code k.0) h.1 ∙ k.1)

-- ---- what code does

-- a unit that runs: what does not change while its code does
pub record Site : Type 0 where
  pub subject : Subject
  pub numbers : Numbers
  pub code : List CodeUnit
  pub body : ℕ
  pub unit : CodeUnit
  pub here : Environment
  pub return : Return
  pub waiting : List Activation
  -- the number of its first temporary, and how many it has
  pub base : ℕ
  pub number : ℕ
  -- how many variables each frame has in the meaning
  pub counts : List (Option ℕ)
  -- the temporaries of the units that wait
  pub callers : List (List Value)

module _ (c : Site) where
  -- the machine in the unit
  abbrev pub machine : (at : ℕ) → List Item → Bool → Running Logged → Machine
  machine at stack turned running = record {
    running = running;
    active = record { body = c.body; unit = c.unit; here = c.here; address = at; stack = stack; turned = turned; return = c.return };
    waiting = c.waiting;
  }

  -- with the temporaries of the unit, and those of its callers
  abbrev pub full : List Value → Running Logged → Running Logged
  full own r = record r { frames = joined r.frames (c.callers ++ own ∷ []) }

  -- instructions stand at an address of the unit
  pub record StandsAt (at : ℕ) (instrs : List Instr) : Type 0 where
    pub before : List Instr
    pub behind : List Instr
    pub is : c.unit.instrs ≡ before ++ (instrs ++ behind)
    pub long : length before ≡ at

  abbrev pub AreNamed : List Item → Type 0
  AreNamed [] = Unit {0}
  AreNamed (Datum v ∷ items) = AreNamed items
  AreNamed (Spot p ∷ items) = IsNamed c.counts p × AreNamed items

  -- the machine comes behind the code, with what is left on top, and the state is the meaning's
  pub record Arrives (start : Machine) (at free : ℕ) (old : List Value) (units : ℕ) (left below : List Item) (new : Running Logged) : Type 0 where
    pub own : List Value
    pub turned : Bool
    pub comes : Comes c.subject c.numbers c.code (Goes start) (Goes (machine at (left ++ below) turned (full own new)))
    -- temporaries that are not the code's own are as they were
    pub kept : (i : ℕ) → c.base + i < free → slice_get own i ≡ slice_get old i
    pub long : length own ≡ length old
    pub same : outline new.frames ≡ c.counts
    pub fewer : new.left ≤ units
    pub named : AreNamed left

  abbrev pub Leads : (start : Machine) (at free : ℕ) (old : List Value) (units : ℕ) (below : List Item) {A : Type 0} (left : A → List Item) → StepResult Logged A → Type 0
  Leads start at free old units below left (Ok r) = Arrives start at free old units (left r.0) below r.1
  Leads start at free old units below left (Err e) = Comes c.subject c.numbers c.code (Goes start) (Stops e.0 e.1)

  -- the code has its temporaries
  abbrev pub HasRoom : (free : ℕ) → Piece → List Value → Type 0
  HasRoom free p own = (free + length p.temporaries ≤ c.base + c.number) × (length own ≡ c.number)

  -- with these items on top, the code does what the step says, and leaves what its value tells
  abbrev pub Does : Piece → List Item → {A : Type 0} → Step Logged A → (A → List Item) → Type 0
  Does p taken step left = IsTrue p.fine → (at free : ℕ) (turned : Bool) (old : List Value) (r : Running Logged) (below : List Item) →
      StandsAt at (p.code free at) → c.base ≤ free → HasRoom free p old → outline r.frames ≡ c.counts →
      Leads (machine at (taken ++ below) turned (full old r)) (at + length (p.code free at)) free old r.left below left (step r)

  -- ---- what is known of temporaries

  -- the same where something is known of the temporaries that are not the code's own
  abbrev pub DoesWhere : (ℕ → List Value → Type 0) → Piece → List Item → {A : Type 0} → Step Logged A → (A → List Item) → Type 0
  DoesWhere I p taken step left = IsTrue p.fine → (at free : ℕ) (turned : Bool) (old : List Value) (r : Running Logged) (below : List Item) →
      StandsAt at (p.code free at) → c.base ≤ free → HasRoom free p old → outline r.frames ≡ c.counts → I free old →
      Leads (machine at (taken ++ below) turned (full old r)) (at + length (p.code free at)) free old r.left below left (step r)

  -- it stays known while code keeps them
  abbrev pub IsStable : (ℕ → List Value → Type 0) → Type 0
  IsStable I = (free more : ℕ) (old own : List Value) → free ≤ more → ((i : ℕ) → c.base + i < free → slice_get own i ≡ slice_get old i) → I free old → I more own

  pub anywhere : (I : ℕ → List Value → Type 0) (p : Piece) (taken : List Item) {A : Type 0} (step : Step Logged A) (left : A → List Item) → Does p taken step left → DoesWhere I p taken step left
  anywhere I p taken step left h fine at free turned old r below stands low room same known = h fine at free turned old r below stands low room same

  -- ---- one piece behind another

  pub stands_first : (at : ℕ) (is js : List Instr) → StandsAt at (is ++ js) → StandsAt at is
  stands_first at is js h = record { before = h.before; behind = js ++ h.behind; is = h.is ∙ ap (λ xs. h.before ++ xs) (append_assoc is js h.behind); long = h.long }

  pub stands_second : (at : ℕ) (is js : List Instr) → StandsAt at (is ++ js) → StandsAt (at + length is) js
  stands_second at is js h = record {
    before = h.before ++ is;
    behind = h.behind;
    is = h.is ∙ ap (λ xs. h.before ++ xs) (append_assoc is js h.behind) ∙ sym (append_assoc h.before is (js ++ h.behind));
    long = length-append h.before is ∙ ap (λ k. k + length is) h.long;
  }

  pub moved : (start : Machine) (at to free : ℕ) (old : List Value) (units : ℕ) (below : List Item) {A : Type 0} (left : A → List Item) (o : StepResult Logged A) → at ≡ to → Leads start at free old units below left o → Leads start to free old units below left o
  moved start at to free old units below left o e h = subst (λ k. Leads start k free old units below left o) e h

  pub both_true : (a b : Bool) → IsTrue (a && b) → IsTrue a × IsTrue b
  both_true true b h = (refl, h)
  both_true false b h = absurd (cc)

  pub then_where : (I : ℕ → List Value → Type 0) → IsStable I → (p q : Piece) (taken : List Item) {A B : Type 0} (step : Step Logged A) (more : A → Step Logged B) (left : A → List Item) (end : B → List Item)
      → DoesWhere I p taken step left → ((a : A) → AreNamed (left a) → DoesWhere I q (left a) (more a) end) → DoesWhere I (p ⨾ q) taken (step >>= more) end
  then_where I stable p q taken {A} {B} step more left end hp hq fine at free turned old r below stands low room same known =
      by (step r) (hp (both_true p.fine q.fine fine).0 at free turned old r below (stands_first at (p.code free at) _ stands) low (omega (arith, room.0, room.1, temps)) same known)
    where
      temps : length (p.temporaries ++ q.temporaries) ≡ length p.temporaries + length q.temporaries
      temps = length-append p.temporaries q.temporaries

      whole : (at + length (p.code free at)) + length (q.code (free + length p.temporaries) (at + length (p.code free at))) ≡ at + length (p.code free at ++ q.code (free + length p.temporaries) (at + length (p.code free at)))
      whole = let l = length-append (p.code free at) (q.code (free + length p.temporaries) (at + length (p.code free at))) in omega (arith, l)

      start : Machine
      start = machine at (taken ++ below) turned (full old r)

      go : {C : Type 0} (left' : List Item) (mid : Running Logged) (h : Arrives start (at + length (p.code free at)) free old r.left left' below mid) (end' : C → List Item) (o : StepResult Logged C)
          → Leads (machine (at + length (p.code free at)) (left' ++ below) h.turned (full h.own mid)) (at + length (p.code free at ++ q.code (free + length p.temporaries) (at + length (p.code free at)))) (free + length p.temporaries) h.own mid.left below end' o
          → Leads start (at + length (p.code free at ++ q.code (free + length p.temporaries) (at + length (p.code free at)))) free old r.left below end' o
      go left' mid h end' (Err e) k = comes_then c.subject c.numbers c.code _ _ _ h.comes k
      go left' mid h end' (Ok x) k = record {
        own = k.own;
        turned = k.turned;
        comes = comes_then c.subject c.numbers c.code _ _ _ h.comes k.comes;
        kept = λ i less. k.kept i (omega (arith, less)) ∙ h.kept i less;
        long = k.long ∙ h.long;
        same = k.same;
        fewer = omega (arith, k.fewer, h.fewer);
        named = k.named;
      }

      by : (o : StepResult Logged A) → Leads start (at + length (p.code free at)) free old r.left below left o → Leads start (at + length (p.code free at ++ q.code (free + length p.temporaries) (at + length (p.code free at)))) free old r.left below end (and_then o more)
      by (Err e) h = h
      by (Ok x) h = go (left x.0) x.1 h end (more x.0 x.1)
          (moved _ _ _ _ _ _ _ end (more x.0 x.1) whole (hq x.0 h.named (both_true p.fine q.fine fine).1 (at + length (p.code free at)) (free + length p.temporaries) h.turned h.own x.1 below
          (stands_second at (p.code free at) (q.code (free + length p.temporaries) (at + length (p.code free at))) stands) (omega (arith, low)) (omega (arith, room.0, room.1, temps, h.long)) h.same (stable free (free + length p.temporaries) old h.own (omega arith) h.kept known)))

  pub then_does : (p q : Piece) (taken : List Item) {A B : Type 0} (step : Step Logged A) (more : A → Step Logged B) (left : A → List Item) (end : B → List Item)
      → Does p taken step left → ((a : A) → AreNamed (left a) → Does q (left a) (more a) end) → Does (p ⨾ q) taken (step >>= more) end
  then_does p q taken step more left end hp hq fine at free turned old r below stands low room same =
      then_where (λ k own. Unit {0}) (λ k n old own less kept known. tt) p q taken step more left end (anywhere (λ k own. Unit {0}) p taken step left hp)
      (λ a named. anywhere (λ k own. Unit {0}) q (left a) (more a) end (hq a named)) fine at free turned old r below stands low room same tt

  -- items that are below the code's own stay
  pub under_where : (I : ℕ → List Value → Type 0) (p : Piece) (taken more : List Item) {A : Type 0} (step : Step Logged A) (left : A → List Item) → AreNamed more → DoesWhere I p taken step left → DoesWhere I p (taken ++ more) step (λ a. left a ++ more)
  under_where I p taken more {A} step left named h fine at free turned old r below stands low room same known =
      by (step r) (subst (λ items. Leads (machine at items turned (full old r)) (at + length (p.code free at)) free old r.left (more ++ below) left (step r)) (sym (append_assoc taken more below)) (h fine at free turned old r (more ++ below) stands low room same known))
    where
      all_named : (xs ys : List Item) → AreNamed xs → AreNamed ys → AreNamed (xs ++ ys)
      all_named [] ys h k = k
      all_named (Datum v ∷ xs) ys h k = all_named xs ys h k
      all_named (Spot p ∷ xs) ys h k = (h.0, all_named xs ys h.1 k)

      by : (o : StepResult Logged A) → Leads (machine at ((taken ++ more) ++ below) turned (full old r)) (at + length (p.code free at)) free old r.left (more ++ below) left o
          → Leads (machine at ((taken ++ more) ++ below) turned (full old r)) (at + length (p.code free at)) free old r.left below (λ a. left a ++ more) o
      by (Err e) h = h
      by (Ok x) h = record {
        own = h.own;
        turned = h.turned;
        comes = subst (λ items. Comes c.subject c.numbers c.code (Goes (machine at ((taken ++ more) ++ below) turned (full old r))) (Goes (machine (at + length (p.code free at)) items h.turned (full h.own x.1)))) (sym (append_assoc (left x.0) more below)) h.comes;
        kept = h.kept;
        long = h.long;
        same = h.same;
        fewer = h.fewer;
        named = all_named (left x.0) more h.named named;
      }

  pub under_does : (p : Piece) (taken more : List Item) {A : Type 0} (step : Step Logged A) (left : A → List Item) → AreNamed more → Does p taken step left → Does p (taken ++ more) step (λ a. left a ++ more)
  under_does p taken more step left named h fine at free turned old r below stands low room same =
      under_where (λ k own. Unit {0}) p taken more step left named (anywhere (λ k own. Unit {0}) p taken step left h) fine at free turned old r below stands low room same tt

  -- ---- one instruction

  instr_there : (at : ℕ) (i : Instr) (more : List Instr) → StandsAt at (i ∷ more) → slice_get c.unit.instrs at ≡ Some i
  instr_there at i more h = ap (λ is. slice_get is at) h.is ∙ ap (λ k. slice_get (h.before ++ (i ∷ (more ++ h.behind))) k) (sym h.long) ∙ found h.before
    where
      found : (before : List Instr) → slice_get (before ++ (i ∷ (more ++ h.behind))) (length before) ≡ Some i
      found [] = refl
      found (j ∷ before) = found before

  pub step_at : (at : ℕ) (i : Instr) (more : List Instr) (stack : List Item) (turned : Bool) (r : Running Logged) (x : Next) → StandsAt at (i ∷ more)
      → by_row c.subject c.numbers c.code (row c.subject c.numbers (machine at stack turned r).active i) stack (machine at stack turned r) ≡ x → Comes c.subject c.numbers c.code (Goes (machine at stack turned r)) x
  unfolding next
  step_at at i more stack turned r x stands is = (1, ap (λ o. act c.subject c.numbers c.code o (machine at stack turned r)) (instr_there at i more stands) ∙ is)

  -- what one instruction does where the step comes to this
  abbrev pub Does1 : Instr → List Item → {A : Type 0} → (A → List Item) → (at : ℕ) (turned : Bool) (old : List Value) (r : Running Logged) (below : List Item) → StepResult Logged A → Type 0
  Does1 i taken left at turned old r below (Ok x) =
      (by_row c.subject c.numbers c.code (row c.subject c.numbers (machine at (taken ++ below) turned (full old r)).active i) (taken ++ below) (machine at (taken ++ below) turned (full old r)) ≡ Goes (machine (suc at) (left x.0 ++ below) turned (full old x.1)))
      × (outline x.1.frames ≡ c.counts) × (x.1.left ≤ r.left) × AreNamed (left x.0)
  Does1 i taken left at turned old r below (Err e) =
      by_row c.subject c.numbers c.code (row c.subject c.numbers (machine at (taken ++ below) turned (full old r)).active i) (taken ++ below) (machine at (taken ++ below) turned (full old r)) ≡ Stops e.0 e.1

  pub instr_does : (i : Instr) (taken : List Item) {A : Type 0} (step : Step Logged A) (left : A → List Item)
      → ((at : ℕ) (turned : Bool) (old : List Value) (r : Running Logged) (below : List Item) → outline r.frames ≡ c.counts → Does1 i taken left at turned old r below (step r)) → Does (one i) taken step left
  instr_does i taken {A} step left h fine at free turned old r below stands low room same = by (step r) (h at turned old r below same)
    where
      by : (o : StepResult Logged A) → Does1 i taken left at turned old r below o → Leads (machine at (taken ++ below) turned (full old r)) (at + 1) free old r.left below left o
      by (Err e) h = step_at at i [] (taken ++ below) turned (full old r) (Stops e.0 e.1) stands h
      by (Ok x) h = record {
        own = old;
        turned = turned;
        comes = subst (λ k. Comes c.subject c.numbers c.code (Goes (machine at (taken ++ below) turned (full old r))) (Goes (machine k (left x.0 ++ below) turned (full old x.1)))) (omega arith) (step_at at i [] (taken ++ below) turned (full old r) (Goes (machine (suc at) (left x.0 ++ below) turned (full old x.1))) stands h.0);
        kept = λ i less. refl;
        long = refl;
        same = h.1;
        fewer = h.2;
        named = h.3;
      }

  -- code that does a step does each that is equal to it
  pub as_does : (p : Piece) (taken : List Item) {A : Type 0} (step other : Step Logged A) (left : A → List Item) → ((r : Running Logged) → step r ≡ other r) → Does p taken step left → Does p taken other left
  as_does p taken step other left e h fine at free turned old r below stands low room same = subst (Leads _ _ _ _ _ _ left) (e r) (h fine at free turned old r below stands low room same)

  -- and each that is equal where the frames are the unit's
  pub as_there_does : (p : Piece) (taken : List Item) {A : Type 0} (step other : Step Logged A) (left : A → List Item) → ((r : Running Logged) → outline r.frames ≡ c.counts → step r ≡ other r) → Does p taken step left → Does p taken other left
  as_there_does p taken step other left e h fine at free turned old r below stands low room same = subst (Leads _ _ _ _ _ _ left) (e r same) (h fine at free turned old r below stands low room same)

  pub as_where : (I : ℕ → List Value → Type 0) (p : Piece) (taken : List Item) {A : Type 0} (step other : Step Logged A) (left : A → List Item) → ((r : Running Logged) → step r ≡ other r) → DoesWhere I p taken step left → DoesWhere I p taken other left
  as_where I p taken step other left e h fine at free turned old r below stands low room same known = subst (Leads _ _ _ _ _ _ left) (e r) (h fine at free turned old r below stands low room same known)

  -- no code does nothing
  pub none_does : (taken : List Item) {A : Type 0} (a : A) (left : A → List Item) → left a ≡ taken → AreNamed taken → Does none taken (pure a) left
  none_does taken a left is named fine at free turned old r below stands low room same = subst (λ k. Leads (machine at (taken ++ below) turned (full old r)) k free old r.left below left (Ok (a, r))) (let e : at ≡ at + 0 = omega arith in e) (record {
    own = old;
    turned = turned;
    comes = (0, ap (λ items. Goes (machine at (items ++ below) turned (full old r))) (sym is));
    kept = λ i less. refl;
    long = refl;
    same = same;
    fewer = omega arith;
    named = subst AreNamed (sym is) named;
  })

  -- what is left is told by a value that is computed of the step's
  pub mapped_does : (p : Piece) (taken : List Item) {A B : Type 0} (step : Step Logged A) (f : A → B) (left : B → List Item) → Does p taken step (λ a. left (f a)) → Does p taken (step >>= λ a. pure (f a)) left
  mapped_does p taken {A} step f left h fine at free turned old r below stands low room same = by (step r) (h fine at free turned old r below stands low room same)
    where
      by : (o : StepResult Logged A) → Leads (machine at (taken ++ below) turned (full old r)) (at + length (p.code free at)) free old r.left below (λ a. left (f a)) o
          → Leads (machine at (taken ++ below) turned (full old r)) (at + length (p.code free at)) free old r.left below left (and_then o (λ a. pure (f a)))
      by (Err e) h = h
      by (Ok x) h = record { own = h.own; turned = h.turned; comes = h.comes; kept = h.kept; long = h.long; same = h.same; fewer = h.fewer; named = h.named }

  pub unmapped_does : (p : Piece) (taken : List Item) {A B : Type 0} (step : Step Logged A) (f : A → B) (left : B → List Item) → Does p taken (step >>= λ a. pure (f a)) left → Does p taken step (λ a. left (f a))
  unmapped_does p taken {A} step f left h fine at free turned old r below stands low room same = by (step r) (h fine at free turned old r below stands low room same)
    where
      by : (o : StepResult Logged A) → Leads (machine at (taken ++ below) turned (full old r)) (at + length (p.code free at)) free old r.left below left (and_then o (λ a. pure (f a)))
          → Leads (machine at (taken ++ below) turned (full old r)) (at + length (p.code free at)) free old r.left below (λ a. left (f a)) o
      by (Err e) h = h
      by (Ok x) h = record { own = h.own; turned = h.turned; comes = h.comes; kept = h.kept; long = h.long; same = h.same; fewer = h.fewer; named = h.named }
