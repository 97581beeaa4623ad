-- Calls and initializations: by induction over how many more may be nested, the statements of every unit do what they mean.
use Rattle.std.proofs.Common.{◌≡◌, ◌∙◌, refl, sym, ap, subst, ℕ, zero, suc, ◌+◌, ◌≤◌, ◌<◌, Bool, List, [], ◌∷◌, ◌++◌, length, map, length-append, Ok, Err, Option, Some, None, arith}
use Rattle.std.specs.Prelude.{slice_get, option_map, option_and_then, unwrap_or}
use Rattle.pascal_values.specs.declared.value.Value.{Value}
use Rattle.estelle_tree.specs.declared.tree.name.Name.{Name}
use Rattle.estelle_tree.specs.declared.tree.specification.Init as tree
use Rattle.estelle_tree.specs.Paths.{Path, child}
use Rattle.body_code.specs.declared.instr.Instr.TheVariants as op
use Rattle.body_code.specs.declared.unit.Entry.TheVariants as entry
use Rattle.body_code.specs.declared.unit.CodeUnit.{CodeUnit}
use Rattle.body_code.specs.Units.{unit_of}
use Rattle.estelle_model.specs.declared.denoter.Denoter.{Denoter}
use Rattle.estelle_model.specs.Core.{Instance}
use Rattle.estelle_model.specs.States.{Logged, on_log}
use Rattle.estelle_model.specs.Steps.{Running, StepResult, Step, Do, and_then, ◌>>=◌, ◌>>◌, pure, breaks}
use Rattle.estelle_model.specs.Plans.{carry}
use Rattle.estelle_model.specs.declared.meaning.Passing.{Passing}
use Rattle.estelle_model.specs.declared.meaning.Passing.TheVariants.{ByValue, ByPlace}
use Rattle.estelle_model.specs.declared.meaning.Routine.{Routine}
use Rattle.estelle_model.specs.declared.meaning.Meaning.{Meaning}
use Rattle.estelle_model.specs.declared.meaning.Meaning.TheVariants.{Module, Body}
use Rattle.estelle_model.specs.declared.place.Place.{Place}
use Rattle.estelle_model.specs.declared.place.Place.TheVariants.{In}
use Rattle.estelle_model.specs.Meant.{Meanings, value_types}
use Rattle.estelle_model.specs.Subject.{Subject, body as body_of, meant, of_init, nothing_to_do, child_of}
use Rattle.estelle_model.specs.Bodies.{BodyAlone}
use Rattle.estelle_model.specs.Expressions as model
use Rattle.estelle_model.specs.Expressions.{no_arguments, give_all}
use Rattle.estelle_model.specs.Statements.{Acts, Init, stmts}
use Rattle.estelle_model.specs.Calls.{Enters, call_by, max_depth, nested}
use Rattle.estelle_model.specs.Actions.{may_begin, begins_child, holds_child}
use Rattle.estelle_model.specs.Acts as meaning
use Rattle.estelle_model.proofs.Alike.{EachAlike}
use Rattle.estelle_model.proofs.LoopLaws.{AtMost}
use Rattle.body_actions.specs.Children as children
use Rattle.body_machine.specs.declared.item.Item.{Item}
use Rattle.body_machine.specs.declared.item.Item.TheVariants.{Datum, Spot}
use Rattle.body_machine.specs.declared.activation.Return.{Return}
use Rattle.body_machine.specs.declared.activation.Return.TheVariants.{ToCaller, ToParent}
use Rattle.body_machine.specs.Machine.{Activation, Machine, Next, Goes, Stops}
use Rattle.body_machine.specs.Slots.{slot, reference_number}
use Rattle.body_machine.specs.Rows.{row}
use Rattle.body_machine.specs.Frames.{deeper_than, frame_with, push_frame}
use Rattle.body_machine.specs.Steps.{given_to, nothing_given, begun, enter, call_unit, call_with, call_given, initialize, init_unit, init_with, held, Comes}
use Rattle.body_compiler_pieces.specs.Pieces.{one}
use Rattle.body_compiler_pieces.specs.ExpressionCode as code
use Rattle.body_compiler_pieces.specs.StatementCode as compiled
use Rattle.body_compiler_pieces.specs.UnitCode.{Known, variable, own_shapes, within, routine_code, IsUnit}
use Rattle.body_compiler_laws.specs.Compiled.{HasUnit, IsCode}
use Rattle.body_compiler_laws.proofs.Frames.{joined, outline, IsNamed, named_longer, named_last}
use Rattle.body_compiler_laws.proofs.Does.{Site, machine, full, AreNamed, Leads, Does, comes_then, step_at}
use Rattle.body_compiler_laws.proofs.Single.{no_item}
use Rattle.body_compiler_laws.proofs.Operands.{OperandDoes, IsScope, refused_does}
use Rattle.body_compiler_laws.proofs.Arguments.{Given, values_of, places_of, items_of, stack_of, actual, back, result_item, CallsDo, arguments_do}
use Rattle.body_compiler_laws.proofs.Blind.{framed, reframed, IsBlind, KeepsFrames, frames_kept, pure_blind, carry_blind}
use Rattle.body_compiler_laws.proofs.Acts.{values_taken, acts_do}
use Rattle.body_compiler_laws.proofs.Statements.{stmts_does}
use Rattle.body_compiler_laws.proofs.Locals.{slot_is, reference_is, given_is_actual, stack_taken}
use Rattle.body_compiler_laws.proofs.Units.{IsPlaced, waits, inner_placed, callee, Ended, BodyDoes, enters_do}
use Rattle.body_compiler_laws.proofs.Temporaries.{HasTemporaries, callee_has}

-- ---- what is known in a unit that is entered

named_places : (c : Site) (ps : List Passing) (a : Given ps) (more : List Item) → AreNamed c (stack_of ps a more) → AreNamed c more × ((k : ℕ) (p : Place) → slice_get (places_of ps a) k ≡ Some p → IsNamed c.counts p)
named_places c [] a more h = (h, λ k p is. absurd (cc))
named_places c (ByValue t ∷ ps) a more h = named_places c ps a.1 (Datum a.0 ∷ more) h
named_places c (ByPlace ∷ ps) a more h = by (named_places c ps a.1 (Spot a.0 ∷ more) h)
  where
    by : AreNamed c (Spot a.0 ∷ more) × ((k : ℕ) (p : Place) → slice_get (places_of ps a.1) k ≡ Some p → IsNamed c.counts p) → AreNamed c more × ((k : ℕ) (p : Place) → slice_get (a.0 ∷ places_of ps a.1) k ≡ Some p → IsNamed c.counts p)
    by g = (g.0.1, each)
      where
        each : (k : ℕ) (p : Place) → slice_get (a.0 ∷ places_of ps a.1) k ≡ Some p → IsNamed c.counts p
        each zero p is = subst (IsNamed c.counts) (let same : a.0 ≡ p = cc in same) g.0.0
        each (suc k) p is = g.1 k p is

module _ (c : Site) (placed : IsPlaced c) (known : Known) (is_code : IsCode c.subject c.numbers c.code known) where
  pub inner_scope : (body : ℕ) (r : Routine) (unit : CodeUnit) (made : IsUnit known body r unit) (path : Path) (a : Given r.parameters) (return : Return) (at : ℕ) (below : List Item) (turned : Bool) (old : List Value) → AreNamed c (stack_of r.parameters a [])
      → IsScope (callee c placed known body r unit made path a return at below turned old) (within known body r)
  inner_scope body r unit made path a return at below turned old named = record {
    local = λ k i is. local k i (slot_is r.parameters (length (own_shapes r)) made.parameters (own_shapes r ++ (routine_code known body r).temporaries) k i made.are (let l : length (own_shapes r ++ (routine_code known body r).temporaries) ≡ length (own_shapes r) + length (routine_code known body r).temporaries = length-append (own_shapes r) _ in omega (arith, l)) is);
    reference = λ k i is. ap (λ ls. reference_number ls i) made.locals ∙ reference_is r.parameters made.parameters _ k i made.are is;
    named = λ k p is. named_longer c.counts _ p ((named_places c r.parameters a [] named).1 k p is);
    export = is_code.export body;
    number = is_code.number;
    interaction = is_code.interaction body;
    parameters = is_code.parameters;
  }
    where
      local : (k i : ℕ) → (slot (made.parameters ++ map variable (own_shapes r ++ (routine_code known body r).temporaries)) i ≡ k) × (k < length (value_types r.parameters) + length (own_shapes r))
          → (slot unit.locals i ≡ k) × IsNamed (c.counts ++ Some (length (value_types r.parameters) + length (own_shapes r)) ∷ []) (In (suc c.here.frame) k [])
      local k i h = (ap (λ ls. slot ls i) made.locals ∙ h.0, subst (λ f. IsNamed (c.counts ++ Some (length (value_types r.parameters) + length (own_shapes r)) ∷ []) (In f k [])) placed.deep (named_last c.counts (length (value_types r.parameters) + length (own_shapes r)) k [] h.1))

-- ---- initializations

-- without parameters and result
abbrev bare : Routine → Routine
bare r = record r { parameters = []; result = None }

pub block_is : (s : Subject) (k : ℕ) → (child_of s k).block ≡ bare (child_of s k).block
block_is s k = by (body_of s k)
  where
    of_one : (known : Meanings) (o : Option tree.Init) → (unwrap_or (option_map (of_init known) o) nothing_to_do).block ≡ bare (unwrap_or (option_map (of_init known) o) nothing_to_do).block
    of_one known None = refl
    of_one known (Some i) = refl

    by : (o : Option BodyAlone) → (unwrap_or (option_and_then (λ b. option_map (of_init (meant s)) b.init) o) nothing_to_do).block ≡ bare (unwrap_or (option_and_then (λ b. option_map (of_init (meant s)) b.init) o) nothing_to_do).block
    by None = refl
    by (Some b) = of_one (meant s) b.init

-- ---- statements, where so many more calls may be nested

abbrev pub Act : Known → Subject → Enters Logged → Acts Logged
Act known s = meaning.act Logged on_log s known.meant

abbrev pub Nested : Known → Subject → ℕ → Enters Logged
Nested known s n = nested Logged on_log known.meant (Act known s) n

-- the statements of every unit at that depth do what they mean
abbrev pub StatementsDo : Known → ℕ → Type 0
StatementsDo known n = (c : Site) → IsPlaced c → HasTemporaries c → c.here.frame + n ≡ max_depth → IsCode c.subject c.numbers c.code known → (r : Routine) → IsScope c (within known c.body r)
    → Does c (compiled.stmts (within known c.body r) r.body) [] (stmts Logged on_log known.meant (Act known c.subject (Nested known c.subject n)) (call_by (Nested known c.subject n) c.here.path) c.here r.body) no_item

-- and so do those that they call
abbrev Deeper : Known → ℕ → Type 0
Deeper known zero = Unit {0}
Deeper known (suc m) = StatementsDo known m

module _ (known : Known) (n : ℕ) (deeper : Deeper known n) (c : Site) (placed : IsPlaced c) (deep : c.here.frame + n ≡ max_depth) (is_code : IsCode c.subject c.numbers c.code known) where
  abbrev N : Enters Logged
  N = Nested known c.subject n

  -- what is entered does what it means
  entered_does : (body : ℕ) (r : Routine) (unit : CodeUnit) (made : IsUnit known body r unit) (path : Path) (a : Given r.parameters) (return : Return) (at : ℕ) (below : List Item) (turned : Bool) (old : List Value) → AreNamed c (stack_of r.parameters a [])
      → (before : Do Logged) → IsBlind before → (stack : List Item) (q s : Running Logged) → outline s.frames ≡ c.counts
      → Ended c placed known body r unit made path a return at below turned old
      (enter ((deeper_than c.here.frame >> before >> push_frame (frame_with unit.locals (length r.parameters) (values_of r.parameters a))) (full c old s)) (begun body unit path (suc c.here.frame) (places_of r.parameters a) return) below (machine c at stack turned q))
      s.left ((N before path r (actual r.parameters a) >>= λ v. back r.result v) s)
  entered_does body r unit made path a return at below turned old named before blind stack q s same =
      enters_do c placed known body r unit made path a return at below turned old (Act known c.subject) here before blind n deep (by n deeper deep) stack q s same
    where
      here : IsScope (callee c placed known body r unit made path a return at below turned old) (within known body r)
      here = inner_scope c placed known is_code body r unit made path a return at below turned old named

      by : (n : ℕ) → Deeper known n → c.here.frame + n ≡ max_depth → BodyDoes c placed known body r unit made path a return at below turned old (Act known c.subject) here before blind n
      by zero deeper deep = tt
      by (suc m) deeper deep = deeper (callee c placed known body r unit made path a return at below turned old) (inner_placed c body unit path (places_of r.parameters a) return _ _ _ _ old placed)
          (callee_has c placed known body r unit made path a return at below turned old) (omega (arith, deep)) is_code r here

  result_named : (o : Option Value) → AreNamed c (result_item o)
  result_named None = tt
  result_named (Some v) = tt

  -- ---- calls

  pub calls_do : (body : ℕ) (r : Routine) → CallsDo c (within known body r) (call_by N c.here.path)
  unfolding row
  calls_do body r0 x r u is found a named fine at free turned old s below stands low room same =
      leads ((N (pure tt) c.here.path r (actual r.parameters a) >>= λ v. back r.result v) s) (entered_does u.0 r unit made c.here.path a ToCaller at below turned old named (pure tt) (pure_blind tt) items (full c old s) s same)
    where
      has : HasUnit c.code known u.0 (entry.Routine u.1) r
      has = is_code.routine x r u is found

      unit : CodeUnit
      unit = has.unit

      made : IsUnit known u.0 r unit
      made = has.is

      ps : List Passing
      ps = r.parameters

      items : List Item
      items = stack_of ps a [] ++ below

      start : Machine
      start = machine c at items turned (full c old s)

      callee_begun : Activation
      callee_begun = begun u.0 unit c.here.path (suc c.here.frame) (places_of ps a) ToCaller

      framed_with : Value
      framed_with = frame_with unit.locals (length ps) (values_of ps a)

      entered : Next
      entered = enter ((deeper_than c.here.frame >> pure (tt {0}) >> push_frame framed_with) (full c old s)) callee_begun below start

      given : given_to unit.locals (items_of ps a) nothing_given ≡ Some (actual ps a)
      given = ap (λ ls. given_to ls (items_of ps a) nothing_given) made.locals ∙ given_is_actual ps made.parameters _ a made.are

      nothing_before : (o : StepResult Logged (Unit {0})) → and_then o (λ done. push_frame framed_with) ≡ and_then (and_then o (λ done. pure (tt {0}))) (λ done. push_frame framed_with)
      nothing_before (Ok y) = refl
      nothing_before (Err e) = refl

      called : call_unit c.subject c.numbers c.code u.0 (unit_of c.code u.0 (entry.Routine u.1)) (length ps) items start ≡ entered
      called = ap (λ o. call_unit c.subject c.numbers c.code u.0 o (length ps) items start) has.found
          ∙ ap (λ o. call_with c.subject c.numbers c.code u.0 unit (length ps) o start) (stack_taken ps a below)
          ∙ ap (λ g. call_given c.subject c.numbers c.code u.0 unit (length ps) g below start) given
          ∙ ap (λ o. enter o callee_begun below start) (nothing_before (deeper_than c.here.frame (full c old s)))

      begins : Comes c.subject c.numbers c.code (Goes start) entered
      begins = step_at c at (op.Call u.0 u.1 (length ps)) [] items turned (full c old s) entered stands called

      leads : (o : StepResult Logged (Option Value)) → Ended c placed known u.0 r unit made c.here.path a ToCaller at below turned old entered s.left o → Leads c start (at + 1) free old s.left below result_item o
      leads (Err e) h = comes_then c.subject c.numbers c.code _ _ _ begins h
      leads (Ok y) h = record {
        own = old;
        turned = turned;
        comes = subst (λ k. Comes c.subject c.numbers c.code (Goes start) (Goes (machine c k (result_item y.0 ++ below) turned (full c old y.1)))) (let e : suc at ≡ at + 1 = omega arith in e) (comes_then c.subject c.numbers c.code _ _ _ begins h.0);
        kept = λ i less. refl;
        long = refl;
        same = h.1;
        fewer = h.2;
        named = result_named y.0;
      }

  -- ---- init

  abbrev p : Path
  p = c.here.path

  abbrev path_of : Instance → Path
  path_of i = child p (suc i.births)

  abbrev to_of : ℕ → Option ℕ
  to_of k = (child_of c.subject k).to

  abbrev begins_with : ℕ → ℕ → List Value → Instance → Do Logged
  begins_with m k values i = carry Logged on_log (begins_child c.subject p m i ((child_of c.subject k).with_parameters values))

  abbrev holds : ℕ → ℕ → Instance → Do Logged
  holds m k i = carry Logged on_log (holds_child c.subject p m (to_of k) (path_of i))

  -- the child is made, runs a routine, and is held
  abbrev created : ℕ → ℕ → List Value → Routine → Instance → Do Logged
  created m k values r i = N (begins_with m k values i) (path_of i) r no_arguments >>= λ ran. holds m k i

  init_runs : (m k : ℕ) (types : List Denoter) (r : Routine) (unit : CodeUnit) → IsUnit known k (bare r) unit → unit_of c.code k entry.Initialize ≡ Some unit → (a : Given (map ByValue types))
      → Does c (one (op.Init m k (length types))) (stack_of (map ByValue types) a []) (carry Logged on_log (may_begin c.subject p m k (values_of (map ByValue types) a)) >>= λ i. created m k (values_of (map ByValue types) a) (bare r) i) no_item
  unfolding row
  init_runs m k types r unit made found a fine at free turned old s below stands low room same =
      allowed (may s) (frames_kept may (carry_blind (may_begin c.subject p m k values)) s) ((carry_blind (may_begin c.subject p m k values)).fewer s)
      (step_at c at (op.Init m k (length types)) [] items turned (full c old s) _ stands
      (ap (λ o. init_with c.subject c.numbers c.code m k (unit_of c.code k entry.Initialize) o start) (values_taken types a below) ∙ ap (λ o. init_unit c.subject c.numbers c.code m k o values below start) found
      ∙ begun_is (may (full c old s)) ∙ ap begun_at ((carry_blind (may_begin c.subject p m k values)).same F s)))
    where
      values : List Value
      values = values_of (map ByValue types) a

      may : Step Logged Instance
      may = carry Logged on_log (may_begin c.subject p m k values)

      items : List Item
      items = stack_of (map ByValue types) a [] ++ below

      start : Machine
      start = machine c at items turned (full c old s)

      F : List Value
      F = joined s.frames (c.callers ++ old ∷ [])

      return : Instance → Return
      return i = ToParent m k (path_of i)

      entered : Instance → Running Logged → Next
      entered i q = enter ((deeper_than c.here.frame >> begins_with m k values i >> push_frame (frame_with unit.locals 0 [])) q) (begun k unit (path_of i) (suc c.here.frame) [] (return i)) below start

      -- what the instruction comes to where the child may begin
      begun_at : StepResult Logged Instance → Next
      begun_at (Ok z) = entered z.0 z.1
      begun_at (Err e) = Stops e.0 e.1

      -- the child is made, and its unit is entered
      making : Instance → Step Logged Path
      making i = children.begins_child c.subject p m i ((child_of c.subject k).with_parameters values)

      entered_is : (i : Instance) (o : StepResult Logged (Unit {0})) → initialize c.subject c.numbers c.code m k unit (and_then o (λ done. making i)) below start
          ≡ enter (and_then (and_then o (λ done. begins_with m k values i)) (λ done. push_frame (frame_with unit.locals 0 []))) (begun k unit (path_of i) (suc c.here.frame) [] (return i)) below start
      entered_is i (Err e) = refl
      entered_is i (Ok y) = made_is (begins_with m k values i y.1)
        where
          made_is : (o : StepResult Logged (Unit {0})) → initialize c.subject c.numbers c.code m k unit (and_then o (λ done. pure (path_of i))) below start ≡ enter (and_then o (λ done. push_frame (frame_with unit.locals 0 []))) (begun k unit (path_of i) (suc c.here.frame) [] (return i)) below start
          made_is (Ok z) = refl
          made_is (Err e) = refl

      begun_is : (o : StepResult Logged Instance) → initialize c.subject c.numbers c.code m k unit (and_then o (λ i. deeper_than c.here.frame >> making i)) below start ≡ begun_at o
      begun_is (Ok z) = entered_is z.0 (deeper_than c.here.frame z.1)
      begun_is (Err e) = refl

      -- behind its initialization
      holding : (i : Instance) (y : Running Logged) → outline y.frames ≡ c.counts → (units : ℕ) → y.left ≤ units → units ≤ s.left → (o : StepResult Logged (Unit {0})) → KeepsFrames y.frames o → AtMost y.left o
          → Comes c.subject c.numbers c.code (Goes start) (held c.subject c.numbers c.code (reframed (joined y.frames (c.callers ++ old ∷ [])) o) (waits c at below turned) c.waiting []) → Leads c start (at + 1) free old s.left below no_item o
      holding i y outlined units l few (Err e) kept less h = h
      holding i y outlined units l few (Ok w) kept less h = record {
        own = old;
        turned = turned;
        comes = subst (λ n. Comes c.subject c.numbers c.code (Goes start) (Goes (machine c n below turned (full c old w.1)))) (let e : suc at ≡ at + 1 = omega arith in e)
            (subst (λ frames. Comes c.subject c.numbers c.code (Goes start) (Goes (machine c (suc at) below turned (framed (joined frames (c.callers ++ old ∷ [])) w.1)))) (sym kept) h);
        kept = λ i less. refl;
        long = refl;
        same = ap outline kept ∙ outlined;
        fewer = omega (arith, l, few, less);
        named = tt;
      }

      ran : (i : Instance) (q : Running Logged) → q.left ≤ s.left → Comes c.subject c.numbers c.code (Goes start) (entered i (full c old q)) → (o : StepResult Logged Value)
          → Ended c placed known k (bare r) unit made (path_of i) tt (return i) at below turned old (entered i (full c old q)) q.left (and_then o (λ v. pure None)) → Leads c start (at + 1) free old s.left below no_item (and_then o (λ v. holds m k i))
      ran i q few h (Err e) g = comes_then c.subject c.numbers c.code _ _ _ h g
      ran i q few h (Ok y) g = holding i y.1 g.1 q.left g.2 few (holds m k i y.1) (frames_kept (holds m k i) (carry_blind (holds_child c.subject p m (to_of k) (path_of i))) y.1) ((carry_blind (holds_child c.subject p m (to_of k) (path_of i))).fewer y.1)
          (subst (λ o. Comes c.subject c.numbers c.code (Goes start) (held c.subject c.numbers c.code o (waits c at below turned) c.waiting [])) ((carry_blind (holds_child c.subject p m (to_of k) (path_of i))).same (joined y.1.frames (c.callers ++ old ∷ [])) y.1)
          (comes_then c.subject c.numbers c.code _ _ _ h g.0))

      allowed : (o : StepResult Logged Instance) → KeepsFrames s.frames o → AtMost s.left o → Comes c.subject c.numbers c.code (Goes start) (begun_at (reframed F o)) → Leads c start (at + 1) free old s.left below no_item (and_then o (λ i. created m k values (bare r) i))
      allowed (Err e) kept l h = h
      allowed (Ok z) kept l h = ran z.0 z.1 l (subst (λ frames. Comes c.subject c.numbers c.code (Goes start) (entered z.0 (framed (joined frames (c.callers ++ old ∷ [])) z.1))) (sym kept) h) (N (begins_with m k values z.0) (path_of z.0) (bare r) no_arguments z.1)
          (entered_does k (bare r) unit made (path_of z.0) tt (return z.0) at below turned old tt (begins_with m k values z.0) (carry_blind (begins_child c.subject p m z.0 ((child_of c.subject k).with_parameters values))) items (full c old s) z.1 (ap outline kept ∙ same))

  inits_do : (body : ℕ) (r : Routine) → IsScope c (within known body r) → (x b : Name) (es : List (model.Operand Logged)) (fs : List code.Operand) → EachAlike (OperandDoes c) es fs
      → Does c (compiled.act (within known body r) (Init x b) fs) [] (meaning.act Logged on_log c.subject known.meant N c.here (Init x b) es) no_item
  unfolding meaning.act
  inits_do body r here x b es fs h = by (known.meant x) (known.meant b)
    where
      given : ℕ → ℕ → List Denoter → Do Logged
      given m k types = give_all (map ByValue types) es no_arguments >>= λ g. carry Logged on_log (may_begin c.subject p m k g.values) >>= λ i. created m k g.values (child_of c.subject k).block i

      run : (m k : ℕ) (types : List Denoter) → known.parameters k ≡ Some types → (a : Given (map ByValue types)) → Does c (one (op.Init m k (length types))) (stack_of (map ByValue types) a [])
          (carry Logged on_log (may_begin c.subject p m k (values_of (map ByValue types) a)) >>= λ i. created m k (values_of (map ByValue types) a) (child_of c.subject k).block i) no_item
      run m k types is a = subst (λ (z : Routine). Does c (one (op.Init m k (length types))) (stack_of (map ByValue types) a []) (carry Logged on_log (may_begin c.subject p m k (values_of (map ByValue types) a)) >>= λ i. created m k (values_of (map ByValue types) a) z i) no_item) (sym (block_is c.subject k))
          (init_runs m k types (child_of c.subject k).block (is_code.initialization k types is).unit (subst (λ (z : Routine). IsUnit known k z (is_code.initialization k types is).unit) (block_is c.subject k) (is_code.initialization k types is).is) (is_code.initialization k types is).found a)

      with_types : (m k : ℕ) (o : Option (List Denoter)) → known.parameters k ≡ o → Does c (compiled.init_with (within known body r) m k o fs) [] (given m k (child_of c.subject k).parameters) no_item
      with_types m k None is = refused_does c [] (given m k (child_of c.subject k).parameters) no_item
      with_types m k (Some types) is = subst (λ (ts : List Denoter). Does c (compiled.init_with (within known body r) m k (Some types) fs) [] (given m k ts) no_item) (is_code.parameters k types is)
          (arguments_do c (within known body r) here (map ByValue types) es fs (one (op.Init m k (length types))) (λ g. carry Logged on_log (may_begin c.subject p m k g.values) >>= λ i. created m k g.values (child_of c.subject k).block i) no_item h (λ a named. run m k types is a))

      by : (y z : Meaning) → Does c (compiled.init (within known body r) y z fs) [] (meaning.init_of Logged on_log c.subject known.meant N p y z es) no_item
      by (Module m) (Body k) = with_types m k (known.parameters k) refl
      by y z = refused_does c [] breaks no_item

  statements_at : HasTemporaries c → (r : Routine) → IsScope c (within known c.body r)
      → Does c (compiled.stmts (within known c.body r) r.body) [] (stmts Logged on_log known.meant (Act known c.subject N) (call_by N c.here.path) c.here r.body) no_item
  statements_at has r here = stmts_does c placed has (within known c.body r) here (Act known c.subject N) (call_by N c.here.path) (calls_do c.body r) (acts_do c (within known c.body r) here N (inits_do c.body r here)) r.body

-- the statements of every unit do what they mean
pub statements_do : (known : Known) (n : ℕ) → StatementsDo known n
statements_do known zero c placed has deep is_code r here = statements_at known zero tt c placed deep is_code has r here
statements_do known (suc m) c placed has deep is_code r here = statements_at known (suc m) (statements_do known m) c placed deep is_code has r here

-- and so do their calls
pub depth_calls : (known : Known) (n : ℕ) (c : Site) → IsPlaced c → c.here.frame + n ≡ max_depth → IsCode c.subject c.numbers c.code known → (body : ℕ) (r : Routine) → CallsDo c (within known body r) (call_by (Nested known c.subject n) c.here.path)
depth_calls known zero c placed deep is_code body r = calls_do known zero tt c placed deep is_code body r
depth_calls known (suc m) c placed deep is_code body r = calls_do known (suc m) (statements_do known m) c placed deep is_code body r
