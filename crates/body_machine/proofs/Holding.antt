-- Instructions that are done at once come to what they come to one by one.
use Rattle.std.proofs.Common.{◌≡◌, refl, sym, ap, subst, ◌∙◌, ℕ, zero, suc, true, false, List, ◌∷◌, Option, Some, None, Result, Ok, Err}
use Rattle.std.specs.Prelude.{slice_get, IfSome}
use Rattle.pascal_values.specs.declared.value.Value.{Value}
use Rattle.body_code.specs.declared.instr.Instr.{Instr}
use Rattle.body_code.specs.declared.instr.Instr.TheVariants as op
use Rattle.body_code.specs.declared.unit.CodeUnit.{CodeUnit}
use Rattle.estelle_model.specs.Places.{load}
use Rattle.pascal_values.specs.declared.value.Shape.{Shape}
use Rattle.estelle_model.specs.States.{Logged, on_log}
use Rattle.estelle_model.specs.Stops as model
use Rattle.estelle_model.specs.Steps.{Running, StepResult, and_then, ◌>>=◌}
use Rattle.estelle_model.specs.Subject.{Subject}
use Rattle.body_values.specs.declared.stop.Stop.{Stop}
use Rattle.body_values.specs.declared.stop.Stop.TheVariants as stop
use Rattle.body_numbers.specs.declared.numbers.Numbers.{Numbers}
use Rattle.body_numbers.specs.Numbers.{shape_numbered}
use Rattle.body_machine.specs.declared.ahead.Variable.{Variable}
use Rattle.body_machine.specs.declared.ahead.Variable.TheVariants.{Own, Local}
use Rattle.body_machine.specs.declared.operators.Binary.{Binary}
use Rattle.body_machine.specs.declared.operators.Unary.TheVariants as unary
use Rattle.body_machine.specs.Operations.{binary_value}
use Rattle.body_machine.specs.Machine.{Item, Datum, Spot, Machine, Next, Goes, Ends, Stops}
use Rattle.body_machine.specs.Rows.{Row, JumpsWhere, row, pushing, loading, computing, combining, storing, fitting, leaves, gives}
use Rattle.body_machine.specs.Steps.{goes_on, by_row, act, next, run, Comes}
use Rattle.body_machine.specs.Seen.{IsNext}
use Rattle.body_machine.specs.Ahead.{pushed_by, place_in, holding, IsLoadOf, Computes, IsOperator, Loads, joined_to, IsMade, HasMade, HasGone}

pub computes : (i j : Instr) (o : Binary) → i ≡ j → Computes j o → Computes i o
computes i j o is h = λ s n a. ap (row s n a) is ∙ h s n a

-- an instruction with an operator is at an address
pub operates : (r : Option Binary) (i : Instr) (instrs : List Instr) (k : ℕ) → slice_get instrs k ≡ Some i → IfSome r (λ o. Computes i o) → IfSome r (λ o. IsOperator instrs k o)
operates (Some o) i instrs k there h = (i, there, h)
operates None i instrs k there h = tt

module _ (s : Subject) (n : Numbers) (code : List CodeUnit) where
  pub still_ended : (k : ℕ) (items : List Item) (r : Running Logged) → run s n code k (Ends items r) ≡ Ends items r
  still_ended zero items r = refl
  still_ended (suc k) items r = refl

  pub still_stopped : (k : ℕ) (by : model.Stop) (left : ℕ) → run s n code k (Stops by left) ≡ Stops by left
  still_stopped zero by left = refl
  still_stopped (suc k) by left = refl

  -- first to one, and from there to another
  pub comes_then : (j : ℕ) (x y z : Next) → run s n code j x ≡ y → Comes s n code y z → Comes s n code x z
  comes_then zero x y z e to = subst (λ u. Comes s n code u z) (sym e) to
  comes_then (suc j) (Goes m) y z e to = let more = comes_then j (next s n code m) y z e to in (suc more.0, more.1)
  comes_then (suc j) (Ends items r) y z e to = subst (λ u. Comes s n code u z) (sym e) to
  comes_then (suc j) (Stops by left) y z e to = subst (λ u. Comes s n code u z) (sym e) to

  -- ---- what values are made by

  pub made_gone : (x : Next) (v : Value) (mid new : Machine) (r : Result (Unit {0}) Stop) → HasMade s n code x (Ok v) mid → HasGone s n code (Goes (holding v mid)) r new → HasGone s n code x r new
  made_gone x v mid new r first then = let all = comes_then first.0 x (Goes (holding v mid)) (run s n code then.0 (Goes (holding v mid))) first.1 (then.0, refl) in (all.0, subst (λ (y : Next). IsNext y r new) (sym all.1) then.1)

  -- what stops a value stops the machine
  pub unmade : (x : Next) (e : Stop) (new : Machine) → HasMade s n code x (Err e) new → HasGone s n code x (Err e) new
  unmade x (stop.Fault f) new h = h
  unmade x stop.Broken new h = h
  unmade x stop.Memory new h = h

  -- ---- instructions

  -- the instruction at the address does what its row says
  at_row : (m : Machine) (i : Instr) (r : Row) → slice_get m.active.unit.instrs m.active.address ≡ Some i → row s n m.active i ≡ r → next s n code m ≡ by_row s n code r m.active.stack m
  unfolding next
  at_row m i r there is = ap (λ (o : Option Instr). act s n code o m) there ∙ ap (λ x. by_row s n code x m.active.stack m) is

  module _ (m : Machine) (x : Variable) where
    abbrev place : Item
    place = Spot (place_in m.active x)

    abbrev beside : Machine
    beside = record m { active = record m.active { address = suc m.active.address; stack = place ∷ m.active.stack } }

    row_is : (y : Variable) → row s n m.active (pushed_by y) ≡ pushing (Spot (place_in m.active y))
    unfolding row
    row_is (Own k) = refl
    row_is (Local k) = refl

    load_is : row s n beside.active op.Load ≡ loading
    unfolding row
    load_is = refl

    loads : IsLoadOf m x → Comes s n code (next s n code m) (goes_on ((load Logged on_log (place_in m.active x) >>= λ v. leaves (Datum v)) m.running) m.active.stack beside)
    loads h = (1, ap (run s n code 1) (at_row m (pushed_by x) (pushing place) h.0 (row_is x)) ∙ at_row beside op.Load loading h.1 load_is)

    abbrev after : StepResult Logged Value → Next
    after o = goes_on (and_then o (λ v. leaves (Datum v))) m.active.stack beside

    pub loads_made : (r : Result Value Stop) (new : Machine) → IsLoadOf m x → Loads m x r new → HasMade s n code (next s n code m) r new
    loads_made (Ok v) new h l = let to = loads h in (to.0, to.1 ∙ ap after l.0 ∙ ap (λ (y : Machine). Goes (holding v y)) (sym l.1))
    loads_made (Err (stop.Fault f)) new h l = let to = loads h in (to.0, to.1 ∙ ap after l)
    loads_made (Err stop.Broken) new h l = let to = loads h in (to.0, to.1 ∙ ap after l)
    loads_made (Err stop.Memory) new h l = (0, tt)

  -- ---- a value that is held apart

  module _ (m : Machine) (v : Value) where
    pub as_it_is : (new : Machine) → new ≡ m → HasMade s n code (Goes (holding v m)) (Ok v) new
    as_it_is new is = (0, ap (λ (y : Machine). Goes (holding v y)) (sym is))

    -- what is computed of it and a constant
    module _ (w : Value) (o : Binary) (first : slice_get m.active.unit.instrs m.active.address ≡ Some (op.Push w)) (second : IsOperator m.active.unit.instrs (suc m.active.address) o) where
      abbrev above : Machine
      above = record m { active = record m.active { address = suc m.active.address; stack = Datum w ∷ (Datum v ∷ m.active.stack) } }

      push_is : row s n (holding v m).active (op.Push w) ≡ pushing (Datum w)
      unfolding row
      push_is = refl

      apart : (r : Result Value model.Stop) → goes_on (gives r m.running) m.active.stack above ≡ joined_to r m
      apart (Ok u) = refl
      apart (Err e) = refl

      joins : Comes s n code (Goes (holding v m)) (joined_to (binary_value o v w) m)
      joins = (2, ap (run s n code 1) (at_row (holding v m) (op.Push w) (pushing (Datum w)) first push_is) ∙ at_row above second.0 (combining o) second.1 (second.2 s n above.active) ∙ apart (binary_value o v w))

      pub joins_made : (r : Result Value Stop) (new : Machine) → IsMade (joined_to (binary_value o v w) m) r new → HasMade s n code (Goes (holding v m)) r new
      joins_made r new h = (joins.0, subst (λ (y : Next). IsMade y r new) (sym joins.1) h)

    -- what is computed of the value below it and of it
    pub meets_made : (o : Binary) (r : Result Value Stop) (new : Machine) → IsOperator m.active.unit.instrs m.active.address o → IsMade (by_row s n code (combining o) (Datum v ∷ m.active.stack) (holding v m)) r new → HasMade s n code (Goes (holding v m)) r new
    meets_made o r new there h = (1, subst (λ (y : Next). IsMade y r new) (sym (at_row (holding v m) there.0 (combining o) there.1 (there.2 s n (holding v m).active))) h)

    -- ---- what takes it

    taken_by : (i : Instr) (r : Row) (result : Result (Unit {0}) Stop) (new : Machine) → slice_get m.active.unit.instrs m.active.address ≡ Some i → row s n (holding v m).active i ≡ r → IsNext (by_row s n code r (Datum v ∷ m.active.stack) (holding v m)) result new → HasGone s n code (Goes (holding v m)) result new
    taken_by i r result new there is h = (1, subst (λ (x : Next). IsNext x result new) (sym (at_row (holding v m) i r there is)) h)

    pub by_jfalse : (to : ℕ) (i : Instr) (result : Result (Unit {0}) Stop) (new : Machine) → slice_get m.active.unit.instrs m.active.address ≡ Some i → i ≡ op.Jfalse to → IsNext (by_row s n code (JumpsWhere false to) (Datum v ∷ m.active.stack) (holding v m)) result new → HasGone s n code (Goes (holding v m)) result new
    unfolding row
    by_jfalse to i result new there is h = taken_by i (JumpsWhere false to) result new there (ap (row s n (holding v m).active) is) h

    pub by_jtrue : (to : ℕ) (i : Instr) (result : Result (Unit {0}) Stop) (new : Machine) → slice_get m.active.unit.instrs m.active.address ≡ Some i → i ≡ op.Jtrue to → IsNext (by_row s n code (JumpsWhere true to) (Datum v ∷ m.active.stack) (holding v m)) result new → HasGone s n code (Goes (holding v m)) result new
    unfolding row
    by_jtrue to i result new there is h = taken_by i (JumpsWhere true to) result new there (ap (row s n (holding v m).active) is) h

    pub by_store : (k : ℕ) (i : Instr) (shape : Option Shape) (result : Result (Unit {0}) Stop) (new : Machine) → slice_get m.active.unit.instrs m.active.address ≡ Some i → i ≡ op.Store k → shape ≡ shape_numbered n k → IsNext (by_row s n code (storing shape) (Datum v ∷ m.active.stack) (holding v m)) result new → HasGone s n code (Goes (holding v m)) result new
    unfolding row
    by_store k i shape result new there is by h = taken_by i (storing shape) result new there (ap (row s n (holding v m).active) is ∙ ap storing (sym by)) h

    -- ---- what is made of it alone

    changed_by : (i : Instr) (r : Row) (result : Result Value Stop) (new : Machine) → slice_get m.active.unit.instrs m.active.address ≡ Some i → row s n (holding v m).active i ≡ r → IsMade (by_row s n code r (Datum v ∷ m.active.stack) (holding v m)) result new → HasMade s n code (Goes (holding v m)) result new
    changed_by i r result new there is h = (1, subst (λ (x : Next). IsMade x result new) (sym (at_row (holding v m) i r there is)) h)

    pub by_succ : (i : Instr) (result : Result Value Stop) (new : Machine) → slice_get m.active.unit.instrs m.active.address ≡ Some i → i ≡ op.Succ → IsMade (by_row s n code (computing unary.Succ) (Datum v ∷ m.active.stack) (holding v m)) result new → HasMade s n code (Goes (holding v m)) result new
    unfolding row
    by_succ i result new there is h = changed_by i (computing unary.Succ) result new there (ap (row s n (holding v m).active) is) h

    pub by_pred : (i : Instr) (result : Result Value Stop) (new : Machine) → slice_get m.active.unit.instrs m.active.address ≡ Some i → i ≡ op.Pred → IsMade (by_row s n code (computing unary.Pred) (Datum v ∷ m.active.stack) (holding v m)) result new → HasMade s n code (Goes (holding v m)) result new
    unfolding row
    by_pred i result new there is h = changed_by i (computing unary.Pred) result new there (ap (row s n (holding v m).active) is) h

    pub by_fit : (k : ℕ) (i : Instr) (shape : Option Shape) (result : Result Value Stop) (new : Machine) → slice_get m.active.unit.instrs m.active.address ≡ Some i → i ≡ op.Fit k → shape ≡ shape_numbered n k → IsMade (by_row s n code (fitting shape) (Datum v ∷ m.active.stack) (holding v m)) result new → HasMade s n code (Goes (holding v m)) result new
    unfolding row
    by_fit k i shape result new there is by h = changed_by i (fitting shape) result new there (ap (row s n (holding v m).active) is ∙ ap fitting (sym by)) h
