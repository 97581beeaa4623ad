-- What it is for the code of an expression, a variable or a selector to do what the meaning says, and what is known where it stands.
use Rattle.std.proofs.Common.{◌≡◌, refl, ap, ℕ, List, [], ◌∷◌, Ok, Err, Option, Some, None}
use Rattle.std.specs.Prelude.{slice_get}
use Rattle.pascal_values.specs.declared.value.Value.{Value}
use Rattle.pascal_values.specs.declared.value.Shape.{Shape}
use Rattle.body_code.specs.declared.instr.Instr.TheVariants as op
use Rattle.estelle_model.specs.States.{Logged}
use Rattle.estelle_model.specs.Steps.{Running, StepResult, Step, and_then, ◌>>=◌, pure}
use Rattle.estelle_model.specs.declared.place.Place.{Place}
use Rattle.estelle_model.specs.declared.place.Place.TheVariants.{In}
use Rattle.estelle_tree.specs.declared.tree.name.Name.{Name}
use Rattle.estelle_model.specs.declared.denoter.Denoter.{Denoter}
use Rattle.estelle_model.specs.declared.meaning.Meaning.TheVariants.{Ip}
use Rattle.estelle_model.specs.Subject.{child_of}
use Rattle.estelle_model.specs.Expressions as model
use Rattle.estelle_model.proofs.Alike.{EachAlike, MaybeAlike}
use Rattle.body_machine.specs.declared.item.Item.{Item}
use Rattle.body_machine.specs.declared.item.Item.TheVariants.{Spot}
use Rattle.body_machine.specs.Rows.{row}
use Rattle.body_machine.specs.Steps.{goes_on}
use Rattle.body_numbers.specs.Numbers.{shape_numbered, export_numbered}
use Rattle.body_machine.specs.Slots.{slot, reference_number}
use Rattle.body_compiler_pieces.specs.Pieces.{Piece, refused, one}
use Rattle.body_compiler_pieces.specs.ExpressionCode as code
use Rattle.body_compiler_pieces.specs.ExpressionCode.{Scope, by_number}
use Rattle.body_compiler_laws.specs.Compiled.{IsInteraction}
use Rattle.body_compiler_laws.proofs.Frames.{IsNamed}
use Rattle.body_compiler_laws.proofs.Does.{Site, machine, full, Does}
use Rattle.body_compiler_laws.proofs.Single.{datum, spot, leaves_does}

module _ (c : Site) where
  -- code of an expression, with its type's host and its place
  pub record OperandDoes (e : model.Operand Logged) (f : code.Operand) : Type 0 where
    pub value : Does c f.value [] e.value datum
    pub host : e.host ≡ f.host
    pub place : MaybeAlike (λ p q. Does c q [] p spot) e.place f.place

  pub record AccessDoes (a : model.Access Logged) (b : code.Access) : Type 0 where
    pub denoter : a.denoter ≡ b.denoter
    pub place : Does c b.place [] a.place spot

  pub record SelectingDoes (x : model.Selecting Logged) (y : code.Selecting) : Type 0 where
    pub over : (a : model.Access Logged) (b : code.Access) → AccessDoes a b → AccessDoes (x.over a) (y.over b)
    pub name : x.name ≡ y.name

  pub record WrittenDoes (x : model.Written Logged) (y : code.Written) : Type 0 where
    pub name : x.name ≡ y.name
    pub selectors : EachAlike SelectingDoes x.selectors y.selectors

  -- what has no code does anything
  pub refused_does : {A : Type 0} (taken : List Item) (step : Step Logged A) (left : A → List Item) → Does c refused taken step left
  refused_does taken step left fine = absurd (cc)

  pub computed_does : (h : _) (x : Step Logged Value) (p : Piece) → Does c p [] x datum → OperandDoes (model.computed h x) (code.computed h p)
  computed_does h x p d = record { value = d; host = refl; place = tt }

  pub by_number_does : (o : Option ℕ) (f : ℕ → Piece) (taken : List Item) {A : Type 0} (step : Step Logged A) (left : A → List Item) → ((i : ℕ) → o ≡ Some i → Does c (f i) taken step left) → Does c (by_number o f) taken step left
  by_number_does None f taken step left h = refused_does taken step left
  by_number_does (Some i) f taken step left h = h i refl

-- what is known where a unit is compiled
pub record IsScope (c : Site) (scope : Scope) : Type 0 where
  -- a variable of the meaning's frame is a local
  pub local : (k i : ℕ) → scope.local k ≡ Some i → (slot c.unit.locals i ≡ k) × IsNamed c.counts (In c.here.frame k [])
  -- a var parameter is one by reference, and it names a variable of the meaning
  pub reference : (k i : ℕ) → scope.reference k ≡ Some i → reference_number c.unit.locals i ≡ k
  pub named : (k : ℕ) (p : Place) → slice_get c.here.references k ≡ Some p → IsNamed c.counts p
  -- an exported variable of a child is an export of its header
  pub export : (m k i : ℕ) → scope.export m k ≡ Some i → export_numbered c.numbers c.body m i ≡ Some k
  -- shapes have their numbers
  pub number : (shape : Shape) (k : ℕ) → scope.number shape ≡ Some k → shape_numbered c.numbers k ≡ Some shape
  -- interaction points and interactions have their numbers
  pub interaction : (ip m : Name) (k i : ℕ) → scope.meant ip ≡ Ip k → scope.interaction ip m ≡ Some i → IsInteraction c.numbers scope.meant c.body ip m k i
  -- a body has its parameters
  pub parameters : (k : ℕ) (types : List Denoter) → scope.parameters k ≡ Some types → types ≡ (child_of c.subject k).parameters

module _ (c : Site) (scope : Scope) (within : IsScope c scope) where
  pub local_does : (k : ℕ) → Does c (by_number (scope.local k) (λ i. one (op.Loc i))) [] (pure (In c.here.frame k [])) spot
  unfolding row
  local_does k = by_number_does c (scope.local k) (λ i. one (op.Loc i)) [] (pure (In c.here.frame k [])) spot
      (λ i is. leaves_does c (op.Loc i) [] (Spot (In c.here.frame k [])) (In c.here.frame k []) spot refl ((within.local k i is).1, tt)
      (λ at turned old r below. ap (λ j. goes_on (Ok (Spot (In c.here.frame j []) ∷ [], full c old r)) below (machine c at below turned (full c old r))) (within.local k i is).0))

-- the same behind an outcome
pub same_then : {A B : Type 0} (o : StepResult Logged A) (f g : A → Step Logged B) → ((a : A) (r : Running Logged) → f a r ≡ g a r) → and_then o f ≡ and_then o g
same_then (Ok x) f g h = h x.0 x.1
same_then (Err e) f g h = refl

-- the one, and then the other, and then a third
pub bind_regrouped : {A B C : Type 0} (x : Step Logged A) (f : A → Step Logged B) (g : B → Step Logged C) (r : Running Logged) → (x >>= λ a. f a >>= g) r ≡ ((x >>= f) >>= g) r
bind_regrouped x f g r = by (x r)
  where
    by : (o : StepResult Logged _) → and_then o (λ a. f a >>= g) ≡ and_then (and_then o f) g
    by (Ok y) = refl
    by (Err e) = refl
