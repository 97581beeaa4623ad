-- What each other instruction takes and leaves.
use Rattle.std.proofs.Common.{◌≡◌, ◌∙◌, refl, sym, ap, subst, ℕ, true, false, ◌++◌, List, [], ◌∷◌, length, Option, Some, None, inl, inr, ℤ}
use Rattle.std.specs.Prelude.{slice_get, ◌⊎◌, IfSome}
use Rattle.pascal_values.specs.declared.value.Value.{Value}
use Rattle.pascal_values.specs.declared.value.Shape.{Shape, out-Shape}
use Rattle.pascal_values.specs.declared.value.Shape.TheVariants as shapes
use Rattle.body_code.specs.declared.instr.Point as point
use Rattle.body_code.specs.declared.instr.Ends as ends
use Rattle.body_code.specs.declared.instr.Instr.{Instr}
use Rattle.body_code.specs.declared.instr.Instr.TheVariants as op
use Rattle.body_code.specs.declared.unit.Entry.TheVariants as entry
use Rattle.body_code.specs.declared.unit.Local.{Local}
use Rattle.body_code.specs.declared.unit.CodeUnit.{CodeUnit}
use Rattle.body_code.specs.Units.{unit_of}
use Rattle.estelle_model.specs.declared.meaning.InteractionKind.{InteractionKind}
use Rattle.estelle_model.specs.Subject.{child_of}
use Rattle.body_numbers.specs.Numbers.{shape_numbered, word_of, interaction_of}
use Rattle.body_kinds.specs.Kinds.{Kind, Integer, PlaceOf, simple_kind, kind_of, StoresInto, itself, inside}
use Rattle.body_kinds.specs.Kinded.{Claim as Claimed, variable_shape, IsExport, given_kinds, value_kinds, TakesArguments, MayCall, push, var, loc, ref, exp, field, index, load, store, fit, blank, call, init, release, connect, disconnect, attach, detach, output}
use Rattle.body_unit_kinds.specs.declared.kind.Kind as code
use Rattle.body_unit_kinds.specs.declared.claims.Claim.{Claim}
use Rattle.body_unit_kinds.specs.declared.effects.After.{After}
use Rattle.body_unit_kinds.specs.declared.here.Here.{Here}
use Rattle.body_unit_kinds.specs.Seen.{left_of, stack_of, claimed_by, claimed}
use Rattle.body_unit_kinds.specs.Effects.{LeavesIn, HasEffect}

-- ---- shapes inside others

pub stored_itself : (outer shape : Shape) → outer ≡ shape → StoresInto outer shape
stored_itself outer shape e = subst (λ (x : Shape). StoresInto outer x) e (itself outer)

pub stored_inside : (outer item shape part : Shape) (low high least greatest : ℤ) → outer ≡ shapes.Array low high item → item ≡ shapes.Array least greatest part → StoresInto item shape → StoresInto outer shape
stored_inside outer item shape part low high least greatest e f s = inside outer item shape part low high least greatest (ap out-Shape e ∙ shapes.outs-Array low high item) (ap out-Shape f ∙ shapes.outs-Array least greatest part) s

-- ---- instructions

module _ (h : Here) where
  pub effect_push : (v : Value) (k : Kind) (ks : List Kind) → simple_kind v ≡ Some k → HasEffect h (op.Push v) ks (k ∷ []) ks
  effect_push v k ks e = record { taken = []; are = refl; leaves = push v k e }

  pub effect_var : (k : ℕ) (shape : Shape) (ks : List Kind) → h.claim.now.closed ≡ false → variable_shape h.bodies.now h.body k ≡ Some shape → HasEffect h (op.Var k) ks (PlaceOf shape ∷ []) ks
  effect_var k shape ks e f = record { taken = []; are = refl; leaves = var k shape e f }

  pub effect_loc : (k : ℕ) (l : Local) (ks : List Kind) → slice_get h.unit.now.locals k ≡ Some l → l.by_ref ≡ false → HasEffect h (op.Loc k) ks (PlaceOf l.shape ∷ []) ks
  effect_loc k l ks e f = record { taken = []; are = refl; leaves = loc k l e f }

  pub effect_ref : (k : ℕ) (l : Local) (ks : List Kind) → slice_get h.unit.now.locals k ≡ Some l → l.by_ref ≡ true → HasEffect h (op.Ref k) ks (PlaceOf l.shape ∷ []) ks
  effect_ref k l ks e f = record { taken = []; are = refl; leaves = ref k l e f }

  pub effect_exp : (m k : ℕ) (shape : Shape) (ks : List Kind) → h.claim.now.closed ≡ false → IsExport h.bodies.now h.numbers.now h.body m k shape → HasEffect h (op.Exp m k) ks (PlaceOf shape ∷ []) ks
  effect_exp m k shape ks e f = record { taken = []; are = refl; leaves = exp m k shape e f }

  pub effect_field : (k : ℕ) (shape part : Shape) (fields : List Shape) (ks rest : List Kind) → shape ≡ shapes.Fields fields → slice_get fields k ≡ Some part → ks ≡ PlaceOf shape ∷ rest
      → HasEffect h (op.Field k) ks (PlaceOf part ∷ []) rest
  effect_field k shape part fields ks rest e f g = record { taken = PlaceOf shape ∷ []; are = g; leaves = field k shape part fields (ap out-Shape e ∙ shapes.outs-Fields fields) f }

  pub effect_index : (low high : ℤ) (shape item : Shape) (ks rest : List Kind) → shape ≡ shapes.Array low high item → ks ≡ Integer ∷ PlaceOf shape ∷ rest → HasEffect h (op.Index low high) ks (PlaceOf item ∷ []) rest
  effect_index low high shape item ks rest e g = record { taken = Integer ∷ PlaceOf shape ∷ []; are = g; leaves = index low high shape item (ap out-Shape e ∙ shapes.outs-Array low high item) }

  pub effect_load : (shape : Shape) (ks rest : List Kind) → ks ≡ PlaceOf shape ∷ rest → HasEffect h op.Load ks (kind_of shape ∷ []) rest
  effect_load shape ks rest g = record { taken = PlaceOf shape ∷ []; are = g; leaves = load shape }

  pub effect_store : (k : ℕ) (outer shape : Shape) (ks rest : List Kind) → shape_numbered h.numbers.now k ≡ Some outer → StoresInto outer shape → ks ≡ kind_of shape ∷ PlaceOf shape ∷ rest → HasEffect h (op.Store k) ks [] rest
  effect_store k outer shape ks rest e f g = record { taken = kind_of shape ∷ PlaceOf shape ∷ []; are = g; leaves = store k outer shape e f }

  pub effect_fit : (k : ℕ) (shape : Shape) (value : Kind) (ks rest : List Kind) → shape_numbered h.numbers.now k ≡ Some shape → value ≡ kind_of shape → ks ≡ value ∷ rest → HasEffect h (op.Fit k) ks (value ∷ []) rest
  effect_fit k shape value ks rest e f g = subst (λ (x : Kind). HasEffect h (op.Fit k) ks (x ∷ []) rest) (sym f) (record { taken = kind_of shape ∷ []; are = cc; leaves = fit k shape e })

  pub effect_blank : (shape : Shape) (ks rest : List Kind) → ks ≡ PlaceOf shape ∷ rest → HasEffect h op.Blank ks [] rest
  effect_blank shape ks rest g = record { taken = PlaceOf shape ∷ []; are = g; leaves = blank shape }

  -- of what is claimed of the routine that is called
  pub effect_call : (b r count : ℕ) (unit : CodeUnit) (claim : Claim) (left ks rest : List Kind) → unit_of h.code.now b (entry.Routine r) ≡ Some unit → claimed h.claims.now b (entry.Routine r) ≡ claimed_by (Some claim)
      → (claim.closed ≡ true) ⊎ ((h.claim.now.closed ≡ false) × (b ≡ h.body)) → TakesArguments count unit → stack_of claim.result ≡ left → ks ≡ given_kinds count unit.locals ++ rest → HasEffect h (op.Call b r count) ks left rest
  effect_call b r count unit claim left ks rest e is may takes l g =
      subst (λ (x : List Kind). HasEffect h (op.Call b r count) ks x rest) (ap (λ (c : Claimed). c.result) is ∙ l) (record { taken = given_kinds count unit.locals; are = g; leaves = call b r count unit e (may_call may) takes })
    where
      may_call : (claim.closed ≡ true) ⊎ ((h.claim.now.closed ≡ false) × (b ≡ h.body)) → MayCall h.bodies.now h.numbers.now h.code.now (claimed h.claims.now) h.body h.claim.now.closed b r
      may_call (inl c) = inl (ap (λ (c : Claimed). c.closed) is ∙ c)
      may_call (inr c) = inr c

  pub effect_init : (m b count : ℕ) (unit : CodeUnit) (ks rest : List Kind) → h.claim.now.closed ≡ false → unit_of h.code.now b entry.Initialize ≡ Some unit → count ≡ length (child_of h.bodies.now b).parameters
      → ks ≡ value_kinds (child_of h.bodies.now b).parameters ++ rest → HasEffect h (op.Init m b count) ks [] rest
  effect_init m b count unit ks rest c e n g = record { taken = value_kinds (child_of h.bodies.now b).parameters; are = g; leaves = init m b count unit c e n }

  pub effect_output : (ip i count : ℕ) (word : List ℕ) (kind : InteractionKind) (ks rest : List Kind) → h.claim.now.closed ≡ false → word_of h.numbers.now h.body ip ≡ Some word → interaction_of h.numbers.now h.body ip i ≡ Some kind
      → count ≡ length kind.parameters → ks ≡ value_kinds kind.parameters ++ rest → HasEffect h (op.Output ip i count) ks [] rest
  effect_output ip i count word kind ks rest c e f n g = record { taken = value_kinds kind.parameters; are = g; leaves = output ip i count word kind c e f n }

-- of an instruction that was matched
pub effect_of : (h : Here) (i j : Instr) (ks left rest : List Kind) → i ≡ j → HasEffect h j ks left rest → HasEffect h i ks left rest
effect_of h i j ks left rest e f = subst (λ (x : Instr). HasEffect h x ks left rest) (sym e) f

-- the same of what a call told
pub effect_some : (h : Here) (r : Option After) (i j : Instr) (ks : List Kind) → i ≡ j → IfSome r (λ a. HasEffect h j ks (left_of a.left) (stack_of a.rest.now)) → IfSome r (λ a. HasEffect h i ks (left_of a.left) (stack_of a.rest.now))
effect_some h None i j ks e f = f
effect_some h (Some a) i j ks e f = effect_of h i j ks (left_of a.left) (stack_of a.rest.now) e f

-- an instruction that takes and leaves nothing and needs the instance
abbrev pub NeedsInstance : Here → Instr → Type 0
NeedsInstance h i = h.claim.now.closed ≡ false → LeavesIn h i [] []

pub effect_statement : (h : Here) (r : Option After) (i j : Instr) (ks : List Kind) → i ≡ j → NeedsInstance h j → IfSome r (λ a. (h.claim.now.closed ≡ false) × (a.left ≡ None) × (ks ≡ stack_of a.rest.now))
    → IfSome r (λ a. HasEffect h i ks (left_of a.left) (stack_of a.rest.now))
effect_statement h None i j ks e needs f = f
effect_statement h (Some a) i j ks e needs f =
    effect_of h i j ks (left_of a.left) (stack_of a.rest.now) e
    (subst (λ (x : Option code.Kind). HasEffect h j ks (left_of x) (stack_of a.rest.now)) (sym f.1) (record { taken = []; are = f.2; leaves = needs f.0 }))

pub statement_release : (h : Here) (modvar : ℕ) → NeedsInstance h (op.Release modvar)
statement_release h modvar c = release modvar c

pub statement_connect : (h : Here) (x y : point.Point) → NeedsInstance h (op.Connect x y)
statement_connect h x y c = connect x y c

pub statement_disconnect : (h : Here) (x : ends.Ends) → NeedsInstance h (op.Disconnect x)
statement_disconnect h x c = disconnect x c

pub statement_attach : (h : Here) (upper : ℕ) (lower : point.Point) → NeedsInstance h (op.Attach upper lower)
statement_attach h upper lower c = attach upper lower c

pub statement_detach : (h : Here) (ip : ℕ) → NeedsInstance h (op.Detach ip)
statement_detach h ip c = detach ip c
