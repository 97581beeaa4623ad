-- A loop is of good kinds; a jump back without a turn is not.
use Rattle.std.proofs.Common.{◌≡◌, ◌∙◌, refl, sym, ap, subst, ℕ, zero, suc, Bool, true, false, ◌&&◌, length, List, [], ◌∷◌, Some, ℤ, pos, arith}
use Rattle.pascal_values.specs.declared.fault.Fault.TheVariants.{Range}
use Rattle.pascal_values.specs.declared.value.Value.TheVariants as pascal
use Rattle.pascal_values.specs.declared.value.Shape.{Shape}
use Rattle.pascal_values.specs.declared.value.Shape.TheVariants as shape
use Rattle.body_code.specs.declared.instr.Instr.{Instr}
use Rattle.body_code.specs.declared.instr.Instr.TheVariants as op
use Rattle.body_code.specs.declared.unit.CodeUnit.{CodeUnit}
use Rattle.body_code.specs.declared.unit.Heading.TheVariants.{Initialize}
use Rattle.pascal_values.specs.Integers.{is_between}
use Rattle.estelle_model.specs.declared.denoter.Host.TheVariants as host
use Rattle.estelle_model.specs.declared.denoter.Denoter.TheVariants as denoter
use Rattle.estelle_model.specs.declared.meaning.InteractionKind.{InteractionKind}
use Rattle.estelle_model.specs.Belonging.{belongs, are_values_of}
use Rattle.estelle_model.proofs.Fitting.{shape_ordinal, belongs_int}
use Rattle.estelle_model.specs.Subject.{Subject}
use Rattle.body_numbers.specs.declared.numbers.Numbers.{Numbers}
use Rattle.body_numbers.specs.Numbers.{shape_numbered, word_of, interaction_of}
use Rattle.body_kinds.specs.Kinds.{Kind, Integer, Boolean, PlaceOf, simple_kind_at, kind_at, kind_of, itself}
use Rattle.body_kinds.specs.Kinded.{Table, Claims, variable_shape, value_kinds, Leaves, output, push, var, load, store, add, lt, Stands, straight, jump, jfalse, turn, ret, fail, IsFine, IsKindedUnit}

-- the unit of an initialization with these instructions
abbrev unit_with : List Instr → CodeUnit
unit_with instrs = record { heading = Initialize; locals = []; instrs = instrs }

module _ (s : Subject) (n : Numbers) (code : List CodeUnit) (claims : Claims) where
  -- ---- while v < 2 do v := v + 1

  module _ (low high : ℤ) (declared : variable_shape s 0 0 ≡ Some (shape.Int low high)) (numbered : shape_numbered n 0 ≡ Some (shape.Int low high)) where
    abbrev int : Shape
    int = shape.Int low high

    abbrev loop : CodeUnit
    loop = unit_with (op.Jump 7 ∷ op.Var 0 ∷ op.Var 0 ∷ op.Load ∷ op.Push (pascal.Int (pos 1)) ∷ op.Add ∷ op.Store 0 ∷ op.Var 0 ∷ op.Load ∷ op.Push (pascal.Int (pos 2)) ∷ op.Lt ∷ op.Jfalse 14 ∷ op.Turn ∷ op.Jump 1 ∷ op.Ret ∷ [])

    abbrev stacks : Table
    stacks = record { closed = false; stacks = Some ([]) ∷ Some ([]) ∷ Some (PlaceOf int ∷ []) ∷ Some (PlaceOf int ∷ PlaceOf int ∷ []) ∷ Some (Integer ∷ PlaceOf int ∷ []) ∷ Some (Integer ∷ Integer ∷ PlaceOf int ∷ []) ∷ Some (Integer ∷ PlaceOf int ∷ []) ∷ Some ([]) ∷ Some (PlaceOf int ∷ []) ∷ Some (Integer ∷ []) ∷ Some (Integer ∷ Integer ∷ []) ∷ Some (Boolean ∷ []) ∷ Some ([]) ∷ Some ([]) ∷ Some ([]) ∷ []; result = [] }

    is_int : kind_of int ≡ Integer
    is_int = ap (λ os. kind_at os int) (shape.outs-Int low high)

    pushed : (k : ℤ) → Leaves s n code claims 0 false [] (op.Push (pascal.Int k)) [] (Integer ∷ [])
    pushed k = push (pascal.Int k) Integer (ap simple_kind_at (pascal.outs-Int k))

    loaded : Leaves s n code claims 0 false [] op.Load (PlaceOf int ∷ []) (Integer ∷ [])
    loaded = subst (λ (k : Kind). Leaves s n code claims 0 false [] op.Load (PlaceOf int ∷ []) (k ∷ [])) is_int (load int)

    stored : Leaves s n code claims 0 false [] (op.Store 0) (Integer ∷ PlaceOf int ∷ []) []
    stored = subst (λ (k : Kind). Leaves s n code claims 0 false [] (op.Store 0) (k ∷ PlaceOf int ∷ []) []) is_int (store 0 int int numbered (itself int))

    abbrev Fine : ℕ → List Kind → Type 0
    Fine address ks = IsFine s n code claims 0 loop stacks address ks

    each_fine : (address : ℕ) (ks : List Kind) → Stands s n code claims 0 loop stacks address ks → Fine address ks
    each_fine zero ks e = let is : [] ≡ ks = cc in subst (Fine 0) is (record { instr = op.Jump 7; there = refl; leads = jump 7 [] (refl, refl) })
    each_fine (suc zero) ks e = let is : [] ≡ ks = cc in subst (Fine 1) is (record { instr = op.Var 0; there = refl; leads = straight (op.Var 0) ([]) (PlaceOf int ∷ []) ([]) (var 0 int refl declared) (refl, refl) })
    each_fine (suc (suc zero)) ks e = let is : PlaceOf int ∷ [] ≡ ks = cc in subst (Fine 2) is (record { instr = op.Var 0; there = refl; leads = straight (op.Var 0) ([]) (PlaceOf int ∷ []) (PlaceOf int ∷ []) (var 0 int refl declared) (refl, refl) })
    each_fine (suc (suc (suc zero))) ks e = let is : PlaceOf int ∷ PlaceOf int ∷ [] ≡ ks = cc in subst (Fine 3) is (record { instr = op.Load; there = refl; leads = straight (op.Load) (PlaceOf int ∷ []) (Integer ∷ []) (PlaceOf int ∷ []) (loaded) (refl, refl) })
    each_fine (suc (suc (suc (suc zero)))) ks e = let is : Integer ∷ PlaceOf int ∷ [] ≡ ks = cc in subst (Fine 4) is (record { instr = op.Push (pascal.Int (pos 1)); there = refl; leads = straight (op.Push (pascal.Int (pos 1))) ([]) (Integer ∷ []) (Integer ∷ PlaceOf int ∷ []) (pushed (pos 1)) (refl, refl) })
    each_fine (suc (suc (suc (suc (suc zero))))) ks e = let is : Integer ∷ Integer ∷ PlaceOf int ∷ [] ≡ ks = cc in subst (Fine 5) is (record { instr = op.Add; there = refl; leads = straight (op.Add) (Integer ∷ Integer ∷ []) (Integer ∷ []) (PlaceOf int ∷ []) (add Integer refl) (refl, refl) })
    each_fine (suc (suc (suc (suc (suc (suc zero)))))) ks e = let is : Integer ∷ PlaceOf int ∷ [] ≡ ks = cc in subst (Fine 6) is (record { instr = op.Store 0; there = refl; leads = straight (op.Store 0) (Integer ∷ PlaceOf int ∷ []) ([]) ([]) (stored) (refl, refl) })
    each_fine (suc (suc (suc (suc (suc (suc (suc zero))))))) ks e = let is : [] ≡ ks = cc in subst (Fine 7) is (record { instr = op.Var 0; there = refl; leads = straight (op.Var 0) ([]) (PlaceOf int ∷ []) ([]) (var 0 int refl declared) (refl, refl) })
    each_fine (suc (suc (suc (suc (suc (suc (suc (suc zero)))))))) ks e = let is : PlaceOf int ∷ [] ≡ ks = cc in subst (Fine 8) is (record { instr = op.Load; there = refl; leads = straight (op.Load) (PlaceOf int ∷ []) (Integer ∷ []) ([]) (loaded) (refl, refl) })
    each_fine (suc (suc (suc (suc (suc (suc (suc (suc (suc zero))))))))) ks e = let is : Integer ∷ [] ≡ ks = cc in subst (Fine 9) is (record { instr = op.Push (pascal.Int (pos 2)); there = refl; leads = straight (op.Push (pascal.Int (pos 2))) ([]) (Integer ∷ []) (Integer ∷ []) (pushed (pos 2)) (refl, refl) })
    each_fine (suc (suc (suc (suc (suc (suc (suc (suc (suc (suc zero)))))))))) ks e = let is : Integer ∷ Integer ∷ [] ≡ ks = cc in subst (Fine 10) is (record { instr = op.Lt; there = refl; leads = straight (op.Lt) (Integer ∷ Integer ∷ []) (Boolean ∷ []) ([]) (lt Integer refl) (refl, refl) })
    each_fine (suc (suc (suc (suc (suc (suc (suc (suc (suc (suc (suc zero))))))))))) ks e = let is : Boolean ∷ [] ≡ ks = cc in subst (Fine 11) is (record { instr = op.Jfalse 14; there = refl; leads = jfalse 14 [] (omega arith) (refl, refl) (refl, refl) })
    each_fine (suc (suc (suc (suc (suc (suc (suc (suc (suc (suc (suc (suc zero)))))))))))) ks e = let is : [] ≡ ks = cc in subst (Fine 12) is (record { instr = op.Turn; there = refl; leads = turn [] refl })
    each_fine (suc (suc (suc (suc (suc (suc (suc (suc (suc (suc (suc (suc (suc zero))))))))))))) ks e = let is : [] ≡ ks = cc in subst (Fine 13) is (record { instr = op.Jump 1; there = refl; leads = jump 1 [] (refl, refl) })
    each_fine (suc (suc (suc (suc (suc (suc (suc (suc (suc (suc (suc (suc (suc (suc zero)))))))))))))) ks e = let is : [] ≡ ks = cc in subst (Fine 14) is (record { instr = op.Ret; there = refl; leads = ret })
    each_fine (suc (suc (suc (suc (suc (suc (suc (suc (suc (suc (suc (suc (suc (suc (suc address))))))))))))))) ks e = absurd (cc)

    loop_is_kinded : IsKindedUnit s n code claims 0 loop stacks
    loop_is_kinded = record { begins = (refl, refl); each = each_fine; values = refl }

  -- ---- 0 jump 0

  abbrev endless : CodeUnit
  endless = unit_with (op.Jump 0 ∷ [])

  endless_is_not : (t : Table) → IsKindedUnit s n code claims 0 endless t → ⊥
  endless_is_not t h = let e : true ≡ false = h.begins.1 in absurd (cc)

  -- ---- 0 fail Range

  abbrev failing : CodeUnit
  failing = unit_with (op.Fail Range ∷ [])

  abbrev empty : Table
  empty = record { closed = true; stacks = Some [] ∷ []; result = [] }

  each_fails : (address : ℕ) (ks : List Kind) → Stands s n code claims 0 failing empty address ks → IsFine s n code claims 0 failing empty address ks
  each_fails zero ks e = record { instr = op.Fail Range; there = refl; leads = fail Range ks }
  each_fails (suc address) ks e = absurd (cc)

  failing_is_kinded : IsKindedUnit s n code claims 0 failing empty
  failing_is_kinded = record { begins = (refl, refl); each = each_fails; values = refl }

  -- ---- kinds have no bounds

  -- an output of an integer, whatever the bounds of its parameter
  output_is_kinded : (body ip interaction : ℕ) (word : List ℕ) (kind : InteractionKind) (low high : ℤ) → kind.parameters ≡ denoter.Ordinal host.Integer low high ∷ [] → word_of n body ip ≡ Some word → interaction_of n body ip interaction ≡ Some kind
      → Leaves s n code claims body false [] (op.Output ip interaction 1) (Integer ∷ []) []
  output_is_kinded body ip interaction word kind low high is w k =
      subst (λ (ks : List Kind). Leaves s n code claims body false [] (op.Output ip interaction 1) ks []) (ap value_kinds is ∙ ap (λ (x : Kind). x ∷ []) (ap kind_of (shape_ordinal host.Integer low high) ∙ ap (λ os. kind_at os (shape.Int low high)) (shape.outs-Int low high)))
      (output ip interaction 1 word kind refl w k (sym (ap length is)))

  -- and its own rule refuses one beyond them
  beyond_is_no_value : (low high k : ℤ) → is_between low high k ≡ false → are_values_of (denoter.Ordinal host.Integer low high ∷ []) (pascal.Int k ∷ []) ≡ false
  beyond_is_no_value low high k e = ap (λ (b : Bool). b && true) (ap (λ (x : Shape). belongs x (pascal.Int k)) (shape_ordinal host.Integer low high) ∙ belongs_int low high k ∙ e)
