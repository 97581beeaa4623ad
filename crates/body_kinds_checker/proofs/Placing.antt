-- A code is of good kinds where its units are, one after another.
use Rattle.std.proofs.Common.{◌≡◌, ◌∙◌, refl, sym, ap, subst, ℕ, Bool, true, false, cond, List, [], ◌∷◌, length, Option, Some, None, arith}
use Rattle.std.specs.Prelude.{nat_eq, slice_get}
use Rattle.std.specs.Map.{lookup}
use Rattle.body_code.specs.declared.instr.Instr.{Instr}
use Rattle.body_code.specs.declared.unit.Entry.{Entry}
use Rattle.body_code.specs.declared.unit.Entry.TheVariants as entry
use Rattle.body_code.specs.declared.unit.CodeUnit.{CodeUnit}
use Rattle.body_code.specs.Units.{Place, placed, same_entry, same_place, is_at, unit_of}
use Rattle.estelle_model.specs.Subject.{Subject}
use Rattle.estelle_model_legality.proofs.Lists.{and_both, same_number}
use Rattle.body_numbers.specs.declared.numbers.Numbers.{Numbers}
use Rattle.body_kinds.specs.Kinded.{Claims, IsKinded}
use Rattle.body_kinds.specs.Good.{HasUnits, HasGoodKinds}
use Rattle.body_kinds_checker.specs.Placed.{IsGood, AreGood}

entry_is : (a b : Entry) → same_entry a b ≡ true → a ≡ b
entry_is (entry.Routine k) (entry.Routine n) h = ap (λ (x : ℕ). entry.Routine x) (same_number k n h)
entry_is entry.Initialize entry.Initialize h = refl
entry_is (entry.Guard k) (entry.Guard n) h = ap (λ (x : ℕ). entry.Guard x) (same_number k n h)
entry_is (entry.Delay k) (entry.Delay n) h = ap (λ (x : ℕ). entry.Delay x) (same_number k n h)
entry_is (entry.Block k) (entry.Block n) h = ap (λ (x : ℕ). entry.Block x) (same_number k n h)
entry_is _ _ h = absurd (cc)

place_is : (p q : Place) → same_place p q ≡ true → p ≡ q
place_is p q h =
    let both = and_both (nat_eq p.0 q.0) (same_entry p.1 q.1) h in
    let body : p.0 ≡ q.0 = same_number p.0 q.0 both.0 in
    let e : p.1 ≡ q.1 = entry_is p.1 q.1 both.1 in
    ap (λ (b : ℕ). (b, p.1)) body ∙ ap (λ (x : Entry). (q.0, x)) e

module _ (s : Subject) (n : Numbers) (code : List CodeUnit) (claims : Claims) where
  abbrev Good : Option Place → CodeUnit → Type 0
  Good = IsGood s n code claims

  abbrev Are : List (Option Place × CodeUnit) → Type 0
  Are = AreGood s n code claims

  found : (us : List (Option Place × CodeUnit)) → Are us → (p : Place) (unit : CodeUnit) → lookup (is_at p) us ≡ Some unit → Good (Some p) unit
  found [] g p unit is = absurd (cc)
  found ((None, u) ∷ us) g p unit is = found us g.1 p unit is
  found ((Some q, u) ∷ us) g p unit is = by (same_place p q) refl is (found us g.1 p unit)
    where
      by : (b : Bool) → same_place p q ≡ b → cond b (Some u) (lookup (is_at p) us) ≡ Some unit → (lookup (is_at p) us ≡ Some unit → Good (Some p) unit) → Good (Some p) unit
      by true same i rest =
          let this : u ≡ unit = cc in
          subst (λ (x : Place). Good (Some x) unit) (sym (place_is p q same)) (subst (Good (Some q)) this g.0)
      by false same i rest = rest i

  pub are_kinded : Are (placed None code) → IsKinded s n code claims
  unfolding unit_of
  are_kinded g body e unit is = found (placed None code) g (body, e) unit is

-- with the units that are asked for
pub good_kinds : (s t : Subject) (n m : Numbers) (code : List CodeUnit) (claims : Claims) → t ≡ s → m ≡ n → HasUnits t code → IsKinded t m code claims → HasGoodKinds s n code
good_kinds s t n m code claims same numbers units kinded =
    subst (λ (x : Subject). HasGoodKinds x n code) same (subst (λ (x : Numbers). HasGoodKinds t x code) numbers (record { claims = claims; kinded = kinded; units = units }))

-- ---- two instructions

pub two_are : (instrs : List Instr) (a b : Instr) → length instrs ≡ 2 → slice_get instrs 0 ≡ Some a → slice_get instrs 1 ≡ Some b → instrs ≡ a ∷ b ∷ []
two_are [] a b l e f = absurd (cc)
two_are (x ∷ []) a b l e f = absurd (cc)
two_are (x ∷ (y ∷ [])) a b l e f = cc
two_are (x ∷ (y ∷ (z ∷ zs))) a b l e f = absurd (omega (arith, l))
