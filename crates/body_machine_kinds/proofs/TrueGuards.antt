-- A guard that says true leaves it, whatever it is given.
use Rattle.std.proofs.Common.{◌≡◌, ◌∙◌, refl, sym, ap, subst, ℕ, zero, suc, true, List, [], ◌∷◌, Option, Some, Ok}
use Rattle.std.specs.Prelude.{slice_get}
use Rattle.pascal_values.specs.declared.value.Value.{Value}
use Rattle.pascal_values.specs.declared.value.Value.TheVariants as pascal
use Rattle.estelle_tree.specs.Paths.{Path}
use Rattle.body_code.specs.declared.instr.Instr.{Instr}
use Rattle.body_code.specs.declared.unit.CodeUnit.{CodeUnit}
use Rattle.estelle_model.specs.States.{Logged}
use Rattle.estelle_model.specs.Steps.{Running, StepResult}
use Rattle.estelle_model.specs.Subject.{Subject}
use Rattle.body_numbers.specs.declared.numbers.Numbers.{Numbers}
use Rattle.body_machine.specs.declared.item.Item.{Item}
use Rattle.body_machine.specs.declared.item.Item.TheVariants.{Datum}
use Rattle.body_machine.specs.Machine.{Machine, Next, Goes, Ends}
use Rattle.body_machine.specs.Rows.{row}
use Rattle.body_machine.specs.Steps.{act, next, run}
use Rattle.body_machine_meaning.specs.Executed.{started, ended}
use Rattle.body_kinds.specs.Kinded.{SaysTrue}
use Rattle.body_machine_kinds.specs.NeverStuck.{TrueGuardsSayTrue}

module _ (s : Subject) (n : Numbers) (code : List CodeUnit) (body : ℕ) (unit : CodeUnit) (is : SaysTrue unit) (path : Path) (values : List Value) (r : Running Logged) where
  abbrev begins : Machine
  begins = started body unit path values r

  abbrev pushed : Machine
  pushed = record begins { active = record begins.active { address = 1; stack = Datum (pascal.Bool true) ∷ [] } }

  abbrev left : List Item × Running Logged
  left = (Datum (pascal.Bool true) ∷ [], record r { frames = [] })

  first : next s n code begins ≡ Goes pushed
  unfolding next row
  first = ap (λ (o : Option Instr). act s n code o begins) (ap (λ is. slice_get is 0) is)

  last : next s n code pushed ≡ Ends left.0 left.1
  unfolding next row
  last = ap (λ (o : Option Instr). act s n code o pushed) (ap (λ is. slice_get is 1) is)

  over : (k : ℕ) → run s n code k (Ends left.0 left.1) ≡ Ends left.0 left.1
  over zero = refl
  over (suc k) = refl

  leaves_true : (k : ℕ) (x : Next) (result : StepResult Logged (List Item)) → run s n code k (Goes begins) ≡ x → ended x ≡ Some result → result ≡ Ok left
  leaves_true zero x result e f = let g : ended (Goes begins) ≡ Some result = ap ended e ∙ f in absurd (cc)
  leaves_true (suc zero) x result e f = let g : ended (Goes pushed) ≡ Some result = ap ended (sym first ∙ e) ∙ f in absurd (cc)
  leaves_true (suc (suc k)) x result e f =
      let end : Ends left.0 left.1 ≡ x = sym (over k) ∙ sym (ap (run s n code k) last) ∙ sym (ap (run s n code (suc k)) first) ∙ e in
      let g : Some (Ok left) ≡ Some result = ap ended end ∙ f in
      cc

pub true_guards : TrueGuardsSayTrue
true_guards s n code body unit is path values r result run = leaves_true s n code body unit is path values r run.1.0 run.0 result run.1.1 run.2
