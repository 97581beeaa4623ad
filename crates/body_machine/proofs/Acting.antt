-- What an instruction does is what its row says.
use Rattle.std.proofs.Common.{◌≡◌, sym, subst, ◌∙◌, ℤ, List, Result, Err}
use Rattle.body_code.specs.declared.instr.Instr.{Instr}
use Rattle.body_code.specs.declared.unit.CodeUnit.{CodeUnit}
use Rattle.estelle_model.specs.Subject.{Subject}
use Rattle.body_values.specs.declared.stop.Stop.{Stop}
use Rattle.body_values.specs.declared.stop.Stop.TheVariants as stop
use Rattle.body_numbers.specs.declared.numbers.Numbers.{Numbers}
use Rattle.body_machine.specs.declared.machine.Machine as whole
use Rattle.body_machine.specs.Machine.{Machine, Next}
use Rattle.body_machine.specs.Rows.{indexing, row}
use Rattle.body_machine.specs.Steps.{by_row}
use Rattle.body_machine.specs.Seen.{IsNext, IsStep, Did}

-- what stops an instruction stops the machine
pub stops_so : (x y : Next) (e : Stop) (new : Machine) → x ≡ y → IsNext y (Err e) new → IsStep x (Err e) new
stops_so x y (stop.Fault f) new same h = same ∙ h
stops_so x y stop.Broken new same h = same ∙ h
stops_so x y stop.Memory new same h = h

-- an index between bounds
pub indexed : (low high low' high' : ℤ) → low' ≡ low → high' ≡ high → (m : whole.Machine) (r : Result (Unit {0}) Stop) (new : whole.Machine) → Did (indexing low' high') m r new → Did (indexing low high) m r new
indexed low high low' high' l h m r new did = subst (λ x. Did (indexing x high) m r new) l (subst (λ x. Did (indexing low' x) m r new) h did)

module _ (s : Subject) (n : Numbers) (code : List CodeUnit) (m : Machine) where
  pub acted : (r : Result (Unit {0}) Stop) (new : Machine) (i j : Instr) → i ≡ j → IsNext (by_row s n code (row s n m.active j) m.active.stack m) r new → IsNext (by_row s n code (row s n m.active i) m.active.stack m) r new
  acted r new i j is h = subst (λ x. IsNext (by_row s n code (row s n m.active x) m.active.stack m) r new) (sym is) h
