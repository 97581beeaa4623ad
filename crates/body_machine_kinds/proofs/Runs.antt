-- What the run of a typed machine comes to.
use Rattle.std.proofs.Common.{◌≡◌, ◌∙◌, refl, sym, ap, subst, ℕ, zero, suc, List, Some, Ok, Err}
use Rattle.body_code.specs.declared.unit.CodeUnit.{CodeUnit}
use Rattle.estelle_model.specs.Stops.{Faults, Broken}
use Rattle.estelle_model.specs.States.{Logged}
use Rattle.estelle_model.specs.Steps.{StepResult}
use Rattle.body_machine.specs.declared.item.Item.{Item}
use Rattle.body_machine_meaning.specs.Executed.{ended}
use Rattle.estelle_model.specs.Subject.{Subject}
use Rattle.body_numbers.specs.declared.numbers.Numbers.{Numbers}
use Rattle.body_machine.specs.Machine.{Machine, Next, Goes, Ends, Stops}
use Rattle.body_machine.specs.Steps.{next, run, Comes}
use Rattle.body_kinds.specs.Kinds.{Kind}
use Rattle.body_kinds.specs.Kinded.{Claims, IsKinded}
use Rattle.body_machine_kinds.specs.Typed.{Bodies, IsTyped}
use Rattle.body_machine_kinds.specs.Laws.{IsResult, IsFate, IsEnd}
use Rattle.body_machine_kinds.proofs.Going.{goes_on_well}

module _ (s : Subject) (n : Numbers) (code : List CodeUnit) (claims : Claims) (kinded : IsKinded s n code claims) (known : Bodies) (last : List Kind) where
  abbrev End : Machine → Next → Type 0
  End m x = IsEnd s n code claims known last m x

  -- one instruction earlier
  earlier : (m new : Machine) (x : Next) → next s n code m ≡ Goes new → End new x → End m x
  earlier m new (Goes y) e h = h
  earlier m new (Ends items r) e h = h
  earlier m new (Stops (Faults f) left) e h = h
  earlier m new (Stops Broken left) e h = record { at = h.at; typed = h.typed; comes = (suc h.comes.0, ap (run s n code h.comes.0) e ∙ h.comes.1); stops = h.stops; refused = h.refused }

  ends_stay : (k : ℕ) (items : _) (r : _) → run s n code k (Ends items r) ≡ Ends items r
  ends_stay zero items r = refl
  ends_stay (suc k) items r = refl

  stops_stay : (k : ℕ) (by : _) (left : ℕ) → run s n code k (Stops by left) ≡ Stops by left
  stops_stay zero by left = refl
  stops_stay (suc k) by left = refl

  pub runs_well : (k : ℕ) (m : Machine) → IsTyped s n code claims known last m → End m (run s n code k (Goes m))
  runs_well zero m t = t
  runs_well (suc k) m t = by (next s n code m) refl (goes_on_well s n code claims kinded known last m t) (λ new h. runs_well k new h)
    where
      by : (x : Next) → next s n code m ≡ x → IsFate s n code claims known last m x → ((new : Machine) → IsTyped s n code claims known last new → End new (run s n code k (Goes new))) → End m (run s n code k x)
      by (Goes new) e f rest = earlier m new (run s n code k (Goes new)) e (rest new f)
      by (Ends items r) e f rest = subst (End m) (sym (ends_stay k items r)) f
      by (Stops (Faults fault) left) e f rest = subst (End m) (sym (stops_stay k (Faults fault) left)) f
      by (Stops Broken left) e f rest = subst (End m) (sym (stops_stay k Broken left)) record { at = m; typed = t; comes = (0, refl); stops = e; refused = f }

  -- and what is made of it
  pub result_well : (m : Machine) (x : Next) (result : StepResult Logged (List Item)) → ended x ≡ Some result → End m x → IsResult s n code claims known last m result
  result_well m (Goes new) result e h = absurd (cc)
  result_well m (Ends items r) result e h = let is : Ok (items, r) ≡ result = cc in subst (IsResult s n code claims known last m) is h
  result_well m (Stops (Faults f) left) result e h = let is : Err (Faults f, left) ≡ result = cc in subst (IsResult s n code claims known last m) is tt
  result_well m (Stops Broken left) result e h = let is : Err (Broken, left) ≡ result = cc in subst (IsResult s n code claims known last m) is h

  pub comes_well : (m : Machine) → IsTyped s n code claims known last m → (x : Next) → Comes s n code (Goes m) x → End m x
  comes_well m t x c = subst (End m) c.1 (runs_well c.0 m t)
