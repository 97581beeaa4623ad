-- What a unit comes to is one thing.
use Rattle.std.proofs.Common.{◌≡◌, ◌∙◌, sym, ap, ℕ, ◌+◌, List, Option, Some, None, arith}
use Rattle.std.specs.Prelude.{unwrap_or}
use Rattle.pascal_values.specs.declared.value.Value.{Value}
use Rattle.estelle_tree.specs.Paths.{Path}
use Rattle.body_code.specs.declared.unit.CodeUnit.{CodeUnit}
use Rattle.estelle_model.specs.States.{Logged}
use Rattle.estelle_model.specs.Steps.{Running, StepResult}
use Rattle.estelle_model.specs.Subject.{Subject}
use Rattle.body_numbers.specs.declared.numbers.Numbers.{Numbers}
use Rattle.body_machine.specs.declared.item.Item.{Item}
use Rattle.body_machine.specs.Machine.{Next, Goes, Ends, Stops}
use Rattle.body_machine.specs.Steps.{run, Comes}
use Rattle.body_machine_meaning.specs.Executed.{ended, RunsTo}
use Rattle.body_compiler_laws.proofs.Does.{run_more, ends_stay, stops_stay}

module _ (s : Subject) (n : Numbers) (code : List CodeUnit) where
  -- what has ended stays
  ended_stays : (k : ℕ) (x : Next) (o : StepResult Logged (List Item)) → ended x ≡ Some o → run s n code k x ≡ x
  ended_stays k (Goes m) o e = absurd (cc)
  ended_stays k (Ends items r) o e = ends_stay s n code k items r
  ended_stays k (Stops by left) o e = stops_stay s n code k by left

  comes_once : (x y z : Next) (o p : StepResult Logged (List Item)) → Comes s n code x y → ended y ≡ Some o → Comes s n code x z → ended z ≡ Some p → y ≡ z
  comes_once x y z o p h e k f = sym (behind y z h k o e) ∙ ap (λ i. run s n code i x) (let c : h.0 + k.0 ≡ k.0 + h.0 = omega arith in c) ∙ behind z y k h p f
    where
      behind : (v w : Next) (i : Comes s n code x v) (j : Comes s n code x w) (q : StepResult Logged (List Item)) → ended v ≡ Some q → run s n code (i.0 + j.0) x ≡ v
      behind v w i j q g = run_more s n code i.0 j.0 x ∙ ap (run s n code j.0) i.1 ∙ ended_stays j.0 v q g

  pub runs_once : (body : ℕ) (unit : Option CodeUnit) (path : Path) (values : List Value) (start : Running Logged) (a b : StepResult Logged (List Item)) → RunsTo s n code body unit path values start a → RunsTo s n code body unit path values start b → a ≡ b
  runs_once body None path values start a b h k = h ∙ sym k
  runs_once body (Some unit) path values start a b h k = ap (λ (o : Option (StepResult Logged (List Item))). unwrap_or o a) (sym h.2 ∙ ap ended (comes_once _ h.0 k.0 a b h.1 h.2 k.1 k.2) ∙ k.2)
