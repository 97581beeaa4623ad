-- Guards by what names mean where those of `any` have values.
use Rattle.std.proofs.Common.{◌≡◌, ◌∙◌, ℕ, Bool, List, Result, ap, sym, subst}
use Rattle.std.specs.Prelude.{IfOk}
use Rattle.std.specs.declared.alloc.AllocError.{AllocError}
use Rattle.pascal_values.specs.declared.value.Value.{Value}
use Rattle.estelle_tree.specs.Paths.{Path}
use Rattle.estelle_model.specs.declared.image.Image.{Image}
use Rattle.estelle_model.specs.declared.job.Guard.{Guard}
use Rattle.estelle_model.specs.Transitions.{Choice, Transition}
use Rattle.estelle_model.specs.Subject.{Subject, meant_with}
use Rattle.meaning_table.specs.Known.{Known, meanings_of}
use Rattle.body_program.specs.Chosen.{chosen_over}
use Rattle.body_program.specs.Programs.{known_of}
use Rattle.body_walker.specs.Runs.{logged_guard}

-- `provided` and the delay are evaluated by what the program's bodies and its table say
pub chosen_guard : (s bodies : Subject) (base over : Known) (cs : List Choice) (p : Path) (image : Image) (timed : Bool) (budget : ℕ) (t : Transition) (vs : List Value) (x : Result Guard AllocError) →
    bodies ≡ s → base ≡ known_of s → cs ≡ t.chosen → over ≡ chosen_over base cs →
    (meant_with bodies t.chosen ≡ meanings_of over → IfOk x (λ answer. answer ≡ logged_guard bodies p image vs timed budget t)) → IfOk x (λ answer. answer ≡ logged_guard s p image vs timed budget t)
chosen_guard s bodies base over cs p image timed budget t vs x es eb ec eo h =
    subst (λ (u : Subject). IfOk x (λ answer. answer ≡ logged_guard u p image vs timed budget t)) es
    (h ((λ i. meant_with (es i) t.chosen) ∙ sym (ap meanings_of (eo ∙ (λ i. chosen_over (eb i) (ec i))))))
