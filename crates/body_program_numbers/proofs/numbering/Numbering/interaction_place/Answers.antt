use Rattle.std.proofs.Common.{◌≡◌, ◌∙◌, ap, List, ℕ, Some}
use Rattle.std.specs.Prelude.{option_and_then}
use Rattle.estelle_model.specs.Subject.{Subject}
use Rattle.place_table.specs.Latest.{latest}
use Rattle.body_program_numbers.specs.Places.{Number}
use Rattle.body_program_numbers.specs.Numbering.{declared_at, interaction_numbers}
use Rattle.body_program_numbers.proofs.numbering.Numbering.interaction_place.Goals as goal

pub returns-in-Some : goal.returns-in-Some
returns-in-Some c =
    c.copied.ensures
    ∙ c.get.ensures
    ∙ ap (λ (es : List (ℕ × Number)). latest c.in-Some.place es) (c.self.invariant.interactions ∙ ap (λ (u : Subject). interaction_numbers u) c.self.view_is)
    ∙ ap (option_and_then (λ place. latest place (interaction_numbers c.args.self.now))) c.in-Some.ensures
