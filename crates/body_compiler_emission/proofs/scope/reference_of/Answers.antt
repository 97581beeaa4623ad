use Rattle.std.proofs.Common.{◌∙◌, List, ℕ, sym, ap}
use Rattle.std.specs.Prelude.{slice_get}
use Rattle.std.specs.Option.{option_copied}
use Rattle.body_compiler_emission.proofs.Locals.{place_found}
use Rattle.body_compiler_emission.proofs.scope.reference_of.Goals as goal

pub returns-in-Some : goal.returns-in-Some
returns-in-Some c = place_found c.args.parameters.now c.args.number c.in-Some.local.now (ap (λ (l : List ℕ). slice_get l c.args.number) (sym c.requires) ∙ sym c.get.ensures.value ∙ ap option_copied c.in-Some.is)
