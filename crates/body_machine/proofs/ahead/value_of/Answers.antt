use Rattle.std.proofs.Common.{Ok, sym, ap, ◌∙◌, [], Option}
use Rattle.std.specs.Prelude.{slice_get}
use Rattle.pascal_values.specs.Values.{into, part_of}
use Rattle.estelle_model.specs.Core.{Instance}
use Rattle.estelle_model.specs.declared.place.Place.TheVariants.{Of}
use Rattle.estelle_model.specs.Places.{of_variables}
use Rattle.body_state.proofs.WalkLemmas.{load_held, load_gone}
use Rattle.body_machine.proofs.ahead.value_of.Goals as goal

pub returns-in-Some : goal.returns-in-Some
returns-in-Some c = load_held c.args.walk.now (Of c.args.path.now c.args.variable []) _ c.loaded.result
    (ap (λ (o : Option Instance). of_variables o c.args.variable []) (sym c.in-Some.ensures)
    ∙ sym (ap (λ o. Ok o) (c.below.ensures ∙ (λ i. into (slice_get (c.items.ensures i) c.args.variable) (λ v. part_of v [])))))
    c.loaded.ensures

pub returns-in-None : goal.returns-in-None
returns-in-None c = load_gone c.args.walk.now (Of c.args.path.now c.args.variable []) (ap (λ (o : Option Instance). of_variables o c.args.variable []) (sym c.in-None.ensures))
