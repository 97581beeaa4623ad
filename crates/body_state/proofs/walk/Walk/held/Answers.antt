use Rattle.std.proofs.Common.{Ok, sym, ap, ◌∙◌, ◌∷◌}
use Rattle.std.specs.Prelude.{slice_get, Some, None}
use Rattle.pascal_values.specs.Values.{into, part_of}
use Rattle.estelle_model.specs.Jobs.{instance_of}
use Rattle.body_state.proofs.WalkLemmas.{held_of, held_in_frame}
use Rattle.body_state.proofs.walk.Walk.held.Goals as goal

pub returns-in-Some : goal.returns-in-Some
returns-in-Some c = held_of c.self.inside c.args.self.now c.self.view_is c.args.place.now c.in-Of.path c.in-Of.variable c.in-Of.way (Some (instance_of c.in-Some.part.now)) c.in-Of.is c.in-Some.ensures
    ∙ sym (ap (λ o. Ok o) (c.below.ensures ∙ (λ i. into (slice_get (c.items.ensures i) c.in-Of.variable) (λ v. part_of v (c.as_slice.ensures i)))))

pub returns-in-None : goal.returns-in-None
returns-in-None c = held_of c.self.inside c.args.self.now c.self.view_is c.args.place.now c.in-Of.path c.in-Of.variable c.in-Of.way None c.in-Of.is c.in-None.ensures

pub returns-in-In : goal.returns-in-In
returns-in-In c = held_in_frame c.self.inside c.args.self.now c.self.view_is c.args.place.now c.in-In.frame c.in-In.variable c.in-In.way c.in-In.is
    ∙ sym (ap (λ o. Ok o) (c.below_frame.ensures ∙ (λ i. into (slice_get (c.deref.ensures.value i) c.in-In.frame) (λ v. part_of v (c.in-In.variable ∷ c.as_slice-in-In.ensures i)))))
