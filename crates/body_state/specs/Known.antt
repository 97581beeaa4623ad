-- What is kept of the bodies of a specification.
use Rattle.std.specs.Prelude.{◌≡◌}
use Rattle.estelle_model.specs.Subject.{Subject}
use Rattle.body_state.specs.declared.bodies.ModuleBodies.TheInside.{Inside}
use Rattle.body_state.specs.Bodies.{module_bodies}

abbrev pub subject_of : Inside → Subject
subject_of b = record { specification = b.spec.now; names = b.names.now.uses }

abbrev pub HasAllBodies : Inside → Type 0
HasAllBodies b = b.bodies ≡ module_bodies (subject_of b)
