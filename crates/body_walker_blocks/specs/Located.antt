-- Where a variable access leads: a place, and the type of what is kept there.
use Rattle.estelle_model.specs.declared.denoter.Denoter.{Denoter}
use Rattle.estelle_model.specs.declared.place.Place.{Place}

pub record Located : Type 0 where
  pub place : Place
  pub denoter : Denoter
