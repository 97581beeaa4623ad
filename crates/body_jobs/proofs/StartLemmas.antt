-- The initialization of a specification, as it is written or as it does nothing.
use Rattle.std.proofs.Common.{◌≡◌, Option, Some, None, refl, sym}
use Rattle.std.specs.Prelude.{unwrap_or, option_map}
use Rattle.estelle_model.specs.Subject as model
use Rattle.estelle_model.specs.Subject.{Subject, begins, nothing_to_do}
use Rattle.body_state.specs.declared.bodies.Initialization.{Initialization}
use Rattle.body_state.specs.Bodies.{initialization_of}

module _ (s : Subject) where
  pub begun_some : (i : Initialization) → Some i ≡ option_map initialization_of (model.initialization s 0) → begins s 0 ≡ record { to = i.to; block = i.block }
  begun_some i e = by (model.initialization s 0) e
    where
      by : (o : Option model.Initialization) → Some i ≡ option_map initialization_of o → unwrap_or o nothing_to_do ≡ record { to = i.to; block = i.block }
      by None e = absurd (cc)
      by (Some j) e = let same : i ≡ initialization_of j = cc in (λ k. record { to = (sym same k).to; block = (sym same k).block })

  pub begun_none : None ≡ option_map initialization_of (model.initialization s 0) → begins s 0 ≡ nothing_to_do
  begun_none e = by (model.initialization s 0) e
    where
      by : (o : Option model.Initialization) → None ≡ option_map initialization_of o → unwrap_or o nothing_to_do ≡ nothing_to_do
      by None e = refl
      by (Some j) e = absurd (cc)
