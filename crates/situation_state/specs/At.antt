-- For which situation a state stands.
use Rattle.std.specs.Prelude.{◌≡◌, ℕ, List, []}
use Rattle.estelle_tree.specs.declared.transition.Pair.{Pair}
use Rattle.estelle_model.specs.Subject.{Subject}
use Rattle.estelle_model.specs.Situation.{Situation}
use Rattle.estelle_model.specs.Firing.{bare}
use Rattle.effect_log.specs.declared.notes.Notes.{Notes}
use Rattle.effect_log.specs.Standing.{Stands}
use Rattle.situation_state.specs.declared.state.State.{State}

-- nothing is noted
pub record NothingNoted (notes : Notes) : Type 0 where
  pub outs : notes.outs.items ≡ []
  pub drops : notes.drops.items ≡ []
  pub arrivals : notes.arrivals.items ≡ []

-- the stores, the timers and the moment of the last selection are those of a situation, these of its pending firings are left, and nothing is noted
pub record IsAt (g : Situation) (ps : List Pair) (c : State) : Type 0 where
  pub stands : Stands c.program.now c.shared g
  pub timers : c.timers ≡ g.timers
  pub left : c.untaken.items ≡ ps
  pub moment : c.moment ≡ g.now
  pub empty : NothingNoted c.notes

-- it stands for the situation before the initialization
pub record IsBare (s : Subject) (budget : ℕ) (c : State) : Type 0 where
  pub program : c.program.now ≡ s
  pub budget_is : c.budget ≡ budget
  pub at : IsAt (bare c.program.now) [] c
