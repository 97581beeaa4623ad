use Rattle.situation_state.proofs.state.State.ask.Goals as goal

pub returns : goal.returns
returns g c s ps at legal system = c.ask.ensures s at.stands legal at.timers system
