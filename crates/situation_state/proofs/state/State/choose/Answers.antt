use Rattle.situation_state.proofs.state.State.choose.Goals as goal

pub returns-clause-selected : goal.returns-clause-selected
returns-clause-selected g c s ps at legal system = c.select.ensures.selected s (record { stands = at.stands; legal = legal; running = at.timers }) system

pub returns-clause-faults : goal.returns-clause-faults
returns-clause-faults g c s ps at legal system = c.select.ensures.refused s (record { stands = at.stands; legal = legal; running = at.timers }) system
