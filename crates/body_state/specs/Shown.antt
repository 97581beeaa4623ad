-- What a walk shows.
use Rattle.body_state.specs.declared.walk.Walk.TheInside.{Inside}
use Rattle.body_state.specs.Progress.{Progress}

abbrev pub shown_by : Inside → Progress
shown_by w = record { subject = w.bodies.now; instances = w.instances; links = w.links; log = w.log; frames = w.frames.items; left = w.left }
