use Rattle.body_machine_kinds.proofs.laws.legal_images_may_begin.Goals as goal
use Rattle.body_machine_kinds.proofs.Starting.{legal_begins, start_begins}

pub returns-clause-images : goal.returns-clause-images
returns-clause-images c = legal_begins

pub returns-clause-start : goal.returns-clause-start
returns-clause-start c = start_begins
