use Rattle.estelle_parser.proofs.body.+parts_below.Given as goal

abbrev pub decreases-parts_below : goal.decreases-parts_below
decreases-parts_below l = l.room
