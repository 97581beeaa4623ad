use Rattle.type_parser.proofs.structured.+type_below.Given as goal

abbrev pub decreases-type_below : goal.decreases-type_below
decreases-type_below l = l.room
