use Rattle.clause_parser.proofs.groups.+group.Given as goal

abbrev pub decreases-group : goal.decreases-group
decreases-group l = l.place.clauses
