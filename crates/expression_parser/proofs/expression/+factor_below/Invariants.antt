use Rattle.expression_parser.proofs.expression.+factor_below.Given as goal

abbrev pub decreases-factor_below : goal.decreases-factor_below
decreases-factor_below l = l.room
