use Rattle.statement_parser.proofs.sequence.+stmt_below.Given as goal

abbrev pub decreases-stmt_below : goal.decreases-stmt_below
decreases-stmt_below l = l.room
