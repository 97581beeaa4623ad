use Rattle.estelle_lexer.proofs.Lexes.{lexed_spans}
use Rattle.estelle_cli.proofs.trial.ring.Goals as goal

pub accept-requires : goal.accept-requires
accept-requires c =
    let made = c.in_ok-spec.ensures in
    record { spelled = record { tokens = made.tokens; rest = made.rest; spells = made.spells; follow = (lexed_spans made.lexed).0 } }
