use Rattle.estelle_lexer.proofs.Lexes.{lexed_spans}
use Rattle.estelle_cli.proofs.InputLemmas.{judged_reads}
use Rattle.estelle_cli.proofs.input.judged.Goals as goal

pub accept-requires : goal.accept-requires
accept-requires c =
    let text = c.requires in
    record { spelled = record { tokens = text.tokens; rest = text.read.rest; spells = text.spells; follow = (lexed_spans text.read.lexed).0 } }

pub returns-in-Ok-clause-found : goal.returns-in-Ok-clause-found
returns-in-Ok-clause-found c = judged_reads c.args.contents c.args.bytes.now c.args.spec c.in-Ok.checked c.requires c.in-Ok.ensures.accepted
