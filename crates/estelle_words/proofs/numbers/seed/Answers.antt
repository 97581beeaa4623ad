use Rattle.std.proofs.Common.{rules, arith, ◌≡◌, true}
use Rattle.estelle_words.specs.Words.{is_decimal, greatest_seed}
use Rattle.estelle_words.proofs.Ranges.{number_refused}
use Rattle.estelle_words.proofs.numbers.seed.Goals as goal

pub returns-in-Err : goal.returns-in-Err
returns-in-Err c =
    let d : is_decimal c.args.text.now ≡ true = search rules in
    number_refused 64 0 greatest_seed c.args.text.now c.in-Err.field-0 c.in-Err.ensures.value.0 d (omega arith)
