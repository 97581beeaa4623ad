use Rattle.std.proofs.Common.{◌∙◌, sym}
use Rattle.clap.specs.Words.{first_value, found_of}
use Rattle.estelle_words.proofs.Meanings.{given, meant}
use Rattle.estelle_words.proofs.words.settings.Goals as goal

pub returns : goal.returns
returns c =
    let pairs = given c.args.words.now (sym c.are_options.ensures ∙ c.if-not-are_options.false) in
    let found = rw c.in-Some-2.is at (c.in_ok-matches.ensures pairs.0 pairs.1) in
    c.settings_read.ensures
    ∙ meant c.args.words.now _ c.in-Some.command pairs.0 (first_value (found_of c.in-Some-2.matches)) c.in-len1-up.len_at_least
    c.in-Some.ensures pairs.1 found.0 found.1
