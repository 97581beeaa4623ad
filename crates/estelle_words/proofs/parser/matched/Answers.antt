use Rattle.std.proofs.Common.{◌≡◌, ◌∙◌, ap, inl, inr}
use Rattle.clap.specs.Words.{app_of, is_simple, is_simple_and_free, found_of, kind_of}
use Rattle.estelle_words.specs.Words.{options_of, texts}
use Rattle.estelle_words.specs.Parser.{app_with}
use Rattle.estelle_words.proofs.Rules.{simple, simple_and_free}
use Rattle.estelle_words.proofs.Parses.{parsed, refused}
use Rattle.estelle_words.proofs.parser.matched.Goals as goal

pub returns-in-Ok : goal.returns-in-Ok
returns-in-Ok c = λ ps e.
    let options = options_of c.args.command in
    let words = texts c.args.words.now in
    let is : app_of c.in_ok-parser.parser ≡ app_with options = c.in_ok-parser.ensures in
    let clean = c.in-Ok.ensures.kinds (ap is_simple_and_free is ∙ simple_and_free options) in
    let found = c.in-Ok.ensures.matches (ap is_simple is ∙ simple options) in
    parsed options words ps e (app_of c.in_ok-parser.parser) (found_of c.in-Ok.matches) is clean found.0

pub returns : goal.returns
returns c = λ ps e.
    let options = options_of c.args.command in
    let words = texts c.args.words.now in
    let is : app_of c.in_ok-parser.parser ≡ app_with options = c.in_ok-parser.ensures in
    let kinds = c.in-Err.ensures.kinds (ap is_simple_and_free is ∙ simple_and_free options) in
    elim kinds [
      | inl memory ↦ absurd (c.in_default.not-OutOfMemory (c.kind.ensures ∙ memory))
      | inr among ↦ refused options words ps e (app_of c.in_ok-parser.parser) (kind_of c.in-Err.error) is among
    ]
