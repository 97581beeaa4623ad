use Rattle.std.proofs.Common.{◌≡◌, map, take}
use Rattle.clap.specs.Words.{app_of}
use Rattle.estelle_words.specs.Parser.{app_with}
use Rattle.estelle_words.proofs.parser.parser_for.Given as goal

abbrev pub invariant-loop-name : goal.invariant-loop-name
invariant-loop-name l = app_of l.parser ≡ app_with (take l.name-index (map (λ s. s.now) l.name-items))
