use Rattle.std.proofs.Common.{◌∙◌, arith, length, drop, take, ◌-◌}
use Rattle.std.proofs.lemmas.Slice.{between_to_end}
use Rattle.estelle_words.proofs.Shapes.{name_and_value_go}
use Rattle.estelle_words.proofs.shape.are_options.Goals as goal

pub loop-words-preserved : goal.loop-words-preserved
loop-words-preserved c =
    let words = c.loop-words.words.now in
    let rest = take (length words - 1) (drop 1 words) in
    name_and_value_go words rest _ _ (between_to_end words 1 (length words) (omega arith)) (between_to_end rest 1 (length rest) (omega arith))
    c.in-len1-up.len_at_least c.in-len1-up-rest.len_at_least c.in-Named.ensures c.in-Plain-shape_of.ensures
    ∙ c.loop-words.invariant
