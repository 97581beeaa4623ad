use Rattle.pascal_values.proofs.PlaceLemmas.{follows_here}
use Rattle.trace_text.proofs.words.follows.Goals as goal

pub returns : goal.returns
returns c = follows_here c.args.bytes.now c.args.at c.args.word.now c.starts_with.result c.requires c.starts_with.ensures.value
