use Rattle.trace_text.proofs.PathLemmas.{pair_unparted, trans_missing}
use Rattle.trace_text.proofs.fields.paired.Goals as goal

pub returns-then-not-stands : goal.returns-then-not-stands
returns-then-not-stands c = pair_unparted c.args.between c.requires.between c.args.least c.args.bytes.now c.args.at c.args.path c.args.mid c.requires.path c.if-not-stands.ensures

pub returns-in-Err : goal.returns-in-Err
returns-in-Err c = trans_missing c.args.between c.requires.between c.args.least c.args.bytes.now c.args.at c.args.path c.args.mid c.requires.path c.if-not-stands.ensures c.in-Err.missing c.in-Err.ensures
