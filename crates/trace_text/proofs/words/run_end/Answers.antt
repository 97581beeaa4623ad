use Rattle.std.proofs.Common.{◌∙◌, sym}
use Rattle.trace_text.proofs.Runs.{run_more, run_done}
use Rattle.trace_text.proofs.words.run_end.Goals as goal

pub loop-end-preserved : goal.loop-end-preserved
loop-end-preserved c = run_more c.args.bytes.now c.args.at _ c.loop-end.invariant (sym c.goes_on.ensures ∙ c.loop-end-test.true)

pub returns : goal.returns
returns c = run_done c.args.bytes.now c.args.at _ c.loop-end.invariant (sym c.goes_on.ensures ∙ c.loop-end-test.false)
