use Rattle.std.proofs.Common.{subst, sym, ◌∙◌, ◌+◌}
use Rattle.estelle_model.specs.Trace.{path_text}
use Rattle.trace_text.specs.Forms.{IsPath}
use Rattle.trace_text.specs.Fields.{EndsPath, Stands}
use Rattle.trace_text.proofs.PathLemmas.{no_path, long_path, no_birth, root_path}
use Rattle.trace_text.proofs.fields.path.Goals as goal

pub returns-then-not-stands : goal.returns-then-not-stands
returns-then-not-stands c = no_path c.args.bytes.now c.args.at c.if-not-stands.ensures

pub returns-then-goes_on : goal.returns-then-goes_on
returns-then-goes_on c = long_path c.args.bytes.now c.args.at c.if-not-stands.ensures (sym c.goes_on.ensures ∙ c.if-goes_on.true) c.births.result c.births.ensures

pub returns-then-stands : goal.returns-then-stands
returns-then-stands c = no_birth c.args.bytes.now c.args.at c.if-not-stands.ensures c.if-stands.ensures

pub returns : goal.returns
returns c = subst (λ p. Stands path_text IsPath EndsPath c.args.bytes.now c.args.at p (c.args.at + 1)) (sym c.root.ensures) (root_path c.args.bytes.now c.args.at c.if-not-stands.ensures (sym c.goes_on.ensures ∙ c.if-goes_on.false) c.if-stands.ensures)
