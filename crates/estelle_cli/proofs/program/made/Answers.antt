use Rattle.std.proofs.Common.{◌∙◌, sym}
use Rattle.estelle_cli.proofs.program.made.Goals as goal

pub returns-clause-text : goal.returns-clause-text
returns-clause-text c =
    let ring = c.in_ok-spec.ensures in
    record {
      specification = c.in_ok-spec.spec;
      made = ring;
      text = c.in_ok-text.ensures ring.tokens ring.spells ∙ sym (ring.canonical ring.tokens ring.spells);
    }
