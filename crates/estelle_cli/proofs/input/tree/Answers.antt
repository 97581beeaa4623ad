use Rattle.std.proofs.Common.{◌∙◌, ap}
use Rattle.estelle_cli.specs.Input.{place_of}
use Rattle.estelle_cli.proofs.input.tree.Goals as goal

pub returns-in-Err-At-clause-cause : goal.returns-in-Err-At-clause-cause
returns-in-Err-At-clause-cause c =
    let cut = c.in_ok-tokens.ensures in
    let at = rw c.in-Err-At.field-0-is at c.in-Err-At.ensures.place in
    record {
      text = record { tokens = c.in_ok-tokens.tokens.items; read = cut.found; none = rw c.in-Err-At.field-0-is at c.in-Err-At.ensures.only };
      rest = c.in_ok-tokens.tokens.rest;
      lexed = cut.lexed;
      before = at.0;
      first = at.2;
      place = c.place.ensures ∙ ap (place_of c.args.bytes.now) at.1;
    }
