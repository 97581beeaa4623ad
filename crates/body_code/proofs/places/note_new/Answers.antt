use Rattle.std.proofs.Common.{◌≡◌, arith}
use Rattle.std.specs.Prelude.{None}
use Rattle.std.specs.Map.{lookup}
use Rattle.std.proofs.lemmas.Grind.{common_steps}
use Rattle.indexmap.proofs.CallerLemmas.{insert_entry-new}
use Rattle.body_code.specs.Units.{same_place}
use Rattle.body_code.proofs.places.note_new.Goals as goal

pub returns-in-Ok-clause-ok : goal.returns-in-Ok-clause-ok
returns-in-Ok-clause-ok c =
    let none : lookup (same_place c.args.place) c.args.table.now.entries ≡ None = grind (arith, common_steps) in
    let e = insert_entry-new same_place c.args.table.now c.args.place c.args.number none in
    grind (arith, common_steps)
