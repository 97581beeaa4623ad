use Rattle.std.proofs.Common.{◌≡◌, length}
use Rattle.body_code.specs.Units.{place_of}
use Rattle.body_code.specs.Firsts.{noted}
use Rattle.body_code.proofs.Finding.{known_push}
use Rattle.body_code.proofs.code.Code.push.Goals as goal

pub invariant_of-self-in-Ok : goal.invariant_of-self-in-Ok
invariant_of-self-in-Ok c = λ known.
    let table : c.note.new.table.entries ≡ noted c.self.inside.firsts.entries (place_of c.self.inside.body c.args.unit.heading) (length c.self.inside.units) = cc (c.in-Ok.ensures.ok) in
    known_push c.self.inside.units c.args.unit c.self.inside.body c.self.inside.firsts.entries _ _ _ (c.self.invariant known) c.in_ok-push.ensures.ok c.body_behind-body.ensures table
