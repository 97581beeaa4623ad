use Rattle.std.proofs.Common.{◌≡◌, false, set, ◌∙◌}
use Rattle.std.proofs.lemmas.Option.{get_or_from_slice_get}
use Rattle.situation.proofs.execution.Execution.note_selected.Goals as goal

pub returns-clause-systems : goal.returns-clause-systems
returns-clause-systems g c x there =
    let items = c.args.self.now.systems.items in
    let same : c.index_mut-system.result.now ≡ x = c.index_mut-system.ensures.value ∙ get_or_from_slice_get items c.args.at x _ there in
    (λ i. set items c.args.at (record { path = (same i).path; awaits = false; pending = c.args.count }))
