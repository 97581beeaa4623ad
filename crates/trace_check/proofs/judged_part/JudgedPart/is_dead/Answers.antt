use Rattle.std.proofs.Common.{◌≡◌, ◌↔◌, [], refl, sym, ◌∙◌}
use Rattle.std.specs.Prelude.{IsTrue}
use Rattle.estelle_model.specs.Ends.{IsDead}
use Rattle.trace_check.specs.Going.{AreOff}
use Rattle.trace_check.specs.JudgedParts.{now}
use Rattle.trace_check.proofs.Counted.{vec_empty, if_ok}
use Rattle.trace_check.proofs.Deciding.{as_well}
use Rattle.trace_check.proofs.judged_part.JudgedPart.is_dead.Goals as goal

pub returns : goal.returns
returns c =
    let r = c.args.self.now in
    let o = c.requires in
    let none : r.state.untaken.items ≡ [] = vec_empty r.state.untaken.items r.state.untaken.len c.is_empty.result c.is_empty.ensures c.if-not-is_empty.false r.state.untaken.ok.0 in
    if_ok c.all_off.result (λ b. IsTrue b ↔ AreOff r.state.program.now r.state.budget (now r) []) (λ b. IsTrue b ↔ IsDead r.state.program.now r.state.budget (now r))
    (λ b h. as_well b h (λ off. record { pending = sym o.at.left ∙ none; off = λ m n. off m n refl }) (λ dead m n inside. dead.off m n)) c.all_off.ensures
