use Rattle.std.proofs.Common.{ℕ, List, ◌&&◌, sym, ap, ◌∙◌}
use Rattle.std.specs.List.{list_all}
use Rattle.pascal_values.specs.Shapes.{has_ordinal}
use Rattle.estelle_model.proofs.Fitting.{is_rises}
use Rattle.body_values.proofs.belonging.set_belongs.Goals as goal

pub returns : goal.returns
returns c =
    let low = c.args.low in
    let high = c.args.high in
    let ns : List ℕ = c.args.members.now in
    c.have_all.ensures ∙ ap (list_all (has_ordinal low high)) c.items.ensures.same ∙ sym (ap (λ b. b && list_all (has_ordinal low high) ns) (is_rises 0 ns c.items.ensures.rising))
