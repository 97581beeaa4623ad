use Rattle.std.proofs.Common.{◌∙◌, ◌++◌, ◌∷◌, ap, sym, None}
use Rattle.estelle_model.specs.Bodies.{default_of}
use Rattle.body_table.specs.Standings.{standing, inner_of}
use Rattle.body_table.proofs.BodyEquations.{parts_is}
use Rattle.body_program_numbers.specs.Found.{standings}
use Rattle.body_program_numbers.proofs.outline.outline_of.Goals as goal

pub returns-clause-standings : goal.returns-clause-standings
returns-clause-standings c =
    let p = c.args.tree.now.parts in
    c.in_ok-push_parts.ensures.standings
    ∙ ap (λ bs. standings bs ++ (standing c.default_of-by_default.result None None p ∷ inner_of c.default_of-by_default.result p)) c.new-3.ensures
    ∙ ap (λ d. standing d None None p ∷ inner_of d p) (c.default_of-by_default.ensures ∙ ap default_of c.items.ensures)
    ∙ sym (parts_is (default_of c.args.tree.now.heads) p)
