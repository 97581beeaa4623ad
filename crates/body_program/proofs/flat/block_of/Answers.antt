use Rattle.std.proofs.Common.{◌≡◌, ◌∙◌, ap, subst}
use Rattle.std.specs.Prelude.{IfOk}
use Rattle.estelle_model.specs.declared.meaning.Routine.{Routine}
use Rattle.estelle_model.specs.Subject.{of_block}
use Rattle.meaning_table.specs.Known.{meanings_of}
use Rattle.body_program.specs.Chosen.{chosen_over}
use Rattle.body_program.proofs.flat.block_of.Goals as goal

pub returns : goal.returns
returns c =
    let over = c.in_ok-over.ensures ∙ ap (chosen_over c.args.table.now) c.chosen.ensures in
    subst (λ (r : Routine). IfOk c.routine_of.result (λ routine. routine ≡ r)) (λ i. of_block (meanings_of (over i)) (c.received.ensures i) (c.block.ensures i)) c.routine_of.ensures
