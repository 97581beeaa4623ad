use Rattle.std.proofs.Common.{◌∙◌, sym, true, false}
use Rattle.situation_images.proofs.Found.{not_declared, empty_queue, first_found}
use Rattle.situation_images.proofs.heads.waiting_head.Goals as goal

pub returns-then-not-declares : goal.returns-then-not-declares
returns-then-not-declares c = λ s g stands legal. sym (not_declared s c.args.shared.now g stands legal c.args.at.now (sym c.declares.ensures ∙ c.if-not-declares.true))

pub returns-in-None : goal.returns-in-None
returns-in-None c = λ s g stands legal. sym (empty_queue s c.args.shared.now g stands legal c.args.at.now (sym c.declares.ensures ∙ c.if-not-declares.false) c.in-None.ensures)

pub returns-then-is_same : goal.returns-then-is_same
returns-then-is_same c = λ s g stands legal.
    sym (first_found s c.args.shared.now g stands legal c.args.at.now (sym c.declares.ensures ∙ c.if-not-declares.false) (record { item = c.in-Some.item.now; at = c.in-Some.where_it_waits.now }) c.in-Some.ensures true (sym c.is_same.ensures ∙ c.if-is_same.true))

pub returns-else-is_same : goal.returns-else-is_same
returns-else-is_same c = λ s g stands legal.
    sym (first_found s c.args.shared.now g stands legal c.args.at.now (sym c.declares.ensures ∙ c.if-not-declares.false) (record { item = c.in-Some.item.now; at = c.in-Some.where_it_waits.now }) c.in-Some.ensures false (sym c.is_same.ensures ∙ c.if-is_same.false))
