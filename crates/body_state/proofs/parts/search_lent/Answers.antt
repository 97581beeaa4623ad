use Rattle.std.proofs.Common.{rules}
use Rattle.std.specs.Borrow.{Bor}
use Rattle.std.proofs.lemmas.Fn.{always_returns_same}
use Rattle.estelle_model.specs.declared.image.Part.{Part}
use Rattle.estelle_tree.specs.Paths.{path_cmp}
use Rattle.body_state.proofs.OrderLemmas.{holds_of}
use Rattle.body_state.proofs.LentLemmas.{searchable, stands_of, absent}
use Rattle.body_state.proofs.parts.search_lent.Goals as goal

pub returns-in-Ok : goal.returns-in-Ok
returns-in-Ok c = stands_of c.args.parts.now c.args.path.now c.in-Ok.place c.in-Ok.ensures.bound (c.in-Ok.ensures.position (λ (y : Bor Part). path_cmp y.now.path c.args.path.now) (always_returns_same _ _ _ (λ a r f q. search rules)))

pub returns-in-Err : goal.returns-in-Err
returns-in-Err c = absent c.args.parts.now c.args.path.now _ c.in-Err.ensures.bound (c.in-Err.ensures.position (λ (y : Bor Part). path_cmp y.now.path c.args.path.now) (always_returns_same _ _ _ (λ a r f q. search rules)) (searchable c.args.parts.now c.args.path.now (holds_of _ c.requires)))
