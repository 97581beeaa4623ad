use Rattle.std.proofs.Common.{rules}
use Rattle.std.proofs.lemmas.Fn.{always_returns_same}
use Rattle.estelle_tree.specs.Paths.{path_cmp}
use Rattle.offer_table.proofs.OrderLaws.{found}
use Rattle.offer_table.proofs.order.find.Goals as goal

pub returns : goal.returns
returns g c = found g.T.Placed.place c.args.items.now c.args.path.now _ c.requires c.binary_search_by.ensures.bound
    (c.binary_search_by.ensures.position (λ y. path_cmp (g.T.Placed.place y) c.args.path.now) (always_returns_same _ _ _ (λ a r f q. search rules)))
