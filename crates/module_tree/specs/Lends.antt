-- What a tree ends as, once a `&mut` into it has ended.
use Rattle.std.specs.Prelude.{Option}
use Rattle.std.specs.Borrow.{Fml, RattleType, MutBor, LendsIf}
use Rattle.estelle_tree.specs.Paths.{Path}
use Rattle.module_tree.specs.Trees.{Tree, with_part}
use Rattle.module_tree.specs.contracts.tree.Tree.{the_row}

module _ (R : RattleType) where
  -- the instance has the last part written through r, and at `None` the tree stays as it is
  abbrev pub lends_part : MutBor (Tree R.Denot) → Path → Option (MutBor R.Denot) → Fml
  lends_part t p r = LendsIf (the_row R) R t r (with_part t.now p) t.now
