-- What a visitor comes to.
use Rattle.std.specs.Prelude.{fold}
use Rattle.tree_visits.specs.Visit.{Visit, Around}
use Rattle.tree_visits.specs.Visits.{Visits, Nodes, standing}

-- after these visits, one after another
unfoldable pub after_visits : {S : Type 0} → (S → Visit → S) → S → Visits → S
after_visits step s vs = fold step s vs

-- after these nodes, which stand in one body and routine
abbrev pub after_nodes : {S : Type 0} → (S → Visit → S) → Around → S → Nodes → S
after_nodes step a s ns = after_visits step s (standing a ns)
