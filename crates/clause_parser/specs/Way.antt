-- The kinds of clauses on a way, as the parser keeps them.
use Rattle.std.specs.Prelude.{Bool, false}
use Rattle.estelle_tree.specs.declared.kind.Kind.{Kind}
use Rattle.estelle_tree.specs.declared.kind.Kind.TheVariants as k
use Rattle.clause_parser.specs.declared.ways.Way.{Way}

abbrev pub stands_on : Way → Kind → Bool
stands_on w k.From = w.from
stands_on w k.To = w.to
stands_on w k.When = w.when
stands_on w k.Provided = w.provided
stands_on w k.Priority = w.priority
stands_on w k.Any = w.any
stands_on w k.Delay = w.delay
stands_on w _ = false
