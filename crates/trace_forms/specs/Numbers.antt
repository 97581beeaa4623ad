-- The numbers that events name, as a trace writes them.
use Rattle.std.specs.Prelude.{ℕ, List}
use Rattle.std.specs.List.{AllByRecursion}
use Rattle.estelle_tree.specs.declared.transition.Pair.{Pair}
use Rattle.estelle_tree.specs.Paths.{Path}
use Rattle.estelle_model.specs.declared.effect.Out.{Out}
use Rattle.estelle_model.specs.declared.event.Event.{Event}
use Rattle.estelle_model.specs.declared.event.Event.TheVariants.{Start, Select, Fire, Fault}
use Rattle.trace_text.specs.Forms.{IsNumber}

-- the birth numbers on the way to an instance
abbrev pub PathFits : Path → Type 0
PathFits = AllByRecursion IsNumber

abbrev pub OutFits : Out → Type 0
OutFits o = PathFits o.path

abbrev pub PairFits : Pair → Type 0
PairFits p = PathFits p.path

-- what an event puts out, and the numbers of the outputs that it drops
abbrev pub OutcomeFits : List Out → List ℕ → Type 0
OutcomeFits outs drops = AllByRecursion OutFits outs × AllByRecursion IsNumber drops

-- The births and outputs that an event names are numbers of 64 bits. Moments and transitions need no premise.
abbrev pub EventFits : Event → Type 0
EventFits (Start outs drops) = OutcomeFits outs drops
EventFits (Select system now takes) = PathFits system × AllByRecursion PairFits takes
EventFits (Fire m n outs drops) = PathFits m × OutcomeFits outs drops
EventFits (Fault m n kind) = PathFits m

abbrev pub NumbersFit : List Event → Type 0
NumbersFit = AllByRecursion EventFits
