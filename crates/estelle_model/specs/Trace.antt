-- The text of a run: a line for its format, the lines of its events, and one for its end.
use Rattle.std.specs.Prelude.{ℕ, Bool, true, false, List, [], ◌∷◌, ◌++◌, flat_map, codes}
use Rattle.std.specs.Fmt.{decimal}
use Rattle.pascal_values.specs.declared.value.Value.{Value}
use Rattle.pascal_values.specs.declared.fault.Fault as fault
use Rattle.pascal_values.specs.declared.fault.Fault.TheVariants as kind
use Rattle.pascal_values.specs.Texts.{text as value_text}
use Rattle.estelle_model.specs.declared.effect.Out.{Out}
use Rattle.estelle_tree.specs.declared.transition.Pair.{Pair}
use Rattle.estelle_model.specs.declared.event.Event.{Event}
use Rattle.estelle_model.specs.declared.event.Event.TheVariants.{Start, Select, Fire, Fault}
use Rattle.estelle_model.specs.declared.event.End.{End}
use Rattle.estelle_model.specs.declared.event.End.TheVariants.{Dead, Turns, Faulted, Clock}
use Rattle.estelle_tree.specs.Paths.{Path}

abbrev pub line_end : List ℕ
line_end = 10 ∷ []

-- ---- paths and pairs

-- a `/` before each birth number
abbrev pub numbers_text : Path → List ℕ
numbers_text = flat_map (λ n. 47 ∷ decimal n)

-- `/` for the root
unfoldable pub path_text : Path → List ℕ
path_text [] = codes "/"
path_text (n ∷ path) = numbers_text (n ∷ path)

-- an instance and the number of its transition
abbrev pub pair_text : Pair → List ℕ
pair_text p = path_text p.path ++ (codes ":" ++ decimal p.trans)

-- `-`, or the pairs with a space between
unfoldable pub takes_text : List Pair → List ℕ
takes_text [] = codes "-"
takes_text (p ∷ ps) = pair_text p ++ flat_map (λ q. 32 ∷ pair_text q) ps

-- ---- outputs and drops

-- the values in brackets with a comma between; where there are none, nothing
unfoldable pub values_text : List Value → List ℕ
values_text [] = []
values_text (v ∷ vs) = codes "(" ++ (value_text v ++ (flat_map (λ w. 44 ∷ value_text w) vs ++ codes ")"))

-- the interaction point of its instance, and the interaction with its values
unfoldable pub out_text : Out → List ℕ
out_text o = path_text o.path ++ (codes "." ++ (o.ip ++ (codes " " ++ (o.name ++ values_text o.values))))

abbrev pub fate_text : Bool → List ℕ
fate_text true = codes "lost "
fate_text false = codes "out "

abbrev pub out_line : Out → List ℕ
out_line o = fate_text o.lost ++ (out_text o ++ line_end)

abbrev pub drop_line : ℕ → List ℕ
drop_line number = codes "drop " ++ (decimal number ++ line_end)

-- the outputs in their order, and then the drops
abbrev pub outcome_lines : List Out → List ℕ → List ℕ
outcome_lines outs drops = flat_map out_line outs ++ flat_map drop_line drops

-- ---- events and ends

abbrev pub kind_text : fault.Fault → List ℕ
kind_text kind.DivideByZero = codes "DivideByZero"
kind_text kind.ModNotPositive = codes "ModNotPositive"
kind_text kind.Overflow = codes "Overflow"
kind_text kind.Range = codes "Range"
kind_text kind.Index = codes "Index"
kind_text kind.Unset = codes "Unset"
kind_text kind.NoCase = codes "NoCase"
kind_text kind.StepLimit = codes "StepLimit"
kind_text kind.CallDepth = codes "CallDepth"
kind_text kind.NoModule = codes "NoModule"
kind_text kind.ModuleTaken = codes "ModuleTaken"
kind_text kind.LinkTaken = codes "LinkTaken"
kind_text kind.LinkAbsent = codes "LinkAbsent"
kind_text kind.DelayRange = codes "DelayRange"

-- the lines of an event
unfoldable pub event_lines : Event → List ℕ
event_lines (Start outs drops) = codes "start" ++ (line_end ++ outcome_lines outs drops)
event_lines (Select system now takes) = codes "select " ++ (path_text system ++ (codes " now " ++ (decimal now ++ (codes " takes " ++ (takes_text takes ++ line_end)))))
event_lines (Fire m n outs drops) = codes "fire " ++ (path_text m ++ (codes " " ++ (decimal n ++ (line_end ++ outcome_lines outs drops))))
event_lines (Fault m n kind) = codes "fault " ++ (path_text m ++ (codes " " ++ (decimal n ++ (codes " " ++ (kind_text kind ++ line_end)))))

-- the line of an end
unfoldable pub end_line : End → List ℕ
end_line Dead = codes "end deadlock" ++ line_end
end_line Turns = codes "end turns" ++ line_end
end_line Clock = codes "end clock" ++ line_end
end_line (Faulted kind) = codes "end fault " ++ (kind_text kind ++ line_end)

-- the trace of a run
abbrev pub text : List Event → End → List ℕ
text events end = codes "estelle trace 1" ++ (line_end ++ (flat_map event_lines events ++ end_line end))
