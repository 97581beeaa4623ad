-- The effects of a block as they are kept until it ends.
use Rattle.std.specs.Prelude.{List, map}
use Rattle.estelle_model.specs.Effects.{StatementEffect}
use Rattle.estelle_model.specs.Effects as effect
use Rattle.estelle_model.specs.Jobs.{instance_of}
use Rattle.body_state.specs.declared.log.LogEntry.{LogEntry}
use Rattle.body_state.specs.declared.log.LogEntry.TheVariants as entry

-- the effect that an entry tells; of a new instance its path is told by its parent and its number
abbrev pub effect_of : LogEntry → StatementEffect
effect_of (entry.Output from ip name values) = effect.Output from ip name values
effect_of (entry.Connect first second) = effect.Connect first second
effect_of (entry.Disconnect a) = effect.Disconnect a
effect_of (entry.Attach upper lower) = effect.Attach upper lower
effect_of (entry.Detach upper) = effect.Detach upper
effect_of (entry.Create parent number part) = effect.Create parent number (instance_of part)
effect_of (entry.Remove parent number) = effect.Remove parent number

abbrev pub effects_of : List LogEntry → List StatementEffect
effects_of entries = map effect_of entries
