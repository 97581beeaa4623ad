use Rattle.std.proofs.Common.{◌≡◌}
use Rattle.pascal_values.specs.declared.fault.Fault as fault
use Rattle.pascal_values.specs.declared.fault.Fault.TheVariants as kind
use Rattle.estelle_model.specs.Trace.{kind_text}
use Rattle.trace_text.proofs.fields.kind_named.Goals as goal

pub returns : goal.returns
returns c = none
  where
    none : (k : fault.Fault) → ¬ (kind_text k ≡ c.args.name.now)
    none kind.DivideByZero = c.if-is_kind.ensures
    none kind.ModNotPositive = c.if-is_kind-2.ensures
    none kind.Overflow = c.if-is_kind-3.ensures
    none kind.Range = c.if-is_kind-4.ensures
    none kind.Index = c.if-is_kind-5.ensures
    none kind.Unset = c.if-is_kind-6.ensures
    none kind.NoCase = c.if-is_kind-7.ensures
    none kind.StepLimit = c.if-is_kind-8.ensures
    none kind.CallDepth = c.if-is_kind-9.ensures
    none kind.NoModule = c.if-is_kind-10.ensures
    none kind.ModuleTaken = c.if-is_kind-11.ensures
    none kind.LinkTaken = c.if-is_kind-12.ensures
    none kind.LinkAbsent = c.if-is_kind-13.ensures
    none kind.DelayRange = c.if-is_kind-14.ensures
