-- Types in which no array is empty.
use Rattle.std.proofs.Common.{ℕ, zero, suc, ◌<◌}
use Rattle.std.specs.List.{AllByRecursion}
use Rattle.pascal_values.specs.Shapes.{item_count}
use Rattle.estelle_model.specs.declared.denoter.Denoter.{Denoter, out-Denoter}
use Rattle.estelle_model.specs.declared.denoter.Denoter.TheOpen.{Denoter-F}

-- no array is empty, where `IsPart` says it of the parts
abbrev pub AreArraysFilled : (Denoter → Type 0) → Denoter-F Denoter → Type 0
AreArraysFilled IsPart (Denoter-F.Ordinal h low high) = Unit {0}
AreArraysFilled IsPart (Denoter-F.Set h low high) = Unit {0}
AreArraysFilled IsPart (Denoter-F.Array low high item) = (0 < item_count low high) × IsPart item
AreArraysFilled IsPart (Denoter-F.Fields fields) = AllByRecursion IsPart fields

-- no array that stands so deep is empty
abbrev pub FilledTo : ℕ → Denoter → Type 0
FilledTo zero t = Unit {0}
FilledTo (suc depth) t = AreArraysFilled (FilledTo depth) (out-Denoter t)

-- a type in which no array is empty
abbrev pub HasFilledArrays : Denoter → Type 0
HasFilledArrays t = (depth : ℕ) → FilledTo depth t
