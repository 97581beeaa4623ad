-- Types whose values can be read in a trace.
use Rattle.std.specs.Prelude.{ℕ, zero, suc, ◌<◌, ◌^◌, IsTrue, length, nat_abs, ℤ}
use Rattle.std.specs.List.{AllByRecursion}
use Rattle.pascal_values.specs.Integers.{is_between, is_integer}
use Rattle.pascal_values.specs.Shapes.{item_count}
use Rattle.estelle_model.specs.declared.denoter.Host.{Host}
use Rattle.estelle_model.specs.declared.denoter.Host.TheVariants as host
use Rattle.estelle_model.specs.declared.denoter.Denoter.{Denoter, out-Denoter}
use Rattle.estelle_model.specs.declared.denoter.Denoter.TheOpen.{Denoter-F}

-- what lies between the bounds of an ordinal type is a value that has a text: integers are those of the host, characters have codes below 256, and ordinals of an enumeration have 32 bits
abbrev pub IsOrdinalReadable : Host → ℤ → ℤ → Type 0
IsOrdinalReadable host.Integer low high = (n : ℤ) → IsTrue (is_between low high n) → IsTrue (is_integer n)
IsOrdinalReadable host.Boolean low high = Unit {0}
IsOrdinalReadable host.Char low high = nat_abs high < 256
IsOrdinalReadable (host.Enumeration last) low high = nat_abs high < 2 ^ 32

-- no array and no record is empty, where `IsPart` says it of the parts
abbrev pub IsTypeFormed : (Denoter → Type 0) → Denoter-F Denoter → Type 0
IsTypeFormed IsPart (Denoter-F.Ordinal h low high) = IsOrdinalReadable h low high
IsTypeFormed IsPart (Denoter-F.Set h low high) = Unit {0}
IsTypeFormed IsPart (Denoter-F.Array low high item) = (0 < item_count low high) × IsPart item
IsTypeFormed IsPart (Denoter-F.Fields fields) = (0 < length fields) × AllByRecursion IsPart fields

-- arrays and records nest at most so deep
abbrev pub NestsWithin : ℕ → Denoter → Type 0
NestsWithin zero t = IsTypeFormed (λ _. ⊥) (out-Denoter t)
NestsWithin (suc depth) t = IsTypeFormed (NestsWithin depth) (out-Denoter t)

-- a type whose values can be read: arrays and records nest at most 200 deep
abbrev pub IsReadableType : Denoter → Type 0
IsReadableType t = NestsWithin 200 t
