-- The form of a trace: which events and which end it can tell of.
use Rattle.std.specs.Prelude.{◌≡◌, ℕ, ◌-◌, ◌≤◌, ◌^◌, true, List, [], ◌∷◌, map, Some}
use Rattle.std.specs.List.{AllByRecursion, list_all}
use Rattle.std.specs.Char.{is_ascii_alphabetic, to_ascii_lowercase}
use Rattle.std.specs.declared.cmp.Ordering.TheVariants.{Less}
use Rattle.pascal_values.specs.Sets.{IsRising}
use Rattle.pascal_values.specs.Texts.{IsReadable}
use Rattle.estelle_tree.specs.declared.transition.Pair.{Pair}
use Rattle.estelle_tree.specs.Paths.{Path, path_cmp}
use Rattle.estelle_tree.specs.Lexed.{first_is, is_word_byte}
use Rattle.estelle_tree.specs.Kind.{is_identifier}
use Rattle.estelle_model.specs.declared.effect.Out.{Out}
use Rattle.estelle_model.specs.declared.event.Event.{Event}
use Rattle.estelle_model.specs.declared.event.Event.TheVariants.{Start, Select, Fire, Fault}
use Rattle.estelle_model.specs.declared.event.End.{End}
use Rattle.estelle_model.specs.declared.event.End.TheVariants.{Faulted}
use Rattle.estelle_model.specs.Ends.{IsNoFault, IsFault}

-- ---- fields

abbrev pub IsBetween : ℕ → ℕ → ℕ → Type 0
IsBetween least greatest n = (least ≤ n) × (n ≤ greatest)

-- a number of 64 bits
abbrev pub IsNumber : ℕ → Type 0
IsNumber = IsBetween 0 (2 ^ 64 - 1)

-- a birth number, counted from 1
abbrev pub IsBirth : ℕ → Type 0
IsBirth = IsBetween 1 (2 ^ 64 - 1)

abbrev pub IsPath : Path → Type 0
IsPath = AllByRecursion IsBirth

-- the number of a flat transition, counted from 1
abbrev pub IsTransition : ℕ → Type 0
IsTransition = IsBetween 1 4096

abbrev pub IsPair : Pair → Type 0
IsPair p = IsPath p.path × IsTransition p.trans

-- each path stands after the one before it
abbrev pub Follow : Pair → List Pair → Type 0
Follow p [] = Unit {0}
Follow p (q ∷ qs) = (path_cmp p.path q.path ≡ Less) × Follow q qs

abbrev pub InPathOrder : List Pair → Type 0
InPathOrder [] = Unit {0}
InPathOrder (p ∷ ps) = Follow p ps

abbrev pub AreTakes : List Pair → Type 0
AreTakes ps = AllByRecursion IsPair ps × InPathOrder ps

-- a name in lower case: a letter, then letters, digits and `_`, and no reserved word (ISO 7185, 6.1.3)
pub record IsName (word : List ℕ) : Type 0 where
  pub letter : first_is is_ascii_alphabetic word ≡ true
  pub all : list_all is_word_byte word ≡ true
  pub lower : map to_ascii_lowercase word ≡ word
  pub free : is_identifier word ≡ true

pub record IsOut (o : Out) : Type 0 where
  pub path : IsPath o.path
  pub ip : IsName o.ip
  pub name : IsName o.name
  pub values : AllByRecursion IsReadable o.values

-- outputs, and the numbers of drops, which rise
abbrev pub AreOutcome : List Out → List ℕ → Type 0
AreOutcome outs drops = AllByRecursion IsOut outs × IsRising 0 drops (2 ^ 64)

-- ---- events

-- the start, or its fault, which is that of transition 0 of the specification's own instance
abbrev pub IsFirst : Event → Type 0
IsFirst (Start outs drops) = AreOutcome outs drops
IsFirst (Fault m n kind) = (m ≡ []) × (n ≡ 0)
IsFirst _ = ⊥

abbrev pub IsLater : Event → Type 0
IsLater (Start outs drops) = ⊥
IsLater (Select system now takes) = IsPath system × IsNumber now × AreTakes takes
IsLater (Fire m n outs drops) = IsPath m × IsTransition n × AreOutcome outs drops
IsLater (Fault m n kind) = IsPath m × IsTransition n

-- ---- whole traces

-- the end behind an event: behind a fault it names the fault
abbrev pub EndsBehind : Event → End → Type 0
EndsBehind last (Faulted kind) = IsFault (Some last) kind
EndsBehind last _ = IsNoFault (Some last)

-- what comes behind an event: the end, or a later event, which does not come behind a fault
abbrev pub GoOn : Event → List Event → End → Type 0
GoOn last [] e = EndsBehind last e
GoOn last (next ∷ events) e = IsNoFault (Some last) × IsLater next × GoOn next events e

abbrev pub HasForm : List Event → End → Type 0
HasForm [] e = ⊥
HasForm (first ∷ events) e = IsFirst first × GoOn first events e
