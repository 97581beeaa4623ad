-- What reading a field at a place of a text answers.
use Rattle.std.specs.Prelude.{◌≡◌, ℕ, ◌<◌, ◌≤◌, true, false, Bool, if◌then◌else◌, List, [], ◌∷◌, ◌++◌, length, take, drop, ◌+◌, ◌-◌, Result, Ok, Err, flat_map, codes}
use Rattle.std.specs.Fmt.{decimal}
use Rattle.std.specs.List.{AllByRecursion, list_all}
use Rattle.pascal_values.specs.declared.fault.Fault as fault
use Rattle.pascal_values.specs.declared.value.Value.{Value}
use Rattle.estelle_tree.specs.declared.transition.Pair.{Pair}
use Rattle.estelle_tree.specs.Lexed.{first_is, is_word_byte}
use Rattle.estelle_model.specs.Trace.{path_text, takes_text, values_text, line_end}
use Rattle.trace_text.specs.declared.error.Missing.{Missing}
use Rattle.trace_text.specs.declared.error.Missing.TheVariants.{Absent, Memory}
use Rattle.trace_text.specs.Forms.{IsBetween, IsPath}

-- ---- what may follow a field

abbrev pub Any : List ℕ → Type 0
Any t = Unit {0}

-- no letter, digit or `_` stands first
abbrev pub EndsWord : List ℕ → Type 0
EndsWord t = first_is is_word_byte t ≡ false

abbrev pub NoByte : ℕ → List ℕ → Type 0
NoByte c s = (t : List ℕ) → ¬ (s ≡ c ∷ t)

-- no letter, digit, `_` or `/` stands first
abbrev pub EndsPath : List ℕ → Type 0
EndsPath t = EndsWord t × NoByte 47 t

-- ---- one field

-- a field of this form stands at a place, and text that may follow it
pub record Stands {X : Type 0} (f : X → List ℕ) (F : X → Type 0) (S : List ℕ → Type 0) (bytes : List ℕ) (at_ : ℕ) (x : X) (end_ : ℕ) : Type 0 where
  pub form : F x
  pub goes : at_ < end_
  pub within : end_ ≤ length bytes
  pub is : drop at_ bytes ≡ f x ++ drop end_ bytes
  pub ends : S (drop end_ bytes)

-- no field of this form is the beginning of the text, with text behind it that may follow
abbrev pub Lacks : {X : Type 0} → (X → List ℕ) → (X → Type 0) → (List ℕ → Type 0) → List ℕ → Type 0
Lacks {X} f F S s = (y : X) (t : List ℕ) → F y → S t → ¬ (s ≡ f y ++ t)

-- the field that stands at a place, and the place behind it; or none does; want of memory says nothing
abbrev pub IsReading : {X : Type 0} → (X → List ℕ) → (X → Type 0) → (List ℕ → Type 0) → List ℕ → ℕ → Result (X × ℕ) Missing → Type 0
IsReading f F S bytes at_ (Ok r) = Stands f F S bytes at_ r.0 r.1
IsReading f F S bytes at_ (Err Absent) = Lacks f F S (drop at_ bytes)
IsReading f F S bytes at_ (Err Memory) = Unit {0}

-- a field and a byte behind it
abbrev pub closed : {X : Type 0} → ℕ → (X → List ℕ) → X → List ℕ
closed close f x = f x ++ close ∷ []

-- one field behind another
abbrev pub both : {X Y : Type 0} → (X → List ℕ) → (Y → List ℕ) → X × Y → List ℕ
both f g p = f p.0 ++ g p.1

abbrev pub Both : {X Y : Type 0} → (X → Type 0) → (Y → Type 0) → X × Y → Type 0
Both F G p = F p.0 × G p.1

-- ---- lists

-- the byte behind an item: the one that closes the list, or the one between two items
abbrev pub mark : ℕ → ℕ → Bool → ℕ
mark between close last = if last then close else between

-- an item and the byte behind it
abbrev pub marked : {X : Type 0} → (X → List ℕ) → ℕ → ℕ → X × Bool → List ℕ
marked f between close r = f r.0 ++ mark between close r.1 ∷ []

abbrev pub IsItem : {X : Type 0} → (X → Type 0) → X × Bool → Type 0
IsItem F r = F r.0

-- items with a byte between each two, and one behind the last
abbrev pub listed : {X : Type 0} → (X → List ℕ) → ℕ → ℕ → List X → List ℕ
listed f between close [] = close ∷ []
listed f between close (x ∷ xs) = f x ++ (flat_map (λ y. between ∷ f y) xs ++ close ∷ [])

-- one item at least, each of this form
abbrev pub AreItems : {X : Type 0} → (X → Type 0) → List X → Type 0
AreItems F xs = (0 < length xs) × AllByRecursion F xs

-- one of the two bytes stands at a place
pub record IsMark (between close : ℕ) (bytes : List ℕ) (at_ : ℕ) (last : Bool) : Type 0 where
  pub within : at_ < length bytes
  pub is : drop at_ bytes ≡ mark between close last ∷ drop (at_ + 1) bytes

abbrev pub NoMark : ℕ → ℕ → List ℕ → Type 0
NoMark between close s = (last : Bool) (t : List ℕ) → ¬ (s ≡ mark between close last ∷ t)

-- ---- words

-- the longest run of letters, digits and `_` at a place, and the place behind it
pub record IsRun (bytes : List ℕ) (at_ end_ : ℕ) : Type 0 where
  pub goes : at_ ≤ end_
  pub within : end_ ≤ length bytes
  pub all : list_all is_word_byte (take (end_ - at_) (drop at_ bytes)) ≡ true
  pub is : drop at_ bytes ≡ take (end_ - at_) (drop at_ bytes) ++ drop end_ bytes
  pub longest : EndsWord (drop end_ bytes)

abbrev pub Anything : fault.Fault → Type 0
Anything kind = Unit {0}

-- ---- the fields of a trace

-- an instance and the number of a transition, with a byte between
abbrev pub pair_with : ℕ → Pair → List ℕ
pair_with between p = path_text p.path ++ between ∷ decimal p.trans

abbrev pub IsPairFrom : ℕ → Pair → Type 0
IsPairFrom least p = IsPath p.path × IsBetween least 4096 p.trans

-- the moment of a selection, and the words round it
abbrev pub moment_text : ℕ → List ℕ
moment_text n = codes " now " ++ (decimal n ++ codes " takes ")

-- what is taken, and the end of the line
abbrev pub takes_line : List Pair → List ℕ
takes_line takes = takes_text takes ++ line_end

abbrev pub name_text : List ℕ → List ℕ
name_text word = word

-- the values of an interaction, and the end of the line
abbrev pub values_line : List Value → List ℕ
values_line values = values_text values ++ line_end
