-- The set of the values of labels is the list of them.
use Rattle.std.proofs.Common.{◌≡◌, ◌∙◌, List, [], ◌∷◌, ◌++◌, refl, map, ap, sym, Bool, true, false, ◌||◌, Option, Some}
use Rattle.std.specs.Prelude.{not, if◌then◌else◌}
use Rattle.std.specs.List.{list_any}
use Rattle.std.specs.Ordering.{on}
use Rattle.std.proofs.lemmas.List.{map-append}
use Rattle.indexmap.specs.IndexSet.{insert_key}
use Rattle.type_rules.specs.declared.types.Value.{Value}
use Rattle.type_rules.specs.Types.{same_value}
use Rattle.type_rules.specs.StatementSites.{is_among, with_value, is_repeated}
use Rattle.pascal_check_sites.specs.declared.labels.LabelValue.{LabelValue}

-- a value as it stands in the set
abbrev label : Value → LabelValue
label v = record { 0 = v }

-- what stands in the set
abbrev pub values_of : List LabelValue → List Value
values_of ks = map (λ (k : LabelValue). k.0) ks

-- how the set compares
abbrev same : LabelValue → LabelValue → Bool
same = on (λ (a : LabelValue). a.0) same_value

-- the set has a value where the list has it
among : (v : Value) (ks : List LabelValue) → list_any (same (label v)) ks ≡ is_among (values_of ks) v
among v [] = refl
among v (k ∷ ks) = ap (λ b. same_value v k.0 || b) (among v ks)

-- whether or not it has it
either : (b : Bool) (v : Value) (ks : List LabelValue) → values_of (if b then ks else ks ++ label v ∷ []) ≡ if b then values_of ks else values_of ks ++ v ∷ []
either true v ks = refl
either false v ks = map-append (λ (k : LabelValue). k.0) ks (label v ∷ [])

-- a test turned twice
twice : (b : Bool) → not (not b) ≡ b
twice true = refl
twice false = refl

-- the values with one more
pub added : (before after : List LabelValue) (old : List Value) (value : Option Value) (v : Value) → values_of before ≡ old → value ≡ Some v → after ≡ insert_key same before (label v) → values_of after ≡ with_value old value
added before after old value v seen is now =
    ap values_of now ∙ either (list_any (same (label v)) before) v before ∙ ap (λ b. if b then values_of before else values_of before ++ v ∷ []) (among v before)
    ∙ ap (λ vs. with_value vs (Some v)) seen ∙ ap (with_value old) (sym is)

-- whether that one is new
pub repeated : (before : List LabelValue) (old : List Value) (value : Option Value) (v : Value) (is_new : Bool) → values_of before ≡ old → value ≡ Some v → is_new ≡ not (list_any (same (label v)) before) → not is_new ≡ is_repeated old value
repeated before old value v is_new seen is now =
    ap not now ∙ twice (list_any (same (label v)) before) ∙ among v before ∙ ap (λ vs. is_among vs v) seen ∙ ap (is_repeated old) (sym is)
