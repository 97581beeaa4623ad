-- The types in a type, by one equation for each kind of node.
use Rattle.std.proofs.Common.{◌≡◌, ◌∙◌, ap, sym, subst, List, [], ◌∷◌, ◌++◌, map, length, replicate, refl, append_assoc, append-nil}
use Rattle.std.specs.List.{flat_map}
use Rattle.std.proofs.lemmas.List.Folds.{flat_map-map}
use Rattle.estelle_tree.specs.declared.tree.type_expr.TypeExpr.{TypeExpr, out-TypeExpr, roll-TypeExpr, map-TypeExpr, fold_out-TypeExpr, fold-roll-TypeExpr}
use Rattle.estelle_tree.specs.declared.tree.type_expr.TypeExpr.TheOpen.{TypeExpr-F, Fields-F, TypedNames-F}
use Rattle.estelle_tree.specs.declared.tree.type_expr.TypeExpr.TheFolds.{ind-TypeExpr, map-Fields, map-TypedNames, fold-Fields, fold_out-Fields, fold_out-TypedNames, fold-roll-Fields, fold-roll-TypedNames}
use Rattle.estelle_tree.specs.declared.tree.type_expr.Fields.{Fields, out-Fields, roll-Fields}
use Rattle.estelle_tree.specs.declared.tree.type_expr.TypedNames.{TypedNames, out-TypedNames, roll-TypedNames}
use Rattle.estelle_model.specs.declared.denoter.Denoter.{Denoter}
use Rattle.estelle_model.specs.declared.denoter.Denoter.TheVariants as denoter
use Rattle.pascal_values.specs.declared.value.Shape.{Shape}
use Rattle.estelle_model.specs.Types.{shape_of}
use Rattle.estelle_model.specs.Meant.{Meanings}
use Rattle.estelle_model.specs.Denoted as denoted
use Rattle.estelle_model.specs.Denoted.{Typing, Section, ordinal_type, array_over, section_types, typing, section}
use Rattle.type_shapes.specs.TypeNodes.{Noded, NodedNames, nodes, ordinal_node, section_of, type_layer, fields_layer, typed_layer, noded, noded_names, nodes_of, nodes_inside, nodes_behind}

-- the sections of a record
noded_fields : Fields → List NodedNames
noded_fields = fold-Fields Noded (List NodedNames) NodedNames type_layer fields_layer typed_layer

type_out : (x : TypeExpr) → noded x ≡ type_layer (map-TypeExpr TypeExpr Fields TypedNames Noded (List NodedNames) NodedNames noded noded_fields noded_names (out-TypeExpr x))
unfolding noded noded_fields noded_names
type_out x = fold_out-TypeExpr Noded (List NodedNames) NodedNames type_layer fields_layer typed_layer x

fields_out : (x : Fields) → noded_fields x ≡ map noded_names (out-Fields x).sections
unfolding noded noded_fields noded_names
fields_out x = fold_out-Fields Noded (List NodedNames) NodedNames type_layer fields_layer typed_layer x

names_out : (x : TypedNames) → noded_names x ≡ ((out-TypedNames x).names.names, noded (out-TypedNames x).type_expr)
unfolding noded noded_fields noded_names
names_out x = fold_out-TypedNames Noded (List NodedNames) NodedNames type_layer fields_layer typed_layer x

-- ---- what a type denotes is what the definitions say

fields : Fields → List Section
fields = fold-Fields Typing (List Section) Section denoted.type_layer denoted.fields_layer denoted.typed_layer

-- a section without what its type declares
abbrev plain : Section → Section
plain s = (s.0, record { denotes = s.1.denotes; declares = [] })

SameType : TypeExpr → Type 0
SameType x = (noded x).denotes ≡ (typing x).denotes

SameFields : Fields → Type 0
SameFields x = map section_of (noded_fields x) ≡ map plain (fields x)

SameNames : TypedNames → Type 0
SameNames x = section_of (noded_names x) ≡ plain (section x)

abbrev SomeType : Type 0
SomeType = (x : TypeExpr) × SameType x

abbrev SomeFields : Type 0
SomeFields = (x : Fields) × SameFields x

abbrev SomeNames : Type 0
SomeNames = (x : TypedNames) × SameNames x

abbrev type_of : TypeExpr-F SomeType SomeFields SomeNames → TypeExpr-F TypeExpr Fields TypedNames
type_of = map-TypeExpr SomeType SomeFields SomeNames TypeExpr Fields TypedNames (λ e. e.0) (λ e. e.0) (λ e. e.0)

abbrev fields_of : Fields-F SomeType SomeFields SomeNames → Fields-F TypeExpr Fields TypedNames
fields_of = map-Fields SomeType SomeFields SomeNames TypeExpr Fields TypedNames (λ e. e.0) (λ e. e.0) (λ e. e.0)

abbrev names_of : TypedNames-F SomeType SomeFields SomeNames → TypedNames-F TypeExpr Fields TypedNames
names_of = map-TypedNames SomeType SomeFields SomeNames TypeExpr Fields TypedNames (λ e. e.0) (λ e. e.0) (λ e. e.0)

type_made : (z : TypeExpr-F TypeExpr Fields TypedNames) → noded (roll-TypeExpr z) ≡ type_layer (map-TypeExpr TypeExpr Fields TypedNames Noded (List NodedNames) NodedNames noded noded_fields noded_names z)
unfolding noded noded_fields noded_names
type_made z = fold-roll-TypeExpr Noded (List NodedNames) NodedNames type_layer fields_layer typed_layer z

typing_made : (z : TypeExpr-F TypeExpr Fields TypedNames) → typing (roll-TypeExpr z) ≡ denoted.type_layer (map-TypeExpr TypeExpr Fields TypedNames Typing (List Section) Section typing fields section z)
unfolding typing fields section
typing_made z = fold-roll-TypeExpr Typing (List Section) Section denoted.type_layer denoted.fields_layer denoted.typed_layer z

fields_made : (z : Fields-F TypeExpr Fields TypedNames) → noded_fields (roll-Fields z) ≡ map noded_names z.sections
unfolding noded noded_fields noded_names
fields_made z = fold-roll-Fields Noded (List NodedNames) NodedNames type_layer fields_layer typed_layer z

sections_made : (z : Fields-F TypeExpr Fields TypedNames) → fields (roll-Fields z) ≡ map section z.sections
unfolding typing fields section
sections_made z = fold-roll-Fields Typing (List Section) Section denoted.type_layer denoted.fields_layer denoted.typed_layer z

names_made : (z : TypedNames-F TypeExpr Fields TypedNames) → noded_names (roll-TypedNames z) ≡ (z.names.names, noded z.type_expr)
unfolding noded noded_fields noded_names
names_made z = fold-roll-TypedNames Noded (List NodedNames) NodedNames type_layer fields_layer typed_layer z

section_made : (z : TypedNames-F TypeExpr Fields TypedNames) → section (roll-TypedNames z) ≡ (z.names.names, typing z.type_expr)
unfolding typing fields section
section_made z = fold-roll-TypedNames Typing (List Section) Section denoted.type_layer denoted.fields_layer denoted.typed_layer z

plain_types : (known : Meanings) (ss : List Section) → section_types known (map plain ss) ≡ section_types known ss
plain_types known [] = refl
plain_types known (s ∷ ss) = ap (λ ds. replicate (length s.0) (s.1.denotes known) ++ ds) (plain_types known ss)

same_record : (x : Fields) → SameFields x → (known : Meanings) → section_types known (map section_of (noded_fields x)) ≡ section_types known (fields x)
unfolding SameFields
same_record x h known = ap (section_types known) h ∙ plain_types known (fields x)

type_step : (y : TypeExpr-F SomeType SomeFields SomeNames) → SameType (roll-TypeExpr (type_of y))
unfolding SameType
type_step y = ap (λ (n : Noded). n.denotes) (type_made (type_of y)) ∙ by y ∙ sym (ap (λ (t : Typing). t.denotes) (typing_made (type_of y)))
  where
    by : (y : TypeExpr-F SomeType SomeFields SomeNames) → (type_layer (map-TypeExpr TypeExpr Fields TypedNames Noded (List NodedNames) NodedNames noded noded_fields noded_names (type_of y))).denotes ≡ (denoted.type_layer (map-TypeExpr TypeExpr Fields TypedNames Typing (List Section) Section typing fields section (type_of y))).denotes
    by (TypeExpr-F.Ordinal o) = refl
    by (TypeExpr-F.Array packed indices component span) = λ i known. array_over (map (ordinal_type known) indices) (component.1 i known)
    by (TypeExpr-F.Fields packed x span) = λ i known. denoter.Fields (same_record x.0 x.1 known i)
    by (TypeExpr-F.Set packed base span) = refl

all_names : (xs : List SomeNames) → map section_of (map noded_names (map (λ (e : SomeNames). e.0) xs)) ≡ map plain (map section (map (λ (e : SomeNames). e.0) xs))
unfolding SameNames
all_names [] = refl
all_names (x ∷ xs) = λ i. x.1 i ∷ all_names xs i

fields_step : (y : Fields-F SomeType SomeFields SomeNames) → SameFields (roll-Fields (fields_of y))
unfolding SameFields
fields_step y = ap (map section_of) (fields_made (fields_of y)) ∙ all_names y.sections ∙ sym (ap (map plain) (sections_made (fields_of y)))

names_step : (y : TypedNames-F SomeType SomeFields SomeNames) → SameNames (roll-TypedNames (names_of y))
unfolding SameNames SameType
names_step y = ap section_of (names_made (names_of y)) ∙ (λ i. (y.names.names, record { denotes = y.type_expr.1 i; declares = [] })) ∙ sym (ap plain (section_made (names_of y)))

same : (x : TypeExpr) → SameType x
same = ind-TypeExpr SameType SameFields SameNames
    (λ x y is. subst (λ (z : TypeExpr-F TypeExpr Fields TypedNames). SameType (roll-TypeExpr z)) is (type_step y))
    (λ x y is. subst (λ (z : Fields-F TypeExpr Fields TypedNames). SameFields (roll-Fields z)) is (fields_step y))
    (λ x y is. subst (λ (z : TypedNames-F TypeExpr Fields TypedNames). SameNames (roll-TypedNames z)) is (names_step y))

-- ---- equations

-- a type before those in it
pub nodes_are : (known : Meanings) (x : TypeExpr) → nodes_of known x ≡ shape_of ((typing x).denotes known) ∷ nodes_inside known x
unfolding SameType
nodes_are known x = ap (λ (f : Meanings → Denoter). shape_of (f known) ∷ nodes_inside known x) (same x)

abbrev pub inside_layer : Meanings → TypeExpr-F TypeExpr Fields TypedNames → List Shape
inside_layer known (TypeExpr-F.Ordinal o) = []
inside_layer known (TypeExpr-F.Array packed indices component span) = map (ordinal_node known) indices ++ nodes_of known component
inside_layer known (TypeExpr-F.Fields packed x span) = flat_map (nodes_behind known) (out-Fields x).sections
inside_layer known (TypeExpr-F.Set packed base span) = ordinal_node known base ∷ []

inside_by : (known : Meanings) (l : TypeExpr-F TypeExpr Fields TypedNames) → (type_layer (map-TypeExpr TypeExpr Fields TypedNames Noded (List NodedNames) NodedNames noded noded_fields noded_names l)).inside known ≡ inside_layer known l
inside_by known (TypeExpr-F.Ordinal o) = refl
inside_by known (TypeExpr-F.Array packed indices component span) = refl
inside_by known (TypeExpr-F.Fields packed x span) = ap (λ xs. flat_map (λ (s : NodedNames). nodes known s.1) xs) (fields_out x) ∙ flat_map-map (λ (s : NodedNames). nodes known s.1) noded_names (out-Fields x).sections
inside_by known (TypeExpr-F.Set packed base span) = refl

pub inside_is : (known : Meanings) (x : TypeExpr) → nodes_inside known x ≡ inside_layer known (out-TypeExpr x)
inside_is known x = ap (λ (n : Noded). n.inside known) (type_out x) ∙ inside_by known (out-TypeExpr x)

pub behind_is : (known : Meanings) (x : TypedNames) → nodes_behind known x ≡ nodes_of known (out-TypedNames x).type_expr
behind_is known x = ap (λ (s : NodedNames). nodes known s.1) (names_out x)

pub ruleset types = (nodes_are, inside_is, behind_is, append_assoc, append-nil)
