-- The equations that the code on types follows.
use Rattle.std.proofs.Common.{◌≡◌, ◌∙◌, ℕ, ◌+◌, ◌<◌, suc, Bool, List, Option, take, drop, get_or, length, ap, sym, add-one}
use Rattle.std.specs.Prelude.{fold, pos}
use Rattle.std.proofs.lemmas.List.Sums.{fold_more}
use Rattle.estelle_tree.specs.declared.span.Span.{Span}
use Rattle.estelle_tree.specs.declared.tree.name.Name.{Name}
use Rattle.estelle_tree.specs.declared.tree.type_expr.Ordinal.{Ordinal}
use Rattle.estelle_tree.specs.declared.tree.type_expr.TypeExpr.{TypeExpr, map-TypeExpr}
use Rattle.estelle_tree.specs.declared.tree.type_expr.TypeExpr.TheVariants as type_node
use Rattle.estelle_tree.specs.declared.tree.type_expr.Fields.{Fields, out-Fields}
use Rattle.estelle_tree.specs.declared.tree.type_expr.TypedNames.{TypedNames, out-TypedNames}
use Rattle.type_rules.specs.declared.types.Host.TheVariants as host
use Rattle.type_rules.specs.declared.types.PascalType.{PascalType}
use Rattle.type_rules.specs.declared.meanings.Meaning.TheVariants.{ArrayType}
use Rattle.type_rules.specs.Types.{with_field, no_fields, record_type}
use Rattle.type_rules.specs.Meanings.{Env, Declaration, with_entity, declare_one, declare_all, valued}
use Rattle.type_rules.specs.TypeSites.{Typing, Section, type_layer, with_section, typing, fields, typed_names, meaning_only, enumerated_value, enumerated, array_at, index_of, behind_index, array_place, arrays}
use Rattle.type_rules.proofs.Lists.{chain_map, fold_map}
use Rattle.type_rules.proofs.TypeEquations.{type_is, fields_is, section_is}
use Rattle.declaration_table.proofs.Declaring.{declare-cons, declare-one, drop_next}

pub ruleset types = (type_is, fields_is, section_is, chain_map, fold_map)

-- the sections of a record, one after another
pub fields_denoted : (env : Env) (fs : Fields) → fold (with_section env) no_fields (fields fs) ≡ fold (λ d x. with_section env d (typed_names x)) no_fields (out-Fields fs).sections
fields_denoted env fs = ap (fold (with_section env) no_fields) (fields_is fs) ∙ fold_map (with_section env) typed_names no_fields (out-Fields fs).sections

-- one more section
pub section_more : (env : Env) (xs : List TypedNames) (i : ℕ) (x : TypedNames) → i < length xs → x ≡ get_or xs i x → fold (λ d y. with_section env d (typed_names y)) no_fields (take (i + 1) xs) ≡ fold (λ so_far y. with_field so_far ((typing (out-TypedNames x).type_expr).denotes env)) (fold (λ d y. with_section env d (typed_names y)) no_fields (take i xs)) (out-TypedNames x).names.names
section_more env xs i x h e =
    fold_more (λ d y. with_section env d (typed_names y)) no_fields xs i x h
    ∙ ap (λ y. with_section env (fold (λ d z. with_section env d (typed_names z)) no_fields (take i xs)) (typed_names y)) (sym e)
    ∙ ap (with_section env (fold (λ d z. with_section env d (typed_names z)) no_fields (take i xs))) (section_is x)

-- what a record denotes, by its sections
pub record_denotes : (env : Env) (packed : Bool) (fs : Fields) (span : Span) → (typing (type_node.Fields packed fs span)).denotes env ≡ record_type span (fold (λ d x. with_section env d (typed_names x)) no_fields (out-Fields fs).sections)
record_denotes env packed fs span =
    ap (λ (t : Typing). t.denotes env) (type_is (type_node.Fields packed fs span) ∙ ap (λ l. type_layer (map-TypeExpr TypeExpr Fields TypedNames Typing (List Section) Section typing fields typed_names l)) (type_node.outs-Fields packed fs span))
    ∙ ap (record_type span) (fields_denoted env fs)

-- one more value of an enumeration
pub values_step : (at : Span) (xs : List Name) (i : ℕ) (x : Name) (env more : Env) → i < length xs → x ≡ get_or xs i x → more ≡ with_entity env x.span.start (meaning_only (valued (host.Enumeration at) (pos i))) → declare_all more (enumerated at (i + 1) (drop (i + 1) xs)) ≡ declare_all env (enumerated at i (drop i xs))
values_step at xs i x env more h e m =
    let rest = drop (i + 1) xs in
    ap (λ d. declare_all d (enumerated at (i + 1) rest)) (m ∙ sym (declare-one env (enumerated_value at i x)))
    ∙ ap (λ n. declare_all (declare_one env (enumerated_value at i x)) (enumerated at n rest)) (add-one i)
    ∙ sym (declare-cons env (enumerated_value at i x) (enumerated at (suc i) rest))
    ∙ ap (λ r. declare_all env (enumerated at i r)) (sym (drop_next xs i x h e))

-- one more index of an array
pub arrays_step : (at next : Span) (xs : List Ordinal) (i : ℕ) (x : Ordinal) (component : Env → Option PascalType) (env more : Env) → i < length xs → x ≡ get_or xs i x → more ≡ with_entity env at.start (meaning_only (ArrayType (index_of x env) (behind_index (drop (i + 1) xs) component env)))
    → next ≡ array_place at (drop (i + 1) xs) → declare_all more (arrays next (drop (i + 1) xs) component) ≡ declare_all env (arrays at (drop i xs) component)
arrays_step at next xs i x component env more h e m n =
    let rest = drop (i + 1) xs in
    let d : Declaration = array_at at (index_of x) (behind_index rest component) in
    ap (λ a. declare_all more (arrays a rest component)) n
    ∙ ap (λ t. declare_all t (arrays (array_place at rest) rest component)) (m ∙ sym (declare-one env d))
    ∙ sym (declare-cons env d (arrays (array_place at rest) rest component))
    ∙ ap (λ r. declare_all env (arrays at r component)) (sym (drop_next xs i x h e))
