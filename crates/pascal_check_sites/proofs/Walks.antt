-- The equations that the code follows.
use Rattle.std.proofs.Common.{◌≡◌, ◌∙◌, ℕ, ◌+◌, ◌<◌, suc, zero, Bool, false, List, [], ◌∷◌, ◌++◌, take, get_or, length, arith, ap, sym, add-one, append_assoc, append-nil}
use Rattle.std.specs.Prelude.{fold}
use Rattle.std.specs.List.{flat_map}
use Rattle.estelle_tree.specs.declared.span.Span.{Span}
use Rattle.estelle_tree.specs.declared.tree.type_expr.TypeExpr.{TypeExpr, map-TypeExpr}
use Rattle.estelle_tree.specs.declared.tree.type_expr.TypeExpr.TheVariants as type_node
use Rattle.estelle_tree.specs.declared.tree.type_expr.Fields.{Fields, out-Fields}
use Rattle.estelle_tree.specs.declared.tree.type_expr.TypedNames.{TypedNames}
use Rattle.type_rules.specs.declared.types.Denoted.{Denoted}
use Rattle.type_rules.specs.declared.sites.Site.TheVariants.{TypeAt}
use Rattle.type_rules.specs.Meanings.{Env}
use Rattle.type_rules.specs.Sites.{Sites}
use Rattle.type_rules.specs.Types.{record_type, no_fields}
use Rattle.type_rules.specs.TypeSites.{Typing, Section, type_layer, with_section, fields_denote, typing, fields, typed_names}
use Rattle.type_rules.proofs.Lists.{chain_map}
use Rattle.type_rules.proofs.TypeEquations.{type_is, fields_is, section_is}
use Rattle.type_rules.proofs.SpecificationEquations.{trans_body_is, group_is, decl_is, body_sites, parts_sites}
use Rattle.declaration_table.proofs.Typing.{fields_denoted}

-- the part of a list that one more element gives stands last
longer : {A B : Type 0} (f : A → List B) (xs : List A) (i : ℕ) (x : A) → i < length xs → x ≡ get_or xs i x → flat_map f (take (suc i) xs) ≡ flat_map f (take i xs) ++ f x
longer f [] i x h e = absurd (omega arith)
longer f (y ∷ ys) zero x h e = rw (append-nil (f y)) (ap f (sym e))
longer f (y ∷ ys) (suc i) x h e = ap (λ ts. f y ++ ts) (longer f ys i x (omega arith) e) ∙ sym (append_assoc (f y) (flat_map f (take i ys)) (f x))

-- one more of a chain
pub chain_more : {A B : Type 0} (f : A → List B) (xs : List A) (i : ℕ) (x : A) (out : List B) → i < length xs → x ≡ get_or xs i x → out ++ flat_map f (take (i + 1) xs) ≡ (out ++ flat_map f (take i xs)) ++ f x
chain_more f xs i x out h e = rw add-one (ap (λ ys. out ++ ys) (longer f xs i x h e) ∙ sym (append_assoc out (flat_map f (take i xs)) (f x)))

-- ---- types

-- the sites in a record and of it
pub record_sites : (env : Env) (packed : Bool) (fs : Fields) (span : Span) → (typing (type_node.Fields packed fs span)).sites env ≡ flat_map (λ x. (typed_names x).1.sites env) (out-Fields fs).sections ++ TypeAt span false (record_type span (fold (λ d x. with_section env d (typed_names x)) no_fields (out-Fields fs).sections)) ∷ []
record_sites env packed fs span =
    ap (λ (t : Typing). t.sites env) (type_is (type_node.Fields packed fs span) ∙ ap (λ l. type_layer (map-TypeExpr TypeExpr Fields TypedNames Typing (List Section) Section typing fields typed_names l)) (type_node.outs-Fields packed fs span))
    ∙ ap (λ (ss : Sites). ss ++ TypeAt span false (fields_denote span (fields fs) env) ∷ []) (ap (λ xs. flat_map (λ (s : Section). s.1.sites env) xs) (fields_is fs) ∙ chain_map (λ (s : Section). s.1.sites env) typed_names (out-Fields fs).sections)
    ∙ ap (λ d. flat_map (λ x. (typed_names x).1.sites env) (out-Fields fs).sections ++ TypeAt span false (record_type span d) ∷ []) (fields_denoted env fs)

-- the sites behind a record
pub record_walked : (env : Env) (packed : Bool) (fs : Fields) (span : Span) (xs : List TypedNames) (s0 s1 s2 : Sites) (f d : Denoted) → xs ≡ (out-Fields fs).sections → f ≡ fold (λ d x. with_section env d (typed_names x)) no_fields xs → s1 ≡ s0 ++ flat_map (λ x. (typed_names x).1.sites env) xs → d ≡ record_type span f
    → s2 ≡ s1 ++ TypeAt span false d ∷ [] → s2 ≡ s0 ++ (typing (type_node.Fields packed fs span)).sites env
record_walked env packed fs span xs s0 s1 s2 f d e h1 h2 h3 h4 =
    let inner = flat_map (λ x. (typed_names x).1.sites env) (out-Fields fs).sections in
    let all : Denoted = record_type span (fold (λ g x. with_section env g (typed_names x)) no_fields (out-Fields fs).sections) in
    h4 ∙ ap (λ g. s1 ++ TypeAt span false g ∷ []) (h3 ∙ ap (record_type span) (h1 ∙ ap (fold (λ g x. with_section env g (typed_names x)) no_fields) e))
    ∙ ap (λ (ss : Sites). ss ++ TypeAt span false all ∷ []) (h2 ∙ ap (λ ys. s0 ++ flat_map (λ x. (typed_names x).1.sites env) ys) e)
    ∙ append_assoc s0 inner (TypeAt span false all ∷ [])
    ∙ ap (λ ss. s0 ++ ss) (sym (record_sites env packed fs span))

pub ruleset walks = (append_assoc, append-nil, type_is, section_is, chain_map)

-- ---- clauses and bodies

pub ruleset groups = (trans_body_is, group_is)

pub ruleset bodies = (decl_is, body_sites, parts_sites)
