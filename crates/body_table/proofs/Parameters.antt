-- The value parameters and the var parameters of a routine, one by one.
use Rattle.std.proofs.Common.{◌≡◌, ◌∙◌, ℕ, ◌+◌, zero-add, sym, Bool, true, false, cond, List, [], ◌∷◌, ◌++◌, refl, ap, map}
use Rattle.std.specs.Prelude.{not, filter, Result, Ok, Err, OnOk}
use Rattle.std.specs.List.{flat_map}
use Rattle.estelle_tree.specs.declared.tree.declaration.Formal.{Formal}
use Rattle.estelle_model.specs.Denoted.{Section, sections_declare, count_names}
use Rattle.estelle_model.specs.Definitions.{formal_section}
use Rattle.meaning_table.specs.Known.{Known, declare_all}
use Rattle.meaning_table.specs.Kinds.{numbered_behind, variables}
use Rattle.meaning_table.specs.declared.kinds.VariableKind.TheVariants.{Local, Var}
use Rattle.meaning_table.proofs.Declarations.{declare-append, sections-append, sections_alone}
use Rattle.body_table.specs.Formals.{value_section, var_section}

pub value_sections : (fs : List Formal) → flat_map value_section fs ≡ map formal_section (filter (λ f. not f.is_var) fs)
value_sections [] = refl
value_sections (f ∷ fs) = by f.is_var (value_sections fs)
  where
    by : (b : Bool) → flat_map value_section fs ≡ map formal_section (filter (λ x. not x.is_var) fs) → (cond b [] (formal_section f ∷ [])) ++ flat_map value_section fs ≡ map formal_section (cond (not b) (f ∷ filter (λ x. not x.is_var) fs) (filter (λ x. not x.is_var) fs))
    by true more = more
    by false more = ap (λ ss. formal_section f ∷ ss) more

pub var_sections : (fs : List Formal) → flat_map var_section fs ≡ map formal_section (filter (λ f. f.is_var) fs)
var_sections [] = refl
var_sections (f ∷ fs) = by f.is_var (var_sections fs)
  where
    by : (b : Bool) → flat_map var_section fs ≡ map formal_section (filter (λ x. x.is_var) fs) → (cond b (formal_section f ∷ []) []) ++ flat_map var_section fs ≡ map formal_section (cond b (f ∷ filter (λ x. x.is_var) fs) (filter (λ x. x.is_var) fs))
    by true more = ap (λ ss. formal_section f ∷ ss) more
    by false more = more

-- the value parameters and a routine's own variables one after another, and then the var parameters
pub variables_declared : (fs : List Formal) (locals : List Section) (known a b d : Known) (n : ℕ)
    → a ≡ declare_all known (sections_declare (numbered_behind Local (λ m. 0)) 0 (flat_map value_section fs)) → n ≡ count_names (flat_map value_section fs)
    → b ≡ declare_all a (sections_declare (numbered_behind Local (λ m. 0)) n locals)
    → d ≡ declare_all b (sections_declare (numbered_behind Var (λ m. 0)) 0 (flat_map var_section fs))
    → d ≡ declare_all (declare_all known (sections_declare (variables Local) 0 (map formal_section (filter (λ f. not f.is_var) fs) ++ locals))) (sections_declare (variables Var) 0 (map formal_section (filter (λ f. f.is_var) fs)))
variables_declared fs locals known a b d n ea en eb ed =
    let own = numbered_behind Local (λ m. 0) in
    let vs = flat_map value_section fs in
    let first : b ≡ declare_all known (sections_declare own 0 (vs ++ locals)) =
    eb ∙ ap (λ k. declare_all a (sections_declare own k locals)) (en ∙ sym (zero-add (count_names vs)))
    ∙ ap (λ k. declare_all k (sections_declare own (0 + count_names vs) locals)) ea
    ∙ sym (declare-append known (sections_declare own 0 vs) (sections_declare own (0 + count_names vs) locals))
    ∙ ap (declare_all known) (sym (sections-append own 0 vs locals)) in
    let both : b ≡ declare_all known (sections_declare (variables Local) 0 (map formal_section (filter (λ f. not f.is_var) fs) ++ locals)) =
    first ∙ sections_alone Local 0 (vs ++ locals) known ∙ ap (λ ss. declare_all known (sections_declare (variables Local) 0 (ss ++ locals))) (value_sections fs) in
    ed ∙ sections_alone Var 0 (flat_map var_section fs) b
    ∙ ap (λ ss. declare_all b (sections_declare (variables Var) 0 ss)) (var_sections fs)
    ∙ ap (λ k. declare_all k (sections_declare (variables Var) 0 (map formal_section (filter (λ f. f.is_var) fs)))) both

pub on_ok : {T E : Type 0} {P Q : Type 0} (r : Result T E) → (P → Q) → OnOk r P → OnOk r Q
on_ok (Ok v) f p = f p
on_ok (Err e) f p = tt
