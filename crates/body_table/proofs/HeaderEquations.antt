-- What a header declares, piece by piece.
use Rattle.std.proofs.Common.{◌≡◌, ◌∙◌, ℕ, List, ◌++◌, map, ap, sym}
use Rattle.std.specs.List.{flat_map}
use Rattle.estelle_tree.specs.declared.tree.type_expr.TypedNames.{TypedNames}
use Rattle.estelle_tree.specs.declared.tree.specification.IpDecl.{IpDecl}
use Rattle.estelle_tree.specs.declared.tree.specification.Header.{Header}
use Rattle.estelle_model.specs.Denoted.{section, numbered, types_declare, sections_declare, count_names}
use Rattle.estelle_model.specs.Definitions.{parameter_sections}
use Rattle.estelle_model.specs.Bodies.{export_sections}
use Rattle.meaning_table.specs.Known.{Known, declare_all}
use Rattle.meaning_table.specs.Kinds.{numbered_behind, variables, plainly}
use Rattle.meaning_table.specs.declared.kinds.VariableKind.TheVariants.{Own, Exported}
use Rattle.meaning_table.specs.declared.kinds.PlainKind.TheVariants.{Ip}
use Rattle.meaning_table.proofs.Declarations.{declare-append, sections_alone}
use Rattle.body_table.specs.Contributions.{ip_names_in}
use Rattle.body_table.specs.Headers.{instance_declares}

pub instance_known : (h : Header) (known a b d e : Known) (n : ℕ) (xs ys : List TypedNames) (ips : List IpDecl)
    → xs ≡ h.exports → ys ≡ h.exports → ips ≡ h.ips → a ≡ declare_all known (types_declare (map section xs)) → b ≡ declare_all a (sections_declare (variables Own) 0 (parameter_sections h.params)) → n ≡ count_names (parameter_sections h.params)
    → d ≡ declare_all b (sections_declare (numbered_behind Exported (λ m. 0)) n (map section ys)) → e ≡ declare_all d (numbered (plainly Ip) 0 (flat_map ip_names_in ips)) → e ≡ declare_all known (instance_declares h)
instance_known h known a b d e n xs ys is e_xs e_ys e_is e_a e_b e_n e_d e_e =
    let types = types_declare (export_sections h) in
    let params = sections_declare (variables Own) 0 (parameter_sections h.params) in
    let exports = sections_declare (variables Exported) (count_names (parameter_sections h.params)) (export_sections h) in
    let ips = numbered (plainly Ip) 0 (flat_map ip_names_in h.ips) in
    let to_params : b ≡ declare_all known (types ++ params) = e_b ∙ ap (λ k. declare_all k params) (e_a ∙ ap (λ zs. declare_all known (types_declare (map section zs))) e_xs) ∙ sym (declare-append known types params) in
    let to_exports : d ≡ declare_all known (types ++ params ++ exports) =
    e_d ∙ ap (λ zs. declare_all b (sections_declare (numbered_behind Exported (λ m. 0)) n (map section zs))) e_ys ∙ sections_alone Exported n (export_sections h) b ∙ ap (λ k. declare_all b (sections_declare (variables Exported) k (export_sections h))) e_n
    ∙ ap (λ k. declare_all k exports) to_params ∙ sym (declare-append known (types ++ params) exports) in
    e_e ∙ ap (λ zs. declare_all d (numbered (plainly Ip) 0 (flat_map ip_names_in zs))) e_is ∙ ap (λ k. declare_all k ips) to_exports ∙ sym (declare-append known (types ++ params ++ exports) ips)
