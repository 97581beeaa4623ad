-- What a channel declares, piece by piece.
use Rattle.std.proofs.Common.{◌≡◌, ◌∙◌, List, [], ◌∷◌, ap, sym}
use Rattle.std.specs.List.{flat_map}
use Rattle.estelle_tree.specs.declared.tree.name.Name.{Name}
use Rattle.estelle_tree.specs.declared.tree.specification.Channel.{Channel as ChannelTree}
use Rattle.estelle_tree.specs.declared.tree.specification.InterGroup.{InterGroup}
use Rattle.estelle_model.specs.declared.meaning.Role.TheVariants.{First, Second}
use Rattle.estelle_model.specs.declared.meaning.Meaning.{Meaning}
use Rattle.estelle_model.specs.declared.meaning.Meaning.TheVariants.{Channel, Role}
use Rattle.estelle_model.specs.Denoted.{Declarations, declare}
use Rattle.estelle_model.specs.Definitions.{group_declares, channel_declares}
use Rattle.meaning_table.specs.Known.{Known, with_meaning, declare_all}
use Rattle.meaning_table.proofs.Declarations.{meanings-nil, meanings-cons, declare-cons}

-- one name whose meaning does not rest on what is known
one_known : (x : Name) (m : Meaning) (rest : Declarations) (known : Known) → declare_all known (declare x (λ k. m) ∷ rest) ≡ declare_all (with_meaning known x.span.start m) rest
one_known x m rest known = declare-cons known (declare x (λ k. m)) rest ∙ ap (λ k. declare_all k rest) (meanings-cons known (x.span.start, m) [] ∙ meanings-nil (with_meaning known x.span.start m))

pub channel_known : (c : ChannelTree) (known a b d e : Known) (groups : List InterGroup) → groups ≡ c.groups
    → a ≡ with_meaning known c.name.span.start (Channel c.name.span.start) → b ≡ with_meaning a c.first_role.span.start (Role First) → d ≡ with_meaning b c.second_role.span.start (Role Second)
    → e ≡ declare_all d (flat_map (group_declares c) groups) → e ≡ declare_all known (channel_declares c)
channel_known c known a b d e groups e_groups e_a e_b e_d e_e =
    let rest : Declarations = flat_map (group_declares c) c.groups in
    let first : Declarations = declare c.first_role (λ k. Role First) ∷ declare c.second_role (λ k. Role Second) ∷ rest in
    let named : Known → Known = λ k. with_meaning k c.name.span.start (Channel c.name.span.start) in
    let with_first : Known → Known = λ k. with_meaning k c.first_role.span.start (Role First) in
    let with_second : Known → Known = λ k. with_meaning k c.second_role.span.start (Role Second) in
    e_e ∙ ap (λ gs. declare_all d (flat_map (group_declares c) gs)) e_groups
    ∙ ap (λ k. declare_all k rest) e_d
    ∙ ap (λ k. declare_all (with_second k) rest) e_b
    ∙ ap (λ k. declare_all (with_second (with_first k)) rest) e_a
    ∙ sym (one_known c.name (Channel c.name.span.start) first known
    ∙ one_known c.first_role (Role First) (declare c.second_role (λ k. Role Second) ∷ rest) (named known)
    ∙ one_known c.second_role (Role Second) rest (with_first (named known)))
