-- The equations that the code on clauses and bodies follows.
use Rattle.std.proofs.Common.{◌≡◌, ◌∙◌, ℕ, ap, sym, List, ◌++◌}
use Rattle.std.specs.List.{flat_map}
use Rattle.estelle_tree.specs.declared.tree.specification.Parts.{Parts, out-Parts}
use Rattle.estelle_tree.specs.declared.tree.specification.Decl.{Decl}
use Rattle.estelle_tree.specs.declared.tree.specification.Trans.{Trans}
use Rattle.type_rules.specs.Meanings.{Env, declare_all}
use Rattle.type_rules.specs.SpecificationSites.{trans_body, init_part, decl, parts}
use Rattle.type_rules.proofs.Lists.{chain_map}
use Rattle.type_rules.proofs.SpecificationEquations.{trans_body_is, group_is, decl_is, body_declares, parts_declare}
use Rattle.declaration_table.proofs.Declaring.{declare-append}

-- the parts of a specification or body, one after another
pub parts_after : (p : Parts) (at : ℕ) (env : Env) → declare_all env ((parts p).declares at) ≡ declare_all (declare_all (declare_all env (flat_map (λ d. (decl d).declares at) (out-Parts p).decls)) (init_part (out-Parts p).init).declares) (flat_map (λ t. (trans_body t.body).declares) (out-Parts p).trans)
parts_after p at env =
    let ds = flat_map (λ d. (decl d).declares at) (out-Parts p).decls in
    let i = (init_part (out-Parts p).init).declares in
    let ts = flat_map (λ t. (trans_body t.body).declares) (out-Parts p).trans in
    ap (declare_all env) (parts_declare p at) ∙ declare-append env ds (i ++ ts) ∙ declare-append (declare_all env ds) i ts

-- what is known behind the parts of a specification or body
pub parts_written : (p : Parts) (at : ℕ) (env e1 e2 e3 : Env) (ds : List Decl) (ts : List Trans) → ds ≡ (out-Parts p).decls → ts ≡ (out-Parts p).trans → e1 ≡ declare_all env (flat_map (λ d. (decl d).declares at) ds) → e2 ≡ declare_all e1 (init_part (out-Parts p).init).declares
    → e3 ≡ declare_all e2 (flat_map (λ t. (trans_body t.body).declares) ts) → e3 ≡ declare_all env ((parts p).declares at)
parts_written p at env e1 e2 e3 ds ts d t h1 h2 h3 =
    let i = (init_part (out-Parts p).init).declares in
    let rest = flat_map (λ x. (trans_body x.body).declares) (out-Parts p).trans in
    h3 ∙ ap (λ xs. declare_all e2 (flat_map (λ x. (trans_body x.body).declares) xs)) t
    ∙ ap (λ e. declare_all e rest) (h2 ∙ ap (λ e. declare_all e i) (h1 ∙ ap (λ xs. declare_all env (flat_map (λ x. (decl x).declares at) xs)) d))
    ∙ sym (parts_after p at env)

pub ruleset bodies = (trans_body_is, group_is, decl_is, body_declares, parts_declare, chain_map)
