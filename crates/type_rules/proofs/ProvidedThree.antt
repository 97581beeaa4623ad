-- A whole specification in which rule 40 is broken at `provided 3`.
use Rattle.std.proofs.Common.{◌≡◌, ◌∙◌, [], ◌∷◌, Some, None, inl, refl, ap, sym, subst, ◌++◌}
use Rattle.std.specs.Prelude.{codes, pos}
use Rattle.estelle_tree.specs.declared.names.Names.{Names}
use Rattle.estelle_tree.specs.declared.tree.statement.Stmt.TheVariants as stmt_node
use Rattle.estelle_tree.specs.declared.tree.statement.Stmts.{roll-Stmts}
use Rattle.estelle_tree.specs.declared.tree.clause.Block.{Block}
use Rattle.estelle_tree.specs.declared.tree.clause.Clause.TheVariants as clause_node
use Rattle.estelle_tree.specs.declared.tree.clause.Group.{Group, roll-Group, out-Group}
use Rattle.estelle_tree.specs.declared.tree.clause.TransBody.{TransBody, out-TransBody, map-TransBody, fold_out-TransBody}
use Rattle.estelle_tree.specs.declared.tree.clause.TransBody.TheVariants as body_node
use Rattle.estelle_tree.specs.declared.tree.clause.TransBody.TheViews.{out-roll-Group}
use Rattle.estelle_tree.specs.declared.tree.clause.TransBody.TheFolds.{map-Group, fold_out-Group}
use Rattle.estelle_tree.specs.declared.tree.specification.SysAttr.TheVariants as sys_attr
use Rattle.estelle_tree.specs.declared.tree.specification.Spec.{Spec}
use Rattle.estelle_tree.specs.declared.tree.specification.Parts.{Parts, roll-Parts, out-Parts}
use Rattle.estelle_tree.specs.declared.tree.specification.Decl.{Decl}
use Rattle.estelle_tree.specs.declared.tree.specification.Body.{Body}
use Rattle.estelle_tree.specs.declared.tree.specification.Decl.TheViews.{out-roll-Parts}
use Rattle.estelle_tree.specs.declared.tree.specification.Decl.TheFolds.{map-Parts, fold_out-Parts}
use Rattle.scope_rules.specs.declared.refusal.Breach.{Breach}
use Rattle.scope_rules.specs.NameRules.{IsOne}
use Rattle.type_rules.specs.Types.{integer}
use Rattle.type_rules.specs.Meanings.{Env}
use Rattle.type_rules.specs.declared.sites.Wanted.TheVariants.{ABoolean}
use Rattle.type_rules.specs.declared.sites.Access.TheVariants.{NoVariable}
use Rattle.type_rules.specs.declared.sites.Site.TheVariants.{Wants}
use Rattle.type_rules.specs.declared.sites.PlacedSite.{PlacedSite}
use Rattle.type_rules.specs.SpecificationSites.{Part, PlacedPart, trans_body_layer, group_layer, trans_body, group, decl_layer, body_layer, parts_layer, decl, body, parts, all_of, placed, in_body, env, sites}
use Rattle.type_rules.specs.ExpressionSites.{Judged}
use Rattle.type_rules.specs.PascalRules.{PascalRuleBroken}
use Rattle.type_rules.proofs.Examples.{at, number, number_is}

-- specification s systemprocess; trans provided 3 begin end; end.
abbrev block : Block
block = record { label = None; decls = []; late_label = None; body = roll-Stmts (record { stmts = stmt_node.Empty ∷ []; span = at 0 0 }); span = at 48 58 }

abbrev when_three : Group
when_three = roll-Group (record { clause = clause_node.Provided (number (pos 3) (at 46 47)) (at 37 47); body = body_node.Block block; span = at 37 58 })

abbrev behind_trans : TransBody
behind_trans = body_node.Groups (when_three ∷ []) (at 37 58)

abbrev inside : Parts
inside = roll-Parts (record { decls = []; init = None; trans = record { body = behind_trans; span = at 31 58 } ∷ []; span = at 31 58 })

abbrev tree : Spec
tree = record {
  name = record { word = codes "s"; span = at 14 15 };
  attr = Some (sys_attr.Systemprocess (at 16 29));
  heads = [];
  parts = inside;
  span = at 0 63;
}

trans_body_is : (x : TransBody) → trans_body x ≡ trans_body_layer (map-TransBody TransBody Group Part Part trans_body group (out-TransBody x))
unfolding trans_body group
trans_body_is x = fold_out-TransBody Part Part trans_body_layer group_layer x

group_is : (x : Group) → group x ≡ group_layer (map-Group TransBody Group Part Part trans_body group (out-Group x))
unfolding trans_body group
group_is x = fold_out-Group Part Part trans_body_layer group_layer x

parts_is : (x : Parts) → parts x ≡ parts_layer (map-Parts Decl Body Parts PlacedPart PlacedPart PlacedPart decl body parts (out-Parts x))
unfolding decl body parts
parts_is x = fold_out-Parts PlacedPart PlacedPart PlacedPart decl_layer body_layer parts_layer x

group_out : group when_three ≡ group_layer (record { clause = clause_node.Provided (number (pos 3) (at 46 47)) (at 37 47); body = trans_body (body_node.Block block); span = at 37 58 })
group_out = group_is when_three ∙ ap (λ l. group_layer (map-Group TransBody Group Part Part trans_body group l)) (out-roll-Group (record { clause = clause_node.Provided (number (pos 3) (at 46 47)) (at 37 47); body = body_node.Block block; span = at 37 58 }))

groups_out : trans_body behind_trans ≡ all_of (group when_three ∷ [])
groups_out = trans_body_is behind_trans ∙ ap (λ l. trans_body_layer (map-TransBody TransBody Group Part Part trans_body group l)) (body_node.outs-Groups (when_three ∷ []) (at 37 58))

parts_out : parts inside ≡ parts_layer (record { decls = []; init = None; trans = record { body = behind_trans; span = at 31 58 } ∷ []; span = at 31 58 })
parts_out = parts_is inside ∙ ap (λ l. parts_layer (map-Parts Decl Body Parts PlacedPart PlacedPart PlacedPart decl body parts l)) (out-roll-Parts (record { decls = []; init = None; trans = record { body = behind_trans; span = at 31 58 } ∷ []; span = at 31 58 }))

abbrev there : PlacedSite
there = record { place = in_body 0; site = Wants ABoolean (record { at = at 46 47; type_ = Some integer; access = NoVariable }) }

at_place : (e : Env) → IsOne there ((parts inside).sites e 0)
at_place e =
    subst (λ (x : PlacedPart). IsOne there (x.sites e 0)) (sym parts_out)
    (subst (λ (x : Part). IsOne there (placed (in_body 0) (x.sites e) ++ [])) (sym groups_out)
    (subst (λ (x : Part). IsOne there (placed (in_body 0) (x.sites e ++ []) ++ [])) (sym group_out)
    (subst (λ (j : Judged). IsOne there (placed (in_body 0) (((j.sites ++ Wants ABoolean j.typed ∷ []) ++ (trans_body (body_node.Block block)).sites e) ++ []) ++ [])) (sym (number_is e (pos 3) (at 46 47))) (inl refl))))

-- whatever the names mean, rule 40 is broken at the 3
broken_at_three : (names : Names) → PascalRuleBroken tree names (record { number = 40; span = at 46 47 })
unfolding sites
broken_at_three names = (there, (at_place (env tree names), inl (refl, (refl, refl))))

-- ---- specification s; end. breaks none of the rules

abbrev empty_inside : Parts
empty_inside = roll-Parts (record { decls = []; init = None; trans = []; span = at 0 0 })

abbrev empty : Spec
empty = record { name = record { word = codes "s"; span = at 14 15 }; attr = None; heads = []; parts = empty_inside; span = at 0 21 }

empty_out : parts empty_inside ≡ parts_layer (record { decls = []; init = None; trans = []; span = at 0 0 })
empty_out = parts_is empty_inside ∙ ap (λ l. parts_layer (map-Parts Decl Body Parts PlacedPart PlacedPart PlacedPart decl body parts l)) (out-roll-Parts (record { decls = []; init = None; trans = []; span = at 0 0 }))

kept : (names : Names) (b : Breach) → PascalRuleBroken empty names b → ⊥
unfolding sites
kept names b h = subst (λ (x : PlacedPart). IsOne h.0 (x.sites (env empty names) 0)) empty_out h.1.0
