-- What is reported of the sites that were found is what is reported of the specification.
use Rattle.std.proofs.Common.{◌≡◌, ◌∙◌, ap, sym, subst, List, Option, Some, None}
use Rattle.std.specs.Prelude.{IfNone, IfSome}
use Rattle.estelle_tree.specs.declared.names.Names.{Names}
use Rattle.estelle_tree.specs.declared.tree.specification.Spec.{Spec}
use Rattle.scope_rules.specs.declared.refusal.Breach.{Breach}
use Rattle.scope_rules.specs.Least.{IsLeast}
use Rattle.type_rules.specs.declared.sites.PlacedSite.{PlacedSite}
use Rattle.type_rules.specs.Meanings.{Env}
use Rattle.type_rules.specs.SpecificationSites.{parts, env, sites}
use Rattle.type_rules.specs.PascalRules.{SiteRuleBroken, PascalRuleBroken}

-- the sites that were found, by what names mean, are those of the specification
pub found_are : (s : Spec) (names : Names) (table : Env) (found items : List PlacedSite) → table ≡ env s names → found ≡ (parts s.parts).sites table s.span.start → items ≡ found → items ≡ sites s names
unfolding sites
found_are s names table found items t f e = e ∙ f ∙ ap (λ (v : Env). (parts s.parts).sites v s.span.start) t

-- where nothing is reported of them, no rule is broken
pub none_broken : (s : Spec) (names : Names) (items : List PlacedSite) (first : Option Breach) → items ≡ sites s names → first ≡ None → IfNone first ((b : Breach) → SiteRuleBroken items b → ⊥) → (b : Breach) → PascalRuleBroken s names b → ⊥
none_broken s names items None e n h b p = h b (subst (λ ps. SiteRuleBroken ps b) (sym e) p)
none_broken s names items (Some c) e n h b p = absurd cc

-- what is reported of them is the least breach
pub least_broken : (s : Spec) (names : Names) (items : List PlacedSite) (first : Option Breach) (b : Breach) → items ≡ sites s names → first ≡ Some b → IfSome first (IsLeast (SiteRuleBroken items)) → IsLeast (PascalRuleBroken s names) b
least_broken s names items None b e n h = absurd cc
least_broken s names items (Some c) b e n h = let same : c ≡ b = cc in subst (λ ps. IsLeast (SiteRuleBroken ps) b) e (subst (IsLeast (SiteRuleBroken items)) same h)
