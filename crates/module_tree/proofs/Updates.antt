-- Links of places, after one place has changed or is gone.
use Rattle.std.proofs.Common.{◌≡◌, ◌≢◌, ℕ, Bool, true, false, cond, Option, Some, None, is_some, refl, sym, ap, ◌∙◌, true≢false}
use Rattle.std.specs.Prelude.{IsSome}
use Rattle.std.specs.Option.{option_map, option_map_or}
use Rattle.estelle_tree.specs.Paths.{Path}
use Rattle.module_tree.specs.Nodes.{same, Links, number_at}
use Rattle.module_tree.proofs.Paths.{same_itself, differs}

pub record Updated (f g : Path → Option Links) (key : Path) (change : Links → Links) : Type 0 where
  pub at : (q : Path) → g q ≡ cond (same key q) (option_map change (f q)) (f q)

pub record Gone (f g : Path → Option Links) (key : Path) : Type 0 where
  pub at : (q : Path) → g q ≡ cond (same key q) None (f q)

pub record Added (f g : Path → Option Links) (key : Path) (links : Links) : Type 0 where
  pub at : (q : Path) → g q ≡ cond (same key q) (Some links) (f q)

module _ {f g : Path → Option Links} {key : Path} where
  pub gone_key : Gone f g key → g key ≡ None
  gone_key u = u.at key ∙ ap (λ b. cond b None (f key)) (same_itself key)

  pub gone_other : Gone f g key → (q : Path) → key ≢ q → g q ≡ f q
  gone_other u q h = u.at q ∙ ap (λ b. cond b None (f q)) (differs key q h)

  pub added_key : {x : Links} → Added f g key x → g key ≡ Some x
  added_key {x = x} u = u.at key ∙ ap (λ b. cond b (Some x) (f key)) (same_itself key)

  pub added_other : {x : Links} → Added f g key x → (q : Path) → key ≢ q → g q ≡ f q
  added_other {x = x} u q h = u.at q ∙ ap (λ b. cond b (Some x) (f q)) (differs key q h)

  module _ {change : Links → Links} (u : Updated f g key change) where
    pub updated_other : (q : Path) → key ≢ q → g q ≡ f q
    updated_other q h = u.at q ∙ ap (λ b. cond b (option_map change (f q)) (f q)) (differs key q h)

    pub updated_key : g key ≡ option_map change (f key)
    updated_key = u.at key ∙ ap (λ b. cond b (option_map change (f key)) (f key)) (same_itself key)

    pub updated_there : (q : Path) → is_some (g q) ≡ is_some (f q)
    updated_there q = ap is_some (u.at q) ∙ by (same key q) (f q)
      where
        by : (b : Bool) (o : Option Links) → is_some (cond b (option_map change o) o) ≡ is_some o
        by true None = refl
        by true (Some x) = refl
        by false o = refl

    -- a number that the change leaves
    pub updated_keeps : (field : Links → ℕ) → ((x : Links) → field (change x) ≡ field x) → (q : Path) → number_at field g q ≡ number_at field f q
    updated_keeps field keeps q = ap (λ o. option_map_or field o 0) (u.at q) ∙ by (same key q) (f q)
      where
        by : (b : Bool) (o : Option Links) → option_map_or field (cond b (option_map change o) o) 0 ≡ option_map_or field o 0
        by true None = refl
        by true (Some x) = keeps x
        by false o = refl

    -- a number that the change sets
    pub updated_sets : (field : Links → ℕ) (n : ℕ) → ((x : Links) → field (change x) ≡ n) → IsSome (f key) → number_at field g key ≡ n
    updated_sets field n sets there = ap (λ o. option_map_or field o 0) updated_key ∙ by (f key) there
      where
        by : (o : Option Links) → IsSome o → option_map_or field (option_map change o) 0 ≡ n
        by None h = absurd (true≢false (sym h))
        by (Some x) h = sets x
