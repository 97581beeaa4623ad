-- The least of all rules is the least rule on names, or where these hold the least of the others.
use Rattle.std.proofs.Common.{◌≡◌, inl, inr, false, ◌⊎◌, sym, subst, Option, Some, None}
use Rattle.std.specs.Prelude.{Result, Ok, Err, OnOk, IfErr}
use Rattle.estelle_tree.specs.declared.names.Names.{Names}
use Rattle.estelle_tree.specs.declared.tree.specification.Spec.{Spec}
use Rattle.scope_rules.specs.declared.refusal.Breach.{Breach}
use Rattle.scope_rules.specs.declared.refusal.Refusal.{Refusal}
use Rattle.scope_rules.specs.declared.refusal.Refusal.TheVariants.{Rule, Memory}
use Rattle.scope_rules.specs.Least.{IsLeast, IsFirst, Refuses, is_before, noted}
use Rattle.scope_rules.specs.NameRules.{NameRuleBroken}
use Rattle.scope_rules.proofs.First.{least_first, first_of_none, first_none, first_least, first_noted}
use Rattle.spec_accept.specs.Rules.{names, KeepsNames, MeaningRuleBroken, RuleBroken, told}

-- what a refusal tells is what is reported of its rules
pub told_first : (P : Breach → Type 0) (r : Result (Unit {0}) Refusal) (found : Option Breach) → told r ≡ Ok found → OnOk r ((b : Breach) → P b → ⊥) → IfErr r (Refuses P) → IsFirst P found
told_first P (Ok u) found e kept refused = let s : None ≡ found = cc in subst (IsFirst P) s (first_of_none P kept)
told_first P (Err (Rule number span)) found e kept refused = let s : Some (record { number = number; span = span }) ≡ found = cc in subst (IsFirst P) s (least_first P (record { number = number; span = span }) refused)
told_first P (Err Memory) found e kept refused = absurd cc

-- what tells nothing is want of memory
pub told_memory : (r : Result (Unit {0}) Refusal) (refusal : Refusal) → told r ≡ Err refusal → refusal ≡ Memory
told_memory (Ok u) refusal e = absurd cc
told_memory (Err (Rule number span)) refusal e = absurd cc
told_memory (Err Memory) refusal e = cc

names_least : (spec : Spec) (b : Breach) → IsLeast (NameRuleBroken spec) b → IsLeast (RuleBroken spec) b
names_least spec b least = record { broken = inl least.broken; first = first }
  where
    first : (c : Breach) → RuleBroken spec c → is_before c b ≡ false
    first c (inl h) = least.first c h
    first c (inr h) = absurd (h.0 b least.broken)

pub names_refuse : (spec : Spec) (r : Refusal) → Refuses (NameRuleBroken spec) r → Refuses (RuleBroken spec) r
names_refuse spec (Rule number span) h = names_least spec (record { number = number; span = span }) h
names_refuse spec Memory h = tt

meaning_least : (spec : Spec) → KeepsNames spec → (b : Breach) → IsLeast (MeaningRuleBroken spec (names spec)) b → IsLeast (RuleBroken spec) b
meaning_least spec keeps b least = record { broken = inr (keeps, least.broken); first = first }
  where
    first : (c : Breach) → RuleBroken spec c → is_before c b ≡ false
    first c (inl h) = absurd (keeps c h)
    first c (inr h) = least.first c h.1

-- the breach that is reported of the rules from 10 on, by the names that were found
pub meaning_refuses : (spec : Spec) (found : Names) → found ≡ names spec → KeepsNames spec → (first : Option Breach) (b : Breach) → first ≡ Some b → IsFirst (MeaningRuleBroken spec found) first → IsLeast (RuleBroken spec) b
meaning_refuses spec found same keeps first b e f =
    meaning_least spec keeps b (first_least (MeaningRuleBroken spec (names spec)) b (subst (λ o. IsFirst (MeaningRuleBroken spec (names spec)) o) e (subst (λ n. IsFirst (MeaningRuleBroken spec n) first) same f)))

pub none_broken : (spec : Spec) (found : Names) → found ≡ names spec → KeepsNames spec → (first : Option Breach) → first ≡ None → IsFirst (MeaningRuleBroken spec found) first → (b : Breach) → RuleBroken spec b → ⊥
none_broken spec found same keeps first e f b (inl h) = keeps b h
none_broken spec found same keeps first e f b (inr h) = first_none (MeaningRuleBroken spec found) first e f b (subst (λ n. MeaningRuleBroken spec n b) (sym same) h.1)

-- of four kinds of breaches, the one that is reported
pub four_first : (P Q R S : Breach → Type 0) (p q r s : Option Breach) → IsFirst P p → IsFirst Q q → IsFirst R r → IsFirst S s → IsFirst (λ b. ((P b ⊎ Q b) ⊎ R b) ⊎ S b) (noted (noted (noted p q) r) s)
four_first P Q R S p q r s f g h k = first_noted (λ b. (P b ⊎ Q b) ⊎ R b) S (noted (noted p q) r) s (first_noted (λ b. P b ⊎ Q b) R (noted p q) r (first_noted P Q p q f g) h) k

pub memory_refuses : (P : Breach → Type 0) (r : Refusal) → r ≡ Memory → Refuses P r
memory_refuses P (Rule number span) e = absurd cc
memory_refuses P Memory e = tt
