use Rattle.std.proofs.Common.{◌≡◌, ℕ, true, false, [], arith, subst}
use Rattle.std.proofs.lemmas.Grind.{common_steps}
use Rattle.std.specs.Prelude.{◌↔◌, IsTrue, MatchBool}
use Rattle.estelle_tree.specs.Paths.{Path}
use Rattle.offer_table.specs.Tables.{is_on}
use Rattle.offer_table.proofs.FoundLaws.{enabled}
use Rattle.offer_table.proofs.offers.Offers.is_empty.Goals as goal

pub returns-clause-enabled : goal.returns-clause-enabled
returns-clause-enabled c =
    let none : IsTrue c.is_empty.result ↔ (c.self.inside.rows.items ≡ []) = grind (arith, common_steps) in
    subst (λ t. MatchBool c.is_empty.result ((p : Path) (n : ℕ) → is_on t p n ≡ false) ((p : Path) × (n : ℕ) × (is_on t p n ≡ true))) c.self.view_is (enabled _ c.is_empty.result c.self.invariant none)
