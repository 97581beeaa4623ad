-- What a block runs on: any state that can be read, that takes effects, and that keeps changes of records.
use Rattle.std.specs.Prelude.{◌≡◌, List, [], ◌∷◌, ◌++◌}
use Rattle.estelle_tree.specs.Paths.{Path}
use Rattle.estelle_model.specs.Core.{Core}
use Rattle.estelle_model.specs.Effects.{StatementEffect, Change, core_after, core_kept}

-- what a state offers to blocks
pub record Offers (S : Type 0) : Type 0 where
  -- the instances, links and types that a block reads
  pub core : S → Core
  -- an effect is made
  pub does : StatementEffect → S → S
  -- a change of the record of an instance is kept
  pub keeps : Path → Change → S → S

-- what is read after an effect or a change is what it says
pub record IsFaithful (S : Type 0) (on : Offers S) : Type 0 where
  pub does_core : (e : StatementEffect) (s : S) → on.core (on.does e s) ≡ core_after e (on.core s)
  pub keeps_core : (p : Path) (change : Change) (s : S) → on.core (on.keeps p change s) ≡ core_kept p change (on.core s)

-- ---- the private part with a log: what an evaluator has, who knows no situation

pub record Logged : Type 0 where
  pub image : Core
  -- the effects so far, in order
  pub log : List StatementEffect

abbrev pub on_log : Offers Logged
on_log = record {
  core = λ l. l.image;
  does = λ e l. record { image = core_after e l.image; log = l.log ++ e ∷ [] };
  keeps = λ p change l. record l { image = core_kept p change l.image };
}
