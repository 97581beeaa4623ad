-- The global situation, and what the effects of a block do to it (ISO/IEC 9074: global instantaneous description).
use Rattle.std.specs.Prelude.{ℕ, suc, nat_lt, if◌then◌else◌, List, [], ◌∷◌, ◌++◌, map as each, filter, fold, is_none, Option, Some, None}
use Rattle.estelle_tree.specs.declared.link.IpAddr.{IpAddr}
use Rattle.estelle_tree.specs.declared.link.Link.{Link}
use Rattle.estelle_model.specs.declared.image.Interaction.{Interaction}
use Rattle.estelle_model.specs.declared.effect.Out.{Out}
use Rattle.estelle_tree.specs.declared.transition.Pair.{Pair}
use Rattle.estelle_tree.specs.Queues as queues
use Rattle.estelle_tree.specs.Queues.{waits_inside, moved, outside_of}
use Rattle.estelle_tree.specs.Timers.{Timers}
use Rattle.estelle_tree.specs.Paths.{Path, child}
use Rattle.estelle_tree.specs.Links.{bottom, route, attachment}
use Rattle.estelle_model.specs.Core.{Core}
use Rattle.estelle_model.specs.Effects.{StatementEffect, Output, Attach, Detach, Remove, Change, core_after, core_kept}
use Rattle.estelle_model.specs.States.{Offers}

-- an interaction, and the interaction point where it waits
abbrev pub Waiting : Type 0
Waiting = queues.Waiting Interaction

pub record Situation : Type 0 where
  -- the instances and the links
  pub core : Core
  -- all that wait, in the order in which they came to where they wait
  pub mail : List Waiting
  -- how many outputs there have been
  pub made : ℕ
  pub timers : Timers
  -- the moment of the last selection
  pub now : ℕ
  -- the selected firings of all systems, in the order of their selections
  pub pending : List Pair

-- a situation in which a block acts, with its outputs and the numbers of its drops so far
pub record Acting : Type 0 where
  pub situation : Situation
  pub outs : List Out
  pub drops : List ℕ

-- ---- what effects do to the interactions

abbrev pub arrived : Interaction → Option IpAddr → List Waiting → List Waiting
arrived i None mail = mail
arrived i (Some a) mail = mail ++ record { item = i; at = a } ∷ []

-- what waits after an effect, by the links and the count of outputs before it
unfoldable pub mail_after : StatementEffect → List Link → ℕ → List Waiting → List Waiting
mail_after (Output from ip name values) links made mail = arrived (record { number = suc made; name = name; values = values }) (route links from) mail
mail_after (Attach upper lower) links made mail = moved upper (bottom (links ++ attachment upper lower ∷ []) lower) mail
mail_after (Detach upper) links made mail = moved (bottom links upper) upper mail
mail_after (Remove p k) links made mail = outside_of (child p k) mail
mail_after _ links made mail = mail

unfoldable pub made_after : StatementEffect → ℕ → ℕ
made_after (Output from ip name values) made = suc made
made_after _ made = made

-- an output whose way meets no connection is lost
unfoldable pub outs_after : StatementEffect → List Link → List Out → List Out
outs_after (Output from ip name values) links outs = outs ++ record { path = from.path; ip = ip; name = name; values = values; lost = is_none (route links from) } ∷ []
outs_after _ links outs = outs

abbrev pub put_number : List ℕ → ℕ → List ℕ
put_number [] n = n ∷ []
put_number (m ∷ ms) n = if nat_lt n m then n ∷ m ∷ ms else m ∷ put_number ms n

-- the numbers of the drops always rise
unfoldable pub drops_after : StatementEffect → List Waiting → List ℕ → List ℕ
drops_after (Remove p k) mail drops = fold put_number drops (each (λ w. w.item.number) (filter (waits_inside (child p k)) mail))
drops_after _ mail drops = drops

-- ---- a situation is a state in which blocks run: everything acts on it at once

abbrev pub situation_after : StatementEffect → Situation → Situation
situation_after e g = record g { core = core_after e g.core; mail = mail_after e g.core.links g.made g.mail; made = made_after e g.made }

abbrev pub acting_after : StatementEffect → Acting → Acting
acting_after e a = record {
  situation = situation_after e a.situation;
  outs = outs_after e a.situation.core.links a.outs;
  drops = drops_after e a.situation.mail a.drops;
}

abbrev pub situation_kept : Path → Change → Situation → Situation
situation_kept p change g = record g { core = core_kept p change g.core }

abbrev pub on_situation : Offers Acting
on_situation = record {
  core = λ a. a.situation.core;
  does = acting_after;
  keeps = λ p change a. record a { situation = situation_kept p change a.situation };
}
