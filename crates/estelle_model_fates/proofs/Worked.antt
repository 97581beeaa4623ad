-- Examples of fates and of moves. An interaction is told by its number.
use Rattle.std.proofs.Common.{◌≡◌, ℕ, true, false, Bool, [], ◌∷◌, refl}
use Rattle.estelle_model.specs.declared.effect.Out.{Out}
use Rattle.estelle_model.specs.declared.event.Event.TheVariants.{Start}
use Rattle.estelle_tree.specs.Timers.{Timers}
use Rattle.estelle_model.specs.Core.{Core}
use Rattle.estelle_model.specs.Effects.{Attach, Detach}
use Rattle.estelle_model.specs.Subject.{Subject}
use Rattle.estelle_model.specs.Situation.{Situation, mail_after}
use Rattle.estelle_model.specs.Firing.{bare}
use Rattle.estelle_model.proofs.WorkedLinks.{waits, p, k, q, connected, attached}
use Rattle.estelle_model_fates.specs.Fates.{Lost, Waits, Dropped, lost_after, fates_by, fates_from}
use Rattle.estelle_model_fates.specs.Order.{moves}

abbrev out : Bool → Out
out lost = record { path = []; ip = []; name = []; values = []; lost = lost }

-- three outputs after the third one: the fifth is lost
pub the_fifth : lost_after 3 (out false ∷ out true ∷ out false ∷ []) ≡ 5 ∷ []
the_fifth = refl

module _ (s : Subject) (budget : ℕ) where
  -- the start outputs 1, which is lost, and 2; it drops 3
  pub first_lost : fates_by s (bare s) 0 (Start (out true ∷ out false ∷ []) (3 ∷ [])) 1 ≡ Lost 0 ∷ []
  first_lost = refl

  pub second_not : fates_by s (bare s) 0 (Start (out true ∷ out false ∷ []) (3 ∷ [])) 2 ≡ []
  second_not = refl

  pub third_dropped : fates_by s (bare s) 0 (Start (out true ∷ out false ∷ []) (3 ∷ [])) 3 ≡ Dropped 0 ∷ []
  third_dropped = refl

  module _ (core : Core) (timers : Timers) where
    abbrev g : Situation
    g = record { core = record core { links = connected }; mail = waits 1 p ∷ waits 2 k ∷ waits 3 p ∷ []; made = 3; timers = timers; now = 0; pending = [] }

    -- 2 waits at the end
    pub waits_still : fates_from s budget g 1 [] 2 ≡ Waits ∷ []
    waits_still = refl

    -- attach p to x.q: 1 and 3 are moved
    pub two_moved : moves (Attach p q) g ≡ 1 ∷ 3 ∷ []
    two_moved = refl

    -- with p attached to q nothing waits at p, and detach moves what waits at q
    pub none_moved : moves (Detach p) (record g { core = record core { links = attached } }) ≡ []
    none_moved = refl

-- Where p and k have one queue, 1 comes before 2; once p is attached and detached again, it comes after 2. So what was moved may be overtaken.
pub overtaken : mail_after (Detach p) attached 2 (mail_after (Attach p q) connected 2 (waits 1 p ∷ waits 2 k ∷ [])) ≡ waits 2 k ∷ waits 1 p ∷ []
unfolding mail_after
overtaken = refl
