-- Examples of statements of Estelle, by the effects that they log: attach p to x.q, detach p, and release x, where /2 holds /2/1 in x.
use Rattle.std.proofs.Common.{◌≡◌, ◌∙◌, ℕ, true, List, [], ◌∷◌, map as each, Ok, Option, Some, None, refl, ap}
use Rattle.std.specs.Prelude.{not}
use Rattle.std.specs.FinMap as map
use Rattle.estelle_tree.specs.declared.link.Link.{Link}
use Rattle.estelle_tree.specs.Paths.{is_inside}
use Rattle.estelle_tree.specs.Links.{connection}
use Rattle.estelle_model.specs.Core.{Instance, Instances}
use Rattle.estelle_model.specs.Effects.{StatementEffect, Disconnect, Attach, Detach, Remove, Hold, changed, changed_in, links_after, instances_after}
use Rattle.estelle_model.specs.States.{Logged, on_log}
use Rattle.estelle_model.specs.Steps.{Running, and_then, checked_at}
use Rattle.estelle_model.specs.Subject.{Subject, types_of_variables, child_of}
use Rattle.estelle_model.specs.InteractionPoints.{point, external_at, may_attach}
use Rattle.estelle_model.specs.Plans.{Plan, ◌>>=◌, makes, keeps, for_each, carry}
use Rattle.estelle_model.specs.Actions.{at, count_from, or_no_module, attach_points, detach_point, free_point, release_child}
use Rattle.estelle_model.specs.Situation.{Situation, Acting, mail_after, outs_after, drops_after, acting_after}
use Rattle.estelle_model.specs.Firing.{begun}
use Rattle.estelle_model.proofs.WorkedLinks.{waits, o, p, q, r, t, connected, attached, before_release}

module _ (subject : Subject) (instances : Instances) (left : ℕ) where
  -- the instances and these links, with these effects so far
  abbrev logged : Instances → List Link → List StatementEffect → Running Logged
  logged is links log = record { state = record { image = record { instances = is; links = links; types = types_of_variables subject }; log = log }; frames = []; left = left }

  pub attaches : may_attach subject instances p q ≡ true → carry Logged on_log (attach_points subject p q) (logged instances connected []) ≡ Ok (tt, logged instances attached (Attach p q ∷ []))
  unfolding links_after instances_after
  attaches allowed = simp allowed

  pub detaches : external_at (point subject instances p) ≡ true → carry Logged on_log (detach_point subject p) (logged instances attached []) ≡ Ok (tt, logged instances connected (Detach p ∷ []))
  unfolding links_after instances_after
  detaches external = simp external

  -- /2/1 has two external points: of q, a lower end, the attachment goes, and of r the connection; then /2/1 vanishes with all below it, and x is empty
  pub releases : (i : Instance) → map.get instances (2 ∷ 1 ∷ []) ≡ Some i → (child_of subject i.body).external ≡ 2
      → carry Logged on_log (release_child subject (2 ∷ []) 0 (2 ∷ 1 ∷ [])) (logged instances before_release [])
      ≡ Ok (tt, logged (changed_in (2 ∷ []) (changed (Hold 0 None)) (map.retain_keys instances (λ a. not (is_inside (2 ∷ 1 ∷ []) a)))) (connection o p ∷ []) (Detach p ∷ Disconnect r ∷ Remove (2 ∷ []) 1 ∷ []))
  unfolding links_after instances_after
  releases i there two =
      let rest : ℕ → Plan (Unit {0}) = λ k. for_each (free_point subject) (each (at (2 ∷ 1 ∷ [])) (count_from 0 k)) >>= λ freed. makes (Remove (2 ∷ []) 1) >>= λ removed. keeps (2 ∷ []) (Hold 0 None) in
      ap (λ (o : Option Instance). and_then (checked_at (or_no_module o) (logged instances before_release [])) (λ j. carry Logged on_log (rest (child_of subject j.body).external))) there
      ∙ ap (λ (k : ℕ). carry Logged on_log (rest k) (logged instances before_release [])) two

-- ---- what the effects of that release do to a situation

module _ (g : Situation) (links : g.core.links ≡ before_release) (mail : g.mail ≡ waits 2 r ∷ waits 1 t ∷ waits 3 q ∷ waits 4 q ∷ []) where
  abbrev after : Acting
  after = acting_after (Remove (2 ∷ []) 1) (acting_after (Disconnect r) (acting_after (Detach p) (begun g)))

  pub back_at_p : after.situation.mail ≡ waits 3 p ∷ waits 4 p ∷ []
  unfolding mail_after links_after
  back_at_p = simp (links, mail)

  pub dropped : after.drops ≡ 1 ∷ 2 ∷ []
  unfolding mail_after links_after drops_after
  dropped = simp (links, mail)

  pub one_connection_left : after.situation.core.links ≡ connection o p ∷ []
  unfolding links_after
  one_connection_left = simp links

  pub nothing_sent : after.outs ≡ []
  unfolding outs_after
  nothing_sent = refl
