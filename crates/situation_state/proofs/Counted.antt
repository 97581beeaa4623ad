-- What is put of a done, by what its log has.
use Rattle.std.proofs.Common.{◌≡◌, ◌+◌, List, [], ◌∷◌, Option, Some, None, refl, sym, ap, subst, ◌∙◌, arith}
use Rattle.std.specs.FinMap as map
use Rattle.std.proofs.lemmas.List.Sums.{sum_by-cons}
use Rattle.estelle_tree.specs.Paths.{Path}
use Rattle.estelle_model.specs.declared.effect.Effect.{Effect}
use Rattle.estelle_model.specs.declared.image.Image.{Image}
use Rattle.estelle_model.specs.declared.job.Done.{Done}
use Rattle.estelle_model.specs.declared.job.Outcome.{Outcome}
use Rattle.estelle_model.specs.declared.job.Outcome.TheVariants as outcome
use Rattle.estelle_model.specs.Effects.{StatementEffect, Output, Connect, Disconnect, Attach, Detach, Create, Remove}
use Rattle.estelle_model.specs.Transitions.{Transition, When}
use Rattle.estelle_model.specs.Subject.{Subject}
use Rattle.estelle_model.specs.Situation.{Situation, Acting, acting_after, made_after}
use Rattle.estelle_model.specs.Firing.{Firing, transition_at, taken as taken_at}
use Rattle.estelle_model.specs.Jobs.{IsPut, after_all, put, taken_by, all_logged, logged_as}
use Rattle.effect_log.specs.Putting.{IsRan, log_of, parts_of, effects_of, AnswersIn, begun_by, after_put, firing_of}
use Rattle.effect_log.specs.Rooms.{outputs_of, outputs_in}
use Rattle.effect_log.proofs.Answered.{put-in, log-is}
use Rattle.estelle_model_apart.proofs.Rest.{SameRest, all_rest, taken_by_rest}

-- outputs are counted
pub made_all : (s : Subject) (es : List StatementEffect) (a : Acting) → (after_all es a).situation.made ≡ a.situation.made + outputs_in (all_logged s es)
unfolding made_after
made_all s [] a = omega arith
made_all s (e ∷ es) a = one e (made_all s es (acting_after e a)) (sum_by-cons outputs_of (logged_as s e) (all_logged s es))
  where
    one : (e : StatementEffect) → (after_all es (acting_after e a)).situation.made ≡ (acting_after e a).situation.made + outputs_in (all_logged s es) → outputs_in (all_logged s (e ∷ es)) ≡ outputs_of (logged_as s e) + outputs_in (all_logged s es)
        → (after_all es (acting_after e a)).situation.made ≡ a.situation.made + outputs_in (all_logged s (e ∷ es))
    one (Output from ip name values) h sum = omega (arith, h, sum)
    one (Connect x y) h sum = omega (arith, h, sum)
    one (Disconnect x) h sum = omega (arith, h, sum)
    one (Attach upper lower) h sum = omega (arith, h, sum)
    one (Detach upper) h sum = omega (arith, h, sum)
    one (Create p k i) h sum = omega (arith, h, sum)
    one (Remove p k) h sum = omega (arith, h, sum)

pub taken_made : (s : Subject) (g : Situation) (m : Path) (o : Option Transition) → (taken_by s g m o).made ≡ g.made
taken_made s g m None = refl
taken_made s g m (Some t) = by t.when
  where
    by : (w : Option When) → (taken_at s g m w).made ≡ g.made
    by None = refl
    by (Some w) = refl

-- what was put, by what its log has
pub record IsPutSo (s : Subject) (g : Situation) (done : Done) (firing : Firing) : Type 0 where
  pub image : Image
  pub effects : List Effect
  pub is : done.outcome ≡ outcome.Ran image effects
  pub its : IsPut s done.path done.trans (begun_by s g done).situation image effects done.left firing

pub put_so : (s : Subject) (g : Situation) (done : Done) → IsRan done.outcome → (a : AnswersIn s g done) → IsPutSo s g done (firing_of s g a.job a.job.trans)
put_so s g done ran_is a = by done.outcome refl ran_is
  where
    by : (o : Outcome) → done.outcome ≡ o → IsRan o → IsPutSo s g done (firing_of s g a.job a.job.trans)
    by (outcome.Ran image effects) is h = record { image = image; effects = effects; is = is; its = put-in s g done image effects is a }
    by (outcome.Faulted kind) is h = absurd h

module _ (s : Subject) (g : Situation) (done : Done) (f : Firing) (p : IsPutSo s g done f) where
  pub after_is : after_put s g done ≡ put done.path p.its.log p.image.parts (begun_by s g done)
  after_is =
      (λ i. put done.path (effects_of (log_of (p.is i))) (parts_of (p.is i)) (begun_by s g done))
      ∙ ap (λ (es : List StatementEffect). put done.path es p.image.parts (begun_by s g done)) (log-is s done.path done.trans (begun_by s g done).situation p.image p.effects done.left f p.its)

  -- so many outputs are made as its log has
  pub made_is : (after_put s g done).situation.made ≡ g.made + outputs_in (log_of done.outcome)
  made_is =
      let all : (after_put s g done).situation.made ≡ (begun_by s g done).situation.made + outputs_in (all_logged s p.its.log) = ap (λ (a : Acting). a.situation.made) after_is ∙ made_all s p.its.log (begun_by s g done) in
      let log : outputs_in (log_of done.outcome) ≡ outputs_in (all_logged s p.its.log) = ap (λ (o : Outcome). outputs_in (log_of o)) p.is ∙ ap outputs_in p.its.logged in
      omega (arith, all, log, taken_made s g done.path (transition_at s done.trans (map.get g.core.instances done.path)))

  -- and the timers, the moment and what is pending stay
  pub rest_same : SameRest g (after_put s g done).situation
  rest_same =
      let first = taken_by_rest s g done.path (transition_at s done.trans (map.get g.core.instances done.path)) in
      let then = all_rest p.its.log (begun_by s g done) in
      subst (λ (x : Acting). SameRest g x.situation) (sym after_is) (record { timers = then.timers ∙ first.timers; now = then.now ∙ first.now; pending = then.pending ∙ first.pending })
