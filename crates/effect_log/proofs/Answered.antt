-- What is put where a done answers.
use Rattle.std.proofs.Common.{◌≡◌, ℕ, zero, suc, List, [], refl, sym, ap, subst, ◌∙◌}
use Rattle.std.specs.FinMap as map
use Rattle.estelle_tree.specs.Paths.{Path}
use Rattle.estelle_model.specs.declared.image.Image.{Image}
use Rattle.estelle_model.specs.declared.effect.Effect.{Effect}
use Rattle.estelle_model.specs.declared.job.Done.{Done}
use Rattle.estelle_model.specs.declared.job.Outcome.{Outcome}
use Rattle.estelle_model.specs.declared.job.Outcome.TheVariants as outcome
use Rattle.estelle_model.specs.Effects.{StatementEffect}
use Rattle.estelle_model.specs.Subject.{Subject}
use Rattle.estelle_model.specs.Situation.{Situation}
use Rattle.estelle_model.specs.Firing.{Firing, untimed, transition_at, bare}
use Rattle.estelle_model.specs.Jobs.{put, ran, taken_by, IsPut, AnswersAt}
use Rattle.effect_log.specs.Putting.{IsRan, log_of, parts_of, effects_of, IsJobAt, AnswersIn, begun_by, after_put, firing_of, PutsAreFirings}
use Rattle.effect_log.proofs.Lawful.{no-initial, effects-logged}

-- where the head is taken by a transition of an instance of this path
abbrev begins_at : Subject → Situation → Path × ℕ → Situation
begins_at s g x = taken_by s g x.0 (transition_at s x.1 (map.get g.core.instances x.0))

-- what is computed of a job that ran is put into each situation in which it is one
pub put-in : (s : Subject) (g : Situation) (done : Done) (image : Image) (effects : List Effect) → done.outcome ≡ outcome.Ran image effects → (a : AnswersIn s g done)
    → IsPut s done.path done.trans (begun_by s g done).situation image effects done.left (firing_of s g a.job a.job.trans)
put-in s g done image effects is a = by a.job.trans a.answers.trans a.at (subst (λ (o : Outcome). AnswersAt s a.job a.job.trans o done.left) is a.answers.answers)
  where
    by : (n : ℕ) → done.trans ≡ n → IsJobAt s g a.job n → AnswersAt s a.job n (outcome.Ran image effects) done.left → IsPut s done.path done.trans (begun_by s g done).situation image effects done.left (firing_of s g a.job n)
    by zero e at p =
        let first : bare s ≡ begins_at s g ([], 0) = sym at.0 ∙ ap (taken_by s g []) (sym (no-initial s (map.get g.core.instances []))) in
        let here : ◌≡◌ {A = Path × ℕ} ([], 0) (done.path, done.trans) = (λ i. (sym (a.answers.path ∙ at.1) i, sym e i)) in
        subst (λ (x : Path × ℕ). IsPut s x.0 x.1 (begins_at s g x) image effects done.left (firing_of s g a.job 0)) here
        (subst (λ (h : Situation). IsPut s [] 0 h image effects done.left (firing_of s g a.job 0)) first p)
    by (suc n) e at p =
        let here : ◌≡◌ {A = Path × ℕ} (a.job.path, a.job.trans) (done.path, done.trans) = (λ i. (sym a.answers.path i, sym a.answers.trans i)) in
        subst (λ (x : Path × ℕ). IsPut s x.0 x.1 (begins_at s g x) image effects done.left (firing_of s g a.job (suc n))) here (p g at.1)

-- the log is that of the effects
pub log-is : (s : Subject) (m : Path) (n : ℕ) (g : Situation) (image : Image) (effects : List Effect) (left : ℕ) (f : Firing) (p : IsPut s m n g image effects left f) → effects_of effects ≡ p.log
log-is s m n g image effects left f p = ap effects_of p.logged ∙ effects-logged s p.log

pub puts-are-firings : PutsAreFirings
puts-are-firings s g done ran_is a = by done.outcome refl ran_is
  where
    by : (o : Outcome) → done.outcome ≡ o → IsRan o → firing_of s g a.job a.job.trans ≡ untimed done.path done.trans (ran (after_put s g done) done.left)
    by (outcome.Ran image effects) is h =
        let p = put-in s g done image effects is a in
        p.result ∙ ap (λ (es : List StatementEffect). untimed done.path done.trans (ran (put done.path es image.parts (begun_by s g done)) done.left))
        (sym (log-is s done.path done.trans (begun_by s g done).situation image effects done.left (firing_of s g a.job a.job.trans) p))
        ∙ ap (λ (o : Outcome). untimed done.path done.trans (ran (put done.path (effects_of (log_of o)) (parts_of o) (begun_by s g done)) done.left)) (sym is)
    by (outcome.Faulted kind) is h = absurd h
