-- What a done puts into a situation in which it answers.
use Rattle.std.specs.Prelude.{◌≡◌, ℕ, zero, suc, List, [], ◌∷◌, ◌++◌, map as each, Option, Some, None}
use Rattle.std.specs.FinMap as map
use Rattle.estelle_tree.specs.declared.link.IpAddr.{IpAddr}
use Rattle.estelle_tree.specs.declared.link.Link.{Link}
use Rattle.estelle_tree.specs.Paths.{Path, parent_of, last_of}
use Rattle.estelle_tree.specs.Links.{route}
use Rattle.estelle_model.specs.declared.image.Part.{Part}
use Rattle.estelle_model.specs.declared.effect.Effect.{Effect}
use Rattle.estelle_model.specs.declared.effect.Effect.TheVariants as logged
use Rattle.estelle_model.specs.declared.job.Job.{Job}
use Rattle.estelle_model.specs.declared.job.Done.{Done}
use Rattle.estelle_model.specs.declared.job.Outcome.{Outcome}
use Rattle.estelle_model.specs.declared.job.Outcome.TheVariants as outcome
use Rattle.estelle_model.specs.Effects.{StatementEffect, Output, Connect, Disconnect, Attach, Detach, Create, Remove}
use Rattle.estelle_model.specs.Subject.{Subject}
use Rattle.estelle_model.specs.Situation.{Situation, Acting, acting_after}
use Rattle.estelle_model.specs.Firing.{Firing, begun, untimed, transition_at, fire, start, bare}
use Rattle.estelle_model.specs.Jobs.{instance_of, put, ran, taken_by, IsJobIn, Answers}
use Rattle.estelle_model_legality.specs.Situations.{IsLegal}

-- ---- what a done has

abbrev pub IsRan : Outcome → Type 0
IsRan (outcome.Ran image effects) = Unit {0}
IsRan (outcome.Faulted kind) = ⊥

abbrev pub log_of : Outcome → List Effect
log_of (outcome.Ran image effects) = effects
log_of (outcome.Faulted kind) = []

abbrev pub parts_of : Outcome → List Part
parts_of (outcome.Ran image effects) = image.parts
parts_of (outcome.Faulted kind) = []

-- the effect that is logged so
abbrev pub effect_of : Effect → StatementEffect
effect_of (logged.Output from item out) = Output from out.ip item.name item.values
effect_of (logged.Connect a b) = Connect a b
effect_of (logged.Disconnect a) = Disconnect a
effect_of (logged.Attach upper lower) = Attach upper lower
effect_of (logged.Detach upper) = Detach upper
effect_of (logged.Create path part ips) = Create (parent_of path) (last_of path) (instance_of part)
effect_of (logged.Remove path) = Remove (parent_of path) (last_of path)

abbrev pub effects_of : List Effect → List StatementEffect
effects_of = each effect_of

-- ---- where it answers

-- the job is one in the situation; that of the initialization is one in the situation in which that runs
abbrev pub IsJobAt : Subject → Situation → Job → ℕ → Type 0
IsJobAt s g job zero = (g ≡ bare s) × (job.path ≡ [])
IsJobAt s g job (suc n) = IsLegal s g × IsJobIn s g job

-- the done answers a job in the situation
pub record AnswersIn (s : Subject) (g : Situation) (done : Done) : Type 0 where
  pub job : Job
  pub at : IsJobAt s g job job.trans
  pub answers : Answers s job done

-- ---- what is put

-- the situation as the block of the transition finds it: what the transition receives is taken
abbrev pub begun_by : Subject → Situation → Done → Acting
begun_by s g done = begun (taken_by s g done.path (transition_at s done.trans (map.get g.core.instances done.path)))

-- the situation with the done put into it, its outputs and its drops
abbrev pub after_put : Subject → Situation → Done → Acting
after_put s g done = put done.path (effects_of (log_of done.outcome)) (parts_of done.outcome) (begun_by s g done)

abbrev pub path_of : Option IpAddr → List Path
path_of None = []
path_of (Some a) = a.path ∷ []

-- where an output arrives, if it does
abbrev pub arrived_at : StatementEffect → List Link → List Path
arrived_at (Output from ip name values) links = path_of (route links from)
arrived_at _ links = []

-- where the outputs of these effects arrive, in order, each over the links of its moment
abbrev pub arrivals : List StatementEffect → Acting → List Path
arrivals [] a = []
arrivals (e ∷ es) a = arrived_at e a.situation.core.links ++ arrivals es (acting_after e a)

-- ---- the law

-- the firing of which a job is, in a situation
abbrev pub firing_of : Subject → Situation → Job → ℕ → Firing
firing_of s g job zero = start s job.budget
firing_of s g job (suc n) = fire s job.budget g job.path job.trans

-- what is put is the firing, but for the timer of its transition, which is dropped
abbrev pub PutsAreFirings : Type 0
PutsAreFirings = (s : Subject) (g : Situation) (done : Done) → IsRan done.outcome → (a : AnswersIn s g done)
    → firing_of s g a.job a.job.trans ≡ untimed done.path done.trans (ran (after_put s g done) done.left)
