-- What firings and the start come to, over the steps that they are made of.
use Rattle.std.proofs.Common.{◌≡◌, ◌∙◌, ℕ, zero, suc, true, false, cond, List, [], Option, Some, None, Result, Ok, Err, refl, ap, sym, subst}
use Rattle.std.specs.Prelude.{IfOk, option_map}
use Rattle.std.specs.declared.alloc.AllocError.{AllocError}
use Rattle.pascal_values.specs.declared.value.Value.{Value}
use Rattle.estelle_tree.specs.Paths.{Path}
use Rattle.estelle_model.specs.declared.meaning.Routine.{Routine}
use Rattle.estelle_model.specs.declared.image.Image.{Image}
use Rattle.estelle_model.specs.declared.image.Interaction.{Interaction}
use Rattle.estelle_model.specs.declared.job.Outcome.{Outcome}
use Rattle.estelle_model.specs.Core.{Instance, Core}
use Rattle.estelle_model.specs.States.{Logged, on_log}
use Rattle.estelle_model.specs.declared.denoter.Denoter.{Denoter}
use Rattle.estelle_model.specs.Belonging.{are_values_of}
use Rattle.estelle_model.specs.Stops.{Broken}
use Rattle.estelle_model.specs.Steps.{Running, Do, ◌>>◌, pure, breaks}
use Rattle.estelle_model.specs.Meant.{Meanings}
use Rattle.estelle_model.specs.Blocks.{fresh, block_step}
use Rattle.estelle_model.specs.Actions.{enters_state}
use Rattle.estelle_model.specs.Acts.{act}
use Rattle.estelle_model.specs.Transitions.{Choice, Transition}
use Rattle.estelle_model.specs.Subject as model
use Rattle.estelle_model.specs.Subject.{Subject, meant, meant_with, of_block, begins, transition}
use Rattle.estelle_model.specs.Firing.{bare, transition_at}
use Rattle.estelle_model.specs.Computed.{core_of, log_from, values_of, start_run, IsMadeBy, IsOfTransition, IsComputedOf}
use Rattle.meaning_table.specs.Known.{Known, meanings_of}
use Rattle.body_values.specs.declared.stop.Stop.{Stop}
use Rattle.body_state.specs.Follows.{Leads, carried}
use Rattle.body_state.specs.InOrder.{InOrder, instance_in}
use Rattle.body_state.proofs.OrderLemmas.{holds_of}
use Rattle.body_state.proofs.PartLemmas.{shown}
use Rattle.body_state.proofs.FollowLemmas.{follows_as, follows_next, follows_stops_next}
use Rattle.body_program.specs.Chosen.{chosen_over}
use Rattle.body_program.specs.Programs.{known_of, block_in}
use Rattle.body_jobs.specs.Jobs.{job_of}
use Rattle.body_walker.specs.Runs.{block_and_state}

-- ---- a block, and then the state

module _ (s : Subject) (known : Meanings) (p : Path) (ts : List Denoter) (r : Routine) (vs : List Value) (to : Option ℕ) where
  abbrev block : Do Logged
  block = block_step Logged on_log known (act Logged on_log s known) p r vs

  -- what is received fits, so that the block runs
  fits : (old new : Running Logged) (x : Result (Unit {0}) Stop) → are_values_of ts vs ≡ true → Leads (block >> carried (enters_state s p to)) old x new → Leads (block_and_state s known p ts r vs to) old x new
  fits old new x is h = follows_as (block_and_state s known p ts r vs to) (block >> carried (enters_state s p to)) old new x (ap (λ b. (cond b (pure (tt {0})) breaks >> block >> carried (enters_state s p to)) old) is) h

  pub run_unfit : (old : Running Logged) → are_values_of ts vs ≡ false → block_and_state s known p ts r vs to old ≡ Err (Broken, old.left)
  run_unfit old is = ap (λ b. (cond b (pure (tt {0})) breaks >> block >> carried (enters_state s p to)) old) is

  pub run_ok : (old u new : Running Logged) (x : Result (Unit {0}) Stop) → are_values_of ts vs ≡ true → Leads (block_step Logged on_log known (act Logged on_log s known) p r vs) old (Ok tt) u → Leads (carried (enters_state s p to)) u x new → Leads (block_and_state s known p ts r vs to) old x new
  run_ok old u new x is h k = fits old new x is (follows_next block (carried (enters_state s p to)) old u new tt x h k)

  pub run_err : (old u : Running Logged) (e : Stop) → are_values_of ts vs ≡ true → Leads (block_step Logged on_log known (act Logged on_log s known) p r vs) old (Err e) u → Leads (block_and_state s known p ts r vs to) old (Err e) u
  run_err old u e is h = fits old u (Err e) is (follows_stops_next block (carried (enters_state s p to)) old u e h)

-- what is made by a block that runs on a core
abbrev pub MadeOn : Subject → Meanings → Path → List Denoter → Routine → List Value → Option ℕ → Core → ℕ → Result (Outcome × ℕ) AllocError → Type 0
MadeOn s known p ts r vs to c budget x = IfOk x (λ made. IsMadeBy s (block_and_state s known p ts r vs to (fresh (log_from c) budget)) made.0 made.1)

-- it is the same of what is the same
pub made_as : (s s' : Subject) (known known' : Meanings) (p p' : Path) (ts ts' : List Denoter) (r r' : Routine) (vs vs' : List Value) (to to' : Option ℕ) (c c' : Core) (budget : ℕ) (x : Result (Outcome × ℕ) AllocError) →
    s ≡ s' → known ≡ known' → p ≡ p' → ts ≡ ts' → r ≡ r' → vs ≡ vs' → to ≡ to' → c ≡ c' → MadeOn s known p ts r vs to c budget x → MadeOn s' known' p' ts' r' vs' to' c' budget x
made_as s s' known known' p p' ts ts' r r' vs vs' to to' c c' budget x es ek ep et er ev eo ec h =
    subst (λ y. MadeOn s' known' p' ts' r' vs' to' y budget x) ec
    (subst (λ y. MadeOn s' known' p' ts' r' vs' y c budget x) eo
    (subst (λ y. MadeOn s' known' p' ts' r' y to c budget x) ev
    (subst (λ (y : Routine). MadeOn s' known' p' ts' y vs to c budget x) er
    (subst (λ (y : List Denoter). MadeOn s' known' p' y r vs to c budget x) et
    (subst (λ y. MadeOn s' known' y ts r vs to c budget x) ep
    (subst (λ (y : Meanings). MadeOn s' y p ts r vs to c budget x) ek
    (subst (λ (y : Subject). MadeOn y known p ts r vs to c budget x) es h)))))))

-- ---- firings

module _ (s : Subject) (p : Path) (n : ℕ) (image : Image) (head : Option Interaction) (budget : ℕ) where
  of_some : (t : Transition) (x : Result (Outcome × ℕ) AllocError) → MadeOn s (meant_with s t.chosen) p t.received (block_in s t) (values_of head) t.to (core_of s image) budget x → IfOk x (λ made. IsOfTransition s (job_of p n image head budget) (Some t) made.0 made.1)
  of_some t (Ok made) h = h
  of_some t (Err e) h = tt

  -- the block of a transition is run
  pub fired : (o : Option Transition) (t : Transition) (ts : List Denoter) (r : Routine) (vs : List Value) (to : Option ℕ) (base over : Known) (cs : List Choice) (bodies : Subject) (x : Result (Outcome × ℕ) AllocError) →
      Some t ≡ o → ts ≡ t.received → Some r ≡ option_map (block_in s) o → vs ≡ values_of head → to ≡ t.to → base ≡ known_of s → cs ≡ t.chosen → over ≡ chosen_over base cs → bodies ≡ s →
      MadeOn bodies (meanings_of over) p ts r vs to (core_of bodies image) budget x → IfOk x (λ made. IsOfTransition s (job_of p n image head budget) o made.0 made.1)
  fired o t ts r vs to base over cs bodies x is types its ev et eb ec eo es h =
      let block : Some r ≡ Some (block_in s t) = its ∙ ap (option_map (block_in s)) (sym is) in
      let same : r ≡ block_in s t = cc in
      subst (λ q. IfOk x (λ made. IsOfTransition s (job_of p n image head budget) q made.0 made.1)) is
      (of_some t x (made_as bodies s (meanings_of over) (meant_with s t.chosen) p p ts t.received r (block_in s t) vs (values_of head) to t.to (core_of bodies image) (core_of s image) budget x
      es (ap meanings_of (eo ∙ (λ i. chosen_over (eb i) (ec i)))) refl types same ev et (ap (λ (y : Subject). core_of y image) es) h))

  pub not_there : (o : Option Transition) (made : Outcome × ℕ) → None ≡ o → IsOfTransition s (job_of p n image head budget) o made.0 made.1
  not_there o made is = subst (λ q. IsOfTransition s (job_of p n image head budget) q made.0 made.1) is tt

  pub has_block : (o : Option Transition) (t : Transition) → Some t ≡ o → ¬ (None ≡ option_map (block_in s) o)
  has_block o t is none = let both : None ≡ Some (block_in s t) = none ∙ ap (option_map (block_in s)) (sym is) in cc

  -- of the instance with the path
  by_instance : (m : ℕ) (x : Result (Outcome × ℕ) AllocError) (o : Option Instance) (k : ℕ) → Some k ≡ option_map (λ (i : Instance). i.body) o → IfOk x (λ made. IsOfTransition s (job_of p m image head budget) (transition s k m) made.0 made.1) → IfOk x (λ made. IsOfTransition s (job_of p m image head budget) (transition_at s m o) made.0 made.1)
  by_instance m x None k e h = absurd (cc)
  by_instance m x (Some i) k e h = let same : k ≡ i.body = cc in subst (λ b. IfOk x (λ made. IsOfTransition s (job_of p m image head budget) (transition s b m) made.0 made.1)) same h

  pub computed : InOrder image.parts → (x : Result (Outcome × ℕ) AllocError) (k : ℕ) → ¬ (n ≡ 0) → Some k ≡ option_map (λ (i : Instance). i.body) (instance_in image.parts p) → IfOk x (λ made. IsOfTransition s (job_of p n image head budget) (transition s k n) made.0 made.1) → IfOk x (λ made. IsComputedOf s (job_of p n image head budget) n made.0 made.1)
  computed order x k not e h = by_number n not refl
    where
      at_path : IfOk x (λ made. IsOfTransition s (job_of p n image head budget) (transition_at s n (instance_in image.parts p)) made.0 made.1)
      at_path = by_instance n x (instance_in image.parts p) k e h

      by_number : (m : ℕ) → ¬ (m ≡ 0) → m ≡ n → IfOk x (λ made. IsComputedOf s (job_of p n image head budget) m made.0 made.1)
      by_number zero other is = absurd (other refl)
      by_number (suc m) other is = subst (λ o. IfOk x (λ made. IsOfTransition s (job_of p n image head budget) (transition_at s n o) made.0 made.1)) (sym (shown image.parts (holds_of _ order) p)) at_path

  none_computed_at : (made : Outcome × ℕ) (o : Option Instance) → None ≡ option_map (λ (i : Instance). i.body) o → IsOfTransition s (job_of p n image head budget) (transition_at s n o) made.0 made.1
  none_computed_at made None e = tt
  none_computed_at made (Some i) e = absurd (cc)

  pub none_computed : InOrder image.parts → (made : Outcome × ℕ) → ¬ (n ≡ 0) → None ≡ option_map (λ (i : Instance). i.body) (instance_in image.parts p) → IsComputedOf s (job_of p n image head budget) n made.0 made.1
  none_computed order made not e = by_number n not
    where
      by_number : (m : ℕ) → ¬ (m ≡ 0) → IsComputedOf s (job_of p n image head budget) m made.0 made.1
      by_number zero other = absurd (other refl)
      by_number (suc m) other = subst (λ o. IsOfTransition s (job_of p n image head budget) (transition_at s n o) made.0 made.1) (sym (shown image.parts (holds_of _ order) p)) (none_computed_at made (instance_in image.parts p) e)

-- ---- the start

module _ (s : Subject) where
  pub started : (first : model.Initialization) (budget : ℕ) (x : Result (Outcome × ℕ) AllocError) → begins s 0 ≡ first → MadeOn s (meant s) [] [] first.block [] first.to (bare s).core budget x → IfOk x (λ made. IsMadeBy s (start_run s budget) made.0 made.1)
  started first budget x e h = subst (λ (b : model.Initialization). MadeOn s (meant s) [] [] b.block [] b.to (bare s).core budget x) (sym e) h
