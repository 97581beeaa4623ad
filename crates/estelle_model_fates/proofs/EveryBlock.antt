-- What each effect and each change of a record keeps of two states, every block keeps.
use Rattle.std.proofs.Common.{◌≡◌, ℕ, true, List, [], Ok, Err, refl, ap}
use Rattle.std.specs.FinMap as fin
use Rattle.pascal_values.specs.declared.value.Value.{Value}
use Rattle.estelle_tree.specs.Paths.{Path, is_inside}
use Rattle.estelle_model.specs.Core.{Core}
use Rattle.estelle_model.specs.Effects.{StatementEffect, Change, Store}
use Rattle.estelle_model.specs.Effects as effect
use Rattle.estelle_model.specs.States.{Offers, IsFaithful}
use Rattle.estelle_model.specs.Jobs.{IsNextOf}
use Rattle.estelle_model.specs.Transitions.{Transition}
use Rattle.estelle_model.specs.Clauses.{fire_step, start_step}
use Rattle.estelle_model.specs.Steps.{StepResult}
use Rattle.estelle_model.specs.Meant.{Meanings}
use Rattle.estelle_model.specs.Statements.{Statement}
use Rattle.estelle_model.specs.Blocks.{fresh}
use Rattle.estelle_model.specs.Subject.{Subject}
use Rattle.estelle_model.proofs.Alike.{Same, OutcomeAlike, DoAlike}
use Rattle.estelle_model.proofs.AlikePlaces.{ShowAlike}
use Rattle.estelle_model.proofs.Carried.{KeepsRelated}
use Rattle.estelle_model.proofs.Stated.{IsStated, stated, sees_itself}
use Rattle.estelle_model.proofs.AlikeFirings as firings
use Rattle.estelle_model.proofs.AlikeFirings.{inside_root}

-- a child is made with the next birth number of an instance that is there
abbrev pub MayBeMade : StatementEffect → Core → Type 0
MayBeMade (effect.Create p k i) c = IsNextOf c.instances p k
MayBeMade _ c = Unit {0}

-- what each effect and each change keeps of two states that show the same instances and links
pub record IsKept (S T : Type 0) (on : Offers S) (on' : Offers T) (R : S → T → Type 0) : Type 0 where
  pub faithful : IsFaithful S on
  pub cores : (s : S) (t : T) → R s t → on.core s ≡ on'.core t
  pub does : (e : StatementEffect) (s : S) (t : T) → MayBeMade e (on.core s) → R s t → R (on.does e s) (on'.does e t)
  pub keeps : (p : Path) (change : Change) (s : S) (t : T) → R s t → R (on.keeps p change s) (on'.keeps p change t)

module _ (S T : Type 0) (on : Offers S) (on' : Offers T) (R : S → T → Type 0) (kept : IsKept S T on on' R) where
  show : ShowAlike S T on on' [] R
  show = record {
    instances = λ s t e p inside. ap (λ (c : Core). fin.get c.instances p) (kept.cores s t e);
    held = λ s t e p c k inside is. inside_root c;
    types = λ s t e. ap (λ (c : Core). c.types) (kept.cores s t e);
    stored = λ s t e p x way v inside. kept.keeps p (Store x way v) s t e;
  }

  -- what a statement makes may be made
  may : (s : Subject) (known : Meanings) (p : Path) (st : Statement) (given : List Value) (e : StatementEffect) (c : Core) → IsStated s known p st given e c → MayBeMade e c
  may s known p st given (effect.Create q k i) c h = (h.parent, h.there, h.next)
  may s known p st given (effect.Output a ip word values) c h = tt
  may s known p st given (effect.Connect a b) c h = tt
  may s known p st given (effect.Disconnect a) c h = tt
  may s known p st given (effect.Attach upper lower) c h = tt
  may s known p st given (effect.Detach upper) c h = tt
  may s known p st given (effect.Remove q k) c h = tt

  related : (s : Subject) (known : Meanings) (p : Path) → is_inside [] p ≡ true → (st : Statement) (given : List Value) → KeepsRelated (stated s known p st given) S T on on' R
  related s known p inside st given = record {
    faithful = kept.faithful;
    sees = λ x y r. sees_itself s known p (on.core x) (on'.core y) (kept.cores x y r);
    makes = λ e x y r h. kept.does e x y (may s known p st given e (on.core x) h.1) r;
    keeps = λ q change x y r h. kept.keeps q change x y r;
  }

  pub fire_step_alike : (s : Subject) (p : Path) (t : Transition) (vs : List Value) → DoAlike S T R (fire_step S on s p t vs) (fire_step T on' s p t vs)
  fire_step_alike s p t vs = firings.fire_step_alike S T on on' [] R show s (related s) p (inside_root p) t vs

  pub start_step_alike : (s : Subject) → DoAlike S T R (start_step S on s) (start_step T on' s)
  start_step_alike s = firings.start_step_alike S T on on' [] R show s (related s) refl

-- ---- what holds of one state

-- what holds of a state, and after each effect and each change holds again
pub record IsInvariant (S : Type 0) (on : Offers S) (K : S → Type 0) : Type 0 where
  pub faithful : IsFaithful S on
  pub does : (e : StatementEffect) (s : S) → MayBeMade e (on.core s) → K s → K (on.does e s)
  pub keeps : (p : Path) (change : Change) (s : S) → K s → K (on.keeps p change s)

module _ (S : Type 0) (on : Offers S) (K : S → Type 0) (invariant : IsInvariant S on K) where
  -- one state, of which it holds
  abbrev Both : S → S → Type 0
  Both s t = (s ≡ t) × K s

  both_kept : IsKept S S on on Both
  both_kept = record {
    faithful = invariant.faithful;
    cores = λ s t r. ap (λ (x : S). on.core x) r.0;
    does = λ e s t may r. (ap (λ (x : S). on.does e x) r.0, invariant.does e s may r.1);
    keeps = λ p change s t r. (ap (λ (x : S). on.keeps p change x) r.0, invariant.keeps p change s r.1);
  }

  -- it holds of the state that a block comes to
  abbrev pub Ends : StepResult S (Unit {0}) → Type 0
  Ends (Ok r) = K r.1.state
  Ends (Err e) = Unit {0}

  ended : (o : StepResult S (Unit {0})) → OutcomeAlike S S Both (Same {A = Unit {0}}) o o → Ends o
  ended (Ok r) h = h.1.state.1
  ended (Err e) h = tt

  pub fire_step_ends : (s : Subject) (p : Path) (t : Transition) (vs : List Value) (a : S) (budget : ℕ) → K a → Ends (fire_step S on s p t vs (fresh a budget))
  fire_step_ends s p t vs a budget k = ended (fire_step S on s p t vs (fresh a budget)) (fire_step_alike S S on on Both both_kept s p t vs (fresh a budget) (fresh a budget) (record { state = (refl, k); frames = refl; left = refl }))

  pub start_step_ends : (s : Subject) (a : S) (budget : ℕ) → K a → Ends (start_step S on s (fresh a budget))
  start_step_ends s a budget k = ended (start_step S on s (fresh a budget)) (start_step_alike S S on on Both both_kept s (fresh a budget) (fresh a budget) (record { state = (refl, k); frames = refl; left = refl }))
