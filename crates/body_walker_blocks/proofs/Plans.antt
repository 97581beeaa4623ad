-- Steps as they are walked: a plan tells what is done first, and what with its value.
use Rattle.std.proofs.Common.{◌≡◌, ◌∙◌, Bool, true, false, refl, sym, ap, subst, Result, Ok, Err}
use Rattle.std.specs.Result.{IsErrAnd}
use Rattle.std.proofs.lemmas.Result.{err_from_is_err_and}
use Rattle.pascal_values.specs.declared.fault.Fault.{Fault}
use Rattle.estelle_model.specs.States.{Logged}
use Rattle.estelle_model.specs.Stops as model
use Rattle.estelle_model.specs.Steps as steps
use Rattle.estelle_model.specs.Steps.{Running, Step, ◌>>=◌, pure, checked_at, checked}
use Rattle.body_values.specs.declared.stop.Stop.{Stop}
use Rattle.body_values.specs.declared.stop.Stop.TheVariants as stop
use Rattle.body_values.specs.Gives.{Gives}
use Rattle.body_state.specs.Follows.{Leads}
use Rattle.body_walker_blocks.proofs.Followed.{follows_as, follows_then, follows_stops, follows_checked, follows_given, follows_refused}

pub data Plan (B : Type 0) : Type 1 where
  -- a step, and the rest with its value
  First : {A : Type 0} → Step Logged A → (A → Plan B) → Plan B
  -- a value or what stops it, and the rest with the value
  Given : {A : Type 0} → Result A model.Stop → (A → Plan B) → Plan B
  -- a step, and no more
  Last : Step Logged B → Plan B
  Check : Result B model.Stop → Plan B
  Finish : B → Plan B
  Refuse : model.Stop → Plan B

abbrev pub run : {B : Type 0} → Plan B → Step Logged B
run (First p f) = p >>= λ a. run (f a)
run (Given x f) = checked x >>= λ a. run (f a)
run (Last p) = p
run (Check x) = checked x
run (Finish b) = pure b
run (Refuse e) = steps.stop e

abbrev pub either : {B : Type 0} → Bool → Plan B → Plan B → Plan B
either true p q = p
either false p q = q

-- a step does what a plan tells
pub record Is {B : Type 0} (step : Step Logged B) (plan : Plan B) : Type 1 where
  pub is : step ≡ run plan

-- a plan was followed to a result
pub record Runs {B : Type 0} (plan : Plan B) (old : Running Logged) (result : Result B Stop) (new : Running Logged) : Type 1 where
  pub follows : Leads (run plan) old result new

module _ {B : Type 0} where
  -- ---- how plans are followed

  pub then : {A : Type 0} {p : Step Logged A} {f : A → Plan B} {s t u : Running Logged} {a : A} {r : Result B Stop} → p s ≡ Ok (a, t) → Runs (f a) t r u → Runs (First p f) s r u
  then {A} {p} {f} {s} {t} {u} {a} {r} e h = record { follows = follows_then p (λ b. run (f b)) s t u a r e h.follows }

  pub stops : {A : Type 0} {p : Step Logged A} {f : A → Plan B} {s t : Running Logged} {e : Stop} → Leads p s (Err e) t → Runs (First p f) s (Err e) t
  stops {A} {p} {f} {s} {t} {e} h = record { follows = follows_stops p (λ b. run (f b)) s t e h }

  pub with : {A : Type 0} {x : Result A model.Stop} {f : A → Plan B} {s u : Running Logged} {a : A} {r : Result B Stop} → x ≡ Ok a → Runs (f a) s r u → Runs (Given x f) s r u
  with {A} {x} {f} {s} {u} {a} {r} e h = record { follows = follows_given x (λ b. run (f b)) s u a r e h.follows }

  pub without : {A : Type 0} {x : Result A model.Stop} {f : A → Plan B} {s : Running Logged} {e : Stop} → Gives x (Err e) → Runs (Given x f) s (Err e) s
  without {A} {x} {f} {s} {e} h = record { follows = follows_refused x (λ b. run (f b)) s e h }

  pub last : {p : Step Logged B} {s : Running Logged} {r : Result B Stop} {t : Running Logged} → Leads p s r t → Runs (Last p) s r t
  last h = record { follows = h }

  pub comes : {p : Step Logged B} {s : Running Logged} {b : B} {t : Running Logged} → p s ≡ Ok (b, t) → Runs (Last p) s (Ok b) t
  comes h = record { follows = h }

  pub gives : {x : Result B model.Stop} {r : Result B Stop} {s : Running Logged} → Gives x r → Runs (Check x) s r s
  gives {x} {r} {s} h = record { follows = follows_checked x r s h }

  pub given : {x : Result B model.Stop} {b : B} {s : Running Logged} → x ≡ Ok b → Runs (Check x) s (Ok b) s
  given {x} {b} {s} h = record { follows = ap (λ y. checked_at y s) h }

  pub finished : {b : B} {s : Running Logged} → Runs (Finish b) s (Ok b) s
  finished = record { follows = refl }

  pub finishes : {b a : B} {s : Running Logged} → b ≡ a → Runs (Finish b) s (Ok a) s
  finishes {b} {a} {s} e = record { follows = ap (λ x. Ok (x, s)) e }

  pub refused : {f : Fault} {s : Running Logged} → Runs {B = B} (Refuse (model.Faults f)) s (Err (stop.Fault f)) s
  refused = record { follows = refl }

  pub broken : {s : Running Logged} → Runs {B = B} (Refuse model.Broken) s (Err stop.Broken) s
  broken = record { follows = refl }

  -- ---- how a function leaves that follows a plan

  pub itself : {p : Step Logged B} → Is p (Last p)
  itself = record { is = refl }

  pub leaves : {p : Step Logged B} {q : Plan B} {s : Running Logged} {r : Result B Stop} {t : Running Logged} → Is p q → Runs q s r t → Leads p s r t
  leaves {p} {q} {s} {r} {t} e h = follows_as p (run q) s r t e.is h.follows

  pub ends : {p : Step Logged B} {q : Plan B} {s : Running Logged} {b : B} {t : Running Logged} → Is p q → Runs q s (Ok b) t → p s ≡ Ok (b, t)
  ends {p} {q} {s} {b} {t} e h = leaves {p = p} {q = q} {s = s} {r = Ok b} {t = t} e h

  pub faults : {p : Step Logged B} {q : Plan B} {s : Running Logged} {f : Fault} {t : Running Logged} → Is p q → Runs q s (Err (stop.Fault f)) t → p s ≡ Err (model.Faults f, t.left)
  faults {p} {q} {s} {f} {t} e h = leaves {p = p} {q = q} {s = s} {r = Err (stop.Fault f)} {t = t} e h

  pub breaks : {p : Step Logged B} {q : Plan B} {s : Running Logged} {t : Running Logged} → Is p q → Runs q s (Err stop.Broken) t → p s ≡ Err (model.Broken, t.left)
  breaks {p} {q} {s} {t} e h = leaves {p = p} {q = q} {s = s} {r = Err stop.Broken} {t = t} e h

  -- by a `?`
  pub exits : {p : Step Logged B} {q : Plan B} {s : Running Logged} (r : Result B Stop) {t : Running Logged} {e : Stop} → IsErrAnd r (λ y. y ≡ e) → Is p q → Runs q s (Err e) t → Leads p s r t
  exits {p} {q} {s} r {t} {e} h is runs =
      let y = err_from_is_err_and r h in
      subst (λ (o : Result B Stop). Leads p s o t) (sym (y.1 ∙ ap (λ (x : Stop). Err x) y.2)) (leaves {p = p} {q = q} {s = s} {r = Err e} {t = t} is runs)
