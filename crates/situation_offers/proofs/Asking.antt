-- What is asked of the private part of an instance is its guard.
use Rattle.std.proofs.Common.{◌≡◌, ◌∙◌, ℕ, Bool, Option, Some, None, refl, sym, ap, cond}
use Rattle.std.specs.FinMap as map
use Rattle.std.proofs.lemmas.List.Sorted.{IsPermutation-refl}
use Rattle.estelle_tree.specs.Paths.{Path}
use Rattle.estelle_tree.specs.Timers.{pair}
use Rattle.estelle_model.specs.declared.image.Interaction.{Interaction}
use Rattle.estelle_model.specs.declared.image.Part.{Part}
use Rattle.estelle_model.specs.declared.job.Guard.{Guard}
use Rattle.estelle_model.specs.Core.{Instances}
use Rattle.estelle_model.specs.Subject.{Subject}
use Rattle.estelle_model.specs.Situation.{Situation}
use Rattle.estelle_model.specs.Firing.{transition_at, guard}
use Rattle.estelle_model.specs.Jobs.{instance_of, private, found_by, Shows}
use Rattle.estelle_model.specs.Asked.{head_of}
use Rattle.estelle_model.proofs.PrivateParts.{inside_self, get_inside, core_private}
use Rattle.estelle_model_legality.specs.Situations.{IsLegal}
use Rattle.estelle_model_legality.specs.Jobs.{image_of}
use Rattle.estelle_model_legality.proofs.Taken.{may_act}
use Rattle.body_jobs.specs.Settled.{HasPart}
use Rattle.situation_images.specs.Instances.{IsOfBody, IsPartOf}
use Rattle.situation_offers.specs.Asked.{IsAnswer}

-- the image of a private part shows it
shows_private : (s : Subject) (g : Situation) (m : Path) → Shows (image_of (private s g.core m)) (private s g.core m)
shows_private s g m = record { parts = refl; links = IsPermutation-refl (private s g.core m).links }

pub guard_is : (s : Subject) (budget : ℕ) (g : Situation) (m : Path) (n : ℕ) (head : Option Interaction) (timed : Bool) (answer : Guard) → IsLegal s g
    → head ≡ head_of (found_by s g m (transition_at s n (map.get g.core.instances m))) → timed ≡ map.contains_key g.timers (pair m n) → IsAnswer s budget g m n head timed answer → answer ≡ guard s budget g m n
guard_is s budget g m n head timed answer legal found runs is = is g (record {
  legal = may_act s g.core m legal.types legal.instances legal.links;
  private = shows_private s g m;
  finds = found;
  runs = runs;
})

-- the part of an instance is that of its private part at its path
pub part_shown : (s : Subject) (g : Situation) (part : Part) → IsPartOf g part → HasPart s (image_of (private s g.core part.path)) part.path part
part_shown s g part is =
    ap (λ (x : Instances). map.get x part.path) (core_private s g.core part.path (image_of (private s g.core part.path)) (shows_private s g part.path))
    ∙ get_inside g.core.instances part.path part.path
    ∙ ap (λ b. cond b (map.get g.core.instances part.path) None) (inside_self part.path)
    ∙ is.1
    ∙ sym (ap (λ (p : Part). Some (instance_of p)) is.2)

-- and it tells the body of the instance
pub body_of : (g : Situation) (part : Part) → IsPartOf g part → IsOfBody g part.path part.body
body_of g part is = (is.0, is.1, sym (ap (λ (p : Part). p.body) is.2))
