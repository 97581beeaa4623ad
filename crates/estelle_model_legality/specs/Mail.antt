-- Which interactions may wait, and where (ISO/IEC 9074: interactions, queues).
use Rattle.std.specs.Prelude.{◌≡◌, ◌≤◌, false, nat_eq, IsTrue, List, map as all_of, Some, Contains}
use Rattle.std.specs.List.{IsDistinct}
use Rattle.estelle_tree.specs.declared.link.IpAddr.{IpAddr}
use Rattle.estelle_tree.specs.declared.tree.name.Name.{Name}
use Rattle.estelle_model.specs.declared.image.Interaction.{Interaction as Item}
use Rattle.estelle_model.specs.declared.meaning.InteractionKind.{InteractionKind}
use Rattle.estelle_model.specs.declared.meaning.InteractionPoint.{InteractionPoint}
use Rattle.estelle_model.specs.declared.meaning.Meaning.TheVariants.{Interaction}
use Rattle.estelle_model.specs.Core.{Instances}
use Rattle.estelle_model.specs.Transitions.{Choice}
use Rattle.estelle_model.specs.Subject.{Subject, meant_with}
use Rattle.estelle_model.specs.InteractionPoints.{point, receives}
use Rattle.estelle_model.specs.Actions.{is_upper}
use Rattle.estelle_model.specs.Belonging.{are_values_of}
use Rattle.estelle_model.specs.Situation.{Waiting, Situation}

-- some name means an interaction of this kind; the item has the word with which that is declared, and values of its parameters
pub record IsOfKind (s : Subject) (kind : InteractionKind) (i : Item) : Type 0 where
  pub by : Name
  pub chosen : List Choice
  pub means : meant_with s chosen by ≡ Interaction kind
  pub word : i.name ≡ kind.word
  pub values : IsTrue (are_values_of kind.parameters i.values)

-- the point is there, and may receive the interaction
pub record MayArrive (s : Subject) (instances : Instances) (a : IpAddr) (i : Item) : Type 0 where
  pub at : InteractionPoint
  pub there : point s instances a ≡ Some at
  pub kind : InteractionKind
  pub of_kind : IsOfKind s kind i
  pub received : IsTrue (receives at kind)

-- it waits at such a point, which is no upper end of an attachment
pub record MayWait (s : Subject) (g : Situation) (w : Waiting) : Type 0 where
  pub arrives : MayArrive s g.core.instances w.at w.item
  pub last : is_upper w.at g.core.links ≡ false

-- the numbers of what waits differ, and are those of outputs that there have been
pub record MayBeWaiting (s : Subject) (g : Situation) : Type 0 where
  pub each : (w : Waiting) → Contains g.mail w → MayWait s g w
  pub distinct : IsDistinct nat_eq (all_of (λ w. w.item.number) g.mail)
  pub made : (w : Waiting) → Contains g.mail w → w.item.number ≤ g.made
