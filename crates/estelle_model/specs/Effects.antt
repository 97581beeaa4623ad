-- What a block does to the situation beside its own variables, and what that does to instances and links.
use Rattle.std.specs.Prelude.{ℕ, ◌+◌, not, List, [], ◌∷◌, ◌++◌, filter, Option, Some, None, slice_set}
use Rattle.std.specs.FinMap as map
use Rattle.pascal_values.specs.declared.value.Value.{Value}
use Rattle.pascal_values.specs.Values.{changed_at, with_part}
use Rattle.estelle_tree.specs.declared.link.IpAddr.{IpAddr}
use Rattle.estelle_tree.specs.declared.link.Link.{Link}
use Rattle.estelle_tree.specs.Paths.{Path, child, is_inside}
use Rattle.estelle_tree.specs.Links.{joins, is_upper_of, touches, connection, attachment}
use Rattle.estelle_model.specs.Core.{Instance, Instances, Core}

-- the effects of the statements of Estelle (ISO/IEC 9074)
pub data StatementEffect : Type 0 where
  -- by the names of the interaction point and of the interaction
  Output : (from : IpAddr) (ip name : List ℕ) (values : List Value) → StatementEffect
  Connect : (first second : IpAddr) → StatementEffect
  Disconnect : (a : IpAddr) → StatementEffect
  Attach : (upper lower : IpAddr) → StatementEffect
  Detach : (upper : IpAddr) → StatementEffect
  -- a child with the next birth number, as `init` makes it
  Create : (parent : Path) (number : ℕ) (instance : Instance) → StatementEffect
  -- the child and all below it
  Remove : (parent : Path) (number : ℕ) → StatementEffect

-- what a block does to the record of an instance
pub data Change : Type 0 where
  -- a part of a variable gets a value
  Store : (variable : ℕ) (way : List ℕ) (value : Value) → Change
  -- a module variable holds a child, or is empty
  Hold : (variable : ℕ) (held : Option Path) → Change
  -- the instance is in a state
  Enter : (state : ℕ) → Change

abbrev pub changed : Change → Instance → Instance
changed (Store variable way v) i = record i { variables = changed_at i.variables variable (λ old. with_part old way v) }
changed (Hold variable held) i = record i { module_variables = slice_set i.module_variables variable held }
changed (Enter state) i = record i { state = Some state }

abbrev pub born : Instance → Instance
born i = record i { births = i.births + 1 }

abbrev pub put_back : Instances → Path → (Instance → Instance) → Option Instance → Instances
put_back instances p f None = instances
put_back instances p f (Some i) = map.insert instances p (f i)

-- the instances of which one, if it is there, is changed
abbrev pub changed_in : Path → (Instance → Instance) → Instances → Instances
changed_in p f instances = put_back instances p f (map.get instances p)

unfoldable pub instances_after : StatementEffect → Instances → Instances
instances_after (Create p k i) instances = map.insert (changed_in p born instances) (child p k) i
instances_after (Remove p k) instances = map.retain_keys instances (λ q. not (is_inside (child p k) q))
instances_after _ instances = instances

unfoldable pub links_after : StatementEffect → List Link → List Link
links_after (Connect a b) links = links ++ connection a b ∷ []
links_after (Disconnect a) links = filter (λ l. not (joins a l)) links
links_after (Attach upper lower) links = links ++ attachment upper lower ∷ []
links_after (Detach upper) links = filter (λ l. not (is_upper_of upper l)) links
links_after (Remove p k) links = filter (λ l. not (touches (child p k) l)) links
links_after _ links = links

abbrev pub core_after : StatementEffect → Core → Core
core_after e c = record c { instances = instances_after e c.instances; links = links_after e c.links }

abbrev pub core_kept : Path → Change → Core → Core
core_kept p change c = record c { instances = changed_in p (changed change) c.instances }
