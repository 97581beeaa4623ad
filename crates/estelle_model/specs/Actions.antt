-- The statements of Estelle (ISO/IEC 9074): what each does, and the order in which it is refused, as plans.
use Rattle.std.specs.Prelude.{ℕ, zero, suc, Bool, true, false, ◌&&◌, ◌||◌, nat_eq, List, [], ◌∷◌, map, slice_get, option_map, is_some, Option, Some, None, Result, Ok, Err}
use Rattle.std.specs.Option.{ok_or}
use Rattle.std.specs.List.{list_any}
use Rattle.std.specs.Str.{bytes_eq}
use Rattle.std.specs.FinMap as map
use Rattle.pascal_values.specs.declared.fault.Fault.TheVariants as fault
use Rattle.pascal_values.specs.declared.value.Value.{Value}
use Rattle.estelle_tree.specs.declared.link.IpAddr.{IpAddr}
use Rattle.estelle_tree.specs.declared.link.Link.{Link}
use Rattle.estelle_tree.specs.declared.tree.name.Name.{Name}
use Rattle.estelle_tree.specs.Paths.{Path, child, last_of}
use Rattle.estelle_tree.specs.Links.{joins, is_upper_of, is_lower_of, above}
use Rattle.estelle_model.specs.Core.{Instance, Core}
use Rattle.estelle_model.specs.Effects.{StatementEffect, Change, Hold, Enter}
use Rattle.estelle_model.specs.Effects as effect
use Rattle.estelle_model.specs.Stops.{Stop, Faults, Broken}
use Rattle.estelle_model.specs.Plans.{Plan, Done, Fails, ◌>>=◌, reads, spends, makes, keeps, fails_if, fails_unless, for_each}
use Rattle.estelle_model.specs.declared.denoter.Denoter.{Denoter}
use Rattle.estelle_model.specs.declared.meaning.Meaning.{Meaning}
use Rattle.estelle_model.specs.declared.meaning.Meaning.TheVariants.{Module, Ip, Body, Interaction}
use Rattle.estelle_model.specs.Meant.{Meanings}
use Rattle.estelle_model.specs.declared.meaning.InteractionPoint.{InteractionPoint}
use Rattle.estelle_model.specs.Definitions.{types_received}
use Rattle.estelle_model.specs.Subject.{Subject, body, headers_of, child_of}
use Rattle.estelle_model.specs.Attributes.{allows, attribute, may_have_transitions}
use Rattle.estelle_model.specs.InteractionPoints.{point, sent_at, connectable_at, external_at, may_connect, may_attach}
use Rattle.estelle_model.specs.Belonging.{are_values_of}
use Rattle.estelle_model.specs.Places.{child_at}
use Rattle.estelle_model.specs.Statements.{Statement, Init, Release, Connect, Disconnect, Attach, Detach, Output}

-- the interaction point is in a connection, or is the lower end of an attachment
abbrev pub is_bound : IpAddr → List Link → Bool
is_bound a links = list_any (λ l. joins a l || is_lower_of a l) links

abbrev pub is_connected : IpAddr → List Link → Bool
is_connected a links = list_any (joins a) links

abbrev pub is_upper : IpAddr → List Link → Bool
is_upper a links = list_any (is_upper_of a) links

abbrev pub at : Path → ℕ → IpAddr
at p k = record { path = p; ip = k }

-- the numbers from one on, so many
abbrev pub count_from : ℕ → ℕ → List ℕ
count_from k zero = []
count_from k (suc n) = k ∷ count_from (suc k) n

-- an instance that is there
abbrev pub or_no_module : Option Instance → Result Instance Stop
or_no_module i = ok_or i (Faults fault.NoModule)

abbrev pub instance_at : Path → Core → Result Instance Stop
instance_at p c = or_no_module (map.get c.instances p)

-- the interaction that a name means is declared with this word, and may be sent at the interaction point
abbrev pub is_sent_at : Option InteractionPoint → List ℕ → Meaning → Bool
is_sent_at p word (Interaction kind) = bytes_eq kind.word word && sent_at p kind
is_sent_at p word _ = false

-- the module variable has this header
abbrev pub has_header : Option ℕ → ℕ → Bool
has_header None h = false
has_header (Some header) h = nat_eq header h

-- a module variable of an instance of one body may hold a child of another body
abbrev pub may_hold : Subject → ℕ → ℕ → ℕ → Bool
may_hold s b m k =
    is_some (body s k)
    && (has_header (slice_get (headers_of s b) m) (child_of s k).header
    && (allows (attribute s b) (attribute s k) && may_have_transitions s k))

-- ModuleTaken where the module variable holds an instance
abbrev pub empty_in : Option (Option Path) → Result (Unit {0}) Stop
empty_in (Some None) = Ok tt
empty_in _ = Err (Faults fault.ModuleTaken)

module _ (subject : Subject) where
  -- ---- interaction points, by what their names mean

  -- a statement with a name of another kind breaks a rule
  abbrev pub no_such : {A : Type 0} → Plan A
  no_such = Fails Broken

  -- what the statement presumes: else it is as one with a name of another kind
  abbrev pub needs : (Core → Bool) → Plan (Unit {0})
  needs test = fails_unless test Broken

  -- the child that a module variable of the instance holds
  abbrev pub child_in : Path → Meaning → Plan Path
  child_in p (Module m) = reads (child_at p m)
  child_in p _ = no_such

  abbrev pub ip_of : Path → Meaning → Plan IpAddr
  ip_of p (Ip k) = Done (at p k)
  ip_of p _ = no_such

  -- of the instance, or of the child that a module variable holds
  abbrev pub ip_in : Path → Meaning → Option Meaning → Plan IpAddr
  ip_in p x None = ip_of p x
  ip_in p x (Some part) = child_in p x >>= λ c. ip_of c part

  -- the external interaction points of an instance, in declaration order
  abbrev pub points_of : Path → Instance → List IpAddr
  points_of p i = map (at p) (count_from 0 (child_of subject i.body).external)

  -- ---- connect, disconnect, attach, detach

  abbrev pub connect_points : Path → IpAddr → IpAddr → Plan (Unit {0})
  connect_points p a b = do
    allowed ← needs (λ c. may_connect subject c.instances p a b)
    free ← fails_if (λ c. is_bound a c.links || is_bound b c.links) (Faults fault.LinkTaken)
    makes (effect.Connect a b)

  abbrev pub disconnect_point : Path → IpAddr → Plan (Unit {0})
  disconnect_point p a = do
    allowed ← needs (λ c. connectable_at p a (point subject c.instances a))
    there ← fails_unless (λ c. is_connected a c.links) (Faults fault.LinkAbsent)
    makes (effect.Disconnect a)

  abbrev pub disconnect_where : IpAddr → Bool → Plan (Unit {0})
  disconnect_where a true = makes (effect.Disconnect a)
  disconnect_where a false = Done tt

  -- disconnects it if it is connected
  abbrev pub disconnect_if : IpAddr → Plan (Unit {0})
  disconnect_if a = reads (λ c. Ok (is_connected a c.links)) >>= disconnect_where a

  -- each connected one of a child
  abbrev pub disconnect_child : Path → Plan (Unit {0})
  disconnect_child p = reads (instance_at p) >>= λ i. for_each disconnect_if (points_of p i)

  -- one interaction point, or each connected one of a child
  abbrev pub disconnect : Path → Option Meaning → Meaning → Plan (Unit {0})
  disconnect p None (Module m) = child_in p (Module m) >>= disconnect_child
  disconnect p part x = ip_in p x part >>= disconnect_point p

  abbrev pub attach_points : IpAddr → IpAddr → Plan (Unit {0})
  attach_points upper lower = do
    allowed ← needs (λ c. may_attach subject c.instances upper lower)
    free ← fails_if (λ c. is_upper upper c.links || is_bound lower c.links) (Faults fault.LinkTaken)
    makes (effect.Attach upper lower)

  abbrev pub detach_point : IpAddr → Plan (Unit {0})
  detach_point upper = do
    allowed ← needs (λ c. external_at (point subject c.instances upper))
    there ← fails_unless (λ c. is_upper upper c.links) (Faults fault.LinkAbsent)
    makes (effect.Detach upper)

  abbrev pub detach_above : Option IpAddr → Plan (Unit {0})
  detach_above None = Done tt
  detach_above (Some upper) = makes (effect.Detach upper)

  -- detaches it if it is a lower end
  abbrev pub detach_if : IpAddr → Plan (Unit {0})
  detach_if a = reads (λ c. Ok (above c.links a)) >>= detach_above

  -- ---- output

  -- by the words of the interaction point and of the interaction
  abbrev pub output_at : List ℕ → List ℕ → Meaning → List Value → IpAddr → Plan (Unit {0})
  output_at ip word mean values a = do
    allowed ← needs (λ c. is_sent_at (point subject c.instances a) word mean && are_values_of (types_received mean) values)
    makes (effect.Output a ip word values)

  -- ---- init and release

  -- whether a module variable of the instance may hold a child of the body with these values; the instance
  abbrev pub may_begin : Path → ℕ → ℕ → List Value → Plan Instance
  may_begin p m k values = do
    i ← reads (instance_at p)
    allowed ← needs (λ c. may_hold subject i.body m k && are_values_of (child_of subject k).parameters values)
    Done i

  -- behind the unit and the depth: the child is made where the variable is empty
  abbrev pub begins_child : Path → ℕ → Instance → Instance → Plan (Unit {0})
  begins_child p m i new = do
    empty ← reads (λ c. empty_in (slice_get i.module_variables m))
    makes (effect.Create p (suc i.births) new)

  abbrev pub enters_state : Path → Option ℕ → Plan (Unit {0})
  enters_state p None = Done tt
  enters_state p (Some k) = keeps p (Enter k)

  -- behind its initialization the child takes its state, and then the variable holds it
  abbrev pub holds_child : Path → ℕ → Option ℕ → Path → Plan (Unit {0})
  holds_child p m to c = do
    entered ← enters_state c to
    keeps p (Hold m (Some c))

  abbrev pub free_point : IpAddr → Plan (Unit {0})
  free_point a = disconnect_if a >>= λ cut. detach_if a

  -- each external interaction point is disconnected and detached; then the child vanishes with all below it, and the variable is empty
  abbrev pub release_child : Path → ℕ → Path → Plan (Unit {0})
  release_child p m c = do
    i ← reads (instance_at c)
    freed ← for_each free_point (points_of c i)
    removed ← makes (effect.Remove p (last_of c))
    keeps p (Hold m None)

  abbrev pub release : Path → Meaning → Plan (Unit {0})
  release p (Module m) = child_in p (Module m) >>= release_child p m
  release p _ = no_such

  module _ (meant : Meanings) where
    abbrev pub meant_part : Option Name → Option Meaning
    meant_part = option_map meant

    -- the types of the values that a statement is given
    abbrev pub given_types : Statement → List Denoter
    given_types (Output p m) = types_received (meant m)
    given_types _ = []

    -- what a statement does with its values; what `init` does stands below
    abbrev pub plan_of : Path → Statement → List Value → Plan (Unit {0})
    plan_of p (Connect x y) values = do
      a ← ip_in p (meant x.name) (meant_part x.part)
      b ← ip_in p (meant y.name) (meant_part y.part)
      connect_points p a b
    plan_of p (Disconnect x) values = disconnect p (meant_part x.part) (meant x.name)
    plan_of p (Attach own x part) values = do
      upper ← ip_of p (meant own)
      lower ← ip_in p (meant x) (Some (meant part))
      attach_points upper lower
    plan_of p (Detach own) values = ip_of p (meant own) >>= detach_point
    plan_of p (Output ip m) values = do
      taken ← spends
      a ← ip_of p (meant ip)
      output_at ip.word m.word (meant m) values a
    plan_of p (Release x) values = release p (meant x)
    plan_of p (Init x b) values = no_such
