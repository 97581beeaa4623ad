-- The numbers of a specification.
use Rattle.std.specs.Prelude.{ℕ, ◌-◌, Bool, false, nat_eq, ◌&&◌, if◌then◌else◌, List, [], ◌∷◌, ◌++◌, length, map, flat_map, option_map, option_and_then, slice_get, unwrap_or, Option, Some, None}
use Rattle.std.specs.Str.{bytes_eq}
use Rattle.pascal_values.specs.declared.value.Shape.{Shape}
use Rattle.estelle_tree.specs.declared.span.Span.{Span}
use Rattle.estelle_tree.specs.declared.tree.name.Name.{Name}
use Rattle.estelle_tree.specs.declared.tree.declaration.Routine.{Routine as RoutineTree}
use Rattle.estelle_tree.specs.declared.tree.specification.Channel.{Channel as ChannelTree}
use Rattle.estelle_tree.specs.declared.tree.specification.InterGroup.{InterGroup}
use Rattle.estelle_tree.specs.declared.tree.specification.Inter.{Inter}
use Rattle.estelle_tree.specs.declared.tree.specification.Spec.{Spec}
use Rattle.estelle_tree.specs.declared.tree.specification.Header.{Header as HeaderTree}
use Rattle.estelle_tree.specs.declared.tree.specification.IpDecl.{IpDecl}
use Rattle.estelle_model.specs.declared.denoter.Denoter.{Denoter}
use Rattle.estelle_model.specs.declared.meaning.InteractionKind.{InteractionKind}
use Rattle.estelle_model.specs.declared.meaning.Heading.{Heading}
use Rattle.estelle_model.specs.declared.meaning.Meaning.{Meaning}
use Rattle.estelle_model.specs.declared.meaning.Meaning.TheVariants.{Ip, Interaction}
use Rattle.estelle_model.specs.Meant.{Meanings}
use Rattle.estelle_model.specs.Names.{Declared, at_place, declaration_of}
use Rattle.estelle_model.specs.Definitions.{channel_at}
use Rattle.estelle_model.specs.Bodies.{BodyAlone, bodies, heading, heading_of, module_headers, ips_in}
use Rattle.estelle_model.specs.Subject.{Subject, declared_in, meant, body}
use Rattle.place_table.specs.Latest.{latest}
use Rattle.type_shapes.specs.TypeNodes.{shapes_of}
use Rattle.type_shapes.specs.Spelling.{first_of}
use Rattle.body_numbers.specs.declared.numbers.Numbers.{Numbers}
use Rattle.body_numbers.specs.declared.numbers.BodyNumbers.{BodyNumbers}
use Rattle.body_numbers.specs.declared.numbers.IpNumbers.{IpNumbers}
use Rattle.body_numbers.specs.Numbers as numbers
use Rattle.body_program_numbers.specs.Outline.{channels_in, headers_in, routine_lists}
use Rattle.body_program_numbers.specs.Places.{Number, lists_from, number_in, rising}

-- ---- places

abbrev pub place_of_routine : RoutineTree → ℕ
place_of_routine r = r.name.span.start

abbrev pub place_of_channel : ChannelTree → ℕ
place_of_channel c = c.name.span.start

abbrev pub place_of_header : HeaderTree → ℕ
place_of_header h = h.name.span.start

abbrev pub place_behind : Option Span → Option ℕ
place_behind None = None
place_behind (Some decl) = if nat_eq decl.end 0 then None else Some decl.start

-- where the declaration of a name stands; a required identifier is declared nowhere
abbrev pub declared_at : Subject → Name → Option ℕ
declared_at s x = place_behind (declaration_of s.names x)

-- ---- channels, headers and bodies

abbrev pub interaction_as : ℕ → Meaning → List (ℕ × InteractionKind)
interaction_as place (Interaction kind) = (place, kind) ∷ []
interaction_as place _ = []

-- what is declared as an interaction where its name stands, with the place; anything else is skipped
abbrev pub interaction_at : Declared → Inter → List (ℕ × InteractionKind)
interaction_at declared x = interaction_as x.name.span.start (at_place declared x.name.span.start)

abbrev pub group_interactions : Declared → InterGroup → List (ℕ × InteractionKind)
group_interactions declared g = flat_map (interaction_at declared) g.inters

-- the interactions of a channel in the order of their declaration
abbrev pub interactions_in : Declared → ChannelTree → List (ℕ × InteractionKind)
interactions_in declared c = flat_map (group_interactions declared) c.groups

abbrev pub kinds_in : Declared → ChannelTree → List InteractionKind
kinds_in declared c = map (λ i. i.1) (interactions_in declared c)

abbrev pub interaction_places : Declared → ChannelTree → List ℕ
interaction_places declared c = map (λ i. i.0) (interactions_in declared c)

-- the exported variables stand behind the parameters
abbrev pub exports_by : Heading → List ℕ
exports_by h = rising (length h.parameters) (length h.exports)

-- those of the header that is declared where its name stands
abbrev pub exports_in : Declared → HeaderTree → List ℕ
exports_in declared h = exports_by (heading_of (at_place declared h.name.span.start))

-- Over what names mean, and the places of all channels.
module _ (known : Meanings) (channels : List ℕ) where
  -- an interaction point has the number of its channel
  abbrev pub point_of : IpDecl → Name → IpNumbers
  point_of d x = record { word = x.word; channel = number_in channels (channel_at (known d.channel)) }

  -- those that are declared together
  abbrev pub points_of : IpDecl → List IpNumbers
  points_of d = map (point_of d) d.names.names

  abbrev pub header_points : HeaderTree → List IpNumbers
  header_points h = flat_map points_of h.ips

-- of the headers at these places, the interaction points of the one at a place
abbrev pub external_points : List ℕ → List (List IpNumbers) → ℕ → List IpNumbers
external_points headers points place = unwrap_or (slice_get points (number_in headers place)) []

abbrev pub channel_places : Spec → List ℕ
channel_places tree = map place_of_channel (channels_in tree)

abbrev pub header_places : Spec → List ℕ
header_places tree = map place_of_header (headers_in tree)

-- the interaction points of each header
abbrev pub all_header_points : Subject → List (List IpNumbers)
all_header_points s = map (header_points (meant s) (channel_places s.specification)) (headers_in s.specification)

-- of a body by the headers of its module variables, its own header and the interaction points that it declares: the external ones come first
abbrev pub numbers_by : Meanings → (channels headers : List ℕ) → List (List IpNumbers) → (modules : List ℕ) → (header : ℕ) → List IpDecl → BodyNumbers
numbers_by known channels headers points modules header own = record {
  module_variables = map (number_in headers) modules;
  ips = external_points headers points header ++ flat_map (points_of known channels) own;
}

abbrev pub numbers_over : Subject → (channels headers : List ℕ) → List (List IpNumbers) → BodyAlone → BodyNumbers
numbers_over s channels headers points b = numbers_by (meant s) channels headers points (module_headers (meant s) b) (heading (meant s) b.header).at (ips_in b)

abbrev pub body_numbers : Subject → BodyAlone → BodyNumbers
body_numbers s = numbers_over s (channel_places s.specification) (header_places s.specification) (all_header_points s)

-- what numbers stand for: channels, headers and bodies are counted in text order
abbrev pub numbers_of : Subject → Numbers
numbers_of s = record {
  shapes = shapes_of (meant s) s.specification;
  channels = map (kinds_in (declared_in s)) (channels_in s.specification);
  headers = map (exports_in (declared_in s)) (headers_in s.specification);
  bodies = map (body_numbers s) (bodies s.specification);
}

-- ---- the number of each thing

-- the first number of a shape
abbrev pub number_of : Subject → Shape → Option ℕ
number_of s shape = first_of (shapes_of (meant s) s.specification) shape

-- the routines of a body in the order of their declaration
abbrev pub routines_of : Subject → ℕ → List RoutineTree
routines_of s body = unwrap_or (slice_get (routine_lists s.specification) body) []

-- the body and the number of each routine, by its place
abbrev pub routine_numbers : Subject → List (ℕ × Number)
routine_numbers s = lists_from 0 (map (map place_of_routine) (routine_lists s.specification))

-- the body and the number of the routine that is declared where the declaration of a name stands
abbrev pub routine_of : Subject → Name → Option (ℕ × ℕ)
routine_of s name = option_and_then (λ place. latest place (routine_numbers s)) (declared_at s name)

-- the exports of the header of a module variable
abbrev pub exports_of : Numbers → ℕ → ℕ → Option (List ℕ)
exports_of n body variable = option_and_then (λ b. option_and_then (slice_get n.headers) (slice_get b.module_variables variable)) (slice_get n.bodies body)

abbrev pub if_it_is : ℕ → ℕ → Option ℕ → Option ℕ
if_it_is i k None = None
if_it_is i k (Some v) = if nat_eq v k then Some i else None

-- the number of the export that a variable is: as far as it stands behind the first one
abbrev pub export_in : List ℕ → ℕ → Option ℕ
export_in [] k = None
export_in (first ∷ more) k = if_it_is (k - first) k (slice_get (first ∷ more) (k - first))

abbrev pub export_of : Subject → (body variable k : ℕ) → Option ℕ
export_of s body variable k = option_and_then (λ exports. export_in exports k) (exports_of (numbers_of s) body variable)

-- the channel and the number of each interaction, by its place
abbrev pub interaction_numbers : Subject → List (ℕ × Number)
interaction_numbers s = lists_from 0 (map (interaction_places (declared_in s)) (channels_in s.specification))

abbrev pub has_word : List ℕ → Option InteractionKind → Bool
has_word word None = false
has_word word (Some kind) = bytes_eq kind.word word

-- the number of an interaction that is of the point's channel and has the word of its name
abbrev pub number_at : Numbers → (body : ℕ) → (m : Name) → IpNumbers → (k : ℕ) → Number → Option ℕ
number_at n body m point k number = if nat_eq number.0 point.channel && has_word m.word (numbers.interaction_of n body k number.1) then Some number.1 else None

abbrev pub point_numbered : Numbers → ℕ → ℕ → Option IpNumbers
point_numbered n body k = option_and_then (λ b. slice_get b.ips k) (slice_get n.bodies body)

-- the channel and the number of the interaction that is declared where the declaration of a name stands
abbrev pub interaction_place : Subject → Name → Option Number
interaction_place s m = option_and_then (λ place. latest place (interaction_numbers s)) (declared_at s m)

-- of the interaction that the name m means
abbrev pub interaction_at_point : Subject → (body : ℕ) → (m : Name) → (k : ℕ) → IpNumbers → Option ℕ
interaction_at_point s body m k point = option_and_then (number_at (numbers_of s) body m point k) (interaction_place s m)

-- at a point with the word of the name ip
abbrev pub interaction_by : Subject → (body : ℕ) → (ip m : Name) → (k : ℕ) → IpNumbers → Option ℕ
interaction_by s body ip m k point = if bytes_eq point.word ip.word then interaction_at_point s body m k point else None

abbrev pub interaction_meant : Subject → (body : ℕ) → (ip m : Name) → Meaning → Option ℕ
interaction_meant s body ip m (Ip k) = option_and_then (interaction_by s body ip m k) (point_numbered (numbers_of s) body k)
interaction_meant s body ip m _ = None

-- the number of the interaction that a name means at the interaction point of a body that a name means
abbrev pub interaction_of : Subject → (body : ℕ) → (ip m : Name) → Option ℕ
interaction_of s body ip m = interaction_meant s body ip m (meant s ip)

-- the types of the parameters of a body
abbrev pub parameters_of : Subject → ℕ → Option (List Denoter)
parameters_of s k = option_map (λ b. (heading (meant s) b.header).parameters) (body s k)

abbrev pub name_word : List ℕ → Option Name → List ℕ
name_word word None = word
name_word word (Some x) = x.word

-- the word of a body; the specification's own name for the first
abbrev pub word_of_body : Subject → ℕ → Option (List ℕ)
word_of_body s k = option_map (λ b. name_word s.specification.name.word b.name) (body s k)
