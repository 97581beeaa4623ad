-- The numbers of a specification stand for what they are numbers of.
use Rattle.std.proofs.Common.{◌≡◌, ◌∙◌, ap, sym, subst, ℕ, ◌-◌, Bool, true, false, nat_eq, List, [], ◌∷◌, map, refl, Option, Some, None}
use Rattle.std.specs.Prelude.{◌&&◌, if◌then◌else◌, option_map, option_and_then, slice_get, unwrap_or}
use Rattle.std.specs.List.{flat_map}
use Rattle.std.specs.Str.{bytes_eq}
use Rattle.std.proofs.lemmas.Bool.Decides.{Decides-eqb}
use Rattle.std.proofs.lemmas.Slice.Eq.{bytes_eq-Decides}
use Rattle.std.proofs.lemmas.Option.{slice_get-map}
use Rattle.estelle_tree.specs.declared.span.Span.{Span}
use Rattle.estelle_tree.specs.declared.tree.name.Name.{Name}
use Rattle.estelle_tree.specs.declared.tree.declaration.Routine.{Routine as RoutineTree}
use Rattle.estelle_tree.specs.declared.tree.specification.Channel.{Channel}
use Rattle.estelle_tree.specs.declared.tree.specification.Inter.{Inter}
use Rattle.estelle_tree.specs.declared.tree.specification.InterGroup.{InterGroup}
use Rattle.estelle_model.specs.declared.denoter.Denoter.{Denoter}
use Rattle.estelle_model.specs.declared.meaning.InteractionKind.{InteractionKind}
use Rattle.estelle_model.specs.declared.meaning.Meaning.{Meaning}
use Rattle.estelle_model.specs.declared.meaning.Meaning.TheVariants as meaning
use Rattle.estelle_model.specs.Names.{Declared, at_place, declaration_of, meaning_at}
use Rattle.estelle_model.specs.Bodies.{BodyAlone, heading}
use Rattle.estelle_model.specs.Subject.{Subject, declared_in, meant, body, no_body}
use Rattle.place_table.specs.Latest.{latest}
use Rattle.type_shapes.specs.TypeNodes.{shapes_of}
use Rattle.type_shapes.proofs.Firsts.{first_is}
use Rattle.body_numbers.specs.declared.numbers.Numbers.{Numbers}
use Rattle.body_numbers.specs.declared.numbers.BodyNumbers.{BodyNumbers}
use Rattle.body_numbers.specs.declared.numbers.IpNumbers.{IpNumbers}
use Rattle.body_numbers.specs.Numbers as numbers
use Rattle.body_program_numbers.specs.Outline.{channels_in, routine_lists}
use Rattle.body_program_numbers.specs.Places.{Number, lists_from}
use Rattle.body_program_numbers.specs.Numbering.{place_behind, declared_at, place_of_routine, interaction_as, interaction_at, group_interactions, interactions_in, interaction_places, kinds_in, numbers_of, number_of, exports_of, if_it_is, export_in, export_of, has_word, number_at, point_numbered, interaction_place, interaction_by, interaction_meant, interaction_of, parameters_of, routines_of, routine_of, routine_numbers, interaction_numbers}
use Rattle.body_program_numbers.specs.Laws.{NumbersStandForShapes, NumbersStandForExports, StandsFor, NumbersStandForInteractions, ParametersAreOfChildren, IsDeclared, NumbersStandForRoutines}
use Rattle.body_program_numbers.proofs.Listed.{Each, each-flat_map, each_at, stands}

-- ---- shapes

pub shapes_stand : NumbersStandForShapes
shapes_stand s shape k h = first_is (shapes_of (meant s) s.specification) shape k h

-- ---- exports

it_is : (i k n : ℕ) (o : Option ℕ) → if_it_is i k o ≡ Some n → (i ≡ n) × (o ≡ Some k)
it_is i k n None h = absurd (cc)
it_is i k n (Some v) h = by (nat_eq v k) refl h
  where
    by : (b : Bool) → nat_eq v k ≡ b → (if b then Some i else None) ≡ Some n → (i ≡ n) × (Some v ≡ Some k)
    by true is e = let same : i ≡ n = cc in (same, ap Some ((Decides-eqb v k).0 is))
    by false is e = absurd (cc)

export_there : (exports : List ℕ) (k i : ℕ) → export_in exports k ≡ Some i → slice_get exports i ≡ Some k
export_there [] k i h = absurd (cc)
export_there (first ∷ more) k i h =
    let found = it_is (k - first) k i (slice_get (first ∷ more) (k - first)) h in
    ap (slice_get (first ∷ more)) (sym found.0) ∙ found.1

export_read : (n : Numbers) (body m i : ℕ) → option_and_then (λ (es : List ℕ). slice_get es i) (exports_of n body m) ≡ numbers.export_numbered n body m i
export_read n body m i = by (slice_get n.bodies body)
  where
    by_header : (o : Option ℕ) → option_and_then (λ (es : List ℕ). slice_get es i) (option_and_then (slice_get n.headers) o) ≡ option_and_then (λ h. option_and_then (λ (exports : List ℕ). slice_get exports i) (slice_get n.headers h)) o
    by_header None = refl
    by_header (Some h) = refl

    by : (o : Option BodyNumbers) → option_and_then (λ (es : List ℕ). slice_get es i) (option_and_then (λ (b : BodyNumbers). option_and_then (slice_get n.headers) (slice_get b.module_variables m)) o) ≡ option_and_then (λ (b : BodyNumbers). option_and_then (λ h. option_and_then (λ (exports : List ℕ). slice_get exports i) (slice_get n.headers h)) (slice_get b.module_variables m)) o
    by None = refl
    by (Some b) = by_header (slice_get b.module_variables m)

pub exports_stand : NumbersStandForExports
exports_stand s body m k i h = sym (export_read (numbers_of s) body m i) ∙ by (exports_of (numbers_of s) body m) h
  where
    by : (o : Option (List ℕ)) → option_and_then (λ exports. export_in exports k) o ≡ Some i → option_and_then (λ (es : List ℕ). slice_get es i) o ≡ Some k
    by None e = absurd (cc)
    by (Some exports) e = export_there exports k i e

-- ---- parameters

pub parameters_are : ParametersAreOfChildren
parameters_are s k types h = by (body s k) h
  where
    by : (o : Option BodyAlone) → option_map (λ (b : BodyAlone). (heading (meant s) b.header).parameters) o ≡ Some types → types ≡ (heading (meant s) (unwrap_or o no_body).header).parameters
    by None e = absurd (cc)
    by (Some b) e = let same : (heading (meant s) b.header).parameters ≡ types = cc in sym same

-- ---- where names are declared

-- what a name means is declared where its declaration stands
meant_there : (s : Subject) (x : Name) (place : ℕ) → declared_at s x ≡ Some place → meant s x ≡ at_place (declared_in s) place
meant_there s x place h = by (declaration_of s.names x) h
  where
    by_end : (decl : Span) (b : Bool) → nat_eq decl.end 0 ≡ b → (if b then None else Some decl.start) ≡ Some place → meaning_at (declared_in s) x (Some decl) ≡ at_place (declared_in s) place
    by_end decl true is e = absurd (cc)
    by_end decl false is e =
        let same : decl.start ≡ place = cc in
        ap (λ (b : Bool). if b then meaning_at (declared_in s) x (Some (record { start = 0; end = 0 })) else at_place (declared_in s) decl.start) is ∙ ap (at_place (declared_in s)) same

    by : (o : Option Span) → place_behind o ≡ Some place → meaning_at (declared_in s) x o ≡ at_place (declared_in s) place
    by None e = absurd (cc)
    by (Some decl) e = by_end decl (nat_eq decl.end 0) refl e

-- a place with a number, among lists of places
found_at : (s : Subject) (x : Name) (lists : List (List ℕ)) (n : Number) → option_and_then (λ place. latest place (lists_from 0 lists)) (declared_at s x) ≡ Some n
    → (place : ℕ) × ((meant s x ≡ at_place (declared_in s) place) × ((places : List ℕ) × ((slice_get lists n.0 ≡ Some places) × (slice_get places n.1 ≡ Some place))))
found_at s x lists n h = by (declared_at s x) refl h
  where
    by : (o : Option ℕ) → declared_at s x ≡ o → option_and_then (λ place. latest place (lists_from 0 lists)) o ≡ Some n → (place : ℕ) × ((meant s x ≡ at_place (declared_in s) place) × ((places : List ℕ) × ((slice_get lists n.0 ≡ Some places) × (slice_get places n.1 ≡ Some place))))
    by None is e = absurd (cc)
    by (Some place) is e = (place, (meant_there s x place is, stands lists place n e))

-- a value of a list of which each item is mapped
of_mapped : {A B : Type 0} (f : A → B) (xs : List A) (k : ℕ) (y : B) → slice_get (map f xs) k ≡ Some y → (x : A) × ((slice_get xs k ≡ Some x) × (f x ≡ y))
of_mapped {A = A} {B = B} f xs k y h = by (slice_get xs k) refl (sym (slice_get-map f xs k) ∙ h)
  where
    by : (o : Option A) → slice_get xs k ≡ o → option_map f o ≡ Some y → (x : A) × ((slice_get xs k ≡ Some x) × (f x ≡ y))
    by None is e = absurd (cc)
    by (Some x) is e = let same : f x ≡ y = cc in (x, (is, same))

-- ---- routines

pub routines_stand : NumbersStandForRoutines
routines_stand s x r n means h =
    let found = found_at s x (map (map place_of_routine) (routine_lists s.specification)) n h in
    let list = of_mapped (map place_of_routine) (routine_lists s.specification) n.0 found.1.1.0 found.1.1.1.0 in
    let tree = of_mapped place_of_routine list.0 n.1 found.0 (ap (λ (ps : List ℕ). slice_get ps n.1) list.1.1 ∙ found.1.1.1.1) in
    record {
      tree = tree.0;
      found = ap (λ (o : Option (List RoutineTree)). slice_get (unwrap_or o []) n.1) list.1.0 ∙ tree.1.0;
      means = ap (at_place (declared_in s)) tree.1.1 ∙ sym found.1.0 ∙ means;
    }

-- ---- interactions

-- an interaction is what is declared at its place
IsThere : Declared → ℕ × InteractionKind → Type 0
IsThere declared e = at_place declared e.0 ≡ meaning.Interaction e.1

each_there : (declared : Declared) (x : Inter) → Each (IsThere declared) (interaction_at declared x)
unfolding IsThere
each_there declared x = by (at_place declared x.name.span.start) refl
  where
    by : (m : Meaning) → at_place declared x.name.span.start ≡ m → Each (IsThere declared) (interaction_as x.name.span.start m)
    by (meaning.Interaction kind) is = (is, tt)
    by (meaning.Constant v h) is = tt
    by (meaning.TypeName t) is = tt
    by (meaning.Own n t) is = tt
    by (meaning.Exported n t) is = tt
    by (meaning.Local n t) is = tt
    by (meaning.Var n t) is = tt
    by (meaning.Field n) is = tt
    by (meaning.Called r) is = tt
    by (meaning.RequiredFunction f) is = tt
    by (meaning.Module n) is = tt
    by (meaning.Ip n) is = tt
    by (meaning.State n) is = tt
    by (meaning.StateSet ns) is = tt
    by (meaning.Channel n) is = tt
    by (meaning.Role r) is = tt
    by (meaning.Header h) is = tt
    by (meaning.Body n) is = tt
    by meaning.Other is = tt

all_there : (declared : Declared) (c : Channel) → Each (IsThere declared) (interactions_in declared c)
all_there declared c = each-flat_map (IsThere declared) (group_interactions declared) (λ (g : InterGroup). each-flat_map (IsThere declared) (interaction_at declared) (each_there declared) g.inters) c.groups

-- the interaction with a number of the channel with a number is what the name means
means_it : (s : Subject) (m : Name) (n : Number) (kinds : List InteractionKind) (kind : InteractionKind) → interaction_place s m ≡ Some n → slice_get (numbers_of s).channels n.0 ≡ Some kinds → slice_get kinds n.1 ≡ Some kind → meant s m ≡ meaning.Interaction kind
unfolding IsThere
means_it s m n kinds kind h at here =
    let declared = declared_in s in
    let channels = channels_in s.specification in
    let found = found_at s m (map (interaction_places declared) channels) n h in
    let place = found.0 in
    let one = of_mapped (interaction_places declared) channels n.0 found.1.1.0 found.1.1.1.0 in
    let c : Channel = one.0 in
    let item = of_mapped (λ (e : ℕ × InteractionKind). e.0) (interactions_in declared c) n.1 place (ap (λ (ps : List ℕ). slice_get ps n.1) one.1.1 ∙ found.1.1.1.1) in
    let there : at_place declared item.0.0 ≡ meaning.Interaction item.0.1 = each_at (IsThere declared) (interactions_in declared c) n.1 item.0 (all_there declared c) item.1.0 in
    let its : Some (kinds_in declared c) ≡ Some kinds = sym (slice_get-map (kinds_in declared) channels n.0 ∙ ap (option_map (kinds_in declared)) one.1.0) ∙ at in
    let its_kinds : kinds_in declared c ≡ kinds = cc in
    let value : Some item.0.1 ≡ Some kind = sym (slice_get-map (λ (e : ℕ × InteractionKind). e.1) (interactions_in declared c) n.1 ∙ ap (option_map (λ (e : ℕ × InteractionKind). e.1)) item.1.0) ∙ ap (λ (ks : List InteractionKind). slice_get ks n.1) its_kinds ∙ here in
    let its_kind : item.0.1 ≡ kind = cc in
    found.1.0 ∙ ap (at_place declared) (sym item.1.1) ∙ there ∙ ap meaning.Interaction its_kind

both : (a b : Bool) → (a && b) ≡ true → (a ≡ true) × (b ≡ true)
both true b h = (refl, h)
both false b h = absurd (cc)

word_there : (word : List ℕ) (o : Option InteractionKind) → has_word word o ≡ true → (kind : InteractionKind) × ((o ≡ Some kind) × (kind.word ≡ word))
word_there word None h = absurd (cc)
word_there word (Some kind) h = (kind, (refl, (bytes_eq-Decides kind.word word).0 h))

-- the kinds behind a point
kinds_at : (n : Numbers) (body k i : ℕ) (point : IpNumbers) (kind : InteractionKind) → point_numbered n body k ≡ Some point → numbers.interaction_of n body k i ≡ Some kind → (kinds : List InteractionKind) × ((slice_get n.channels point.channel ≡ Some kinds) × (slice_get kinds i ≡ Some kind))
kinds_at n body k i point kind at h = by (slice_get n.bodies body) at h
  where
    by_kinds : (o : Option (List InteractionKind)) → slice_get n.channels point.channel ≡ o → option_and_then (λ (ks : List InteractionKind). slice_get ks i) o ≡ Some kind → (kinds : List InteractionKind) × ((slice_get n.channels point.channel ≡ Some kinds) × (slice_get kinds i ≡ Some kind))
    by_kinds None is e = absurd (cc)
    by_kinds (Some kinds) is e = (kinds, (is, e))

    by_point : (o : Option IpNumbers) → o ≡ Some point → option_and_then (λ (p : IpNumbers). option_and_then (λ (ks : List InteractionKind). slice_get ks i) (slice_get n.channels p.channel)) o ≡ Some kind → (kinds : List InteractionKind) × ((slice_get n.channels point.channel ≡ Some kinds) × (slice_get kinds i ≡ Some kind))
    by_point None is e = absurd (cc)
    by_point (Some p) is e = let same : p ≡ point = cc in by_kinds (slice_get n.channels point.channel) refl (ap (λ (q : IpNumbers). option_and_then (λ (ks : List InteractionKind). slice_get ks i) (slice_get n.channels q.channel)) (sym same) ∙ e)

    by : (o : Option BodyNumbers) → option_and_then (λ (b : BodyNumbers). slice_get b.ips k) o ≡ Some point → option_and_then (λ (b : BodyNumbers). option_and_then (λ (p : IpNumbers). option_and_then (λ (ks : List InteractionKind). slice_get ks i) (slice_get n.channels p.channel)) (slice_get b.ips k)) o ≡ Some kind → (kinds : List InteractionKind) × ((slice_get n.channels point.channel ≡ Some kinds) × (slice_get kinds i ≡ Some kind))
    by None is e = absurd (cc)
    by (Some b) is e = by_point (slice_get b.ips k) is e

word_at : (n : Numbers) (body k : ℕ) (point : IpNumbers) → point_numbered n body k ≡ Some point → numbers.word_of n body k ≡ Some point.word
word_at n body k point at = by (slice_get n.bodies body) at
  where
    by : (o : Option BodyNumbers) → option_and_then (λ (b : BodyNumbers). slice_get b.ips k) o ≡ Some point → option_and_then (λ (b : BodyNumbers). option_map (λ (i : IpNumbers). i.word) (slice_get b.ips k)) o ≡ Some point.word
    by None is = absurd (cc)
    by (Some b) is = ap (option_map (λ (i : IpNumbers). i.word)) is

module _ (s : Subject) (body : ℕ) (ip m : Name) (k i : ℕ) where
  at_number : (point : IpNumbers) (n : Number) → point_numbered (numbers_of s) body k ≡ Some point → point.word ≡ ip.word → interaction_place s m ≡ Some n → number_at (numbers_of s) body m point k n ≡ Some i → StandsFor s body ip m k i
  at_number point n at word place h = by (nat_eq n.0 point.channel && has_word m.word (numbers.interaction_of (numbers_of s) body k n.1)) refl h
    where
      by : (b : Bool) → (nat_eq n.0 point.channel && has_word m.word (numbers.interaction_of (numbers_of s) body k n.1)) ≡ b → (if b then Some n.1 else None) ≡ Some i → StandsFor s body ip m k i
      by false is e = absurd (cc)
      by true is e =
          let same : n.1 ≡ i = cc in
          let tests = both (nat_eq n.0 point.channel) (has_word m.word (numbers.interaction_of (numbers_of s) body k n.1)) is in
          let channel : n.0 ≡ point.channel = (Decides-eqb n.0 point.channel).0 tests.0 in
          let kind = word_there m.word (numbers.interaction_of (numbers_of s) body k n.1) tests.1 in
          let kinds = kinds_at (numbers_of s) body k n.1 point kind.0 at kind.1.0 in
          record {
            kind = kind.0;
            means = means_it s m n kinds.0 kind.0 place (ap (slice_get (numbers_of s).channels) channel ∙ kinds.1.0) kinds.1.1;
            word = word_at (numbers_of s) body k point at ∙ ap Some word;
            interaction = ap (numbers.interaction_of (numbers_of s) body k) (sym same) ∙ kind.1.0;
            same = kind.1.1;
          }

  at_point : (point : IpNumbers) → point_numbered (numbers_of s) body k ≡ Some point → interaction_by s body ip m k point ≡ Some i → StandsFor s body ip m k i
  at_point point at h = by (bytes_eq point.word ip.word) refl h
    where
      by_place : (o : Option Number) → interaction_place s m ≡ o → point.word ≡ ip.word → option_and_then (number_at (numbers_of s) body m point k) o ≡ Some i → StandsFor s body ip m k i
      by_place None is word e = absurd (cc)
      by_place (Some n) is word e = at_number point n at word is e

      by : (b : Bool) → bytes_eq point.word ip.word ≡ b → (if b then option_and_then (number_at (numbers_of s) body m point k) (interaction_place s m) else None) ≡ Some i → StandsFor s body ip m k i
      by true is e = by_place (interaction_place s m) refl ((bytes_eq-Decides point.word ip.word).0 is) e
      by false is e = absurd (cc)

pub interactions_stand : NumbersStandForInteractions
interactions_stand s body ip m k i means h = by (point_numbered (numbers_of s) body k) refl (sym (ap (interaction_meant s body ip m) means) ∙ h)
  where
    by : (o : Option IpNumbers) → point_numbered (numbers_of s) body k ≡ o → option_and_then (interaction_by s body ip m k) o ≡ Some i → StandsFor s body ip m k i
    by None is e = absurd (cc)
    by (Some point) is e = at_point s body ip m k i point is e
