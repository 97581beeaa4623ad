-- A code with units behind others: what was found is found still, and a new unit where nothing was before.
use Rattle.std.proofs.Common.{◌≡◌, ◌∙◌, refl, ap, ℕ, Bool, true, false, nat_eq, List, [], ◌∷◌, ◌++◌, Option, Some, None, arith}
use Rattle.std.specs.Prelude.{◌&&◌, if◌then◌else◌, map, option_map}
use Rattle.std.specs.Map.{lookup}
use Rattle.std.proofs.lemmas.Bool.Decides.{nat_tests}
use Rattle.body_code.specs.declared.unit.Entry.{Entry}
use Rattle.body_code.specs.declared.unit.Entry.TheVariants as entry
use Rattle.body_code.specs.declared.unit.CodeUnit.{CodeUnit}
use Rattle.body_code.specs.Units.{entry_of, body_behind, place_of, placed, same_entry, same_place, is_at, unit_of}
use Rattle.body_code.specs.Firsts.{body_after}
use Rattle.body_code.proofs.Finding.{or_then, where_true}
use Rattle.estelle_model.specs.declared.denoter.Denoter.{Denoter}
use Rattle.estelle_model.specs.declared.meaning.Routine.{Routine}
use Rattle.estelle_model.specs.declared.meaning.Passing.TheVariants.{ByValue}
use Rattle.estelle_model.specs.Transitions.{Transition}
use Rattle.body_compiler_pieces.specs.Pieces.{Piece}
use Rattle.body_compiler_pieces.specs.UnitCode.{Known, IsMadeOf, IsUnit}
use Rattle.body_compiler_laws.specs.Compiled.{HasUnit}
use Rattle.body_compiler_laws.specs.Codes.{HasClause, HasTransition}

-- ---- the first of a kind, in two lists

lookup_behind : {Q V : Type 0} (p : Q → Bool) (es fs : List (Q × V)) → lookup p (es ++ fs) ≡ or_then (lookup p es) (lookup p fs)
lookup_behind p [] fs = refl
lookup_behind {Q} {V} p (e ∷ es) fs = by (p e.0) (lookup_behind p es fs)
  where
    by : (b : Bool) → lookup p (es ++ fs) ≡ or_then (lookup p es) (lookup p fs) → (if b then Some e.1 else lookup p (es ++ fs)) ≡ or_then (if b then Some e.1 else lookup p es) (lookup p fs)
    by true h = refl
    by false h = h

placed_behind : (here : Option ℕ) (us vs : List CodeUnit) → placed here (us ++ vs) ≡ placed here us ++ placed (body_after here us) vs
placed_behind here [] vs = refl
placed_behind here (u ∷ us) vs = ap (λ ps. (place_of here u.heading, u) ∷ ps) (placed_behind (body_behind here u.heading) us vs)

-- the unit there of the first code, or else of the second one
pub unit_behind : (us vs : List CodeUnit) (body : ℕ) (e : Entry) → unit_of (us ++ vs) body e ≡ or_then (unit_of us body e) (lookup (is_at (body, e)) (placed (body_after None us) vs))
unfolding unit_of
unit_behind us vs body e = ap (lookup (is_at (body, e))) (placed_behind None us vs) ∙ lookup_behind (is_at (body, e)) (placed None us) (placed (body_after None us) vs)

-- ---- what was found

pub still_found : (us vs : List CodeUnit) (body : ℕ) (e : Entry) (w : CodeUnit) → unit_of us body e ≡ Some w → unit_of (us ++ vs) body e ≡ Some w
still_found us vs body e w h = unit_behind us vs body e ∙ ap (λ o. or_then o (lookup (is_at (body, e)) (placed (body_after None us) vs))) h

module _ (us vs : List CodeUnit) (known : Known) (body : ℕ) where
  pub still_has : (place : Entry) (r : Routine) → HasUnit us known body place r → HasUnit (us ++ vs) known body place r
  still_has place r h = record { unit = h.unit; found = still_found us vs body place h.unit h.found; is = h.is }

  pub clause_still : (place : Entry) (received : List Denoter) (p : Piece) → HasClause us body place received p → HasClause (us ++ vs) body place received p
  clause_still place received p h = record { unit = h.unit; found = still_found us vs body place h.unit h.found; is = h.is }

  pub transition_still : (number : ℕ) (t : Transition) → HasTransition us known body number t → HasTransition (us ++ vs) known body number t
  transition_still number t h = record { block = still_has _ _ h.block; provided = clause_still _ _ _ h.provided; delay = λ d e. clause_still _ _ _ (h.delay d e) }

-- ---- a new unit

-- the unit there before, or else the new one where that is its place
pub unit_push : (us : List CodeUnit) (u : CodeUnit) (body : ℕ) (e : Entry) → unit_of (us ++ u ∷ []) body e ≡ or_then (unit_of us body e) (where_true (is_at (body, e) (place_of (body_after None us) u.heading)) u)
unit_push us u body e = unit_behind us (u ∷ []) body e

module _ (us : List CodeUnit) (u : CodeUnit) where
  -- a heading of a body has no entry
  pub heading_push : entry_of u.heading ≡ None → (body : ℕ) (e : Entry) → unit_of (us ++ u ∷ []) body e ≡ unit_of us body e
  heading_push none body e = unit_push us u body e ∙ ap (λ b. or_then (unit_of us body e) (where_true b u)) (nowhere (body_after None us)) ∙ same (unit_of us body e)
    where
      same : (o : Option CodeUnit) → or_then o None ≡ o
      same None = refl
      same (Some w) = refl

      nowhere : (here : Option ℕ) → is_at (body, e) (place_of here u.heading) ≡ false
      nowhere None = refl
      nowhere (Some k) = ap (λ o. is_at (body, e) (option_map (λ f. (k, f)) o)) none

  module _ (here : ℕ) (inside : body_after None us ≡ Some here) (new : Entry) (is : entry_of u.heading ≡ Some new) where
    placed_at : place_of (body_after None us) u.heading ≡ Some (here, new)
    placed_at = ap (λ o. place_of o u.heading) inside ∙ ap (option_map (λ f. (here, f))) is

    there : (body : ℕ) (e : Entry) → unit_of (us ++ u ∷ []) body e ≡ or_then (unit_of us body e) (where_true (same_place (body, e) (here, new)) u)
    there body e = unit_push us u body e ∙ ap (λ o. or_then (unit_of us body e) (where_true (is_at (body, e) o) u)) placed_at

    -- at every other place nothing changes
    pub elsewhere : (body : ℕ) (e : Entry) → same_place (body, e) (here, new) ≡ false → unit_of (us ++ u ∷ []) body e ≡ unit_of us body e
    elsewhere body e other = there body e ∙ ap (λ b. or_then (unit_of us body e) (where_true b u)) other ∙ same (unit_of us body e)
      where
        same : (o : Option CodeUnit) → or_then o None ≡ o
        same None = refl
        same (Some w) = refl

    -- where nothing was there before, it is found
    pub found_new : unit_of us here new ≡ None → unit_of (us ++ u ∷ []) here new ≡ Some u
    found_new none = there here new ∙ ap (λ o. or_then o (where_true (same_place (here, new) (here, new)) u)) none ∙ ap (λ b. where_true b u) same
      where
        equal : (k : ℕ) → nat_eq k k ≡ true
        equal k = grind (arith, nat_tests)

        same_one : (e : Entry) → same_entry e e ≡ true
        same_one (entry.Routine k) = equal k
        same_one entry.Initialize = refl
        same_one (entry.Guard k) = equal k
        same_one (entry.Delay k) = equal k
        same_one (entry.Block k) = equal k

        same : same_place (here, new) (here, new) ≡ true
        same = ap (λ b. b && same_entry new new) (equal here) ∙ same_one new

    pub has_new : (known : Known) (r : Routine) → unit_of us here new ≡ None → IsUnit known here r u → HasUnit (us ++ u ∷ []) known here new r
    has_new known r none is = record { unit = u; found = found_new none; is = is }

    pub clause_new : (received : List Denoter) (p : Piece) → unit_of us here new ≡ None → IsMadeOf (map ByValue received) [] p u → HasClause (us ++ u ∷ []) here new received p
    clause_new received p none is = record { unit = u; found = found_new none; is = is }
