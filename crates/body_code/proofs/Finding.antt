-- The first unit at a place, by its number in a table.
use Rattle.std.proofs.Common.{◌≡◌, ◌∙◌, ℕ, suc, ◌<◌, Bool, true, false, nat_eq, List, [], ◌∷◌, ◌++◌, refl, ap, sym, subst, length, get_or, drop, arith, add-one, ◌&&◌, ◌+◌, Option, Some, None}
use Rattle.std.specs.Prelude.{if◌then◌else◌, option_map, is_some}
use Rattle.std.specs.List.{slice_get}
use Rattle.std.specs.Map.{lookup, keys_of}
use Rattle.std.proofs.Math.Seq.{drop-cons}
use Rattle.std.proofs.lemmas.Bool.Decides.{nat_tests}
use Rattle.body_code.specs.declared.unit.Entry.{Entry}
use Rattle.body_code.specs.declared.unit.Entry.TheVariants as entry
use Rattle.body_code.specs.declared.unit.CodeUnit.{CodeUnit}
use Rattle.body_code.specs.Units.{Place, place_of, body_behind, placed, same_entry, same_place, is_at, unit_of}
use Rattle.body_code.specs.Firsts.{first_at, places, body_after, noted, AreFirst, IsKnown}

-- ---- what comes behind others counts where none of them does

abbrev pub or_then : {A : Type 0} → Option A → Option A → Option A
or_then None o = o
or_then (Some x) o = Some x

or_none : {A : Type 0} (o : Option A) → or_then o None ≡ o
or_none None = refl
or_none (Some x) = refl

abbrev pub where_true : {A : Type 0} → Bool → A → Option A
where_true b x = if b then Some x else None

module _ {Q : Type 0} (p : Q → Bool) where
  moved : (o : Option ℕ) (b : Bool) (n : ℕ) → option_map suc (or_then o (where_true b n)) ≡ or_then (option_map suc o) (where_true b (suc n))
  moved (Some i) b n = refl
  moved None true n = refl
  moved None false n = refl

  first_push : (qs : List Q) (x : Q) → first_at p (qs ++ x ∷ []) ≡ or_then (first_at p qs) (where_true (p x) (length qs))
  first_push [] x = refl
  first_push (q ∷ qs) x = by (p q) (first_push qs x)
    where
      by : (b : Bool) → first_at p (qs ++ x ∷ []) ≡ or_then (first_at p qs) (where_true (p x) (length qs)) → (if b then Some 0 else option_map suc (first_at p (qs ++ x ∷ []))) ≡ or_then (if b then Some 0 else option_map suc (first_at p qs)) (where_true (p x) (suc (length qs)))
      by true e = refl
      by false e = ap (option_map suc) e ∙ moved (first_at p qs) (p x) (length qs)

  lookup_push : {V : Type 0} (es : List (Q × V)) (q : Q) (v : V) → lookup p (es ++ (q, v) ∷ []) ≡ or_then (lookup p es) (where_true (p q) v)
  lookup_push [] q v = refl
  lookup_push (e ∷ es) q v = by (p e.0) (lookup_push es q v)
    where
      by : (b : Bool) → lookup p (es ++ (q, v) ∷ []) ≡ or_then (lookup p es) (where_true (p q) v) → (if b then Some e.1 else lookup p (es ++ (q, v) ∷ [])) ≡ or_then (if b then Some e.1 else lookup p es) (where_true (p q) v)
      by true h = refl
      by false h = h

-- ---- the places of units

places_push : (here : Option ℕ) (us : List CodeUnit) (u : CodeUnit) → keys_of (placed here (us ++ u ∷ [])) ≡ keys_of (placed here us) ++ place_of (body_after here us) u.heading ∷ []
places_push here [] u = refl
places_push here (w ∷ us) u = ap (λ ps. place_of here w.heading ∷ ps) (places_push (body_behind here w.heading) us u)

length_places : (here : Option ℕ) (us : List CodeUnit) → length (keys_of (placed here us)) ≡ length us
length_places here [] = refl
length_places here (w ∷ us) = ap suc (length_places (body_behind here w.heading) us)

pub body_push : (here : Option ℕ) (us : List CodeUnit) (u : CodeUnit) → body_after here (us ++ u ∷ []) ≡ body_behind (body_after here us) u.heading
body_push here [] u = refl
body_push here (w ∷ us) u = body_push (body_behind here w.heading) us u

-- ---- tables

same_number : (a b : ℕ) → nat_eq a b ≡ true → a ≡ b
same_number a b h = grind (arith, nat_tests)

entries_agree : (a b : Entry) → same_entry a b ≡ true → a ≡ b
entries_agree (entry.Routine k) (entry.Routine n) h = ap entry.Routine (same_number k n h)
entries_agree (entry.Routine k) entry.Initialize h = absurd cc
entries_agree (entry.Routine k) (entry.Guard n) h = absurd cc
entries_agree (entry.Routine k) (entry.Delay n) h = absurd cc
entries_agree (entry.Routine k) (entry.Block n) h = absurd cc
entries_agree entry.Initialize (entry.Routine n) h = absurd cc
entries_agree entry.Initialize entry.Initialize h = refl
entries_agree entry.Initialize (entry.Guard n) h = absurd cc
entries_agree entry.Initialize (entry.Delay n) h = absurd cc
entries_agree entry.Initialize (entry.Block n) h = absurd cc
entries_agree (entry.Guard k) (entry.Routine n) h = absurd cc
entries_agree (entry.Guard k) entry.Initialize h = absurd cc
entries_agree (entry.Guard k) (entry.Guard n) h = ap entry.Guard (same_number k n h)
entries_agree (entry.Guard k) (entry.Delay n) h = absurd cc
entries_agree (entry.Guard k) (entry.Block n) h = absurd cc
entries_agree (entry.Delay k) (entry.Routine n) h = absurd cc
entries_agree (entry.Delay k) entry.Initialize h = absurd cc
entries_agree (entry.Delay k) (entry.Guard n) h = absurd cc
entries_agree (entry.Delay k) (entry.Delay n) h = ap entry.Delay (same_number k n h)
entries_agree (entry.Delay k) (entry.Block n) h = absurd cc
entries_agree (entry.Block k) (entry.Routine n) h = absurd cc
entries_agree (entry.Block k) entry.Initialize h = absurd cc
entries_agree (entry.Block k) (entry.Guard n) h = absurd cc
entries_agree (entry.Block k) (entry.Delay n) h = absurd cc
entries_agree (entry.Block k) (entry.Block n) h = ap entry.Block (same_number k n h)

left : (a b : Bool) → a && b ≡ true → a ≡ true
left true b h = refl
left false b h = h

right : (a b : Bool) → a && b ≡ true → b ≡ true
right true b h = h
right false b h = absurd cc

places_agree : (p q : Place) → same_place p q ≡ true → p ≡ q
places_agree p q h =
    let body = same_number p.0 q.0 (left (nat_eq p.0 q.0) (same_entry p.1 q.1) h) in
    let e = entries_agree p.1 q.1 (right (nat_eq p.0 q.0) (same_entry p.1 q.1) h) in
    ap (λ b. (b, p.1)) body ∙ ap (λ x. (q.0, x)) e

some_first : {A : Type 0} (o other : Option A) → is_some o ≡ true → o ≡ or_then o other
some_first None other h = absurd cc
some_first (Some x) other h = refl

module _ (firsts : List (Place × ℕ)) (q : Place) (n : ℕ) where
  -- at a place that the table has, nothing is new
  kept : is_some (lookup (same_place q) firsts) ≡ true → (p : Place) → lookup (same_place p) firsts ≡ or_then (lookup (same_place p) firsts) (where_true (same_place p q) n)
  kept has p = by (same_place p q) refl
    where
      by : (b : Bool) → same_place p q ≡ b → lookup (same_place p) firsts ≡ or_then (lookup (same_place p) firsts) (where_true b n)
      by false e = sym (or_none (lookup (same_place p) firsts))
      by true e = some_first _ _ (subst (λ r. is_some (lookup (same_place r) firsts) ≡ true) (sym (places_agree p q e)) has)

  noted_is : (p : Place) → lookup (same_place p) (noted firsts (Some q) n) ≡ or_then (lookup (same_place p) firsts) (where_true (same_place p q) n)
  noted_is p = by (is_some (lookup (same_place q) firsts)) refl
    where
      by : (b : Bool) → is_some (lookup (same_place q) firsts) ≡ b → lookup (same_place p) (if b then firsts else firsts ++ (q, n) ∷ []) ≡ or_then (lookup (same_place p) firsts) (where_true (same_place p q) n)
      by true has = kept has p
      by false none = lookup_push (same_place p) firsts q n

pub firsts_push : (us : List CodeUnit) (u : CodeUnit) (firsts : List (Place × ℕ)) → AreFirst us firsts → AreFirst (us ++ u ∷ []) (noted firsts (place_of (body_after None us) u.heading) (length us))
firsts_push us u firsts are p = by (place_of (body_after None us) u.heading) ∙ sym (ap (first_at (is_at p)) (places_push None us u) ∙ first_push (is_at p) (places us) (place_of (body_after None us) u.heading) ∙ ap (λ k. or_then (first_at (is_at p) (places us)) (where_true (is_at p (place_of (body_after None us) u.heading)) k)) (length_places None us))
  where
    by : (q : Option Place) → lookup (same_place p) (noted firsts q (length us)) ≡ or_then (first_at (is_at p) (places us)) (where_true (is_at p q) (length us))
    by None = are p ∙ sym (or_none (first_at (is_at p) (places us)))
    by (Some q) = noted_is firsts q (length us) p ∙ ap (λ o. or_then o (where_true (same_place p q) (length us))) (are p)

-- ---- units by their numbers

abbrev pub value_at : {U : Type 0} → List U → Option ℕ → Option U
value_at us None = None
value_at us (Some i) = slice_get us i

value_suc : {U : Type 0} (u : U) (us : List U) (o : Option ℕ) → value_at (u ∷ us) (option_map suc o) ≡ value_at us o
value_suc u us None = refl
value_suc u us (Some i) = refl

pub first_value : (p : Option Place → Bool) (here : Option ℕ) (us : List CodeUnit) → value_at us (first_at p (keys_of (placed here us))) ≡ lookup p (placed here us)
first_value p here [] = refl
first_value p here (u ∷ us) = by (p (place_of here u.heading)) (first_value p (body_behind here u.heading) us)
  where
    rest : List (Option Place × CodeUnit)
    rest = placed (body_behind here u.heading) us

    by : (b : Bool) → value_at us (first_at p (keys_of rest)) ≡ lookup p rest → value_at (u ∷ us) (if b then Some 0 else option_map suc (first_at p (keys_of rest))) ≡ (if b then Some u else lookup p rest)
    by true e = refl
    by false e = value_suc u us (first_at p (keys_of rest)) ∙ e

-- what a table tells of a place is the first unit there
pub unit_found : (us : List CodeUnit) (firsts : List (Place × ℕ)) (body : ℕ) (e : Entry) (o : Option ℕ) → AreFirst us firsts → lookup (same_place (body, e)) firsts ≡ o → value_at us o ≡ unit_of us body e
unfolding unit_of
unit_found us firsts body e o are told = ap (value_at us) (sym told ∙ are (body, e)) ∙ first_value (is_at (body, e)) None us

-- what is kept of a code with one more unit
pub known_push : (us : List CodeUnit) (u : CodeUnit) (body : Option ℕ) (firsts : List (Place × ℕ)) (new : List CodeUnit) (behind : Option ℕ) (table : List (Place × ℕ)) → IsKnown us body firsts → new ≡ us ++ u ∷ [] → behind ≡ body_behind body u.heading → table ≡ noted firsts (place_of body u.heading) (length us) → IsKnown new behind table
known_push us u body firsts new behind table k pushed b t =
    let first : AreFirst (us ++ u ∷ []) (noted firsts (place_of body u.heading) (length us)) = subst (λ x. AreFirst (us ++ u ∷ []) (noted firsts (place_of x u.heading) (length us))) (sym k.behind) (firsts_push us u firsts k.first) in
    let known : IsKnown (us ++ u ∷ []) (body_behind body u.heading) (noted firsts (place_of body u.heading) (length us)) = record { behind = ap (λ x. body_behind x u.heading) k.behind ∙ sym (body_push None us u); first = first } in
    rw pushed (rw b (rw t known))

-- ---- the units one after another

module _ (p : Option Place → Bool) (here : Option ℕ) (us : List CodeUnit) (i : ℕ) (u : CodeUnit) (within : i < length us) (at : u ≡ get_or us i u) where
  opened : lookup p (placed here (drop i us)) ≡ (if p (place_of here u.heading) then Some u else lookup p (placed (body_behind here u.heading) (drop (i + 1) us)))
  opened =
      let front : drop i us ≡ u ∷ drop (i + 1) us = rw add-one (drop-cons us i u within ∙ ap (λ w. w ∷ drop (suc i) us) (sym at)) in
      ap (λ ws. lookup p (placed here ws)) front

  chosen : (b : Bool) → p (place_of here u.heading) ≡ b → lookup p (placed here (drop i us)) ≡ (if b then Some u else lookup p (placed (body_behind here u.heading) (drop (i + 1) us)))
  chosen b e = opened ∙ ap (λ c. if c then Some u else lookup p (placed (body_behind here u.heading) (drop (i + 1) us))) e

  -- the unit that stands there is the first one
  pub found_here : p (place_of here u.heading) ≡ true → lookup p (placed here (drop i us)) ≡ Some u
  found_here e = chosen true e

  -- another one is passed over
  pub passed_over : p (place_of here u.heading) ≡ false → lookup p (placed (body_behind here u.heading) (drop (i + 1) us)) ≡ lookup p (placed here (drop i us))
  passed_over e = sym (chosen false e)
