-- The routines that are gathered are the open ones.
use Rattle.std.proofs.Common.{◌≡◌, ◌↔◌, ℕ, ◌⊎◌, inl, inr, Bool, true, false, nat_eq, not, List, [], ◌∷◌, Option, Some, None, ap, ◌∙◌, sym, refl, subst, if◌then◌else◌, arith}
use Rattle.std.specs.List.{list_any}
use Rattle.indexmap.specs.IndexSet.{insert_key}
use Rattle.std.proofs.lemmas.Bool.Decides.{nat_tests}
use Rattle.std.proofs.lemmas.Option.{same_Some}
use Rattle.estelle_tree.specs.declared.span.Span.{Span}
use Rattle.scope_rules.specs.NameRules.{IsOne}
use Rattle.type_rules.specs.declared.sites.Site.{Site}
use Rattle.type_rules.specs.declared.sites.Site.TheVariants.{EstelleStatement, VariableNamed, RoutineCalled}
use Rattle.type_rules.specs.declared.sites.RoutineAt.{RoutineAt}
use Rattle.type_rules.specs.declared.sites.PlacedSite.{PlacedSite}
use Rattle.type_rules.specs.Routines.{stands_in, IsOpen}
use Rattle.type_rules.specs.Routines.IsOpen.{estelle, of_body, calls}
use Rattle.pascal_check.specs.declared.open_routines.Call.{Call}
use Rattle.pascal_check.specs.Opening.{opened_in, opened_by, called_at, call_from, call_in, with_opened, opened_after, caller_of, caller_at, callers_in, IsReached, Follows}
use Rattle.pascal_check.specs.Opening.IsReached.{first, further}
use Rattle.pascal_check.proofs.Members.{one_left, one_right, one_split, one_tested, tested, added_kept, added_all}

-- ---- what opens by itself

-- one of the sites opens this routine
record OpenedBySome (sites : List PlacedSite) (x : ℕ) : Type 0 where
  pub site : PlacedSite
  pub is_one : IsOne site sites
  pub opens : opened_by site ≡ Some x

with_kept : (ks : List ℕ) (o : Option ℕ) (x : ℕ) → IsOne x ks → IsOne x (with_opened ks o)
with_kept ks None x h = h
with_kept ks (Some r) x h = added_kept (r ∷ []) ks (insert_key nat_eq ks r) (added_all (r ∷ []) ks) x h

with_there : (ks : List ℕ) (o : Option ℕ) (x : ℕ) → o ≡ Some x → IsOne x (with_opened ks o)
with_there ks None x e = absurd cc
with_there ks (Some r) x e = let a = added_all (r ∷ []) ks in a.there x (inl cc)

with_only : (ks : List ℕ) (o : Option ℕ) (x : ℕ) → IsOne x (with_opened ks o) → IsOne x ks ⊎ (o ≡ Some x)
with_only ks None x h = inl h
with_only ks (Some r) x h = let a = added_all (r ∷ []) ks in elim (a.only x h) [ inl o ↦ inl o | inr q ↦ inr (elim q [ inl e ↦ ap Some (sym e) | inr n ↦ absurd n ]) ]

after_kept : (ks : List ℕ) (sites : List PlacedSite) (x : ℕ) → IsOne x ks → IsOne x (opened_after ks sites)
after_kept ks [] x h = h
after_kept ks (p ∷ ps) x h = after_kept (with_opened ks (opened_by p)) ps x (with_kept ks (opened_by p) x h)

after_there : (ks : List ℕ) (sites : List PlacedSite) (p : PlacedSite) (x : ℕ) → IsOne p sites → opened_by p ≡ Some x → IsOne x (opened_after ks sites)
after_there ks [] p x h e = absurd h
after_there ks (q ∷ ps) p x (inl s) e = after_kept (with_opened ks (opened_by q)) ps x (with_there ks (opened_by q) x (ap opened_by (sym s) ∙ e))
after_there ks (q ∷ ps) p x (inr h) e = after_there (with_opened ks (opened_by q)) ps p x h e

after_only : (ks : List ℕ) (sites : List PlacedSite) (x : ℕ) → IsOne x (opened_after ks sites) → IsOne x ks ⊎ OpenedBySome sites x
after_only ks [] x h = inl h
after_only ks (p ∷ ps) x h = elim (after_only (with_opened ks (opened_by p)) ps x h) [
  | inl w ↦ (elim (with_only ks (opened_by p) x w) [ inl k ↦ inl k | inr e ↦ inr (record { site = p; is_one = inl refl; opens = e }) ])
  | inr s ↦ inr (record { site = s.site; is_one = inr s.is_one; opens = s.opens })
]

-- ---- calls

record CalledBySome (sites : List PlacedSite) (x y : ℕ) : Type 0 where
  pub site : PlacedSite
  pub is_one : IsOne site sites
  pub call : call_in site ≡ Some (record { called = y; caller = x })

caller_only : (o : Option Call) (x y : ℕ) → IsOne x (caller_at o y) → o ≡ Some (record { called = y; caller = x })
caller_only None x y h = absurd h
caller_only (Some c) x y h = by (nat_eq c.called y) refl h
  where
    by : (b : Bool) → nat_eq c.called y ≡ b → IsOne x (if b then c.caller ∷ [] else []) → Some c ≡ Some (record { called = y; caller = x })
    by true e (inl s) = let t : c.called ≡ y = grind (arith, nat_tests) in ap Some (λ i. record { called = t i; caller = sym s i })
    by true e (inr n) = absurd n
    by false e n = absurd n

caller_there : (o : Option Call) (x y : ℕ) → o ≡ Some (record { called = y; caller = x }) → IsOne x (caller_at o y)
caller_there o x y e = subst (λ c. IsOne x (caller_at c y)) (sym e) (same x y)
  where
    same : (x y : ℕ) → IsOne x (caller_of (record { called = y; caller = x }) y)
    same x y = let t : nat_eq y y ≡ true = grind (arith, nat_tests) in rw t (inl refl)

callers_there : (sites : List PlacedSite) (p : PlacedSite) (x y : ℕ) → IsOne p sites → call_in p ≡ Some (record { called = y; caller = x }) → IsOne x (callers_in sites y)
callers_there [] p x y h e = absurd h
callers_there (q ∷ ps) p x y (inl s) e = one_left x (caller_at (call_in q) y) (callers_in ps y) (caller_there (call_in q) x y (ap call_in (sym s) ∙ e))
callers_there (q ∷ ps) p x y (inr h) e = one_right x (caller_at (call_in q) y) (callers_in ps y) (callers_there ps p x y h e)

callers_only : (sites : List PlacedSite) (x y : ℕ) → IsOne x (callers_in sites y) → CalledBySome sites x y
callers_only [] x y h = absurd h
callers_only (p ∷ ps) x y h = elim (one_split x (caller_at (call_in p) y) (callers_in ps y) h) [
  | inl c ↦ record { site = p; is_one = inl refl; call = caller_only (call_in p) x y c }
  | inr c ↦ (let s = callers_only ps x y c in record { site = s.site; is_one = inr s.is_one; call = s.call })
]

-- ---- open routines are the ones that are reached

opens_open : (sites : List PlacedSite) (p : PlacedSite) → IsOne p sites → (s : Site) (o : Option RoutineAt) (x : ℕ) → p.site ≡ s → p.place.routine ≡ o → opened_in s o ≡ Some x → IsOpen sites x
opens_open sites p h s None x e f g = absurd cc
opens_open sites p h (EstelleStatement at) (Some r) x e f g = let t : r.name.start ≡ x = cc in subst (IsOpen sites) t (estelle r at (record { placed = p; is_one = h; routine = f; site = e }))
opens_open sites p h (VariableNamed at None) (Some r) x e f g = absurd cc
opens_open sites p h (VariableNamed at (Some decl)) (Some r) x e f g = by (stands_in r.span decl) refl g
  where
    by : (b : Bool) → stands_in r.span decl ≡ b → (if not b then Some r.name.start else None) ≡ Some x → IsOpen sites x
    by true t k = absurd cc
    by false t k = let u : r.name.start ≡ x = cc in subst (IsOpen sites) u (of_body r at decl (record { placed = p; is_one = h; routine = f; site = e }) t)
opens_open sites p h s (Some r) x e f g = absurd cc

call_open : (sites : List PlacedSite) (p : PlacedSite) → IsOne p sites → (s : Site) (o : Option RoutineAt) (x y : ℕ) → p.site ≡ s → p.place.routine ≡ o → call_from (called_at s) o ≡ Some (record { called = y; caller = x }) → IsOpen sites y → IsOpen sites x
call_open sites p h s None x y e f g k = absurd cc
call_open sites p h (RoutineCalled at None body) (Some r) x y e f g k = absurd cc
call_open sites p h (RoutineCalled at (Some decl) body) (Some r) x y e f g k =
    let c = same_Some (record { called = decl.start; caller = r.name.start }) (record { called = y; caller = x }) g in
    let t : r.name.start ≡ x = ap (λ (w : Call). w.caller) c in
    let u : y ≡ decl.start = sym (ap (λ (w : Call). w.called) c) in
    subst (IsOpen sites) t (calls r at decl body (record { placed = p; is_one = h; routine = f; site = e }) (subst (IsOpen sites) u k))
call_open sites p h s (Some r) x y e f g k = absurd cc

reached_open : (callers : ℕ → List ℕ) (sites : List PlacedSite) → ((y : ℕ) → callers y ≡ callers_in sites y) → (x : ℕ) → IsReached callers (opened_after [] sites) x → IsOpen sites x
reached_open callers sites same _ (first x h) = elim (after_only [] sites x h) [ inl n ↦ absurd n | inr s ↦ opens_open sites s.site s.is_one s.site.site s.site.place.routine x refl refl s.opens ]
reached_open callers sites same _ (further x y r c) =
    let s = callers_only sites x y (subst (IsOne x) (same y) c) in
    call_open sites s.site s.is_one s.site.site s.site.place.routine x y refl refl s.call (reached_open callers sites same y r)

opened_estelle : (p : PlacedSite) (r : RoutineAt) (at : Span) → p.place.routine ≡ Some r → p.site ≡ EstelleStatement at → opened_by p ≡ Some r.name.start
opened_estelle p r at f e = ap (λ s. opened_in s p.place.routine) e ∙ ap (opened_in (EstelleStatement at)) f

opened_of_body : (p : PlacedSite) (r : RoutineAt) (at decl : Span) → p.place.routine ≡ Some r → p.site ≡ VariableNamed at (Some decl) → stands_in r.span decl ≡ false → opened_by p ≡ Some r.name.start
opened_of_body p r at decl f e t = ap (λ s. opened_in s p.place.routine) e ∙ ap (opened_in (VariableNamed at (Some decl))) f ∙ ap (λ b. if not b then Some r.name.start else None) t

called_in : (p : PlacedSite) (r : RoutineAt) (at decl : Span) (body : ℕ) → p.place.routine ≡ Some r → p.site ≡ RoutineCalled at (Some decl) body → call_in p ≡ Some (record { called = decl.start; caller = r.name.start })
called_in p r at decl body f e = ap (λ s. call_from (called_at s) p.place.routine) e ∙ ap (call_from (Some decl.start)) f

open_reached : (callers : ℕ → List ℕ) (sites : List PlacedSite) (all : List ℕ) → ((y : ℕ) → callers y ≡ callers_in sites y) → Follows callers (opened_after [] sites) all → (x : ℕ) → IsOpen sites x → IsOne x all
open_reached callers sites all same f _ (estelle r at w) = f.kept r.name.start (after_there [] sites w.placed r.name.start w.is_one (opened_estelle w.placed r at w.routine w.site))
open_reached callers sites all same f _ (of_body r at decl w t) = f.kept r.name.start (after_there [] sites w.placed r.name.start w.is_one (opened_of_body w.placed r at decl w.routine w.site t))
open_reached callers sites all same f _ (calls r at decl body w o) =
    f.followed r.name.start decl.start (open_reached callers sites all same f decl.start o)
    (subst (IsOne r.name.start) (sym (same decl.start)) (callers_there sites w.placed r.name.start decl.start w.is_one (called_in w.placed r at decl body w.routine w.site)))

-- a set of the routines that are reached says which are open
pub decides_open : (callers : ℕ → List ℕ) (sites : List PlacedSite) (all : List ℕ) → ((y : ℕ) → callers y ≡ callers_in sites y) → Follows callers (opened_after [] sites) all → (x : ℕ) → (list_any (nat_eq x) all ≡ true) ↔ IsOpen sites x
decides_open callers sites all same f x = (
  λ t. reached_open callers sites same x (f.reached x (one_tested x all t)),
  λ o. tested x all (open_reached callers sites all same f x o),
)
