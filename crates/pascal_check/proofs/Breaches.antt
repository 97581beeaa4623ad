-- What one site breaks, by its tests, is what it breaks by the rules; and the breach that is reported of all sites.
use Rattle.std.proofs.Common.{◌≡◌, ◌≢◌, ℕ, ◌<◌, ◌⊎◌, inl, inr, Bool, true, false, nat_eq, nat_lt, not, ◌||◌, ◌&&◌, List, [], ◌∷◌, Option, Some, None, ap, sym, refl, subst, arith}
use Rattle.std.specs.Prelude.{is_none, IfNone, IfSome}
use Rattle.std.proofs.lemmas.Bool.Decides.{nat_tests}
use Rattle.estelle_tree.specs.declared.span.Span.{Span}
use Rattle.scope_rules.specs.declared.refusal.Breach.{Breach}
use Rattle.scope_rules.specs.Least.{breach, only_if, is_before, noted, IsLeast, IsFirst}
use Rattle.scope_rules.specs.NameRules.{IsOne}
use Rattle.scope_rules.proofs.First.{before_self, first_noted, first_same, first_of_none, first_none, first_some}
use Rattle.type_rules.specs.declared.types.PascalType.{PascalType}
use Rattle.type_rules.specs.declared.types.Value.{Value}
use Rattle.type_rules.specs.declared.types.Denoted.{Denoted}
use Rattle.type_rules.specs.declared.sites.Operator.{Operator}
use Rattle.type_rules.specs.declared.sites.Access.{Access}
use Rattle.type_rules.specs.declared.sites.Access.TheVariants.{NoVariable, OwnVariable, OfChild}
use Rattle.type_rules.specs.declared.sites.Site.{Site}
use Rattle.type_rules.specs.declared.sites.Site.TheVariants.{Operation, Wants, ConstantAt, PriorityAt, CallOf, RoutineCalled, VariableNamed, ForVariable, VarFormal, Assigns, CallsProcedure, EstelleStatement, TypeAt, LabelAt, ResultAt, CountedBy}
use Rattle.type_rules.specs.declared.sites.Place.{Place}
use Rattle.type_rules.specs.declared.sites.PlacedSite.{PlacedSite}
use Rattle.type_rules.specs.Types.{gives, fails, same_type, is_of, is_ordinal}
use Rattle.type_rules.specs.Sites.{is_wanted}
use Rattle.type_rules.specs.Routines.{IsOpen}
use Rattle.type_rules.specs.PascalRules.{Both, TypesDoNotFit, OtherNumber, NotTheVariable, NoActualVariable, in_function, may_assign, HasEffect, NoType, LabelWrong, NoLabel, NoResult, NamesOpen, CallsOpen, NotCounted, Broken, SiteRuleBroken}
use Rattle.pascal_check.specs.Opening.{Decides}
use Rattle.pascal_check.specs.Faults.{both_pass, gives_nothing, is_no_actual, is_no_type, is_no_label, is_open, breach_at, first_after}

-- ---- a test, and a breach where it passes

made : (b : Breach) (n : ℕ) (at : Span) → b.number ≡ n → b.span ≡ at → b ≡ breach n at
made b n at r s = λ i. record { number = r i; span = s i }

first_if : (t : Bool) (n : ℕ) (at : Span) → IsFirst (λ b. (t ≡ true) × ((b.number ≡ n) × (b.span ≡ at))) (only_if t (breach n at))
first_if true n at = record {
  one = λ b e. let s : breach n at ≡ b = cc in (refl, (ap (λ x. x.number) (sym s), ap (λ x. x.span) (sym s)));
  all = λ c p. (breach n at, refl, subst (λ x. is_before x (breach n at) ≡ false) (sym (made c n at p.1.0 p.1.1)) (before_self (breach n at)));
}
first_if false n at = first_of_none (λ b. (false ≡ true) × ((b.number ≡ n) × (b.span ≡ at))) (λ b p. let e = p.0 in cc)

first_where : (P : Breach → Type 0) (t : Bool) (n : ℕ) (at : Span) → ((b : Breach) → t ≡ true → b.number ≡ n → b.span ≡ at → P b) → ((b : Breach) → P b → (t ≡ true) × ((b.number ≡ n) × (b.span ≡ at))) → IsFirst P (only_if t (breach n at))
first_where P t n at to from = first_same (λ b. (t ≡ true) × ((b.number ≡ n) × (b.span ≡ at))) P (only_if t (breach n at)) (λ b w. to b w.0 w.1.0 w.1.1) from (first_if t n at)

-- ---- tests

negates : (b : Bool) → b ≡ false → not b ≡ true
negates b e = rw e refl

negated : (b : Bool) → not b ≡ true → b ≡ false
negated true e = cc
negated false e = refl

or_left : (a b : Bool) → a ≡ true → (a || b) ≡ true
or_left a b e = rw e refl

or_right : (a b : Bool) → b ≡ true → (a || b) ≡ true
or_right true b e = refl
or_right false b e = e

or_split : (a b : Bool) → (a || b) ≡ true → (a ≡ true) ⊎ (b ≡ true)
or_split true b e = inl refl
or_split false b e = inr e

none_from : {A : Type 0} (o : Option A) → is_none o ≡ true → o ≡ None
none_from None e = refl
none_from (Some x) e = absurd cc

none_test : {A : Type 0} (o : Option A) → o ≡ None → is_none o ≡ true
none_test o e = ap is_none e

unequal : (m n : ℕ) → not (nat_eq m n) ≡ true → m ≢ n
unequal m n h e = grind (arith, nat_tests)

unequal_test : (m n : ℕ) → m ≢ n → not (nat_eq m n) ≡ true
unequal_test m n h = grind (arith, nat_tests)

below : (m n : ℕ) → nat_lt m n ≡ true → m < n
below m n h = grind (arith, nat_tests)

below_test : (m n : ℕ) → m < n → nat_lt m n ≡ true
below_test m n h = grind (arith, nat_tests)

both_from : (P : PascalType → PascalType → Type 0) (test : PascalType → PascalType → Bool) → ((u v : PascalType) → test u v ≡ true → P u v) → (x y : Option PascalType) → both_pass test x y ≡ true → Both P x y
both_from P test f None y e = absurd cc
both_from P test f (Some u) None e = absurd cc
both_from P test f (Some u) (Some v) e = f u v e

both_test : (P : PascalType → PascalType → Type 0) (test : PascalType → PascalType → Bool) → ((u v : PascalType) → P u v → test u v ≡ true) → (x y : Option PascalType) → Both P x y → both_pass test x y ≡ true
both_test P test f None y h = absurd h
both_test P test f (Some u) None h = absurd h
both_test P test f (Some u) (Some v) h = f u v h

gives_from : (o : Operator) (x y : Option PascalType) → gives_nothing o x y ≡ true → Both (λ u v. gives o u v ≡ None) x y
gives_from o x y e = both_from (λ u v. gives o u v ≡ None) (λ u v. is_none (gives o u v)) (λ u v. none_from (gives o u v)) x y e

gives_test : (o : Operator) (x y : Option PascalType) → Both (λ u v. gives o u v ≡ None) x y → gives_nothing o x y ≡ true
gives_test o x y h = both_test (λ u v. gives o u v ≡ None) (λ u v. is_none (gives o u v)) (λ u v. none_test (gives o u v)) x y h

actual_from : (u : Option PascalType) (a : Access) (v : Option PascalType) → is_no_actual u a v ≡ true → NotTheVariable u a v
actual_from u NoVariable v e = tt
actual_from u OfChild v e = tt
actual_from u OwnVariable v e = both_from (λ x y. same_type x y ≡ false) (λ x y. not (same_type x y)) (λ x y. negated (same_type x y)) u v e

actual_test : (u : Option PascalType) (a : Access) (v : Option PascalType) → NotTheVariable u a v → is_no_actual u a v ≡ true
actual_test u NoVariable v h = refl
actual_test u OfChild v h = refl
actual_test u OwnVariable v h = both_test (λ x y. same_type x y ≡ false) (λ x y. not (same_type x y)) (λ x y. negates (same_type x y)) u v h

type_from : (f : Bool) (d : Denoted) → is_no_type f d ≡ true → (f ≡ true) ⊎ ((65536 < d.simple_parts) ⊎ (200 < d.depth))
type_from f d e = elim (or_split f (nat_lt 65536 d.simple_parts || nat_lt 200 d.depth) e) [
  | inl t ↦ inl t
  | inr k ↦ inr (elim (or_split (nat_lt 65536 d.simple_parts) (nat_lt 200 d.depth) k) [ inl p ↦ inl (below 65536 d.simple_parts p) | inr q ↦ inr (below 200 d.depth q) ])
]

type_test : (f : Bool) (d : Denoted) → (f ≡ true) ⊎ ((65536 < d.simple_parts) ⊎ (200 < d.depth)) → is_no_type f d ≡ true
type_test f d (inl t) = or_left f (nat_lt 65536 d.simple_parts || nat_lt 200 d.depth) t
type_test f d (inr (inl p)) = or_right f (nat_lt 65536 d.simple_parts || nat_lt 200 d.depth) (or_left (nat_lt 65536 d.simple_parts) (nat_lt 200 d.depth) (below_test 65536 d.simple_parts p))
type_test f d (inr (inr q)) = or_right f (nat_lt 65536 d.simple_parts || nat_lt 200 d.depth) (or_right (nat_lt 65536 d.simple_parts) (nat_lt 200 d.depth) (below_test 200 d.depth q))

label_from : (selector : Option PascalType) (v : Option Value) (r : Bool) → is_no_label selector v r ≡ true → LabelWrong selector v r
label_from selector None r e = absurd cc
label_from selector (Some v) r e = or_split (fails (is_of v.host) selector) r e

label_test : (selector : Option PascalType) (v : Option Value) (r : Bool) → LabelWrong selector v r → is_no_label selector v r ≡ true
label_test selector None r h = absurd h
label_test selector (Some v) r (inl e) = or_left (fails (is_of v.host) selector) r e
label_test selector (Some v) r (inr e) = or_right (fails (is_of v.host) selector) r e

open_from : (sites : List PlacedSite) (opened : ℕ → Bool) → Decides opened (IsOpen sites) → (decl : Option Span) (called body : ℕ) → (is_open opened decl && not (nat_eq called body)) ≡ true → NamesOpen sites decl × (called ≢ body)
open_from sites opened d None called body e = absurd cc
open_from sites opened d (Some at) called body e = by (opened at.start) refl e
  where
    by : (b : Bool) → opened at.start ≡ b → (b && not (nat_eq called body)) ≡ true → IsOpen sites at.start × (called ≢ body)
    by true f g = let w = d at.start in (w.0 f, unequal called body g)
    by false f g = absurd cc

open_test : (sites : List PlacedSite) (opened : ℕ → Bool) → Decides opened (IsOpen sites) → (decl : Option Span) (called body : ℕ) → NamesOpen sites decl → called ≢ body → (is_open opened decl && not (nat_eq called body)) ≡ true
open_test sites opened d None called body h n = absurd h
open_test sites opened d (Some at) called body h n = let w = d at.start in rw (w.1 h) (unequal_test called body n)

-- ---- one site

abbrev site_at : Place → Site → PlacedSite
site_at place s = record { place = place; site = s }

-- a breach by the rule that it breaks
broken_cases : (sites : List PlacedSite) (p : PlacedSite) (b : Breach) (X : Type 0) → ((b.number ≡ 40) × TypesDoNotFit b.span p.site → X) → ((b.number ≡ 41) × OtherNumber b.span p.site → X) → ((b.number ≡ 42) × NoActualVariable b.span p.site → X)
    → ((b.number ≡ 43) × HasEffect b.span p.place.routine p.site → X) → ((b.number ≡ 44) × NoType b.span p.site → X) → ((b.number ≡ 45) × NoLabel b.span p.site → X)
    → ((b.number ≡ 46) × NoResult b.span p.site → X) → ((b.number ≡ 47) × CallsOpen sites b.span p.place.body p.site → X) → ((b.number ≡ 48) × NotCounted b.span p.site → X) → Broken sites p b → X
broken_cases sites p b X c40 c41 c42 c43 c44 c45 c46 c47 c48 (inl w) = c40 w
broken_cases sites p b X c40 c41 c42 c43 c44 c45 c46 c47 c48 (inr (inl w)) = c41 w
broken_cases sites p b X c40 c41 c42 c43 c44 c45 c46 c47 c48 (inr (inr (inl w))) = c42 w
broken_cases sites p b X c40 c41 c42 c43 c44 c45 c46 c47 c48 (inr (inr (inr (inl w)))) = c43 w
broken_cases sites p b X c40 c41 c42 c43 c44 c45 c46 c47 c48 (inr (inr (inr (inr (inl w))))) = c44 w
broken_cases sites p b X c40 c41 c42 c43 c44 c45 c46 c47 c48 (inr (inr (inr (inr (inr (inl w)))))) = c45 w
broken_cases sites p b X c40 c41 c42 c43 c44 c45 c46 c47 c48 (inr (inr (inr (inr (inr (inr (inl w))))))) = c46 w
broken_cases sites p b X c40 c41 c42 c43 c44 c45 c46 c47 c48 (inr (inr (inr (inr (inr (inr (inr (inl w)))))))) = c47 w
broken_cases sites p b X c40 c41 c42 c43 c44 c45 c46 c47 c48 (inr (inr (inr (inr (inr (inr (inr (inr w)))))))) = c48 w

-- a rule that does not speak of the site
no : {A X : Type 0} → A × ⊥ → X
no w = absurd w.1

site_first : (sites : List PlacedSite) (opened : ℕ → Bool) → Decides opened (IsOpen sites) → (place : Place) (s : Site) → IsFirst (Broken sites (site_at place s)) (breach_at opened place s)
site_first sites opened d place (Operation o x y) = first_where (Broken sites (site_at place (Operation o x y))) (gives_nothing o x.type_ y.type_) 40 x.at
    (λ b t n s. inl (n, (gives_from o x.type_ y.type_ t, s)))
    (λ b. broken_cases sites (site_at place (Operation o x y)) b _ (λ w. (gives_test o x.type_ y.type_ w.1.0, (w.0, w.1.1))) no no no no no no no no)
site_first sites opened d place (Wants wanted e) = first_where (Broken sites (site_at place (Wants wanted e))) (fails (is_wanted wanted) e.type_) 40 e.at
    (λ b t n s. inl (n, (t, s)))
    (λ b. broken_cases sites (site_at place (Wants wanted e)) b _ (λ w. (w.1.0, (w.0, w.1.1))) no no no no no no no no)
site_first sites opened d place (ConstantAt at v) = first_where (Broken sites (site_at place (ConstantAt at v))) (is_none v) 40 at
    (λ b t n s. inl (n, (none_from v t, s)))
    (λ b. broken_cases sites (site_at place (ConstantAt at v)) b _ (λ w. (none_test v w.1.0, (w.0, w.1.1))) no no no no no no no no)
site_first sites opened d place (PriorityAt at h) = first_where (Broken sites (site_at place (PriorityAt at h))) (is_none h) 40 at
    (λ b t n s. inl (n, (none_from h t, s)))
    (λ b. broken_cases sites (site_at place (PriorityAt at h)) b _ (λ w. (none_test h w.1.0, (w.0, w.1.1))) no no no no no no no no)
site_first sites opened d place (CallOf at parameters arguments) = first_where (Broken sites (site_at place (CallOf at parameters arguments))) (not (nat_eq parameters arguments)) 41 at
    (λ b t n s. inr (inl (n, (unequal parameters arguments t, s))))
    (λ b. broken_cases sites (site_at place (CallOf at parameters arguments)) b _ no (λ w. (unequal_test parameters arguments w.1.0, (w.0, w.1.1))) no no no no no no no)
site_first sites opened d place (ForVariable u e) = first_where (Broken sites (site_at place (ForVariable u e))) (is_no_actual u e.access e.type_) 42 e.at
    (λ b t n s. inr (inr (inl (n, (actual_from u e.access e.type_ t, s)))))
    (λ b. broken_cases sites (site_at place (ForVariable u e)) b _ no no (λ w. (actual_test u e.access e.type_ w.1.0, (w.0, w.1.1))) no no no no no no)
site_first sites opened d place (VarFormal at) = first_where (Broken sites (site_at place (VarFormal at))) (in_function place.routine) 43 at
    (λ b t n s. inr (inr (inr (inl (n, (t, s))))))
    (λ b. broken_cases sites (site_at place (VarFormal at)) b _ no no no (λ w. (w.1.0, (w.0, w.1.1))) no no no no no)
site_first sites opened d place (Assigns at declared is_function) = first_where (Broken sites (site_at place (Assigns at declared is_function))) (not (may_assign place.routine declared is_function)) 43 at
    (λ b t n s. inr (inr (inr (inl (n, (negated (may_assign place.routine declared is_function) t, s))))))
    (λ b. broken_cases sites (site_at place (Assigns at declared is_function)) b _ no no no (λ w. (negates (may_assign place.routine declared is_function) w.1.0, (w.0, w.1.1))) no no no no no)
site_first sites opened d place (CallsProcedure at) = first_where (Broken sites (site_at place (CallsProcedure at))) (in_function place.routine) 43 at
    (λ b t n s. inr (inr (inr (inl (n, (t, s))))))
    (λ b. broken_cases sites (site_at place (CallsProcedure at)) b _ no no no (λ w. (w.1.0, (w.0, w.1.1))) no no no no no)
site_first sites opened d place (EstelleStatement at) = first_where (Broken sites (site_at place (EstelleStatement at))) (in_function place.routine) 43 at
    (λ b t n s. inr (inr (inr (inl (n, (t, s))))))
    (λ b. broken_cases sites (site_at place (EstelleStatement at)) b _ no no no (λ w. (w.1.0, (w.0, w.1.1))) no no no no no)
site_first sites opened d place (TypeAt at f t) = first_where (Broken sites (site_at place (TypeAt at f t))) (is_no_type f t) 44 at
    (λ b e n s. inr (inr (inr (inr (inl (n, (type_from f t e, s)))))))
    (λ b. broken_cases sites (site_at place (TypeAt at f t)) b _ no no no no (λ w. (type_test f t w.1.0, (w.0, w.1.1))) no no no no)
site_first sites opened d place (LabelAt at selector v r) = first_where (Broken sites (site_at place (LabelAt at selector v r))) (is_no_label selector v r) 45 at
    (λ b t n s. inr (inr (inr (inr (inr (inl (n, (label_from selector v r t, s))))))))
    (λ b. broken_cases sites (site_at place (LabelAt at selector v r)) b _ no no no no no (λ w. (label_test selector v r w.1.0, (w.0, w.1.1))) no no no)
site_first sites opened d place (ResultAt at u) = first_where (Broken sites (site_at place (ResultAt at u))) (fails is_ordinal u) 46 at
    (λ b t n s. inr (inr (inr (inr (inr (inr (inl (n, (t, s)))))))))
    (λ b. broken_cases sites (site_at place (ResultAt at u)) b _ no no no no no no (λ w. (w.1.0, (w.0, w.1.1))) no no)
site_first sites opened d place (RoutineCalled at decl called) = first_where (Broken sites (site_at place (RoutineCalled at decl called))) (is_open opened decl && not (nat_eq called place.body)) 47 at
    (λ b t n s. let w = open_from sites opened d decl called place.body t in inr (inr (inr (inr (inr (inr (inr (inl (n, (w.0, w.1, s))))))))))
    (λ b. broken_cases sites (site_at place (RoutineCalled at decl called)) b _ no no no no no no no (λ w. (open_test sites opened d decl called place.body w.1.0 w.1.1, (w.0, w.1.2))) no)
site_first sites opened d place (CountedBy at u) = first_where (Broken sites (site_at place (CountedBy at u))) (fails is_ordinal u) 48 at
    (λ b t n s. inr (inr (inr (inr (inr (inr (inr (inr (n, (t, s))))))))))
    (λ b. broken_cases sites (site_at place (CountedBy at u)) b _ no no no no no no no no (λ w. (w.1.0, (w.0, w.1.1))))
site_first sites opened d place (VariableNamed at declared) = first_of_none (Broken sites (site_at place (VariableNamed at declared))) (λ b. broken_cases sites (site_at place (VariableNamed at declared)) b _ no no no no no no no no no)

-- ---- all sites

-- one of these breaks a rule, where the sites say which routines are open
abbrev BrokenBySome : List PlacedSite → List PlacedSite → Breach → Type 0
BrokenBySome sites some b = (p : PlacedSite) × (IsOne p some × Broken sites p b)

some_of : (sites : List PlacedSite) (p : PlacedSite) (ps : List PlacedSite) (b : Breach) → BrokenBySome sites (p ∷ ps) b → Broken sites p b ⊎ BrokenBySome sites ps b
some_of sites p ps b w = by w.1.0
  where
    by : (w.0 ≡ p) ⊎ IsOne w.0 ps → Broken sites p b ⊎ BrokenBySome sites ps b
    by (inl e) = inl (subst (λ q. Broken sites q b) e w.1.1)
    by (inr h) = inr (w.0, (h, w.1.1))

sites_first : (sites : List PlacedSite) (opened : ℕ → Bool) → Decides opened (IsOpen sites) → (P : Breach → Type 0) (first : Option Breach) (ps : List PlacedSite) → IsFirst P first → IsFirst (λ b. P b ⊎ BrokenBySome sites ps b) (first_after opened first ps)
sites_first sites opened d P first [] f = first_same P (λ b. P b ⊎ BrokenBySome sites [] b) first (λ b p. inl p) (λ b h. elim h [ inl p ↦ p | inr w ↦ absurd w.1.0 ]) f
sites_first sites opened d P first (p ∷ ps) f =
    let one = first_noted P (Broken sites p) first (breach_at opened p.place p.site) f (site_first sites opened d p.place p.site) in
    let rest = sites_first sites opened d (λ b. P b ⊎ Broken sites p b) (noted first (breach_at opened p.place p.site)) ps one in
    first_same (λ b. (P b ⊎ Broken sites p b) ⊎ BrokenBySome sites ps b) (λ b. P b ⊎ BrokenBySome sites (p ∷ ps) b) (first_after opened (noted first (breach_at opened p.place p.site)) ps)
    (λ b h. elim h [ inl q ↦ (elim q [ inl e ↦ inl e | inr k ↦ inr (p, (inl refl, k)) ]) | inr w ↦ inr (w.0, (inr w.1.0, w.1.1)) ])
    (λ b h. elim h [ inl q ↦ inl (inl q) | inr w ↦ (elim (some_of sites p ps b w) [ inl k ↦ inl (inr k) | inr m ↦ inr m ]) ])
    rest

-- what is found is reported of all that is broken
pub all_first : (sites : List PlacedSite) (opened : ℕ → Bool) → Decides opened (IsOpen sites) → IsFirst (SiteRuleBroken sites) (first_after opened None sites)
all_first sites opened d = first_same (λ b. ⊥ ⊎ BrokenBySome sites sites b) (SiteRuleBroken sites) (first_after opened None sites)
    (λ b h. elim h [ inl n ↦ absurd n | inr w ↦ w ])
    (λ b w. inr w)
    (sites_first sites opened d (λ b. ⊥) None sites (first_of_none (λ b. ⊥) (λ b n. n)))

-- where nothing is found, nothing is broken
pub all_kept : (sites : List PlacedSite) (opened : ℕ → Bool) → Decides opened (IsOpen sites) → (found : Option Breach) → first_after opened None sites ≡ found → IfNone found ((b : Breach) → SiteRuleBroken sites b → ⊥)
all_kept sites opened d None e = first_none (SiteRuleBroken sites) (first_after opened None sites) e (all_first sites opened d)
all_kept sites opened d (Some b) e = tt

-- what is found is the least
pub all_found : (sites : List PlacedSite) (opened : ℕ → Bool) → Decides opened (IsOpen sites) → (found : Option Breach) → first_after opened None sites ≡ found → IfSome found (IsLeast (SiteRuleBroken sites))
all_found sites opened d None e = tt
all_found sites opened d (Some b) e = first_some (SiteRuleBroken sites) (first_after opened None sites) b e (all_first sites opened d)
