-- What is computed over all terminals holds of each.
use Rattle.std.proofs.Common.{◌≡◌, Bool, true, false, List, [], ◌∷◌, Option, Some, None, sym, refl, ap, ◌∙◌, inl, inr, ◌⊎◌}
use Rattle.std.specs.Prelude.{not, ◌&&◌, ◌||◌}
use Rattle.std.specs.List.{list_all}
use denote.Enum.Bare.{same_true, true_same}
use Rattle.estelle_tree.specs.contracts.kind.Kind.{the_type}
use Rattle.estelle_tree.specs.declared.kind.Kind.{Kind}
use Rattle.estelle_tree.specs.declared.kind.Kind.TheVariants as k
use Rattle.syntax_forms.specs.Kinds.{is, kinds, of_all, Apart}

pub is_it : (k other : Kind) → is k other ≡ true → other ≡ k
is_it k other e = same_true the_type tt other k e

pub it_is : (k other : Kind) → other ≡ k → is k other ≡ true
it_is k other e = true_same the_type other k e

pub is_not : (k other : Kind) → (other ≡ k → ⊥) → is k other ≡ false
is_not k other differs = go (is k other) refl
  where
    go : (b : Bool) → is k other ≡ b → b ≡ false
    go true e = absurd (differs (is_it k other e))
    go false e = refl

pub not_is : (k other : Kind) → is k other ≡ false → other ≡ k → ⊥
not_is k other e same = let no : true ≡ false = sym (it_is k other same) ∙ e in cc

-- ---- tests

pub both_of : (a b : Bool) → (a && b) ≡ true → (a ≡ true) × (b ≡ true)
both_of true b e = (refl, e)
both_of false b e = absurd (cc)

pub neither : (a b : Bool) → (a || b) ≡ false → (a ≡ false) × (b ≡ false)
neither true b e = absurd (cc)
neither false b e = (refl, e)

pub not_both : (a b : Bool) → not (a && b) ≡ true → a ≡ true → b ≡ true → ⊥
not_both true true e p q = cc
not_both true false e p q = cc
not_both false b e p q = cc

pub not_true : (b : Bool) → not b ≡ true → b ≡ false
not_true true e = absurd (cc)
not_true false e = refl

pub not_false : (b : Bool) → not b ≡ false → b ≡ true
not_false true e = refl
not_false false e = absurd (cc)

pub when : (a : Bool) → (a ≡ true → ⊥) → a ≡ false
when true not_so = absurd (not_so refl)
when false _ = refl

pub or_left : (a b : Bool) → a ≡ true → (a || b) ≡ true
or_left true b e = refl
or_left false b e = absurd (cc)

pub or_right : (a b : Bool) → b ≡ true → (a || b) ≡ true
or_right true b e = refl
or_right false b e = e

-- ---- all terminals

abbrev found : Kind → List Kind → Bool
found x [] = false
found x (k ∷ ks) = is k x || found x ks

each_of : (test : Kind → Bool) (ks : List Kind) (x : Kind) → list_all test ks ≡ true → found x ks ≡ true → test x ≡ true
each_of test [] x all there = absurd (cc)
each_of test (k ∷ ks) x all there = go (both_of (test k) (list_all test ks) all) (each_of test ks x) (is k x) refl there
  where
    go : (test k ≡ true) × (list_all test ks ≡ true) → (list_all test ks ≡ true → found x ks ≡ true → test x ≡ true) → (b : Bool) → is k x ≡ b → (b || found x ks) ≡ true → test x ≡ true
    go holds more true e there = ap test (is_it k x e) ∙ holds.0
    go holds more false e there = more holds.1 there

in_kinds : (x : Kind) → found x kinds ≡ true
in_kinds k.Nothing = refl
in_kinds _ = refl

pub each : (test : Kind → Bool) → of_all test ≡ true → (x : Kind) → test x ≡ true
each test all x = each_of test kinds x all (in_kinds x)

-- what meets the one does not meet the other
pub apart : (p q : Kind → Bool) → Apart p q → (x : Kind) → p x ≡ true → q x ≡ true → ⊥
apart p q all x = not_both (p x) (q x) (each (λ k. not (p k && q k)) all x)

-- what meets the one meets the other
pub within : (p q : Kind → Bool) → of_all (λ k. q k || not (p k)) ≡ true → (x : Kind) → p x ≡ true → q x ≡ true
within p q all x e = by (q x) (each (λ k. q k || not (p k)) all x)
  where
    by : (b : Bool) → (b || not (p x)) ≡ true → b ≡ true
    by true h = refl
    by false h = absurd (let no : not true ≡ true = ap not (sym e) ∙ h in cc)

-- a form goes on with this terminal alone
pub ends_but : (on : Kind → Bool) (last : Kind) → of_all (λ x. is last x || not (on x)) ≡ true → (x : Kind) → (x ≡ last → ⊥) → on x ≡ false
ends_but on last all x other = when (on x) (λ e. other (is_it last x (within on (is last) all x e)))

-- nothing goes on with it
pub ends_always : (on : Kind → Bool) → of_all (λ x. not (on x)) ≡ true → (x : Kind) → on x ≡ false
ends_always on all x = when (on x) (λ e. go (on x) (each (λ x. not (on x)) all x) e)
  where
    go : (b : Bool) → not b ≡ true → b ≡ true → ⊥
    go true h e = cc
    go false h e = cc

-- it goes on with these terminals alone
pub ends_by : (on goes : Kind → Bool) → of_all (λ x. goes x || not (on x)) ≡ true → (x : Kind) → goes x ≡ false → on x ≡ false
ends_by on goes all x end = when (on x) (λ e. let no : true ≡ false = sym (within on goes all x e) ∙ end in cc)

-- told from the other side: what a terminal is of
pub back_of : {O : Type 0} (of : Kind → Option O) (kinds : O → Kind) → ((x : Kind) → (of x ≡ None) ⊎ ((o : O) × (of x ≡ Some o) × (x ≡ kinds o))) → (x : Kind) (o : O) → of x ≡ Some o → x ≡ kinds o
back_of {O} of kinds told x o e = by (told x)
  where
    by : (of x ≡ None) ⊎ ((o : O) × (of x ≡ Some o) × (x ≡ kinds o)) → x ≡ kinds o
    by (inl n) = absurd (let no : None ≡ Some o = sym n ∙ e in cc)
    by (inr t) = t.2 ∙ ap kinds (let same : Some t.0 ≡ Some o = sym t.1 ∙ e in cc)

-- what holds of each terminal is computed over all of them
pub all_of : (test : Kind → Bool) → ((x : Kind) → test x ≡ true) → of_all test ≡ true
all_of test holds = go kinds
  where
    go : (ks : List Kind) → list_all test ks ≡ true
    go [] = refl
    go (x ∷ ks) = rw (holds x) (go ks)

-- what agrees on all terminals agrees on each
pub agree : (p q : Kind → Bool) → of_all (λ x. (p x && q x) || not (p x || q x)) ≡ true → (x : Kind) → p x ≡ q x
agree p q all x = by (p x) (q x) (each (λ x. (p x && q x) || not (p x || q x)) all x)
  where
    by : (a b : Bool) → ((a && b) || not (a || b)) ≡ true → a ≡ b
    by true true e = refl
    by false false e = refl
    by true false e = absurd (cc)
    by false true e = absurd (cc)
