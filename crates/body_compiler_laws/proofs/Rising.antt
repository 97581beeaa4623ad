-- A code whose units stand in the order of the listing has none yet at the places that come.
use Rattle.std.proofs.Common.{◌≡◌, ◌∙◌, refl, ap, ℕ, ◌+◌, ◌<◌, ◌≤◌, Bool, true, false, nat_eq, List, [], ◌∷◌, ◌++◌, inl, inr, Option, Some, None, arith}
use Rattle.std.specs.Prelude.{◌⊎◌, ◌&&◌}
use Rattle.std.proofs.lemmas.Bool.Decides.{nat_tests}
use Rattle.body_code.specs.declared.unit.Entry.{Entry}
use Rattle.body_code.specs.declared.unit.Entry.TheVariants as entry
use Rattle.body_code.specs.declared.unit.Heading.{Heading}
use Rattle.body_code.specs.declared.unit.Heading.TheVariants as heading
use Rattle.body_code.specs.declared.unit.CodeUnit.{CodeUnit}
use Rattle.body_code.specs.Units.{entry_of, body_behind, same_entry, unit_of}
use Rattle.body_code.specs.Firsts.{body_after}
use Rattle.body_code.proofs.Finding.{body_push}
use Rattle.body_compiler_laws.specs.Order.{kind_of, number_of, IsFrom, IsOpen}
use Rattle.body_compiler_laws.proofs.Pushed.{heading_push, elsewhere, found_new}

same_number : (a b : ℕ) → nat_eq a b ≡ true → a ≡ b
same_number a b h = grind (arith, nat_tests)

other_number : (a b : ℕ) → b < a → nat_eq a b ≡ false
other_number a b h = grind (arith, nat_tests)

same_rank : (f e : Entry) → same_entry f e ≡ true → (kind_of f ≡ kind_of e) × (number_of f ≡ number_of e)
same_rank (entry.Routine k) (entry.Routine n) h = (refl, same_number k n h)
same_rank entry.Initialize entry.Initialize h = (refl, refl)
same_rank (entry.Guard k) (entry.Guard n) h = (refl, ap (λ i. i + i + i) (same_number k n h))
same_rank (entry.Delay k) (entry.Delay n) h = (refl, ap (λ i. i + i + i + 1) (same_number k n h))
same_rank (entry.Block k) (entry.Block n) h = (refl, ap (λ i. i + i + i + 2) (same_number k n h))
same_rank f e h = absurd (cc)

-- what comes behind an entry is another one
other_entry : (e f : Entry) → IsFrom (kind_of e) (number_of e + 1) f → same_entry f e ≡ false
other_entry e f h = by (same_entry f e) refl h
  where
    by : (b : Bool) → same_entry f e ≡ b → IsFrom (kind_of e) (number_of e + 1) f → same_entry f e ≡ false
    by false g h = g
    by true g (inl less) = absurd (omega (arith, less, (same_rank f e g).0))
    by true g (inr more) = absurd (omega (arith, more.1, (same_rank f e g).1))

still_from : (kind number : ℕ) (e f : Entry) → IsFrom kind number e → IsFrom (kind_of e) (number_of e + 1) f → IsFrom kind number f
still_from kind number e f (inl l) (inl m) = inl (omega (arith, l, m))
still_from kind number e f (inl l) (inr m) = inl (omega (arith, l, m.0))
still_from kind number e f (inr l) (inl m) = inl (omega (arith, l.0, m))
still_from kind number e f (inr l) (inr m) = inr (l.0 ∙ m.0, omega (arith, l.1, m.1))

-- a heading with an entry is no body's
stays_inside : (h : Heading) (e : Entry) (here : Option ℕ) → entry_of h ≡ Some e → body_behind here h ≡ here
stays_inside (heading.Body body name) e here is = absurd (cc)
stays_inside h e here is = refl

module _ (us : List CodeUnit) (u : CodeUnit) where
  no_entry : (next : ℕ) (name : List ℕ) → u.heading ≡ heading.Body next name → entry_of u.heading ≡ None
  no_entry next name is = ap entry_of is

  now_inside : (next : ℕ) (name : List ℕ) → u.heading ≡ heading.Body next name → body_after None (us ++ u ∷ []) ≡ Some next
  now_inside next name is = body_push None us u ∙ ap (body_behind (body_after None us)) is

  -- a later body begins
  pub open_body : (here kind number next : ℕ) (name : List ℕ) → IsOpen us here kind number → here < next → u.heading ≡ heading.Body next name → IsOpen (us ++ u ∷ []) next 0 0
  open_body here kind number next name free less is = record {
    inside = now_inside next name is;
    rest = λ e from. heading_push us u (no_entry next name is) next e ∙ free.later next e less;
    later = λ body e more. heading_push us u (no_entry next name is) body e ∙ free.later body e (omega (arith, less, more));
  }

  -- a unit comes: it is found, and what comes behind it is open
  module _ (here kind number : ℕ) (free : IsOpen us here kind number) (e : Entry) (is : entry_of u.heading ≡ Some e) (from : IsFrom kind number e) where
    pub open_found : unit_of (us ++ u ∷ []) here e ≡ Some u
    open_found = found_new us u here free.inside e is (free.rest e from)

    pub open_push : IsOpen (us ++ u ∷ []) here (kind_of e) (number_of e + 1)
    open_push = record {
      inside = body_push None us u ∙ stays_inside u.heading e (body_after None us) is ∙ free.inside;
      rest = λ f behind. elsewhere us u here free.inside e is here f (ap (λ b. nat_eq here here && b) (other_entry e f behind) ∙ none (nat_eq here here)) ∙ free.rest f (still_from kind number e f from behind);
      later = λ body f more. elsewhere us u here free.inside e is body f (ap (λ b. b && same_entry f e) (other_number body here more)) ∙ free.later body f more;
    }
      where
        none : (b : Bool) → (b && false) ≡ false
        none true = refl
        none false = refl

-- the first body begins
pub open_first : (u : CodeUnit) (body : ℕ) (name : List ℕ) → u.heading ≡ heading.Body body name → IsOpen (u ∷ []) body 0 0
unfolding unit_of
open_first u body name is = record {
  inside = now_inside [] u body name is;
  rest = λ e from. heading_push [] u (no_entry [] u body name is) body e;
  later = λ k e more. heading_push [] u (no_entry [] u body name is) k e;
}
