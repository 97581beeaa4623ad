-- Members of lists, and of the sets of their items.
use Rattle.std.proofs.Common.{◌≡◌, ◌∙◌, ℕ, Bool, true, false, nat_eq, cond, ◌||◌, List, [], ◌∷◌, ◌++◌, refl, ap, sym, subst, arith, append_assoc, append-nil}
use Rattle.std.specs.List.{list_any, flat_map}
use Rattle.std.proofs.lemmas.Bool.Decides.{nat_tests}
use Rattle.std.proofs.lemmas.List.Folds.{list_any-append}
use Rattle.indexmap.specs.IndexSet.{insert_key, insert_all}

or_assoc : (a b c : Bool) → ((a || b) || c) ≡ (a || (b || c))
or_assoc true b c = refl
or_assoc false b c = refl

or_false : (a : Bool) → (a || false) ≡ a
or_false true = refl
or_false false = refl

absorbed : (a b : Bool) → (b ≡ true → a ≡ true) → a ≡ (a || b)
absorbed true b h = refl
absorbed false true h = h refl
absorbed false false h = refl

-- what is equal to a member is one
known_there : (n k : ℕ) (ks : List ℕ) → list_any (nat_eq k) ks ≡ true → nat_eq n k ≡ true → list_any (nat_eq n) ks ≡ true
known_there n k ks there same = let e : k ≡ n = grind (arith, nat_tests) in subst (λ m. list_any (nat_eq m) ks ≡ true) e there

-- one more key
one_more : (n k : ℕ) (ks : List ℕ) → list_any (nat_eq n) (insert_key nat_eq ks k) ≡ (list_any (nat_eq n) ks || nat_eq n k)
one_more n k ks = by (list_any (nat_eq k) ks) refl
  where
    by : (b : Bool) → list_any (nat_eq k) ks ≡ b → list_any (nat_eq n) (cond b ks (ks ++ k ∷ [])) ≡ (list_any (nat_eq n) ks || nat_eq n k)
    by true e = absorbed (list_any (nat_eq n) ks) (nat_eq n k) (known_there n k ks e)
    by false e = list_any-append (nat_eq n) ks (k ∷ []) ∙ ap (λ b. list_any (nat_eq n) ks || b) (or_false (nat_eq n k))

more_keys : (n : ℕ) (xs ks : List ℕ) → list_any (nat_eq n) (insert_all nat_eq ks xs) ≡ (list_any (nat_eq n) ks || list_any (nat_eq n) xs)
more_keys n [] ks = sym (or_false (list_any (nat_eq n) ks))
more_keys n (x ∷ xs) ks =
    more_keys n xs (insert_key nat_eq ks x)
    ∙ ap (λ b. b || list_any (nat_eq n) xs) (one_more n x ks)
    ∙ or_assoc (list_any (nat_eq n) ks) (nat_eq n x) (list_any (nat_eq n) xs)

-- the set of items has the same members
pub same_members : (n : ℕ) (xs : List ℕ) → list_any (nat_eq n) (insert_all nat_eq [] xs) ≡ list_any (nat_eq n) xs
same_members n xs = more_keys n xs []

-- lists put together
pub any_of_lists : (n : ℕ) (xs : List (List ℕ)) → list_any (nat_eq n) (flat_map (λ x. x) xs) ≡ list_any (list_any (nat_eq n)) xs
any_of_lists n [] = refl
any_of_lists n (x ∷ xs) = list_any-append (nat_eq n) x (flat_map (λ y. y) xs) ∙ ap (λ b. list_any (nat_eq n) x || b) (any_of_lists n xs)

pub ruleset members = (same_members, any_of_lists, append_assoc, append-nil)
