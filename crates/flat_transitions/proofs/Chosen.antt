-- Choices that are put together clause by clause are all choices.
use Rattle.std.proofs.Common.{◌≡◌, ◌∙◌, ℕ, ◌+◌, ◌<◌, List, [], ◌∷◌, ◌++◌, length, get_or, take, map, ℤ, refl, ap, sym, append_assoc, append-nil}
use Rattle.std.specs.List.{flat_map}
use Rattle.std.proofs.lemmas.Grind.{flat_map-append}
use Rattle.std.proofs.lemmas.List.{map-append, take_more}
use Rattle.estelle_tree.specs.declared.tree.name.Name.{Name}
use Rattle.estelle_tree.specs.declared.tree.clause.AnyDom.{AnyDom}
use Rattle.estelle_model.specs.declared.denoter.Denoter.{Denoter}
use Rattle.estelle_model.specs.Meant.{Meanings}
use Rattle.estelle_model.specs.Transitions.{Choice, choice, choices, ordinals, names_of_domain}
use Rattle.flat_transitions.specs.Choices.{joined, names_in}

abbrev Choosing : Type 0
Choosing = List (List Choice)

abbrev put_before : List Choice → Choosing → Choosing
put_before p cs = map (λ c. p ++ c) cs

nothing_before : (cs : Choosing) → put_before [] cs ≡ cs
nothing_before [] = refl
nothing_before (c ∷ cs) = ap (λ ds. c ∷ ds) (nothing_before cs)

two_before : (p q : List Choice) (cs : Choosing) → put_before (p ++ q) cs ≡ put_before p (put_before q cs)
two_before p q [] = refl
two_before p q (c ∷ cs) = ap (λ d. d ∷ put_before (p ++ q) cs) (append_assoc p q c) ∙ ap (λ ds. (p ++ (q ++ c)) ∷ ds) (two_before p q cs)

joined_behind : (p : List Choice) (xs ys : Choosing) → joined (put_before p xs) ys ≡ put_before p (joined xs ys)
joined_behind p [] ys = refl
joined_behind p (x ∷ xs) ys =
    ap (λ cs. cs ++ joined (put_before p xs) ys) (two_before p x ys)
    ∙ ap (λ cs. put_before p (put_before x ys) ++ cs) (joined_behind p xs ys)
    ∙ sym (map-append (λ c. p ++ c) (put_before x ys) (joined xs ys))

pub joined_twice : (before xs ys : Choosing) → joined (joined before xs) ys ≡ joined before (joined xs ys)
joined_twice [] xs ys = refl
joined_twice (p ∷ before) xs ys =
    flat_map-append (λ c. put_before c ys) (put_before p xs) (joined before xs)
    ∙ ap (λ cs. cs ++ joined (joined before xs) ys) (joined_behind p xs ys)
    ∙ ap (λ cs. put_before p (joined xs ys) ++ cs) (joined_twice before xs ys)

pub joined_none : (before : Choosing) → before ≡ joined before ([] ∷ [])
joined_none [] = refl
joined_none (p ∷ before) = ap (λ ps. p ∷ ps) (joined_none before) ∙ ap (λ q. q ∷ joined before ([] ∷ [])) (sym (append-nil p))

-- with one more choice for the names before
pub joined_more : (before : Choosing) (i : ℕ) (p : List Choice) (xs made more : Choosing) → i < length before → p ≡ get_or before i p → made ≡ joined (take i before) xs → more ≡ made ++ put_before p xs → more ≡ joined (take (i + 1) before) xs
joined_more before i p xs made more h is so_far pushed =
    let next : take (i + 1) before ≡ take i before ++ p ∷ [] = take_more before i p h ∙ ap (λ q. take i before ++ q ∷ []) (sym is) in
    pushed
    ∙ ap (λ cs. cs ++ put_before p xs) so_far
    ∙ ap (λ cs. joined (take i before) xs ++ cs) (sym (append-nil (put_before p xs)))
    ∙ sym (flat_map-append (λ c. put_before c xs) (take i before) (p ∷ []))
    ∙ ap (λ ps. joined ps xs) (sym next)

pub none_joined : (cs : Choosing) → joined ([] ∷ []) cs ≡ cs
none_joined cs = append-nil (put_before [] cs) ∙ nothing_before cs

module _ (known : Meanings) where
  values_joined : (x : Name × Denoter) (ns : List ℤ) (xs ys : Choosing) → flat_map (λ n. map (λ c. choice known x.0 x.1 n ∷ c) (joined xs ys)) ns ≡ joined (flat_map (λ n. map (λ c. choice known x.0 x.1 n ∷ c) xs) ns) ys
  values_joined x [] xs ys = refl
  values_joined x (n ∷ ns) xs ys =
      let here = map (λ c. choice known x.0 x.1 n ∷ c) xs in
      let more = flat_map (λ k. map (λ c. choice known x.0 x.1 k ∷ c) xs) ns in
      ap (λ cs. cs ++ flat_map (λ k. map (λ c. choice known x.0 x.1 k ∷ c) (joined xs ys)) ns) (sym (joined_behind (choice known x.0 x.1 n ∷ []) xs ys))
      ∙ ap (λ cs. joined here ys ++ cs) (values_joined x ns xs ys)
      ∙ sym (flat_map-append (λ c. put_before c ys) here more)

  choices_append : (xs ys : List (Name × Denoter)) → choices known (xs ++ ys) ≡ joined (choices known xs) (choices known ys)
  choices_append [] ys = sym (none_joined (choices known ys))
  choices_append (x ∷ xs) ys =
      ap (λ cs. flat_map (λ n. map (λ c. choice known x.0 x.1 n ∷ c) cs) (ordinals known x.1)) (choices_append xs ys)
      ∙ values_joined x (ordinals known x.1) (choices known xs) (choices known ys)

  -- the names of two clauses, or of one and of all behind it
  pub choices_more : (before : Choosing) (ds es : List AnyDom) → joined (joined before (choices known (names_in known ds))) (choices known (names_in known es)) ≡ joined before (choices known (names_in known (ds ++ es)))
  choices_more before ds es =
      joined_twice before (choices known (names_in known ds)) (choices known (names_in known es))
      ∙ ap (joined before) (sym (choices_append (names_in known ds) (names_in known es)) ∙ ap (choices known) (sym (flat_map-append (names_of_domain known) ds es)))
