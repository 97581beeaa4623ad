-- Arguments are taken from the last one on.
use Rattle.std.proofs.Common.{◌≡◌, ◌∙◌, sym, ap, ℕ, suc, ◌<◌, ◌≤◌, ◌+◌, ◌-◌, ◌++◌, List, [], ◌∷◌, length, map as each, take, drop, reverse, get_or, append_assoc, add-one, arith}
use Rattle.std.proofs.Math.Seq.{drop-cons}
use Rattle.std.proofs.lemmas.List.{reverse-append, take_all, length-take-le, get_or-take}
use Rattle.body_kinds.specs.Kinds.{Kind}
use Rattle.body_unit_kinds.specs.declared.kind.Kind as code
use Rattle.body_unit_kinds.specs.Seen.{meant, stack_of}

pub one_more : {A : Type 0} (f : A → Kind) (xs : List A) (i : ℕ) (x : A) (ks below : List Kind) → i < length xs → get_or xs i x ≡ x → ks ≡ reverse (each f (drop (i + 1) xs)) ++ f x ∷ below → ks ≡ reverse (each f (drop i xs)) ++ below
one_more f xs i x ks below less is e =
    let cut : drop i xs ≡ x ∷ drop (suc i) xs = drop-cons xs i x less ∙ ap (λ y. y ∷ drop (suc i) xs) is in
    let back : reverse (each f (drop i xs)) ≡ reverse (each f (drop (suc i) xs)) ++ f x ∷ [] = ap (λ ys. reverse (each f ys)) cut ∙ reverse-append (f x ∷ []) (each f (drop (suc i) xs)) in
    let e' : ks ≡ reverse (each f (drop (suc i) xs)) ++ f x ∷ below = rw add-one at e in
    e' ∙ sym (append_assoc (reverse (each f (drop (suc i) xs))) (f x ∷ []) below) ∙ ap (λ ys. ys ++ below) (sym back)

-- the next one stands on top of what is left
pub taken : {A : Type 0} (f : A → Kind) (xs : List A) (left : ℕ) (x : A) (top : code.Kind) (ks : List Kind) (rest : List code.Kind) → 0 < left → left ≤ length xs → get_or xs (left - 1) x ≡ x → 1 ≤ length rest → get_or rest 0 top ≡ top → meant top ≡ f x
    → ks ≡ reverse (each f (drop left xs)) ++ stack_of rest → ks ≡ reverse (each f (drop (left - 1) xs)) ++ stack_of (take (length rest - 1) (drop 1 rest))
taken f xs left x top ks [] some within is more at same e = absurd (let m : 1 ≤ length {A = code.Kind} [] = more in omega (arith, m))
taken f xs left x top ks (y ∷ ys) some within is more at same e =
    let s : 0 < left = some in
    let w : left ≤ length xs = within in
    let back : left - 1 + 1 ≡ left = omega (arith, s) in
    let less : left - 1 < length xs = omega (arith, s, w) in
    let enough : length ys ≤ length (y ∷ ys) - 1 = omega arith in
    let first : meant y ≡ f x = ap meant at ∙ same in
    let cut : take (length (y ∷ ys) - 1) (drop 1 (y ∷ ys)) ≡ ys = take_all (length (y ∷ ys) - 1) ys enough in
    let stood : ks ≡ reverse (each f (drop (left - 1 + 1) xs)) ++ f x ∷ stack_of ys =
    e ∙ ap (λ k. reverse (each f (drop left xs)) ++ k ∷ stack_of ys) first ∙ ap (λ m. reverse (each f (drop m xs)) ++ f x ∷ stack_of ys) (sym back) in
    one_more f xs (left - 1) x ks (stack_of ys) less is stood ∙ ap (λ zs. reverse (each f (drop (left - 1) xs)) ++ stack_of zs) (sym cut)

-- the same of the first ones
pub given_taken : {A : Type 0} (f : A → Kind) (count : ℕ) (xs : List A) (left : ℕ) (x : A) (top : code.Kind) (ks : List Kind) (rest : List code.Kind) → count ≤ length xs → 0 < left → left ≤ count → x ≡ get_or xs (left - 1) x → 1 ≤ length rest
    → top ≡ get_or rest 0 top → meant top ≡ f x → ks ≡ reverse (each f (drop left (take count xs))) ++ stack_of rest → ks ≡ reverse (each f (drop (left - 1) (take count xs))) ++ stack_of (take (length rest - 1) (drop 1 rest))
given_taken f count xs left x top ks rest fits some within is more at same e =
    let s : 0 < left = some in
    let w : left ≤ count = within in
    let long : length (take count xs) ≡ count = length-take-le count xs fits in
    let inside : left ≤ length (take count xs) = omega (arith, w, long) in
    let less : left - 1 < count = omega (arith, s, w) in
    taken f (take count xs) left x top ks rest some inside (get_or-take count xs (left - 1) x less ∙ sym is) more (sym at) same e
