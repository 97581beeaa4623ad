-- Names with rising numbers, piece by piece.
use Rattle.std.proofs.Common.{◌≡◌, ◌∙◌, ℕ, ◌+◌, ◌<◌, List, [], ◌∷◌, ◌++◌, ap, sym, drop, get_or, length, arith, add-one, add-zero, suc, length-append}
use Rattle.std.specs.List.{flat_map}
use Rattle.estelle_tree.specs.declared.tree.name.Name.{Name}
use Rattle.estelle_model.specs.declared.meaning.Meaning.{Meaning}
use Rattle.estelle_model.specs.Meant.{Meanings}
use Rattle.estelle_model.specs.Denoted.{Declaration, declare, numbered, rising}
use Rattle.meaning_table.specs.Known.{Known, meanings_of, with_meaning, with_meanings, declare_all}
use Rattle.meaning_table.specs.declared.kinds.PlainKind.{PlainKind}
use Rattle.meaning_table.specs.Kinds.{plain_meaning, plainly}
use Rattle.meaning_table.proofs.Declarations.{meanings-nil, meanings-cons, declare-append, declare-cons, drop_next, numbered_rising}

-- names that have a number alone
pub plainly_rising : (kind : PlainKind) (n : ℕ) (xs : List Name) (known : Known) → declare_all known (numbered (plainly kind) n xs) ≡ with_meanings known (rising (plain_meaning kind) n xs)
plainly_rising kind n xs known = numbered_rising (plain_meaning kind) n xs known

pub ruleset numbering = (plainly_rising)

pub numbered-append : (says : ℕ → Meanings → Meaning) (n : ℕ) (xs ys : List Name) → numbered says n (xs ++ ys) ≡ numbered says n xs ++ numbered says (n + length xs) ys
numbered-append says n [] ys = ap (λ k. numbered says k ys) (sym (add-zero n))
numbered-append says n (x ∷ xs) ys =
    let shift : suc n + length xs ≡ n + suc (length xs) = omega arith in
    ap (λ ds. declare x (says n) ∷ ds) (numbered-append says (suc n) xs ys ∙ ap (λ k. numbered says (suc n) xs ++ numbered says k ys) shift)

-- the names of one more item
pub names_step : {A : Type 0} (says : ℕ → Meanings → Meaning) (f : A → List Name) (xs : List A) (i n : ℕ) (x : A) (known : Known) → i < length xs → x ≡ get_or xs i x
    → declare_all (declare_all known (numbered says n (f x))) (numbered says (n + length (f x)) (flat_map f (drop (i + 1) xs))) ≡ declare_all known (numbered says n (flat_map f (drop i xs)))
names_step says f xs i n x known h e =
    let rest = flat_map f (drop (i + 1) xs) in
    sym (declare-append known (numbered says n (f x)) (numbered says (n + length (f x)) rest))
    ∙ ap (declare_all known) (sym (numbered-append says n (f x) rest))
    ∙ ap (λ ys. declare_all known (numbered says n (flat_map f ys))) (sym (drop_next xs i x h e))

-- their number
pub items_count : {A B : Type 0} (f : A → List B) (xs : List A) (i : ℕ) (x : A) → i < length xs → x ≡ get_or xs i x → length (flat_map f (drop i xs)) ≡ length (f x) + length (flat_map f (drop (i + 1) xs))
items_count f xs i x h e = ap (λ ys. length (flat_map f ys)) (drop_next xs i x h e) ∙ length-append (f x) (flat_map f (drop (i + 1) xs))

-- one more name
pub name_step : (says : ℕ → Meanings → Meaning) (xs : List Name) (i n : ℕ) (x : Name) (known : Known) → i < length xs → x ≡ get_or xs i x
    → declare_all (with_meaning known x.span.start (says n (meanings_of known))) (numbered says (n + 1) (drop (i + 1) xs)) ≡ declare_all known (numbered says n (drop i xs))
name_step says xs i n x known h e =
    let d : Declaration = declare x (says n) in
    ap (λ k. declare_all (with_meaning known x.span.start (says n (meanings_of known))) (numbered says k (drop (i + 1) xs))) (add-one n)
    ∙ ap (λ k. declare_all k (numbered says (suc n) (drop (i + 1) xs))) (sym (meanings-cons known (x.span.start, says n (meanings_of known)) [] ∙ meanings-nil (with_meaning known x.span.start (says n (meanings_of known)))))
    ∙ sym (declare-cons known d (numbered says (suc n) (drop (i + 1) xs)))
    ∙ ap (λ ys. declare_all known (numbered says n ys)) (sym (drop_next xs i x h e))
