-- What is known behind some declarations, piece by piece.
use Rattle.std.proofs.Common.{◌≡◌, ◌∙◌, ℕ, ◌+◌, ◌<◌, ◌≤◌, List, [], ◌∷◌, ◌++◌, refl, ap, sym, take, drop, get_or, length, map, arith, add-one, add-zero, add-suc, add_assoc, zero-add, zero, suc}
use Rattle.std.specs.Prelude.{fold}
use Rattle.std.specs.List.{flat_map}
use Rattle.estelle_tree.specs.declared.names.Use.{Use}
use Rattle.estelle_tree.specs.declared.tree.name.Name.{Name}
use Rattle.estelle_model.specs.declared.denoter.Denoter.{Denoter}
use Rattle.estelle_model.specs.declared.meaning.Meaning.{Meaning}
use Rattle.estelle_model.specs.Meant.{Meanings}
use Rattle.estelle_model.specs.Denoted.{Declaration, Declarations, Section, numbered, rising, section_names, sections_declare, count_names}
use Rattle.estelle_model.specs.Names.{Declared, with_one}
use Rattle.meaning_table.specs.Known.{Known, meanings_of, with_meaning, with_meanings, declare_all}
use Rattle.meaning_table.specs.declared.kinds.VariableKind.{VariableKind}
use Rattle.meaning_table.specs.Kinds.{variable_meaning, numbered_behind, variables}
use Rattle.meaning_table.proofs.Chains.{chain_more, chain_map_more, map_more}

-- ---- meanings that are declared together

pub meanings-nil : (known : Known) → with_meanings known [] ≡ known
unfolding with_meanings
meanings-nil known = refl

pub meanings-cons : (known : Known) (m : ℕ × Meaning) (ms : List (ℕ × Meaning)) → with_meanings known (m ∷ ms) ≡ with_meanings (with_meaning known m.0 m.1) ms
unfolding with_meanings
meanings-cons known m ms = refl

together : (names : List Use) (known : Declared) (ms : List (ℕ × Meaning)) → with_meanings (record { names = names; declared = known }) ms ≡ record { names = names; declared = fold (λ k e. e ∷ k) known ms }
unfolding with_meanings
together names known [] = refl
together names known (m ∷ ms) = together names (m ∷ known) ms

-- ---- declarations

pub declare-nil : (known : Known) → declare_all known [] ≡ known
unfolding declare_all
declare-nil known = refl

pub declare-one : (known : Known) (d : Declaration) → declare_all known (d ∷ []) ≡ with_meanings known (d.says (meanings_of known))
unfolding declare_all
declare-one known d = sym (together known.names known.declared (d.says (meanings_of known)))

pub declare-append : (known : Known) (ds es : Declarations) → declare_all known (ds ++ es) ≡ declare_all (declare_all known ds) es
unfolding declare_all
declare-append known [] es = refl
declare-append known (d ∷ ds) es = declare-append (record { names = known.names; declared = with_one known.names known.declared d }) ds es

pub declare-cons : (known : Known) (d : Declaration) (ds : Declarations) → declare_all known (d ∷ ds) ≡ declare_all (with_meanings known (d.says (meanings_of known))) ds
declare-cons known d ds = declare-append known (d ∷ []) ds ∙ ap (λ k. declare_all k ds) (declare-one known d)

pub ruleset declaring = (meanings-nil, meanings-cons, declare-nil, declare-one, declare-append)

-- one more of a chain
pub declared_more : {A : Type 0} (f : A → Declarations) (xs : List A) (i : ℕ) (x : A) (known : Known) → i < length xs → x ≡ get_or xs i x → declare_all known (flat_map f (take (i + 1) xs)) ≡ declare_all (declare_all known (flat_map f (take i xs))) (f x)
declared_more f xs i x known h e = ap (declare_all known) (chain_more f xs i x h e) ∙ declare-append known (flat_map f (take i xs)) (f x)

-- ---- names with rising numbers

next_in : {A : Type 0} (xs : List A) (i : ℕ) (x : A) → i < length xs → x ≡ get_or xs i x → drop i xs ≡ x ∷ drop (suc i) xs
next_in [] i x h e = absurd (omega arith)
next_in (y ∷ ys) zero x h e = ap (λ z. z ∷ ys) (sym e)
next_in (y ∷ ys) (suc i) x h e = next_in ys i x (omega arith) e

-- the rest of a list begins with the next item
pub drop_next : {A : Type 0} (xs : List A) (i : ℕ) (x : A) → i < length xs → x ≡ get_or xs i x → drop i xs ≡ x ∷ drop (i + 1) xs
drop_next xs i x h e = rw add-one (next_in xs i x h e)

-- behind the end nothing is left
pub drop_end : {A : Type 0} (xs : List A) (i : ℕ) → length xs ≤ i → drop i xs ≡ []
drop_end [] zero h = refl
drop_end [] (suc i) h = refl
drop_end (y ∷ ys) zero h = absurd (omega arith)
drop_end (y ∷ ys) (suc i) h = drop_end ys i (omega arith)

-- one more name
pub rising_step : (mean : ℕ → Meaning) (xs : List Name) (i n : ℕ) (x : Name) (known : Known) → i < length xs → x ≡ get_or xs i x → with_meanings (with_meaning known x.span.start (mean n)) (rising mean (n + 1) (drop (i + 1) xs)) ≡ with_meanings known (rising mean n (drop i xs))
rising_step mean xs i n x known h e =
    ap (λ k. with_meanings (with_meaning known x.span.start (mean n)) (rising mean k (drop (i + 1) xs))) (add-one n)
    ∙ sym (meanings-cons known (x.span.start, mean n) (rising mean (suc n) (drop (i + 1) xs)))
    ∙ ap (λ ys. with_meanings known (rising mean n ys)) (sym (drop_next xs i x h e))

-- names that are declared one by one, where what is known does not matter
pub numbered_rising : (mean : ℕ → Meaning) (n : ℕ) (xs : List Name) (known : Known) → declare_all known (numbered (λ k m. mean k) n xs) ≡ with_meanings known (rising mean n xs)
numbered_rising mean n [] known = declare-nil known ∙ sym (meanings-nil known)
numbered_rising mean n (x ∷ xs) known =
    declare-cons known (record { says = λ m. (x.span.start, mean n) ∷ [] }) (numbered (λ k m. mean k) (suc n) xs)
    ∙ ap (λ k. declare_all k (numbered (λ k m. mean k) (suc n) xs)) (meanings-cons known (x.span.start, mean n) [] ∙ meanings-nil (with_meaning known x.span.start (mean n)))
    ∙ numbered_rising mean (suc n) xs (with_meaning known x.span.start (mean n))
    ∙ sym (meanings-cons known (x.span.start, mean n) (rising mean (suc n) xs))

-- ---- sections

-- one more of a chain over what the items stand for
pub declared_map_more : {A B : Type 0} (f : B → Declarations) (g : A → B) (xs : List A) (i : ℕ) (x : A) (known : Known) → i < length xs → x ≡ get_or xs i x → declare_all known (flat_map f (map g (take (i + 1) xs))) ≡ declare_all (declare_all known (flat_map f (map g (take i xs)))) (f (g x))
declared_map_more f g xs i x known h e = ap (declare_all known) (chain_map_more f g xs i x h e) ∙ declare-append known (flat_map f (map g (take i xs))) (f (g x))

-- the names of one more section
pub section_step : {A : Type 0} (mean : Meanings → ℕ → Denoter → Meaning) (g : A → Section) (xs : List A) (i n : ℕ) (x : A) (known : Known) → i < length xs → x ≡ get_or xs i x
    → declare_all (with_meanings known (rising (λ k. mean (meanings_of known) k ((g x).1.denotes (meanings_of known))) n (g x).0)) (sections_declare mean (n + length (g x).0) (map g (drop (i + 1) xs)))
    ≡ declare_all known (sections_declare mean n (map g (drop i xs)))
section_step mean g xs i n x known h e =
    sym (declare-cons known (section_names mean n (g x)) (sections_declare mean (n + length (g x).0) (map g (drop (i + 1) xs))))
    ∙ ap (λ ys. declare_all known (sections_declare mean n (map g ys))) (sym (drop_next xs i x h e))

-- ---- variables behind others

rising_shifted : (mean : ℕ → Meaning) (b n : ℕ) (xs : List Name) → rising (λ k. mean (b + k)) n xs ≡ rising mean (b + n) xs
rising_shifted mean b n [] = refl
rising_shifted mean b n (x ∷ xs) = ap (λ ms. (x.span.start, mean (b + n)) ∷ ms) (rising_shifted mean b (suc n) xs ∙ ap (λ k. rising mean k xs) (add-suc b n))

-- one section behind others
pub section_behind : (kind : VariableKind) (base : Meanings → ℕ) (n : ℕ) (s : Section) (known : Known)
    → declare_all known (section_names (numbered_behind kind base) n s ∷ []) ≡ with_meanings known (rising (variable_meaning kind (s.1.denotes (meanings_of known))) (base (meanings_of known) + n) s.0)
section_behind kind base n s known =
    declare-one known (section_names (numbered_behind kind base) n s)
    ∙ ap (with_meanings known) (rising_shifted (variable_meaning kind (s.1.denotes (meanings_of known))) (base (meanings_of known)) n s.0)

-- where there is none before them
pub sections_alone : (kind : VariableKind) (n : ℕ) (ss : List Section) (known : Known) → declare_all known (sections_declare (numbered_behind kind (λ m. 0)) n ss) ≡ declare_all known (sections_declare (variables kind) n ss)
sections_alone kind n [] known = refl
sections_alone kind n (s ∷ ss) known =
    let first = section_behind kind (λ m. 0) n s known ∙ ap (λ k. with_meanings known (rising (variable_meaning kind (s.1.denotes (meanings_of known))) k s.0)) (zero-add n) in
    declare-append known (section_names (numbered_behind kind (λ m. 0)) n s ∷ []) (sections_declare (numbered_behind kind (λ m. 0)) (n + length s.0) ss)
    ∙ ap (λ k. declare_all k (sections_declare (numbered_behind kind (λ m. 0)) (n + length s.0) ss)) first
    ∙ sections_alone kind (n + length s.0) ss (with_meanings known (rising (variable_meaning kind (s.1.denotes (meanings_of known))) n s.0))
    ∙ sym (declare-cons known (section_names (variables kind) n s) (sections_declare (variables kind) (n + length s.0) ss))

-- how many names sections have
pub count-append : (ss ts : List Section) → count_names (ss ++ ts) ≡ count_names ss + count_names ts
count-append [] ts = sym (zero-add (count_names ts))
count-append (s ∷ ss) ts = omega (arith, count-append ss ts)

-- sections one after another
pub sections-append : (mean : Meanings → ℕ → Denoter → Meaning) (n : ℕ) (ss ts : List Section) → sections_declare mean n (ss ++ ts) ≡ sections_declare mean n ss ++ sections_declare mean (n + count_names ss) ts
sections-append mean n [] ts = ap (λ k. sections_declare mean k ts) (sym (add-zero n))
sections-append mean n (s ∷ ss) ts =
    ap (λ ds. section_names mean n s ∷ ds) (sections-append mean (n + length s.0) ss ts ∙ ap (λ k. sections_declare mean (n + length s.0) ss ++ sections_declare mean k ts) (add_assoc n (length s.0) (count_names ss)))

-- ---- sections that items bring

-- the sections of one more item
pub chain_step : {A : Type 0} (mean : Meanings → ℕ → Denoter → Meaning) (f : A → List Section) (xs : List A) (i n : ℕ) (x : A) (known : Known) → i < length xs → x ≡ get_or xs i x
    → declare_all (declare_all known (sections_declare mean n (f x))) (sections_declare mean (n + count_names (f x)) (flat_map f (drop (i + 1) xs))) ≡ declare_all known (sections_declare mean n (flat_map f (drop i xs)))
chain_step mean f xs i n x known h e =
    let rest = flat_map f (drop (i + 1) xs) in
    sym (declare-append known (sections_declare mean n (f x)) (sections_declare mean (n + count_names (f x)) rest))
    ∙ ap (declare_all known) (sym (sections-append mean n (f x) rest))
    ∙ ap (λ ys. declare_all known (sections_declare mean n (flat_map f ys))) (sym (drop_next xs i x h e))

-- their number of names
pub chain_count : {A : Type 0} (f : A → List Section) (xs : List A) (i : ℕ) (x : A) → i < length xs → x ≡ get_or xs i x → count_names (flat_map f (drop i xs)) ≡ count_names (f x) + count_names (flat_map f (drop (i + 1) xs))
chain_count f xs i x h e = ap (λ ys. count_names (flat_map f ys)) (drop_next xs i x h e) ∙ count-append (f x) (flat_map f (drop (i + 1) xs))

-- one more item that declares one thing
pub declared_one_more : {A : Type 0} (f : A → Declaration) (xs : List A) (i : ℕ) (x : A) (known : Known) → i < length xs → x ≡ get_or xs i x → declare_all known (map f (take (i + 1) xs)) ≡ declare_all (declare_all known (map f (take i xs))) (f x ∷ [])
declared_one_more f xs i x known h e = ap (declare_all known) (map_more f xs i x h e) ∙ declare-append known (map f (take i xs)) (f x ∷ [])
