-- What spells a shape tells it apart from all others: it can be read.
use Rattle.std.proofs.Common.{◌≡◌, ◌∙◌, ap, sym, subst, ℕ, zero, suc, ◌+◌, ◌-◌, List, [], ◌∷◌, ◌++◌, map, length, reverse, take, drop, get_or, refl, arith, append_assoc, append-nil}
use Rattle.std.specs.Prelude.{nat_abs, ℤ, pos, negsuc}
use Rattle.std.specs.List.{flat_map}
use Rattle.std.proofs.Math.Seq.{take-append_seam, drop-append_seam}
use Rattle.std.proofs.lemmas.List.{reverse-append, reverse-reverse, length-reverse}
use Rattle.pascal_values.specs.declared.value.Shape.{Shape, roll-Shape, map-Shape}
use Rattle.pascal_values.specs.declared.value.Shape.TheOpen.{Shape-F}
use Rattle.pascal_values.specs.declared.value.Shape.TheFolds.{ind-Shape, fold-roll-Shape}
use Rattle.type_shapes.specs.Spelling.{sign, integer, kind, spelling, spelling_step}
use Rattle.type_shapes.proofs.SpellingEquations.{spelling_layer, by_layer}

-- the shape of a kind with its bounds, over the shapes that are read
made : ℕ → ℤ → ℤ → List Shape → List Shape
made zero low high st = roll-Shape (Shape-F.Int low high) ∷ st
made (suc zero) low high st = roll-Shape (Shape-F.Bool (nat_abs low) (nat_abs high)) ∷ st
made (suc (suc zero)) low high st = roll-Shape (Shape-F.Char (nat_abs low) (nat_abs high)) ∷ st
made (suc (suc (suc zero))) low high st = roll-Shape (Shape-F.Enum (nat_abs low) (nat_abs high)) ∷ st
made (suc (suc (suc (suc zero)))) low high st = roll-Shape (Shape-F.Set (nat_abs low) (nat_abs high)) ∷ st
made (suc (suc (suc (suc (suc zero))))) low high [] = []
made (suc (suc (suc (suc (suc zero))))) low high (item ∷ st) = roll-Shape (Shape-F.Array low high item) ∷ st
made (suc (suc (suc (suc (suc (suc _)))))) count none st = roll-Shape (Shape-F.Fields (reverse (take (nat_abs count) st))) ∷ drop (nat_abs count) st

integer_read : ℕ → ℕ → ℤ
integer_read zero n = pos n
integer_read (suc s) n = negsuc (n - 1)

same_integer : (n : ℤ) → integer_read (sign n) (nat_abs n) ≡ n
unfolding integer_read
same_integer (pos n) = refl
same_integer (negsuc n) = ap negsuc {x = suc n - 1} {y = n} (omega arith)

read : List ℕ → List Shape → List Shape
read (k ∷ s ∷ m ∷ t ∷ n ∷ more) st = read more (made k (integer_read s m) (integer_read t n) st)
read _ st = st

kind_read : (k : ℕ) (low high : ℤ) (more : List ℕ) (st : List Shape) → read (kind k low high ++ more) st ≡ read more (made k low high st)
unfolding read kind
kind_read k low high more st = λ i. read more (made k (same_integer low i) (same_integer high i) st)

IsRead : Shape → Type 0
IsRead shape = (more : List ℕ) (st : List Shape) → read (spelling shape ++ more) st ≡ read more (shape ∷ st)

abbrev Some_ : Type 0
Some_ = (x : Shape) × IsRead x

abbrev shapes_in : List Some_ → List Shape
shapes_in xs = map (λ (e : Some_). e.0) xs

all_read : (xs : List Some_) (more : List ℕ) (st : List Shape) → read (flat_map spelling (shapes_in xs) ++ more) st ≡ read more (reverse (shapes_in xs) ++ st)
unfolding IsRead
all_read [] more st = refl
all_read (x ∷ xs) more st =
    ap (λ ns. read ns st) (append_assoc (spelling x.0) (flat_map spelling (shapes_in xs)) more)
    ∙ x.1 (flat_map spelling (shapes_in xs) ++ more) st
    ∙ all_read xs more (x.0 ∷ st)
    ∙ ap (read more) (sym (append_assoc (reverse (shapes_in xs)) (x.0 ∷ []) st) ∙ ap (λ ys. ys ++ st) (sym (reverse-append (x.0 ∷ []) (shapes_in xs))))

record_made : (ys st : List Shape) → made 6 (pos (length ys)) (pos 0) (reverse ys ++ st) ≡ roll-Shape (Shape-F.Fields ys) ∷ st
unfolding made
record_made ys st =
    let taken : take (length ys) (reverse ys ++ st) ≡ reverse ys = ap (λ n. take n (reverse ys ++ st)) (sym (length-reverse ys)) ∙ take-append_seam (reverse ys) st in
    let left : drop (length ys) (reverse ys ++ st) ≡ st = ap (λ n. drop n (reverse ys ++ st)) (sym (length-reverse ys)) ∙ drop-append_seam (reverse ys) st in
    λ i. roll-Shape (Shape-F.Fields ((ap reverse taken ∙ reverse-reverse ys) i)) ∷ left i

abbrev layer : Shape-F Some_ → Shape-F Shape
layer z = map-Shape Some_ Shape (λ e. e.0) z

spelt : (z : Shape-F Shape) → spelling (roll-Shape z) ≡ spelling_layer z
unfolding spelling
spelt z = fold-roll-Shape (List ℕ) spelling_step z ∙ by_layer z

shape_read : (y : Shape-F Some_) → IsRead (roll-Shape (layer y))
unfolding IsRead made
shape_read y more st = ap (λ ns. read (ns ++ more) st) (spelt (layer y)) ∙ by y
  where
    by : (y : Shape-F Some_) → read (spelling_layer (layer y) ++ more) st ≡ read more (roll-Shape (layer y) ∷ st)
    by (Shape-F.Int low high) = kind_read 0 low high more st
    by (Shape-F.Bool low high) = kind_read 1 (pos low) (pos high) more st
    by (Shape-F.Char low high) = kind_read 2 (pos low) (pos high) more st
    by (Shape-F.Enum low high) = kind_read 3 (pos low) (pos high) more st
    by (Shape-F.Set low high) = kind_read 4 (pos low) (pos high) more st
    by (Shape-F.Array low high item) =
        ap (λ ns. read ns st) (append_assoc (spelling item.0) (kind 5 low high) more)
        ∙ item.1 (kind 5 low high ++ more) st
        ∙ kind_read 5 low high more (item.0 ∷ st)
    by (Shape-F.Fields xs) =
        let n = length (shapes_in xs) in
        ap (λ ns. read ns st) (append_assoc (flat_map spelling (shapes_in xs)) (kind 6 (pos n) (pos 0)) more)
        ∙ all_read xs (kind 6 (pos n) (pos 0) ++ more) st
        ∙ kind_read 6 (pos n) (pos 0) more (reverse (shapes_in xs) ++ st)
        ∙ ap (read more) (record_made (shapes_in xs) st)

is_read : (shape : Shape) → IsRead shape
is_read = ind-Shape IsRead (λ x y is. subst (λ (z : Shape-F Shape). IsRead (roll-Shape z)) is (shape_read y))

alone : (shape : Shape) → read (spelling shape) [] ≡ shape ∷ []
unfolding IsRead read
alone shape = ap (λ ns. read ns []) (sym (append-nil (spelling shape))) ∙ is_read shape [] []

-- shapes that are spelt alike are one
pub apart : (a b : Shape) → spelling a ≡ spelling b → a ≡ b
apart a b e = ap (λ xs. get_or xs 0 a) (sym (alone a) ∙ ap (λ ns. read ns []) e ∙ alone b)
