-- Locals of a unit: which variable of the meaning's frame each is, and how they begin.
use Rattle.std.proofs.Common.{◌≡◌, ◌∙◌, refl, sym, ap, ap₂, subst, ℕ, zero, suc, ◌+◌, ◌≤◌, ◌<◌, Bool, true, false, cond, List, [], ◌∷◌, ◌++◌, length, map, take, drop, reverse, append_assoc, append-nil, length-append, Option, Some, None, arith}
use mathlib.Core.List.{reverse_aux}
use Rattle.std.proofs.lemmas.Bool.{le-leb, ltb-true}
use Rattle.std.proofs.lemmas.List.{map-append, length-map}
use Rattle.std.proofs.lemmas.Simd.{map-map}
use Rattle.std.specs.Prelude.{IsTrue, nat_lt, option_map, option_and_then}
use Rattle.pascal_values.specs.declared.value.Value.{Value}
use Rattle.pascal_values.specs.declared.value.Value.TheVariants as pascal
use Rattle.pascal_values.specs.declared.value.Value.TheVariants.{outs-Fields}
use Rattle.pascal_values.specs.declared.value.Shape.{Shape}
use Rattle.pascal_values.specs.Shapes.{blank_of}
use Rattle.body_code.specs.declared.unit.Local.{Local}
use Rattle.estelle_model.specs.Types.{shape_of}
use Rattle.estelle_model.specs.declared.meaning.Passing.{Passing}
use Rattle.estelle_model.specs.declared.meaning.Passing.TheVariants.{ByValue, ByPlace}
use Rattle.estelle_model.specs.declared.meaning.Routine.{Routine}
use Rattle.estelle_model.specs.Meant.{value_types, result_types}
use Rattle.estelle_model.specs.declared.place.ActualParameters.{ActualParameters}
use Rattle.estelle_model.specs.Expressions.{no_arguments}
use Rattle.estelle_model.specs.Calls.{blank, frame_of}
use Rattle.body_machine.specs.declared.item.Item.{Item}
use Rattle.body_machine.specs.declared.item.Item.TheVariants.{Datum, Spot}
use Rattle.body_machine.specs.Slots.{variables_in, slot, reference_number}
use Rattle.body_machine.specs.Frames.{blanks_of, frame_with}
use Rattle.body_machine.specs.Steps.{taken_from, given_one, given_to}
use Rattle.body_code.specs.declared.unit.Heading.{Heading}
use Rattle.body_compiler_pieces.specs.Pieces.{Piece}
use Rattle.body_compiler_pieces.specs.UnitCode.{local_of, reference_of, variable, own_shapes, AreParameters, IsMadeOf, made_of}
use Rattle.body_compiler_laws.proofs.Frames.{lengthened, lengthened_at, count_of, count_at}
use Rattle.body_compiler_laws.proofs.Arguments.{Given, values_of, places_of, items_of, stack_of, with_given, actual}

-- ---- numbers of locals

variables_first : (k : ℕ) (shapes : List Shape) → k ≤ length shapes → variables_in (take k (map variable shapes)) ≡ k
variables_first zero shapes h = refl
variables_first (suc k) [] h = absurd (let no : suc k ≤ 0 = h in omega (arith, no))
variables_first (suc k) (x ∷ shapes) h = ap suc (variables_first k shapes (let less : suc k ≤ suc (length shapes) = h in omega (arith, less)))

-- the local that a variable is
pub slot_is : (ps : List Passing) (own : ℕ) (parameters : List Local) (shapes : List Shape) (k i : ℕ) → AreParameters ps parameters → own ≤ length shapes → local_of ps own k ≡ Some i
    → (slot (parameters ++ map variable shapes) i ≡ k) × (k < length (value_types ps) + own)
slot_is [] own [] shapes k i are few is = by (nat_lt k own) refl is
  where
    by : (b : Bool) → nat_lt k own ≡ b → cond b (Some k) None ≡ Some i → (slot (map variable shapes) i ≡ k) × (k < 0 + own)
    by true e h = let less : k < own = ltb-true k own e in let same : k ≡ i = cc in (subst (λ j. slot (map variable shapes) j ≡ k) same (variables_first k shapes (omega (arith, less, few))), omega (arith, less))
    by false e h = absurd (cc)
slot_is [] own (l ∷ ls) shapes k i are few is = absurd are
slot_is (p ∷ ps) own [] shapes k i are few is = absurd are
slot_is (ByPlace ∷ ps) own (l ∷ ls) shapes k i are few is = by (local_of ps own k) is (λ j found. slot_is ps own ls shapes k j are.1 few found)
  where
    by : (o : Option ℕ) → option_map suc o ≡ Some i → ((j : ℕ) → o ≡ Some j → (slot (ls ++ map variable shapes) j ≡ k) × (k < length (value_types ps) + own)) → (slot (l ∷ (ls ++ map variable shapes)) i ≡ k) × (k < length (value_types ps) + own)
    by None h rest = absurd (cc)
    by (Some j) h rest = let same : suc j ≡ i = cc in (subst (λ n. slot (l ∷ (ls ++ map variable shapes)) n ≡ k) same (ap (λ b. cond b (slot (ls ++ map variable shapes) j) (suc (slot (ls ++ map variable shapes) j))) are.0 ∙ (rest j refl).0), (rest j refl).1)
slot_is (ByValue t ∷ ps) own (l ∷ ls) shapes zero i are few is = let same : 0 ≡ i = cc in (subst (λ n. slot (l ∷ (ls ++ map variable shapes)) n ≡ 0) same refl, omega arith)
slot_is (ByValue t ∷ ps) own (l ∷ ls) shapes (suc k) i are few is = by (local_of ps own k) is (λ j found. slot_is ps own ls shapes k j are.1 few found)
  where
    by : (o : Option ℕ) → option_map suc o ≡ Some i → ((j : ℕ) → o ≡ Some j → (slot (ls ++ map variable shapes) j ≡ k) × (k < length (value_types ps) + own)) → (slot (l ∷ (ls ++ map variable shapes)) i ≡ suc k) × (suc k < suc (length (value_types ps)) + own)
    by None h rest = absurd (cc)
    by (Some j) h rest = let same : suc j ≡ i = cc in let less : k < length (value_types ps) + own = (rest j refl).1 in
        (subst (λ n. slot (l ∷ (ls ++ map variable shapes)) n ≡ suc k) same (ap (λ b. cond b (slot (ls ++ map variable shapes) j) (suc (slot (ls ++ map variable shapes) j))) are.0 ∙ ap suc (rest j refl).0), omega (arith, less))

-- the local that a var parameter is
pub reference_is : (ps : List Passing) (parameters more : List Local) (k i : ℕ) → AreParameters ps parameters → reference_of ps k ≡ Some i → reference_number (parameters ++ more) i ≡ k
reference_is [] parameters more k i are is = absurd (cc)
reference_is (p ∷ ps) [] more k i are is = absurd are
reference_is (ByValue t ∷ ps) (l ∷ ls) more k i are is = by (reference_of ps k) is (λ j found. reference_is ps ls more k j are.1 found)
  where
    by : (o : Option ℕ) → option_map suc o ≡ Some i → ((j : ℕ) → o ≡ Some j → reference_number (ls ++ more) j ≡ k) → reference_number (l ∷ (ls ++ more)) i ≡ k
    by None h rest = absurd (cc)
    by (Some j) h rest = let same : suc j ≡ i = cc in subst (λ n. reference_number (l ∷ (ls ++ more)) n ≡ k) same (ap (λ b. cond b (suc (reference_number (ls ++ more) j)) (reference_number (ls ++ more) j)) are.0 ∙ rest j refl)
reference_is (ByPlace ∷ ps) (l ∷ ls) more zero i are is = let same : 0 ≡ i = cc in subst (λ n. reference_number (l ∷ (ls ++ more)) n ≡ 0) same refl
reference_is (ByPlace ∷ ps) (l ∷ ls) more (suc k) i are is = by (reference_of ps k) is (λ j found. reference_is ps ls more k j are.1 found)
  where
    by : (o : Option ℕ) → option_map suc o ≡ Some i → ((j : ℕ) → o ≡ Some j → reference_number (ls ++ more) j ≡ k) → reference_number (l ∷ (ls ++ more)) i ≡ suc k
    by None h rest = absurd (cc)
    by (Some j) h rest = let same : suc j ≡ i = cc in subst (λ n. reference_number (l ∷ (ls ++ more)) n ≡ suc k) same (ap (λ b. cond b (suc (reference_number (ls ++ more) j)) (reference_number (ls ++ more) j)) are.0 ∙ ap suc (rest j refl))

-- ---- temporaries behind the variables

counted : (b : Bool) (n k j : ℕ) → n ≡ k + j → cond b n (suc n) ≡ cond b k (suc k) + j
counted true n k j e = e
counted false n k j e = omega (arith, e)

variables_more : (xs ys : List Local) (k : ℕ) → variables_in (take (length xs + k) (xs ++ ys)) ≡ variables_in xs + variables_in (take k ys)
variables_more [] ys k = ap (λ n. variables_in (take n ys)) (let e : 0 + k ≡ k = omega arith in e) ∙ (let e : variables_in (take k ys) ≡ 0 + variables_in (take k ys) = omega arith in e)
variables_more (x ∷ xs) ys k = ap (λ n. variables_in (take n (x ∷ (xs ++ ys)))) (let e : suc (length xs) + k ≡ suc (length xs + k) = omega arith in e)
    ∙ counted x.by_ref (variables_in (take (length xs + k) (xs ++ ys))) (variables_in xs) (variables_in (take k ys)) (variables_more xs ys k)

variables_passed : (ps : List Passing) (parameters : List Local) (shapes : List Shape) → AreParameters ps parameters → variables_in (parameters ++ map variable shapes) ≡ length (value_types ps) + length shapes
variables_passed [] [] [] are = omega arith
variables_passed [] [] (x ∷ shapes) are = let e : variables_in (map variable shapes) ≡ 0 + length shapes = variables_passed [] [] shapes tt in omega (arith, e)
variables_passed [] (l ∷ ls) shapes are = absurd are
variables_passed (p ∷ ps) [] shapes are = absurd are
variables_passed (ByValue t ∷ ps) (l ∷ ls) shapes are = ap (λ b. cond b (variables_in (ls ++ map variable shapes)) (suc (variables_in (ls ++ map variable shapes)))) are.0
    ∙ (let e : variables_in (ls ++ map variable shapes) ≡ length (value_types ps) + length shapes = variables_passed ps ls shapes are.1 in omega (arith, e))
variables_passed (ByPlace ∷ ps) (l ∷ ls) shapes are = ap (λ b. cond b (variables_in (ls ++ map variable shapes)) (suc (variables_in (ls ++ map variable shapes)))) are.0 ∙ variables_passed ps ls shapes are.1

-- a temporary is the variable behind those of the meaning
pub temporary_slot : (ps : List Passing) (parameters : List Local) (shapes temporaries : List Shape) (i : ℕ) → AreParameters ps parameters → i < length temporaries
    → slot (parameters ++ map variable (shapes ++ temporaries)) (length (parameters ++ map variable shapes) + i) ≡ (length (value_types ps) + length shapes) + i
temporary_slot ps parameters shapes temporaries i are less =
    ap (λ ls. slot ls (length (parameters ++ map variable shapes) + i)) (ap (λ ls. parameters ++ ls) (map-append variable shapes temporaries) ∙ sym (append_assoc parameters (map variable shapes) (map variable temporaries)))
    ∙ variables_more (parameters ++ map variable shapes) (map variable temporaries) i
    ∙ ap (λ n. n + variables_in (take i (map variable temporaries))) (variables_passed ps parameters shapes are)
    ∙ ap (λ n. (length (value_types ps) + length shapes) + n) (variables_first i temporaries (omega (arith, less)))

-- ---- what is given

pub parameters_long : (ps : List Passing) (parameters : List Local) → AreParameters ps parameters → length parameters ≡ length ps
parameters_long [] [] are = refl
parameters_long [] (l ∷ ls) are = absurd are
parameters_long (p ∷ ps) [] are = absurd are
parameters_long (ByValue t ∷ ps) (l ∷ ls) are = ap suc (parameters_long ps ls are.1)
parameters_long (ByPlace ∷ ps) (l ∷ ls) are = ap suc (parameters_long ps ls are.1)

no_more : (ls : List Local) (g : ActualParameters) → given_to ls [] g ≡ Some g
no_more [] g = refl
no_more (l ∷ ls) g = refl

-- behind what was given before
given_behind : (ps : List Passing) (parameters more : List Local) (a : Given ps) (g : ActualParameters) → AreParameters ps parameters → given_to (parameters ++ more) (items_of ps a) g ≡ Some (with_given g ps a)
given_behind [] [] more a g are = no_more more g ∙ ap₂ (λ vs places. Some (record { values = vs; references = places })) (sym (append-nil g.values)) (sym (append-nil g.references))
given_behind [] (l ∷ ls) more a g are = absurd are
given_behind (p ∷ ps) [] more a g are = absurd are
given_behind (ByValue t ∷ ps) (l ∷ ls) more a g are =
    ap (λ b. option_and_then (given_to (ls ++ more) (items_of ps a.1)) (given_one b (Datum a.0) g)) are.0
    ∙ given_behind ps ls more a.1 (record g { values = g.values ++ a.0 ∷ [] }) are.1
    ∙ ap (λ vs. Some (record { values = vs; references = g.references ++ places_of ps a.1 })) (append_assoc g.values (a.0 ∷ []) (values_of ps a.1))
given_behind (ByPlace ∷ ps) (l ∷ ls) more a g are =
    ap (λ b. option_and_then (given_to (ls ++ more) (items_of ps a.1)) (given_one b (Spot a.0) g)) are.0
    ∙ given_behind ps ls more a.1 (record g { references = g.references ++ a.0 ∷ [] }) are.1
    ∙ ap (λ places. Some (record { values = g.values ++ values_of ps a.1; references = places })) (append_assoc g.references (a.0 ∷ []) (places_of ps a.1))

-- values for the locals that are variables, places for those by reference
pub given_is_actual : (ps : List Passing) (parameters more : List Local) (a : Given ps) → AreParameters ps parameters → given_to (parameters ++ more) (items_of ps a) no_arguments ≡ Some (actual ps a)
given_is_actual ps parameters more a are = given_behind ps parameters more a no_arguments are

-- what stands on the stack, from the bottom
reversed : (ps : List Passing) (a : Given ps) (more end : List Item) → reverse_aux (stack_of ps a more) end ≡ reverse_aux more (items_of ps a ++ end)
reversed [] a more end = refl
reversed (ByValue t ∷ ps) a more end = reversed ps a.1 (Datum a.0 ∷ more) end
reversed (ByPlace ∷ ps) a more end = reversed ps a.1 (Spot a.0 ∷ more) end

items_reversed : (ps : List Passing) (a : Given ps) → reverse (stack_of ps a []) ≡ items_of ps a
items_reversed ps a = reversed ps a [] [] ∙ append-nil (items_of ps a)

stack_long : (ps : List Passing) (a : Given ps) (more : List Item) → length (stack_of ps a more) ≡ length ps + length more
stack_long [] a more = omega arith
stack_long (ByValue t ∷ ps) a more = stack_long ps a.1 (Datum a.0 ∷ more) ∙ (let e : length ps + suc (length more) ≡ suc (length ps) + length more = omega arith in e)
stack_long (ByPlace ∷ ps) a more = stack_long ps a.1 (Spot a.0 ∷ more) ∙ (let e : length ps + suc (length more) ≡ suc (length ps) + length more = omega arith in e)

pub values_long : (ps : List Passing) (a : Given ps) → length (values_of ps a) ≡ length (value_types ps)
values_long [] a = refl
values_long (ByValue t ∷ ps) a = ap suc (values_long ps a.1)
values_long (ByPlace ∷ ps) a = values_long ps a.1

-- ---- lists in two parts

pub take_first : {X : Type 0} (xs ys : List X) → take (length xs) (xs ++ ys) ≡ xs
take_first [] ys = refl
take_first (x ∷ xs) ys = ap (λ zs. x ∷ zs) (take_first xs ys)

drop_first : {X : Type 0} (xs ys : List X) → drop (length xs) (xs ++ ys) ≡ ys
drop_first [] ys = refl
drop_first (x ∷ xs) ys = drop_first xs ys

-- what is taken from the stack for parameters, in order
pub stack_taken : (ps : List Passing) (a : Given ps) (below : List Item) → taken_from (length ps) (stack_of ps a [] ++ below) ≡ Some (items_of ps a, below)
stack_taken ps a below = ap (λ b. cond b (Some (reverse (take (length ps) items), drop (length ps) items)) None) (le-leb (length ps) (length items) enough)
    ∙ ap₂ (λ xs ys. Some (xs, ys)) (ap (λ k. reverse (take k items)) long ∙ ap reverse (take_first (stack_of ps a []) below) ∙ items_reversed ps a) (ap (λ k. drop k items) long ∙ drop_first (stack_of ps a []) below)
  where
    items : List Item
    items = stack_of ps a [] ++ below

    long : length ps ≡ length (stack_of ps a [])
    long = let l : length (stack_of ps a []) ≡ length ps + 0 = stack_long ps a [] in omega (arith, l)

    enough : length ps ≤ length items
    enough = let l : length items ≡ length (stack_of ps a []) + length below = length-append (stack_of ps a []) below in omega (arith, l, long)

-- ---- the frame of a unit

blanks_are : (shapes : List Shape) → blanks_of (map variable shapes) ≡ map blank_of shapes
blanks_are [] = refl
blanks_are (x ∷ shapes) = ap (λ vs. blank_of x ∷ vs) (blanks_are shapes)

own_blanks : (r : Routine) → map blank_of (own_shapes r) ≡ map blank (r.locals ++ result_types r.result)
own_blanks r = map-map blank_of shape_of (r.locals ++ result_types r.result)

-- it is the routine's, with the temporaries behind
pub frame_is : (r : Routine) (parameters : List Local) (temporaries : List Shape) (given : List Value) → AreParameters r.parameters parameters
    → frame_with (parameters ++ map variable (own_shapes r ++ temporaries)) (length r.parameters) given ≡ lengthened (frame_of r given) (map blank_of temporaries)
frame_is r parameters temporaries given are =
    ap (λ k. pascal.Fields (given ++ blanks_of (drop k (parameters ++ map variable (own_shapes r ++ temporaries))))) (sym (parameters_long r.parameters parameters are))
    ∙ ap (λ ls. pascal.Fields (given ++ blanks_of ls)) (drop_first parameters (map variable (own_shapes r ++ temporaries)))
    ∙ ap (λ vs. pascal.Fields (given ++ vs)) (blanks_are (own_shapes r ++ temporaries) ∙ map-append blank_of (own_shapes r) temporaries ∙ ap (λ vs. vs ++ map blank_of temporaries) (own_blanks r))
    ∙ ap pascal.Fields (sym (append_assoc given (map blank (r.locals ++ result_types r.result)) (map blank_of temporaries)))
    ∙ ap (λ l. lengthened_at l (frame_of r given) (map blank_of temporaries)) (sym (outs-Fields (given ++ map blank (r.locals ++ result_types r.result))))

-- and has so many variables
pub frame_count : (r : Routine) (given : List Value) → count_of (frame_of r given) ≡ Some (length given + length (own_shapes r))
frame_count r given = ap count_at (outs-Fields (given ++ map blank (r.locals ++ result_types r.result))) ∙ ap Some (length-append given (map blank (r.locals ++ result_types r.result))
    ∙ ap (λ k. length given + k) (length-map (r.locals ++ result_types r.result) blank ∙ sym (length-map (r.locals ++ result_types r.result) shape_of)))

-- ---- units that are made

pub made_is : (heading : Heading) (passed : List Passing) (parameters : List Local) (shapes : List Shape) (p : Piece) → AreParameters passed parameters → IsTrue p.fine → IsMadeOf passed shapes p (made_of heading parameters shapes p)
made_is heading passed parameters shapes p are fine = record { parameters = parameters; are = are; locals = refl; instrs = refl; fine = fine }
