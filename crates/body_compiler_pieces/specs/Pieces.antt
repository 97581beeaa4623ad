-- Code in pieces, which stand one behind another.
use Rattle.std.specs.Prelude.{ℕ, ◌+◌, Bool, true, false, ◌&&◌, List, [], ◌∷◌, ◌++◌, length}
use Rattle.pascal_values.specs.declared.value.Shape.{Shape}
use Rattle.body_code.specs.declared.instr.Instr.{Instr}
use Rattle.body_code.specs.declared.instr.Instr.TheVariants as op

-- code by the number of the next local and by its address, with the locals that it has for itself
pub record Piece : Type 0 where
  pub temporaries : List Shape
  pub code : (free address : ℕ) → List Instr
  -- it stands for something; else nothing is compiled
  pub fine : Bool

-- no code
abbrev pub none : Piece
none = record { temporaries = []; code = λ free address. []; fine = true }

-- for what has no code
abbrev pub refused : Piece
refused = record { temporaries = []; code = λ free address. []; fine = false }

abbrev pub one : Instr → Piece
one i = record { temporaries = []; code = λ free address. i ∷ []; fine = true }

-- the one, and the other behind it
infixr 10 ◌⨾◌
abbrev pub ◌⨾◌ : Piece → Piece → Piece
p ⨾ q = record {
  temporaries = p.temporaries ++ q.temporaries;
  code = λ free address. p.code free address ++ q.code (free + length p.temporaries) (address + length (p.code free address));
  fine = p.fine && q.fine;
}

-- the truth value on top decides: the one, or the other
abbrev pub fork_code : (first second : ℕ → List Instr) → ℕ → List Instr
fork_code first second address = op.Jfalse (address + 1 + length (first (address + 1)) + 1) ∷ (first (address + 1)
    ++ (op.Jump (address + 1 + length (first (address + 1)) + 1 + length (second (address + 1 + length (first (address + 1)) + 1))) ∷ second (address + 1 + length (first (address + 1)) + 1)))

abbrev pub fork : (first second : Piece) → Piece
fork first second = record {
  temporaries = first.temporaries ++ second.temporaries;
  code = λ free address. fork_code (first.code free) (second.code (free + length first.temporaries)) address;
  fine = first.fine && second.fine;
}

-- `while`: the test is entered first; a unit is taken directly before the jump back
abbrev pub loop_code : (ℕ → List Instr) → (ℕ → List Instr) → ℕ → List Instr
loop_code body test address = op.Jump (address + 1 + length (body (address + 1))) ∷ (body (address + 1)
    ++ (test (address + 1 + length (body (address + 1)))
    ++ (op.Jfalse (address + 1 + length (body (address + 1)) + length (test (address + 1 + length (body (address + 1)))) + 3) ∷ op.Turn ∷ op.Jump (address + 1) ∷ [])))

abbrev pub loop : Piece → Piece → Piece
loop test body = record {
  temporaries = body.temporaries ++ test.temporaries;
  code = λ free address. loop_code (body.code free) (test.code (free + length body.temporaries)) address;
  fine = body.fine && test.fine;
}

-- `repeat`: what stands in it leaves the truth value that ends it; a unit is taken before each entry
abbrev pub repeat_code : (ℕ → List Instr) → ℕ → List Instr
repeat_code turn address = op.Turn ∷ (turn (address + 1) ++ (op.Jtrue (address + 1 + length (turn (address + 1)) + 3) ∷ op.Turn ∷ op.Jump (address + 1) ∷ []))

abbrev pub repeat : Piece → Piece
repeat p = record {
  temporaries = p.temporaries;
  code = λ free address. repeat_code (p.code free) address;
  fine = p.fine;
}

-- a temporary of a shape with this number holds what a piece leaves, and the rest is told which local it is
abbrev pub keep_code : ℕ → (ℕ → List Instr) → ℕ → (ℕ → List Instr) → ℕ → List Instr
keep_code free value number rest address = op.Loc free ∷ (value (address + 1) ++ (op.Store number ∷ rest (address + 1 + length (value (address + 1)) + 1)))

abbrev pub keep : Shape → ℕ → Piece → (ℕ → Piece) → Piece
keep shape number value rest = record {
  temporaries = shape ∷ (value.temporaries ++ (rest 0).temporaries);
  code = λ free address. keep_code free (value.code (free + 1)) number ((rest free).code (free + 1 + length value.temporaries)) address;
  fine = value.fine && (rest 0).fine;
}

-- what a temporary holds
abbrev pub recall : ℕ → Piece
recall k = record { temporaries = []; code = λ free address. op.Loc k ∷ op.Load ∷ []; fine = true }

-- `for`: where the truth value at first or behind a turn is false, it ends; before each further turn the temporary takes its next value; a unit is taken before each entry
abbrev pub count_entry : (ℕ → List Instr) → ℕ → ℕ
count_entry begins address = address + length (begins address) + 2

abbrev pub count_end : (begins turn : ℕ → List Instr) → ℕ → ℕ
count_end begins turn address = count_entry begins address + length (turn (count_entry begins address)) + 8

abbrev pub count_code : (temporary number : ℕ) → Instr → (begins turn unset : ℕ → List Instr) → ℕ → List Instr
count_code t number next begins turn unset address = begins address ++ (op.Jfalse (count_end begins turn address) ∷ op.Turn ∷ (turn (count_entry begins address)
    ++ (op.Jfalse (count_end begins turn address) ∷ op.Loc t ∷ op.Loc t ∷ op.Load ∷ next ∷ op.Store number ∷ op.Turn ∷ op.Jump (count_entry begins address) ∷ unset (count_end begins turn address))))

abbrev pub count : (temporary number : ℕ) → Instr → (begins turn unset : Piece) → Piece
count t number next begins turn unset = record {
  temporaries = begins.temporaries ++ (turn.temporaries ++ unset.temporaries);
  code = λ free address. count_code t number next (begins.code free) (turn.code (free + length begins.temporaries)) (unset.code (free + length begins.temporaries + length turn.temporaries)) address;
  fine = begins.fine && (turn.fine && unset.fine);
}
