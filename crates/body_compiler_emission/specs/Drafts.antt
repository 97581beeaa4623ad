-- The unit that is being written.
use Rattle.std.specs.Prelude.{ℕ, ◌+◌, Bool, true, ◌&&◌, List, [], ◌∷◌, ◌++◌, length, map, slice_set}
use Rattle.pascal_values.specs.declared.value.Shape.{Shape}
use Rattle.body_code.specs.declared.unit.Local.{Local}
use Rattle.body_code.specs.declared.instr.Instr.{Instr}
use Rattle.body_code.specs.declared.instr.Instr.TheVariants as op
use Rattle.body_compiler_pieces.specs.Pieces.{Piece}
use Rattle.body_compiler_pieces.specs.UnitCode.{variable}

-- its locals and instructions so far, and whether all of them stand for something
pub record Drafted : Type 0 where
  pub locals : List Local
  pub instrs : List Instr
  pub fine : Bool

-- it has grown by a piece
unfoldable pub grown : Piece → Drafted → Drafted
grown p u = record {
  locals = u.locals ++ map variable p.temporaries;
  instrs = u.instrs ++ p.code (length u.locals) (length u.instrs);
  fine = u.fine && p.fine;
}

-- it has these locals, and no code
abbrev pub with_locals : List Local → Drafted
with_locals locals = record { locals = locals; instrs = []; fine = true }

-- with one more local of a shape
unfoldable pub with_temporary : Shape → Drafted → Drafted
with_temporary shape u = record u { locals = u.locals ++ variable shape ∷ [] }

-- with one instruction more, and with another one at an address
unfoldable pub with_instr : Instr → Drafted → Drafted
with_instr i u = record u { instrs = u.instrs ++ i ∷ [] }

unfoldable pub with_instr_at : ℕ → Instr → Drafted → Drafted
with_instr_at at i u = record u { instrs = slice_set u.instrs at i }

-- ---- jumps that were written without their targets, which are known now

-- of a fork: at the test, and at the end of the first branch
unfoldable pub fork_closed : (test end : ℕ) → Drafted → Drafted
fork_closed test end u = with_instr_at end (op.Jump (length u.instrs)) (with_instr_at test (op.Jfalse (end + 1)) u)

-- of `while`: at the entry, with the address of the test
unfoldable pub loop_closed : (entry test : ℕ) → Drafted → Drafted
loop_closed entry test u = with_instr_at entry (op.Jump test) (with_instr (op.Jump (entry + 1)) (with_instr op.Turn (with_instr (op.Jfalse (length u.instrs + 3)) u)))

-- of `repeat`, which is entered behind an address
unfoldable pub repeat_closed : (entry : ℕ) → Drafted → Drafted
repeat_closed entry u = with_instr (op.Jump (entry + 1)) (with_instr op.Turn (with_instr (op.Jtrue (length u.instrs + 3)) u))

-- of `for`, with its temporary: at the first test
unfoldable pub count_closed : (temporary number : ℕ) → Instr → (test : ℕ) → Drafted → Drafted
count_closed t number next test u =
    with_instr_at test (op.Jfalse (length u.instrs + 8)) (with_instr (op.Jump (test + 2)) (with_instr op.Turn (with_instr (op.Store number) (with_instr next (with_instr op.Load (with_instr (op.Loc t) (with_instr (op.Loc t) (with_instr (op.Jfalse (length u.instrs + 8)) u))))))))

-- of a `case`: at the ends of its statements
abbrev pub ends_closed : List ℕ → (end : ℕ) → Drafted → Drafted
ends_closed [] end u = u
ends_closed (e ∷ es) end u = with_instr_at e (op.Jump end) (ends_closed es end u)
