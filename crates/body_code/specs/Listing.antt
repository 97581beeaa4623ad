-- The listing of a code: its units in order, each a line for its heading and below it a line for each instruction.
use Rattle.std.specs.Prelude.{ℕ, List, [], ◌∷◌, ◌++◌, flat_map, codes}
use Rattle.std.specs.List.{join_with_byte, enumerate_from}
use Rattle.std.specs.Fmt.{decimal, signed_decimal}
use Rattle.pascal_values.specs.Texts.{text as value_text}
use Rattle.pascal_values.specs.declared.fault.Fault as fault
use Rattle.pascal_values.specs.declared.fault.Fault.TheVariants as kind
use Rattle.body_code.specs.declared.instr.Point as point
use Rattle.body_code.specs.declared.instr.Point.TheVariants.{Own, OfChild}
use Rattle.body_code.specs.declared.instr.Ends as ends
use Rattle.body_code.specs.declared.instr.Ends.TheVariants.{Point, Child}
use Rattle.body_code.specs.declared.instr.Instr.{Instr}
use Rattle.body_code.specs.declared.instr.Instr.TheVariants as op
use Rattle.body_code.specs.declared.unit.Heading.{Heading}
use Rattle.body_code.specs.declared.unit.Heading.TheVariants.{Body, Routine, Initialize, Guard, Delay, Block}
use Rattle.body_code.specs.declared.unit.CodeUnit.{CodeUnit}

-- a line: fields with a space between each two, and LF
abbrev pub line : List (List ℕ) → List ℕ
line fields = join_with_byte 32 fields ++ 10 ∷ []

-- a point by its number, one of a child behind the module variable and a dot
unfoldable pub point_text : point.Point → List ℕ
point_text (Own ip) = decimal ip
point_text (OfChild modvar ip) = decimal modvar ++ (46 ∷ decimal ip)

-- a point, or a whole child by its module variable
unfoldable pub ends_text : ends.Ends → List ℕ
ends_text (Point p) = point_text p
ends_text (Child modvar) = decimal modvar

-- the name of a fault
unfoldable pub fault_name : fault.Fault → List ℕ
fault_name kind.DivideByZero = codes "DivideByZero"
fault_name kind.ModNotPositive = codes "ModNotPositive"
fault_name kind.Overflow = codes "Overflow"
fault_name kind.Range = codes "Range"
fault_name kind.Index = codes "Index"
fault_name kind.Unset = codes "Unset"
fault_name kind.NoCase = codes "NoCase"
fault_name kind.StepLimit = codes "StepLimit"
fault_name kind.CallDepth = codes "CallDepth"
fault_name kind.NoModule = codes "NoModule"
fault_name kind.ModuleTaken = codes "ModuleTaken"
fault_name kind.LinkTaken = codes "LinkTaken"
fault_name kind.LinkAbsent = codes "LinkAbsent"
fault_name kind.DelayRange = codes "DelayRange"

-- ---- lines

-- the opcode of an instruction and its arguments
unfoldable pub instr_fields : Instr → List (List ℕ)
instr_fields (op.Push v) = codes "push" ∷ value_text v ∷ []
instr_fields (op.Var k) = codes "var" ∷ decimal k ∷ []
instr_fields (op.Loc k) = codes "loc" ∷ decimal k ∷ []
instr_fields (op.Ref k) = codes "ref" ∷ decimal k ∷ []
instr_fields (op.Exp modvar export) = codes "exp" ∷ decimal modvar ∷ decimal export ∷ []
instr_fields (op.Field k) = codes "field" ∷ decimal k ∷ []
instr_fields (op.Index low high) = codes "index" ∷ signed_decimal low ∷ signed_decimal high ∷ []
instr_fields op.Load = codes "load" ∷ []
instr_fields (op.Store shape) = codes "store" ∷ decimal shape ∷ []
instr_fields (op.Fit shape) = codes "fit" ∷ decimal shape ∷ []
instr_fields op.Neg = codes "neg" ∷ []
instr_fields op.Add = codes "add" ∷ []
instr_fields op.Sub = codes "sub" ∷ []
instr_fields op.Mul = codes "mul" ∷ []
instr_fields op.Div = codes "div" ∷ []
instr_fields op.Mod = codes "mod" ∷ []
instr_fields op.Abs = codes "abs" ∷ []
instr_fields op.Sqr = codes "sqr" ∷ []
instr_fields op.Odd = codes "odd" ∷ []
instr_fields op.Eq = codes "eq" ∷ []
instr_fields op.Ne = codes "ne" ∷ []
instr_fields op.Lt = codes "lt" ∷ []
instr_fields op.Le = codes "le" ∷ []
instr_fields op.Gt = codes "gt" ∷ []
instr_fields op.Ge = codes "ge" ∷ []
instr_fields op.Not = codes "not" ∷ []
instr_fields op.Empty = codes "empty" ∷ []
instr_fields op.One = codes "one" ∷ []
instr_fields op.Span = codes "span" ∷ []
instr_fields op.Unite = codes "unite" ∷ []
instr_fields op.Meet = codes "meet" ∷ []
instr_fields op.Minus = codes "minus" ∷ []
instr_fields op.Has = codes "has" ∷ []
instr_fields op.Succ = codes "succ" ∷ []
instr_fields op.Pred = codes "pred" ∷ []
instr_fields op.Ord = codes "ord" ∷ []
instr_fields op.Chr = codes "chr" ∷ []
instr_fields (op.Jump address) = codes "jump" ∷ decimal address ∷ []
instr_fields (op.Jfalse address) = codes "jfalse" ∷ decimal address ∷ []
instr_fields (op.Jtrue address) = codes "jtrue" ∷ decimal address ∷ []
instr_fields op.Turn = codes "turn" ∷ []
instr_fields (op.Call body routine arguments) = codes "call" ∷ decimal body ∷ decimal routine ∷ decimal arguments ∷ []
instr_fields op.Ret = codes "ret" ∷ []
instr_fields (op.Fail fault) = codes "fail" ∷ fault_name fault ∷ []
instr_fields op.Blank = codes "blank" ∷ []
instr_fields (op.Init modvar body arguments) = codes "init" ∷ decimal modvar ∷ decimal body ∷ decimal arguments ∷ []
instr_fields (op.Release modvar) = codes "release" ∷ decimal modvar ∷ []
instr_fields (op.Connect a b) = codes "connect" ∷ point_text a ∷ point_text b ∷ []
instr_fields (op.Disconnect a) = codes "disconnect" ∷ ends_text a ∷ []
instr_fields (op.Attach upper lower) = codes "attach" ∷ decimal upper ∷ point_text lower ∷ []
instr_fields (op.Detach upper) = codes "detach" ∷ decimal upper ∷ []
instr_fields (op.Output ip interaction arguments) = codes "output" ∷ decimal ip ∷ decimal interaction ∷ decimal arguments ∷ []

-- an instruction behind its address
abbrev pub instr_line : ℕ × Instr → List ℕ
instr_line i = decimal i.0 ++ (32 ∷ line (instr_fields i.1))

-- what a unit is for: the word, its number, and the declared name
unfoldable pub heading_fields : Heading → List (List ℕ)
heading_fields (Body body name) = codes "body" ∷ decimal body ∷ name ∷ []
heading_fields (Routine routine name) = codes "routine" ∷ decimal routine ∷ name ∷ []
heading_fields Initialize = codes "initialize" ∷ decimal 0 ∷ []
heading_fields (Guard trans) = codes "guard" ∷ decimal trans ∷ []
heading_fields (Delay trans) = codes "delay" ∷ decimal trans ∷ []
heading_fields (Block trans) = codes "block" ∷ decimal trans ∷ []

-- a heading, and the instructions of its unit with their addresses from 0
abbrev pub unit_lines : CodeUnit → List ℕ
unit_lines u = line (heading_fields u.heading) ++ flat_map instr_line (enumerate_from 0 u.instrs)

-- the units of a code
abbrev pub listing : List CodeUnit → List ℕ
listing code = flat_map unit_lines code
