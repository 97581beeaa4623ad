-- What each function of the walk does: the definitions of the model on the private part with a log, for what names mean and what is known of bodies.
use Rattle.std.specs.Prelude.{◌≡◌, ℕ, ◌-◌, Bool, List, [], map, option_map, Option, Some, None, ℤ}
use Rattle.pascal_values.specs.declared.value.Value.{Value}
use Rattle.estelle_tree.specs.declared.link.IpAddr.{IpAddr}
use Rattle.estelle_tree.specs.declared.tree.name.Name.{Name}
use Rattle.estelle_tree.specs.declared.tree.expression.Adding.{Adding}
use Rattle.estelle_tree.specs.declared.tree.expression.Multiplying.{Multiplying}
use Rattle.estelle_tree.specs.declared.tree.expression.Expr.{Expr}
use Rattle.estelle_tree.specs.declared.tree.expression.Simple.{Simple}
use Rattle.estelle_tree.specs.declared.tree.expression.Term.{Term}
use Rattle.estelle_tree.specs.declared.tree.expression.Factor.{Factor}
use Rattle.estelle_tree.specs.declared.tree.expression.Elem.{Elem}
use Rattle.estelle_tree.specs.declared.tree.expression.Args.{Args}
use Rattle.estelle_tree.specs.declared.tree.expression.Selector.{Selector}
use Rattle.estelle_tree.specs.declared.tree.expression.Variable.{Variable}
use Rattle.estelle_tree.specs.declared.tree.type_expr.Const.{Const}
use Rattle.estelle_tree.specs.declared.tree.statement.Direction.{Direction}
use Rattle.estelle_tree.specs.declared.tree.statement.Ip.{Ip}
use Rattle.estelle_tree.specs.declared.tree.statement.Stmt.{Stmt}
use Rattle.estelle_tree.specs.declared.tree.statement.Stmts.{Stmts}
use Rattle.estelle_tree.specs.declared.tree.statement.Case.{Case}
use Rattle.estelle_model.specs.declared.denoter.Denoter.{Denoter}
use Rattle.estelle_model.specs.declared.denoter.Host.{Host}
use Rattle.estelle_model.specs.declared.meaning.Meaning.{Meaning}
use Rattle.estelle_model.specs.declared.meaning.Meaning.TheVariants.{Called}
use Rattle.estelle_model.specs.declared.meaning.Routine.{Routine}
use Rattle.estelle_model.specs.declared.meaning.Passing.{Passing}
use Rattle.estelle_model.specs.declared.meaning.Passing.TheVariants.{ByValue}
use Rattle.estelle_model.specs.declared.place.Place.{Place}
use Rattle.estelle_model.specs.declared.place.Environment.{Environment}
use Rattle.estelle_model.specs.declared.place.ActualParameters.{ActualParameters}
use Rattle.estelle_model.specs.States.{Logged, on_log}
use Rattle.estelle_model.specs.Steps.{Step, Do, ◌>>=◌, ◌>>◌, pure, breaks}
use Rattle.estelle_model.specs.Places.{blank_at, store_ordinal, child_step}
use Rattle.estelle_model.specs.Subject.{body, child_of}
use Rattle.body_state.specs.declared.bodies.ModuleBody.{ModuleBody}
use Rattle.body_state.specs.Bodies.{module_body, block_of}
use Rattle.body_state.specs.Follows.{carried}
use Rattle.estelle_model.specs.Expressions as spec
use Rattle.estelle_model.specs.Expressions.{Operand, Access, Selecting, Call, bool_step, ordinal_step, bound_step, selector_step, give_all, no_arguments}
use Rattle.estelle_model.specs.Loops as loops
use Rattle.estelle_model.specs.Statements as statements
use Rattle.estelle_model.specs.Statements.{Acts, Init, Release, Connect, Disconnect, Attach, Detach, Output}
use Rattle.estelle_model.specs.Actions as estelle
use Rattle.estelle_model.specs.Acts as acts
use Rattle.estelle_model.specs.Acts.{act}
use Rattle.estelle_model.specs.Calls as calls
use Rattle.estelle_model.specs.Calls.{Enters, call_by, nested, max_depth}
use Rattle.body_walker_blocks.specs.Scopes.{Scoped, meanings}
use Rattle.body_walker_blocks.specs.Located.{Located}

-- a routine that a name means
abbrev pub IsKnown : Scoped → Routine → Type 0
IsKnown t r = (x : Name) × (meanings t x ≡ Called r)

-- what is known of a body of the specification
abbrev pub IsBody : Scoped → ModuleBody → Type 0
IsBody t m = (k : ℕ) × (option_map (module_body t.subject k) (body t.subject k) ≡ Some m)

-- what the statements of Estelle do
abbrev pub actions : Scoped → Enters Logged → Acts Logged
actions t = act Logged on_log t.subject (meanings t)

-- calls and inits from a frame, which is as deep as its number tells
unfoldable pub entering : Scoped → Environment → Enters Logged
entering t h = nested Logged on_log (meanings t) (actions t) (max_depth - h.frame)

-- what the statements of Estelle do in a frame
abbrev pub acting : Scoped → Environment → Acts Logged
acting t h = actions t (entering t h)

unfoldable pub calling : Scoped → Environment → Call Logged
calling t h = call_by (entering t h) h.path

-- ---- expressions

unfoldable pub expr : Scoped → Environment → Expr → Operand Logged
expr t h e = spec.expr Logged on_log (meanings t) (calling t h) h e

unfoldable pub simple : Scoped → Environment → Simple → Operand Logged
simple t h e = spec.simple Logged on_log (meanings t) (calling t h) h e

unfoldable pub term : Scoped → Environment → Term → Operand Logged
term t h e = spec.term Logged on_log (meanings t) (calling t h) h e

unfoldable pub factor : Scoped → Environment → Factor → Operand Logged
factor t h e = spec.factor Logged on_log (meanings t) (calling t h) h e

unfoldable pub elem : Scoped → Environment → Elem → Step Logged (List ℕ)
elem t h e = spec.elem Logged on_log (meanings t) (calling t h) h e

unfoldable pub selector : Scoped → Environment → Selector → Selecting Logged
selector t h s = spec.selector Logged on_log (meanings t) (calling t h) h s

abbrev pub condition : Scoped → Environment → Expr → Step Logged Bool
condition t h e = bool_step (expr t h e).value

abbrev pub ordinal : Scoped → Environment → Expr → Step Logged ℤ
ordinal t h e = ordinal_step (expr t h e).value

abbrev pub bound : Scoped → Environment → Host → Expr → Step Logged ℤ
bound t h k e = bound_step k (expr t h e).value

abbrev pub selector_of : Scoped → Environment → Expr → Step Logged ℤ
selector_of t h e = selector_step (expr t h e).value

-- one more term behind a value, and one more factor
abbrev pub added : Scoped → Environment → Adding → Value → Term → Step Logged Value
added t h op v e = spec.added op (pure v) (term t h e).value

abbrev pub multiplied : Scoped → Environment → Multiplying → Value → Factor → Step Logged Value
multiplied t h op v e = spec.multiplied op (pure v) (factor t h e).value

-- the value of a set constructor
abbrev pub set_of : Scoped → Environment → List Elem → Step Logged Value
set_of t h es = spec.set_step [] (map (elem t h) es)

-- ---- names in expressions, and calls

unfoldable pub valued : Scoped → Environment → Name → List Selector → Operand Logged
valued t h x ss = spec.valued Logged on_log (meanings t) (calling t h) h (meanings t x) (map (selector t h) ss)

unfoldable pub designated : Scoped → Environment → Name → List Expr → Operand Logged
designated t h x es = spec.designated Logged on_log (meanings t) (calling t h) h (meanings t x) (map (expr t h) es)

abbrev pub arguments : Scoped → Environment → List Passing → List Expr → Step Logged ActualParameters
arguments t h ps es = give_all ps (map (expr t h) es) no_arguments

abbrev pub give : Scoped → Environment → Passing → Expr → ActualParameters → Step Logged ActualParameters
give t h p e g = spec.give p (expr t h e) g

abbrev pub invoked : Scoped → Environment → Routine → List Expr → Step Logged Value
invoked t h r es = arguments t h r.parameters es >>= λ given. calling t h r given

unfoldable pub within : Scoped → Environment → Routine → List Value → Step Logged Value
within t h r vs = calls.within Logged on_log (meanings t) (actions t) (entering t h) h.frame h.path r (record { values = vs; references = h.references })

-- ---- variable accesses

-- what an access comes to; a name of another kind breaks a rule
abbrev pub located : Option (Access Logged) → Step Logged Located
located None = breaks
located (Some a) = a.place >>= λ p. pure (record { place = p; denoter = a.denoter })

-- an access that has come to a place
abbrev pub at : Located → Access Logged
at l = record { denoter = l.denoter; place = pure l.place }

unfoldable pub accessed : Scoped → Environment → Meaning → List Selector → Step Logged Located
accessed t h m ss = located (spec.accessed Logged on_log (meanings t) (calling t h) h m (map (selector t h) ss))

unfoldable pub selected : Scoped → Environment → Located → Selector → Step Logged Located
selected t h l s = located (Some ((selector t h s).over (at l)))

unfoldable pub indexed : Scoped → Environment → Located → List Expr → Step Logged Located
indexed t h l es = located (Some (spec.indexed Logged on_log (meanings t) (calling t h) h (map (expr t h) es) (at l)))

unfoldable pub target : Scoped → Environment → Variable → Step Logged Located
target t h v = located (spec.target Logged on_log (meanings t) (calling t h) h v)

-- ---- statements

unfoldable pub stmt : Scoped → Environment → Stmt → Do Logged
stmt t h x = statements.stmt Logged on_log (meanings t) (acting t h) (calling t h) h x

unfoldable pub stmts : Scoped → Environment → Stmts → Do Logged
stmts t h x = statements.stmts Logged on_log (meanings t) (acting t h) (calling t h) h x

unfoldable pub branch : Scoped → Environment → Case → List Const × Do Logged
branch t h x = statements.branch Logged on_log (meanings t) (acting t h) (calling t h) h x

unfoldable pub assign : Scoped → Environment → Variable → Expr → Do Logged
assign t h v e = statements.assign Logged on_log (meanings t) (acting t h) (calling t h) h v e

unfoldable pub procedure : Scoped → Environment → Name → Option Args → Do Logged
procedure t h x es = statements.invoke Logged on_log (meanings t) (acting t h) (calling t h) h x es

unfoldable pub select : Scoped → Environment → Expr → List Case → Do Logged
select t h e cases = statements.select Logged on_log (meanings t) (acting t h) (calling t h) h e (map (branch t h) cases)

abbrev pub while_loop : Scoped → Environment → Expr → Stmt → Do Logged
while_loop t h test body = loops.while_loop (condition t h test) (stmt t h body)

abbrev pub repeat_loop : Scoped → Environment → Stmts → Expr → Do Logged
repeat_loop t h body test = loops.repeat_loop (stmts t h body) (condition t h test)

unfoldable pub count : Scoped → Environment → Name → Expr → Direction → Expr → Stmt → Do Logged
count t h x first dir last body = statements.count Logged on_log (meanings t) (acting t h) (calling t h) h x first dir last (stmt t h body)

-- the turns of a `for` whose variable is at a place
abbrev pub count_loop : Scoped → Environment → Denoter → Place → ℤ → Direction → ℤ → Stmt → Do Logged
count_loop t h d p first dir last body = loops.count_loop dir first last (λ k. store_ordinal Logged on_log d p k) (blank_at Logged on_log p) (stmt t h body)

-- ---- the statements of Estelle

-- the arguments of a statement, evaluated and fitted to these types
abbrev pub value_arguments : Scoped → Environment → List Denoter → List Expr → Step Logged ActualParameters
value_arguments t h ts es = arguments t h (map ByValue ts) es

-- an interaction point by its name, or by that of a module variable and its own
abbrev pub ip_named : Scoped → Environment → Name → Option Name → Step Logged IpAddr
ip_named t h x part = carried (estelle.ip_in t.subject h.path (meanings t x) (option_map (meanings t) part))

abbrev pub part_of_child : Scoped → Environment → Name → Name → Step Logged IpAddr
part_of_child t h x p = carried (estelle.ip_in t.subject h.path (meanings t x) (Some (meanings t p)))

unfoldable pub connect : Scoped → Environment → Ip → Ip → Do Logged
connect t h a b = acting t h h (Connect a b) []

-- one interaction point
abbrev pub disconnect_ip : Scoped → Environment → Name → Option Name → Do Logged
disconnect_ip t h x part = ip_named t h x part >>= λ a. carried (estelle.disconnect_point t.subject h.path a)

-- each connected one of the child in a module variable
abbrev pub disconnect_module : Scoped → Environment → ℕ → Do Logged
disconnect_module t h m = child_step Logged on_log h.path m >>= λ c. carried (estelle.disconnect_child t.subject c)

unfoldable pub disconnect : Scoped → Environment → Ip → Do Logged
disconnect t h a = acting t h h (Disconnect a) []

unfoldable pub attach : Scoped → Environment → Name → Name → Name → Do Logged
attach t h p x q = acting t h h (Attach p x q) []

unfoldable pub detach : Scoped → Environment → Name → Do Logged
detach t h p = acting t h h (Detach p) []

unfoldable pub output : Scoped → Environment → Name → Name → Option Args → Do Logged
output t h p m es = acting t h h (Output p m) (statements.arguments Logged on_log (meanings t) (acting t h) (calling t h) h es)

unfoldable pub release : Scoped → Environment → Name → Do Logged
release t h x = acting t h h (Release x) []

unfoldable pub init : Scoped → Environment → Name → Name → Option Args → Do Logged
init t h x b es = acting t h h (Init x b) (statements.arguments Logged on_log (meanings t) (acting t h) (calling t h) h es)

-- a child of the body with a number, for a module variable, with these values of its parameters
unfoldable pub create : Scoped → Environment → ℕ → ℕ → List Value → Do Logged
create t h m k values = do
  i ← carried (estelle.may_begin t.subject h.path m k values)
  acts.create Logged on_log t.subject (meanings t) (entering t h) h.path m (child_of t.subject k) values i

-- the initialization of a body, in its frame
unfoldable pub initialize : Scoped → Environment → ModuleBody → Do Logged
initialize t h body = within t h (block_of body) [] >> pure tt
