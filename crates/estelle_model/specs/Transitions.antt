-- The transitions of a body without nested clauses and without `any` (ISO/IEC 9074: flat transitions).
use Rattle.std.specs.Prelude.{ℕ, zero, suc, List, [], ◌∷◌, map, flat_map, fold, ℤ, pos, ◌+ℤ◌, option_and_then, Option, Some, None, Result, Ok, Err}
use Rattle.std.specs.Result.{result_ok}
use Rattle.pascal_values.specs.declared.value.Value.{Value}
use Rattle.pascal_values.specs.declared.value.Value.TheVariants as pascal
use Rattle.pascal_values.specs.Shapes.{item_count}
use Rattle.estelle_tree.specs.declared.tree.name.Name.{Name}
use Rattle.estelle_tree.specs.declared.tree.type_expr.Const.{Const}
use Rattle.estelle_tree.specs.declared.tree.expression.Expr.{Expr}
use Rattle.estelle_tree.specs.declared.tree.clause.AnyDom.{AnyDom}
use Rattle.estelle_tree.specs.declared.tree.clause.Block.{Block}
use Rattle.estelle_tree.specs.declared.tree.clause.DelayHigh.{DelayHigh}
use Rattle.estelle_tree.specs.declared.tree.clause.NextState.{NextState}
use Rattle.estelle_tree.specs.declared.tree.clause.NextState.TheVariants as next
use Rattle.estelle_tree.specs.declared.tree.clause.Clause.{Clause}
use Rattle.estelle_tree.specs.declared.tree.clause.Clause.TheVariants as clause
use Rattle.estelle_model.specs.declared.denoter.Host.{Host}
use Rattle.estelle_model.specs.declared.denoter.Denoter.{Denoter}
use Rattle.estelle_model.specs.Stops.{Stop}
use Rattle.estelle_model.specs.Types.{ordinal_of, value_in, host_of, range_of}
use Rattle.estelle_model.specs.Operators.{◌>>>◌}
use Rattle.estelle_model.specs.declared.meaning.Meaning.{Meaning}
use Rattle.estelle_model.specs.declared.meaning.Meaning.TheVariants.{Constant, Ip, State}
use Rattle.estelle_model.specs.Meant.{Meanings}
use Rattle.estelle_model.specs.Constants.{constant_of}
use Rattle.estelle_model.specs.Denoted.{ordinal_type}
use Rattle.estelle_model.specs.Names.{Declared}
use Rattle.estelle_model.specs.Definitions.{domains_of, received}
use Rattle.estelle_model.specs.Bodies.{Way, BodyAlone, ways_of, states_named}

-- an interaction at an interaction point of the instance, by their number and name
pub record When : Type 0 where
  pub ip : ℕ
  pub name : List ℕ

-- what stands behind `delay`
pub record Delay : Type 0 where
  pub low : Expr
  pub high : Option DelayHigh

-- a value that is chosen for a name of an `any` clause, by the place of the name
pub record Choice : Type 0 where
  pub at : ℕ
  pub value : Value
  pub host : Host

-- with the chosen values as constants
abbrev pub with_choices : Declared → List Choice → Declared
with_choices known cs = fold (λ k c. (c.at, Constant c.value c.host) ∷ k) known cs

pub record Transition : Type 0 where
  -- the states in which it is enabled; none stands for every state
  pub from : Option (List ℕ)
  -- the state after it; none keeps the state
  pub to : Option ℕ
  pub when : Option When
  -- the types of the parameters of that interaction
  pub received : List Denoter
  pub provided : Option Expr
  -- a smaller number is a higher priority
  pub priority : Option ℤ
  pub delay : Option Delay
  -- the values that are chosen for the names of `any`
  pub chosen : List Choice
  pub block : Block

-- ---- the clauses on a way, on which each kind stands at most once

abbrev pub or_first : {A : Type 0} → Option A → Option A → Option A
or_first None more = more
or_first (Some a) more = Some a

-- what the first clause of a kind says
abbrev pub said : {A : Type 0} → (Clause → Option A) → List Clause → Option A
said by [] = None
said by (c ∷ cs) = or_first (by c) (said by cs)

module _ (known : Meanings) where
  abbrev pub from_of : Clause → Option (List ℕ)
  from_of (clause.From states span) = Some (states_named known states.names)
  from_of _ = None

  abbrev pub state_at : Meaning → Option ℕ
  state_at (State k) = Some k
  state_at _ = None

  abbrev pub next_state : NextState → Option ℕ
  next_state (next.Name x) = state_at (known x)
  next_state next.Same = None

  abbrev pub to_of : Clause → Option ℕ
  to_of (clause.To state span) = next_state state
  to_of _ = None

  abbrev pub ip_at : Meaning → Name → Option When
  ip_at (Ip k) x = Some (record { ip = k; name = x.word })
  ip_at _ x = None

  abbrev pub when_of : Clause → Option When
  when_of (clause.When ip x params span) = ip_at (known ip) x
  when_of _ = None

  abbrev pub provided_of : Clause → Option Expr
  provided_of (clause.Provided e span) = Some e
  provided_of _ = None

  abbrev pub priority_of : Clause → Option Const
  priority_of (clause.Priority c span) = Some c
  priority_of _ = None

  -- the number that a constant is, if it has a value
  abbrev pub number_of : Const → Option ℤ
  number_of c = result_ok (constant_of known c >>> ordinal_of)

  abbrev pub delay_of : Clause → Option Delay
  delay_of (clause.Delay low high span) = Some (record { low = low; high = high })
  delay_of _ = None

  -- ---- choices of values for the names of `any`

  -- so many numbers from one on
  abbrev pub numbers_from : ℤ → ℕ → List ℤ
  numbers_from n zero = []
  numbers_from n (suc k) = n ∷ numbers_from (n +ℤ pos 1) k

  -- the ordinals of an ordinal type from low to high
  abbrev pub ordinals : Denoter → List ℤ
  ordinals t = numbers_from (range_of t).0 (item_count (range_of t).0 (range_of t).1)

  -- an ordinal that the host type does not have counts as unset
  abbrev pub or_unset : Result Value Stop → Value
  or_unset (Ok v) = v
  or_unset (Err e) = pascal.Unset

  -- the name of an `any` clause is a constant with this ordinal
  abbrev pub choice : Name → Denoter → ℤ → Choice
  choice x t n = record { at = x.span.start; value = or_unset (value_in (host_of t) n); host = host_of t }

  abbrev pub choices : List (Name × Denoter) → List (List Choice)
  choices [] = [] ∷ []
  choices (x ∷ xs) = flat_map (λ n. map (λ cs. choice x.0 x.1 n ∷ cs) (choices xs)) (ordinals x.1)

  abbrev pub names_of_domain : AnyDom → List (Name × Denoter)
  names_of_domain d = map (λ x. (x, ordinal_type known d.domain)) d.names.names

-- means : what names mean where the names of `any` have these values
module _ (means : List Choice → Meanings) where
  -- a name of `any` is a constant in `priority`, which is the only clause that is evaluated here
  abbrev pub flat_one : Way → List Choice → Transition
  flat_one w chosen = record {
    from = said (from_of (means [])) w.clauses;
    to = said (to_of (means [])) w.clauses;
    when = said (when_of (means [])) w.clauses;
    received = received (means []) w.clauses;
    provided = said (provided_of (means [])) w.clauses;
    priority = option_and_then (number_of (means chosen)) (said (priority_of (means [])) w.clauses);
    delay = said (delay_of (means [])) w.clauses;
    chosen = chosen;
    block = w.block;
  }

  -- the choices of values on a way, the last name fastest, from low to high
  abbrev pub choices_on : Way → List (List Choice)
  choices_on w = choices (means []) (flat_map (names_of_domain (means [])) (flat_map domains_of w.clauses))

  -- one for each choice
  abbrev pub flat_way : Way → List Transition
  flat_way w = map (flat_one w) (choices_on w)

  -- in text order
  abbrev pub flat : BodyAlone → List Transition
  flat b = flat_map flat_way (ways_of b)
