-- What statements of Estelle are compiled to does what they mean (ISO/IEC 9074).
use Rattle.std.proofs.Common.{◌≡◌, ◌∙◌, refl, sym, ap, ℕ, suc, Bool, List, [], ◌∷◌, ◌++◌, length, map, append_assoc, append-nil, Ok, Err, Option, Some, None}
use Rattle.std.proofs.lemmas.List.{length-map}
use Rattle.std.specs.Prelude.{option_map}
use Rattle.pascal_values.specs.declared.value.Value.{Value}
use Rattle.estelle_tree.specs.declared.tree.name.Name.{Name}
use Rattle.estelle_tree.specs.declared.tree.statement.Ip as tree
use Rattle.body_code.specs.declared.instr.Point as point
use Rattle.body_code.specs.declared.instr.Ends as ends
use Rattle.body_code.specs.declared.instr.Instr.{Instr}
use Rattle.body_code.specs.declared.instr.Instr.TheVariants as op
use Rattle.estelle_model.specs.declared.denoter.Denoter.{Denoter}
use Rattle.estelle_model.specs.States.{Logged, on_log}
use Rattle.estelle_model.specs.Steps.{Running, StepResult, Do, and_then, pure}
use Rattle.estelle_model.specs.Plans.{Plan, carry}
use Rattle.estelle_model.specs.Places.{child_step}
use Rattle.estelle_model.specs.declared.meaning.Passing.TheVariants.{ByValue}
use Rattle.estelle_model.specs.declared.meaning.Meaning.{Meaning}
use Rattle.estelle_model.specs.declared.meaning.Meaning.TheVariants.{Ip, Module}
use Rattle.estelle_model.specs.Definitions.{types_received}
use Rattle.estelle_model.specs.Expressions as model
use Rattle.estelle_model.specs.Statements.{Statement, Acts, Init, Release, Connect, Disconnect, Attach, Detach, Output}
use Rattle.estelle_model.specs.Calls.{Enters}
use Rattle.estelle_model.specs.Actions.{detach_point, release, at, plan_of}
use Rattle.estelle_model.specs.Acts as meaning
use Rattle.estelle_model.proofs.Alike.{EachAlike}
use Rattle.estelle_model.proofs.LoopLaws.{AtMost}
use Rattle.body_machine.specs.declared.item.Item.{Item}
use Rattle.body_machine.specs.Machine.{Goes}
use Rattle.body_machine.specs.Ends.{connect_ends, disconnect_ends, attach_end, output_with}
use Rattle.body_numbers.specs.Numbers.{word_of, interaction_of}
use Rattle.body_machine.specs.Rows.{row, nothing}
use Rattle.body_machine.specs.Steps.{by_row, goes_on, taken_from, values_with, values_from, with_values}
use Rattle.body_compiler_pieces.specs.Pieces.{one}
use Rattle.body_compiler_pieces.specs.ExpressionCode as code
use Rattle.body_compiler_pieces.specs.ExpressionCode.{Scope}
use Rattle.body_compiler_pieces.specs.StatementCode as compiled
use Rattle.body_compiler_laws.proofs.Frames.{joined, outline}
use Rattle.body_compiler_laws.proofs.Does.{Site, machine, full, Does, Does1, instr_does}
use Rattle.body_compiler_laws.proofs.Single.{no_item, result}
use Rattle.body_compiler_laws.proofs.Operands.{OperandDoes, IsScope, refused_does}
use Rattle.body_compiler_laws.proofs.Arguments.{Given, values_of, items_of, stack_of, arguments_do}
use Rattle.body_compiler_laws.proofs.Locals.{stack_taken}
use Rattle.body_compiler_laws.proofs.Blind.{framed, reframed, KeepsFrames, frames_kept, carry_blind}
use Rattle.body_compiler_laws.proofs.PlanCode.{attach_plan, detach_plan, connect_is, disconnect_is, attach_is, output_is}

-- the code of each statement of Estelle does what it means
abbrev pub ActsDo : Site → Scope → Acts Logged → Type 0
ActsDo c scope act = (st : Statement) (es : List (model.Operand Logged)) (fs : List code.Operand) → EachAlike (OperandDoes c) es fs → Does c (compiled.act scope st fs) [] (act c.here st es) no_item

-- ---- values on the stack

-- behind those that were read before
values_read : (ts : List Denoter) (a : Given (map ByValue ts)) (vs : List Value) → values_with vs (items_of (map ByValue ts) a) ≡ Some (vs ++ values_of (map ByValue ts) a)
values_read [] a vs = ap Some (sym (append-nil vs))
values_read (t ∷ ts) a vs = values_read ts a.1 (vs ++ a.0 ∷ []) ∙ ap Some (append_assoc vs (a.0 ∷ []) (values_of (map ByValue ts) a.1))

pub values_taken : (ts : List Denoter) (a : Given (map ByValue ts)) (below : List Item) → values_from (taken_from (length ts) (stack_of (map ByValue ts) a [] ++ below)) ≡ Some (values_of (map ByValue ts) a, below)
values_taken ts a below = ap (λ k. values_from (taken_from k (stack_of (map ByValue ts) a [] ++ below))) (sym (length-map ts ByValue)) ∙ ap values_from (stack_taken (map ByValue ts) a below)
    ∙ ap (option_map (λ vs. (vs, below))) (values_read ts a [])

module _ (c : Site) (scope : Scope) (within : IsScope c scope) where
  -- an instruction that carries a plan
  effect_does : (i : Instr) (taken : List Item) (p : Plan (Unit {0}))
      → ((at : ℕ) (turned : Bool) (q : Running Logged) (below : List Item) → by_row c.subject c.numbers c.code (row c.subject c.numbers (machine c at (taken ++ below) turned q).active i) (taken ++ below) (machine c at (taken ++ below) turned q) ≡ goes_on (nothing (carry Logged on_log p) q) below (machine c at (taken ++ below) turned q))
      → Does c (one i) taken (carry Logged on_log p) no_item
  effect_does i taken p h = instr_does c i taken (carry Logged on_log p) no_item
      (λ at turned old r below same. by at turned old r below same (carry Logged on_log p r) (frames_kept (carry Logged on_log p) (carry_blind p) r) ((carry_blind p).fewer r)
      (h at turned (full c old r) below ∙ ap (λ o. goes_on (and_then o (λ done. pure [])) below (machine c at (taken ++ below) turned (full c old r))) ((carry_blind p).same (joined r.frames (c.callers ++ old ∷ [])) r)))
    where
      by : (at : ℕ) (turned : Bool) (old : List Value) (r : Running Logged) (below : List Item) → outline r.frames ≡ c.counts → (o : StepResult Logged (Unit {0})) → KeepsFrames r.frames o → AtMost r.left o
          → result c i (taken ++ below) at turned old r ≡ goes_on (and_then (reframed (joined r.frames (c.callers ++ old ∷ [])) o) (λ done. pure [])) below (machine c at (taken ++ below) turned (full c old r))
          → Does1 c i taken no_item at turned old r below o
      by at turned old r below same (Ok x) kept fewer h = (h ∙ ap (λ frames. Goes (machine c (suc at) below turned (framed (joined frames (c.callers ++ old ∷ [])) x.1))) (sym kept), ap outline kept ∙ same, fewer, tt)
      by at turned old r below same (Err e) kept fewer h = h

  -- and one that does what a plan does
  plan_does : (i : Instr) (x : Do Logged) (q : Plan (Unit {0})) → ((at : ℕ) (turned : Bool) (r : Running Logged) (below : List Item) → by_row c.subject c.numbers c.code (row c.subject c.numbers (machine c at below turned r).active i) below (machine c at below turned r) ≡ goes_on (nothing x r) below (machine c at below turned r))
      → ((r : Running Logged) → x r ≡ carry Logged on_log q r) → Does c (one i) [] (carry Logged on_log q) no_item
  plan_does i x q h is = effect_does i [] q (λ at turned r below. h at turned r below ∙ ap (λ o. goes_on (and_then o (λ done. pure [])) below (machine c at below turned r)) (is r))

  abbrev PlanDoes : Statement → List Value → Type 0
  PlanDoes st values = Does c (compiled.plan scope st) [] (carry Logged on_log (plan_of c.subject scope.meant c.here.path st values)) no_item

  connect_does : (x y : tree.Ip) → PlanDoes (Connect x y) []
  unfolding row
  connect_does x y = by _ refl _ refl
    where
      by : (a : Option point.Point) → compiled.point_of scope (scope.meant x.name) (compiled.meant_part scope x.part) ≡ a → (b : Option point.Point) → compiled.point_of scope (scope.meant y.name) (compiled.meant_part scope y.part) ≡ b
          → Does c (compiled.connect scope a b) [] (carry Logged on_log (plan_of c.subject scope.meant c.here.path (Connect x y) [])) no_item
      by None e b f = refused_does c [] _ no_item
      by (Some a) e None f = refused_does c [] _ no_item
      by (Some a) e (Some b) f = plan_does (op.Connect a b) (connect_ends c.subject c.here.path a b) (plan_of c.subject scope.meant c.here.path (Connect x y) []) (λ at turned r below. refl) (connect_is scope c.subject c.here.path x y a b [] e f)

  disconnect_does : (x : tree.Ip) → PlanDoes (Disconnect x) []
  unfolding row
  disconnect_does x = by _ refl
    where
      by : (a : Option ends.Ends) → compiled.ends_of scope (scope.meant x.name) (compiled.meant_part scope x.part) ≡ a → Does c (compiled.disconnect scope a) [] (carry Logged on_log (plan_of c.subject scope.meant c.here.path (Disconnect x) [])) no_item
      by None e = refused_does c [] _ no_item
      by (Some a) e = plan_does (op.Disconnect a) (disconnect_ends c.subject c.here.path a) (plan_of c.subject scope.meant c.here.path (Disconnect x) []) (λ at turned r below. refl) (disconnect_is scope c.subject c.here.path (scope.meant x.name) (compiled.meant_part scope x.part) a e)

  attach_does : (own x part : Name) → PlanDoes (Attach own x part) []
  unfolding row
  attach_does own x part = by (scope.meant own) _ refl
    where
      by : (m : Meaning) (a : Option point.Point) → compiled.point_of scope (scope.meant x) (Some (scope.meant part)) ≡ a
          → Does c (compiled.attach scope m a) [] (carry Logged on_log (attach_plan c.subject c.here.path m (scope.meant x) (Some (scope.meant part)))) no_item
      by (Ip k) None e = refused_does c [] (carry Logged on_log (attach_plan c.subject c.here.path (Ip k) (scope.meant x) (Some (scope.meant part)))) no_item
      by (Ip k) (Some a) e = plan_does (op.Attach k a) (attach_end c.subject c.here.path k a) (attach_plan c.subject c.here.path (Ip k) (scope.meant x) (Some (scope.meant part))) (λ at turned r below. refl) (attach_is scope c.subject c.here.path k (scope.meant x) (Some (scope.meant part)) a e)
      by m a e = refused_does c [] (carry Logged on_log (attach_plan c.subject c.here.path m (scope.meant x) (Some (scope.meant part)))) no_item

  detach_does : (own : Name) → PlanDoes (Detach own) []
  unfolding row
  detach_does own = by (scope.meant own)
    where
      by : (m : Meaning) → Does c (compiled.detach scope m) [] (carry Logged on_log (detach_plan c.subject c.here.path m)) no_item
      by (Ip k) = effect_does (op.Detach k) [] (detach_point c.subject (at c.here.path k)) (λ at turned r below. refl)
      by m = refused_does c [] (carry Logged on_log (detach_plan c.subject c.here.path m)) no_item

  release_does : (x : Name) → PlanDoes (Release x) []
  unfolding row child_step
  release_does x = by (scope.meant x)
    where
      by : (m : Meaning) → Does c (compiled.release scope m) [] (carry Logged on_log (release c.subject c.here.path m)) no_item
      by (Module m) = effect_does (op.Release m) [] (release c.subject c.here.path (Module m)) (λ at turned r below. refl)
      by m = refused_does c [] (carry Logged on_log (release c.subject c.here.path m)) no_item

  output_does : (ip m : Name) (a : Given (map ByValue (types_received (scope.meant m)))) → Does c (compiled.plan scope (Output ip m)) (stack_of (map ByValue (types_received (scope.meant m))) a []) (carry Logged on_log (plan_of c.subject scope.meant c.here.path (Output ip m) (values_of (map ByValue (types_received (scope.meant m))) a))) no_item
  unfolding row
  output_does ip m a = by (scope.meant ip) refl (scope.interaction ip m) refl
    where
      types : List Denoter
      types = types_received (scope.meant m)

      stack : List Item
      stack = stack_of (map ByValue types) a []

      values : List Value
      values = values_of (map ByValue types) a

      done : Do Logged
      done = carry Logged on_log (plan_of c.subject scope.meant c.here.path (Output ip m) values)

      by : (x : Meaning) → scope.meant ip ≡ x → (o : Option ℕ) → scope.interaction ip m ≡ o → Does c (compiled.output scope x o types) stack done no_item
      by (Ip k) e (Some i) f = effect_does (op.Output k i (length types)) stack (plan_of c.subject scope.meant c.here.path (Output ip m) values)
          (λ at turned r below. ap (λ o. with_values o (λ vs. nothing (output_with c.subject c.here.path k (word_of c.numbers c.body k) (interaction_of c.numbers c.body k i) vs)) (machine c at (stack ++ below) turned r)) (values_taken types a below)
          ∙ ap (λ o. goes_on (and_then o (λ done. pure [])) below (machine c at (stack ++ below) turned r)) (output_is scope c.subject c.here.path c.numbers c.body ip m k i values e (within.interaction ip m k i e f) r))
      by (Ip k) e None f = refused_does c stack done no_item
      by _ e o f = refused_does c stack done no_item

  -- the arguments, and then the plan; `init` apart
  module _ (enters : Enters Logged) (init_does : (x b : Name) (es : List (model.Operand Logged)) (fs : List code.Operand) → EachAlike (OperandDoes c) es fs → Does c (compiled.act scope (Init x b) fs) [] (meaning.act Logged on_log c.subject scope.meant enters c.here (Init x b) es) no_item) where
    pub acts_do : ActsDo c scope (meaning.act Logged on_log c.subject scope.meant enters)
    unfolding meaning.act
    acts_do (Init x b) es fs h = init_does x b es fs h
    acts_do (Release x) es fs h = arguments_do c scope within [] es fs _ (λ g. carry Logged on_log (plan_of c.subject scope.meant c.here.path (Release x) g.values)) no_item h (λ a named. release_does x)
    acts_do (Connect x y) es fs h = arguments_do c scope within [] es fs _ (λ g. carry Logged on_log (plan_of c.subject scope.meant c.here.path (Connect x y) g.values)) no_item h (λ a named. connect_does x y)
    acts_do (Disconnect x) es fs h = arguments_do c scope within [] es fs _ (λ g. carry Logged on_log (plan_of c.subject scope.meant c.here.path (Disconnect x) g.values)) no_item h (λ a named. disconnect_does x)
    acts_do (Attach own x part) es fs h = arguments_do c scope within [] es fs _ (λ g. carry Logged on_log (plan_of c.subject scope.meant c.here.path (Attach own x part) g.values)) no_item h (λ a named. attach_does own x part)
    acts_do (Detach own) es fs h = arguments_do c scope within [] es fs _ (λ g. carry Logged on_log (plan_of c.subject scope.meant c.here.path (Detach own) g.values)) no_item h (λ a named. detach_does own)
    acts_do (Output ip m) es fs h = arguments_do c scope within (map ByValue (types_received (scope.meant m))) es fs _ (λ g. carry Logged on_log (plan_of c.subject scope.meant c.here.path (Output ip m) g.values)) no_item h (λ a named. output_does ip m a)
