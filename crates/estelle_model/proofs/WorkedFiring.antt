-- An example of a guard and of a firing, over any state: the transition `from go to go provided n < 3 begin n := n + 1 end`
-- of a specification with `var n: integer; state go`. Names are told by their places: n is declared at 10, go at 11.
use Rattle.std.proofs.Common.{◌≡◌, true, List, [], ◌∷◌, pos, Ok, Err, Some, None, refl}
use Rattle.std.specs.Prelude.{codes}
use Rattle.std.specs.FinMap as map
use Rattle.pascal_values.specs.declared.fault.Fault.TheVariants as fault
use Rattle.pascal_values.specs.declared.value.Value.TheVariants as pascal
use Rattle.pascal_values.specs.declared.value.Value.TheVariants.{outs-Int, outs-Bool, outs-Unset}
use Rattle.estelle_tree.specs.declared.names.Use.{Use}
use Rattle.estelle_tree.specs.declared.tree.name.Name.{Name}
use Rattle.estelle_tree.specs.declared.tree.expression.Adding.TheVariants as adding
use Rattle.estelle_tree.specs.declared.tree.expression.Relation.TheVariants as relation
use Rattle.estelle_tree.specs.declared.tree.clause.Clause.TheVariants as clause
use Rattle.estelle_tree.specs.declared.tree.clause.NextState.TheVariants as next
use Rattle.estelle_tree.specs.declared.tree.specification.Spec.{Spec}
use Rattle.estelle_model.specs.Stops.{Faults}
use Rattle.estelle_model.specs.declared.job.Guard.TheVariants.{Off, On}
use Rattle.estelle_model.specs.declared.denoter.Host.TheVariants as host
use Rattle.estelle_model.specs.Types.{whole}
use Rattle.estelle_model.specs.Operators.{plus, related}
use Rattle.estelle_model.specs.Core.{Instance}
use Rattle.estelle_model.specs.Effects.{Store, Enter}
use Rattle.estelle_model.specs.States.{Offers}
use Rattle.estelle_model.specs.declared.meaning.Meaning.TheVariants.{Own, State}
use Rattle.estelle_model.specs.Meant.{Meanings}
use Rattle.estelle_model.specs.Denoted.{Section, named_type}
use Rattle.estelle_model.specs.Bodies.{BodyAlone, Way, bodies, bodies_declare}
use Rattle.estelle_model.specs.Names.{meant_by, declared}
use Rattle.estelle_model.specs.Places.{load, store, put}
use Rattle.estelle_model.specs.Calls.{leave}
use Rattle.estelle_model.specs.Blocks.{fresh, block_step, clause_value}
use Rattle.estelle_model.specs.Transitions.{Transition, flat_one}
use Rattle.estelle_model.specs.Subject.{Subject}
use Rattle.estelle_model.specs.Clauses.{fire_step, guard_step}
use Rattle.estelle_model.proofs.Trees as tree
use Rattle.estelle_model.proofs.Fitting.{shape_ordinal, assignable_ordinal, within_int, belongs_int}
use Rattle.estelle_model.proofs.Points.{sequence_at, assignment_at, relation_at, sum_at, named_factor_at, number_factor_at}
use Rattle.estelle_model.proofs.WorkedNames.{used}

abbrev integer : Name
integer = record { word = codes "integer"; span = record { start = 50; end = 57 } }

abbrev variable : Section
variable = (tree.name 10 ∷ [], record { denotes = λ known. named_type known integer; declares = [] })

-- the body, without its transition
abbrev pub counter : BodyAlone
counter = record {
  name = None;
  header = None;
  brought = record { names = []; variables = variable ∷ []; module_variables = []; module_headers = []; ips = []; states = tree.name 11 ∷ [] } ∷ [];
  init = None;
  trans = [];
}

abbrev pub names : List Use
names = used 30 10 ∷ used 31 10 ∷ used 32 10 ∷ used 40 11 ∷ used 41 11 ∷ record { at = record { start = 50; end = 57 }; decl = record { start = 0; end = 0 } } ∷ []

abbrev pub known : Meanings
known = meant_by names (declared names (bodies_declare 0 (counter ∷ [])))

pub n_means : known (tree.name 31) ≡ Own 0 (whole host.Integer)
n_means = refl

pub go_means : known (tree.name 40) ≡ State 0
go_means = refl

-- from go to go provided n < 3 begin n := n + 1 end
abbrev pub way : Way
way = record {
  clauses = clause.From (record { names = tree.name 40 ∷ []; span = tree.nowhere }) tree.nowhere
      ∷ clause.To (next.Name (tree.name 41)) tree.nowhere
      ∷ clause.Provided (tree.relation (tree.named 30) relation.Less (tree.number (pos 3))) tree.nowhere ∷ [];
  block = record { label = None; decls = []; late_label = None; body = tree.sequence (tree.assignment (tree.access 31 []) (tree.sum (tree.named 32) adding.Plus (tree.number (pos 1))) ∷ []); span = tree.nowhere };
}

abbrev pub tick : Transition
tick = flat_one (λ chosen. known) way []

pub tick_from : tick.from ≡ Some (0 ∷ [])
tick_from = refl

pub tick_to : tick.to ≡ Some 0
tick_to = refl

module _ (S : Type 0) (on : Offers S) (spec : Spec) (is : bodies spec ≡ counter ∷ []) (st : S) (i : Instance) (there : map.get (on.core st).instances [] ≡ Some i) where
  abbrev pub subject : Subject
  subject = record { specification = spec; names = names }

  -- with n = 2 it is enabled
  pub enabled : i.variables ≡ pascal.Int (pos 2) ∷ [] → guard_step S on subject [] tick [] true (fresh st 10) ≡ Ok (On 0 (Some 0), fresh st 10)
  unfolding clause_value load related
  enabled v = simp (is, relation_at, named_factor_at, number_factor_at, there, v, outs-Int, outs-Bool)

  -- with n = 3 it is not
  pub disabled : i.variables ≡ pascal.Int (pos 3) ∷ [] → guard_step S on subject [] tick [] true (fresh st 10) ≡ Ok (Off, fresh st 10)
  unfolding clause_value load related
  disabled v = simp (is, relation_at, named_factor_at, number_factor_at, there, v, outs-Int, outs-Bool)

  -- and with n unset its guard faults
  pub guard_faults : i.variables ≡ pascal.Unset ∷ [] → guard_step S on subject [] tick [] true (fresh st 10) ≡ Err (Faults fault.Unset, 10)
  unfolding clause_value load related
  guard_faults v = simp (is, relation_at, named_factor_at, there, v, outs-Unset)

  -- it fires: n becomes 3, and the state is go
  pub fired : i.variables ≡ pascal.Int (pos 2) ∷ [] → (on.core st).types i.body ≡ whole host.Integer ∷ [] → fire_step S on subject [] tick [] (fresh st 10)
      ≡ Ok (tt, record { state = on.keeps [] (Enter 0) (on.keeps [] (Store 0 [] (pascal.Int (pos 3))) st); frames = []; left = 10 })
  unfolding block_step leave load store put plus
  fired v declares = simp (is, sequence_at, assignment_at, sum_at, named_factor_at, number_factor_at, there, v, declares, shape_ordinal, assignable_ordinal, within_int, belongs_int, outs-Int)

  -- n := n + 1 with n = maxint
  pub firing_faults : i.variables ≡ pascal.Int (pos 9223372036854775807) ∷ [] → fire_step S on subject [] tick [] (fresh st 10) ≡ Err (Faults fault.Overflow, 10)
  unfolding block_step load plus
  firing_faults v = simp (is, sequence_at, assignment_at, sum_at, named_factor_at, number_factor_at, there, v, outs-Int)
