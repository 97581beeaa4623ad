-- The ways that the code keeps, and groups one clause down.
use Rattle.std.proofs.Common.{◌≡◌, ◌<◌, ◌-◌, ℕ, false}
use Rattle.std.proofs.Math.Path.{fun_ext}
use Rattle.std.specs.Prelude.{◌||◌}
use denote.Enum.Bare.{sameb}
use Rattle.estelle_tree.specs.contracts.kind.Kind.{the_type}
use Rattle.estelle_tree.specs.declared.kind.Kind.{Kind}
use Rattle.estelle_tree.specs.declared.tree.clause.Block.{Block}
use Rattle.estelle_tree.specs.declared.tree.clause.Clause.{Clause}
use Rattle.estelle_tree.specs.Input.{Input}
use Rattle.estelle_tree.specs.Clauses.{of_clause}
use Rattle.token_reader.specs.Reader.{Parser}
use Rattle.token_reader.proofs.Turns.{deeper}
use Rattle.clause_parser.specs.declared.ways.Way.{Way}
use Rattle.clause_parser.specs.Way.{stands_on}
use Rattle.clause_parser.specs.Group.{OnWay, no_clause, with_clause, group_over, group_within}

pub new_is : (w : Way) → ((x : Kind) → stands_on w x ≡ false) → stands_on w ≡ no_clause
new_is w e = fun_ext e

pub behind_is : (c : Clause) (w v : Way) → ((x : Kind) → stands_on v x ≡ (sameb the_type x (of_clause c) || stands_on w x)) → stands_on v ≡ with_clause c (stands_on w)
unfolding with_clause
behind_is c w v e = fun_ext e

pub one_down : (block : Parser Block) (clause : Parser Clause) (n : ℕ) (way : OnWay) (i : Input) → 0 < n → group_within block clause n way i ≡ group_over block clause way (group_within block clause (n - 1)) i
unfolding group_within
one_down block clause n way i some = deeper (λ n. group_within block clause n way i) n some
