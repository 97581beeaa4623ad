use Rattle.std.proofs.Common.{◌≡◌, ◌≢◌, ◌≤◌, ◌+◌, sym, ap, subst, arith, rules, true≢false, refl, length, None, [], ◌∙◌}
use Rattle.std.specs.Prelude.{IfSome}
use Rattle.estelle_tree.specs.Paths.{parent_of, last_of}
use Rattle.module_tree.specs.Trees.{births_at, instance_at}
use Rattle.module_tree.proofs.Standing.{next_is, none_is, placed_sound, one_longer, some_unless}
use Rattle.module_tree.specs.Nodes.{IsSound}
use Rattle.module_tree.proofs.Steps.{Table}
use Rattle.module_tree.proofs.tree.Tree.place.Goals as goal

pub place-requires-clause-next : goal.place-requires-clause-next
place-requires-clause-next g c =
    next_is c.args.self.now c.self.inside.nodes.entries (ap (λ t. t.instances) c.self.view_is) _ _
    (subst (λ q. IfSome (births_at c.args.self.now (parent_of q)) (λ births. last_of q ≡ births + 1)) (sym c.into_numbers-numbers.ensures) c.requires.next)

pub returns-in_err-place-clause-no_such : goal.returns-in_err-place-clause-no_such
returns-in_err-place-clause-no_such g c = (
  λ _. subst (λ q. instance_at c.args.self.now (parent_of q) ≡ None) c.into_numbers-numbers.ensures ((none_is c.args.self.now c.self.inside.nodes.entries (ap (λ t. t.instances) c.self.view_is) _).0 (c.in_err-place.ensures.missing.0 refl)),
  λ _. c.from_residual.ensures.0,
)

pub invariant_of-self : goal.invariant_of-self
invariant_of-self g c = subst (λ (m : Table g.row.R.Denot _). IsSound m.entries c.self.inside.depth c.self.inside.way) (sym c.in_err-place.ensures.kept) c.self.invariant

longer : (g : _) (c : goal.After-self-1 g) → c.len-length.result ≤ c.self.inside.depth + 1
longer g c =
    let len : c.len-length.result ≡ length c.into_numbers-numbers.result.items = search rules in
    let some : c.into_numbers-numbers.result.items ≢ [] = λ e. c.requires.below (sym c.into_numbers-numbers.ensures ∙ e) in
    let most = one_longer c.self.inside.nodes.entries c.into_numbers-numbers.result.items c.self.inside.depth c.self.invariant.bounded some (some_unless _ c.in_ok-place.ensures.missing.1) in
    omega arith

pub invariant_of-self-2 : goal.invariant_of-self-2
invariant_of-self-2 g c =
    let len : c.len-length.result ≡ length c.into_numbers-numbers.result.items = search rules in
    let most = longer g c in
    let spare = ap (λ t. t.spare) c.self.view_is in
    let left = c.requires.room in
    let max = c.max-self-inside.ensures in
    placed_sound c.self.inside.nodes.entries c.place.new.nodes.entries c.into_numbers-numbers.result.items c.args.part c.self.inside.depth c.max-self-inside.result c.self.inside.way
    c.self.invariant c.in_ok-place.ensures.linked c.in_ok-place.ensures.placed (omega arith) (omega arith) (omega arith)

pub returns-clause-room : goal.returns-clause-room
returns-clause-room g c =
    let most = longer g c in
    let spare = ap (λ t. t.spare) c.self.view_is in
    let max = c.max-self-inside.ensures in
    let room = c.in_ok-place.ensures.room in
    omega arith

pub returns-clause-no_such : goal.returns-clause-no_such
returns-clause-no_such g c = (
  λ e. absurd (true≢false (sym e)),
  λ none. c.in_ok-place.ensures.missing.1 ((none_is c.args.self.now c.self.inside.nodes.entries (ap (λ t. t.instances) c.self.view_is) _).1 (subst (λ q. instance_at c.args.self.now (parent_of q) ≡ None) (sym c.into_numbers-numbers.ensures) none)),
)
