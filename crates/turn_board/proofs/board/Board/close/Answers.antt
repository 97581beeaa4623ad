use Rattle.std.proofs.Common.{◌∙◌, get_or, sym, subst, ap, rules}
use Rattle.std.specs.Prelude.{IsSome}
use mathlib.Core.Option.{some-injective}
use Rattle.turn_board.specs.Passes.{own}
use Rattle.turn_board.specs.Accounts.{Agrees}
use Rattle.turn_board.proofs.BoardSteps.{enters, closes_as}
use Rattle.turn_board.proofs.TurnSteps.{value_or}
use Rattle.turn_board.proofs.Several.{elem_at, named}
use Rattle.turn_board.proofs.board.Board.close.Goals as goal

pub load_new_seat-closer-requires : goal.load_new_seat-closer-requires
load_new_seat-closer-requires g c = (search rules, enters _ _ _ _ _ _)

pub end_passes-requires-clause-passes : goal.end_passes-requires-clause-passes
end_passes-requires-clause-passes g c = λ k d lt. (c.requires.of_board k d lt, c.requires.idle k d lt)

pub unwrap-value-requires : goal.unwrap-value-requires
unwrap-value-requires g c =
    let r = closes_as _ _ _ _ _ _ _ _ _ _ (ap (λ m. m.0) c.end_passes.ensures.view) (λ number low high. let x = c.requires.all number low high in named c.args.passes.items number x.0 x.1 x.2) c.close_with-closed.ensures.values.2 in
    subst IsSome (some-injective _ _ (sym r.1 ∙ c.take.ensures.value)) (search rules)

pub returns-clause-entries : goal.returns-clause-entries
returns-clause-entries g c =
    let r = closes_as _ _ _ _ _ _ _ _ _ _ (ap (λ m. m.0) c.end_passes.ensures.view) (λ number low high. let x = c.requires.all number low high in named c.args.passes.items number x.0 x.1 x.2) c.close_with-closed.ensures.values.2 in
    let is = ap (value_or r.0) (some-injective _ _ (sym r.1 ∙ c.take.ensures.value) ∙ c.unwrap-value.ensures) in
    λ k d lt. let p = own (get_or c.args.passes.items k d) in subst (λ v. Agrees g.V.Recorded.writer p (g.V.Recorded.base v) (g.V.Recorded.entries v)) is (r.2 k p (elem_at own c.args.passes.items k d lt))

pub returns-clause-base : goal.returns-clause-base
returns-clause-base g c =
    let r = closes_as _ _ _ _ _ _ _ _ _ _ (ap (λ m. m.0) c.end_passes.ensures.view) (λ number low high. let x = c.requires.all number low high in named c.args.passes.items number x.0 x.1 x.2) c.close_with-closed.ensures.values.2 in
    let is = ap (value_or r.0) (some-injective _ _ (sym r.1 ∙ c.take.ensures.value) ∙ c.unwrap-value.ensures) in
    ap g.V.Recorded.base (sym is) ∙ r.3
