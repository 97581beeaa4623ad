-- Passes of a new board may go to work.
use Rattle.std.proofs.Common.{◌≡◌, ℕ, List, map, get_or, refl, sym, subst, arith}
use Rattle.std.specs.Prelude.{All}
use Rattle.std.specs.List.{range_with_len}
use Rattle.std.proofs.lemmas.List.{get_or-map, length-map}
use Rattle.std.proofs.lemmas.List.Elements.{All-map}
use Rattle.turn_board.specs.declared.views.Own.{Own}
use Rattle.turn_board.specs.declared.pass.PassOf.{PassOf}
use Rattle.turn_board.specs.declared.board.Board.{Board}
use Rattle.turn_board.specs.Accounts.{new_pass}
use Rattle.turn_board.specs.Passes.{own, AreNewOf, AreAllOf}
use Rattle.board_threads.specs.Workers.{MayWork}

module _ {V B E : Type 0} where
  pub new_may_work : (asks : B → Type 0) (b : Board V B E) (base : B) (n : ℕ) (ps : List (PassOf V B E)) → AreNewOf b base n ps → AreAllOf b ps → asks base → All (MayWork asks b) ps
  new_may_work asks b base n ps new all asked k d lt =
      let HasBase : Own V B E → Type 0 = λ o. o.base ≡ base in
      let each : All HasBase (map own ps) = subst (All HasBase) (sym new.1) (All-map HasBase (new_pass base) (range_with_len 1 n) (λ i e less. refl)) in
      let count = length-map ps own in
      let is : HasBase (own (get_or ps k d)) = subst HasBase (get_or-map own ps k d (own d) lt) (each k (own d) (omega arith)) in
      record { free = (all.of_board k d lt, all.idle k d lt); asked = subst asks (sym is) asked }
