use Rattle.std.proofs.Common.{◌≡◌, ◌∷◌, [], sym, subst, map, rules}
use Rattle.std.specs.Prelude.{Contains}
use Rattle.turn_board.specs.Passes.{number_of}
use Rattle.board_tests.proofs.Numbers.{both}
use Rattle.board_tests.proofs.writing.close_two.Goals as goal

pub close-requires : goal.close-requires
close-requires g c = let all = c.requires.all in
    let two : c.push_reserved-2.new.self.items ≡ c.args.first ∷ c.args.second ∷ [] = search rules in
    record {
      of_board = search rules;
      idle = search rules;
      all = λ number low high. subst (λ ps. Contains (map number_of ps) number) (sym two) (both _ _ _ all.0 all.1 all.2 number low high);
    }
