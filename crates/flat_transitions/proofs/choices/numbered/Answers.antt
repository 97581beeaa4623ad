use Rattle.std.proofs.Common.{◌≡◌, ◌∙◌, ◌+ℤ◌, pos, ℤ, rules, w64, to_z, of_z, ap}
use Rattle.std.proofs.lemmas.Int.{to_z-of_z}
use Rattle.flat_transitions.specs.Choices.{choice_of}
use Rattle.flat_transitions.proofs.choices.numbered.Goals as goal

pub returns : goal.returns
returns c =
    let low : to_z w64 (of_z w64 c.args.name.low) ≡ c.args.name.low = search (rules, to_z-of_z) in
    let ordinal : to_z w64 (of_z w64 (to_z w64 (of_z w64 c.args.name.low) +ℤ to_z w64 (of_z w64 c.from.result))) ≡ c.args.name.low +ℤ pos c.args.number = search (rules, to_z-of_z) in
    c.of.ensures ∙ ap (λ (n : ℤ). choice_of c.args.name n) ordinal
