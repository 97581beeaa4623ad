use Rattle.std.proofs.Common.{◌≡◌, ◌++◌, map, take}
use Rattle.estelle_tree.specs.declared.tree.name.Name.{Name}
use Rattle.module_table.proofs.declaring.push_words.Given as goal

abbrev pub invariant-loop-name : goal.invariant-loop-name
invariant-loop-name l = l.out ≡ l.initial.out ++ map (λ (x : Name). x.word) (take l.name-index l.names)
