use Rattle.std.proofs.Common.{◌≡◌, ◌+◌, ◌-◌, ◌++◌, codes, string_bytes}
use Rattle.spec_maker.specs.Ring.{each, link}
use Rattle.spec_maker.proofs.ring.put_links.Given as goal

abbrev pub invariant-loop-i : goal.invariant-loop-i
invariant-loop-i l = string_bytes l.text ≡ string_bytes l.initial.text ++ each (λ i. link i (i + 1) ++ codes " ;\n") (l.i - 1)
