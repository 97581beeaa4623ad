use Rattle.std.proofs.Common.{◌≡◌, ap}
use Rattle.spec_accept.specs.Rules.{RuleBroken, names}
use Rattle.spec_accept.proofs.Refusing.{meaning_refuses, memory_refuses, none_broken}
use Rattle.spec_accept.proofs.least.accept.Goals as goal

pub invariant_of-result : goal.invariant_of-result
invariant_of-result c =
    let same : c.in-Ok.names ≡ names c.args.spec = ap (λ u. record { uses = u }) c.in-Ok.ensures.names in
    record {
      spelled = ∣ c.requires.spelled ∣₁;
      named = c.in-Ok.ensures.names;
      kept = none_broken c.args.spec c.in-Ok.names same c.in-Ok.ensures.kept c.in-Ok-None.field-0 c.in-Ok-None.field-0-is c.in-Ok-None.ensures.first;
    }

pub returns-in-Ok-Some-clause-refused : goal.returns-in-Ok-Some-clause-refused
returns-in-Ok-Some-clause-refused c =
    let same : c.in-Ok.names ≡ names c.args.spec = ap (λ u. record { uses = u }) c.in-Ok.ensures.names in
    meaning_refuses c.args.spec c.in-Ok.names same c.in-Ok.ensures.kept c.in-Ok-Some.field-0 c.in-Ok-Some.breach c.in-Ok-Some.field-0-is c.in-Ok-Some.ensures.first

pub returns-in-Err-first_breach-clause-refused : goal.returns-in-Err-first_breach-clause-refused
returns-in-Err-first_breach-clause-refused c = memory_refuses (RuleBroken c.args.spec) c.in-Err-first_breach.refusal c.in-Err-first_breach.ensures.memory
