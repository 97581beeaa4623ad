use Rattle.std.proofs.Common.{◌*◌, ◌+◌}
use Rattle.std.proofs.Common.{◌≡◌, refl, ap, inr, arith}
use Rattle.estelle_model.specs.Transitions.{Delay}
use Rattle.body_code.specs.declared.unit.Entry.TheVariants as entry
use Rattle.body_code.specs.Units.{entry_of}
use Rattle.body_compiler_laws.specs.Codes.{HasClause, in_clause, delay_code}
use Rattle.body_compiler_emission.specs.Known.{known_in}
use Rattle.meaning_table.specs.Known.{meanings_of}
use Rattle.std.proofs.Common.{subst}
use Rattle.std.specs.Option.{option_copied}
use Rattle.body_compiler.proofs.Parts.{not_some, same_some}
use Rattle.body_compiler.proofs.Growth.{grown_none, open_behind, comes, has_clause}
use Rattle.body_compiler.proofs.transitions.put_delay.Goals as goal

pub returns-in-None : goal.returns-in-None
returns-in-None c =
    let t = c.args.trans in
    record {
      comes = record { grown = grown_none c.args.units.now; free = open_behind c.args.units.now c.args.body 2 (3 * t + 1) 2 (3 * t + 2) c.requires (inr (refl, omega arith)) };
      has = λ d is. absurd (not_some _ d (ap option_copied c.in-None.is) is);
    }

pub returns-in_ok-push-in-Some : goal.returns-in_ok-push-in-Some
returns-in_ok-push-in-Some c =
    let t = c.args.trans in
    record {
      comes = comes c.args.units.now c.push.new.self c.in_ok-unit-in-Some.unit c.args.body 2 (3 * t + 1) c.requires c.in_ok-push-in-Some.ensures (entry.Delay t) (ap entry_of c.in_ok-unit-in-Some.ensures.heading) (inr (refl, omega arith)) 2 (3 * t + 2) (inr (refl, omega arith));
      has = λ d is. let same : c.in-Some.delay.now ≡ d = same_some _ _ d (ap option_copied c.in-Some.is) is in
          subst (λ (x : Delay). HasClause c.push.new.self c.args.body (entry.Delay t) c.args.received.now (delay_code (in_clause (known_in c.args.numbering.now (meanings_of c.args.table.now)) c.args.body c.args.received.now) x)) same
          (has_clause c.args.units.now c.push.new.self c.in_ok-unit-in-Some.unit c.args.body 2 (3 * t + 1) c.requires c.in_ok-push-in-Some.ensures (entry.Delay t) (ap entry_of c.in_ok-unit-in-Some.ensures.heading) (inr (refl, omega arith)) _ _ c.in_ok-unit-in-Some.ensures.unit);
    }
