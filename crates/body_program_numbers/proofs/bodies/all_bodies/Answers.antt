use Rattle.std.proofs.Common.{◌≡◌, ◌∙◌, ◌+◌, ap, arith, List, Some}
use Rattle.std.specs.Prelude.{option_map}
use Rattle.std.specs.List.{flat_map}
use Rattle.estelle_tree.specs.declared.tree.specification.Decl.{Decl}
use Rattle.estelle_model.specs.Subject.{Subject, meant, body}
use Rattle.meaning_table.specs.Known.{Known, meanings_of}
use Rattle.body_state.specs.Bodies.{module_body}
use Rattle.body_table.specs.Contributions.{ips_of}
use Rattle.body_program_numbers.specs.Numbering.{numbers_by}
use Rattle.body_program_numbers.proofs.BodyLemmas.{next_body}
use Rattle.body_program_numbers.proofs.bodies.all_bodies.Goals as goal

pub loop-standing-preserved : goal.loop-standing-preserved
loop-standing-preserved c =
    let s : Subject = c.args.program.now in
    let m = c.in-Some.body.now in
    let x = c.standing-item.result in
    let k = c.loop-standing.number in
    let before = c.loop-standing.invariant.0 in
    let after = c.in_ok-number.ensures in
    let number : c.in_ok-number.number ≡ c.loop-standing.standing-index + 1 = omega (arith, before, after) in
    let known : Some m ≡ option_map (module_body s k) (body s k) = c.in-Some.ensures ∙ ap (λ (u : Subject). option_map (module_body u k) (body u k)) c.bodies.ensures in
    let numbers = c.in_ok-body_numbers.ensures
    ∙ ap (λ (t : Known). numbers_by (meanings_of t) c.args.channels.now c.args.headers.now c.args.points.now m.module_headers m.header (flat_map ips_of c.items-decls.result.now)) c.table-table.ensures
    ∙ ap (λ (ds : List Decl). numbers_by (meant s) c.args.channels.now c.args.headers.now c.args.points.now m.module_headers m.header (flat_map ips_of ds)) c.items-decls.ensures in
    (number, next_body s c.args.channels.now c.args.headers.now c.args.points.now c.args.found.now c.loop-standing.standing-index k x m c.in_ok-body_numbers.field-0 c.loop-standing.all c.push.new.self c.requires c.loop-standing-test.true c.standing-item.is before known numbers c.loop-standing.invariant.1 c.in_ok-push.ensures.ok)
