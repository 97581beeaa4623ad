use Rattle.std.proofs.Common.{◌≡◌, ◌∙◌, ◌++◌, ap, sym, map, List}
use Rattle.std.specs.List.{flat_map}
use Rattle.meaning_table.specs.Known.{meanings_of}
use Rattle.body_table.specs.Contributions.{ips_of}
use Rattle.body_table.proofs.WayEquations.{nested}
use Rattle.body_numbers.specs.declared.numbers.IpNumbers.{IpNumbers}
use Rattle.body_program_numbers.specs.Places.{number_in}
use Rattle.body_program_numbers.specs.Numbering.{points_of, external_points}
use Rattle.body_program_numbers.proofs.bodies.body_numbers.Goals as goal

pub returns : goal.returns
returns c =
    let body = c.args.body.now in
    let each = points_of (meanings_of c.args.table.now) c.args.channels.now in
    let own = flat_map (λ d. flat_map each (ips_of d)) c.args.decls.now in
    let modules : c.in_ok-numbers_at.field-0 ≡ map (number_in c.args.headers.now) body.module_headers = c.in_ok-numbers_at.ensures ∙ ap (map (number_in c.args.headers.now)) c.items.ensures in
    let before : c.push_copies.new.out ≡ external_points c.args.headers.now c.args.points.now body.header = c.in_ok-push_copies.ensures ∙ ap (λ (ps : List IpNumbers). ps ++ c.points_at.result.now) c.new-ips.ensures ∙ c.points_at.ensures in
    let points : c.push_own_points.new.out ≡ external_points c.args.headers.now c.args.points.now body.header ++ flat_map each (flat_map ips_of c.args.decls.now) = c.in_ok-push_own_points.ensures
    ∙ ap (λ (ps : List IpNumbers). ps ++ own) before
    ∙ ap (λ (ps : List IpNumbers). external_points c.args.headers.now c.args.points.now body.header ++ ps) (sym (nested each ips_of c.args.decls.now)) in
    λ i. record { module_variables = modules i; ips = points i }
