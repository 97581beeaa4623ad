use Rattle.std.proofs.Common.{◌≡◌, ◌∙◌, ap, List, ℕ, map}
use Rattle.estelle_tree.specs.declared.tree.specification.Spec.{Spec}
use Rattle.estelle_model.specs.Bodies.{bodies}
use Rattle.estelle_model.specs.Subject.{Subject, meant, declared_in}
use Rattle.meaning_table.specs.Known.{Known, meanings_of}
use Rattle.type_shapes.specs.TypeNodes.{shapes_of}
use Rattle.body_numbers.specs.declared.numbers.IpNumbers.{IpNumbers}
use Rattle.body_program_numbers.specs.Outline.{channels_in, headers_in}
use Rattle.body_program_numbers.specs.Found as found
use Rattle.body_program_numbers.specs.Numbering.{place_of_channel, place_of_header, kinds_in, exports_in, header_points, channel_places, header_places, all_header_points, numbers_over}
use Rattle.body_program_numbers.proofs.numbers.all_numbers.Goals as goal

pub returns : goal.returns
returns c =
    let s : Subject = c.args.program.now in
    let tree = s.specification in
    let same = c.requires.same in
    let headers_are : found.headers c.items-headers_found.result.now ≡ headers_in tree = ap found.headers c.items-headers_found.ensures ∙ c.requires.headers ∙ ap headers_in same in
    let channels : c.in_ok-channels.channels ≡ channel_places tree = c.in_ok-channels.ensures ∙ ap (λ cs. map place_of_channel (found.channels cs)) c.items-channels_found.ensures ∙ ap (map place_of_channel) c.requires.channels ∙ ap channel_places same in
    let headers : c.in_ok-headers.headers ≡ header_places tree = c.in_ok-headers.ensures ∙ ap (map place_of_header) headers_are in
    let points : c.in_ok-points.points ≡ all_header_points s = c.in_ok-points.ensures
    ∙ ap (λ (k : Known). map (header_points (meanings_of k) c.in_ok-channels.channels) (found.headers c.items-headers_found.result.now)) c.table-table.ensures
    ∙ ap (λ (cs : List ℕ). map (header_points (meant s) cs) (found.headers c.items-headers_found.result.now)) channels
    ∙ ap (map (header_points (meant s) (channel_places tree))) headers_are in
    let shapes = c.in_ok-shapes.ensures ∙ ap (λ (k : Known). shapes_of (meanings_of k) c.args.spec.now) c.table-table.ensures ∙ ap (λ (t : Spec). shapes_of (meant s) t) same in
    let kinds = c.requires.kinds ∙ ap (λ cs. map (kinds_in (declared_in s)) cs) (ap channels_in same) in
    let exports = c.in_ok-exports.ensures ∙ ap (λ (k : Known). map (exports_in k.declared) (found.headers c.items-headers_found.result.now)) c.table-table.ensures ∙ ap (map (exports_in (declared_in s))) headers_are in
    let all = c.in_ok-bodies.ensures
    ∙ ap (λ (cs : List ℕ). map (numbers_over s cs c.in_ok-headers.headers c.items-points_found.result.now) (bodies tree)) channels
    ∙ ap (λ (hs : List ℕ). map (numbers_over s (channel_places tree) hs c.items-points_found.result.now) (bodies tree)) headers
    ∙ ap (λ (ps : List (List IpNumbers)). map (numbers_over s (channel_places tree) (header_places tree) ps) (bodies tree)) (c.items-points_found.ensures ∙ points) in
    λ i. record { shapes = shapes i; channels = kinds i; headers = exports i; bodies = all i }
