use Rattle.std.proofs.Common.{◌≡◌, ◌∙◌, ◌++◌, arith, ap, sym, ℕ, List, map, length}
use Rattle.body_program_numbers.specs.Places.{Number, list_from}
use Rattle.body_program_numbers.proofs.Listing.{places_listed}
use Rattle.body_program_numbers.proofs.places.PlaceNumbers.of.Goals as goal

pub returns : goal.returns
returns c =
    let found : c.push_list.new.numbers ≡ list_from 0 0 c.args.places.now = c.in_ok-push_list.ensures ∙ ap (λ (es : List (ℕ × Number)). es ++ list_from 0 0 c.args.places.now) c.new-numbers.ensures in
    ap (map (λ (e : ℕ × Number). e.0)) found ∙ places_listed 0 0 c.args.places.now

pub invariant_of-result : goal.invariant_of-result
invariant_of-result c =
    let found : c.push_list.new.numbers ≡ list_from 0 0 c.args.places.now = c.in_ok-push_list.ensures ∙ ap (λ (es : List (ℕ × Number)). es ++ list_from 0 0 c.args.places.now) c.new-numbers.ensures in
    let seen : map (λ (e : ℕ × Number). e.0) c.push_list.new.numbers ≡ c.args.places.now = ap (map (λ (e : ℕ × Number). e.0)) found ∙ places_listed 0 0 c.args.places.now in
    let counted = c.in_ok-count.ensures in
    let count : c.in_ok-count.count ≡ length c.args.places.now = omega (arith, counted) in
    (found ∙ ap (list_from 0 0) (sym seen), count ∙ ap (λ (ps : List ℕ). length ps) (sym seen))
