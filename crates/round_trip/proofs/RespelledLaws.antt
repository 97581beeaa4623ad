-- What spells a list of tokens is, with its spans moved, spelled by each other list of the same tokens.
use Rattle.std.proofs.Common.{◌≡◌, ℕ, List, [], ◌∷◌, ap, sym, refl, subst}
use Rattle.std.specs.Prelude.{All}
use Rattle.std.proofs.lemmas.List.Elements.{All-nil, All-cons, All-head, All-tail, All-map}
use Rattle.estelle_tree.specs.declared.token.Token.{Token}
use Rattle.estelle_tree.specs.declared.token.Placed.{Placed}
use Rattle.estelle_tree.specs.Input.{Input, input}
use Rattle.estelle_tree.specs.Spells.{IsToken, max_nesting}
use Rattle.estelle_tree.specs.Specification.{IsSpec}
use Rattle.estelle_printer.specs.Canonical.{without_places}
use Rattle.round_trip.specs.Same.{unplaced, RespelledElsewhere, BareIsSpelled}
use Rattle.round_trip.proofs.Moves.{Alike}
use Rattle.round_trip.proofs.SpecificationMoves.{spec_moves}
use Rattle.round_trip.proofs.PlainSpecification.{plain_spec}

-- what holds of the tokens holds of them in their places
placed_all : (Q : Token → Type 0) (ps : List Placed) → All Q (without_places ps) → All (λ (p : Placed). Q p.token) ps
placed_all Q [] h = All-nil (λ (p : Placed). Q p.token)
placed_all Q (p ∷ ps) h = All-cons (λ (p : Placed). Q p.token) p ps (All-head Q p.token (without_places ps) h) (placed_all Q ps (All-tail Q p.token (without_places ps) h))

no_tokens : (end : Input) → [] ≡ without_places end.tokens → end ≡ input [] end.end
no_tokens end e = go end.tokens end.end e
  where
    go : (ps : List Placed) (n : ℕ) → [] ≡ without_places ps → input ps n ≡ input [] n
    go [] n e = refl
    go (p ∷ ps) n e = absurd (cc)

pub respelled : RespelledElsewhere
respelled spec tokens others h same =
    let alike : Alike (input tokens 0) (input others 0) = record { is = sym same } in
    let m = spec_moves max_nesting spec (input tokens 0) (input [] h.end) (input others 0) h.whole alike in
    record {
      moved = m.thing;
      spells = record {
        forms = placed_all IsToken others (subst (All IsToken) (sym same) (All-map IsToken (λ p. p.token) tokens h.forms));
        end = m.end.end;
        whole = subst (λ c. IsSpec max_nesting m.thing (input others 0) c) (no_tokens m.end m.alike.is) m.is;
      };
      same = m.same;
    }

pub bare_unplaced : (ps : List Placed) → without_places (unplaced ps) ≡ without_places ps
bare_unplaced [] = refl
bare_unplaced (p ∷ ps) = ap (λ (ts : List Token). p.token ∷ ts) (bare_unplaced ps)

pub bare_is_spelled : BareIsSpelled
bare_is_spelled spec tokens h = record {
  forms = placed_all IsToken (unplaced tokens) (subst (All IsToken) (sym (bare_unplaced tokens)) (All-map IsToken (λ p. p.token) tokens h.forms));
  end = 0;
  whole = plain_spec max_nesting spec (input tokens 0) (input [] h.end) h.whole;
}
