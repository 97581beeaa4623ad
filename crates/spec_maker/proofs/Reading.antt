-- The text is cut into tokens, and these are spelled by a tree.
use Rattle.std.proofs.Common.{◌≡◌, ℕ, ◌≤◌, List, [], ◌∷◌, refl, sym, ap, subst, ◌∙◌}
use Rattle.estelle_tree.specs.declared.token.Token.{Token}
use Rattle.estelle_tree.specs.declared.token.Placed.{Placed}
use Rattle.estelle_tree.specs.declared.tree.specification.Spec.{Spec}
use Rattle.estelle_tree.specs.Lexed.{IsLexed, IsBlankFrom}
use Rattle.estelle_tree.specs.Spells.{Spells}
use Rattle.estelle_lexer.proofs.Answers as lexing
use Rattle.estelle_printer.specs.Canonical.{without_places, canonical}
use Rattle.estelle_printer.specs.Forms.{Tokens}
use Rattle.estelle_printer.specs.Laws.{IsReadAs}
use Rattle.estelle_printer.proofs.LexingLaws.{is_lexed}
use Rattle.estelle_printer.proofs.SpecificationLaws.{one_list}
use Rattle.round_trip.proofs.RespelledLaws.{respelled}
use Rattle.spec_maker.specs.Ring.{ring, IsRing}
use Rattle.spec_maker.proofs.Standing.{unplaced}
use Rattle.spec_maker.proofs.Tokens.{ring_tokens}
use Rattle.spec_maker.proofs.Sentence.{ring_spells}
use Rattle.spec_maker.proofs.Text.{ring_text}

bare_unplaced : (ts : Tokens) → without_places (unplaced ts) ≡ ts
bare_unplaced [] = refl
bare_unplaced (t ∷ ts) = ap (λ (us : List Token). t ∷ us) (bare_unplaced ts)

module _ (n : ℕ) (some : 1 ≤ n) (few : n ≤ 200) where
  abbrev plain : List Placed
  plain = unplaced (ring_tokens n)

  same_text : canonical (without_places plain) ≡ ring n
  same_text = ap canonical (bare_unplaced (ring_tokens n)) ∙ ring_text n

  read : IsReadAs (ring n) plain
  read = let s = ring_spells n some few in subst (λ t. IsReadAs t plain) same_text (is_lexed s.0 plain s.1)

  pub ring_lexed : (tokens : List Placed) × (rest : ℕ) × IsLexed (ring n) tokens rest
  ring_lexed = (read.lexed, read.rest, read.cut)

  module _ (tokens : List Placed) (rest : ℕ) (cut : IsLexed (ring n) tokens rest) where
    one : (tokens ≡ read.lexed) × (rest ≡ read.rest)
    one = lexing.one_list (ring n) tokens read.lexed rest read.rest cut read.cut

    same : without_places tokens ≡ without_places plain
    same = ap without_places one.0 ∙ read.same

    pub ring_tree : (spec : Spec) × Spells spec tokens
    ring_tree =
        let s = ring_spells n some few in
        let m = respelled s.0 plain tokens s.1 same in
        (m.moved, m.spells)

    pub ring_is : (spec : Spec) → Spells spec tokens → IsRing n spec
    ring_is spec spells = record {
      tokens = tokens;
      rest = rest;
      lexed = cut;
      blank = subst (λ at. IsBlankFrom (ring n) at) (sym one.1) read.blank;
      spells = spells;
      canonical = λ others too. sym same_text ∙ ap canonical (sym same ∙ one_list spec tokens others spells too);
    }
