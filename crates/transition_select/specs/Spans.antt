-- How far each of the offers reaches.
use Rattle.std.specs.Prelude.{◌≡◌, ℕ, suc, min, if◌then◌else◌, List, [], ◌∷◌, length}
use Rattle.estelle_model.specs.Attributes.{is_empty}
use Rattle.transition_select.specs.declared.offers.Offer.{Offer}
use Rattle.transition_select.specs.declared.spans.Span.{Span}
use Rattle.transition_select.specs.Offers.{first_len}

-- how many of the offers, in a row from the first on, offer nothing
abbrev pub quiet_len : List Offer → ℕ
quiet_len [] = 0
quiet_len (o ∷ os) = if is_empty o.offered.items then suc (quiet_len os) else 0

-- that of the first of these offers
pub record IsSpan (os : List Offer) (span : Span) : Type 0 where
  pub block : min span.block (length os) ≡ first_len os
  pub quiet : min span.quiet (length os) ≡ quiet_len os

-- those of each of these offers, and of more
abbrev pub AreSpans : List Offer → List Span → Type 0
AreSpans [] spans = Unit
AreSpans (o ∷ os) [] = ⊥
AreSpans (o ∷ os) (span ∷ spans) = IsSpan (o ∷ os) span × AreSpans os spans
