use Rattle.std.proofs.Common.{◌≡◌, ◌<◌, List, ℕ, length, sym, subst, ◌∙◌}
use Rattle.estelle_tree.specs.Lexed.{IsLexicalErrorAt}
use Rattle.estelle_lexer.proofs.Answers.{not_both}
use Rattle.spec_maker.specs.Ring.{ring}
use Rattle.spec_maker.proofs.Text.{ring_short}
use Rattle.spec_maker.proofs.Reading.{ring_lexed}
use Rattle.spec_maker.proofs.ring.ring_tokens.Goals as goal

pub tokens-requires : goal.tokens-requires
tokens-requires c =
    let same : c.as_bytes.result.now ≡ ring c.args.n = c.as_bytes.ensures.value ∙ c.in_ok-text.ensures in
    subst (λ (bytes : List ℕ). length bytes < 2147483648) (sym same) (ring_short c.args.n c.requires.least c.requires.most)

pub unreachable-requires : goal.unreachable-requires
unreachable-requires c =
    let same : c.as_bytes.result.now ≡ ring c.args.n = c.as_bytes.ensures.value ∙ c.in_ok-text.ensures in
    let r = ring_lexed c.args.n c.requires.least c.requires.most in
    let refused = rw c.in-Err-At.field-0-is at c.in-Err-At.ensures.refused in
    not_both (ring c.args.n) r.0 r.1 c.in-Err-At.field-0-0 r.2 (subst (λ (bytes : List ℕ). IsLexicalErrorAt bytes c.in-Err-At.field-0-0) same refused)
