use Rattle.std.proofs.Common.{refl, arith}
use Rattle.transition_select.proofs.Reaches.{others_spanned, span_put}
use Rattle.transition_select.proofs.spans.put_span.Goals as goal

pub span_of-span-requires : goal.span_of-span-requires
span_of-span-requires c = others_spanned c.args.at c.args.offers.now c.in-Some.offer.now c.in-Some.others.now c.split_at.result.1.now c.split_at.ensures.back c.in-Some.ensures.cases.0 c.args.spans.now.items c.behind.result.now c.requires.behind (cc)

pub returns-in-Some-clause-spans : goal.returns-in-Some-clause-spans
returns-in-Some-clause-spans c =
    span_put c.args.at c.args.offers.now c.in-Some.offer.now c.in-Some.others.now c.split_at.result.1.now c.split_at.ensures.back c.in-Some.ensures.cases.0 c.span_of-span.result c.args.spans.now.items _ (omega (arith, c.requires.len, c.requires.within))
    c.requires.behind c.span_of-span.ensures.block c.span_of-span.ensures.quiet refl
