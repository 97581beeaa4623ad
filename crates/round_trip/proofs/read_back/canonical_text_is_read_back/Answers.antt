use Rattle.round_trip.proofs.RoundTrip.{printed_is_lexed, printed_is_read_back, only_is_read_back}
use Rattle.round_trip.proofs.read_back.canonical_text_is_read_back.Goals as goal

pub returns-clause-lexed : goal.returns-clause-lexed
returns-clause-lexed c = printed_is_lexed

pub returns-clause-same : goal.returns-clause-same
returns-clause-same c = printed_is_read_back

pub returns-clause-only : goal.returns-clause-only
returns-clause-only c = only_is_read_back
