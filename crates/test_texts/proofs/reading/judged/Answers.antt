use Rattle.test_texts.proofs.reading.judged.Goals as goal

pub accept-requires : goal.accept-requires
accept-requires c = record {
  spelled = record { tokens = c.in_ok-found.found.items; rest = c.in_ok-found.found.rest; spells = c.in-Ok.ensures.spelled; follow = c.in_ok-found.ensures.spans };
}
