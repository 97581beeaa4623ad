-- A run, from where a firing is pending until it fires, leaves what it finds.
use Rattle.std.proofs.Common.{◌≡◌, ℕ, false, List, [], ◌∷◌, ◌++◌, Some, sym, ap, subst, ◌∙◌}
use Rattle.std.specs.Prelude.{◌≢◌, nat_eq, slice_get, Contains}
use Rattle.std.specs.Str.{bytes_eq}
use Rattle.std.specs.List.{AllByRecursion}
use Rattle.std.proofs.lemmas.Grind.{fold-append}
use Rattle.std.proofs.lemmas.List.Sorted.{IsPermutation-trans}
use Rattle.pascal_values.specs.declared.fault.Fault.{Fault as FaultKind}
use Rattle.estelle_tree.specs.declared.transition.Pair.{Pair}
use Rattle.estelle_tree.specs.Paths.{Path, is_inside}
use Rattle.estelle_tree.specs.Timers.{pair}
use Rattle.estelle_model.specs.declared.effect.Out.{Out}
use Rattle.estelle_model.specs.declared.event.Event.{Event}
use Rattle.estelle_model.specs.declared.event.Event.TheVariants.{Start, Select, Fire, Fault}
use Rattle.estelle_model.specs.Subject.{Subject}
use Rattle.estelle_model.specs.Situation.{Situation}
use Rattle.estelle_model.specs.Firing.{Firing, Ran, Failed, Undefined, start, bare}
use Rattle.estelle_model.specs.Jobs.{private}
use Rattle.estelle_model.specs.Runs.{same_pair, next, Applies, Goes, Begins, IsRun, after_events, started, after_first, situation}
use Rattle.estelle_model_legality.specs.Instances.{LeadsToStates}
use Rattle.estelle_model_legality.specs.Keeping.{IsStarted}
use Rattle.estelle_model_legality.specs.Situations.{IsLegal}
use Rattle.estelle_model_legality.proofs.Apart.{index_of}
use Rattle.estelle_model_legality.proofs.Keeping.{events_keep}
use Rattle.estelle_model_legality.proofs.Lists.{both_and, not_true, not_both, number_is, path_is, in_none}
use Rattle.estelle_model_legality.proofs.Started.{start_is_legal}
use Rattle.estelle_model_apart.specs.Apart.{IsApartOrFault, IsOther, FindsTheSame, ManyLeaveTheApart, EventsAreApart, RunsLeaveTheApart}
use Rattle.estelle_model_apart.specs.Answers.{AnswersHoldInRuns}
use Rattle.estelle_model_apart.proofs.Answers.{answers_hold_later}
use Rattle.estelle_model_apart.proofs.Apart.{finds_itself, events_leave}

finds_then : (s : Subject) (m : Path) (n : ℕ) (a b c : Situation) → FindsTheSame s m n a b → FindsTheSame s m n b c → FindsTheSame s m n a c
finds_then s m n a b c h k = record {
  pending = k.pending;
  instances = k.instances ∙ h.instances;
  links = IsPermutation-trans (private s a.core m).links (private s b.core m).links (private s c.core m).links h.links k.links;
  received = k.received ∙ h.received;
}

-- ---- any number of events

pub many_leave : ManyLeaveTheApart
many_leave s leads budget g legal m n pending [] goes apart = finds_itself s m n g pending
many_leave s leads budget g legal m n pending (e ∷ es) goes apart =
    let first = events_leave s leads budget g legal m n pending e goes.0 apart.0 in
    finds_then s m n g (next s budget g e) (after_events s budget (next s budget g e) es) first
    (many_leave s leads budget (next s budget g e) (events_keep s leads budget g legal e goes.0) m n first.pending es goes.2 apart.1)

-- ---- which events there are

-- different firings stand at different places
differ : (ps : List Pair) (p q : Pair) → same_pair p q ≡ false → (i j : ℕ) → slice_get ps i ≡ Some p → slice_get ps j ≡ Some q → i ≢ j
differ ps p q other i j first second e =
    let found : Some p ≡ Some q = sym first ∙ ap (slice_get ps) e ∙ second in
    let same : p ≡ q = cc in
    not_both (same_pair p q) (ap (same_pair p) (sym same) ∙ both_and (bytes_eq p.path p.path) (nat_eq p.trans p.trans) (path_is p.path) (number_is p.trans)) other

pub events_are_apart : EventsAreApart
events_are_apart s budget g legal m n pending (Start outs drops) applies other = applies
events_are_apart s budget g legal m n pending (Select system now takes) applies other = not_true (is_inside system m) (applies.idle (pair m n) pending)
events_are_apart s budget g legal m n pending (Fire q k outs drops) applies other =
    let i = index_of g.pending (pair m n) pending in
    let j = index_of g.pending (pair q k) applies.pending in
    let two = differ g.pending (pair m n) (pair q k) other i.0 j.0 i.1 j.1 in (
      legal.pending.apart i.0 j.0 (pair m n) (pair q k) two i.1 j.1,
      legal.pending.apart j.0 i.0 (pair q k) (pair m n) (λ e. two (sym e)) j.1 i.1,
    )
events_are_apart s budget g legal m n pending (Fault q k kind) applies other = tt

-- ---- runs

module _ (s : Subject) (leads : LeadsToStates s) (budget : ℕ) (m : Path) (n : ℕ) where
  -- an event that is not the firing leaves what it finds
  other_leaves : (g : Situation) → IsLegal s g → Contains g.pending (pair m n) → (e : Event) → Applies s budget g e → IsOther m n e → FindsTheSame s m n g (next s budget g e)
  other_leaves g legal pending e applies other = by e applies (events_are_apart s budget g legal m n pending e applies other)
    where
      by : (e : Event) → Applies s budget g e → IsApartOrFault m e → FindsTheSame s m n g (next s budget g e)
      by (Start outs drops) applies apart = events_leave s leads budget g legal m n pending (Start outs drops) applies apart
      by (Select system now takes) applies apart = events_leave s leads budget g legal m n pending (Select system now takes) applies apart
      by (Fire q k outs drops) applies apart = events_leave s leads budget g legal m n pending (Fire q k outs drops) applies apart
      by (Fault q k kind) applies apart = finds_itself s m n g pending

  -- the later situation is legal, and the firing finds there what it found
  pub record FindsLegally (earlier later : Situation) : Type 0 where
    pub legal : IsLegal s later
    pub same : FindsTheSame s m n earlier later

  others_leave : (g : Situation) → IsLegal s g → Contains g.pending (pair m n) → (es : List Event) → Goes s budget g es → AllByRecursion (IsOther m n) es → FindsLegally g (after_events s budget g es)
  others_leave g legal pending [] goes others = record { legal = legal; same = finds_itself s m n g pending }
  others_leave g legal pending (e ∷ es) goes others =
      let first = other_leaves g legal pending e goes.0 others.0 in
      let rest = others_leave (next s budget g e) (events_keep s leads budget g legal e goes.0) first.pending es goes.2 others.1 in
      record { legal = rest.legal; same = finds_then s m n g (next s budget g e) (after_events s budget (next s budget g e) es) first rest.same }

  -- the events of a run up to some situation, and those behind it
  goes_behind : (g : Situation) (es more : List Event) → Goes s budget g (es ++ more) → Goes s budget (after_events s budget g es) more
  goes_behind g [] more goes = goes
  goes_behind g (e ∷ es) more goes = goes_behind (next s budget g e) es more goes.2

  legal_behind : (g : Situation) → IsLegal s g → (es more : List Event) → Goes s budget g (es ++ more) → IsLegal s (after_events s budget g es)
  legal_behind g legal [] more goes = legal
  legal_behind g legal (e ∷ es) more goes = legal_behind (next s budget g e) (events_keep s leads budget g legal e goes.0) es more goes.2

  behind : (g : Situation) → IsLegal s g → (es more : List Event) → Goes s budget g (es ++ more) → Contains (after_events s budget g es).pending (pair m n) → AllByRecursion (IsOther m n) more
      → FindsLegally (after_events s budget g es) (after_events s budget g (es ++ more))
  behind g legal es more goes pending others =
      subst (FindsLegally (after_events s budget g es)) (sym (fold-append (next s budget) g es more))
      (others_leave (after_events s budget g es) (legal_behind g legal es more goes) pending more (goes_behind g es more goes) others)

  -- ---- from the start on

  -- where the start ran the other events go on from there
  goes_on : (g : Situation) (outs : List Out) (drops : List ℕ) (left : ℕ) (e : Event) (es : List Event) → Begins s budget (Ran g outs drops left) e es → Goes s budget g es
  goes_on g outs drops left (Start outs' drops') es begins = begins.2
  goes_on g outs drops left (Select system now takes) es begins = absurd begins
  goes_on g outs drops left (Fire q k outs' drops') es begins = absurd begins
  goes_on g outs drops left (Fault q k kind) es begins = absurd begins

  -- where it faulted nothing follows
  ends_there : (kind : FaultKind) (left : ℕ) (e : Event) (es : List Event) → Begins s budget (Failed kind left) e es → es ≡ []
  ends_there kind left (Start outs drops) es begins = absurd begins
  ends_there kind left (Select system now takes) es begins = absurd begins
  ends_there kind left (Fire q k outs drops) es begins = absurd begins
  ends_there kind left (Fault q k kind') es begins = begins.3

  -- and nothing is pending
  none_of_bare : Contains (bare s).pending (pair m n) → ⊥
  none_of_bare there = in_none Pair (pair m n) there

  none_after : (es more : List Event) → es ++ more ≡ [] → Contains (after_events s budget (bare s) es).pending (pair m n) → ⊥
  none_after [] more none there = none_of_bare there
  none_after (e ∷ es) more none there = absurd (cc)

  abbrev RunsFrom : Firing → List Event → Type 0
  RunsFrom f [] = ⊥
  RunsFrom f (e ∷ es) = Begins s budget f e es

  run_leaves : (f : Firing) → IsStarted s f → (before more : List Event) → RunsFrom f (before ++ more) → Contains (after_first s budget (started s f) before).pending (pair m n) → AllByRecursion (IsOther m n) more
      → FindsLegally (after_first s budget (started s f) before) (after_first s budget (started s f) (before ++ more))
  run_leaves f legal [] [] run there others = absurd run
  run_leaves (Ran g outs drops left) legal [] (e ∷ more) run there others = others_leave g legal there more (goes_on g outs drops left e more run) others.1
  run_leaves (Failed kind left) legal [] (e ∷ more) run there others = absurd (none_of_bare there)
  run_leaves Undefined legal [] (e ∷ more) run there others = absurd (none_of_bare there)
  run_leaves (Ran g outs drops left) legal (e ∷ es) more run there others = behind g legal es more (goes_on g outs drops left e (es ++ more) run) there others
  run_leaves (Failed kind left) legal (e ∷ es) more run there others = absurd (none_after es more (ends_there kind left e (es ++ more) run) there)
  run_leaves Undefined legal (e ∷ es) more run there others = absurd run

  of_run : (es : List Event) → IsRun s budget es → RunsFrom (start s budget) es
  of_run [] run = run
  of_run (e ∷ es) run = run

  pub finds_in_run : (before more : List Event) → IsRun s budget (before ++ more) → Contains (situation s budget before).pending (pair m n) → AllByRecursion (IsOther m n) more
      → FindsLegally (situation s budget before) (situation s budget (before ++ more))
  finds_in_run before more run there others = run_leaves (start s budget) (start_is_legal s leads budget) before more (of_run (before ++ more) run) there others

pub runs_leave : RunsLeaveTheApart
runs_leave s leads budget before more run m n pending others = (finds_in_run s leads budget m n before more run pending others).same

pub answers_hold_in_runs : AnswersHoldInRuns
answers_hold_in_runs s leads budget before more run job in_it pending others done answers =
    let f = finds_in_run s leads budget job.path job.trans before more run pending others in
    answers_hold_later s (situation s budget before) job in_it done answers (situation s budget (before ++ more)) f.legal f.same
