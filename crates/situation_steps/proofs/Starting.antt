-- After the start the run goes on, and every system awaits a selection.
use Rattle.std.proofs.Common.{◌≡◌, ℕ, true, false, List, [], ◌∷◌, map as each, refl, sym, ap, subst, ◌∙◌, arith}
use Rattle.std.specs.Prelude.{is_some}
use Rattle.std.specs.List.{AllByRecursion}
use Rattle.std.specs.FinMap as map
use Rattle.std.specs.FinMap.{get-empty}
use Rattle.estelle_tree.specs.Paths.{Path}
use Rattle.estelle_tree.specs.Timers.{Timers, pair, pair_cmp}
use Rattle.estelle_model.specs.declared.effect.Effect.{Effect}
use Rattle.estelle_model.specs.declared.event.Event.{Event}
use Rattle.estelle_model.specs.declared.event.Event.TheVariants.{Start}
use Rattle.estelle_model.specs.declared.image.Image.{Image}
use Rattle.estelle_model.specs.Subject.{Subject}
use Rattle.estelle_model.specs.Situation.{Situation, Acting}
use Rattle.estelle_model.specs.Firing.{Firing, begun, bare, start}
use Rattle.estelle_model.specs.Runs.{Begins, started, situation}
use Rattle.estelle_model.specs.Jobs.{put, IsPut}
use Rattle.estelle_model.proofs.PrivateParts.{remove_empty}
use Rattle.estelle_model_legality.specs.Instances.{LeadsToStates}
use Rattle.estelle_model_legality.specs.Keeping.{IsStarted}
use Rattle.estelle_model_legality.specs.Situations.{IsLegal}
use Rattle.estelle_model_legality.proofs.Started.{start_is_legal}
use Rattle.situation_steps.specs.declared.systems.System.{System}
use Rattle.situation_steps.specs.Systems.{systems_of, is_awaiting, count_inside, first_kept, IsKept}
use Rattle.situation_steps.specs.UnderWay.{AreBelowSystems, HasRoot, IsSettledIfDone}
use Rattle.situation_steps.specs.Laws.{HasBegun, StartsGoOn}
use Rattle.estelle_model_apart.proofs.Rest.{SameRest, all_rest}
use Rattle.situation_steps.proofs.Roots.{has_root, bare_root, root_stays}

-- without timers, all of them are below systems
none_below : (s : Subject) (g : Situation) → g.timers ≡ map.empty → AreBelowSystems s g
none_below s g e p there =
    let wrong : false ≡ true = sym (ap (λ (ts : Timers). map.contains_key ts p) e ∙ ap is_some (get-empty pair_cmp p)) ∙ there in
    absurd (cc)

module _ (s : Subject) (budget : ℕ) (es : List Event) (g : Situation) (is : situation s budget es ≡ g) (none : g.pending ≡ []) (waits : (p : Path) → true ≡ is_awaiting s budget es 0 p) where
  all_kept : (ps : List Path) → AllByRecursion (IsKept s budget es 0) (each first_kept ps)
  all_kept [] = tt
  all_kept (p ∷ ps) = (record { awaits = waits p; pending = sym (ap (λ (h : Situation). count_inside p h.pending) is ∙ ap (count_inside p) none) }, all_kept ps)

all_settled : (s : Subject) (budget : ℕ) (g : Situation) (ps : List Path) → AllByRecursion (IsSettledIfDone s budget g) (each first_kept ps)
all_settled s budget g [] = tt
all_settled s budget g (p ∷ ps) = ((λ waits none. absurd (let wrong : true ≡ false = waits in cc)), all_settled s budget g ps)

same_paths : (ps : List Path) → each (λ (x : System). x.path) (each first_kept ps) ≡ ps
same_paths [] = refl
same_paths (p ∷ ps) = ap (λ (qs : List Path). p ∷ qs) (same_paths ps)

module _ (s : Subject) (leads : LeadsToStates s) (budget : ℕ) (image : Image) (effects : List Effect) (left : ℕ) (p : IsPut s [] 0 (bare s) image effects left (start s budget)) where
  abbrev a : Acting
  a = put [] p.log image.parts (begun (bare s))

  abbrev es : List Event
  es = Start a.outs a.drops ∷ []

  rest : SameRest (bare s) a.situation
  rest = let r = all_rest p.log (begun (bare s)) in record { timers = r.timers; now = r.now; pending = r.pending }

  same_timers : map.remove a.situation.timers (pair [] 0) ≡ a.situation.timers
  same_timers = ap (λ (ts : Timers). map.remove ts (pair [] 0)) rest.timers ∙ remove_empty (pair [] 0) ∙ sym rest.timers

  is : situation s budget es ≡ a.situation
  is = ap (started s) p.result ∙ (λ i. record a.situation { timers = same_timers i })

  has_begun : (systems : List System) → systems ≡ each first_kept (systems_of s a.situation) → HasBegun s budget a systems
  has_begun systems are = record {
    under_way = record {
      run = subst (λ (x : Firing). Begins s budget x (Start a.outs a.drops) []) (sym p.result) (refl, refl, tt);
      goes_on = tt;
      legal = subst (IsLegal s) (sym (ap (started s) p.result)) (subst (IsStarted s) p.result (start_is_legal s leads budget));
      root = subst HasRoot (sym is) (has_root a.situation (root_stays s 0 (bare s) image effects left (start s budget) [] p ∙ bare_root s));
      below = subst (AreBelowSystems s) (sym is) (none_below s a.situation rest.timers);
      untimed = λ none. ap (λ (g : Situation). g.timers) is ∙ rest.timers;
      no_later = let now : (situation s budget es).now ≡ 0 = ap (λ (g : Situation). g.now) is ∙ rest.now in omega (arith, now);
      undelayed = λ none. refl;
      waited = omega arith;
      fires_first = λ waited. absurd (let wrong : true ≡ false = waited in cc);
      all = ap (each (λ (x : System). x.path)) are ∙ same_paths (systems_of s a.situation) ∙ ap (systems_of s) (sym is);
      kept = subst (AllByRecursion (IsKept s budget es 0)) (sym are) (all_kept s budget es a.situation is rest.pending (λ q. refl) (systems_of s a.situation));
      settled = subst (AllByRecursion (IsSettledIfDone s budget (situation s budget es))) (sym are) (all_settled s budget (situation s budget es) (systems_of s a.situation));
    };
    situation_is = is;
  }

pub starts_go_on : StartsGoOn
starts_go_on s leads budget image effects left p systems are = has_begun s leads budget image effects left p systems are
