-- The start leads to a legal situation.
use Rattle.std.proofs.Common.{◌≡◌, ℕ, Bool, true, false, List, [], ◌∷◌, length, Ok, Err, Option, Some, None, cond, refl, sym, ap, subst, ◌∙◌, inl, inr, arith}
use Rattle.std.specs.Prelude.{nat_eq, slice_get, Contains}
use Rattle.std.specs.Option.{option_map}
use Rattle.std.specs.List.{IsDistinct}
use Rattle.std.specs.FinMap as fin
use Rattle.std.specs.FinMap.{get-insert, get-empty}
use Rattle.std.specs.Cmp.Lexicographic.{nat_list_cmp_total}
use Rattle.estelle_tree.specs.declared.link.Link.{Link}
use Rattle.estelle_tree.specs.declared.transition.Pair.{Pair}
use Rattle.estelle_tree.specs.Timers.{Timer, Timers, pair_cmp}
use Rattle.estelle_tree.specs.Paths.{Path, path_cmp, child, is_inside}
use Rattle.estelle_model.specs.Core.{Instance}
use Rattle.estelle_model.specs.Bodies.{BodyAlone, variable_types, states_in, module_variables_in}
use Rattle.estelle_model.specs.Effects.{Enter, changed, changed_in}
use Rattle.estelle_model.specs.Steps.{Running, StepResult, and_then}
use Rattle.estelle_model.specs.Subject.{Subject, body, begins, new_instance, meant}
use Rattle.estelle_model.specs.Blocks.{fresh, block_step}
use Rattle.estelle_model.specs.Situation.{Situation, Acting, on_situation, situation_kept}
use Rattle.estelle_model.specs.Plans.{carry}
use Rattle.estelle_model.specs.Actions.{enters_state}
use Rattle.estelle_model.specs.Acts.{act}
use Rattle.estelle_model.specs.Attributes.{may_have_transitions}
use Rattle.estelle_model.specs.Firing.{alone, root, bare, begun, done, start}
use Rattle.estelle_model_legality.specs.Instances.{IsStateOf, LeadsToStates, IsOfBodyBut}
use Rattle.estelle_model_legality.specs.Situations.{IsLegal}
use Rattle.estelle_model_legality.specs.Keeping.{IsStarted}
use Rattle.estelle_model_legality.proofs.Lists.{in_none, in_head, in_cases, some_is, not_more}
use Rattle.estelle_model_legality.proofs.Ways.{child_not_root}
use Rattle.estelle_model_legality.proofs.Lookups.{same, same_is, Lookup, changed_at, get_changed, changed_here, changed_was}
use Rattle.estelle_model_legality.proofs.Belonging.{values_new}
use Rattle.estelle_model_legality.proofs.Standing.{Stands, stands_of, of_stands, stands_changed}
use Rattle.estelle_model_legality.proofs.Leaving.{root_settled}
use Rattle.estelle_model_legality.proofs.Effects.{of_waits}
use Rattle.estelle_model_legality.proofs.Within.{Within, Outside, Comes, mark, mapped_there}
use Rattle.estelle_model_legality.proofs.Steps.{rewritten}
use Rattle.estelle_model_legality.proofs.Running.{none_held, none_length, block_keeps}

none_distinct : IsDistinct nat_eq []
unfolding IsDistinct
none_distinct = tt

abbrev pub only : Option Instance → Lookup
only o q = cond (same q []) o None

pub only_there : (o : Option Instance) (q : Path) → fin.get (alone o) q ≡ only o q
only_there None q = get-empty path_cmp q ∙ by (same q [])
  where
    by : (b : Bool) → ◌≡◌ {A = Option Instance} None (cond b None None)
    by true = refl
    by false = refl
only_there (Some i) q = get-insert nat_list_cmp_total fin.empty [] i q ∙ ap (cond (same q []) (Some i)) (get-empty path_cmp q)

pub only_was : (o : Option Instance) (q : Path) (i : Instance) → only o q ≡ Some i → (q ≡ []) × (o ≡ Some i)
only_was o q i h = by (same q []) refl h
  where
    by : (b : Bool) → same q [] ≡ b → cond b o None ≡ Some i → (q ≡ []) × (o ≡ Some i)
    by true e g = (same_is q [] e, g)
    by false e g = absurd (cc)

pub root_was : (s : Subject) (o : Option BodyAlone) (i : Instance) → option_map (λ b. new_instance s 0 b []) o ≡ Some i → (b : BodyAlone) × (o ≡ Some b) × (new_instance s 0 b [] ≡ i)
root_was s None i h = absurd (cc)
root_was s (Some b) i h = (b, refl, cc)

module _ (s : Subject) (leads : LeadsToStates s) (budget : ℕ) where
  bare_stands : Stands s ([] ∷ []) (only (root s))
  bare_stands = record {
    bodies = λ p i h.
        let x = only_was (root s) p i h in
        let b = root_was s (body s 0) i x.1 in (
          b.0,
          sym (ap (λ (z : Instance). body s z.body) b.2) ∙ b.1,
          subst (λ (z : Instance). IsOfBodyBut s (Contains ([] ∷ []) p) b.0 z) b.2 (record {
            variables = values_new [] (variable_types (meant s) b.0) [] refl;
            state = inl (subst (λ (z : Path). Contains ([] ∷ []) z) (sym x.0) (in_head Path [] []), refl);
            module_variables = none_length (length (module_variables_in b.0)) None;
          }),
        );
    holds = λ p i m c h held.
        let x = only_was (root s) p i h in
        let b = root_was s (body s 0) i x.1 in
        absurd (none_held (length (module_variables_in b.0)) m c (ap (λ (z : Instance). slice_get z.module_variables m) b.2 ∙ held));
    parents = λ p k i h. absurd (child_not_root p k (only_was (root s) (child p k) i h).0);
    transitions = λ p i h.
        let x = only_was (root s) p i h in
        let b = root_was s (body s 0) i x.1 in
        sym (ap (λ (z : Instance). may_have_transitions s z.body) b.2) ∙ leads.root;
  }

  bare_within : Within s ([] ∷ []) (bare s)
  bare_within = record {
    types = refl;
    instances = of_stands s ([] ∷ []) (only (root s)) (alone (root s)) (only_there (root s)) bare_stands;
    links = record { each = λ l c. absurd (in_none Link l c); bound_once = λ a. omega arith; upper_once = λ a. omega arith };
    mail = of_waits s (bare s) (record { each = tt; distinct = none_distinct; made = tt });
  }

  -- the initialization's block keeps what holds before it
  pub start_block : Comes s ([] ∷ []) [] (Unit {0}) (bare s) (block_step Acting on_situation (meant s) (act Acting on_situation s (meant s)) [] (begins s 0).block [] (fresh (begun (bare s)) budget))
  start_block = block_keeps s leads (meant s) (λ x. ([], refl)) ([] ∷ []) [] (λ p c. elim (in_cases Path p [] [] c) [ inl e ↦ ap (λ (z : Path). is_inside z []) e | inr n ↦ absurd (in_none Path p n) ]) (begins s 0).block [] (fresh (begun (bare s)) budget) bare_within

  -- the root is of the specification's body
  root_mark : (h : Situation) → Outside [] (bare s) h → (i : Instance) → fin.get h.core.instances [] ≡ Some i → (i.body ≡ 0) × (i.state ≡ None)
  root_mark h o i there =
      let j = mapped_there mark (fin.get h.core.instances []) (fin.get (alone (root s)) []) i (sym o.itself) there in
      let x = only_was (root s) [] j.0 (sym (only_there (root s) []) ∙ j.1) in
      let b = root_was s (body s 0) j.0 x.1 in
      (sym (ap (λ (z : Instance). z.body) j.2) ∙ sym (ap (λ (z : Instance). z.body) b.2), sym (ap (λ (z : Instance). z.state) j.2) ∙ sym (ap (λ (z : Instance). z.state) b.2))

  whole : (h : Situation) → Within s ([] ∷ []) h → h.pending ≡ [] → h.timers ≡ fin.empty → ((i : Instance) (b : BodyAlone) → fin.get h.core.instances [] ≡ Some i → body s i.body ≡ Some b → IsStateOf (length (states_in b)) i.state) → IsLegal s h
  whole h w p t settled = record {
    types = w.types;
    instances = of_stands s [] (fin.get h.core.instances) h.core.instances (λ q. refl) (root_settled s (fin.get h.core.instances) (stands_of s ([] ∷ []) h.core.instances w.instances) settled);
    links = w.links;
    mail = w.mail;
    pending = record {
      each = λ q c. absurd (in_none Pair q (subst (λ (ps : List Pair). Contains ps q) p c));
      apart = λ i j x y n a b. absurd (let none : ◌≡◌ {A = Option Pair} None (Some x) = sym (ap (λ (ps : List Pair). slice_get ps i) p) ∙ a in cc);
    };
    timers = λ q x at. absurd (let none : ◌≡◌ {A = Option Timer} None (Some x) = sym (get-empty pair_cmp q) ∙ sym (ap (λ (z : Timers). fin.get z q) t) ∙ at in cc);
  }

  settled_start : (to : Option ℕ) → (begins s 0).to ≡ to → (u : Running Acting) → Within s ([] ∷ []) u.state.situation → Outside [] (bare s) u.state.situation → IsStarted s (done (carry Acting on_situation (enters_state s [] to) u))
  settled_start None is u v o = whole u.state.situation v o.pending o.timers
      (λ i b there at. let r = root_mark u.state.situation o i there in
      subst (IsStateOf (length (states_in b))) (is ∙ sym r.1) (leads.initial 0 b (sym (ap (body s) r.0) ∙ at)))
  settled_start (Some state) is u v o =
      let h = u.state.situation in
      let f = changed (Enter state) in
      let may : (i : Instance) (b : BodyAlone) → fin.get h.core.instances [] ≡ Some i → body s i.body ≡ Some b → IsStateOf (length (states_in b)) (Some state) =
      λ i b there at. subst (IsStateOf (length (states_in b))) is (leads.initial 0 b (sym (ap (body s) (root_mark h o i there).0) ∙ at)) in
      whole (situation_kept [] (Enter state) h)
      (rewritten s ([] ∷ []) [] h v ([] ∷ []) [] f (λ j. refl)
      (of_stands s ([] ∷ []) (changed_at [] f (fin.get h.core.instances)) (changed_in [] f h.core.instances) (get_changed [] f h.core.instances)
      (stands_changed s ([] ∷ []) [] f (fin.get h.core.instances) (stands_of s ([] ∷ []) h.core.instances v.instances) (λ j. refl) (λ j. refl) (λ j. not_more j.births)
      (λ j b there at k. record { variables = k.variables; module_variables = k.module_variables; state = inr (may j b there at) }))))
      o.pending o.timers
      (λ i b there at.
      let was = changed_was [] f (fin.get h.core.instances) [] i (sym (get_changed [] f h.core.instances []) ∙ there) in
      let now : i ≡ f was.0 = some_is i (f was.0) (fin.get (changed_in [] f h.core.instances) []) there (get_changed [] f h.core.instances [] ∙ changed_here [] f (fin.get h.core.instances) ∙ ap (option_map f) was.1) in
      subst (λ (z : Instance). IsStateOf (length (states_in b)) z.state) (sym now) (may was.0 b was.1 (sym (ap (λ (z : Instance). body s z.body) now) ∙ at)))

  started_block : (o : StepResult Acting (Unit {0})) → Comes s ([] ∷ []) [] (Unit {0}) (bare s) o → IsStarted s (done (and_then o (λ _. carry Acting on_situation (enters_state s [] (begins s 0).to))))
  started_block (Ok r) c = settled_start (begins s 0).to refl r.1 c.0 c.1
  started_block (Err e) c = tt

  pub start_is_legal : IsStarted s (start s budget)
  start_is_legal = started_block (block_step Acting on_situation (meant s) (act Acting on_situation s (meant s)) [] (begins s 0).block [] (fresh (begun (bare s)) budget)) start_block
