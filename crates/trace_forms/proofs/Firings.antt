-- What a firing and the start come to, where the names, blocks and types of the specification are such that a trace can tell of them.
use Rattle.std.proofs.Common.{◌≡◌, ℕ, zero, suc, ◌+◌, ◌≤◌, Bool, true, false, List, [], ◌∷◌, length, map, drop, Result, Ok, Err, Option, Some, None, refl, arith, cond, sym, ap, subst, ◌∙◌, ℤ}
use Rattle.std.specs.Prelude.{nat_eq, filter, option_map, unwrap_or}
use Rattle.std.specs.List.{AllByRecursion}
use Rattle.std.specs.FinMap as fin
use Rattle.std.specs.Map.{lookup}
use Rattle.std.specs.Ordering.{eq_by_cmp}
use Rattle.pascal_values.specs.declared.value.Value.{Value}
use Rattle.estelle_tree.specs.declared.link.IpAddr.{IpAddr}
use Rattle.estelle_tree.specs.declared.names.Use.{Use}
use Rattle.estelle_tree.specs.declared.span.Span.{Span}
use Rattle.estelle_tree.specs.declared.tree.name.Name.{Name}
use Rattle.estelle_tree.specs.Paths.{Path, path_cmp}
use Rattle.estelle_tree.specs.Queues as queues
use Rattle.estelle_tree.specs.Queues.{waits_at}
use Rattle.estelle_model.specs.declared.image.Interaction.{Interaction as Item}
use Rattle.estelle_model.specs.declared.denoter.Denoter.{Denoter}
use Rattle.estelle_model.specs.declared.denoter.Host.{Host}
use Rattle.estelle_model.specs.declared.meaning.Meaning.{Meaning}
use Rattle.estelle_model.specs.declared.meaning.Meaning.TheVariants.{Constant}
use Rattle.estelle_model.specs.Core.{Instance, Instances}
use Rattle.estelle_model.specs.Bodies.{BodyAlone, ways_of}
use Rattle.estelle_model.specs.Names.{Declared, at_place, declaration_of, meaning_at, meant_by, or_other, required_meaning}
use Rattle.estelle_model.specs.Transitions.{When, Choice, with_choices, or_unset, choice, choices, ordinals, Transition, flat_one, choices_on, flat_way, flat}
use Rattle.estelle_model.specs.Types.{host_of, value_in}
use Rattle.estelle_model.specs.Meant.{Meanings}
use Rattle.estelle_model.specs.Definitions.{types_received}
use Rattle.estelle_model.specs.Stops.{Stop}
use Rattle.estelle_model.specs.Belonging.{are_values_of}
use Rattle.estelle_model.specs.Steps.{StepResult, Do, ◌>>◌, pure, breaks}
use Rattle.estelle_model.specs.Blocks.{fresh, block_step}
use Rattle.estelle_model.specs.Plans.{carry}
use Rattle.estelle_model.specs.Actions.{enters_state}
use Rattle.estelle_model.specs.Acts.{act}
use Rattle.estelle_model.specs.Clauses.{fire_step, start_step}
use Rattle.estelle_model.specs.Subject.{Subject, declared_in, meant, meant_with, body, of_block, begins, transitions_of, transitions, numbered_one, transition, new_instance, blanks, child_of, no_body}
use Rattle.estelle_model.specs.Bodies.{variable_types}
use Rattle.estelle_model.specs.Situation.{Waiting, Situation, Acting, on_situation}
use Rattle.estelle_model.specs.Queues.{Found, NotNeeded, Head, Absent, one_queue, head_at, is_named, named, found, received}
use Rattle.estelle_model.specs.Firing.{Firing, Ran, Failed, Undefined, begun, done, untimed, taken, fire_with, fire_found, fire_of, fire, transition_at, root, alone, start, bare}
use Rattle.estelle_model.proofs.Maps.{total}
use Rattle.estelle_model.proofs.PrivateParts.{same_path}
use Rattle.trace_forms.specs.Types.{IsReadableType}
use Rattle.trace_forms.proofs.Instances.{PathWithin, path_more, InstanceWithin, AreWithin, within_fewer}
use Rattle.trace_forms.proofs.Values.{Rises, AllRise, blanks_rise, unset_rises, value_in_yields, Yields}
use Rattle.trace_forms.proofs.Readable.{values_readable}
use Rattle.trace_forms.proofs.Named.{named_stmts}
use Rattle.trace_forms.proofs.Sound.{Any, Comes}
use Rattle.trace_forms.proofs.SoundExpressions.{MeaningTold}
use Rattle.trace_forms.proofs.Acts.{Told, IsBare, OutWithin, ItemRises, Within, block_sound}
use Rattle.trace_forms.proofs.Lists.{all_append, all_filter, all_at, all_map, all_flat}

-- constants whose sets rise, routines and blocks whose outputs are named by identifiers, types whose values can be read, and no more transitions than can be numbered
pub record IsTellable (s : Subject) : Type 0 where
  pub told : (x : Name) → MeaningTold Told (meant s x)
  pub begins : (k : ℕ) → Told (begins s k).block
  pub blocks : (k n : ℕ) (t : Transition) → transition s k n ≡ Some t → named_stmts t.block.body ≡ true
  pub few : (k : ℕ) → length (transitions s k) ≤ 4096
  pub types : (x : Name) → AllByRecursion IsReadableType (types_received (meant s x))

-- ---- what names mean where the names of `any` have values

module _ (P : Meaning → Type 0) (constants : (v : Value) (h : Host) → Rises v → P (Constant v h)) (names : List Use) where
  one_more : (known : Declared) (at : ℕ) (v : Value) (h : Host) → Rises v → (x : Name) (o : Option Span) → P (meaning_at known x o) → P (meaning_at ((at, Constant v h) ∷ known) x o)
  one_more known at v h r x None k = k
  one_more known at v h r x (Some decl) k = by (nat_eq decl.end 0) (nat_eq decl.start at) k
    where
      by : (b c : Bool) → P (cond b (required_meaning x.word) (at_place known decl.start)) → P (cond b (required_meaning x.word) (or_other (cond c (Some (Constant v h)) (lookup (nat_eq decl.start) known))))
      by true c p = p
      by false true p = constants v h r
      by false false p = p

  with_all_choices : (cs : List Choice) (known : Declared) → AllByRecursion (λ (c : Choice). Rises c.value) cs → ((x : Name) → P (meant_by names known x)) → (x : Name) → P (meant_by names (with_choices known cs) x)
  with_all_choices [] known r h = h
  with_all_choices (c ∷ cs) known r h = with_all_choices cs ((c.at, Constant c.value c.host) ∷ known) r.1 (λ x. one_more known c.at c.value c.host r.0 x (declaration_of names x) (h x))

-- ---- the values of the names of `any`

abbrev Chosen : List Choice → Type 0
Chosen = AllByRecursion (λ (c : Choice). Rises c.value)

module _ (known : Meanings) where
  choice_rises : (x : Name) (t : Denoter) (n : ℤ) → Rises (choice known x t n).value
  choice_rises x t n = by (value_in (host_of t) n) (value_in_yields (host_of t) n)
    where
      by : (r : Result Value Stop) → Yields r → Rises (or_unset known r)
      by (Ok v) h = h
      by (Err e) h = unset_rises

  choices_rise : (xs : List (Name × Denoter)) → AllByRecursion Chosen (choices known xs)
  choices_rise [] = (tt, tt)
  choices_rise (x ∷ xs) = all_flat Chosen (λ n. map (λ cs. choice known x.0 x.1 n ∷ cs) (choices known xs))
      (λ n. all_map Chosen Chosen (λ cs. choice known x.0 x.1 n ∷ cs) (λ cs h. (choice_rises x.0 x.1 n, h)) (choices known xs) (choices_rise xs)) (ordinals known x.1)

abbrev ChosenRise : Transition → Type 0
ChosenRise t = Chosen t.chosen

flat_rises : (means : List Choice → Meanings) (b : BodyAlone) → AllByRecursion ChosenRise (flat means b)
flat_rises means b = all_flat ChosenRise (flat_way means) (λ w. all_map Chosen ChosenRise (flat_one means w) (λ cs h. h) (choices_on means w) (choices_rise (means []) _)) (ways_of b)

pub chosen_rise : (s : Subject) (k n : ℕ) (t : Transition) → transition s k n ≡ Some t → Chosen t.chosen
chosen_rise s k n t e = by n (body s k) e
  where
    by : (n : ℕ) (o : Option BodyAlone) → numbered_one (transitions_of s o) n ≡ Some t → Chosen t.chosen
    by zero o e = absurd (cc)
    by (suc n) None e = absurd (cc)
    by (suc n) (Some b) e = all_at ChosenRise (flat (meant_with s) b) n t (flat_rises (meant_with s) b) e

-- ---- a situation between events

pub record IsWithin (n : ℕ) (g : Situation) : Type 0 where
  pub instances : AreWithin Rises n 0 g.core.instances
  pub mail : AllByRecursion ItemRises g.mail

pub within_more : (n m b : ℕ) (x : Instances) → n + b ≤ m → AreWithin Rises n 0 x → AreWithin Rises m b x
within_more n m b x h k = record {
  room = omega (arith, h);
  each = λ p i there. let e = k.each p i there in record { path = path_more n m p (omega (arith, h)) e.path; births = let y = e.births in omega (arith, y, h); values = e.values };
}

pub later_within : (n m : ℕ) (g : Situation) → n ≤ m → IsWithin n g → IsWithin m g
later_within n m g h k = record { instances = within_more n m 0 g.core.instances (omega (arith, h)) k.instances; mail = k.mail }

-- ---- what a firing receives

heads_rise : (a : IpAddr) (ws : List Waiting) (i : Item) → AllByRecursion ItemRises ws → head_at a ws ≡ Head i → AllRise i.values
heads_rise a [] i h e = absurd (cc)
heads_rise a (w ∷ ws) i h e = by (waits_at a w) e
  where
    by : (b : Bool) → cond b (Head w.item) Absent ≡ Head i → AllRise i.values
    by true f = let is : w.item ≡ i = cc in subst (λ (j : Item). AllRise j.values) is h.0
    by false f = absurd (cc)

named_rises : (o : Option When) (f : Found) (i : Item) → ((j : Item) → f ≡ Head j → AllRise j.values) → named o f ≡ Head i → AllRise i.values
named_rises o NotNeeded i h e = absurd (cc)
named_rises o Absent i h e = absurd (cc)
named_rises o (Head j) i h e = by (is_named j o) e
  where
    by : (b : Bool) → cond b (Head j) Absent ≡ Head i → AllRise i.values
    by true f = let is : j ≡ i = cc in subst (λ (k : Item). AllRise k.values) is (h j refl)
    by false f = absurd (cc)

received_rises : (s : Subject) (g : Situation) (p : Path) (o : Option When) (i : Item) → AllByRecursion ItemRises g.mail → received s g p o ≡ Head i → AllRise i.values
received_rises s g p None i h e = absurd (cc)
received_rises s g p (Some w) i h e = named_rises (Some w) (found s g p (Some w)) i
    (λ j. heads_rise (record { path = p; ip = w.ip }) (filter (λ v. one_queue s g.core.instances (record { path = p; ip = w.ip }) v.at) g.mail) j (all_filter ItemRises (λ v. one_queue s g.core.instances (record { path = p; ip = w.ip }) v.at) g.mail h)) e

without_rises : (belongs : IpAddr → Bool) (ws : List Waiting) → AllByRecursion ItemRises ws → AllByRecursion ItemRises (queues.without_head belongs ws)
without_rises belongs [] h = tt
without_rises belongs (w ∷ ws) h = by (belongs w.at) (without_rises belongs ws h.1)
  where
    by : (b : Bool) → AllByRecursion ItemRises (queues.without_head belongs ws) → AllByRecursion ItemRises (cond b ws (w ∷ queues.without_head belongs ws))
    by true rest = h.1
    by false rest = (h.0, rest)

taken_within : (n : ℕ) (s : Subject) (g : Situation) (p : Path) (o : Option When) → IsWithin n g → IsWithin n (taken s g p o)
taken_within n s g p None h = h
taken_within n s g p (Some w) h = record { instances = h.instances; mail = without_rises (one_queue s g.core.instances (record { path = p; ip = w.ip })) g.mail h.mail }

-- ---- firings

-- what a firing comes to
abbrev pub FiredWithin : ℕ → Firing → Type 0
FiredWithin m (Ran after outs drops left) = IsWithin m after × AllByRecursion (OutWithin m) outs
FiredWithin m (Failed kind left) = Unit {0}
FiredWithin m Undefined = Unit {0}

module _ (s : Subject) (tellable : IsTellable s) where
  bare_child : (k : ℕ) → IsBare (child_of s k)
  bare_child k = record {
    births = λ values. refl;
    values = λ values h. all_append Rises values (blanks (drop (length values) (variable_types (meant s) (unwrap_or (body s k) no_body)))) h (blanks_rise _);
    block = tellable.begins k;
  }

  done_within : (m : ℕ) (o : StepResult Acting (Unit {0})) → Comes Acting (Within m 0) Any o → FiredWithin m (done o)
  done_within m (Ok r) h = (record { instances = within_fewer Rises m (r.1.left + 0) 0 r.1.state.situation.core.instances (omega arith) h.1.instances; mail = h.1.mail }, h.1.outs)
  done_within m (Err e) h = tt

  module _ (budget n m : ℕ) (room : n + budget ≤ m) where
    begun_within : (g : Situation) → IsWithin n g → Within m 0 (fresh (begun g) budget)
    begun_within g h = record { instances = within_more n m (budget + 0) g.core.instances (omega (arith, room)) h.instances; outs = tt; frames = tt; mail = h.mail }

    module _ (g : Situation) (within : IsWithin n g) (p : Path) where
      with_within : (t : Transition) → named_stmts t.block.body ≡ true → Chosen t.chosen → (values : List Value) → AllRise values → FiredWithin m (fire_with s budget g p t values)
      with_within t good rise values y = done_within m (fire_step Acting on_situation s p t values (fresh (begun (taken s g p t.when)) budget)) (tested (are_values_of t.received values)
          (block_sound m s (meant_with s t.chosen)
          (with_all_choices (MeaningTold Told) (λ v h r. r) s.names t.chosen (declared_in s) rise tellable.told)
          (λ x vs e r. values_readable (types_received (meant_with s t.chosen x)) vs (with_all_choices (λ k. AllByRecursion IsReadableType (types_received k)) (λ v h r. tt) s.names t.chosen (declared_in s) rise tellable.types x) e r)
          bare_child p (of_block (meant_with s t.chosen) t.received t.block) good values y t.to (fresh (begun (taken s g p t.when)) budget)
          (begun_within (taken s g p t.when) (taken_within n s g p t.when within))))
        where
          runs : Do Acting
          runs = block_step Acting on_situation (meant_with s t.chosen) (act Acting on_situation s (meant_with s t.chosen)) p (of_block (meant_with s t.chosen) t.received t.block) values

          -- what is received is tested first
          tested : (b : Bool) → Comes Acting (Within m 0) {A = Unit {0}} Any ((runs >> carry Acting on_situation (enters_state s p t.to)) (fresh (begun (taken s g p t.when)) budget))
              → Comes Acting (Within m 0) {A = Unit {0}} Any ((cond b (pure (tt {0})) breaks >> runs >> carry Acting on_situation (enters_state s p t.to)) (fresh (begun (taken s g p t.when)) budget))
          tested true h = h
          tested false h = tt

      found_within : (t : Transition) → named_stmts t.block.body ≡ true → Chosen t.chosen → (f : Found) → received s g p t.when ≡ f → FiredWithin m (fire_found s budget g p t f)
      found_within t good rise NotNeeded e = with_within t good rise [] tt
      found_within t good rise (Head i) e = with_within t good rise i.values (received_rises s g p t.when i within.mail e)
      found_within t good rise Absent e = tt

      of_within : (k : ℕ) (o : Option Instance) → FiredWithin m (fire_of s budget g p (transition_at s k o))
      of_within k None = tt
      of_within k (Some i) = by (transition s i.body k) refl
        where
          by : (o : Option Transition) → transition s i.body k ≡ o → FiredWithin m (fire_of s budget g p o)
          by None e = tt
          by (Some t) e = found_within t (tellable.blocks i.body k t e) (chosen_rise s i.body k t e) (received s g p t.when) refl

      pub fire_within : (k : ℕ) → FiredWithin m (fire s budget g p k)
      fire_within k = by (fire_of s budget g p (transition_at s k (fin.get g.core.instances p))) (of_within k (fin.get g.core.instances p))
        where
          by : (f : Firing) → FiredWithin m f → FiredWithin m (untimed p k f)
          by (Ran after outs drops left) h = (record { instances = h.0.instances; mail = h.0.mail }, h.1)
          by (Failed kind left) h = tt
          by Undefined h = tt

  -- ---- the start

  root_within : (o : Option Instance) → ((i : Instance) → o ≡ Some i → (i.births ≡ 0) × AllRise i.variables) → AreWithin Rises 0 0 (alone o)
  root_within None h = record { room = omega arith; each = λ p i e. absurd (let none : None ≡ Some i = sym (fin.get-empty {X = Instance} path_cmp p) ∙ e in cc) }
  root_within (Some z) h = record { room = omega arith; each = λ p i e. by p i (eq_by_cmp path_cmp p []) refl (sym (fin.get-insert total fin.empty [] z p) ∙ e) }
    where
      by : (p : Path) (i : Instance) (b : Bool) → eq_by_cmp path_cmp p [] ≡ b → cond (eq_by_cmp path_cmp p []) (Some z) (fin.get (fin.empty {X = Instance} {R = path_cmp}) p) ≡ Some i → InstanceWithin Rises 0 0 p i
      by p i true is e =
          let made : Some z ≡ Some i = ap (λ b. cond b (Some z) (fin.get (fin.empty {X = Instance} {R = path_cmp}) p)) (sym is) ∙ e in
          let its = h i (made) in
          record { path = subst (PathWithin 0) (sym (same_path p [] is)) tt; births = let b = its.0 in omega (arith, b); values = its.1 }
      by p i false is e = absurd (let none : None ≡ Some i = sym (fin.get-empty {X = Instance} path_cmp p) ∙ ap (λ b. cond b (Some z) (fin.get (fin.empty {X = Instance} {R = path_cmp}) p)) (sym is) ∙ e in cc)

  bare_root : (o : Option BodyAlone) (i : Instance) → option_map (λ b. new_instance s 0 b []) o ≡ Some i → (i.births ≡ 0) × AllRise i.variables
  bare_root None i e = absurd (cc)
  bare_root (Some b) i e = let is : new_instance s 0 b [] ≡ i = cc in subst (λ (j : Instance). (j.births ≡ 0) × AllRise j.variables) is (refl, blanks_rise _)

  pub bare_within : IsWithin 0 (bare s)
  bare_within = record { instances = root_within (root s) (bare_root (body s 0)); mail = tt }

  pub start_within : (budget : ℕ) → FiredWithin budget (start s budget)
  start_within budget = done_within budget (start_step Acting on_situation s (fresh (begun (bare s)) budget))
      (block_sound budget s (meant s) tellable.told (λ x vs e r. values_readable (types_received (meant s x)) vs (tellable.types x) e r) bare_child [] (begins s 0).block (tellable.begins 0) [] tt (begins s 0).to (fresh (begun (bare s)) budget)
      (begun_within budget 0 budget (omega arith) (bare s) bare_within))
