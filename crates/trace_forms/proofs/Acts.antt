-- Within a firing paths and births stay within bounds, sets rise, and each output has the form that a trace can tell.
use Rattle.std.proofs.Common.{◌≡◌, ℕ, zero, suc, ◌+◌, ◌-◌, ◌<◌, Bool, true, false, ◌&&◌, List, [], ◌∷◌, ◌++◌, map, length, take, Result, Ok, Err, Option, Some, None, refl, arith, cond, sym, subst, ap, ◌∙◌, ◌≤◌, inl}
use Rattle.std.specs.Prelude.{slice_get, slice_index_or, nat_lt, is_none, not, filter}
use Rattle.std.specs.List.{AllByRecursion}
use Rattle.std.specs.FinMap as fin
use Rattle.std.specs.Str.{bytes_eq}
use Rattle.pascal_values.specs.declared.fault.Fault.TheVariants as fault
use Rattle.pascal_values.specs.declared.value.Value.{Value}
use Rattle.pascal_values.specs.declared.value.Value.TheVariants as value
use Rattle.pascal_values.specs.Values.{into, part_of, parts_of, with_part}
use Rattle.pascal_values.specs.Texts.{IsReadable}
use Rattle.estelle_tree.specs.declared.link.IpAddr.{IpAddr}
use Rattle.estelle_tree.specs.declared.link.Link.{Link}
use Rattle.estelle_tree.specs.declared.tree.name.Name.{Name}
use Rattle.estelle_tree.specs.Paths.{Path, child}
use Rattle.estelle_tree.specs.Links.{route, bottom, attachment}
use Rattle.estelle_tree.specs.Queues.{waits_at, waits_inside, brought_to, moved}
use Rattle.estelle_model.specs.declared.image.Interaction.{Interaction as Item}
use Rattle.estelle_model.specs.declared.effect.Out.{Out}
use Rattle.estelle_model.specs.Core.{Instance, Instances, Core}
use Rattle.estelle_model.specs.InteractionPoints.{point, point_of}
use Rattle.estelle_model.specs.Effects as effect
use Rattle.estelle_model.specs.Effects.{StatementEffect, Change, Store, Hold, Enter, changed, changed_in, born, instances_after}
use Rattle.estelle_model.specs.declared.meaning.Passing.TheVariants.{ByValue}
use Rattle.estelle_model.specs.declared.meaning.Routine.{Routine}
use Rattle.estelle_model.specs.declared.meaning.Meaning.{Meaning}
use Rattle.estelle_model.specs.declared.meaning.Meaning.TheVariants.{Module, Body, Interaction}
use Rattle.estelle_model.specs.Meant.{Meanings, result_types, result_number}
use Rattle.estelle_model.specs.Belonging.{are_values_of}
use Rattle.estelle_model.specs.Places.{held, of_variables}
use Rattle.estelle_model.specs.declared.place.Place.{Place}
use Rattle.estelle_model.specs.declared.place.Place.TheVariants.{Of, In}
use Rattle.estelle_model.specs.declared.place.Environment.{Environment}
use Rattle.estelle_model.specs.declared.place.ActualParameters.{ActualParameters}
use Rattle.estelle_model.specs.Expressions.{Operand, give_all, no_arguments}
use Rattle.estelle_model.specs.Statements.{Statement, Init, stmts}
use Rattle.estelle_model.specs.Plans.{Plan, Spends, carry}
use Rattle.estelle_model.specs.Actions.{is_sent_at, may_hold, may_begin, begins_child, holds_child, enters_state, given_types, plan_of}
use Rattle.estelle_model.specs.Acts.{create, init_of, act}
use Rattle.estelle_model.specs.Definitions.{types_received}
use Rattle.estelle_model.specs.Stops.{Stop, Faults, Broken}
use Rattle.estelle_model.specs.Steps.{Running, StepResult, Step, Do, and_then, ◌>>=◌, ◌>>◌, pure, fail, spend}
use Rattle.estelle_model.specs.Calls.{Enters, call_by, blank, frame_of, last_or, enter, leave, within, nested, max_depth}
use Rattle.estelle_model.specs.Blocks.{from_block, given_values, block_step}
use Rattle.estelle_model.specs.Subject.{Subject, Child, child_of}
use Rattle.estelle_model.specs.Situation.{Waiting, arrived, mail_after, Acting, on_situation, outs_after}
use Rattle.estelle_model.proofs.Units.{Each}
use Rattle.estelle_model.proofs.Carried.{price, Fits, KeepsHolding, Holding, carried_holds}
use Rattle.estelle_model.proofs.Stated.{OutputStated, CreateStated, IsStated, IsStatedChange, Any as Anything, stated, unsaid, begins_fits, enters_fits, holds_fits, plan_fits}
use Rattle.estelle_model.proofs.ActsKept.{begun_keeps}
use Rattle.estelle_model.proofs.AlikeFirings.{situation_is_faithful}
use Rattle.estelle_model_legality.proofs.Lists.{and_both}
use Rattle.trace_text.specs.Forms.{IsName}
use Rattle.trace_forms.proofs.Instances.{PathWithin, path_child, AreWithin, within_fewer, within_changed, within_removed, within_created}
use Rattle.trace_forms.proofs.Values.{Rises, AllRise, all_changed, parts_rise, part_rises, with_part_rises, fields_rise, unset_rises, blanks_rise}
use Rattle.trace_forms.proofs.Named.{is_name, name_is, named_stmts}
use Rattle.trace_forms.proofs.Sound.{Any, GivenRise, IsClosed, Comes, Gives, OperandSound, CallSound, comes_then, then_sound, pure_any, stop_sound, seq_sound, spend_sound, give_all_sound}
use Rattle.trace_forms.proofs.SoundExpressions.{MeaningTold}
use Rattle.trace_forms.proofs.SoundStatements.{ActNamed, ActSound, stmts_sound}
use Rattle.trace_forms.proofs.Lists.{all_append, all_filter, all_at}

-- effects that make no output and no child
abbrev pub IsFree : StatementEffect → Type 0
IsFree (effect.Output from ip name values) = ⊥
IsFree (effect.Create p k i) = ⊥
IsFree _ = Unit {0}

-- a routine whose outputs are named by identifiers
abbrev pub Told : Routine → Type 0
Told r = named_stmts r.body ≡ true

-- the child of a body that is made has had none, its block is told, and its variables begin with the parameters
pub record IsBare (new : Child) : Type 0 where
  pub births : (values : List Value) → (new.with_parameters values).births ≡ 0
  pub values : (values : List Value) → AllRise values → AllRise (new.with_parameters values).variables
  pub block : Told new.block

pub record OutWithin (n : ℕ) (o : Out) : Type 0 where
  pub path : PathWithin n o.path
  pub ip : IsName o.ip
  pub name : IsName o.name
  pub values : AllByRecursion IsReadable o.values

-- what waits has values in which sets rise
abbrev pub ItemRises : Waiting → Type 0
ItemRises w = AllRise w.item.values

-- the invariant, with so many births more to come than units are left: as many as are in hand
pub record Within (n slack : ℕ) (t : Running Acting) : Type 0 where
  pub instances : AreWithin Rises n (t.left + slack) t.state.situation.core.instances
  pub outs : AllByRecursion (OutWithin n) t.state.outs
  pub frames : AllRise t.frames
  pub mail : AllByRecursion ItemRises t.state.situation.mail

-- ---- mail

mail_brought : (a : IpAddr) (mail : List Waiting) → AllByRecursion ItemRises mail → AllByRecursion ItemRises (map (brought_to a) mail)
mail_brought a [] h = tt
mail_brought a (w ∷ mail) h = (h.0, mail_brought a mail h.1)

moved_rise : (a b : IpAddr) (mail : List Waiting) → AllByRecursion ItemRises mail → AllByRecursion ItemRises (moved a b mail)
moved_rise a b mail h = all_append ItemRises (filter (λ w. not (waits_at a w)) mail) (map (brought_to b) (filter (waits_at a) mail)) (all_filter ItemRises (λ w. not (waits_at a w)) mail h) (mail_brought b (filter (waits_at a) mail) (all_filter ItemRises (waits_at a) mail h))

arrived_rises : (i : Item) (o : Option IpAddr) (mail : List Waiting) → AllRise i.values → AllByRecursion ItemRises mail → AllByRecursion ItemRises (arrived i o mail)
arrived_rises i None mail h k = k
arrived_rises i (Some a) mail h k = all_append ItemRises mail (record { item = i; at = a } ∷ []) k (h, tt)

-- ---- frames

last_rises : (v : Value) (vs : List Value) → Rises v → AllRise vs → Rises (last_or v vs)
last_rises v [] h k = h
last_rises v (w ∷ vs) h k = last_rises w vs k.0 k.1

index_rises : (vs : List Value) (n : ℕ) → AllRise vs → Rises (slice_index_or vs n value.Unset)
index_rises [] n h = unset_rises
index_rises (v ∷ vs) zero h = h.0
index_rises (v ∷ vs) (suc n) h = index_rises vs n h.1

take_rises : (n : ℕ) (vs : List Value) → AllRise vs → AllRise (take n vs)
take_rises zero vs h = tt
take_rises (suc n) [] h = tt
take_rises (suc n) (v ∷ vs) h = (h.0, take_rises n vs h.1)

frame_rises : (r : Routine) (given : List Value) → AllRise given → Rises (frame_of r given)
frame_rises r given h = fields_rise (given ++ map blank (r.locals ++ result_types r.result)) (all_append Rises given (map blank (r.locals ++ result_types r.result)) h (blanks_rise (r.locals ++ result_types r.result)))

module _ (n : ℕ) where
  abbrev I : Running Acting → Type 0
  I = Within n 0

  -- ---- what expressions need

  spent : (m : ℕ) (t : Running Acting) → Within n m t → 0 < t.left → Within n (suc m) (record t { left = t.left - 1 })
  spent m t h some = record { instances = within_fewer Rises n (t.left + m) (t.left - 1 + suc m) t.state.situation.core.instances (omega (arith, some)) h.instances; outs = h.outs; frames = h.frames; mail = h.mail }

  slower : (m : ℕ) (t : Running Acting) → Within n m t → I t
  slower m t h = record { instances = within_fewer Rises n (t.left + m) (t.left + 0) t.state.situation.core.instances (omega arith) h.instances; outs = h.outs; frames = h.frames; mail = h.mail }

  into_rises : (o : Option Value) (way : List ℕ) (v : Value) → ((w : Value) → o ≡ Some w → Rises w) → into o (λ w. part_of w way) ≡ Some v → Rises v
  into_rises None way v h e = absurd (cc)
  into_rises (Some w) way v h e = part_rises way w v (h w refl) e

  ok_some : (a : Option Value) (v : Value) → ◌≡◌ {A = Result (Option Value) Stop} (Ok a) (Ok (Some v)) → a ≡ Some v
  ok_some a v e = cc

  loaded : (t : Running Acting) → I t → (a : Place) (v : Value) → held Acting on_situation a t ≡ Ok (Some v) → Rises v
  loaded t h (Of p x way) v e = by (fin.get t.state.situation.core.instances p) refl e
    where
      by : (o : Option Instance) → fin.get t.state.situation.core.instances p ≡ o → of_variables o x way ≡ Ok (Some v) → Rises v
      by None is f = absurd (cc)
      by (Some i) is f = into_rises (slice_get i.variables x) way v (λ w there. all_at Rises i.variables x w (h.instances.each p i is).values there) (ok_some (into (slice_get i.variables x) (λ w. part_of w way)) v f)
  loaded t h (In f x way) v e = into_rises (slice_get t.frames f) (x ∷ way) v (λ w there. all_at Rises t.frames f w h.frames there) (ok_some (into (slice_get t.frames f) (λ frame. part_of frame (x ∷ way))) v e)

  changed_births : (change : Change) (i : Instance) → (changed change i).births ≡ i.births
  changed_births (Store x way v) i = refl
  changed_births (Hold m held) i = refl
  changed_births (Enter k) i = refl

  stored : (t : Running Acting) → I t → (p : List ℕ) (x : ℕ) (way : List ℕ) (v : Value) → Rises v → I (record t { state = on_situation.keeps p (Store x way v) t.state })
  stored t h p x way v y = record {
    instances = within_changed Rises n (t.left + 0) t.state.situation.core.instances p (changed (Store x way v)) (changed_births (Store x way v)) (λ i r. all_changed i.variables x (λ old. with_part old way v) (λ w z. with_part_rises way w v z y) r) h.instances;
    outs = h.outs;
    frames = h.frames;
    mail = h.mail;
  }

  pub closed : IsClosed Acting on_situation I
  closed = record {
    spent = λ t h some. slower 1 (record t { left = t.left - 1 }) (spent 0 t h some);
    loaded = loaded;
    stored = stored;
    framed = λ t h f x way v y. record { instances = h.instances; outs = h.outs; frames = all_changed t.frames f (λ frame. with_part frame (x ∷ way) v) (λ w z. with_part_rises (x ∷ way) w v z y) h.frames; mail = h.mail };
  }

  -- ---- effects

  free_within : (e : StatementEffect) → IsFree e → (x : Instances) (b : ℕ) → AreWithin Rises n b x → AreWithin Rises n b (instances_after e x)
  unfolding instances_after
  free_within (effect.Output from ip name values) f x b h = absurd f
  free_within (effect.Create p k i) f x b h = absurd f
  free_within (effect.Connect a c) f x b h = h
  free_within (effect.Disconnect a) f x b h = h
  free_within (effect.Attach upper lower) f x b h = h
  free_within (effect.Detach upper) f x b h = h
  free_within (effect.Remove p k) f x b h = within_removed Rises n b x p k h

  free_outs : (e : StatementEffect) → IsFree e → (links : List Link) (os : List Out) → outs_after e links os ≡ os
  unfolding outs_after
  free_outs (effect.Output from ip name values) f links os = absurd f
  free_outs (effect.Create p k i) f links os = absurd f
  free_outs (effect.Connect a c) f links os = refl
  free_outs (effect.Disconnect a) f links os = refl
  free_outs (effect.Attach upper lower) f links os = refl
  free_outs (effect.Detach upper) f links os = refl
  free_outs (effect.Remove p k) f links os = refl

  free_mail : (e : StatementEffect) → IsFree e → (links : List Link) (made : ℕ) (mail : List Waiting) → AllByRecursion ItemRises mail → AllByRecursion ItemRises (mail_after e links made mail)
  unfolding mail_after
  free_mail (effect.Output from ip name values) f links made mail h = absurd f
  free_mail (effect.Create p k i) f links made mail h = absurd f
  free_mail (effect.Connect a c) f links made mail h = h
  free_mail (effect.Disconnect a) f links made mail h = h
  free_mail (effect.Attach upper lower) f links made mail h = moved_rise upper (bottom (links ++ attachment upper lower ∷ []) lower) mail h
  free_mail (effect.Detach upper) f links made mail h = moved_rise (bottom links upper) upper mail h
  free_mail (effect.Remove p k) f links made mail h = all_filter ItemRises (λ w. not (waits_inside (child p k) w)) mail h

  free_does : (e : StatementEffect) → IsFree e → (m : ℕ) (t : Running Acting) → Within n m t → Within n (m - price e) (record t { state = on_situation.does e t.state })
  free_does e free m t h = record {
    instances = within_fewer Rises n (t.left + m) (t.left + (m - price e)) (instances_after e t.state.situation.core.instances) (omega arith) (free_within e free t.state.situation.core.instances (t.left + m) h.instances);
    outs = subst (AllByRecursion (OutWithin n)) (sym (free_outs e free t.state.situation.core.links t.state.outs)) h.outs;
    frames = h.frames;
    mail = free_mail e free t.state.situation.core.links t.state.situation.made t.state.situation.mail h.mail;
  }

  -- a change of a record that stores no value
  abbrev KeepsValues : Change → Type 0
  KeepsValues (Store x way v) = ⊥
  KeepsValues _ = Unit {0}

  same_values : (change : Change) → KeepsValues change → (i : Instance) → AllRise i.variables → AllRise (changed change i).variables
  same_values (Store x way v) k i h = absurd k
  same_values (Hold m held) k i h = h
  same_values (Enter state) k i h = h

  module _ (subject : Subject) (meant : Meanings) where
    abbrev N : {A : Type 0} → Step Acting A → Type 0
    N p = Gives Acting I Any p

    -- what enters a routine that is told, where the unit and what is done before keep the invariant
    abbrev EntersN : Enters Acting → Type 0
    EntersN enters = (before : Do Acting) (p : Path) (r : Routine) (g : ActualParameters) (t : Running Acting) → Told r → GivenRise g → Comes Acting I {A = Unit {0}} Any ((spend >> before) t) → Comes Acting I Rises (enters before p r g t)

    pure_n : (A : Type 0) (a : A) → N {A = A} (pure a)
    pure_n A a = pure_any Acting I A a

    seq_n : (A : Type 0) (p : Do Acting) (q : Step Acting A) → N p → N q → N (p >> q)
    seq_n A p q h k = seq_sound Acting I A Any p q h k

    there_at : (o : Option Instance) (k : ℕ) (word : List ℕ) (x : Meaning) → is_sent_at (point_of subject o k) word x ≡ true → (i : Instance) × (o ≡ Some i)
    there_at (Some i) k word x e = (i, refl)
    there_at None k word (Interaction kind) e = absurd (let wrong : false ≡ true = (and_both (bytes_eq kind.word word) false e).1 in cc)
    there_at None k word x e = absurd (let wrong : false ≡ true = e in cc)

    stores_none : (p q : Path) (change : Change) (c : Core) → IsStatedChange subject meant p q change c → KeepsValues change
    stores_none p q (Store x way v) c h = h
    stores_none p q (Hold m held) c h = tt
    stores_none p q (Enter k) c h = tt

    -- ---- outputs, and children that are made

    -- the meanings of names: constants in which sets rise, and routines that are told; and what belongs to the types of an interaction can be told
    module _ (told : (x : Name) → MeaningTold Told (meant x)) (readable : (x : Name) (values : List Value) → are_values_of (types_received (meant x)) values ≡ true → AllRise values → AllByRecursion IsReadable values)
        (bare : (k : ℕ) → IsBare (child_of subject k)) where
      -- a plan of a statement of Estelle that is given values in which sets rise
      module _ (p : Path) (st : Statement) (named : ActNamed Acting on_situation I closed st) (given : List Value) (rise : AllRise given) where
        sent : (a : IpAddr) (ip word : List ℕ) (values : List Value) (m : ℕ) (t : Running Acting) → Within n m t → OutputStated subject meant p st given a ip word values t.state.situation.core → Within n (m - 1) (record t { state = on_situation.does (effect.Output a ip word values) t.state })
        unfolding outs_after instances_after mail_after
        sent a ip word values m t h o =
            let b = and_both (is_sent_at (point subject t.state.situation.core.instances a) word (meant o.name)) (are_values_of (types_received (meant o.name)) values) o.allowed in
            let i = there_at (fin.get t.state.situation.core.instances a.path) a.ip word (meant o.name) b.0 in
            let w = and_both (is_name o.point_name.word) (is_name o.name.word) (subst (ActNamed Acting on_situation I closed) o.by named) in
            let all : AllRise values = subst AllRise (sym o.values_are) rise in
            let out : Out = record { path = a.path; ip = ip; name = word; values = values; lost = is_none (route t.state.situation.core.links a) } in
            record {
              instances = within_fewer Rises n (t.left + m) (t.left + (m - 1)) t.state.situation.core.instances (omega arith) h.instances;
              outs = all_append (OutWithin n) t.state.outs (out ∷ []) h.outs (record { path = (h.instances.each a.path i.0 i.1).path; ip = subst IsName (sym o.ip_is) (name_is o.point_name.word w.0); name = subst IsName (sym o.word_is) (name_is o.name.word w.1); values = readable o.name values b.1 all }, tt);
              frames = h.frames;
              mail = arrived_rises (record { number = suc t.state.situation.made; name = word; values = values }) (route t.state.situation.core.links a) t.state.situation.mail all h.mail;
            }

        made : (q : Path) (k : ℕ) (i : Instance) (m : ℕ) (t : Running Acting) → Within n m t → 1 ≤ m → CreateStated subject meant p given q k i t.state.situation.core → Within n (m - 1) (record t { state = on_situation.does (effect.Create q k i) t.state })
        unfolding outs_after instances_after mail_after
        made q k i m t h paid c =
            let its = h.instances.each q c.parent c.there in
            let path : PathWithin n (child q k) = path_child n q k its.path (let e = c.next in omega (arith, e)) (let e = c.next in let y = its.births in omega (arith, e, y, paid)) in
            record {
              instances = within_created Rises n (t.left + (m - 1)) t.state.situation.core.instances q k i path (ap (λ (j : Instance). j.births) c.made ∙ (bare c.body).births given) (subst (λ (j : Instance). AllRise j.variables) (sym c.made) ((bare c.body).values given rise))
                  (within_fewer Rises n (t.left + m) (t.left + (m - 1) + 1) t.state.situation.core.instances (omega (arith, paid)) h.instances);
              outs = h.outs;
              frames = h.frames;
              mail = h.mail;
            }

        does : (e : StatementEffect) (m : ℕ) (t : Running Acting) → Within n m t → price e ≤ m → IsStated subject meant p st given e t.state.situation.core → Within n (m - price e) (record t { state = on_situation.does e t.state })
        does (effect.Output a ip word values) m t h paid o = sent a ip word values m t h o
        does (effect.Create q k i) m t h paid c = made q k i m t h paid c
        does (effect.Connect a b) m t h paid c = free_does (effect.Connect a b) tt m t h
        does (effect.Disconnect a) m t h paid c = free_does (effect.Disconnect a) tt m t h
        does (effect.Attach upper lower) m t h paid c = free_does (effect.Attach upper lower) tt m t h
        does (effect.Detach upper) m t h paid c = free_does (effect.Detach upper) tt m t h
        does (effect.Remove q k) m t h paid c = free_does (effect.Remove q k) tt m t h

        keeps_within : KeepsHolding (stated subject meant p st given) Acting on_situation (Within n)
        keeps_within = record {
          faithful = situation_is_faithful;
          spends = λ m t h some. spent m t h some;
          makes = λ e m t h paid may. does e m t h paid may.1;
          keeps = λ q change m t h may. record {
            instances = within_changed Rises n (t.left + m) t.state.situation.core.instances q (changed change) (changed_births change) (same_values change (stores_none p q change t.state.situation.core may.1)) h.instances;
            outs = h.outs;
            frames = h.frames;
            mail = h.mail;
          };
        }

        plan_sound : (plan : Plan (Unit {0})) (t : Running Acting) → I t → Fits (stated subject meant p st given) Anything plan 0 t.state.situation.core → Comes Acting I {A = Unit {0}} Any (carry Acting on_situation plan t)
        plan_sound plan t h fits = by (carry Acting on_situation plan t) (carried_holds (stated subject meant p st given) Acting on_situation (Within n) keeps_within Anything plan 0 t h fits)
          where
            by : (o : StepResult Acting (Unit {0})) → Holding (stated subject meant p st given) Acting on_situation (Within n) Anything o → Comes Acting I {A = Unit {0}} Any o
            by (Ok r) k = (tt, slower k.0.0 r.1 k.0.1)
            by (Err e) k = tt

      -- ---- statements

      -- all but `init`
      planned_sound : (p : Path) (st : Statement) → ActNamed Acting on_situation I closed st → (es : List (Operand Acting)) → Each (OperandSound Acting I) es → N (give_all (map ByValue (given_types subject meant st)) es no_arguments >>= λ g. carry Acting on_situation (plan_of subject meant p st g.values))
      planned_sound p st named es h = then_sound Acting I ActualParameters (Unit {0}) GivenRise Any (give_all (map ByValue (given_types subject meant st)) es no_arguments) (λ g. carry Acting on_situation (plan_of subject meant p st g.values))
          (give_all_sound Acting I (map ByValue (given_types subject meant st)) es no_arguments tt h)
          (λ g y t w. plan_sound p st named g.values y (plan_of subject meant p st g.values) t w (plan_fits subject meant p st g.values 0 t.state.situation.core))

      -- the child is made, runs, and is held
      create_sound : (enters : Enters Acting) → EntersN enters → (p : Path) (x b : Name) (m k : ℕ) (values : List Value) → AllRise values → (i : Instance) (t : Running Acting) → I t → fin.get t.state.situation.core.instances p ≡ Some i
          → (may_hold subject i.body m k && are_values_of (child_of subject k).parameters values) ≡ true → Comes Acting I {A = Unit {0}} Any (create Acting on_situation subject meant enters p m (child_of subject k) values i t)
      create_sound enters into p x b m k values rise i t h there allowed =
          let new : Child = child_of subject k in
          let c : Path = child p (suc i.births) in
          let begins : Plan (Unit {0}) = begins_child subject p m i (new.with_parameters values) in
          comes_then Acting I Value (Unit {0}) Rises Any (enters (carry Acting on_situation begins) c new.block no_arguments t) (λ ran. carry Acting on_situation (holds_child subject p m new.to c))
          (into (carry Acting on_situation begins) c new.block no_arguments t (bare k).block tt (plan_sound p (Init x b) tt values rise (Spends begins) t h (begins_fits subject meant p (Init x b) values (λ q j z. tt) m k i 0 t.state.situation.core there allowed)))
          (λ ran y u w. plan_sound p (Init x b) tt values rise (holds_child subject p m new.to c) u w (holds_fits subject meant p (Init x b) values tt m (suc i.births) new.to 0 u.state.situation.core))

      init_of_sound : (enters : Enters Acting) → EntersN enters → (p : Path) (x b : Name) (mx mb : Meaning) (es : List (Operand Acting)) → Each (OperandSound Acting I) es → N (init_of Acting on_situation subject meant enters p mx mb es)
      init_of_sound enters into p x b (Module m) (Body k) es h = then_sound Acting I ActualParameters (Unit {0}) GivenRise Any (give_all (map ByValue (child_of subject k).parameters) es no_arguments)
          (λ g. carry Acting on_situation (may_begin subject p m k g.values) >>= λ i. create Acting on_situation subject meant enters p m (child_of subject k) g.values i)
          (give_all_sound Acting I (map ByValue (child_of subject k).parameters) es no_arguments tt h)
          (λ g y t w. begun_keeps Acting on_situation subject p m k g.values (λ i. create Acting on_situation subject meant enters p m (child_of subject k) g.values i) t (Comes Acting I {A = Unit {0}} Any) (λ f. tt)
          (λ i there allowed. create_sound enters into p x b m k g.values y i t w there allowed))
      init_of_sound enters into p x b (Module m) _ es h = stop_sound Acting I (Unit {0}) Any Broken
      init_of_sound enters into p x b _ mb es h = stop_sound Acting I (Unit {0}) Any Broken

      act_sound : (enters : Enters Acting) → EntersN enters → (here : Environment) → ActSound Acting on_situation I closed (act Acting on_situation subject meant enters) here
      unfolding act
      act_sound enters into here (Init x b) es named h = init_of_sound enters into here.path x b (meant x) (meant b) es h
      act_sound enters into here st es named h = planned_sound here.path st named es h

      -- ---- calls and blocks

      call_by_sound : (enters : Enters Acting) → EntersN enters → (p : Path) → CallSound Acting I Told (call_by enters p)
      call_by_sound enters into p r g good y t h = into (pure tt) p r g t good y (seq_n (Unit {0}) spend (pure tt) (spend_sound Acting I on_situation closed) (pure_n (Unit {0}) tt) t h)

      enter_sound : (r : Routine) (values : List Value) → AllRise values → N (enter r values)
      enter_sound r values y t h = (tt, record { instances = h.instances; outs = h.outs; frames = all_append Rises t.frames (frame_of r values ∷ []) h.frames (frame_rises r values y, tt); mail = h.mail })

      leave_sound : (r : Routine) → Gives Acting I Rises (leave r)
      unfolding leave
      leave_sound r t h = (
        index_rises (parts_of (last_or value.Unset t.frames)) (result_number r) (parts_rise (last_or value.Unset t.frames) (last_rises value.Unset t.frames unset_rises h.frames)),
        record { instances = h.instances; outs = h.outs; frames = take_rises (length t.frames - 1) t.frames h.frames; mail = h.mail },
      )

      within_sound : (enters : Enters Acting) → EntersN enters → (depth : ℕ) (p : Path) (r : Routine) (g : ActualParameters) → Told r → GivenRise g → Gives Acting I Rises (within Acting on_situation meant (act Acting on_situation subject meant) enters depth p r g)
      within_sound enters into depth p r g good y =
          let here : Environment = record { path = p; frame = depth; references = g.references } in
          seq_sound Acting I Value Rises (enter r g.values >> stmts Acting on_situation meant (act Acting on_situation subject meant enters) (call_by enters p) here r.body) (leave r)
          (seq_n (Unit {0}) (enter r g.values) (stmts Acting on_situation meant (act Acting on_situation subject meant enters) (call_by enters p) here r.body) (enter_sound r g.values y)
          (stmts_sound Acting on_situation I closed meant (act Acting on_situation subject meant enters) here (act_sound enters into here) Told told (call_by enters p) (call_by_sound enters into p) r.body good))
          (leave_sound r)

      nested_sound : (depth : ℕ) → EntersN (nested Acting on_situation meant (act Acting on_situation subject meant) depth)
      unfolding spend
      nested_sound zero before p r g t good y b = by (nat_lt 0 t.left)
        where
          by : (c : Bool) → Comes Acting I {A = Value} Rises (and_then (cond c (Ok (tt {0}, record t { left = t.left - 1 })) (Err (Faults fault.StepLimit, t.left))) (λ _. fail fault.CallDepth))
          by true = tt
          by false = tt
      nested_sound (suc depth) before p r g t good y b = comes_then Acting I (Unit {0}) Value Any Rises ((spend >> before) t) (λ u. within Acting on_situation meant (act Acting on_situation subject meant) (nested Acting on_situation meant (act Acting on_situation subject meant) depth) (max_depth - depth) p r g) b
          (λ u w. within_sound (nested Acting on_situation meant (act Acting on_situation subject meant) depth) (nested_sound depth) (max_depth - depth) p r g good y)

      -- a block of an instance, and then its state
      pub block_sound : (p : Path) (r : Routine) → Told r → (values : List Value) → AllRise values → (to : Option ℕ) → N (block_step Acting on_situation meant (act Acting on_situation subject meant) p r values >> carry Acting on_situation (enters_state subject p to))
      unfolding block_step
      block_sound p r good values y to = seq_n (Unit {0}) (block_step Acting on_situation meant (act Acting on_situation subject meant) p r values) (carry Acting on_situation (enters_state subject p to))
          (then_sound Acting I Value (Unit {0}) Rises Any (within Acting on_situation meant (act Acting on_situation subject meant) (from_block Acting on_situation meant (act Acting on_situation subject meant)) 0 p r (given_values values)) (λ v. pure tt)
          (within_sound (from_block Acting on_situation meant (act Acting on_situation subject meant)) (nested_sound max_depth) 0 p r (given_values values) good y) (λ v z. pure_n (Unit {0}) tt))
          (λ t w. plan_sound p unsaid tt [] tt (enters_state subject p to) t w (enters_fits subject meant p unsaid [] tt p to 0 t.state.situation.core (inl refl)))
