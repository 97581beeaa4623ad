-- The statements of Estelle that change no records keep what holds within a firing.
use Rattle.std.proofs.Common.{◌≡◌, ℕ, ◌-◌, Bool, true, false, ◌&&◌, List, Ok, Err, Option, Some, None, cond, refl, sym, ap, ◌∙◌, inl, inr}
use Rattle.std.specs.Prelude.{nat_lt, slice_get}
use Rattle.std.specs.FinMap as fin
use Rattle.std.specs.Str.{bytes_eq}
use Rattle.pascal_values.specs.declared.fault.Fault.TheVariants as fault
use Rattle.pascal_values.specs.declared.value.Value.{Value}
use Rattle.estelle_tree.specs.declared.link.IpAddr.{IpAddr}
use Rattle.estelle_tree.specs.declared.tree.name.Name.{Name}
use Rattle.estelle_tree.specs.Paths.{Path, child}
use Rattle.estelle_tree.specs.Links.{above}
use Rattle.estelle_model.specs.declared.meaning.InteractionPoint.{InteractionPoint}
use Rattle.estelle_model.specs.Core.{Instance}
use Rattle.estelle_model.specs.InteractionPoints.{point, sent_at, sends, external_at}
use Rattle.estelle_model.specs.Effects.{StatementEffect}
use Rattle.estelle_model.specs.Effects as effect
use Rattle.estelle_model.specs.Stops.{Faults, Broken}
use Rattle.estelle_model.specs.Steps.{Running, StepResult, spend}
use Rattle.estelle_model.specs.declared.meaning.Meaning.{Meaning}
use Rattle.estelle_model.specs.declared.meaning.Meaning.TheVariants.{Interaction}
use Rattle.estelle_model.specs.Meant.{Meanings}
use Rattle.estelle_model.specs.Places.{put_in_instance, held_in, module_variables_of}
use Rattle.estelle_model.specs.Transitions.{Choice}
use Rattle.estelle_model.specs.Subject.{Subject, meant_with}
use Rattle.estelle_model.specs.Belonging.{are_values_of, may_store}
use Rattle.estelle_model.specs.Situation.{Situation, Acting, on_situation, situation_after}
use Rattle.estelle_model.specs.Jobs.{IsOwnOrChild}
use Rattle.estelle_model.specs.Plans.{carry}
use Rattle.estelle_model.specs.Statements.{Statement}
use Rattle.estelle_model.specs.Actions.{is_sent_at, plan_of}
use Rattle.estelle_model.specs.Definitions.{types_received}
use Rattle.estelle_model.proofs.Kept.{Has, IsClosed}
use Rattle.estelle_model.proofs.Carried.{KeepsHolding, Holding, carried_holds}
use Rattle.estelle_model.proofs.Stated.{IsHeld, IsOwnOrHeld, IsBy, IsStated, Any, Changes, creates_changes, removes_changes, stated, plan_fits}
use Rattle.estelle_model.proofs.AlikeFirings.{situation_is_faithful}
use Rattle.estelle_model_legality.proofs.Lists.{and_both, same_path}
use Rattle.estelle_model_legality.proofs.Ways.{child_injective}
use Rattle.estelle_model_legality.proofs.Linking.{attaches, above_is}
use Rattle.estelle_model_legality.proofs.Within.{Within, Outside, Comes, Keeps, keeps_then, outside_same, outside_then}
use Rattle.estelle_model_legality.proofs.Steps.{Good, good_connect, good_disconnect, good_attach, good_detach, good_output, good_store}

module _ (s : Subject) (making : List Path) (q : Path) where
  abbrev KU : Running Acting → StepResult Acting (Unit {0}) → Type 0
  KU = Keeps s making q (Unit {0})

  spend_keeps : Has {S = Acting} {A = Unit {0}} (Keeps s making q) spend
  unfolding spend
  spend_keeps t = by (nat_lt 0 t.left)
    where
      by : (b : Bool) → KU t (cond b (Ok (tt, record t { left = t.left - 1 })) (Err (Faults fault.StepLimit, t.left)))
      by true w = (w, outside_same q t.state.situation)
      by false w = tt

  stored_keeps : (p : Path) (x : ℕ) (way : List ℕ) (v : Value) → Has {S = Acting} {A = Unit {0}} (Keeps s making q) (λ t. put_in_instance Acting on_situation (fin.get t.state.situation.core.instances p) p x way v t)
  stored_keeps p x way v t = by (fin.get t.state.situation.core.instances p) refl
    where
      tested : (i : Instance) → fin.get t.state.situation.core.instances p ≡ Some i → (b : Bool) → may_store (t.state.situation.core.types i.body) x way v ≡ b → KU t (cond b (Ok (tt, record t { state = on_situation.keeps p (effect.Store x way v) t.state })) (Err (Broken, t.left)))
      tested i e true may w = good_store s making q t.state.situation w p i x way v e may
      tested i e false may w = tt

      by : (o : Option Instance) → fin.get t.state.situation.core.instances p ≡ o → KU t (put_in_instance Acting on_situation o p x way v t)
      by None e w = tt
      by (Some i) e w = tested i e (may_store (t.state.situation.core.types i.body) x way v) refl w

  pub closed : IsClosed Acting on_situation (Keeps s making q)
  closed = record {
    then = λ A B t o f h k. keeps_then s making q A B o t f h k;
    pure = λ A a t w. (w, outside_same q t.state.situation);
    stop = λ A e t w. tt;
    spend = spend_keeps;
    framed = λ A f t w. (w, outside_same q t.state.situation);
    stored = stored_keeps;
  }

  module _ (meant : Meanings) where
    -- ---- children that the instance holds

    holds_there : (o : Option Instance) (m : ℕ) (c : Path) → held_in (slice_get (module_variables_of o) m) ≡ Ok c → (i : Instance) × (o ≡ Some i) × (slice_get i.module_variables m ≡ Some (Some c))
    holds_there None m c h = absurd (cc)
    holds_there (Some i) m c h = (i, refl, by (slice_get i.module_variables m) h)
      where
        by : (x : Option (Option Path)) → held_in x ≡ Ok c → x ≡ Some (Some c)
        by None g = absurd (cc)
        by (Some None) g = absurd (cc)
        by (Some (Some d)) g = let is : d ≡ c = cc in ap (λ (z : Path). Some (Some z)) is

    -- the instance is there, one of its variables holds the child, and the child is one of its own
    pub record HoldsChild (g : Situation) (c : Path) (m : ℕ) : Type 0 where
      pub parent : Instance
      pub there : fin.get g.core.instances q ≡ Some parent
      pub held : slice_get parent.module_variables m ≡ Some (Some c)
      pub number : ℕ
      pub is : c ≡ child q number

    pub holds_child : (g : Situation) → Within s making g → (c : Path) (h : IsHeld s meant q g.core c) → HoldsChild g c h.0
    holds_child g w c h =
        let x = holds_there (fin.get g.core.instances q) h.0 c h.1 in
        let d = w.instances.holds q x.0 h.0 (Some c) x.1 x.2 in
        record { parent = x.0; there = x.1; held = x.2; number = d.0; is = d.2 }

    own_or_child : (g : Situation) → Within s making g → (c : Path) → IsOwnOrHeld s meant q g.core c → IsOwnOrChild q c
    own_or_child g w c (inl e) = inl e
    own_or_child g w c (inr h) = let x = holds_child g w c h in inr (x.number, x.is)

    -- ---- effects

    external_point : (o : Option InteractionPoint) → external_at o ≡ true → (p : InteractionPoint) × (o ≡ Some p)
    external_point None h = absurd (cc)
    external_point (Some p) h = (p, refl)

    -- an attachment to a child is undone
    pub good_loosed : (g : Situation) (w : Within s making g) (k : ℕ) (upper lower : IpAddr) → lower.path ≡ child q k → above g.core.links lower ≡ Some upper → Good s making q g w (situation_after (effect.Detach upper) g)
    good_loosed g w k upper lower is e =
        let m = above_is s g.core.instances g.core.links w.links.each lower upper e in
        let j = attaches (point s g.core.instances upper) (point s g.core.instances lower) m.2 in
        good_detach s making q g w upper j.upper (child_injective upper.path q m.0 k (sym m.1 ∙ is)).0 j.is_upper

    good_sent : (g : Situation) (w : Within s making g) (a : IpAddr) (ip : List ℕ) (name : Name) (chosen : List Choice) (mean : Meaning) → meant_with s chosen name ≡ mean → (word : List ℕ) (values : List Value)
        → (is_sent_at (point s g.core.instances a) word mean && are_values_of (types_received mean) values) ≡ true → Good s making q g w (situation_after (effect.Output a ip word values) g)
    good_sent g w a ip name chosen (Interaction kind) is word values h =
        let b = and_both (bytes_eq kind.word word && sent_at (point s g.core.instances a) kind) (are_values_of kind.parameters values) h in
        let c = and_both (bytes_eq kind.word word) (sent_at (point s g.core.instances a) kind) b.0 in
        let x = from (point s g.core.instances a) c.1 in
        good_output s making q g w a ip word values x.0 kind x.1 x.2 (record { by = name; chosen = chosen; means = is; word = sym (same_path kind.word word c.0); values = b.1 })
      where
        from : (o : Option InteractionPoint) → sent_at o kind ≡ true → (y : InteractionPoint) × (o ≡ Some y) × (sends y kind ≡ true)
        from None e = absurd (cc)
        from (Some y) e = (y, refl, e)
    good_sent g w a ip name chosen _ is word values h = absurd (cc)

    module _ (by : (x : Name) → (chosen : List Choice) × (meant x ≡ meant_with s chosen x)) (st : Statement) (given : List Value) (same : Changes st → ⊥) where
      -- what the statement has tested is enough
      good_effect : (e : StatementEffect) (g : Situation) (w : Within s making g) → IsBy st e → IsStated s meant q st given e g.core → Good s making q g w (situation_after e g)
      good_effect (effect.Output a ip word values) g w makes h = good_sent g w a ip h.name (by h.name).0 (meant h.name) (sym (by h.name).1) word values h.allowed
      good_effect (effect.Connect a b) g w makes h = good_connect s making q g w q a b (own_or_child g w a.path h.0) (own_or_child g w b.path h.1) h.2 h.3
      good_effect (effect.Disconnect a) g w makes h = good_disconnect s making q g w a
      good_effect (effect.Attach upper lower) g w makes h = let x = holds_child g w lower.path h.1 in good_attach s making q g w x.number upper lower h.0 (x.is ∙ ap (λ (y : Path). child y x.number) (sym h.0)) h.2 h.3
      good_effect (effect.Detach upper) g w makes (inl h) = let p = external_point (point s g.core.instances upper) h.1 in good_detach s making q g w upper p.0 h.0 p.1
      good_effect (effect.Detach upper) g w makes (inr h) = let x = holds_child g w h.0.path h.1 in good_loosed g w x.number upper h.0 x.is h.2
      good_effect (effect.Create p k i) g w makes h = absurd (same (creates_changes st p k i makes))
      good_effect (effect.Remove p k) g w makes h = absurd (same (removes_changes st p k makes))

      abbrev From : Situation → ℕ → Running Acting → Type 0
      From g n x = Within s making x.state.situation × Outside q g x.state.situation

      from_holds : (g : Situation) → KeepsHolding (stated s meant q st given) Acting on_situation (From g)
      from_holds g = record {
        faithful = situation_is_faithful;
        spends = λ n x k some. k;
        makes = λ e n x k paid may.
            let h = good_effect e x.state.situation k.0 may.0 may.1 in
            (h.0, outside_then q g x.state.situation (situation_after e x.state.situation) k.1 h.1);
        keeps = λ p change n x k may. absurd (same may.0);
      }

      -- a statement that changes no records keeps what holds within a firing
      pub planned_keeps : Has (Keeps s making q) (carry Acting on_situation (plan_of s meant q st given))
      planned_keeps x w = comes (carry Acting on_situation (plan_of s meant q st given) x) (carried_holds (stated s meant q st given) Acting on_situation (From x.state.situation) (from_holds x.state.situation) Any (plan_of s meant q st given) 0 x (w, outside_same q x.state.situation) (plan_fits s meant q st given 0 x.state.situation.core))
        where
          comes : (o : StepResult Acting (Unit {0})) → Holding (stated s meant q st given) Acting on_situation (From x.state.situation) Any o → Comes s making q (Unit {0}) x.state.situation o
          comes (Ok r) h = h.0.1
          comes (Err e) h = tt
