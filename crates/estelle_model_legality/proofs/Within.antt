-- Within a firing: what holds between the steps of a block, and what a block leaves outside its instance as it was.
use Rattle.std.proofs.Common.{◌≡◌, ℕ, Bool, true, false, not, List, [], ◌∷◌, ◌++◌, filter, map, Ok, Err, Option, Some, None, cond, refl, sym, ap, subst, ◌∙◌, append-nil, append_assoc}
use Rattle.std.specs.Option.{option_map}
use Rattle.std.specs.Str.{bytes_eq}
use Rattle.std.specs.FinMap as fin
use Rattle.std.proofs.lemmas.List.Elements.{filter-append}
use Rattle.pascal_values.specs.declared.value.Value.{Value}
use Rattle.estelle_tree.specs.declared.link.IpAddr.{IpAddr}
use Rattle.estelle_tree.specs.Paths.{Path, child, is_inside}
use Rattle.estelle_tree.specs.Queues.{waits_at, brought_to, waiting, not_waiting, moved, waits_inside, outside_of}
use Rattle.estelle_model.specs.Core.{Instance}
use Rattle.estelle_model.specs.Effects.{born}
use Rattle.estelle_model.specs.Subject.{Subject, types_of_variables}
use Rattle.estelle_model.specs.Steps.{Running, StepResult, Step, and_then}
use Rattle.estelle_model.specs.Situation.{Waiting, Situation, Acting}
use Rattle.estelle_model_legality.specs.Instances.{MayStandBut}
use Rattle.estelle_model_legality.specs.Linked.{MayBeLinked}
use Rattle.estelle_model_legality.specs.Mail.{MayBeWaiting}
use Rattle.estelle_model_legality.proofs.Lists.{not_true, not_both, path_is, same_path}
use Rattle.estelle_model_legality.proofs.Ways.{outside_child, not_below_itself}
use Rattle.estelle_model_legality.proofs.Linking.{same_ip_is}
use Rattle.estelle_model_legality.proofs.Lookups.{same, same_is, Lookup, changed_at, created_at}

-- a situation within a firing, where some instances are being made
pub record Within (s : Subject) (making : List Path) (g : Situation) : Type 0 where
  pub types : g.core.types ≡ types_of_variables s
  pub instances : MayStandBut s making g.core.instances
  pub links : MayBeLinked s g.core.instances g.core.links
  pub mail : MayBeWaiting s g

-- an instance but for its variables
abbrev pub outline : Instance → Instance
outline i = record i { variables = [] }

-- the body and the state of an instance
abbrev pub mark : Instance → Instance
mark i = record i { variables = []; module_variables = []; births = 0 }

abbrev pub is_at : Path → Waiting → Bool
is_at r w = bytes_eq r w.at.path

-- outside an instance all is as it was, but for variables and for what has come there; the instance has its body and state
pub record Outside (q : Path) (before after : Situation) : Type 0 where
  pub others : (r : Path) → is_inside q r ≡ false → option_map outline (fin.get after.core.instances r) ≡ option_map outline (fin.get before.core.instances r)
  pub itself : option_map mark (fin.get after.core.instances q) ≡ option_map mark (fin.get before.core.instances q)
  pub mail : (r : Path) → is_inside q r ≡ false → (more : List Waiting) × (filter (is_at r) after.mail ≡ filter (is_at r) before.mail ++ more)
  pub pending : after.pending ≡ before.pending
  pub timers : after.timers ≡ before.timers

pub outside_same : (q : Path) (g : Situation) → Outside q g g
outside_same q g = record { others = λ r o. refl; itself = refl; mail = λ r o. ([], sym (append-nil (filter (is_at r) g.mail))); pending = refl; timers = refl }

pub outside_then : (q : Path) (a b c : Situation) → Outside q a b → Outside q b c → Outside q a c
outside_then q a b c h k = record {
  others = λ r o. k.others r o ∙ h.others r o;
  itself = k.itself ∙ h.itself;
  mail = λ r o.
      let x = h.mail r o in
      let y = k.mail r o in
      (x.0 ++ y.0, y.1 ∙ ap (λ (ws : List Waiting). ws ++ y.0) x.1 ∙ append_assoc (filter (is_at r) a.mail) x.0 y.0);
  pending = k.pending ∙ h.pending;
  timers = k.timers ∙ h.timers;
}

pub mark_of_outline : (o : Option Instance) → option_map mark (option_map outline o) ≡ option_map mark o
mark_of_outline None = refl
mark_of_outline (Some i) = refl

-- what lies outside a child lies outside its parent
pub outside_parent : (q : Path) (k : ℕ) (a b : Situation) → Outside (child q k) a b → Outside q a b
outside_parent q k a b h =
    let here = h.others q (not_true (is_inside (child q k) q) (not_below_itself q k)) in
    record {
      others = λ r o. h.others r (outside_child q r k o);
      itself = sym (mark_of_outline (fin.get b.core.instances q)) ∙ ap (option_map mark) here ∙ mark_of_outline (fin.get a.core.instances q);
      mail = λ r o. h.mail r (outside_child q r k o);
      pending = h.pending;
      timers = h.timers;
    }

-- what is the same of an instance that was there
pub mapped_there : (f : Instance → Instance) (before after : Option Instance) (i : Instance) → option_map f after ≡ option_map f before → before ≡ Some i → (j : Instance) × (after ≡ Some j) × (f j ≡ f i)
mapped_there f None after i h e = absurd (cc)
mapped_there f (Some b) None i h e = absurd (cc)
mapped_there f (Some b) (Some j) i h e =
    let bi : b ≡ i = cc in
    let same : f j ≡ f b = (let g : Some (f j) ≡ Some (f b) = h in cc) in
    (j, refl, same ∙ ap f bi)

-- ---- what is left where something is taken or comes

pub filter_within : (test kept : Waiting → Bool) (ws : List Waiting) → ((w : Waiting) → test w ≡ true → kept w ≡ true) → filter test (filter kept ws) ≡ filter test ws
filter_within test kept [] h = refl
filter_within test kept (w ∷ ws) h = by (test w) refl (kept w) refl (filter_within test kept ws h)
  where
    by : (b : Bool) → test w ≡ b → (c : Bool) → kept w ≡ c → filter test (filter kept ws) ≡ filter test ws → filter test (cond c (w ∷ filter kept ws) (filter kept ws)) ≡ cond b (w ∷ filter test ws) (filter test ws)
    by true e true f rest = ap (λ (x : Bool). cond x (w ∷ filter test (filter kept ws)) (filter test (filter kept ws))) e ∙ ap (λ (ys : List Waiting). w ∷ ys) rest
    by true e false f rest = absurd (not_both (kept w) (h w e) f)
    by false e true f rest = ap (λ (x : Bool). cond x (w ∷ filter test (filter kept ws)) (filter test (filter kept ws))) e ∙ rest
    by false e false f rest = rest

brought_elsewhere : (r : Path) (b : IpAddr) (ws : List Waiting) → bytes_eq r b.path ≡ false → filter (is_at r) (map (brought_to b) ws) ≡ []
brought_elsewhere r b [] h = refl
brought_elsewhere r b (w ∷ ws) h = ap (λ (x : Bool). cond x (brought_to b w ∷ filter (is_at r) (map (brought_to b) ws)) (filter (is_at r) (map (brought_to b) ws))) h ∙ brought_elsewhere r b ws h

-- a move between other instances is not seen
pub moved_elsewhere : (r : Path) (a b : IpAddr) (mail : List Waiting) → bytes_eq r a.path ≡ false → bytes_eq r b.path ≡ false → filter (is_at r) (moved a b mail) ≡ filter (is_at r) mail
moved_elsewhere r a b mail ea eb =
    filter-append (is_at r) (not_waiting a mail) (map (brought_to b) (waiting a mail))
    ∙ ap (λ (ws : List Waiting). filter (is_at r) (not_waiting a mail) ++ ws) (brought_elsewhere r b (waiting a mail) eb)
    ∙ append-nil (filter (is_at r) (not_waiting a mail))
    ∙ filter_within (is_at r) (λ w. not (waits_at a w)) mail
    (λ w t. ap not (not_true (waits_at a w) (λ e. not_both (bytes_eq r a.path) (ap (λ (x : IpAddr). bytes_eq r x.path) (same_ip_is a w.at e) ∙ t) ea)))

pub gone_elsewhere : (r c : Path) (mail : List Waiting) → is_inside c r ≡ false → filter (is_at r) (outside_of c mail) ≡ filter (is_at r) mail
gone_elsewhere r c mail h = filter_within (is_at r) (λ w. not (waits_inside c w)) mail
    (λ w t. ap not (sym (ap (is_inside c) (same_path r w.at.path t)) ∙ h))

-- what is outside is at another path
pub not_at : (q r p : Path) → is_inside q r ≡ false → is_inside q p ≡ true → bytes_eq r p ≡ false
not_at q r p o i = not_true (bytes_eq r p) (λ e. not_both (is_inside q r) (ap (is_inside q) (same_path r p e) ∙ i) o)

pub apart : (r p : Path) → bytes_eq r p ≡ false → r ≡ p → ⊥
apart r p h e = not_both (bytes_eq r p) (subst (λ (x : Path). bytes_eq r x ≡ true) e (path_is r)) h

-- ---- lookups elsewhere

pub changed_elsewhere : (p : Path) (f : Instance → Instance) (look : Lookup) (r : Path) → (r ≡ p → ⊥) → changed_at p f look r ≡ look r
changed_elsewhere p f look r n = ap (λ (b : Bool). cond b (option_map f (look p)) (look r)) (not_true (same r p) (λ e. n (same_is r p e)))

pub changed_alike : (p : Path) (f h : Instance → Instance) (look : Lookup) (r : Path) → ((i : Instance) → h (f i) ≡ h i) → option_map h (changed_at p f look r) ≡ option_map h (look r)
changed_alike p f h look r k = by (same r p) refl
  where
    twice : (o : Option Instance) → option_map h (option_map f o) ≡ option_map h o
    twice None = refl
    twice (Some i) = ap (λ (x : Instance). Some x) (k i)

    by : (b : Bool) → same r p ≡ b → option_map h (cond b (option_map f (look p)) (look r)) ≡ option_map h (look r)
    by true e = twice (look p) ∙ ap (λ (x : Path). option_map h (look x)) (sym (same_is r p e))
    by false e = refl

pub created_elsewhere : (p : Path) (k : ℕ) (i : Instance) (look : Lookup) (r : Path) → (r ≡ child p k → ⊥) → created_at p k i look r ≡ changed_at p born look r
created_elsewhere p k i look r n = ap (λ (b : Bool). cond b (Some i) (changed_at p born look r)) (not_true (same r (child p k)) (λ e. n (same_is r (child p k) e)))

-- ---- steps that keep all this

module _ (s : Subject) (making : List Path) (q : Path) where
  -- what a step comes to from a situation
  abbrev pub Comes : (A : Type 0) → Situation → StepResult Acting A → Type 0
  Comes A g (Ok r) = Within s making r.1.state.situation × Outside q g r.1.state.situation
  Comes A g (Err e) = Unit {0}

  abbrev pub Keeps : (A : Type 0) → Running Acting → StepResult Acting A → Type 0
  Keeps A t o = Within s making t.state.situation → Comes A t.state.situation o

  comes_then : (A : Type 0) (g h : Situation) (o : StepResult Acting A) → Outside q g h → Comes A h o → Comes A g o
  comes_then A g h (Ok r) x c = (c.0, outside_then q g h r.1.state.situation x c.1)
  comes_then A g h (Err e) x c = tt

  pub keeps_then : (A B : Type 0) (o : StepResult Acting A) (t : Running Acting) (f : A → Step Acting B) → Keeps A t o → ((a : A) (u : Running Acting) → Keeps B u (f a u)) → Keeps B t (and_then o f)
  keeps_then A B (Ok r) t f h k w = let c = h w in comes_then B t.state.situation r.1.state.situation (f r.0 r.1) c.1 (k r.0 r.1 c.0)
  keeps_then A B (Err e) t f h k w = tt

  -- a step that leaves the situation as it is
  pub keeps_same : (A : Type 0) (t : Running Acting) (a : A) (frames : List Value) (left : ℕ) → Keeps A t (Ok (a, record t { frames = frames; left = left }))
  keeps_same A t a frames left w = (w, outside_same q t.state.situation)
