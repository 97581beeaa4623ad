-- A child is made, runs its initialization, takes its state and is held; or goes with all below it.
use Rattle.std.proofs.Common.{◌≡◌, ℕ, suc, true, false, not, List, [], ◌∷◌, length, filter, Option, Some, None, refl, sym, ap, subst, ◌∙◌, inl, inr, append-nil}
use Rattle.std.specs.Prelude.{IsTrue, slice_get, Contains}
use Rattle.std.specs.Option.{option_map}
use Rattle.std.specs.FinMap as fin
use Rattle.estelle_tree.specs.Paths.{Path, child, is_inside}
use Rattle.estelle_tree.specs.Links.{touches}
use Rattle.estelle_tree.specs.Queues.{waits_inside}
use Rattle.estelle_model.specs.Core.{Instance, Instances}
use Rattle.estelle_model.specs.Bodies.{BodyAlone, states_in}
use Rattle.estelle_model.specs.Effects.{Create, Remove, Hold, Enter, changed, changed_in, born, instances_after, links_after}
use Rattle.estelle_model.specs.Subject.{Subject, headers_of, child_of}
use Rattle.estelle_model.specs.Subject as subject
use Rattle.estelle_model.specs.Attributes.{attribute, allows, may_have_transitions}
use Rattle.estelle_model.specs.Situation.{Situation, situation_after, situation_kept, mail_after, made_after}
use Rattle.estelle_model_legality.specs.Instances.{IsStateOf, IsOfBodyBut}
use Rattle.estelle_model_legality.proofs.Lists.{or_none, not_both, is_not, not_true, some_is, not_more}
use Rattle.estelle_model_legality.proofs.Ways.{inside_itself, inside_child, outside_child, not_below_itself}
use Rattle.estelle_model_legality.proofs.Lookups.{changed_is, changed_at, created_at, removed_at, get_changed, get_created, get_removed, changed_here, removed_is}
use Rattle.estelle_model_legality.proofs.Standing.{stands_of, of_stands, stands_changed, stands_made, made_new, made_here, not_yet, stands_held}
use Rattle.estelle_model_legality.proofs.Leaving.{stands_released}
use Rattle.estelle_model_legality.proofs.Linking.{Remains}
use Rattle.estelle_model_legality.proofs.Effects.{linked_filtered, linked_elsewhere, waits_of, of_waits, waits_filtered, waits_elsewhere}
use Rattle.estelle_model_legality.proofs.Within.{Within, Outside, outline, mark, is_at, outside_same, gone_elsewhere, changed_elsewhere, created_elsewhere}
use Rattle.estelle_model_legality.proofs.Steps.{rewritten}

child_apart : (q : Path) (k : ℕ) → q ≡ child q k → ⊥
child_apart q k e = not_below_itself q k (subst (λ (p : Path). is_inside p q ≡ true) e (inside_itself q))

outside_apart : (q r : Path) (k : ℕ) → is_inside q r ≡ false → (r ≡ child q k → ⊥) × (r ≡ q → ⊥)
outside_apart q r k o = (
  (λ e. not_both (is_inside q r) (ap (is_inside q) e ∙ inside_child q q k (inside_itself q)) o),
  (λ e. not_both (is_inside q r) (ap (is_inside q) e ∙ inside_itself q) o),
)

-- ---- the child takes its state

module _ (s : Subject) (making : List Path) (q : Path) (k : ℕ) (g : Situation) (w : Within s (child q k ∷ making) g) (n : Instance) (there : fin.get g.core.instances (child q k) ≡ Some n) (unset : n.state ≡ None) where
  abbrev pub entered : Option ℕ → Situation
  entered None = g
  entered (Some state) = situation_kept (child q k) (Enter state) g

  pub record IsEntered (to : Option ℕ) : Type 0 where
    pub within : Within s (child q k ∷ making) (entered to)
    pub outside : Outside q g (entered to)
    pub instance : Instance
    pub now : fin.get (entered to).core.instances (child q k) ≡ Some instance
    pub state : instance.state ≡ to
    pub body : instance.body ≡ n.body
    pub parent : fin.get (entered to).core.instances q ≡ fin.get g.core.instances q

  pub is_entered : (to : Option ℕ) → ((b : BodyAlone) → subject.body s n.body ≡ Some b → IsStateOf (length (states_in b)) to) → IsEntered to
  is_entered None may = record { within = w; outside = outside_same q g; instance = n; now = there; state = unset; body = refl; parent = refl }
  is_entered (Some state) may =
      let f = changed (Enter state) in
      let l = stands_of s (child q k ∷ making) g.core.instances w.instances in
      record {
        within = rewritten s (child q k ∷ making) q g w (child q k ∷ making) (child q k) f (λ j. refl)
            (of_stands s (child q k ∷ making) (changed_at (child q k) f (fin.get g.core.instances)) (changed_in (child q k) f g.core.instances) (get_changed (child q k) f g.core.instances)
            (stands_changed s (child q k ∷ making) (child q k) f (fin.get g.core.instances) l (λ j. refl) (λ j. refl) (λ j. not_more j.births)
            (λ j b at is h. record {
              variables = h.variables;
              module_variables = h.module_variables;
              state = inr (may b (ap (λ (x : Instance). subject.body s x.body) (some_is n j (fin.get g.core.instances (child q k)) there at) ∙ is));
            })));
        outside = record {
          others = λ r o. ap (option_map outline) (get_changed (child q k) f g.core.instances r ∙ changed_elsewhere (child q k) f (fin.get g.core.instances) r (outside_apart q r k o).0);
          itself = ap (option_map mark) (get_changed (child q k) f g.core.instances q ∙ changed_elsewhere (child q k) f (fin.get g.core.instances) q (child_apart q k));
          mail = λ r o. ([], sym (append-nil (filter (is_at r) g.mail)));
          pending = refl;
          timers = refl;
        };
        instance = f n;
        now = get_changed (child q k) f g.core.instances (child q k) ∙ changed_here (child q k) f (fin.get g.core.instances) ∙ ap (option_map f) there;
        state = refl;
        body = refl;
        parent = get_changed (child q k) f g.core.instances q ∙ changed_elsewhere (child q k) f (fin.get g.core.instances) q (child_apart q k);
      }

-- ---- and is held

module _ (s : Subject) (making : List Path) (q : Path) (x k : ℕ) (g : Situation) (w : Within s (child q k ∷ making) g) (i : Instance) (here : fin.get g.core.instances q ≡ Some i)
    (free : (y : ℕ) → slice_get i.module_variables y ≡ Some (Some (child q k)) → ⊥) (empty : slice_get i.module_variables x ≡ Some None)
    (n : Instance) (there : fin.get g.core.instances (child q k) ≡ Some n) (settled : (b : BodyAlone) → subject.body s n.body ≡ Some b → IsStateOf (length (states_in b)) n.state)
    (header : slice_get (headers_of s i.body) x ≡ Some (child_of s n.body).header) where
  pub good_held : Within s making (situation_kept q (Hold x (Some (child q k))) g) × Outside q g (situation_kept q (Hold x (Some (child q k))) g)
  good_held =
      let f = changed (Hold x (Some (child q k))) in
      let l = stands_of s (child q k ∷ making) g.core.instances w.instances in (
        rewritten s (child q k ∷ making) q g w making q f (λ j. refl)
            (of_stands s making (changed_at q f (fin.get g.core.instances)) (changed_in q f g.core.instances) (get_changed q f g.core.instances)
            (stands_held s making q x k (fin.get g.core.instances) l i here free empty n there settled header)),
        record {
          others = λ r o. ap (option_map outline) (get_changed q f g.core.instances r ∙ changed_elsewhere q f (fin.get g.core.instances) r (outside_apart q r k o).1);
          itself = ap (option_map mark) (get_changed q f g.core.instances q ∙ changed_here q f (fin.get g.core.instances) ∙ ap (option_map f) here) ∙ ap (option_map mark) (sym here);
          mail = λ r o. ([], sym (append-nil (filter (is_at r) g.mail)));
          pending = refl;
          timers = refl;
        },
      )

-- ---- a child is made

module _ (s : Subject) (making : List Path) (q : Path) (g : Situation) (w : Within s making g) (i : Instance) (here : fin.get g.core.instances q ≡ Some i)
    (n : Instance) (b : BodyAlone) (is_body : subject.body s n.body ≡ Some b) (fits : IsOfBodyBut s (Contains (child q (suc i.births) ∷ making) (child q (suc i.births))) b n)
    (empty : (m : ℕ) (c : Path) → slice_get n.module_variables m ≡ Some (Some c) → ⊥) (allowed : IsTrue (allows (attribute s i.body) (attribute s n.body))) (having : IsTrue (may_have_transitions s n.body)) where
  abbrev pub c : Path
  c = child q (suc i.births)

  abbrev pub created : Situation
  created = situation_after (Create q (suc i.births) n) g

  pub record IsCreated : Type 0 where
    pub within : Within s (c ∷ making) created
    pub outside : Outside q g created
    pub child_there : fin.get created.core.instances c ≡ Some n
    pub parent_there : fin.get created.core.instances q ≡ Some (born i)

  pub is_created : IsCreated
  unfolding instances_after links_after mail_after made_after
  is_created =
      let l = stands_of s making g.core.instances w.instances in
      let look = fin.get g.core.instances in
      let after : Instances = fin.insert (changed_in q born g.core.instances) c n in
      let got : (p : Path) → fin.get after p ≡ created_at q (suc i.births) n look p = get_created q (suc i.births) n g.core.instances in
      let remain : (p : Path) → Remains g.core.instances after p = λ p j at. stays p j at in
      record {
        within = record {
          types = w.types;
          instances = of_stands s (c ∷ making) (created_at q (suc i.births) n look) after got (stands_made s making q look l i here n b is_body fits empty allowed having);
          links = linked_elsewhere s g.core.instances g.core.links w.links after remain;
          mail = of_waits s created (waits_elsewhere s g.core.instances g.core.links g.made g.mail (waits_of s g w.mail) after remain);
        };
        outside = record {
          others = λ r o. ap (option_map outline) (got r ∙ created_elsewhere q (suc i.births) n look r (outside_apart q r (suc i.births) o).0 ∙ changed_elsewhere q born look r (outside_apart q r (suc i.births) o).1);
          itself = ap (option_map mark) (got q ∙ made_here s making q look l i here n b is_body fits empty allowed having) ∙ ap (option_map mark) (sym here);
          mail = λ r o. ([], sym (append-nil (filter (is_at r) g.mail)));
          pending = refl;
          timers = refl;
        };
        child_there = got c ∙ made_new s making q look l i here n b is_body fits empty allowed having;
        parent_there = got q ∙ made_here s making q look l i here n b is_body fits empty allowed having;
      }
    where
      stays : (p : Path) (j : Instance) → fin.get g.core.instances p ≡ Some j → (t : Instance) × (fin.get (fin.insert (changed_in q born g.core.instances) (child q (suc i.births)) n) p ≡ Some t) × (t.body ≡ j.body)
      stays p j at =
          let now = changed_is q born (fin.get g.core.instances) p j at in
          let other : p ≡ child q (suc i.births) → ⊥ = λ e. not_yet s making q (fin.get g.core.instances) (stands_of s making g.core.instances w.instances) i here j (sym (ap (fin.get g.core.instances) e) ∙ at) in (
            now.0,
            get_created q (suc i.births) n g.core.instances p ∙ created_elsewhere q (suc i.births) n (fin.get g.core.instances) p other ∙ now.1,
            elim now.2 [ inl e ↦ ap (λ (z : Instance). z.body) e | inr e ↦ ap (λ (z : Instance). z.body) e.1 ],
          )

-- ---- a child goes, and the module variable that held it is empty

module _ (s : Subject) (making : List Path) (q : Path) (x k : ℕ) (g : Situation) (w : Within s making g) (i : Instance) (here : fin.get g.core.instances q ≡ Some i)
    (holding : slice_get i.module_variables x ≡ Some (Some (child q k))) (finished : Contains making (child q k) → ⊥) where
  abbrev pub released : Situation
  released = situation_kept q (Hold x None) (situation_after (Remove q k) g)

  pub good_released : Within s making released × Outside q g released
  unfolding instances_after links_after mail_after made_after
  good_released =
      let f = changed (Hold x None) in
      let look = fin.get g.core.instances in
      let less : Instances = fin.retain_keys g.core.instances (λ p. not (is_inside (child q k) p)) in
      let after : Instances = changed_in q f less in
      let l = stands_of s making g.core.instances w.instances in
      let got : (p : Path) → fin.get after p ≡ changed_at q f (removed_at (child q k) look) p = λ p. get_changed q f less p ∙ (λ j. changed_at q f (λ (y : Path). get_removed (child q k) g.core.instances y j) p) in
      let remain : (p : Path) → is_inside (child q k) p ≡ false → Remains g.core.instances after p = λ p o j at. stays p o j at in (
        record {
          types = w.types;
          instances = of_stands s making (changed_at q f (removed_at (child q k) look)) after got (stands_released s making q x k look l i here holding finished);
          links = linked_filtered s g.core.instances g.core.links w.links after (λ y. not (touches (child q k) y))
              (λ y e. let o = or_none (is_inside (child q k) y.first.path) (is_inside (child q k) y.second.path) (is_not (touches (child q k) y) e) in (remain y.first.path o.0, remain y.second.path o.1));
          mail = of_waits s released (waits_filtered s g.core.instances g.core.links g.made g.mail (waits_of s g w.mail) after (λ y. not (touches (child q k) y)) (λ v. not (waits_inside (child q k) v))
              (λ v e. remain v.at.path (is_not (waits_inside (child q k) v) e)));
        },
        record {
          others = λ r o. ap (option_map outline) (got r ∙ changed_elsewhere q f (removed_at (child q k) look) r (outside_apart q r k o).1 ∙ removed_is (child q k) look r (outside_child q r k o));
          itself = ap (option_map mark) (got q ∙ changed_here q f (removed_at (child q k) look) ∙ ap (option_map f) (removed_is (child q k) look q (not_true (is_inside (child q k) q) (not_below_itself q k)) ∙ here)) ∙ ap (option_map mark) (sym here);
          mail = λ r o. ([], gone_elsewhere r (child q k) g.mail (outside_child q r k o) ∙ sym (append-nil (filter (is_at r) g.mail)));
          pending = refl;
          timers = refl;
        },
      )
    where
      stays : (p : Path) → is_inside (child q k) p ≡ false → (j : Instance) → fin.get g.core.instances p ≡ Some j → (t : Instance) × (fin.get (changed_in q (changed (Hold x None)) (fin.retain_keys g.core.instances (λ y. not (is_inside (child q k) y)))) p ≡ Some t) × (t.body ≡ j.body)
      stays p o j at =
          let less : Instances = fin.retain_keys g.core.instances (λ y. not (is_inside (child q k) y)) in
          let now = changed_is q (changed (Hold x None)) (fin.get less) p j (get_removed (child q k) g.core.instances p ∙ removed_is (child q k) (fin.get g.core.instances) p o ∙ at) in
          (now.0, get_changed q (changed (Hold x None)) less p ∙ now.1, elim now.2 [ inl e ↦ ap (λ (z : Instance). z.body) e | inr e ↦ ap (λ (z : Instance). z.body) e.1 ])
