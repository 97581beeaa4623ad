-- What each effect and each change keeps within a firing, under what was tested before it.
use Rattle.std.proofs.Common.{◌≡◌, ℕ, suc, true, false, not, ◌||◌, List, [], ◌∷◌, ◌++◌, filter, Option, Some, None, refl, sym, ap, ap₂, ◌∙◌, inl, inr, append-nil}
use Rattle.std.specs.Prelude.{unwrap_or}
use Rattle.std.specs.Option.{option_map}
use Rattle.std.specs.FinMap as fin
use Rattle.std.proofs.lemmas.List.Elements.{filter-append}
use Rattle.pascal_values.specs.declared.value.Value.{Value}
use Rattle.estelle_tree.specs.declared.link.IpAddr.{IpAddr}
use Rattle.estelle_tree.specs.declared.link.Link.{Link}
use Rattle.estelle_tree.specs.Paths.{Path, child, is_inside}
use Rattle.estelle_tree.specs.Links.{same_ip, joins, is_upper_of, connection, attachment, bottom, route}
use Rattle.estelle_tree.specs.Queues.{moved}
use Rattle.estelle_model.specs.declared.image.Interaction.{Interaction as Item}
use Rattle.estelle_model.specs.declared.denoter.Denoter.{Denoter}
use Rattle.estelle_model.specs.declared.meaning.InteractionKind.{InteractionKind}
use Rattle.estelle_model.specs.declared.meaning.InteractionPoint.{InteractionPoint}
use Rattle.estelle_model.specs.Core.{Instance, Instances}
use Rattle.estelle_model.specs.Bodies.{BodyAlone, variable_types}
use Rattle.estelle_model.specs.Effects.{Output, Connect, Disconnect, Attach, Detach, Store, changed, changed_in, instances_after, links_after}
use Rattle.estelle_model.specs.Subject.{Subject, types_of_variables, no_body, meant}
use Rattle.estelle_model.specs.InteractionPoints.{point, sends, may_attach, may_connect}
use Rattle.estelle_model.specs.Jobs.{IsOwnOrChild}
use Rattle.estelle_model.specs.Actions.{is_bound, is_upper}
use Rattle.estelle_model.specs.Situation.{Waiting, Situation, arrived, situation_after, situation_kept, mail_after, made_after}
use Rattle.estelle_model.specs.Belonging.{may_store}
use Rattle.estelle_model_legality.specs.Instances.{MayStandBut}
use Rattle.estelle_model_legality.specs.Linked.{MayBeLinked}
use Rattle.estelle_model_legality.specs.Mail.{IsOfKind}
use Rattle.estelle_model_legality.proofs.Lists.{not_more, some_is, not_true, not_both}
use Rattle.estelle_model_legality.proofs.Ways.{inside_trans, inside_itself, inside_child}
use Rattle.estelle_model_legality.proofs.Lookups.{changed_at, get_changed, changed_is}
use Rattle.estelle_model_legality.proofs.Belonging.{values_stored}
use Rattle.estelle_model_legality.proofs.Standing.{stands_of, of_stands, stands_changed}
use Rattle.estelle_model_legality.proofs.Linking.{same_ip_is, Remains, attaches, bottom_ends, bottom_alike}
use Rattle.estelle_model_legality.proofs.Effects.{linked_connected, linked_attached, linked_filtered, linked_elsewhere, upper_connected, upper_attached, upper_filtered, upper_detached, Waits, waits_of, of_waits, waits_with_links, waits_elsewhere, waits_moved, waits_output}
use Rattle.estelle_model_legality.proofs.Within.{Within, Outside, outline, mark, is_at, moved_elsewhere, not_at, changed_alike}

-- all instances stay
pub all_remain : (is : Instances) (p : Path) → Remains is is p
all_remain is p i there = (i, there, refl)

module _ (s : Subject) (making : List Path) (q : Path) (g : Situation) (w : Within s making g) where
  abbrev pub Good : Situation → Type 0
  Good h = Within s making h × Outside q g h

  abbrev waits : Waits s g.core.instances g.core.links g.made g.mail
  waits = waits_of s g w.mail

  -- links change alone
  relinked : (links : List Link) → MayBeLinked s g.core.instances links → ((a : IpAddr) → is_upper a g.core.links ≡ false → is_upper a links ≡ false) → Good (record g { core = record g.core { links = links } })
  relinked links l keeps =
      let h : Situation = record g { core = record g.core { links = links } } in (
        record { types = w.types; instances = w.instances; links = l; mail = of_waits s h (waits_with_links s g.core.instances g.core.links g.made g.mail waits links keeps) },
        record { others = λ r o. refl; itself = refl; mail = λ r o. ([], sym (append-nil (filter (is_at r) g.mail))); pending = refl; timers = refl },
      )

  pub good_connect : (m : Path) (a b : IpAddr) → IsOwnOrChild m a.path → IsOwnOrChild m b.path → may_connect s g.core.instances m a b ≡ true → (is_bound a g.core.links || is_bound b g.core.links) ≡ false → Good (situation_after (Connect a b) g)
  unfolding instances_after links_after mail_after made_after
  good_connect m a b first second may free = relinked (g.core.links ++ connection a b ∷ []) (linked_connected s g.core.instances g.core.links w.links m a b first second may free) (λ x h. upper_connected x a b g.core.links h)

  pub good_disconnect : (a : IpAddr) → Good (situation_after (Disconnect a) g)
  unfolding instances_after links_after mail_after made_after
  good_disconnect a = relinked (filter (λ l. not (joins a l)) g.core.links)
      (linked_filtered s g.core.instances g.core.links w.links g.core.instances (λ l. not (joins a l)) (λ l e. (all_remain g.core.instances l.first.path, all_remain g.core.instances l.second.path)))
      (λ x h. upper_filtered x (λ l. not (joins a l)) g.core.links h)

  -- what waits moves too, from one point in the instance to another there
  removed : (links : List Link) (a b : IpAddr) → MayBeLinked s g.core.instances links → Waits s g.core.instances links g.made (moved a b g.mail) → is_inside q a.path ≡ true → is_inside q b.path ≡ true
      → Good (record g { core = record g.core { links = links }; mail = moved a b g.mail })
  removed links a b l m ia ib =
      let h : Situation = record g { core = record g.core { links = links }; mail = moved a b g.mail } in (
        record { types = w.types; instances = w.instances; links = l; mail = of_waits s h m },
        record {
          others = λ r o. refl;
          itself = refl;
          mail = λ r o. ([], moved_elsewhere r a b g.mail (not_at q r a.path o ia) (not_at q r b.path o ib) ∙ sym (append-nil (filter (is_at r) g.mail)));
          pending = refl;
          timers = refl;
        },
      )

  pub good_attach : (k : ℕ) (upper lower : IpAddr) → upper.path ≡ q → lower.path ≡ child upper.path k → may_attach s g.core.instances upper lower ≡ true → (is_upper upper g.core.links || is_bound lower g.core.links) ≡ false → Good (situation_after (Attach upper lower) g)
  unfolding instances_after links_after mail_after made_after
  good_attach k upper lower here below may free =
      let links = g.core.links ++ attachment upper lower ∷ [] in
      let l = linked_attached s g.core.instances g.core.links w.links k upper lower below may free in
      let j = attaches (point s g.core.instances upper) (point s g.core.instances lower) may in
      let down = bottom_alike s g.core.instances links l.each lower j.lower j.is_lower in
      removed links upper (bottom links lower) l
      (waits_moved s g.core.instances g.core.links g.made g.mail waits links upper (bottom links lower) j.upper down.0.0 j.is_upper down.0.1 (j.channel ∙ down.0.2) (j.role ∙ down.0.3)
      (λ x e h. upper_attached x.at upper lower g.core.links h (not_true (same_ip x.at upper) (λ t. not_both (same_ip upper x.at) (ap₂ same_ip (sym (same_ip_is x.at upper t)) (same_ip_is x.at upper t) ∙ t) e)))
      (bottom_ends s g.core.instances links l.each lower))
      (ap (is_inside q) here ∙ inside_itself q)
      (inside_trans q lower.path (bottom links lower).path (ap (is_inside q) below ∙ inside_child q upper.path k (ap (is_inside q) here ∙ inside_itself q)) down.1)

  pub good_detach : (upper : IpAddr) (p : InteractionPoint) → upper.path ≡ q → point s g.core.instances upper ≡ Some p → Good (situation_after (Detach upper) g)
  unfolding instances_after links_after mail_after made_after
  good_detach upper p here there =
      let links = filter (λ l. not (is_upper_of upper l)) g.core.links in
      let l = linked_filtered s g.core.instances g.core.links w.links g.core.instances (λ l. not (is_upper_of upper l)) (λ l e. (all_remain g.core.instances l.first.path, all_remain g.core.instances l.second.path)) in
      let down = bottom_alike s g.core.instances g.core.links w.links.each upper p there in
      removed links (bottom g.core.links upper) upper l
      (waits_moved s g.core.instances g.core.links g.made g.mail waits links (bottom g.core.links upper) upper down.0.0 p down.0.1 there (sym down.0.2) (sym down.0.3)
      (λ x e h. upper_filtered x.at (λ l. not (is_upper_of upper l)) g.core.links h)
      (upper_detached upper g.core.links))
      (inside_trans q upper.path (bottom g.core.links upper).path (ap (is_inside q) here ∙ inside_itself q) down.1)
      (ap (is_inside q) here ∙ inside_itself q)

  pub good_output : (a : IpAddr) (ip name : List ℕ) (values : List Value) (p : InteractionPoint) (kind : InteractionKind) → point s g.core.instances a ≡ Some p → sends p kind ≡ true
      → IsOfKind s kind (record { number = suc g.made; name = name; values = values }) → Good (situation_after (Output a ip name values) g)
  unfolding instances_after links_after mail_after made_after
  good_output a ip name values p kind there may of_kind =
      let i : Item = record { number = suc g.made; name = name; values = values } in
      let h : Situation = record g { mail = arrived i (route g.core.links a) g.mail; made = suc g.made } in (
        record { types = w.types; instances = w.instances; links = w.links; mail = of_waits s h (waits_output s g.core.instances g.core.links g.made g.mail waits a p kind i there may of_kind refl w.links.each) },
        record { others = λ r o. refl; itself = refl; mail = λ r o. came r (route g.core.links a); pending = refl; timers = refl },
      )
    where
      came : (r : Path) (o : Option IpAddr) → (more : List Waiting) × (filter (is_at r) (arrived (record { number = suc g.made; name = name; values = values }) o g.mail) ≡ filter (is_at r) g.mail ++ more)
      came r None = ([], sym (append-nil (filter (is_at r) g.mail)))
      came r (Some b) =
          let x : Waiting = record { item = record { number = suc g.made; name = name; values = values }; at = b } in
          (filter (is_at r) (x ∷ []), filter-append (is_at r) g.mail (x ∷ []))

  -- ---- records

  -- one instance changes, and its body stays
  pub rewritten : (making' : List Path) (p : Path) (f : Instance → Instance) → ((i : Instance) → (f i).body ≡ i.body) → MayStandBut s making' (changed_in p f g.core.instances) → Within s making' (record g { core = record g.core { instances = changed_in p f g.core.instances } })
  rewritten making' p f body stand =
      let h : Situation = record g { core = record g.core { instances = changed_in p f g.core.instances } } in
      record {
        types = w.types;
        instances = stand;
        links = linked_elsewhere s g.core.instances g.core.links w.links (changed_in p f g.core.instances) remain;
        mail = of_waits s h (waits_elsewhere s g.core.instances g.core.links g.made g.mail waits (changed_in p f g.core.instances) remain);
      }
    where
      remain : (x : Path) → Remains g.core.instances (changed_in p f g.core.instances) x
      remain x i there =
          let now = changed_is p f (fin.get g.core.instances) x i there in
          (now.0, get_changed p f g.core.instances x ∙ now.1, elim now.2 [ inl e ↦ ap (λ (j : Instance). j.body) e | inr e ↦ ap (λ (j : Instance). j.body) e.1 ∙ body i ])

  pub good_store : (p : Path) (i : Instance) (x : ℕ) (way : List ℕ) (v : Value) → fin.get g.core.instances p ≡ Some i → may_store (g.core.types i.body) x way v ≡ true → Good (situation_kept p (Store x way v) g)
  good_store p i x way v there may =
      let f = changed (Store x way v) in
      let l = stands_of s making g.core.instances w.instances in (
        rewritten making p f (λ j. refl)
            (of_stands s making (changed_at p f (fin.get g.core.instances)) (changed_in p f g.core.instances) (get_changed p f g.core.instances)
            (stands_changed s making p f (fin.get g.core.instances) l (λ j. refl) (λ j. refl) (λ j. not_more j.births)
            (λ j b at is h. record {
              variables = values_stored (variable_types (meant s) b) j.variables x way v h.variables
                  (let same : i ≡ j = some_is i j (fin.get g.core.instances p) there at in
                  ap (λ (ts : List Denoter). may_store ts x way v) (sym (ap (λ (t : ℕ → List Denoter). t i.body) w.types ∙ ap (λ (n : Instance). types_of_variables s n.body) same ∙ ap (λ (o : Option BodyAlone). variable_types (meant s) (unwrap_or o no_body)) is)) ∙ may);
              state = h.state;
              module_variables = h.module_variables;
            }))),
        record {
          others = λ r o. ap (option_map outline) (get_changed p f g.core.instances r) ∙ changed_alike p f outline (fin.get g.core.instances) r (λ j. refl);
          itself = ap (option_map mark) (get_changed p f g.core.instances q) ∙ changed_alike p f mark (fin.get g.core.instances) q (λ j. refl);
          mail = λ r o. ([], sym (append-nil (filter (is_at r) g.mail)));
          pending = refl;
          timers = refl;
        },
      )
