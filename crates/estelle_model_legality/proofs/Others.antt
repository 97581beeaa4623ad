-- What else is pending stays so where one of them fires; and the situation is legal again.
use Rattle.std.proofs.Common.{◌≡◌, ℕ, Bool, true, false, ◌&&◌, ◌||◌, List, [], ◌∷◌, ◌++◌, filter, Option, Some, None, cond, refl, sym, ap, ap₂, subst, ◌∙◌, inl, inr}
use Rattle.std.specs.Prelude.{◌≢◌, option_and_then}
use Rattle.std.specs.Option.{option_map}
use Rattle.std.specs.Str.{bytes_eq}
use Rattle.std.specs.FinMap as fin
use Rattle.std.proofs.lemmas.List.Elements.{filter-append}
use Rattle.estelle_tree.specs.declared.link.IpAddr.{IpAddr}
use Rattle.estelle_tree.specs.declared.transition.Pair.{Pair}
use Rattle.estelle_tree.specs.Paths.{Path, is_inside}
use Rattle.estelle_tree.specs.Links.{same_ip}
use Rattle.estelle_model.specs.Core.{Instance}
use Rattle.estelle_model.specs.Transitions.{When}
use Rattle.estelle_model.specs.Subject.{Subject, transition}
use Rattle.estelle_model.specs.Attributes.{attribute, is_system}
use Rattle.estelle_model.specs.Situation.{Waiting, Situation}
use Rattle.estelle_model.specs.Queues.{Absent, is_common, common_at, one_queue, queue, head_at, named, received}
use Rattle.estelle_model.specs.InteractionPoints.{point, point_of}
use Rattle.estelle_model_legality.specs.Pending.{MayBePending}
use Rattle.estelle_model_legality.proofs.Lists.{and_both, or_cases, not_true, not_both, same_path, path_is}
use Rattle.estelle_model_legality.proofs.Ways.{inside_trans}
use Rattle.estelle_model_legality.proofs.Linking.{same_ip_is}
use Rattle.estelle_model_legality.proofs.Within.{outline, is_at, mapped_there, filter_within}

module _ (s : Subject) (m : Path) (g h : Situation)
    (others : (r : Path) → is_inside m r ≡ false → option_map outline (fin.get h.core.instances r) ≡ option_map outline (fin.get g.core.instances r))
    (mail : (r : Path) → is_inside m r ≡ false → (more : List Waiting) × (filter (is_at r) h.mail ≡ filter (is_at r) g.mail ++ more)) where
  -- the same by the body alone
  attribute_by : (o : Option Instance) → option_and_then (λ (i : Instance). attribute s i.body) o ≡ option_and_then (λ (i : Instance). attribute s i.body) (option_map outline o)
  attribute_by None = refl
  attribute_by (Some i) = refl

  point_by : (o : Option Instance) (k : ℕ) → point_of s o k ≡ point_of s (option_map outline o) k
  point_by None k = refl
  point_by (Some i) k = refl

  module _ (r : Path) (out : is_inside m r ≡ false) where
    points : (a : IpAddr) → a.path ≡ r → point s h.core.instances a ≡ point s g.core.instances a
    points a e =
        let there = others a.path (ap (is_inside m) e ∙ out) in
        point_by (fin.get h.core.instances a.path) a.ip ∙ ap (λ (o : Option Instance). point_of s o a.ip) there ∙ sym (point_by (fin.get g.core.instances a.path) a.ip)

    same_queue : (a b : IpAddr) → a.path ≡ r → b.path ≡ r → one_queue s h.core.instances a b ≡ one_queue s g.core.instances a b
    same_queue a b ea eb = ap₂ (λ (x y : Bool). same_ip a b || (bytes_eq a.path b.path && (x && y))) (ap common_at (points a ea)) (ap common_at (points b eb))

    in_queue_at : (k : Situation) (a b : IpAddr) → a.path ≡ r → one_queue s k.core.instances a b ≡ true → bytes_eq r b.path ≡ true
    in_queue_at k a b e t = elim (or_cases (same_ip a b) (bytes_eq a.path b.path && (is_common s k.core.instances a && is_common s k.core.instances b)) t) [
      | inl x ↦ subst (λ (p : Path). bytes_eq r p ≡ true) (sym e ∙ ap (λ (y : IpAddr). y.path) (same_ip_is a b x)) (path_is r)
      | inr x ↦ subst (λ (p : Path). bytes_eq p b.path ≡ true) e (and_both (bytes_eq a.path b.path) (is_common s k.core.instances a && is_common s k.core.instances b) x).0
    ]

    -- of what waits at the instance, the same are in the queue
    filter_same : (a : IpAddr) → a.path ≡ r → (ws : List Waiting) → filter (λ (w : Waiting). one_queue s h.core.instances a w.at) (filter (is_at r) ws) ≡ filter (λ (w : Waiting). one_queue s g.core.instances a w.at) (filter (is_at r) ws)
    filter_same a e [] = refl
    filter_same a e (w ∷ ws) = by (is_at r w) refl (filter_same a e ws)
      where
        by : (b : Bool) → is_at r w ≡ b → filter (λ (w : Waiting). one_queue s h.core.instances a w.at) (filter (is_at r) ws) ≡ filter (λ (w : Waiting). one_queue s g.core.instances a w.at) (filter (is_at r) ws)
            → filter (λ (w : Waiting). one_queue s h.core.instances a w.at) (cond b (w ∷ filter (is_at r) ws) (filter (is_at r) ws)) ≡ filter (λ (w : Waiting). one_queue s g.core.instances a w.at) (cond b (w ∷ filter (is_at r) ws) (filter (is_at r) ws))
        by true t rest = ap₂ (λ (c : Bool) (ys : List Waiting). cond c (w ∷ ys) ys) (same_queue a w.at e (sym (same_path r w.at.path t))) rest
        by false t rest = rest

    -- the queue only grows at its end
    queue_grows : (a : IpAddr) → a.path ≡ r → (more : List Waiting) × (queue s h a ≡ queue s g a ++ more)
    queue_grows a e =
        let x = mail r out in
        let test : Waiting → Bool = λ w. one_queue s g.core.instances a w.at in (
          filter test (filter (is_at r) x.0),
          sym (filter_around (λ w. one_queue s h.core.instances a w.at) (λ w. in_queue_at h a w.at e) h.mail)
              ∙ filter_same a e h.mail
              ∙ ap (filter test) (again h.mail)
              ∙ ap (λ (ws : List Waiting). filter test (filter (is_at r) ws)) x.1
              ∙ ap (filter test) (filter-append (is_at r) (filter (is_at r) g.mail) x.0)
              ∙ filter-append test (filter (is_at r) (filter (is_at r) g.mail)) (filter (is_at r) x.0)
              ∙ ap (λ (ws : List Waiting). filter test ws ++ filter test (filter (is_at r) x.0)) (sym (again g.mail))
              ∙ ap (λ (ws : List Waiting). ws ++ filter test (filter (is_at r) x.0)) (filter_around test (λ w. in_queue_at g a w.at e) g.mail),
        )
      where
        again : (ws : List Waiting) → filter (is_at r) ws ≡ filter (is_at r) (filter (is_at r) ws)
        again ws = sym (filter_within (is_at r) (is_at r) ws (λ w t. t))

        filter_around : (test : Waiting → Bool) → ((w : Waiting) → test w ≡ true → is_at r w ≡ true) → (ws : List Waiting) → filter test (filter (is_at r) ws) ≡ filter test ws
        filter_around test keeps ws = filter_within test (is_at r) ws keeps

    head_stays : (a : IpAddr) (w : When) (xs more : List Waiting) → named (Some w) (head_at a xs) ≢ Absent → named (Some w) (head_at a (xs ++ more)) ≢ Absent
    head_stays a w [] more n = absurd (n refl)
    head_stays a w (x ∷ xs) more n = n

    received_stays : (o : Option When) → received s g r o ≢ Absent → received s h r o ≢ Absent
    received_stays None n = n
    received_stays (Some w) n =
        let a : IpAddr = record { path = r; ip = w.ip } in
        let x = queue_grows a refl in
        subst (λ (ws : List Waiting). named (Some w) (head_at a ws) ≢ Absent) (sym x.1) (head_stays a w (queue s g a) x.0 n)

  -- what is neither the instance nor above or below it stays pending
  pub pending_stays : (p : Pair) → is_inside m p.path ≡ false → MayBePending s g p → MayBePending s h p
  pending_stays p out k =
      let outside_system : is_inside m k.system ≡ false = not_true (is_inside m k.system) (λ t. not_both (is_inside m p.path) (inside_trans m k.system p.path t k.inside) out) in
      let now = mapped_there outline (fin.get g.core.instances p.path) (fin.get h.core.instances p.path) k.instance (others p.path out) k.there in
      record {
        system = k.system;
        is_system = ap is_system (attribute_by (fin.get h.core.instances k.system) ∙ ap (option_and_then (λ (i : Instance). attribute s i.body)) (others k.system outside_system) ∙ sym (attribute_by (fin.get g.core.instances k.system))) ∙ k.is_system;
        inside = k.inside;
        instance = now.0;
        there = now.1;
        transition = k.transition;
        its = ap (λ (i : Instance). transition s i.body p.trans) now.2 ∙ k.its;
        head = received_stays p.path out k.transition.when k.head;
      }
