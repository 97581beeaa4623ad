-- Links and waiting interactions stay as they may be, by what each effect does to them.
use Rattle.std.proofs.Common.{◌≡◌, ◌⊎◌, ℕ, suc, ◌≤◌, Bool, true, false, not, ◌||◌, List, [], ◌∷◌, ◌++◌, filter, map, Option, Some, None, cond, refl, sym, ap, ap₂, subst, ◌∙◌, inl, inr, arith}
use Rattle.std.specs.Prelude.{nat_eq, count_by, Contains}
use Rattle.std.specs.List.{IsDistinct, AllByRecursion}
use Rattle.std.proofs.lemmas.Bool.Decides.{nat_tests}
use Rattle.std.proofs.lemmas.List.Elements.{Contains-append_cases}
use Rattle.std.proofs.lemmas.List.Sorted.{IsPermutation-filter_both, IsPermutation-append_comm, IsPermutation-map}
use Rattle.std.proofs.lemmas.Map.Keys.{IsDistinct-IsPermutation}
use Rattle.estelle_tree.specs.declared.link.IpAddr.{IpAddr}
use Rattle.estelle_tree.specs.declared.link.Link.{Link}
use Rattle.estelle_tree.specs.Paths.{Path, child}
use Rattle.estelle_tree.specs.Links.{same_ip, joins, is_upper_of, is_lower_of, connection, attachment, route}
use Rattle.estelle_tree.specs.Queues.{waits_at, brought_to, waiting, not_waiting, moved}
use Rattle.estelle_model.specs.declared.image.Interaction.{Interaction as Item}
use Rattle.estelle_model.specs.declared.meaning.InteractionKind.{InteractionKind}
use Rattle.estelle_model.specs.declared.meaning.InteractionPoint.{InteractionPoint}
use Rattle.estelle_model.specs.Core.{Instances}
use Rattle.estelle_model.specs.Subject.{Subject}
use Rattle.estelle_model.specs.InteractionPoints.{point, sends, receives, may_attach, may_connect}
use Rattle.estelle_model.specs.Jobs.{IsOwnOrChild}
use Rattle.estelle_model.specs.Actions.{is_bound, is_upper}
use Rattle.estelle_model.specs.Situation.{Waiting, Situation, arrived}
use Rattle.estelle_model_legality.specs.Linked.{MayLinkAs, MayBeLinked}
use Rattle.estelle_model_legality.specs.Mail.{IsOfKind, MayBeWaiting}
use Rattle.estelle_model.proofs.Units.{Each}
use Rattle.estelle_model_legality.proofs.Lists.{or_cases, or_none, is_not, in_cases, in_none, of_each, each_of, each_more, each_append, each_filter, count_append, count_filter, count_not_any, not_any, any_of, any_append}
use Rattle.estelle_model_legality.proofs.Linking.{same_ip_is, Remains, point_remains, linked_remains, route_receives, alike_receives}

-- ---- a link comes

contains_added : {A : Type 0} (xs : List A) (x y : A) → Contains (xs ++ x ∷ []) y → (y ≡ x) ⊎ Contains xs y
contains_added {A} xs x y h = elim (Contains-append_cases xs (x ∷ []) y h) [
  | inl c ↦ inr c
  | inr c ↦ elim (in_cases A y x [] c) [ inl e ↦ inl e | inr n ↦ absurd (in_none A y n) ]
]

count_added : (test : Link → Bool) (links : List Link) (l : Link) → count_by test links ≤ 1 → (test l ≡ true → count_by test links ≡ 0) → count_by test (links ++ l ∷ []) ≤ 1
count_added test links l most none = by (test l) refl
  where
    by : (b : Bool) → test l ≡ b → count_by test (links ++ l ∷ []) ≤ 1
    by true e = let sum = count_append Link test links l in let one : ◌≡◌ {A = ℕ} (cond (test l) 1 0) 1 = ap (λ (c : Bool). cond c 1 0) e in let n = none e in omega (arith, sum, one, n)
    by false e = let sum = count_append Link test links l in let one : ◌≡◌ {A = ℕ} (cond (test l) 1 0) 0 = ap (λ (c : Bool). cond c 1 0) e in omega (arith, sum, one, most)

same_end : (x a : IpAddr) (test : IpAddr → Bool) → same_ip x a ≡ true → test a ≡ false → test x ≡ false
same_end x a test e h = ap test (same_ip_is x a e) ∙ h

bound_none : (x a : IpAddr) (links : List Link) → same_ip x a ≡ true → is_bound a links ≡ false → count_by (λ l. joins x l || is_lower_of x l) links ≡ 0
bound_none x a links e h = count_not_any Link (λ l. joins x l || is_lower_of x l) links (ap (λ (y : IpAddr). is_bound y links) (same_ip_is x a e) ∙ h)

or_false : (b : Bool) → (b || false) ≡ true → b ≡ true
or_false true h = refl
or_false false h = h

module _ (s : Subject) (is : Instances) (links : List Link) (h : MayBeLinked s is links) where
  pub linked_connected : (m : Path) (a b : IpAddr) → IsOwnOrChild m a.path → IsOwnOrChild m b.path → may_connect s is m a b ≡ true → (is_bound a links || is_bound b links) ≡ false → MayBeLinked s is (links ++ connection a b ∷ [])
  linked_connected m a b first second may free =
      let none = or_none (is_bound a links) (is_bound b links) free in
      record {
        each = λ l c. elim (contains_added links (connection a b) l c) [
          | inl e ↦ subst (λ (x : Link). MayLinkAs s is x.kind x.first x.second) (sym e) (m, first, second, may)
          | inr d ↦ h.each l d
        ];
        bound_once = λ x. count_added (λ l. joins x l || is_lower_of x l) links (connection a b) (h.bound_once x)
            (λ e. elim (or_cases (same_ip x a) (same_ip x b) (or_false (same_ip x a || same_ip x b) e)) [
              | inl ea ↦ bound_none x a links ea none.0
              | inr eb ↦ bound_none x b links eb none.1
            ]);
        upper_once = λ x. count_added (is_upper_of x) links (connection a b) (h.upper_once x) (λ e. absurd (cc));
      }

  pub linked_attached : (k : ℕ) (upper lower : IpAddr) → lower.path ≡ child upper.path k → may_attach s is upper lower ≡ true → (is_upper upper links || is_bound lower links) ≡ false → MayBeLinked s is (links ++ attachment upper lower ∷ [])
  linked_attached k upper lower below may free =
      let none = or_none (is_upper upper links) (is_bound lower links) free in
      record {
        each = λ l c. elim (contains_added links (attachment upper lower) l c) [
          | inl e ↦ subst (λ (x : Link). MayLinkAs s is x.kind x.first x.second) (sym e) (k, below, may)
          | inr d ↦ h.each l d
        ];
        bound_once = λ x. count_added (λ l. joins x l || is_lower_of x l) links (attachment upper lower) (h.bound_once x) (λ e. bound_none x lower links e none.1);
        upper_once = λ x. count_added (is_upper_of x) links (attachment upper lower) (h.upper_once x)
            (λ e. count_not_any Link (is_upper_of x) links (ap (λ (y : IpAddr). is_upper y links) (same_ip_is x upper e) ∙ none.0));
      }

  -- ---- links go, and instances that none of the others needs

  pub linked_filtered : (after : Instances) (kept : Link → Bool) → ((l : Link) → kept l ≡ true → Remains is after l.first.path × Remains is after l.second.path) → MayBeLinked s after (filter kept links)
  linked_filtered after kept stays = record {
    each = of_each Link (λ l. MayLinkAs s after l.kind l.first l.second) (filter kept links)
        (each_filter Link (λ l. MayLinkAs s is l.kind l.first l.second) (λ l. MayLinkAs s after l.kind l.first l.second) kept links
        (λ l e g. let r = stays l e in linked_remains s is after l.kind l.first l.second r.0 r.1 g)
        (each_of Link (λ l. MayLinkAs s is l.kind l.first l.second) links h.each));
    bound_once = λ a. let less = count_filter Link (λ l. joins a l || is_lower_of a l) kept links in let most = h.bound_once a in omega (arith, less, most);
    upper_once = λ a. let less = count_filter Link (is_upper_of a) kept links in let most = h.upper_once a in omega (arith, less, most);
  }

  pub linked_elsewhere : (after : Instances) → ((p : Path) → Remains is after p) → MayBeLinked s after links
  linked_elsewhere after stays = record {
    each = λ l c. linked_remains s is after l.kind l.first l.second (stays l.first.path) (stays l.second.path) (h.each l c);
    bound_once = h.bound_once;
    upper_once = h.upper_once;
  }

-- ---- who is an upper end

pub upper_filtered : (a : IpAddr) (kept : Link → Bool) (links : List Link) → is_upper a links ≡ false → is_upper a (filter kept links) ≡ false
upper_filtered a kept links h = any_of Link (is_upper_of a) (filter kept links) (each_filter Link (λ l. is_upper_of a l ≡ false) (λ l. is_upper_of a l ≡ false) kept links (λ l e g. g) (not_any Link (is_upper_of a) links h))

pub upper_detached : (a : IpAddr) (links : List Link) → is_upper a (filter (λ l. not (is_upper_of a l)) links) ≡ false
upper_detached a links = any_of Link (is_upper_of a) (filter (λ l. not (is_upper_of a l)) links) (go links)
  where
    step : (l : Link) (more : List Link) (b : Bool) → is_upper_of a l ≡ b → Each (λ x. is_upper_of a x ≡ false) (filter (λ x. not (is_upper_of a x)) more) → Each (λ x. is_upper_of a x ≡ false) (cond (not b) (l ∷ filter (λ x. not (is_upper_of a x)) more) (filter (λ x. not (is_upper_of a x)) more))
    step l more true e rest = rest
    step l more false e rest = (e, rest)

    go : (xs : List Link) → Each (λ x. is_upper_of a x ≡ false) (filter (λ x. not (is_upper_of a x)) xs)
    go [] = tt
    go (l ∷ more) = step l more (is_upper_of a l) refl (go more)

pub upper_connected : (a x y : IpAddr) (links : List Link) → is_upper a links ≡ false → is_upper a (links ++ connection x y ∷ []) ≡ false
upper_connected a x y links h = any_append Link (is_upper_of a) links (connection x y) ∙ ap (λ (b : Bool). b || false) h

pub upper_attached : (a upper lower : IpAddr) (links : List Link) → is_upper a links ≡ false → same_ip a upper ≡ false → is_upper a (links ++ attachment upper lower ∷ []) ≡ false
upper_attached a upper lower links h e = any_append Link (is_upper_of a) links (attachment upper lower) ∙ ap₂ (λ (b c : Bool). b || c) h e

-- ---- what waits

abbrev pub number_of : Waiting → ℕ
number_of w = w.item.number

-- it waits as it may, by the instances and links alone
pub record WaitsAs (s : Subject) (is : Instances) (links : List Link) (w : Waiting) : Type 0 where
  pub at : InteractionPoint
  pub there : point s is w.at ≡ Some at
  pub kind : InteractionKind
  pub of_kind : IsOfKind s kind w.item
  pub received : receives at kind ≡ true
  pub last : is_upper w.at links ≡ false

pub record Waits (s : Subject) (is : Instances) (links : List Link) (count : ℕ) (mail : List Waiting) : Type 0 where
  pub each : Each (WaitsAs s is links) mail
  pub distinct : IsDistinct nat_eq (map number_of mail)
  pub made : Each (λ (w : Waiting). w.item.number ≤ count) mail

pub waits_of : (s : Subject) (g : Situation) → MayBeWaiting s g → Waits s g.core.instances g.core.links g.made g.mail
waits_of s g h = record {
  each = each_of Waiting (WaitsAs s g.core.instances g.core.links) g.mail (λ w c. let x = h.each w c in record { at = x.arrives.at; there = x.arrives.there; kind = x.arrives.kind; of_kind = x.arrives.of_kind; received = x.arrives.received; last = x.last });
  distinct = h.distinct;
  made = each_of Waiting (λ w. w.item.number ≤ g.made) g.mail h.made;
}

pub of_waits : (s : Subject) (g : Situation) → Waits s g.core.instances g.core.links g.made g.mail → MayBeWaiting s g
of_waits s g h = record {
  each = λ w c. let x = of_each Waiting (WaitsAs s g.core.instances g.core.links) g.mail h.each w c in record { arrives = record { at = x.at; there = x.there; kind = x.kind; of_kind = x.of_kind; received = x.received }; last = x.last };
  distinct = h.distinct;
  made = of_each Waiting (λ w. w.item.number ≤ g.made) g.mail h.made;
}

-- numbers stay distinct where some go
distinct_filter : (kept : Waiting → Bool) (mail : List Waiting) → IsDistinct nat_eq (map number_of mail) → IsDistinct nat_eq (map number_of (filter kept mail))
unfolding IsDistinct
distinct_filter kept [] h = tt
distinct_filter kept (w ∷ mail) h = by (kept w) (distinct_filter kept mail h.1)
  where
    apart : (n : ℕ) (ws : List Waiting) → AllByRecursion (λ y. nat_eq n y ≡ false) (map number_of ws) → AllByRecursion (λ y. nat_eq n y ≡ false) (map number_of (filter kept ws))
    apart n [] g = tt
    apart n (v ∷ ws) g = more (kept v) (apart n ws g.1)
      where
        more : (b : Bool) → AllByRecursion (λ y. nat_eq n y ≡ false) (map number_of (filter kept ws)) → AllByRecursion (λ y. nat_eq n y ≡ false) (map number_of (cond b (v ∷ filter kept ws) (filter kept ws)))
        more true rest = (g.0, rest)
        more false rest = rest

    by : (b : Bool) → IsDistinct nat_eq (map number_of (filter kept mail)) → IsDistinct nat_eq (map number_of (cond b (w ∷ filter kept mail) (filter kept mail)))
    by true rest = (apart w.item.number mail h.0, rest)
    by false rest = rest

flips : (x y : ℕ) → nat_eq x y ≡ nat_eq y x
flips x y = grind (arith, nat_tests)

brought_numbers : (b : IpAddr) (ws : List Waiting) → map number_of (map (brought_to b) ws) ≡ map number_of ws
brought_numbers b [] = refl
brought_numbers b (w ∷ ws) = ap (λ (ns : List ℕ). w.item.number ∷ ns) (brought_numbers b ws)

map_append : (xs ys : List Waiting) → map number_of (xs ++ ys) ≡ map number_of xs ++ map number_of ys
map_append [] ys = refl
map_append (x ∷ xs) ys = ap (λ (ns : List ℕ). x.item.number ∷ ns) (map_append xs ys)

-- a move changes places alone
distinct_moved : (a b : IpAddr) (mail : List Waiting) → IsDistinct nat_eq (map number_of mail) → IsDistinct nat_eq (map number_of (moved a b mail))
distinct_moved a b mail h =
    let swap = IsPermutation-filter_both (λ (w : Waiting). not (waits_at a w)) (waits_at a) (λ w. twice (waits_at a w)) mail in
    let numbers = IsPermutation-map number_of mail (not_waiting a mail ++ waiting a mail) swap in
    let same : map number_of (moved a b mail) ≡ map number_of (not_waiting a mail ++ waiting a mail) =
    map_append (not_waiting a mail) (map (brought_to b) (waiting a mail)) ∙ ap (λ (ns : List ℕ). map number_of (not_waiting a mail) ++ ns) (brought_numbers b (waiting a mail)) ∙ sym (map_append (not_waiting a mail) (waiting a mail)) in
    subst (IsDistinct nat_eq) (sym same) (IsDistinct-IsPermutation nat_eq flips (map number_of mail) (map number_of (not_waiting a mail ++ waiting a mail)) numbers h)
  where
    twice : (c : Bool) → c ≡ not (not c)
    twice true = refl
    twice false = refl

each_brought : (P Q : Waiting → Type 0) (b : IpAddr) (ws : List Waiting) → ((w : Waiting) → P w → Q (brought_to b w)) → Each P ws → Each Q (map (brought_to b) ws)
each_brought P Q b [] h k = tt
each_brought P Q b (w ∷ ws) h k = (h w k.0, each_brought P Q b ws h k.1)

-- each that a move leaves, and each that it brings
each_moved : (P Q : Waiting → Type 0) (a b : IpAddr) (mail : List Waiting) → ((w : Waiting) → waits_at a w ≡ false → P w → Q w) → ((w : Waiting) → waits_at a w ≡ true → P w → Q (brought_to b w)) → Each P mail → Each Q (moved a b mail)
each_moved P Q a b mail left come h =
    each_append Waiting Q (not_waiting a mail) (map (brought_to b) (waiting a mail))
    (each_filter Waiting P Q (λ w. not (waits_at a w)) mail (λ w e g. left w (is_not (waits_at a w) e) g) h)
    (each_brought (λ w. P w × (waits_at a w ≡ true)) Q b (waiting a mail) (λ w g. come w g.1 g.0) (each_filter Waiting P (λ w. P w × (waits_at a w ≡ true)) (waits_at a) mail (λ w e g. (g, e)) h))

module _ (s : Subject) (is : Instances) (links : List Link) (made : ℕ) (mail : List Waiting) (h : Waits s is links made mail) where
  -- some go, with instances and links that the others do not need
  pub waits_filtered : (after : Instances) (kept_links : Link → Bool) (kept : Waiting → Bool) → ((w : Waiting) → kept w ≡ true → Remains is after w.at.path) → Waits s after (filter kept_links links) made (filter kept mail)
  waits_filtered after kept_links kept stays = record {
    each = each_filter Waiting (WaitsAs s is links) (WaitsAs s after (filter kept_links links)) kept mail
        (λ w e x. record { at = x.at; there = point_remains s is after w.at x.at (stays w e) x.there; kind = x.kind; of_kind = x.of_kind; received = x.received; last = upper_filtered w.at kept_links links x.last }) h.each;
    distinct = distinct_filter kept mail h.distinct;
    made = each_filter Waiting (λ w. w.item.number ≤ made) (λ w. w.item.number ≤ made) kept mail (λ w e x. x) h.made;
  }

  pub waits_with_links : (more : List Link) → ((a : IpAddr) → is_upper a links ≡ false → is_upper a more ≡ false) → Waits s is more made mail
  waits_with_links more keeps = record {
    each = each_more Waiting (WaitsAs s is links) (WaitsAs s is more) mail (λ w x. record { at = x.at; there = x.there; kind = x.kind; of_kind = x.of_kind; received = x.received; last = keeps w.at x.last }) h.each;
    distinct = h.distinct;
    made = h.made;
  }

  pub waits_elsewhere : (after : Instances) → ((p : Path) → Remains is after p) → Waits s after links made mail
  waits_elsewhere after stays = record {
    each = each_more Waiting (WaitsAs s is links) (WaitsAs s after links) mail (λ w x. record { at = x.at; there = point_remains s is after w.at x.at (stays w.at.path) x.there; kind = x.kind; of_kind = x.of_kind; received = x.received; last = x.last }) h.each;
    distinct = h.distinct;
    made = h.made;
  }

  -- what waits at a point is moved to one of the same channel and role
  pub waits_moved : (more : List Link) (a b : IpAddr) (p q : InteractionPoint) → point s is a ≡ Some p → point s is b ≡ Some q → p.channel ≡ q.channel → p.role ≡ q.role
      → ((w : Waiting) → waits_at a w ≡ false → is_upper w.at links ≡ false → is_upper w.at more ≡ false) → is_upper b more ≡ false → Waits s is more made (moved a b mail)
  waits_moved more a b p q pa qb channel role keeps last = record {
    each = each_moved (WaitsAs s is links) (WaitsAs s is more) a b mail
        (λ w e x. record { at = x.at; there = x.there; kind = x.kind; of_kind = x.of_kind; received = x.received; last = keeps w e x.last })
        (λ w e x.
        let at_a : w.at ≡ a = sym (same_ip_is a w.at e) in
        let same : x.at ≡ p = (let f : Some x.at ≡ Some p = sym x.there ∙ ap (point s is) at_a ∙ pa in cc) in
        record { at = q; there = qb; kind = x.kind; of_kind = x.of_kind; received = alike_receives p q x.kind channel role (subst (λ (y : InteractionPoint). receives y x.kind ≡ true) same x.received); last = last }) h.each;
    distinct = distinct_moved a b mail h.distinct;
    made = each_moved (λ w. w.item.number ≤ made) (λ w. w.item.number ≤ made) a b mail (λ w e x. x) (λ w e x. x) h.made;
  }

  later : Each (λ (w : Waiting). w.item.number ≤ suc made) mail
  later = each_more Waiting (λ w. w.item.number ≤ made) (λ w. w.item.number ≤ suc made) mail (λ w x. omega (arith, x)) h.made

  new_number : (ws : List Waiting) → Each (λ (w : Waiting). w.item.number ≤ made) ws → AllByRecursion (λ y. nat_eq (suc made) y ≡ false) (map number_of ws)
  new_number [] g = tt
  new_number (w ∷ ws) g = (let less = g.0 in grind (arith, nat_tests, less), new_number ws g.1)

  -- an output comes to where its way leads
  pub waits_output : (a : IpAddr) (p : InteractionPoint) (kind : InteractionKind) (i : Item) → point s is a ≡ Some p → sends p kind ≡ true → IsOfKind s kind i → i.number ≡ suc made
      → ((l : Link) → Contains links l → MayLinkAs s is l.kind l.first l.second) → Waits s is links (suc made) (arrived i (route links a) mail)
  unfolding IsDistinct
  waits_output a p kind i there may of_kind number each = by (route links a) refl
    where
      by : (o : Option IpAddr) → route links a ≡ o → Waits s is links (suc made) (arrived i o mail)
      by None e = record { each = h.each; distinct = h.distinct; made = later }
      by (Some b) e =
          let r = route_receives s is links each a b p kind there may e in
          let w : Waiting = record { item = i; at = b } in
          let front : IsDistinct nat_eq (map number_of (w ∷ mail)) = (subst (λ (n : ℕ). AllByRecursion (λ y. nat_eq n y ≡ false) (map number_of mail)) (sym number) (new_number mail h.made), h.distinct) in
          record {
            each = each_append Waiting (WaitsAs s is links) mail (w ∷ []) h.each (record { at = r.0; there = r.1; kind = kind; of_kind = of_kind; received = r.2; last = r.3 }, tt);
            distinct = IsDistinct-IsPermutation nat_eq flips (map number_of (w ∷ mail)) (map number_of (mail ++ w ∷ [])) (IsPermutation-map number_of (w ∷ mail) (mail ++ w ∷ []) (IsPermutation-append_comm (w ∷ []) mail)) front;
            made = each_append Waiting (λ v. v.item.number ≤ suc made) mail (w ∷ []) later ((omega (arith, number)), tt);
          }
