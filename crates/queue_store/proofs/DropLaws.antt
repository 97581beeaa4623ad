-- The queues of an instance and of those below it are gone.
use Rattle.std.proofs.Common.{◌≡◌, ◌≢◌, ◌⊎◌, subst, ℕ, zero, suc, ◌+◌, ◌-◌, ◌<◌, ◌≤◌, Bool, true, false, cond, List, [], ◌∷◌, ◌++◌, length, Option, Some, None, is_some, refl, sym, ap, ◌∙◌, inl, inr, arith, sum_by, count_by, slice_get, drop, append_assoc, length-append}
use Rattle.std.specs.Prelude.{nat_eq, map as each, if◌then◌else◌, ◌&&◌, ◌||◌, filter, not, option_and_then, unwrap_or}
use Rattle.std.specs.Option.{option_map}
use Rattle.std.specs.Str.{bytes_eq}
use Rattle.std.proofs.lemmas.Bool.{cases_eq}
use Rattle.std.proofs.lemmas.Option.{same_Some}
use Rattle.std.proofs.lemmas.List.{append-nil}
use Rattle.std.proofs.lemmas.List.Sums.{sum_by-cons}
use Rattle.estelle_tree.specs.declared.link.IpAddr.{IpAddr}
use Rattle.estelle_tree.specs.Links.{same_ip}
use Rattle.estelle_tree.specs.Paths.{Path, is_inside}
use Rattle.queue_store.specs.Rows.{Row, ip_at, is_row_of, on_row, with_items, first_taken, first_item, count_of, items_of, taken_of, lies_inside, below_items, outside_rows}
use Rattle.queue_store.specs.Queues.{Queue, among, some_inside, items_below, dropped_below}
use Rattle.queue_store.specs.Queues as queue
use Rattle.queue_store.specs.Homes.{Head, home_ip, lives_at, ips_in, heads_at, head_of, heads, owns, waits_in, queue_in, queues_of, Filed, AllFiled, AllKnown, HasHome, Housed, AllBelow}
use Rattle.queue_store.proofs.RowLaws.{Cut, cut, on_row-cut, get-cut}
use Rattle.queue_store.proofs.HomeLaws.{same_path-refl, same_path-equal, nat_eq-equal, nat_eq-refl, both-true, part-true, false-unless, get-heads, heads_at-cons}
use Rattle.queue_store.proofs.MoveLaws.{get-on_row, get-other_row, length-on_row, on_row-twice}
use Rattle.queue_store.proofs.TableLaws.{bit}

-- ---- a row is emptied from its front

module _ {T : Type 0} where
  pub first-of-row : (r : ℕ) (ds : List (Row T)) (x : ℕ × T) → first_item r ds ≡ Some x → items_of r ds ≡ x ∷ items_of r (on_row r first_taken ds)
  first-of-row r ds x h =
      by (slice_get ds r) h ∙ ap (λ o. x ∷ unwrap_or (option_map (λ d. d.items) o) []) (sym (get-on_row r first_taken ds))
    where
      by : (o : Option (Row T)) → option_and_then (λ d. slice_get d.items 0) o ≡ Some x → unwrap_or (option_map (λ d. d.items) o) [] ≡ x ∷ unwrap_or (option_map (λ d. d.items) (option_map first_taken o)) []
      by None q = absurd (cc)
      by (Some d) q = front d.items q
        where
          front : (xs : List (ℕ × T)) → slice_get xs 0 ≡ Some x → xs ≡ x ∷ drop 1 xs
          front [] p = absurd (cc)
          front (y ∷ ys) p = ap (λ z. z ∷ ys) (same_Some y x p)

  pub count-of-row : (r : ℕ) (ds : List (Row T)) → count_of r ds ≡ length (items_of r ds)
  count-of-row r ds = by (slice_get ds r)
    where
      by : (o : Option (Row T)) → unwrap_or (option_map (λ d. length d.items) o) 0 ≡ length (unwrap_or (option_map (λ d. d.items) o) [])
      by None = refl
      by (Some d) = refl

  pub none-of-row : (r : ℕ) (ds : List (Row T)) → first_item r ds ≡ None → items_of r ds ≡ []
  none-of-row r ds h = by (slice_get ds r) h
    where
      by : (o : Option (Row T)) → option_and_then (λ d. slice_get d.items 0) o ≡ None → unwrap_or (option_map (λ d. d.items) o) [] ≡ []
      by None q = refl
      by (Some d) q = front d.items q
        where
          front : (xs : List (ℕ × T)) → slice_get xs 0 ≡ None → xs ≡ []
          front [] p = refl
          front (y ∷ ys) p = absurd (cc)

  pub rest-of-row : (r : ℕ) (ds : List (Row T)) → items_of r (on_row r first_taken ds) ≡ drop 1 (items_of r ds)
  rest-of-row r ds = ap (λ o. unwrap_or (option_map (λ d. d.items) o) []) (get-on_row r first_taken ds) ∙ by (slice_get ds r)
    where
      by : (o : Option (Row T)) → unwrap_or (option_map (λ d. d.items) (option_map first_taken o)) [] ≡ drop 1 (unwrap_or (option_map (λ d. d.items) o) [])
      by None = refl
      by (Some d) = refl

  -- a row without items is as if emptied
  pub emptied-row : (r : ℕ) (ds : List (Row T)) → items_of r ds ≡ [] → on_row r (with_items []) ds ≡ ds
  emptied-row r [] h = refl
  emptied-row zero (d ∷ ds) h = ap (λ xs. with_items xs d ∷ ds) (sym h)
  emptied-row (suc r) (d ∷ ds) h = ap (λ l. d ∷ l) (emptied-row r ds h)

  pub taken-then-emptied : (r : ℕ) (ds : List (Row T)) → on_row r (with_items []) (on_row r first_taken ds) ≡ on_row r (with_items []) ds
  taken-then-emptied r ds = on_row-twice r (with_items []) first_taken ds

-- ---- rows inside of an instance

module _ {T : Type 0} (p : Path) where
  pub below-append : (ds es : List (Row T)) → below_items p (ds ++ es) ≡ below_items p ds ++ below_items p es
  below-append [] es = refl
  below-append (d ∷ ds) es = by (lies_inside p d) (below-append ds es)
    where
      by : (b : Bool) → below_items p (ds ++ es) ≡ below_items p ds ++ below_items p es
          → (if b then each (λ x. x.1) d.items ++ below_items p (ds ++ es) else below_items p (ds ++ es)) ≡ (if b then each (λ x. x.1) d.items ++ below_items p ds else below_items p ds) ++ below_items p es
      by true rest = ap (λ l. each (λ x. x.1) d.items ++ l) rest ∙ sym (append_assoc (each (λ x. x.1) d.items) (below_items p ds) (below_items p es))
      by false rest = rest

  -- the rows before an index that lie inside are empty
  abbrev pub NoneBefore : ℕ → List (Row T) → Type 0
  NoneBefore i ds = (j : ℕ) (d : Row T) → j < i → slice_get ds j ≡ Some d → lies_inside p d ≡ true → d.items ≡ []

  none-below : (i : ℕ) (ds : List (Row T)) → length ds ≤ i → NoneBefore i ds → below_items p ds ≡ []
  none-below i [] le none = refl
  none-below i (d ∷ ds) le none = by (lies_inside p d) refl
      (none-below (i - 1) ds (omega (arith, le)) (λ j e lt g. none (suc j) e (omega (arith, lt)) g))
    where
      by : (b : Bool) → lies_inside p d ≡ b → below_items p ds ≡ [] → (if b then each (λ x. x.1) d.items ++ below_items p ds else below_items p ds) ≡ []
      by true inside rest = ap (λ xs. each (λ x. x.1) xs ++ below_items p ds) (none 0 d (omega (arith, le)) refl inside) ∙ rest
      by false inside rest = rest

  none-sum : (i : ℕ) (ds : List (Row T)) → length ds ≤ i → NoneBefore i ds → sum_by (λ d. length d.items) (filter (lies_inside p) ds) ≡ 0
  none-sum i [] le none = refl
  none-sum i (d ∷ ds) le none = by (lies_inside p d) refl
      (none-sum (i - 1) ds (omega (arith, le)) (λ j e lt g. none (suc j) e (omega (arith, lt)) g))
    where
      by : (b : Bool) → lies_inside p d ≡ b → sum_by (λ e. length e.items) (filter (lies_inside p) ds) ≡ 0
          → sum_by (λ e. length e.items) (cond b (d ∷ filter (lies_inside p) ds) (filter (lies_inside p) ds)) ≡ 0
      by true inside rest = omega (arith, rest, sum_by-cons (λ e. length e.items) d (filter (lies_inside p) ds), ap length (none 0 d (omega (arith, le)) refl inside))
      by false inside rest = rest

  pub all-none : (ds : List (Row T)) (i : ℕ) → length ds ≤ i → NoneBefore i ds → (below_items p ds ≡ []) × (sum_by (λ d. length d.items) (filter (lies_inside p) ds) ≡ 0)
  all-none ds i le none = (none-below i ds le none, none-sum i ds le none)

  outside-append : (ds es : List (Row T)) → outside_rows p (ds ++ es) ≡ outside_rows p ds ++ outside_rows p es
  outside-append [] es = refl
  outside-append (d ∷ ds) es = by (lies_inside p d) (outside-append ds es)
    where
      by : (b : Bool) → outside_rows p (ds ++ es) ≡ outside_rows p ds ++ outside_rows p es
          → cond (not b) (d ∷ outside_rows p (ds ++ es)) (outside_rows p (ds ++ es)) ≡ cond (not b) (d ∷ outside_rows p ds) (outside_rows p ds) ++ outside_rows p es
      by true rest = rest
      by false rest = ap (λ l. d ∷ l) rest

  -- a row that lies inside is emptied
  module _ (ds : List (Row T)) (i : ℕ) (d : Row T) (there : slice_get ds i ≡ Some d) (inside : lies_inside p d ≡ true) where
    c : Cut ds i d
    c = cut ds i d there

    emptied : on_row i (with_items []) ds ≡ c.front ++ with_items [] d ∷ c.back
    emptied = ap (on_row i (with_items [])) c.is ∙ ap (λ j. on_row j (with_items []) (c.front ++ d ∷ c.back)) (sym c.at) ∙ on_row-cut (with_items []) c.front d c.back

    pub emptied-outside : outside_rows p (on_row i (with_items []) ds) ≡ outside_rows p ds
    emptied-outside =
        ap (outside_rows p) emptied ∙ outside-append c.front (with_items [] d ∷ c.back)
        ∙ ap (λ b. outside_rows p c.front ++ cond (not b) (with_items [] d ∷ outside_rows p c.back) (outside_rows p c.back)) inside
        ∙ sym (ap (outside_rows p) c.is ∙ outside-append c.front (d ∷ c.back)
        ∙ ap (λ b. outside_rows p c.front ++ cond (not b) (d ∷ outside_rows p c.back) (outside_rows p c.back)) inside)

    pub emptied-items : NoneBefore i ds → below_items p ds ≡ each (λ x. x.1) d.items ++ below_items p (on_row i (with_items []) ds)
    emptied-items none =
        let front : below_items p c.front ≡ [] =
        none-below i c.front (omega (arith, c.at)) (λ j e lt g. none j e lt (ap (λ l. slice_get l j) c.is ∙ front-get c.front (d ∷ c.back) j e g)) in
        let before : below_items p ds ≡ each (λ x. x.1) d.items ++ below_items p c.back =
        ap (below_items p) c.is ∙ below-append c.front (d ∷ c.back) ∙ ap (λ l. l ++ below_items p (d ∷ c.back)) front
        ∙ ap (λ b. if b then each (λ x. x.1) d.items ++ below_items p c.back else below_items p c.back) inside in
        let after : below_items p (on_row i (with_items []) ds) ≡ below_items p c.back =
        ap (below_items p) emptied ∙ below-append c.front (with_items [] d ∷ c.back) ∙ ap (λ l. l ++ below_items p (with_items [] d ∷ c.back)) front
        ∙ ap (λ b. if b then below_items p c.back else below_items p c.back) inside in
        before ∙ ap (λ l. each (λ x. x.1) d.items ++ l) (sym after)
      where
        front-get : (xs ys : List (Row T)) (j : ℕ) (e : Row T) → slice_get xs j ≡ Some e → slice_get (xs ++ ys) j ≡ Some e
        front-get [] ys j e g = absurd (cc)
        front-get (x ∷ xs) ys zero e g = g
        front-get (x ∷ xs) ys (suc j) e g = front-get xs ys j e g

    pub emptied-before : NoneBefore i ds → NoneBefore (i + 1) (on_row i (with_items []) ds)
    emptied-before none j e lt g in-e =
        elim (cases_eq i j) [
          | inl same ↦
              let here : slice_get (on_row i (with_items []) ds) i ≡ Some (with_items [] d) = get-on_row i (with_items []) ds ∙ ap (option_map (with_items [])) there in
              let same-row : with_items [] d ≡ e = same_Some _ e (sym here ∙ ap (slice_get (on_row i (with_items []) ds)) same ∙ g) in
              ap (λ x. x.items) (sym same-row)
          | inr ne ↦ none j e (omega (arith, lt, ne)) (sym (get-other_row i j (with_items []) ds ne) ∙ g) in-e
        ]

  pub skipped-before : (ds : List (Row T)) (i : ℕ) (d : Row T) → slice_get ds i ≡ Some d → lies_inside p d ≡ false → NoneBefore i ds → NoneBefore (i + 1) ds
  skipped-before ds i d there out none j e lt g in-e =
      elim (cases_eq i j) [
        | inl same ↦
            let same-row : d ≡ e = same_Some d e (sym there ∙ ap (slice_get ds) same ∙ g) in
            let clash : true ≡ false = sym in-e ∙ ap (lies_inside p) (sym same-row) ∙ out in
            absurd (cc)
        | inr ne ↦ none j e (omega (arith, lt, ne)) g in-e
      ]

-- ---- heads outside of an instance

abbrev out : Path → Head → Bool
out p h = not (is_inside p h.at.path)

get-filter : {A : Type 0} (f : A → Bool) (xs : List A) (i : ℕ) (x : A) → slice_get (filter f xs) i ≡ Some x → (j : ℕ) × (slice_get xs j ≡ Some x) × (f x ≡ true)
get-filter f [] i x g = absurd (cc)
get-filter f (y ∷ ys) i x g = by (f y) refl i g (λ k h. get-filter f ys k x h)
  where
    by : (b : Bool) → f y ≡ b → (k : ℕ) → slice_get (cond b (y ∷ filter f ys) (filter f ys)) k ≡ Some x → ((m : ℕ) → slice_get (filter f ys) m ≡ Some x → (j : ℕ) × (slice_get ys j ≡ Some x) × (f x ≡ true))
        → (j : ℕ) × (slice_get (y ∷ ys) j ≡ Some x) × (f x ≡ true)
    by true e zero h rest = (0, h, ap f (sym (same_Some y x h)) ∙ e)
    by true e (suc k) h rest = let r = rest k h in (suc r.0, r.1, r.2)
    by false e k h rest = let r = rest k h in (suc r.0, r.1, r.2)

filter-get : {A : Type 0} (f : A → Bool) (xs : List A) (j : ℕ) (x : A) → slice_get xs j ≡ Some x → f x ≡ true → (i : ℕ) × (slice_get (filter f xs) i ≡ Some x)
filter-get f [] j x g h = absurd (cc)
filter-get f (y ∷ ys) zero x g h =
    let keep : f y ≡ true = ap f (same_Some y x g) ∙ h in
    (0, ap (λ b. slice_get (cond b (y ∷ filter f ys) (filter f ys)) 0) keep ∙ g)
filter-get f (y ∷ ys) (suc j) x g h = by (f y) (filter-get f ys j x g h)
  where
    by : (b : Bool) → (i : ℕ) × (slice_get (filter f ys) i ≡ Some x) → (i : ℕ) × (slice_get (cond b (y ∷ filter f ys) (filter f ys)) i ≡ Some x)
    by true r = (suc r.0, r.1)
    by false r = r

heads-outside : {T : Type 0} (p : Path) (ds : List (Row T)) → heads (outside_rows p ds) ≡ filter (out p) (heads ds)
heads-outside p [] = refl
heads-outside p (d ∷ ds) = by (is_inside p d.at.path) (heads-outside p ds)
  where
    by : (b : Bool) → heads (outside_rows p ds) ≡ filter (out p) (heads ds)
        → heads (cond (not b) (d ∷ outside_rows p ds) (outside_rows p ds)) ≡ cond (not b) (head_of d ∷ filter (out p) (heads ds)) (filter (out p) (heads ds))
    by true rest = rest
    by false rest = ap (λ l. head_of d ∷ l) rest

ips-outside : (p : Path) (hs : List Head) (q : Path) (n : ℕ) → is_inside p q ≡ false → ips_in (filter (out p) hs) q n ≡ ips_in hs q n
ips-outside p [] q n o = refl
ips-outside p (h ∷ hs) q n o = by (is_inside p h.at.path) refl (ips-outside p hs q n o)
  where
    by : (b : Bool) → is_inside p h.at.path ≡ b → ips_in (filter (out p) hs) q n ≡ ips_in hs q n → ips_in (cond (not b) (h ∷ filter (out p) hs) (filter (out p) hs)) q n ≡ ips_in (h ∷ hs) q n
    by true e rest =
        let away : lives_at q n h ≡ false = false-unless _ (λ lives.
        let path = same_path-equal _ _ (part-true _ _ lives).0 in
        let clash : true ≡ false = sym e ∙ ap (is_inside p) (sym path) ∙ o in
        cc) in
        rest ∙ sym (ap (λ b. if b then h.at ∷ ips_in hs q n else ips_in hs q n) away)
    by false e rest = ap (λ l. if lives_at q n h then h.at ∷ l else l) rest

some-inside-path : (p : Path) (hs : List Head) (q : Path) (n : ℕ) → some_inside p (ips_in hs q n) ≡ true → is_inside p q ≡ true
some-inside-path p [] q n h = absurd (cc)
some-inside-path p (k ∷ hs) q n h = by (lives_at q n k) refl h (some-inside-path p hs q n)
  where
    by : (b : Bool) → lives_at q n k ≡ b → some_inside p (if b then k.at ∷ ips_in hs q n else ips_in hs q n) ≡ true → (some_inside p (ips_in hs q n) ≡ true → is_inside p q ≡ true) → is_inside p q ≡ true
    by true lives g rest = first (is_inside p k.at.path) refl g
      where
        first : (c : Bool) → is_inside p k.at.path ≡ c → (c || some_inside p (ips_in hs q n)) ≡ true → is_inside p q ≡ true
        first true e f = ap (is_inside p) (same_path-equal q k.at.path (part-true _ _ lives).0) ∙ e
        first false e f = rest f
    by false lives g rest = rest g

some-inside-there : (p : Path) (hs : List Head) (q : Path) (n : ℕ) (i : ℕ) (h : Head) → slice_get hs i ≡ Some h → lives_at q n h ≡ true → is_inside p q ≡ true → some_inside p (ips_in hs q n) ≡ true
some-inside-there p [] q n i h g lives in-q = absurd (cc)
some-inside-there p (k ∷ hs) q n zero h g lives in-q =
    let here : lives_at q n k ≡ true = ap (lives_at q n) (same_Some k h g) ∙ lives in
    let inside : is_inside p k.at.path ≡ true = ap (is_inside p) (sym (same_path-equal q k.at.path (part-true _ _ here).0)) ∙ in-q in
    ap (λ b. some_inside p (if b then k.at ∷ ips_in hs q n else ips_in hs q n)) here ∙ ap (λ b. b || some_inside p (ips_in hs q n)) inside
some-inside-there p (k ∷ hs) q n (suc i) h g lives in-q = by (lives_at q n k) (some-inside-there p hs q n i h g lives in-q)
  where
    by : (b : Bool) → some_inside p (ips_in hs q n) ≡ true → some_inside p (if b then k.at ∷ ips_in hs q n else ips_in hs q n) ≡ true
    by true rest = either (is_inside p k.at.path)
      where
        either : (c : Bool) → (c || some_inside p (ips_in hs q n)) ≡ true
        either true = refl
        either false = rest
    by false rest = rest

module _ {T : Type 0} (p : Path) (hs : List Head) where
  abbrev InHeads : List (Row T) → Type 0
  InHeads ds = (i : ℕ) (d : Row T) → slice_get ds i ≡ Some d → (j : ℕ) × (slice_get hs j ≡ Some (head_of d))

  -- a queue lies inside where the row of its home does
  queue-inside : (d : Row T) (j : ℕ) → slice_get hs j ≡ Some (head_of d) → queue.lies_inside p (queue_in hs d) ≡ lies_inside p d
  queue-inside d j there = by (is_inside p d.at.path) refl
    where
      by : (b : Bool) → is_inside p d.at.path ≡ b → some_inside p (ips_in hs d.at.path d.home) ≡ b
      by true e = some-inside-there p hs d.at.path d.home j (head_of d) there (both-true _ _ (same_path-refl d.at.path) (nat_eq-refl d.home)) e
      by false e = false-unless _ (λ some. let clash : true ≡ false = sym (some-inside-path p hs d.at.path d.home some) ∙ e in cc)

  dropped-queues : (ds : List (Row T)) → InHeads ds → queues_of (filter (out p) hs) (outside_rows p ds) ≡ dropped_below p (queues_of hs ds)
  dropped-queues [] listed = refl
  dropped-queues (d ∷ ds) listed =
      let j = listed 0 d refl in
      by (is_inside p d.at.path) (owns d) refl refl (queue-inside d j.0 j.1) (dropped-queues ds (λ i e g. listed (suc i) e g))
    where
      by : (b o : Bool) → is_inside p d.at.path ≡ b → owns d ≡ o → queue.lies_inside p (queue_in hs d) ≡ is_inside p d.at.path → queues_of (filter (out p) hs) (outside_rows p ds) ≡ dropped_below p (queues_of hs ds)
          → queues_of (filter (out p) hs) (cond (not b) (d ∷ outside_rows p ds) (outside_rows p ds)) ≡ dropped_below p (if o then queue_in hs d ∷ queues_of hs ds else queues_of hs ds)
      by true true e own q rest = rest ∙ sym (ap (λ c. cond (not c) (queue_in hs d ∷ dropped_below p (queues_of hs ds)) (dropped_below p (queues_of hs ds))) (q ∙ e))
      by true false e own q rest = rest
      by false true e own q rest =
          ap (λ c. if c then queue_in (filter (out p) hs) d ∷ queues_of (filter (out p) hs) (outside_rows p ds) else queues_of (filter (out p) hs) (outside_rows p ds)) own
          ∙ ap (λ l. record (queue_in hs d) { ips = l } ∷ queues_of (filter (out p) hs) (outside_rows p ds)) (ips-outside p hs d.at.path d.home e)
          ∙ ap (λ l. queue_in hs d ∷ l) rest
          ∙ sym (ap (λ c. cond (not c) (queue_in hs d ∷ dropped_below p (queues_of hs ds)) (dropped_below p (queues_of hs ds))) (q ∙ e))
      by false false e own q rest =
          ap (λ c. if c then queue_in (filter (out p) hs) d ∷ queues_of (filter (out p) hs) (outside_rows p ds) else queues_of (filter (out p) hs) (outside_rows p ds)) own ∙ rest

  each-items : (q : Path) (xs : List (ℕ × T)) → each (λ w. w.item) (each (waits_in q) xs) ≡ each (λ x. x.1) xs
  each-items q [] = refl
  each-items q (x ∷ xs) = ap (λ l. x.1 ∷ l) (each-items q xs)

  queues-items : (ds : List (Row T)) → InHeads ds → AllFiled hs ds → items_below p (queues_of hs ds) ≡ below_items p ds
  queues-items [] listed all = refl
  queues-items (d ∷ ds) listed all =
      let j = listed 0 d refl in
      by (is_inside p d.at.path) (owns d) refl all.0.guest (queue-inside d j.0 j.1) (queues-items ds (λ i e g. listed (suc i) e g) all.1)
    where
      by : (b o : Bool) → is_inside p d.at.path ≡ b → (o ≡ false → d.items ≡ []) → queue.lies_inside p (queue_in hs d) ≡ is_inside p d.at.path → items_below p (queues_of hs ds) ≡ below_items p ds
          → items_below p (if o then queue_in hs d ∷ queues_of hs ds else queues_of hs ds) ≡ (if b then each (λ x. x.1) d.items ++ below_items p ds else below_items p ds)
      by true true e guest q rest =
          ap (λ c. if c then each (λ w. w.item) (each (waits_in d.at.path) d.items) ++ items_below p (queues_of hs ds) else items_below p (queues_of hs ds)) (q ∙ e)
          ∙ ap (λ l. l ++ items_below p (queues_of hs ds)) (each-items d.at.path d.items) ∙ ap (λ l. each (λ x. x.1) d.items ++ l) rest
      by true false e guest q rest = rest ∙ sym (ap (λ xs. each (λ x. x.1) xs ++ below_items p ds) (guest refl))
      by false true e guest q rest =
          ap (λ c. if c then each (λ w. w.item) (each (waits_in d.at.path) d.items) ++ items_below p (queues_of hs ds) else items_below p (queues_of hs ds)) (q ∙ e) ∙ rest
      by false false e guest q rest = rest

  known-outside : (q : Path) (n : ℕ) (xs : List (ℕ × T)) → is_inside p q ≡ false → AllKnown hs q n xs → AllKnown (filter (out p) hs) q n xs
  known-outside q n [] o all = tt
  known-outside q n (x ∷ xs) o all = (ap (among (ip_at q x.0)) (ips-outside p hs q n o) ∙ all.0, known-outside q n xs o all.1)

  filed-outside : (ds : List (Row T)) → AllFiled hs ds → AllFiled (filter (out p) hs) (outside_rows p ds)
  filed-outside [] all = tt
  filed-outside (d ∷ ds) all = by (is_inside p d.at.path) refl (filed-outside ds all.1)
    where
      by : (b : Bool) → is_inside p d.at.path ≡ b → AllFiled (filter (out p) hs) (outside_rows p ds) → AllFiled (filter (out p) hs) (cond (not b) (d ∷ outside_rows p ds) (outside_rows p ds))
      by true e rest = rest
      by false e rest = (record { guest = all.0.guest; known = known-outside d.at.path d.home d.items e all.0.known }, rest)

heads_at-outside : (p : Path) (a : IpAddr) (hs : List Head) → heads_at a (filter (out p) hs) ≤ heads_at a hs
heads_at-outside p a [] = omega arith
heads_at-outside p a (h ∷ hs) = by (is_inside p h.at.path) (heads_at-outside p a hs)
  where
    by : (b : Bool) → heads_at a (filter (out p) hs) ≤ heads_at a hs → heads_at a (cond (not b) (h ∷ filter (out p) hs) (filter (out p) hs)) ≤ heads_at a (h ∷ hs)
    by true rest = omega (arith, rest, heads_at-cons a h hs)
    by false rest = omega (arith, rest, heads_at-cons a h hs, heads_at-cons a h (filter (out p) hs))

housed-outside : (p : Path) (hs : List Head) → Housed hs → Housed (filter (out p) hs)
housed-outside p hs housed = record {
  once = λ a. omega (arith, housed.once a, heads_at-outside p a hs);
  homes = λ i h g.
      let f = get-filter (out p) hs i h g in
      let r = housed.homes f.0 h f.1 in
      let kept : out p r.owner ≡ true = ap (λ a. not (is_inside p a.path)) r.at ∙ f.2 in
      let there = filter-get (out p) hs r.place r.owner r.there kept in
      record { place = there.0; owner = r.owner; there = there.1; at = r.at; home = r.home; common = r.common };
  own = λ i h g c. let f = get-filter (out p) hs i h g in housed.own f.0 h f.1 c;
  one = λ i j h k g l ch ck path.
      let f = get-filter (out p) hs i h g in
      let e = get-filter (out p) hs j k l in
      housed.one f.0 e.0 h k f.1 e.1 ch ck path;
}

below-outside : (p : Path) (n : ℕ) (hs : List Head) → AllBelow n hs → AllBelow n (filter (out p) hs)
below-outside p n [] all = tt
below-outside p n (h ∷ hs) all = by (is_inside p h.at.path) (below-outside p n hs all.1)
  where
    by : (b : Bool) → AllBelow n (filter (out p) hs) → AllBelow n (cond (not b) (h ∷ filter (out p) hs) (filter (out p) hs))
    by true rest = rest
    by false rest = (all.0, rest)

module _ {T : Type 0} (p : Path) (rows : List (Row T)) where
  listed : InHeads p (heads rows) rows
  listed i d g = (i, get-heads rows i d g)

  pub drop-queues : queues_of (heads (outside_rows p rows)) (outside_rows p rows) ≡ dropped_below p (queues_of (heads rows) rows)
  drop-queues = ap (λ h. queues_of h (outside_rows p rows)) (heads-outside p rows) ∙ dropped-queues p (heads rows) rows listed

  pub drop-items : AllFiled (heads rows) rows → items_below p (queues_of (heads rows) rows) ≡ below_items p rows
  drop-items all = queues-items p (heads rows) rows listed all

  pub drop-kept : (n : ℕ) → Housed (heads rows) → AllFiled (heads rows) rows → AllBelow n (heads rows)
      → Housed (heads (outside_rows p rows)) × AllFiled (heads (outside_rows p rows)) (outside_rows p rows) × AllBelow n (heads (outside_rows p rows))
  drop-kept n housed all below =
      let h = sym (heads-outside p rows) in (
        subst Housed h (housed-outside p (heads rows) housed),
        subst (λ hs. AllFiled hs (outside_rows p rows)) h (filed-outside p (heads rows) rows all),
        subst (AllBelow n) h (below-outside p n (heads rows) below),
      )

-- ---- the steps of emptying

length-all : {A B : Type 0} (f : A → B) (xs : List A) → length (each f xs) ≡ length xs
length-all f [] = refl
length-all f (x ∷ xs) = ap suc (length-all f xs)

no-length : {A : Type 0} (xs : List A) → length xs ≡ 0 → xs ≡ []
no-length [] h = refl
no-length (x ∷ xs) h = absurd (omega (arith, h))

module _ {T : Type 0} where
  pub taken-length : (r : ℕ) (ds : List (Row T)) → length (taken_of r ds) ≡ count_of r ds
  taken-length r ds = length-all (λ x. x.1) (items_of r ds) ∙ sym (count-of-row r ds)

  pub nothing-left : (r : ℕ) (ds : List (Row T)) → count_of r ds ≡ 0 → items_of r ds ≡ []
  nothing-left r ds h = no-length (items_of r ds) (sym (count-of-row r ds) ∙ h)

  at-row : (o : Option (Row T)) (a : IpAddr) → option_map (λ d. d.at) o ≡ Some a → (d : Row T) × (o ≡ Some d) × (d.at ≡ a)
  at-row None a h = absurd (cc)
  at-row (Some d) a h = (d, refl, same_Some d.at a h)

  module _ (p : Path) (rows : List (Row T)) (i : ℕ) (a : IpAddr) (told : option_map (λ d. d.at) (slice_get rows i) ≡ Some a) (b : Bool) (test : b ≡ is_inside p a.path) where
    found : (d : Row T) × (slice_get rows i ≡ Some d) × (d.at ≡ a)
    found = at-row (slice_get rows i) a told

    inside-is : lies_inside p found.0 ≡ b
    inside-is = ap (λ c. is_inside p c.path) found.2 ∙ sym test

    taken-is : taken_of i rows ≡ each (λ x. x.1) found.0.items
    taken-is = ap (λ o. each (λ x. x.1) (unwrap_or (option_map (λ d. d.items) o) [])) found.1

    pub drained-outside : b ≡ true → outside_rows p (on_row i (with_items []) rows) ≡ outside_rows p rows
    drained-outside h = emptied-outside p rows i found.0 found.1 (inside-is ∙ h)

    pub drained-items : b ≡ true → NoneBefore p i rows → below_items p rows ≡ taken_of i rows ++ below_items p (on_row i (with_items []) rows)
    drained-items h none = emptied-items p rows i found.0 found.1 (inside-is ∙ h) none ∙ ap (λ l. l ++ below_items p (on_row i (with_items []) rows)) (sym taken-is)

    pub drained-before : b ≡ true → NoneBefore p i rows → NoneBefore p (i + 1) (on_row i (with_items []) rows)
    drained-before h none = emptied-before p rows i found.0 found.1 (inside-is ∙ h) none

    pub passed-before : b ≡ false → NoneBefore p i rows → NoneBefore p (i + 1) rows
    passed-before h none = skipped-before p rows i found.0 found.1 (inside-is ∙ h) none

    pub drained-length : b ≡ true → NoneBefore p i rows → length (below_items p rows) ≡ count_of i rows + length (below_items p (on_row i (with_items []) rows))
    drained-length h none =
        ap length (drained-items h none) ∙ length-append (taken_of i rows) (below_items p (on_row i (with_items []) rows))
        ∙ ap (λ n. n + length (below_items p (on_row i (with_items []) rows))) (taken-length i rows)
