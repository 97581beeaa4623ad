-- What the steps of rows are for queues.
use Rattle.std.proofs.Common.{◌≡◌, ◌≢◌, subst, ℕ, zero, suc, ◌+◌, ◌-◌, ◌<◌, ◌≤◌, Bool, true, false, cond, List, [], ◌∷◌, ◌++◌, length, Option, Some, None, is_some, refl, sym, ap, ◌∙◌, arith, sum_by, count_by, slice_get, drop, length-append}
use Rattle.std.specs.Prelude.{nat_eq, map as each, if◌then◌else◌, ◌&&◌, ◌||◌, filter, not, option_and_then, MatchOption}
use Rattle.std.specs.Option.{option_map}
use Rattle.std.specs.Str.{bytes_eq}
use Rattle.std.proofs.lemmas.Option.{same_Some}
use Rattle.std.proofs.lemmas.List.{append-nil}
use Rattle.std.proofs.lemmas.List.Sums.{sum_by-cons}
use Rattle.estelle_tree.specs.declared.link.IpAddr.{IpAddr}
use Rattle.estelle_tree.specs.Links.{same_ip}
use Rattle.estelle_tree.specs.Paths.{Path}
use Rattle.estelle_tree.specs.Queues.{Waiting, waiting, not_waiting, brought_to}
use Rattle.queue_store.specs.Rows.{Row, ip_at, is_row_of, on_row, put_last, first_taken}
use Rattle.queue_store.specs.Rows as row
use Rattle.queue_store.specs.Queues.{Queue, among, has, is_declared, queue_of, on_queue, with_items, waiting_at}
use Rattle.queue_store.specs.Homes.{Head, lives_at, ips_in, heads_at, head_of, heads, owns, waits_in, queue_in, queues_of, Filed, AllFiled, AllKnown, NoneHas, HomeAt}
use Rattle.queue_store.proofs.TableLaws.{bit}
use Rattle.queue_store.proofs.RowLaws.{get-cut}
use Rattle.queue_store.proofs.HomeLaws.{home-declared, row-of, same_path-refl, nat_eq-equal, nat_eq-refl, both-true, part-true, ip-equal, false-unless, count-heads, among-none, quiet-declared, quiet-of, each-append}

-- the test of a number against a point of the same instance
pub same-number : (a : IpAddr) (p : Path) (n : ℕ) → p ≡ a.path → same_ip a (ip_at p n) ≡ nat_eq n a.ip
same-number a p n e = ap (λ q. bytes_eq a.path q && nat_eq a.ip n) e ∙ ap (λ b. b && nat_eq a.ip n) (same_path-refl a.path) ∙ turned (nat_eq a.ip n) refl
  where
    turned : (b : Bool) → nat_eq a.ip n ≡ b → b ≡ nat_eq n a.ip
    turned true h = sym (ap (λ m. nat_eq m a.ip) (sym (nat_eq-equal a.ip n h)) ∙ nat_eq-refl a.ip)
    turned false h = sym (false-unless (nat_eq n a.ip) (λ f. let clash : true ≡ false = sym (nat_eq-refl a.ip) ∙ ap (λ m. nat_eq a.ip m) (sym (nat_eq-equal n a.ip f)) ∙ h in cc))

pub length-each : {A B : Type 0} (f : A → B) (xs : List A) → length (each f xs) ≡ length xs
length-each f [] = refl
length-each f (x ∷ xs) = ap suc (length-each f xs)

pub each-tail : {A B : Type 0} (f : A → B) (xs : List A) → each f (drop 1 xs) ≡ drop 1 (each f xs)
each-tail f [] = refl
each-tail f (x ∷ xs) = refl

pub each-first : {A B : Type 0} (f : A → B) (xs : List A) → slice_get (each f xs) 0 ≡ option_map f (slice_get xs 0)
each-first f [] = refl
each-first f (x ∷ xs) = refl

module _ {T : Type 0} where
  none-all : (hs : List Head) (a : IpAddr) → heads_at a hs ≡ 0 → (ds : List (Row T)) → NoneHas hs a ds
  none-all hs a none [] = tt
  none-all hs a none (d ∷ ds) = ((λ own. among-none a hs d.at.path d.home none), none-all hs a none ds)

  pub undeclared : (rows : List (Row T)) (a : IpAddr) → count_by (is_row_of a) rows ≡ 0 → is_declared a (queues_of (heads rows) rows) ≡ false
  undeclared rows a none =
      ap (is_declared a) (sym (append-nil (queues_of (heads rows) rows))) ∙ quiet-declared (heads rows) a rows [] (none-all (heads rows) a (count-heads a rows ∙ none) rows)

  pub no-items : (rows : List (Row T)) (a : IpAddr) → count_by (is_row_of a) rows ≡ 0 → queue_of a (queues_of (heads rows) rows) ≡ []
  no-items rows a none =
      ap (queue_of a) (sym (append-nil (queues_of (heads rows) rows))) ∙ quiet-of (heads rows) a rows [] (none-all (heads rows) a (count-heads a rows ∙ none) rows)

  pub total-queues : (hs : List Head) (ds : List (Row T)) → AllFiled hs ds → sum_by (λ d. length d.items) ds ≡ sum_by (λ q. length q.items) (queues_of hs ds)
  total-queues hs [] all = refl
  total-queues hs (d ∷ ds) all = by (owns d) all.0.guest (total-queues hs ds all.1)
    where
      by : (b : Bool) → (b ≡ false → d.items ≡ []) → sum_by (λ e. length e.items) ds ≡ sum_by (λ q. length q.items) (queues_of hs ds)
          → sum_by (λ e. length e.items) (d ∷ ds) ≡ sum_by (λ q. length q.items) (if b then queue_in hs d ∷ queues_of hs ds else queues_of hs ds)
      by true guest rest = omega (arith, rest, sum_by-cons (λ e. length e.items) d ds, sum_by-cons (λ q. length q.items) (queue_in hs d) (queues_of hs ds), length-each (waits_in d.at.path) d.items)
      by false guest rest = omega (arith, rest, sum_by-cons (λ e. length e.items) d ds, ap length (guest refl))

  pub AllKnown-append : (hs : List Head) (p : Path) (n : ℕ) (xs ys : List (ℕ × T)) → AllKnown hs p n xs → AllKnown hs p n ys → AllKnown hs p n (xs ++ ys)
  AllKnown-append hs p n [] ys q r = r
  AllKnown-append hs p n (x ∷ xs) ys q r = (q.0, AllKnown-append hs p n xs ys q.1 r)

  AllKnown-tail : (hs : List Head) (p : Path) (n : ℕ) (xs : List (ℕ × T)) → AllKnown hs p n xs → AllKnown hs p n (drop 1 xs)
  AllKnown-tail hs p n [] q = tt
  AllKnown-tail hs p n (x ∷ xs) q = q.1

  pub known-first : (hs : List Head) (p : Path) (n : ℕ) (xs : List (ℕ × T)) (x : ℕ × T) → AllKnown hs p n xs → slice_get xs 0 ≡ Some x → among (ip_at p x.0) (ips_in hs p n) ≡ true
  known-first hs p n [] x all h = absurd (cc)
  known-first hs p n (y ∷ ys) x all h = ap (λ z. among (ip_at p z.0) (ips_in hs p n)) (sym (same_Some y x h)) ∙ all.0

  -- what is counted by number is what waits at a point
  pub counted-waiting : (a : IpAddr) (p : Path) (xs : List (ℕ × T)) → p ≡ a.path → count_by (λ x. nat_eq x.0 a.ip) xs ≡ length (waiting a (each (waits_in p) xs))
  counted-waiting a p [] e = refl
  counted-waiting a p (x ∷ xs) e =
      by (same_ip a (ip_at p x.0)) refl (counted-waiting a p xs e)
    where
      by : (b : Bool) → same_ip a (ip_at p x.0) ≡ b → count_by (λ y. nat_eq y.0 a.ip) xs ≡ length (waiting a (each (waits_in p) xs))
          → count_by (λ y. nat_eq y.0 a.ip) (x ∷ xs) ≡ length (cond b (waits_in p x ∷ waiting a (each (waits_in p) xs)) (waiting a (each (waits_in p) xs)))
      by true h rest =
          let one : bit (nat_eq x.0 a.ip) ≡ 1 = ap bit (sym (same-number a p x.0 e) ∙ h) in
          omega (arith, rest, one, sum_by-cons (λ y. cond (nat_eq y.0 a.ip) 1 0) x xs)
      by false h rest =
          let none : bit (nat_eq x.0 a.ip) ≡ 0 = ap bit (sym (same-number a p x.0 e) ∙ h) in
          omega (arith, rest, none, sum_by-cons (λ y. cond (nat_eq y.0 a.ip) 1 0) x xs)

  module _ (rows : List (Row T)) (a : IpAddr) (j : ℕ) (home : HomeAt rows a j) where
    pub home-get : slice_get rows j ≡ Some home.row
    home-get = ap (λ l. slice_get l j) home.is ∙ ap (λ i. slice_get (home.front ++ home.row ∷ home.back) i) (sym home.at) ∙ get-cut home.front home.row home.back

    pub home-within : j < length rows
    home-within = omega (arith, ap length home.is, length-append home.front (home.row ∷ home.back), home.at)

    here-is : (hs : List Head) → ip_at home.row.at.path a.ip ≡ a
    here-is hs = ip-equal _ a home.path refl

    pub put-queue : (x : T) → queue_in (heads rows) (put_last a.ip x home.row) ≡ with_items ((queue_in (heads rows) home.row).items ++ waiting_at a x ∷ []) (queue_in (heads rows) home.row)
    put-queue x =
        ap (λ ws. with_items ws (queue_in (heads rows) home.row))
        (each-append (waits_in home.row.at.path) home.row.items ((a.ip, x) ∷ [])
        ∙ ap (λ b. each (waits_in home.row.at.path) home.row.items ++ waiting_at b x ∷ []) (here-is (heads rows)))

    pub not-guest : {P : Type 0} → owns home.row ≡ false → P
    not-guest h = let clash : true ≡ false = sym home.owner ∙ h in absurd (cc)

    pub put-filed : (x : T) → Filed (heads rows) home.row → Filed (heads rows) (put_last a.ip x home.row)
    put-filed x filed = record {
      guest = λ h. not-guest h;
      known = AllKnown-append (heads rows) home.row.at.path home.row.home home.row.items ((a.ip, x) ∷ []) filed.known
          (ap (λ b. among b (ips_in (heads rows) home.row.at.path home.row.home)) (here-is (heads rows)) ∙ home.mine, tt);
    }

    pub taken-queue : queue_in (heads rows) (first_taken home.row) ≡ with_items (drop 1 (queue_in (heads rows) home.row).items) (queue_in (heads rows) home.row)
    taken-queue = ap (λ ws. with_items ws (queue_in (heads rows) home.row)) (each-tail (waits_in home.row.at.path) home.row.items)

    pub taken-filed : Filed (heads rows) home.row → Filed (heads rows) (first_taken home.row)
    taken-filed filed = record {
      guest = λ h. not-guest h;
      known = AllKnown-tail (heads rows) home.row.at.path home.row.home home.row.items filed.known;
    }

    -- the first of the row is the first of the queue
    pub first-of : (items : List (Waiting T)) → items ≡ each (waits_in home.row.at.path) home.row.items
        → slice_get items 0 ≡ option_map (waits_in home.row.at.path) (option_and_then (λ d. slice_get d.items 0) (slice_get rows j))
    first-of items e =
        ap (λ l. slice_get l 0) e ∙ each-first (waits_in home.row.at.path) home.row.items
        ∙ ap (λ o. option_map (waits_in home.row.at.path) (option_and_then (λ d. slice_get d.items 0) o)) (sym home-get)

    pub first-item : (x : ℕ × T) → option_and_then (λ d. slice_get d.items 0) (slice_get rows j) ≡ Some x → slice_get home.row.items 0 ≡ Some x
    first-item x h = ap (option_and_then (λ d. slice_get d.items 0)) (sym home-get) ∙ h

    -- the first item waits at a declared interaction point
    pub first-declared : (x : ℕ × T) → option_and_then (λ d. slice_get d.items 0) (slice_get rows j) ≡ Some x → Filed (heads rows) home.row → count_by (is_row_of (ip_at a.path x.0)) rows ≡ 0 → ⊥
    first-declared x h filed none =
        let known : among (ip_at home.row.at.path x.0) (ips_in (heads rows) home.row.at.path home.row.home) ≡ true =
        known-first (heads rows) home.row.at.path home.row.home home.row.items x filed.known (first-item x h) in
        let here : ip_at home.row.at.path x.0 ≡ ip_at a.path x.0 = ip-equal _ _ home.path refl in
        let absent : among (ip_at a.path x.0) (ips_in (heads rows) home.row.at.path home.row.home) ≡ false =
        among-none (ip_at a.path x.0) (heads rows) home.row.at.path home.row.home (count-heads (ip_at a.path x.0) rows ∙ none) in
        let clash : true ≡ false = sym known ∙ ap (λ b. among b (ips_in (heads rows) home.row.at.path home.row.home)) here ∙ absent in
        cc

    pub first-waits : (x : ℕ × T) → waits_in home.row.at.path x ≡ waiting_at (ip_at a.path x.0) x.1
    first-waits x = ap (λ b. waiting_at b x.1) (ip-equal (ip_at home.row.at.path x.0) (ip_at a.path x.0) home.path refl)

    pub counted-here : (n : ℕ) → option_map (λ d. count_by (λ x. nat_eq x.0 a.ip) d.items) (slice_get rows j) ≡ Some n → n ≡ length (waiting a (each (waits_in home.row.at.path) home.row.items))
    counted-here n h =
        let told : Some (count_by (λ x. nat_eq x.0 a.ip) home.row.items) ≡ Some n = ap (option_map (λ d. count_by (λ x. nat_eq x.0 a.ip) d.items)) (sym home-get) ∙ h in
        sym (same_Some _ n told) ∙ counted-waiting a home.row.at.path home.row.items home.path

  pub addr-of : (o : Option (Row T)) (b c : IpAddr) → option_map (is_row_of b) o ≡ Some true → option_map (λ d. d.at) o ≡ Some c → c ≡ b
  addr-of o b c h g = let d = row-of o b h in sym (same_Some d.0.at c (sym (ap (option_map (λ e. e.at)) d.1) ∙ g)) ∙ d.2

  pub item-of : (p : Path) (o : Option (ℕ × T)) → option_map (λ w. w.item) (option_map (waits_in p) o) ≡ option_map (λ x. x.1) o
  item-of p None = refl
  item-of p (Some x) = refl

  pub declares-is : (rows : List (Row T)) (a : IpAddr) (r : Option ℕ) → MatchOption r (count_by (is_row_of a) rows ≡ 0) (HomeAt rows a) → is_some r ≡ is_declared a (queues_of (heads rows) rows)
  declares-is rows a None none = sym (undeclared rows a none)
  declares-is rows a (Some j) home = sym (home-declared rows a j home)
