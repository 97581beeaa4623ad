-- What waits at one interaction point goes to the end of another's queue: rows and queues.
use Rattle.std.proofs.Common.{◌≡◌, ◌≢◌, subst, ℕ, zero, suc, ◌+◌, ◌-◌, ◌<◌, ◌≤◌, Bool, true, false, cond, List, [], ◌∷◌, ◌++◌, length, Option, Some, None, is_some, refl, sym, ap, ◌∙◌, arith, slice_get, drop, count_by}
use Rattle.std.specs.Prelude.{nat_eq, map as each, if◌then◌else◌, ◌&&◌, filter, not, option_and_then, unwrap_or}
use Rattle.std.specs.Option.{option_map}
use Rattle.std.specs.Str.{bytes_eq}
use Rattle.std.proofs.lemmas.Option.{same_Some, slice_get_within}
use Rattle.std.proofs.lemmas.List.{append-nil}
use Rattle.estelle_tree.specs.declared.link.IpAddr.{IpAddr}
use Rattle.estelle_tree.specs.Links.{same_ip}
use Rattle.estelle_tree.specs.Paths.{Path}
use Rattle.estelle_tree.specs.Queues.{Waiting, waiting, not_waiting, brought_to}
use Rattle.queue_store.specs.Rows.{Row, ip_at, is_row_of, on_row, with_items, at_number, off_number, renumbered, sift_rows, count_of}
use Rattle.queue_store.specs.Queues.{Queue, among, has, queue_of, on_queue, moved_all}
use Rattle.queue_store.specs.Queues as queue
use Rattle.queue_store.specs.Homes.{Head, lives_at, ips_in, heads_at, head_of, heads, owns, waits_in, queue_in, queues_of, Filed, AllFiled, AllKnown, Housed, AllBelow, NoneHas, HomeAt}
use Rattle.queue_store.proofs.HomeLaws.{among-none, count-heads, row-of, same_path-equal, nat_eq-equal, nat_eq-refl, part-true, ip-equal, false-unless, counted-at, heads_at-cons, get-heads, among-at, each-append, home-items, home-queues, home-heads, home-filed, home-kept}
use Rattle.queue_store.proofs.QueueLaws.{same-number, home-get, AllKnown-append, not-guest}
use Rattle.queue_store.proofs.TableLaws.{same_ip-refl}
use Rattle.queue_store.proofs.MoveLaws.{own-items, on_row-twice, on_row-swap, get-other_row, get-on_row, sifted, set_rows}

-- ---- heads, where rows change their items alone

same-index : (a : IpAddr) (hs : List Head) → heads_at a hs ≤ 1 → (i j : ℕ) (h k : Head) → slice_get hs i ≡ Some h → slice_get hs j ≡ Some k → h.at ≡ a → k.at ≡ a → i ≡ j
same-index a [] once i j h k g f e d = absurd (cc)
same-index a (x ∷ xs) once zero zero h k g f e d = refl
same-index a (x ∷ xs) once zero (suc j) h k g f e d =
    absurd (omega (arith, once, counted-at a (x ∷ []) 0 x refl (ap (λ y. y.at) (same_Some x h g) ∙ e), heads_at-cons a x [], heads_at-cons a x xs, counted-at a xs j k f d))
same-index a (x ∷ xs) once (suc i) zero h k g f e d =
    absurd (omega (arith, once, counted-at a (x ∷ []) 0 x refl (ap (λ y. y.at) (same_Some x k f) ∙ d), heads_at-cons a x [], heads_at-cons a x xs, counted-at a xs i h g e))
same-index a (x ∷ xs) once (suc i) (suc j) h k g f e d = ap suc (same-index a xs (omega (arith, once, heads_at-cons a x xs)) i j h k g f e d)

NoneHead : List Head → IpAddr → List Head → Type 0
NoneHead hs a [] = Unit {0}
NoneHead hs a (h ∷ ks) = (nat_eq h.home h.at.ip ≡ true → among a (ips_in hs h.at.path h.home) ≡ false) × NoneHead hs a ks

module _ {T : Type 0} where
  to-heads : (hs : List Head) (a : IpAddr) (ds : List (Row T)) → NoneHas hs a ds → NoneHead hs a (heads ds)
  unfolding NoneHead
  to-heads hs a [] p = tt
  to-heads hs a (d ∷ ds) p = (p.0, to-heads hs a ds p.1)

  from-heads : (hs : List Head) (a : IpAddr) (ds : List (Row T)) → NoneHead hs a (heads ds) → NoneHas hs a ds
  unfolding NoneHead
  from-heads hs a [] p = tt
  from-heads hs a (d ∷ ds) p = (p.0, from-heads hs a ds p.1)

  module _ (f : Row T → Row T) (same : (d : Row T) → head_of (f d) ≡ head_of d) where
    pub heads-on_row : (i : ℕ) (ds : List (Row T)) → heads (on_row i f ds) ≡ heads ds
    heads-on_row i [] = refl
    heads-on_row zero (d ∷ ds) = ap (λ h. h ∷ heads ds) (same d)
    heads-on_row (suc i) (d ∷ ds) = ap (λ l. head_of d ∷ l) (heads-on_row i ds)

    record Around (i : ℕ) (front : List (Row T)) (row : Row T) (back : List (Row T)) : Type 0 where
      pub front2 : List (Row T)
      pub row2 : Row T
      pub back2 : List (Row T)
      pub is : on_row i f (front ++ row ∷ back) ≡ front2 ++ row2 ∷ back2
      pub length2 : length front2 ≡ length front
      pub head : head_of row2 ≡ head_of row
      pub fronts : heads front2 ≡ heads front
      pub backs : heads back2 ≡ heads back

    around : (i : ℕ) (front : List (Row T)) (row : Row T) (back : List (Row T)) → Around i front row back
    around zero [] row back = record { front2 = []; row2 = f row; back2 = back; is = refl; length2 = refl; head = same row; fronts = refl; backs = refl }
    around (suc i) [] row back = record { front2 = []; row2 = row; back2 = on_row i f back; is = refl; length2 = refl; head = refl; fronts = refl; backs = heads-on_row i back }
    around zero (x ∷ xs) row back =
        record { front2 = f x ∷ xs; row2 = row; back2 = back; is = refl; length2 = refl; head = refl; fronts = ap (λ h. h ∷ heads xs) (same x); backs = refl }
    around (suc i) (x ∷ xs) row back =
        let r = around i xs row back in
        record {
          front2 = x ∷ r.front2;
          row2 = r.row2;
          back2 = r.back2;
          is = ap (λ l. x ∷ l) r.is;
          length2 = ap suc r.length2;
          head = r.head;
          fronts = ap (λ l. head_of x ∷ l) r.fronts;
          backs = r.backs;
        }

    -- the home of a queue stays its home
    pub home-again : (rows : List (Row T)) (a : IpAddr) (j : ℕ) → HomeAt rows a j → (i : ℕ) → HomeAt (on_row i f rows) a j
    home-again rows a j home i =
        let r = around i home.front home.row home.back in
        let hs = heads-on_row i rows in
        record {
          front = r.front2;
          row = r.row2;
          back = r.back2;
          is = ap (on_row i f) home.is ∙ r.is;
          at = r.length2 ∙ home.at;
          owner = ap (λ h. nat_eq h.home h.at.ip) r.head ∙ home.owner;
          path = ap (λ h. h.at.path) r.head ∙ home.path;
          mine = ap (λ l. among a (ips_in l r.row2.at.path r.row2.home)) hs ∙ ap (λ h. among a (ips_in (heads rows) h.at.path h.home)) r.head ∙ home.mine;
          before = subst (λ l. NoneHas l a r.front2) (sym hs) (from-heads (heads rows) a r.front2 (subst (NoneHead (heads rows) a) (sym r.fronts) (to-heads (heads rows) a home.front home.before)));
          after = subst (λ l. NoneHas l a r.back2) (sym hs) (from-heads (heads rows) a r.back2 (subst (NoneHead (heads rows) a) (sym r.backs) (to-heads (heads rows) a home.back home.after)));
        }

  -- ---- what the two rows become

  abbrev pub kept_row : ℕ → Row T → Row T
  kept_row n d = with_items (off_number n d.items) d

  abbrev pub added_row : List (ℕ × T) → Row T → Row T
  added_row ys d = with_items (d.items ++ ys) d

  pub on_row-at : (i : ℕ) (f g : Row T → Row T) (ds : List (Row T)) (d : Row T) → slice_get ds i ≡ Some d → f d ≡ g d → on_row i f ds ≡ on_row i g ds
  on_row-at i f g [] d h e = refl
  on_row-at zero f g (x ∷ ds) d h e = let same = same_Some x d h in ap (λ y. y ∷ ds) (ap f same ∙ e ∙ ap g (sym same))
  on_row-at (suc i) f g (x ∷ ds) d h e = ap (λ l. x ∷ l) (on_row-at i f g ds d h e)

  waits-off : (a : IpAddr) (p : Path) (xs : List (ℕ × T)) → p ≡ a.path → each (waits_in p) (off_number a.ip xs) ≡ not_waiting a (each (waits_in p) xs)
  waits-off a p [] e = refl
  waits-off a p (x ∷ xs) e =
      by (nat_eq x.0 a.ip) (waits-off a p xs e)
      ∙ ap (λ b. cond (not b) (waits_in p x ∷ not_waiting a (each (waits_in p) xs)) (not_waiting a (each (waits_in p) xs))) (sym (same-number a p x.0 e))
    where
      by : (b : Bool) → each (waits_in p) (off_number a.ip xs) ≡ not_waiting a (each (waits_in p) xs)
          → each (waits_in p) (cond (not b) (x ∷ off_number a.ip xs) (off_number a.ip xs)) ≡ cond (not b) (waits_in p x ∷ not_waiting a (each (waits_in p) xs)) (not_waiting a (each (waits_in p) xs))
      by true rest = rest
      by false rest = ap (λ l. waits_in p x ∷ l) rest

  waits-at : (a b : IpAddr) (p q : Path) (xs : List (ℕ × T)) → p ≡ a.path → q ≡ b.path → each (waits_in q) (renumbered b.ip (at_number a.ip xs)) ≡ each (brought_to b) (waiting a (each (waits_in p) xs))
  waits-at a b p q [] e f = refl
  waits-at a b p q (x ∷ xs) e f =
      by (nat_eq x.0 a.ip) (waits-at a b p q xs e f)
      ∙ ap (λ t. each (brought_to b) (cond t (waits_in p x ∷ waiting a (each (waits_in p) xs)) (waiting a (each (waits_in p) xs)))) (sym (same-number a p x.0 e))
    where
      by : (t : Bool) → each (waits_in q) (renumbered b.ip (at_number a.ip xs)) ≡ each (brought_to b) (waiting a (each (waits_in p) xs))
          → each (waits_in q) (renumbered b.ip (cond t (x ∷ at_number a.ip xs) (at_number a.ip xs))) ≡ each (brought_to b) (cond t (waits_in p x ∷ waiting a (each (waits_in p) xs)) (waiting a (each (waits_in p) xs)))
      by true rest =
          let here : waits_in q (b.ip, x.1) ≡ brought_to b (waits_in p x) = λ i. record { item = x.1; at = ip-equal (ip_at q b.ip) b f refl i } in
          ap (λ w. w ∷ each (waits_in q) (renumbered b.ip (at_number a.ip xs))) here ∙ ap (λ l. brought_to b (waits_in p x) ∷ l) rest
      by false rest = rest

  known-off : (hs : List Head) (p : Path) (n m : ℕ) (xs : List (ℕ × T)) → AllKnown hs p n xs → AllKnown hs p n (off_number m xs)
  known-off hs p n m [] all = tt
  known-off hs p n m (x ∷ xs) all = by (nat_eq x.0 m) (known-off hs p n m xs all.1)
    where
      by : (b : Bool) → AllKnown hs p n (off_number m xs) → AllKnown hs p n (cond (not b) (x ∷ off_number m xs) (off_number m xs))
      by true rest = rest
      by false rest = (all.0, rest)

  known-all : (hs : List Head) (p : Path) (n m : ℕ) (xs : List (ℕ × T)) → among (ip_at p m) (ips_in hs p n) ≡ true → AllKnown hs p n (renumbered m xs)
  known-all hs p n m [] here = tt
  known-all hs p n m (x ∷ xs) here = (here, known-all hs p n m xs here)

  module _ (rows : List (Row T)) (a b : IpAddr) (s t : ℕ) (A : HomeAt rows a s) (B : HomeAt rows b t) where
    abbrev pub moving : List (ℕ × T)
    moving = renumbered b.ip (at_number a.ip A.row.items)

    abbrev pub between : List (Row T)
    between = on_row s (kept_row a.ip) rows

    abbrev pub moved_rows : List (Row T)
    moved_rows = on_row t (added_row moving) between

    B2 : HomeAt between b t
    B2 = home-again (kept_row a.ip) (λ d. refl) rows b t B s

    pub moved-queues : queues_of (heads moved_rows) moved_rows ≡ moved_all a b (queues_of (heads rows) rows)
    moved-queues =
        let hs = heads rows in
        let qs = queues_of hs rows in
        let ws = each (brought_to b) (waiting a (queue_of a qs)) in
        let first = home-queues rows a s A (kept_row a.ip) (λ q. queue.with_items (not_waiting a q.items) q) refl
        (ap (λ l. queue.with_items l (queue_in hs A.row)) (waits-off a A.row.at.path A.row.items A.path)) in
        let come : each (waits_in B2.row.at.path) moving ≡ ws =
        waits-at a b A.row.at.path B2.row.at.path A.row.items A.path B2.path ∙ ap (λ l. each (brought_to b) (waiting a l)) (sym (home-items rows a s A)) in
        let second = home-queues between b t B2 (added_row moving) (λ q. queue.with_items (q.items ++ ws) q) refl
        (ap (λ l. queue.with_items l (queue_in (heads between) B2.row))
        (each-append (waits_in B2.row.at.path) B2.row.items moving ∙ ap (λ l. each (waits_in B2.row.at.path) B2.row.items ++ l) come)) in
        second ∙ ap (on_queue b (λ q. queue.with_items (q.items ++ ws) q)) first

    pub moved-heads : heads moved_rows ≡ heads rows
    moved-heads = heads-on_row (added_row moving) (λ d. refl) t between ∙ heads-on_row (kept_row a.ip) (λ d. refl) s rows

    pub moved-filed : AllFiled (heads rows) rows → AllFiled (heads moved_rows) moved_rows
    moved-filed all =
        let fa = home-filed rows a s A all in
        let all2 = home-kept rows a s A (kept_row a.ip) refl all
        (record { guest = λ h. not-guest rows a s A h; known = known-off (heads rows) A.row.at.path A.row.home a.ip A.row.items fa.known }) in
        let fb = home-filed between b t B2 all2 in
        let there : among (ip_at B2.row.at.path b.ip) (ips_in (heads between) B2.row.at.path B2.row.home) ≡ true =
        ap (λ c. among c (ips_in (heads between) B2.row.at.path B2.row.home)) (ip-equal (ip_at B2.row.at.path b.ip) b B2.path refl) ∙ B2.mine in
        home-kept between b t B2 (added_row moving) refl all2
        (record {
          guest = λ h. not-guest between b t B2 h;
          known = AllKnown-append (heads between) B2.row.at.path B2.row.home B2.row.items moving fb.known (known-all (heads between) B2.row.at.path B2.row.home b.ip (at_number a.ip A.row.items) there);
        })

    count-a : count_of s rows ≡ length A.row.items
    count-a = ap (λ o. unwrap_or (option_map (λ d. length d.items) o) 0) (home-get rows a s A)

    -- what `sift` leaves, from one row to another
    pub sifted-apart : (s ≡ t → ⊥) → sift_rows (count_of s rows) s t a.ip b.ip rows ≡ moved_rows
    sifted-apart ne =
        let xs = A.row.items in
        let there-b : slice_get rows t ≡ Some B.row = home-get rows b t B in
        let begin : set_rows s t a.ip b.ip ne rows A.row (home-get rows a s A) (xs ++ []) B.row.items ≡ rows =
        ap (λ l. on_row t (with_items B.row.items) (on_row s (with_items l) rows)) (append-nil xs)
        ∙ ap (on_row t (with_items B.row.items)) (own-items s A.row rows (home-get rows a s A)) ∙ own-items t B.row rows there-b in
        let between-b : slice_get (on_row s (kept_row a.ip) rows) t ≡ Some B.row = get-other_row s t (kept_row a.ip) rows ne ∙ there-b in
        ap (λ n. sift_rows n s t a.ip b.ip rows) count-a
        ∙ ap (sift_rows (length xs) s t a.ip b.ip) (sym begin)
        ∙ sifted s t a.ip b.ip ne rows A.row (home-get rows a s A) xs [] B.row.items
        ∙ ap (on_row t (with_items (B.row.items ++ moving))) (sym (on_row-at s (kept_row a.ip) (with_items (off_number a.ip xs)) rows A.row (home-get rows a s A) refl))
        ∙ sym (on_row-at t (added_row moving) (with_items (B.row.items ++ moving)) between B.row between-b refl)

  all-at : (m : ℕ) (xs : List (ℕ × T)) → (at_number m (renumbered m xs) ≡ renumbered m xs) × (off_number m (renumbered m xs) ≡ [])
  all-at m [] = (refl, refl)
  all-at m (x ∷ xs) =
      let rest = all-at m xs in (
        ap (λ b. cond b ((m, x.1) ∷ at_number m (renumbered m xs)) (at_number m (renumbered m xs))) (nat_eq-refl m) ∙ ap (λ l. (m, x.1) ∷ l) rest.0,
        ap (λ b. cond (not b) ((m, x.1) ∷ off_number m (renumbered m xs)) (off_number m (renumbered m xs))) (nat_eq-refl m) ∙ rest.1,
      )

  same-number-again : (m : ℕ) (xs : List (ℕ × T)) → renumbered m (renumbered m xs) ≡ renumbered m xs
  same-number-again m [] = refl
  same-number-again m (x ∷ xs) = ap (λ l. (m, x.1) ∷ l) (same-number-again m xs)

  -- the same within one row, by way of one without items
  module _ (rows : List (Row T)) (a b : IpAddr) (s : ℕ) (A : HomeAt rows a s) (B : HomeAt rows b s) (g : ℕ) (ne : s ≡ g → ⊥) (guest : Row T) (there : slice_get rows g ≡ Some guest) (none : guest.items ≡ []) where
    turn : g ≡ s → ⊥
    turn e = ne (sym e)

    first-is : sift_rows (count_of s rows) s g a.ip b.ip rows ≡ on_row g (with_items (moving rows a b s s A B)) (on_row s (with_items (off_number a.ip A.row.items)) rows)
    first-is =
        let xs = A.row.items in
        let begin : set_rows s g a.ip b.ip ne rows A.row (home-get rows a s A) (xs ++ []) [] ≡ rows =
        ap (λ l. on_row g (with_items []) (on_row s (with_items l) rows)) (append-nil xs)
        ∙ ap (on_row g (with_items [])) (own-items s A.row rows (home-get rows a s A)) ∙ ap (λ l. on_row g (with_items l) rows) (sym none) ∙ own-items g guest rows there in
        ap (λ n. sift_rows n s g a.ip b.ip rows) (ap (λ o. unwrap_or (option_map (λ d. length d.items) o) 0) (home-get rows a s A))
        ∙ ap (sift_rows (length xs) s g a.ip b.ip) (sym begin)
        ∙ sifted s g a.ip b.ip ne rows A.row (home-get rows a s A) xs [] []

    pub sifted-within : sift_rows (count_of g (sift_rows (count_of s rows) s g a.ip b.ip rows)) g s b.ip b.ip (sift_rows (count_of s rows) s g a.ip b.ip rows) ≡ moved_rows rows a b s s A B
    sifted-within =
        let ys = moving rows a b s s A B in
        let off = off_number a.ip A.row.items in
        let start : sift_rows (count_of s rows) s g a.ip b.ip rows ≡ set_rows g s b.ip b.ip turn rows guest there (ys ++ []) off =
        first-is ∙ on_row-swap g s (with_items ys) (with_items off) rows turn ∙ ap (λ l. on_row s (with_items off) (on_row g (with_items l) rows)) (sym (append-nil ys)) in
        let size : count_of g (sift_rows (count_of s rows) s g a.ip b.ip rows) ≡ length ys =
        ap (count_of g) first-is
        ∙ ap (λ o. unwrap_or (option_map (λ d. length d.items) o) 0)
        (get-on_row g (with_items ys) (on_row s (with_items off) rows) ∙ ap (option_map (with_items ys)) (get-other_row s g (with_items off) rows ne ∙ there)) in
        let empty : on_row g (with_items (off_number b.ip ys)) rows ≡ rows =
        ap (λ l. on_row g (with_items l) rows) ((all-at b.ip (at_number a.ip A.row.items)).1 ∙ sym none) ∙ own-items g guest rows there in
        let all : renumbered b.ip (at_number b.ip ys) ≡ ys = ap (renumbered b.ip) (all-at b.ip (at_number a.ip A.row.items)).0 ∙ same-number-again b.ip (at_number a.ip A.row.items) in
        ap (λ n. sift_rows n g s b.ip b.ip (sift_rows (count_of s rows) s g a.ip b.ip rows)) size
        ∙ ap (sift_rows (length ys) g s b.ip b.ip) start
        ∙ sifted g s b.ip b.ip turn rows guest there ys [] off
        ∙ ap (λ l. on_row s (with_items (off ++ l)) (on_row g (with_items (off_number b.ip ys)) rows)) all
        ∙ ap (on_row s (with_items (off ++ ys))) empty
        ∙ sym (on_row-twice s (added_row ys) (kept_row a.ip) rows
        ∙ on_row-at s (λ d. added_row ys (kept_row a.ip d)) (with_items (off ++ ys)) rows A.row (home-get rows a s A) refl)

  -- ---- the row without items

  filed-get : (hs : List Head) (ds : List (Row T)) (i : ℕ) (d : Row T) → slice_get ds i ≡ Some d → AllFiled hs ds → Filed hs d
  filed-get hs [] i d g all = absurd (cc)
  filed-get hs (x ∷ ds) zero d g all = subst (Filed hs) (same_Some x d g) all.0
  filed-get hs (x ∷ ds) (suc i) d g all = filed-get hs ds i d g all.1

  module _ (rows : List (Row T)) (a : IpAddr) (s : ℕ) (A : HomeAt rows a s) (housed : Housed (heads rows)) where
    pub has-row : count_by (is_row_of a) rows ≡ 0 → ⊥
    has-row none =
        let absent = among-none a (heads rows) A.row.at.path A.row.home (count-heads a rows ∙ none) in
        let clash : true ≡ false = sym A.mine ∙ absent in
        cc

    -- another row of the queue has no items
    pub guest-items : AllFiled (heads rows) rows → (i : ℕ) → option_map (is_row_of a) (slice_get rows i) ≡ Some true → (i ≡ s → ⊥) → option_map (λ d. d.items) (slice_get rows i) ≡ Some []
    guest-items all i found ne =
        let f = row-of (slice_get rows i) a found in
        let r = f.0 in
        let hs = heads rows in
        let there = get-heads rows i r f.1 in
        let home-there = get-heads rows s A.row (home-get rows a s A) in
        let lives = sym (among-at a hs A.row.at.path A.row.home (housed.once a) i (head_of r) there f.2) ∙ A.mine in
        let home : A.row.home ≡ r.home = nat_eq-equal _ _ (part-true _ _ lives).1 in
        let own : A.row.home ≡ A.row.at.ip = nat_eq-equal _ _ A.owner in
        let foreign : owns r ≡ false = false-unless _ (λ mine.
        let ip : A.row.at.ip ≡ r.at.ip = sym own ∙ home ∙ nat_eq-equal _ _ mine in
        let at : A.row.at ≡ a = ip-equal _ _ A.path (ip ∙ ap (λ b. b.ip) f.2) in
        ne (same-index a hs (housed.once a) i s (head_of r) (head_of A.row) there home-there f.2 at)) in
        ap (option_map (λ d. d.items)) f.1 ∙ ap Some ((filed-get hs rows i r f.1 all).guest foreign)

    -- the row of another interaction point is not that of this one
    pub other-row : (b : IpAddr) → same_ip a b ≡ false → (i j : ℕ) → option_map (is_row_of a) (slice_get rows i) ≡ Some true → option_map (is_row_of b) (slice_get rows j) ≡ Some true → i ≡ j → ⊥
    other-row b differ i j found-a found-b e =
        let f = row-of (slice_get rows i) a found-a in
        let h = row-of (slice_get rows j) b found-b in
        let same : f.0 ≡ h.0 = same_Some f.0 h.0 (sym f.1 ∙ ap (slice_get rows) e ∙ h.1) in
        let equal : a ≡ b = sym f.2 ∙ ap (λ d. d.at) same ∙ h.2 in
        let clash : true ≡ false = sym (same_ip-refl a) ∙ ap (same_ip a) equal ∙ differ in
        cc

  pub items-row : (o : Option (Row T)) → option_map (λ d. d.items) o ≡ Some [] → (d : Row T) × (o ≡ Some d) × (d.items ≡ [])
  items-row None h = absurd (cc)
  items-row (Some d) h = (d, refl, same_Some d.items [] h)

  pub items-within : (ds : List (Row T)) (i : ℕ) → option_map (λ d. d.items) (slice_get ds i) ≡ Some [] → i < length ds
  items-within ds i h = let r = items-row (slice_get ds i) h in slice_get_within ds i r.0 r.1
