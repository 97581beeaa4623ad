-- How the queue of an interaction point is found, and what a change of its row is for the list of queues.
use Rattle.std.proofs.Common.{◌≡◌, ◌≢◌, subst, ℕ, zero, suc, ◌+◌, ◌-◌, ◌<◌, ◌≤◌, Bool, true, false, cond, List, [], ◌∷◌, ◌++◌, length, Option, Some, None, is_some, refl, sym, ap, ◌∙◌, inl, inr, arith, sum_by, count_by, slice_get, drop}
use Rattle.std.specs.Prelude.{nat_eq, map as each, if◌then◌else◌, ◌&&◌, ◌||◌, MatchOption}
use Rattle.std.specs.Option.{option_map}
use Rattle.std.specs.Str.{bytes_eq}
use Rattle.std.proofs.lemmas.Bool.Decides.{Decides-eqb}
use Rattle.std.proofs.lemmas.Slice.Eq.{bytes_eq-Decides}
use Rattle.std.proofs.lemmas.Option.{same_Some, slice_get-map}
use Rattle.std.proofs.lemmas.List.Sums.{sum_by-cons, sum_by-append}
use Rattle.estelle_tree.specs.declared.link.IpAddr.{IpAddr}
use Rattle.estelle_tree.specs.Links.{same_ip}
use Rattle.estelle_tree.specs.Paths.{Path}
use Rattle.queue_store.specs.Rows.{Row, ip_at, is_row_of, on_row}
use Rattle.queue_store.specs.Queues.{Queue, among, has, is_declared, queue_of, on_queue}
use Rattle.queue_store.specs.Homes.{Head, home_ip, lives_at, ips_in, heads_at, head_of, heads, owns, waits_in, queue_in, queues_of, Filed, AllFiled, HasHome, Housed, NoneHas, HomeAt}
use Rattle.queue_store.proofs.TableLaws.{bit, same_ip-equal, same_ip-refl, count-cons, count-append}
use Rattle.queue_store.proofs.RowLaws.{Cut, cut, on_row-cut}

pub same_path-refl : (p : Path) → bytes_eq p p ≡ true
same_path-refl p = (bytes_eq-Decides p p).1 refl

pub same_path-equal : (p q : Path) → bytes_eq p q ≡ true → p ≡ q
same_path-equal p q h = (bytes_eq-Decides p q).0 h

pub nat_eq-equal : (m n : ℕ) → nat_eq m n ≡ true → m ≡ n
nat_eq-equal m n h = (Decides-eqb m n).0 h

pub nat_eq-refl : (n : ℕ) → nat_eq n n ≡ true
nat_eq-refl n = (Decides-eqb n n).1 refl

pub both-true : (p q : Bool) → p ≡ true → q ≡ true → (p && q) ≡ true
both-true p q e f = ap (λ b. b && q) e ∙ f

pub part-true : (p q : Bool) → (p && q) ≡ true → (p ≡ true) × (q ≡ true)
part-true true q h = (refl, h)
part-true false q h = absurd (cc)

pub ip-equal : (a b : IpAddr) → a.path ≡ b.path → a.ip ≡ b.ip → a ≡ b
ip-equal a b p n = λ i. record { path = p i; ip = n i }

pub false-unless : (b : Bool) → (b ≡ true → ⊥) → b ≡ false
false-unless true h = absurd (h refl)
false-unless false h = refl

pub each-append : {A B : Type 0} (f : A → B) (xs ys : List A) → each f (xs ++ ys) ≡ each f xs ++ each f ys
each-append f [] ys = refl
each-append f (x ∷ xs) ys = ap (λ l. f x ∷ l) (each-append f xs ys)

-- ---- heads

pub heads_at-cons : (a : IpAddr) (h : Head) (hs : List Head) → heads_at a (h ∷ hs) ≡ bit (same_ip a h.at) + heads_at a hs
heads_at-cons a h hs = sum_by-cons (λ k. cond (same_ip a k.at) 1 0) h hs

heads_at-here : (a : IpAddr) (h : Head) (hs : List Head) → h.at ≡ a → heads_at a (h ∷ hs) ≡ 1 + heads_at a hs
heads_at-here a h hs e =
    let one : bit (same_ip a h.at) ≡ 1 = ap (λ b. bit (same_ip a b)) e ∙ ap bit (same_ip-refl a) in
    omega (arith, heads_at-cons a h hs, one)

pub counted-at : (a : IpAddr) (hs : List Head) (i : ℕ) (h : Head) → slice_get hs i ≡ Some h → h.at ≡ a → 0 < heads_at a hs
counted-at a [] i h g e = absurd (cc)
counted-at a (k ∷ hs) zero h g e = omega (arith, heads_at-here a k hs (ap (λ x. x.at) (same_Some k h g) ∙ e))
counted-at a (k ∷ hs) (suc i) h g e = omega (arith, counted-at a hs i h g e, heads_at-cons a k hs)

pub same-head : (a : IpAddr) (hs : List Head) → heads_at a hs ≤ 1 → (i j : ℕ) (h k : Head) → slice_get hs i ≡ Some h → slice_get hs j ≡ Some k → h.at ≡ a → k.at ≡ a → h ≡ k
same-head a [] once i j h k g f e d = absurd (cc)
same-head a (x ∷ xs) once zero zero h k g f e d = sym (same_Some x h g) ∙ same_Some x k f
same-head a (x ∷ xs) once zero (suc j) h k g f e d =
    absurd (omega (arith, once, heads_at-here a x xs (ap (λ y. y.at) (same_Some x h g) ∙ e), counted-at a xs j k f d))
same-head a (x ∷ xs) once (suc i) zero h k g f e d =
    absurd (omega (arith, once, heads_at-here a x xs (ap (λ y. y.at) (same_Some x k f) ∙ d), counted-at a xs i h g e))
same-head a (x ∷ xs) once (suc i) (suc j) h k g f e d = same-head a xs (omega (arith, once, heads_at-cons a x xs)) i j h k g f e d

among-skip : (a : IpAddr) (h : Head) (hs : List Head) (p : Path) (n : ℕ) → same_ip a h.at ≡ false → among a (ips_in (h ∷ hs) p n) ≡ among a (ips_in hs p n)
among-skip a h hs p n missing = by (lives_at p n h)
  where
    by : (b : Bool) → among a (if b then h.at ∷ ips_in hs p n else ips_in hs p n) ≡ among a (ips_in hs p n)
    by true = ap (λ c. c || among a (ips_in hs p n)) missing
    by false = refl

not-here : (a : IpAddr) (h : Head) (hs : List Head) → heads_at a (h ∷ hs) ≡ heads_at a hs → same_ip a h.at ≡ false
not-here a h hs e = by (same_ip a h.at) refl
  where
    by : (b : Bool) → same_ip a h.at ≡ b → b ≡ false
    by true q = let one : bit (same_ip a h.at) ≡ 1 = ap bit q in absurd (omega (arith, e, one, heads_at-cons a h hs))
    by false q = refl

pub among-none : (a : IpAddr) (hs : List Head) (p : Path) (n : ℕ) → heads_at a hs ≡ 0 → among a (ips_in hs p n) ≡ false
among-none a [] p n none = refl
among-none a (h ∷ hs) p n none =
    let rest : heads_at a hs ≡ 0 = omega (arith, none, heads_at-cons a h hs) in
    among-skip a h hs p n (not-here a h hs (omega (arith, none, rest))) ∙ among-none a hs p n rest

pub among-at : (a : IpAddr) (hs : List Head) (p : Path) (n : ℕ) → heads_at a hs ≤ 1 → (i : ℕ) (h : Head) → slice_get hs i ≡ Some h → h.at ≡ a
    → among a (ips_in hs p n) ≡ lives_at p n h
among-at a [] p n once i h g e = absurd (cc)
among-at a (x ∷ xs) p n once zero h g e =
    let same = same_Some x h g in
    let here : x.at ≡ a = ap (λ y. y.at) same ∙ e in
    let none : heads_at a xs ≡ 0 = omega (arith, once, heads_at-here a x xs here) in
    by here (among-none a xs p n none) (lives_at p n x) ∙ ap (lives_at p n) same
  where
    by : x.at ≡ a → among a (ips_in xs p n) ≡ false → (b : Bool) → among a (if b then x.at ∷ ips_in xs p n else ips_in xs p n) ≡ b
    by here rest true = ap (λ c. same_ip a c || among a (ips_in xs p n)) here ∙ ap (λ c. c || among a (ips_in xs p n)) (same_ip-refl a)
    by here rest false = rest
among-at a (x ∷ xs) p n once (suc i) h g e =
    let inner = counted-at a xs i h g e in
    let rest : heads_at a (x ∷ xs) ≡ heads_at a xs = omega (arith, once, inner, heads_at-cons a x xs) in
    among-skip a x xs p n (not-here a x xs rest) ∙ among-at a xs p n (omega (arith, once, rest)) i h g e

module _ {T : Type 0} where
  pub count-heads : (a : IpAddr) (ds : List (Row T)) → heads_at a (heads ds) ≡ count_by (is_row_of a) ds
  count-heads a [] = refl
  count-heads a (d ∷ ds) = omega (arith, count-heads a ds, heads_at-cons a (head_of d) (heads ds), count-cons (is_row_of a) d ds)

  pub get-heads : (ds : List (Row T)) (i : ℕ) (d : Row T) → slice_get ds i ≡ Some d → slice_get (heads ds) i ≡ Some (head_of d)
  get-heads ds i d g = slice_get-map head_of ds i ∙ ap (option_map head_of) g

  pub row-of : (o : Option (Row T)) (a : IpAddr) → option_map (is_row_of a) o ≡ Some true → (d : Row T) × (o ≡ Some d) × (d.at ≡ a)
  row-of None a h = absurd (cc)
  row-of (Some d) a h = (d, refl, sym (same_ip-equal a d.at (same_Some _ _ h)))

  -- no row at that interaction point, and so none that has its queue
  none-has : (hs : List Head) (a : IpAddr) (h : Head) → ((p : Path) (n : ℕ) → among a (ips_in hs p n) ≡ lives_at p n h) → (ds : List (Row T)) → count_by (is_row_of (home_ip h)) ds ≡ 0 → NoneHas hs a ds
  none-has hs a h rule [] none = tt
  none-has hs a h rule (d ∷ ds) none = (
    λ owner. rule d.at.path d.home ∙ false-unless _ (λ lives.
        let parts = part-true _ _ lives in
        let path = same_path-equal _ _ parts.0 in
        let home = nat_eq-equal _ _ parts.1 in
        let own = nat_eq-equal _ _ owner in
        let at : d.at ≡ home_ip h = ip-equal d.at (home_ip h) path (sym own ∙ home) in
        let one : bit (is_row_of (home_ip h) d) ≡ 1 = ap (λ b. bit (same_ip (home_ip h) b)) at ∙ ap bit (same_ip-refl (home_ip h)) in
        omega (arith, none, count-cons (is_row_of (home_ip h)) d ds, one)),
    none-has hs a h rule ds (omega (arith, none, count-cons (is_row_of (home_ip h)) d ds)),
  )

  pub home-at : (rows : List (Row T)) (a : IpAddr) → Housed (heads rows) → ((b : IpAddr) → count_by (is_row_of b) rows ≤ 1)
      → (i : ℕ) → option_map (is_row_of a) (slice_get rows i) ≡ Some true → (n : ℕ) → option_map (λ d. d.home) (slice_get rows i) ≡ Some n
      → (r : Option ℕ) → MatchOption r (count_by (is_row_of (ip_at a.path n)) rows ≡ 0) (λ j. option_map (is_row_of (ip_at a.path n)) (slice_get rows j) ≡ Some true)
      → MatchOption r (count_by (is_row_of a) rows ≡ 0) (HomeAt rows a)
  home-at rows a housed once i here n home r found =
      let f = row-of (slice_get rows i) a here in
      let d = f.0 in
      let hs = heads rows in
      let n-is : d.home ≡ n = same_Some d.home n (sym (ap (option_map (λ e. e.home)) f.1) ∙ home) in
      let head-there = get-heads rows i d f.1 in
      let h = housed.homes i (head_of d) head-there in
      let owner-at : h.owner.at ≡ ip_at a.path n = h.at ∙ ip-equal (home_ip (head_of d)) (ip_at a.path n) (ap (λ b. b.path) f.2) n-is in
      let rule : (p : Path) (m : ℕ) → among a (ips_in hs p m) ≡ lives_at p m (head_of d) =
      λ p m. among-at a hs p m (omega (arith, once a, count-heads a rows)) i (head_of d) head-there f.2 in
      by d n-is f.2 h owner-at rule r found
    where
      by : (d : Row T) → d.home ≡ n → d.at ≡ a → (h : HasHome (heads rows) (head_of d)) → h.owner.at ≡ ip_at a.path n
          → ((p : Path) (m : ℕ) → among a (ips_in (heads rows) p m) ≡ lives_at p m (head_of d))
          → (r : Option ℕ) → MatchOption r (count_by (is_row_of (ip_at a.path n)) rows ≡ 0) (λ j. option_map (is_row_of (ip_at a.path n)) (slice_get rows j) ≡ Some true)
          → MatchOption r (count_by (is_row_of a) rows ≡ 0) (HomeAt rows a)
      by d n-is at-is h owner-at rule None found =
          absurd (omega (arith, found, counted-at (ip_at a.path n) (heads rows) h.place h.owner h.there owner-at, count-heads (ip_at a.path n) rows))
      by d n-is at-is h owner-at rule (Some j) found =
          let f = row-of (slice_get rows j) (ip_at a.path n) found in
          let e = f.0 in
          let c = cut rows j e f.1 in
          let same : h.owner ≡ head_of e =
          same-head (ip_at a.path n) (heads rows) (omega (arith, once (ip_at a.path n), count-heads (ip_at a.path n) rows)) h.place j h.owner (head_of e) h.there (get-heads rows j e f.1) owner-at f.2 in
          let home-e : e.home ≡ d.home = ap (λ k. k.home) (sym same) ∙ h.home in
          let path-e : e.at.path ≡ a.path = ap (λ b. b.path) f.2 in
          let ip-e : e.at.ip ≡ n = ap (λ b. b.ip) f.2 in
          let path-d : d.at.path ≡ a.path = ap (λ b. b.path) at-is in
          let home-is : home_ip (head_of d) ≡ ip_at a.path n = ip-equal _ _ path-d n-is in
          let total : count_by (is_row_of (ip_at a.path n)) rows ≤ 1 = once (ip_at a.path n) in
          let split = ap (count_by (is_row_of (ip_at a.path n))) c.is ∙ count-append (is_row_of (ip_at a.path n)) c.front (e ∷ c.back) in
          let one : bit (is_row_of (ip_at a.path n) e) ≡ 1 = ap (λ b. bit (same_ip (ip_at a.path n) b)) f.2 ∙ ap bit (same_ip-refl (ip_at a.path n)) in
          let cons = count-cons (is_row_of (ip_at a.path n)) e c.back in
          let front-none : count_by (is_row_of (ip_at a.path n)) c.front ≡ 0 = omega (arith, total, split, one, cons) in
          let back-none : count_by (is_row_of (ip_at a.path n)) c.back ≡ 0 = omega (arith, total, split, one, cons) in
          record {
            front = c.front;
            row = e;
            back = c.back;
            is = c.is;
            at = c.at;
            owner = ap (λ m. nat_eq e.home m) (ip-e ∙ sym n-is ∙ sym home-e) ∙ nat_eq-refl e.home;
            path = path-e;
            mine = rule e.at.path e.home ∙ both-true _ _ (ap (λ q. bytes_eq e.at.path q) (path-d ∙ sym path-e) ∙ same_path-refl e.at.path) (ap (λ m. nat_eq e.home m) (sym home-e) ∙ nat_eq-refl e.home);
            before = none-has (heads rows) a (head_of d) rule c.front (subst (λ b. count_by (is_row_of b) c.front ≡ 0) (sym home-is) front-none);
            after = none-has (heads rows) a (head_of d) rule c.back (subst (λ b. count_by (is_row_of b) c.back ≡ 0) (sym home-is) back-none);
          }

  -- ---- the list of queues

  pub queues_of-append : (hs : List Head) (ds es : List (Row T)) → queues_of hs (ds ++ es) ≡ queues_of hs ds ++ queues_of hs es
  queues_of-append hs [] es = refl
  queues_of-append hs (d ∷ ds) es = by (owns d) (queues_of-append hs ds es)
    where
      by : (b : Bool) → queues_of hs (ds ++ es) ≡ queues_of hs ds ++ queues_of hs es
          → (if b then queue_in hs d ∷ queues_of hs (ds ++ es) else queues_of hs (ds ++ es)) ≡ (if b then queue_in hs d ∷ queues_of hs ds else queues_of hs ds) ++ queues_of hs es
      by true rest = ap (λ l. queue_in hs d ∷ l) rest
      by false rest = rest

  pub queues_of-owner : (hs : List Head) (d : Row T) (ds : List (Row T)) → owns d ≡ true → queues_of hs (d ∷ ds) ≡ queue_in hs d ∷ queues_of hs ds
  queues_of-owner hs d ds own = ap (λ b. if b then queue_in hs d ∷ queues_of hs ds else queues_of hs ds) own

  pub quiet-on : (hs : List Head) (a : IpAddr) (f : Queue T → Queue T) (ds : List (Row T)) → NoneHas hs a ds → on_queue a f (queues_of hs ds) ≡ queues_of hs ds
  quiet-on hs a f [] none = refl
  quiet-on hs a f (d ∷ ds) none = by (owns d) none.0 (quiet-on hs a f ds none.1)
    where
      by : (b : Bool) → (b ≡ true → among a (ips_in hs d.at.path d.home) ≡ false) → on_queue a f (queues_of hs ds) ≡ queues_of hs ds
          → on_queue a f (if b then queue_in hs d ∷ queues_of hs ds else queues_of hs ds) ≡ (if b then queue_in hs d ∷ queues_of hs ds else queues_of hs ds)
      by true missing rest = ap (λ c. (if c then f (queue_in hs d) else queue_in hs d) ∷ on_queue a f (queues_of hs ds)) (missing refl) ∙ ap (λ l. queue_in hs d ∷ l) rest
      by false missing rest = rest

  pub quiet-of : (hs : List Head) (a : IpAddr) (ds : List (Row T)) (qs : List (Queue T)) → NoneHas hs a ds → queue_of a (queues_of hs ds ++ qs) ≡ queue_of a qs
  quiet-of hs a [] qs none = refl
  quiet-of hs a (d ∷ ds) qs none = by (owns d) none.0 (quiet-of hs a ds qs none.1)
    where
      by : (b : Bool) → (b ≡ true → among a (ips_in hs d.at.path d.home) ≡ false) → queue_of a (queues_of hs ds ++ qs) ≡ queue_of a qs
          → queue_of a ((if b then queue_in hs d ∷ queues_of hs ds else queues_of hs ds) ++ qs) ≡ queue_of a qs
      by true missing rest = ap (λ c. if c then each (waits_in d.at.path) d.items else queue_of a (queues_of hs ds ++ qs)) (missing refl) ∙ rest
      by false missing rest = rest

  pub quiet-declared : (hs : List Head) (a : IpAddr) (ds : List (Row T)) (qs : List (Queue T)) → NoneHas hs a ds → is_declared a (queues_of hs ds ++ qs) ≡ is_declared a qs
  quiet-declared hs a [] qs none = refl
  quiet-declared hs a (d ∷ ds) qs none = by (owns d) none.0 (quiet-declared hs a ds qs none.1)
    where
      by : (b : Bool) → (b ≡ true → among a (ips_in hs d.at.path d.home) ≡ false) → is_declared a (queues_of hs ds ++ qs) ≡ is_declared a qs
          → is_declared a ((if b then queue_in hs d ∷ queues_of hs ds else queues_of hs ds) ++ qs) ≡ is_declared a qs
      by true missing rest = ap (λ c. c || is_declared a (queues_of hs ds ++ qs)) (missing refl) ∙ rest
      by false missing rest = rest

  module _ (rows : List (Row T)) (a : IpAddr) (j : ℕ) (home : HomeAt rows a j) where
    pub home-split : (hs : List Head) → queues_of hs rows ≡ queues_of hs home.front ++ queue_in hs home.row ∷ queues_of hs home.back
    home-split hs = ap (queues_of hs) home.is ∙ queues_of-append hs home.front (home.row ∷ home.back) ∙ ap (λ l. queues_of hs home.front ++ l) (queues_of-owner hs home.row home.back home.owner)

    pub home-items : queue_of a (queues_of (heads rows) rows) ≡ each (waits_in home.row.at.path) home.row.items
    home-items =
        ap (queue_of a) (home-split (heads rows))
        ∙ quiet-of (heads rows) a home.front _ home.before
        ∙ ap (λ c. if c then each (waits_in home.row.at.path) home.row.items else queue_of a (queues_of (heads rows) home.back)) home.mine

    pub home-declared : is_declared a (queues_of (heads rows) rows) ≡ true
    home-declared =
        ap (is_declared a) (home-split (heads rows))
        ∙ quiet-declared (heads rows) a home.front _ home.before
        ∙ ap (λ c. c || is_declared a (queues_of (heads rows) home.back)) home.mine

    pub home-changed : (f : Row T → Row T) → on_row j f rows ≡ home.front ++ f home.row ∷ home.back
    home-changed f =
        ap (on_row j f) home.is ∙ ap (λ i. on_row i f (home.front ++ home.row ∷ home.back)) (sym home.at) ∙ on_row-cut f home.front home.row home.back

    pub home-heads : (f : Row T → Row T) → head_of (f home.row) ≡ head_of home.row → heads (on_row j f rows) ≡ heads rows
    home-heads f same =
        ap heads (home-changed f) ∙ each-append head_of home.front (f home.row ∷ home.back) ∙ ap (λ h. heads home.front ++ h ∷ heads home.back) same
        ∙ sym (ap heads home.is ∙ each-append head_of home.front (home.row ∷ home.back))

    -- the row of a queue changes: its queue does, and no other
    pub home-queues : (f : Row T → Row T) (g : Queue T → Queue T) → head_of (f home.row) ≡ head_of home.row → queue_in (heads rows) (f home.row) ≡ g (queue_in (heads rows) home.row)
        → queues_of (heads (on_row j f rows)) (on_row j f rows) ≡ on_queue a g (queues_of (heads rows) rows)
    home-queues f g same there =
        let hs = heads rows in
        let own : owns (f home.row) ≡ true = ap (λ h. nat_eq h.home h.at.ip) same ∙ home.owner in
        ap (λ h. queues_of h (on_row j f rows)) (home-heads f same)
        ∙ ap (queues_of hs) (home-changed f)
        ∙ queues_of-append hs home.front (f home.row ∷ home.back)
        ∙ ap (λ l. queues_of hs home.front ++ l) (queues_of-owner hs (f home.row) home.back own)
        ∙ ap (λ q. queues_of hs home.front ++ q ∷ queues_of hs home.back) there
        ∙ sym (
        ap (on_queue a g) (home-split hs)
        ∙ each-append (λ q. if has a q then g q else q) (queues_of hs home.front) (queue_in hs home.row ∷ queues_of hs home.back)
        ∙ ap (λ l. l ++ on_queue a g (queue_in hs home.row ∷ queues_of hs home.back)) (quiet-on hs a g home.front home.before)
        ∙ ap (λ c. queues_of hs home.front ++ (if c then g (queue_in hs home.row) else queue_in hs home.row) ∷ on_queue a g (queues_of hs home.back)) home.mine
        ∙ ap (λ l. queues_of hs home.front ++ g (queue_in hs home.row) ∷ l) (quiet-on hs a g home.back home.after))

    AllFiled-set : (hs : List Head) (ds : List (Row T)) (d e : Row T) (es : List (Row T)) → AllFiled hs (ds ++ d ∷ es) → Filed hs e → AllFiled hs (ds ++ e ∷ es)
    AllFiled-set hs [] d e es p q = (q, p.1)
    AllFiled-set hs (x ∷ ds) d e es p q = (p.0, AllFiled-set hs ds d e es p.1 q)

    AllFiled-here : (hs : List Head) (ds : List (Row T)) (d : Row T) (es : List (Row T)) → AllFiled hs (ds ++ d ∷ es) → Filed hs d
    AllFiled-here hs [] d es p = p.0
    AllFiled-here hs (x ∷ ds) d es p = AllFiled-here hs ds d es p.1

    pub home-filed : AllFiled (heads rows) rows → Filed (heads rows) home.row
    home-filed all = AllFiled-here (heads rows) home.front home.row home.back (subst (AllFiled (heads rows)) home.is all)

    pub home-kept : (f : Row T → Row T) → head_of (f home.row) ≡ head_of home.row → AllFiled (heads rows) rows → Filed (heads rows) (f home.row) → AllFiled (heads (on_row j f rows)) (on_row j f rows)
    home-kept f same all filed =
        subst (λ h. AllFiled h (on_row j f rows)) (sym (home-heads f same))
        (subst (AllFiled (heads rows)) (sym (home-changed f)) (AllFiled-set (heads rows) home.front home.row (f home.row) home.back (subst (AllFiled (heads rows)) home.is all) filed))
