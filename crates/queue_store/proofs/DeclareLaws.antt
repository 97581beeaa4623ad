-- One more declared interaction point, with a queue of its own or in the common queue of its instance.
use Rattle.std.proofs.Common.{◌≡◌, ◌≢◌, ◌⊎◌, subst, ℕ, zero, suc, ◌+◌, ◌-◌, ◌<◌, ◌≤◌, Bool, true, false, cond, List, [], ◌∷◌, ◌++◌, length, Option, Some, None, is_some, refl, sym, ap, ◌∙◌, inl, inr, arith, sum_by, count_by, slice_get, drop, length-append}
use Rattle.std.specs.Prelude.{nat_eq, map as each, if◌then◌else◌, ◌&&◌, ◌||◌, MatchOption}
use Rattle.std.specs.Option.{option_map, unwrap_or}
use Rattle.std.specs.Str.{bytes_eq}
use Rattle.std.proofs.lemmas.Bool.{cases_eq}
use Rattle.std.proofs.lemmas.Option.{same_Some}
use Rattle.std.proofs.lemmas.List.{append-nil}
use Rattle.estelle_tree.specs.declared.link.IpAddr.{IpAddr}
use Rattle.estelle_tree.specs.Links.{same_ip}
use Rattle.estelle_tree.specs.Paths.{Path}
use Rattle.queue_store.specs.Rows.{Row, ip_at, is_row_of}
use Rattle.queue_store.specs.Queues.{Queue, among, some_of, has, is_declared, is_common_of, has_common, joined, new_queue, declared}
use Rattle.queue_store.specs.Homes.{Head, home_ip, lives_at, ips_in, heads_at, head_of, heads, owns, queue_in, queues_of, Filed, AllFiled, AllKnown, HasHome, Housed, common_home, AllBelow}
use Rattle.std.proofs.lemmas.List.Sums.{sum_by_push}
use Rattle.queue_store.proofs.TableLaws.{bit, same_ip-equal}
use Rattle.queue_store.proofs.RowLaws.{get-cut}
use Rattle.queue_store.proofs.HomeLaws.{heads_at-cons, among-at, same_path-refl, same_path-equal, nat_eq-equal, nat_eq-refl, both-true, part-true, ip-equal, false-unless, count-heads, counted-at, get-heads, row-of, same-head, queues_of-append, each-append}

-- ---- places in a longer list

pub get-append : {A : Type 0} (xs ys : List A) (i : ℕ) (x : A) → slice_get xs i ≡ Some x → slice_get (xs ++ ys) i ≡ Some x
get-append [] ys i x h = absurd (cc)
get-append (z ∷ xs) ys zero x h = h
get-append (z ∷ xs) ys (suc i) x h = get-append xs ys i x h

pub get-push : {A : Type 0} (xs : List A) (y : A) (i : ℕ) (x : A) → slice_get (xs ++ y ∷ []) i ≡ Some x → (slice_get xs i ≡ Some x) ⊎ (y ≡ x)
get-push [] y zero x h = inr (same_Some y x h)
get-push [] y (suc i) x h = absurd (cc)
get-push (z ∷ xs) y zero x h = inl h
get-push (z ∷ xs) y (suc i) x h = get-push xs y i x h

-- ---- interaction points of a queue

pub ips_in-push : (hs : List Head) (h : Head) (p : Path) (n : ℕ) → ips_in (hs ++ h ∷ []) p n ≡ ips_in hs p n ++ (if lives_at p n h then h.at ∷ [] else [])
ips_in-push [] h p n = refl
ips_in-push (k ∷ hs) h p n = by (lives_at p n k) (ips_in-push hs h p n)
  where
    by : (b : Bool) → ips_in (hs ++ h ∷ []) p n ≡ ips_in hs p n ++ (if lives_at p n h then h.at ∷ [] else [])
        → (if b then k.at ∷ ips_in (hs ++ h ∷ []) p n else ips_in (hs ++ h ∷ []) p n) ≡ (if b then k.at ∷ ips_in hs p n else ips_in hs p n) ++ (if lives_at p n h then h.at ∷ [] else [])
    by true rest = ap (λ l. k.at ∷ l) rest
    by false rest = rest

pub no-ips : (hs : List Head) (p : Path) (n : ℕ) → ((i : ℕ) (k : Head) → slice_get hs i ≡ Some k → lives_at p n k ≡ false) → ips_in hs p n ≡ []
no-ips [] p n none = refl
no-ips (k ∷ hs) p n none = ap (λ b. if b then k.at ∷ ips_in hs p n else ips_in hs p n) (none 0 k refl) ∙ no-ips hs p n (λ i h g. none (suc i) h g)

among-more : (a : IpAddr) (xs ys : List IpAddr) → among a xs ≡ true → among a (xs ++ ys) ≡ true
among-more a [] ys h = absurd (cc)
among-more a (x ∷ xs) ys h = by (same_ip a x) h (among-more a xs ys)
  where
    by : (b : Bool) → (b || among a xs) ≡ true → (among a xs ≡ true → among a (xs ++ ys) ≡ true) → (b || among a (xs ++ ys)) ≡ true
    by true h rest = refl
    by false h rest = rest h

some-path : (hs : List Head) (p q : Path) (n : ℕ) → some_of p (ips_in hs q n) ≡ true → p ≡ q
some-path [] p q n h = absurd (cc)
some-path (k ∷ hs) p q n h = by (lives_at q n k) refl h (some-path hs p q n)
  where
    by : (b : Bool) → lives_at q n k ≡ b → some_of p (if b then k.at ∷ ips_in hs q n else ips_in hs q n) ≡ true → (some_of p (ips_in hs q n) ≡ true → p ≡ q) → p ≡ q
    by true lives h rest = first (bytes_eq p k.at.path) refl h
      where
        first : (c : Bool) → bytes_eq p k.at.path ≡ c → (c || some_of p (ips_in hs q n)) ≡ true → p ≡ q
        first true e g = same_path-equal p k.at.path e ∙ sym (same_path-equal q k.at.path (part-true _ _ lives).0)
        first false e g = rest g
    by false lives h rest = rest h

some-there : (hs : List Head) (p : Path) (n : ℕ) (i : ℕ) (h : Head) → slice_get hs i ≡ Some h → lives_at p n h ≡ true → some_of p (ips_in hs p n) ≡ true
some-there [] p n i h g lives = absurd (cc)
some-there (k ∷ hs) p n zero h g lives =
    let same = same_Some k h g in
    let here : lives_at p n k ≡ true = ap (lives_at p n) same ∙ lives in
    let path : bytes_eq p k.at.path ≡ true = (part-true _ _ here).0 in
    ap (λ b. some_of p (if b then k.at ∷ ips_in hs p n else ips_in hs p n)) here ∙ ap (λ b. b || some_of p (ips_in hs p n)) path
some-there (k ∷ hs) p n (suc i) h g lives = by (lives_at p n k) (some-there hs p n i h g lives)
  where
    by : (b : Bool) → some_of p (ips_in hs p n) ≡ true → some_of p (if b then k.at ∷ ips_in hs p n else ips_in hs p n) ≡ true
    by true rest = either (bytes_eq p k.at.path)
      where
        either : (c : Bool) → (c || some_of p (ips_in hs p n)) ≡ true
        either true = refl
        either false = rest
    by false rest = rest

-- ---- the home of a common queue

pub common-some : (p : Path) (hs : List Head) (n : ℕ) → ((j : ℕ) (k : Head) → slice_get hs j ≡ Some k → k.common ≡ true → k.at.path ≡ p → k.home ≡ n)
    → (i : ℕ) (h : Head) → slice_get hs i ≡ Some h → h.common ≡ true → h.at.path ≡ p → common_home p hs ≡ Some n
common-some p [] n one i h g c e = absurd (cc)
common-some p (k ∷ hs) n one i h g c e = by (k.common && bytes_eq p k.at.path) refl i g (λ j f. common-some p hs n (λ m l q. one (suc m) l q) j h f c e)
  where
    by : (b : Bool) → (k.common && bytes_eq p k.at.path) ≡ b → (j : ℕ) → slice_get (k ∷ hs) j ≡ Some h → ((m : ℕ) → slice_get hs m ≡ Some h → common_home p hs ≡ Some n) → (if b then Some k.home else common_home p hs) ≡ Some n
    by true q j f rest = let parts = part-true _ _ q in ap Some (one 0 k refl parts.0 (sym (same_path-equal _ _ parts.1)))
    by false q zero f rest =
        let same = same_Some k h f in
        let there : (k.common && bytes_eq p k.at.path) ≡ true = both-true _ _ (ap (λ x. x.common) same ∙ c) (ap (λ x. bytes_eq p x.at.path) same ∙ ap (λ x. bytes_eq p x) e ∙ same_path-refl p) in
        let clash : true ≡ false = sym there ∙ q in
        absurd (cc)
    by false q (suc j) f rest = rest j f

pub common-none : (p : Path) (hs : List Head) → ((j : ℕ) (k : Head) → slice_get hs j ≡ Some k → k.common ≡ true → k.at.path ≡ p → ⊥) → common_home p hs ≡ None
common-none p [] none = refl
common-none p (k ∷ hs) none =
    let here : (k.common && bytes_eq p k.at.path) ≡ false = false-unless _ (λ q. let parts = part-true _ _ q in none 0 k refl parts.0 (sym (same_path-equal _ _ parts.1))) in
    ap (λ b. if b then Some k.home else common_home p hs) here ∙ common-none p hs (λ j l q. none (suc j) l q)

-- and what it says
pub record IsCommon (p : Path) (hs : List Head) (n : ℕ) : Type 0 where
  pub place : ℕ
  pub head : Head
  pub there : slice_get hs place ≡ Some head
  pub common : head.common ≡ true
  pub path : head.at.path ≡ p
  pub home : head.home ≡ n

pub common-is : (p : Path) (hs : List Head) (n : ℕ) → common_home p hs ≡ Some n → IsCommon p hs n
common-is p [] n h = absurd (cc)
common-is p (k ∷ hs) n h = by (k.common && bytes_eq p k.at.path) refl h (common-is p hs n)
  where
    by : (b : Bool) → (k.common && bytes_eq p k.at.path) ≡ b → (if b then Some k.home else common_home p hs) ≡ Some n → (common_home p hs ≡ Some n → IsCommon p hs n) → IsCommon p (k ∷ hs) n
    by true q f rest = let parts = part-true _ _ q in record { place = 0; head = k; there = refl; common = parts.0; path = sym (same_path-equal _ _ parts.1); home = same_Some k.home n f }
    by false q f rest = let r = rest f in record { place = suc r.place; head = r.head; there = r.there; common = r.common; path = r.path; home = r.home }

pub common-not : (p : Path) (hs : List Head) → common_home p hs ≡ None → (j : ℕ) (k : Head) → slice_get hs j ≡ Some k → k.common ≡ true → k.at.path ≡ p → ⊥
common-not p [] h j k g c e = cc
common-not p (x ∷ hs) h j k g c e = by (x.common && bytes_eq p x.at.path) refl h j g (λ q m f. common-not p hs q m k f c e)
  where
    by : (b : Bool) → (x.common && bytes_eq p x.at.path) ≡ b → (if b then Some x.home else common_home p hs) ≡ None → (m : ℕ) → slice_get (x ∷ hs) m ≡ Some k
        → (common_home p hs ≡ None → (l : ℕ) → slice_get hs l ≡ Some k → ⊥) → ⊥
    by true q f m g rest = cc
    by false q f zero g rest =
        let same = same_Some x k g in
        let there : (x.common && bytes_eq p x.at.path) ≡ true = both-true _ _ (ap (λ y. y.common) same ∙ c) (ap (λ y. bytes_eq p y.at.path) same ∙ ap (λ y. bytes_eq p y) e ∙ same_path-refl p) in
        let clash : true ≡ false = sym there ∙ q in
        cc
    by false q f (suc m) g rest = rest f m g

module _ {T : Type 0} where
  -- rows that are in a list of heads
  abbrev Listed : List Head → List (Row T) → Type 0
  Listed hs ds = (i : ℕ) (d : Row T) → slice_get ds i ≡ Some d → (j : ℕ) × (slice_get hs j ≡ Some (head_of d))

  common-queue : (hs : List Head) (p : Path) (d : Row T) → (j : ℕ) → slice_get hs j ≡ Some (head_of d) → is_common_of p (queue_in hs d) ≡ (d.common && bytes_eq p d.at.path)
  common-queue hs p d j there = ap (λ b. d.common && b) (by (bytes_eq p d.at.path) refl)
    where
      by : (b : Bool) → bytes_eq p d.at.path ≡ b → some_of p (ips_in hs d.at.path d.home) ≡ b
      by true e =
          let lives : lives_at d.at.path d.home (head_of d) ≡ true = both-true _ _ (same_path-refl d.at.path) (nat_eq-refl d.home) in
          ap (λ q. some_of q (ips_in hs d.at.path d.home)) (same_path-equal p d.at.path e) ∙ some-there hs d.at.path d.home j (head_of d) there lives
      by false e = false-unless _ (λ some.
          let same = some-path hs p d.at.path d.home some in
          let clash : true ≡ false = sym (same_path-refl d.at.path) ∙ ap (λ q. bytes_eq q d.at.path) (sym same) ∙ e in
          cc)

  queue-push : (hs : List Head) (h : Head) (d : Row T) (b : Bool) → lives_at d.at.path d.home h ≡ b → queue_in (hs ++ h ∷ []) d ≡ (if b then joined h.at (queue_in hs d) else queue_in hs d)
  queue-push hs h d true e = ap (λ l. record (queue_in hs d) { ips = l }) (ips_in-push hs h d.at.path d.home ∙ ap (λ b. ips_in hs d.at.path d.home ++ (if b then h.at ∷ [] else [])) e)
  queue-push hs h d false e =
      ap (λ l. record (queue_in hs d) { ips = l }) (ips_in-push hs h d.at.path d.home ∙ ap (λ b. ips_in hs d.at.path d.home ++ (if b then h.at ∷ [] else [])) e ∙ append-nil _)

  joined-all : (hs : List Head) (h : Head) (ds : List (Row T)) → ((i : ℕ) (d : Row T) → slice_get ds i ≡ Some d → owns d ≡ true → lives_at d.at.path d.home h ≡ is_common_of h.at.path (queue_in hs d))
      → queues_of (hs ++ h ∷ []) ds ≡ each (λ q. if is_common_of h.at.path q then joined h.at q else q) (queues_of hs ds)
  joined-all hs h [] rule = refl
  joined-all hs h (d ∷ ds) rule = by (owns d) (rule 0 d refl) (joined-all hs h ds (λ i e g. rule (suc i) e g))
    where
      by : (b : Bool) → (b ≡ true → lives_at d.at.path d.home h ≡ is_common_of h.at.path (queue_in hs d))
          → queues_of (hs ++ h ∷ []) ds ≡ each (λ q. if is_common_of h.at.path q then joined h.at q else q) (queues_of hs ds)
          → (if b then queue_in (hs ++ h ∷ []) d ∷ queues_of (hs ++ h ∷ []) ds else queues_of (hs ++ h ∷ []) ds)
          ≡ each (λ q. if is_common_of h.at.path q then joined h.at q else q) (if b then queue_in hs d ∷ queues_of hs ds else queues_of hs ds)
      by true lives rest =
          ap (λ q. q ∷ queues_of (hs ++ h ∷ []) ds) (queue-push hs h d (is_common_of h.at.path (queue_in hs d)) (lives refl))
          ∙ ap (λ l. (if is_common_of h.at.path (queue_in hs d) then joined h.at (queue_in hs d) else queue_in hs d) ∷ l) rest
      by false lives rest = rest

  same-all : (hs : List Head) (h : Head) (ds : List (Row T)) → ((i : ℕ) (d : Row T) → slice_get ds i ≡ Some d → owns d ≡ true → lives_at d.at.path d.home h ≡ false)
      → queues_of (hs ++ h ∷ []) ds ≡ queues_of hs ds
  same-all hs h [] rule = refl
  same-all hs h (d ∷ ds) rule = by (owns d) (rule 0 d refl) (same-all hs h ds (λ i e g. rule (suc i) e g))
    where
      by : (b : Bool) → (b ≡ true → lives_at d.at.path d.home h ≡ false) → queues_of (hs ++ h ∷ []) ds ≡ queues_of hs ds
          → (if b then queue_in (hs ++ h ∷ []) d ∷ queues_of (hs ++ h ∷ []) ds else queues_of (hs ++ h ∷ []) ds) ≡ (if b then queue_in hs d ∷ queues_of hs ds else queues_of hs ds)
      by true lives rest = ap (λ q. q ∷ queues_of (hs ++ h ∷ []) ds) (queue-push hs h d false (lives refl)) ∙ ap (λ l. queue_in hs d ∷ l) rest
      by false lives rest = rest

  no-common : (hs : List Head) (p : Path) (ds : List (Row T)) → ((i : ℕ) (d : Row T) → slice_get ds i ≡ Some d → is_common_of p (queue_in hs d) ≡ false) → has_common p (queues_of hs ds) ≡ false
  no-common hs p [] none = refl
  no-common hs p (d ∷ ds) none = by (owns d) (none 0 d refl) (no-common hs p ds (λ i e g. none (suc i) e g))
    where
      by : (b : Bool) → is_common_of p (queue_in hs d) ≡ false → has_common p (queues_of hs ds) ≡ false → has_common p (if b then queue_in hs d ∷ queues_of hs ds else queues_of hs ds) ≡ false
      by true none rest = ap (λ c. c || has_common p (queues_of hs ds)) none ∙ rest
      by false none rest = rest

  some-common : (hs : List Head) (p : Path) (ds : List (Row T)) (i : ℕ) (d : Row T) → slice_get ds i ≡ Some d → owns d ≡ true → is_common_of p (queue_in hs d) ≡ true → has_common p (queues_of hs ds) ≡ true
  some-common hs p [] i d g own c = absurd (cc)
  some-common hs p (e ∷ ds) zero d g own c =
      let same = same_Some e d g in
      let own-e : owns e ≡ true = ap owns same ∙ own in
      let here : is_common_of p (queue_in hs e) ≡ true = ap (λ x. is_common_of p (queue_in hs x)) same ∙ c in
      ap (λ b. has_common p (if b then queue_in hs e ∷ queues_of hs ds else queues_of hs ds)) own-e ∙ ap (λ b. b || has_common p (queues_of hs ds)) here
  some-common hs p (e ∷ ds) (suc i) d g own c = by (owns e) (some-common hs p ds i d g own c)
    where
      by : (b : Bool) → has_common p (queues_of hs ds) ≡ true → has_common p (if b then queue_in hs e ∷ queues_of hs ds else queues_of hs ds) ≡ true
      by true rest = either (is_common_of p (queue_in hs e))
        where
          either : (c : Bool) → (c || has_common p (queues_of hs ds)) ≡ true
          either true = refl
          either false = rest
      by false rest = rest

  get-row : (ds : List (Row T)) (i : ℕ) (h : Head) → slice_get (heads ds) i ≡ Some h → (d : Row T) × (slice_get ds i ≡ Some d) × (head_of d ≡ h)
  get-row [] i h g = absurd (cc)
  get-row (d ∷ ds) zero h g = (d, refl, same_Some (head_of d) h g)
  get-row (d ∷ ds) (suc i) h g = get-row ds i h g

  some-declared : (hs : List Head) (a : IpAddr) (ds : List (Row T)) (i : ℕ) (d : Row T) → slice_get ds i ≡ Some d → owns d ≡ true → among a (ips_in hs d.at.path d.home) ≡ true → is_declared a (queues_of hs ds) ≡ true
  some-declared hs a [] i d g own c = absurd (cc)
  some-declared hs a (e ∷ ds) zero d g own c =
      let same = same_Some e d g in
      let own-e : owns e ≡ true = ap owns same ∙ own in
      let here : among a (ips_in hs e.at.path e.home) ≡ true = ap (λ x. among a (ips_in hs x.at.path x.home)) same ∙ c in
      ap (λ b. is_declared a (if b then queue_in hs e ∷ queues_of hs ds else queues_of hs ds)) own-e ∙ ap (λ b. b || is_declared a (queues_of hs ds)) here
  some-declared hs a (e ∷ ds) (suc i) d g own c = by (owns e) (some-declared hs a ds i d g own c)
    where
      by : (b : Bool) → is_declared a (queues_of hs ds) ≡ true → is_declared a (if b then queue_in hs e ∷ queues_of hs ds else queues_of hs ds) ≡ true
      by true rest = either (has a (queue_in hs e))
        where
          either : (c : Bool) → (c || is_declared a (queues_of hs ds)) ≡ true
          either true = refl
          either false = rest
      by false rest = rest

find-head : (a : IpAddr) (hs : List Head) → 0 < heads_at a hs → (i : ℕ) × (h : Head) × (slice_get hs i ≡ Some h) × (h.at ≡ a)
find-head a [] lt = absurd (omega (arith, lt))
find-head a (h ∷ hs) lt = by (same_ip a h.at) refl (find-head a hs)
  where
    by : (b : Bool) → same_ip a h.at ≡ b → (0 < heads_at a hs → (i : ℕ) × (k : Head) × (slice_get hs i ≡ Some k) × (k.at ≡ a)) → (i : ℕ) × (k : Head) × (slice_get (h ∷ hs) i ≡ Some k) × (k.at ≡ a)
    by true e rest = (0, h, refl, sym (same_ip-equal a h.at e))
    by false e rest =
        let none : bit (same_ip a h.at) ≡ 0 = ap bit e in
        let r = rest (omega (arith, lt, none, heads_at-cons a h hs)) in
        (suc r.0, r.1, r.2, r.3)

-- a head that may come to others
pub record NewHead (hs : List Head) (h : Head) : Type 0 where
  pub home : HasHome (hs ++ h ∷ []) h
  pub own : h.common ≡ false → h.home ≡ h.at.ip
  pub one : (j : ℕ) (k : Head) → slice_get hs j ≡ Some k → k.common ≡ true → h.common ≡ true → k.at.path ≡ h.at.path → k.home ≡ h.home

heads_at-push : (a : IpAddr) (hs : List Head) (h : Head) → heads_at a (hs ++ h ∷ []) ≡ heads_at a hs + bit (same_ip a h.at)
heads_at-push a hs h = sum_by_push (λ k. cond (same_ip a k.at) 1 0) hs h

pub housed-push : (hs : List Head) (h : Head) → Housed hs → heads_at h.at hs ≡ 0 → NewHead hs h → Housed (hs ++ h ∷ [])
housed-push hs h housed fresh new = record {
  once = λ a. elim-once a (same_ip a h.at) refl;
  homes = λ i k g. elim (get-push hs h i k g) [
    | inl old ↦
        let r = housed.homes i k old in
        record { place = r.place; owner = r.owner; there = get-append hs (h ∷ []) r.place r.owner r.there; at = r.at; home = r.home; common = r.common }
    | inr e ↦ subst (HasHome (hs ++ h ∷ [])) e new.home
  ];
  own = λ i k g common. elim (get-push hs h i k g) [
    | inl old ↦ housed.own i k old common
    | inr e ↦ subst (λ x. x.common ≡ false → x.home ≡ x.at.ip) e new.own common
  ];
  one = λ i j k l g f ck cl path. elim (get-push hs h i k g) [
    | inl old ↦ elim (get-push hs h j l f) [
      | inl old2 ↦ housed.one i j k l old old2 ck cl path
      | inr e ↦ subst (λ x. x.common ≡ true → k.at.path ≡ x.at.path → k.home ≡ x.home) e (λ c p. new.one i k old ck c p) cl path
    ]
    | inr e ↦ elim (get-push hs h j l f) [
      | inl old2 ↦ sym (subst (λ x. x.common ≡ true → l.at.path ≡ x.at.path → l.home ≡ x.home) e (λ c p. new.one j l old2 cl c p) ck (sym path))
      | inr e2 ↦ ap (λ x. x.home) (sym e ∙ e2)
    ]
  ];
}
  where
    elim-once : (a : IpAddr) (b : Bool) → same_ip a h.at ≡ b → heads_at a (hs ++ h ∷ []) ≤ 1
    elim-once a true e =
        let none : heads_at a hs ≡ 0 = ap (λ x. heads_at x hs) (same_ip-equal a h.at e) ∙ fresh in
        let one : bit (same_ip a h.at) ≡ 1 = ap bit e in
        omega (arith, heads_at-push a hs h, none, one)
    elim-once a false e =
        let none : bit (same_ip a h.at) ≡ 0 = ap bit e in
        omega (arith, heads_at-push a hs h, none, housed.once a)

pub below-push : (n m : ℕ) (hs : List Head) (h : Head) → AllBelow n hs → n ≤ m → h.at.ip < m → AllBelow m (hs ++ h ∷ [])
below-push n m [] h all le lt = (lt, tt)
below-push n m (k ∷ hs) h all le lt = (omega (arith, all.0, le), below-push n m hs h all.1 le lt)

module _ {T : Type 0} (rows : List (Row T)) (a : IpAddr) (housed : Housed (heads rows)) where
  -- an interaction point without a queue has no row
  pub fresh-of : is_declared a (queues_of (heads rows) rows) ≡ false → count_by (is_row_of a) rows ≡ 0
  fresh-of absent = by (count_by (is_row_of a) rows) refl
    where
      by : (n : ℕ) → count_by (is_row_of a) rows ≡ n → n ≡ 0
      by zero e = refl
      by (suc n) e =
          let f = find-head a (heads rows) (omega (arith, e, count-heads a rows)) in
          let h = housed.homes f.0 f.1 f.2 in
          let d = get-row rows h.place h.owner h.there in
          let at-d : d.0.at ≡ home_ip f.1 = ap (λ k. k.at) d.2 ∙ h.at in
          let home-d : d.0.home ≡ f.1.home = ap (λ k. k.home) d.2 ∙ h.home in
          let own : owns d.0 ≡ true = ap (λ m. nat_eq d.0.home m) (ap (λ b. b.ip) at-d ∙ sym home-d) ∙ nat_eq-refl d.0.home in
          let lives : lives_at d.0.at.path d.0.home f.1 ≡ true =
          both-true _ _ (ap (λ q. bytes_eq q f.1.at.path) (ap (λ b. b.path) at-d) ∙ same_path-refl f.1.at.path) (ap (λ m. nat_eq m f.1.home) home-d ∙ nat_eq-refl f.1.home) in
          let mine = among-at a (heads rows) d.0.at.path d.0.home (housed.once a) f.0 f.1 f.2 f.3 ∙ lives in
          let clash : true ≡ false = sym (some-declared (heads rows) a rows h.place d.0 d.1 own mine) ∙ absent in
          absurd (cc)

  module _ (fresh : count_by (is_row_of a) rows ≡ 0) where
    abbrev new-row : Bool → ℕ → Row T
    new-row common n = record { at = a; common = common; home = n; items = [] }

    heads-fresh : heads_at a (heads rows) ≡ 0
    heads-fresh = count-heads a rows ∙ fresh

    not-at : (i : ℕ) (k : Head) → slice_get (heads rows) i ≡ Some k → k.at ≡ a → ⊥
    not-at i k g e = omega (arith, counted-at a (heads rows) i k g e, heads-fresh)

    heads-new : (r : Row T) → heads (rows ++ r ∷ []) ≡ heads rows ++ head_of r ∷ []
    heads-new r = each-append head_of rows (r ∷ [])

    no-home : (i : ℕ) (k : Head) → slice_get (heads rows) i ≡ Some k → lives_at a.path a.ip k ≡ false
    no-home i k g = false-unless _ (λ lives.
        let parts = part-true _ _ lives in
        let h = housed.homes i k g in
        let at : home_ip k ≡ a = ip-equal _ _ (sym (same_path-equal _ _ parts.0)) (sym (nat_eq-equal _ _ parts.1)) in
        not-at h.place h.owner h.there (h.at ∙ at))

    no-owner : (common : Bool) (i : ℕ) (d : Row T) → slice_get rows i ≡ Some d → owns d ≡ true → lives_at d.at.path d.home (head_of (new-row common a.ip)) ≡ false
    no-owner common i d g own = false-unless _ (λ lives.
        let parts = part-true _ _ lives in
        let at : d.at ≡ a = ip-equal _ _ (same_path-equal _ _ parts.0) (sym (nat_eq-equal _ _ own) ∙ nat_eq-equal _ _ parts.1) in
        not-at i (head_of d) (get-heads rows i d g) at)

    own-queues : (common : Bool) → (common ≡ true → common_home a.path (heads rows) ≡ None)
        → queues_of (heads (rows ++ new-row common a.ip ∷ [])) (rows ++ new-row common a.ip ∷ []) ≡ declared a common (queues_of (heads rows) rows)
    own-queues common none =
        let hs = heads rows in
        let r = new-row common a.ip in
        let h = head_of r in
        let none-shared : (common && has_common a.path (queues_of hs rows)) ≡ false = shared common none in
        let lives : lives_at a.path a.ip h ≡ true = both-true _ _ (same_path-refl a.path) (nat_eq-refl a.ip) in
        let ips : ips_in (hs ++ h ∷ []) a.path a.ip ≡ a ∷ [] =
        ips_in-push hs h a.path a.ip ∙ ap (λ l. l ++ (if lives_at a.path a.ip h then a ∷ [] else [])) (no-ips hs a.path a.ip no-home)
        ∙ ap (λ b. if b then a ∷ [] else []) lives in
        ap (λ l. queues_of l (rows ++ r ∷ [])) (heads-new r)
        ∙ queues_of-append (hs ++ h ∷ []) rows (r ∷ [])
        ∙ ap (λ l. l ++ queues_of (hs ++ h ∷ []) (r ∷ [])) (same-all hs h rows (no-owner common))
        ∙ ap (λ b. queues_of hs rows ++ (if b then queue_in (hs ++ h ∷ []) r ∷ [] else [])) (nat_eq-refl a.ip)
        ∙ ap (λ l. queues_of hs rows ++ record { common = common; ips = l; items = [] } ∷ []) ips
        ∙ sym (ap (λ b. if b then each (λ q. if is_common_of a.path q then joined a q else q) (queues_of hs rows) else queues_of hs rows ++ new_queue a common ∷ []) none-shared)
      where
        shared : (c : Bool) → (c ≡ true → common_home a.path (heads rows) ≡ None) → (c && has_common a.path (queues_of (heads rows) rows)) ≡ false
        shared false n = refl
        shared true n = no-common (heads rows) a.path rows (λ i d g. common-queue (heads rows) a.path d i (get-heads rows i d g) ∙ false-unless _ (λ both.
            let parts = part-true _ _ both in
            common-not a.path (heads rows) (n refl) i (head_of d) (get-heads rows i d g) parts.0 (sym (same_path-equal _ _ parts.1))))

    own-head : (common : Bool) → (common ≡ true → common_home a.path (heads rows) ≡ None) → NewHead (heads rows) (head_of (new-row common a.ip))
    own-head common none = record {
      home = record { place = length (heads rows); owner = head_of (new-row common a.ip); there = get-cut (heads rows) (head_of (new-row common a.ip)) []; at = refl; home = refl; common = refl };
      own = λ c. refl;
      one = λ j k g ck c path. absurd (common-not a.path (heads rows) (none c) j k g ck path);
    }

    module _ (n : ℕ) (told : common_home a.path (heads rows) ≡ Some n) where
      leader : IsCommon a.path (heads rows) n
      leader = common-is a.path (heads rows) n told

      guest-home : HasHome (heads rows) (leader.head)
      guest-home = housed.homes leader.place leader.head leader.there

      owner-at : guest-home.owner.at ≡ ip_at a.path n
      owner-at = guest-home.at ∙ ip-equal _ _ leader.path leader.home

      owner-home : guest-home.owner.home ≡ n
      owner-home = guest-home.home ∙ leader.home

      owner-common : guest-home.owner.common ≡ true
      owner-common = guest-home.common ∙ leader.common

      same-bool : (p q : Bool) → (p ≡ true → q ≡ true) → (q ≡ true → p ≡ true) → p ≡ q
      same-bool true q f g = sym (f refl)
      same-bool false q f g = sym (false-unless q (λ e. let clash = g e in cc))

      guest-rule : (i : ℕ) (d : Row T) → slice_get rows i ≡ Some d → owns d ≡ true → lives_at d.at.path d.home (head_of (new-row true n)) ≡ is_common_of a.path (queue_in (heads rows) d)
      guest-rule i d g own =
          same-bool _ _
          (λ lives.
          let parts = part-true _ _ lives in
          let path = same_path-equal _ _ parts.0 in
          let at : d.at ≡ ip_at a.path n = ip-equal _ _ path (sym (nat_eq-equal _ _ own) ∙ nat_eq-equal _ _ parts.1) in
          let same = same-head (ip_at a.path n) (heads rows) (housed.once (ip_at a.path n)) guest-home.place i guest-home.owner (head_of d) guest-home.there (get-heads rows i d g) owner-at at in
          common-queue (heads rows) a.path d i (get-heads rows i d g)
          ∙ both-true _ _ (ap (λ k. k.common) (sym same) ∙ owner-common) (ap (λ q. bytes_eq a.path q) path ∙ same_path-refl a.path))
          (λ both.
          let parts = part-true _ _ (sym (common-queue (heads rows) a.path d i (get-heads rows i d g)) ∙ both) in
          let path : a.path ≡ d.at.path = same_path-equal _ _ parts.1 in
          let home : d.home ≡ n = housed.one i leader.place (head_of d) leader.head (get-heads rows i d g) leader.there parts.0 leader.common (sym path ∙ sym leader.path) ∙ leader.home in
          both-true _ _ (ap (λ q. bytes_eq q a.path) (sym path) ∙ same_path-refl a.path) (ap (λ m. nat_eq m n) home ∙ nat_eq-refl n))

      guest-queues : queues_of (heads (rows ++ new-row true n ∷ [])) (rows ++ new-row true n ∷ []) ≡ declared a true (queues_of (heads rows) rows)
      guest-queues =
          let hs = heads rows in
          let r = new-row true n in
          let h = head_of r in
          let d = get-row rows guest-home.place guest-home.owner guest-home.there in
          let at-d : d.0.at ≡ ip_at a.path n = ap (λ k. k.at) d.2 ∙ owner-at in
          let home-d : d.0.home ≡ n = ap (λ k. k.home) d.2 ∙ owner-home in
          let own-d : owns d.0 ≡ true = ap (λ m. nat_eq d.0.home m) (ap (λ b. b.ip) at-d ∙ sym home-d) ∙ nat_eq-refl d.0.home in
          let lives-d : lives_at d.0.at.path d.0.home h ≡ true =
          both-true _ _ (ap (λ b. bytes_eq b.path a.path) at-d ∙ same_path-refl a.path) (ap (λ m. nat_eq m n) home-d ∙ nat_eq-refl n) in
          let shared : has_common a.path (queues_of hs rows) ≡ true = some-common hs a.path rows guest-home.place d.0 d.1 own-d (sym (guest-rule guest-home.place d.0 d.1 own-d) ∙ lives-d) in
          let foreign : owns r ≡ false = false-unless _ (λ own. not-at guest-home.place guest-home.owner guest-home.there (owner-at ∙ ip-equal _ _ refl (nat_eq-equal _ _ own))) in
          ap (λ l. queues_of l (rows ++ r ∷ [])) (heads-new r)
          ∙ queues_of-append (hs ++ h ∷ []) rows (r ∷ [])
          ∙ ap (λ b. queues_of (hs ++ h ∷ []) rows ++ (if b then queue_in (hs ++ h ∷ []) r ∷ [] else [])) foreign
          ∙ append-nil (queues_of (hs ++ h ∷ []) rows)
          ∙ joined-all hs h rows guest-rule
          ∙ sym (ap (λ b. if b then each (λ q. if is_common_of a.path q then joined a q else q) (queues_of hs rows) else queues_of hs rows ++ new_queue a true ∷ []) shared)

      guest-head : NewHead (heads rows) (head_of (new-row true n))
      guest-head = record {
        home = record {
          place = guest-home.place;
          owner = guest-home.owner;
          there = get-append (heads rows) (head_of (new-row true n) ∷ []) guest-home.place guest-home.owner guest-home.there;
          at = owner-at;
          home = owner-home;
          common = owner-common;
        };
        own = λ c. absurd (cc);
        one = λ j k g ck c path. housed.one j leader.place k leader.head g leader.there ck leader.common (path ∙ sym leader.path) ∙ leader.home;
      }

    pub declared-all : (common : Bool) (o : Option ℕ) → (common ≡ true → o ≡ common_home a.path (heads rows)) → (common ≡ false → o ≡ None)
        → (queues_of (heads (rows ++ new-row common (unwrap_or o a.ip) ∷ [])) (rows ++ new-row common (unwrap_or o a.ip) ∷ []) ≡ declared a common (queues_of (heads rows) rows))
        × NewHead (heads rows) (head_of (new-row common (unwrap_or o a.ip)))
    declared-all true None f g = (own-queues true (λ c. sym (f refl)), own-head true (λ c. sym (f refl)))
    declared-all true (Some n) f g = (guest-queues n (sym (f refl)), guest-head n (sym (f refl)))
    declared-all false None f g = (own-queues false (λ c. absurd (cc)), own-head false (λ c. absurd (cc)))
    declared-all false (Some n) f g = let clash = g refl in absurd (cc)

    known-more : (hs : List Head) (h : Head) (p : Path) (m : ℕ) (xs : List (ℕ × T)) → AllKnown hs p m xs → AllKnown (hs ++ h ∷ []) p m xs
    known-more hs h p m [] all = tt
    known-more hs h p m (x ∷ xs) all =
        (ap (among (ip_at p x.0)) (ips_in-push hs h p m) ∙ among-more (ip_at p x.0) (ips_in hs p m) (if lives_at p m h then h.at ∷ [] else []) all.0, known-more hs h p m xs all.1)

    filed-more : (hs : List Head) (h : Head) (ds : List (Row T)) → AllFiled hs ds → (r : Row T) → r.items ≡ [] → AllFiled (hs ++ h ∷ []) (ds ++ r ∷ [])
    filed-more hs h [] all r none = (record { guest = λ own. none; known = subst (AllKnown (hs ++ h ∷ []) r.at.path r.home) (sym none) tt }, tt)
    filed-more hs h (d ∷ ds) all r none =
        (record { guest = all.0.guest; known = known-more hs h d.at.path d.home d.items all.0.known }, filed-more hs h ds all.1 r none)

    pub declared-kept : (common : Bool) (m : ℕ) (k l : ℕ) → NewHead (heads rows) (head_of (new-row common m)) → AllFiled (heads rows) rows → AllBelow k (heads rows) → k ≤ l → a.ip < l
        → Housed (heads (rows ++ new-row common m ∷ [])) × AllFiled (heads (rows ++ new-row common m ∷ [])) (rows ++ new-row common m ∷ []) × AllBelow l (heads (rows ++ new-row common m ∷ []))
    declared-kept common m k l new filed below le lt =
        let r = new-row common m in (
          subst Housed (sym (heads-new r)) (housed-push (heads rows) (head_of r) housed heads-fresh new),
          subst (λ h. AllFiled h (rows ++ r ∷ [])) (sym (heads-new r)) (filed-more (heads rows) (head_of r) rows filed r refl),
          subst (AllBelow l) (sym (heads-new r)) (below-push k l (heads rows) (head_of r) below le lt),
        )

-- ---- the search for a common queue by the numbers of an instance

below-at : (n : ℕ) (hs : List Head) (j : ℕ) (k : Head) → AllBelow n hs → slice_get hs j ≡ Some k → k.at.ip < n
below-at n [] j k all g = absurd (cc)
below-at n (h ∷ hs) zero k all g = subst (λ x. x.at.ip < n) (same_Some h k g) all.0
below-at n (h ∷ hs) (suc j) k all g = below-at n hs j k all.1 g

-- no interaction point of the instance that has a smaller number has a common queue
abbrev pub NoneSmaller : List Head → Path → ℕ → Type 0
NoneSmaller hs p n = (j : ℕ) (k : Head) → slice_get hs j ≡ Some k → k.common ≡ true → k.at.path ≡ p → k.at.ip < n → ⊥

pub none-common : (hs : List Head) (p : Path) (n m : ℕ) → NoneSmaller hs p m → AllBelow n hs → n ≤ m → common_home p hs ≡ None
none-common hs p n m none below le = common-none p hs (λ j k g c e. none j k g c e (omega (arith, le, below-at n hs j k below g)))

module _ {T : Type 0} (rows : List (Row T)) (p : Path) (n : ℕ) (housed : Housed (heads rows)) where
  pub common-found : (i m : ℕ) (b : Bool) → option_map (is_row_of (ip_at p n)) (slice_get rows i) ≡ Some true → option_map (λ d. d.common) (slice_get rows i) ≡ Some b → b ≡ true
      → option_map (λ d. d.home) (slice_get rows i) ≡ Some m → common_home p (heads rows) ≡ Some m
  common-found i m b found told is-so home =
      let f = row-of (slice_get rows i) (ip_at p n) found in
      let d = f.0 in
      let there = get-heads rows i d f.1 in
      let common : d.common ≡ true = same_Some d.common b (sym (ap (option_map (λ e. e.common)) f.1) ∙ told) ∙ is-so in
      let home-is : d.home ≡ m = same_Some d.home m (sym (ap (option_map (λ e. e.home)) f.1) ∙ home) in
      let path : d.at.path ≡ p = ap (λ a. a.path) f.2 in
      common-some p (heads rows) m (λ j k g c e. housed.one j i k (head_of d) g there c common (e ∙ sym path) ∙ home-is) i (head_of d) there common path

  later : ((k : Head) (j : ℕ) → slice_get (heads rows) j ≡ Some k → k.common ≡ true → k.at ≡ ip_at p n → ⊥) → NoneSmaller (heads rows) p n → NoneSmaller (heads rows) p (n + 1)
  later here older j k g c e lt =
      elim (cases_eq k.at.ip n) [
        | inl same ↦ here k j g c (ip-equal _ _ e same)
        | inr ne ↦ older j k g c e (omega (arith, lt, ne))
      ]

  pub not-common : (i : ℕ) (b : Bool) → option_map (is_row_of (ip_at p n)) (slice_get rows i) ≡ Some true → option_map (λ d. d.common) (slice_get rows i) ≡ Some b → b ≡ false
      → NoneSmaller (heads rows) p n → NoneSmaller (heads rows) p (n + 1)
  not-common i b found told absent = later (λ k j g c at.
      let f = row-of (slice_get rows i) (ip_at p n) found in
      let d = f.0 in
      let same = same-head (ip_at p n) (heads rows) (housed.once (ip_at p n)) j i k (head_of d) g (get-heads rows i d f.1) at f.2 in
      let common : d.common ≡ false = same_Some d.common b (sym (ap (option_map (λ e. e.common)) f.1) ∙ told) ∙ absent in
      let clash : true ≡ false = sym c ∙ ap (λ x. x.common) same ∙ common in
      cc)

  pub not-declared : count_by (is_row_of (ip_at p n)) rows ≡ 0 → NoneSmaller (heads rows) p n → NoneSmaller (heads rows) p (n + 1)
  not-declared none = later (λ k j g c at. omega (arith, none, counted-at (ip_at p n) (heads rows) j k g at, count-heads (ip_at p n) rows))
