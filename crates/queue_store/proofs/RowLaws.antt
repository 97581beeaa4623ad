-- What a change of one entry of the table is for its rows.
use Rattle.std.proofs.Common.{◌≡◌, ◌≢◌, subst, ℕ, zero, suc, ◌+◌, ◌-◌, ◌<◌, ◌≤◌, Bool, true, false, cond, List, [], ◌∷◌, ◌++◌, length, Option, Some, None, is_some, refl, sym, ap, ◌∙◌, inl, inr, arith, zero-add, sum_by, count_by, slice_get, drop}
use Rattle.std.specs.Prelude.{IsSome, IsOk, OnOk, Result, Ok, Err, nat_eq, map as each, if◌then◌else◌, option_and_then, filter, not}
use Rattle.std.specs.Option.{option_map, option_copied}
use Rattle.std.specs.Borrow.{Bor}
use Rattle.std.specs.Map.{keys_of, lookup}
use Rattle.std.proofs.lemmas.Option.{same_Some}
use Rattle.std.proofs.lemmas.List.{append-nil}
use Rattle.std.proofs.lemmas.List.Sums.{sum_by-cons}
use Rattle.indexmap.specs.Layout.{set_value_at}
use Rattle.estelle_tree.specs.declared.link.IpAddr.{IpAddr}
use Rattle.estelle_tree.specs.Links.{same_ip}
use Rattle.estelle_tree.specs.Paths.{Path, is_inside}
use Rattle.queue_store.specs.declared.table.Place.{Place}
use Rattle.queue_store.specs.declared.chain.Chain.{Chain}
use Rattle.queue_store.specs.declared.chain.Node.{Node}
use Rattle.queue_store.specs.Keys.{Keyed, same_key}
use Rattle.queue_store.specs.Chains.{load_of, loaded_at, with_load, held, slots, slots_from, times, times_in, Sound, AllEnd}
use Rattle.queue_store.specs.Rows.{Row, is_row_of, on_row, with_items, put_last, first_taken, lies_inside}
use Rattle.queue_store.specs.Table.{as_row, rows_of, chain_of, chains_of, AllKept}
use Rattle.queue_store.proofs.ChainLaws.{some-room, times-split, sum-split, each-split, Links, Unlinks, linked-all, linked-seen, unlinked-all, unlinked-item, unlinked-seen, last-filled, first-filled, all-filled, len-within, length-held, length-slots_from, times_in-cons, AllEnd-append}
use Rattle.queue_store.proofs.TableLaws.{count-cons, bit}

-- ---- a list, cut at an index

pub record Cut {A : Type 0} (xs : List A) (i : ℕ) (x : A) : Type 0 where
  pub front : List A
  pub back : List A
  pub is : xs ≡ front ++ x ∷ back
  pub at : length front ≡ i

pub cut : {A : Type 0} (xs : List A) (i : ℕ) (x : A) → slice_get xs i ≡ Some x → Cut xs i x
cut [] i x h = absurd (cc)
cut (y ∷ ys) zero x h = record { front = []; back = ys; is = ap (λ z. z ∷ ys) (same_Some y x h); at = refl }
cut (y ∷ ys) (suc i) x h =
    let rest = cut ys i x h in
    record { front = y ∷ rest.front; back = rest.back; is = ap (λ l. y ∷ l) rest.is; at = ap suc rest.at }

pub get-cut : {A : Type 0} (a : List A) (x : A) (b : List A) → slice_get (a ++ x ∷ b) (length a) ≡ Some x
get-cut [] x b = refl
get-cut (y ∷ a) x b = get-cut a x b

pub set-cut : {K X : Type 0} (a : List (K × X)) (k : K) (p w : X) (b : List (K × X)) → set_value_at (a ++ (k, p) ∷ b) (length a) w ≡ a ++ (k, w) ∷ b
set-cut [] k p w b = refl
set-cut (e ∷ a) k p w b = ap (λ l. e ∷ l) (set-cut a k p w b)

pub AllKept-set : (es : List (Keyed × Place)) (i : ℕ) (w : Place) → AllKept es → AllKept (set_value_at es i w)
AllKept-set [] i w h = tt
AllKept-set (e ∷ es) zero w h = h
AllKept-set (e ∷ es) (suc i) w h = (h.0, AllKept-set es i w h.1)

pub AllKept-append : (es fs : List (Keyed × Place)) → AllKept es → AllKept fs → AllKept (es ++ fs)
AllKept-append [] fs p q = q
AllKept-append (e ∷ es) fs p q = (p.0, AllKept-append es fs p.1 q)

pub entry-of : (o : Option (Keyed × Place)) (p : Place) → option_map (λ e. e.1) o ≡ Some p → (k : Keyed) × (o ≡ Some (k, p))
entry-of None p h = absurd (cc)
entry-of (Some e) p h = (e.0, ap (λ q. Some (e.0, q)) (same_Some e.1 p h))

-- what is said of an entry and its chain, at a cut and so at an index
at-index : (p : Place) (Q : List (Keyed × Place) → ℕ → Type 0) → ((a b : List (Keyed × Place)) (k : Keyed) → Q (a ++ (k, p) ∷ b) (length a))
    → (es : List (Keyed × Place)) (i : ℕ) → option_map (λ e. e.1) (slice_get es i) ≡ Some p → Q es i
at-index p Q core es i here =
    let e = entry-of (slice_get es i) p here in
    let c = cut es i (e.0, p) e.1 in
    let there : Q es (length c.front) = subst (λ l. Q l (length c.front)) (sym c.is) (core c.front c.back e.0) in
    subst (λ j. Q es j) c.at there

pub load-some : {T : Type 0} (o : Option (Node T)) → is_some (load_of o) ≡ true → IsSome o
load-some None h = absurd (cc)
load-some (Some x) h = refl

pub node-of : {T : Type 0} (o : Option (Node T)) (x : Node T) → o ≡ Some x → load_of o ≡ Some (x.ip, x.item)
node-of o x h = ap load_of h

module _ {T : Type 0} where
  pub on_row-cut : (f : Row T → Row T) (a : List (Row T)) (d : Row T) (b : List (Row T)) → on_row (length a) f (a ++ d ∷ b) ≡ a ++ f d ∷ b
  on_row-cut f [] d b = refl
  on_row-cut f (e ∷ a) d b = ap (λ l. e ∷ l) (on_row-cut f a d b)

  module _ (load : ℕ → Option (ℕ × T)) (next : ℕ → ℕ) where
    pub length-rows : (es : List (Keyed × Place)) → length (rows_of load next es) ≡ length es
    length-rows [] = refl
    length-rows (e ∷ es) = ap suc (length-rows es)

    pub get-rows : (es : List (Keyed × Place)) (i : ℕ) (k : Keyed) (p : Place) → slice_get es i ≡ Some (k, p)
        → slice_get (rows_of load next es) i ≡ Some (as_row (k, p) (held load (slots next p.chain)))
    get-rows [] i k p h = absurd (cc)
    get-rows (e ∷ es) zero k p h = ap (λ o. option_map (λ f. as_row f (held load (slots next f.1.chain))) o) h
    get-rows (e ∷ es) (suc i) k p h = get-rows es i k p h

    pub rows-split : (a : List (Keyed × Place)) (k : Keyed) (p : Place) (b : List (Keyed × Place))
        → rows_of load next (a ++ (k, p) ∷ b) ≡ rows_of load next a ++ as_row (k, p) (held load (slots next p.chain)) ∷ rows_of load next b
    rows-split a k p b = each-split (λ e. as_row e (held load (slots next e.1.chain))) a (k, p) b

    pub on_row-here : (f : Row T → Row T) (a : List (Keyed × Place)) (k : Keyed) (p : Place) (b : List (Keyed × Place))
        → on_row (length a) f (rows_of load next (a ++ (k, p) ∷ b))
        ≡ rows_of load next a ++ f (as_row (k, p) (held load (slots next p.chain))) ∷ rows_of load next b
    on_row-here f a k p b =
        ap (on_row (length a) f) (rows-split a k p b)
        ∙ ap (λ i. on_row i f (rows_of load next a ++ as_row (k, p) (held load (slots next p.chain)) ∷ rows_of load next b)) (sym (length-rows a))
        ∙ on_row-cut f (rows_of load next a) (as_row (k, p) (held load (slots next p.chain))) (rows_of load next b)

  module _ (load : ℕ → Option (ℕ × T)) (next : ℕ → ℕ) (n : ℕ) (p : Place) where
    parted : (a b : List (Keyed × Place)) (k : Keyed) → Sound load next n (chains_of (a ++ (k, p) ∷ b)) → Sound load next n (chains_of a ++ p.chain ∷ chains_of b)
    parted a b k sound = rw each-split at sound

    module _ (es : List (Keyed × Place)) (at : ℕ) (sound : Sound load next n (chains_of es)) (here : option_map (λ e. e.1) (slice_get es at) ≡ Some p) where
      pub place-last : 0 < p.chain.len → is_some (load p.chain.last) ≡ true
      place-last =
          at-index p (λ l i. Sound load next n (chains_of l) → 0 < p.chain.len → is_some (load p.chain.last) ≡ true)
          (λ a b k s. last-filled load next n (chains_of a) (chains_of b) p.chain (parted a b k s)) es at here sound

      pub place-first : 0 < p.chain.len → is_some (load p.chain.first) ≡ true
      place-first =
          at-index p (λ l i. Sound load next n (chains_of l) → 0 < p.chain.len → is_some (load p.chain.first) ≡ true)
          (λ a b k s. first-filled load next n (chains_of a) (chains_of b) p.chain (parted a b k s)) es at here sound

      pub place-len : p.chain.len ≤ n
      place-len =
          at-index p (λ l i. Sound load next n (chains_of l) → p.chain.len ≤ n)
          (λ a b k s. len-within load next n (chains_of a) (chains_of b) p.chain (parted a b k s)) es at here sound

      pub place-items : length (held load (slots next p.chain)) ≡ p.chain.len
      place-items =
          at-index p (λ l i. Sound load next n (chains_of l) → length (held load (slots next p.chain)) ≡ p.chain.len)
          (λ a b k s. length-held load (slots next p.chain) (all-filled load next n (chains_of a) (chains_of b) p.chain (parted a b k s)) ∙ length-slots_from next p.chain.len p.chain.first)
          es at here sound

    pub place-row : (es : List (Keyed × Place)) (at : ℕ) → option_map (λ e. e.1) (slice_get es at) ≡ Some p
        → (k : Keyed) × (slice_get (rows_of load next es) at ≡ Some (as_row (k, p) (held load (slots next p.chain))))
    place-row es at here =
        let e = entry-of (slice_get es at) p here in
        (e.0, get-rows load next es at e.0 p e.1)

    pub empty-row : p.chain.len ≡ 0 → (es : List (Keyed × Place)) (at : ℕ) → option_map (λ e. e.1) (slice_get es at) ≡ Some p
        → rows_of load next es ≡ on_row at first_taken (rows_of load next es)
    empty-row none es at here =
        at-index p (λ l i. rows_of load next l ≡ on_row i first_taken (rows_of load next l))
        (λ a b k.
        let nothing : held load (slots next p.chain) ≡ [] = ap (λ m. held load (slots_from next m p.chain.first)) none in
        let kept : first_taken (as_row (k, p) (held load (slots next p.chain))) ≡ as_row (k, p) (held load (slots next p.chain)) =
        ap (λ h. as_row (k, p) (drop 1 h)) nothing ∙ sym (ap (as_row (k, p)) nothing) in
        rows-split load next a k p b ∙ ap (λ d. rows_of load next a ++ d ∷ rows_of load next b) (sym kept) ∙ sym (on_row-here load next first_taken a k p b))
        es at here

    module _ (load' : ℕ → Option (ℕ × T)) (next' : ℕ → ℕ) (c : Chain) (x : ℕ × T) where
      abbrev with_chain : Place
      with_chain = record p { chain = c }

      pub appended : Links load load' next next' p.chain c x → (es : List (Keyed × Place)) (at : ℕ) → option_map (λ e. e.1) (slice_get es at) ≡ Some p → Sound load next n (chains_of es)
          → Sound load' next' (n + 1) (chains_of (set_value_at es at (record p { chain = c })))
          × (rows_of load' next' (set_value_at es at (record p { chain = c })) ≡ on_row at (put_last x.0 x.1) (rows_of load next es))
      appended step es at here sound =
          at-index p (λ l i. Sound load next n (chains_of l) → Sound load' next' (n + 1) (chains_of (set_value_at l i (record p { chain = c })))
          × (rows_of load' next' (set_value_at l i (record p { chain = c })) ≡ on_row i (put_last x.0 x.1) (rows_of load next l)))
          (λ a b k s.
          let set = set-cut a k p (record p { chain = c }) b in (
            subst (λ l. Sound load' next' (n + 1) (chains_of l)) (sym set) (linked-all chain_of as_row load load' next next' n a b (k, p) (k, record p { chain = c }) x s step),
            ap (rows_of load' next') set
                ∙ linked-seen chain_of as_row load load' next next' n a b (k, p) (k, record p { chain = c }) x s step
                ∙ sym (on_row-here load next (put_last x.0 x.1) a k p b),
          ))
          es at here sound

      pub removed : (m : ℕ) → m + 1 ≡ n → Unlinks load load' next next' p.chain c x → (es : List (Keyed × Place)) (at : ℕ) → option_map (λ e. e.1) (slice_get es at) ≡ Some p → Sound load next n (chains_of es)
          → Sound load' next' m (chains_of (set_value_at es at (record p { chain = c })))
          × (rows_of load' next' (set_value_at es at (record p { chain = c })) ≡ on_row at first_taken (rows_of load next es))
          × (option_and_then (λ d. slice_get d.items 0) (slice_get (rows_of load next es) at) ≡ Some x)
      removed m less step es at here sound =
          at-index p (λ l i. Sound load next n (chains_of l) → Sound load' next' m (chains_of (set_value_at l i (record p { chain = c })))
          × (rows_of load' next' (set_value_at l i (record p { chain = c })) ≡ on_row i first_taken (rows_of load next l))
          × (option_and_then (λ d. slice_get d.items 0) (slice_get (rows_of load next l) i) ≡ Some x))
          (λ a b k s.
          let set = set-cut a k p (record p { chain = c }) b in
          let items = unlinked-item chain_of as_row load load' next next' n m a b (k, p) (k, record p { chain = c }) x s less step in
          let kept : first_taken (as_row (k, p) (held load (slots next p.chain))) ≡ as_row (k, record p { chain = c }) (held load' (slots next' c)) =
          ap (λ h. as_row (k, p) (drop 1 h)) items in
          let row = get-rows load next (a ++ (k, p) ∷ b) (length a) k p (get-cut a (k, p) b) in (
            subst (λ l. Sound load' next' m (chains_of l)) (sym set) (unlinked-all chain_of as_row load load' next next' n m a b (k, p) (k, record p { chain = c }) x s less step),
            ap (rows_of load' next') set
                ∙ unlinked-seen chain_of as_row load load' next next' n m a b (k, p) (k, record p { chain = c }) x s less step
                ∙ ap (λ d. rows_of load next a ++ d ∷ rows_of load next b) (sym kept)
                ∙ sym (on_row-here load next first_taken a k p b),
            ap (option_and_then (λ d. slice_get d.items 0)) row ∙ ap (λ h. slice_get h 0) items,
          ))
          es at here sound

-- ---- keys, first items, sums

pub kept-at : (es : List (Keyed × Place)) (i : ℕ) (k : Keyed) (p : Place) → AllKept es → slice_get es i ≡ Some (k, p) → k.kept ≡ true
kept-at [] i k p all h = absurd (cc)
kept-at (e ∷ es) zero k p all h = ap (λ f. f.0.kept) (sym (same_Some e (k, p) h)) ∙ all.0
kept-at (e ∷ es) (suc i) k p all h = kept-at es i k p all.1 h

pub not-none : (r : Option (Bor IpAddr)) (k : Keyed) → k.kept ≡ true → option_copied r ≡ (if k.kept then Some k.at else None) → r ≡ None → ⊥
not-none r k kept told none =
    let e : None ≡ Some k.at = sym (ap option_copied none) ∙ told ∙ ap (λ b. if b then Some k.at else None) kept in
    cc

pub kept-is : (r : Option (Bor IpAddr)) (k : Keyed) (ip : Bor IpAddr) → k.kept ≡ true → option_copied r ≡ (if k.kept then Some k.at else None) → r ≡ Some ip → k.at ≡ ip.now
kept-is r k ip kept told some =
    same_Some k.at ip.now (sym (told ∙ ap (λ b. if b then Some k.at else None) kept) ∙ ap option_copied some)

module _ {X : Type 0} (load : ℕ → Option X) (next : ℕ → ℕ) where
  pub first-held : (c : Chain) (x : X) → 0 < c.len → load c.first ≡ Some x → slice_get (held load (slots next c)) 0 ≡ Some x
  first-held c x some here = by c.len some
    where
      by : (m : ℕ) → 0 < m → slice_get (held load (slots_from next m c.first)) 0 ≡ Some x
      by zero p = absurd (omega (arith, p))
      by (suc m) p = ap (λ o. slice_get (with_load o (held load (slots_from next m (next c.first)))) 0) here

module _ {T : Type 0} (load : ℕ → Option (ℕ × T)) (next : ℕ → ℕ) where
  total-of : (es : List (Keyed × Place)) → ((j : ℕ) → 0 < times_in next (chains_of es) j → is_some (load j) ≡ true)
      → sum_by (λ c. c.len) (chains_of es) ≡ sum_by (λ d. length d.items) (rows_of load next es)
  total-of [] filled = refl
  total-of (e ∷ es) filled =
      let c = e.1.chain in
      let cs = chains_of es in
      let here : length (held load (slots next c)) ≡ c.len =
      length-held load (slots next c) (λ j p. filled j (omega (arith, p, times_in-cons next c cs j))) ∙ length-slots_from next c.len c.first in
      let rest = total-of es (λ j p. filled j (omega (arith, p, times_in-cons next c cs j))) in
      omega (arith, here, rest, sum_by-cons (λ d. d.len) c cs, sum_by-cons (λ d. length d.items) (as_row e (held load (slots next c))) (rows_of load next es))

  pub total-rows : (n : ℕ) (es : List (Keyed × Place)) → Sound load next n (chains_of es) → n ≡ sum_by (λ d. length d.items) (rows_of load next es)
  total-rows n es sound = sound.all ∙ total-of es (λ j p. some-room (load j) _ (sound.once j) p)

  -- one more chain, which is empty
  pub added-sound : (n : ℕ) (es : List (Keyed × Place)) (k : Keyed) (p : Place) → p.chain.len ≡ 0 → Sound load next n (chains_of es) → Sound load next n (chains_of (es ++ (k, p) ∷ []))
  added-sound n es k p none sound =
      rw (each-split chain_of es (k, p) [])
      record {
        once = λ j.
            let nothing : times j (slots next p.chain) ≡ 0 = ap (λ m. times j (slots_from next m p.chain.first)) none in
            let total : times_in next (chains_of es) j ≤ cond (is_some (load j)) 1 0 = sound.once j in
            omega (arith, total, nothing, times-split next (chains_of es) p.chain [] j);
        ends = AllEnd-append next (chains_of es) (p.chain ∷ []) sound.ends ((λ lt. absurd (omega (arith, lt, none))), tt);
        all = omega (arith, sound.all, none, sum-split (chains_of es) p.chain []);
      }

  pub added-rows : (es : List (Keyed × Place)) (k : Keyed) (p : Place) → p.chain.len ≡ 0
      → rows_of load next (es ++ (k, p) ∷ []) ≡ rows_of load next es ++ as_row (k, p) [] ∷ []
  added-rows es k p none =
      each-split (λ e. as_row e (held load (slots next e.1.chain))) es (k, p) []
      ∙ ap (λ m. rows_of load next es ++ as_row (k, p) (held load (slots_from next m p.chain.first)) ∷ []) none

pub on-ok : {A B : Type 0} (r : Result A B) (P : Type 0) → IsOk r → OnOk r P → P
on-ok (Ok x) P is on = on
on-ok (Err x) P is on = absurd (cc)

-- ---- the count of a walk

module _ {T : Type 0} (load : ℕ → Option (ℕ × T)) (next : ℕ → ℕ) (ip : ℕ) where
  abbrev pub counted : List ℕ → ℕ
  counted ks = count_by (λ x. nat_eq x.0 ip) (held load ks)

  count-load : (o : Option (ℕ × T)) (xs : List (ℕ × T)) → count_by (λ x. nat_eq x.0 ip) (with_load o xs) ≡ bit (loaded_at ip o) + count_by (λ x. nat_eq x.0 ip) xs
  count-load None xs = sym (zero-add _)
  count-load (Some x) xs = sum_by-cons (λ y. cond (nat_eq y.0 ip) 1 0) x xs

  pub count-step : (n i slot : ℕ) → i < n → counted (slots_from next (n - i) slot) ≡ bit (loaded_at ip (load slot)) + counted (slots_from next (n - (i + 1)) (next slot))
  count-step n i slot lt =
      let less : n - i ≡ suc (n - (i + 1)) = omega arith in
      rw less (count-load (load slot) (held load (slots_from next (n - (i + 1)) (next slot))))

-- ---- rows outside of an instance

module _ {T : Type 0} (load : ℕ → Option (ℕ × T)) (next : ℕ → ℕ) (p : Path) where
  abbrev pub outside : Keyed × Place → Bool
  outside e = not (is_inside p e.0.at.path)

  pub outside-rows : (es : List (Keyed × Place)) → rows_of load next (filter outside es) ≡ filter (λ d. not (lies_inside p d)) (rows_of load next es)
  outside-rows [] = refl
  outside-rows (e ∷ es) = by (is_inside p e.0.at.path) (outside-rows es)
    where
      row : Row T
      row = as_row e (held load (slots next e.1.chain))

      by : (b : Bool) → rows_of load next (filter outside es) ≡ filter (λ d. not (lies_inside p d)) (rows_of load next es)
          → rows_of load next (cond (not b) (e ∷ filter outside es) (filter outside es))
          ≡ cond (not b) (as_row e (held load (slots next e.1.chain)) ∷ filter (λ d. not (lies_inside p d)) (rows_of load next es)) (filter (λ d. not (lies_inside p d)) (rows_of load next es))
      by true rest = rest
      by false rest = ap (λ l. as_row e (held load (slots next e.1.chain)) ∷ l) rest

  pub outside-kept : (es : List (Keyed × Place)) → AllKept es → AllKept (filter outside es)
  outside-kept [] h = tt
  outside-kept (e ∷ es) h = by (is_inside p e.0.at.path) (outside-kept es h.1)
    where
      by : (b : Bool) → AllKept (filter outside es) → AllKept (cond (not b) (e ∷ filter outside es) (filter outside es))
      by true rest = rest
      by false rest = (h.0, rest)

  outside-times : (es : List (Keyed × Place)) (k : ℕ) → times_in next (chains_of (filter outside es)) k ≤ times_in next (chains_of es) k
  outside-times [] k = omega arith
  outside-times (e ∷ es) k = by (is_inside p e.0.at.path) (outside-times es k)
    where
      by : (b : Bool) → times_in next (chains_of (filter outside es)) k ≤ times_in next (chains_of es) k
          → times_in next (chains_of (cond (not b) (e ∷ filter outside es) (filter outside es))) k ≤ times_in next (chains_of (e ∷ es)) k
      by true rest = omega (arith, rest, times_in-cons next e.1.chain (chains_of es) k)
      by false rest = omega (arith, rest, times_in-cons next e.1.chain (chains_of es) k, times_in-cons next e.1.chain (chains_of (filter outside es)) k)

  outside-ends : (es : List (Keyed × Place)) → AllEnd next (chains_of es) → AllEnd next (chains_of (filter outside es))
  outside-ends [] h = tt
  outside-ends (e ∷ es) h = by (is_inside p e.0.at.path) (outside-ends es h.1)
    where
      by : (b : Bool) → AllEnd next (chains_of (filter outside es)) → AllEnd next (chains_of (cond (not b) (e ∷ filter outside es) (filter outside es)))
      by true rest = rest
      by false rest = (h.0, rest)

  abbrev inside_items : List (Row T) → ℕ
  inside_items ds = sum_by (λ d. length d.items) (filter (lies_inside p) ds)

  outside-sum : (es : List (Keyed × Place)) → ((j : ℕ) → 0 < times_in next (chains_of es) j → is_some (load j) ≡ true) → inside_items (rows_of load next es) ≡ 0
      → sum_by (λ c. c.len) (chains_of (filter outside es)) ≡ sum_by (λ c. c.len) (chains_of es)
  outside-sum [] filled none = refl
  outside-sum (e ∷ es) filled none = by (is_inside p e.0.at.path) none (outside-sum es (λ j q. filled j (omega (arith, q, times_in-cons next e.1.chain (chains_of es) j))))
    where
      row : Row T
      row = as_row e (held load (slots next e.1.chain))

      here : length (held load (slots next e.1.chain)) ≡ e.1.chain.len
      here =
          length-held load (slots next e.1.chain) (λ j q. filled j (omega (arith, q, times_in-cons next e.1.chain (chains_of es) j)))
          ∙ length-slots_from next e.1.chain.len e.1.chain.first

      by : (b : Bool) → sum_by (λ d. length d.items) (cond b (as_row e (held load (slots next e.1.chain)) ∷ filter (lies_inside p) (rows_of load next es)) (filter (lies_inside p) (rows_of load next es))) ≡ 0
          → (inside_items (rows_of load next es) ≡ 0 → sum_by (λ c. c.len) (chains_of (filter outside es)) ≡ sum_by (λ c. c.len) (chains_of es))
          → sum_by (λ c. c.len) (chains_of (cond (not b) (e ∷ filter outside es) (filter outside es))) ≡ sum_by (λ c. c.len) (chains_of (e ∷ es))
      by true q rest =
          let split = sum_by-cons (λ d. length d.items) (as_row e (held load (slots next e.1.chain))) (filter (lies_inside p) (rows_of load next es)) in
          let later = rest (omega (arith, q, split)) in
          omega (arith, later, q, split, here, sum_by-cons (λ c. c.len) e.1.chain (chains_of es))
      by false q rest = omega (arith, rest q, sum_by-cons (λ c. c.len) e.1.chain (chains_of es), sum_by-cons (λ c. c.len) e.1.chain (chains_of (filter outside es)))

  pub outside-sound : (n : ℕ) (es : List (Keyed × Place)) → Sound load next n (chains_of es) → inside_items (rows_of load next es) ≡ 0 → Sound load next n (chains_of (filter outside es))
  outside-sound n es sound none = record {
    once = λ k. let total : times_in next (chains_of es) k ≤ cond (is_some (load k)) 1 0 = sound.once k in omega (arith, total, outside-times es k);
    ends = outside-ends es sound.ends;
    all = sound.all ∙ sym (outside-sum es (λ j q. some-room (load j) _ (sound.once j) q) none);
  }
