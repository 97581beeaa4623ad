-- How look-ups in the table's map are look-ups of rows.
use Rattle.std.proofs.Common.{◌≡◌, ◌≢◌, ℕ, zero, suc, ◌+◌, ◌-◌, ◌<◌, ◌≤◌, Bool, true, false, cond, List, [], ◌∷◌, ◌++◌, length, Option, Some, None, is_some, refl, sym, ap, ◌∙◌, inl, inr, arith, sum_by, count_by, get_or, slice_get, position}
use Rattle.std.specs.Prelude.{nat_eq, map as each, if◌then◌else◌, MatchOption, ◌&&◌, filter, not}
use Rattle.std.specs.Option.{option_map}
use Rattle.std.specs.List.{IsDistinct, AllByRecursion}
use Rattle.std.specs.Map.{keys_of, lookup}
use Rattle.std.specs.Str.{bytes_eq}
use Rattle.std.proofs.lemmas.Bool.{cases_eq}
use Rattle.std.proofs.lemmas.Bool.Decides.{nat_tests, Decides-eqb}
use Rattle.std.proofs.lemmas.Slice.Eq.{bytes_eq-Decides}
use Rattle.std.proofs.lemmas.List.Sums.{sum_by-cons, sum_by-append}
use Rattle.std.proofs.lemmas.List.Quantifiers.{position-Some}
use Rattle.estelle_tree.specs.declared.link.IpAddr.{IpAddr}
use Rattle.estelle_tree.specs.Links.{same_ip}
use Rattle.queue_store.specs.declared.table.Place.{Place}
use Rattle.queue_store.specs.Keys.{Keyed, same_key}
use Rattle.queue_store.specs.Chains.{held, slots}
use Rattle.queue_store.specs.Rows.{Row, is_row_of}
use Rattle.queue_store.specs.Table.{as_row, rows_of}

abbrev pub bit : Bool → ℕ
bit b = cond b 1 0

-- ---- interaction points

and-true : (p q : Bool) → (p && q) ≡ true → (p ≡ true) × (q ≡ true)
and-true true q h = (refl, h)
and-true false q h = absurd (cc)

pub same_ip-equal : (a b : IpAddr) → same_ip a b ≡ true → a ≡ b
same_ip-equal a b h =
    let parts = and-true _ _ h in
    let path : a.path ≡ b.path = (bytes_eq-Decides a.path b.path).0 parts.0 in
    let ip : a.ip ≡ b.ip = (Decides-eqb a.ip b.ip).0 parts.1 in
    λ i. record { path = path i; ip = ip i }

pub same_ip-refl : (a : IpAddr) → same_ip a a ≡ true
same_ip-refl a =
    let path : bytes_eq a.path a.path ≡ true = (bytes_eq-Decides a.path a.path).1 refl in
    let ip : nat_eq a.ip a.ip ≡ true = (Decides-eqb a.ip a.ip).1 refl in
    ap (λ b. b && nat_eq a.ip a.ip) path ∙ ip

module _ {T : Type 0} where
  pub count-cons : (p : Row T → Bool) (d : Row T) (ds : List (Row T)) → count_by p (d ∷ ds) ≡ cond (p d) 1 0 + count_by p ds
  count-cons p d ds = sum_by-cons (λ e. cond (p e) 1 0) d ds

  pub count-append : (p : Row T → Bool) (ds es : List (Row T)) → count_by p (ds ++ es) ≡ count_by p ds + count_by p es
  count-append p ds es = sum_by-append (λ e. cond (p e) 1 0) ds es

  module _ (load : ℕ → Option (ℕ × T)) (next : ℕ → ℕ) where
    none-count : (a : IpAddr) (es : List (Keyed × Place)) → lookup (λ k. same_ip a k.at) es ≡ None → count_by (is_row_of a) (rows_of load next es) ≡ 0
    none-count a [] h = refl
    none-count a (e ∷ es) h = by (none-count a es) (same_ip a e.0.at) refl h
      where
        by : (lookup (λ k. same_ip a k.at) es ≡ None → count_by (is_row_of a) (rows_of load next es) ≡ 0) → (b : Bool) → same_ip a e.0.at ≡ b → cond b (Some e.1) (lookup (λ k. same_ip a k.at) es) ≡ None → count_by (is_row_of a) (rows_of load next (e ∷ es)) ≡ 0
        by rest true p q = absurd (cc)
        by rest false p q =
            count-cons (is_row_of a) (as_row e (held load (slots next e.1.chain))) (rows_of load next es)
            ∙ ap (λ b. cond b 1 0 + count_by (is_row_of a) (rows_of load next es)) p
            ∙ omega (arith, rest q)

    pub count-none : (a : IpAddr) (es : List (Keyed × Place)) → count_by (is_row_of a) (rows_of load next es) ≡ 0 → lookup (λ k. same_ip a k.at) es ≡ None
    count-none a [] h = refl
    count-none a (e ∷ es) h = by (count-none a es) (same_ip a e.0.at) refl
      where
        counted : count_by (is_row_of a) (rows_of load next (e ∷ es)) ≡ cond (same_ip a e.0.at) 1 0 + count_by (is_row_of a) (rows_of load next es)
        counted = count-cons (is_row_of a) (as_row e (held load (slots next e.1.chain))) (rows_of load next es)

        by : (count_by (is_row_of a) (rows_of load next es) ≡ 0 → lookup (λ k. same_ip a k.at) es ≡ None) → (b : Bool) → same_ip a e.0.at ≡ b → cond (same_ip a e.0.at) (Some e.1) (lookup (λ k. same_ip a k.at) es) ≡ None
        by rest true p = let one : bit (same_ip a e.0.at) ≡ 1 = ap bit p in absurd (omega (arith, counted, h, one))
        by rest false p = let one : bit (same_ip a e.0.at) ≡ 0 = ap bit p in rw p (rest (omega (arith, counted, h, one)))

    some-row : (a : IpAddr) (es : List (Keyed × Place)) (i : ℕ) (d : Keyed) → i < length (keys_of es) → same_ip a (get_or (keys_of es) i d).at ≡ true
        → option_map (is_row_of a) (slice_get (rows_of load next es) i) ≡ Some true
    some-row a [] i d within h = absurd (omega (arith, within))
    some-row a (e ∷ es) zero d within h = ap Some h
    some-row a (e ∷ es) (suc i) d within h = some-row a es i d (omega (arith, within)) h

    pub found-of : (a : IpAddr) (es : List (Keyed × Place)) (r : Option ℕ) → r ≡ position (λ k. same_ip a k.at) (keys_of es) → is_some r ≡ is_some (lookup (λ k. same_ip a k.at) es)
        → MatchOption r (count_by (is_row_of a) (rows_of load next es) ≡ 0) (λ i. option_map (is_row_of a) (slice_get (rows_of load next es) i) ≡ Some true)
    found-of a es None p q = none-count a es (is-none _ (sym q))
      where
        is-none : {A : Type 0} (o : Option A) → is_some o ≡ false → o ≡ None
        is-none None h = refl
        is-none (Some x) h = absurd (cc)
    found-of a es (Some i) p q =
        let d : Keyed = record { at = a; kept = true } in
        let found = position-Some (λ k. same_ip a k.at) (keys_of es) i d (sym p) in
        some-row a es i d found.0 found.1

    apart : (a : IpAddr) (k : Keyed) (es : List (Keyed × Place)) → a ≡ k.at → AllByRecursion (λ y. same_key k y ≡ false) (keys_of es) → count_by (is_row_of a) (rows_of load next es) ≡ 0
    apart a k [] e h = refl
    apart a k (x ∷ es) e h =
        let no : is_row_of a (as_row x (held load (slots next x.1.chain))) ≡ false = ap (λ i. same_ip i x.0.at) e ∙ h.0 in
        count-cons (is_row_of a) (as_row x (held load (slots next x.1.chain))) (rows_of load next es)
        ∙ ap (λ b. cond b 1 0 + count_by (is_row_of a) (rows_of load next es)) no ∙ omega (arith, apart a k es e h.1)

    pub unique-of : (es : List (Keyed × Place)) → IsDistinct same_key (keys_of es) → (a : IpAddr) → count_by (is_row_of a) (rows_of load next es) ≤ 1
    unfolding IsDistinct
    unique-of [] h a = omega arith
    unique-of (e ∷ es) h a = by (unique-of es h.1 a) (same_ip a e.0.at) refl
      where
        counted : count_by (is_row_of a) (rows_of load next (e ∷ es)) ≡ cond (same_ip a e.0.at) 1 0 + count_by (is_row_of a) (rows_of load next es)
        counted = count-cons (is_row_of a) (as_row e (held load (slots next e.1.chain))) (rows_of load next es)

        by : count_by (is_row_of a) (rows_of load next es) ≤ 1 → (b : Bool) → same_ip a e.0.at ≡ b → count_by (is_row_of a) (rows_of load next (e ∷ es)) ≤ 1
        by rest true p =
            let none = apart a e.0 es (same_ip-equal a e.0.at p) h.0 in
            let one : bit (same_ip a e.0.at) ≡ 1 = ap bit p in
            omega (arith, counted, none, one)
        by rest false p =
            let one : bit (same_ip a e.0.at) ≡ 0 = ap bit p in
            omega (arith, counted, one, rest)
