-- The interaction points of a new instance, declared one after another.
use Rattle.std.proofs.Common.{◌≡◌, ◌≢◌, ℕ, zero, suc, ◌+◌, ◌<◌, ◌≤◌, Bool, true, false, List, [], ◌∷◌, ◌++◌, length, Option, Some, None, is_some, refl, sym, ap, ◌∙◌, arith}
use Rattle.std.specs.Prelude.{◌&&◌, ◌||◌, nat_eq, nat_lt, if◌then◌else◌, map as each, find, option_map, slice_get}
use Rattle.std.specs.FinMap as map
use Rattle.std.specs.Str.{bytes_eq}
use Rattle.std.proofs.lemmas.Bool.Decides.{nat_tests}
use Rattle.estelle_tree.specs.declared.link.IpAddr.{IpAddr}
use Rattle.estelle_tree.specs.Links.{same_ip}
use Rattle.estelle_tree.specs.Paths.{Path, child}
use Rattle.estelle_tree.specs.Queues.{Waiting, in_queue}
use Rattle.queue_store.specs.Queues.{Queue, among, has, is_declared, is_common_of, has_common, joined, new_queue, declared}
use Rattle.queue_store.specs.Holds.{belongs, holds}
use Rattle.queue_store.proofs.TableLaws.{same_ip-equal, same_ip-refl}
use Rattle.queue_store.proofs.HomeLaws.{false-unless, same_path-equal, same_path-refl, nat_eq-equal, nat_eq-refl}
use Rattle.estelle_model.specs.declared.image.Interaction.{Interaction}
use Rattle.estelle_model.specs.declared.meaning.InteractionPoint.{InteractionPoint}
use Rattle.estelle_model.specs.Actions.{at, count_from}
use Rattle.estelle_model.specs.Core.{Instance, Instances}
use Rattle.estelle_model.specs.Subject.{Subject, ips_of}
use Rattle.estelle_model.specs.InteractionPoints.{point_of}
use Rattle.estelle_model.specs.Queues.{common_at}
use Rattle.estelle_model.proofs.Members.{Among}
use Rattle.estelle_model.proofs.PrivateParts.{body_of, point_same}
use Rattle.effect_log.specs.Underway.{is_common_in, declared_all, AllFresh}
use Rattle.effect_log.proofs.Lists.{filter-alike, filter-nothing}
use Rattle.effect_log.proofs.Filing.{Filed, with_one, filed-declared, declared-found, among-append}
use Rattle.effect_log.proofs.Points.{discipline, created, get-new, body-created}

-- ---- what waits is where it was

module _ {T : Type 0} where
  -- a point at which nothing waits is declared
  pub holds-declared : (a : IpAddr) (c : Bool) (qs : List (Queue T)) (mail : List (Waiting T)) → ((w : Waiting T) → Among w mail → same_ip w.at a ≡ false) → holds qs mail → holds (declared a c qs) mail
  holds-declared a c qs mail none h = by (c && has_common a.path qs)
    where
      alone : in_queue (belongs (new_queue {T = T} a c)) mail ≡ []
      alone = filter-alike (λ w. same_ip w.at a || false) (λ w. false) mail (λ w m. ap (λ b. b || false) (none w m)) ∙ filter-nothing (λ w. false) mail (λ w. refl)

      last : (rs : List (Queue T)) → holds rs mail → holds (rs ++ new_queue a c ∷ []) mail
      last [] h = (sym alone, tt)
      last (r ∷ rs) h = (h.0, last rs h.1)

      no-more : (x : Bool) → (x || false) ≡ x
      no-more true = refl
      no-more false = refl

      with : (q : Queue T) → q.items ≡ in_queue (belongs q) mail → q.items ≡ in_queue (belongs (joined a q)) mail
      with q h = h ∙ sym (filter-alike (λ w. among w.at (q.ips ++ a ∷ [])) (λ w. among w.at q.ips) mail (λ w m. among-append w.at a q.ips ∙ ap (λ b. among w.at q.ips || b) (none w m) ∙ no-more (among w.at q.ips)))

      one : (b : Bool) (q : Queue T) → q.items ≡ in_queue (belongs q) mail → (if b then joined a q else q).items ≡ in_queue (belongs (if b then joined a q else q)) mail
      one true q h = with q h
      one false q h = h

      all : (rs : List (Queue T)) → holds rs mail → holds (each (λ q. if is_common_of a.path q then joined a q else q) rs) mail
      all [] h = tt
      all (r ∷ rs) h = (one (is_common_of a.path r) r h.0, all rs h.1)

      by : (x : Bool) → holds (if x then each (λ q. if is_common_of a.path q then joined a q else q) qs else qs ++ new_queue a c ∷ []) mail
      by true = all qs h
      by false = last qs h

  -- a point without a discipline is not declared
  pub not-declared : (d : IpAddr → Option Bool) (qs : List (Queue T)) → Filed d qs → (a : IpAddr) → d a ≡ None → is_declared a qs ≡ false
  not-declared d qs filed a none = declared-found a qs ∙ by (find (has a) qs) (filed.declared a ∙ none)
    where
      by : (o : Option (Queue T)) → option_map (λ (q : Queue T). q.common) o ≡ None → is_some o ≡ false
      by None e = refl
      by (Some q) e = absurd (cc)

-- ---- all points of one instance

module _ (s : Subject) (body : ℕ) (c : Path) where
  -- the points of the instance from one number on, so many, have the disciplines of the body
  abbrev pub from_on : ℕ → ℕ → (IpAddr → Option Bool) → IpAddr → Option Bool
  from_on k zero d = d
  from_on k (suc n) d = from_on (suc k) n (with_one (at c k) (is_common_in s body (at c k)) d)

  abbrev numbered : ℕ → ℕ → List IpAddr
  numbered k n = each (at c) (count_from k n)

  later : (k : ℕ) (d : IpAddr → Option Bool) (x : Bool) → ((j : ℕ) → k ≤ j → d (at c j) ≡ None) → (j : ℕ) → suc k ≤ j → with_one (at c k) x d (at c j) ≡ None
  later k d x none j le =
      ap (λ b. if b then Some x else d (at c j)) (false-unless (same_ip (at c k) (at c j)) (λ e. let same = ap (λ (y : IpAddr). y.ip) (same_ip-equal (at c k) (at c j) e) in absurd (omega (arith, le, same))))
      ∙ none j (omega (arith, le))

  pub filed-all : (n k : ℕ) (d : IpAddr → Option Bool) (qs : List (Queue Interaction)) → Filed d qs → ((j : ℕ) → k ≤ j → d (at c j) ≡ None) → AllFresh s body (numbered k n) qs × Filed (from_on k n d) (declared_all s body (numbered k n) qs)
  filed-all zero k d qs filed none = (tt, filed)
  filed-all (suc n) k d qs filed none =
      let fresh = not-declared d qs filed (at c k) (none k (omega arith)) in
      let x = is_common_in s body (at c k) in
      let rest = filed-all n (suc k) (with_one (at c k) x d) (declared (at c k) x qs) (filed-declared (at c k) x d qs filed fresh) (later k d x none) in
      ((fresh, rest.0), rest.1)

  pub holds-all : (n k : ℕ) (qs : List (Queue Interaction)) (mail : List (Waiting Interaction)) → ((w : Waiting Interaction) → Among w mail → w.at.path ≢ c) → holds qs mail → holds (declared_all s body (numbered k n) qs) mail
  holds-all zero k qs mail none h = h
  holds-all (suc n) k qs mail none h =
      holds-all n (suc k) (declared (at c k) (is_common_in s body (at c k)) qs) mail none
      (holds-declared (at c k) (is_common_in s body (at c k)) qs mail (λ w m. false-unless (same_ip w.at (at c k)) (λ e. none w m (ap (λ (x : IpAddr). x.path) (same_ip-equal w.at (at c k) e)))) h)

  -- elsewhere the disciplines are as before
  from-other : (n k : ℕ) (d : IpAddr → Option Bool) (a : IpAddr) → a.path ≢ c → from_on k n d a ≡ d a
  from-other zero k d a h = refl
  from-other (suc n) k d a h =
      from-other n (suc k) (with_one (at c k) (is_common_in s body (at c k)) d) a h
      ∙ ap (λ b. if b then Some (is_common_in s body (at c k)) else d a) (false-unless (same_ip (at c k) a) (λ e. h (ap (λ (x : IpAddr). x.path) (sym (same_ip-equal (at c k) a e)))))

  from-below : (n k : ℕ) (d : IpAddr → Option Bool) (j : ℕ) → j < k → from_on k n d (at c j) ≡ d (at c j)
  from-below zero k d j h = refl
  from-below (suc n) k d j h =
      from-below n (suc k) (with_one (at c k) (is_common_in s body (at c k)) d) j (omega (arith, h))
      ∙ ap (λ b. if b then Some (is_common_in s body (at c k)) else d (at c j)) (false-unless (same_ip (at c k) (at c j)) (λ e. let same = ap (λ (x : IpAddr). x.ip) (same_ip-equal (at c k) (at c j) e) in absurd (omega (arith, h, same))))

  pub from-own : (n k : ℕ) (d : IpAddr → Option Bool) (j : ℕ) → k ≤ j → from_on k n d (at c j) ≡ (if nat_lt j (k + n) then Some (is_common_in s body (at c j)) else d (at c j))
  from-own zero k d j le = ap (λ b. if b then Some (is_common_in s body (at c j)) else d (at c j)) (let none : nat_lt j (k + 0) ≡ false = grind (arith, nat_tests) in sym none)
  from-own (suc n) k d j le = by (nat_eq k j) refl (from-own n (suc k) (with_one (at c k) (is_common_in s body (at c k)) d) j)
    where
      by : (b : Bool) → nat_eq k j ≡ b
          → (suc k ≤ j → from_on (suc k) n (with_one (at c k) (is_common_in s body (at c k)) d) (at c j) ≡ (if nat_lt j (suc k + n) then Some (is_common_in s body (at c j)) else with_one (at c k) (is_common_in s body (at c k)) d (at c j)))
          → from_on (suc k) n (with_one (at c k) (is_common_in s body (at c k)) d) (at c j) ≡ (if nat_lt j (k + suc n) then Some (is_common_in s body (at c j)) else d (at c j))
      by true e rest =
          let same : k ≡ j = nat_eq-equal k j e in
          let within : nat_lt j (k + suc n) ≡ true = grind (arith, nat_tests) in
          from-below n (suc k) (with_one (at c k) (is_common_in s body (at c k)) d) j (omega (arith, same))
          ∙ ap (λ i. with_one (at c i) (is_common_in s body (at c i)) d (at c j)) same
          ∙ ap (λ b. if b then Some (is_common_in s body (at c j)) else d (at c j)) (same_ip-refl (at c j))
          ∙ sym (ap (λ b. if b then Some (is_common_in s body (at c j)) else d (at c j)) within)
      by false e rest =
          let other : k ≢ j = λ is. let wrong : true ≡ false = sym (nat_eq-refl j) ∙ ap (λ i. nat_eq i j) (sym is) ∙ e in cc in
          let above : suc k ≤ j = omega (arith, le, other) in
          let bound : nat_lt j (suc k + n) ≡ nat_lt j (k + suc n) = ap (nat_lt j) (let sums : suc k + n ≡ k + suc n = omega arith in sums) in
          rest above
          ∙ ap (λ b. if b then Some (is_common_in s body (at c j)) else with_one (at c k) (is_common_in s body (at c k)) d (at c j)) bound
          ∙ ap (λ o. if nat_lt j (k + suc n) then Some (is_common_in s body (at c j)) else o)
          (ap (λ b. if b then Some (is_common_in s body (at c k)) else d (at c j)) (false-unless (same_ip (at c k) (at c j)) (λ is. other (ap (λ (y : IpAddr). y.ip) (same_ip-equal (at c k) (at c j) is)))))

-- the disciplines of a list of points
common-get : (ps : List InteractionPoint) (j : ℕ) → option_map (λ (p : InteractionPoint). p.common) (slice_get ps j) ≡ (if nat_lt j (length ps) then Some (common_at (slice_get ps j)) else None)
common-get [] j = ap (λ b. if b then Some (common_at (slice_get [] j)) else None) (let none : nat_lt j 0 ≡ false = grind (arith, nat_tests) in sym none)
common-get (p ∷ ps) zero = ap (λ b. if b then Some p.common else None) (let some : nat_lt 0 (suc (length ps)) ≡ true = grind (arith, nat_tests) in sym some)
common-get (p ∷ ps) (suc j) = common-get ps j ∙ ap (λ b. if b then Some (common_at (slice_get ps j)) else None) (let same : nat_lt j (length ps) ≡ nat_lt (suc j) (suc (length ps)) = grind (arith, nat_tests) in same)

-- with all points of a new instance declared, the disciplines are those of the instances with it
pub discipline-with : (s : Subject) (x y : Instances) (c : Path) (i : Instance) → map.get x c ≡ None → map.get y c ≡ Some i → ((q : Path) → q ≢ c → body_of (map.get y q) ≡ body_of (map.get x q)) → (a : IpAddr)
    → from_on s i.body c 0 (length (ips_of s i.body)) (discipline s x) a ≡ discipline s y a
discipline-with s x y c i fresh new others a = by (bytes_eq a.path c) refl
  where
    other : a.path ≢ c → from_on s i.body c 0 (length (ips_of s i.body)) (discipline s x) a ≡ discipline s y a
    other h =
        from-other s i.body c (length (ips_of s i.body)) 0 (discipline s x) a h
        ∙ ap (option_map (λ (q : InteractionPoint). q.common)) (point_same s (map.get x a.path) (map.get y a.path) (sym (others a.path h)) a.ip)

    own : a.path ≡ c → from_on s i.body c 0 (length (ips_of s i.body)) (discipline s x) a ≡ discipline s y a
    own e =
        let here : a ≡ at c a.ip = λ j. record { path = e j; ip = a.ip } in
        let none : discipline s x (at c a.ip) ≡ None = ap (λ o. option_map (λ (q : InteractionPoint). q.common) (point_of s o a.ip)) fresh in
        let zero-plus : 0 + length (ips_of s i.body) ≡ length (ips_of s i.body) = omega arith in
        ap (from_on s i.body c 0 (length (ips_of s i.body)) (discipline s x)) here
        ∙ from-own s i.body c (length (ips_of s i.body)) 0 (discipline s x) a.ip (omega arith)
        ∙ (λ j. if nat_lt a.ip (zero-plus j) then Some (common_at (slice_get (ips_of s i.body) a.ip)) else none j)
        ∙ sym (common-get (ips_of s i.body) a.ip)
        ∙ sym (ap (λ o. option_map (λ (q : InteractionPoint). q.common) (point_of s o a.ip)) (ap (map.get y) e ∙ new))

    by : (b : Bool) → bytes_eq a.path c ≡ b → from_on s i.body c 0 (length (ips_of s i.body)) (discipline s x) a ≡ discipline s y a
    by true e = own (same_path-equal a.path c e)
    by false e = other (λ is. let wrong : true ≡ false = sym (same_path-refl c) ∙ ap (λ q. bytes_eq q c) (sym is) ∙ e in cc)

-- so it is with a new child
pub discipline-created : (s : Subject) (x : Instances) (p : Path) (k : ℕ) (i : Instance) → map.get x (child p k) ≡ None → (a : IpAddr)
    → from_on s i.body (child p k) 0 (length (ips_of s i.body)) (discipline s x) a ≡ discipline s (created x p k i) a
discipline-created s x p k i fresh = discipline-with s x (created x p k i) (child p k) i fresh (get-new x p k i) (body-created x p k i)
