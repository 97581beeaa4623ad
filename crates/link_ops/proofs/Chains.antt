-- Points are found by their chains.
use Rattle.std.proofs.Common.{◌≡◌, ◌≢◌, ◌⊎◌, ℕ, zero, suc, ◌+◌, ◌-◌, ◌<◌, Bool, true, false, cond, List, length, get_or, set, Option, Some, None, refl, sym, ap, ◌∙◌, inl, inr, arith, add-one}
use Rattle.std.specs.Prelude.{slice_set, nat_lt}
use Rattle.std.specs.Option.{option_map}
use borrow.Author.Tests.{ltb-true}
use Rattle.std.proofs.lemmas.Bool.Decides.{nat_tests}
use Rattle.std.proofs.lemmas.Bool.{cases_eq}
use Rattle.std.proofs.lemmas.List.{get_or-set_same, get_or-set_other, length-set, get_or_read}
use Rattle.estelle_tree.specs.declared.link.IpAddr.{IpAddr}
use Rattle.estelle_tree.specs.Links.{same_ip}
use Rattle.link_ops.specs.declared.points.Node.{Node}
use Rattle.link_ops.specs.declared.points.Points.{Points}
use Rattle.slab.specs.Slab.{get}
use Rattle.link_ops.proofs.Same.{same-self, same-apart}
use Rattle.link_ops.specs.Points.{seek, seek_at, head, bucket, AreChained, AreApart, below}

-- a step of the search
pub seek-here : (nodes : ℕ → Option Node) (steps i k : ℕ) (at : Option ℕ) (n : Node) (a : IpAddr) → i < steps → at ≡ Some k → nodes k ≡ Some n → same_ip a n.ip ≡ true → seek nodes (steps - i) at a ≡ Some k
seek-here nodes steps i k at n a within is found same =
    let e : steps - i ≡ suc (steps - (i + 1)) = omega arith in
    rw (e, is, found, same) refl

pub seek-on : (nodes : ℕ → Option Node) (steps i k : ℕ) (at : Option ℕ) (n : Node) (a : IpAddr) → i < steps → at ≡ Some k → nodes k ≡ Some n → same_ip a n.ip ≡ false → seek nodes (steps - (i + 1)) n.next a ≡ seek nodes (steps - i) at a
seek-on nodes steps i k at n a within is found same =
    let e : steps - i ≡ suc (steps - (i + 1)) = omega arith in
    rw (e, is, found, same) refl

-- one more step finds what was found
more_at : (nodes : ℕ → Option Node) (m : ℕ) (a : IpAddr) (j : ℕ) (f g : Option ℕ → Option ℕ) → ((o : Option ℕ) → f o ≡ Some j → g o ≡ Some j) → (x : Option Node) → seek_at x m a f ≡ Some j → seek_at x m a g ≡ Some j
more_at nodes m a j f g on None h = absurd (cc)
more_at nodes m a j f g on (Some q) h = by (same_ip a q.ip) h
  where
    by : (b : Bool) → cond b (Some m) (f q.next) ≡ Some j → cond b (Some m) (g q.next) ≡ Some j
    by true h = h
    by false h = on q.next h

pub more : (nodes : ℕ → Option Node) (f : ℕ) (at : Option ℕ) (a : IpAddr) (j : ℕ) → seek nodes f at a ≡ Some j → seek nodes (suc f) at a ≡ Some j
more nodes zero at a j h = absurd (cc)
more nodes (suc f) None a j h = absurd (cc)
more nodes (suc f) (Some m) a j h = more_at nodes m a j (λ o. seek nodes f o a) (λ o. seek nodes (suc f) o a) (λ o. more nodes f o a j) (nodes m) h

-- a point that is put under a vacant number
module _ (nodes nodes' : ℕ → Option Node) (k : ℕ) (vacant : nodes k ≡ None) (others : (j : ℕ) → j ≢ k → nodes' j ≡ nodes j) where
  stays : (m : ℕ) (q : Node) → nodes m ≡ Some q → nodes' m ≡ Some q
  stays m q is = elim (cases_eq m k) [
    | inl e ↦ let w : nodes m ≡ None = rw e vacant in absurd (cc)
    | inr differs ↦ others m differs ∙ is
  ]

  frame_at : (m : ℕ) (a : IpAddr) (j : ℕ) (f g : Option ℕ → Option ℕ) → ((o : Option ℕ) → f o ≡ Some j → g o ≡ Some j) → (x : Option Node) → nodes m ≡ x → seek_at x m a f ≡ Some j → seek_at (nodes' m) m a g ≡ Some j
  frame_at m a j f g on None is h = absurd (cc)
  frame_at m a j f g on (Some q) is h = rw (stays m q is) (by (same_ip a q.ip) h)
    where
      by : (b : Bool) → cond b (Some m) (f q.next) ≡ Some j → cond b (Some m) (g q.next) ≡ Some j
      by true h = h
      by false h = on q.next h

  pub frame : (f : ℕ) (at : Option ℕ) (a : IpAddr) (j : ℕ) → seek nodes f at a ≡ Some j → seek nodes' f at a ≡ Some j
  frame zero at a j h = absurd (cc)
  frame (suc f) None a j h = absurd (cc)
  frame (suc f) (Some m) a j h = frame_at m a j (λ o. seek nodes f o a) (λ o. seek nodes' f o a) (λ o. frame f o a j) (nodes m) refl h

  -- and at the front of its chain
  module _ (heads : List (Option ℕ)) (n : Node) (found : nodes' k ≡ Some n) (first : n.next ≡ head heads n.ip) (within : bucket (length heads) n.ip < length heads) where
    heads' : List (Option ℕ)
    heads' = slice_set heads (bucket (length heads) n.ip) (Some k)

    own_head : head heads' n.ip ≡ Some k
    unfolding heads'
    own_head = rw length-set (get_or-set_same heads _ (Some k) None within)

    other_head : (a : IpAddr) → bucket (length heads) a ≢ bucket (length heads) n.ip → head heads' a ≡ head heads a
    unfolding heads'
    other_head a differs = rw length-set (get_or-set_other heads _ _ (Some k) None differs)

    same_head : (a : IpAddr) → bucket (length heads) a ≡ bucket (length heads) n.ip → (head heads' a ≡ Some k) × (head heads a ≡ n.next)
    unfolding heads'
    same_head a same = (rw (length-set, same) (get_or-set_same heads _ (Some k) None within), rw same (sym first))

    past_new : (steps : ℕ) (a : IpAddr) (j : ℕ) → same_ip a n.ip ≡ false → seek nodes' steps n.next a ≡ Some j → seek nodes' (suc steps) (Some k) a ≡ Some j
    past_new steps a j differs h = rw (found, differs) h

    reached : (steps : ℕ) (a : IpAddr) (j : ℕ) → same_ip a n.ip ≡ false → seek nodes steps (head heads a) a ≡ Some j → seek nodes' (suc steps) (head heads' a) a ≡ Some j
    reached steps a j differs h = elim (cases_eq (bucket (length heads) a) (bucket (length heads) n.ip)) [
      | inl same ↦ rw ((same_head a same).0) (past_new steps a j differs (frame steps n.next a j (rw ((same_head a same).1) at h)))
      | inr apart ↦ rw (other_head a apart) (more nodes' steps (head heads a) a j (frame steps (head heads a) a j h))
    ]

    own : (steps : ℕ) → seek nodes' (suc steps) (head heads' n.ip) n.ip ≡ Some k
    own steps = rw (own_head, found, same-self n.ip) refl

    pub chained-insert : (steps : ℕ) → AreChained nodes heads steps → ((j : ℕ) (m : Node) → nodes j ≡ Some m → same_ip m.ip n.ip ≡ false) → AreChained nodes' (slice_set heads (bucket (length heads) n.ip) (Some k)) (steps + 1)
    unfolding heads'
    chained-insert steps was absent j m is = elim (cases_eq j k) [
      | inl e ↦ let same : m ≡ n = cc in rw (same, e, add-one) (own steps)
      | inr differs ↦
          let old : nodes j ≡ Some m = sym (others j differs) ∙ is in
          rw add-one (reached steps m.ip j (absent j m old) (was j m old))
    ]

  -- or no point
  pub chained-keep : (heads : List (Option ℕ)) (steps : ℕ) → nodes' k ≡ None → AreChained nodes heads steps → AreChained nodes' heads (steps + 1)
  chained-keep heads steps none was j m is = elim (cases_eq j k) [
    | inl e ↦ let w : nodes' j ≡ None = rw e none in absurd (cc)
    | inr differs ↦
        let old : nodes j ≡ Some m = sym (others j differs) ∙ is in
        rw add-one (more nodes' steps (head heads m.ip) m.ip j (frame steps (head heads m.ip) m.ip j (was j m old)))
  ]

-- no two numbers have the same point
pub chained-apart : (nodes : ℕ → Option Node) (heads : List (Option ℕ)) (steps : ℕ) → AreChained nodes heads steps → (i j : ℕ) (m n : Node) → nodes i ≡ Some m → nodes j ≡ Some n → m.ip ≡ n.ip → i ≡ j
chained-apart nodes heads steps chained i j m n here there same =
    let e : seek nodes steps (head heads m.ip) m.ip ≡ Some i = chained i m here in
    let f : seek nodes steps (head heads m.ip) m.ip ≡ Some j = rw same (chained j n there) in
    cc

-- what a search does not find stands under no number
pub chained-absent : (nodes : ℕ → Option Node) (heads : List (Option ℕ)) (steps : ℕ) (a : IpAddr) → AreChained nodes heads steps → seek nodes steps (head heads a) a ≡ None → (j : ℕ) (m : Node) → nodes j ≡ Some m → same_ip m.ip a ≡ false
chained-absent nodes heads steps a chained none j m is = same-apart m.ip a (λ same. let e : seek nodes steps (head heads a) a ≡ Some j = rw (← same) (chained j m is) in absurd (cc))

-- the same, as the code writes it
pub chained-put : (nodes nodes' : ℕ → Option Node) (k : ℕ) → nodes k ≡ None → ((j : ℕ) → j ≢ k → nodes' j ≡ nodes j) → (heads : List (Option ℕ)) (n : Node) (at : ℕ) → at ≡ bucket (length heads) n.ip → nodes' k ≡ Some n → n.next ≡ get_or heads at n.next → at < length heads → (steps : ℕ) → AreChained nodes heads steps → ((j : ℕ) (m : Node) → nodes j ≡ Some m → same_ip m.ip n.ip ≡ false) → AreChained nodes' (slice_set heads at (Some k)) (steps + 1)
chained-put nodes nodes' k vacant others heads n at is found read within steps was absent =
    let first : n.next ≡ get_or heads at None = get_or_read heads at n.next within read None in
    rw is (chained-insert nodes nodes' k vacant others heads n found (rw (← is) first) (rw (← is) within) steps was absent)

module _ (p q : Points) (number : ℕ) (others : (j : ℕ) → j ≢ number → get q.nodes j ≡ get p.nodes j) where
  below-vacant : below number p number ≡ None
  below-vacant = grind (arith, nat_tests)

  below-found : below (number + 1) q number ≡ get q.nodes number
  below-found = grind (arith, nat_tests)

  below-others : (j : ℕ) → j ≢ number → below (number + 1) q j ≡ below number p j
  below-others j differs = grind (arith, nat_tests, others j differs)

  below-some : (j : ℕ) (m : Node) → below number p j ≡ Some m → (j < number) × (get p.nodes j ≡ Some m)
  below-some j m is = by (nat_lt j number) refl is
    where
      by : (b : Bool) → nat_lt j number ≡ b → cond b (get p.nodes j) None ≡ Some m → (j < number) × (get p.nodes j ≡ Some m)
      by true less here = (ltb-true _ _ less, here)
      by false more here = absurd (cc)

  pub chain-one : (n o : Node) (at steps : ℕ) → get p.nodes number ≡ Some o → get q.nodes number ≡ Some n → o.ip ≡ n.ip → at ≡ bucket (length p.heads.items) n.ip → n.next ≡ get_or p.heads.items at n.next → at < length p.heads.items → AreApart p → AreChained (below number p) p.heads.items steps → AreChained (below (number + 1) q) (slice_set p.heads.items at (Some number)) (steps + 1)
  chain-one n o at steps old new same is read within apart was =
      chained-put (below number p) (below (number + 1) q) number below-vacant below-others p.heads.items n at is (below-found ∙ new) read within steps was
      (λ j m below. same-apart m.ip n.ip (λ equal.
      let here = below-some j m below in
      let e : j ≡ number = apart j number n.ip (ap (option_map (λ (x : Node). x.ip)) here.1 ∙ ap Some equal) (ap (option_map (λ (x : Node). x.ip)) old ∙ ap Some same) in
      absurd (omega (arith, here.0, e))))

  pub chain-none : (steps : ℕ) → get q.nodes number ≡ None → AreChained (below number p) p.heads.items steps → AreChained (below (number + 1) q) p.heads.items (steps + 1)
  chain-none steps none was = chained-keep (below number p) (below (number + 1) q) number below-vacant below-others p.heads.items steps (below-found ∙ none) was
