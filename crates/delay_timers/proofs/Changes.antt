-- Each timer keeps its moment among the moments while timers come and go.
use Rattle.std.specs.Prelude.{cond, IfSome, nat_eq}
use Rattle.std.proofs.Common.{◌≡◌, ℕ, Bool, true, false, Some, None, refl, sym, ap, subst, ◌∙◌}
use Rattle.std.specs.Ordering.{is_eq, nat_cmp, eq_by_cmp}
use Rattle.std.specs.List.{list_any}
use Rattle.std.specs.Option.{option_map}
use Rattle.std.specs.FinMap as map
use Rattle.std.specs.BTreeMap as tree
use Rattle.std.specs.BTreeSet as sorted
use Rattle.std.specs.BTreeSet.{BTreeSet}
use Rattle.std.specs.declared.option.Option.{Option}
use Rattle.std.proofs.lemmas.Bool.{eqb-true, eq-eqb}
use Rattle.estelle_tree.specs.declared.transition.Pair.{Pair}
use Rattle.estelle_tree.specs.Timers.{pair, pair_cmp, due}
use Rattle.delay_timers.specs.declared.kept.Running.{Running}
use Rattle.delay_timers.specs.declared.kept.Due.{Due}
use Rattle.delay_timers.specs.Kept.{Rows, key_cmp, running_at, as_timer, seen, due_cmp, is_due, IsKept}
use Rattle.delay_timers.proofs.Seen.{get_seen}
use Rattle.delay_timers.proofs.Orders.{same_pair, same_number, number_itself, pairs_turned, by_parts}

-- ---- moments of pairs

place : Due → Pair
place d = pair d.path.items d.trans

same_due : (d x : Due) → is_eq (due_cmp d x) ≡ cond (is_eq (nat_cmp d.moment x.moment)) (eq_by_cmp pair_cmp (place d) (place x)) false
unfolding place
same_due d x = by_parts (nat_cmp d.moment x.moment) (pair_cmp (place d) (place x)) _ refl

tests_alike : (m n : ℕ) → is_eq (nat_cmp m n) ≡ nat_eq n m
tests_alike m n =
    elim (is_eq (nat_cmp m n)) as (λ b. is_eq (nat_cmp m n) ≡ b → b ≡ nat_eq n m) [
      | true ↦ λ e. sym (eq-eqb n m (sym (same_number m n e)))
      | false ↦ λ e. by e (nat_eq n m) refl
    ] refl
  where
    by : is_eq (nat_cmp m n) ≡ false → (b : Bool) → nat_eq n m ≡ b → false ≡ b
    by e false g = refl
    by e true g = let h = ap (λ k. is_eq (nat_cmp m k)) (eqb-true n m g) in let i = number_itself m in absurd (cc)

no_pair : (s : Bool) → cond s false false ≡ false
no_pair true = refl
no_pair false = refl

apart : (d x : Due) (k : Pair) → place d ≡ k → eq_by_cmp pair_cmp (place x) k ≡ false → is_eq (due_cmp d x) ≡ false
apart d x k at off =
    same_due d x
    ∙ ap (λ b. cond (is_eq (nat_cmp d.moment x.moment)) b false) (pairs_turned (place d) (place x) ∙ ap (eq_by_cmp pair_cmp (place x)) at ∙ off)
    ∙ no_pair (is_eq (nat_cmp d.moment x.moment))

as_it_is : (s : Bool) → cond s true false ≡ s
as_it_is true = refl
as_it_is false = refl

here : (d x : Due) (k : Pair) (m : ℕ) → place d ≡ k → d.moment ≡ m → eq_by_cmp pair_cmp (place x) k ≡ true → is_eq (due_cmp d x) ≡ nat_eq x.moment m
here d x k m at of on =
    same_due d x
    ∙ ap (λ b. cond (is_eq (nat_cmp d.moment x.moment)) b false) (pairs_turned (place d) (place x) ∙ ap (eq_by_cmp pair_cmp (place x)) at ∙ on)
    ∙ as_it_is (is_eq (nat_cmp d.moment x.moment)) ∙ tests_alike d.moment x.moment ∙ ap (nat_eq x.moment) of

gone : (s : Bool) → cond s false s ≡ false
gone true = refl
gone false = refl

-- ---- changes

pub kept_same : (old new : Rows) (dues now : BTreeSet Due) → IsKept old dues → tree.IsOrdered key_cmp new → ((q : Pair) → running_at new q ≡ running_at old q) → now.keys ≡ dues.keys → IsKept new now
kept_same old new dues now kept ordered same keys = record {
  ordered = ordered;
  own = λ q. subst (λ (o : Option Running). IfSome o (λ r. r.path.items ≡ q.path)) (sym (same q)) (kept.own q);
  told = λ x. ap (λ ks. list_any (λ k. is_eq (due_cmp x k)) ks) keys ∙ kept.told x ∙ ap (is_due x.moment) (sym (same (pair x.path.items x.trans)));
}

pub kept_put : (old new : Rows) (dues now : BTreeSet Due) (k : Pair) (r : Running) (d : Due) → IsKept old dues → tree.IsOrdered key_cmp new → ((q : Pair) → running_at new q ≡ cond (eq_by_cmp pair_cmp q k) (Some r) (running_at old q)) → running_at old k ≡ None
    → r.path.items ≡ k.path → d.moment ≡ due (as_timer r) → d.path.items ≡ k.path → d.trans ≡ k.trans → sorted.UpdatesBy due_cmp (due_cmp d) dues now true → IsKept new now
unfolding place
kept_put old new dues now k r d kept ordered put none own of path trans there = record {
  ordered = ordered;
  own = λ q. subst (λ (o : Option Running). IfSome o (λ x. x.path.items ≡ q.path)) (sym (put q)) (owned q);
  told = λ x. there.0 x ∙ ap (cond (is_eq (due_cmp d x)) true) (kept.told x) ∙ told x ∙ ap (is_due x.moment) (sym (put (pair x.path.items x.trans)));
}
  where
    at : place d ≡ k
    at i = record { path = path i; trans = trans i }

    owned : (q : Pair) → IfSome (cond (eq_by_cmp pair_cmp q k) (Some r) (running_at old q)) (λ x. x.path.items ≡ q.path)
    owned q =
        elim (eq_by_cmp pair_cmp q k) as (λ b. eq_by_cmp pair_cmp q k ≡ b → IfSome (cond b (Some r) (running_at old q)) (λ x. x.path.items ≡ q.path)) [
          | true ↦ λ e. own ∙ ap (λ (p : Pair). p.path) (sym (same_pair q k e))
          | false ↦ λ e. kept.own q
        ] refl

    told : (x : Due) → cond (is_eq (due_cmp d x)) true (is_due x.moment (running_at old (place x))) ≡ is_due x.moment (cond (eq_by_cmp pair_cmp (place x) k) (Some r) (running_at old (place x)))
    told x =
        elim (eq_by_cmp pair_cmp (place x) k) as (λ b. eq_by_cmp pair_cmp (place x) k ≡ b → cond (is_eq (due_cmp d x)) true (is_due x.moment (running_at old (place x))) ≡ is_due x.moment (cond b (Some r) (running_at old (place x)))) [
          | true ↦ λ e. ap (λ o. cond (is_eq (due_cmp d x)) true (is_due x.moment o)) (ap (running_at old) (same_pair (place x) k e) ∙ none) ∙ as_it_is (is_eq (due_cmp d x)) ∙ here d x k (due (as_timer r)) at of e
          | false ↦ λ e. ap (λ b. cond b true (is_due x.moment (running_at old (place x)))) (apart d x k at e)
        ] refl

pub kept_take : (old new : Rows) (dues now : BTreeSet Due) (k : Pair) (r : Running) (d : Due) → IsKept old dues → tree.IsOrdered key_cmp new → ((q : Pair) → running_at new q ≡ cond (eq_by_cmp pair_cmp q k) None (running_at old q)) → running_at old k ≡ Some r
    → d.moment ≡ due (as_timer r) → d.path.items ≡ k.path → d.trans ≡ k.trans → sorted.UpdatesBy due_cmp (due_cmp d) dues now false → IsKept new now
unfolding place
kept_take old new dues now k r d kept ordered taken some of path trans there = record {
  ordered = ordered;
  own = λ q. subst (λ (o : Option Running). IfSome o (λ x. x.path.items ≡ q.path)) (sym (taken q)) (owned q);
  told = λ x. there.0 x ∙ ap (cond (is_eq (due_cmp d x)) false) (kept.told x) ∙ told x ∙ ap (is_due x.moment) (sym (taken (pair x.path.items x.trans)));
}
  where
    at : place d ≡ k
    at i = record { path = path i; trans = trans i }

    owned : (q : Pair) → IfSome (cond (eq_by_cmp pair_cmp q k) None (running_at old q)) (λ x. x.path.items ≡ q.path)
    owned q =
        elim (eq_by_cmp pair_cmp q k) as (λ b. IfSome (cond b None (running_at old q)) (λ x. x.path.items ≡ q.path)) [
          | true ↦ tt
          | false ↦ kept.own q
        ]

    told : (x : Due) → cond (is_eq (due_cmp d x)) false (is_due x.moment (running_at old (place x))) ≡ is_due x.moment (cond (eq_by_cmp pair_cmp (place x) k) None (running_at old (place x)))
    told x =
        elim (eq_by_cmp pair_cmp (place x) k) as (λ b. eq_by_cmp pair_cmp (place x) k ≡ b → cond (is_eq (due_cmp d x)) false (is_due x.moment (running_at old (place x))) ≡ is_due x.moment (cond b None (running_at old (place x)))) [
          | true ↦ λ e. ap (λ o. cond (is_eq (due_cmp d x)) false (is_due x.moment o)) (ap (running_at old) (same_pair (place x) k e) ∙ some) ∙ ap (λ b. cond (is_eq (due_cmp d x)) false b) (sym (here d x k (due (as_timer r)) at of e)) ∙ gone (is_eq (due_cmp d x))
          | false ↦ λ e. ap (λ b. cond b false (is_due x.moment (running_at old (place x)))) (apart d x k at e)
        ] refl

none_of : (o : Option Running) → option_map as_timer o ≡ None → o ≡ None
none_of None e = refl
none_of (Some r) e = absurd (cc)

pub lacks : (rows : Rows) → tree.IsOrdered key_cmp rows → (k : Pair) → map.get (seen rows) k ≡ None → running_at rows k ≡ None
lacks rows ordered k e = none_of (running_at rows k) (sym (get_seen rows ordered k) ∙ e)

-- to take a timer out where there is none changes nothing
pub untouched : (old new : Rows) (k : Pair) → running_at old k ≡ None → ((q : Pair) → running_at new q ≡ cond (eq_by_cmp pair_cmp q k) None (running_at old q)) → (q : Pair) → running_at new q ≡ running_at old q
untouched old new k none taken q =
    taken q
    ∙ elim (eq_by_cmp pair_cmp q k) as (λ b. eq_by_cmp pair_cmp q k ≡ b → cond b None (running_at old q) ≡ running_at old q) [
      | true ↦ λ e. sym (ap (running_at old) (same_pair q k e) ∙ none)
      | false ↦ λ e. refl
    ] refl

-- to take out what was put in leaves what was there before
pub undone : (old mid new : Rows) (k : Pair) (r : Running) → running_at old k ≡ None → ((q : Pair) → running_at mid q ≡ cond (eq_by_cmp pair_cmp q k) (Some r) (running_at old q)) → ((q : Pair) → running_at new q ≡ cond (eq_by_cmp pair_cmp q k) None (running_at mid q))
    → (q : Pair) → running_at new q ≡ running_at old q
undone old mid new k r none put taken q =
    taken q ∙ ap (cond (eq_by_cmp pair_cmp q k) None) (put q)
    ∙ elim (eq_by_cmp pair_cmp q k) as (λ b. eq_by_cmp pair_cmp q k ≡ b → cond b None (cond b (Some r) (running_at old q)) ≡ running_at old q) [
      | true ↦ λ e. sym (ap (running_at old) (same_pair q k e) ∙ none)
      | false ↦ λ e. refl
    ] refl

pub own_path : (rows : Rows) (dues : BTreeSet Due) → IsKept rows dues → (k : Pair) (r : Running) → running_at rows k ≡ Some r → r.path.items ≡ k.path
own_path rows dues kept k r e = subst (λ (o : Option Running). IfSome o (λ x. x.path.items ≡ k.path)) e (kept.own k)
