-- A ticket is given out once.
use Rattle.std.proofs.Common.{◌≡◌, ℕ, suc, ◌+◌, List, [], ◌∷◌, ◌++◌, length, Option, Some, None, refl, sym, ap, subst, ◌∙◌, arith}
use Rattle.std.specs.List.{range_with_len, cons_option}
use Rattle.estelle_tree.specs.Paths.{Path}
use Rattle.run_history.specs.declared.entry.Entry.{Entry}
use Rattle.run_history.specs.declared.entry.What.TheVariants as what
use Rattle.run_history.specs.Tickets.{ticket_of, tickets, AreInOrder, IsTake}
use Rattle.run_history.proofs.OpenTickets.{tickets_append}

-- the place of a number among those from one on
place_is : (xs ys : List ℕ) (k a : ℕ) → xs ++ k ∷ ys ≡ range_with_len a (length (xs ++ k ∷ ys)) → k ≡ a + length xs
place_is [] ys k a is = let head : k ≡ a = cc in omega (arith, head)
place_is (x ∷ xs) ys k a is =
    let tail : xs ++ k ∷ ys ≡ range_with_len (a + 1) (length (xs ++ k ∷ ys)) = cc in
    omega (arith, place_is xs ys k (a + 1) tail)

-- so many tickets stand before a take
before_take : (es : List Entry) → AreInOrder es → (k n by : ℕ) (m : Path) (before after : List Entry) → IsTake es k m n by before after → k ≡ 1 + length (tickets before)
before_take es h k n by m before after take =
    let split : tickets es ≡ tickets before ++ k ∷ tickets after = ap tickets take.stands ∙ tickets_append before ((record { by = by; what = what.Take k m n }) ∷ after) in
    place_is (tickets before) (tickets after) k 1 (subst (λ (ks : List ℕ). ks ≡ range_with_len 1 (length ks)) split h)

same_rest : (o : Option ℕ) (xs ys : List ℕ) → length (cons_option o xs) ≡ length (cons_option o ys) → length xs ≡ length ys
same_rest None xs ys h = h
same_rest (Some k) xs ys h = omega (arith, h)

-- what is before one ticket, and behind it, where as many tickets are before another one
pub record SamePlace (before before' after after' : List Entry) : Type 0 where
  pub before_is : before ≡ before'
  pub after_is : after ≡ after'

same_place : (before before' after after' : List Entry) (x y : Entry) (k : ℕ) → ticket_of x.what ≡ Some k → ticket_of y.what ≡ Some k → before ++ x ∷ after ≡ before' ++ y ∷ after' → length (tickets before) ≡ length (tickets before') → SamePlace before before' after after'
same_place [] [] after after' x y k its other is count = record { before_is = refl; after_is = cc }
same_place [] (e ∷ es) after after' x y k its other is count =
    let head : x ≡ e = cc in
    let one : tickets (e ∷ es) ≡ k ∷ tickets es = ap (λ (o : Option ℕ). cons_option o (tickets es)) (ap (λ (z : Entry). ticket_of z.what) (sym head) ∙ its) in
    absurd (omega (arith, ap length one, count))
same_place (e ∷ es) [] after after' x y k its other is count =
    let head : e ≡ y = cc in
    let one : tickets (e ∷ es) ≡ k ∷ tickets es = ap (λ (o : Option ℕ). cons_option o (tickets es)) (ap (λ (z : Entry). ticket_of z.what) head ∙ other) in
    absurd (omega (arith, ap length one, count))
same_place (e ∷ es) (f ∷ fs) after after' x y k its other is count =
    let head : e ≡ f = cc in
    let tail : es ++ x ∷ after ≡ fs ++ y ∷ after' = cc in
    let fewer : length (tickets es) ≡ length (tickets fs) = same_rest (ticket_of e.what) (tickets es) (tickets fs) (subst (λ (z : Entry). length (cons_option (ticket_of e.what) (tickets es)) ≡ length (cons_option (ticket_of z.what) (tickets fs))) (sym head) count) in
    let same = same_place es fs after after' x y k its other tail fewer in
    record { before_is = (λ i. head i ∷ same.before_is i); after_is = same.after_is }

-- two takes under one ticket are one
pub take_once : (es : List Entry) → AreInOrder es → (k n n' by by' : ℕ) (m m' : Path) (before before' after after' : List Entry) → IsTake es k m n by before after → IsTake es k m' n' by' before' after' → SamePlace before before' after after'
take_once es h k n n' by by' m m' before before' after after' take take' =
    same_place before before' after after' (record { by = by; what = what.Take k m n }) (record { by = by'; what = what.Take k m' n' }) k refl refl (sym take.stands ∙ take'.stands)
    (omega (arith, before_take es h k n by m before after take, before_take es h k n' by' m' before' after' take'))
