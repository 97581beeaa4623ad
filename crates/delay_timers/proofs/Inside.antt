-- What is at and below an instance stands together in the order of paths.
use Rattle.std.proofs.Common.{◌≡◌, ℕ, Bool, true, false, ◌&&◌, [], ◌∷◌, refl, sym, ap, ◌∙◌}
use Rattle.std.specs.Ordering.{is_eq, is_le, nat_cmp, ordering_then}
use Rattle.std.specs.Cmp.{nat_cmp_total, unsigned_tied}
use Rattle.std.specs.declared.cmp.Ordering.{Ordering}
use Rattle.std.specs.declared.cmp.Ordering.TheVariants.{Less, Equal, Greater}
use Rattle.std.specs.Prelude.{nat_eq}
use Rattle.estelle_tree.specs.Paths.{Path, path_cmp, is_inside}
use Rattle.delay_timers.proofs.Orders.{same_number}

left : (a b : Bool) → (a && b) ≡ true → a ≡ true
left true b e = refl
left false b e = e

right : (a b : Bool) → (a && b) ≡ true → b ≡ true
right true b e = e
right false b e = absurd (cc)

-- an instance comes before what is below it
pub inside_after : (s x : Path) → is_inside s x ≡ true → is_le (path_cmp s x) ≡ true
inside_after [] [] e = refl
inside_after [] (n ∷ x) e = refl
inside_after (k ∷ s) [] e = absurd (cc)
inside_after (k ∷ s) (n ∷ x) e = by (inside_after s x (right (nat_eq k n) (is_inside s x) e)) (nat_cmp k n) refl
  where
    by : is_le (path_cmp s x) ≡ true → (a : Ordering) → nat_cmp k n ≡ a → is_le (ordering_then a (path_cmp s x)) ≡ true
    by rest Less h = refl
    by rest Equal h = rest
    by rest Greater h = let i = unsigned_tied k n in let j = left (nat_eq k n) (is_inside s x) e in let g = ap is_eq h in absurd (cc)

below : (k m : ℕ) (s y : Path) → nat_cmp k m ≡ Less → is_inside (k ∷ s) (m ∷ y) ≡ false
below k m s y h = ap (λ b. b && is_inside s y) (sym (unsigned_tied k m) ∙ ap is_eq h)

none : (b : Bool) → (b && false) ≡ false
none true = refl
none false = refl

unless : (a b : Bool) → a ≡ true → (a && b) ≡ false → b ≡ false
unless true b e h = h
unless false b e h = absurd (cc)

-- once past what is below it, all is past
pub past : (s x y : Path) → is_le (path_cmp s x) ≡ true → is_inside s x ≡ false → path_cmp x y ≡ Less → is_inside s y ≡ false
past [] x y le out less = absurd (cc)
past (k ∷ s) [] y le out less = absurd (cc)
past (k ∷ s) (n ∷ x) [] le out less = refl
past (k ∷ s) (n ∷ x) (m ∷ y) le out less = by (past s x y) (nat_cmp k n) (nat_cmp n m) refl refl le less
  where
    by : (is_le (path_cmp s x) ≡ true → is_inside s x ≡ false → path_cmp x y ≡ Less → is_inside s y ≡ false) → (a b : Ordering) → nat_cmp k n ≡ a → nat_cmp n m ≡ b → is_le (ordering_then a (path_cmp s x)) ≡ true → ordering_then b (path_cmp x y) ≡ Less → is_inside (k ∷ s) (m ∷ y) ≡ false
    by later Less Less g h l t = below k m s y (nat_cmp_total.trans k n m g h)
    by later Less Equal g h l t = below k m s y (ap (nat_cmp k) (sym (same_number n m (ap is_eq h))) ∙ g)
    by later Less Greater g h l t = absurd (cc)
    by later Equal Less g h l t = below k m s y (ap (λ i. nat_cmp i m) (same_number k n (ap is_eq g)) ∙ h)
    by later Equal Equal g h l t =
        let rest = later l (unless (nat_eq k n) (is_inside s x) (sym (unsigned_tied k n) ∙ ap is_eq g) out) t in
        ap (λ b. nat_eq k m && b) rest ∙ none (nat_eq k m)
    by later Equal Greater g h l t = absurd (cc)
    by later Greater b g h l t = absurd (cc)
