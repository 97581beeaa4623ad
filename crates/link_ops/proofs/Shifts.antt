-- A link is moved to an earlier place that is empty.
use Rattle.std.proofs.Common.{◌≡◌, ◌≢◌, ◌⊎◌, ℕ, zero, suc, ◌+◌, ◌<◌, ◌≤◌, List, [], ◌∷◌, ◌++◌, length, get_or, set, take, Option, Some, None, refl, sym, ap, ◌∙◌, inl, inr, arith, add-one}
use Rattle.std.specs.Option.{option_map, unwrap_or}
use Rattle.std.specs.List.{filter_map}
use Rattle.std.proofs.lemmas.Bool.{cases_eq}
use Rattle.std.proofs.lemmas.List.{get_or-set_same, get_or-set_other, length-set}
use Rattle.link_ops.specs.declared.points.Role.{Role}
use Rattle.link_ops.specs.declared.points.Role.TheVariants as role
use Rattle.link_ops.specs.declared.points.Points.{Points}
use Rattle.link_ops.specs.declared.pairs.Pairing.{Pairing}
use Rattle.link_ops.specs.Points.{Sound, point, link_at}
use Rattle.link_ops.specs.Pairs.{Tied, IsEnd, slot, seen, ip_at, link_of}
use Rattle.link_ops.proofs.Lists.{full}
use Rattle.link_ops.proofs.Changes.{slot-cleared, end_cases, ip-same}

-- ---- lists

module _ {X Y : Type 0} (g : X → Y) where
  full-front : (xs : List (Option X)) (i : ℕ) (x : X) → get_or xs i None ≡ Some x → ((k : ℕ) → k < i → get_or xs k None ≡ None) → full g xs ≡ g x ∷ full g (set xs i None)
  full-front [] i x is gaps = absurd (cc)
  full-front (o ∷ xs) zero x is gaps = rw is refl
  full-front (o ∷ xs) (suc i) x is gaps = rw (gaps 0 (omega arith)) (full-front xs i x is (λ k less. gaps (suc k) (omega arith)))

  pub full-shift : (xs : List (Option X)) (to from : ℕ) (x : X) → get_or xs from None ≡ Some x → to < from → ((k : ℕ) → to ≤ k → k < from → get_or xs k None ≡ None) → full g (set (set xs to (Some x)) from None) ≡ full g xs
  full-shift [] to from x is less gaps = refl
  full-shift (o ∷ xs) zero zero x is less gaps = absurd (omega (arith, less))
  full-shift (o ∷ xs) zero (suc from) x is less gaps =
      rw (gaps 0 (omega arith) (omega arith)) (sym (full-front xs from x is (λ k under. gaps (suc k) (omega arith) (omega arith))))
  full-shift (o ∷ xs) (suc to) zero x is less gaps = absurd (omega (arith, less))
  full-shift (None ∷ xs) (suc to) (suc from) x is less gaps = full-shift xs to from x is (omega arith) (λ k low high. gaps (suc k) (omega arith) (omega arith))
  full-shift (Some y ∷ xs) (suc to) (suc from) x is less gaps = ap (λ ys. g y ∷ ys) (full-shift xs to from x is (omega arith) (λ k low high. gaps (suc k) (omega arith) (omega arith)))

  full-empty : (xs : List (Option X)) → ((k : ℕ) → get_or xs k None ≡ None) → full g xs ≡ []
  full-empty [] gaps = refl
  full-empty (o ∷ xs) gaps = rw (gaps 0) (full-empty xs (λ k. gaps (suc k)))

  pub full-take : (n : ℕ) (xs : List (Option X)) → ((k : ℕ) → n ≤ k → get_or xs k None ≡ None) → full g (take n xs) ≡ full g xs
  full-take zero xs gaps = sym (full-empty xs (λ k. gaps k (omega arith)))
  full-take (suc n) [] gaps = refl
  full-take (suc n) (None ∷ xs) gaps = full-take n xs (λ k low. gaps (suc k) (omega arith))
  full-take (suc n) (Some y ∷ xs) gaps = ap (λ ys. g y ∷ ys) (full-take n xs (λ k low. gaps (suc k) (omega arith)))

pub get_or-take : {X : Type 0} (n : ℕ) (xs : List (Option X)) → ((k : ℕ) → n ≤ k → get_or xs k None ≡ None) → (j : ℕ) → get_or (take n xs) j None ≡ get_or xs j None
get_or-take zero xs gaps j = sym (gaps j (omega arith))
get_or-take (suc n) [] gaps j = refl
get_or-take (suc n) (x ∷ xs) gaps zero = refl
get_or-take (suc n) (x ∷ xs) gaps (suc j) = get_or-take n xs (λ k low. gaps (suc k) (omega arith)) j

-- ---- ties

pub tied-alike : (p : Points) (pairs others : List (Option Pairing)) → ((j : ℕ) → slot others j ≡ slot pairs j) → Tied p pairs → Tied p others
tied-alike p pairs others same t =
    record {
      sound = t.sound;
      known = λ k r i is. let x = t.known k r i is in (x.0, same i ∙ x.1, x.2);
      ends = λ i x k r is end. t.ends i x k r (sym (same i) ∙ is) end;
      apart = λ i x is. t.apart i x (sym (same i) ∙ is);
      bound = t.bound;
      down = λ i x is attached. t.down i x (sym (same i) ∙ is) attached;
    }

module _ (p q : Points) (pairs : List (Option Pairing)) (t : Tied p pairs) (sound : Sound q) (points : (k : ℕ) → point q k ≡ point p k) (to from : ℕ) (x : Pairing) (here : slot pairs from ≡ Some x) (gap : slot pairs to ≡ None) (within : to < length pairs) (written : (k : ℕ) (r : Role) → IsEnd x k r → link_at q k r ≡ Some to) (others : (k : ℕ) (r : Role) → (IsEnd x k r → ⊥) → link_at q k r ≡ link_at p k r) where
  shifted : List (Option Pairing)
  shifted = set (set pairs to (Some x)) from None

  differs : to ≢ from
  differs e = let f : slot pairs to ≡ slot pairs from = ap (slot pairs) e in absurd (cc)

  at_to : slot shifted to ≡ Some x
  unfolding shifted
  at_to = get_or-set_other (set pairs to (Some x)) from to None None differs ∙ get_or-set_same pairs to (Some x) None within

  at_other : (j : ℕ) → j ≢ to → j ≢ from → slot shifted j ≡ slot pairs j
  unfolding shifted
  at_other j not_to not_from = get_or-set_other (set pairs to (Some x)) from j None None not_from ∙ get_or-set_other pairs to j (Some x) None not_to

  was_at : (j : ℕ) (y : Pairing) → slot shifted j ≡ Some y → ((j ≡ to) × (y ≡ x)) ⊎ ((j ≢ from) × (slot pairs j ≡ Some y))
  unfolding shifted
  was_at j y is = elim (cases_eq j to) [
    | inl e ↦ let f : slot shifted j ≡ Some x = rw e at_to in let g : y ≡ x = cc in inl (e, g)
    | inr not_to ↦
        let s = slot-cleared (set pairs to (Some x)) from j y is in
        inr (s.0, sym (get_or-set_other pairs to j (Some x) None not_to) ∙ s.1)
  ]

  was_known : (k : ℕ) (r : Role) (j : ℕ) → link_at q k r ≡ Some j → (i : ℕ) × (link_at p k r ≡ Some i)
  was_known k r j is = elim (end_cases x k r) [
    | inl end ↦ (from, t.ends from x k r here end)
    | inr no_end ↦ (j, sym (others k r no_end) ∙ is)
  ]

  stays_none : (k : ℕ) (r : Role) → link_at p k r ≡ None → link_at q k r ≡ None
  stays_none k r none = elim (end_cases x k r) [
    | inl end ↦ let f : link_at p k r ≡ Some from = t.ends from x k r here end in absurd (cc)
    | inr no_end ↦ others k r no_end ∙ none
  ]

  pub tied-shift : Tied q (set (set pairs to (Some x)) from None)
  unfolding shifted
  tied-shift =
      record {
        sound = sound;
        known = λ k r j is. elim (end_cases x k r) [
          | inl end ↦ let e : j ≡ to = (let w : link_at q k r ≡ Some to = written k r end in cc) in (x, rw e at_to, end)
          | inr no_end ↦
              let y = t.known k r j (sym (others k r no_end) ∙ is) in
              let not_to : j ≢ to = λ e. (let f : slot pairs j ≡ None = rw e gap in let g = y.1 in absurd (cc)) in
              let not_from : j ≢ from = λ e. (let f : y.0 ≡ x = (let g : slot pairs j ≡ slot pairs from = ap (slot pairs) e in let h = y.1 in cc) in no_end (rw (← f) y.2)) in
              (y.0, at_other j not_to not_from ∙ y.1, y.2)
        ];
        ends = λ j y k r is end. elim (was_at j y is) [
          | inl h ↦ rw h.0 (written k r (rw (← h.1) end))
          | inr h ↦
              let was : link_at p k r ≡ Some j = t.ends j y k r h.1 end in
              others k r (λ own. let f : link_at p k r ≡ Some from = t.ends from x k r here own in h.0 (let g : j ≡ from = cc in g)) ∙ was
        ];
        apart = λ j y is. elim (was_at j y is) [
          | inl h ↦ rw h.1 (t.apart from x here)
          | inr h ↦ t.apart j y h.1
        ];
        bound = λ k j is. let i = was_known k role.Joined j is in stays_none k role.Lower (t.bound k i.0 i.1);
        down = λ j y is attached. elim (was_at j y is) [
          | inl h ↦ rw (ip-same p q pairs t sound points y.first, ip-same p q pairs t sound points y.second, h.1) (t.down from x here (rw (← h.1) attached))
          | inr h ↦ rw (ip-same p q pairs t sound points y.first, ip-same p q pairs t sound points y.second) (t.down j y h.1 attached)
        ];
      }
