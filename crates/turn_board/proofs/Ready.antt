-- What a pass carries, from what it shows.
use Rattle.std.proofs.Common.{◌≡◌, ℕ, eqb, eq-eqb, Bool, true, false, ◌&&◌, true≢false, List, [], ◌∷◌, refl, sym, ap, ◌∙◌, Option, Some, None}
use Rattle.std.proofs.lemmas.Bool.{eqb-true}
use Rattle.turn_board.specs.declared.views.Stage.TheVariants.{Idle, Holds}
use Rattle.turn_board.specs.declared.views.Own.{Own}
use Rattle.turn_board.specs.declared.views.Role.{Role}
use Rattle.turn_board.specs.declared.views.Role.TheVariants.{Opener, Member, Closer, Spent}
use Rattle.turn_board.specs.Rule.{is_member, own_of, carries, is_ready}
use Rattle.turn_board.specs.Steps.{Sat}
use Rattle.turn_board.proofs.Standings.{member_inj}

and_left : (a b : Bool) → (a && b) ≡ true → a ≡ true
and_left true b e = refl
and_left false b e = e

and_right : (a b : Bool) → (a && b) ≡ true → b ≡ true
and_right true b e = e
and_right false b e = absurd (true≢false (sym e))

and_both : (a b : Bool) → a ≡ true → b ≡ true → (a && b) ≡ true
and_both a b x y = (λ i. x i && y i)

off : {A : Type 0} → false ≡ true → A
off e = absurd (true≢false (sym e))

module _ {V B E : Type 0} where
  pub own_is : (k : Role V B E) (h : is_member k ≡ true) (o : Own V B E) → k ≡ Member o → own_of k h ≡ o
  own_is (Opener b m) h o e = off h
  own_is (Member p) h o e = member_inj p o e
  own_is (Closer told) h o e = off h
  own_is Spent h o e = off h

  pub member_is : (k : Role V B E) (o : Own V B E) → k ≡ Member o → is_member k ≡ true
  member_is k o e = ap is_member e

module _ {V E : Type 0} where
  holds_carried : (c : List (ℕ × Option V)) (t : ℕ) (f : List E) → carries (Holds t f) c ≡ true → c ≡ (0, None) ∷ []
  holds_carried [] t f r = off r
  holds_carried ((k, None) ∷ []) t f r = ap (λ (z : ℕ). (z, None) ∷ []) (eqb-true k 0 r)
  holds_carried ((k, Some v) ∷ xs) t f r = off r
  holds_carried ((k, None) ∷ x ∷ xs) t f r = off r

module _ {V B E : Type 0} where
  -- with no turn it carries nothing
  pub idle_is : (number : ℕ) (m : Sat V B E) (h : is_member m.0 ≡ true) → is_ready number m ≡ true → (own_of m.0 h).stage ≡ Idle → (m ≡ (Member (own_of m.0 h), [])) × ((own_of m.0 h).number ≡ number)
  idle_is number (Opener b m, c) h r e = off h
  idle_is number (Member o, []) h r e = (refl, eqb-true o.number number (and_left (eqb o.number number) _ r))
  idle_is number (Member o, x ∷ xs) h r e = off (ap (λ s. carries s (x ∷ xs)) (sym e) ∙ and_right (eqb o.number number) _ r)
  idle_is number (Closer told, c) h r e = off h
  idle_is number (Spent, c) h r e = off h

  -- in its turn it carries the slot
  pub holds_is : (number : ℕ) (m : Sat V B E) (h : is_member m.0 ≡ true) → is_ready number m ≡ true → (t : ℕ) (f : List E) → (own_of m.0 h).stage ≡ Holds t f → (m ≡ (Member (own_of m.0 h), (0, None) ∷ [])) × ((own_of m.0 h).number ≡ number)
  holds_is number (Opener b m, c) h r t f e = off h
  holds_is number (Member o, c) h r t f e =
      (ap (λ l. (Member o, l)) (holds_carried c t f (ap (λ s. carries s c) (sym e) ∙ and_right (eqb o.number number) _ r)), eqb-true o.number number (and_left (eqb o.number number) _ r))
  holds_is number (Closer told, c) h r t f e = off h
  holds_is number (Spent, c) h r t f e = off h

  pub ready_idle : (number : ℕ) (m : Sat V B E) (o : Own V B E) → m ≡ (Member o, []) → o.number ≡ number → o.stage ≡ Idle → is_ready number m ≡ true
  ready_idle number m o is same e = ap (is_ready number) is ∙ and_both (eqb o.number number) _ (eq-eqb o.number number same) (ap (λ s. carries {V = V} s []) e)

  pub ready_holds : (number : ℕ) (m : Sat V B E) (o : Own V B E) (t : ℕ) (f : List E) → m ≡ (Member o, (0, None) ∷ []) → o.number ≡ number → o.stage ≡ Holds t f → is_ready number m ≡ true
  ready_holds number m o t f is same e = ap (is_ready number) is ∙ and_both (eqb o.number number) _ (eq-eqb o.number number same) (ap (λ s. carries {V = V} s ((0, None) ∷ [])) e)
