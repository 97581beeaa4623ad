-- Three folds over types that contain each other, whose layers keep a relation, are related at each node.
use Rattle.std.proofs.Common.{◌≡◌, ◌∙◌, sym, ap, subst}
use Rattle.estelle_tree.proofs.Folds.{Group}

-- three that are related
pub record Triple (A B C : Type 0) (R : A → B → C → Type 0) : Type 0 where
  pub left : A
  pub right : B
  pub third : C
  pub holds : R left right third

related_at : {A B C : Type 0} (R : A → B → C → Type 0) (a x : A) (b y : B) (c z : C) → a ≡ x → b ≡ y → c ≡ z → R x y z → R a b c
related_at R a x b y c z e f g r = subst (λ u. R u b c) (sym e) (subst (λ u. R x u c) (sym f) (subst (λ u. R x y u) (sym g) r))

module _ (G : Group) (A B C : G.Kind → Type 0) (a : (k : G.Kind) → G.Layer k A → A k) (b : (k : G.Kind) → G.Layer k B → B k) (c : (k : G.Kind) → G.Layer k C → C k) (R : (k : G.Kind) → A k → B k → C k → Type 0) where
  abbrev pub Triples : G.Kind → Type 0
  Triples k = Triple (A k) (B k) (C k) (R k)

  -- what a layer of triples gives is related
  abbrev pub KeepsAt : (k : G.Kind) → G.Layer k Triples → Type 0
  KeepsAt k l = R k (a k (G.mapped Triples A (λ k p. p.left) k l)) (b k (G.mapped Triples B (λ k p. p.right) k l)) (c k (G.mapped Triples C (λ k p. p.third) k l))

  abbrev Holds : (k : G.Kind) → G.Tree k → Type 0
  Holds k x = R k (G.folded A a k x) (G.folded B b k x) (G.folded C c k x)

  abbrev Shown : G.Kind → Type 0
  Shown k = (x : G.Tree k) × Holds k x

  abbrev tied : (k : G.Kind) → Shown k → Triples k
  tied k e = record { left = G.folded A a k e.0; right = G.folded B b k e.0; third = G.folded C c k e.0; holds = e.1 }

  left_is : (k : G.Kind) (l : G.Layer k Shown) → G.folded A a k (G.roll k (G.mapped Shown G.Tree (λ k e. e.0) k l)) ≡ a k (G.mapped Triples A (λ k p. p.left) k (G.mapped Shown Triples tied k l))
  left_is k l = G.made A a k (G.mapped Shown G.Tree (λ k e. e.0) k l) ∙ ap (a k) (G.twice Shown G.Tree A (λ k e. e.0) (G.folded A a) k l ∙ sym (G.twice Shown Triples A tied (λ k p. p.left) k l))

  right_is : (k : G.Kind) (l : G.Layer k Shown) → G.folded B b k (G.roll k (G.mapped Shown G.Tree (λ k e. e.0) k l)) ≡ b k (G.mapped Triples B (λ k p. p.right) k (G.mapped Shown Triples tied k l))
  right_is k l = G.made B b k (G.mapped Shown G.Tree (λ k e. e.0) k l) ∙ ap (b k) (G.twice Shown G.Tree B (λ k e. e.0) (G.folded B b) k l ∙ sym (G.twice Shown Triples B tied (λ k p. p.right) k l))

  third_is : (k : G.Kind) (l : G.Layer k Shown) → G.folded C c k (G.roll k (G.mapped Shown G.Tree (λ k e. e.0) k l)) ≡ c k (G.mapped Triples C (λ k p. p.third) k (G.mapped Shown Triples tied k l))
  third_is k l = G.made C c k (G.mapped Shown G.Tree (λ k e. e.0) k l) ∙ ap (c k) (G.twice Shown G.Tree C (λ k e. e.0) (G.folded C c) k l ∙ sym (G.twice Shown Triples C tied (λ k p. p.third) k l))

  -- three folds whose layers keep a relation are related at each node
  pub folds_related : ((k : G.Kind) (l : G.Layer k Triples) → KeepsAt k l) → (k : G.Kind) (x : G.Tree k) → R k (G.folded A a k x) (G.folded B b k x) (G.folded C c k x)
  folds_related keep = G.induction Holds (λ k l. related_at (R k) _ _ _ _ _ _ (left_is k l) (right_is k l) (third_is k l) (keep k (G.mapped Shown Triples tied k l)))
