-- Folds over types that contain each other: two whose layers keep a relation are related at each node.
use Rattle.std.proofs.Common.{◌≡◌, ◌∙◌, sym, ap, subst}

-- types that contain each other: their layers, with results in place of the nodes below, and the folds over them
pub record Group : Type 1 where
  pub Kind : Type 0
  pub Tree : Kind → Type 0
  pub Layer : Kind → (Kind → Type 0) → Type 0
  pub mapped : (A B : Kind → Type 0) → ((k : Kind) → A k → B k) → (k : Kind) → Layer k A → Layer k B
  pub roll : (k : Kind) → Layer k Tree → Tree k
  pub folded : (A : Kind → Type 0) → ((k : Kind) → Layer k A → A k) → (k : Kind) → Tree k → A k
  -- the fold of a tree that is made is the layer's result at the folds below
  pub made : (A : Kind → Type 0) (a : (k : Kind) → Layer k A → A k) (k : Kind) (l : Layer k Tree) → folded A a k (roll k l) ≡ a k (mapped Tree A (folded A a) k l)
  pub twice : (A B C : Kind → Type 0) (f : (k : Kind) → A k → B k) (g : (k : Kind) → B k → C k) (k : Kind) (l : Layer k A) → mapped B C g k (mapped A B f k l) ≡ mapped A C (λ k x. g k (f k x)) k l
  -- what each layer of nodes that have a property gives the node above, every node has
  pub induction : (Q : (k : Kind) → Tree k → Type 0) → ((k : Kind) (l : Layer k (λ k. (x : Tree k) × Q k x)) → Q k (roll k (mapped (λ k. (x : Tree k) × Q k x) Tree (λ k e. e.0) k l))) → (k : Kind) (x : Tree k) → Q k x

-- two that are related
pub record Related (A B : Type 0) (R : A → B → Type 0) : Type 0 where
  pub left : A
  pub right : B
  pub holds : R left right

related_at : {A B : Type 0} (R : A → B → Type 0) (a c : A) (b d : B) → a ≡ c → b ≡ d → R c d → R a b
related_at R a c b d e f r = subst (λ x. R x b) (sym e) (subst (λ y. R c y) (sym f) r)

module _ (G : Group) (A B : G.Kind → Type 0) (a : (k : G.Kind) → G.Layer k A → A k) (b : (k : G.Kind) → G.Layer k B → B k) (R : (k : G.Kind) → A k → B k → Type 0) where
  abbrev pub Pairs : G.Kind → Type 0
  Pairs k = Related (A k) (B k) (R k)

  -- what a layer of pairs gives on both sides is related
  abbrev pub KeepsAt : (k : G.Kind) → G.Layer k Pairs → Type 0
  KeepsAt k l = R k (a k (G.mapped Pairs A (λ k p. p.left) k l)) (b k (G.mapped Pairs B (λ k p. p.right) k l))

  abbrev Holds : (k : G.Kind) → G.Tree k → Type 0
  Holds k x = R k (G.folded A a k x) (G.folded B b k x)

  abbrev Shown : G.Kind → Type 0
  Shown k = (x : G.Tree k) × Holds k x

  abbrev tied : (k : G.Kind) → Shown k → Pairs k
  tied k e = record { left = G.folded A a k e.0; right = G.folded B b k e.0; holds = e.1 }

  left_is : (k : G.Kind) (l : G.Layer k Shown) → G.folded A a k (G.roll k (G.mapped Shown G.Tree (λ k e. e.0) k l)) ≡ a k (G.mapped Pairs A (λ k p. p.left) k (G.mapped Shown Pairs tied k l))
  left_is k l = G.made A a k (G.mapped Shown G.Tree (λ k e. e.0) k l) ∙ ap (a k) (G.twice Shown G.Tree A (λ k e. e.0) (G.folded A a) k l ∙ sym (G.twice Shown Pairs A tied (λ k p. p.left) k l))

  right_is : (k : G.Kind) (l : G.Layer k Shown) → G.folded B b k (G.roll k (G.mapped Shown G.Tree (λ k e. e.0) k l)) ≡ b k (G.mapped Pairs B (λ k p. p.right) k (G.mapped Shown Pairs tied k l))
  right_is k l = G.made B b k (G.mapped Shown G.Tree (λ k e. e.0) k l) ∙ ap (b k) (G.twice Shown G.Tree B (λ k e. e.0) (G.folded B b) k l ∙ sym (G.twice Shown Pairs B tied (λ k p. p.right) k l))

  -- two folds whose layers keep a relation are related at each node
  pub folds_related : ((k : G.Kind) (l : G.Layer k Pairs) → KeepsAt k l) → (k : G.Kind) (x : G.Tree k) → R k (G.folded A a k x) (G.folded B b k x)
  folds_related keep = G.induction Holds (λ k l. related_at (R k) _ _ _ _ (left_is k l) (right_is k l) (keep k (G.mapped Shown Pairs tied k l)))
