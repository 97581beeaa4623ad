-- A chooser that picks among the candidates has something to choose at each process and activity of a tree.
use Rattle.std.proofs.Common.{◌≡◌, ◌⊎◌, ℕ, zero, suc, ◌<◌, Bool, true, false, List, [], ◌∷◌, ◌++◌, length, Option, Some, None, refl, sym, ap, subst, cond, ◌∙◌, inl, inr, arith, nat_eq}
use Rattle.std.specs.Prelude.{ℤ, int_lt, not, slice_get, option_and_then}
use Rattle.std.specs.List.{list_any}
use Rattle.std.proofs.lemmas.Int.{ints}
use Rattle.estelle_tree.specs.declared.transition.Pair.{Pair}
use Rattle.estelle_tree.specs.Paths.{Path}
use Rattle.estelle_tree.specs.Timers.{pair}
use Rattle.std.specs.FinMap as map
use Rattle.estelle_model.specs.declared.meaning.Attribute.{Attribute}
use Rattle.estelle_model.specs.declared.meaning.Attribute.TheVariants.{Systemprocess, Systemactivity, Process, Activity}
use Rattle.estelle_model.specs.Core.{Instance}
use Rattle.estelle_model.specs.Subject.{Subject}
use Rattle.estelle_model.specs.Situation.{Situation}
use Rattle.estelle_model.specs.Attributes.{attribute, attribute_at, is_system, is_process, is_activity, IsSystem, IsActivity}
use Rattle.estelle_model.specs.Choosers.{Draw, DrawsBelow, pick, Picks}
use Rattle.estelle_model.specs.Selection.{priority, is_higher, has_priority, children}
use Rattle.estelle_model.specs.Schedule.{counted, offered, able_children, Chosen, ChosenOfEach, own, process, activity, quiet, none, more}
use Rattle.estelle_model.specs.Jobs.{IsThere}
use Rattle.estelle_model_legality.specs.Choices.{AreTree}
use Rattle.estelle_model_legality.proofs.Members.{Has, has_got, any_has, filter_has}
use Rattle.estelle_model_legality.proofs.Children.{from_below}
use Rattle.estelle_model_legality.proofs.Choosing.{IsActive, active_child, picked_child}

-- ---- priorities

not_less : (a : ℤ) → int_lt a a ≡ false
not_less a = grind (arith, ints)

less_still : (a b c : ℤ) → int_lt a b ≡ true → int_lt b c ≡ true → int_lt a c ≡ true
less_still a b c h k = grind (arith, ints)

not_higher : (a : Option ℤ) → is_higher a a ≡ false
not_higher None = refl
not_higher (Some a) = not_less a

higher_still : (a b c : Option ℤ) → is_higher a b ≡ true → is_higher b c ≡ true → is_higher a c ≡ true
higher_still None b c h k = absurd (let wrong : false ≡ true = h in cc)
higher_still (Some a) None c h k = absurd (let wrong : false ≡ true = k in cc)
higher_still (Some a) (Some b) None h k = refl
higher_still (Some a) (Some b) (Some c) h k = less_still a b c h k

-- of numbers that a test compares one is highest
module _ (h : ℕ → ℕ → Bool) (never : (n : ℕ) → h n n ≡ false) (still : (i j k : ℕ) → h i j ≡ true → h j k ≡ true → h i k ≡ true) where
  abbrev Highest : List ℕ → Type 0
  Highest xs = (n : ℕ) × (Has xs n) × ((k : ℕ) → Has xs k → h k n ≡ false)

  itself : (n k : ℕ) → n ≡ k → h k n ≡ false
  itself n k e = ap (λ i. h i n) (sym e) ∙ never n

  beyond : (x n k : ℕ) → h x n ≡ true → h k n ≡ false → h k x ≡ false
  beyond x n k e f = by (h k x) refl
    where
      by : (b : Bool) → h k x ≡ b → b ≡ false
      by true g = let wrong : true ≡ false = sym (still k x n g e) ∙ f in absurd (cc)
      by false g = refl

  one_more : (x : ℕ) (ys : List ℕ) (n : ℕ) → Has ys n → ((k : ℕ) → Has ys k → h k n ≡ false) → (b : Bool) → h x n ≡ b → Highest (x ∷ ys)
  one_more x ys n has f true e = (x, inl refl, g)
    where
      g : (k : ℕ) → (x ≡ k) ⊎ Has ys k → h k x ≡ false
      g k (inl is) = itself x k is
      g k (inr has) = beyond x n k e (f k has)
  one_more x ys n has f false e = (n, inr has, g)
    where
      g : (k : ℕ) → (x ≡ k) ⊎ Has ys k → h k n ≡ false
      g k (inl is) = ap (λ i. h i n) (sym is) ∙ e
      g k (inr has) = f k has

  pub highest : (x : ℕ) (ys : List ℕ) → Highest (x ∷ ys)
  highest x [] = (x, inl refl, g)
    where
      g : (k : ℕ) → (x ≡ k) ⊎ Has {A = ℕ} [] k → h k x ≡ false
      g k (inl is) = itself x k is
      g k (inr has) = absurd has
  highest x (y ∷ ys) = let r = highest y ys in one_more x (y ∷ ys) r.0 r.1 r.2 (h x r.0) refl

-- ---- what is offered

module _ (s : Subject) (budget : ℕ) (g : Situation) where
  -- of an instance that counts some transition some is offered
  pub some_offered : (m : Path) (x : ℕ) (ys : List ℕ) → counted s budget g m ≡ x ∷ ys → (n : ℕ) × (Has (offered s budget g m) n)
  some_offered m x ys is =
      let r = highest (has_priority s g m) (λ n. not_higher (priority s g m n)) (λ i j k e f. higher_still (priority s g m i) (priority s g m j) (priority s g m k) e f) x ys in
      let has : Has (counted s budget g m) r.0 = subst (λ ns. Has ns r.0) (sym is) r.1 in
      let none_higher : (k : ℕ) → Has (counted s budget g m) k → has_priority s g m k r.0 ≡ false = λ k h. r.2 k (subst (λ ns. Has ns k) is h) in
      (r.0, filter_has (λ n. not (list_any (λ k. has_priority s g m k n) (counted s budget g m))) (counted s budget g m) r.0 has (unless r.0 none_higher (list_any (λ k. has_priority s g m k r.0) (counted s budget g m)) refl))
    where
      unless : (n : ℕ) → ((k : ℕ) → Has (counted s budget g m) k → has_priority s g m k n ≡ false) → (b : Bool) → list_any (λ k. has_priority s g m k n) (counted s budget g m) ≡ b → not b ≡ true
      unless n none_higher true e =
          let r = any_has (λ k. has_priority s g m k n) (counted s budget g m) e in
          let wrong : true ≡ false = sym r.2 ∙ none_higher r.0 r.1 in
          absurd (cc)
      unless n none_higher false e = refl

-- ---- picks

got : {A : Type 0} (xs : List A) (i : ℕ) → i < length xs → (a : A) × (slice_get xs i ≡ Some a)
got [] i h = absurd (omega arith)
got (x ∷ xs) zero h = (x, refl)
got (x ∷ xs) (suc i) h = got xs i (omega arith)

some_length : {A : Type 0} (xs : List A) (x : A) → Has xs x → 0 < length xs
some_length [] x h = absurd h
some_length (y ∷ xs) x h = omega arith

module _ {C : Type 0} (draw : Draw C) (below : DrawsBelow draw) where
  pick_below : (c : C) (n : ℕ) → 0 < n → (pick draw c n).0 < n
  pick_below c n some = by (nat_eq n 1)
    where
      by : (b : Bool) → (cond b (0, c) (draw c n)).0 < n
      by true = some
      by false = below c n some

  picks : {A : Type 0} (c : C) (xs : List A) (x : A) → Has xs x → (a : A) × (after : C) × Picks draw c xs a after
  picks c xs x h =
      let r = got xs (pick draw c (length xs)).0 (pick_below c (length xs) (some_length xs x h)) in
      (r.0, (pick draw c (length xs)).1, record { takes = r.1; leaves = refl })

  module _ (s : Subject) (budget : ℕ) (g : Situation) where
    abbrev SomeChosen : Path → C → Type 0
    SomeChosen m c = (takes : List Pair) × (rest : C) × Chosen draw s budget g m c takes rest

    abbrev SomeOfEach : List Path → C → Type 0
    SomeOfEach ms c = (takes : List Pair) × (rest : C) × ChosenOfEach draw s budget g ms c takes rest

    each_there : (ms : List Path) → ((m : Path) → Has ms m → (c : C) → SomeChosen m c) → (c : C) → SomeOfEach ms c
    each_there [] f c = ([], c, none c)
    each_there (m ∷ ms) f c =
        let r = f m (inl refl) c in
        let q = each_there ms (λ k h. f k (inr h)) r.1 in
        (r.0 ++ q.0, q.1, more m ms c r.0 r.1 q.0 q.1 r.2 q.2)

    module _ (tree : AreTree s g.core.instances) where
      of_activity : (m : Path) (c : C) → counted s budget g m ≡ [] → IsActivity s g m → ((k : Path) → Has (children g m) k → (c : C) → SomeChosen k c) → (ks : List Path) → able_children s budget g m ≡ ks → SomeChosen m c
      of_activity m c none_here is f [] e = ([], c, quiet m c none_here is e)
      of_activity m c none_here is f (k ∷ ks) e =
          let p = picks c (able_children s budget g m) k (subst (λ qs. Has qs k) (sym e) (inl refl)) in
          let r = f p.0 (picked_child s budget g m p.0 (has_got (able_children s budget g m) (pick draw c (length (able_children s budget g m))).0 p.0 p.2.takes)).0 p.1 in
          (r.0, r.1, activity m c p.0 p.1 r.0 r.1 none_here is p.2 r.2)

      by_counted : (m : Path) (c : C) → IsActive s budget g tree m → ((k : Path) → Has (children g m) k → (c : C) → SomeChosen k c) → (ns : List ℕ) → counted s budget g m ≡ ns → SomeChosen m c
      by_counted m c active f (x ∷ ys) is =
          let n = some_offered s budget g m x ys is in
          let p = picks c (offered s budget g m) n.0 n.1 in
          (pair m p.0 ∷ [], p.1, own m c p.0 p.1 p.2)
      by_counted m c (inl is) f [] none_here = let r = each_there (children g m) f c in (r.0, r.1, process m c r.0 r.1 none_here is r.2)
      by_counted m c (inr is) f [] none_here = of_activity m c none_here is f (able_children s budget g m) refl

      pub chosen_there : (m : Path) → IsThere g.core.instances m → IsActive s budget g tree m → (c : C) → SomeChosen m c
      chosen_there = from_below s g (λ m. IsActive s budget g tree m → (c : C) → SomeChosen m c)
          (λ m there of_children active c. by_counted m c active (λ k h. of_children k h (active_child s budget g tree m k h active)) (counted s budget g m) refl)

      -- a system is there, and is a process or an activity
      active_by : (o : Option Instance) → is_system (option_and_then (λ (i : Instance). attribute s i.body) o) ≡ true → (i : Instance) × (o ≡ Some i)
      active_by None e = absurd (let wrong : false ≡ true = e in cc)
      active_by (Some i) e = (i, refl)

      kind_of : (a : Option Attribute) → is_system a ≡ true → (is_process a ≡ true) ⊎ (is_activity a ≡ true)
      kind_of None e = absurd (let wrong : false ≡ true = e in cc)
      kind_of (Some Systemprocess) e = inl refl
      kind_of (Some Systemactivity) e = inr refl
      kind_of (Some Process) e = absurd (let wrong : false ≡ true = e in cc)
      kind_of (Some Activity) e = absurd (let wrong : false ≡ true = e in cc)

      pub at_system : (m : Path) → IsSystem s g m → (c : C) → SomeChosen m c
      at_system m is c = chosen_there m (active_by (map.get g.core.instances m) is) (kind_of (attribute_at s g m) is) c
