-- A step for each item of a list, from left to right.
use Rattle.std.proofs.Common.{◌≡◌, ◌∙◌, ℕ, suc, ◌+◌, ◌<◌, ◌≤◌, List, [], ◌∷◌, length, get_or, drop, refl, sym, ap, add-one, Ok, Err}
use Rattle.std.proofs.Math.ListN.{drop_of_length-le}
use Rattle.std.proofs.Math.Seq.{drop-cons}
use Rattle.estelle_model.specs.States.{Logged}
use Rattle.estelle_model.specs.Steps.{Running, Step, and_then, ◌>>=◌, pure}
use Rattle.body_values.specs.declared.stop.Stop.{Stop}
use Rattle.body_state.specs.Follows.{Leads}
use Rattle.body_walker_blocks.proofs.Followed.{follows_outcome, follows_stops}
use Rattle.body_walker_blocks.proofs.Plans.{Last, Runs}

abbrev pub chain : {A X : Type 0} → (A → X → Step Logged A) → A → List X → Step Logged A
chain f a [] = pure a
chain f a (x ∷ xs) = f a x >>= λ b. chain f b xs

-- the items that are left, from this value and state on, do what all did from those at the beginning
pub record Left {A X : Type 0} (f : A → X → Step Logged A) (xs : List X) (i : ℕ) (a : A) (s : Running Logged) (a0 : A) (s0 : Running Logged) : Type 0 where
  pub same : chain f a (drop i xs) s ≡ chain f a0 xs s0

pub next_item : {X : Type 0} (xs : List X) (i : ℕ) (x : X) → i < length xs → x ≡ get_or xs i x → drop i xs ≡ x ∷ drop (suc i) xs
next_item xs i x h at = drop-cons xs i x h ∙ ap (λ y. y ∷ drop (suc i) xs) (sym at)

module _ {A X : Type 0} {f : A → X → Step Logged A} {xs : List X} {i : ℕ} {a : A} {s : Running Logged} {a0 : A} {s0 : Running Logged} where
  -- one item more is done
  pub left_turn : {x : X} {b : A} {t : Running Logged} → Left f xs i a s a0 s0 → i < length xs → x ≡ get_or xs i x → f a x s ≡ Ok (b, t) → Left f xs (i + 1) b t a0 s0
  left_turn {x} {b} {t} before h at does = record {
    same = rw add-one (sym (ap (λ q. and_then q (λ c. chain f c (drop (suc i) xs))) does) ∙ ap (λ ys. chain f a ys s) (sym (next_item xs i x h at)) ∙ before.same);
  }

  -- an item stops
  pub left_stops : {x : X} {e : Stop} {t : Running Logged} {zs : List X} → Left f xs i a s a0 s0 → i < length xs → x ≡ get_or xs i x → xs ≡ zs → Leads (f a x) s (Err e) t → Runs (Last (chain f a0 zs)) s0 (Err e) t
  left_stops {x} {e} {t} {zs} before h at own stops = record {
    follows = follows_outcome (chain f a0 zs) s0 (Err e) t (f a x >>= λ b. chain f b (drop (suc i) xs)) s
        (ap (λ ys. chain f a0 ys s0) (sym own) ∙ sym before.same ∙ ap (λ ys. chain f a ys s) (next_item xs i x h at)) (follows_stops (f a x) (λ b. chain f b (drop (suc i) xs)) s t e stops);
  }

  -- no item is left
  pub left_ends : {zs : List X} → Left f xs i a s a0 s0 → length xs ≤ i → xs ≡ zs → Runs (Last (chain f a0 zs)) s0 (Ok a) s
  left_ends {zs} before h own = record { follows = ap (λ ys. chain f a0 ys s0) (sym own) ∙ sym before.same ∙ ap (λ ys. chain f a ys s) (drop_of_length-le xs h) }

pub left_begins : {A X : Type 0} {f : A → X → Step Logged A} {xs : List X} {a : A} {s : Running Logged} → Left f xs 0 a s a s
left_begins = record { same = refl }
