-- How a text grows by one part for each number.
use Rattle.std.proofs.Common.{◌≡◌, ℕ, zero, suc, ◌+◌, ◌-◌, ◌≤◌, List, ◌++◌, sym, ap, ◌∙◌, append_assoc, arith}
use Rattle.spec_maker.specs.Ring.{each}

each_more : (f : ℕ → List ℕ) (i : ℕ) → 1 ≤ i → each f (i + 1 - 1) ≡ each f (i - 1) ++ f i
each_more f zero some = absurd (omega arith)
each_more f (suc i) some =
    let up : suc i + 1 - 1 ≡ suc i = omega arith in
    let down : suc i - 1 ≡ i = omega arith in
    ap (each f) up ∙ ap (λ m. each f m ++ f (suc i)) (sym down)

pub grown : (f : ℕ → List ℕ) (i : ℕ) (start before after : List ℕ) → 1 ≤ i → before ≡ start ++ each f (i - 1) → after ≡ before ++ f i → after ≡ start ++ each f (i + 1 - 1)
grown f i start before after some so_far now =
    now ∙ ap (λ (t : List ℕ). t ++ f i) so_far ∙ append_assoc start (each f (i - 1)) (f i) ∙ ap (λ (r : List ℕ). start ++ r) (sym (each_more f i some))
