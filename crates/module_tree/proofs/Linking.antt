-- Facts on the links of places.
use Rattle.std.proofs.Common.{◌≡◌, ◌≢◌, ◌<◌, ℕ, zero, suc, true, false, Option, Some, None, is_some, refl, arith, true≢false}
use Rattle.std.specs.Prelude.{IsSome}
use Rattle.std.specs.Option.{option_map_or}
use Rattle.estelle_tree.specs.Paths.{Path, child}
use Rattle.module_tree.specs.Nodes.{Links, number_at, has_child, LinksOn, Linked}
use Rattle.module_tree.proofs.Latest.{latest_ge}

abbrev pub births_at : (Path → Option Links) → Path → ℕ
births_at = number_at (λ n. n.births)

abbrev pub last_at : (Path → Option Links) → Path → ℕ
last_at = number_at (λ n. n.last)

abbrev pub previous_at : (Path → Option Links) → Path → ℕ
previous_at = number_at (λ n. n.previous)

abbrev pub next_at : (Path → Option Links) → Path → ℕ
next_at = number_at (λ n. n.next)

pub some_where : (field : Links → ℕ) (f : Path → Option Links) (p : Path) → 0 < number_at field f p → IsSome (f p)
some_where field f p = by (f p)
  where
    by : (o : Option Links) → 0 < option_map_or field o 0 → IsSome o
    by None h = absurd (omega arith)
    by (Some x) h = refl

pub no_links : (field : Links → ℕ) (f : Path → Option Links) (p : Path) → is_some (f p) ≡ false → number_at field f p ≡ 0
no_links field f p = by (f p)
  where
    by : (o : Option Links) → is_some o ≡ false → option_map_or field o 0 ≡ 0
    by None h = refl
    by (Some x) h = absurd (true≢false h)

pub links_on : (f : Path → Option Links) (p : Path) (k z : ℕ) → (z ≡ 0 → last_at f p ≡ k) → (z ≢ 0 → IsSome (f (child p z))) → (z ≢ 0 → previous_at f (child p z) ≡ k) → LinksOn f p k z
links_on f p k zero a b c = a refl
links_on f p k (suc z) a b c = (b (λ e. omega arith), c (λ e. omega arith))

pub on_last : (f : Path → Option Links) (p : Path) (k z : ℕ) → LinksOn f p k z → z ≡ 0 → last_at f p ≡ k
on_last f p k zero h e = h
on_last f p k (suc z) h e = absurd (omega arith)

pub on_there : (f : Path → Option Links) (p : Path) (k z : ℕ) → LinksOn f p k z → z ≢ 0 → IsSome (f (child p z))
on_there f p k zero h e = absurd (e refl)
on_there f p k (suc z) h e = h.0

pub on_previous : (f : Path → Option Links) (p : Path) (k z : ℕ) → LinksOn f p k z → z ≢ 0 → previous_at f (child p z) ≡ k
on_previous f p k zero h e = absurd (e refl)
on_previous f p k (suc z) h e = h.1

-- an instance whose last child is none has none
pub childless : (f : Path → Option Links) (w : Path) (j : ℕ) → Linked f → last_at f w ≡ 0 → is_some (f (child w j)) ≢ true
childless f w j l none here =
    let least = l.positive w j here in
    let most = latest_ge (has_child f w) (births_at f w) j here (l.counted w j here) in
    let is = l.last w in
    omega arith
