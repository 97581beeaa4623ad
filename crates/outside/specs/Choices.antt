-- What the choosers pick.
use Rattle.std.specs.Prelude.{ℕ, ◌*◌, ◌/◌, ◌^◌}
use Rattle.rand_pcg.specs.Lcg.{Lcg, started, increment_of}
use Rattle.rand_pcg.specs.Pcg.{multiplier_64, pcg32}
use Rattle.outside.specs.declared.choosers.FirstChooser.{FirstChooser}
use Rattle.outside.specs.declared.choosers.AnyChooser.{AnyChooser}
use Rattle.outside.specs.declared.choosers.AnyChooser.TheVariants.{First, Seeded}

-- the first candidate
abbrev pub first_drawn : FirstChooser → ℕ → ℕ × FirstChooser
first_drawn chooser n = (0, chooser)

-- the generator that a seed begins
abbrev pub seeded : ℕ → Lcg
seeded seed = started 64 multiplier_64 seed (increment_of 64 0)

-- the generator's next word, of 32 bits, is scaled to the number of candidates
abbrev pub seed_drawn : Lcg → ℕ → ℕ × Lcg
seed_drawn generator n = ((pcg32 generator).0 * n / 2 ^ 32, (pcg32 generator).1)

-- as the chooser draws that it is
abbrev pub any_drawn : AnyChooser → ℕ → ℕ × AnyChooser
any_drawn (First chooser) n = ((first_drawn chooser n).0, First (first_drawn chooser n).1)
any_drawn (Seeded chooser) n = ((seed_drawn chooser n).0, Seeded (seed_drawn chooser n).1)
