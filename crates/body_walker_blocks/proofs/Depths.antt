-- How much is left to walk where calls nest: a call costs more than any body that a name means.
use Rattle.std.proofs.Common.{◌≡◌, ℕ, zero, suc, ◌+◌, ◌*◌, ◌-◌, ◌<◌, ◌≤◌, Bool, true, false, List, [], ◌∷◌, ap, subst, Option, Some, None, arith, cond}
use Rattle.std.specs.Prelude.{nat_eq, slice_get, option_map}
use Rattle.std.specs.Map.{lookup}
use Rattle.std.specs.Str.{bytes_eq}
use Rattle.estelle_tree.specs.declared.span.Span.{Span}
use Rattle.estelle_tree.specs.declared.tree.name.Name.{Name}
use Rattle.estelle_model.specs.declared.meaning.Meaning.{Meaning}
use Rattle.estelle_model.specs.declared.meaning.Meaning.TheVariants.{Called}
use Rattle.estelle_model.specs.declared.meaning.Routine.{Routine}
use Rattle.estelle_model.specs.declared.place.Environment.{Environment}
use Rattle.estelle_model.specs.Calls.{max_depth}
use Rattle.estelle_model.specs.Bodies.{BodyAlone, bodies}
use Rattle.estelle_model.specs.Subject.{Subject}
use Rattle.estelle_model.specs.Names.{Declared, required, or_other, at_place, declaration_of, required_meaning, meaning_at}
use Rattle.body_walker_blocks.specs.Scopes.{Scoped}
use Rattle.body_state.specs.declared.bodies.ModuleBody.{ModuleBody}
use Rattle.body_state.specs.Bodies.{module_body, block_of, bodies_from, module_bodies}
use Rattle.body_walker_blocks.specs.Walked.{IsKnown, IsBody}
use Rattle.body_walker_blocks.proofs.Weights.{total, of_stmts}

abbrev body_weight : Meaning → ℕ
body_weight (Called r) = of_stmts r.body
body_weight _ = 0

abbrev entry_weight : {K : Type 0} → K × Meaning → ℕ
entry_weight d = body_weight d.1

either_weight : (b : Bool) (m : Meaning) (o : Option Meaning) (n : ℕ) → body_weight (or_other o) ≤ n → body_weight (or_other (cond b (Some m) o)) ≤ body_weight m + n
either_weight true m o n h = omega arith
either_weight false m o n h = omega (arith, h)

found_weight : {K : Type 0} (p : K → Bool) (xs : List (K × Meaning)) → body_weight (or_other (lookup p xs)) ≤ total entry_weight xs
found_weight p [] = omega arith
found_weight p (d ∷ xs) = either_weight (p d.0) d.1 (lookup p xs) (total entry_weight xs) (found_weight p xs)

declared_weight : (known : Declared) (x : Name) (decl : Option Span) → body_weight (meaning_at known x decl) ≤ total entry_weight known
declared_weight known x None = omega arith
declared_weight known x (Some decl) = by (nat_eq decl.end 0)
  where
    by : (b : Bool) → body_weight (cond b (required_meaning x.word) (at_place known decl.start)) ≤ total entry_weight known
    by true = omega (arith, found_weight (bytes_eq x.word) required)
    by false = found_weight (nat_eq decl.start) known

abbrev pub init_weight : ModuleBody → ℕ
init_weight m = of_stmts (block_of m).body

body_in : (s : Subject) (first : ℕ) (bs : List BodyAlone) (n k : ℕ) (m : ModuleBody) → k ≡ first + n → option_map (module_body s k) (slice_get bs n) ≡ Some m → init_weight m ≤ total init_weight (bodies_from s first bs)
body_in s first [] n k m is e = absurd (cc)
body_in s first (b ∷ bs) zero k m is e =
    let same : module_body s k b ≡ m = cc in
    let here : k ≡ first = omega (arith, is) in
    omega (arith, ap (λ (j : ℕ). init_weight (module_body s j b)) here, ap init_weight same)
body_in s first (b ∷ bs) (suc n) k m is e = omega (arith, body_in s (suc first) bs n k m (omega (arith, is)) e)

-- what weighs more than the body of any routine that a name means, and than the block of any initialization
abbrev body_bound : Scoped → ℕ
body_bound t = total entry_weight t.known.declared + total init_weight (module_bodies t.subject) + 1

-- what the calls and inits weigh that may still nest in a frame
unfoldable pub of_calls : Scoped → Environment → ℕ
of_calls t h = (max_depth - h.frame) * body_bound t

known_weighs : (t : Scoped) (r : Routine) → IsKnown t r → of_stmts r.body < body_bound t
known_weighs t r k = subst (λ (m : Meaning). body_weight m < body_bound t) k.1 (omega (arith, declared_weight t.known.declared k.0 (declaration_of t.known.names k.0)))

body_weighs : (t : Scoped) (m : ModuleBody) → IsBody t m → init_weight m < body_bound t
body_weighs t m k = omega (arith, body_in t.subject 0 (bodies t.subject.specification) k.0 k.0 m (omega arith) k.1)

-- one deeper
falls : (t : Scoped) (h inner : Environment) (w : ℕ) → w < body_bound t → h.frame < max_depth → inner.frame ≡ h.frame + 1 → of_calls t inner + w < of_calls t h
unfolding of_calls
falls t h inner w light below deeper =
    let n : max_depth - h.frame ≡ (max_depth - inner.frame) + 1 = omega (arith, deeper, below) in
    rw n (omega (arith, light))

pub call_falls : (t : Scoped) (h inner : Environment) (r : Routine) → IsKnown t r → h.frame < max_depth → inner.frame ≡ h.frame + 1 → of_calls t inner + of_stmts r.body < of_calls t h
call_falls t h inner r k below deeper = falls t h inner (of_stmts r.body) (known_weighs t r k) below deeper

pub init_falls : (t : Scoped) (h inner : Environment) (m : ModuleBody) → IsBody t m → h.frame < max_depth → inner.frame ≡ h.frame + 1 → of_calls t inner + init_weight m < of_calls t h
init_falls t h inner m k below deeper = falls t h inner (init_weight m) (body_weighs t m k) below deeper
