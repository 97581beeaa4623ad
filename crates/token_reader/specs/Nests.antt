-- A function value that parses what stands one level down, given how many levels may open there.
use Rattle.std.specs.Prelude.{ℕ, Result}
use Rattle.std.specs.declared.alloc.Global.{Global}
use denote.Ref.{MutBor}
use Rattle.estelle_tree.specs.Input.{Input}
use Rattle.token_reader.specs.declared.error.ReadError.{ReadError}
use Rattle.token_reader.specs.Reader.{Parser, Reads}

pub record Nests {A : Type 0} (below : ℕ → Parser A) (room : ℕ) (pre : Global → MutBor Input → ℕ → Type 0)
    (post : Global → MutBor Input → ℕ → Result A ReadError → MutBor Input → Type 0) : Type 0 where
  pub callable : (alloc : Global) (old : MutBor Input) → pre alloc old room
  pub reads : (alloc : Global) (old new : MutBor Input) (r : Result A ReadError) → post alloc old room r new
      → Reads (below room old.now) r new.now
