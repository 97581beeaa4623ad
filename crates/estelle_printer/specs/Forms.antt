-- The tokens of the forms of the grammar, from the tokens of what stands in them.
use Rattle.std.specs.Prelude.{Bool, true, false, List, [], ◌∷◌, ◌++◌, Option, Some, None}
use Rattle.std.specs.List.{flat_map}
use Rattle.estelle_tree.specs.declared.token.Token.{Token}
use Rattle.estelle_tree.specs.declared.kind.Kind.{Kind}
use Rattle.estelle_tree.specs.declared.kind.Kind.TheVariants as k
use Rattle.estelle_printer.specs.Terminals.{terminal}

abbrev pub Tokens : Type 0
Tokens = List Token

-- a terminal
abbrev pub mark : Kind → Tokens
mark k = terminal k ∷ []

-- `[k]`
abbrev pub flag : Kind → Bool → Tokens
flag k false = []
flag k true = mark k

-- `[x]`
abbrev pub optional : {A : Type 0} → (A → Tokens) → Option A → Tokens
optional p None = []
optional p (Some x) = p x

-- `{k x}`
abbrev pub each_behind : {A : Type 0} → Kind → (A → Tokens) → List A → Tokens
each_behind k p = flat_map (λ x. mark k ++ p x)

-- `x {k x}`
abbrev pub separated : {A : Type 0} → Kind → (A → Tokens) → List A → Tokens
separated k p [] = []
separated k p (x ∷ xs) = p x ++ each_behind k p xs

-- `{x ";"}`
abbrev pub lines : {A : Type 0} → (A → Tokens) → List A → Tokens
lines p = flat_map (λ x. p x ++ mark k.Semicolon)

-- `[k {x ";"}+]`: nothing where the list is empty
abbrev pub may_be_lines : {A : Type 0} → Kind → (A → Tokens) → List A → Tokens
may_be_lines first p [] = []
may_be_lines first p (x ∷ xs) = mark first ++ lines p (x ∷ xs)

-- `from x to`
abbrev pub enclosed : Kind → Kind → Tokens → Tokens
enclosed from to inside = mark from ++ inside ++ mark to
