-- Parsers of parts in a row, each given what comes next, as a do-definition has them.
use Rattle.std.specs.Prelude.{ℕ, ◌==◌, Bool, true, false, if◌then◌else◌, ◌&&◌, not, ◌⊎◌}
use Rattle.std.proofs.Common.{inl, inr}
use Rattle.estelle_tree.specs.declared.span.Span.{Span}
use Rattle.estelle_tree.specs.declared.kind.Kind.{Kind}
use Rattle.estelle_tree.specs.Input.{Input, kind, next, start, left}
use Rattle.token_reader.specs.Reader.{Parser, ◌>>=◌, pure, refuse, since, since_over, expect}

abbrev pub Reading : Type 0 → Type 1
Reading A = (C : Type 0) → (A → Parser C) → Parser C

-- a parser of one part
abbrev pub one : {A : Type 0} → Parser A → Reading A
one p C f = p >>= f

infixr 6 ◌then◌
abbrev pub ◌then◌ : {A B : Type 0} → Reading A → Reading B → Reading (A × B)
◌then◌ s t C f = s C (λ x. t C (λ y. f (x, y)))

-- a form that opens a level of nesting: refused where none may open
abbrev pub opening : {A : Type 0} → ℕ → Parser A → Parser A
opening room item = if room == 0 then refuse else item

abbrev pub levelled : {A : Type 0} → ℕ → Kind → Reading A → Reading A
levelled room k s C f = opening room (expect k >>= λ _. s C f)

abbrev pub chosen : {C : Type 0} → Bool → Parser C → Parser C → Parser C
chosen true p q = p
chosen false p q = q

-- the next kind tells which of the two stands there
abbrev pub choose : {A B : Type 0} → (Kind → Bool) → Reading A → Reading B → Reading (A ⊎ B)
choose begins s t C f i = chosen (begins (kind i)) (s C (λ x. f (inl x))) (t C (λ y. f (inr y))) i

-- the kind after the next one tells, where both can stand there
abbrev pub looked : {A B : Type 0} → (Kind → Bool) → (Kind → Bool) → Reading A → Reading B → Reading (A ⊎ B)
looked ahead begins s t C f i = chosen (begins (kind i) && not (ahead (kind (next i)))) (s C (λ x. f (inl x))) (t C (λ y. f (inr y))) i

-- the span closes what was begun there
abbrev pub closed : {P N : Type 0} → (P → Span → N) → ℕ → P → Parser N
closed make from x = since from >>= λ span. pure (make x span)

-- the same, where the span is empty if no token was taken
abbrev pub enclosed : {P N : Type 0} → (P → Span → N) → Input → P → Parser N
enclosed make i x = since_over (start i) (left i) >>= λ span. pure (make x span)
