-- A form of the grammar: what it spells, what begins it, with which terminals it begins and goes on. The forms
-- are put together here as a production puts them together.
use Rattle.std.specs.Prelude.{◌≡◌, ℕ, ◌<◌, ℤ, Bool, true, false, ◌&&◌, ◌||◌, List, Option, ◌⊎◌}
use Rattle.std.proofs.Common.{inl, inr}
use Rattle.std.specs.Option.{is_some}
use Rattle.estelle_tree.specs.declared.kind.Kind.{Kind}
use Rattle.estelle_tree.specs.declared.kind.Kind.TheVariants as k
use Rattle.estelle_tree.specs.declared.tree.name.Name.{Name}
use Rattle.estelle_tree.specs.declared.span.Span.{Span}
use Rattle.estelle_tree.specs.Input.{Input, kind, between}
use Rattle.estelle_tree.specs.Spelling.{Spelling, Takes, Flag, Mark, Ended, Several, Separated, Never}
use Rattle.estelle_tree.specs.Types.{IsName, IsNumber, IsChar}
use Rattle.estelle_tree.specs.Beginning.{Beginning, Nothing, ◌or◌, Then, After, AfterOne, OneToken, Opens, MayBe, MayBeOne, Some as BeginsSeveral, Separating}
use Rattle.syntax_forms.specs.Kinds.{is, never}

pub record Form (A : Type 0) : Type 1 where
  -- the tokens from one place to another are such a thing
  pub spells : Spelling A
  -- they begin one
  pub begins : Beginning
  -- they begin one and what comes next
  pub onto : Beginning → Beginning
  -- it can begin with this terminal
  pub first : Kind → Bool
  -- it can be spelled by no token
  pub empty : Bool
  -- where it could end, it can go on with this terminal
  pub on : Kind → Bool

-- one token
abbrev pub token : {A : Type 0} → Kind → Spelling A → Form A
token k P = record { spells = P; begins = OneToken k; onto = After k; first = is k; empty = false; on = never }

-- `k`
abbrev pub word : Kind → Form (Unit {0})
word k = token k (λ x. Takes k)

-- NAME
abbrev pub name : Form Name
name = token k.Name IsName

-- NUMBER
abbrev pub number : Form ℤ
number = token k.Number IsNumber

-- CHAR
abbrev pub char : Form ℕ
char = token k.Char IsChar

-- one of several terminals, where a choice tells which
abbrev pub one_of : {O : Type 0} → (Kind → Option O) → (O → Kind) → Form O
one_of of kinds = record {
  spells = λ o. Takes (kinds o);
  begins = AfterOne kinds Nothing;
  onto = AfterOne kinds;
  first = λ k. is_some (of k);
  empty = false;
  on = never;
}

-- the one and then the other
infixr 6 ◌▸◌
abbrev pub ◌▸◌ : {A B : Type 0} → Form A → Form B → Form (A × B)
F ▸ G = record {
  spells = λ x i j. (m : Input) × F.spells x.0 i m × G.spells x.1 m j;
  begins = F.onto G.begins;
  onto = λ next. F.onto (G.onto next);
  first = λ k. F.first k || (F.empty && G.first k);
  empty = F.empty && G.empty;
  on = λ k. G.on k || (G.empty && F.on k);
}

-- `[k]`
abbrev pub flag : Kind → Form Bool
flag k = record { spells = Flag k; begins = OneToken k; onto = MayBe k; first = is k; empty = true; on = is k }

-- `[k]`, where several terminals can stand and a choice tells which
abbrev pub mark : {O : Type 0} → (Kind → Option O) → (O → Kind) → Form (Option O)
mark of kinds = record {
  spells = Mark kinds;
  begins = MayBeOne kinds Nothing;
  onto = MayBeOne kinds;
  first = λ k. is_some (of k);
  empty = true;
  on = λ k. is_some (of k);
}

-- what the one or the other spells
abbrev pub Either : {A B : Type 0} → Spelling A → Spelling B → Spelling (A ⊎ B)
Either P Q (inl x) i j = P x i j
Either P Q (inr y) i j = Q y i j

-- the one or the other
infixr 5 ◌⊕◌
abbrev pub ◌⊕◌ : {A B : Type 0} → Form A → Form B → Form (A ⊎ B)
F ⊕ G = record {
  spells = Either F.spells G.spells;
  begins = F.begins or G.begins;
  onto = λ next. F.onto next or G.onto next;
  first = λ k. F.first k || G.first k;
  empty = F.empty || G.empty;
  on = λ k. F.on k || G.on k;
}

-- `k x`, where k opens a level of nesting
abbrev pub level : {A : Type 0} → ℕ → Kind → Form A → Form A
level room k F = record {
  spells = λ x i j. (0 < room) × ((m : Input) × Takes k i m × F.spells x m j);
  begins = Opens room k F.begins;
  onto = λ next. Opens room k (F.onto next);
  first = is k;
  empty = false;
  on = F.on;
}

-- `x {k x}`
abbrev pub separated : {A : Type 0} → Kind → Form A → Form (List A)
separated k F = record {
  spells = Separated k F.spells;
  begins = Separating k F.begins F.spells Nothing;
  onto = Separating k F.begins F.spells;
  first = λ x. F.first x || (F.empty && is k x);
  empty = F.empty && true;
  on = λ x. is k x || F.on x;
}

-- the same, where it can go on with these terminals
abbrev pub going : {A : Type 0} → (Kind → Bool) → Form A → Form A
going on F = record { spells = F.spells; begins = F.begins; onto = F.onto; first = F.first; empty = F.empty; on = on }

-- `x {k x} [k]`: behind k another x can come
abbrev pub sections : {A : Type 0} → Kind → Form A → Form (List A × Bool)
sections k F = going (λ x. is k x || (F.first x || F.on x)) (separated k F ▸ flag k)

-- `{x}+`
abbrev pub several : {A : Type 0} → Form A → Form (List A)
several F = record {
  spells = Several F.spells;
  begins = BeginsSeveral F.begins F.spells Nothing;
  onto = BeginsSeveral F.begins F.spells;
  first = F.first;
  empty = false;
  on = λ k. F.first k || F.on k;
}

-- the one, unless such a terminal stands behind its first token: the other
abbrev pub unless : {A B : Type 0} → (Kind → Bool) → Form A → Form B → Form (A ⊎ B)
unless ahead F G = record {
  spells = Either F.spells G.spells;
  begins = F.begins or G.begins;
  onto = λ next. F.onto next or G.onto next;
  first = λ k. F.first k || G.first k;
  empty = F.empty || G.empty;
  on = λ k. ahead k || (F.on k || G.on k);
}

-- a part that is one thing
abbrev pub part : {A : Type 0} → Form A → Form A
part F = record { spells = F.spells; begins = F.begins; onto = Then F.begins F.spells; first = F.first; empty = F.empty; on = F.on }

-- a node, which is spelled as its parts are
abbrev pub node : {P N : Type 0} → Spelling N → Form P → Form N
node IsNode F = record { spells = IsNode; begins = F.begins; onto = Then F.begins IsNode; first = F.first; empty = F.empty; on = F.on }

-- a node that is made of its parts and its span
abbrev pub built : {P N : Type 0} → (P → Span → N) → Form P → Form N
built {P} make F = node (λ n i j. (p : P) × F.spells p i j × (make p (between i j) ≡ n)) F

-- a form of which these are known
abbrev pub known : {A : Type 0} → Bool → Spelling A → Beginning → (Kind → Bool) → (Kind → Bool) → Form A
known empty P B first on = record { spells = P; begins = B; onto = Then B P; first = first; empty = empty; on = on }

abbrev pub hole : {A : Type 0} → Spelling A → Beginning → (Kind → Bool) → (Kind → Bool) → Form A
hole = known false

-- the form that the next terminal tells
abbrev pub told : {A : Type 0} → (Kind → Form A) → (Kind → Bool) → Form A
told F on = known false (λ x i j. (F (kind i)).spells x i j) (λ i j. (F (kind i)).begins i j) (λ k. (F k).first k) on

-- the same, where what begins it is said in other words
abbrev pub begun : {A : Type 0} → Beginning → Form A → Form A
begun B F = record { spells = F.spells; begins = B; onto = Then B F.spells; first = F.first; empty = F.empty; on = F.on }

-- the form, where it can stand
abbrev pub only_if : {A : Type 0} → Bool → Form A → Form A
only_if true F = F
only_if false F = known false Never Nothing never never

-- the same form, with which nothing that stands next goes on
abbrev pub whole : {A : Type 0} → Form A → Form A
whole F = known F.empty (λ x i j. F.spells x i j × (F.on (kind j) ≡ false)) F.begins F.first never

-- `x ";"`
abbrev pub line : {A : Type 0} → Form A → Form A
line F = node (Ended k.Semicolon F.spells) (part F ▸ word k.Semicolon)

-- `{x ";"}+`
abbrev pub lines : {A : Type 0} → Form A → Form (List A)
lines F = several (line F)
