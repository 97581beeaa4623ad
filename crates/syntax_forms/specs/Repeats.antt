-- Forms that a step reads: parts that may be missing, and parts that are repeated.
use Rattle.std.specs.Prelude.{true, false, ◌||◌, List, Option}
use Rattle.std.specs.Option.{is_some}
use Rattle.estelle_tree.specs.declared.kind.Kind.{Kind}
use Rattle.estelle_tree.specs.Spelling.{Optional, Chain, Behind}
use Rattle.estelle_tree.specs.Beginning.{Nothing, ◌or◌, After, AfterOne, Many}
use Rattle.syntax_forms.specs.Kinds.{is}
use Rattle.syntax_forms.specs.Form.{Form}

-- `k x`, where several terminals can stand and a choice tells which
abbrev pub marked : {O A : Type 0} → (Kind → Option O) → (O → Kind) → Form A → Form (O × A)
marked of kinds F = record {
  spells = λ x. Behind (kinds x.0) F.spells x.1;
  begins = AfterOne kinds F.begins;
  onto = λ next. AfterOne kinds (F.onto next);
  first = λ k. is_some (of k);
  empty = false;
  on = F.on;
}

-- `k x`
abbrev pub behind : {A : Type 0} → Kind → Form A → Form A
behind k F = record { spells = Behind k F.spells; begins = After k F.begins; onto = λ next. After k (F.onto next); first = is k; empty = false; on = F.on }

-- `[x]`
abbrev pub may : {A : Type 0} → Form A → Form (Option A)
may F = record {
  spells = Optional F.spells;
  begins = F.begins;
  onto = λ next. next or F.onto next;
  first = F.first;
  empty = true;
  on = λ k. F.first k || F.on k;
}

-- `{x}`
abbrev pub many : {A : Type 0} → Form A → Form (List A)
many F = record {
  spells = Chain F.spells;
  begins = Many F.begins F.spells Nothing;
  onto = Many F.begins F.spells;
  first = F.first;
  empty = true;
  on = λ k. F.first k || F.on k;
}
