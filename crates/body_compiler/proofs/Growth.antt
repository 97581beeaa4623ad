-- Units that come behind others: what is there stays, and what comes is there.
use Rattle.std.proofs.Common.{◌≡◌, ◌∙◌, refl, sym, subst, ap, ℕ, ◌+◌, ◌<◌, ◌≤◌, List, [], ◌∷◌, ◌++◌, inl, inr, Some, None, append_assoc, arith}
use Rattle.std.proofs.lemmas.List.{append-nil}
use Rattle.std.specs.Prelude.{◌⊎◌, map}
use Rattle.body_code.specs.declared.unit.Entry.{Entry}
use Rattle.body_code.specs.declared.unit.Heading.TheVariants as heading
use Rattle.body_code.specs.declared.unit.CodeUnit.{CodeUnit}
use Rattle.body_code.specs.Units.{entry_of, body_behind}
use Rattle.body_code.specs.Firsts.{body_after}
use Rattle.body_code.proofs.Finding.{body_push}
use Rattle.estelle_model.specs.declared.denoter.Denoter.{Denoter}
use Rattle.estelle_model.specs.declared.meaning.Passing.TheVariants.{ByValue}
use Rattle.estelle_model.specs.declared.meaning.Routine.{Routine}
use Rattle.estelle_model.specs.Transitions.{Transition}
use Rattle.estelle_model.specs.Subject.{Subject, meant, meant_with}
use Rattle.body_compiler_pieces.specs.Pieces.{Piece}
use Rattle.body_compiler_pieces.specs.UnitCode.{Known, IsMadeOf, IsUnit}
use Rattle.body_compiler_laws.specs.Compiled.{HasUnit}
use Rattle.body_compiler_laws.specs.Codes.{HasClause, HasTransition}
use Rattle.body_compiler_laws.proofs.Pushed.{still_has, clause_still, transition_still, heading_push}
use Rattle.body_compiler_laws.specs.Order.{kind_of, number_of, IsFrom, IsOpen}
use Rattle.body_compiler_laws.proofs.Rising.{open_found, open_push}
use Rattle.body_compiler_emission.specs.Known.{known_in}
use Rattle.body_compiler.specs.Whole.{Grown, IsFree, Comes, HasOne, HasBody}

-- ---- what is there stays

pub grown_none : (us : List CodeUnit) → Grown us us
grown_none us = record { more = []; is = sym (append-nil us) }

pub then_grown : (us vs ws : List CodeUnit) → Grown us vs → Grown vs ws → Grown us ws
then_grown us vs ws g h = record { more = g.more ++ h.more; is = h.is ∙ ap (λ xs. xs ++ h.more) g.is ∙ append_assoc us g.more h.more }

pub then_comes : (us vs ws : List CodeUnit) (body kind number : ℕ) → Grown us vs → Comes vs ws body kind number → Comes us ws body kind number
then_comes us vs ws body kind number g c = record { grown = then_grown us vs ws g c.grown; free = c.free }

module _ (old new : List CodeUnit) (grown : Grown old new) (known : Known) (body : ℕ) where
  pub still_unit : (place : Entry) (r : Routine) → HasUnit old known body place r → HasUnit new known body place r
  still_unit place r h = subst (λ us. HasUnit us known body place r) (sym grown.is) (still_has old grown.more known body place r h)

  pub still_clause : (place : Entry) (received : List Denoter) (p : Piece) → HasClause old body place received p → HasClause new body place received p
  still_clause place received p h = subst (λ us. HasClause us body place received p) (sym grown.is) (clause_still old grown.more known body place received p h)

  pub still_transition : (number : ℕ) (t : Transition) → HasTransition old known body number t → HasTransition new known body number t
  still_transition number t h = subst (λ us. HasTransition us known body number t) (sym grown.is) (transition_still old grown.more known body number t h)

module _ (old new : List CodeUnit) (grown : Grown old new) (s : Subject) (body : ℕ) where
  pub still_one : (number : ℕ) (t : Transition) → HasOne s old body number t → HasOne s new body number t
  still_one number t h = record { units = still_transition old new grown (known_in s (meant_with s t.chosen)) body number t h.units; apart = h.apart }

  pub still_body : HasBody s old body → HasBody s new body
  still_body h = record {
    routines = λ k tree at r is. still_unit old new grown (known_in s (meant s)) body _ r (h.routines k tree at r is);
    initialization = still_unit old new grown (known_in s (meant s)) body _ _ h.initialization;
    transitions = λ number t is. still_one number t (h.transitions number t is);
  }

-- ---- what comes is there

-- what comes from a later place on
abbrev pub IsBehind : (kind number next after : ℕ) → Type 0
IsBehind kind number next after = (kind < next) ⊎ ((kind ≡ next) × (number ≤ after))

from_behind : (kind number next after : ℕ) (e : Entry) → IsBehind kind number next after → IsFrom next after e → IsFrom kind number e
from_behind kind number next after e (inl l) (inl m) = inl (omega (arith, l, m))
from_behind kind number next after e (inl l) (inr m) = inl (omega (arith, l, m.0))
from_behind kind number next after e (inr l) (inl m) = inl (omega (arith, l.0, m))
from_behind kind number next after e (inr l) (inr m) = inr (l.0 ∙ m.0, omega (arith, l.1, m.1))

pub open_behind : (code : List CodeUnit) (here kind number next after : ℕ) → IsOpen code here kind number → IsBehind kind number next after → IsOpen code here next after
open_behind code here kind number next after free behind = record { inside = free.inside; rest = λ e from. free.rest e (from_behind kind number next after e behind from); later = free.later }

pub free_behind : (code : List CodeUnit) (here kind number : ℕ) → IsOpen code here kind number → IsFree code (here + 1)
free_behind code here kind number free body e more = free.later body e (omega (arith, more))

-- a body begins
pub begun : (us new : List CodeUnit) (u : CodeUnit) (body : ℕ) (name : List ℕ) → IsFree us body → u.heading ≡ heading.Body body name → new ≡ us ++ u ∷ [] → Comes us new body 0 0
begun us new u body name free is pushed = subst (λ ws. Comes us ws body 0 0) (sym pushed) (record {
  grown = record { more = u ∷ []; is = refl };
  free = record {
    inside = body_push None us u ∙ ap (body_behind (body_after None us)) is;
    rest = λ e from. heading_push us u (ap entry_of is) body e ∙ free body e (omega arith);
    later = λ k e more. heading_push us u (ap entry_of is) k e ∙ free k e (omega (arith, more));
  };
})

-- a unit comes
module _ (us new : List CodeUnit) (u : CodeUnit) (here kind number : ℕ) (free : IsOpen us here kind number) (pushed : new ≡ us ++ u ∷ []) (e : Entry) (is : entry_of u.heading ≡ Some e) (from : IsFrom kind number e) where
  pub comes : (next after : ℕ) → IsBehind (kind_of e) (number_of e + 1) next after → Comes us new here next after
  comes next after behind = subst (λ ws. Comes us ws here next after) (sym pushed) (record {
    grown = record { more = u ∷ []; is = refl };
    free = open_behind (us ++ u ∷ []) here (kind_of e) (number_of e + 1) next after (open_push us u here kind number free e is from) behind;
  })

  pub has_unit : (known : Known) (r : Routine) → IsUnit known here r u → HasUnit new known here e r
  has_unit known r h = subst (λ ws. HasUnit ws known here e r) (sym pushed) (record { unit = u; found = open_found us u here kind number free e is from; is = h })

  pub has_clause : (received : List Denoter) (p : Piece) → IsMadeOf (map ByValue received) [] p u → HasClause new here e received p
  has_clause received p h = subst (λ ws. HasClause ws here e received p) (sym pushed) (record { unit = u; found = open_found us u here kind number free e is from; is = h })
