-- What the rules know where declarations speak: what is known stays so, and each declaration says it in what was known before.
use Rattle.std.proofs.Common.{◌≡◌, ◌∙◌, ℕ, Bool, true, false, nat_eq, List, [], ◌∷◌, ◌++◌, Option, Some, None, refl, ap, sym, subst, cond, inl, inr, ◌⊎◌}
use Rattle.std.specs.Prelude.{if◌then◌else◌, fold}
use Rattle.std.specs.Option.{is_some}
use Rattle.std.specs.Map.{lookup}
use Rattle.std.proofs.lemmas.Bool.Decides.{Decides-eqb}
use Rattle.estelle_tree.specs.declared.names.Use.{Use}
use Rattle.estelle_tree.specs.declared.span.Span.{Span}
use Rattle.estelle_tree.specs.declared.tree.name.Name.{Name}
use Rattle.type_rules.specs.declared.types.Value.{Value}
use Rattle.type_rules.specs.declared.meanings.Entity.{Entity}
use Rattle.type_rules.specs.Meanings.{Env, Declaration, Declarations, entity_at, or_undeclared, declaration_of, meaning_by, known, with_entity, declare_one, declare_all, put_first, with_use, start, env_of, constant_value, required_meaning}
use Rattle.estelle_model.specs.Names as model
use Rattle.scope_rules.specs.NameRules.{IsOne}

-- equal wholes have equal contents
pub some_same : {A : Type 0} (a b : A) → Some a ≡ Some b → a ≡ b
some_same a b e = cc

-- what is declared, by places
abbrev Entries : Type 0
Entries = List (ℕ × Entity)

-- ---- what is known stays so

-- what is known in the one environment is known in the other
pub record Earlier (e f : Env) : Type 0 where
  pub uses : e.uses ≡ f.uses
  pub stays : (p : ℕ) (x : Entity) → lookup (nat_eq p) e.places ≡ Some x → lookup (nat_eq p) f.places ≡ Some x

-- what is found at the front stays found with more behind it
found_front : {A : Type 0} (t : ℕ → Bool) (es fs : List (ℕ × A)) (x : A) → lookup t es ≡ Some x → lookup t (es ++ fs) ≡ Some x
found_front t [] fs x h = absurd (cc)
found_front t (e ∷ es) fs x h = by (t e.0) (λ g. found_front t es fs x g) h
  where
    by : (b : Bool) → (lookup t es ≡ Some x → lookup t (es ++ fs) ≡ Some x) → cond b (Some e.1) (lookup t es) ≡ Some x → cond b (Some e.1) (lookup t (es ++ fs)) ≡ Some x
    by true more g = g
    by false more g = more g

-- what is found with one more at the end was found before, or is that one
found_one : (p at : ℕ) (v x : Entity) (es : Entries) → lookup (nat_eq p) (es ++ (at, v) ∷ []) ≡ Some x → (lookup (nat_eq p) es ≡ Some x) ⊎ ((at ≡ p) × (v ≡ x))
found_one p at v x [] h = by (nat_eq p at) refl h
  where
    by : (b : Bool) → nat_eq p at ≡ b → cond b (Some v) None ≡ Some x → (None ≡ Some x) ⊎ ((at ≡ p) × (v ≡ x))
    by true e g = inr (sym ((Decides-eqb p at).0 e), some_same v x g)
    by false e g = absurd (cc)
found_one p at v x (e ∷ es) h = by (nat_eq p e.0) (λ g. found_one p at v x es g) h
  where
    by : (b : Bool) → (lookup (nat_eq p) (es ++ (at, v) ∷ []) ≡ Some x → (lookup (nat_eq p) es ≡ Some x) ⊎ ((at ≡ p) × (v ≡ x)))
        → cond b (Some e.1) (lookup (nat_eq p) (es ++ (at, v) ∷ [])) ≡ Some x → (cond b (Some e.1) (lookup (nat_eq p) es) ≡ Some x) ⊎ ((at ≡ p) × (v ≡ x))
    by true more g = inl g
    by false more g = more g

-- what is known at a place stays, whatever is declared after it
put_stays : (p at : ℕ) (v x : Entity) (es : Entries) → lookup (nat_eq p) es ≡ Some x → lookup (nat_eq p) (put_first at v es) ≡ Some x
put_stays p at v x es h = by (is_some (lookup (nat_eq at) es))
  where
    by : (b : Bool) → lookup (nat_eq p) (if b then es else es ++ (at, v) ∷ []) ≡ Some x
    by true = h
    by false = found_front (nat_eq p) es ((at, v) ∷ []) x h

-- what is known after one more declaration was known before, or is what that one says
put_found : (p at : ℕ) (v x : Entity) (es : Entries) → lookup (nat_eq p) (put_first at v es) ≡ Some x → (lookup (nat_eq p) es ≡ Some x) ⊎ ((at ≡ p) × (v ≡ x))
put_found p at v x es = by (is_some (lookup (nat_eq at) es))
  where
    by : (b : Bool) → lookup (nat_eq p) (if b then es else es ++ (at, v) ∷ []) ≡ Some x → (lookup (nat_eq p) es ≡ Some x) ⊎ ((at ≡ p) × (v ≡ x))
    by true h = inl h
    by false h = found_one p at v x es h

-- one declaration takes nothing back
one_earlier : (e : Env) (d : Declaration) → Earlier e (declare_one e d)
unfolding declare_one with_entity
one_earlier e d = record { uses = refl; stays = λ p x h. put_stays p d.at (d.says e) x e.places h }

-- each environment knows what it knows
pub earlier_same : (e : Env) → Earlier e e
earlier_same e = record { uses = refl; stays = λ p x h. h }

-- what is known stays over several declarations
pub earlier_more : {e f g : Env} → Earlier e f → Earlier f g → Earlier e g
earlier_more h k = record { uses = h.uses ∙ k.uses; stays = λ p x f. k.stays p x (h.stays p x f) }

-- declarations one after another take nothing back
pub all_earlier : (e : Env) (ds : Declarations) → Earlier e (declare_all e ds)
unfolding declare_all
all_earlier e [] = earlier_same e
all_earlier e (d ∷ ds) = earlier_more (one_earlier e d) (all_earlier (declare_one e d) ds)

-- ---- who says it

-- what is known at a place is what one of the declarations says there, in what was known before it
pub record Said (ds : Declarations) (env : Env) (p : ℕ) (x : Entity) : Type 0 where
  pub declaration : Declaration
  pub one : IsOne declaration ds
  pub at : declaration.at ≡ p
  pub before : Env
  pub says : declaration.says before ≡ x
  pub earlier : Earlier before env

-- all that is known was said by one of the declarations
abbrev AllSaid : Declarations → Env → Env → Type 0
AllSaid ds env e = (p : ℕ) (x : Entity) → lookup (nat_eq p) e.places ≡ Some x → Said ds env p x

-- from where all that is known was said, each further declaration says what comes to be known
said_from : (all : Declarations) (env e : Env) (ds : Declarations) → ((d : Declaration) → IsOne d ds → IsOne d all) → declare_all e ds ≡ env → AllSaid all env e → AllSaid all env env
unfolding declare_all declare_one with_entity
said_from all env e [] within is h = subst (AllSaid all env) is h
said_from all env e (d ∷ ds) within is h = said_from all env (declare_one e d) ds (λ x o. within x (inr o)) is step
  where
    step : AllSaid all env (declare_one e d)
    step p x f = elim (put_found p d.at (d.says e) x e.places f) [
      | inl g ↦ h p x g
      | inr g ↦ record { declaration = d; one = within d (inl refl); at = g.0; before = e; says = g.1; earlier = subst (Earlier e) is (all_earlier e (d ∷ ds)) }
    ]

-- all that the rules know of a specification was said by one of its declarations
pub all_said : (uses : List Use) (ds : Declarations) (p : ℕ) (x : Entity) → lookup (nat_eq p) (env_of uses ds).places ≡ Some x → Said ds (env_of uses ds) p x
all_said uses ds = said_from ds (env_of uses ds) (start uses) ds (λ d o. o) refl (λ p x h. absurd (cc))

-- ---- which declaration a name in use means

-- the first of two, where there is one
abbrev or_more : {A : Type 0} → Option A → Option A → Option A
or_more (Some x) more = Some x
or_more None more = more

-- without a second one it is the first
or_none : {A : Type 0} (o : Option A) → o ≡ or_more o None
or_none None = refl
or_none (Some x) = refl

-- a test of places is the same from both sides
eq_turned : (a b : ℕ) → nat_eq a b ≡ nat_eq b a
eq_turned a b = by (nat_eq a b) (nat_eq b a) refl refl
  where
    by : (s t : Bool) → nat_eq a b ≡ s → nat_eq b a ≡ t → s ≡ t
    by true true e f = refl
    by false false e f = refl
    by true false e f = sym ((Decides-eqb b a).1 (sym ((Decides-eqb a b).0 e))) ∙ f
    by false true e f = sym (sym ((Decides-eqb a b).1 (sym ((Decides-eqb b a).0 f))) ∙ e)

-- names in use by their places, with the names in their declarations
abbrev Uses : Type 0
Uses = List (ℕ × Span)

-- what is looked up with one more at the end
last_looked : (p at : ℕ) (v : Span) (us : Uses) → lookup (nat_eq p) (us ++ (at, v) ∷ []) ≡ or_more (lookup (nat_eq p) us) (if nat_eq p at then Some v else None)
last_looked p at v [] = by (nat_eq p at)
  where
    by : (b : Bool) → cond b (Some v) None ≡ (if b then Some v else None)
    by true = refl
    by false = refl
last_looked p at v (u ∷ us) = by (nat_eq p u.0) (last_looked p at v us)
  where
    by : (b : Bool) → lookup (nat_eq p) (us ++ (at, v) ∷ []) ≡ or_more (lookup (nat_eq p) us) (if nat_eq p at then Some v else None)
        → cond b (Some u.1) (lookup (nat_eq p) (us ++ (at, v) ∷ [])) ≡ or_more (cond b (Some u.1) (lookup (nat_eq p) us)) (if nat_eq p at then Some v else None)
    by true more = refl
    by false more = more

-- a use at a place that has one already changes nothing
there_already : (p at : ℕ) (v w : Span) (us : Uses) → lookup (nat_eq at) us ≡ Some w → lookup (nat_eq p) us ≡ or_more (lookup (nat_eq p) us) (if nat_eq p at then Some v else None)
there_already p at v w us e = by (nat_eq p at) refl
  where
    by : (b : Bool) → nat_eq p at ≡ b → lookup (nat_eq p) us ≡ or_more (lookup (nat_eq p) us) (if b then Some v else None)
    by true f = let g : lookup (nat_eq p) us ≡ Some w = ap (λ n. lookup (nat_eq n) us) ((Decides-eqb p at).0 f) ∙ e in g ∙ sym (ap (λ o. or_more o (Some v)) g)
    by false f = or_none (lookup (nat_eq p) us)

-- what is looked up with one more use, of which the first at a place stays
put_looked : (p at : ℕ) (v : Span) (us : Uses) → lookup (nat_eq p) (put_first at v us) ≡ or_more (lookup (nat_eq p) us) (if nat_eq p at then Some v else None)
put_looked p at v us = by (lookup (nat_eq at) us) refl
  where
    by : (o : Option Span) → lookup (nat_eq at) us ≡ o → lookup (nat_eq p) (if is_some o then us else us ++ (at, v) ∷ []) ≡ or_more (lookup (nat_eq p) us) (if nat_eq p at then Some v else None)
    by None e = last_looked p at v us
    by (Some w) e = there_already p at v w us e

-- what is looked up with further uses
looked_up : (x : Name) (so_far : Uses) (us : List Use) → lookup (nat_eq x.span.start) (fold with_use so_far us) ≡ or_more (lookup (nat_eq x.span.start) so_far) (model.declaration_of us x)
looked_up x so_far [] = or_none (lookup (nat_eq x.span.start) so_far)
looked_up x so_far (u ∷ us) =
    looked_up x (with_use so_far u) us
    ∙ ap (λ o. or_more o (model.declaration_of us x)) (put_looked x.span.start u.at.start u.decl so_far ∙ ap (λ b. or_more (lookup (nat_eq x.span.start) so_far) (if b then Some u.decl else None)) (eq_turned x.span.start u.at.start))
    ∙ by (lookup (nat_eq x.span.start) so_far) (nat_eq u.at.start x.span.start)
  where
    by : (o : Option Span) (b : Bool) → or_more (or_more o (if b then Some u.decl else None)) (model.declaration_of us x) ≡ or_more o (if b then Some u.decl else model.declaration_of us x)
    by None true = refl
    by None false = refl
    by (Some w) b = refl

-- a name in use has the same declaration for the rules and for the model
pub named_alike : (us : List Use) (ds : Declarations) (x : Name) → declaration_of (env_of us ds) x ≡ model.declaration_of us x
unfolding declaration_of
named_alike us ds x = ap (lookup (nat_eq x.span.start)) (sym (all_earlier (start us) ds).uses) ∙ looked_up x [] us

-- ---- constants that have a value keep it

-- a constant at a place that has a value keeps it
valued_stays : (e f : Env) → Earlier e f → (p : ℕ) (w : Value) → constant_value (entity_at e p).meaning ≡ Some w → constant_value (entity_at f p).meaning ≡ Some w
unfolding entity_at
valued_stays e f h p w g = by (lookup (nat_eq p) e.places) refl g
  where
    by : (o : Option Entity) → lookup (nat_eq p) e.places ≡ o → constant_value (or_undeclared o).meaning ≡ Some w → constant_value (or_undeclared (lookup (nat_eq p) f.places)).meaning ≡ Some w
    by None is k = absurd (cc)
    by (Some x) is k = ap (λ (o : Option Entity). constant_value (or_undeclared o).meaning) (h.stays p x is) ∙ k

-- a name of a constant that has a value keeps it
pub known_stays : (e f : Env) → Earlier e f → (x : Name) (w : Value) → constant_value (known e x) ≡ Some w → constant_value (known f x) ≡ Some w
unfolding known declaration_of
known_stays e f h x w g =
    ap (λ (us : List (ℕ × Span)). constant_value (meaning_by f x (lookup (nat_eq x.span.start) us))) (sym h.uses)
    ∙ by (lookup (nat_eq x.span.start) e.uses) g
  where
    placed : (decl : Span) (b : Bool) → constant_value (if b then required_meaning x.word else (entity_at e decl.start).meaning) ≡ Some w → constant_value (if b then required_meaning x.word else (entity_at f decl.start).meaning) ≡ Some w
    placed decl true k = k
    placed decl false k = valued_stays e f h decl.start w k

    by : (o : Option Span) → constant_value (meaning_by e x o) ≡ Some w → constant_value (meaning_by f x o) ≡ Some w
    by None k = k
    by (Some decl) k = placed decl (nat_eq decl.end 0) k
