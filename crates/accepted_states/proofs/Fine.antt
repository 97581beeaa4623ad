-- The events of what spells the tokens from one place to another: they declare no state, and use no name that is not among these tokens.
use Rattle.std.proofs.Common.{◌≡◌, ◌∙◌, ℕ, ◌+◌, ◌≤◌, Bool, true, false, List, [], ◌∷◌, ◌++◌, Option, Some, None, refl, ap, sym, arith}
use Rattle.std.specs.List.{flat_map}
use Rattle.estelle_tree.specs.declared.kind.Kind.{Kind}
use Rattle.estelle_tree.specs.declared.kind.Kind.TheVariants as k
use Rattle.estelle_tree.specs.declared.span.Span.{Span}
use Rattle.estelle_tree.specs.declared.token.Token.{Token}
use Rattle.estelle_tree.specs.declared.token.Token.TheVariants as token
use Rattle.estelle_tree.specs.declared.token.Placed.{Placed}
use Rattle.estelle_tree.specs.declared.tree.name.Name.{Name}
use Rattle.estelle_tree.specs.declared.tree.name.NameList.{NameList}
use Rattle.estelle_tree.specs.Input.{Input, next, start, token_at, between, first_token, first_start, after_first}
use Rattle.estelle_tree.specs.Spelling.{Spelling, Takes, Flag, Mark, Optional, Chain, Several, Behind, Ended, Separated, Enclosed, Lines, MayBeLines}
use Rattle.estelle_tree.specs.Types.{IsName, IsNames}
use Rattle.scope_rules.specs.declared.declaration.Denotes.{Denotes}
use Rattle.scope_rules.specs.declared.declaration.Denotes.TheVariants as d
use Rattle.scope_rules.specs.declared.declaration.Need.{Need}
use Rattle.scope_rules.specs.declared.declaration.Inside.{Inside}
use Rattle.scope_rules.specs.declared.event.ScopeForm.{ScopeForm}
use Rattle.scope_rules.specs.declared.event.ScopeForm.TheVariants as form
use Rattle.scope_rules.specs.declared.event.Event.{Event}
use Rattle.scope_rules.specs.declared.event.Event.TheVariants.{Open, Close, Keep, Declare}
use Rattle.scope_rules.specs.TypeEvents.{Events, use_alone}
use Rattle.scope_rules.specs.ExpressionEvents.{optional}
use Rattle.accepted_states.proofs.Lists.{count, one_if, count-append, flat-append}
use Rattle.accepted_states.proofs.Uses.{uses, uses_in}
use Rattle.accepted_states.proofs.Scopes.{Plain, plain_nil, plain_append, plain_use, plain_declare, plain_scope, plain_kept}

-- ---- tokens from a place on

-- how many of the tokens from a place on have such a span
abbrev pub among : (Span → Bool) → Input → ℕ
among t i = count (λ (p : Placed). t p.span) i.tokens

-- there are no more of them from the second place on
pub record Less (i j : Input) : Type 0 where
  pub most : (t : Span → Bool) → among t j ≤ among t i

abbrev pub named : (Span → Bool) → Name → Bool
named t x = t x.span

pub less_same : {i j : Input} → i ≡ j → Less i j
less_same {i} {j} e = record { most = λ t. let f = ap (among t) e in omega (arith, f) }

pub less_more : {i m j : Input} → Less i m → Less m j → Less i j
less_more h k = record { most = λ t. let a = h.most t in let b = k.most t in omega (arith, a, b) }

less_first : (t : Span → Bool) (end : ℕ) (ps : List Placed) → among t (after_first end ps) ≤ count (λ (p : Placed). t p.span) ps
less_first t end [] = omega arith
less_first t end (p ∷ ps) = omega arith

pub less_next : {i j : Input} → next i ≡ j → Less i j
unfolding next
less_next {i} {j} e = record { most = λ t. let f = ap (among t) e in let g = less_first t i.end i.tokens in omega (arith, f, g) }

pub less_takes : {k : Kind} {i j : Input} → Takes k i j → Less i j
less_takes h = less_next h.next

name_first : (t : Span → Bool) (n : Name) (w : Token) (end : ℕ) (ps : List Placed) (j : Input) → first_token ps ≡ Some w → n.span ≡ record { start = first_start end ps; end = j.end } → after_first end ps ≡ j
    → one_if (t n.span) + among t j ≤ count (λ (p : Placed). t p.span) ps
name_first t n w end [] j e f g = absurd (cc)
name_first t n w end (p ∷ ps) j e f g =
    let span : n.span ≡ p.span = f ∙ ap (λ (i : Input). record { start = p.span.start; end = i.end }) (sym g) in
    let a = ap (λ s. one_if (t s)) span in
    let b = ap (among t) g in
    omega (arith, a, b)

-- a name is one of the tokens
pub less_name : {n : Name} {i j : Input} → IsName n i j → (t : Span → Bool) → one_if (t n.span) + among t j ≤ among t i
unfolding next start token_at between
less_name {n} {i} {j} h t = name_first t n (token.Word n.word) i.end i.tokens j h.token h.span h.next

-- ---- events of a part

pub record Fine (i j : Input) (es : Events) : Type 0 where
  pub plain : Plain es
  pub few : (t : Span → Bool) → count (named t) (uses_in es) + among t j ≤ among t i

abbrev pub AllFine : {A : Type 0} → (A → Events) → Spelling A → Type 0
AllFine {A} f P = (x : A) (i j : Input) → P x i j → Fine i j (f x)

-- a part that uses no names
pub silent : {i j : Input} (es : Events) → Less i j → Plain es → uses_in es ≡ [] → Fine i j es
silent es h p e = record { plain = p; few = λ t. let a = h.most t in let b = ap (count (named t)) e in omega (arith, a, b) }

pub fine_nil : {i j : Input} → Less i j → Fine i j []
fine_nil h = silent [] h plain_nil refl

pub less_of : {i j : Input} {es : Events} → Fine i j es → Less i j
less_of h = record { most = λ t. let a = h.few t in omega (arith, a) }

pub fine_append : {i m j : Input} {es fs : Events} → Fine i m es → Fine m j fs → Fine i j (es ++ fs)
fine_append {i} {m} {j} {es} {fs} h k = record {
  plain = plain_append es fs h.plain k.plain;
  few = λ t.
      let a = h.few t in
      let b = k.few t in
      let c = ap (count (named t)) (flat-append uses es fs) ∙ count-append (named t) (uses_in es) (uses_in fs) in
      omega (arith, a, b, c);
}

-- the events of a part before those of what stands before it
pub fine_exchanged : {i m j : Input} {es fs : Events} → Fine i m es → Fine m j fs → Fine i j (fs ++ es)
fine_exchanged {i} {m} {j} {es} {fs} h k = record {
  plain = plain_append fs es k.plain h.plain;
  few = λ t.
      let a = h.few t in
      let b = k.few t in
      let c = ap (count (named t)) (flat-append uses fs es) ∙ count-append (named t) (uses_in fs) (uses_in es) in
      omega (arith, a, b, c);
}

pub fine_less : {i m j : Input} {es : Events} → Less i m → Fine m j es → Fine i j es
fine_less h k = record { plain = k.plain; few = λ t. let a = h.most t in let b = k.few t in omega (arith, a, b) }

pub fine_end : {i m j : Input} {es : Events} → Fine i m es → Less m j → Fine i j es
fine_end k h = record { plain = k.plain; few = λ t. let a = h.most t in let b = k.few t in omega (arith, a, b) }

-- with events that use no names
pub fine_more : {i j : Input} {es : Events} (fs : Events) → Fine i j es → Plain fs → uses_in fs ≡ [] → Fine i j (es ++ fs)
fine_more {i} {j} {es} fs h p e = fine_append h (silent {i = j} {j = j} fs (less_same refl) p e)

pub fine_next : {i j : Input} {es : Events} (e : Event) → Plain (e ∷ []) → uses e ≡ [] → Fine i j es → Fine i j (e ∷ es)
fine_next {i} {j} {es} e p u h = fine_append {es = e ∷ []} (silent {i = i} {j = i} (e ∷ []) (less_same refl) p (ap (λ us. us ++ []) u)) h

pub fine_scope : {i j : Input} {es : Events} (f : ScopeForm) → Fine i j es → Fine i j (Open f ∷ (es ++ Close ∷ []))
fine_scope {i} {j} {es} f h = record {
  plain = plain_scope f es h.plain;
  few = λ t. let a = h.few t in let b = ap (count (named t)) (flat-append uses es (Close ∷ [])) ∙ count-append (named t) (uses_in es) [] in omega (arith, a, b);
}

pub fine_kept : {i j : Input} {es : Events} (at : Span) → Fine i j es → Fine i j (Open form.Inner ∷ (es ++ Keep at ∷ []))
fine_kept {i} {j} {es} at h = record {
  plain = plain_kept es at h.plain;
  few = λ t. let a = h.few t in let b = ap (count (named t)) (flat-append uses es (Keep at ∷ [])) ∙ count-append (named t) (uses_in es) [] in omega (arith, a, b);
}

pub fine_name : {x : Name} {i j : Input} (n : Need) → IsName x i j → Fine i j (use_alone n x)
fine_name {x} n h = record { plain = plain_use x n []; few = λ t. let a = less_name h t in omega (arith, a) }

pub name_less : {x : Name} {i j : Input} → IsName x i j → Less i j
name_less h = less_next h.next

-- ---- the forms of the grammar

pub chain : {A : Type 0} {f : A → Events} {P : Spelling A} → AllFine f P → AllFine (flat_map f) (Chain P)
chain F [] i j h = fine_nil (less_same h)
chain F (x ∷ xs) i j h = fine_append (F x i h.0 h.1) (chain F xs h.0 j h.2)

pub behind : {A : Type 0} {k : Kind} {f : A → Events} {P : Spelling A} → AllFine f P → AllFine f (Behind k P)
behind F x i j h = fine_less (less_takes h.mark) (F x h.at j h.item)

pub ended : {A : Type 0} {k : Kind} {f : A → Events} {P : Spelling A} → AllFine f P → AllFine f (Ended k P)
ended F x i j h = fine_end (F x i h.mid h.item) (less_takes h.mark)

pub enclosed : {A : Type 0} {a b : Kind} {f : A → Events} {P : Spelling A} → AllFine f P → AllFine f (Enclosed a b P)
enclosed F x i j h = fine_less (less_takes h.opens) (fine_end (F x h.at h.mid h.inside) (less_takes h.closes))

pub several : {A : Type 0} {f : A → Events} {P : Spelling A} → AllFine f P → AllFine (flat_map f) (Several P)
several F [] i j h = absurd h
several F (x ∷ xs) i j h = fine_append (F x i h.0 h.1) (chain F xs h.0 j h.2)

pub separated : {A : Type 0} (k : Kind) {f : A → Events} {P : Spelling A} → AllFine f P → AllFine (flat_map f) (Separated k P)
separated k F [] i j h = absurd h
separated k F (x ∷ xs) i j h = fine_append (F x i h.0 h.1) (chain (behind F) xs h.0 j h.2)

pub lines : {A : Type 0} {f : A → Events} {P : Spelling A} → AllFine f P → AllFine (flat_map f) (Lines P)
lines F = several (ended F)

pub may_be_lines : {A : Type 0} (k : Kind) {f : A → Events} {P : Spelling A} → AllFine f P → AllFine (flat_map f) (MayBeLines k P)
may_be_lines k F [] i j h = fine_nil (less_same h)
may_be_lines k F (x ∷ xs) i j h = behind (lines F) (x ∷ xs) i j h

pub maybe : {A : Type 0} {f : A → Events} {P : Spelling A} → AllFine f P → AllFine (optional f) (Optional P)
maybe F None i j h = fine_nil (less_same h)
maybe F (Some x) i j h = F x i j h

pub less_flag : (k : Kind) (b : Bool) {i j : Input} → Flag k b i j → Less i j
less_flag k false h = less_same h
less_flag k true h = less_takes h

pub less_mark : {O : Type 0} (of : O → Kind) (o : Option O) {i j : Input} → Mark of o i j → Less i j
less_mark of None h = less_same h
less_mark of (Some x) h = less_takes h

-- ---- names that are declared, and names in use

pub less_names : {xs : NameList} {i j : Input} → IsNames xs i j → Less i j
less_names {xs} h = less_of (separated k.Comma {f = λ x. []} (λ x i j h. fine_nil (name_less h)) xs.names _ _ h.names)

pub fine_declared : {i j : Input} (xs : List Name) (k : Denotes) (inside : Inside) → (k ≡ d.State → ⊥) → Less i j → Fine i j (Declare xs k inside ∷ [])
fine_declared xs k inside other h = silent (Declare xs k inside ∷ []) h (plain_declare xs k inside other) refl

pub fine_names : {xs : NameList} {i j : Input} (n : Need) → IsNames xs i j → Fine i j (flat_map (use_alone n) xs.names)
fine_names {xs} n h = separated k.Comma (λ x i j h. fine_name n h) xs.names _ _ h.names
