-- The laws of specifications.
use Rattle.std.proofs.Common.{◌≡◌, ◌<◌, ◌≤◌, ◌+◌, ◌-◌, ℕ, zero, suc, Bool, true, false, List, [], ◌∷◌, length, Ok, Err, sym, refl, ap, ◌∙◌, subst, inl, inr, ◌⊎◌, arith}
use Rattle.std.specs.Prelude.{◌==◌, if◌then◌else◌}
use Rattle.std.proofs.lemmas.Bool.{eqb-true}
use Rattle.estelle_tree.specs.declared.kind.Kind.{Kind}
use Rattle.estelle_tree.specs.declared.kind.Kind.TheVariants as k
use Rattle.estelle_tree.specs.declared.token.Placed.{Placed}
use Rattle.estelle_tree.specs.declared.tree.specification.Spec.{Spec}
use Rattle.estelle_tree.specs.Input.{Input, input, kind, next, left, skip}
use Rattle.estelle_tree.specs.Specification.{IsSpec}
use Rattle.estelle_tree.specs.Spells.{max_nesting, Spells}
use Rattle.estelle_tree.specs.BeginsSpecification.{BeginsSpec, Begins}
use Rattle.estelle_tree.proofs.Cuts.{Out, begun, past}
use Rattle.token_reader.specs.declared.error.ReadError.{ReadError}
use Rattle.token_reader.specs.declared.error.ReadError.TheVariants.{Refused, Memory}
use Rattle.token_reader.specs.Reader.{ReadResult, and_then, pure, refusal, refuse, ◌>>◌, expect, name}
use Rattle.token_reader.specs.Lists.{optional}
use Rattle.token_reader.proofs.Sound.{Sound, through, answered, ok_pair}
use Rattle.syntax_forms.specs.Form as form
use Rattle.syntax_forms.specs.Form.{◌▸◌}
use Rattle.syntax_forms.specs.Repeats as repeats
use Rattle.syntax_forms.specs.Reading.{one}
use Rattle.syntax_forms.specs.Onward.{Below}
use Rattle.syntax_forms.specs.Placed.{stop, Begun, Placed as IsPlaced}
use Rattle.syntax_forms.proofs.Local.{reach_left}
use Rattle.syntax_forms.proofs.Numbers.{skip_left, place_of}
use Rattle.syntax_forms.proofs.Prefixes as prefixes
use Rattle.syntax_forms.proofs.Prefixes.{Shut}
use Rattle.syntax_forms.proofs.Steps.{stays, refuses}
use Rattle.syntax_forms.proofs.Placing.{same, on_more, stop_more, refused_by}
use Rattle.syntax_forms.proofs.NodeForms.{IsNode}
use Rattle.syntax_forms.proofs.Lawful.{IsRead, IsLawful}
use Rattle.syntax_forms.proofs.Rules as rules
use Rattle.syntax_forms.proofs.KindLaws.{agree}
use Rattle.syntax_forms.proofs.Firsts.{alike}
use Rattle.declaration_parser.specs.Attributes.{begins_sys_attr, sys_attr, heads}
use Rattle.declaration_parser.specs.Productions as declarations
use Rattle.declaration_parser.proofs.Attributes.{sys_attr_lawful, heads_lawful}
use Rattle.estelle_parser.specs.Bodies.{parts}
use Rattle.estelle_parser.specs.Forms as forms
use Rattle.estelle_parser.specs.Whole.{specification, finish, whole}
use Rattle.estelle_parser.specs.Answers.{AreTokens, IsFirstRefused}
use Rattle.estelle_parser.proofs.BodyForms.{before_end, near_below, parts_at, parts_at_lawful}
use Rattle.estelle_parser.proofs.Begins.{specification_begins}

none_left : (n : ℕ) → (n == 0) ≡ true → n ≡ 0
none_left zero e = refl
none_left (suc n) e = eqb-true (suc n) 0 e

no_tokens : (tokens : List Placed) → length tokens ≡ 0 → tokens ≡ []
no_tokens [] e = refl
no_tokens (t ∷ ts) e = absurd (omega arith)

-- the end of the tokens is one place, but for where the last one ends
pub at_end : (i : Input) → left i ≡ 0 → i ≡ input [] i.end
unfolding left
at_end i e = ap (λ tokens. input tokens i.end) (no_tokens i.tokens e)

apart : (o : ReadResult Spec) (e : ReadError) (s : Spec) (j : Input) → o ≡ Err e → o ≡ Ok (s, j) → ⊥
apart o e s j refused found = cc

-- `[SysAttr]`
attr_read : IsRead (repeats.may declarations.sys_attr) (one (optional begins_sys_attr sys_attr))
attr_read = rules.may begins_sys_attr sys_attr_lawful refl (agree begins_sys_attr declarations.sys_attr.first refl) (λ i s. takes i (kind i) refl s) refl
  where
    takes : (i : Input) (x : Kind) → kind i ≡ x → declarations.sys_attr.first x ≡ true → declarations.sys_attr.begins i (next i)
    takes i k.Systemprocess e s = inl (inr (record { kind = e; next = refl }))
    takes i k.Systemactivity e s = inr (inr (record { kind = e; next = refl }))
    takes i _ e s = absurd (cc)

module _ (room : ℕ) where
  -- Spec = specification NAME [SysAttr] ";" {Head} Parts end "."
  pub specification_lawful : IsLawful (forms.specification room) (specification room)
  unfolding specification
  specification_lawful =
      rules.spanned (specification room) told refl (rules.and (rules.word k.Specification refl) (rules.and rules.name (rules.and attr_read (rules.and (rules.word k.Semicolon refl) (rules.and (rules.part heads_lawful)
      (rules.and (rules.part (parts_at_lawful (suc room))) (rules.and (rules.word k.End refl) (rules.word k.Dot refl) refl) refl) refl) refl) refl) refl) refl).rest
      (λ i. alike (expect k.Specification i) _ _ (λ u a. alike (name a) _ _ (λ n b. alike (optional begins_sys_attr sys_attr b) _ _ (λ at c. alike (expect k.Semicolon c) _ _ (λ v d. alike (heads d) _ _ (λ hs e.
      before_end (parts room e) (parts_at (suc room) e) _ (near_below (suc room) e)))))))
    where
      told : IsNode (IsSpec room) (form.word k.Specification ▸ form.name ▸ repeats.may declarations.sys_attr ▸ form.word k.Semicolon ▸ declarations.heads ▸ forms.parts_below (suc room) ▸ form.word k.End ▸ form.word k.Dot).spells
          (λ p span. record { name = p.1.0; attr = p.1.1.0; heads = p.1.1.1.1.0; parts = p.1.1.1.1.1.0; span = span })
      told = record {
        opened = λ i m s h. (
          (tt, (s.name, (s.attr, (tt, (s.heads, (s.parts, (tt, tt))))))),
          (h.name.at, h.name.mark, (h.after_name, h.name.item, (h.after_attr, h.attr, (h.after_head, h.semicolon, (h.after_heads, h.heads, (h.after_parts, h.parts, (h.after_end, h.ends, h.dot))))))),
          ap (λ span. record { name = s.name; attr = s.attr; heads = s.heads; parts = s.parts; span = span }) (sym h.span),
        );
        made = λ i m p (a, t, (b, n, (c, at, (d, semicolon, (e, hs, (f, ps, (g, ends, dot))))))). record {
          after_name = b;
          after_attr = c;
          after_head = d;
          after_heads = e;
          after_parts = f;
          after_end = g;
          name = record { at = a; mark = t; item = n };
          attr = at;
          semicolon = semicolon;
          heads = hs;
          parts = ps;
          ends = ends;
          dot = dot;
          span = refl;
        };
      }

  finished : (i j : Input) (u : Unit {0}) → finish i ≡ Ok (u, j) → (left i ≡ 0) × (i ≡ j)
  unfolding finish
  finished i j u h = go (left i == 0) refl h
    where
      go : (b : Bool) → (left i == 0) ≡ b → (if b then pure tt i else refuse i) ≡ Ok (u, j) → (left i ≡ 0) × (i ≡ j)
      go true e h = (none_left (left i) e, ap (λ p. p.1) (ok_pair tt u i j h))
      go false e h = absurd (cc)

  -- a whole list of tokens
  abbrev pub IsWhole : Spec → Input → Input → Type 0
  IsWhole s i j = IsSpec room s i j × (left j ≡ 0)

  pub whole_sound : Sound (whole room) IsWhole
  unfolding whole
  whole_sound i j s h =
      through (specification room i) _ _ h (λ t a is h.
      through (finish a) _ _ h (λ u b done h.
      let end = finished a b u done in
      answered IsWhole i j b t s (subst (λ b. IsWhole t i b) end.1 (specification_lawful.sound i a t is, end.0)) h))

  pub whole_complete : (i j : Input) (s : Spec) → IsSpec room s i j → left j ≡ 0 → whole room i ≡ Ok (s, j)
  unfolding whole finish
  whole_complete i j s h none = rw (specification_lawful.complete i j s h refl, none)

  -- ---- the place of a refusal

  -- each prefix of what begins a specification begins one
  specification_shut : Shut (BeginsSpec room)
  specification_shut = prefixes.alike (specification_begins room).to (specification_begins room).back specification_lawful.form.shut

  -- behind a specification no token is taken, and one may be refused
  behind : (s : Spec) (a : Input) → ((finish >> pure s) a ≡ Ok (s, a)) ⊎ ((finish >> pure s) a ≡ Err (Refused (left a)))
  unfolding finish refusal
  behind s a = by (left a == 0)
    where
      by : (b : Bool) → (and_then (if b then pure tt a else refuse a) (λ (u : Unit {0}). pure s) ≡ Ok (s, a)) ⊎ (and_then (if b then pure tt a else refuse a) (λ (u : Unit {0}). pure s) ≡ Err (Refused (left a)))
      by true = inl refl
      by false = inr refl

  -- it takes no less than the longest beginning of a specification, and refuses only behind one
  pub whole_placed : (i : Input) → IsPlaced (BeginsSpec room) i (whole room i)
  unfolding whole refusal
  whole_placed i = same (forms.specification room).begins (BeginsSpec room) i (whole room i) (λ m b. (specification_begins room).to i m b) (λ m b. (specification_begins room).back i m b) (record { on = on; longest = longest; begun = begun })
    where
      read : IsPlaced (forms.specification room).begins i (specification room i)
      read = specification_lawful.placed i

      there : (s : Spec) (a : Input) → specification room i ≡ Ok (s, a) → Below a (suc (left a)) ((finish >> pure s) a)
      there s a e = by (behind s a)
        where
          by : ((finish >> pure s) a ≡ Ok (s, a)) ⊎ ((finish >> pure s) a ≡ Err (Refused (left a))) → Below a (suc (left a)) ((finish >> pure s) a)
          by (inl e) = subst (λ (o : ReadResult Spec). Below a (suc (left a)) o) (sym e) (stays s a)
          by (inr e) = subst (λ (o : ReadResult Spec). Below a (suc (left a)) o) (sym e) (refuses a)

      on : Below i (suc (left i)) (whole room i)
      on = on_more i (suc (left i)) (specification room i) (λ s. finish >> pure s) read.on there

      longest : (m : Input) → (forms.specification room).begins i m → stop (whole room i) ≤ left m
      longest m b =
          let less : stop (whole room i) ≤ stop (specification room i) = stop_more (specification room i) (λ s. finish >> pure s) there in
          let short = read.longest m b in
          omega arith

      begun : (l : ℕ) → whole room i ≡ Err (Refused l) → Begun (forms.specification room).begins i l
      begun l e = refused_by (specification room i) (λ s. finish >> pure s) l e (read.begun l) (λ s a is r. by s a is r (behind s a))
        where
          by : (s : Spec) (a : Input) → specification room i ≡ Ok (s, a) → (finish >> pure s) a ≡ Err (Refused l) → ((finish >> pure s) a ≡ Ok (s, a)) ⊎ ((finish >> pure s) a ≡ Err (Refused (left a))) → Begun (forms.specification room).begins i l
          by s a is r (inl ends) = absurd (let no : Ok (s, a) ≡ Err (Refused l) = sym ends ∙ r in cc)
          by s a is r (inr stops) =
              let spelled = specification_lawful.sound i a s is in
              let same : Err (Refused (left a)) ≡ Err (Refused l) = sym stops ∙ r in
              let count : left a ≡ l = cc in
              record { at = a; reach = specification_lawful.form.reach i a s spelled; begins = specification_lawful.form.whole i a s spelled; count = count }

-- ---- the first token that goes on with nothing

module _ (tokens : List Placed) (l : ℕ) (refused : whole 200 (input tokens 0) ≡ Err (Refused l)) where
  stopped : IsPlaced (BeginsSpec 200) (input tokens 0) (whole 200 (input tokens 0))
  stopped = whole_placed 200 (input tokens 0)

  piece : Begun (BeginsSpec 200) (input tokens 0) l
  piece = stopped.begun l refused

  fits : l ≤ length tokens
  unfolding left
  fits =
      let below : Below {A = Spec} (input tokens 0) (suc (left (input tokens 0))) (Err (Refused l)) = subst (λ (o : ReadResult Spec). Below (input tokens 0) (suc (left (input tokens 0))) o) refused stopped.on in
      let less : l < suc (left (input tokens 0)) = below.fits in
      let all : left (input tokens 0) ≡ length tokens = refl in
      omega arith

  there : (n : ℕ) → n + l ≡ length tokens → BeginsSpec 200 (input tokens 0) (skip n (input tokens 0))
  there n count = subst (λ j. BeginsSpec 200 (input tokens 0) j) (place_of tokens 0 piece.at n (omega arith) piece.reach (ap (λ l. n + l) piece.count ∙ count)) piece.begins

  -- a cut before the end of what begins a sentence
  cut : (m n : ℕ) → m ≤ n → n ≤ length tokens → BeginsSpec 200 (input tokens 0) (skip n (input tokens 0)) → BeginsSpec 200 (input tokens 0) (skip m (input tokens 0))
  cut m n less inside b = by (specification_shut 200 (input tokens 0) (skip n (input tokens 0)) (skip m (input tokens 0)) b (m, refl))
    where
      by : Out (BeginsSpec 200) (input tokens 0) (skip n (input tokens 0)) (skip m (input tokens 0)) → BeginsSpec 200 (input tokens 0) (skip m (input tokens 0))
      by (begun b) = b
      by (past r) =
          let lefts = reach_left (skip n (input tokens 0)) (skip m (input tokens 0)) r in
          let here = skip_left m tokens 0 (omega arith) in
          let end = skip_left n tokens 0 inside in
          let same : n ≡ m = omega arith in
          subst (λ n. BeginsSpec 200 (input tokens 0) (skip n (input tokens 0))) same b

  pub first_refused : IsFirstRefused tokens (length tokens - l)
  unfolding Begins max_nesting
  first_refused = record {
    inside = omega arith;
    before = λ m less. let inside = fits in cut m (length tokens - l) less (omega arith) (there (length tokens - l) (omega arith));
    behind = λ m more inside b.
        let short : stop (whole 200 (input tokens 0)) ≤ left (skip m (input tokens 0)) = stopped.longest (skip m (input tokens 0)) b in
        let stops : stop (whole 200 (input tokens 0)) ≡ l = ap (λ (o : ReadResult Spec). stop o) refused in
        let here = skip_left m tokens 0 inside in
        let within = fits in
        omega arith;
  }

-- ---- lists of tokens

module _ (tokens : List Placed) (i : Input) (at : i ≡ input tokens 0) where
  -- where it is refused with so many tokens left
  pub wrong : (l : ℕ) → whole 200 i ≡ Err (Refused l) → IsFirstRefused tokens (length tokens - l)
  wrong l e = first_refused tokens l (subst (λ i. whole 200 i ≡ Err (Refused l)) at e)

  pub spelled : (s : Spec) (j : Input) → AreTokens tokens → whole 200 i ≡ Ok (s, j) → Spells s tokens
  unfolding max_nesting
  spelled s j forms h =
      let is = whole_sound 200 i j s h in
      record { forms = forms; end = j.end; whole = subst (λ i. IsSpec 200 s i (input [] j.end)) at (subst (λ j. IsSpec 200 s i j) (at_end j is.1) is.0) }

  read : (s : Spec) (h : Spells s tokens) → whole 200 i ≡ Ok (s, input [] h.end)
  unfolding max_nesting left
  read s h = whole_complete 200 i (input [] h.end) s (subst (λ i. IsSpec 200 s i (input [] h.end)) (sym at) h.whole) refl

  pub no_other : (s t : Spec) (j : Input) → whole 200 i ≡ Ok (s, j) → Spells t tokens → s ≡ t
  no_other s t j h is = ap (λ p. p.0) (ok_pair s t j (input [] is.end) (sym h ∙ read t is))

  pub none_refused : (t : Spec) (e : ReadError) → whole 200 i ≡ Err e → Spells t tokens → ⊥
  none_refused t e h is = apart (whole 200 i) e t (input [] is.end) h (read t is)

pub one_tree : (s t : Spec) (tokens : List Placed) → Spells s tokens → Spells t tokens → s ≡ t
one_tree s t tokens a b = no_other tokens (input tokens 0) refl s t (input [] a.end) (read tokens (input tokens 0) refl s a) b

-- a list of tokens is spelled by a tree, or by none, and then has a first one that is refused
pub tree_or_place : (tokens : List Placed) → AreTokens tokens → ((s : Spec) × Spells s tokens) ⊎ (((s : Spec) → Spells s tokens → ⊥) × ((n : ℕ) × IsFirstRefused tokens n))
tree_or_place tokens forms = by (whole 200 (input tokens 0)) refl
  where
    gone : whole 200 (input tokens 0) ≡ Err Memory → ⊥
    gone e =
        let below : Below {A = Spec} (input tokens 0) (suc (left (input tokens 0))) (Err Memory) = subst (λ (o : ReadResult Spec). Below (input tokens 0) (suc (left (input tokens 0))) o) e (whole_placed 200 (input tokens 0)).on in
        below.fits

    by : (o : ReadResult Spec) → whole 200 (input tokens 0) ≡ o → ((s : Spec) × Spells s tokens) ⊎ (((s : Spec) → Spells s tokens → ⊥) × ((n : ℕ) × IsFirstRefused tokens n))
    by (Ok (s, j)) e = inl (s, spelled tokens (input tokens 0) refl s j forms e)
    by (Err (Refused l)) e = inr ((λ s h. none_refused tokens (input tokens 0) refl s (Refused l) e h), (length tokens - l, first_refused tokens l e))
    by (Err Memory) e = absurd (gone e)

-- and there is one such number
pub one_place : (tokens : List Placed) (m n : ℕ) → IsFirstRefused tokens m → IsFirstRefused tokens n → m ≡ n
one_place tokens m n a b = by (least m n)
  where
    least : (m n : ℕ) → (m < n) ⊎ ((n < m) ⊎ (m ≡ n))
    least zero zero = inr (inr refl)
    least zero (suc n) = inl (omega arith)
    least (suc m) zero = inr (inl (omega arith))
    least (suc m) (suc n) = up (least m n)
      where
        up : (m < n) ⊎ ((n < m) ⊎ (m ≡ n)) → (suc m < suc n) ⊎ ((suc n < suc m) ⊎ (suc m ≡ suc n))
        up (inl h) = inl (omega arith)
        up (inr (inl h)) = inr (inl (omega arith))
        up (inr (inr e)) = inr (inr (omega arith))

    by : (m < n) ⊎ ((n < m) ⊎ (m ≡ n)) → m ≡ n
    by (inl less) = let inside = b.inside in absurd (a.behind (suc m) (omega arith) (omega arith) (b.before (suc m) (omega arith)))
    by (inr (inl less)) = let inside = a.inside in absurd (b.behind (suc n) (omega arith) (omega arith) (a.before (suc n) (omega arith)))
    by (inr (inr e)) = e
