-- The laws of initializations, transitions and bodies: the forms are read by their parsers.
use Rattle.std.proofs.Common.{◌≡◌, ◌<◌, ◌≤◌, ℕ, zero, suc, Bool, true, false, List, [], ◌∷◌, ◌++◌, Option, Some, None, Ok, Err, sym, refl, ap, ◌∙◌, subst, inl, inr, ◌⊎◌, arith}
use Rattle.std.specs.Prelude.{◌==◌, ◌&&◌, not, if◌then◌else◌}
use Rattle.estelle_tree.specs.declared.kind.Kind.{Kind}
use Rattle.estelle_tree.specs.declared.kind.Kind.TheVariants as k
use Rattle.estelle_tree.specs.declared.span.Span.{Span}
use Rattle.estelle_tree.specs.declared.tree.name.Name.{Name}
use Rattle.estelle_tree.specs.declared.tree.declaration.Routine.{Routine}
use Rattle.estelle_tree.specs.declared.tree.specification.Body.{Body, out-Body, roll-Body}
use Rattle.estelle_tree.specs.declared.tree.specification.Decl.{Decl, out-Decl, roll-Decl}
use Rattle.estelle_tree.specs.declared.tree.specification.Decl.TheVariants as a_decl
use Rattle.estelle_tree.specs.declared.tree.specification.Decl.TheVariants.{outs-Body, outs-Routine, rolls-Body, rolls-Routine}
use Rattle.estelle_tree.specs.declared.tree.specification.Decl.TheOpen.{Decl-F}
use Rattle.estelle_tree.specs.declared.tree.specification.Decl.TheViews.{roll-out-Decl, roll-out-Body, roll-out-Parts}
use Rattle.estelle_tree.specs.declared.tree.specification.Init.{Init}
use Rattle.estelle_tree.specs.declared.tree.specification.Parts.{Parts, out-Parts, roll-Parts}
use Rattle.estelle_tree.specs.declared.tree.specification.Trans.{Trans}
use Rattle.estelle_tree.specs.Input.{Input, kind, next, left, start, over}
use Rattle.estelle_tree.specs.Spans.{DeclLayer}
use Rattle.estelle_tree.specs.Spelling.{Spelling, Takes}
use Rattle.estelle_tree.specs.Beginning.{Beginning}
use Rattle.estelle_tree.specs.Specification.{IsInit, IsTrans, BodyOf, DeclLayerOf, DeclOf, PartsOf, PartsBelow}
use Rattle.token_reader.specs.Reader.{Parser, ReadResult, and_then, pure, refusal, refuse, ◌>>=◌, span_over, expect, name}
use Rattle.token_reader.proofs.Sound.{Sound, ok_pair}
use Rattle.token_reader.proofs.Complete.{Complete}
use Rattle.token_reader.specs.Lists.{optional_if, optional, behind, turn, repeated_from, repeated}
use Rattle.syntax_forms.specs.Kinds.{is}
use Rattle.syntax_forms.specs.Form as form
use Rattle.syntax_forms.specs.Form.{◌▸◌, ◌⊕◌}
use Rattle.syntax_forms.specs.Repeats as repeats
use Rattle.syntax_forms.specs.Reading.{Reading, one, ◌then◌, chosen, choose, opening, enclosed}
use Rattle.syntax_forms.specs.Placed.{stop, Placed}
use Rattle.syntax_forms.proofs.Local.{reach_left}
use Rattle.syntax_forms.proofs.KindLaws.{is_it, both_of, not_true, when, apart, within, agree}
use Rattle.syntax_forms.proofs.ChoiceForms.{some_room, has_room, chosen_one, chosen_other}
use Rattle.syntax_forms.proofs.StepForms.{IsStep, told_step, many_read}
use Rattle.syntax_forms.proofs.NodeForms.{IsSpanned, IsNode, known_lawful, never_lawful}
use Rattle.syntax_forms.proofs.Lawful.{begins_so, Ends, IsRead, IsLawful}
use Rattle.syntax_forms.proofs.Rules as rules
use Rattle.syntax_forms.proofs.Words.{takes_first, refused}
use Rattle.syntax_forms.proofs.Firsts.{alike, kept}
use Rattle.syntax_forms.proofs.SeveralForms.{as_none}
use Rattle.type_parser.proofs.TypeForms.{names_lawful}
use Rattle.statement_parser.specs.Forms as statements
use Rattle.statement_parser.specs.Forms.{Word}
use Rattle.statement_parser.specs.Routine.{routine}
use Rattle.statement_parser.proofs.RoutineForms.{routine_lawful}
use Rattle.declaration_parser.specs.Forms.{joined}
use Rattle.declaration_parser.specs.Declarations.{plain_decl}
use Rattle.declaration_parser.specs.Plain.{IsPlainLayer}
use Rattle.declaration_parser.specs.Productions as declarations
use Rattle.declaration_parser.proofs.Forms.{joined_lawful}
use Rattle.declaration_parser.proofs.Declarations.{ip_decl_lawful, modvar_decl_lawful, stateset_def_lawful, plain_decl_lawful}
use Rattle.clause_parser.specs.Forms as clauses
use Rattle.clause_parser.proofs.BlockForms.{block_lawful}
use Rattle.clause_parser.proofs.GroupForms.{trans_body_lawful}
use Rattle.estelle_parser.specs.Bodies.{begins_decl, begins_init, begins_trans, opens, body_over, body_part, init, trans, routine_part, decl_by, decl_over, parts_over, parts_below}
use Rattle.estelle_parser.specs.Forms as forms
use Rattle.estelle_parser.specs.Forms.{begins_parts, goes_on_parts, BeginsBelow}

-- `[to NAME]`
state_read : IsRead (repeats.may forms.state) (one (behind k.To name))
state_read = rules.behind name k.To refl rules.name

-- `NAME for NAME`
for_lawful : IsLawful (declarations.joined k.For form.name form.name) (joined k.For name name)
for_lawful = joined_lawful name name k.For refl rules.name rules.name refl

-- the word that opens a level comes first
opens_same : {C : Type 0} (room : ℕ) (word : Kind) (f : Unit {0} → Parser C) (i : Input) → and_then (opens room word i) f ≡ opening room (expect word >>= f) i
unfolding opens
opens_same {C} room word f i = by (room == 0)
  where
    by : (b : Bool) → and_then ((if b then refuse else expect word) i) f ≡ (if b then refuse else (expect word >>= f)) i
    by true = refl
    by false = refl

-- Where this many more levels of nesting may open.
module _ (room : ℕ) where
  -- Init = initialize [to NAME] Block
  pub init_lawful : IsLawful (forms.init room) (init room)
  unfolding init
  init_lawful = rules.spanned (init room) told refl (rules.and (rules.word k.Initialize refl) (rules.and state_read (rules.part (block_lawful room)) refl) refl).rest (λ i. refl)
    where
      told : IsNode (IsInit room) (form.word k.Initialize ▸ repeats.may forms.state ▸ clauses.block room).spells (λ p span. record { to = p.1.0; block = p.1.1; span = span })
      told = record {
        opened = λ i m x h. ((tt, (x.to, x.block)), (h.at, h.word, (h.mid, h.to, h.block)), ap (λ span. record { to = x.to; block = x.block; span = span }) (sym h.span));
        made = λ i m p h. record { at = h.0; mid = h.2.0; word = h.1; to = h.2.1; block = h.2.2; span = refl };
      }

  -- `trans TransBody`
  pub trans_lawful : IsLawful (forms.trans room) (trans room)
  unfolding trans
  trans_lawful = rules.spanned (trans room) told refl (rules.and (rules.word k.Trans refl) (rules.part (trans_body_lawful room)) refl).rest (λ i. refl)
    where
      told : IsNode (IsTrans room) (form.word k.Trans ▸ clauses.trans_body room).spells (λ p span. record { body = p.1; span = span })
      told = record {
        opened = λ i m t h. ((tt, t.body), (h.body.at, h.body.mark, h.body.item), ap (λ span. record { body = t.body; span = span }) (sym h.span));
        made = λ i m p h. record { body = record { at = h.0; mark = h.1; item = h.2 }; span = refl };
      }

  init_read : IsRead (repeats.may (forms.init room)) (one (optional begins_init (init room)))
  init_read = rules.may begins_init init_lawful refl (agree begins_init (forms.init room).first refl) (λ i s. inr (next i, takes_first (forms.init room) k.Initialize refl i s, inl ((block_lawful room).form.nothing (next i)))) refl

  transitions_read : IsRead (repeats.many (forms.trans room)) (one (repeated (optional begins_trans (trans room)) []))
  transitions_read = rules.many begins_trans trans_lawful refl (agree begins_trans (forms.trans room).first refl) (λ i s. inr (next i, takes_first (forms.trans room) k.Trans refl i s, (trans_body_lawful room).form.nothing (next i))) refl refl

-- What a body, a declaration and the parts of a body are made of, and the three.
make_body : (Name × Name) × (Word × (Parts × (Word × Word))) → Span → Body
make_body x span = roll-Body (record { name = x.0.0; header = x.0.1; parts = x.1.1.0; span = span })

make_decl : Body ⊎ (Routine ⊎ Decl) → Decl
make_decl (inl b) = a_decl.Body b
make_decl (inr (inl r)) = a_decl.Routine r
make_decl (inr (inr d)) = d

make_parts : List Decl × (Option Init × List Trans) → Span → Parts
make_parts x span = roll-Parts (record { decls = x.0; init = x.1.0; trans = x.1.1; span = span })

-- where this terminal comes, a declaration can stand: a body only where a level may open
abbrev can_begin : ℕ → Kind → Bool
can_begin room x = begins_decl x && not (is k.Body x && (room == 0))

-- Over the parser of the parts of a body in it.
module _ (room : ℕ) (p : Parser Parts) where
  abbrev decl_or_none : Parser (Option Decl)
  decl_or_none i = optional_if (can_begin room (kind i)) (decl_over room p) i

  -- the parts of a body, where a body that cannot stand ends them
  pub parts_where : Parser Parts
  parts_where i = (one (repeated decl_or_none []) then one (optional begins_init (init room)) then one (repeated (optional begins_trans (trans room)) [])) Parts (enclosed make_parts i) i

-- Over what the parts of a body in it spell.
module _ (room : ℕ) (P : Spelling Parts) where
  plain_layer : (l : DeclLayer) (i j : Input) → IsPlainLayer room l i j → DeclLayerOf room P l i j
  plain_layer (Decl-F.Const defs span) i j h = h
  plain_layer (Decl-F.Types defs span) i j h = h
  plain_layer (Decl-F.Channel c) i j h = h
  plain_layer (Decl-F.Header x) i j h = h
  plain_layer (Decl-F.Body b) i j h = absurd h
  plain_layer (Decl-F.Ip ips span) i j h = h
  plain_layer (Decl-F.Modvar ms span) i j h = h
  plain_layer (Decl-F.Var vars span) i j h = h
  plain_layer (Decl-F.State states span) i j h = h
  plain_layer (Decl-F.Stateset sets span) i j h = h
  plain_layer (Decl-F.Routine r) i j h = absurd h

  module _ (B : Beginning) (p : Parser Parts) (law : IsLawful (forms.below room P B) p) where
    -- Body = body NAME for NAME ";" Parts end ";", which opens a level
    body_lawful : IsLawful (forms.body room P B) (body_over room p)
    unfolding body_over make_body
    body_lawful =
        rules.spanned (body_over room p) told refl (rules.level room k.Body refl (rules.and (rules.part for_lawful) (rules.and (rules.word k.Semicolon refl) (rules.and (rules.part law) (rules.and (rules.word k.End refl) (rules.word k.Semicolon refl) refl) refl) refl) refl)).rest
        (λ i. opens_same room k.Body _ i)
      where
        told : IsNode (BodyOf room P) (forms.body_parts room P B).spells make_body
        told = record {
          opened = λ i m b h.
              let r = out-Body b in
              (((r.name, r.header), (tt, (r.parts, (tt, tt)))), (h.fits, (h.after_word, h.word, (h.after_names, h.names, (h.after_head, h.semicolon, (h.after_parts, h.parts, (h.after_end, h.ends, h.last)))))), ap (λ span. roll-Body (record { name = r.name; header = r.header; parts = r.parts; span = span })) (sym h.span) ∙ roll-out-Body b);
          made = λ i m x h. let r = h.1 in record {
            after_word = r.0;
            after_names = r.2.0;
            after_head = r.2.2.0;
            after_parts = r.2.2.2.0;
            after_end = r.2.2.2.2.0;
            fits = h.0;
            word = r.1;
            names = r.2.1;
            semicolon = r.2.2.1;
            parts = r.2.2.2.1;
            ends = r.2.2.2.2.1;
            last = r.2.2.2.2.2;
            span = refl;
          };
        }

    -- ---- declarations

    abbrev read_other : Reading (Routine ⊎ Decl)
    read_other = choose (statements.routine room).first (one (routine room)) (one (plain_decl room))

    other_read : IsRead (statements.routine room ⊕ declarations.plain_decl room) read_other
    other_read = rules.or (rules.part (routine_lawful room)) (rules.part (plain_decl_lawful room)) refl refl

    decl_is : IsNode (DeclOf room P) (forms.body room P B ⊕ statements.routine room ⊕ declarations.plain_decl room).spells (λ x span. make_decl x)
    unfolding make_decl
    decl_is = record { opened = λ i m d h. of i m d (out-Decl d) refl h; made = made }
      where
        of : (i m : Input) (d : Decl) (l : DeclLayer) → out-Decl d ≡ l → DeclLayerOf room P l i m
            → (x : Body ⊎ (Routine ⊎ Decl)) × (forms.body room P B ⊕ statements.routine room ⊕ declarations.plain_decl room).spells x i m × (make_decl x ≡ d)
        of i m d (Decl-F.Body b) e h = (inl b, h, sym (rolls-Body b) ∙ (ap roll-Decl (sym e) ∙ roll-out-Decl d))
        of i m d (Decl-F.Routine r) e h = (inr (inl r), h, sym (rolls-Routine r) ∙ (ap roll-Decl (sym e) ∙ roll-out-Decl d))
        of i m d (Decl-F.Const defs span) e h = (inr (inr d), subst (λ l. IsPlainLayer room l i m) (sym e) h, refl)
        of i m d (Decl-F.Types defs span) e h = (inr (inr d), subst (λ l. IsPlainLayer room l i m) (sym e) h, refl)
        of i m d (Decl-F.Channel c) e h = (inr (inr d), subst (λ l. IsPlainLayer room l i m) (sym e) h, refl)
        of i m d (Decl-F.Header x) e h = (inr (inr d), subst (λ l. IsPlainLayer room l i m) (sym e) h, refl)
        of i m d (Decl-F.Ip ips span) e h = (inr (inr d), subst (λ l. IsPlainLayer room l i m) (sym e) h, refl)
        of i m d (Decl-F.Modvar ms span) e h = (inr (inr d), subst (λ l. IsPlainLayer room l i m) (sym e) h, refl)
        of i m d (Decl-F.Var vars span) e h = (inr (inr d), subst (λ l. IsPlainLayer room l i m) (sym e) h, refl)
        of i m d (Decl-F.State states span) e h = (inr (inr d), subst (λ l. IsPlainLayer room l i m) (sym e) h, refl)
        of i m d (Decl-F.Stateset sets span) e h = (inr (inr d), subst (λ l. IsPlainLayer room l i m) (sym e) h, refl)

        made : (i m : Input) (x : Body ⊎ (Routine ⊎ Decl)) → (forms.body room P B ⊕ statements.routine room ⊕ declarations.plain_decl room).spells x i m → DeclOf room P (make_decl x) i m
        made i m (inl b) h = subst (λ l. DeclLayerOf room P l i m) (sym (outs-Body b)) h
        made i m (inr (inl r)) h = subst (λ l. DeclLayerOf room P l i m) (sym (outs-Routine r)) h
        made i m (inr (inr d)) h = plain_layer (out-Decl d) i m h

    -- the next terminal selects
    by_terminal : (x : Kind) → decl_by room p x ≡ chosen ((forms.body room P B).first x) (body_part room p) (chosen ((statements.routine room).first x) (routine_part room) (plain_decl room))
    by_terminal k.Body = refl
    by_terminal k.Procedure = refl
    by_terminal k.Function = refl
    by_terminal _ = refl

    decl_same : (i : Input) → decl_over room p i ≡ choose (forms.body room P B).first (one (body_over room p)) read_other Decl (λ x. pure (make_decl x)) i
    unfolding decl_over body_part routine_part make_decl
    decl_same i = ap (λ (q : Parser Decl). q i) (by_terminal (kind i)) ∙ by ((forms.body room P B).first (kind i)) refl ((statements.routine room).first (kind i)) refl
      where
        other : (forms.body room P B).first (kind i) ≡ false → choose (forms.body room P B).first (one (body_over room p)) read_other Decl (λ x. pure (make_decl x)) i ≡ read_other Decl (λ x. pure (make_decl (inr x))) i
        other e = chosen_other (forms.body room P B).first (one (body_over room p)) read_other (λ x. pure (make_decl x)) i e

        by : (b : Bool) → (forms.body room P B).first (kind i) ≡ b → (r : Bool) → (statements.routine room).first (kind i) ≡ r
            → chosen b (body_part room p) (chosen r (routine_part room) (plain_decl room)) i ≡ choose (forms.body room P B).first (one (body_over room p)) read_other Decl (λ x. pure (make_decl x)) i
        by true e r f = sym (chosen_one (forms.body room P B).first (one (body_over room p)) read_other (λ x. pure (make_decl x)) i e)
        by false e true f = sym (other e ∙ chosen_one (statements.routine room).first (one (routine room)) (one (plain_decl room)) (λ x. pure (make_decl (inr x))) i f)
        by false e false f = kept (plain_decl room i) ∙ sym (other e ∙ chosen_other (statements.routine room).first (one (routine room)) (one (plain_decl room)) (λ x. pure (make_decl (inr x))) i f)

    decl_lawful : IsLawful (forms.decl room P B) (decl_over room p)
    decl_lawful = rules.made (decl_over room p) decl_is (rules.or (rules.part body_lawful) other_read refl refl).rest decl_same

    -- a declaration, or nothing
    decl_step : IsStep (forms.decl room P B) (decl_or_none room p)
    decl_step =
        told_step (forms.decl room P B) (decl_over room p) decl_lawful (decl_or_none room p) (λ i. can_begin room (kind i)) (λ i e. ap (λ b. optional_if b (decl_over room p) i) e) (λ i e. ap (λ b. optional_if b (decl_over room p) i) e)
        (λ i m d h. let o = decl_is.opened i m d h in spelled i m o.0 o.1) quiet first (λ i e. piece (kind i) i refl e) token
      where
        can : (x : Kind) → begins_decl x ≡ true → is k.Body x ≡ false → can_begin room x ≡ true
        can x e differs = rw (e, differs) refl

        other : (x : Kind) → (statements.routine room ⊕ declarations.plain_decl room).first x ≡ true → can_begin room x ≡ true
        other x s = can x (within (statements.routine room ⊕ declarations.plain_decl room).first begins_decl refl x s) (when (is k.Body x) (apart (statements.routine room ⊕ declarations.plain_decl room).first (is k.Body) refl x s))

        fits_so : (i : Input) → kind i ≡ k.Body → 0 < room → can_begin room (kind i) ≡ true
        fits_so i e fits = ap (can_begin room) e ∙ ap not (some_room room fits)

        spelled : (i m : Input) (x : Body ⊎ (Routine ⊎ Decl)) → (forms.body room P B ⊕ statements.routine room ⊕ declarations.plain_decl room).spells x i m → can_begin room (kind i) ≡ true
        spelled i m (inl b) h = fits_so i h.word.kind h.fits
        spelled i m (inr x) h = other (kind i) (begins_so (statements.routine room ⊕ declarations.plain_decl room) other_read.form refl i m x h)

        quiet : (i m : Input) → can_begin room (kind i) ≡ false → (forms.decl room P B).begins i m → i ≡ m
        quiet i m e (inl (inl same)) = same
        quiet i m e (inl (inr h)) = absurd (let no : true ≡ false = sym (fits_so i h.1.1.kind h.0) ∙ e in cc)
        quiet i m e (inr b) = by (other_read.form.first i m b)
          where
            by : (i ≡ m) ⊎ ((statements.routine room ⊕ declarations.plain_decl room).first (kind i) ≡ true) → i ≡ m
            by (inl same) = same
            by (inr s) = absurd (let no : true ≡ false = sym (other (kind i) s) ∙ e in cc)

        first : (i : Input) → (forms.decl room P B).first (kind i) ≡ false → can_begin room (kind i) ≡ false
        first i none = when (can_begin room (kind i)) (λ e. let no : true ≡ false = sym (within begins_decl (forms.decl room P B).first refl (kind i) (both_of (begins_decl (kind i)) _ e).0) ∙ none in cc)

        token : (i : Input) → can_begin room (kind i) ≡ true → kind i ≡ k.Nothing → ⊥
        token i e n = let no : true ≡ false = sym e ∙ ap (can_begin room) n in cc

        takes : (x : Kind) (i : Input) → kind i ≡ x → Takes x i (next i)
        takes x i e = record { kind = e; next = refl }

        piece : (x : Kind) (i : Input) → kind i ≡ x → can_begin room x ≡ true → (forms.decl room P B).begins i (next i)
        piece k.Body i e s = inl (inr (has_room room (not_true (room == 0) s), (next i, takes k.Body i e, inl (for_lawful.form.nothing (next i)))))
        piece k.Procedure i e s = inr (inl (inl (inr (next i, takes k.Procedure i e, inl refl))))
        piece k.Function i e s = inr (inl (inr (inr (next i, takes k.Function i e, inl refl))))
        piece k.Channel i e s = inr (inr (inl (inr (next i, takes k.Channel i e, inl refl))))
        piece k.Module i e s = inr (inr (inr (inl (inr (next i, takes k.Module i e, inl refl)))))
        piece k.Ip i e s = inr (inr (inr (inr (inl (inr (next i, takes k.Ip i e, inl (inl (ip_decl_lawful.form.nothing (next i)))))))))
        piece k.Modvar i e s = inr (inr (inr (inr (inr (inl (inr (next i, takes k.Modvar i e, inl (inl (modvar_decl_lawful.form.nothing (next i))))))))))
        piece k.State i e s = inr (inr (inr (inr (inr (inr (inl (inr (next i, takes k.State i e, inl (names_lawful.form.nothing (next i))))))))))
        piece k.Stateset i e s = inr (inr (inr (inr (inr (inr (inr (inl (inr (next i, takes k.Stateset i e, inl (inl (stateset_def_lawful.form.nothing (next i))))))))))))
        piece k.Const i e s = inr (inr (inr (inr (inr (inr (inr (inr (inl (inr (next i, takes k.Const i e, inl (inl (inl refl))))))))))))
        piece k.Type i e s = inr (inr (inr (inr (inr (inr (inr (inr (inr (inl (inr (next i, takes k.Type i e, inl (inl (inl refl)))))))))))))
        piece k.Var i e s = inr (inr (inr (inr (inr (inr (inr (inr (inr (inr (inr (next i, takes k.Var i e, inl (inl (inl (inl (inl refl)))))))))))))))
        piece _ i e s = absurd (cc)

    -- ---- Parts = {Decl} [Init] {trans TransBody}

    parts_lawful : IsLawful (form.node (PartsOf room P) (forms.parts_of room P B)) (parts_where room p)
    unfolding parts_where make_parts
    parts_lawful = rules.covered (parts_where room p) told (rules.and (many_read (forms.decl room P B) (decl_or_none room p) decl_step refl refl) (rules.and (init_read room) (transitions_read room) refl) refl).rest (λ i. refl)
      where
        told : IsSpanned over (PartsOf room P) (forms.parts_of room P B).spells make_parts
        told = record {
          opened = λ i m ps h.
              let r = out-Parts ps in
              ((r.decls, (r.init, r.trans)), (h.after_decls, h.decls, (h.after_init, h.init, h.trans)), ap (λ span. roll-Parts (record { decls = r.decls; init = r.init; trans = r.trans; span = span })) (sym h.span) ∙ roll-out-Parts ps);
          made = λ i m x h. record { after_decls = h.0; after_init = h.2.0; decls = h.1; init = h.2.1; trans = h.2.2; span = refl };
        }

    pub below_lawful : IsLawful (form.known true (PartsOf room P) (forms.parts_of room P B).begins begins_parts goes_on_parts) (parts_where room p)
    below_lawful = known_lawful _ (parts_where room p) parts_lawful begins_parts goes_on_parts refl refl

-- ---- where a body cannot stand

-- both answer the same, or the one refuses the word `body` where the other ends
abbrev pub Nearly : {A : Type 0} → ReadResult A → ReadResult A → Type 0
Nearly {A} o w = (o ≡ w) ⊎ ((x : A) × (m : Input) × (w ≡ Ok (x, m)) × (kind m ≡ k.Body) × (o ≡ Err (refusal m)))

-- before `end` the two are the same
pub before_end : {A C : Type 0} (o w : ReadResult A) (f : A → Unit {0} → Parser C) → Nearly o w → and_then o (λ x. expect k.End >>= f x) ≡ and_then w (λ x. expect k.End >>= f x)
before_end o w f (inl e) = ap (λ o. and_then o (λ x. expect k.End >>= f x)) e
before_end o w f (inr (x, m, e, there, r)) =
    ap (λ o. and_then o (λ x. expect k.End >>= f x)) r
    ∙ sym (ap (λ o. and_then o (λ x. expect k.End >>= f x)) e ∙ ap (λ o. and_then o (f x)) (refused k.End m (ap (is k.End) there)))

module _ (room : ℕ) (p w : Parser Parts) (near : (i : Input) → Nearly (p i) (w i)) where
  body_alike : (i : Input) → body_over room p i ≡ body_over room w i
  unfolding body_over
  body_alike i = alike (opens room k.Body i) _ _ (λ u a. alike (joined k.For name name a) _ _ (λ names b. alike (expect k.Semicolon b) _ _ (λ v c. before_end (p c) (w c) _ (near c))))

  decl_alike : (i : Input) → decl_over room p i ≡ decl_over room w i
  unfolding decl_over body_part
  decl_alike i = by (kind i)
    where
      by : (x : Kind) → decl_by room p x i ≡ decl_by room w x i
      by k.Body = ap (λ o. and_then o (λ b. pure (a_decl.Body b))) (body_alike i)
      by _ = refl

  no_level : (i : Input) → kind i ≡ k.Body → (room == 0) ≡ true → decl_over room p i ≡ Err (refusal i)
  unfolding decl_over body_part body_over opens
  no_level i e none = rw (e, none) refl

  turns_near : (n : ℕ) (found : List Decl) (i : Input) → Nearly (repeated_from (optional begins_decl (decl_over room p)) n found i) (repeated_from (decl_or_none room w) n found i)
  unfolding repeated_from optional
  turns_near zero found i = inl refl
  turns_near (suc n) found i = by (turns_near n) (begins_decl (kind i)) (is k.Body (kind i)) refl (room == 0) refl
    where
      again : ((found : List Decl) (i : Input) → Nearly (repeated_from (optional begins_decl (decl_over room p)) n found i) (repeated_from (decl_or_none room w) n found i)) → (o : ReadResult Decl)
          → Nearly (and_then (and_then o (λ d. pure (Some d))) (turn found (repeated_from (optional begins_decl (decl_over room p)) n))) (and_then (and_then o (λ d. pure (Some d))) (turn found (repeated_from (decl_or_none room w) n)))
      again more (Ok q) = more (found ++ q.0 ∷ []) q.1
      again more (Err e) = inl refl

      one_more : ((found : List Decl) (i : Input) → Nearly (repeated_from (optional begins_decl (decl_over room p)) n found i) (repeated_from (decl_or_none room w) n found i))
          → Nearly (and_then (and_then (decl_over room p i) (λ d. pure (Some d))) (turn found (repeated_from (optional begins_decl (decl_over room p)) n))) (and_then (and_then (decl_over room w i) (λ d. pure (Some d))) (turn found (repeated_from (decl_or_none room w) n)))
      one_more more = subst (λ o. Nearly (and_then (and_then o (λ d. pure (Some d))) (turn found (repeated_from (optional begins_decl (decl_over room p)) n))) (and_then (and_then (decl_over room w i) (λ d. pure (Some d))) (turn found (repeated_from (decl_or_none room w) n)))) (sym (decl_alike i)) (again more (decl_over room w i))

      by : ((found : List Decl) (i : Input) → Nearly (repeated_from (optional begins_decl (decl_over room p)) n found i) (repeated_from (decl_or_none room w) n found i))
          → (b : Bool) (body : Bool) → is k.Body (kind i) ≡ body → (none : Bool) → (room == 0) ≡ none
          → Nearly (and_then (optional_if b (decl_over room p) i) (turn found (repeated_from (optional begins_decl (decl_over room p)) n))) (and_then (optional_if (b && not (body && none)) (decl_over room w) i) (turn found (repeated_from (decl_or_none room w) n)))
      by more false body e none f = inl refl
      by more true false e none f = one_more more
      by more true true e false f = one_more more
      by more true true e true f = let there = is_it k.Body (kind i) e in inr (found, i, refl, there, ap (λ o. and_then (and_then o (λ d. pure (Some d))) (turn found (repeated_from (optional begins_decl (decl_over room p)) n))) (no_level i there f))

  pub parts_near : (i : Input) → Nearly (parts_over room p i) (parts_where room w i)
  unfolding parts_over parts_where make_parts repeated optional
  parts_near i = by (turns_near (left i) [] i)
    where
      rest : List Decl → Parser Parts
      rest ds = (one (optional begins_init (init room)) then one (repeated (optional begins_trans (trans room)) [])) Parts (λ y. enclosed make_parts i (ds, y))

      alone : List Decl → Input → Parts
      alone ds m = roll-Parts (record { decls = ds; init = None; trans = []; span = span_over (start i) (left i) m })

      no_more : (ds : List Decl) (m : Input) → kind m ≡ k.Body → rest ds m ≡ Ok (alone ds m, m)
      no_more ds m there = rw (ap begins_init there, as_none (trans_lawful room) refl begins_trans refl m (ap begins_trans there)) refl

      by : Nearly (repeated_from (optional begins_decl (decl_over room p)) (left i) [] i) (repeated_from (decl_or_none room w) (left i) [] i) → Nearly (parts_over room p i) (parts_where room w i)
      by (inl e) = inl (ap (λ o. and_then o rest) e)
      by (inr (ds, m, e, there, r)) = inr (alone ds m, m, ap (λ o. and_then o rest) e ∙ no_more ds m there, there, ap (λ o. and_then o rest) r)

-- ---- one level down from where this many levels may open

pub parts_at : ℕ → Parser Parts
parts_at zero = refuse
parts_at (suc room) = parts_where room (parts_at room)

pub parts_at_lawful : (room : ℕ) → IsLawful (forms.parts_below room) (parts_at room)
unfolding parts_at
parts_at_lawful zero = never_lawful true (PartsBelow zero) begins_parts goes_on_parts (λ i j ps h. h)
parts_at_lawful (suc room) = below_lawful room (PartsBelow room) (BeginsBelow room) (parts_at room) (parts_at_lawful room)

pub near_below : (room : ℕ) (i : Input) → Nearly (parts_below room i) (parts_at room i)
unfolding parts_below parts_at
near_below zero i = inl refl
near_below (suc room) i = parts_near room (parts_below room) (parts_at room) (near_below room) i

-- ---- the parser of the parts itself

-- It has the laws of the other one but for where a body cannot stand: there it refuses the word `body`, behind parts
-- that are spelled so.
module _ (room : ℕ) where
  pub parts_sound : Sound (parts_below room) (PartsBelow room)
  parts_sound i j ps h = by (near_below room i)
    where
      by : Nearly (parts_below room i) (parts_at room i) → PartsBelow room ps i j
      by (inl e) = (parts_at_lawful room).sound i j ps (sym e ∙ h)
      by (inr (x, m, e, there, r)) = absurd (let no : Err (refusal m) ≡ Ok (ps, j) = sym r ∙ h in cc)

  pub parts_complete : Complete (parts_below room) (PartsBelow room) (Ends (forms.parts_below room))
  parts_complete i j ps h end = by (near_below room i)
    where
      read : parts_at room i ≡ Ok (ps, j)
      read = (parts_at_lawful room).complete i j ps h end

      goes_on : kind j ≡ k.Body → ⊥
      goes_on there = let on : goes_on_parts (kind j) ≡ true = ap goes_on_parts there in let no : true ≡ false = sym on ∙ end in cc

      by : Nearly (parts_below room i) (parts_at room i) → parts_below room i ≡ Ok (ps, j)
      by (inl e) = e ∙ read
      by (inr (x, m, e, there, r)) = absurd (goes_on (ap kind (sym (ap (λ p. p.1) (ok_pair x ps m j (sym e ∙ read)))) ∙ there))

  pub parts_placed : (i : Input) → Placed (BeginsBelow room) i (parts_below room i)
  unfolding refusal
  parts_placed i = by (near_below room i)
    where
      law : IsLawful (forms.parts_below room) (parts_at room)
      law = parts_at_lawful room

      at : Placed (BeginsBelow room) i (parts_at room i)
      at = law.placed i

      by : Nearly (parts_below room i) (parts_at room i) → Placed (BeginsBelow room) i (parts_below room i)
      by (inl e) = subst (λ (o : ReadResult Parts). Placed (BeginsBelow room) i o) (sym e) at
      by (inr (x, m, e, there, r)) = subst (λ (o : ReadResult Parts). Placed (BeginsBelow room) i o) (sym r) (record {
        on = record { fits = let h = less in omega arith };
        longest = longest;
        begun = λ l f. record { at = m; reach = law.form.reach i m x spelled; begins = law.form.whole i m x spelled; count = ap (λ (o : ReadResult Parts). stop o) f };
      })
        where
          spelled : PartsBelow room x i m
          spelled = law.sound i m x e

          less : left m ≤ left i
          less = reach_left i m (law.form.reach i m x spelled)

          longest : (n : Input) → BeginsBelow room i n → left m ≤ left n
          longest n b =
              let stops : stop (parts_at room i) ≡ left m = ap (λ (o : ReadResult Parts). stop o) e in
              let short = at.longest n b in
              omega arith
