-- The laws of the statement part of a block, and of routines: each form is read by its parser.
use Rattle.std.proofs.Common.{◌≡◌, ℕ, true, List, Option, sym, refl, ap, ◌∙◌, subst, inl, inr, ◌⊎◌}
use Rattle.estelle_tree.specs.declared.kind.Kind.{Kind}
use Rattle.estelle_tree.specs.declared.kind.Kind.TheVariants as k
use Rattle.estelle_tree.specs.declared.span.Span.{Span}
use Rattle.estelle_tree.specs.declared.tree.name.Name.{Name}
use Rattle.estelle_tree.specs.declared.tree.statement.Stmts.{Stmts}
use Rattle.estelle_tree.specs.declared.tree.declaration.BlockDecl.{BlockDecl}
use Rattle.estelle_tree.specs.declared.tree.declaration.Formals.{Formals}
use Rattle.estelle_tree.specs.declared.tree.declaration.Routine.{Routine}
use Rattle.estelle_tree.specs.declared.tree.declaration.RoutineForm.{RoutineForm}
use Rattle.estelle_tree.specs.declared.tree.declaration.RoutineForm.TheVariants as a_form
use Rattle.estelle_tree.specs.Input.{Input, kind, next, start, between}
use Rattle.estelle_tree.specs.Statements.{StmtBelow}
use Rattle.estelle_tree.specs.BeginsStatements.{BeginsStmtBelow}
use Rattle.estelle_tree.specs.Spelling.{Takes}
use Rattle.estelle_tree.specs.Declarations.{IsStatementPart, IsRoutine}
use Rattle.token_reader.specs.Reader.{expect, name}
use Rattle.token_reader.specs.Lists.{optional}
use Rattle.token_reader.proofs.Complete.{expect_complete}
use Rattle.syntax_forms.specs.Form as form
use Rattle.syntax_forms.specs.Form.{◌▸◌, ◌⊕◌}
use Rattle.syntax_forms.specs.Kinds.{is}
use Rattle.syntax_forms.specs.Repeats as repeats
use Rattle.syntax_forms.specs.Definitions as definitions
use Rattle.syntax_forms.specs.Reading.{Reading, one, ◌then◌, choose, closed}
use Rattle.syntax_forms.proofs.KindLaws.{is_it, within}
use Rattle.syntax_forms.proofs.TokenForms.{word_known}
use Rattle.syntax_forms.proofs.NodeForms.{IsNode}
use Rattle.syntax_forms.proofs.Lawful.{IsRead, IsLawful, Starts}
use Rattle.syntax_forms.proofs.Rules as rules
use Rattle.syntax_forms.proofs.Firsts.{alike, regrouped}
use Rattle.type_parser.specs.Definitions.{begins_formals, formals, begins_block_decl}
use Rattle.type_parser.proofs.DefinitionForms.{formal_lawful, formals_lawful, block_decl_lawful}
use Rattle.statement_parser.specs.Routine.{statement_part, routine_word, function_result, block_decls, routine}
use Rattle.statement_parser.specs.Forms as forms
use Rattle.statement_parser.specs.Forms.{Word}
use Rattle.statement_parser.proofs.StatementForms.{opens_same, stmts_lawful_at}

-- `[Formals]`
formals_read : IsRead (repeats.may definitions.formals) (one (optional begins_formals formals))
formals_read = rules.may begins_formals formals_lawful refl tells takes refl
  where
    tells : (x : Kind) → begins_formals x ≡ definitions.formals.first x
    tells k.OpenParenthesis = refl
    tells _ = refl

    takes : (i : Input) → Starts definitions.formals i → definitions.formals.begins i (next i)
    takes i s = inr (next i, record { kind = is_it k.OpenParenthesis (kind i) (within definitions.formals.first (is k.OpenParenthesis) refl (kind i) s); next = refl }, inl (formal_lawful.form.nothing (next i)))

-- Where this many more levels may open.
module _ (room : ℕ) where
  -- `begin Stmts end ";"`
  pub statement_part_lawful : IsLawful (forms.statement_part room) (statement_part room)
  unfolding statement_part
  statement_part_lawful =
      rules.made (statement_part room) told (rules.level room k.Begin refl (rules.and (rules.part (stmts_lawful_at room)) (rules.and (rules.word k.End refl) (rules.word k.Semicolon refl) refl) refl)).rest
      (λ i. opens_same room k.Begin _ i)
    where
      told : IsNode (IsStatementPart room) (form.level room k.Begin (forms.stmts (StmtBelow room) (BeginsStmtBelow room) ▸ form.word k.End ▸ form.word k.Semicolon)).spells (λ p span. p.0)
      told = record {
        opened = λ i m ss h. ((ss, (tt, tt)), (h.fits, (h.stmts.item.at, h.stmts.item.opens, (h.stmts.item.mid, h.stmts.item.inside, (h.stmts.mid, h.stmts.item.closes, h.stmts.mark)))), refl);
        made = λ i m p h. record { fits = h.0; stmts = record { mid = h.1.2.2.0; item = record { at = h.1.0; mid = h.1.2.0; opens = h.1.1; inside = h.1.2.1; closes = h.1.2.2.1 }; mark = h.1.2.2.2 } };
      }

  -- `{BlockDecl}`
  decls_read : IsRead (repeats.many (definitions.block_decl room)) (one (block_decls room))
  decls_read = rules.many begins_block_decl (block_decl_lawful room) refl tells takes refl refl
    where
      tells : (x : Kind) → begins_block_decl x ≡ (definitions.block_decl room).first x
      tells k.Const = refl
      tells k.Type = refl
      tells k.Var = refl
      tells _ = refl

      takes : (i : Input) → Starts (definitions.block_decl room) i → (definitions.block_decl room).begins i (next i)
      takes i s = by (kind i) refl s
        where
          by : (x : Kind) → kind i ≡ x → (definitions.block_decl room).first x ≡ true → (definitions.block_decl room).begins i (next i)
          by k.Const e s = inl (inr (next i, record { kind = e; next = refl }, inl (inl (inl refl))))
          by k.Type e s = inr (inl (inr (next i, record { kind = e; next = refl }, inl (inl (inl refl)))))
          by k.Var e s = inr (inr (inr (next i, record { kind = e; next = refl }, inl (inl (inl (inl (inl refl)))))))
          by _ e s = absurd (cc)

  -- `";" {BlockDecl} begin Stmts end ";"`
  block_read : IsRead (form.word k.Semicolon ▸ forms.block room) (one (expect k.Semicolon) then one (block_decls room) then one (statement_part room))
  block_read = rules.and (rules.word k.Semicolon refl) (rules.and decls_read (rules.part statement_part_lawful) refl) refl

  abbrev Procedure : Type 0
  Procedure = Word × (Name × (Option Formals × (Word × (List BlockDecl × Stmts))))

  abbrev Function : Type 0
  Function = Word × (Name × (Option Formals × (Word × (Name × (Word × (List BlockDecl × Stmts))))))

  abbrev read_procedure : Reading Procedure
  read_procedure = one (expect k.Procedure) then one name then one (optional begins_formals formals) then one (expect k.Semicolon) then one (block_decls room) then one (statement_part room)

  abbrev read_function : Reading Function
  read_function = one (expect k.Function) then one name then one (optional begins_formals formals) then one (expect k.Colon) then one name then one (expect k.Semicolon) then one (block_decls room) then one (statement_part room)

  procedure_read : IsRead (forms.procedure room) read_procedure
  procedure_read = rules.and (rules.word k.Procedure refl) (rules.and rules.name (rules.and formals_read block_read refl) refl) refl

  function_read : IsRead (forms.function room) read_function
  function_read = rules.and (rules.word k.Function refl) (rules.and rules.name (rules.and formals_read (rules.and (rules.word k.Colon refl) (rules.and rules.name block_read refl) refl) refl) refl) refl

  make_routine : Procedure ⊎ Function → Span → Routine
  make_routine (inl (u, (n, (ps, (v, (ds, body)))))) span = record { name = n; formals = ps; form = a_form.Procedure; decls = ds; body = body; span = span }
  make_routine (inr (u, (n, (ps, (v, (r, (w, (ds, body)))))))) span = record { name = n; formals = ps; form = a_form.Function r; decls = ds; body = body; span = span }

  routine_is : IsNode (IsRoutine room) (forms.procedure room ⊕ forms.function room).spells make_routine
  unfolding make_routine
  routine_is = record { opened = opened; made = made }
    where
      of_form : (f : RoutineForm) (n : Name) (ps : Option Formals) (ds : List BlockDecl) (body : Stmts) (span : Span) (i m : Input) → IsRoutine room (record { name = n; formals = ps; form = f; decls = ds; body = body; span = span }) i m
          → (p : Procedure ⊎ Function) × (forms.procedure room ⊕ forms.function room).spells p i m × (make_routine p (between i m) ≡ record { name = n; formals = ps; form = f; decls = ds; body = body; span = span })
      of_form a_form.Procedure n ps ds body span i m h = (
        inl (tt, (n, (ps, (tt, (ds, body))))),
        (h.name.at, h.name.mark, (h.after_name, h.name.item, (h.after_formals, h.formals, (h.after_head, subst (λ a. Takes k.Semicolon a h.after_head) (sym h.result) h.semicolon, (h.after_decls, h.decls, h.body))))),
        ap (λ span. record { name = n; formals = ps; form = a_form.Procedure; decls = ds; body = body; span = span }) (sym h.span),
      )
      of_form (a_form.Function r) n ps ds body span i m h = (
        inr (tt, (n, (ps, (tt, (r, (tt, (ds, body))))))),
        (h.name.at, h.name.mark, (h.after_name, h.name.item, (h.after_formals, h.formals, (h.result.at, h.result.mark, (h.after_result, h.result.item, (h.after_head, h.semicolon, (h.after_decls, h.decls, h.body))))))),
        ap (λ span. record { name = n; formals = ps; form = a_form.Function r; decls = ds; body = body; span = span }) (sym h.span),
      )

      opened : (i m : Input) (r : Routine) → IsRoutine room r i m → (p : Procedure ⊎ Function) × (forms.procedure room ⊕ forms.function room).spells p i m × (make_routine p (between i m) ≡ r)
      opened i m r h = of_form r.form r.name r.formals r.decls r.body r.span i m h

      made : (i m : Input) (p : Procedure ⊎ Function) → (forms.procedure room ⊕ forms.function room).spells p i m → IsRoutine room (make_routine p (between i m)) i m
      made i m (inl (u, (n, (ps, (v, (ds, body)))))) (a, t, (b, x, (c, y, (d, z, (e, f, g))))) =
          record { after_name = b; after_formals = c; after_result = c; after_head = d; after_decls = e; name = record { at = a; mark = t; item = x }; formals = y; result = refl; semicolon = z; decls = f; body = g; span = refl }
      made i m (inr (u, (n, (ps, (v, (r, (w, (ds, body)))))))) (a, t, (b, x, (c, y, (d, q, (o, l, (e, z, (f, g, j))))))) =
          record { after_name = b; after_formals = c; after_result = o; after_head = e; after_decls = f; name = record { at = a; mark = t; item = x }; formals = y; result = record { at = d; mark = q; item = l }; semicolon = z; decls = g; body = j; span = refl }

  routine_same : (i : Input) → routine room i ≡ choose (forms.procedure room).first read_procedure read_function Routine (closed make_routine (start i)) i
  unfolding routine routine_word function_result make_routine
  routine_same i = by (kind i) refl
    where
      by : (x : Kind) → kind i ≡ x → routine room i ≡ choose (forms.procedure room).first read_procedure read_function Routine (closed make_routine (start i)) i
      by k.Procedure e = rw (e, expect_complete k.Procedure i (next i) (record { kind = e; next = refl })) refl
      by k.Function e =
          rw (e, expect_complete k.Function i (next i) (record { kind = e; next = refl }))
          (alike (name (next i)) _ _ (λ n b. alike (optional begins_formals formals b) _ _ (λ ps c. regrouped (expect k.Colon c) _ _ _ (λ u d. regrouped (name d) _ _ _ (λ r g. refl)))))
      by x e = rw (e, (word_known k.Function (λ d. cc)).other i (λ d. let no : x ≡ k.Function = sym e ∙ d in cc)) refl

  pub routine_lawful : IsLawful (forms.routine room) (routine room)
  routine_lawful = rules.spanned (routine room) routine_is refl (rules.or procedure_read function_read refl refl).rest routine_same
