-- The law of blocks: the form is read by its parser.
use Rattle.std.proofs.Common.{◌≡◌, ℕ, Bool, true, false, List, [], ◌∷◌, Option, Some, None, Ok, sym, refl, ap, ◌∙◌, subst, inl, inr, ◌⊎◌}
use Rattle.estelle_tree.specs.declared.kind.Kind.{Kind}
use Rattle.estelle_tree.specs.declared.kind.Kind.TheVariants as k
use Rattle.estelle_tree.specs.declared.span.Span.{Span}
use Rattle.estelle_tree.specs.declared.tree.statement.Stmts.{Stmts}
use Rattle.estelle_tree.specs.declared.tree.declaration.BlockDecl.{BlockDecl}
use Rattle.estelle_tree.specs.declared.tree.clause.Label.{Label}
use Rattle.estelle_tree.specs.declared.tree.clause.Block.{Block}
use Rattle.estelle_tree.specs.Input.{Input, kind, next, start, between}
use Rattle.estelle_tree.specs.Spelling.{Several}
use Rattle.estelle_tree.specs.Declarations.{IsBlockDecl, IsStatementPart}
use Rattle.estelle_tree.specs.Clauses.{IsBlock}
use Rattle.token_reader.specs.Reader.{and_then}
use Rattle.token_reader.specs.Lists.{optional, several}
use Rattle.token_reader.proofs.Sound.{several_sound}
use Rattle.syntax_forms.specs.Kinds.{is}
use Rattle.syntax_forms.specs.Form as form
use Rattle.syntax_forms.specs.Form.{Form, ◌▸◌}
use Rattle.syntax_forms.specs.Repeats as repeats
use Rattle.syntax_forms.specs.Definitions as definitions
use Rattle.syntax_forms.specs.Reading.{Reading, one, ◌then◌, choose, closed}
use Rattle.syntax_forms.proofs.KindLaws.{is_it, within}
use Rattle.syntax_forms.proofs.ChoiceForms.{chosen_one, chosen_other}
use Rattle.syntax_forms.proofs.NodeForms.{IsNode}
use Rattle.syntax_forms.proofs.Lawful.{IsRead, IsLawful, Starts}
use Rattle.syntax_forms.proofs.Rules as rules
use Rattle.syntax_forms.proofs.Firsts.{regrouped, alike_where}
use Rattle.syntax_forms.proofs.SeveralForms.{as_several, as_none}
use Rattle.type_parser.specs.Definitions.{begins_block_decl, block_decl}
use Rattle.type_parser.proofs.DefinitionForms.{block_decl_lawful}
use Rattle.statement_parser.specs.Routine.{statement_part}
use Rattle.statement_parser.specs.Forms as statements
use Rattle.statement_parser.proofs.RoutineForms.{statement_part_lawful}
use Rattle.clause_parser.specs.Clause.{begins_label, label}
use Rattle.clause_parser.specs.Block.{block_decls, late_label, block_over, block}
use Rattle.clause_parser.specs.Forms as forms
use Rattle.clause_parser.specs.Forms.{BlockParts, make_block}
use Rattle.clause_parser.proofs.ClauseForms.{label_lawful}

-- `[Label]`
label_read : IsRead (repeats.may forms.label) (one (optional begins_label label))
label_read = rules.may begins_label label_lawful refl tells takes refl
  where
    tells : (x : Kind) → begins_label x ≡ forms.label.first x
    tells k.NameWord = refl
    tells _ = refl

    takes : (i : Input) → Starts forms.label i → forms.label.begins i (next i)
    takes i s = inr (next i, record { kind = is_it k.NameWord (kind i) (within forms.label.first (is k.NameWord) refl (kind i) s); next = refl }, inl refl)

-- Where this many more levels of nesting may open.
module _ (room : ℕ) where
  decl_tells : (x : Kind) → begins_block_decl x ≡ (definitions.block_decl room).first x
  decl_tells k.Const = refl
  decl_tells k.Type = refl
  decl_tells k.Var = refl
  decl_tells _ = refl

  decl_takes : (i : Input) → Starts (definitions.block_decl room) i → (definitions.block_decl room).begins i (next i)
  decl_takes i s = by (kind i) refl s
    where
      by : (x : Kind) → kind i ≡ x → (definitions.block_decl room).first x ≡ true → (definitions.block_decl room).begins i (next i)
      by k.Const e s = inl (inr (next i, record { kind = e; next = refl }, inl (inl (inl refl))))
      by k.Type e s = inr (inl (inr (next i, record { kind = e; next = refl }, inl (inl (inl refl)))))
      by k.Var e s = inr (inr (inr (next i, record { kind = e; next = refl }, inl (inl (inl (inl (inl refl)))))))
      by _ e s = absurd (cc)

  -- `{BlockDecl}` and `{BlockDecl}+`
  pub decls_read : IsRead (repeats.many (definitions.block_decl room)) (one (block_decls room))
  decls_read = rules.many begins_block_decl (block_decl_lawful room) refl decl_tells decl_takes refl refl

  some_decls_read : IsRead (form.several (definitions.block_decl room)) (one (several begins_block_decl (block_decl room)))
  some_decls_read = rules.several begins_block_decl (block_decl_lawful room) refl refl refl decl_tells decl_takes

  part_read : IsRead (statements.statement_part room) (one (statement_part room))
  part_read = rules.part (statement_part_lawful room)

  abbrev Labelled : Form (Label × (List BlockDecl × Stmts))
  Labelled = forms.label ▸ repeats.many (definitions.block_decl room) ▸ statements.statement_part room

  abbrev Declared : Form (List BlockDecl × (Option Label × Stmts))
  Declared = form.several (definitions.block_decl room) ▸ repeats.may forms.label ▸ statements.statement_part room

  abbrev read_labelled : Reading (Label × (List BlockDecl × Stmts))
  read_labelled = one label then one (block_decls room) then one (statement_part room)

  abbrev read_declared : Reading (List BlockDecl × (Option Label × Stmts))
  read_declared = one (several begins_block_decl (block_decl room)) then one (optional begins_label label) then one (statement_part room)

  abbrev read_unlabelled : Reading ((List BlockDecl × (Option Label × Stmts)) ⊎ Stmts)
  read_unlabelled = choose Declared.first read_declared (one (statement_part room))

  block_is : IsNode (IsBlock room) (forms.block_parts room).spells make_block
  block_is = record { opened = opened; made = made }
    where
      of : (first : Option Label) (ds : List BlockDecl) (late : Option Label) (body : Stmts) (span : Span) (i m : Input) → IsBlock room (record { label = first; decls = ds; late_label = late; body = body; span = span }) i m
          → (form.built make_block (forms.block_parts room)).spells (record { label = first; decls = ds; late_label = late; body = body; span = span }) i m
      of (Some l) ds None body span i m h = (
        inl (l, (ds, body)),
        (h.after_label, h.label, (h.after_decls, h.decls, subst (λ a. IsStatementPart room body a m) (sym h.late_label) h.body)),
        ap (λ span. record { label = Some l; decls = ds; late_label = None; body = body; span = span }) (sym h.span),
      )
      of None (d ∷ ds) late body span i m h = (
        inr (inl (d ∷ ds, (late, body))),
        (h.after_decls, subst (λ a. Several (IsBlockDecl room) (d ∷ ds) a h.after_decls) (sym h.label) h.decls, (h.after_late, h.late_label, h.body)),
        ap (λ span. record { label = None; decls = d ∷ ds; late_label = late; body = body; span = span }) (sym h.span),
      )
      of None [] None body span i m h = (
        inr (inr body),
        subst (λ a. IsStatementPart room body a m) (sym (h.label ∙ (h.decls ∙ h.late_label))) h.body,
        ap (λ span. record { label = None; decls = []; late_label = None; body = body; span = span }) (sym h.span),
      )
      of (Some l) ds (Some late) body span i m h = absurd h.labelled
      of None [] (Some late) body span i m h = absurd h.labelled

      opened : (i m : Input) (b : Block) → IsBlock room b i m → (form.built make_block (forms.block_parts room)).spells b i m
      opened i m b h = of b.label b.decls b.late_label b.body b.span i m h

      made : (i m : Input) (p : BlockParts) → (forms.block_parts room).spells p i m → IsBlock room (make_block p (between i m)) i m
      made i m (inl (l, (ds, body))) (a, x, (b, y, z)) = record { after_label = a; after_decls = b; after_late = b; labelled = tt; label = x; decls = y; late_label = refl; body = z; span = refl }
      made i m (inr (inl ([], (late, body)))) (a, x, (b, y, z)) = absurd x
      made i m (inr (inl (d ∷ ds, (None, body)))) (a, x, (b, y, z)) = record { after_label = i; after_decls = a; after_late = b; labelled = tt; label = refl; decls = x; late_label = y; body = z; span = refl }
      made i m (inr (inl (d ∷ ds, (Some late, body)))) (a, x, (b, y, z)) = record { after_label = i; after_decls = a; after_late = b; labelled = tt; label = refl; decls = x; late_label = y; body = z; span = refl }
      made i m (inr (inr body)) h = record { after_label = i; after_decls = i; after_late = i; labelled = tt; label = refl; decls = refl; late_label = refl; body = h; span = refl }

  -- ---- the do-definition, by what comes first

  label_first : (x : Kind) → Labelled.first x ≡ begins_label x
  label_first k.NameWord = refl
  label_first _ = refl

  decls_first : (x : Kind) → Declared.first x ≡ begins_block_decl x
  decls_first k.Const = refl
  decls_first k.Type = refl
  decls_first k.Var = refl
  decls_first _ = refl

  labelled : (i : Input) → begins_label (kind i) ≡ true → block room i ≡ read_labelled Block (λ p. closed make_block (start i) (inl p)) i
  unfolding block_over optional
  labelled i e = rw e (regrouped (label i) _ _ _ (λ l a. refl))

  declared : (i : Input) → begins_label (kind i) ≡ false → begins_block_decl (kind i) ≡ true → block room i ≡ read_declared Block (λ p. closed make_block (start i) (inr (inl p))) i
  unfolding block_over optional
  declared i none e = rw (none, as_several (block_decl_lawful room) refl begins_block_decl refl i e) (alike_where (several begins_block_decl (block_decl room) i) _ _ after)
    where
      after : (ds : List BlockDecl) (a : Input) → several begins_block_decl (block_decl room) i ≡ Ok (ds, a)
          → and_then (late_label None ds a) (λ late b. and_then (statement_part room b) (λ body. closed make_block (start i) (inr (inl (ds, (late, body))))))
          ≡ and_then (optional begins_label label a) (λ late b. and_then (statement_part room b) (λ body. closed make_block (start i) (inr (inl (ds, (late, body))))))
      after [] a read = absurd (several_sound (block_decl room) (IsBlockDecl room) (block_decl_lawful room).sound begins_block_decl i a [] read)
      after (d ∷ ds) a read = refl

  plain : (i : Input) → begins_label (kind i) ≡ false → begins_block_decl (kind i) ≡ false → block room i ≡ one (statement_part room) Block (λ body. closed make_block (start i) (inr (inr body))) i
  unfolding block_over optional
  plain i none no_decl = rw (none, as_none (block_decl_lawful room) refl begins_block_decl refl i no_decl) refl

  block_same : (i : Input) → block room i ≡ choose Labelled.first read_labelled read_unlabelled Block (closed make_block (start i)) i
  block_same i = by (begins_label (kind i)) refl (begins_block_decl (kind i)) refl
    where
      other : begins_label (kind i) ≡ false → choose Labelled.first read_labelled read_unlabelled Block (closed make_block (start i)) i ≡ read_unlabelled Block (λ p. closed make_block (start i) (inr p)) i
      other e = chosen_other Labelled.first read_labelled read_unlabelled (closed make_block (start i)) i (label_first (kind i) ∙ e)

      by : (l : Bool) → begins_label (kind i) ≡ l → (d : Bool) → begins_block_decl (kind i) ≡ d → block room i ≡ choose Labelled.first read_labelled read_unlabelled Block (closed make_block (start i)) i
      by true e d f = labelled i e ∙ sym (chosen_one Labelled.first read_labelled read_unlabelled (closed make_block (start i)) i (label_first (kind i) ∙ e))
      by false e true f = declared i e f ∙ sym (other e ∙ chosen_one Declared.first read_declared (one (statement_part room)) (λ p. closed make_block (start i) (inr p)) i (decls_first (kind i) ∙ f))
      by false e false f = plain i e f ∙ sym (other e ∙ chosen_other Declared.first read_declared (one (statement_part room)) (λ p. closed make_block (start i) (inr p)) i (decls_first (kind i) ∙ f))

  -- Block = [Label] {BlockDecl} [Label] begin Stmts end ";"
  pub block_lawful : IsLawful (forms.block room) (block room)
  block_lawful =
      rules.spanned (block room) block_is refl (rules.or (rules.and (rules.part label_lawful) (rules.and decls_read part_read refl) refl)
      (rules.or (rules.and some_decls_read (rules.and label_read part_read refl) refl) part_read refl refl) refl refl).rest block_same
