-- What begins the forms of bodies and of a specification is what the grammar says of them.
use Rattle.std.proofs.Common.{ℕ, zero, suc, refl, inl, inr}
use Rattle.estelle_tree.specs.declared.kind.Kind.TheVariants as k
use Rattle.estelle_tree.specs.declared.tree.specification.Parts.{Parts}
use Rattle.estelle_tree.specs.Input.{Input}
use Rattle.estelle_tree.specs.Spelling.{Spelling, Behind}
use Rattle.estelle_tree.specs.Beginning.{Beginning, Nothing, ◌or◌, Then, After, OneToken, Many}
use Rattle.estelle_tree.specs.BeginsClauses.{BeginsBlock}
use Rattle.estelle_tree.specs.BeginsDeclarations.{BeginsRoutine}
use Rattle.estelle_tree.specs.BeginsSpecification.{BeginHeads, BeginsInit, BeginsTrans, BeginBody, BeginDecl, BeginParts, BeginsPartsBelow, BeginsParts, BeginsSpec}
use Rattle.estelle_tree.specs.Types.{IsName}
use Rattle.estelle_tree.specs.Specification.{IsSysAttr, AreHeads, IsInit, IsTrans, DeclOf, PartsBelow, IsParts}
use Rattle.syntax_forms.specs.Form as form
use Rattle.syntax_forms.specs.Form.{◌▸◌}
use Rattle.syntax_forms.specs.Repeats as repeats
use Rattle.syntax_forms.proofs.Beginnings as begin
use Rattle.syntax_forms.proofs.Beginnings.{Alike, Blank, same, via, flat}
use Rattle.declaration_parser.specs.Productions as declarations
use Rattle.declaration_parser.proofs.Begins.{joined_onto, heads_onto, BeginsPlainDecl, plain_decl_begins}
use Rattle.clause_parser.proofs.BlockForms.{block_lawful}
use Rattle.clause_parser.proofs.Begins.{trans_body_begins}
use Rattle.estelle_parser.specs.Forms as forms
use Rattle.estelle_parser.proofs.BodyForms.{parts_at_lawful}

-- Where this many more levels of nesting may open.
module _ (room : ℕ) where
  -- Init = initialize [to NAME] Block
  init_begins : Alike (forms.init room).begins (BeginsInit room)
  init_begins =
      begin.after k.Initialize (begin.choice same (flat {F = form.word k.To ▸ form.name} (Behind k.To IsName) (λ i m n h. ((tt, n), (h.at, h.mark, h.item))) (λ i m p h. (p.1, record { at = h.0; mark = h.1; item = h.2 }))
      (begin.row (begin.word k.To refl) begin.name) (BeginsBlock room) (block_lawful room).form.nothing))

  -- `trans TransBody`
  trans_begins : Alike (forms.trans room).begins (BeginsTrans room)
  trans_begins = begin.after k.Trans (trans_body_begins room)

  -- Over what the parts of a body in it spell, and what begins them in the one and in other words.
  module _ (P : Spelling Parts) (B C : Beginning) (alike : Alike B C) where
    -- Body = body NAME for NAME ";" Parts end ";", which opens a level
    body_begins : Alike (forms.body room P B).begins (BeginBody room P C)
    body_begins = begin.opens room k.Body (via (joined_onto k.For refl begin.name begin.name (After k.Semicolon (Then B P ends)) (λ j. inl refl))
        (begin.after k.Name (begin.after k.For (begin.after k.Name (begin.after k.Semicolon (begin.part P alike same))))))
      where
        ends : Beginning
        ends = After k.End (OneToken k.Semicolon)

    -- a body, a routine or another declaration, in the order of the grammar
    turned : Alike (BeginBody room P C or BeginsRoutine room or BeginsPlainDecl room) (BeginDecl room P C)
    turned = record { to = to; back = back }
      where
        to : (i m : Input) → (BeginBody room P C or BeginsRoutine room or BeginsPlainDecl room) i m → BeginDecl room P C i m
        to i m (inl b) = inr (inr (inr (inr (inl b))))
        to i m (inr (inl b)) = inr (inr (inr (inr (inr (inr (inr (inr (inr (inr b)))))))))
        to i m (inr (inr (inl b))) = inr (inr (inl b))
        to i m (inr (inr (inr (inl b)))) = inr (inr (inr (inl b)))
        to i m (inr (inr (inr (inr (inl b))))) = inr (inr (inr (inr (inr (inl b)))))
        to i m (inr (inr (inr (inr (inr (inl b)))))) = inr (inr (inr (inr (inr (inr (inl b))))))
        to i m (inr (inr (inr (inr (inr (inr (inl b))))))) = inr (inr (inr (inr (inr (inr (inr (inr (inl b))))))))
        to i m (inr (inr (inr (inr (inr (inr (inr (inl b)))))))) = inr (inr (inr (inr (inr (inr (inr (inr (inr (inl b)))))))))
        to i m (inr (inr (inr (inr (inr (inr (inr (inr (inl b))))))))) = inl b
        to i m (inr (inr (inr (inr (inr (inr (inr (inr (inr (inl b)))))))))) = inr (inl b)
        to i m (inr (inr (inr (inr (inr (inr (inr (inr (inr (inr b)))))))))) = inr (inr (inr (inr (inr (inr (inr (inl b)))))))

        back : (i m : Input) → BeginDecl room P C i m → (BeginBody room P C or BeginsRoutine room or BeginsPlainDecl room) i m
        back i m (inl b) = inr (inr (inr (inr (inr (inr (inr (inr (inl b))))))))
        back i m (inr (inl b)) = inr (inr (inr (inr (inr (inr (inr (inr (inr (inl b)))))))))
        back i m (inr (inr (inl b))) = inr (inr (inl b))
        back i m (inr (inr (inr (inl b)))) = inr (inr (inr (inl b)))
        back i m (inr (inr (inr (inr (inl b))))) = inl b
        back i m (inr (inr (inr (inr (inr (inl b)))))) = inr (inr (inr (inr (inl b))))
        back i m (inr (inr (inr (inr (inr (inr (inl b))))))) = inr (inr (inr (inr (inr (inl b)))))
        back i m (inr (inr (inr (inr (inr (inr (inr (inl b)))))))) = inr (inr (inr (inr (inr (inr (inr (inr (inr (inr b)))))))))
        back i m (inr (inr (inr (inr (inr (inr (inr (inr (inl b))))))))) = inr (inr (inr (inr (inr (inr (inl b))))))
        back i m (inr (inr (inr (inr (inr (inr (inr (inr (inr (inl b)))))))))) = inr (inr (inr (inr (inr (inr (inr (inl b)))))))
        back i m (inr (inr (inr (inr (inr (inr (inr (inr (inr (inr b)))))))))) = inr (inl b)

    decl_begins : Alike (forms.decl room P B).begins (BeginDecl room P C)
    decl_begins = via (begin.choice body_begins (begin.choice same (plain_decl_begins room))) turned

    -- Parts = {Decl} [Init] {trans TransBody}
    parts_begin : Alike (forms.parts_of room P B).begins (BeginParts room P C)
    parts_begin = begin.many (DeclOf room P) decl_begins (begin.choice rest (begin.part (IsInit room) init_begins rest))
      where
        rest : Alike (repeats.many (forms.trans room)).begins (Many (BeginsTrans room) (IsTrans room) Nothing)
        rest = begin.many (IsTrans room) trans_begins same

-- one level down from where this many levels may open
parts_below_begin : (room : ℕ) → Alike (forms.BeginsBelow room) (BeginsPartsBelow room)
parts_below_begin zero = same
parts_below_begin (suc room) = parts_begin room (PartsBelow room) (forms.BeginsBelow room) (BeginsPartsBelow room) (parts_below_begin room)

-- Spec = specification NAME [SysAttr] ";" {Head} Parts end "."
pub specification_begins : (room : ℕ) → Alike (forms.specification room).begins (BeginsSpec room)
specification_begins room = begin.after k.Specification (begin.after k.Name (begin.choice rest (begin.part IsSysAttr same rest)))
  where
    ends : Beginning
    ends = After k.End (OneToken k.Dot)

    parts : Alike (Then (forms.BeginsBelow (suc room)) (IsParts room) ends) (Then (BeginsParts room) (IsParts room) ends)
    parts = begin.part (IsParts room) (parts_below_begin (suc room)) same

    blank : Blank (Then (BeginsParts room) (IsParts room) ends)
    blank j = parts.to j j (inl ((parts_at_lawful (suc room)).form.nothing j))

    rest : Alike (After k.Semicolon (Then declarations.heads.begins AreHeads (Then (forms.BeginsBelow (suc room)) (IsParts room) ends))) (After k.Semicolon (BeginHeads (Then (BeginsParts room) (IsParts room) ends)))
    rest = begin.after k.Semicolon (via (begin.part AreHeads same parts) (heads_onto (Then (BeginsParts room) (IsParts room) ends) blank))
