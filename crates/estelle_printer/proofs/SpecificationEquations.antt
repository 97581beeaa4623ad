-- One equation of the tokens for each type of node in bodies.
use Rattle.std.proofs.Common.{◌≡◌, ◌++◌, ap, ◌∙◌, sym, ℕ, List}
use Rattle.std.specs.List.{flat_map}
use Rattle.estelle_tree.specs.declared.kind.Kind.TheVariants as k
use Rattle.estelle_tree.specs.declared.tree.specification.Decl.{Decl, out-Decl, map-Decl, fold_out-Decl}
use Rattle.estelle_tree.specs.declared.tree.specification.Decl.TheFolds.{fold_out-Body, fold_out-Parts}
use Rattle.estelle_tree.specs.declared.tree.specification.Body.{Body, out-Body}
use Rattle.estelle_tree.specs.declared.tree.specification.Parts.{Parts, out-Parts}
use Rattle.estelle_printer.proofs.WritingLemmas.{chain_map, write-append}
use Rattle.estelle_printer.specs.Terminals.{terminal}
use Rattle.estelle_printer.specs.Writing.{put, write}
use Rattle.estelle_printer.specs.Forms.{Tokens, mark, optional}
use Rattle.estelle_printer.specs.SpecificationTokens.{init, trans, body_head, decl_layer, body_layer, parts_layer, decl, body, parts}

pub decl_is : (x : Decl) → decl x ≡ decl_layer (map-Decl Decl Body Parts Tokens Tokens Tokens decl body parts (out-Decl x))
unfolding decl body parts
decl_is x = fold_out-Decl Tokens Tokens Tokens decl_layer body_layer parts_layer x

pub body_is : (x : Body) → body x ≡ body_head (out-Body x).name (out-Body x).header ++ parts (out-Body x).parts ++ mark k.End ++ mark k.Semicolon
unfolding decl body parts
body_is x = fold_out-Body Tokens Tokens Tokens decl_layer body_layer parts_layer x

pub parts_is : (x : Parts) → parts x ≡ flat_map decl (out-Parts x).decls ++ optional init (out-Parts x).init ++ flat_map trans (out-Parts x).trans
unfolding decl body parts
parts_is x = fold_out-Parts Tokens Tokens Tokens decl_layer body_layer parts_layer x ∙ ap (λ ts. ts ++ optional init (out-Parts x).init ++ flat_map trans (out-Parts x).trans) (chain_map (λ ts. ts) decl (out-Parts x).decls)

-- what is written of a body
pub body_written : (b : Body) (text o1 o2 o3 o4 : List ℕ) → o1 ≡ write text (body_head (out-Body b).name (out-Body b).header) → o2 ≡ write o1 (parts (out-Body b).parts)
    → o3 ≡ put o2 (terminal k.End) → o4 ≡ put o3 (terminal k.Semicolon) → o4 ≡ write text (body b)
unfolding write
body_written b text o1 o2 o3 o4 e1 e2 e3 e4 =
    let h = body_head (out-Body b).name (out-Body b).header in
    let p = parts (out-Body b).parts in
    e4 ∙ ap (λ o. put o (terminal k.Semicolon))
    (e3 ∙ ap (λ o. put o (terminal k.End)) (e2 ∙ ap (λ o. write o p) e1 ∙ sym (write-append text h p)) ∙ sym (write-append text (h ++ p) (mark k.End)))
    ∙ sym (write-append text (h ++ p ++ mark k.End) (mark k.Semicolon)) ∙ ap (write text) (sym (body_is b))

pub ruleset bodies = (decl_is, body_is, parts_is)
