-- The canonical text of a tree is read back to the same tree, spans aside.
use Rattle.std.proofs.Common.{◌≡◌, ℕ, List, sym, ap, ◌∙◌, subst}
use Rattle.estelle_tree.specs.declared.tree.specification.Spec.{Spec}
use Rattle.estelle_tree.specs.Lexed.{IsBlankFrom}
use Rattle.estelle_printer.specs.Canonical.{without_places, canonical}
use Rattle.estelle_printer.specs.Laws.{IsReadAs}
use Rattle.estelle_printer.proofs.LexingLaws.{is_lexed}
use Rattle.estelle_printer.proofs.SpecificationLaws.{one_list}
use Rattle.estelle_lexer.proofs.Answers as lexing
use Rattle.estelle_parser.proofs.Whole.{one_tree}
use Rattle.estelle_tree.specs.Spells.{Spells}
use Rattle.round_trip.specs.Same.{unplaced, Same}
use Rattle.round_trip.specs.Specification.{bare_spec}
use Rattle.round_trip.proofs.RespelledLaws.{respelled, bare_unplaced, bare_is_spelled}
use Rattle.round_trip.specs.ReadBack.{IsPrinted, PrintedIsLexed, PrintedIsReadBack, OnlyTheTreeIsReadBack, SameTreesSpellTheSame}

read_as : (spec : Spec) (text : List ℕ) (p : IsPrinted spec text) → IsReadAs text p.tokens
read_as spec text p = subst (λ t. IsReadAs t p.tokens) (sym (p.canonical p.tokens p.spells)) (is_lexed spec p.tokens p.spells)

pub printed_is_lexed : PrintedIsLexed
printed_is_lexed spec text p = let r = read_as spec text p in (r.lexed, r.rest, r.cut)

pub printed_is_read_back : PrintedIsReadBack
printed_is_read_back spec text tokens rest p cut =
    let r = read_as spec text p in
    let one = lexing.one_list text tokens r.lexed rest r.rest cut r.cut in
    let same : without_places tokens ≡ without_places p.tokens = ap without_places one.0 ∙ r.same in
    let moved = respelled spec p.tokens tokens p.spells same in
    record {
      read = moved.moved;
      spells = moved.spells;
      same = moved.same;
      blank = subst (λ n. IsBlankFrom text n) (sym one.1) r.blank;
      canonical = λ others spells. p.canonical p.tokens p.spells ∙ ap canonical (sym same ∙ one_list moved.moved tokens others moved.spells spells);
    }

pub only_is_read_back : OnlyTheTreeIsReadBack
only_is_read_back spec text tokens rest p cut read spells =
    let back = printed_is_read_back spec text tokens rest p cut in
    subst (λ t. Same t spec) (one_tree back.read read tokens back.spells spells) back.same

pub same_spell_the_same : SameTreesSpellTheSame
same_spell_the_same s t ts us same a b =
    let e = one_list (bare_spec s) (unplaced ts) (unplaced us) (bare_is_spelled s ts a) (subst (λ x. Spells x (unplaced us)) (sym same) (bare_is_spelled t us b)) in
    sym (bare_unplaced ts) ∙ e ∙ bare_unplaced us
