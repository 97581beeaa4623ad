-- Trees and what they spell, worked by hand.
use Rattle.std.proofs.Common.{rules, ap, ◌∙◌, inl, inr, sym, subst, arith, ◌≡◌, ℕ, ℤ, zero, suc, Bool, true, false, List, [], ◌∷◌, Some, None, refl}
use Rattle.std.specs.Prelude.{codes, pos, All, ◌==◌}
use Rattle.std.specs.List.{AllByRecursion}
use Rattle.std.proofs.lemmas.List.Elements.{All-nil, All-cons}
use Rattle.estelle_tree.specs.declared.span.Span.{Span}
use Rattle.estelle_tree.specs.declared.token.Token.TheVariants as token
use Rattle.estelle_tree.specs.declared.token.Symbol.TheVariants as symbol
use Rattle.estelle_tree.specs.declared.token.Symbol.{Symbol}
use Rattle.estelle_tree.specs.declared.token.Placed.{Placed}
use Rattle.estelle_tree.specs.declared.kind.Kind.TheVariants as k
use Rattle.estelle_tree.specs.declared.tree.name.Name.{Name}
use Rattle.estelle_tree.specs.declared.tree.expression.Expr.{Expr, roll-Expr}
use Rattle.estelle_tree.specs.declared.tree.expression.Simple.{roll-Simple}
use Rattle.estelle_tree.specs.declared.tree.expression.Term.{roll-Term}
use Rattle.estelle_tree.specs.declared.tree.expression.Factor.TheVariants as factor
use Rattle.estelle_tree.specs.declared.tree.statement.Stmt.{Stmt, out-Stmt}
use Rattle.estelle_tree.specs.declared.tree.statement.Stmt.TheVariants as stmt
use Rattle.estelle_tree.specs.declared.tree.statement.Stmt.TheVariants.{outs-Empty, outs-If}
use Rattle.estelle_tree.specs.declared.tree.expression.Factor.TheVariants.{outs-Number}
use Rattle.estelle_tree.specs.declared.tree.expression.Factor.TheViews.{out-roll-Expr, out-roll-Simple}
use Rattle.estelle_tree.specs.Spans.{StmtLayer}
use Rattle.estelle_tree.specs.declared.tree.statement.Stmts.{Stmts, roll-Stmts}
use Rattle.estelle_tree.specs.declared.tree.clause.Block.{Block}
use Rattle.estelle_tree.specs.declared.tree.clause.Clause.{Clause}
use Rattle.estelle_tree.specs.declared.tree.clause.Clause.TheVariants as clause
use Rattle.estelle_tree.specs.declared.tree.clause.Group.{Group, roll-Group}
use Rattle.estelle_tree.specs.declared.tree.clause.TransBody.{TransBody}
use Rattle.estelle_tree.specs.declared.tree.clause.TransBody.TheVariants as trans_body
use Rattle.estelle_tree.specs.declared.tree.clause.TransBody.TheVariants.{outs-Block, outs-Groups}
use Rattle.estelle_tree.specs.declared.kind.Kind.{Kind}
use Rattle.estelle_tree.specs.declared.tree.specification.Spec.{Spec}
use Rattle.estelle_tree.specs.declared.tree.specification.Parts.{roll-Parts}
use Rattle.estelle_tree.specs.Kind.{kind_of_word}
use Rattle.estelle_tree.specs.Input.{Input, input, kind, next, start, token_at, between, over, left}
use Rattle.estelle_tree.specs.Spelling.{Spelling, Takes}
use Rattle.estelle_tree.specs.Types.{IsNumber}
use Rattle.estelle_tree.specs.Expressions.{IsExpr, IsFactor, IsFactorLayer, FactorBelow}
use Rattle.estelle_tree.specs.Statements.{StmtBelow, IsStmtLayer}
use Rattle.estelle_tree.specs.Clauses.{stands, of_clause, IsBlock, TransBodyOf, TransBodyLayerOf, AreGroups, GroupOf, GroupWithin, IsTransBody, Follows, holds_block_layer}
use Rattle.estelle_tree.specs.Specification.{IsParts}
use Rattle.estelle_tree.specs.Spells.{Spells, IsToken, max_nesting}

abbrev at : ℕ → ℕ → Span
at start end = record { start = start; end = end }

abbrev word : List ℕ → ℕ → ℕ → Placed
word bytes start end = record { token = token.Word bytes; span = at start end }

abbrev mark : Symbol → ℕ → ℕ → Placed
mark s start end = record { token = token.Symbol s; span = at start end }

abbrev name : List ℕ → ℕ → ℕ → Name
name bytes start end = record { word = bytes; span = at start end }

each : {X : Type 0} (P : X → Type 0) (xs : List X) → AllByRecursion P xs → All P xs
each P [] h = All-nil P
each P (x ∷ xs) h = All-cons P x xs h.0 (each P xs h.1)

-- specification s; end.
abbrev tokens_1 : List Placed
tokens_1 = word (codes "specification") 0 13 ∷ word (codes "s") 14 15 ∷ mark symbol.Semicolon 15 16 ∷ word (codes "end") 17 20 ∷ mark symbol.Dot 20 21 ∷ []

abbrev tree_1 : Spec
tree_1 = record {
  name = name (codes "s") 14 15;
  attr = None;
  heads = [];
  parts = roll-Parts (record { decls = []; init = None; trans = []; span = at 0 0 });
  span = at 0 21;
}

abbrev digit : ℕ → ℕ → ℕ → Placed
digit n start end = record { token = token.Number (pos n); span = at start end }

-- the place after so many tokens
abbrev after : ℕ → Input → Input
after zero i = i
after (suc n) i = after n (next i)

abbrev p : ℕ → Input
p n = after n (input tokens_1 0)

no_parts : (room : ℕ) (i : Input) → IsParts room (roll-Parts (record { decls = []; init = None; trans = []; span = at 0 0 })) i i
unfolding over left
no_parts room i = record { after_decls = i; after_init = i; decls = refl; init = refl; trans = refl; span = rw same refl }
  where
    same : (left i == left i) ≡ true
    same = search rules

spells_1 : Spells tree_1 tokens_1
unfolding kind kind_of_word next start token_at between over left
spells_1 = record {
  forms = each (λ (p : Placed). IsToken p.token) tokens_1 (refl, (refl, (tt, (refl, (tt, tt)))));
  end = 21;
  whole = record {
    after_name = p 2;
    after_attr = p 2;
    after_head = p 3;
    after_heads = p 3;
    after_parts = p 3;
    after_end = p 4;
    name = record { at = p 1; mark = record { kind = refl; next = refl }; item = record { token = refl; free = refl; span = refl; next = refl } };
    attr = refl;
    semicolon = record { kind = refl; next = refl };
    heads = record { heads = refl; once = tt };
    parts = no_parts max_nesting (p 3);
    ends = record { kind = refl; next = refl };
    dot = record { kind = refl; next = refl };
    span = refl;
  };
}

-- ---- an expression of one number

abbrev number : ℤ → Span → Expr
number n span = roll-Expr (record {
  left = roll-Simple (record {
    sign = None;
    first = roll-Term (record { first = factor.Number n span; others = []; span = span });
    others = [];
    span = span;
  });
  right = None;
  span = span;
})

is_number : (room : ℕ) (n : ℤ) (i j : Input) → IsNumber n i j → IsExpr room (number n (between i j)) i j
is_number room n i j h = record {
  mid = j;
  left = rw out-roll-Expr (record {
    at = i;
    mid = j;
    sign = rw out-roll-Simple refl;
    first = rw out-roll-Simple (record { mid = j; first = digits; others = refl; span = refl });
    others = rw out-roll-Simple refl;
    span = rw out-roll-Simple refl;
  });
  right = rw out-roll-Expr refl;
  span = rw out-roll-Expr refl;
}
  where
    digits : IsFactor room (factor.Number n (between i j)) i j
    digits = subst (λ l. IsFactorLayer room (FactorBelow room) l i j) (sym (outs-Number n (between i j))) (h, refl)

-- ---- the nearest `if` takes an `else`

-- if 1 then if 2 then else
abbrev tokens_2 : List Placed
tokens_2 = word (codes "if") 0 2 ∷ digit 1 3 4 ∷ word (codes "then") 5 9 ∷ word (codes "if") 10 12 ∷ digit 2 13 14 ∷ word (codes "then") 15 19 ∷ word (codes "else") 20 24 ∷ []

abbrev q : ℕ → Input
q n = after n (input tokens_2 0)

layered : (x : Stmt) {l : StmtLayer} (room : ℕ) (whole : Bool) (i j : Input) → out-Stmt x ≡ l → IsStmtLayer room (StmtBelow room) whole l i j → StmtBelow (suc room) whole x i j
layered x room whole i j opened held = subst (λ l. IsStmtLayer room (StmtBelow room) whole l i j) (sym opened) held

opened : (x : Stmt) {l : StmtLayer} (room : ℕ) (whole : Bool) (i j : Input) → out-Stmt x ≡ l → StmtBelow (suc room) whole x i j → IsStmtLayer room (StmtBelow room) whole l i j
opened x room whole i j same held = subst (λ l. IsStmtLayer room (StmtBelow room) whole l i j) same held

empty : (room : ℕ) (whole : Bool) (i : Input) → StmtBelow (suc room) whole stmt.Empty i i
empty room whole i = layered _ room whole i i outs-Empty refl

inner : (room : ℕ) → StmtBelow (suc (suc room)) false (stmt.If (number (pos 2) (at 13 14)) stmt.Empty (Some stmt.Empty) (at 10 24)) (q 3) (q 7)
unfolding kind kind_of_word next start token_at between
inner room = layered _ (suc room) false (q 3) (q 7) (outs-If (number (pos 2) (at 13 14)) stmt.Empty (Some stmt.Empty) (at 10 24)) (
  omega arith,
  (
    q 6,
    record {
      at = q 4;
      mid = q 5;
      word = record { kind = refl; next = refl };
      condition = is_number room (pos 2) (q 4) (q 5) (record { token = refl; next = refl });
      then_part = record { at = q 6; mark = record { kind = refl; next = refl }; item = empty room true (q 6) };
    },
    record { at = q 7; mark = record { kind = refl; next = refl }; item = empty room false (q 7) },
  ),
  refl,
)

nearest : (room : ℕ) → StmtBelow (suc (suc (suc room))) false (stmt.If (number (pos 1) (at 3 4)) (stmt.If (number (pos 2) (at 13 14)) stmt.Empty (Some stmt.Empty) (at 10 24)) None (at 0 24)) (q 0) (q 7)
unfolding kind kind_of_word next start token_at between
nearest room = layered _ (suc (suc room)) false (q 0) (q 7) (outs-If (number (pos 1) (at 3 4)) (stmt.If (number (pos 2) (at 13 14)) stmt.Empty (Some stmt.Empty) (at 10 24)) None (at 0 24)) (
  omega arith,
  (
    refl,
    record {
      at = q 1;
      mid = q 2;
      word = record { kind = refl; next = refl };
      condition = is_number (suc room) (pos 1) (q 1) (q 2) (record { token = refl; next = refl });
      then_part = record { at = q 3; mark = record { kind = refl; next = refl }; item = inner room };
    },
  ),
  refl,
)

-- the outer `if` has no `else` where one at the end of what stands before it has none
no_farther : (room : ℕ) (whole : Bool) (c d : Expr) (s t : Stmt) (span wide : Span) (i j : Input) → StmtBelow room whole (stmt.If c (stmt.If d s None span) (Some t) wide) i j → ⊥
no_farther zero whole c d s t span wide i j h = h
no_farther (suc room) whole c d s t span wide i j h =
    let choice = opened _ room whole i j (outs-If c (stmt.If d s None span) (Some t) wide) h in
    before room choice.1.0 _ choice.1.1.then_part.item
  where
    before : (room : ℕ) (m i : Input) → StmtBelow room true (stmt.If d s None span) i m → ⊥
    before zero m i h = h
    before (suc room) m i h = let never : true ≡ false = (opened _ room true i m (outs-If d s None span) h).1.0 in absurd (cc)

-- ---- groups of clauses

abbrev nothing : Stmts
nothing = roll-Stmts (record { stmts = stmt.Empty ∷ []; span = at 0 0 })

-- begin end;
abbrev block : Span → Block
block span = record { label = None; decls = []; late_label = None; body = nothing; span = span }

is_block : (room : ℕ) (i m n j : Input) → Takes k.Begin i m → Takes k.End m n → Takes k.Semicolon n j → IsBlock (suc room) (block (between i j)) i j
unfolding over left
is_block room i m n j begins ends last = record {
  after_label = i;
  after_decls = i;
  after_late = i;
  labelled = tt;
  label = refl;
  decls = refl;
  late_label = refl;
  body = record {
    fits = omega arith;
    stmts = record {
      mid = n;
      item = record {
        at = m;
        mid = m;
        opens = begins;
        inside = record { stmts = (m, empty room false m, refl); span = rw same refl };
        closes = ends;
      };
      mark = last;
    };
  };
  span = refl;
}
  where
    same : (left m == left m) ≡ true
    same = search rules

abbrev group : Clause → TransBody → Span → Group
group clause body span = roll-Group (record { clause = clause; body = body; span = span })

-- from a provided 1 begin end; provided 2 begin end;
abbrev tokens_3 : List Placed
tokens_3 =
    word (codes "from") 0 4 ∷ word (codes "a") 5 6
    ∷ word (codes "provided") 7 15 ∷ digit 1 16 17 ∷ word (codes "begin") 18 23 ∷ word (codes "end") 24 27 ∷ mark symbol.Semicolon 27 28
    ∷ word (codes "provided") 29 37 ∷ digit 2 38 39 ∷ word (codes "begin") 40 45 ∷ word (codes "end") 46 49 ∷ mark symbol.Semicolon 49 50 ∷ []

abbrev r : ℕ → Input
r n = after n (input tokens_3 0)

abbrev from_a : Clause
from_a = clause.From (record { names = name (codes "a") 5 6 ∷ []; span = at 5 6 }) (at 0 6)

abbrev first : Group
first = group (clause.Provided (number (pos 1) (at 16 17)) (at 7 17)) (trans_body.Block (block (at 18 28))) (at 7 28)

abbrev second : Group
second = group (clause.Provided (number (pos 2) (at 38 39)) (at 29 39)) (trans_body.Block (block (at 40 50))) (at 29 50)

-- both stand in the group of `from a`, which the first block does not close
abbrev both : Group
both = group from_a (trans_body.Groups (first ∷ second ∷ []) (at 7 50)) (at 0 50)

-- no tree for these tokens: the second stands beside the group of `from a`
abbrev apart : List Group
apart = group from_a (trans_body.Groups (first ∷ []) (at 7 28)) (at 0 28) ∷ second ∷ []

module _ (room : ℕ) (G : List Kind → Spelling Group) where
  block_body : (way : List Kind) (i j : Input) (b : Block) → IsBlock room b i j → TransBodyOf room G way (trans_body.Block b) i j
  block_body way i j b h = subst (λ l. TransBodyLayerOf room G way l i j) (sym (outs-Block b)) h

  groups_body : (way : List Kind) (i j : Input) (gs : List Group) → AreGroups room G way gs i j → TransBodyOf room G way (trans_body.Groups gs (between i j)) i j
  groups_body way i j gs h = subst (λ l. TransBodyLayerOf room G way l i j) (sym (outs-Groups gs (between i j))) (h, refl)

first_is : (room : ℕ) (G : List Kind → Spelling Group) → GroupOf (suc room) G (k.From ∷ []) first (r 2) (r 7)
unfolding kind kind_of_word next start token_at between stands
first_is room G = record {
  mid = r 4;
  fresh = refl;
  clause = (record { at = r 3; mark = record { kind = refl; next = refl }; item = is_number (suc room) (pos 1) (r 3) (r 4) (record { token = refl; next = refl }) }, refl);
  body = block_body (suc room) G _ (r 4) (r 7) (block (at 18 28)) (is_block room (r 4) (r 5) (r 6) (r 7) (record { kind = refl; next = refl }) (record { kind = refl; next = refl }) (record { kind = refl; next = refl }));
  span = refl;
}

second_is : (room : ℕ) (G : List Kind → Spelling Group) → GroupOf (suc room) G (k.From ∷ []) second (r 7) (r 12)
unfolding kind kind_of_word next start token_at between stands
second_is room G = record {
  mid = r 9;
  fresh = refl;
  clause = (record { at = r 8; mark = record { kind = refl; next = refl }; item = is_number (suc room) (pos 2) (r 8) (r 9) (record { token = refl; next = refl }) }, refl);
  body = block_body (suc room) G _ (r 9) (r 12) (block (at 40 50)) (is_block room (r 9) (r 10) (r 11) (r 12) (record { kind = refl; next = refl }) (record { kind = refl; next = refl }) (record { kind = refl; next = refl }));
  span = refl;
}

both_are : (room : ℕ) → IsTransBody (suc room) (trans_body.Groups (both ∷ []) (at 0 50)) (r 0) (r 12)
unfolding kind kind_of_word next start token_at between stands
both_are room = groups_body (suc room) (GroupWithin (suc room) 7) [] (r 0) (r 12) (both ∷ []) (r 12, one, refl)
  where
    inside : AreGroups (suc room) (GroupWithin (suc room) 6) (k.From ∷ []) (first ∷ second ∷ []) (r 2) (r 12)
    inside = (r 7, first_is room (GroupWithin (suc room) 5), (inl (ap holds_block_layer (outs-Block (block (at 18 28)))), (r 12, second_is room (GroupWithin (suc room) 5), refl)))

    one : GroupWithin (suc room) 7 [] both (r 0) (r 12)
    one = record {
      mid = r 2;
      fresh = refl;
      clause = (record { at = r 1; mark = record { kind = refl; next = refl }; item = record { names = (r 2, record { token = refl; free = refl; span = refl; next = refl }, refl); span = refl } }, refl);
      body = groups_body (suc room) (GroupWithin (suc room) 6) (k.From ∷ []) (r 2) (r 12) (first ∷ second ∷ []) inside;
      span = refl;
    }

not_apart : (room : ℕ) (G : List Kind → Spelling Group) (i j : Input) → AreGroups room G [] apart i j → ⊥
unfolding stands
not_apart room G i j h = neither h.2.0
  where
    neither : Follows [] (group from_a (trans_body.Groups (first ∷ []) (at 7 28)) (at 0 28)) second → ⊥
    neither (inl closed) = let no : false ≡ true = sym (ap holds_block_layer (outs-Groups (first ∷ []) (at 7 28))) ∙ closed in absurd (cc)
    neither (inr on_way) = let no : false ≡ true = on_way in absurd (cc)

-- from a to b provided p begin end; provided q begin end; to c begin end;
-- the last clause comes after an open group of its own kind: that is beside it, since `to` stands on its way
beside : (provided : List Group) (b c : Clause) (y : TransBody) (l m n : Span) → of_clause b ≡ k.To → of_clause c ≡ k.To
    → Follows (k.From ∷ []) (group b (trans_body.Groups provided l) m) (group c y n)
unfolding stands
beside provided b c y l m n b_is c_is = inr (rw b_is (rw c_is refl))

-- from a to b provided p begin end; provided q begin end; priority 1 begin end;
-- but a clause of a kind that does not stand there goes on inside it
inside_only : (provided : List Group) (b c : Clause) (y : TransBody) (l m n : Span) → of_clause b ≡ k.To → of_clause c ≡ k.Priority
    → Follows (k.From ∷ []) (group b (trans_body.Groups provided l) m) (group c y n) → ⊥
unfolding stands
inside_only provided b c y l m n b_is c_is (inl closed) = let no : false ≡ true = sym (ap holds_block_layer (outs-Groups provided l)) ∙ closed in absurd (cc)
inside_only provided b c y l m n b_is c_is (inr on_way) = let no : false ≡ true = rw b_is at (rw c_is at on_way) in absurd (cc)
