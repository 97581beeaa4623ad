-- The tokens of the ring are those of a specification.
use Rattle.std.proofs.Common.{ℕ, zero, suc, ◌+◌, ◌-◌, ◌≤◌, [], ◌∷◌, ◌++◌, refl, false, arith, rules}
use Rattle.std.specs.Prelude.{All, codes}
use Rattle.std.proofs.lemmas.List.Elements.{All-nil, All-cons, All-append, All-map, All-from_recursion}
use Rattle.estelle_tree.specs.declared.token.Placed.{Placed}
use Rattle.estelle_tree.specs.declared.tree.specification.Spec.{Spec}
use Rattle.estelle_tree.specs.declared.kind.Kind.TheVariants as k
use Rattle.estelle_tree.specs.Kind.{kind_of_word}
use Rattle.estelle_tree.specs.Spelling.{Lines, Behind, Ended}
use Rattle.estelle_tree.specs.Types.{IsName}
use Rattle.estelle_tree.specs.Expressions.{IsFactor}
use Rattle.estelle_tree.specs.Declarations.{AreVars}
use Rattle.estelle_tree.specs.Statements.{StmtBelow}
use Rattle.estelle_tree.specs.Clauses.{stands}
use Rattle.estelle_tree.specs.Specification.{IsInter, AreInters, IsChannel, IsIpDecl, AreModvars, IsHeader, IsInit, IsTrans, BodyOf, DeclOf, PartsBelow, IsSpec}
use Rattle.estelle_tree.specs.Spells.{Spells, IsToken, max_nesting}
use Rattle.estelle_printer.specs.Forms.{Tokens}
use Rattle.estelle_printer.specs.Terminals.{terminal}
use Rattle.spec_maker.specs.Ring.{each, station}
use Rattle.spec_maker.proofs.Names.{station_free, station_form, number_form}
use Rattle.spec_maker.proofs.Tokens.{word, colon, semicolon, dot, first_tokens, second_tokens, channel_tokens, header_tokens, body_tokens, common_tokens, variable_tokens, start_tokens, link_tokens, next_tokens, middle_tokens, ring_tokens}
use Rattle.spec_maker.proofs.Standing.{unplaced_one, unplaced, Stands, behind, ended, enclosed, joined, none, more, several, each_stands}
use Rattle.spec_maker.proofs.Expressions.{name, names, one_name, two_names, ip, type_name, typed, number, variable, value, term, sum, expr, only, argument}
use Rattle.spec_maker.proofs.Statements as statement
use Rattle.spec_maker.proofs.Statements.{GroupOn, connect, assign, output, statements, one_statement, block, from_clause, to_clause, when_clause, block_alone, group_alone, two_groups, group}
use Rattle.spec_maker.proofs.Bodies.{individual_queues, params, inter, inters, channel, ip_decl, header, modvars, init_to, init, trans, channel_decl, header_decl, body_decl, modvar_decl, var_decl, state_decl, parts, body, spec}

-- ---- what does not depend on how many stations there are

channel_is : {us : Tokens} → Stands IsChannel (channel_tokens ++ us) us
unfolding kind_of_word
channel_is =
    let P = Ended k.Semicolon IsInter in
    let G = Behind k.By AreInters in
    channel (behind k.Channel refl (name (codes "link") refl)) (joined k.Comma refl (name (codes "giver") refl) (name (codes "taker") refl))
    (several G (behind k.By refl (inters (joined k.Colon refl (one_name (codes "giver") refl)
    (several P (ended k.Semicolon refl (inter (name (codes "token") refl)
    (enclosed k.OpenParenthesis k.CloseParenthesis refl refl (params (joined k.Colon refl (one_name (codes "hops") refl) (name (codes "integer") refl)))))) (none P))))) (none G))

header_is : {us : Tokens} (room : ℕ) → Stands (IsHeader room) (header_tokens ++ us) us
unfolding kind_of_word
header_is room =
    let P = Ended k.Semicolon IsIpDecl in
    header room (behind k.Module refl (name (codes "station") refl))
    (enclosed k.OpenParenthesis k.CloseParenthesis refl refl (params (joined k.Colon refl (one_name (codes "mark") refl) (name (codes "integer") refl))))
    (ended k.Semicolon refl (ip_decl (joined k.Colon refl (one_name (codes "left") refl) (name (codes "link") refl)) (enclosed k.OpenParenthesis k.CloseParenthesis refl refl (name (codes "taker") refl))))
    (more P (ended k.Semicolon refl (ip_decl (joined k.Colon refl (one_name (codes "right") refl) (name (codes "link") refl)) (enclosed k.OpenParenthesis k.CloseParenthesis refl refl (name (codes "giver") refl)))) (none P))

-- ---- where two levels of nesting and this many more may open

module _ (room : ℕ) where
  first_is : {us : Tokens} → Stands (GroupOn (suc room) 7 [] k.From) (first_tokens ++ us) us
  unfolding kind_of_word stands
  first_is =
      group (suc room) 6 [] k.From refl (from_clause (suc room) (one_name (codes "fresh") refl))
      (group_alone (suc room) 6 (k.From ∷ []) k.To (group (suc room) 5 (k.From ∷ []) k.To refl (to_clause (suc room) (name (codes "here") refl))
      (block_alone (suc room) 5 (k.To ∷ k.From ∷ []) (block room (one_statement room
      (output room (joined k.Dot refl (name (codes "right") refl) (name (codes "token") refl)) (argument room (only room (number room 0)))))))))

  second_is : {us : Tokens} → Stands (GroupOn (suc room) 7 [] k.From) (second_tokens ++ us) us
  unfolding kind_of_word stands
  second_is =
      let S = Ended k.Semicolon (StmtBelow (suc room) false) in
      let F = IsFactor room in
      group (suc room) 6 [] k.From refl (from_clause (suc room) (one_name (codes "here") refl))
      (group_alone (suc room) 6 (k.From ∷ []) k.To (group (suc room) 5 (k.From ∷ []) k.To refl (to_clause (suc room) (name (codes "here") refl))
      (group_alone (suc room) 5 (k.To ∷ k.From ∷ []) k.When (group (suc room) 4 (k.To ∷ k.From ∷ []) k.When refl (when_clause (suc room) (joined k.Dot refl (name (codes "left") refl) (name (codes "token") refl)))
      (block_alone (suc room) 4 (k.When ∷ k.To ∷ k.From ∷ []) (block room (statements room
      (more S (ended k.Semicolon refl (assign room (joined k.Becomes refl (variable room (name (codes "sum") refl)) (only room (value room (name (codes "hops") refl)))))) (none S))
      (output room (joined k.Dot refl (name (codes "right") refl) (name (codes "token") refl))
      (argument room (expr F (sum F (term F (value room (name (codes "hops") refl))) (term F (number room 1)))))))))))))

  body_is : {us : Tokens} → Stands (BodyOf (suc (suc room)) (PartsBelow (suc (suc room)))) (body_tokens ++ us) us
  unfolding kind_of_word stands
  body_is =
      let inside = PartsBelow (suc room) in
      let V = Ended k.Semicolon (AreVars (suc room)) in
      let D = DeclOf (suc room) inside in
      let T = IsTrans (suc room) in
      body (suc (suc room)) (PartsBelow (suc (suc room))) (omega arith) (joined k.For refl (name (codes "go") refl) (name (codes "station") refl))
      (parts (suc room) inside
      (more D (var_decl (suc room) inside (behind k.Var refl (several V (ended k.Semicolon refl (typed (suc room) (joined k.Colon refl (one_name (codes "sum") refl) (type_name (suc room) (name (codes "integer") refl))))) (none V))))
      (more D (state_decl (suc room) inside (enclosed k.State k.Semicolon refl refl (two_names (codes "fresh") (codes "here") refl refl))) (none D)))
      (init_to (suc room) (behind k.To refl (name (codes "fresh") refl)) (block room (one_statement room (assign room (joined k.Becomes refl (variable room (name (codes "sum") refl)) (only room (value room (name (codes "mark") refl))))))))
      (more T (trans (suc room) (behind k.Trans refl (two_groups (suc room) 7 [] k.From k.From refl first_is second_is))) (none T)))

  -- ---- what depends on it

  variable_is : (i : ℕ) → i ≤ 200 → (us : Tokens) → Stands (Ended k.Comma IsName) (variable_tokens i ++ us) us
  variable_is i low us = ended k.Comma refl (name (station i) (station_free i (omega arith)))

  start_is : (i : ℕ) → i ≤ 200 → (us : Tokens) → Stands (Ended k.Semicolon (StmtBelow (suc room) false)) (start_tokens i ++ us) us
  unfolding kind_of_word
  start_is i low us = ended k.Semicolon refl (statement.init room (joined k.With refl (name (station i) (station_free i (omega arith))) (name (codes "go") refl)) (argument room (only room (number room i))))

  link_is : (i j : ℕ) → i ≤ 200 → j ≤ 200 → (us : Tokens) → Stands (StmtBelow (suc room) false) (link_tokens i j ++ us) us
  unfolding kind_of_word
  link_is i j low less us = connect room (joined k.To refl
      (ip (joined k.Dot refl (name (station i) (station_free i (omega arith))) (name (codes "right") refl)))
      (ip (joined k.Dot refl (name (station j) (station_free j (omega arith))) (name (codes "left") refl))))

-- ---- the whole

module _ (n : ℕ) (some : 1 ≤ n) (few : n ≤ 200) (room : ℕ) where
  variables_are : {us : Tokens} → Stands (Behind k.Modvar (Lines AreModvars)) (terminal k.Modvar ∷ (each variable_tokens (n - 1) ++ word (station n) ∷ colon ∷ word (codes "station") ∷ semicolon ∷ us)) us
  unfolding kind_of_word
  variables_are =
      let C = Ended k.Comma IsName in
      let M = Ended k.Semicolon AreModvars in
      behind k.Modvar refl (several M (ended k.Semicolon refl (modvars (joined k.Colon refl
      (names (each_stands C variable_tokens (n - 1) (λ i ws low. variable_is room i (omega arith) ws) (none C)) (name (station n) (station_free n (omega arith))))
      (name (codes "station") refl)))) (none M))

  init_is : {us : Tokens} → Stands (IsInit (suc (suc room))) (terminal k.Initialize ∷ terminal k.Begin ∷ (each start_tokens n ++ (each next_tokens (n - 1) ++ (link_tokens n 1 ++ terminal k.End ∷ semicolon ∷ us)))) us
  unfolding kind_of_word
  init_is {us} =
      let S = Ended k.Semicolon (StmtBelow (suc (suc room)) false) in
      let inside = suc room in
      init (suc (suc room)) (block inside (statements inside
      (each_stands S start_tokens n (λ i ws low. start_is inside i (omega arith) ws)
      (each_stands S next_tokens (n - 1) (λ i ws low. ended k.Semicolon refl (link_is inside i (i + 1) (omega arith) (omega arith) (semicolon ∷ ws))) (none S)))
      (link_is inside n 1 few (omega arith) (terminal k.End ∷ semicolon ∷ us))))

  ring_stands : Stands (IsSpec (suc (suc room))) (ring_tokens n) []
  unfolding kind_of_word
  ring_stands =
      let all = suc (suc room) in
      let P = PartsBelow (suc (suc room)) in
      let D = DeclOf (suc (suc room)) P in
      spec all (behind k.Specification refl (name (codes "ring") refl)) individual_queues
      (parts all P
      (more D (channel_decl all P channel_is) (more D (header_decl all P (header_is all)) (more D (body_decl all P (body_is room)) (more D (modvar_decl all P variables_are) (none D)))))
      init_is (none (IsTrans all)))

-- ---- each of them is a token

each_all : (f : ℕ → Tokens) (n : ℕ) → ((i : ℕ) → i ≤ n → All IsToken (f i)) → All IsToken (each f n)
each_all f zero h = All-nil IsToken
each_all f (suc n) h = All-append IsToken (each f n) (f (suc n)) (each_all f n (λ i low. h i (omega arith))) (h (suc n) (omega arith))

common_forms : All IsToken common_tokens
common_forms = All-from_recursion IsToken common_tokens (search rules)

module _ (i : ℕ) (few : i ≤ 200) where
  abbrev IsWord : Type 0
  IsWord = IsToken (word (station i))

  is_word : IsWord
  is_word = station_form i (omega arith)

  variable_forms : All IsToken (variable_tokens i)
  variable_forms = All-from_recursion IsToken (variable_tokens i) (is_word, (tt, tt))

  start_forms : All IsToken (start_tokens i)
  start_forms = All-from_recursion IsToken (start_tokens i) (refl, (is_word, (refl, (refl, (tt, (number_form i (omega arith), (tt, (tt, tt))))))))

  middle_forms : All IsToken (middle_tokens i)
  middle_forms = All-from_recursion IsToken (middle_tokens i) (is_word, (tt, (refl, (tt, (refl, (refl, tt))))))

link_forms : (i j : ℕ) → i ≤ 200 → j ≤ 200 → All IsToken (link_tokens i j)
link_forms i j low less = All-from_recursion IsToken (link_tokens i j) (refl, (is_word i low, (tt, (refl, (refl, (is_word j less, (tt, (refl, tt))))))))

next_forms : (i : ℕ) → i + 1 ≤ 200 → All IsToken (next_tokens i)
next_forms i low = All-append IsToken (link_tokens i (i + 1)) (semicolon ∷ []) (link_forms i (i + 1) (omega arith) low) (All-from_recursion IsToken (semicolon ∷ []) (tt, tt))

ring_forms : (n : ℕ) → 1 ≤ n → n ≤ 200 → All IsToken (ring_tokens n)
ring_forms n some few =
    let starts = each start_tokens n in
    let nexts = each next_tokens (n - 1) in
    let ends : Tokens = terminal k.End ∷ semicolon ∷ terminal k.End ∷ dot ∷ [] in
    let last : All IsToken (link_tokens n 1 ++ ends) = All-append IsToken (link_tokens n 1) ends (link_forms n 1 few (omega arith)) (All-from_recursion IsToken ends (refl, (tt, (refl, (tt, tt))))) in
    let links = All-append IsToken nexts (link_tokens n 1 ++ ends) (each_all next_tokens (n - 1) (λ i low. next_forms i (omega arith))) last in
    let statements = All-append IsToken starts (nexts ++ (link_tokens n 1 ++ ends)) (each_all start_tokens n (λ i low. start_forms i (omega arith))) links in
    let middle = All-append IsToken (middle_tokens n) (starts ++ (nexts ++ (link_tokens n 1 ++ ends))) (middle_forms n few) statements in
    let rest : Tokens = middle_tokens n ++ (starts ++ (nexts ++ (link_tokens n 1 ++ ends))) in
    let variables = All-append IsToken (each variable_tokens (n - 1)) rest (each_all variable_tokens (n - 1) (λ i low. variable_forms i (omega arith))) middle in
    All-append IsToken common_tokens (terminal k.Modvar ∷ (each variable_tokens (n - 1) ++ rest)) common_forms (All-cons IsToken (terminal k.Modvar) (each variable_tokens (n - 1) ++ rest) refl variables)

-- ---- and so a specification spells them

abbrev IsForm : Placed → Type 0
IsForm p = IsToken p.token

pub ring_spells : (n : ℕ) → 1 ≤ n → n ≤ 200 → (spec : Spec) × Spells spec (unplaced (ring_tokens n))
unfolding max_nesting
ring_spells n some few =
    let s = ring_stands n some few 198 in
    (s.thing, record { forms = All-map IsForm unplaced_one (ring_tokens n) (ring_forms n some few); end = 0; whole = s.is })
