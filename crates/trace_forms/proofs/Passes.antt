-- Tokens that have the form of tokens from one place on have it from every later place on: what spells tokens passes that on.
use Rattle.std.proofs.Common.{◌≡◌, ◌∙◌, ℕ, zero, suc, ◌+◌, ◌<◌, ◌≤◌, Bool, true, false, ◌&&◌, List, [], ◌∷◌, map, Option, Some, None, refl, ap, sym, subst, arith, cond, ◌⊎◌, inl, inr, length, ℤ}
use Rattle.std.specs.Prelude.{All, ◌^◌, ◌||◌, ◌==◌, nat_le, nat_lt}
use Rattle.std.proofs.lemmas.Bool.{leb-true, le-leb, lt-ltb}
use Rattle.std.proofs.lemmas.Bool.Decides.{nat_tests}
use Rattle.std.specs.List.{AllByRecursion, list_all}
use Rattle.std.specs.Char.{is_ascii_lowercase, is_ascii_alphabetic, is_ascii_digit, to_ascii_lowercase}
use Rattle.estelle_tree.specs.declared.kind.Kind.{Kind}
use Rattle.estelle_tree.specs.declared.kind.Kind.TheVariants as k
use Rattle.estelle_tree.specs.declared.token.Token.TheVariants as token
use Rattle.estelle_tree.specs.declared.token.Placed.{Placed}
use Rattle.estelle_tree.specs.declared.tree.name.Name.{Name}
use Rattle.estelle_tree.specs.declared.tree.name.NameList.{NameList}
use Rattle.estelle_tree.specs.declared.tree.type_expr.Const.TheVariants as const
use Rattle.estelle_tree.specs.declared.tree.type_expr.Ordinal.TheVariants as ordinal
use Rattle.estelle_tree.specs.declared.tree.type_expr.TypeExpr.{TypeExpr, out-TypeExpr}
use Rattle.estelle_tree.specs.declared.tree.type_expr.TypeExpr.TheOpen.{TypeExpr-F}
use Rattle.estelle_tree.specs.declared.tree.type_expr.Fields.{out-Fields}
use Rattle.estelle_tree.specs.declared.tree.type_expr.TypedNames.{out-TypedNames}
use Rattle.estelle_tree.specs.declared.tree.expression.Factor.{Factor, out-Factor}
use Rattle.estelle_tree.specs.declared.tree.expression.Factor.TheOpen.{Factor-F, Selector-F}
use Rattle.estelle_tree.specs.declared.tree.expression.Selector.{out-Selector}
use Rattle.estelle_tree.specs.declared.tree.expression.Args.{out-Args}
use Rattle.estelle_tree.specs.declared.tree.expression.Elem.{out-Elem}
use Rattle.estelle_tree.specs.declared.tree.expression.Expr.{out-Expr}
use Rattle.estelle_tree.specs.declared.tree.expression.Simple.{out-Simple}
use Rattle.estelle_tree.specs.declared.tree.expression.Term.{out-Term}
use Rattle.estelle_tree.specs.declared.tree.expression.Variable.{out-Variable}
use Rattle.estelle_tree.specs.Input.{Input, kind, next, token_at, first_token, first_kind, after_first}
use Rattle.estelle_tree.specs.Kind.{kind_of, kind_of_word, is_identifier, is_name}
use Rattle.estelle_tree.specs.Lexed.{is_word_byte}
use Rattle.estelle_tree.specs.Spans.{TypeExprLayer, FactorLayer, SelectorLayer}
use Rattle.estelle_tree.specs.Spells.{IsToken, is_word_form}
use Rattle.estelle_tree.specs.Spelling.{Spelling, Takes, Flag, Mark, Optional, Chain, Several, Behind, Ended, Joined, Separated, Enclosed, Lines, MayBeLines}
use Rattle.estelle_tree.specs.Types.{IsName, IsNumber, IsChar, IsNames, of_sign, IsConst, IsOrdinal, AreTyped, AreFields, IsTypeLayer, TypeBelow, IsType}
use Rattle.estelle_tree.specs.Expressions.{TermOf, SimpleOf, ExprOf, ArgsOf, ElemOf, ElemsOf, SelectorLayerOf, VariableOf, IsFactorLayer, FactorBelow, ExprBelow, IsExpr, IsArgs, IsVariable}
use Rattle.estelle_tree.specs.Statements.{IsIp, MayBeArgs}
use Rattle.estelle_model_legality.proofs.Lists.{and_both, both_and, or_cases, or_left, or_right, same_number}
use Rattle.trace_text.specs.Forms.{IsName as IsNameForm}
use Rattle.trace_forms.proofs.Named.{is_named}
use Rattle.trace_forms.proofs.Named as named

-- the tokens from a place on have the form of tokens, and are few
abbrev pub FormsAt : Input → Type 0
FormsAt i = AllByRecursion (λ (p : Placed). IsToken p.token) i.tokens × (length i.tokens ≤ 2 ^ 32)

pub record Less (i j : Input) : Type 0 where
  pub pass : FormsAt i → FormsAt j

pub less_same : {i j : Input} → i ≡ j → Less i j
less_same {i} {j} e = record { pass = λ h. subst FormsAt e h }

pub less_more : {i m j : Input} → Less i m → Less m j → Less i j
less_more h k = record { pass = λ f. k.pass (h.pass f) }

first_passes : (end : ℕ) (ps : List Placed) → AllByRecursion (λ (p : Placed). IsToken p.token) ps → length ps ≤ 2 ^ 32 → FormsAt (after_first end ps)
first_passes end [] h l = (tt, l)
first_passes end (p ∷ ps) h l = (h.1, omega (arith, l))

pub less_next : {i j : Input} → next i ≡ j → Less i j
unfolding next
less_next {i} {j} e = record { pass = λ h. subst FormsAt e (first_passes i.end i.tokens h.0 h.1) }

pub less_takes : {k : Kind} {i j : Input} → Takes k i j → Less i j
less_takes h = less_next h.next

pub name_less : {x : Name} {i j : Input} → IsName x i j → Less i j
name_less h = less_next h.next

abbrev pub AllLess : {A : Type 0} → Spelling A → Type 0
AllLess {A} P = (x : A) (i j : Input) → P x i j → Less i j

-- ---- the forms of the grammar

pub less_flag : (k : Kind) (b : Bool) {i j : Input} → Flag k b i j → Less i j
less_flag k false h = less_same h
less_flag k true h = less_takes h

pub less_mark : {O : Type 0} (of : O → Kind) (o : Option O) {i j : Input} → Mark of o i j → Less i j
less_mark of None h = less_same h
less_mark of (Some x) h = less_takes h

pub maybe : {A : Type 0} {P : Spelling A} → AllLess P → AllLess (Optional P)
maybe F None i j h = less_same h
maybe F (Some x) i j h = F x i j h

pub chain : {A : Type 0} {P : Spelling A} → AllLess P → AllLess (Chain P)
chain F [] i j h = less_same h
chain F (x ∷ xs) i j h = less_more (F x i h.0 h.1) (chain F xs h.0 j h.2)

pub behind : {A : Type 0} {k : Kind} {P : Spelling A} → AllLess P → AllLess (Behind k P)
behind F x i j h = less_more (less_takes h.mark) (F x h.at j h.item)

pub ended : {A : Type 0} {k : Kind} {P : Spelling A} → AllLess P → AllLess (Ended k P)
ended F x i j h = less_more (F x i h.mid h.item) (less_takes h.mark)

pub enclosed : {A : Type 0} {a b : Kind} {P : Spelling A} → AllLess P → AllLess (Enclosed a b P)
enclosed F x i j h = less_more (less_takes h.opens) (less_more (F x h.at h.mid h.inside) (less_takes h.closes))

pub joined : {A B : Type 0} {k : Kind} {P : Spelling A} {Q : Spelling B} → AllLess P → AllLess Q → (x : A) (y : B) (i j : Input) → Joined k P Q x y i j → Less i j
joined F G x y i j h = less_more (F x i h.mid h.first) (less_more (less_takes h.mark) (G y h.at j h.second))

pub several : {A : Type 0} {P : Spelling A} → AllLess P → AllLess (Several P)
several F [] i j h = absurd h
several F (x ∷ xs) i j h = less_more (F x i h.0 h.1) (chain F xs h.0 j h.2)

pub separated : {A : Type 0} (k : Kind) {P : Spelling A} → AllLess P → AllLess (Separated k P)
separated k F [] i j h = absurd h
separated k F (x ∷ xs) i j h = less_more (F x i h.0 h.1) (chain (behind F) xs h.0 j h.2)

pub lines : {A : Type 0} {P : Spelling A} → AllLess P → AllLess (Lines P)
lines F = several (ended F)

pub may_be_lines : {A : Type 0} (k : Kind) {P : Spelling A} → AllLess P → AllLess (MayBeLines k P)
may_be_lines k F [] i j h = less_same h
may_be_lines k F (x ∷ xs) i j h = behind (lines F) (x ∷ xs) i j h

pub name : AllLess IsName
name x i j h = name_less h

pub names : AllLess IsNames
names xs i j h = separated k.Comma name xs.names i j h.names

-- ---- constants and types

pub const_less : AllLess IsConst
const_less (const.Number s n span) i j h = less_more (less_mark of_sign s h.0.sign) (less_next h.0.item.next)
const_less (const.Name s x span) i j h = less_more (less_mark of_sign s h.0.sign) (name_less h.0.item)
const_less (const.Char c span) i j h = less_next h.0.next

pub ordinal_less : AllLess IsOrdinal
ordinal_less (ordinal.Name x) i j h = name_less h
ordinal_less (ordinal.Enumeration xs span) i j h = enclosed names xs i j h.0
ordinal_less (ordinal.Subrange low high span) i j h = joined const_less const_less low high i j h.0

module _ (T : Spelling TypeExpr) (less : AllLess T) where
  pub typed_less : AllLess (AreTyped T)
  typed_less x i j h = joined names less (out-TypedNames x).names (out-TypedNames x).type_expr i j h

  fields_less : AllLess (AreFields T)
  fields_less fs i j h = less_more (separated k.Semicolon typed_less (out-Fields fs).sections i h.mid h.sections) (less_flag k.Semicolon (out-Fields fs).semicolon h.semicolon)

  type_layer_less : (room : ℕ) (l : TypeExprLayer) (i j : Input) → IsTypeLayer room T l i j → Less i j
  type_layer_less room (TypeExpr-F.Ordinal o) i j h = ordinal_less o i j h
  type_layer_less room (TypeExpr-F.Array packed indices component span) i j h =
      let a = h.1 in
      less_more (less_flag k.Packed packed a.packed) (less_more (less_takes a.array) (less_more (enclosed (separated k.Comma ordinal_less) indices a.after a.mid a.indices) (behind less component a.mid j a.component)))
  type_layer_less room (TypeExpr-F.Fields packed fields span) i j h = let a = h.1 in less_more (less_flag k.Packed packed a.packed) (enclosed fields_less fields a.at j a.fields)
  type_layer_less room (TypeExpr-F.Set packed base span) i j h = let a = h.1 in less_more (less_flag k.Packed packed a.packed) (less_more (less_takes a.set) (behind ordinal_less base a.after j a.base))

type_below_less : (room : ℕ) → AllLess (TypeBelow room)
type_below_less zero t i j h = absurd h
type_below_less (suc room) t i j h = type_layer_less (TypeBelow room) (type_below_less room) room (out-TypeExpr t) i j h

pub type_less : (room : ℕ) → AllLess (IsType room)
type_less room = type_below_less (suc room)

-- ---- expressions

module _ (F : Spelling Factor) (less : AllLess F) where
  term_less : AllLess (TermOf F)
  term_less t i j h = less_more (less (out-Term t).first i h.mid h.first) (chain (λ x i j h. behind less x.1 i j h) (out-Term t).others h.mid j h.others)

  simple_less : AllLess (SimpleOf F)
  simple_less s i j h = less_more (less_mark of_sign (out-Simple s).sign h.sign) (less_more (term_less (out-Simple s).first h.at h.mid h.first) (chain (λ x i j h. behind term_less x.1 i j h) (out-Simple s).others h.mid j h.others))

  pub expr_of_less : AllLess (ExprOf F)
  expr_of_less e i j h = less_more (simple_less (out-Expr e).left i h.mid h.left) (maybe (λ x i j h. behind simple_less x.1 i j h) (out-Expr e).right h.mid j h.right)

  pub args_of_less : AllLess (ArgsOf F)
  args_of_less a i j h = separated k.Comma expr_of_less (out-Args a).exprs i j h.exprs

  elem_less : AllLess (ElemOf F)
  elem_less x i j h = less_more (expr_of_less (out-Elem x).first i h.mid h.first) (maybe (behind expr_of_less) (out-Elem x).last h.mid j h.last)

  elems_less : AllLess (ElemsOf F)
  elems_less [] i j h = less_same h
  elems_less (x ∷ xs) i j h = separated k.Comma elem_less (x ∷ xs) i j h

  module _ (room : ℕ) where
    selector_layer_less : (l : SelectorLayer) (i j : Input) → SelectorLayerOf room F l i j → Less i j
    selector_layer_less (Selector-F.Index exprs) i j h = enclosed (separated k.Comma expr_of_less) exprs i j h.1
    selector_layer_less (Selector-F.Field x) i j h = behind name x i j h

    pub variable_of_less : AllLess (VariableOf room F)
    variable_of_less v i j h = less_more (name_less h.name) (chain (λ s i j h. selector_layer_less (out-Selector s) i j h) (out-Variable v).selectors h.mid j h.selectors)

    factor_layer_less : (l : FactorLayer) (i j : Input) → IsFactorLayer room F l i j → Less i j
    factor_layer_less (Factor-F.Number n span) i j h = less_next h.0.next
    factor_layer_less (Factor-F.Char n span) i j h = less_next h.0.next
    factor_layer_less (Factor-F.Variable v) i j h = variable_of_less v i j h
    factor_layer_less (Factor-F.Call x args span) i j h = less_more (name_less h.1.name) (enclosed args_of_less args h.1.mid j h.1.args)
    factor_layer_less (Factor-F.Paren e span) i j h = enclosed expr_of_less e i j h.1
    factor_layer_less (Factor-F.Not f span) i j h = behind less f i j h.1
    factor_layer_less (Factor-F.Set elems span) i j h = enclosed elems_less elems i j h.1

factor_below_less : (room : ℕ) → AllLess (FactorBelow room)
factor_below_less zero f i j h = absurd h
factor_below_less (suc room) f i j h = factor_layer_less (FactorBelow room) (factor_below_less room) room (out-Factor f) i j h

pub expr_below_less : (room : ℕ) → AllLess (ExprBelow room)
expr_below_less room = expr_of_less (FactorBelow room) (factor_below_less room)

pub expr_less : (room : ℕ) → AllLess (IsExpr room)
expr_less room = expr_below_less (suc room)

pub args_less : (room : ℕ) → AllLess (IsArgs room)
args_less room = args_of_less (FactorBelow (suc room)) (factor_below_less (suc room))

pub variable_less : (room : ℕ) → AllLess (IsVariable room)
variable_less room = variable_of_less (FactorBelow room) (factor_below_less room) room

pub may_be_args_less : (room : ℕ) → AllLess (MayBeArgs room)
may_be_args_less room = maybe (enclosed (args_less room))

pub ip_less : AllLess IsIp
ip_less p i j h = less_more (name_less h.name) (maybe (behind name) p.part h.mid j h.part)

-- ---- names have the form that a trace can tell

in_range : (low high b : ℕ) → (nat_le low b && nat_le b high) ≡ true → (low ≤ b) × (b ≤ high)
in_range low high b h = let c = and_both (nat_le low b) (nat_le b high) h in (leb-true low b c.0, leb-true b high c.1)

range_in : (low high b : ℕ) → low ≤ b → b ≤ high → (nat_le low b && nat_le b high) ≡ true
range_in low high b h k = both_and (nat_le low b) (nat_le b high) (le-leb low b h) (le-leb b high k)

not_less : (b n : ℕ) → n ≤ b → nat_lt b n ≡ false
not_less b n h = grind (arith, nat_tests)

-- a byte that is no capital stays as it is
stays : (b : ℕ) → (b < 65) ⊎ (91 ≤ b) → to_ascii_lowercase b ≡ b
stays b (inl h) = ap (λ c. cond c b (cond (nat_lt b 91) (b + 32) b)) (lt-ltb b 65 h)
stays b (inr h) = ap (λ c. cond c b (cond (nat_lt b 91) (b + 32) b)) (not_less b 65 (omega (arith, h))) ∙ ap (λ c. cond c (b + 32) b) (not_less b 91 h)

lower_letter : (b : ℕ) → is_ascii_lowercase b ≡ true → (is_ascii_alphabetic b ≡ true) × (to_ascii_lowercase b ≡ b)
lower_letter b h = let r = in_range 97 122 b h in let low = r.0 in (or_right (nat_le 65 b && nat_le b 90) (nat_le 97 b && nat_le b 122) h, stays b (inr (omega (arith, low))))

letter_byte : (b : ℕ) → is_ascii_alphabetic b ≡ true → is_word_byte b ≡ true
letter_byte b h = or_left (is_ascii_alphabetic b || is_ascii_digit b) (b == 95) (or_left (is_ascii_alphabetic b) (is_ascii_digit b) h)

word_byte : (b : ℕ) → (is_ascii_lowercase b || is_ascii_digit b || b == 95) ≡ true → (is_word_byte b ≡ true) × (to_ascii_lowercase b ≡ b)
word_byte b h = elim (or_cases (is_ascii_lowercase b || is_ascii_digit b) (b == 95) h) [
  | inl o ↦ elim (or_cases (is_ascii_lowercase b) (is_ascii_digit b) o) [
    | inl c ↦ let l = lower_letter b c in (letter_byte b l.0, l.1)
    | inr d ↦ let r = in_range 48 57 b d in let high = r.1 in (or_left (is_ascii_alphabetic b || is_ascii_digit b) (b == 95) (or_right (is_ascii_alphabetic b) (is_ascii_digit b) d), stays b (inl (omega (arith, high))))
  ]
  | inr e ↦ let is = same_number b 95 e in (or_right (is_ascii_alphabetic b || is_ascii_digit b) (b == 95) e, stays b (inr (omega (arith, is))))
]

rest_form : (bs : List ℕ) → list_all (λ b. is_ascii_lowercase b || is_ascii_digit b || b == 95) bs ≡ true → (list_all is_word_byte bs ≡ true) × (map to_ascii_lowercase bs ≡ bs)
rest_form [] h = (refl, refl)
rest_form (b ∷ bs) h =
    let c = and_both (is_ascii_lowercase b || is_ascii_digit b || b == 95) _ h in
    let d = word_byte b c.0 in
    let e = rest_form bs c.1 in
    (both_and (is_word_byte b) _ d.0 e.0, ap (λ x. x ∷ map to_ascii_lowercase bs) d.1 ∙ ap (λ xs. b ∷ xs) e.1)

word_form : (w : List ℕ) → is_word_form w ≡ true → kind_of_word w ≡ k.Name → IsNameForm w
unfolding is_identifier
word_form [] h e = absurd (cc)
word_form (b ∷ bs) h e =
    let c = and_both (is_ascii_lowercase b) _ h in
    let l = lower_letter b c.0 in
    let r = rest_form bs c.1 in
    record {
      letter = l.0;
      all = both_and (is_word_byte b) _ (letter_byte b l.0) r.0;
      lower = ap (λ x. x ∷ map to_ascii_lowercase bs) l.1 ∙ ap (λ xs. b ∷ xs) r.1;
      free = ap is_name e;
    }

first_form : (w : List ℕ) (ps : List Placed) → AllByRecursion (λ (p : Placed). IsToken p.token) ps → first_token ps ≡ Some (token.Word w) → first_kind ps ≡ k.Name → IsNameForm w
first_form w [] h e f = absurd (cc)
first_form w (p ∷ ps) h e f =
    let is : p.token ≡ token.Word w = cc in
    word_form w (subst IsToken is h.0) (sym (ap kind_of is) ∙ f)

pub name_form : {x : Name} {i j : Input} → IsName x i j → FormsAt i → named.is_name x.word ≡ true
unfolding kind token_at
name_form {x} {i} {j} h f = is_named x.word (first_form x.word i.tokens f.0 h.token h.free)

-- ---- numbers and characters

first_number : (n : ℤ) (ps : List Placed) → AllByRecursion (λ (p : Placed). IsToken p.token) ps → first_token ps ≡ Some (token.Number n) → IsToken (token.Number n)
first_number n [] h e = absurd (cc)
first_number n (p ∷ ps) h e = let is : p.token ≡ token.Number n = cc in subst IsToken is h.0

pub number_form : {n : ℤ} {i j : Input} → IsNumber n i j → FormsAt i → IsToken (token.Number n)
unfolding token_at
number_form {n} {i} {j} h f = first_number n i.tokens f.0 h.token

first_char : (c : ℕ) (ps : List Placed) → AllByRecursion (λ (p : Placed). IsToken p.token) ps → first_token ps ≡ Some (token.Char c) → IsToken (token.Char c)
first_char c [] h e = absurd (cc)
first_char c (p ∷ ps) h e = let is : p.token ≡ token.Char c = cc in subst IsToken is h.0

pub char_form : {c : ℕ} {i j : Input} → IsChar c i j → FormsAt i → IsToken (token.Char c)
unfolding token_at
char_form {c} {i} {j} h f = first_char c i.tokens f.0 h.token

-- ---- names are no more than the tokens that they spell

fewer_first : (end : ℕ) (ps : List Placed) → length (after_first end ps).tokens ≤ length ps
fewer_first end [] = omega arith
fewer_first end (p ∷ ps) = omega arith

fewer_next : (i j : Input) → next i ≡ j → length j.tokens ≤ length i.tokens
unfolding next
fewer_next i j e = let a = ap (λ (m : Input). length m.tokens) e in let b = fewer_first i.end i.tokens in omega (arith, a, b)

first_one : (w : List ℕ) (end : ℕ) (ps : List Placed) → first_token ps ≡ Some (token.Word w) → suc (length (after_first end ps).tokens) ≤ length ps
first_one w end [] e = absurd (cc)
first_one w end (p ∷ ps) e = omega arith

one_name : {x : Name} {i j : Input} → IsName x i j → suc (length j.tokens) ≤ length i.tokens
unfolding next token_at
one_name {x} {i} {j} h = let a = ap (λ (m : Input). length m.tokens) h.next in let b = first_one x.word i.end i.tokens h.token in omega (arith, a, b)

more_names : (xs : List Name) (i j : Input) → Chain (Behind k.Comma IsName) xs i j → length xs + length j.tokens ≤ length i.tokens
more_names [] i j h = let a = ap (λ (m : Input). length m.tokens) h in omega (arith, a)
more_names (x ∷ xs) i j h = let a = fewer_next i h.1.at h.1.mark.next in let b = one_name h.1.item in let c = more_names xs h.0 j h.2 in omega (arith, a, b, c)

few_names : (xs : List Name) (i j : Input) → Separated k.Comma IsName xs i j → (0 < length xs) × (length xs ≤ length i.tokens)
few_names [] i j h = absurd h
few_names (x ∷ xs) i j h = let b = one_name h.1 in let c = more_names xs h.0 j h.2 in (omega arith, omega (arith, b, c))

pub names_few : {xs : NameList} {i j : Input} → IsNames xs i j → FormsAt i → (0 < length xs.names) × (length xs.names ≤ 2 ^ 32)
names_few {xs} {i} {j} h f = let a = few_names xs.names i j h.names in let b = a.1 in let c = f.1 in (a.0, omega (arith, b, c))

-- ---- the whole list

pub all_at : (ps : List Placed) → All (λ (p : Placed). IsToken p.token) ps → AllByRecursion (λ (p : Placed). IsToken p.token) ps
all_at [] h = tt
all_at (p ∷ ps) h = (h 0 p (omega arith), all_at ps (λ n d below. h (suc n) d (omega (arith, below))))
