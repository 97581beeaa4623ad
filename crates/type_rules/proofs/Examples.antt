-- Types and broken rules, worked by hand.
use Rattle.std.proofs.Common.{◌≡◌, ◌∙◌, ℕ, ℤ, suc, inl, true, false, List, [], ◌∷◌, Option, Some, None, refl, ap, sym, subst}
use Rattle.std.specs.Prelude.{pos, negsuc, map}
use Rattle.estelle_tree.specs.declared.span.Span.{Span}
use Rattle.estelle_tree.specs.declared.names.Use.{Use}
use Rattle.estelle_tree.specs.declared.tree.name.Name.{Name}
use Rattle.estelle_tree.specs.declared.tree.type_expr.Sign.TheVariants as sign
use Rattle.estelle_tree.specs.declared.tree.type_expr.Const.TheVariants as const
use Rattle.estelle_tree.specs.declared.tree.type_expr.Ordinal.TheVariants as ordinal
use Rattle.estelle_tree.specs.declared.tree.declaration.ConstDef.{ConstDef}
use Rattle.estelle_tree.specs.declared.tree.expression.Expr.{Expr, roll-Expr, out-Expr}
use Rattle.estelle_tree.specs.declared.tree.expression.Simple.{Simple, roll-Simple, out-Simple}
use Rattle.estelle_tree.specs.declared.tree.expression.Term.{Term, roll-Term, out-Term}
use Rattle.estelle_tree.specs.declared.tree.expression.Factor.{Factor, out-Factor, map-Factor, fold_out-Factor}
use Rattle.estelle_tree.specs.declared.tree.expression.Factor.TheVariants as factor_node
use Rattle.estelle_tree.specs.declared.tree.expression.Factor.TheViews.{out-roll-Expr, out-roll-Simple, out-roll-Term}
use Rattle.estelle_tree.specs.declared.tree.expression.Factor.TheOpen.{Factor-F, Expr-F, Simple-F, Term-F}
use Rattle.estelle_tree.specs.declared.tree.expression.Factor.TheFolds.{map-Expr, map-Simple, map-Term, fold_out-Expr, fold_out-Simple, fold_out-Term}
use Rattle.estelle_tree.specs.declared.tree.expression.Selector.{Selector}
use Rattle.estelle_tree.specs.declared.tree.expression.Args.{Args}
use Rattle.estelle_tree.specs.declared.tree.expression.Elem.{Elem}
use Rattle.estelle_tree.specs.declared.tree.expression.Variable.{Variable as VariableNode}
use Rattle.type_rules.specs.declared.types.Host.TheVariants as host
use Rattle.type_rules.specs.declared.types.Base.TheVariants as set_base
use Rattle.type_rules.specs.declared.types.PascalType.{PascalType}
use Rattle.type_rules.specs.declared.types.PascalType.TheVariants as t
use Rattle.type_rules.specs.declared.types.Denoted.{Denoted}
use Rattle.type_rules.specs.declared.sites.Operator.TheVariants.{Arithmetic, Order}
use Rattle.type_rules.specs.declared.sites.Wanted.TheVariants.{AnInteger, ABoolean, Fitting}
use Rattle.type_rules.specs.declared.sites.Members.TheVariants.{NoMember}
use Rattle.type_rules.specs.declared.sites.Site.TheVariants.{Operation, Wants, ConstantAt, LabelAt}
use Rattle.type_rules.specs.Types.{simple, integer, boolean, fits, gives, set_type, record_type, no_fields, is_no_base, array_type, over_index, as_type, ordinal_count, subrange, is_no_subrange}
use Rattle.estelle_tree.specs.Required.{maxint, least_integer}
use Rattle.type_rules.specs.Meanings.{Env, env_of, with_entity, declare_one, declare_all, entity_at, declaration_of, known, required_meaning, const_value}
use Rattle.type_rules.specs.TypeSites.{ordinal_type}
use Rattle.type_rules.specs.ExpressionSites.{Judged, Selection, value, value_at, operated, signed_typed, negated_typed, with_member, set_type_of, factor_layer, selector_layer, args_layer, elem_layer, expr_layer, simple_layer, term_layer, variable_layer, factor, selector, args, elem, expr, simple as simple_node, term, variable}
use Rattle.type_rules.specs.SpecificationSites.{const_def, all_of}
use Rattle.type_rules.specs.PascalRules.{TypesDoNotFit, NoLabel}

abbrev pub at : ℕ → ℕ → Span
at start end = record { start = start; end = end }

-- a name of one letter, where it stands
abbrev name : ℕ → ℕ → Name
name letter n = record { word = letter ∷ []; span = at n (suc n) }

abbrev use_of : ℕ → ℕ → Use
use_of n decl = record { at = at n (suc n); decl = at decl (suc decl) }

-- ---- constants and subranges: const c = -3; d = -c; x = 'A'; y = -x

-- c at 6, its constant at 10; d at 14, where c stands at 19; x at 22, a character; y at 30, where x stands at 35 behind a sign
abbrev definitions : List ConstDef
definitions =
    record { name = name 99 6; value = const.Number (Some sign.Minus) (pos 3) (at 10 12) }
    ∷ record { name = name 100 14; value = const.Name (Some sign.Minus) (name 99 19) (at 18 20) }
    ∷ record { name = name 120 22; value = const.Char 65 (at 26 29) }
    ∷ record { name = name 121 30; value = const.Name (Some sign.Minus) (name 120 35) (at 34 36) }
    ∷ []

abbrev names : List Use
names = use_of 19 6 ∷ use_of 35 22 ∷ use_of 40 6 ∷ use_of 43 14 ∷ []

abbrev after : Env
after = env_of names (all_of (map const_def definitions)).declares

-- d is 3
d_is_three : const_value after (const.Name None (name 100 43) (at 43 44)) ≡ Some (record { host = host.Integer; ordinal = pos 3 })
unfolding with_entity declare_one declare_all entity_at declaration_of known const_value subrange required_meaning
d_is_three = refl

-- a sign before the name of a character leaves no value, and rule 40 is broken at that constant
y_has_no_value : TypesDoNotFit (at 34 36) (ConstantAt (at 34 36) (const_value after (const.Name (Some sign.Minus) (name 120 35) (at 34 36))))
unfolding with_entity declare_one declare_all entity_at declaration_of known const_value subrange required_meaning
y_has_no_value = (refl, refl)

-- c..d is a subrange of integer from -3 to 3
c_to_d : ordinal_type after (ordinal.Subrange (const.Name None (name 99 40) (at 40 41)) (const.Name None (name 100 43) (at 43 44)) (at 40 44)) ≡ simple (Some (t.Subrange host.Integer (at 40 44))) (negsuc 2) (pos 3)
unfolding with_entity declare_one declare_all entity_at declaration_of known const_value subrange required_meaning
c_to_d = refl

-- ---- what fits: subranges of one host; arrays only where they are the same type

subranges_fit : fits (t.Subrange host.Integer (at 1 5)) (t.Subrange host.Integer (at 7 9)) ≡ true
unfolding fits
subranges_fit = refl

arrays_differ : fits (t.Array (at 1 5)) (t.Array (at 7 9)) ≡ false
unfolding fits
arrays_differ = refl

sets_are_not_ordered : gives Order (t.Set (set_base.Ordinal host.Char) (at 1 5)) t.EmptySet ≡ None
unfolding gives
sets_are_not_ordered = refl

abbrev of_integer : Option PascalType
of_integer = Some integer

abbrev of_boolean : Option PascalType
of_boolean = Some boolean

-- ---- a set type is one whatever its base: type r = record .. end, at 1; w: set of r, at 21

abbrev of_records : Denoted
of_records = set_type (at 21 29) (record_type (at 1 20) no_fields)

-- w := 3 and w := [3] break rule 40 at what is assigned, and rule 44 is broken at the base
three_to_records : TypesDoNotFit (at 40 41) (Wants (Fitting (t.Set (set_base.Other (at 1 20)) (at 21 29))) (value_at (at 40 41) of_integer))
unfolding fits
three_to_records = (refl, refl)

set_of_records : of_records.type_ ≡ Some (t.Set (set_base.Other (at 1 20)) (at 21 29))
unfolding set_type record_type
set_of_records = refl

set_of_three : fits (t.Set (set_base.Other (at 1 20)) (at 21 29)) (t.Set (set_base.Ordinal host.Integer) (at 40 43)) ≡ false
unfolding fits
set_of_three = refl

records_no_base : is_no_base (record_type (at 1 20) no_fields) ≡ true
unfolding is_no_base record_type
records_no_base = refl

-- a set whose base has no type is still no integer, and fits every set
three_to_unknown : fits (t.Set set_base.Unknown (at 21 29)) integer ≡ false
unfolding fits
three_to_unknown = refl

set_to_unknown : fits (t.Set set_base.Unknown (at 21 29)) (t.Set (set_base.Ordinal host.Integer) (at 40 43)) ≡ true
unfolding fits
set_to_unknown = refl

-- ---- what is broken has no type, and an operation on what has none is not judged

broken_sum : (operated Arithmetic (value_at (at 1 2) of_integer) (value_at (at 3 4) of_boolean)).type_ ≡ None
unfolding operated gives
broken_sum = refl

broken_sign : (signed_typed (at 0 1) (value_at (at 1 2) of_boolean)).type_ ≡ None
unfolding signed_typed
broken_sign = refl

broken_not : (negated_typed (at 0 4) (value_at (at 3 4) of_integer)).type_ ≡ None
unfolding negated_typed
broken_not = refl

-- [1, true]
broken_set : set_type_of (at 0 9) (with_member (with_member NoMember (value_at (at 1 2) of_integer)) (value_at (at 4 8) of_boolean)) ≡ None
unfolding set_type_of with_member fits
broken_set = refl

not_judged : TypesDoNotFit (at 1 2) (Operation Arithmetic (value_at (at 1 2) None) (value_at (at 3 4) of_boolean)) → ⊥
not_judged h = h.0

-- ---- the labels of a `case` of a set: each is one of another type

label_of_set : NoLabel (at 9 10) (LabelAt (at 9 10) (Some (t.Set (set_base.Ordinal host.Integer) (at 1 5))) (Some (record { host = host.Integer; ordinal = pos 1 })) false)
label_of_set = (inl refl, refl)

-- ---- provided 3

abbrev pub number : ℤ → Span → Expr
number n span = roll-Expr (record {
  left = roll-Simple (record {
    sign = None;
    first = roll-Term (record { first = factor_node.Number n span; others = []; span = span });
    others = [];
    span = span;
  });
  right = None;
  span = span;
})

abbrev expr_step : Env → Expr-F Factor Selector Args Elem Expr Simple Term VariableNode → Judged
expr_step env l = expr_layer (map-Expr Factor Selector Args Elem Expr Simple Term VariableNode Judged Selection (List Judged) (List Judged) Judged Judged Judged Judged (factor env) (selector env) (args env) (elem env) (expr env) (simple_node env) (term env) (variable env) l)

abbrev simple_step : Env → Simple-F Factor Selector Args Elem Expr Simple Term VariableNode → Judged
simple_step env l = simple_layer (map-Simple Factor Selector Args Elem Expr Simple Term VariableNode Judged Selection (List Judged) (List Judged) Judged Judged Judged Judged (factor env) (selector env) (args env) (elem env) (expr env) (simple_node env) (term env) (variable env) l)

abbrev term_step : Env → Term-F Factor Selector Args Elem Expr Simple Term VariableNode → Judged
term_step env l = term_layer (map-Term Factor Selector Args Elem Expr Simple Term VariableNode Judged Selection (List Judged) (List Judged) Judged Judged Judged Judged (factor env) (selector env) (args env) (elem env) (expr env) (simple_node env) (term env) (variable env) l)

abbrev factor_step : Env → Factor-F Factor Selector Args Elem Expr Simple Term VariableNode → Judged
factor_step env l = factor_layer env (map-Factor Factor Selector Args Elem Expr Simple Term VariableNode Judged Selection (List Judged) (List Judged) Judged Judged Judged Judged (factor env) (selector env) (args env) (elem env) (expr env) (simple_node env) (term env) (variable env) l)

expr_is : (env : Env) (x : Expr) → expr env x ≡ expr_step env (out-Expr x)
unfolding factor selector args elem expr simple_node term variable
expr_is env x = fold_out-Expr Judged Selection (List Judged) (List Judged) Judged Judged Judged Judged (factor_layer env) selector_layer args_layer elem_layer expr_layer simple_layer term_layer (variable_layer env) x

simple_is : (env : Env) (x : Simple) → simple_node env x ≡ simple_step env (out-Simple x)
unfolding factor selector args elem expr simple_node term variable
simple_is env x = fold_out-Simple Judged Selection (List Judged) (List Judged) Judged Judged Judged Judged (factor_layer env) selector_layer args_layer elem_layer expr_layer simple_layer term_layer (variable_layer env) x

term_is : (env : Env) (x : Term) → term env x ≡ term_step env (out-Term x)
unfolding factor selector args elem expr simple_node term variable
term_is env x = fold_out-Term Judged Selection (List Judged) (List Judged) Judged Judged Judged Judged (factor_layer env) selector_layer args_layer elem_layer expr_layer simple_layer term_layer (variable_layer env) x

factor_is : (env : Env) (x : Factor) → factor env x ≡ factor_step env (out-Factor x)
unfolding factor selector args elem expr simple_node term variable
factor_is env x = fold_out-Factor Judged Selection (List Judged) (List Judged) Judged Judged Judged Judged (factor_layer env) selector_layer args_layer elem_layer expr_layer simple_layer term_layer (variable_layer env) x

-- a number is an integer, and no rule speaks of what stands in it
pub number_is : (env : Env) (n : ℤ) (span : Span) → expr env (number n span) ≡ value span (Some integer) []
number_is env n span = expr_is env (number n span) ∙ in_expr
  where
    in_factor : factor env (factor_node.Number n span) ≡ value span (Some integer) []
    in_factor = factor_is env (factor_node.Number n span) ∙ ap (factor_step env) (factor_node.outs-Number n span)

    in_term : term env (roll-Term (record { first = factor_node.Number n span; others = []; span = span })) ≡ value span (Some integer) []
    in_term = term_is env (roll-Term (record { first = factor_node.Number n span; others = []; span = span })) ∙ (ap (term_step env) (out-roll-Term (record { first = factor_node.Number n span; others = []; span = span })) ∙ in_factor)

    in_simple : simple_node env (roll-Simple (record { sign = None; first = roll-Term (record { first = factor_node.Number n span; others = []; span = span }); others = []; span = span })) ≡ value span (Some integer) []
    in_simple = simple_is env (roll-Simple (record { sign = None; first = roll-Term (record { first = factor_node.Number n span; others = []; span = span }); others = []; span = span })) ∙ (ap (simple_step env) (out-roll-Simple (record { sign = None; first = roll-Term (record { first = factor_node.Number n span; others = []; span = span }); others = []; span = span })) ∙ in_term)

    in_expr : expr_step env (out-Expr (number n span)) ≡ value span (Some integer) []
    in_expr = ap (expr_step env) (out-roll-Expr (record { left = roll-Simple (record { sign = None; first = roll-Term (record { first = factor_node.Number n span; others = []; span = span }); others = []; span = span }); right = None; span = span })) ∙ in_simple

-- rule 40 is broken at the 3, since a condition is boolean
provided_three : (env : Env) → TypesDoNotFit (at 30 31) (Wants ABoolean (expr env (number (pos 3) (at 30 31))).typed)
provided_three env = subst (λ (j : Judged). TypesDoNotFit (at 30 31) (Wants ABoolean j.typed)) (sym (number_is env (pos 3) (at 30 31))) (refl, refl)

-- `delay(3)` keeps it, since a delay is an integer
delay_three : (env : Env) (place : Span) → TypesDoNotFit place (Wants AnInteger (expr env (number (pos 3) (at 30 31))).typed) → ⊥
delay_three env place h = let no : false ≡ true = (subst (λ (j : Judged). TypesDoNotFit place (Wants AnInteger j.typed)) (number_is env (pos 3) (at 30 31)) h).0 in absurd (cc)

-- ---- the limits of rule 44

abbrev integers : Denoted
integers = simple (Some integer) least_integer maxint

-- the index 1..n
abbrev up_to : ℕ → Denoted
up_to n = simple (Some (t.Subrange host.Integer (at 7 11))) (pos 1) (pos n)

-- array [1..65536] of integer has as many simple parts as are allowed, and array [1..65537] has one more
at_the_limit : (array_type (at 0 30) integers (up_to 65536 ∷ [])).simple_parts ≡ 65536
unfolding over_index as_type ordinal_count
at_the_limit = refl

beyond_the_limit : (array_type (at 0 30) integers (up_to 65537 ∷ [])).simple_parts ≡ 65537
unfolding over_index as_type ordinal_count
beyond_the_limit = refl

-- the count stands still there
far_beyond : (array_type (at 0 30) integers (up_to 65537 ∷ (up_to 9 ∷ []))).simple_parts ≡ 65537
unfolding over_index as_type ordinal_count
far_beyond = refl

-- each index counts as one level
two_deep : (array_type (at 0 30) integers (up_to 2 ∷ (up_to 3 ∷ []))).depth ≡ 2
unfolding over_index as_type ordinal_count
two_deep = refl

-- 3..1 is empty, and 1..1 is not
empty_subrange : is_no_subrange (Some (record { host = host.Integer; ordinal = pos 3 })) (Some (record { host = host.Integer; ordinal = pos 1 })) ≡ true
unfolding is_no_subrange
empty_subrange = refl

one_value : is_no_subrange (Some (record { host = host.Integer; ordinal = pos 1 })) (Some (record { host = host.Integer; ordinal = pos 1 })) ≡ false
unfolding is_no_subrange
one_value = refl
