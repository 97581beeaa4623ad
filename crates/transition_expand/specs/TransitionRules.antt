-- The rules 30 to 33, on clauses and numbers of transitions (ISO/IEC 9074: transition declaration part).
use Rattle.std.specs.Prelude.{nat_lt, Bool, true, false, not, ◌&&◌, ◌||◌, List, [], ◌∷◌, ◌++◌, length, Option, Some, None, pos, int_lt}
use Rattle.std.specs.List.{flat_map}
use Rattle.estelle_tree.specs.declared.names.Names.{Names}
use Rattle.estelle_tree.specs.declared.tree.type_expr.Sign.{Sign}
use Rattle.estelle_tree.specs.declared.tree.type_expr.Const.{Const}
use Rattle.estelle_tree.specs.declared.tree.type_expr.Const.TheVariants as const
use Rattle.estelle_tree.specs.declared.tree.type_expr.Ordinal.{Ordinal}
use Rattle.estelle_tree.specs.declared.tree.type_expr.Ordinal.TheVariants as ordinal
use Rattle.estelle_tree.specs.declared.tree.clause.AnyDom.{AnyDom}
use Rattle.estelle_tree.specs.declared.tree.clause.Clause.{Clause}
use Rattle.estelle_tree.specs.declared.tree.clause.Clause.TheVariants as clause
use Rattle.estelle_tree.specs.declared.tree.specification.Trans.{Trans}
use Rattle.estelle_tree.specs.declared.tree.specification.Spec.{Spec}
use Rattle.estelle_tree.specs.Spans.{of_const, of_ordinal}
use Rattle.estelle_model.specs.Meant.{Meanings}
use Rattle.estelle_model.specs.Transitions.{Choice}
use Rattle.estelle_model.specs.Subject.{meant_with}
use Rattle.scope_rules.specs.declared.refusal.Breach.{Breach}
use Rattle.type_rules.specs.declared.types.Host.TheVariants as host
use Rattle.type_rules.specs.declared.types.PascalType.{PascalType}
use Rattle.type_rules.specs.declared.types.Value.{Value}
use Rattle.type_rules.specs.declared.types.Denoted.{Denoted}
use Rattle.type_rules.specs.Types.{same_host, fails, is_ordinal, is_integer, is_whole_integer}
use Rattle.type_rules.specs.Meanings.{Env, declaration_of, const_value, signed_number}
use Rattle.type_rules.specs.TypeSites.{ordinal_type}
use Rattle.type_rules.specs.SpecificationSites.{env}
use Rattle.flat_transitions.specs.Flat.{transitions_in}
use Rattle.tree_visits.specs.Visit.{Visited, Begins, ClauseBegins, Around}
use Rattle.scope_rules.specs.Least.{breach}
use Rattle.visit_rules.specs.Breaches.{Rules, Broken, where_}
use Rattle.transition_expand.specs.Domains.{Known, known, domain_of}

-- ---- 30: a flat way has `delay` and `when`; at the later of the two clauses

abbrev pub together : Around → Clause → List Breach
together a (clause.When ip interaction params span) = where_ a.delayed (breach 30 span ∷ [])
together a (clause.Delay low high span) = where_ a.received (breach 30 span ∷ [])
together a c = []

-- ---- 31: a constant of `priority` is negative or no integer; at the constant

-- a constant has no value, or one that is negative or no integer
abbrev pub is_no_number : Option Value → Bool
is_no_number None = true
is_no_number (Some v) = not (same_host v.host host.Integer) || int_lt v.ordinal (pos 0)

-- with this sign before it some value of a domain is negative, of which the least or the greatest is then one
abbrev pub has_negative : Option Sign → Denoted → Bool
has_negative s d = not (int_lt d.greatest d.least) && (int_lt (signed_number s d.least) (pos 0) || int_lt (signed_number s d.greatest) (pos 0))

-- a name of `any` is a constant with each value of its domain; a domain without a type breaks the rule on domains
abbrev pub is_wrong : Option Sign → Option Denoted → Option Value → Bool
is_wrong s None v = is_no_number v
is_wrong s (Some d) v = fails (λ u. is_integer u && not (has_negative s d)) d.type_

abbrev pub is_no_priority : Known → Const → Bool
is_no_priority k (const.Name s x span) = is_wrong s (domain_of k (declaration_of k.types x)) (const_value k.types (const.Name s x span))
is_no_priority k c = is_no_number (const_value k.types c)

abbrev pub wrong_priority : Known → Clause → List Breach
wrong_priority k (clause.Priority c span) = where_ (is_no_priority k c) (breach 31 (of_const c) ∷ [])
wrong_priority k c = []

-- ---- 32: a domain of `any` is integer or no ordinal type, its bounds are not of one ordinal type, or a bound has no value; at the domain

abbrev pub are_no_bounds : Option Value → Option Value → Bool
are_no_bounds None high = true
are_no_bounds (Some low) None = true
are_no_bounds (Some low) (Some high) = not (same_host low.host high.host)

-- there is no type with values to choose from
abbrev pub is_no_choice : Option PascalType → Bool
is_no_choice None = true
is_no_choice (Some u) = not (is_ordinal u && not (is_whole_integer u))

abbrev pub is_no_domain : Env → Ordinal → Bool
is_no_domain e (ordinal.Name x) = is_no_choice (ordinal_type e (ordinal.Name x)).type_
is_no_domain e (ordinal.Enumeration names span) = false
is_no_domain e (ordinal.Subrange low high span) = are_no_bounds (const_value e low) (const_value e high)

abbrev pub wrong_domain : Env → AnyDom → List Breach
wrong_domain e d = where_ (is_no_domain e d.domain) (breach 32 (of_ordinal d.domain) ∷ [])

abbrev pub wrong_domains : Env → Clause → List Breach
wrong_domains e (clause.Any domains span) = flat_map (wrong_domain e) domains
wrong_domains e c = []

-- ---- 33: a body has more than 4,096 flat transitions; at the body

abbrev pub are_too_many : (List Choice → Meanings) → List Trans → Bool
are_too_many means ts = nat_lt 4096 (length (transitions_in means ts))

abbrev pub too_many : (List Choice → Meanings) → Around → Visited → List Breach
too_many means a (Begins routines trans) = where_ (are_too_many means trans) (breach 33 a.span ∷ [])
too_many means a n = []

-- ---- the rules of a specification with its names

-- what a clause breaks
abbrev pub clause_breaches : Known → Around → Clause → List Breach
clause_breaches k a c = together a c ++ (wrong_priority k c ++ wrong_domains k.types c)

abbrev pub node_breaches : Known → Around → Visited → List Breach
node_breaches k a (ClauseBegins c) = clause_breaches k a c
node_breaches k a n = []

-- what a visit breaks, by what names mean to the rules on types, and where the names of `any` have values
abbrev pub breaches : Known → (List Choice → Meanings) → Rules
breaches k means v = too_many means v.around v.node ++ node_breaches k v.around v.node

abbrev pub TransitionRuleBroken : Spec → Names → Breach → Type 0
TransitionRuleBroken tree names = Broken (breaches (known (env tree names) tree) (meant_with (record { specification = tree; names = names.uses }))) tree
