-- What one site breaks, by tests.
use Rattle.std.specs.Prelude.{ℕ, nat_eq, nat_lt, Bool, true, false, ◌||◌, ◌&&◌, not, List, [], ◌∷◌, Option, Some, None}
use Rattle.std.specs.Prelude.{is_none}
use Rattle.estelle_tree.specs.declared.span.Span.{Span}
use Rattle.scope_rules.specs.declared.refusal.Breach.{Breach}
use Rattle.scope_rules.specs.Least.{breach, only_if, noted}
use Rattle.type_rules.specs.declared.types.PascalType.{PascalType}
use Rattle.type_rules.specs.declared.types.Value.{Value}
use Rattle.type_rules.specs.declared.types.Denoted.{Denoted}
use Rattle.type_rules.specs.declared.sites.Operator.{Operator}
use Rattle.type_rules.specs.declared.sites.Access.{Access}
use Rattle.type_rules.specs.declared.sites.Access.TheVariants.{NoVariable, OwnVariable, OfChild}
use Rattle.type_rules.specs.declared.sites.Site.{Site}
use Rattle.type_rules.specs.declared.sites.Site.TheVariants.{Operation, Wants, ConstantAt, PriorityAt, CallOf, RoutineCalled, VariableNamed, ForVariable, VarFormal, Assigns, CallsProcedure, EstelleStatement, TypeAt, LabelAt, ResultAt, CountedBy}
use Rattle.type_rules.specs.declared.sites.Place.{Place}
use Rattle.type_rules.specs.declared.sites.PlacedSite.{PlacedSite}
use Rattle.type_rules.specs.Types.{gives, fails, same_type, is_of, is_ordinal}
use Rattle.type_rules.specs.Sites.{is_wanted}
use Rattle.type_rules.specs.PascalRules.{in_function, may_assign}

-- both have a type, and the test passes
abbrev pub both_pass : (PascalType → PascalType → Bool) → Option PascalType → Option PascalType → Bool
both_pass test None v = false
both_pass test (Some u) None = false
both_pass test (Some u) (Some v) = test u v

abbrev pub gives_nothing : Operator → Option PascalType → Option PascalType → Bool
gives_nothing o = both_pass (λ u v. is_none (gives o u v))

abbrev pub are_others : Option PascalType → Option PascalType → Bool
are_others = both_pass (λ u v. not (same_type u v))

abbrev pub is_no_actual : Option PascalType → Access → Option PascalType → Bool
is_no_actual u NoVariable v = true
is_no_actual u OfChild v = true
is_no_actual u OwnVariable v = are_others u v

abbrev pub is_no_type : Bool → Denoted → Bool
is_no_type is_at_fault d = is_at_fault || (nat_lt 65536 d.simple_parts || nat_lt 200 d.depth)

abbrev pub is_no_label : Option PascalType → Option Value → Bool → Bool
is_no_label selector None is_repeated = false
is_no_label selector (Some v) is_repeated = fails (is_of v.host) selector || is_repeated

-- what a name names is one of the open routines
abbrev pub is_open : (ℕ → Bool) → Option Span → Bool
is_open opened None = false
is_open opened (Some at) = opened at.start

-- what the site breaks, where these routines are open
abbrev pub breach_at : (ℕ → Bool) → Place → Site → Option Breach
breach_at opened p (Operation o a b) = only_if (gives_nothing o a.type_ b.type_) (breach 40 a.at)
breach_at opened p (Wants w e) = only_if (fails (is_wanted w) e.type_) (breach 40 e.at)
breach_at opened p (ConstantAt at v) = only_if (is_none v) (breach 40 at)
breach_at opened p (PriorityAt at h) = only_if (is_none h) (breach 40 at)
breach_at opened p (CallOf at parameters arguments) = only_if (not (nat_eq parameters arguments)) (breach 41 at)
breach_at opened p (ForVariable u e) = only_if (is_no_actual u e.access e.type_) (breach 42 e.at)
breach_at opened p (VarFormal at) = only_if (in_function p.routine) (breach 43 at)
breach_at opened p (Assigns at declared is_function) = only_if (not (may_assign p.routine declared is_function)) (breach 43 at)
breach_at opened p (CallsProcedure at) = only_if (in_function p.routine) (breach 43 at)
breach_at opened p (EstelleStatement at) = only_if (in_function p.routine) (breach 43 at)
breach_at opened p (TypeAt at is_at_fault d) = only_if (is_no_type is_at_fault d) (breach 44 at)
breach_at opened p (LabelAt at selector v is_repeated) = only_if (is_no_label selector v is_repeated) (breach 45 at)
breach_at opened p (ResultAt at u) = only_if (fails is_ordinal u) (breach 46 at)
breach_at opened p (RoutineCalled at declared body) = only_if (is_open opened declared && not (nat_eq body p.body)) (breach 47 at)
breach_at opened p (CountedBy at u) = only_if (fails is_ordinal u) (breach 48 at)
breach_at opened p (VariableNamed at declared) = None

-- the breach that is reported of these sites and of what was before
abbrev pub first_after : (ℕ → Bool) → Option Breach → List PlacedSite → Option Breach
first_after opened first [] = first
first_after opened first (p ∷ ps) = first_after opened (noted first (breach_at opened p.place p.site)) ps
