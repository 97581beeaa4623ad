-- The domains of the names of `any`, by the places of the names.
use Rattle.std.specs.Prelude.{ℕ, List, [], ◌++◌, map, Option, Some, None}
use Rattle.std.specs.List.{flat_map}
use Rattle.place_table.specs.Latest.{latest}
use Rattle.estelle_tree.specs.declared.span.Span.{Span}
use Rattle.estelle_tree.specs.declared.tree.name.Name.{Name}
use Rattle.estelle_tree.specs.declared.tree.clause.AnyDom.{AnyDom}
use Rattle.estelle_tree.specs.declared.tree.clause.Clause.{Clause}
use Rattle.estelle_tree.specs.declared.tree.clause.Clause.TheVariants as clause
use Rattle.estelle_tree.specs.declared.tree.specification.Spec.{Spec}
use Rattle.type_rules.specs.declared.types.Denoted.{Denoted}
use Rattle.type_rules.specs.Meanings.{Env}
use Rattle.type_rules.specs.TypeSites.{ordinal_type}
use Rattle.tree_visits.specs.Visit.{Visited, ClauseBegins, Visit}
use Rattle.tree_visits.specs.Visits.{visits}

abbrev pub Domains : Type 0
Domains = List (ℕ × Denoted)

-- what names mean to the rules on types, and the domains of the names of `any`
pub record Known : Type 0 where
  pub types : Env
  pub domains : Domains

-- ---- what clauses say of names

abbrev pub domain_at : Denoted → Name → ℕ × Denoted
domain_at d x = (x.span.start, d)

abbrev pub any_domains : Env → AnyDom → Domains
any_domains e d = map (domain_at (ordinal_type e d.domain)) d.names.names

abbrev pub clause_domains : Env → Clause → Domains
clause_domains e (clause.Any domains span) = flat_map (any_domains e) domains
clause_domains e c = []

abbrev pub node_domains : Env → Visited → Domains
node_domains e (ClauseBegins c) = clause_domains e c
node_domains e n = []

abbrev pub visit_domains : Env → Visit → Domains
visit_domains e v = node_domains e v.node

-- ---- all together

-- with more domains
abbrev pub put_all : Known → Domains → Known
put_all k ds = record { types = k.types; domains = k.domains ++ ds }

-- what is known of a specification, by what names mean to the rules on types
unfoldable pub known : Env → Spec → Known
known e tree = record { types = e; domains = flat_map (visit_domains e) (visits tree) }

-- the domain of the name of `any` that is declared there
abbrev pub domain_of : Known → Option Span → Option Denoted
domain_of k None = None
domain_of k (Some decl) = latest decl.start k.domains
