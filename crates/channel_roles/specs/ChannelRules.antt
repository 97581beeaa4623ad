-- The rules 20 to 25, on roles, interactions and links (ISO/IEC 9074: channels, connect, attach).
use Rattle.std.specs.Prelude.{ℕ, nat_eq, Bool, true, false, not, ◌||◌, ◌&&◌, List, [], ◌∷◌, ◌++◌, Option, Some, None, is_none}
use Rattle.std.specs.List.{flat_map}
use Rattle.std.specs.Str.{bytes_eq}
use Rattle.estelle_tree.specs.declared.span.Span.{Span}
use Rattle.estelle_tree.specs.declared.names.Names.{Names}
use Rattle.estelle_tree.specs.declared.tree.name.Name.{Name}
use Rattle.estelle_tree.specs.declared.tree.name.NameList.{NameList}
use Rattle.estelle_tree.specs.declared.tree.statement.Ip.{Ip}
use Rattle.estelle_tree.specs.declared.tree.clause.Clause.{Clause}
use Rattle.estelle_tree.specs.declared.tree.clause.Clause.TheVariants as clause
use Rattle.estelle_tree.specs.declared.tree.specification.Spec.{Spec}
use Rattle.estelle_tree.specs.declared.tree.specification.InterGroup.{InterGroup}
use Rattle.estelle_tree.specs.declared.tree.specification.IpDecl.{IpDecl}
use Rattle.scope_rules.specs.declared.refusal.Breach.{Breach}
use Rattle.type_rules.specs.Meanings.{declaration_of}
use Rattle.tree_visits.specs.Visit.{Visited, ChannelDeclared, HeaderDeclared, Ips, ClauseBegins, Connects, Disconnects, Attaches, Detaches, Outputs, Visit}
use Rattle.scope_rules.specs.Least.{breach}
use Rattle.visit_rules.specs.Breaches.{Rules, Broken, where_}
use Rattle.module_table.specs.declared.declared.InteractionPoint.{InteractionPoint}
use Rattle.module_table.specs.declared.declared.Interaction.{Interaction}
use Rattle.module_table.specs.Known.{Known, known, ip_of, interaction_of, may_send, may_receive}

-- both are there, and the test holds of them
abbrev pub both : {A B : Type 0} → (A → B → Bool) → Option A → Option B → Bool
both test None y = false
both test (Some x) None = false
both test (Some x) (Some y) = test x y

abbrev pub holds : {A : Type 0} → (A → Bool) → Option A → Bool
holds test None = false
holds test (Some x) = test x

-- ---- 20: a role at `by` or of an interaction point is not one of the channel's two; at the role

-- a name means a role only where it is one of the channel's two
abbrev pub unknown_role : Known → Name → List Breach
unknown_role k x = where_ (is_none (declaration_of k.names x)) (breach 20 x.span ∷ [])

abbrev pub group_roles : Known → InterGroup → List Breach
group_roles k g = flat_map (unknown_role k) g.roles.names

abbrev pub ip_role : Known → IpDecl → List Breach
ip_role k p = unknown_role k p.role

abbrev pub unknown_roles : Known → Visited → List Breach
unknown_roles k (ChannelDeclared c) = flat_map (group_roles k) c.groups
unknown_roles k (HeaderDeclared h) = flat_map (ip_role k) h.ips
unknown_roles k (Ips ips) = flat_map (ip_role k) ips
unknown_roles k n = []

-- ---- 21: `output` of an interaction that the role of the interaction point may not send; at the interaction point

abbrev pub sends_not : InteractionPoint → Interaction → Bool
sends_not p i = not (may_send p.role i)

abbrev pub sent_by_other : Known → Visited → List Breach
sent_by_other k (Outputs p interaction args span) = where_ (both sends_not (ip_of k p) (interaction_of k interaction)) (breach 21 p.span ∷ [])
sent_by_other k n = []

-- ---- 22: `when` with an interaction that the other role may not send, or with a list of names that are not the declared ones in order; at the interaction point

-- these names are those words, in order
abbrev pub are_words : List Name → List (List ℕ) → Bool
are_words [] [] = true
are_words [] (w ∷ ws) = false
are_words (x ∷ xs) [] = false
are_words (x ∷ xs) (w ∷ ws) = bytes_eq x.word w && are_words xs ws

abbrev pub are_listed : Option NameList → List (List ℕ) → Bool
are_listed None words = true
are_listed (Some names) words = are_words names.names words

abbrev pub receives_not : Option NameList → InteractionPoint → Interaction → Bool
receives_not listed p i = not (may_receive p.role i) || not (are_listed listed i.parameters)

abbrev pub unreceived : Known → Clause → List Breach
unreceived k (clause.When p interaction listed span) = where_ (both (receives_not listed) (ip_of k p) (interaction_of k interaction)) (breach 22 p.span ∷ [])
unreceived k c = []

abbrev pub received_by_other : Known → Visited → List Breach
received_by_other k (ClauseBegins c) = unreceived k c
received_by_other k n = []

-- ---- interaction points in statements: one of the instance itself, or of the child in a module variable

abbrev pub point_name : Name → Option Name → Name
point_name x None = x
point_name x (Some part) = part

abbrev pub point : Known → Ip → Option InteractionPoint
point k p = ip_of k (point_name p.name p.part)

abbrev pub is_own : Ip → Bool
is_own p = is_none p.part

abbrev pub is_external : InteractionPoint → Bool
is_external p = p.external

abbrev pub is_internal : InteractionPoint → Bool
is_internal p = not p.external

-- it is the instance's own, and external
abbrev pub is_own_external : Known → Ip → Bool
is_own_external k p = is_own p && holds is_external (point k p)

-- it is the instance's own, and internal
abbrev pub is_own_internal : Known → Ip → Bool
is_own_internal k p = is_own p && holds is_internal (point k p)

-- ---- 23: `connect` of interaction points of different channels or of the same role; at the first one

abbrev pub joins_not : InteractionPoint → InteractionPoint → Bool
joins_not p q = not (nat_eq p.channel q.channel) || nat_eq p.role q.role

abbrev pub unjoined : Known → Visited → List Breach
unjoined k (Connects first second span) = where_ (both joins_not (point k first) (point k second)) (breach 23 first.span ∷ [])
unjoined k n = []

-- ---- 24: `connect` or `disconnect` of an own external interaction point, or `connect` of two internal ones; at the first one

abbrev pub wrong_ends : Known → Visited → List Breach
wrong_ends k (Connects first second span) = where_ (is_own_external k first || (is_own_external k second || (is_own_internal k first && is_own_internal k second))) (breach 24 first.span ∷ [])
wrong_ends k (Disconnects p span) = where_ (is_own_external k p) (breach 24 p.span ∷ [])
wrong_ends k n = []

-- ---- 25: `attach` or `detach` of an own internal interaction point, or `attach` of different channels or roles; at the own one

abbrev pub attaches_not : InteractionPoint → InteractionPoint → Bool
attaches_not p q = not (nat_eq p.channel q.channel) || not (nat_eq p.role q.role)

abbrev pub wrong_attachments : Known → Visited → List Breach
wrong_attachments k (Attaches own modvar p span) = where_ (holds is_internal (ip_of k own) || both attaches_not (ip_of k own) (ip_of k p)) (breach 25 own.span ∷ [])
wrong_attachments k (Detaches own span) = where_ (holds is_internal (ip_of k own)) (breach 25 own.span ∷ [])
wrong_attachments k n = []

-- ---- the rules of a specification with its names

-- what a visit breaks, by what names mean
abbrev pub breaches : Known → Rules
breaches k v = unknown_roles k v.node ++ (sent_by_other k v.node ++ (received_by_other k v.node ++ (unjoined k v.node ++ (wrong_ends k v.node ++ wrong_attachments k v.node))))

abbrev pub ChannelRuleBroken : Spec → Names → Breach → Type 0
ChannelRuleBroken tree names = Broken (breaches (known tree names)) tree
