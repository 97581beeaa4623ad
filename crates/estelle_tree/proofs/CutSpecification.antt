-- Channels, headers, bodies and a specification, cut at any place.
use Rattle.std.proofs.Common.{rules, ◌≡◌, ℕ, zero, suc, Bool, true, false, List, [], ◌∷◌, map, Option, Some, None, inl, inr, ◌⊎◌, sym, refl, ◌∙◌, subst}
use Rattle.std.specs.Prelude.{◌||◌}
use Rattle.estelle_tree.specs.declared.kind.Kind.{Kind}
use Rattle.estelle_tree.specs.declared.kind.Kind.TheVariants as k
use Rattle.estelle_tree.specs.declared.tree.specification.Spec.{Spec}
use Rattle.estelle_tree.specs.declared.tree.specification.SysAttr.{SysAttr}
use Rattle.estelle_tree.specs.declared.tree.specification.SysAttr.TheVariants as sys_attr
use Rattle.estelle_tree.specs.declared.tree.specification.Attr.TheVariants as attr
use Rattle.estelle_tree.specs.declared.tree.specification.Head.{Head}
use Rattle.estelle_tree.specs.declared.tree.specification.Head.TheVariants as head
use Rattle.estelle_tree.specs.declared.tree.specification.Disc.TheVariants as disc
use Rattle.estelle_tree.specs.declared.tree.specification.Parts.{Parts, out-Parts}
use Rattle.estelle_tree.specs.declared.tree.specification.Decl.{out-Decl}
use Rattle.estelle_tree.specs.declared.tree.specification.Decl.TheOpen.{Decl-F}
use Rattle.estelle_tree.specs.declared.tree.specification.Params.{Params}
use Rattle.estelle_tree.specs.declared.tree.specification.Body.{out-Body}
use denote.Enum.Bare.{sameb, same_true, true_same}
use Rattle.estelle_tree.specs.contracts.kind.Kind.{the_type}
use Rattle.estelle_tree.specs.declared.token.Placed.{Placed}
use Rattle.estelle_tree.specs.Clauses.{stands}
use Rattle.estelle_tree.specs.Spells.{Spells, max_nesting}
use Rattle.estelle_tree.specs.BeginsClauses.{BeginsBlock}
use Rattle.estelle_tree.specs.Types.{IsName}
use Rattle.estelle_tree.specs.Input.{Input, input, kind, next, skip}
use Rattle.estelle_tree.specs.Spelling.{Spelling, Optional, MayBeLines, Chain, Behind}
use Rattle.estelle_tree.specs.Specification.{IsSysAttr, IsAttr, IsQueue, IsHead, AreParams, IsParams, MayBeParams, IsInter, AreInters, IsChannel, IsIpDecl, AreModvars, IsStateset, IsHeader, IsInit, IsTrans, BodyOf, DeclLayerOf, DeclOf, PartsOf, PartsBelow, IsParts, of_head, Distinct, AreHeads, IsSpec}
use Rattle.estelle_tree.specs.Beginning.{Beginning, ◌or◌, Then, After, OneToken, May, Lining}
use Rattle.estelle_tree.specs.BeginsSpecification.{BeginsSysAttr, BeginsAttr, BeginsQueue, BeginsHead, BeginNamed, BeginsParams, MayBeginParams, BeginsInter, BeginInters, BeginsChannel, BeginsIpDecl, BeginsStateset, BeginsHeader, BeginsInit, BeginsTrans, BeginBody, BeginDecl, BeginParts, BeginsPartsBelow, BeginsParts, BeginHeads, BeginsSpec, Begins}
use Rattle.estelle_tree.proofs.Cuts.{Reach, Out, Cut, begun, past, one, other, stop, token, after, opens, part, optional, chain, several, behind, separated, joined, lines}
use Rattle.estelle_tree.proofs.CutTypes.{named, name_cut, names_cut, takes_name}
use Rattle.estelle_tree.proofs.CutDeclarations.{const_def_cut, type_def_cut, vars_cut, routine_cut}
use Rattle.estelle_tree.proofs.CutClauses.{block_cut, trans_body_cut}

pub sys_attr_cut : Cut IsSysAttr BeginsSysAttr
sys_attr_cut i j c (sys_attr.Systemprocess span) h r = one _ _ i j c (token i j c h.0 r)
sys_attr_cut i j c (sys_attr.Systemactivity span) h r = other _ _ i j c (token i j c h.0 r)

pub attr_cut : Cut IsAttr BeginsAttr
attr_cut i j c (attr.SysAttr sys) h r = one _ _ i j c (sys_attr_cut i j c sys h r)
attr_cut i j c (attr.Process span) h r = other _ _ i j c (one _ _ i j c (token i j c h.0 r))
attr_cut i j c (attr.Activity span) h r = other _ _ i j c (other _ _ i j c (token i j c h.0 r))

pub queue_cut : Cut IsQueue BeginsQueue
queue_cut i j c (disc.Individual span) h r = one _ _ i j c (after _ i h.mid j c h.item.0 r (λ r. token h.mid j c h.mark r))
queue_cut i j c (disc.Common span) h r = other _ _ i j c (after _ i h.mid j c h.item.0 r (λ r. token h.mid j c h.mark r))

pub head_cut : Cut IsHead BeginsHead
head_cut i j c (head.Default disc span) h r = one _ _ i j c (
    after _ i h.0.at j c h.0.opens r (λ r.
    part _ queue_cut h.0.at h.0.mid j c disc h.0.inside r (λ r.
    token h.0.mid j c h.0.closes r)))
head_cut i j c (head.Timescale unit span) h r = other _ _ i j c (
    after _ i h.0.at j c h.0.opens r (λ r.
    named _ unit h.0.at h.0.mid j c h.0.inside r (λ r.
    token h.0.mid j c h.0.closes r)))

pub param_group_cut : Cut AreParams BeginNamed
param_group_cut i j c g h r = joined k.Colon names_cut name_cut g.names g.type_name i j c h r

pub params_cut : Cut IsParams BeginsParams
params_cut i j c ps h r = separated _ k.Semicolon param_group_cut ps.groups i j j c h.groups r (λ r. stop r)

may_be_params : (N : Beginning) (x : Option Params) (i m j c : Input) → MayBeParams x i m → Reach i c → (Reach m c → Out N m j c) → Out (MayBeginParams N) i j c
may_be_params N None i m j c e r rest = one _ _ i j c (subst (λ i. Out N i j c) (sym e) (rest (subst (λ i. Reach i c) e r)))
may_be_params N (Some ps) i m j c h r rest = other _ _ i j c (
    after _ i h.at j c h.opens r (λ r.
    part _ params_cut h.at h.mid j c ps h.inside r (λ r.
    after _ h.mid m j c h.closes r rest)))

pub inter_cut : Cut IsInter BeginsInter
inter_cut i j c x h r = named _ x.name i h.mid j c h.name r (λ r. may_be_params _ x.params h.mid j j c h.params r (λ r. stop r))

pub inters_cut : Cut AreInters BeginInters
inters_cut i j c g h r =
    part _ names_cut i h.mid j c g.roles h.first r (λ r.
    after _ h.mid h.at j c h.mark r (λ r.
    lines _ inter_cut g.inters h.at j j c h.second r (λ r. stop r)))

pub channel_cut : Cut IsChannel BeginsChannel
channel_cut i j c x h r =
    after _ i h.name.at j c h.name.mark r (λ r.
    named _ x.name h.name.at h.after_name j c h.name.item r (λ r.
    after _ h.after_name h.after_open j c h.opens r (λ r.
    named _ x.first_role h.after_open h.roles.mid j c h.roles.first r (λ r.
    after _ h.roles.mid h.roles.at j c h.roles.mark r (λ r.
    named _ x.second_role h.roles.at h.after_roles j c h.roles.second r (λ r.
    after _ h.after_roles h.after_close j c h.closes r (λ r.
    after _ h.after_close h.after_head j c h.semicolon r (λ r.
    several _ (behind k.By inters_cut) x.groups h.after_head j j c h.groups r (λ r. stop r)))))))))

-- at the end of a form
last_queue : (x : Option _) (i j c : Input) → Optional IsQueue x i j → Reach i c → Out BeginsQueue i j c
last_queue None i j c e r = past (subst (λ i. Reach i c) e r)
last_queue (Some d) i j c h r = queue_cut i j c d h r

pub ip_decl_cut : Cut IsIpDecl BeginsIpDecl
ip_decl_cut i j c p h r =
    part _ names_cut i h.names.mid j c p.names h.names.first r (λ r.
    after _ h.names.mid h.names.at j c h.names.mark r (λ r.
    named _ p.channel h.names.at h.after_channel j c h.names.second r (λ r.
    after _ h.after_channel h.role.at j c h.role.opens r (λ r.
    named _ p.role h.role.at h.role.mid j c h.role.inside r (λ r.
    after _ h.role.mid h.after_role j c h.role.closes r (λ r.
    last_queue p.disc h.after_role j c h.disc r))))))

pub modvars_cut : Cut AreModvars BeginNamed
modvars_cut i j c m h r = joined k.Colon names_cut name_cut m.names m.header i j c h r

pub stateset_cut : Cut IsStateset BeginsStateset
stateset_cut i j c s h r =
    named _ s.name i h.mid j c h.first r (λ r.
    after _ h.mid h.at j c h.mark r (λ r.
    after _ h.at h.second.at j c h.second.opens r (λ r.
    part _ names_cut h.second.at h.second.mid j c s.states h.second.inside r (λ r.
    token h.second.mid j c h.second.closes r))))

may_be_lines : {A : Type 0} {P : Spelling A} {B : Beginning} (N : Beginning) (word : Kind) → Cut P B → (xs : List A) (i m j c : Input) → MayBeLines word P xs i m → Reach i c → (Reach m c → Out N m j c)
    → Out (N or After word (Lining B P N)) i j c
may_be_lines N word cut [] i m j c e r rest = one _ _ i j c (subst (λ i. Out N i j c) (sym e) (rest (subst (λ i. Reach i c) e r)))
may_be_lines N word cut (x ∷ xs) i m j c h r rest = other _ _ i j c (after _ i h.at j c h.mark r (λ r. lines _ cut (x ∷ xs) h.at m j c h.item r rest))

module _ (room : ℕ) where
  pub header_cut : Cut (IsHeader room) (BeginsHeader room)
  header_cut i j c x h r =
      after _ i h.name.at j c h.name.mark r (λ r.
      named _ x.name h.name.at h.after_name j c h.name.item r (λ r.
      optional _ attr_cut x.attr h.after_name h.after_attr j c h.attr r (λ r.
      may_be_params _ x.params h.after_attr h.after_params j c h.params r (λ r.
      after _ h.after_params h.after_head j c h.semicolon r (λ r.
      may_be_lines _ k.Ip ip_decl_cut x.ips h.after_head h.after_ips j c h.ips r (λ r.
      may_be_lines _ k.Export (vars_cut room) x.exports h.after_ips h.after_exports j c h.exports r (λ r.
      after _ h.after_exports h.after_end j c h.ends r (λ r.
      token h.after_end j c h.last r))))))))

  pub init_cut : Cut (IsInit room) (BeginsInit room)
  init_cut i j c x h r = after _ i h.at j c h.word r (λ r. go x.to h.to r)
    where
      go : (to : Option _) → Optional (Behind k.To IsName) to h.at h.mid → Reach h.at c → Out (BeginsBlock room or After k.To (After k.Name (BeginsBlock room))) h.at j c
      go None e r = one _ _ h.at j c (subst (λ i. Out (BeginsBlock room) i j c) (sym e) (block_cut room h.mid j c x.block h.block (subst (λ i. Reach i c) e r)))
      go (Some n) t r = other _ _ h.at j c (after _ h.at t.at j c t.mark r (λ r. named _ n t.at h.mid j c t.item r (λ r. block_cut room h.mid j c x.block h.block r)))

  pub trans_cut : Cut (IsTrans room) (BeginsTrans room)
  trans_cut i j c t h r = after _ i h.body.at j c h.body.mark r (λ r. trans_body_cut room h.body.at j c t.body h.body.item r)

  module _ (P : Spelling Parts) (B : Beginning) (cut : Cut P B) where
    pub body_cut : Cut (BodyOf room P) (BeginBody room P B)
    body_cut i j c b h r =
        opens _ room h.fits i h.after_word j c h.word r (λ r.
        named _ (out-Body b).name h.after_word h.names.mid j c h.names.first r (λ r.
        after _ h.names.mid h.names.at j c h.names.mark r (λ r.
        named _ (out-Body b).header h.names.at h.after_names j c h.names.second r (λ r.
        after _ h.after_names h.after_head j c h.semicolon r (λ r.
        part _ cut h.after_head h.after_parts j c (out-Body b).parts h.parts r (λ r.
        after _ h.after_parts h.after_end j c h.ends r (λ r.
        token h.after_end j c h.last r)))))))

    decl_layer_cut : Cut (DeclLayerOf room P) (BeginDecl room P B)
    decl_layer_cut i j c (Decl-F.Const defs span) h r = one _ _ i j c (
        after _ i h.0.at j c h.0.mark r (λ r. lines _ const_def_cut defs h.0.at j j c h.0.item r (λ r. stop r)))
    decl_layer_cut i j c (Decl-F.Types defs span) h r = other _ _ i j c (one _ _ i j c (
        after _ i h.0.at j c h.0.mark r (λ r. lines _ (type_def_cut room) defs h.0.at j j c h.0.item r (λ r. stop r))))
    decl_layer_cut i j c (Decl-F.Channel channel) h r = other _ _ i j c (other _ _ i j c (one _ _ i j c (channel_cut i j c channel h r)))
    decl_layer_cut i j c (Decl-F.Header header) h r = other _ _ i j c (other _ _ i j c (other _ _ i j c (one _ _ i j c (header_cut i j c header h r))))
    decl_layer_cut i j c (Decl-F.Body body) h r = other _ _ i j c (other _ _ i j c (other _ _ i j c (other _ _ i j c (one _ _ i j c (body_cut i j c body h r)))))
    decl_layer_cut i j c (Decl-F.Ip ips span) h r = other _ _ i j c (other _ _ i j c (other _ _ i j c (other _ _ i j c (other _ _ i j c (one _ _ i j c (
        after _ i h.0.at j c h.0.mark r (λ r. lines _ ip_decl_cut ips h.0.at j j c h.0.item r (λ r. stop r))))))))
    decl_layer_cut i j c (Decl-F.Modvar modvars span) h r = other _ _ i j c (other _ _ i j c (other _ _ i j c (other _ _ i j c (other _ _ i j c (other _ _ i j c (one _ _ i j c (
        after _ i h.0.at j c h.0.mark r (λ r. lines _ modvars_cut modvars h.0.at j j c h.0.item r (λ r. stop r)))))))))
    decl_layer_cut i j c (Decl-F.Var vars span) h r = other _ _ i j c (other _ _ i j c (other _ _ i j c (other _ _ i j c (other _ _ i j c (other _ _ i j c (other _ _ i j c (one _ _ i j c (
        after _ i h.0.at j c h.0.mark r (λ r. lines _ (vars_cut room) vars h.0.at j j c h.0.item r (λ r. stop r))))))))))
    decl_layer_cut i j c (Decl-F.State states span) h r = other _ _ i j c (other _ _ i j c (other _ _ i j c (other _ _ i j c (other _ _ i j c (other _ _ i j c (other _ _ i j c (other _ _ i j c (one _ _ i j c (
        after _ i h.0.at j c h.0.opens r (λ r.
        part _ names_cut h.0.at h.0.mid j c states h.0.inside r (λ r.
        token h.0.mid j c h.0.closes r)))))))))))
    decl_layer_cut i j c (Decl-F.Stateset sets span) h r = other _ _ i j c (other _ _ i j c (other _ _ i j c (other _ _ i j c (other _ _ i j c (other _ _ i j c (other _ _ i j c (other _ _ i j c (other _ _ i j c (one _ _ i j c (
        after _ i h.0.at j c h.0.mark r (λ r. lines _ stateset_cut sets h.0.at j j c h.0.item r (λ r. stop r))))))))))))
    decl_layer_cut i j c (Decl-F.Routine routine) h r = other _ _ i j c (other _ _ i j c (other _ _ i j c (other _ _ i j c (other _ _ i j c (other _ _ i j c (other _ _ i j c (other _ _ i j c (other _ _ i j c (other _ _ i j c (
        routine_cut room i j c routine h r))))))))))

    pub decl_cut : Cut (DeclOf room P) (BeginDecl room P B)
    decl_cut i j c d h r = decl_layer_cut i j c (out-Decl d) h r

    pub parts_of_cut : Cut (PartsOf room P) (BeginParts room P B)
    parts_of_cut i j c ps h r =
        chain _ decl_cut (out-Parts ps).decls i h.after_decls j c h.decls r (λ r.
        optional _ init_cut (out-Parts ps).init h.after_decls h.after_init j c h.init r (λ r.
        chain _ trans_cut (out-Parts ps).trans h.after_init j j c h.trans r (λ r. stop r)))

pub parts_below_cut : (room : ℕ) → Cut (PartsBelow room) (BeginsPartsBelow room)
parts_below_cut zero i j c ps h r = absurd h
parts_below_cut (suc room) i j c ps h r = parts_of_cut room (PartsBelow room) (BeginsPartsBelow room) (parts_below_cut room) i j c ps h r

pub parts_cut : (room : ℕ) → Cut (IsParts room) (BeginsParts room)
parts_cut room = parts_below_cut (suc room)

-- ---- heads, each form at most once

-- no head of this form is among them
abbrev Misses : Kind → List Head → Type 0
Misses x hs = stands x (map of_head hs) ≡ false

or_false : (a b : Bool) → (a || b) ≡ false → (a ≡ false) × (b ≡ false)
or_false true b e = absurd (cc)
or_false false b e = (refl, e)

differs_back : (x y : Kind) → sameb the_type x y ≡ false → sameb the_type y x ≡ false
differs_back x y e = go (sameb the_type y x) refl
  where
    go : (b : Bool) → sameb the_type y x ≡ b → b ≡ false
    go true f = let no : true ≡ false = sym (true_same the_type x y (sym (same_true the_type (search rules) y x f))) ∙ e in absurd (cc)
    go false f = refl

head_kind : (h : Head) (i j : Input) → IsHead h i j → kind i ≡ of_head h
head_kind (head.Default disc span) i j h = h.0.opens.kind
head_kind (head.Timescale unit span) i j h = h.0.opens.kind

-- heads that were passed whole, all of them among hs, and a head that is begun or what comes next
abbrev Found : Beginning → List Head → Input → Input → Input → Type 0
Found N hs i j c =
    ((xs : List Head) × (m : Input) × AreHeads xs i m × ((x : Kind) → Misses x hs → Misses x xs)
    × (((Misses (kind m) xs) × BeginsHead m c × ((x : Kind) → Misses x hs → sameb the_type x (kind m) ≡ false)) ⊎ N m c))
    ⊎ Reach j c

heads_found : (N : Beginning) (hs : List Head) (i m j c : Input) → Chain IsHead hs i m → Distinct (map of_head hs) → Reach i c → (Reach m c → Out N m j c) → Found N hs i j c
unfolding stands
heads_found N [] i m j c same distinct r rest = go (subst (λ i. Out N i j c) (sym same) (rest (subst (λ i. Reach i c) same r)))
  where
    go : Out N i j c → Found N [] i j c
    go (begun n) = inl ([], i, record { heads = refl; once = tt }, λ x miss. refl, inr n)
    go (past r) = inr r
heads_found N (h ∷ hs) i m j c (a, is, more) distinct r rest = go (head_cut i a c h is r) (λ r. heads_found N hs a m j c more distinct.1 r rest)
  where
    at_head : kind i ≡ of_head h
    at_head = head_kind h i a is

    on : Found N hs a j c → Found N (h ∷ hs) i j c
    on (inr r) = inr r
    on (inl (xs, b, are, within, next)) =
        inl (
          h ∷ xs,
          b,
          record { heads = (a, is, are.heads); once = (within (of_head h) distinct.0, are.once) },
          λ x miss. let both = or_false (sameb the_type x (of_head h)) (stands x (map of_head hs)) miss in neither x (of_head h) xs both.0 (within x both.1),
          step next,
        )
      where
        neither : (x y : Kind) (xs : List Head) → sameb the_type x y ≡ false → Misses x xs → (sameb the_type x y || stands x (map of_head xs)) ≡ false
        neither x y xs e miss = rw (e, miss) refl

        step : ((Misses (kind b) xs) × BeginsHead b c × ((x : Kind) → Misses x hs → sameb the_type x (kind b) ≡ false)) ⊎ N b c
            → ((Misses (kind b) (h ∷ xs)) × BeginsHead b c × ((x : Kind) → Misses x (h ∷ hs) → sameb the_type x (kind b) ≡ false)) ⊎ N b c
        step (inr n) = inr n
        step (inl (miss, begins_it, apart)) = inl (
          neither (kind b) (of_head h) xs (differs_back (of_head h) (kind b) (apart (of_head h) distinct.0)) miss,
          begins_it,
          λ x misses. apart x (or_false (sameb the_type x (of_head h)) (stands x (map of_head hs)) misses).1,
        )

    go : Out BeginsHead i a c → (Reach a c → Found N hs a j c) → Found N (h ∷ hs) i j c
    go (begun b) again = inl (
      [],
      i,
      record { heads = refl; once = tt },
      λ x miss. refl,
      inl (refl, b, λ x miss. subst (λ y. sameb the_type x y ≡ false) (sym at_head) (or_false (sameb the_type x (of_head h)) (stands x (map of_head hs)) miss).0),
    )
    go (past r) again = on (again r)

heads_cut : (N : Beginning) (hs : List Head) (i m j c : Input) → AreHeads hs i m → Reach i c → (Reach m c → Out N m j c) → Out (BeginHeads N) i j c
heads_cut N hs i m j c are r rest = go (heads_found N hs i m j c are.heads are.once r rest)
  where
    go : Found N hs i j c → Out (BeginHeads N) i j c
    go (inr r) = past r
    go (inl (xs, a, are, within, inl (miss, begins_it, apart))) = begun (xs, a, are, inr (inl (miss, begins_it)))
    go (inl (xs, a, are, within, inr n)) = begun (xs, a, are, inr (inr n))

-- ---- the whole

pub spec_cut : (room : ℕ) → Cut (IsSpec room) (BeginsSpec room)
spec_cut room i j c s h r =
    after _ i h.name.at j c h.name.mark r (λ r.
    named _ s.name h.name.at h.after_name j c h.name.item r (λ r.
    optional _ sys_attr_cut s.attr h.after_name h.after_attr j c h.attr r (λ r.
    after _ h.after_attr h.after_head j c h.semicolon r (λ r.
    heads_cut _ s.heads h.after_head h.after_heads j c h.heads r (λ r.
    part _ (parts_cut room) h.after_heads h.after_parts j c s.parts h.parts r (λ r.
    after _ h.after_parts h.after_end j c h.ends r (λ r.
    token h.after_end j c h.dot r)))))))

whole_begins : (room : ℕ) (s : Spec) (i j : Input) → IsSpec room s i j → BeginsSpec room i j
whole_begins room s i j h = inr (h.name.at, h.name.mark, inr (h.after_name, takes_name s.name h.name.at h.after_name h.name.item, go s.attr h.attr))
  where
    behind_attr : After k.Semicolon (BeginHeads (Then (BeginsParts room) (IsParts room) (After k.End (OneToken k.Dot)))) h.after_attr j
    behind_attr = inr (h.after_head, h.semicolon, (s.heads, h.after_heads, h.heads, inr (inr (inr (s.parts, h.after_parts, h.parts, inr (h.after_end, h.ends, inr h.dot))))))

    go : (a : Option SysAttr) → Optional IsSysAttr a h.after_name h.after_attr → May BeginsSysAttr IsSysAttr (After k.Semicolon (BeginHeads (Then (BeginsParts room) (IsParts room) (After k.End (OneToken k.Dot))))) h.after_name j
    go None e = inl (subst (λ m. After k.Semicolon (BeginHeads (Then (BeginsParts room) (IsParts room) (After k.End (OneToken k.Dot)))) m j) (sym e) behind_attr)
    go (Some a) is = inr (inr (a, h.after_attr, is, behind_attr))

-- nothing comes after the last token
at_end : (n : ℕ) (end : ℕ) → skip n (input [] end) ≡ input [] end
unfolding next
at_end zero end = refl
at_end (suc n) end = at_end n end

-- Every prefix of a sentence begins one.
pub prefixes : (s : Spec) (tokens : List Placed) (n : ℕ) → Spells s tokens → Begins tokens n
unfolding Begins
prefixes s tokens n h = go (spec_cut max_nesting (input tokens 0) (input [] h.end) (skip n (input tokens 0)) s h.whole (n, refl))
  where
    go : Out (BeginsSpec max_nesting) (input tokens 0) (input [] h.end) (skip n (input tokens 0)) → Begins tokens n
    go (begun b) = b
    go (past (m, e)) = subst (λ c. BeginsSpec max_nesting (input tokens 0) c) (sym (at_end m h.end) ∙ e) (whole_begins max_nesting s (input tokens 0) (input [] h.end) h.whole)
