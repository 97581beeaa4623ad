-- The laws of groups of clauses, and of what stands behind `trans`: the forms are read by their parsers.
use Rattle.std.proofs.Common.{◌≡◌, ◌<◌, ◌≤◌, ℕ, zero, suc, Bool, true, false, List, [], ◌∷◌, length, Ok, sym, refl, ap, ◌∙◌, subst, inl, inr, arith}
use Rattle.std.specs.Prelude.{◌||◌, ◌&&◌, ◌⊎◌, not, if◌then◌else◌}
use denote.Enum.Bare.{sameb, same_true}
use Rattle.estelle_tree.specs.contracts.kind.Kind.{the_type}
use Rattle.estelle_tree.specs.declared.kind.Kind.{Kind}
use Rattle.estelle_tree.specs.declared.kind.Kind.TheVariants as k
use Rattle.estelle_tree.specs.declared.tree.clause.Block.{Block}
use Rattle.estelle_tree.specs.declared.tree.clause.Clause.{Clause}
use Rattle.estelle_tree.specs.declared.tree.clause.TransBody.{TransBody, out-TransBody, roll-TransBody}
use Rattle.estelle_tree.specs.declared.tree.clause.TransBody.TheOpen.{TransBody-F, Group-F}
use Rattle.estelle_tree.specs.declared.tree.clause.TransBody.TheVariants as a_body
use Rattle.estelle_tree.specs.declared.tree.clause.TransBody.TheVariants.{outs-Block, outs-Groups, rolls-Block, rolls-Groups}
use Rattle.estelle_tree.specs.declared.tree.clause.TransBody.TheViews.{roll-out-TransBody, roll-out-Group, out-roll-Group}
use Rattle.estelle_tree.specs.declared.tree.clause.Group.{Group, out-Group, roll-Group}
use Rattle.estelle_tree.specs.Input.{Input, kind, next, start, left, between}
use Rattle.estelle_tree.specs.Spans.{TransBodyLayer}
use Rattle.estelle_tree.specs.Spelling.{Spelling, Chain, Several}
use Rattle.estelle_tree.specs.Beginning.{Beginning}
use Rattle.estelle_tree.specs.Clauses.{IsClause, of_clause, clause_kinds, stands, way_of, Follows, MoreGroups, AreGroups, TransBodyLayerOf, TransBodyOf, GroupOf, GroupWithin, IsTransBody}
use Rattle.estelle_tree.specs.BeginsClauses.{last_of}
use Rattle.token_reader.specs.Reader.{Parser, and_then, pure, refuse}
use Rattle.token_reader.specs.Lists.{several}
use Rattle.syntax_forms.specs.Kinds.{of_all, never}
use Rattle.syntax_forms.specs.Form as form
use Rattle.syntax_forms.specs.Form.{Form, ◌▸◌, ◌⊕◌, part, known, told, only_if, whole}
use Rattle.syntax_forms.specs.Reading.{one, chosen, choose, closed}
use Rattle.syntax_forms.specs.Places.{Reach}
use Rattle.syntax_forms.proofs.KindLaws.{each, neither, or_left, within, all_of}
use Rattle.syntax_forms.proofs.Local.{upto, reach_left, upto_span}
use Rattle.syntax_forms.proofs.Steps.{Reached}
use Rattle.syntax_forms.proofs.Firsts.{in_a_row, alike_where}
use Rattle.syntax_forms.proofs.RowForms.{then_form}
use Rattle.syntax_forms.proofs.ChoiceForms.{choice_form}
use Rattle.syntax_forms.proofs.SeveralForms.{several_form}
use Rattle.syntax_forms.proofs.NodeForms.{IsNode, node_form, known_lawful, never_lawful, one_lawful, known_form}
use Rattle.syntax_forms.proofs.Lawful.{begins_so, IsForm, IsLawful}
use Rattle.syntax_forms.proofs.ToldForms as tell
use Rattle.syntax_forms.proofs.ToldForms.{IsTold}
use Rattle.syntax_forms.proofs.Rules as rules
use Rattle.syntax_forms.proofs.WholeForms.{whole_lawful, goes_behind}
use Rattle.clause_parser.specs.Block.{begins_block, block}
use Rattle.clause_parser.specs.Clause.{begins_clause, goes_on_clause, clause, clause_by}
use Rattle.clause_parser.specs.Group.{OnWay, with_clause, begins_group, unless, groups_over, block_body, body_if, body_over, group_behind, group_over, group_within}
use Rattle.clause_parser.specs.TransBody.{begins_trans_body, trans_body}
use Rattle.clause_parser.specs.Forms as forms
use Rattle.clause_parser.specs.Forms.{on, make_body, make_group, EndsLayer, EndsBody, EndsGroup, WholeBody, WholeGroup, BeginsWithin}
use Rattle.clause_parser.proofs.ClauseForms.{clause_kind, clause_told, of_clause_begins, clause_lawful}
use Rattle.clause_parser.proofs.BlockForms.{block_lawful}

-- ---- ways

on_behind : (c : Clause) (way : List Kind) → with_clause c (on way) ≡ on (of_clause c ∷ way)
unfolding with_clause stands
on_behind c way = refl

-- the clause of a group
abbrev clause_of : Group → Clause
clause_of g = (out-Group g).clause

pub begun : (way : List Kind) (c : Clause) → stands (of_clause c) way ≡ false → begins_group (on way) (of_clause c) ≡ true
begun way c e = rw (e, of_clause_begins c)

pub on_it : (stand begin : Bool) → (if stand then false else begin) ≡ false → begin ≡ true → stand ≡ true
on_it true begin e begins = refl
on_it false begin e begins = sym e ∙ begins

-- where a group begins, its clause is new to the way, and a clause
pub fresh : (stand begin : Bool) → (if stand then false else begin) ≡ true → (stand ≡ false) × (begin ≡ true)
fresh true begin e = absurd (cc)
fresh false begin e = (refl, e)

nothing_begins : (way : List Kind) → begins_group (on way) k.Nothing ≡ false
nothing_begins way = go (stands k.Nothing way)
  where
    go : (b : Bool) → (if b then false else false) ≡ false
    go true = refl
    go false = refl

-- what does not begin a group on a way does not begin one further down
further : (way : List Kind) (kind' x : Kind) → begins_group (on way) x ≡ false → begins_group (on (kind' ∷ way)) x ≡ false
unfolding stands
further way kind' x e = go (sameb the_type x kind') (stands x way) (begins_clause x) e
  where
    go : (same stand begin : Bool) → (if stand then false else begin) ≡ false → (if same || stand then false else begin) ≡ false
    go true stand begin e = refl
    go false stand begin e = e

or_none : (b : Bool) → b ≡ false → (b || false) ≡ false
or_none true e = e
or_none false e = refl

-- the parser, where the form can stand
abbrev parse_if : {A : Type 0} → Bool → Parser A → Parser A
parse_if true p = p
parse_if false p = refuse

-- ---- how many kinds of clauses do not stand on a way

abbrev one_if_free : Bool → ℕ → ℕ
one_if_free true n = n
one_if_free false n = suc n

abbrev pub free : List Kind → List Kind → ℕ
free [] way = 0
free (x ∷ xs) way = one_if_free (stands x way) (free xs way)

no_more : (xs way : List Kind) (x : Kind) → free xs (x ∷ way) ≤ free xs way
unfolding stands
no_more [] way x = omega arith
no_more (y ∷ xs) way x = go (sameb the_type y x) (stands y way) (no_more xs way x)
  where
    go : (same stand : Bool) → free xs (x ∷ way) ≤ free xs way → one_if_free (same || stand) (free xs (x ∷ way)) ≤ one_if_free stand (free xs way)
    go true true le = le
    go true false le = omega arith
    go false true le = le
    go false false le = omega arith

-- one of the kinds
abbrev among : Kind → List Kind → Bool
among x [] = false
among x (y ∷ ys) = sameb the_type y x || among x ys

pub fewer : (xs way : List Kind) (x : Kind) → among x xs ≡ true → stands x way ≡ false → free xs (x ∷ way) < free xs way
unfolding stands
fewer [] way x e new = absurd (cc)
fewer (y ∷ xs) way x e new = go (sameb the_type y x) refl (stands y way) refl (no_more xs way x) (fewer xs way x) e
  where
    go : (same : Bool) → sameb the_type y x ≡ same → (stand : Bool) → stands y way ≡ stand → free xs (x ∷ way) ≤ free xs way → (among x xs ≡ true → stands x way ≡ false → free xs (x ∷ way) < free xs way)
        → (same || among x xs) ≡ true → one_if_free (same || stand) (free xs (x ∷ way)) < one_if_free stand (free xs way)
    go true s false t le more e = omega arith
    go true s true t le more e = absurd (let no : true ≡ false = sym t ∙ (ap (λ y. stands y way) (same_true the_type tt y x s) ∙ new) in cc)
    go false s true t le more e = more e new
    go false s false t le more e = let less = more e new in omega arith

none_free : (xs way : List Kind) (x : Kind) → free xs way ≤ 0 → among x xs ≡ true → stands x way ≡ true
none_free [] way x none e = absurd (cc)
none_free (y ∷ xs) way x none e = go (sameb the_type y x) refl (stands y way) refl none (none_free xs way x) e
  where
    go : (same : Bool) → sameb the_type y x ≡ same → (stand : Bool) → stands y way ≡ stand → one_if_free stand (free xs way) ≤ 0 → (free xs way ≤ 0 → among x xs ≡ true → stands x way ≡ true)
        → (same || among x xs) ≡ true → stands x way ≡ true
    go same s false t none more e = absurd (omega arith)
    go true s true t none more e = ap (λ y. stands y way) (sym (same_true the_type tt y x s)) ∙ t
    go false s true t none more e = more none e

pub is_clause : (x : Kind) → begins_clause x ≡ true → among x clause_kinds ≡ true
is_clause = within begins_clause (λ x. among x clause_kinds) refl

-- ---- what the terminals that begin blocks, clauses and groups have in common

block_tells : (room : ℕ) (x : Kind) → (forms.block room).first x ≡ begins_block x
block_tells room k.NameWord = refl
block_tells room k.Const = refl
block_tells room k.Type = refl
block_tells room k.Var = refl
block_tells room k.Begin = refl
block_tells room _ = refl

block_or_group : (way : List Kind) (room : ℕ) → of_all (λ x. not ((forms.block room).first x && begins_group (on way) x)) ≡ true
block_or_group way room = all_of _ (λ x. go ((forms.block room).first x) (stands x way) (begins_clause x) (each (λ x. not ((forms.block room).first x && begins_clause x)) refl x))
  where
    go : (b s c : Bool) → not (b && c) ≡ true → not (b && (if s then false else c)) ≡ true
    go false s c e = refl
    go true true c e = refl
    go true false c e = e

clause_ends : (way : List Kind) (room : ℕ) → of_all (λ x. not (goes_on_clause x && ((forms.block room).first x || begins_group (on way) x))) ≡ true
clause_ends way room = all_of _ (λ x. go (goes_on_clause x) ((forms.block room).first x) (stands x way) (begins_clause x) (each (λ x. not (goes_on_clause x && ((forms.block room).first x || begins_clause x))) refl x))
  where
    go : (a b s c : Bool) → not (a && (b || c)) ≡ true → not (a && (b || (if s then false else c))) ≡ true
    go false b s c e = refl
    go true true s c e = e
    go true false true c e = refl
    go true false false c e = e

-- Where this many more levels of nesting may open.
module _ (room : ℕ) where
  -- the groups begin with their clauses, whose kinds do not stand on the way
  abbrev pub Clausal : (List Kind → Spelling Group) → Type 0
  Clausal G = (way : List Kind) (g : Group) (i j : Input) → G way g i j → (kind i ≡ of_clause (clause_of g)) × (stands (of_clause (clause_of g)) way ≡ false)

  -- laws of the groups of a way
  pub record IsLevel (G : List Kind → Spelling Group) (B : List Kind → Beginning) (way : List Kind) (p : Parser Group) : Type 1 where
    pub law : IsLawful (forms.group_below room G B way) p
    -- also where what stands next goes on with it
    pub form : IsForm (known false (G way) (B way) (begins_group (on way)) never)
    pub takes : (i : Input) → begins_group (on way) (kind i) ≡ true → B way i (next i)
    pub longer : (i m : Input) (g : Group) → G way g i m → EndsGroup way g m ⊎ B way i (next m)

  -- ---- whole groups, and groups that follow one another
  module _ (G : List Kind → Spelling Group) (clausal : Clausal G) where
    pub ended_by : (way : List Kind) (before g : Group) (i j : Input) → Follows way before g → G way g i j → EndsGroup way before i
    ended_by way before g i j (inl ended) h = inl ended
    ended_by way before g i j (inr stand) h = let f = clausal way g i j h in inr (rw (f.0, stand))

    follows : (way : List Kind) (before g : Group) (i j : Input) → EndsGroup way before i → G way g i j → Follows way before g
    follows way before g i j (inl ended) h = inl ended
    follows way before g i j (inr none) h =
        let f = clausal way g i j h in
        let here : begins_group (on (way_of way before)) (of_clause (clause_of g)) ≡ false = sym (ap (begins_group (on (way_of way before))) f.0) ∙ none in
        inr (on_it (stands (of_clause (clause_of g)) (way_of way before)) (begins_clause (of_clause (clause_of g))) here (of_clause_begins (clause_of g)))

    to_chain : (way : List Kind) (before : Group) (gs : List Group) (i j : Input) → MoreGroups room G way before gs i j → begins_group (on way) (kind j) ≡ false → EndsGroup way before i × Chain (WholeGroup room G way) gs i j
    to_chain way before [] i j same stop = (subst (λ m. EndsGroup way before m) (sym same) (inr (further way (of_clause (clause_of before)) (kind j) stop)), same)
    to_chain way before (g ∷ gs) i j h stop =
        let r = h.1 in
        let more = to_chain way g gs r.0 j r.2 stop in
        (ended_by way before g i r.0 h.0 r.1, (r.0, (r.1, more.0), more.1))

    to_several : (way : List Kind) (gs : List Group) (i j : Input) → AreGroups room G way gs i j → begins_group (on way) (kind j) ≡ false → Several (WholeGroup room G way) gs i j
    to_several way [] i j h stop = h
    to_several way (g ∷ gs) i j h stop = let more = to_chain way g gs h.0 j h.2 stop in (h.0, (h.1, more.0), more.1)

    pub from_chain : (way : List Kind) (before : Group) (gs : List Group) (i j : Input) → EndsGroup way before i → Chain (WholeGroup room G way) gs i j → MoreGroups room G way before gs i j
    from_chain way before [] i j ended same = same
    from_chain way before (g ∷ gs) i j ended h = (follows way before g i h.0 ended h.1.0, (h.0, h.1.0, from_chain way g gs h.0 j h.1.1 h.2))

    from_several : (way : List Kind) (gs : List Group) (i j : Input) → Several (WholeGroup room G way) gs i j → AreGroups room G way gs i j
    from_several way [] i j h = h
    from_several way (g ∷ gs) i j h = (h.0, h.1.0, from_chain way g gs h.0 j h.1.1 h.2)

    -- groups, whatever follows what, and back
    loose_chain : (way : List Kind) (before : Group) (gs : List Group) (i j : Input) → MoreGroups room G way before gs i j → Chain (G way) gs i j
    loose_chain way before [] i j same = same
    loose_chain way before (g ∷ gs) i j h = let r = h.1 in (r.0, r.1, loose_chain way g gs r.0 j r.2)

    loose : (way : List Kind) (gs : List Group) (i j : Input) → AreGroups room G way gs i j → Several (G way) gs i j
    loose way [] i j h = h
    loose way (g ∷ gs) i j h = (h.0, h.1, loose_chain way g gs h.0 j h.2)

    tight_chain : (way : List Kind) (before : Group) (gs : List Group) (i j a b : Input) → MoreGroups room G way before gs i j → Chain (G way) gs a b → MoreGroups room G way before gs a b
    tight_chain way before [] i j a b h same = same
    tight_chain way before (g ∷ gs) i j a b h c = (h.0, (c.0, c.1, tight_chain way g gs h.1.0 j c.0 b h.1.2 c.2))

    tight : (way : List Kind) (gs : List Group) (i j a b : Input) → AreGroups room G way gs i j → Several (G way) gs a b → AreGroups room G way gs a b
    tight way [] i j a b h c = c
    tight way (g ∷ gs) i j a b h c = (c.0, c.1, tight_chain way g gs h.0 j c.0 b h.2 c.2)

    -- a body, also where what stands next goes on with it
    abbrev open_body : (List Kind → Beginning) → List Kind → Form TransBody
    open_body B way = form.node (TransBodyOf room G way) (forms.block room ⊕ known false (AreGroups room G way) (form.several (forms.group_below room G B way)).begins (begins_group (on way)) never)

    -- ---- over the groups of one way
    module _ (B : List Kind → Beginning) (way : List Kind) (p : Parser Group) (level : IsLevel G B way p) where
      abbrev pub Groups : Form (List Group)
      Groups = form.several (forms.group_below room G B way)

      -- `{Group}+`
      groups_lawful : IsLawful Groups (several (begins_group (on way)) p)
      groups_lawful = one_lawful (rules.several (begins_group (on way)) level.law refl refl (nothing_begins way) (λ x. refl) level.takes).rest

      goes_on : (b : Bool) → (b || false) ≡ true → b ≡ true
      goes_on true e = refl
      goes_on false e = e

      more : (i m : Input) (gs : List Group) → Several (WholeGroup room G way) gs i m → Groups.on (kind m) ≡ true → Groups.begins i (next m)
      more i m [] h e = absurd h
      more i m (g ∷ gs) h e = inr (g, h.0, h.1, (gs, m, h.2, inl (level.takes m (goes_on _ e))))

      whole_groups : IsLawful (whole Groups) (several (begins_group (on way)) p)
      whole_groups = whole_lawful groups_lawful refl (or_none _ (nothing_begins way)) more

      -- what begins the last group begins them all
      pub chain_begins : (m n : Input) (g : Group) (gs : List Group) → ((i : Input) → G way (last_of g gs) i m → (EndsGroup way (last_of g gs) m × B way m n) ⊎ B way i n) → (i a : Input) → G way g i a → MoreGroups room G way g gs a m → Groups.begins i n
      chain_begins m n g [] last i a h same = by (last i (subst (λ a. G way g i a) same h))
        where
          by : (EndsGroup way g m × B way m n) ⊎ B way i n → Groups.begins i n
          by (inr b) = inl b
          by (inl e) = inr (g, m, (subst (λ a. G way g i a) same h, e.0), ([], m, refl, inl e.1))
      chain_begins m n g (x ∷ xs) last i a h r = by (chain_begins m n x xs last a r.1.0 r.1.1 r.1.2)
        where
          ended : EndsGroup way g a
          ended = ended_by way g x a r.1.0 r.0 r.1.1

          by : Groups.begins a n → Groups.begins i n
          by (inl b) = inr (g, a, (h, ended), ([], a, refl, inl b))
          by (inr (y, b, one, (ys, c, rest, end))) = inr (g, a, (h, ended), (y ∷ ys, c, (b, one, rest), end))

      begin_groups : (m n : Input) → ((i : Input) (g : Group) → G way g i m → (EndsGroup way g m × B way m n) ⊎ B way i n) → (gs : List Group) (i : Input) → AreGroups room G way gs i m → Groups.begins i n
      begin_groups m n last [] i h = absurd h
      begin_groups m n last (g ∷ gs) i h = chain_begins m n g gs (λ i. last i (last_of g gs)) i h.0 h.1 h.2

      -- also where what stands next goes on with the last one
      abbrev pub Open : Form (List Group)
      Open = known false (AreGroups room G way) Groups.begins (begins_group (on way)) never

      pub open_form : IsForm Open
      open_form =
          let all = several_form (known false (G way) (B way) (begins_group (on way)) never) level.form refl in
          known_form (AreGroups room G way) Groups.begins (begins_group (on way)) never
          (λ i j gs h. begin_groups j j (λ i g h. inr (level.form.whole i j g h)) gs i h)
          groups_lawful.form.nothing
          (λ i m gs h. begins_so _ all refl i m gs (loose way gs i m h))
          groups_lawful.form.first
          (λ i m gs h. all.reach i m gs (loose way gs i m h))
          (λ i m gs h. all.advances refl i m gs (loose way gs i m h))
          (λ c i m gs h r. tight way gs i m (upto c i) (upto c m) h (all.local c i m gs (loose way gs i m h) r))
          groups_lawful.form.shut

      -- ---- TransBody = Block | {Group}+

      body_is : IsNode (WholeBody room G way) (forms.body_parts room G B way).spells make_body
      body_is = record { opened = λ i m b h. of i m b (out-TransBody b) (roll-out-TransBody b) h.0 h.1; made = made }
        where
          of : (i m : Input) (b : TransBody) (l : TransBodyLayer) → roll-TransBody l ≡ b → TransBodyLayerOf room G way l i m → EndsLayer way l m → (form.built make_body (forms.body_parts room G B way)).spells b i m
          of i m b (TransBody-F.Block x) e h ends = (inl x, h, sym (rolls-Block x) ∙ e)
          of i m b (TransBody-F.Groups gs span) e h (inl closed) = absurd (let wrong : false ≡ true = closed in cc)
          of i m b (TransBody-F.Groups gs span) e h (inr stop) = (inr gs, (to_several way gs i m h.0 stop, or_none _ stop), ap (a_body.Groups gs) (sym h.1) ∙ sym (rolls-Groups gs span) ∙ e)

          layered : {l : TransBodyLayer} (i m : Input) (b : TransBody) → out-TransBody b ≡ l → TransBodyLayerOf room G way l i m → EndsLayer way l m → WholeBody room G way b i m
          layered {l} i m b e h ends = (subst (λ l. TransBodyLayerOf room G way l i m) (sym e) h, subst (λ l. EndsLayer way l m) (sym e) ends)

          made : (i m : Input) (x : Block ⊎ List Group) → (forms.body_parts room G B way).spells x i m → WholeBody room G way (make_body x (between i m)) i m
          made i m (inl x) h = layered i m _ (outs-Block x) h (inl refl)
          made i m (inr gs) h = layered i m _ (outs-Groups gs (between i m)) (from_several way gs i m h.0, refl) (inr (neither _ false h.1).0)

      abbrev body : Parser TransBody
      body = body_over (block room) (begins_group (on way)) p

      body_same : (i : Input) → body i ≡ choose (forms.block room).first (one (block room)) (one (several (begins_group (on way)) p)) TransBody (closed make_body (start i)) i
      unfolding body_over block_body groups_over
      body_same i = ap (λ b. body_if (block room) b (groups_over (begins_group (on way)) p) i) (sym (block_tells room (kind i))) ∙ by ((forms.block room).first (kind i))
        where
          by : (b : Bool) → body_if (block room) b (groups_over (begins_group (on way)) p) i ≡ chosen b (one (block room) TransBody (λ x. closed make_body (start i) (inl x))) (one (several (begins_group (on way)) p) TransBody (λ gs. closed make_body (start i) (inr gs))) i
          by true = refl
          by false = refl

      whole_body_lawful : IsLawful (forms.whole_body room G B way) body
      whole_body_lawful = rules.spanned body body_is refl (rules.or (rules.part (block_lawful room)) (rules.part whole_groups) refl (block_or_group way room)).rest body_same

      body_form : IsForm (open_body B way)
      body_form = node_form between (TransBodyOf room G way) (forms.block room ⊕ Open) make_body told far either
        where
          either : IsForm (forms.block room ⊕ Open)
          either = choice_form (forms.block room) Open (block_lawful room).form open_form

          of : (i m : Input) (b : TransBody) (l : TransBodyLayer) → roll-TransBody l ≡ b → TransBodyLayerOf room G way l i m → (form.built make_body (forms.block room ⊕ Open)).spells b i m
          of i m b (TransBody-F.Block x) e h = (inl x, h, sym (rolls-Block x) ∙ e)
          of i m b (TransBody-F.Groups gs span) e h = (inr gs, h.0, ap (a_body.Groups gs) (sym h.1) ∙ sym (rolls-Groups gs span) ∙ e)

          made : (i m : Input) (x : Block ⊎ List Group) → (forms.block room ⊕ Open).spells x i m → TransBodyOf room G way (make_body x (between i m)) i m
          made i m (inl x) h = subst (λ l. TransBodyLayerOf room G way l i m) (sym (outs-Block x)) h
          made i m (inr gs) h = subst (λ l. TransBodyLayerOf room G way l i m) (sym (outs-Groups gs (between i m))) (h, refl)

          told : IsNode (TransBodyOf room G way) (forms.block room ⊕ Open).spells make_body
          told = record { opened = λ i m b h. of i m b (out-TransBody b) (roll-out-TransBody b) h; made = made }

          far : (c i m : Input) (x : Block ⊎ List Group) → (forms.block room ⊕ Open).spells x i m → Reach m c → make_body x (between (upto c i) (upto c m)) ≡ make_body x (between i m)
          far c i m x h r =
              let less = either.advances refl i m x h in
              let rest = reach_left m c r in
              ap (make_body x) (upto_span c i m (omega arith))

      body_longer : (i m : Input) (b : TransBody) → TransBodyOf room G way b i m → EndsBody way b m ⊎ (forms.body_parts room G B way).begins i (next m)
      body_longer i m b h = of (out-TransBody b) h
        where
          of : (l : TransBodyLayer) → TransBodyLayerOf room G way l i m → EndsLayer way l m ⊎ (forms.body_parts room G B way).begins i (next m)
          of (TransBody-F.Block x) h = inl (inl refl)
          of (TransBody-F.Groups gs span) h = by (begins_group (on way) (kind m)) refl
            where
              last : begins_group (on way) (kind m) ≡ true → (i : Input) (g : Group) → G way g i m → (EndsGroup way g m × B way m (next m)) ⊎ B way i (next m)
              last e i g h = either (level.longer i m g h)
                where
                  either : EndsGroup way g m ⊎ B way i (next m) → (EndsGroup way g m × B way m (next m)) ⊎ B way i (next m)
                  either (inl ends) = inl (ends, level.takes m e)
                  either (inr b) = inr b

              by : (b : Bool) → begins_group (on way) (kind m) ≡ b → EndsLayer way (TransBody-F.Groups gs span) m ⊎ (forms.body_parts room G B way).begins i (next m)
              by false e = inl (inr e)
              by true e = inr (inr (begin_groups m (next m) (last e) gs i h.0))

    -- the parts of a whole group
    record AreParts (way : List Kind) (r : Group-F TransBody Group) (i j : Input) : Type 0 where
      mid : Input
      fresh : stands (of_clause r.clause) way ≡ false
      clause : IsClause room r.clause i mid
      body : WholeBody room G (of_clause r.clause ∷ way) r.body mid j
      span : r.span ≡ between i j

    from_parts : (way : List Kind) (r : Group-F TransBody Group) (i j : Input) → AreParts way r i j → WholeGroup room (GroupOf room G) way (roll-Group r) i j
    from_parts way r i j parts =
        let p = subst (λ r. AreParts way r i j) (sym (out-roll-Group r)) parts in
        (record { mid = p.mid; fresh = p.fresh; clause = p.clause; body = p.body.0; span = p.span }, p.body.1)

    -- ---- a group, over those behind its clause
    module _ (B : List Kind → Beginning) (way : List Kind) (inner : OnWay → Parser Group) (levels : (x : Kind) → begins_group (on way) x ≡ true → IsLevel G B (x ∷ way) (inner (on (x ∷ way)))) where
      -- a clause and what stands behind it, where a clause of this kind comes
      abbrev behind : Kind → Parser (Clause × TransBody)
      behind x = λ i. and_then (clause room i) (λ c a. and_then (body_over (block room) (begins_group (on (x ∷ way))) (inner (on (x ∷ way))) a) (λ b. pure (c, b)))

      abbrev behind_form : Kind → Form (Clause × TransBody)
      behind_form x = forms.clause room ▸ forms.whole_body room G B (x ∷ way)

      abbrev parser_by : Kind → Parser (Clause × TransBody)
      parser_by x = parse_if (begins_group (on way) x) (behind x)

      told_by : (x : Kind) → IsTold x (forms.group_by room G B way x) (parser_by x) (begins_group (on way) x)
      told_by x = by (begins_group (on way) x) refl
        where
          is : IsNode (behind_form x).spells (behind_form x).spells (λ p span. p)
          is = record { opened = λ i m p h. (p, h, refl); made = λ i m p h. h }

          by : (b : Bool) → begins_group (on way) x ≡ b → IsTold x (only_if b (part (behind_form x))) (parse_if b (behind x)) b
          by false e = tell.nowhere x
          by true e =
              let begins = (fresh (stands x way) (begins_clause x) e).1 in record {
                law = rules.made (behind x) is (rules.and (rules.part (clause_lawful room)) (rules.part (whole_body_lawful B (x ∷ way) (inner (on (x ∷ way))) (levels x e))) (clause_ends (x ∷ way) room)).rest (λ i. refl);
                some = refl;
                spelled = λ i m p h. refl;
                quiet = λ no. absurd (cc);
                first = λ yes. or_left ((forms.clause room).first x) _ (within begins_clause (forms.clause room).first refl x begins);
                takes = λ yes i is_one. inl ((clause_told room (kind i)).takes (ap begins_clause is_one ∙ begins) i refl);
              }

      goes : (x : Kind) → of_all (λ y. never y || not ((forms.group_by room G B way x).on y)) ≡ true
      goes x = by (begins_group (on way) x)
        where
          by : (b : Bool) → of_all (λ y. never y || not ((only_if b (part (behind_form x))).on y)) ≡ true
          by true = refl
          by false = refl

      parts_lawful : IsLawful (forms.group_parts room G B way) (λ i. parser_by (kind i) i)
      parts_lawful = tell.told_lawful (forms.group_by room G B way) never parser_by (begins_group (on way)) told_by goes (ap (λ b. (only_if b (part (behind_form k.Nothing))).first k.Nothing) (nothing_begins way))

      group_is : IsNode (WholeGroup room (GroupOf room G) way) (forms.group_parts room G B way).spells make_group
      group_is = record { opened = opened; made = λ i m x h. made i m x (begins_group (on way) (kind i)) refl h }
        where
          opened : (i m : Input) (g : Group) → WholeGroup room (GroupOf room G) way g i m → (form.built make_group (forms.group_parts room G B way)).spells g i m
          opened i m g h =
              let r = h.0 in
              let c = clause_of g in
              let b = (out-Group g).body in
              let e = clause_kind room i r.mid c r.clause in (
                (c, b),
                subst (λ here. (only_if here (part (behind_form (kind i)))).spells (c, b) i m) (sym (ap (begins_group (on way)) e ∙ begun way c r.fresh)) (r.mid, r.clause, subst (λ x. WholeBody room G (x ∷ way) b r.mid m) (sym e) (r.body, h.1)),
                ap (λ span. roll-Group (record { clause = c; body = b; span = span })) (sym r.span) ∙ roll-out-Group g,
              )

          made : (i m : Input) (x : Clause × TransBody) (here : Bool) → begins_group (on way) (kind i) ≡ here → (only_if here (part (behind_form (kind i)))).spells x i m → WholeGroup room (GroupOf room G) way (make_group x (between i m)) i m
          made i m x false e h = absurd h
          made i m (c, b) true e (a, f, g) =
              let same = clause_kind room i a c f in
              from_parts way (record { clause = c; body = b; span = between i m }) i m
              (record { mid = a; fresh = ap (λ x. stands x way) (sym same) ∙ (fresh (stands (kind i) way) (begins_clause (kind i)) e).0; clause = f; body = subst (λ x. WholeBody room G (x ∷ way) b a m) same g; span = refl })

      no_clause_there : (x : Kind) → begins_clause x ≡ false → clause_by room x ≡ refuse
      no_clause_there k.From e = absurd (cc)
      no_clause_there k.To e = absurd (cc)
      no_clause_there k.When e = absurd (cc)
      no_clause_there k.Provided e = absurd (cc)
      no_clause_there k.Priority e = absurd (cc)
      no_clause_there k.Any e = absurd (cc)
      no_clause_there k.Delay e = absurd (cc)
      no_clause_there _ e = refl

      group_same : (i : Input) → group_over (block room) (clause room) (on way) inner i ≡ and_then (parser_by (kind i) i) (closed make_group (start i))
      unfolding group_over group_behind clause
      group_same i = by (stands (kind i) way) (begins_clause (kind i)) refl
        where
          -- the clause that is read tells its kind
          behind_same : (c : Clause) (a : Input) → clause room i ≡ Ok (c, a) → group_behind (block room) (start i) c (begins_group (with_clause c (on way))) (inner (with_clause c (on way))) a
              ≡ and_then (and_then (body_over (block room) (begins_group (on (kind i ∷ way))) (inner (on (kind i ∷ way))) a) (λ b. pure (c, b))) (closed make_group (start i))
          behind_same c a read =
              let same = clause_kind room i a c ((clause_lawful room).sound i a c read) in
              ap (λ way. and_then (body_over (block room) (begins_group way) (inner way) a) (λ b. closed make_group (start i) (c, b))) (on_behind c way ∙ ap (λ x. on (x ∷ way)) (sym same))
              ∙ in_a_row (body_over (block room) (begins_group (on (kind i ∷ way))) (inner (on (kind i ∷ way))) a) (λ b. pure (c, b)) (closed make_group (start i))

          by : (stand begin : Bool) → begins_clause (kind i) ≡ begin → and_then (unless stand i) (λ u a. and_then (clause room a) (λ c. group_behind (block room) (start i) c (begins_group (with_clause c (on way))) (inner (with_clause c (on way)))))
              ≡ and_then (parse_if (if stand then false else begin) (behind (kind i)) i) (closed make_group (start i))
          by true begin e = refl
          by false true e = alike_where (clause room i) _ _ behind_same ∙ in_a_row (clause room i) _ (closed make_group (start i))
          by false false e = ap (λ (q : Parser Clause). and_then (q i) (λ c. group_behind (block room) (start i) c (begins_group (with_clause c (on way))) (inner (with_clause c (on way))))) (no_clause_there (kind i) e)

      group_lawful : IsLawful (form.node (WholeGroup room (GroupOf room G) way) (forms.group_parts room G B way)) (group_over (block room) (clause room) (on way) inner)
      group_lawful = rules.spanned (group_over (block room) (clause room) (on way) inner) group_is refl (rules.part parts_lawful).rest group_same

      -- what begins a group at the kind of its clause
      begins_here : (c : Clause) (i m : Input) → kind i ≡ of_clause c → begins_group (on way) (of_clause c) ≡ true → (behind_form (of_clause c)).begins i m → (forms.group_parts room G B way).begins i m
      begins_here c i m same e b = subst (λ x. (forms.group_by room G B way x).begins i m) (sym same) (subst (λ here. (only_if here (part (behind_form (of_clause c)))).begins i m) (sym e) b)

      level_over : IsLevel (GroupOf room G) (λ way. (forms.group_parts room G B way).begins) way (group_over (block room) (clause room) (on way) inner)
      level_over = record {
        law = known_lawful _ _ group_lawful (begins_group (on way)) never (all_of _ (λ x. begins (begins_group (on way) x) x)) refl;
        form = known_form (GroupOf room G way) (forms.group_parts room G B way).begins (begins_group (on way)) never whole' parts_lawful.form.nothing (λ i m g h. starts i m g h) first reach advances local parts_lawful.form.shut;
        takes = λ i e. (told_by (kind i)).takes e i refl;
        longer = longer;
      }
        where
          begins : (b : Bool) (x : Kind) → (b || not ((only_if b (part (behind_form x))).first x)) ≡ true
          begins true x = refl
          begins false x = refl

          starts : (i m : Input) (g : Group) → GroupOf room G way g i m → begins_group (on way) (kind i) ≡ true
          starts i m g h = ap (begins_group (on way)) (clause_kind room i h.mid (clause_of g) h.clause) ∙ begun way (clause_of g) h.fresh

          first : (i m : Input) → (forms.group_parts room G B way).begins i m → (i ≡ m) ⊎ (begins_group (on way) (kind i) ≡ true)
          first i m b = by (begins_group (on way) (kind i)) b
            where
              by : (here : Bool) → (only_if here (part (behind_form (kind i)))).begins i m → (i ≡ m) ⊎ (here ≡ true)
              by true b = inr refl
              by false e = inl e

          laws : (c : Clause) → stands (of_clause c) way ≡ false → IsForm (forms.clause room ▸ open_body B (of_clause c ∷ way))
          laws c new = then_form (forms.clause room) (open_body B (of_clause c ∷ way)) (clause_lawful room).form (body_form B (of_clause c ∷ way) (inner (on (of_clause c ∷ way))) (levels (of_clause c) (begun way c new)))

          whole' : (i m : Input) (g : Group) → GroupOf room G way g i m → (forms.group_parts room G B way).begins i m
          whole' i m g h = let c = clause_of g in begins_here c i m (clause_kind room i h.mid c h.clause) (begun way c h.fresh) ((laws c h.fresh).whole i m (c, (out-Group g).body) (h.mid, h.clause, h.body))

          reach : (i m : Input) (g : Group) → GroupOf room G way g i m → Reach i m
          reach i m g h = (laws (clause_of g) h.fresh).reach i m (clause_of g, (out-Group g).body) (h.mid, h.clause, h.body)

          advances : (i m : Input) (g : Group) → GroupOf room G way g i m → left m < left i
          advances i m g h = (laws (clause_of g) h.fresh).advances refl i m (clause_of g, (out-Group g).body) (h.mid, h.clause, h.body)

          local : (c i m : Input) (g : Group) → GroupOf room G way g i m → Reach m c → GroupOf room G way g (upto c i) (upto c m)
          local c i m g h r =
              let l = (laws (clause_of g) h.fresh).local c i m (clause_of g, (out-Group g).body) (h.mid, h.clause, h.body) r in
              let less = advances i m g h in
              let rest = reach_left m c r in
              record { mid = l.0; fresh = h.fresh; clause = l.1; body = l.2; span = h.span ∙ sym (upto_span c i m (omega arith)) }

          longer : (i m : Input) (g : Group) → GroupOf room G way g i m → EndsGroup way g m ⊎ (forms.group_parts room G B way).begins i (next m)
          longer i m g h = by (body_longer B (of_clause c ∷ way) (inner (on (of_clause c ∷ way))) (levels (of_clause c) (begun way c h.fresh)) h.mid m (out-Group g).body h.body)
            where
              c : Clause
              c = clause_of g

              by : EndsBody (of_clause c ∷ way) (out-Group g).body m ⊎ (forms.body_parts room G B (of_clause c ∷ way)).begins h.mid (next m) → EndsGroup way g m ⊎ (forms.group_parts room G B way).begins i (next m)
              by (inl ends) = inl ends
              by (inr b) = inr (begins_here c i (next m) (clause_kind room i h.mid c h.clause) (begun way c h.fresh) (inr (c, h.mid, h.clause, b)))

  -- ---- where this many more clauses may stand on a way

  pub within_clausal : (n : ℕ) → Clausal (GroupWithin room n)
  within_clausal zero way g i j h = absurd h
  within_clausal (suc n) way g i j h = (clause_kind room i h.mid (clause_of g) h.clause, h.fresh)

  pub level_within : (n : ℕ) (way : List Kind) → free clause_kinds way ≤ n → IsLevel (GroupWithin room n) (BeginsWithin room n) way (group_within (block room) (clause room) n (on way))
  unfolding group_within
  level_within zero way fits = record {
    law = never_lawful false (WholeGroup room (GroupWithin room zero) way) (begins_group (on way)) never (λ i j g h. h.0);
    form = (never_lawful false (GroupWithin room zero way) (begins_group (on way)) never (λ i j g h. h)).form;
    takes = λ i e. let f = fresh (stands (kind i) way) (begins_clause (kind i)) e in absurd (let no : true ≡ false = sym (none_free clause_kinds way (kind i) fits (is_clause (kind i) f.1)) ∙ f.0 in cc);
    longer = λ i m g h. absurd h;
  }
  level_within (suc n) way fits =
      level_over (GroupWithin room n) (within_clausal n) (BeginsWithin room n) way (group_within (block room) (clause room) n)
      (λ x e. let f = fresh (stands x way) (begins_clause x) e in let less = fewer clause_kinds way x (is_clause x f.1) f.0 in level_within n (x ∷ way) (omega arith))

  -- ---- behind `trans`

  abbrev pub Outer : List Kind → Spelling Group
  Outer = GroupWithin room (length clause_kinds)

  abbrev pub BeginsOuter : List Kind → Beginning
  BeginsOuter = BeginsWithin room (length clause_kinds)

  abbrev pub outer : Parser Group
  outer = group_within (block room) (clause room) (length clause_kinds) (on [])

  pub outer_clausal : Clausal Outer
  outer_clausal = within_clausal (length clause_kinds)

  pub outer_level : IsLevel Outer BeginsOuter [] outer
  unfolding stands
  outer_level = level_within (length clause_kinds) [] (omega arith)

  -- A body is read exactly where nothing that comes next goes on with it: whatever comes behind a block, and behind
  -- groups what is no clause.
  pub whole_trans_body_lawful : IsLawful (forms.whole_body room Outer BeginsOuter []) (trans_body room)
  unfolding trans_body stands
  whole_trans_body_lawful = whole_body_lawful Outer outer_clausal BeginsOuter [] outer outer_level

  -- TransBody = Block | {Group}+
  pub trans_body_lawful : IsLawful (forms.trans_body room) (trans_body room)
  unfolding stands
  trans_body_lawful = record {
    form = known_form (IsTransBody room) (forms.trans_body room).begins begins_trans_body begins_clause open_laws.whole open_laws.nothing (λ i m b h. wider (kind i) (begins_so _ open_laws refl i m b h)) first open_laws.reach (open_laws.advances refl) open_laws.local open_laws.shut;
    placed = whole_trans_body_lawful.placed;
    sound = λ i j b h. (whole_trans_body_lawful.sound i j b h).0;
    complete = λ i j b h end. whole_trans_body_lawful.complete i j b (h, inr end) refl;
    reaches = λ i m b h. reaches i m b h (begins_clause (kind m)) refl;
  }
    where
      open_laws : IsForm (open_body Outer outer_clausal BeginsOuter [])
      open_laws = body_form Outer outer_clausal BeginsOuter [] outer outer_level

      wider : (x : Kind) → ((forms.block room).first x || begins_group (on []) x) ≡ true → begins_trans_body x ≡ true
      wider = within _ begins_trans_body refl

      first : (i m : Input) → (forms.trans_body room).begins i m → (i ≡ m) ⊎ (begins_trans_body (kind i) ≡ true)
      first i m b = by (open_laws.first i m b)
        where
          by : (i ≡ m) ⊎ (((forms.block room).first (kind i) || begins_group (on []) (kind i)) ≡ true) → (i ≡ m) ⊎ (begins_trans_body (kind i) ≡ true)
          by (inl e) = inl e
          by (inr s) = inr (wider (kind i) s)

      reaches : (i m : Input) (b : TransBody) → IsTransBody room b i m → (here : Bool) → begins_clause (kind m) ≡ here → Reached i b m (trans_body room i)
      reaches i m b h false e = inl (whole_trans_body_lawful.complete i m b (h, inr e) refl)
      reaches i m b h true e = by (body_longer Outer outer_clausal BeginsOuter [] outer outer_level i m b h)
        where
          by : EndsBody [] b m ⊎ (forms.trans_body room).begins i (next m) → Reached i b m (trans_body room i)
          by (inl ends) = inl (whole_trans_body_lawful.complete i m b (h, ends) refl)
          by (inr longer) = goes_behind whole_trans_body_lawful i m b (λ n. let no : true ≡ false = sym e ∙ ap begins_clause n in cc) longer
